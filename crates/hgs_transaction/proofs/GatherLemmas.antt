-- Changes that are gathered one after another.
use Rattle.std.proofs.Common.{◌≡◌, ℕ, List, [], ◌∷◌, ◌++◌, map, refl, sym, ◌∙◌, ap, subst, append_assoc, append-nil}
use Rattle.std.specs.Prelude.{Option, Some, None, flat_map, true}
use Rattle.std.specs.List.{All, AllByRecursion, filter_map}
use Rattle.std.proofs.lemmas.List.{map-append}
use Rattle.std.proofs.lemmas.List.Elements.{All-append, All-from_recursion, filter_map-append}
use Rattle.hgs_files.specs.Path.{is_store_path}
use Rattle.hgs_journal.specs.declared.journal.JournalLine.{JournalLine}
use Rattle.hgs_journal.specs.Names.{backup_name, new_name, place}
use Rattle.hgs_journal.specs.Texts.{HasPath, IsBackupLine}
use Rattle.hgs_ops.specs.Replaced.{backup_put, new_put}
use Rattle.hgs_transaction.specs.declared.gathered.Gathered.{Gathered}
use Rattle.hgs_transaction.specs.declared.parts.Change.{Change}
use Rattle.hgs_transaction.specs.declared.parts.ReplacedFile.{ReplacedFile}
use Rattle.hgs_transaction.specs.declared.parts.ReplacedFile.TheVariants.{PhaseRoots, Dirstate, Bookmarks}
use Rattle.hgs_transaction.specs.declared.parts.Replacing.{Replacing}
use Rattle.hgs_transaction.specs.Gathered.{Adds, backup_puts, put_with}
use Rattle.hgs_transaction.specs.Parts.{backup_of, change_op, file_name, is_plain, kept_of, line_of, replacement_of, replacing_of, replacings_of}

-- ---- paths

pub plain-path : (file : ReplacedFile) → is_store_path (place (is_plain file) (file_name file)) ≡ true
plain-path PhaseRoots = refl
plain-path Dirstate = refl
plain-path Bookmarks = refl

pub new-path : (file : ReplacedFile) → is_store_path (place (is_plain file) (new_name (file_name file))) ≡ true
new-path PhaseRoots = refl
new-path Dirstate = refl
new-path Bookmarks = refl

backup-path : (file : ReplacedFile) → is_store_path (place (is_plain file) (backup_name (file_name file))) ≡ true
backup-path PhaseRoots = refl
backup-path Dirstate = refl
backup-path Bookmarks = refl

sound-with : (file : ReplacedFile) (text : List ℕ) (standing : Option (List ℕ)) → IsBackupLine (backup_of (record { file = file; text = text; standing = standing }))
sound-with file text None = record { file = plain-path file; new = new-path file; backup = refl }
sound-with file text (Some bytes) = record { file = plain-path file; new = new-path file; backup = backup-path file }

pub backup-sound : (x : Replacing) → IsBackupLine (backup_of x)
backup-sound x = sound-with x.file x.text x.standing

all-sound : (xs : List Replacing) → AllByRecursion IsBackupLine (map backup_of xs)
all-sound [] = tt
all-sound (x ∷ xs) = (backup-sound x, all-sound xs)

pub backups-sound : (xs : List Replacing) → All IsBackupLine (map backup_of xs)
backups-sound xs = All-from_recursion IsBackupLine (map backup_of xs) (all-sound xs)

-- ---- one after another

two : {X : Type 0} (old mid new a b whole : List X) → mid ≡ old ++ a → new ≡ mid ++ b → whole ≡ a ++ b → new ≡ old ++ whole
two old mid new a b whole m n w = n ∙ ap (λ l. l ++ b) m ∙ append_assoc old a b ∙ ap (λ l. old ++ l) (sym w)

files-of-both : {X : Type 0} (f : Replacing → X) (xs ys : List Change) → map f (replacings_of (xs ++ ys)) ≡ map f (replacings_of xs) ++ map f (replacings_of ys)
files-of-both f xs ys = ap (map f) (filter_map-append replacing_of xs ys) ∙ map-append f (replacings_of xs) (replacings_of ys)

pub adds_none : (g : Gathered) → Adds g g []
adds_none g = record {
  journal = sym (append-nil g.journal.items);
  backups = sym (append-nil g.backups.items);
  kept = sym (append-nil g.kept.items);
  texts = sym (append-nil g.texts.items);
  ops = sym (append-nil g.ops.items);
}

pub adds-both : (old mid new : Gathered) (xs ys : List Change) → Adds old mid xs → Adds mid new ys → Adds old new (xs ++ ys)
adds-both old mid new xs ys h k = record {
  journal = two old.journal.items mid.journal.items new.journal.items (filter_map line_of xs) (filter_map line_of ys) _ h.journal k.journal (filter_map-append line_of xs ys);
  backups = two old.backups.items mid.backups.items new.backups.items (map backup_of (replacings_of xs)) (map backup_of (replacings_of ys)) _ h.backups k.backups (files-of-both backup_of xs ys);
  kept = two old.kept.items mid.kept.items new.kept.items (map kept_of (replacings_of xs)) (map kept_of (replacings_of ys)) _ h.kept k.kept (files-of-both kept_of xs ys);
  texts = two old.texts.items mid.texts.items new.texts.items (map (λ x. new_put (replacement_of x)) (replacings_of xs)) (map (λ x. new_put (replacement_of x)) (replacings_of ys)) _ h.texts k.texts (files-of-both (λ x. new_put (replacement_of x)) xs ys);
  ops = two old.ops.items mid.ops.items new.ops.items (map change_op xs) (map change_op ys) _ h.ops k.ops (map-append change_op xs ys);
}

-- a line more that has its path
pub one-path : (lines new : List JournalLine) (l : JournalLine) → All HasPath lines → HasPath l → new ≡ lines ++ l ∷ [] → All HasPath new
one-path lines new l h p e = subst (All HasPath) (sym e) (All-append HasPath lines (l ∷ []) h (All-from_recursion HasPath (l ∷ []) (p, tt)))

-- ---- the backups

put-same : (file : ReplacedFile) (text : List ℕ) (standing : Option (List ℕ)) →
    let x : Replacing = record { file = file; text = text; standing = standing } in put_with (backup_of x) (backup_of x).backup (kept_of x) ≡ backup_put (replacement_of x) standing
put-same file text None = refl
put-same file text (Some bytes) = refl

pub puts-same : (xs : List Replacing) → backup_puts (map backup_of xs) (map kept_of xs) ≡ flat_map (λ x. backup_put (replacement_of x) x.standing) xs
puts-same [] = refl
puts-same (x ∷ xs) = ap (λ ops. ops ++ backup_puts (map backup_of xs) (map kept_of xs)) (put-same x.file x.text x.standing) ∙ ap (λ ops. backup_put (replacement_of x) x.standing ++ ops) (puts-same xs)
