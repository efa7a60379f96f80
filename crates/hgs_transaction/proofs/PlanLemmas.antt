-- The plan of what was gathered is that of the parts.
use Rattle.std.proofs.Common.{◌≡◌, ℕ, ◌+◌, ◌*◌, ◌≤◌, List, [], ◌∷◌, ◌++◌, length, drop, take, map, refl, sym, ◌∙◌, ap, subst, append-nil, arith, length-append}
use Rattle.std.specs.Prelude.{Bool, true, false, ◌&&◌, codes, Result, Ok, Err, IfOk, flat_map}
use Rattle.std.specs.Cmp.Lexicographic.{bytes_decides}
use Rattle.std.specs.List.{All, AllByRecursion, list_all}
use Rattle.std.proofs.lemmas.List.{length-map, take-append-drop}
use Rattle.hgs_files.specs.declared.op.Op.{Op}
use Rattle.hgs_files.specs.declared.op.Op.TheVariants.{Create, Remove, Rename}
use Rattle.hgs_journal.specs.Names.{backups_path, journal_path, new_journal_path}
use Rattle.hgs_journal.specs.Texts.{HasPath, IsBackupLine, backups_text, journal_text}
use Rattle.hgs_journal.specs.Undo.{undo_list}
use Rattle.hgs_journal.specs.declared.backups.BackupLine.{BackupLine}
use Rattle.hgs_journal.specs.declared.journal.JournalLine.{JournalLine}
use Rattle.hgs_ops.specs.Operations.{removals}
use Rattle.hgs_ops.specs.Replaced.{backup_put, new_put}
use Rattle.hgs_transaction.specs.declared.assemble.Plan.{Plan}
use Rattle.hgs_transaction.specs.declared.gathered.Gathered.{Gathered}
use Rattle.hgs_transaction.specs.declared.parts.Change.{Change}
use Rattle.hgs_transaction.specs.declared.parts.Change.TheVariants.{Append, Replace, MakeIndex, RenameIndex}
use Rattle.hgs_transaction.specs.declared.parts.Parts.{Parts}
use Rattle.hgs_transaction.specs.declared.parts.Replacing.{Replacing}
use Rattle.hgs_transaction.specs.Assembled.{IsPlanOf, before_commit, preparing}
use Rattle.hgs_transaction.specs.Gathered.{Adds, Holds, IsEmpty, IsPlanFrom, backup_puts, prepared, put_with}
use Rattle.hgs_transaction.specs.Parts.{IsInStore, all_changes, backup_of, change_op, is_in_store, kept_of, length_before, lines_of, replacement_of, replacings_of}
use Rattle.hgs_transaction.proofs.OwnedLoops.{made, made-length}
use Rattle.hgs_transaction.proofs.GatherLemmas.{adds-both, backups-sound, puts-same}

first : {X : Type 0} (old new more : List X) → old ≡ [] → new ≡ old ++ more → new ≡ more
first old new more none e = e ∙ ap (λ l. l ++ more) none

pub holds : (empty g : Gathered) (changes : List Change) → IsEmpty empty → Adds empty g changes → Holds g changes
holds empty g changes none h = record {
  journal = first empty.journal.items g.journal.items _ none.journal h.journal;
  backups = first empty.backups.items g.backups.items _ none.backups h.backups;
  kept = first empty.kept.items g.kept.items _ none.kept h.kept;
  texts = first empty.texts.items g.texts.items _ none.texts h.texts;
  ops = first empty.ops.items g.ops.items _ none.ops h.ops;
}

-- the three calls that gather the parts
pub holds-parts : (p : Parts) (empty one both all : Gathered) → IsEmpty empty → Adds empty one p.before → Adds one both (p.publishing ∷ []) → Adds both all (map (λ x. Replace x) p.after) → Holds all (all_changes p)
holds-parts p empty one both all none h k m =
    holds empty all (all_changes p) none (adds-both empty one all p.before (p.publishing ∷ map (λ x. Replace x) p.after) h (adds-both one both all (p.publishing ∷ []) (map (λ x. Replace x) p.after) k m))

-- ---- the operations before the changes

prepared-same : (js ls : List JournalLine) (bs cs : List BackupLine) (ks ms : List (List ℕ)) (ts us puts : List Op) → js ≡ ls → bs ≡ cs → ks ≡ ms → ts ≡ us → backup_puts cs ms ≡ puts →
    (backup_puts bs ks ++ ts) ++ Create backups_path (backups_text bs) ∷ Create new_journal_path (journal_text js) ∷ Rename new_journal_path journal_path ∷ []
    ≡ (puts ++ us) ++ Create backups_path (backups_text cs) ∷ Create new_journal_path (journal_text ls) ∷ Rename new_journal_path journal_path ∷ []
prepared-same js ls bs cs ks ms ts us puts ej eb ek et ep =
    ap (λ b. (backup_puts b ks ++ ts) ++ Create backups_path (backups_text b) ∷ Create new_journal_path (journal_text js) ∷ Rename new_journal_path journal_path ∷ []) eb
    ∙ ap (λ k. (backup_puts cs k ++ ts) ++ Create backups_path (backups_text cs) ∷ Create new_journal_path (journal_text js) ∷ Rename new_journal_path journal_path ∷ []) ek
    ∙ ap (λ j. (backup_puts cs ms ++ ts) ++ Create backups_path (backups_text cs) ∷ Create new_journal_path (journal_text j) ∷ Rename new_journal_path journal_path ∷ []) ej
    ∙ ap (λ t. (backup_puts cs ms ++ t) ++ Create backups_path (backups_text cs) ∷ Create new_journal_path (journal_text ls) ∷ Rename new_journal_path journal_path ∷ []) et
    ∙ ap (λ o. (o ++ us) ++ Create backups_path (backups_text cs) ∷ Create new_journal_path (journal_text ls) ∷ Rename new_journal_path journal_path ∷ []) ep

prepared-parts : (p : Parts) (g : Gathered) → Holds g (all_changes p) → prepared g ≡ preparing p
prepared-parts p g h =
    prepared-same g.journal.items (lines_of (all_changes p)) g.backups.items (map backup_of (replacings_of (all_changes p))) g.kept.items (map kept_of (replacings_of (all_changes p)))
    g.texts.items (map (λ x. new_put (replacement_of x)) (replacings_of (all_changes p))) (flat_map (λ x. backup_put (replacement_of x) x.standing) (replacings_of (all_changes p)))
    h.journal h.backups h.kept h.texts (puts-same (replacings_of (all_changes p)))

pub undone-same : (js ls : List JournalLine) (bs cs : List BackupLine) (ks ms : List (List ℕ)) → js ≡ ls → bs ≡ cs → ks ≡ ms → undo_list js bs ks ≡ undo_list ls cs ms
undone-same js ls bs cs ks ms ej eb ek = ap (λ j. undo_list j bs ks) ej ∙ ap (λ b. undo_list ls b ks) eb ∙ ap (λ k. undo_list ls cs k) ek

length-both : (xs : List Op) (changes : List Change) → length xs + length changes ≡ length (xs ++ map change_op changes)
length-both xs changes = sym (length-append xs (map change_op changes) ∙ ap (λ n. length xs + n) (length-map changes change_op))

pub planned : (p : Parts) (g : Gathered) (plan : Plan) → Holds g (all_changes p) → IsPlanFrom g (length p.before) (length_before p.publishing) plan → IsPlanOf p plan
planned p g plan h made =
    let ready = prepared-parts p g h in
    let done : prepared g ++ g.ops.items ≡ before_commit p = ap (λ o. o ++ g.ops.items) ready ∙ ap (λ o. preparing p ++ o) h.ops in
    record {
      ops = made.ops ∙ ap (λ o. o ++ Remove journal_path ∷ removals) done;
      undo = made.undo ∙ undone-same g.journal.items (lines_of (all_changes p)) g.backups.items (map backup_of (replacings_of (all_changes p))) g.kept.items (map kept_of (replacings_of (all_changes p))) h.journal h.backups h.kept;
      journal = made.journal ∙ ap (λ o. length o) ready;
      publish = made.publish ∙ ap (λ o. length o + length p.before) ready ∙ length-both (preparing p) p.before;
      commit = made.commit ∙ ap (λ o. length o) done;
      before = made.before;
    }

-- ---- how many there are

files-most : (changes : List Change) → length (replacings_of changes) ≤ length changes
files-most [] = omega arith
files-most (Append a ∷ changes) = let most = files-most changes in omega arith
files-most (Replace x ∷ changes) = let most = files-most changes in omega arith
files-most (MakeIndex bytes ∷ changes) = let most = files-most changes in omega arith
files-most (RenameIndex before ∷ changes) = let most = files-most changes in omega arith

pub record Fits (p : Parts) (g : Gathered) : Type 0 where
  pub backups : All IsBackupLine g.backups.items
  pub kept : length g.kept.items ≡ length g.backups.items
  pub few : length g.kept.items + length g.texts.items + length g.ops.items ≤ 3 * (length p.before + length p.after + 1)
  pub published : length p.before ≤ length g.ops.items

pub fits : (p : Parts) (g : Gathered) → Holds g (all_changes p) → Fits p g
fits p g h =
    let most = files-most (all_changes p) in
    let all = length-append p.before (p.publishing ∷ map (λ (x : Replacing). Replace x) p.after) in
    let behind = length-map p.after (λ (x : Replacing). Replace x) in
    let kept : length g.kept.items ≡ length (replacings_of (all_changes p)) = ap (λ l. length l) h.kept ∙ length-map (replacings_of (all_changes p)) kept_of in
    let lines : length g.backups.items ≡ length (replacings_of (all_changes p)) = ap (λ l. length l) h.backups ∙ length-map (replacings_of (all_changes p)) backup_of in
    let texts : length g.texts.items ≡ length (replacings_of (all_changes p)) = ap (λ l. length l) h.texts ∙ length-map (replacings_of (all_changes p)) (λ x. new_put (replacement_of x)) in
    let ops : length g.ops.items ≡ length (all_changes p) = ap (λ l. length l) h.ops ∙ length-map (all_changes p) change_op in
    record {
      backups = subst (All IsBackupLine) (sym h.backups) (backups-sound (replacings_of (all_changes p)));
      kept = kept ∙ sym lines;
      few = omega arith;
      published = omega arith;
    }

-- ---- the lengths of what is made

pub grown-by-one : (n : ℕ) (old new all : List Op) (op : Op) → n ≡ length old → new ≡ old ++ op ∷ [] → new ≡ all → n + 1 ≡ length all
grown-by-one n old new all op en e ea =
    let size = length-append old (op ∷ []) in
    let grown = ap (λ o. length o) e in
    let same = ap (λ o. length o) ea in
    omega arith

one-put : (l : BackupLine) (backup bytes : List ℕ) → length (put_with l backup bytes) ≤ 1
one-put l [] bytes = omega arith
one-put l (b ∷ backup) bytes = omega arith

pub puts-most : (lines : List BackupLine) (kept : List (List ℕ)) → length (backup_puts lines kept) ≤ length kept
puts-most [] kept = omega arith
puts-most (l ∷ lines) [] = omega arith
puts-most (l ∷ lines) (bytes ∷ kept) =
    let one = one-put l l.backup bytes in
    let more = puts-most lines kept in
    let both = length-append (put_with l l.backup bytes) (backup_puts lines kept) in
    omega arith

pub ready : (g : Gathered) (o0 o1 o2 o3 o4 o5 : List Op) (slice backup_lines : List BackupLine) (journal_lines : List JournalLine) → o0 ≡ [] → slice ≡ backup_lines → backup_lines ≡ g.backups.items → journal_lines ≡ g.journal.items
    → o1 ≡ o0 ++ backup_puts slice g.kept.items → o2 ≡ o1 ++ g.texts.items → o3 ≡ o2 ++ Create backups_path (backups_text backup_lines) ∷ [] → o4 ≡ o3 ++ Create new_journal_path (journal_text journal_lines) ∷ [] → o5 ≡ o4 ++ Rename new_journal_path journal_path ∷ [] → o5 ≡ prepared g
ready g o0 o1 o2 o3 o4 o5 slice backup_lines journal_lines e0 es eb ej e1 e2 e3 e4 e5 =
    made o0 o1 o2 o3 o4 o5 (backup_puts g.backups.items g.kept.items) g.texts.items (Create backups_path (backups_text g.backups.items)) (Create new_journal_path (journal_text g.journal.items)) (Rename new_journal_path journal_path)
    e0 (e1 ∙ ap (λ ls. o0 ++ backup_puts ls g.kept.items) (es ∙ eb)) e2
    (e3 ∙ ap (λ ls. o2 ++ Create backups_path (backups_text ls) ∷ []) eb)
    (e4 ∙ ap (λ ls. o3 ++ Create new_journal_path (journal_text ls) ∷ []) ej)
    e5

pub ready-most : (g : Gathered) (o : List Op) → o ≡ prepared g → length o ≤ length g.kept.items + length g.texts.items + 3
ready-most g o e =
    let size = made-length o (backup_puts g.backups.items g.kept.items) g.texts.items (Create backups_path (backups_text g.backups.items)) (Create new_journal_path (journal_text g.journal.items)) (Rename new_journal_path journal_path) e in
    let most = puts-most g.backups.items g.kept.items in
    omega arith

pub if-ok : {A E : Type 0} (P Q : A → Type 0) (r : Result A E) → IfOk r P → ((x : A) → P x → Q x) → IfOk r Q
if-ok P Q (Ok x) h f = f x h
if-ok P Q (Err e) h f = tt

-- ---- files that are replaced have no line in the journal

lines-none : (xs : List Replacing) → lines_of (map (λ x. Replace x) xs) ≡ []
lines-none [] = refl
lines-none (x ∷ xs) = lines-none xs

pub no-lines : (old new : Gathered) (xs : List Replacing) → Adds old new (map (λ x. Replace x) xs) → All HasPath old.journal.items → All HasPath new.journal.items
no-lines old new xs h paths = subst (All HasPath) (sym (h.journal ∙ ap (λ l. old.journal.items ++ l) (lines-none xs) ∙ append-nil old.journal.items)) paths

-- ---- files in the store

pub in-store : (change : Change) → is_in_store change ≡ true → IsInStore change
in-store (Append a) e = ap (λ front. front ++ drop 6 a.path) ((bytes_decides (codes "store/") (take 6 a.path)).0 e) ∙ take-append-drop 6 a.path
in-store (Replace x) e = tt
in-store (MakeIndex bytes) e = tt
in-store (RenameIndex before) e = tt

both-true : (a b : Bool) → (a && b) ≡ true → (a ≡ true) × (b ≡ true)
both-true true b e = (refl, e)
both-true false b e = absurd (no_case e)
  where
    no_case : false ≡ true → ⊥
    no_case h = cc

pub all-in-store : (changes : List Change) → list_all is_in_store changes ≡ true → AllByRecursion IsInStore changes
all-in-store [] e = tt
all-in-store (change ∷ changes) e = let both = both-true (is_in_store change) (list_all is_in_store changes) e in (in-store change both.0, all-in-store changes both.1)
