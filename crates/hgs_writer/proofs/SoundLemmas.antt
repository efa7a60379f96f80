-- The parts of a commit are sound.
use Rattle.std.proofs.Common.{◌≡◌, ◌<◌, ◌*◌, ℕ, List, [], ◌∷◌, ◌++◌, Bool, true, false, ◌||◌, not, ◌&&◌, length, map, flat_map, codes, IfSome, Option, Some, None, refl, sym, ◌∙◌, ap, subst, append_assoc, arith}
use Rattle.std.specs.List.{list_all, list_any}
use Rattle.std.proofs.lemmas.List.Folds.{list_any-append}
use Rattle.std.proofs.lemmas.List.Elements.{filter_map-append}
use Rattle.std.proofs.lemmas.List.{map-append}
use Rattle.hgs_bytes.specs.Bytes.{begins_with, same}
use Rattle.hgs_files.specs.declared.op.Op.{Op}
use Rattle.hgs_files.specs.declared.op.Op.TheVariants as ops
use Rattle.hgs_files.specs.Tree.{Tree, bytes_at, same_path, touches}
use Rattle.hgs_journal.specs.Names.{backups_path, journal_path, new_journal_path}
use Rattle.hgs_journal.specs.Texts.{backups_text, journal_text}
use Rattle.hgs_machine.specs.Sound.{AreMadeFirst, AreOnce, AreSound, IsPublished}
use Rattle.hgs_ops.specs.Replaced.{backup_put, new_put, new_rename}
use Rattle.hgs_load.specs.View.{changelog_index}
use Rattle.hgs_revlog.specs.Log.{Log}
use Rattle.hgs_transaction.specs.Assembled.{before_publishing, preparing, texts_put}
use Rattle.hgs_transaction.specs.declared.parts.Change.{Change}
use Rattle.hgs_transaction.specs.declared.parts.Change.TheVariants.{Append, MakeIndex, RenameIndex, Replace}
use Rattle.hgs_transaction.specs.declared.parts.Parts.{Parts}
use Rattle.hgs_transaction.specs.declared.parts.ReplacedFile.{ReplacedFile}
use Rattle.hgs_transaction.specs.declared.parts.ReplacedFile.TheVariants.{PhaseRoots, Dirstate, Bookmarks}
use Rattle.hgs_transaction.specs.declared.parts.Replacing.{Replacing}
use Rattle.hgs_transaction.specs.Parts.{all_changes, backup_of, change_op, file_name, is_plain, lines_of, replacement_of, replacing_of, replacings_of}
use Rattle.hgs_commit.specs.Appended.{is_beside, is_beside_path}
use Rattle.hgs_commit.specs.OfCommit.{ArePartsOfCommit, AreReplacedAfter, IsEntryBehind, optional_replace}

-- ---- no operation before the publishing one names the changelog's index

abbrev touch : Op → Bool
touch op = touches op changelog_index

new_free : (f : ReplacedFile) (text : List ℕ) → touch (new_put (record { plain = is_plain f; file = file_name f; text = text })) ≡ false
new_free PhaseRoots text = refl
new_free Dirstate text = refl
new_free Bookmarks text = refl

rename_free : (f : ReplacedFile) (text : List ℕ) → touch (new_rename (record { plain = is_plain f; file = file_name f; text = text })) ≡ false
rename_free PhaseRoots text = refl
rename_free Dirstate text = refl
rename_free Bookmarks text = refl

backup_free : (f : ReplacedFile) (text : List ℕ) (standing : Option (List ℕ)) → list_any touch (backup_put (record { plain = is_plain f; file = file_name f; text = text }) standing) ≡ false
backup_free f text None = refl
backup_free PhaseRoots text (Some bytes) = refl
backup_free Dirstate text (Some bytes) = refl
backup_free Bookmarks text (Some bytes) = refl

or_false : (a b : Bool) → a ≡ false → b ≡ false → a || b ≡ false
or_false a b h k = ap (λ q. q || b) h ∙ k

joined : (xs ys : List Op) → list_any touch xs ≡ false → list_any touch ys ≡ false → list_any touch (xs ++ ys) ≡ false
joined xs ys h k = list_any-append touch xs ys ∙ or_false (list_any touch xs) (list_any touch ys) h k

backups_free : (files : List Replacing) → list_any touch (flat_map (λ x. backup_put (replacement_of x) x.standing) files) ≡ false
backups_free [] = refl
backups_free (x ∷ files) =
    joined (backup_put (replacement_of x) x.standing) (flat_map (λ y. backup_put (replacement_of y) y.standing) files) (backup_free x.file x.text x.standing) (backups_free files)

news_free : (files : List Replacing) → list_any touch (map (λ x. new_put (replacement_of x)) files) ≡ false
news_free [] = refl
news_free (x ∷ files) = or_false (touch (new_put (replacement_of x))) (list_any touch (map (λ y. new_put (replacement_of y)) files)) (new_free x.file x.text) (news_free files)

preparing_free : (p : Parts) → list_any touch (preparing p) ≡ false
preparing_free p =
    let files = replacings_of (all_changes p) in
    let rest : List Op = ops.Create backups_path (backups_text (map backup_of files)) ∷ ops.Create new_journal_path (journal_text (lines_of (all_changes p))) ∷ ops.Rename new_journal_path journal_path ∷ [] in
    joined (texts_put files) rest (joined (flat_map (λ x. backup_put (replacement_of x) x.standing) files) (map (λ x. new_put (replacement_of x)) files) (backups_free files) (news_free files)) refl

is_false : (a : Bool) → not a ≡ true → a ≡ false
is_false true e = cc
is_false false e = refl

both : (a b : Bool) → a && b ≡ true → (a ≡ true) × (b ≡ true)
both true b e = (refl, e)
both false b e = cc

appends_free : (changes : List Change) → list_all is_beside changes ≡ true → list_any touch (map change_op changes) ≡ false
appends_free [] h = refl
appends_free (Append a ∷ changes) h =
    let b = both (is_beside_path a.path) (list_all is_beside changes) h in
    let path = (both (begins_with a.path (codes "store/")) (not (same_path a.path changelog_index)) b.0).1 in
    or_false (same_path a.path changelog_index) (list_any touch (map change_op changes)) (is_false (same_path a.path changelog_index) path) (appends_free changes b.1)
appends_free (Replace x ∷ changes) h = cc
appends_free (MakeIndex bytes ∷ changes) h = cc
appends_free (RenameIndex before ∷ changes) h = cc

roots_free : (roots : Option Replacing) → list_any touch (map change_op (optional_replace roots)) ≡ false
roots_free None = refl
roots_free (Some x) = or_false (touch (new_rename (replacement_of x))) false (rename_free x.file x.text) refl

before_free : (log : Log) (p : Parts) → ArePartsOfCommit log p → list_any touch (before_publishing p) ≡ false
before_free log p are =
    let split : map change_op p.before ≡ map change_op are.appends ++ map change_op (optional_replace are.roots) = ap (map change_op) are.before ∙ map-append change_op are.appends (optional_replace are.roots) in
    joined (preparing p) (map change_op p.before) (preparing_free p)
    (ap (list_any touch) split ∙ joined (map change_op are.appends) (map change_op (optional_replace are.roots)) (appends_free are.appends are.beside) (roots_free are.roots))

-- ---- no file is replaced twice

none_replaced : (changes : List Change) → list_all is_beside changes ≡ true → replacings_of changes ≡ []
none_replaced [] h = refl
none_replaced (Append a ∷ changes) h = none_replaced changes (both (is_beside_path a.path) (list_all is_beside changes) h).1
none_replaced (Replace x ∷ changes) h = cc
none_replaced (MakeIndex bytes ∷ changes) h = cc
none_replaced (RenameIndex before ∷ changes) h = cc

all_replaced : (files : List Replacing) → replacings_of (map (λ x. Replace x) files) ≡ files
all_replaced [] = refl
all_replaced (x ∷ files) = ap (λ q. x ∷ q) (all_replaced files)

roots_of : Option Replacing → List Replacing
roots_of None = []
roots_of (Some x) = x ∷ []

abbrev AreRoots : Option Replacing → Type 0
AreRoots roots = IfSome roots (λ x. x.file ≡ PhaseRoots)

differ : (f g : ReplacedFile) (x y : Replacing) → x.file ≡ f → y.file ≡ g → same (file_name f) (file_name g) ≡ false → same (file_name x.file) (file_name y.file) ≡ false
differ f g x y a b h = ap (λ q. same (file_name q) (file_name y.file)) a ∙ ap (λ q. same (file_name f) (file_name q)) b ∙ h

after_once : (after : List Replacing) → AreReplacedAfter after → AreOnce after
after_once [] h = absurd h
after_once (d ∷ []) h = (refl, tt)
after_once (d ∷ b ∷ []) h = (or_false (same (file_name d.file) (file_name b.file)) false (differ Dirstate Bookmarks d b h.0 h.1 refl) refl, (refl, tt))
after_once (d ∷ b ∷ x ∷ files) h = absurd h

roots_apart : (x : Replacing) (after : List Replacing) → x.file ≡ PhaseRoots → AreReplacedAfter after → list_any (λ y. same (file_name x.file) (file_name y.file)) after ≡ false
roots_apart x [] h a = absurd a
roots_apart x (d ∷ []) h a = or_false (same (file_name x.file) (file_name d.file)) false (differ PhaseRoots Dirstate x d h a refl) refl
roots_apart x (d ∷ b ∷ []) h a =
    or_false (same (file_name x.file) (file_name d.file)) (same (file_name x.file) (file_name b.file) || false) (differ PhaseRoots Dirstate x d h a.0 refl)
    (or_false (same (file_name x.file) (file_name b.file)) false (differ PhaseRoots Bookmarks x b h a.1 refl) refl)
roots_apart x (d ∷ b ∷ y ∷ files) h a = absurd a

once : (roots : Option Replacing) (after : List Replacing) → AreRoots roots → AreReplacedAfter after → AreOnce (replacings_of (optional_replace roots) ++ after)
once None after r a = after_once after a
once (Some x) after r a = (roots_apart x after r a, after_once after a)

publishing_none : (log : Log) (c : Change) → IsEntryBehind log c → replacings_of (c ∷ []) ≡ []
publishing_none log (Append a) h = refl
publishing_none log (Replace x) h = absurd h
publishing_none log (MakeIndex bytes) h = absurd h
publishing_none log (RenameIndex before) h = absurd h

replaced : (log : Log) (p : Parts) (are : ArePartsOfCommit log p) → replacings_of (all_changes p) ≡ replacings_of (optional_replace are.roots) ++ p.after
replaced log p are =
    let after : List Change = map (λ x. Replace x) p.after in
    let roots = optional_replace are.roots in
    filter_map-append replacing_of p.before (p.publishing ∷ after)
    ∙ ap (λ q. q ++ replacings_of (p.publishing ∷ after)) (ap replacings_of are.before ∙ filter_map-append replacing_of are.appends roots ∙ ap (λ q. q ++ replacings_of roots) (none_replaced are.appends are.beside))
    ∙ ap (λ q. replacings_of roots ++ q) (filter_map-append replacing_of (p.publishing ∷ []) after ∙ ap (λ q. q ++ replacings_of after) (publishing_none log p.publishing are.publishing) ∙ all_replaced p.after)

published : (t : Tree) (log : Log) (p : Parts) (c : Change) → IsEntryBehind log c → length (bytes_at t changelog_index) ≡ 64 * length log.entries → list_any touch (before_publishing p) ≡ false → IsPublished t p c
published t log p (Append a) h l free =
    let sized : 0 < length a.bytes = (let e = h.2 in omega (arith, e)) in
    (sized, h.1 ∙ sym l ∙ ap (λ q. length (bytes_at t q)) (sym h.0), ap (λ q. list_any (λ op. touches op q) (before_publishing p)) h.0 ∙ free)
published t log p (Replace x) h l free = absurd h
published t log p (MakeIndex bytes) h l free = absurd h
published t log p (RenameIndex before) h l free = absurd h

-- ---- no new index of the changelog is renamed

appends_first : (changes more : List Change) → list_all is_beside changes ≡ true → AreMadeFirst false more → AreMadeFirst false (changes ++ more)
appends_first [] more h first = first
appends_first (Append a ∷ changes) more h first = appends_first changes more (both (is_beside_path a.path) (list_all is_beside changes) h).1 first
appends_first (Replace x ∷ changes) more h first = cc
appends_first (MakeIndex bytes ∷ changes) more h first = cc
appends_first (RenameIndex before ∷ changes) more h first = cc

replaced_first : (files : List Replacing) → AreMadeFirst false (map (λ x. Replace x) files)
replaced_first [] = tt
replaced_first (x ∷ files) = replaced_first files

roots_first : (roots : Option Replacing) (more : List Change) → AreMadeFirst false more → AreMadeFirst false (optional_replace roots ++ more)
roots_first None more first = first
roots_first (Some x) more first = first

publishing_first : (log : Log) (c : Change) (more : List Change) → IsEntryBehind log c → AreMadeFirst false more → AreMadeFirst false (c ∷ more)
publishing_first log (Append a) more h first = first
publishing_first log (Replace x) more h first = absurd h
publishing_first log (MakeIndex bytes) more h first = absurd h
publishing_first log (RenameIndex before) more h first = absurd h

made_first : (log : Log) (p : Parts) → ArePartsOfCommit log p → AreMadeFirst false (all_changes p)
made_first log p are =
    let behind : List Change = p.publishing ∷ map (λ x. Replace x) p.after in
    subst (AreMadeFirst false) (sym (ap (λ l. l ++ behind) are.before ∙ append_assoc are.appends (optional_replace are.roots) behind))
    (appends_first are.appends (optional_replace are.roots ++ behind) are.beside (roots_first are.roots behind (publishing_first log p.publishing (map (λ x. Replace x) p.after) are.publishing (replaced_first p.after))))

pub commit_sound : (t : Tree) (log : Log) (p : Parts) → ArePartsOfCommit log p → length (bytes_at t changelog_index) ≡ 64 * length log.entries → AreSound t p
commit_sound t log p are l = record {
  once = subst AreOnce (sym (replaced log p are)) (once are.roots p.after are.are_roots are.after);
  made = made_first log p are;
  publishing = published t log p p.publishing are.publishing l (before_free log p are);
}
