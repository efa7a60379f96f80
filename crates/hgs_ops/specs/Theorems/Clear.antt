-- What a transaction appends to is no lock, no stray and not the journal.
use Rattle.std.proofs.Common.{◌≡◌, ◌⊎◌, ℕ, List, [], ◌∷◌, ◌++◌, Bool, true, false, ◌||◌, drop, refl, ◌∙◌, ap, inl, inr}
use Rattle.std.specs.List.{AllByRecursion, list_any}
use Rattle.std.proofs.lemmas.List.Elements.{filter_map-append}
use Rattle.hgs_bytes.specs.Bytes.{same, among}
use Rattle.hgs_bytes.specs.Theorems.ByteLemmas.{same-refl}
use Rattle.hgs_files.specs.declared.op.Op.{Op}
use Rattle.hgs_files.specs.declared.op.Op.TheVariants.{Append, Cut, Rename, Remove, Create, Sync, Settle}
use Rattle.hgs_files.specs.Tree.{Tree}
use Rattle.hgs_index.specs.Revision.{Revision}
use Rattle.hgs_journal.specs.declared.journal.JournalLine.{JournalLine}
use Rattle.hgs_journal.specs.Covers.{is_loose, journal_paths}
use Rattle.hgs_journal.specs.Names.{in_store, journal_path}
use Rattle.hgs_model.specs.History.{history}
use Rattle.hgs_model.specs.Repo.{Repo}
use Rattle.hgs_model.specs.Theorems.ListLemmas.{all-join}
use Rattle.hgs_path.specs.declared.name.Ext.{Ext}
use Rattle.hgs_path.specs.declared.name.Ext.TheVariants.{I, D}
use Rattle.hgs_path.specs.StoreName.{store_name}
use Rattle.hgs_power.specs.Shape.{AppendsTo}
use Rattle.hgs_stands.specs.Places.{changelog_data, fncache_path, manifest_data, manifest_index}
use Rattle.hgs_stands.specs.Theorems.LooseLemmas.{store-not-loose}
use Rattle.hgs_ops.specs.Growth.{append_some, filelog_growth, filelogs_grow, growth, grown, new_data, new_entries, new_paths}
use Rattle.hgs_ops.specs.Operations.{journal_line_of, journal_lines, strays}
use Rattle.hgs_ops.specs.Theorems.Apart.{stores-fixed}
use Rattle.hgs_ops.specs.Theorems.CommitLemmas.{part_data, part_files, part_lines, part_manifest}
use Rattle.hgs_ops.specs.Theorems.CommitTree.{first_of}
use Rattle.hgs_ops.specs.Theorems.FileGrowth.{added, form}
use Rattle.hgs_ops.specs.Theorems.StandsCommit.{not-fixed}
use Rattle.hgs_ops.specs.Theorems.Touch.{or-both, or-left, or-right}

-- ---- an append to a file that is neither a lock, a stray nor the journal

abbrev pub IsClear : List ℕ → Type 0
IsClear path = ((is_loose strays path || same path journal_path) ≡ false) × (in_store (drop 6 path) ≡ path)

abbrev pub IsAppend : Op → Type 0
IsAppend (Append path bytes) = IsClear path
IsAppend _ = ⊥

pub store-clear : (path : List ℕ) (ext : Ext) → IsClear (store_name path ext)
store-clear path ext = (or-both _ _ (store-not-loose strays path ext refl) (not-fixed (store_name path ext) journal_path refl (stores-fixed path ext)), refl)

pub some-clear : (path bytes : List ℕ) → IsClear path → AllByRecursion IsAppend (append_some path bytes)
some-clear path [] c = tt
some-clear path (b ∷ bytes) c = (c, tt)

pub grown-clear : (f : Bool) (t : Tree) (index data_path : List ℕ) (old all : List Revision) → IsClear index → IsClear data_path → AllByRecursion IsAppend (grown f t index data_path old all)
grown-clear f t index data_path old all i d =
    all-join IsAppend (append_some data_path (new_data f (added f t index data_path old all))) (append_some index (new_entries f old (added f t index data_path old all)))
    (some-clear data_path (new_data f (added f t index data_path old all)) d) (some-clear index (new_entries f old (added f t index data_path old all)) i)

pub filelogs-clear : (t : Tree) (old new : List ℕ → List Revision) (paths : List (List ℕ)) → AllByRecursion IsAppend (filelogs_grow t old new paths)
filelogs-clear t old new [] = tt
filelogs-clear t old new (q ∷ paths) =
    all-join IsAppend (filelog_growth t q (old q) (new q)) (filelogs_grow t old new paths)
    (grown-clear (form t old new q) t (store_name q I) (store_name q D) (old q) (new q) (store-clear q I) (store-clear q D)) (filelogs-clear t old new paths)

pub growth-clear : (t : Tree) (r next : Repo) → AllByRecursion IsAppend (growth t r next)
growth-clear t r next =
    all-join IsAppend (part_files t r next ++ append_some fncache_path (part_lines r next) ++ part_manifest t r next) (append_some changelog_data (part_data t r next))
    (all-join IsAppend (part_files t r next ++ append_some fncache_path (part_lines r next)) (part_manifest t r next)
    (all-join IsAppend (part_files t r next) (append_some fncache_path (part_lines r next))
    (filelogs-clear t (history r.changesets).filelog (history next.changesets).filelog (new_paths r next)) (some-clear fncache_path (part_lines r next) (refl, refl)))
    (grown-clear false t manifest_index manifest_data (history r.changesets).manifest (history next.changesets).manifest (refl, refl) (refl, refl)))
    (some-clear changelog_data (part_data t r next) (refl, refl))

-- ---- the paths of the journal

pub or-up : (a b : Bool) → b ≡ true → (a || b) ≡ true
or-up true b e = refl
or-up false b e = e

pub or-true : (a b : Bool) → (a || b) ≡ true → (a ≡ true) ⊎ (b ≡ true)
or-true true b h = inl refl
or-true false b h = inr h

pub paths-append : (t : Tree) (xs ys : List Op) → journal_paths (journal_lines t (xs ++ ys)) ≡ journal_paths (journal_lines t xs) ++ journal_paths (journal_lines t ys)
paths-append t xs ys = ap journal_paths (filter_map-append (journal_line_of t) xs ys) ∙ joined (journal_lines t xs) (journal_lines t ys)
  where
    joined : (a b : List JournalLine) → journal_paths (a ++ b) ≡ journal_paths a ++ journal_paths b
    joined [] b = refl
    joined (x ∷ a) b = ap (λ l. in_store x.name ∷ l) (joined a b)

pub among-split : (p : List ℕ) (xs ys : List (List ℕ)) → among p (xs ++ ys) ≡ (among p xs || among p ys)
among-split p [] ys = refl
among-split p (x ∷ xs) ys = ap (λ b. same p x || b) (among-split p xs ys) ∙ turned (same p x) (among p xs) (among p ys)
  where
    turned : (a b c : Bool) → (a || (b || c)) ≡ ((a || b) || c)
    turned true b c = refl
    turned false b c = refl

pub roots-no_lines : (t : Tree) (rc : Bool) (a : List ℕ) → journal_lines t (first_of rc a) ≡ []
roots-no_lines t true a = refl
roots-no_lines t false a = refl

-- each append is at a path of its lines
pub appends-named : (t : Tree) (xs : List Op) (paths : List (List ℕ)) → AllByRecursion IsAppend xs → ((p : List ℕ) → among p (journal_paths (journal_lines t xs)) ≡ true → among p paths ≡ true) → (journal : List JournalLine) → journal_paths journal ≡ paths → AllByRecursion (AppendsTo journal) xs
appends-named t [] paths all sub journal e = tt
appends-named t (Append path bytes ∷ xs) paths all sub journal e = (
  ap (among path) e ∙ sub path (ap (λ b. b || among path (journal_paths (journal_lines t xs))) (ap (same path) all.0.1 ∙ same-refl path)),
  appends-named t xs paths all.1 (λ p h. sub p (or-up (same p (in_store (drop 6 path))) (among p (journal_paths (journal_lines t xs))) h)) journal e,
)
appends-named t (Cut path len ∷ xs) paths all sub journal e = absurd all.0
appends-named t (Rename from to ∷ xs) paths all sub journal e = absurd all.0
appends-named t (Remove path ∷ xs) paths all sub journal e = absurd all.0
appends-named t (Create path bytes ∷ xs) paths all sub journal e = absurd all.0
appends-named t (Sync path ∷ xs) paths all sub journal e = absurd all.0
appends-named t (Settle ∷ xs) paths all sub journal e = absurd all.0

pub clear-apart : (t : Tree) (xs : List Op) → AllByRecursion IsAppend xs → list_any (λ path. is_loose strays path || same path journal_path) (journal_paths (journal_lines t xs)) ≡ false
clear-apart t [] all = refl
clear-apart t (Append path bytes ∷ xs) all = or-both _ _ (ap (λ p. is_loose strays p || same p journal_path) all.0.1 ∙ all.0.0) (clear-apart t xs all.1)
clear-apart t (Cut path len ∷ xs) all = absurd all.0
clear-apart t (Rename from to ∷ xs) all = absurd all.0
clear-apart t (Remove path ∷ xs) all = absurd all.0
clear-apart t (Create path bytes ∷ xs) all = absurd all.0
clear-apart t (Sync path ∷ xs) all = absurd all.0
clear-apart t (Settle ∷ xs) all = absurd all.0

pub any-append : (test : List ℕ → Bool) (xs ys : List (List ℕ)) → list_any test xs ≡ false → list_any test ys ≡ false → list_any test (xs ++ ys) ≡ false
any-append test [] ys a b = b
any-append test (x ∷ xs) ys a b = or-both _ _ (or-left _ _ a) (any-append test xs ys (or-right (test x) _ a) b)
