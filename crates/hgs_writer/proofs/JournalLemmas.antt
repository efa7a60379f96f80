-- The files that a commit's journal names are as short as its lines can say.
use Rattle.std.proofs.Common.{◌≡◌, ◌⊎◌, ◌<◌, ℕ, List, [], ◌∷◌, ◌++◌, Bool, true, false, ◌||◌, cond, length, drop, inl, inr, refl, sym, ◌∙◌, ap, subst}
use Rattle.std.specs.Prelude.{◌^◌, flat_map}
use Rattle.std.specs.List.{AllByRecursion}
use Rattle.hgs_bytes.specs.Bytes.{among, same}
use Rattle.hgs_bytes.specs.Text.{line}
use Rattle.hgs_bytes.specs.Theorems.ByteLemmas.{same-eq}
use Rattle.hgs_files.specs.declared.op.Op.{Op}
use Rattle.hgs_files.specs.declared.op.Op.TheVariants.{Append, Cut, Rename, Remove, Create, Sync, Settle}
use Rattle.hgs_files.specs.Tree.{Tree, bytes_at}
use Rattle.hgs_index.specs.Revision.{Revision}
use Rattle.hgs_journal.specs.Covers.{journal_paths}
use Rattle.hgs_journal.specs.Names.{in_store}
use Rattle.hgs_model.specs.History.{history}
use Rattle.hgs_model.specs.Repo.{Repo}
use Rattle.hgs_model.specs.declared.command.Command.TheVariants.{Commit}
use Rattle.hgs_model.specs.declared.command.NewChange.{NewChange}
use Rattle.hgs_ops.specs.Growth.{append_some, filelog_growth, filelogs_grow, growth, grown, grows_inline, new_changelog_entry, new_chunks, new_items, new_names, new_paths}
use Rattle.hgs_ops.specs.Operations.{journal_lines, journal_of}
use Rattle.hgs_ops.specs.Replaced.{new_rename, new_roots, roots_change}
use Rattle.hgs_ops.specs.Theorems.OnceLemmas.{EachPath, each-joined, grown-each, some-each}
use Rattle.hgs_ops.specs.Theorems.Touch.{bool}
use Rattle.hgs_path.specs.declared.name.Ext.TheVariants.{I, D}
use Rattle.hgs_path.specs.StoreName.{store_name}
use Rattle.hgs_stands.specs.Places.{changelog_data, changelog_index, fncache_path, manifest_data, manifest_index}
use Rattle.hgs_writer.proofs.Basics.{never}

-- what holds of the paths that are appended to holds of those that the journal names
named-each : (P : List ℕ → Type 0) (t : Tree) (ops : List Op) (p : List ℕ) → EachPath P ops → among p (journal_paths (journal_lines t ops)) ≡ true → P p
named-each P t [] p all there = never (sym there)
named-each P t (Append path bytes ∷ ops) p all there = by (bool (same p (in_store (drop 6 path)))) (named-each P t ops p all.1)
  where
    by : (same p (in_store (drop 6 path)) ≡ true) ⊎ (same p (in_store (drop 6 path)) ≡ false) → (among p (journal_paths (journal_lines t ops)) ≡ true → P p) → P p
    by (inl here) rec = subst P (sym (same-eq p (in_store (drop 6 path)) here ∙ all.0.0)) all.0.1
    by (inr away) rec = rec (ap (λ b. b || among p (journal_paths (journal_lines t ops))) (sym away) ∙ there)
named-each P t (Rename from to ∷ ops) p all there = named-each P t ops p all there
named-each P t (Cut path len ∷ ops) p all there = absurd all
named-each P t (Remove path ∷ ops) p all there = absurd all
named-each P t (Create path bytes ∷ ops) p all there = absurd all
named-each P t (Sync path ∷ ops) p all there = absurd all
named-each P t (Settle ∷ ops) p all there = absurd all

abbrev pub IsShort : Tree → List ℕ → Type 0
IsShort t path = length (bytes_at t path) < 2 ^ 64

-- The files of a path's filelog that it appends to: of an inline one the index alone.
abbrev pub AreShortFiles : Tree → (List ℕ → List Revision) → (List ℕ → List Revision) → List ℕ → Type 0
AreShortFiles t old new q = IsShort t (store_name q I) × (grows_inline (bytes_at t (store_name q I)) (old q) (new q) ≡ false → IsShort t (store_name q D))

-- The files that a commit appends to.
pub record AreShort (t : Tree) (r next : Repo) : Type 0 where
  pub filelogs : AllByRecursion (AreShortFiles t (history r.changesets).filelog (history next.changesets).filelog) (new_paths r next)
  pub list : IsShort t fncache_path
  pub manifest : IsShort t manifest_index × IsShort t manifest_data
  pub changelog : IsShort t changelog_index × IsShort t changelog_data

grown-short : (t : Tree) (index data_path : List ℕ) (old all : List Revision) → in_store (drop 6 index) ≡ index → in_store (drop 6 data_path) ≡ data_path → IsShort t index → (f : Bool) → (f ≡ false → IsShort t data_path) → EachPath (IsShort t) (grown f t index data_path old all)
grown-short t index data_path old all a b p true q = some-each (IsShort t) index _ a p
grown-short t index data_path old all a b p false q = grown-each false (IsShort t) t index data_path old all a b p (q refl)

filelogs-short : (t : Tree) (old new : List ℕ → List Revision) (paths : List (List ℕ)) → AllByRecursion (AreShortFiles t old new) paths → EachPath (IsShort t) (filelogs_grow t old new paths)
filelogs-short t old new [] all = tt
filelogs-short t old new (q ∷ paths) all =
    each-joined (IsShort t) (filelog_growth t q (old q) (new q)) (filelogs_grow t old new paths)
    (grown-short t (store_name q I) (store_name q D) (old q) (new q) refl refl all.0.0 (grows_inline (bytes_at t (store_name q I)) (old q) (new q)) all.0.1) (filelogs-short t old new paths all.1)

growth-short : (t : Tree) (r next : Repo) → AreShort t r next → EachPath (IsShort t) (growth t r next)
growth-short t r next short =
    let P = IsShort t in
    let old = history r.changesets in
    let new = history next.changesets in
    let files = filelogs_grow t old.filelog new.filelog (new_paths r next) in
    let names = append_some fncache_path (flat_map line (new_names old.filelog new.filelog (new_paths r next))) in
    let manifest = grown false t manifest_index manifest_data old.manifest new.manifest in
    let chunks = append_some changelog_data (new_chunks (new_items (length (bytes_at t changelog_data)) old.changelog (drop (length old.changelog) new.changelog))) in
    each-joined P (files ++ names ++ manifest) chunks
    (each-joined P (files ++ names) manifest
    (each-joined P files names (filelogs-short t old.filelog new.filelog (new_paths r next) short.filelogs) (some-each P fncache_path _ refl short.list))
    (grown-each false P t manifest_index manifest_data old.manifest new.manifest refl refl short.manifest.0 short.manifest.1))
    (some-each P changelog_data _ refl short.changelog.1)

pub journal-short : (t : Tree) (r next : Repo) (n : NewChange) → AreShort t r next → (path : List ℕ) → among path (journal_paths (journal_of t r (Commit n) next)) ≡ true → length (bytes_at t path) < 2 ^ 64
journal-short t r next n short path there =
    named-each (IsShort t) t ((growth t r next ++ roots (roots_change r next)) ++ Append changelog_index (new_changelog_entry t r next) ∷ []) path
    (each-joined (IsShort t) (growth t r next ++ roots (roots_change r next)) (Append changelog_index (new_changelog_entry t r next) ∷ [])
    (each-joined (IsShort t) (growth t r next) (roots (roots_change r next)) (growth-short t r next short) (any (roots_change r next)))
    ((refl, short.changelog.0), tt))
    there
  where
    roots : Bool → List Op
    roots b = cond b (new_rename (new_roots next) ∷ []) []

    any : (b : Bool) → EachPath (IsShort t) (roots b)
    any true = tt
    any false = tt
