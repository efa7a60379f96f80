-- The rows of a changeset have a text.
use Rattle.std.proofs.Common.{◌≡◌, ℕ, List, [], ◌∷◌, Bool, true, false, ◌&&◌, ◌||◌, not, length, map, refl, sym}
use Rattle.std.specs.Prelude.{◌==◌, nat_le}
use Rattle.std.specs.List.{list_any, list_all}
use Rattle.hgs_bytes.specs.Bytes.{is_below}
use Rattle.hgs_bytes.specs.Path.{components, is_line_byte}
use Rattle.hgs_bytes.specs.Text.{ascends, Lacks}
use Rattle.hgs_index.specs.Manifest.{IsRow, AscendFrom, AreRows}
use Rattle.hgs_index.specs.Revision.{Revision}
use Rattle.hgs_index.specs.TrackedPath.{is_tracked, is_forbidden}
use Rattle.hgs_model.specs.Repo.{TreeFile, Changeset, tree_paths}
use Rattle.hgs_model.specs.History.{History, filelog_with, row_of, rows_of, rev_of_file}
use Rattle.hgs_model.specs.IsRepo.{IsNextChangeset}
use Rattle.hgs_model.specs.Theorems.ListLemmas.{never, and-left, and-right, heads, ascends-head, ascends-tail}
use Rattle.hgs_model.specs.Theorems.NewChangesetLemmas.{tracked-line}
use Rattle.hgs_model.specs.Theorems.NodeLemmas.{node_at-node}

no-nul : (path : List ℕ) → list_any is_line_byte path ≡ false → Lacks 0 path
no-nul [] e = tt
no-nul (b ∷ path) e = by (b == 0) (b == 10) (b == 13) e (no-nul path)
  where
    by : (x y z : Bool) → ((x || y || z) || list_any is_line_byte path) ≡ false → (list_any is_line_byte path ≡ false → Lacks 0 path) → (x ≡ false) × Lacks 0 path
    by true y z h rec = never h
    by false true z h rec = never h
    by false false true h rec = never h
    by false false false h rec = (refl, rec h)

tracked-no-nul : (path : List ℕ) → is_tracked path ≡ true → Lacks 0 path
tracked-no-nul path e = by (nat_le 1 (length path)) (nat_le (length path) 1024) (list_any is_line_byte path) refl (list_any is_forbidden (components path)) e
  where
    by : (a b c : Bool) → list_any is_line_byte path ≡ c → (d : Bool) → (a && b && not c && not d) ≡ true → Lacks 0 path
    by true true false v d h = no-nul path v
    by true true true v d h = never (sym h)
    by true false c v d h = never (sym h)
    by false b c v d h = never (sym h)

-- nothing is below the empty path
below-none : (path : List ℕ) → (length path == 0) ≡ false → is_below [] path ≡ true
below-none [] e = never e
below-none (b ∷ path) e = refl

row-good : (log : List ℕ → List Revision) (f : TreeFile) (rev : ℕ) → is_tracked f.path ≡ true → IsRow (row_of log (record { path = f.path; flag = f.flag; rev = rev }))
row-good log f rev t =
    let line = tracked-line f.path t in
    let node = node_at-node (log f.path) rev in
    record { some_path = line.some_byte; no_nul = tracked-no-nul f.path t; no_lf = line.no_lf; node = node.size; bytes = node.bytes }

rows-from : (h : History) (c : Changeset) (last : List ℕ) (tree : List TreeFile) → list_all is_tracked (tree_paths tree) ≡ true → heads last (tree_paths tree) ≡ true → ascends (tree_paths tree) ≡ true
    → AscendFrom last (map (row_of (filelog_with h c)) (map (λ (f : TreeFile). record { path = f.path; flag = f.flag; rev = rev_of_file h c f }) tree))
rows-from h c last [] t b a = tt
rows-from h c last (f ∷ tree) t b a = (
  row-good (filelog_with h c) f (rev_of_file h c f) (and-left (is_tracked f.path) (list_all is_tracked (tree_paths tree)) t),
  b,
  rows-from h c f.path tree (and-right (is_tracked f.path) (list_all is_tracked (tree_paths tree)) t) (ascends-head f.path (tree_paths tree) a) (ascends-tail f.path (tree_paths tree) a),
)

-- the rows of a changeset ascend, and each can stand in a line
pub rows-good : (h : History) (c : Changeset) → IsNextChangeset h c → AreRows (rows_of h c)
rows-good h c is = rows-from h c [] c.tree is.paths (first c.tree is.paths) is.ordered
  where
    first : (tree : List TreeFile) → list_all is_tracked (tree_paths tree) ≡ true → heads [] (tree_paths tree) ≡ true
    first [] t = refl
    first (f ∷ tree) t = below-none f.path (tracked-line f.path (and-left (is_tracked f.path) (list_all is_tracked (tree_paths tree)) t)).some_byte
