-- What is added of the small files is what is found of them.
use Rattle.std.proofs.Common.{◌≡◌, ◌⊎◌, ℕ, suc, ◌+◌, List, [], ◌++◌, Bool, true, false, ◌||◌, map, refl, sym, ◌∙◌, ap, subst, inl, inr, arith}
use Rattle.std.specs.Prelude.{Option, Some, None, Result, Ok, Err, is_some, is_none, option_map, slice_get, unwrap_or}
use Rattle.std.specs.List.{list_any}
use Rattle.hgs_files.specs.Tree.{Tree, bytes_at}
use Rattle.hgs_index.specs.Revision.{Revision}
use Rattle.hgs_marks.specs.Bookmarks.{Mark, mark_lines}
use Rattle.hgs_marks.specs.Dirstate.{Dirstate, no_dirstate, read_dirstate}
use Rattle.hgs_marks.specs.Lines.{mark_values}
use Rattle.hgs_phases.specs.declared.roots.Root.{Root}
use Rattle.hgs_phases.specs.Roots.{read_roots}
use Rattle.hgs_stands.specs.Places.{bookmarks_path, dirstate_path, roots_path}
use Rattle.hgs_findings.specs.Findings as findings
use Rattle.hgs_findings.specs.Findings.{Finding, IsFinding, is_finding, dirstate_in, is_unknown_parent, paths_at_node, tracks_others}
use Rattle.hgs_findings.specs.Reading.{sight_of}
use Rattle.hgs_findings.specs.Sight.{value, place}
use Rattle.hgs_judge.specs.Report.{one_if}
use Rattle.hgs_report.specs.Adds.{Adds}
use Rattle.hgs_report.specs.Lines.{file_if, root_values, of_line, of_lines, of_dirstate}
use Rattle.hgs_report.specs.Texts.{IsOfRoots, IsOfBookmarks, IsOfDirstate, bad_roots, unknown_root, bad_bookmarks, unknown_mark, bad_dirstate, unknown_parent, other_paths}
use Rattle.hgs_report.proofs.EachLemmas.{never, in-front, in-back, split-any, IsOne, is-this, this-is, one-is, is-one, is-of, of-is}
use Rattle.hgs_report.proofs.StoreLemmas.{list-added, moved, mapped-at, at-mapped}

pub file-is : (is : Bool) (path : List ℕ) (kind : ℕ) (file : List ℕ) (rev : Option ℕ) (k : ℕ) → list_any (is_finding file rev k) (file_if is path kind) ≡ true → (is ≡ true) × IsOne path None kind file rev k
file-is false path kind file rev k e = never (sym e)
file-is true path kind file rev k e = (refl, is-this path None kind file rev k e)

pub is-file : (is : Bool) (path : List ℕ) (kind : ℕ) → is ≡ true → list_any (is_finding path None kind) (file_if is path kind) ≡ true
is-file false path kind e = never (sym e)
is-file true path kind e = this-is path None kind

unknown-so : {A : Type 0} (o : Option A) → is_none o ≡ true → is_some o ≡ false
unknown-so None e = refl
unknown-so (Some x) e = never (sym e)

so-unknown : {A : Type 0} (o : Option A) → is_some o ≡ false → is_none o ≡ true
so-unknown None e = refl
so-unknown (Some x) e = never e

one-plus : (n : ℕ) → 1 + n ≡ suc n
one-plus n = omega arith

-- ---- lines

lines-are : {A : Type 0} (t : Tree) (log : List Revision) (path : List ℕ) (kind : ℕ) (f : A → List ℕ) (o : Option (List A)) → (is_some o ≡ false → IsFinding t path None 4) → ((n : ℕ) (x : A) → slice_get (unwrap_or o []) n ≡ Some x → is_some (place log (f x)) ≡ false → IsFinding t path (Some (suc n)) kind)
    → (file : List ℕ) (rev : Option ℕ) (k : ℕ) → list_any (is_finding file rev k) (of_lines log path kind (option_map (map f) o)) ≡ true → IsFinding t file rev k
lines-are t log path kind f None bad each file rev k h = let one = file-is true path 4 file rev k h in moved t path None 4 file rev k one.1 (bad refl)
lines-are t log path kind f (Some xs) bad each file rev k h =
    let o = is-of (is_finding file rev k) (of_line log path kind) 1 (map f xs) h in
    let one = one-is (is_none (place log o.x)) path (1 + o.i) kind file rev k o.is in
    let m = mapped-at f xs o.i o.x o.at in
    moved t path (Some (1 + o.i)) kind file rev k one.1
    (subst (λ n. IsFinding t path (Some n) kind) (sym (one-plus o.i)) (each o.i m.0 m.1 (unknown-so (place log (f m.0)) (ap (λ y. is_none (place log y)) (sym m.2) ∙ one.0))))

lines-bad : {A : Type 0} (log : List Revision) (path : List ℕ) (kind : ℕ) (f : A → List ℕ) (o : Option (List A)) → is_some o ≡ false → list_any (is_finding path None 4) (of_lines log path kind (option_map (map f) o)) ≡ true
lines-bad log path kind f None e = is-file true path 4 refl
lines-bad log path kind f (Some xs) e = never e

lines-each : {A : Type 0} (log : List Revision) (path : List ℕ) (kind : ℕ) (f : A → List ℕ) (o : Option (List A)) (n : ℕ) (x : A) → slice_get (unwrap_or o []) n ≡ Some x → is_some (place log (f x)) ≡ false
    → list_any (is_finding path (Some (suc n)) kind) (of_lines log path kind (option_map (map f) o)) ≡ true
lines-each log path kind f None n x at e = absurd (clash at)
  where
    clash : None ≡ Some x → ⊥
    clash h = cc
lines-each log path kind f (Some xs) n x at e =
    of-is (is_finding path (Some (suc n)) kind) (of_line log path kind) 1 (map f xs) n (f x) (at-mapped f xs n x at)
    (ap (λ m. list_any (is_finding path (Some m) kind) (one_if (is_none (place log (f x))) path (1 + n) kind)) (sym (one-plus n)) ∙ is-one (is_none (place log (f x))) path (1 + n) kind (so-unknown (place log (f x)) e))

pub roots-added : (t : Tree) (old new : List Finding) → new ≡ old ++ of_lines (sight_of t).changelog roots_path 13 (option_map root_values (value (read_roots (bytes_at t roots_path)))) → Adds t (IsOfRoots t) old new
roots-added t old new e = list-added t (IsOfRoots t) old new (of_lines (sight_of t).changelog roots_path 13 (option_map root_values (value (read_roots (bytes_at t roots_path))))) e
    (lines-are t (sight_of t).changelog roots_path 13 (λ (r : Root). r.node.0) (value (read_roots (bytes_at t roots_path))) (λ miss. findings.bad_roots miss) (λ n root at miss. findings.unknown_root n root at miss)) all
  where
    all : (file : List ℕ) (rev : Option ℕ) (k : ℕ) → IsOfRoots t file rev k → list_any (is_finding file rev k) (of_lines (sight_of t).changelog roots_path 13 (option_map root_values (value (read_roots (bytes_at t roots_path))))) ≡ true
    all _ _ _ (bad_roots miss) = lines-bad (sight_of t).changelog roots_path 13 (λ (r : Root). r.node.0) (value (read_roots (bytes_at t roots_path))) miss
    all _ _ _ (unknown_root n root at miss) = lines-each (sight_of t).changelog roots_path 13 (λ (r : Root). r.node.0) (value (read_roots (bytes_at t roots_path))) n root at miss

pub marks-added : (t : Tree) (old new : List Finding) → new ≡ old ++ of_lines (sight_of t).changelog bookmarks_path 14 (option_map mark_values (value (mark_lines (bytes_at t bookmarks_path)))) → Adds t (IsOfBookmarks t) old new
marks-added t old new e = list-added t (IsOfBookmarks t) old new (of_lines (sight_of t).changelog bookmarks_path 14 (option_map mark_values (value (mark_lines (bytes_at t bookmarks_path))))) e
    (lines-are t (sight_of t).changelog bookmarks_path 14 (λ (m : Mark). m.node) (value (mark_lines (bytes_at t bookmarks_path))) (λ miss. findings.bad_bookmarks miss) (λ n mark at miss. findings.unknown_mark n mark at miss)) all
  where
    all : (file : List ℕ) (rev : Option ℕ) (k : ℕ) → IsOfBookmarks t file rev k → list_any (is_finding file rev k) (of_lines (sight_of t).changelog bookmarks_path 14 (option_map mark_values (value (mark_lines (bytes_at t bookmarks_path))))) ≡ true
    all _ _ _ (bad_bookmarks miss) = lines-bad (sight_of t).changelog bookmarks_path 14 (λ (m : Mark). m.node) (value (mark_lines (bytes_at t bookmarks_path))) miss
    all _ _ _ (unknown_mark n mark at miss) = lines-each (sight_of t).changelog bookmarks_path 14 (λ (m : Mark). m.node) (value (mark_lines (bytes_at t bookmarks_path))) n mark at miss

-- ---- the dirstate

abbrev of_text : Tree → Option Dirstate → List Finding
of_text t = of_dirstate (sight_of t).changelog dirstate_path (paths_at_node (sight_of t))

abbrev unknown_of : Tree → Dirstate → Bool
unknown_of t d = is_unknown_parent (sight_of t) d.p1 || is_unknown_parent (sight_of t) d.p2

value-so : {A F : Type 0} (r : Result A F) (x : A) → value r ≡ Some x → r ≡ Ok x
value-so {A = A} (Ok y) x e = ap Ok (some-same y x e)
  where
    some-same : (a b : A) → Some a ≡ Some b → a ≡ b
    some-same a b h = ap (elim [ None ↦ a | Some z ↦ z ]) h
value-so (Err f) x e = absurd (clash e)
  where
    clash : None ≡ Some x → ⊥
    clash h = cc

text-are : (t : Tree) (o : Option Dirstate) → value (read_dirstate (bytes_at t dirstate_path)) ≡ o → (file : List ℕ) (rev : Option ℕ) (k : ℕ) → list_any (is_finding file rev k) (of_text t o) ≡ true → IsFinding t file rev k
text-are t None is file rev k h = let one = file-is true dirstate_path 4 file rev k h in moved t dirstate_path None 4 file rev k one.1 (findings.bad_dirstate (ap is_some is))
text-are t (Some d) is file rev k h = by (split-any (is_finding file rev k) (file_if (unknown_of t d) dirstate_path 15) (file_if (tracks_others d.paths (paths_at_node (sight_of t) d.p1)) dirstate_path 16) h)
  where
    said : dirstate_in t ≡ d
    said = ap (λ o. unwrap_or o no_dirstate) is

    by : (list_any (is_finding file rev k) (file_if (unknown_of t d) dirstate_path 15) ≡ true) ⊎ (list_any (is_finding file rev k) (file_if (tracks_others d.paths (paths_at_node (sight_of t) d.p1)) dirstate_path 16) ≡ true) → IsFinding t file rev k
    by (inl g) = let one = file-is (unknown_of t d) dirstate_path 15 file rev k g in moved t dirstate_path None 15 file rev k one.1 (findings.unknown_parent (ap (unknown_of t) said ∙ one.0))
    by (inr g) = let one = file-is (tracks_others d.paths (paths_at_node (sight_of t) d.p1)) dirstate_path 16 file rev k g in moved t dirstate_path None 16 file rev k one.1 (findings.other_paths d (value-so (read_dirstate (bytes_at t dirstate_path)) d is) one.0)

text-all : (t : Tree) (o : Option Dirstate) → value (read_dirstate (bytes_at t dirstate_path)) ≡ o → (file : List ℕ) (rev : Option ℕ) (k : ℕ) → IsOfDirstate t file rev k → list_any (is_finding file rev k) (of_text t o) ≡ true
text-all t None is _ _ _ (bad_dirstate miss) = is-file true dirstate_path 4 refl
text-all t None is _ _ _ (unknown_parent un) = never (sym (sym (ap (λ o. unknown_of t (unwrap_or o no_dirstate)) is) ∙ un))
text-all t None is _ _ _ (other_paths d said miss) = absurd (clash (sym (ap value said) ∙ is))
  where
    clash : Some d ≡ None → ⊥
    clash h = cc
text-all t (Some d) is _ _ _ (bad_dirstate miss) = never (sym (ap is_some is) ∙ miss)
text-all t (Some d) is _ _ _ (unknown_parent un) =
    in-front (is_finding dirstate_path None 15) (file_if (unknown_of t d) dirstate_path 15) _ (is-file (unknown_of t d) dirstate_path 15 (sym (ap (λ o. unknown_of t (unwrap_or o no_dirstate)) is) ∙ un))
text-all t (Some d) is _ _ _ (other_paths x said miss) =
    let same : x ≡ d = some-same x d (sym (ap value said) ∙ is) in
    in-back (is_finding dirstate_path None 16) (file_if (unknown_of t d) dirstate_path 15) _
    (is-file (tracks_others d.paths (paths_at_node (sight_of t) d.p1)) dirstate_path 16 (ap (λ (y : Dirstate). tracks_others y.paths (paths_at_node (sight_of t) y.p1)) (sym same) ∙ miss))
  where
    some-same : (a b : Dirstate) → Some a ≡ Some b → a ≡ b
    some-same a b h = ap (elim [ None ↦ a | Some z ↦ z ]) h

pub dirstate-added : (t : Tree) (old new : List Finding) → new ≡ old ++ of_dirstate (sight_of t).changelog dirstate_path (paths_at_node (sight_of t)) (value (read_dirstate (bytes_at t dirstate_path))) → Adds t (IsOfDirstate t) old new
dirstate-added t old new e = list-added t (IsOfDirstate t) old new (of_text t (value (read_dirstate (bytes_at t dirstate_path)))) e (text-are t (value (read_dirstate (bytes_at t dirstate_path))) refl) (text-all t (value (read_dirstate (bytes_at t dirstate_path))) refl)
