-- What a changeset that can be read has of files and of its manifest, as the history has it.
use Rattle.std.proofs.Common.{◌≡◌, ◌⊎◌, ℕ, zero, suc, ◌+◌, ◌<◌, List, [], ◌∷◌, ◌++◌, true, false, cond, length, take, map, refl, sym, ◌∙◌, ap, subst, inl, inr, arith, length-append}
use Rattle.std.specs.Prelude.{Option, Some, None, Ok, IfSome, option_map, unwrap_or, is_some, slice_get, slice_index_or, ◌==◌, find}
use Rattle.std.specs.List.{AllByRecursion, list_any, list_all}
use Rattle.std.proofs.lemmas.List.{take-map}
use Rattle.hgs_bytes.specs.Bytes.{same}
use Rattle.hgs_index.specs.Ancestor.{is_ancestor, ancestors_at, ancestors_from}
use Rattle.hgs_index.specs.ChangeText.{Change, read_change}
use Rattle.hgs_index.specs.FileText.{body_of}
use Rattle.hgs_index.specs.Manifest.{Row, read_manifest}
use Rattle.hgs_index.specs.Revision.{Parents, Revision}
use Rattle.hgs_index.specs.TrackedPath.{is_tracked}
use Rattle.hgs_model.specs.History.{History, Placed, placed_at, placed_file, text_at, parents_in, file_parents_of, kept_of, manifest_at}
use Rattle.hgs_model.specs.Theorems.CountLemmas.{IsSound, IsBelow}
use Rattle.hgs_findings.specs.Namings.{Rule}
use Rattle.hgs_findings.specs.Sight.{Sight, Seen, Use, absent, at, place, row_paths, use_of_place, use_of_row, use_in, use_of, use_of_seen, use_at, rev_in, told, manifest_of_seen, manifest_parent, has_null_manifest}
use Rattle.hgs_findings.proofs.Basics.{same-eq, bool, found-has}

-- all of a changeset can be read
pub record IsRead (s : Sight) (c : Seen) : Type 0 where
  pub v : Change
  pub change : c.change ≡ Some v
  pub text : read_change c.revision.text ≡ Ok v
  pub m : ℕ
  pub manifest : c.manifest ≡ Some m
  pub placed : place s.manifest v.manifest ≡ Some m
  pub rows : List Row
  pub rows_are : c.rows ≡ Some rows
  pub manifest_read : read_manifest (text_at s.manifest m) ≡ Ok rows
  pub tracked : list_all is_tracked (row_paths rows) ≡ true
  pub files : AllByRecursion (λ (row : Row). (rev : ℕ) × (place (s.filelog row.path) row.node ≡ Some rev)) rows

abbrev pub placed_row : Sight → Row → Placed
placed_row s row = record { path = row.path; flag = row.flag; rev = unwrap_or (place (s.filelog row.path) row.node) 0 }

abbrev pub placed_seen : Sight → Seen → List Placed
placed_seen s c = map (placed_row s) (unwrap_or c.rows [])

-- ---- files

abbrev pub use_placed : Option Placed → Use
use_placed None = absent
use_placed (Some p) = at p.rev p.flag

pub use-found : (s : Sight) (path : List ℕ) (rows : List Row) → AllByRecursion (λ (row : Row). (rev : ℕ) × (place (s.filelog row.path) row.node ≡ Some rev)) rows
    → use_of_row (s.filelog path) (find (λ (r : Row). same r.path path) rows) ≡ use_placed (placed_file (map (placed_row s) rows) path)
use-found s path [] all = refl
use-found s path (row ∷ rows) all = by (bool (same row.path path)) (use-found s path rows all.1)
  where
    by : (same row.path path ≡ true) ⊎ (same row.path path ≡ false) → use_of_row (s.filelog path) (find (λ (r : Row). same r.path path) rows) ≡ use_placed (placed_file (map (placed_row s) rows) path)
        → use_of_row (s.filelog path) (cond (same row.path path) (Some row) (find (λ (r : Row). same r.path path) rows)) ≡ use_placed (cond (same row.path path) (Some (placed_row s row)) (placed_file (map (placed_row s) rows) path))
    by (inl t) rec =
        ap (λ b. use_of_row (s.filelog path) (cond b (Some row) (find (λ (r : Row). same r.path path) rows))) t
        ∙ ap (λ q. use_of_place row.flag (place (s.filelog q) row.node)) (sym (same-eq row.path path t))
        ∙ ap (use_of_place row.flag) all.0.1
        ∙ sym (ap (λ o. at (unwrap_or o 0) row.flag) all.0.1)
        ∙ sym (ap (λ b. use_placed (cond b (Some (placed_row s row)) (placed_file (map (placed_row s) rows) path))) t)
    by (inr t) rec =
        ap (λ b. use_of_row (s.filelog path) (cond b (Some row) (find (λ (r : Row). same r.path path) rows))) t ∙ rec
        ∙ sym (ap (λ b. use_placed (cond b (Some (placed_row s row)) (placed_file (map (placed_row s) rows) path))) t)

pub use-read : (s : Sight) (path : List ℕ) (c : Seen) → IsRead s c → use_of s path c ≡ use_placed (placed_file (placed_seen s c) path)
use-read s path c is =
    ap (use_in (s.filelog path) path) is.rows_are ∙ use-found s path is.rows is.files ∙ ap (λ o. use_placed (placed_file (map (placed_row s) (unwrap_or o [])) path)) (sym is.rows_are)

at-parent : (s : Sight) (path : List ℕ) (front more : List Seen) (q : ℕ) → q < length front → AllByRecursion (IsRead s) front
    → use_of_seen s path (slice_get (front ++ more) q) ≡ use_placed (placed_file (slice_index_or (map (placed_seen s) front) q []) path)
at-parent s path [] more q lt all = absurd (omega (arith, lt))
at-parent s path (c ∷ front) more zero lt all = use-read s path c all.0
at-parent s path (c ∷ front) more (suc q) lt all = at-parent s path front more q (omega (arith, lt)) all.1

-- what a parent has at a path is what the history has placed there
pub parent-use : (s : Sight) (h : History) (path : List ℕ) (front more : List Seen) (o : Option ℕ) → IfSome o (λ q. q < length front) → AllByRecursion (IsRead s) front → h.placed ≡ map (placed_seen s) front
    → use_at s path (front ++ more) o ≡ use_placed (placed_file (placed_at h o) path)
parent-use s h path front more None lt all e = refl
parent-use s h path front more (Some q) lt all e = at-parent s path front more q lt all ∙ ap (λ l. use_placed (placed_file (slice_index_or l q []) path)) (sym e)

abbrev pub rev_of : Option Placed → Option ℕ
rev_of o = option_map (λ (p : Placed). p.rev) o

pub told-placed : (a b : Option Placed) (f : Option ℕ → Option ℕ → Rule) → told (rev_in (use_placed a)) (rev_in (use_placed b)) f ≡ f (rev_of a) (rev_of b)
told-placed None None f = refl
told-placed None (Some b) f = refl
told-placed (Some a) None f = refl
told-placed (Some a) (Some b) f = refl

-- ---- the first revisions of a list

index-left : (xs : List (List ℕ)) (y : List ℕ) (b : ℕ) → b < length xs → slice_index_or (xs ++ y ∷ []) b [] ≡ slice_index_or xs b []
index-left [] y b lt = absurd (omega arith)
index-left (x ∷ xs) y zero lt = refl
index-left (x ∷ xs) y (suc b) lt = index-left xs y b (omega arith)

rows-stay : (known : List (List ℕ)) (history : List Parents) (b : ℕ) → b < length known → slice_index_or (ancestors_from known history) b [] ≡ slice_index_or known b []
rows-stay known [] b lt = refl
rows-stay known (p ∷ history) b lt =
    rows-stay (known ++ (length known ∷ ancestors_at known p.0 ++ ancestors_at known p.1) ∷ []) history b (omega (arith, length-append known ((length known ∷ ancestors_at known p.0 ++ ancestors_at known p.1) ∷ [])))
    ∙ index-left known (length known ∷ ancestors_at known p.0 ++ ancestors_at known p.1) b lt

rows-take : (known : List (List ℕ)) (history : List Parents) (k b : ℕ) → b < length known + k → slice_index_or (ancestors_from known (take k history)) b [] ≡ slice_index_or (ancestors_from known history) b []
rows-take known [] zero b lt = refl
rows-take known [] (suc k) b lt = refl
rows-take known (p ∷ history) zero b lt = sym (rows-stay known (p ∷ history) b (omega arith))
rows-take known (p ∷ history) (suc k) b lt =
    rows-take (known ++ (length known ∷ ancestors_at known p.0 ++ ancestors_at known p.1) ∷ []) history k b
    (omega (arith, length-append known ((length known ∷ ancestors_at known p.0 ++ ancestors_at known p.1) ∷ [])))

ancestor-front : (history : List Parents) (k a b : ℕ) → b < k → is_ancestor (take k history) a b ≡ is_ancestor history a b
ancestor-front history k a b lt = ap (λ l. list_any (λ x. x == a) l) (rows-take [] history k b (omega (arith, lt)))

file-parents-take : (history : List Parents) (k : ℕ) (a b : Option ℕ) → IsBelow a k → IsBelow b k → file_parents_of (take k history) a b ≡ file_parents_of history a b
file-parents-take history k None b p q = refl
file-parents-take history k (Some a) None p q = refl
file-parents-take history k (Some a) (Some b) p q =
    ap (λ z. cond (a == b) (Some a, None) (cond z (Some b, None) (cond (is_ancestor (take k history) b a) (Some a, None) (Some a, Some b)))) (ancestor-front history k a b q)
    ∙ ap (λ z. cond (a == b) (Some a, None) (cond (is_ancestor history a b) (Some b, None) (cond z (Some a, None) (Some a, Some b)))) (ancestor-front history k b a p)

pub file-parents-front : (log : List Revision) (k : ℕ) (a b : Option ℕ) → IsBelow a k → IsBelow b k → file_parents_of (parents_in (take k log)) a b ≡ file_parents_of (parents_in log) a b
file-parents-front log k a b p q = ap (λ l. file_parents_of l a b) (sym (take-map (λ (r : Revision). r.parents) k log)) ∙ file-parents-take (parents_in log) k a b p q

pub text-take : (log : List Revision) (k a : ℕ) → a < k → text_at (take k log) a ≡ text_at log a
text-take [] zero a lt = refl
text-take [] (suc k) a lt = refl
text-take (r ∷ log) zero a lt = absurd (omega (arith, lt))
text-take (r ∷ log) (suc k) zero lt = refl
text-take (r ∷ log) (suc k) (suc a) lt = text-take log k a (omega (arith, lt))

pub kept-front : (log : List Revision) (k : ℕ) (a b : Option ℕ) (body : List ℕ) → IsBelow a k → kept_of (take k log) a b body ≡ kept_of log a b body
kept-front log k None b body p = refl
kept-front log k (Some a) (Some b) body p = refl
kept-front log k (Some a) None body p = ap (λ t. cond (same (body_of t) body) (Some a) None) (text-take log k a p)

-- the numbers of parents' files are below the count of the filelog
pub placed-some : (h : History) (o : Option ℕ) (path : List ℕ) → IsSound h → IsBelow (rev_of (placed_file (placed_at h o) path)) (length (h.filelog path))
placed-some h None path s = tt
placed-some h (Some rev) path s = at_number h.placed rev s.files
  where
    one : (files : List Placed) (o : Option Placed) → AllByRecursion (λ (p : Placed). p.rev < length (h.filelog p.path)) files → find (λ (p : Placed). same p.path path) files ≡ o → IsBelow (rev_of o) (length (h.filelog path))
    one files None all e = tt
    one files (Some p) all e =
        let f = found-has (λ (q : Placed). q.rev < length (h.filelog q.path)) (λ (q : Placed). same q.path path) files p all e in
        subst (λ q. p.rev < length (h.filelog q)) (same-eq p.path path f.1) f.0

    at_number : (xs : List (List Placed)) (i : ℕ) → AllByRecursion (λ files. AllByRecursion (λ (p : Placed). p.rev < length (h.filelog p.path)) files) xs
        → IsBelow (rev_of (placed_file (slice_index_or xs i []) path)) (length (h.filelog path))
    at_number [] i all = tt
    at_number (x ∷ xs) zero all = one x (placed_file x path) all.0 refl
    at_number (x ∷ xs) (suc i) all = at_number xs i all.1

-- ---- manifests

abbrev pub manifest_number_of : Seen → ℕ
manifest_number_of c = unwrap_or c.manifest 0

read-manifest : (s : Sight) (c : Seen) → IsRead s c → manifest_of_seen (Some c) ≡ Some (Some (manifest_number_of c))
read-manifest s c is =
    ap (λ o. cond (is_some o) (Some o) (cond (has_null_manifest c.change) (Some None) None)) is.manifest ∙ sym (ap (λ o. Some (Some (unwrap_or o 0))) is.manifest)

manifest-at-parent : (s : Sight) (front more : List Seen) (q : ℕ) → q < length front → AllByRecursion (IsRead s) front → manifest_of_seen (slice_get (front ++ more) q) ≡ Some (slice_get (map manifest_number_of front) q)
manifest-at-parent s [] more q lt all = absurd (omega (arith, lt))
manifest-at-parent s (c ∷ front) more zero lt all = read-manifest s c all.0
manifest-at-parent s (c ∷ front) more (suc q) lt all = manifest-at-parent s front more q (omega (arith, lt)) all.1

pub parent-manifest : (s : Sight) (h : History) (front more : List Seen) (o : Option ℕ) → IfSome o (λ q. q < length front) → AllByRecursion (IsRead s) front → h.manifest_of ≡ map manifest_number_of front
    → manifest_parent (front ++ more) o ≡ Some (manifest_at h o)
parent-manifest s h front more None lt all e = refl
parent-manifest s h front more (Some q) lt all e = manifest-at-parent s front more q lt all ∙ ap (λ l. Some (slice_get l q)) (sym e)
