-- A search in halves among names and rows that ascend.
use Rattle.std.proofs.Common.{◌≡◌, inl, inr, ℕ, zero, suc, ◌+◌, ◌<◌, ◌≤◌, Bool, true, false, cond, ◌&&◌, ◌||◌, List, [], ◌∷◌, length, get_or, map, Result, Ok, Err, refl, sym, ◌∙◌, ap, arith}
use Rattle.std.specs.Prelude.{Option, Some, None, is_ok, slice_get, find, option_map}
use Rattle.std.specs.declared.cmp.Ordering.{Ordering}
use Rattle.std.specs.declared.cmp.Ordering.TheVariants.{Less, Equal, Greater}
use Rattle.std.specs.Ordering.{nat_cmp, is_eq, is_lt, ordering_index, ordering_reverse}
use Rattle.std.specs.Cmp.Lexicographic.{bytes_decides, slice_cmp, texts_ties}
use Rattle.std.specs.List.Sorted.{IsSearchInRange, IsBinarySearchResult, IsNonDecreasingBy, IsSortedBy}
use Rattle.std.proofs.lemmas.Bool.{false_from_ne_true, cases_lt}
use Rattle.std.proofs.lemmas.Cmp.{nat_list_cmp_total}
use Rattle.std.proofs.lemmas.List.{length-map}
use Rattle.std.proofs.lemmas.List.Sorted.{searchable_from_sorted}
use Rattle.std.proofs.lemmas.Option.{get_or_from_slice_get, slice_get-map, slice_get_within}
use Rattle.hgs_bytes.specs.Bytes.{same, among, is_below}
use Rattle.hgs_bytes.specs.Text.{Line, ascends, lines_of}
use Rattle.hgs_index.specs.Manifest.{Row, read_manifest, row_at, row_then, rows_from, with_row}
use Rattle.hgs_index.specs.declared.texts.ManifestFault.{ManifestFault}
use Rattle.hgs_index.specs.declared.texts.ManifestFault.TheVariants.{Order}
use Rattle.hgs_findings.specs.Sight.{row_paths, value}
use Rattle.hgs_index.specs.Revision.{Revision}
use Rattle.hgs_judge.specs.Trees.{path_of, rows_read}
use Rattle.hgs_judge.proofs.ChangesetLemmas.{mapped-at}

both : (a b : Bool) → (a && b) ≡ true → (a ≡ true) × (b ≡ true)
both true b h = (refl, h)
both false b h = cc

or_true : (a b : Bool) → b ≡ true → (a || b) ≡ true
or_true true b h = refl
or_true false b h = h

lt_is : (o : Ordering) → is_lt o ≡ true → o ≡ Less
lt_is Less e = refl
lt_is Equal e = cc
lt_is Greater e = cc

not_above : (a b : List ℕ) → is_below a b ≡ true → is_below b a ≡ false
not_above a b e = ap is_lt (nat_list_cmp_total.antisymm b a ∙ ap ordering_reverse (lt_is (slice_cmp nat_cmp a b) e))

same-itself : (x : List ℕ) → same x x ≡ true
same-itself x = (bytes_decides x x).1 refl

ascends_at : (names : List (List ℕ)) → ascends names ≡ true → (k : ℕ) (d : List ℕ) → suc k < length names → is_below (get_or names k d) (get_or names (suc k) d) ≡ true
ascends_at [] a k d lt = absurd (omega arith)
ascends_at (f ∷ []) a k d lt = absurd (omega arith)
ascends_at (f ∷ g ∷ names) a zero d lt = (both (is_below f g) (ascends (g ∷ names)) a).0
ascends_at (f ∷ g ∷ names) a (suc k) d lt = ascends_at (g ∷ names) (both (is_below f g) (ascends (g ∷ names)) a).1 k d (omega (arith, lt))

names_sorted : (names : List (List ℕ)) → ascends names ≡ true → IsSortedBy (λ (f g : List ℕ). is_lt (slice_cmp nat_cmp f g)) names
names_sorted names a k d low lt =
    let next : k + 1 ≡ suc k = omega arith in
    ap (λ n. is_below (get_or names n d) (get_or names k d)) next
    ∙ not_above (get_or names k d) (get_or names (suc k) d) (ascends_at names a k d (omega (arith, lt)))

there : (names : List (List ℕ)) (path : List ℕ) (i : ℕ) (d : List ℕ) → i < length names → get_or names i d ≡ path → among path names ≡ true
there [] path i d lt e = absurd (omega arith)
there (f ∷ names) path zero d lt e = ap (λ b. b || among path names) (ap (same path) e ∙ same-itself path)
there (f ∷ names) path (suc i) d lt e = or_true (same path f) (among path names) (there names path i d (omega (arith, lt)) e)

nowhere : (names : List (List ℕ)) (path : List ℕ) → ((i : ℕ) (d : List ℕ) → i < length names → is_eq (slice_cmp nat_cmp (get_or names i d) path) ≡ false) → among path names ≡ false
nowhere [] path h = refl
nowhere (f ∷ names) path h =
    let other : same path f ≡ false = false_from_ne_true (same path f) (λ e. clash (sym (texts_ties f path) ∙ ap (λ t. same t path) (sym ((bytes_decides path f).0 e)) ∙ same-itself path) (h 0 f (omega arith))) in
    ap (λ b. b || among path names) other ∙ nowhere names path (λ i d lt. h (suc i) d (omega (arith, lt)))
  where
    clash : {b : Bool} → b ≡ true → b ≡ false → ⊥
    clash h k = cc

pub searched : (names : List (List ℕ)) (path : List ℕ) (r : Result ℕ ℕ) → ascends names ≡ true → IsSearchInRange r (length names) → IsBinarySearchResult (λ (f : List ℕ). slice_cmp nat_cmp f path) names r → is_ok r ≡ among path names
searched [] path (Ok i) a room found = absurd (omega arith)
searched (f ∷ names) path (Ok i) a room found =
    let is = (bytes_decides (get_or (f ∷ names) i f) path).0 (texts_ties (get_or (f ∷ names) i f) path ∙ ap is_eq (found f)) in
    sym (there (f ∷ names) path i f room is)
searched names path (Err i) a room parted =
    let parts = parted (searchable_from_sorted nat_list_cmp_total (λ (f : List ℕ). f) names path (names_sorted names a)) in
    sym (nowhere names path (λ k d lt. elim (cases_lt k i) [
      | inl before ↦ ap is_eq (parts.0 k d (omega arith) before)
      | inr behind ↦ ap is_eq (parts.1 k d behind lt)
    ]))

-- ---- rows

-- the row at a place has another path
abbrev pub IsNotAt : List Row → List ℕ → ℕ → Type 0
IsNotAt rows path k = (d : List ℕ) → is_eq (slice_cmp nat_cmp (get_or (row_paths rows) k d) path) ≡ false

rising : (names : List (List ℕ)) (path : List ℕ) → ascends names ≡ true → IsNonDecreasingBy (λ (f : List ℕ). ordering_index (slice_cmp nat_cmp f path)) names
rising names path a = searchable_from_sorted nat_list_cmp_total (λ (f : List ℕ). f) names path (names_sorted names a)

path-there : (rows : List Row) (i : ℕ) (r : Row) (d : List ℕ) → slice_get rows i ≡ Some r → get_or (row_paths rows) i d ≡ r.path
path-there rows i r d at = get_or_from_slice_get (row_paths rows) i r.path d (slice_get-map path_of rows i ∙ ap (option_map path_of) at)

less : (o : Ordering) → ordering_index o ≤ 0 → is_eq o ≡ false
less Less le = refl
less Equal le = absurd (omega arith)
less Greater le = absurd (omega arith)

greater : (o : Ordering) → 2 ≤ ordering_index o → is_eq o ≡ false
greater Less le = absurd (omega arith)
greater Equal le = absurd (omega arith)
greater Greater le = refl

-- one row is below the path: so are those before it
pub not-before : (rows : List Row) (path : List ℕ) (i k : ℕ) (r : Row) → ascends (row_paths rows) ≡ true → slice_get rows i ≡ Some r → i < length rows → k ≤ i → slice_cmp nat_cmp r.path path ≡ Less → IsNotAt rows path k
not-before rows path i k r a at lt le is d =
    let long : length (row_paths rows) ≡ length rows = length-map rows path_of in
    let here = ap (λ f. ordering_index (slice_cmp nat_cmp f path)) (path-there rows i r d at) ∙ ap ordering_index is in
    let up = rising (row_paths rows) path a k i d le (omega (arith, long, lt)) in
    less (slice_cmp nat_cmp (get_or (row_paths rows) k d) path) (omega (arith, here, up))

-- one row is above the path: so are those behind it
pub not-behind : (rows : List Row) (path : List ℕ) (i k : ℕ) (r : Row) → ascends (row_paths rows) ≡ true → slice_get rows i ≡ Some r → i ≤ k → k < length rows → slice_cmp nat_cmp r.path path ≡ Greater → IsNotAt rows path k
not-behind rows path i k r a at le lt is d =
    let long : length (row_paths rows) ≡ length rows = length-map rows path_of in
    let here = ap (λ f. ordering_index (slice_cmp nat_cmp f path)) (path-there rows i r d at) ∙ ap ordering_index is in
    let up = rising (row_paths rows) path a i k d le (omega (arith, long, lt)) in
    greater (slice_cmp nat_cmp (get_or (row_paths rows) k d) path) (omega (arith, here, up))

pub not-among : (rows : List Row) (path : List ℕ) → ((k : ℕ) → k < length rows → IsNotAt rows path k) → among path (row_paths rows) ≡ false
not-among rows path h = nowhere (row_paths rows) path (λ k d lt. h k (let long = length-map rows path_of in omega (arith, long, lt)) d)

pub no-row : (rows : List Row) (path : List ℕ) → among path (row_paths rows) ≡ false → find (λ (r : Row). same r.path path) rows ≡ None
no-row [] path e = refl
no-row (r ∷ rows) path e = by (same path r.path) refl e (no-row rows path)
  where
    other : same path r.path ≡ false → same r.path path ≡ false
    other e = false_from_ne_true (same r.path path) (λ h. never (sym e ∙ ap (λ t. same t r.path) (sym ((bytes_decides r.path path).0 h)) ∙ same-itself r.path))
      where
        never : false ≡ true → ⊥
        never h = cc

    by : (b : Bool) → same path r.path ≡ b → (b || among path (row_paths rows)) ≡ false → (among path (row_paths rows) ≡ false → find (λ (x : Row). same x.path path) rows ≡ None) → find (λ (x : Row). same x.path path) (r ∷ rows) ≡ None
    by true t h rec = cc
    by false t h rec = ap (λ b. cond b (Some r) (find (λ (x : Row). same x.path path) rows)) (other t) ∙ rec h

-- a row with the path is the one that is found
pub row-there : (rows : List Row) (path : List ℕ) (i : ℕ) (r : Row) → ascends (row_paths rows) ≡ true → slice_get rows i ≡ Some r → r.path ≡ path → find (λ (x : Row). same x.path path) rows ≡ Some r
row-there [] path i r a at is = absurd (none at)
  where
    none : None ≡ Some r → ⊥
    none h = cc
row-there (x ∷ rows) path zero r a at is =
    let here : x ≡ r = ap (elim [ None ↦ x | Some z ↦ z ]) at in
    ap (λ b. cond b (Some x) (find (λ (y : Row). same y.path path) rows)) ((bytes_decides x.path path).1 (ap path_of here ∙ is)) ∙ ap Some here
row-there (x ∷ []) path (suc i) r a at is = absurd (none at)
  where
    none : None ≡ Some r → ⊥
    none h = cc
row-there (x ∷ y ∷ rows) path (suc i) r a at is =
    ap (λ b. cond b (Some x) (find (λ (z : Row). same z.path path) (y ∷ rows))) other ∙ row-there (y ∷ rows) path i r parts.1 at is
  where
    parts : (is_below x.path y.path ≡ true) × (ascends (row_paths (y ∷ rows)) ≡ true)
    parts = both (is_below x.path y.path) (ascends (row_paths (y ∷ rows))) a

    tied : (o : Ordering) → is_eq o ≡ true → ordering_index o ≡ 1
    tied Less e = cc
    tied Equal e = refl
    tied Greater e = cc

    clash : x.path ≡ path → ⊥
    clash h =
        let above : slice_cmp nat_cmp y.path path ≡ Greater = nat_list_cmp_total.antisymm y.path path ∙ ap ordering_reverse (ap (λ p. slice_cmp nat_cmp p y.path) (sym h) ∙ lt_is (slice_cmp nat_cmp x.path y.path) parts.0) in
        let far = ap (λ f. ordering_index (slice_cmp nat_cmp f path)) (path-there (y ∷ rows) i r [] at) ∙ tied (slice_cmp nat_cmp r.path path) (sym (texts_ties r.path path) ∙ (bytes_decides r.path path).1 is) in
        let up = rising (row_paths (y ∷ rows)) path parts.1 0 i [] (omega arith) (let long = length-map (y ∷ rows) path_of in omega (arith, long, slice_get_within (y ∷ rows) i r at)) in
        let high = ap ordering_index above in
        omega (arith, far, up, high)

    other : same x.path path ≡ false
    other = false_from_ne_true (same x.path path) (λ h. clash ((bytes_decides x.path path).0 h))

-- the rows of a manifest's text ascend
above-last : (n : ℕ) (last : List ℕ) (ls : List Line) (rows : List Row) → value (rows_from n last ls) ≡ Some rows → ascends (last ∷ row_paths rows) ≡ true
above-last n last [] rows e = ap (λ r. ascends (last ∷ row_paths r)) (ap (elim [ None ↦ rows | Some z ↦ z ]) (sym e))
above-last n last (l ∷ ls) rows e = by (λ r more is. above-last (n + 1) r.path ls more (ap value is)) (row_at l) e
  where
    none : {A : Type 0} → (let o : Option (List Row) = None in o) ≡ Some rows → A
    none h = absurd (clash h)
      where
        clash : (let o : Option (List Row) = None in o) ≡ Some rows → ⊥
        clash k = cc

    Rest : Type 0
    Rest = (r : Row) (more : List Row) → rows_from (n + 1) r.path ls ≡ Ok more → ascends (r.path ∷ row_paths more) ≡ true

    behind : Rest → (r : Row) (found : Result (List Row) ManifestFault) → is_below last r.path ≡ true → rows_from (n + 1) r.path ls ≡ found → value (with_row r found) ≡ Some rows → ascends (last ∷ row_paths rows) ≡ true
    behind rest r (Err f) low is h = none h
    behind rest r (Ok more) low is h =
        ap (λ l. ascends (last ∷ row_paths l)) (ap (elim [ None ↦ rows | Some z ↦ z ]) (sym h))
        ∙ ap (λ b. b && ascends (r.path ∷ row_paths more)) low
        ∙ rest r more is

    with : Rest → (r : Row) (b : Bool) → is_below last r.path ≡ b → value (cond b (with_row r (rows_from (n + 1) r.path ls)) (Err (Order (n + 1)))) ≡ Some rows → ascends (last ∷ row_paths rows) ≡ true
    with rest r true low h = behind rest r (rows_from (n + 1) r.path ls) low refl h
    with rest r false low h = none h

    by : Rest → (o : Option Row) → value (row_then n last o (λ k path. rows_from k path ls)) ≡ Some rows → ascends (last ∷ row_paths rows) ≡ true
    by rest None h = none h
    by rest (Some r) h = with rest r (is_below last r.path) refl h

pub rows-ascend : (text : List ℕ) (rows : List Row) → value (read_manifest text) ≡ Some rows → ascends (row_paths rows) ≡ true
rows-ascend text [] e = refl
rows-ascend text (r ∷ rows) e = (both (is_below [] r.path) (ascends (row_paths (r ∷ rows))) (above-last 0 [] (lines_of text) (r ∷ rows) e)).1

pub tree-ascends : (revisions : List Revision) (trees : List (Option (List Row))) (rev : ℕ) (rows : List Row) → trees ≡ map rows_read revisions → slice_get trees rev ≡ Some (Some rows) → ascends (row_paths rows) ≡ true
tree-ascends revisions trees rev rows is at =
    let found = mapped-at rows_read revisions rev (Some rows) (ap (λ l. slice_get l rev) (sym is) ∙ at) in
    rows-ascend found.0.text rows (sym found.2)

pub row-among : (rows : List Row) (path : List ℕ) (i : ℕ) → option_map path_of (slice_get rows i) ≡ Some path → among path (row_paths rows) ≡ true
row-among [] path i e = cc
row-among (r ∷ rows) path zero e = ap (λ b. b || among path (row_paths rows)) (ap (same path) (ap (elim [ None ↦ r.path | Some p ↦ p ]) e) ∙ same-itself path)
row-among (r ∷ rows) path (suc i) e = or_true (same path r.path) (among path (row_paths rows)) (row-among rows path i e)
