-- The parts of the findings of a tree are all of them.
use Rattle.std.proofs.Common.{◌≡◌, ◌⊎◌, ℕ, zero, suc, ◌+◌, List, [], ◌∷◌, ◌++◌, Bool, true, false, cond, not, ◌||◌, map, length, refl, sym, ◌∙◌, ap, subst, inl, inr}
use Rattle.std.specs.Prelude.{Option, Some, None, Result, Ok, Err, is_some, is_none, option_map, unwrap_or, slice_get, find, filter, flat_map}
use Rattle.std.specs.List.{AllByRecursion, list_any}
use Rattle.std.specs.Cmp.Lexicographic.{bytes_decides, slice_cmp, texts_ties}
use Rattle.std.specs.declared.cmp.Ordering.{Ordering}
use Rattle.std.specs.declared.cmp.Ordering.TheVariants.{Less, Equal, Greater}
use Rattle.std.specs.Ordering.{nat_cmp, is_lt, is_eq}
use Rattle.std.proofs.lemmas.Cmp.{nat_list_cmp_total}
use Rattle.hgs_bytes.specs.Bytes.{same, among, is_below}
use Rattle.hgs_bytes.specs.Text.{Line as TextLine, lines_of}
use Rattle.hgs_files.specs.Tree.{Tree}
use Rattle.hgs_index.specs.declared.texts.ManifestFault.{ManifestFault}
use Rattle.hgs_index.specs.declared.texts.ManifestFault.TheVariants.{Line, Order}
use Rattle.hgs_index.specs.Manifest.{Row, read_manifest, rows_from, row_then, with_row, row_at}
use Rattle.hgs_index.specs.Revision.{Revision}
use Rattle.hgs_index.specs.TrackedPath.{is_tracked}
use Rattle.hgs_model.specs.History.{inserted, in_order, text_at}
use Rattle.hgs_path.specs.declared.name.Ext.TheVariants.{I, D}
use Rattle.hgs_path.specs.ListedNames.{listed_file}
use Rattle.hgs_findings.specs.Findings as findings
use Rattle.hgs_findings.specs.Findings.{Finding, IsFinding, IsReport, is_finding, rise, is_name_used, names_in}
use Rattle.hgs_findings.specs.Namings.{is_unneeded, is_misplaced, is_wrongly_made}
use Rattle.hgs_findings.specs.OnePath.{word_of, words, namings_of_words}
use Rattle.hgs_findings.specs.Reading.{the_changelog, the_manifest, the_filelog, sight_of}
use Rattle.hgs_findings.specs.Regular.{rows_of_seen, used_paths, is_used, has_file}
use Rattle.hgs_findings.specs.Sight.{Sight, Seen, value, place, row_paths, tracked_rows, has_null_manifest, rows_of, seen, seen_of, file_namings}
use Rattle.hgs_judge.specs.Found as judge
use Rattle.hgs_judge.specs.Words.{lacks_file, lacks_row, lacks_found}
use Rattle.hgs_report.specs.Adds.{Adds}
use Rattle.hgs_report.specs.Names as names
use Rattle.hgs_report.specs.Parts.{AreParts, IsOfAny, of_calls, of_store, of_roots, of_bookmarks, of_dirstate, of_names, of_unused, of_paths, of_lists}
use Rattle.hgs_report.specs.Parts as parts
use Rattle.hgs_report.specs.Store as store
use Rattle.hgs_report.specs.Texts as texts
use Rattle.hgs_report.proofs.EachLemmas.{never, in-front, in-back, this-is}
use Rattle.hgs_report.proofs.StoreLemmas.{mapped-at, at-mapped}

-- ---- rows whose paths ascend

pub same-itself : (x : List ℕ) → same x x ≡ true
same-itself x = (bytes_decides x x).1 refl

pub below-less : (o : Ordering) → is_lt o ≡ true → o ≡ Less
below-less Less e = refl
below-less Equal e = never (sym e)
below-less Greater e = never (sym e)

pub below-on : (x y z : List ℕ) → is_below x y ≡ true → is_below y z ≡ true → is_below x z ≡ true
below-on x y z a b = ap is_lt (nat_list_cmp_total.trans x y z (below-less (slice_cmp nat_cmp x y) a) (below-less (slice_cmp nat_cmp y z) b))

pub less-differs : (x y : List ℕ) → slice_cmp nat_cmp x y ≡ Less → same x y ≡ false
less-differs x y e = texts_ties x y ∙ ap is_eq e

pub below-differs : (x y : List ℕ) → is_below x y ≡ true → same x y ≡ false
below-differs x y a = less-differs x y (below-less (slice_cmp nat_cmp x y) a)

abbrev Above : List ℕ → List Row → Type 0
Above last [] = Unit {0}
Above last (r ∷ rows) = (is_below last r.path ≡ true) × Above r.path rows

no-value : {A F B : Type 0} (f : F) (x : A) → value (let r : Result A F = Err f in r) ≡ Some x → B
no-value f x e = absurd (clash e)
  where
    clash : None ≡ Some x → ⊥
    clash h = cc

rows-above : (n : ℕ) (last : List ℕ) (ls : List TextLine) (rows : List Row) → value (rows_from n last ls) ≡ Some rows → Above last rows
rows-above n last [] rows e = subst (Above last) (some-same [] rows e) tt
  where
    some-same : (a b : List Row) → Some a ≡ Some b → a ≡ b
    some-same a b h = ap (elim [ None ↦ a | Some z ↦ z ]) h
rows-above n last (l ∷ ls) rows e = by_row (row_at l) (λ r more g. rows-above (n + 1) r.path ls more g) e
  where
    some-same : (a b : List Row) → Some a ≡ Some b → a ≡ b
    some-same a b h = ap (elim [ None ↦ a | Some z ↦ z ]) h

    by_rest : (r : Row) → is_below last r.path ≡ true → (o : Result (List Row) ManifestFault) → ((more : List Row) → value o ≡ Some more → Above r.path more) → value (with_row r o) ≡ Some rows → Above last rows
    by_rest r b (Ok more) rec h = subst (Above last) (some-same (r ∷ more) rows h) (b, rec more refl)
    by_rest r b (Err f) rec h = no-value f rows h

    by_below : (r : Row) (b : Bool) → is_below last r.path ≡ b → (f : ManifestFault) → ((more : List Row) → value (rows_from (n + 1) r.path ls) ≡ Some more → Above r.path more) → value (cond b (with_row r (rows_from (n + 1) r.path ls)) (Err f)) ≡ Some rows → Above last rows
    by_below r true b f rec h = by_rest r b (rows_from (n + 1) r.path ls) rec h
    by_below r false b f rec h = no-value f rows h

    by_row : (o : Option Row) → ((r : Row) (more : List Row) → value (rows_from (n + 1) r.path ls) ≡ Some more → Above r.path more) → value (row_then n last o (λ k path. rows_from k path ls)) ≡ Some rows → Above last rows
    by_row None rec h = no-value (Line (n + 1)) rows h
    by_row (Some r) rec h = by_below r (is_below last r.path) refl (Order (n + 1)) (rec r) h

above-at : (last : List ℕ) (rows : List Row) (i : ℕ) (row : Row) → Above last rows → slice_get rows i ≡ Some row → is_below last row.path ≡ true
above-at last [] i row a at = absurd (clash at)
  where
    clash : None ≡ Some row → ⊥
    clash h = cc
above-at last (r ∷ rows) zero row a at = ap (λ (x : Row). is_below last x.path) (sym (some-same r row at)) ∙ a.0
  where
    some-same : (a b : Row) → Some a ≡ Some b → a ≡ b
    some-same a b h = ap (elim [ None ↦ a | Some z ↦ z ]) h
above-at last (r ∷ rows) (suc i) row a at = below-on last r.path row.path a.0 (above-at r.path rows i row a.1 at)

-- the rows that may be tracked ascend, too
tracked-above : (last : List ℕ) (rows : List Row) → Above last rows → Above last (tracked_rows rows)
tracked-above last [] a = tt
tracked-above last (r ∷ rows) a = by (is_tracked r.path) (tracked-above r.path rows a.1)
  where
    lower : (more : List Row) → Above r.path more → Above last more
    lower [] m = tt
    lower (x ∷ more) m = (below-on last r.path x.path a.0 m.0, m.1)

    by : (b : Bool) → Above r.path (tracked_rows rows) → Above last (cond b (r ∷ tracked_rows rows) (tracked_rows rows))
    by true rec = (a.0, rec)
    by false rec = lower (tracked_rows rows) rec

found-row : (last : List ℕ) (rows : List Row) (i : ℕ) (row : Row) → Above last rows → slice_get rows i ≡ Some row → find (λ (r : Row). same r.path row.path) rows ≡ Some row
found-row last [] i row a at = absurd (clash at)
  where
    clash : None ≡ Some row → ⊥
    clash h = cc
found-row last (r ∷ rows) zero row a at = ap (λ b. cond b (Some r) (find (λ (x : Row). same x.path row.path) rows)) (ap (λ (x : Row). same x.path row.path) (some-same r row at) ∙ same-itself row.path) ∙ at
  where
    some-same : (a b : Row) → Some a ≡ Some b → a ≡ b
    some-same a b h = ap (elim [ None ↦ a | Some z ↦ z ]) h
found-row last (r ∷ rows) (suc i) row a at = ap (λ b. cond b (Some r) (find (λ (x : Row). same x.path row.path) rows)) (below-differs r.path row.path (above-at r.path rows i row a.1 at)) ∙ found-row r.path rows i row a.1 at

seen-above : (s : Sight) (r : Revision) (rows : List Row) → (seen_of s r).rows ≡ Some rows → Above [] rows
seen-above s r rows e = by (seen_of s r).manifest e
  where
    some-same : (a b : List Row) → Some a ≡ Some b → a ≡ b
    some-same a b h = ap (elim [ None ↦ a | Some z ↦ z ]) h

    clash : {A : Type 0} → (let o : Option (List Row) = None in o) ≡ Some rows → A
    clash h = absurd (no_rows h)
      where
        no_rows : (let o : Option (List Row) = None in o) ≡ Some rows → ⊥
        no_rows k = cc

    of_null : (b : Bool) → cond b (Some []) None ≡ Some rows → Above [] rows
    of_null true h = subst (Above []) (some-same [] rows h) tt
    of_null false h = clash h

    of_text : (o : Option (List Row)) → ((x : List Row) → o ≡ Some x → Above [] x) → option_map tracked_rows o ≡ Some rows → Above [] rows
    of_text None f h = clash h
    of_text (Some x) f h = subst (Above []) (some-same (tracked_rows x) rows h) (tracked-above [] x (f x refl))

    by : (m : Option ℕ) → rows_of s (seen_of s r).change m ≡ Some rows → Above [] rows
    by None h = of_null (has_null_manifest (seen_of s r).change) h
    by (Some m) h = of_text (value (read_manifest (text_at s.manifest m))) (λ x g. rows-above 0 [] (lines_of (text_at s.manifest m)) x g) h

-- ---- the paths that are used

among-inserted : (p x : List ℕ) (ys : List (List ℕ)) → among p (inserted x ys) ≡ (same p x || among p ys)
among-inserted p x [] = refl
among-inserted p x (y ∷ ys) = by (same x y) refl (is_below x y) (among-inserted p x ys)
  where
    turn : (a b c : Bool) → (a || (b || c)) ≡ (b || (a || c))
    turn true true c = refl
    turn true false c = refl
    turn false b c = refl

    twice : (a c : Bool) → (a || c) ≡ (a || (a || c))
    twice true c = refl
    twice false c = refl

    by : (a : Bool) → same x y ≡ a → (b : Bool) → among p (inserted x ys) ≡ (same p x || among p ys) → among p (cond a (y ∷ ys) (cond b (x ∷ y ∷ ys) (y ∷ inserted x ys))) ≡ (same p x || (same p y || among p ys))
    by true e b rec = twice (same p y) (among p ys) ∙ ap (λ z. same p z || (same p y || among p ys)) (sym ((bytes_decides x y).0 e))
    by false e true rec = refl
    by false e false rec = ap (λ z. same p y || z) rec ∙ turn (same p y) (same p x) (among p ys)

pub among-ordered : (p : List ℕ) (xs : List (List ℕ)) → among p (in_order xs) ≡ among p xs
among-ordered p [] = refl
among-ordered p (x ∷ xs) = among-inserted p x (in_order xs) ∙ ap (λ b. same p x || b) (among-ordered p xs)

among-back : (p : List ℕ) (xs ys : List (List ℕ)) → among p ys ≡ true → among p (xs ++ ys) ≡ true
among-back p [] ys e = e
among-back p (x ∷ xs) ys e = by (same p x) (among-back p xs ys e)
  where
    by : (b : Bool) → among p (xs ++ ys) ≡ true → (b || among p (xs ++ ys)) ≡ true
    by true rec = refl
    by false rec = rec

among-front : (p : List ℕ) (xs ys : List (List ℕ)) → among p xs ≡ true → among p (xs ++ ys) ≡ true
among-front p [] ys e = never (sym e)
among-front p (x ∷ xs) ys e = by (same p x) e (among-front p xs ys)
  where
    by : (b : Bool) → (b || among p xs) ≡ true → (among p xs ≡ true → among p (xs ++ ys) ≡ true) → (b || among p (xs ++ ys)) ≡ true
    by true h rec = refl
    by false h rec = rec h

among-all : (p : List ℕ) (all : List Seen) (i : ℕ) (c : Seen) → slice_get all i ≡ Some c → among p (row_paths (rows_of_seen c)) ≡ true → among p (flat_map (λ x. row_paths (rows_of_seen x)) all) ≡ true
among-all p [] i c at e = absurd (clash at)
  where
    clash : None ≡ Some c → ⊥
    clash h = cc
among-all p (x ∷ all) zero c at e = among-front p (row_paths (rows_of_seen x)) (flat_map (λ y. row_paths (rows_of_seen y)) all) (ap (λ y. among p (row_paths (rows_of_seen y))) (some-same x c at) ∙ e)
  where
    some-same : (a b : Seen) → Some a ≡ Some b → a ≡ b
    some-same a b h = ap (elim [ None ↦ a | Some z ↦ z ]) h
among-all p (x ∷ all) (suc i) c at e = among-back p (row_paths (rows_of_seen x)) (flat_map (λ y. row_paths (rows_of_seen y)) all) (among-all p all i c at e)

-- a path of a tree is used
pub used-in : (s : Sight) (p : List ℕ) (i : ℕ) (c : Seen) → slice_get (seen s) i ≡ Some c → among p (row_paths (rows_of_seen c)) ≡ true → is_used s p ≡ true
used-in s p i c at e = among-ordered p (flat_map (λ x. row_paths (rows_of_seen x)) (seen s)) ∙ among-all p (seen s) i c at e

row-there : (rows : List Row) (i : ℕ) (row : Row) → slice_get rows i ≡ Some row → among row.path (row_paths rows) ≡ true
row-there [] i row at = absurd (clash at)
  where
    clash : None ≡ Some row → ⊥
    clash h = cc
row-there (r ∷ rows) zero row at = ap (λ (x : Row). same row.path x.path || among row.path (row_paths rows)) (some-same r row at) ∙ ap (λ b. b || among row.path (row_paths rows)) (same-itself row.path)
  where
    some-same : (a b : Row) → Some a ≡ Some b → a ≡ b
    some-same a b h = ap (elim [ None ↦ a | Some z ↦ z ]) h
row-there (r ∷ rows) (suc i) row at = by (same row.path r.path) (row-there rows i row at)
  where
    by : (b : Bool) → among row.path (row_paths rows) ≡ true → (b || among row.path (row_paths rows)) ≡ true
    by true rec = refl
    by false rec = rec

-- ---- each finding is of a part

missing : {A : Type 0} (o : Option A) → is_some o ≡ false → is_none o ≡ true
missing None e = refl
missing (Some x) e = never e

no-file : (t : Tree) (rev : ℕ) (c : Seen) (row : Row) (i : ℕ) → slice_get (seen (sight_of t)) rev ≡ Some c → slice_get (rows_of_seen c) i ≡ Some row → has_file (sight_of t) row ≡ false → lacks_file ((sight_of t).filelog row.path) (word_of row.path c) ≡ true
no-file t rev c row i at stands lack =
    let r = mapped-at (seen_of (sight_of t)) (sight_of t).changelog rev c at in
    by r.0 r.2 c.rows refl stands
  where
    by : (r : Revision) → c ≡ seen_of (sight_of t) r → (o : Option (List Row)) → c.rows ≡ o → slice_get (unwrap_or o []) i ≡ Some row → lacks_found ((sight_of t).filelog row.path) (option_map (λ rows. find (λ (x : Row). same x.path row.path) rows) o) ≡ true
    by r is None e g = absurd (clash g)
      where
        clash : None ≡ Some row → ⊥
        clash h = cc
    by r is (Some rows) e g =
        ap (lacks_row ((sight_of t).filelog row.path)) (found-row [] rows i row (seen-above (sight_of t) r rows (ap (λ (x : Seen). x.rows) (sym is) ∙ e)) g)
        ∙ missing (place ((sight_of t).filelog row.path) row.node) lack

abbrev pub OneNamings : Type 0
OneNamings = (s : Sight) (path : List ℕ) → file_namings s path ≡ namings_of_words (s.filelog path) (words s path)

nothing-there : {A : Type 0} (r : Revision) (rev : ℕ) → slice_get [] rev ≡ Some r → A
nothing-there r rev e = absurd (clash e)
  where
    clash : None ≡ Some r → ⊥
    clash h = cc

among-files : (names : List (List ℕ)) (f : List ℕ → Bool) (name : List ℕ) → among name names ≡ true → f name ≡ true → among (listed_file name) (map listed_file (filter f names)) ≡ true
among-files [] f name e h = never (sym e)
among-files (x ∷ names) f name e h = by (same name x) refl e (f x) refl (λ g. among-files names f name g h)
  where
    deep : (c : Bool) → among (listed_file name) (map listed_file (filter f names)) ≡ true → among (listed_file name) (map listed_file (cond c (x ∷ filter f names) (filter f names))) ≡ true
    deep true g = or-true (same (listed_file name) (listed_file x)) g
      where
        or-true : (b : Bool) → among (listed_file name) (map listed_file (filter f names)) ≡ true → (b || among (listed_file name) (map listed_file (filter f names))) ≡ true
        or-true true k = refl
        or-true false k = k
    deep false g = g

    by : (b : Bool) → same name x ≡ b → (b || among name names) ≡ true → (c : Bool) → f x ≡ c → (among name names ≡ true → among (listed_file name) (map listed_file (filter f names)) ≡ true) → among (listed_file name) (map listed_file (cond c (x ∷ filter f names) (filter f names))) ≡ true
    by true s g true k rec = ap (λ b. b || among (listed_file name) (map listed_file (filter f names))) (ap (λ z. same (listed_file name) (listed_file z)) (sym ((bytes_decides name x).0 s)) ∙ same-itself (listed_file name))
    by true s g false k rec = never (sym h ∙ ap f ((bytes_decides name x).0 s) ∙ k)
    by false s g c k rec = deep c (rec g)

pub any-part : OneNamings → (t : Tree) (file : List ℕ) (rev : Option ℕ) (kind : ℕ) → IsFinding t file rev kind → IsOfAny t file rev kind
any-part one t _ _ _ (findings.journal h) = of_calls (parts.journal h)
any-part one t _ _ _ (findings.lock path a h) = of_calls (parts.lock path a h)
any-part one t _ _ _ (findings.fault the_changelog l h) = of_store (store.changelog_fault h)
any-part one t _ _ _ (findings.fault the_manifest l h) = of_store (store.manifest_fault h)
any-part one t _ _ _ (findings.fault (the_filelog path) l h) = of_paths (parts.found path _ _ _ l (judge.fault h) refl)
any-part one t _ _ _ (findings.bad_roots h) = of_roots (texts.bad_roots h)
any-part one t _ _ _ (findings.bad_bookmarks h) = of_bookmarks (texts.bad_bookmarks h)
any-part one t _ _ _ (findings.bad_dirstate h) = of_dirstate (texts.bad_dirstate h)
any-part one t _ _ _ (findings.bad_fncache h) = of_names (inl (inl (names.bad_list h)))
any-part one t _ _ _ (findings.bad_changeset rev r at h) = of_store (store.bad_changeset rev r at h)
any-part one t _ _ _ (findings.bad_manifest rev r at h) = of_store (store.bad_manifest rev r at h)
any-part one t _ _ _ (findings.no_manifest rev c at a b) = of_store (store.no_manifest rev c at a b)
any-part one t _ _ _ (findings.no_file rev c row i at stands lack) =
    of_paths (parts.found row.path _ _ _ (used-in (sight_of t) row.path rev c at (row-there (rows_of_seen c) i row stands))
    (judge.lacking rev (word_of row.path c) (at-mapped (word_of row.path) (seen (sight_of t)) rev c at) (no-file t rev c row i at stands lack)) refl)
any-part one t _ _ _ (findings.unneeded the_changelog rev r l at h) = nothing-there r rev at
any-part one t _ _ _ (findings.unneeded the_manifest rev r l at h) = of_store (store.unneeded rev r at h)
any-part one t _ _ _ (findings.unneeded (the_filelog path) rev r l at h) = of_paths (parts.found path _ _ _ l (judge.unneeded rev r at (ap (λ x. is_unneeded x rev) (sym (one (sight_of t) path)) ∙ h)) refl)
any-part one t _ _ _ (findings.other_link rev r at h) = of_store (store.other_link rev r at h)
any-part one t _ _ _ (findings.misplaced the_changelog rev r l at h) = nothing-there r rev at
any-part one t _ _ _ (findings.misplaced the_manifest rev r l at h) = of_store (store.misplaced rev r at h)
any-part one t _ _ _ (findings.misplaced (the_filelog path) rev r l at h) = of_paths (parts.found path _ _ _ l (judge.misplaced rev r at (ap (λ x. is_misplaced x rev r.link) (sym (one (sight_of t) path)) ∙ h)) refl)
any-part one t _ _ _ (findings.wrongly_made the_changelog rev r l at h) = nothing-there r rev at
any-part one t _ _ _ (findings.wrongly_made the_manifest rev r l at h) = of_store (store.wrongly_made rev r at h)
any-part one t _ _ _ (findings.wrongly_made (the_filelog path) rev r l at h) = of_paths (parts.found path _ _ _ l (judge.wrongly_made rev r at (ap (λ x. is_wrongly_made x rev r.parents) (sym (one (sight_of t) path)) ∙ h)) refl)
any-part one t _ _ _ (findings.wrongly_listed rev c v path at change h) = of_lists (parts.wrong rev (record { c = c; v = v; path = path; at = at; change = change; wrong = h }))
any-part one t _ _ _ (findings.not_listed path I listed l f a h) = of_names (inl (inr (names.not_listed path listed l f a h)))
any-part one t _ _ _ (findings.not_listed path D listed l f a h) = of_names (inr (names.not_listed path listed l f a h))
any-part one t _ _ _ (findings.one_name path other I a b d h) = of_names (inl (inr (names.one_name path other a b d h)))
any-part one t _ _ _ (findings.one_name path other D a b d h) = of_names (inr (names.one_name path other a b d h))
any-part one t _ _ _ (findings.not_used name a b h) = of_unused (names.standing (listed_file name) (among-files (names_in t) (λ x. not (is_name_used (sight_of t) x)) name a (ap not h)) b)
any-part one t _ _ _ (findings.unknown_root n root at h) = of_roots (texts.unknown_root n root at h)
any-part one t _ _ _ (findings.unknown_mark n mark at h) = of_bookmarks (texts.unknown_mark n mark at h)
any-part one t _ _ _ (findings.unknown_parent h) = of_dirstate (texts.unknown_parent h)
any-part one t _ _ _ (findings.other_paths d said h) = of_dirstate (texts.other_paths d said h)
any-part one t _ _ _ (findings.index_rest the_changelog l h) = of_store (store.changelog_index_rest h)
any-part one t _ _ _ (findings.index_rest the_manifest l h) = of_store (store.manifest_index_rest h)
any-part one t _ _ _ (findings.index_rest (the_filelog path) l h) = of_paths (parts.found path _ _ _ l (judge.index_rest h) refl)
any-part one t _ _ _ (findings.data_rest the_changelog l h) = of_store (store.changelog_data_rest h)
any-part one t _ _ _ (findings.data_rest the_manifest l h) = of_store (store.manifest_data_rest h)
any-part one t _ _ _ (findings.data_rest (the_filelog path) l h) = of_paths (parts.found path _ _ _ l (judge.data_rest h) refl)

-- ---- the report

-- what stands at a part's end stands at the end of all
abbrev Kept : List Finding → List Finding → Type 0
Kept old new = (file : List ℕ) (rev : Option ℕ) (kind : ℕ) → list_any (is_finding file rev kind) old ≡ true → list_any (is_finding file rev kind) new ≡ true

abbrev Founds : Tree → List Finding → Type 0
Founds t list = (file : List ℕ) (rev : Option ℕ) (kind : ℕ) → list_any (is_finding file rev kind) list ≡ true → IsFinding t file rev kind

one-more : (t : Tree) (IsPart : List ℕ → Option ℕ → ℕ → Type 0) (old new : List Finding) → Founds t old → Adds t IsPart old new → Founds t new
one-more t IsPart old new f a file rev kind h = by (a.are file rev kind h)
  where
    by : (list_any (is_finding file rev kind) old ≡ true) ⊎ IsFinding t file rev kind → IsFinding t file rev kind
    by (inl g) = f file rev kind g
    by (inr g) = g

none-there : (t : Tree) → Founds t []
none-there t file rev kind h = never (sym h)

all-founds : (t : Tree) (all : List Finding) → AreParts t all → Founds t all
all-founds t all p =
    one-more t (parts.IsOfLists t) p.judged all (one-more t (parts.IsOfPaths t) p.used p.judged (one-more t (names.IsOfUnused t) p.named p.used (one-more t (names.IsOfNames t) p.tracked p.named
    (one-more t (texts.IsOfDirstate t) p.marked p.tracked (one-more t (texts.IsOfBookmarks t) p.rooted p.marked (one-more t (texts.IsOfRoots t) p.read p.rooted (one-more t (store.IsOfStore t) p.called p.read
    (one-more t (parts.IsOfCalls t) [] p.called (none-there t) p.calls) p.store) p.roots) p.bookmarks) p.dirstate) p.names) p.unused) p.paths) p.lists

all-there : (t : Tree) (all : List Finding) → AreParts t all → (file : List ℕ) (rev : Option ℕ) (kind : ℕ) → IsOfAny t file rev kind → list_any (is_finding file rev kind) all ≡ true
all-there t all p file rev kind = by
  where
    from_judged : list_any (is_finding file rev kind) p.judged ≡ true → list_any (is_finding file rev kind) all ≡ true
    from_judged h = p.lists.kept file rev kind h

    from_used : list_any (is_finding file rev kind) p.used ≡ true → list_any (is_finding file rev kind) all ≡ true
    from_used h = from_judged (p.paths.kept file rev kind h)

    from_named : list_any (is_finding file rev kind) p.named ≡ true → list_any (is_finding file rev kind) all ≡ true
    from_named h = from_used (p.unused.kept file rev kind h)

    from_tracked : list_any (is_finding file rev kind) p.tracked ≡ true → list_any (is_finding file rev kind) all ≡ true
    from_tracked h = from_named (p.names.kept file rev kind h)

    from_marked : list_any (is_finding file rev kind) p.marked ≡ true → list_any (is_finding file rev kind) all ≡ true
    from_marked h = from_tracked (p.dirstate.kept file rev kind h)

    from_rooted : list_any (is_finding file rev kind) p.rooted ≡ true → list_any (is_finding file rev kind) all ≡ true
    from_rooted h = from_marked (p.bookmarks.kept file rev kind h)

    from_read : list_any (is_finding file rev kind) p.read ≡ true → list_any (is_finding file rev kind) all ≡ true
    from_read h = from_rooted (p.roots.kept file rev kind h)

    by : IsOfAny t file rev kind → list_any (is_finding file rev kind) all ≡ true
    by (of_calls h) = from_read (p.store.kept file rev kind (p.calls.all file rev kind h))
    by (of_store h) = from_read (p.store.all file rev kind h)
    by (of_roots h) = from_rooted (p.roots.all file rev kind h)
    by (of_bookmarks h) = from_marked (p.bookmarks.all file rev kind h)
    by (of_dirstate h) = from_tracked (p.dirstate.all file rev kind h)
    by (of_names h) = from_named (p.names.all file rev kind h)
    by (of_unused h) = from_used (p.unused.all file rev kind h)
    by (of_paths h) = from_judged (p.paths.all file rev kind h)
    by (of_lists h) = p.lists.all file rev kind h

each-found : (t : Tree) (list : List Finding) → Founds t list → AllByRecursion (λ (f : Finding). IsFinding t f.path f.rev f.kind) list
each-found t [] f = tt
each-found t (x ∷ list) f = (f x.path x.rev x.kind (in-front (is_finding x.path x.rev x.kind) (x ∷ []) list (this-is x.path x.rev x.kind)), each-found t list (λ file rev kind h. f file rev kind (in-back (is_finding file rev kind) (x ∷ []) list h)))

pub report-made : OneNamings → (t : Tree) (all ordered : List Finding) → AreParts t all → rise ordered ≡ true → ((path : List ℕ) (rev : Option ℕ) (kind : ℕ) → list_any (is_finding path rev kind) ordered ≡ list_any (is_finding path rev kind) all)
    → IsReport t ordered (length (sight_of t).changelog) (length (used_paths (sight_of t)))
report-made one t all ordered p rises same = record {
  ordered = rises;
  found = each-found t ordered (λ file rev kind h. all-founds t all p file rev kind (sym (same file rev kind) ∙ h));
  complete = λ path rev kind x. same path rev kind ∙ all-there t all p path rev kind (any-part one t path rev kind x);
  changeset_count = refl;
  filelog_count = refl;
}
