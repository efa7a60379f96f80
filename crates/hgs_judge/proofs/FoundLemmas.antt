-- What is found of a path is a finding of the tree.
use Rattle.std.proofs.Common.{◌≡◌, ℕ, suc, List, [], ◌∷◌, Bool, true, false, cond, refl, sym, ◌∙◌, ap, subst}
use Rattle.std.specs.Prelude.{Option, Some, None, is_none, is_some, option_map, unwrap_or, slice_get, find}
use Rattle.std.specs.Cmp.Lexicographic.{bytes_decides}
use Rattle.hgs_bytes.specs.Bytes.{same, among}
use Rattle.hgs_files.specs.Tree.{Tree}
use Rattle.hgs_index.specs.ChangeText.{Change}
use Rattle.hgs_index.specs.Manifest.{Row}
use Rattle.hgs_path.specs.declared.name.Ext.TheVariants.{I}
use Rattle.hgs_path.specs.StoreName.{store_name}
use Rattle.hgs_stands.specs.Places.{changelog_index}
use Rattle.hgs_findings.specs.Findings as findings
use Rattle.hgs_findings.specs.Findings.{IsFinding}
use Rattle.hgs_findings.specs.Namings.{is_unneeded, is_misplaced, is_wrongly_made}
use Rattle.hgs_findings.specs.OnePath.{word_of, words, namings_of_words, lists_word_wrongly}
use Rattle.hgs_findings.specs.Reading.{the_filelog, sight_of}
use Rattle.hgs_findings.specs.Regular.{is_used}
use Rattle.hgs_findings.specs.Sight.{Sight, Seen, place, seen, file_namings, is_wrongly_listed}
use Rattle.hgs_judge.specs.Found.{fault, lacking, unneeded, misplaced, wrongly_made, listed_wrongly, index_rest, data_rest, IsFoundOf}
use Rattle.hgs_judge.specs.Words.{where_listed, is_listed_wrongly, lacks_row, lacks_found, lacks_file}
use Rattle.hgs_judge.proofs.Basics.{never}
use Rattle.hgs_judge.proofs.ChangesetLemmas.{mapped-at}

abbrev pub OnePath : Type 0
OnePath = ((s : Sight) (path : List ℕ) → file_namings s path ≡ namings_of_words (s.filelog path) (words s path))
    × ((s : Sight) (path : List ℕ) (c : Seen) (v : Change) → is_wrongly_listed s path (seen s) c v ≡ lists_word_wrongly (s.filelog path) (words s path) (word_of path c) (among path v.files))

-- a row that is found stands among the rows, with this path
record Stands (path : List ℕ) (rows : List Row) (row : Row) : Type 0 where
  i : ℕ
  at : slice_get rows i ≡ Some row
  path_is : row.path ≡ path

stands : (path : List ℕ) (rows : List Row) (row : Row) → find (λ (r : Row). same r.path path) rows ≡ Some row → Stands path rows row
stands path [] row e = absurd (no_row e)
  where
    no_row : None ≡ Some row → ⊥
    no_row h = cc
stands path (r ∷ rows) row e = by (same r.path path) refl (stands path rows row) e
  where
    some-row : (a b : Row) → Some a ≡ Some b → a ≡ b
    some-row a b h = ap (elim [ None ↦ a | Some z ↦ z ]) h

    by : (b : Bool) → same r.path path ≡ b → (find (λ (x : Row). same x.path path) rows ≡ Some row → Stands path rows row) → cond b (Some r) (find (λ (x : Row). same x.path path) rows) ≡ Some row → Stands path (r ∷ rows) row
    by true t rec h = let is = some-row r row h in record { i = 0; at = ap Some is; path_is = sym (ap (λ (x : Row). x.path) is) ∙ (bytes_decides r.path path).0 t }
    by false t rec h = let s = rec h in record { i = suc s.i; at = s.at; path_is = s.path_is }

-- a changeset whose tree has there what the filelog lacks
lacking-row : (t : Tree) (path : List ℕ) (rev : ℕ) (c : Seen) → slice_get (seen (sight_of t)) rev ≡ Some c → lacks_file ((sight_of t).filelog path) (word_of path c) ≡ true → IsFinding t (store_name path I) (Some rev) 5
lacking-row t path rev c at h = by c.rows refl h
  where
    none_so : (o : Option ℕ) → is_none o ≡ true → is_some o ≡ false
    none_so None e = refl
    none_so (Some n) e = never (sym e)

    by_row : (rows : List Row) → c.rows ≡ Some rows → (o : Option Row) → find (λ (r : Row). same r.path path) rows ≡ o → lacks_row ((sight_of t).filelog path) o ≡ true → IsFinding t (store_name path I) (Some rev) 5
    by_row rows are None e k = never (sym k)
    by_row rows are (Some row) e k =
        let s = stands path rows row e in
        subst (λ p. IsFinding t (store_name p I) (Some rev) 5) s.path_is
        (findings.no_file rev c row s.i at (ap (λ (o : Option (List Row)). slice_get (unwrap_or o []) s.i) are ∙ s.at)
        (none_so (place ((sight_of t).filelog row.path) row.node) (ap (λ p. is_none (place ((sight_of t).filelog p) row.node)) s.path_is ∙ k)))

    by : (o : Option (List Row)) → c.rows ≡ o → lacks_found ((sight_of t).filelog path) (option_map (λ rows. find (λ (r : Row). same r.path path) rows) o) ≡ true → IsFinding t (store_name path I) (Some rev) 5
    by None are k = never (sym k)
    by (Some rows) are k = by_row rows are (find (λ (r : Row). same r.path path) rows) refl k

-- a changeset whose list is wrong at the path
wrong-list : OnePath → (t : Tree) (path : List ℕ) (rev : ℕ) (c : Seen) → slice_get (seen (sight_of t)) rev ≡ Some c → is_listed_wrongly ((sight_of t).filelog path) (words (sight_of t) path) (word_of path c) ≡ true → IsFinding t changelog_index (Some rev) 9
wrong-list one t path rev c at h = by c.change refl h
  where
    by : (o : Option Change) → c.change ≡ o → where_listed (option_map (λ (v : Change). among path v.files) o) (lists_word_wrongly ((sight_of t).filelog path) (words (sight_of t) path) (word_of path c)) ≡ true → IsFinding t changelog_index (Some rev) 9
    by None are k = never (sym k)
    by (Some v) are k = findings.wrongly_listed rev c v path at are (one.1 (sight_of t) path c v ∙ k)

pub found-are : OnePath → (t : Tree) (path : List ℕ) → is_used (sight_of t) path ≡ true → (file : List ℕ) (rev : Option ℕ) (kind : ℕ) → IsFoundOf t path file rev kind → IsFinding t file rev kind
found-are one t path used _ _ _ (fault broken) = findings.fault (the_filelog path) used broken
found-are one t path used _ _ _ (lacking rev w at h) =
    let c = mapped-at (word_of path) (seen (sight_of t)) rev w at in
    lacking-row t path rev c.0 c.1 (ap (lacks_file ((sight_of t).filelog path)) (sym c.2) ∙ h)
found-are one t path used _ _ _ (unneeded rev r at h) = findings.unneeded (the_filelog path) rev r used at (ap (λ l. is_unneeded l rev) (one.0 (sight_of t) path) ∙ h)
found-are one t path used _ _ _ (misplaced rev r at h) = findings.misplaced (the_filelog path) rev r used at (ap (λ l. is_misplaced l rev r.link) (one.0 (sight_of t) path) ∙ h)
found-are one t path used _ _ _ (wrongly_made rev r at h) = findings.wrongly_made (the_filelog path) rev r used at (ap (λ l. is_wrongly_made l rev r.parents) (one.0 (sight_of t) path) ∙ h)
found-are one t path used _ _ _ (listed_wrongly rev w at h) =
    let c = mapped-at (word_of path) (seen (sight_of t)) rev w at in
    wrong-list one t path rev c.0 c.1 (ap (is_listed_wrongly ((sight_of t).filelog path) (words (sight_of t) path)) (sym c.2) ∙ h)
found-are one t path used _ _ _ (index_rest h) = findings.index_rest (the_filelog path) used h
found-are one t path used _ _ _ (data_rest h) = findings.data_rest (the_filelog path) used h
