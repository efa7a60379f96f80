-- The files of a changeset, as its manifest and their filelogs have them.
use Rattle.std.proofs.Common.{◌≡◌, ℕ, ◌<◌, List, [], ◌∷◌, ◌++◌, Bool, true, false, cond, length, map, refl, sym, ◌∙◌, ap, subst, arith}
use Rattle.std.specs.Prelude.{Option, Some, None, IfSome, find, is_some, unwrap_or}
use Rattle.std.specs.List.{AllByRecursion, AllZip}
use Rattle.hgs_bytes.specs.Bytes.{same, IsPrefixOf}
use Rattle.hgs_bytes.specs.Theorems.ByteLemmas.{same-eq}
use Rattle.hgs_index.specs.FileText.{body_of, prefix_of}
use Rattle.hgs_index.specs.Theorems.FileTextLemmas.{unpacked-joins}
use Rattle.hgs_index.specs.Manifest.{Row}
use Rattle.hgs_index.specs.Revision.{Revision, Parents, with_revision, number_of}
use Rattle.hgs_model.specs.Held.{IsPlacedIn}
use Rattle.hgs_model.specs.Repo.{TreeFile, Changeset, file_text}
use Rattle.hgs_model.specs.History.{History, kept, kept_of, file_parents, file_revision, rev_of_file, log_with_file, filelog_with, row_of, rows_of, text_at}
use Rattle.hgs_model.specs.IsRepo.{HasKeptPrefix, IsNextChangeset}
use Rattle.hgs_model.specs.Theorems.CountLemmas.{IsSound, IsBelow, number-below, file-revision-below, found-self}
use Rattle.hgs_model.specs.Theorems.ListLemmas.{some-same, none-some}
use Rattle.hgs_model.specs.Theorems.ListedLemmas.{front-below, text_at-front, node_at-front, number-text}

-- ---- a file that is kept has the text of its revision

abbrev IsKept : List Revision → Parents → List ℕ → ℕ → Type 0
IsKept log parents body rev = (rev < length log) × (body_of (text_at log rev) ≡ body)

kept-is : (log : List Revision) (a b : Option ℕ) (body : List ℕ) (rev : ℕ) → IsBelow a (length log) → kept_of log a b body ≡ Some rev → IsKept log (a, b) body rev
kept-is log None b body rev p e = none-some rev e
kept-is log (Some a) (Some b) body rev p e = none-some rev e
kept-is log (Some a) None body rev p e = by (same (body_of (text_at log a)) body) refl e
  where
    by : (z : Bool) → same (body_of (text_at log a)) body ≡ z → cond z (Some a) None ≡ Some rev → IsKept log (Some a, None) body rev
    by true s h = subst (IsKept log (Some a, None) body) (some-same 0 a rev h) (p, same-eq (body_of (text_at log a)) body s)
    by false s h = none-some rev h

-- what the filelog of a file's path has with the changeset
pub record HasText (h : History) (c : Changeset) (f : TreeFile) : Type 0 where
  pub below : rev_of_file h c f < length (filelog_with h c f.path)
  pub text : text_at (filelog_with h c f.path) (rev_of_file h c f) ≡ file_text f

file-text : (h : History) (c : Changeset) (f : TreeFile) → IsSound h → HasKeptPrefix h c f → find (λ (g : TreeFile). same g.path f.path) c.tree ≡ Some f → HasText h c f
file-text h c f s prefix found = by (kept h c.parents f.path f.body) refl prefix
  where
    log : List Revision
    log = h.filelog f.path

    with_file : (o : Option ℕ) → kept h c.parents f.path f.body ≡ o → filelog_with h c f.path ≡ cond (is_some o) (h.filelog f.path) (with_revision (h.filelog f.path) (file_revision h c f))
    with_file o k = ap (λ x. log_with_file h c x (h.filelog f.path)) found ∙ ap (λ x. cond (is_some x) (h.filelog f.path) (with_revision (h.filelog f.path) (file_revision h c f))) k

    number : (o : Option ℕ) → kept h c.parents f.path f.body ≡ o → rev_of_file h c f ≡ unwrap_or o (number_of (h.filelog f.path) (file_text f) (file_parents h c.parents f.path))
    number o k = ap (λ x. unwrap_or x (number_of (h.filelog f.path) (file_text f) (file_parents h c.parents f.path))) k

    joined : (l : List Revision) (n : ℕ) → filelog_with h c f.path ≡ l → rev_of_file h c f ≡ n → n < length l → text_at l n ≡ file_text f → HasText h c f
    joined l n e k lt t = record {
      below = subst (λ x. rev_of_file h c f < length x) (sym e) (omega (arith, k, lt));
      text = ap (λ x. text_at x (rev_of_file h c f)) e ∙ ap (text_at l) k ∙ t;
    }

    by : (o : Option ℕ) → kept h c.parents f.path f.body ≡ o → IfSome o (λ rev. f.prefix ≡ prefix_of (text_at (h.filelog f.path) rev)) → HasText h c f
    by None k p = joined (with_revision (h.filelog f.path) (file_revision h c f)) (number_of (h.filelog f.path) (file_text f) (file_parents h c.parents f.path)) (with_file None k) (number None k) (number-below (h.filelog f.path) (file_revision h c f)) (number-text (h.filelog f.path) (file_revision h c f))
    by (Some rev) k p =
        let is = kept-is (h.filelog f.path) (file_parents h c.parents f.path).0 (file_parents h c.parents f.path).1 f.body rev (file-revision-below h c.parents f.path s).first k in
        joined (h.filelog f.path) rev (with_file (Some rev) k) (number (Some rev) k) is.0
        (sym (unpacked-joins (text_at (h.filelog f.path) rev)) ∙ ap (λ x. x ++ body_of (text_at (h.filelog f.path) rev)) (sym p) ∙ ap (λ x. f.prefix ++ x) is.1)

-- ---- the rows of a changeset

rows-placed : (h : History) (c : Changeset) (tree : List TreeFile) → IsSound h → AllByRecursion (HasKeptPrefix h c) tree → AllByRecursion (λ (f : TreeFile). find (λ (g : TreeFile). same g.path f.path) c.tree ≡ Some f) tree
    → AllZip (IsPlacedIn (filelog_with h c)) tree (map (row_of (filelog_with h c)) (map (λ (f : TreeFile). record { path = f.path; flag = f.flag; rev = rev_of_file h c f }) tree))
rows-placed h c [] s prefixes found = tt
rows-placed h c (f ∷ tree) s prefixes found =
    let t = file-text h c f s prefixes.0 found.0 in
    (record { rev = rev_of_file h c f; below = t.below; text = t.text; row_is = refl }, rows-placed h c tree s prefixes.1 found.1)

pub files-placed : (h : History) (c : Changeset) → IsSound h → IsNextChangeset h c → AllZip (IsPlacedIn (filelog_with h c)) c.tree (rows_of h c)
files-placed h c s is = rows-placed h c c.tree s is.prefixes (found-self c.tree is.ordered)

-- ---- filelogs that go on

placed-front : (logs more : List ℕ → List Revision) → ((path : List ℕ) → IsPrefixOf (logs path) (more path)) → (f : TreeFile) (row : Row) → IsPlacedIn logs f row → IsPlacedIn more f row
placed-front logs more p f row is = record {
  rev = is.rev;
  below = front-below (logs f.path) (more f.path) (p f.path) is.rev is.below;
  text = text_at-front (logs f.path) (more f.path) (p f.path) is.rev is.below ∙ is.text;
  row_is = is.row_is ∙ ap (λ n. record { path = f.path; node = n; flag = f.flag }) (sym (node_at-front (logs f.path) (more f.path) (p f.path) is.rev is.below));
}

pub all-placed-front : (logs more : List ℕ → List Revision) → ((path : List ℕ) → IsPrefixOf (logs path) (more path)) → (tree : List TreeFile) (rows : List Row) → AllZip (IsPlacedIn logs) tree rows → AllZip (IsPlacedIn more) tree rows
all-placed-front logs more p [] [] all = tt
all-placed-front logs more p [] (row ∷ rows) all = absurd all
all-placed-front logs more p (f ∷ tree) [] all = absurd all
all-placed-front logs more p (f ∷ tree) (row ∷ rows) all = (placed-front logs more p f row all.0, all-placed-front logs more p tree rows all.1)
