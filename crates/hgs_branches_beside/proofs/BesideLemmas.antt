-- Changesets that were read beside writers are those that were committed.
use Rattle.std.proofs.Common.{◌≡◌, ◌≤◌, ◌<◌, ◌+◌, ℕ, zero, suc, List, [], ◌∷◌, ◌++◌, length, map, take, Some, Result, Ok, refl, sym, ◌∙◌, ap, subst, arith, append_assoc, append-nil}
use Rattle.std.specs.Prelude.{slice_get}
use Rattle.hgs_branch.specs.Extras.{branch_of}
use Rattle.hgs_branch.specs.Taken.{parents_of, with_changes, Taken}
use Rattle.hgs_branch.specs.Text.{branches_text}
use Rattle.hgs_branch.specs.declared.changeset.OnBranch.{OnBranch}
use Rattle.hgs_branches.specs.Read.{AreRead, IsRead}
use Rattle.hgs_branches_beside.specs.Committed.{branches_in, first_branches, first_taken}
use Rattle.hgs_bytes.specs.Bytes.{IsPrefixOf}
use Rattle.hgs_files.specs.declared.op.Op.{Op}
use Rattle.hgs_headline.specs.WritersLog.{WritersLog, course_of}
use Rattle.hgs_index.specs.ChangeText.{Change}
use Rattle.hgs_index.specs.Revision.{Parents, ParentsBefore}
use Rattle.hgs_index.specs.declared.entry.Entry.{Entry}
use Rattle.hgs_legal.specs.Numbers.{repo_at}
use Rattle.hgs_load.specs.Theorems.AskLemmas.{prefix-refl}
use Rattle.hgs_load.specs.View.{View}
use Rattle.hgs_load.specs.declared.answer.ReadAnswer.{ReadAnswer}
use Rattle.hgs_model.specs.History.{changeset_nodes}
use Rattle.hgs_model.specs.Repo.{Changeset, all_parents}
use Rattle.hgs_revlog.specs.Log.{nodes_of}
use Rattle.hgs_views.specs.Answered.{IsAnswered}
use Rattle.hgs_views.specs.Course.{IsCourse, OpensAlong, ReadsAlong}
use Rattle.hgs_views.specs.Seen.{IsLoadedBetween, NoneFell, Numbers}

-- what the crates below say
pub record Laws : Type 0 where
  pub course : (h : WritersLog) (first last : List Op) → IsPrefixOf last h.log → IsCourse (course_of h) first last
  pub committed : (h : WritersLog) (began ended first last : List Op) (v : Numbers) (view : View) (rev : ℕ) (c : Changeset) → IsPrefixOf last h.log → OpensAlong (course_of h) first last → ReadsAlong (course_of h) first last → IsLoadedBetween (course_of h) began ended v view → IsPrefixOf ended first → IsPrefixOf first last →
      slice_get (repo_at h.last v.read).changesets rev ≡ Some c → IsAnswered (course_of h) first last view (repo_at h.last v.read).changesets rev c
  pub count : (h : WritersLog) (first last : List Op) (v : Numbers) (view : View) → IsPrefixOf last h.log → IsLoadedBetween (course_of h) first last v view → length view.changelog.entries ≡ length (repo_at h.last v.read).changesets
  pub nodes : (h : WritersLog) (first last : List Op) (v : Numbers) (view : View) → IsPrefixOf last h.log → IsLoadedBetween (course_of h) first last v view → nodes_of view.changelog.entries ≡ changeset_nodes (repo_at h.last v.read).changesets
  pub before : (h : WritersLog) (first last : List Op) (v : Numbers) (view : View) → IsPrefixOf last h.log → IsLoadedBetween (course_of h) first last v view → ParentsBefore 0 (all_parents (repo_at h.last v.read).changesets)

-- ---- lists

get_there : {A : Type 0} (xs : List A) (i : ℕ) → i < length xs → (x : A) × (slice_get xs i ≡ Some x)
get_there [] i h = absurd (omega (arith, h))
get_there (y ∷ xs) zero h = (y, refl)
get_there (y ∷ xs) (suc i) h = get_there xs i (omega (arith, h))

get_low : {A : Type 0} (xs : List A) (i : ℕ) (x : A) → slice_get xs i ≡ Some x → i < length xs
get_low [] i x e = cc
get_low (y ∷ xs) zero x e = omega arith
get_low (y ∷ xs) (suc i) x e = let h = get_low xs i x e in omega (arith, h)

some_is : {A : Type 0} (x y : A) → Some x ≡ Some y → x ≡ y
some_is x y e = cc

take_next : (xs : List Changeset) (n : ℕ) (c : Changeset) → slice_get xs n ≡ Some c → take (suc n) xs ≡ take n xs ++ c ∷ []
take_next [] n c e = cc
take_next (x ∷ xs) zero c e = ap (λ y. y ∷ []) (some_is x c e)
take_next (x ∷ xs) (suc n) c e = ap (λ l. x ∷ l) (take_next xs n c e)

mapped : {A B : Type 0} (f : A → B) (xs ys : List A) → map f (xs ++ ys) ≡ map f xs ++ map f ys
mapped f [] ys = refl
mapped f (x ∷ xs) ys = ap (λ l. f x ∷ l) (mapped f xs ys)

-- the first so many of a list that goes on are those of the list
take_front : (n : ℕ) (xs more : List Changeset) → n ≤ length xs → take n xs ≡ take n (xs ++ more)
take_front zero xs more le = refl
take_front (suc n) [] more le = absurd (omega (arith, le))
take_front (suc n) (x ∷ xs) more le = ap (λ l. x ∷ l) (take_front n xs more (omega (arith, le)))

-- ---- one more changeset

abbrev taken_by : List Parents → List (List ℕ) → Taken
taken_by parents names = record { parents = parents; names = names }

one_more : (changesets : List Changeset) (count : ℕ) (c : Changeset) (x : OnBranch) → slice_get changesets count ≡ Some c → parents_of x ≡ c.parents → x.branch ≡ branch_of c.extras → with_changes (first_taken count changesets) (x ∷ []) ≡ first_taken (suc count) changesets
one_more changesets count c x at parents branch =
    let front = take count changesets in
    let p : all_parents front ++ parents_of x ∷ [] ≡ all_parents (take (suc count) changesets) =
    ap (λ q. all_parents front ++ q ∷ []) parents ∙ sym (mapped (λ (d : Changeset). d.parents) front (c ∷ [])) ∙ ap all_parents (sym (take_next changesets count c at)) in
    let n : branches_in front ++ x.branch ∷ [] ≡ branches_in (take (suc count) changesets) =
    ap (λ q. branches_in front ++ q ∷ []) branch ∙ sym (mapped (λ (d : Changeset). branch_of d.extras) front (c ∷ [])) ∙ ap branches_in (sym (take_next changesets count c at)) in
    ap (λ l. taken_by l (branches_in front ++ x.branch ∷ [])) p ∙ ap (taken_by (all_parents (take (suc count) changesets))) n

one_by_one : (taken : Taken) (x : OnBranch) (xs : List OnBranch) → with_changes taken (x ∷ xs) ≡ with_changes (with_changes taken (x ∷ [])) xs
one_by_one taken x xs =
    ap (λ l. taken_by l (taken.names ++ x.branch ∷ map (λ c. c.branch) xs)) (sym (append_assoc taken.parents (parents_of x ∷ []) (map parents_of xs)))
    ∙ ap (taken_by ((taken.parents ++ parents_of x ∷ []) ++ map parents_of xs)) (sym (append_assoc taken.names (x.branch ∷ []) (map (λ c. c.branch) xs)))

none_more : (taken : Taken) → with_changes taken [] ≡ taken
none_more taken = ap (λ l. taken_by l (taken.names ++ [])) (append-nil taken.parents) ∙ ap (taken_by taken.parents) (append-nil taken.names)

ok_is : (x y : Change) → (let r : Result Change ReadAnswer = Ok x in r) ≡ Ok y → x ≡ y
ok_is x y e = cc

module _ (laws : Laws) (h : WritersLog) where
  module _ (began ended first last : List Op) (v : Numbers) (view : View) (end : IsPrefixOf last h.log) (opens : OpensAlong (course_of h) first last) (reads : ReadsAlong (course_of h) first last) (loaded : IsLoadedBetween (course_of h) began ended v view) (from : IsPrefixOf ended first) (to : IsPrefixOf first last) (whole : IsPrefixOf ended h.log) where
    abbrev pub changesets : List Changeset
    changesets = (repo_at h.last v.read).changesets

    read_one : (count : ℕ) (x : OnBranch) → IsRead (Some first) h.start (Some last) view count x → with_changes (first_taken count changesets) (x ∷ []) ≡ first_taken (suc count) changesets
    read_one count x read =
        let low = get_low view.changelog.entries count read.entry read.there in
        let size = laws.count h began ended v view whole loaded in
        let c = get_there changesets count (omega (arith, low, size)) in
        let a = laws.committed h began ended first last v view count c.0 end opens reads loaded from to c.1 in
        let same : read.entry ≡ a.entry = some_is read.entry a.entry (sym read.there ∙ a.there) in
        let text : read.change ≡ a.change = ok_is read.change a.change (a.text first last (Ok read.change) (prefix-refl first) (prefix-refl last) read.answer) in
        let parents : parents_of x ≡ c.0.parents = ap (λ p. (p, x.p2)) read.p1 ∙ ap (λ p. (read.entry.p1, p)) read.p2 ∙ ap (λ (e : Entry). (e.p1, e.p2)) same ∙ a.parents in
        let branch : x.branch ≡ branch_of c.0.extras = read.branch ∙ ap (λ (d : Change). branch_of d.extras) text ∙ ap branch_of a.tells.extras in
        one_more changesets count c.0 x c.1 parents branch

    pub advanced : (count : ℕ) (xs : List OnBranch) → AreRead (Some first) h.start (Some last) view count xs → with_changes (first_taken count changesets) xs ≡ first_taken (count + length xs) changesets
    advanced count [] all = none_more (first_taken count changesets) ∙ (let e : count ≡ count + 0 = omega arith in ap (λ n. first_taken n changesets) e)
    advanced count (x ∷ xs) all =
        let e : suc count + length xs ≡ count + suc (length xs) = omega arith in
        one_by_one (first_taken count changesets) x xs ∙ ap (λ t. with_changes t xs) (read_one count x all.0) ∙ advanced (suc count) xs all.1 ∙ ap (λ n. first_taken n changesets) e

  pub refreshed : (began ended first last : List Op) (v w : Numbers) (old new : View) (count : ℕ) → IsPrefixOf ended h.log → IsPrefixOf last h.log → IsLoadedBetween (course_of h) began ended v old → IsLoadedBetween (course_of h) first last w new → NoneFell v w → count ≤ length old.changelog.entries → first_taken count (repo_at h.last v.read).changesets ≡ first_taken count (repo_at h.last w.read).changesets
  refreshed began ended first last v w old new count whole end was is none le =
      let size = laws.count h began ended v old whole was in
      let rises = none.read in
      let a = is.order.read_rooted in
      let b = is.order.rooted_last in
      let front = (laws.course h first last end).goes_on v.read w.read rises (omega (arith, a, b)) in
      let xs = (repo_at h.last v.read).changesets in
      let same : take count xs ≡ take count (repo_at h.last w.read).changesets = take_front count xs front.0 (omega (arith, le, size)) ∙ ap (take count) (sym front.1) in
      ap (λ l. taken_by (all_parents l) (branches_in l)) same

  -- the parents of the first so many stand before their children, too
  before_front : (count : ℕ) (all : List Changeset) (from : ℕ) → ParentsBefore from (all_parents all) → ParentsBefore from (all_parents (take count all))
  before_front zero all from b = tt
  before_front (suc count) [] from b = tt
  before_front (suc count) (c ∷ all) from b = (b.0, b.1, before_front count all (suc from) b.2)

  pub told : (first last : List Op) (v : Numbers) (view : View) (count : ℕ) (taken : Taken) → IsPrefixOf last h.log → IsLoadedBetween (course_of h) first last v view → taken ≡ first_taken count (repo_at h.last v.read).changesets →
      ParentsBefore 0 taken.parents × (branches_text taken.parents taken.names (nodes_of view.changelog.entries) ≡ first_branches count (repo_at h.last v.read).changesets)
  told first last v view count taken end loaded is =
      let changesets = (repo_at h.last v.read).changesets in
      let P : Taken → Type 0 = λ t. ParentsBefore 0 t.parents in (
        subst P (sym is) (before_front count changesets 0 (laws.before h first last v view end loaded)),
        ap (λ (t : Taken). branches_text t.parents t.names (nodes_of view.changelog.entries)) is ∙ ap (branches_text (all_parents (take count changesets)) (branches_in (take count changesets))) (laws.nodes h first last v view end loaded),
      )
