-- What stays where changesets are added.
use Rattle.std.specs.Prelude.{◌≡◌, ◌<◌, ◌≤◌, ◌+◌, ◌/◌, ℕ, List, [], ◌∷◌, ◌++◌, length, map, slice_get, slice_index_or, Some}
use Rattle.hgs_bytes.specs.Bytes.{IsPrefixOf}
use Rattle.hgs_branch.specs.Reached.{wide_at, Reached}
use Rattle.hgs_branch.specs.Taken.{parents_of}
use Rattle.hgs_branch.specs.Tracked.{numbers_in, parents_in, IsNumbered}
use Rattle.hgs_branch.specs.declared.changeset.OnBranch.{OnBranch}
use Rattle.hgs_branch.specs.declared.course.Course.{Course}
use Rattle.hgs_branch.specs.declared.reach.Known.{Known}

-- the branch of each changeset
abbrev pub names_in : List (List ℕ) → List Known → List (List ℕ)
names_in names known = map (λ k. slice_index_or names k.branch []) known

-- The numbers of names, and which branches the descendants of each changeset are of.
pub record TracksCourse (course : Course) : Type 0 where
  pub numbered : IsNumbered course.names.items course.numbers
  pub numbers : (rev number : ℕ) → slice_get (numbers_in course.known.items) rev ≡ Some number → number < length course.names.items
  pub wide : (rev : ℕ) → wide_at course.reaches.items rev ≤ length course.names.items / 64 + 1
  pub reached : Reached course.known.items course.heads.items course.reaches.items

-- all stands in all that stands later
pub record Keeps (old new : Course) : Type 0 where
  pub known : IsPrefixOf old.known.items new.known.items
  pub names : IsPrefixOf old.names.items new.names.items
  pub heads : IsPrefixOf old.heads.items new.heads.items
  pub reaches : IsPrefixOf old.reaches.items new.reaches.items
  pub numbered : IsNumbered old.names.items old.numbers → IsNumbered new.names.items new.numbers

-- one changeset was added, and is left
pub record Adds (old new : Course) (change : OnBranch) : Type 0 where
  pub parents : parents_in new.known.items ≡ parents_in old.known.items ++ parents_of change ∷ []
  pub names : TracksCourse old → names_in new.names.items new.known.items ≡ names_in old.names.items old.known.items ++ change.branch ∷ []
  pub tracks : TracksCourse old → TracksCourse new

-- and so were more
pub record AddsAll (old new : Course) (changes : List OnBranch) : Type 0 where
  pub parents : parents_in new.known.items ≡ parents_in old.known.items ++ map parents_of changes
  pub names : TracksCourse old → names_in new.names.items new.known.items ≡ names_in old.names.items old.known.items ++ map (λ c. c.branch) changes
  pub tracks : TracksCourse old → TracksCourse new
