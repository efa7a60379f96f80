-- What keeps an accepted commit from being written, beside names that clash.
use Rattle.std.specs.Prelude.{◌≡◌, ℕ, nat_lt, List, [], ◌∷◌, Bool, ◌||◌, Option, Some, None, Result, Ok, Err, if◌then◌else◌}
use Rattle.hgs_index.specs.Limit.{limit_number}
use Rattle.hgs_index.specs.declared.kinds.Which.{Which}
use Rattle.hgs_model.specs.History.{first_of}
use Rattle.hgs_path.specs.Fncache.{IsClash, with_both}
use Rattle.hgs_path.specs.declared.name.Ext.{Ext}
use Rattle.hgs_load.specs.declared.answer.ReadAnswer.{ReadAnswer}
use Rattle.hgs_commit.specs.declared.hindrance.Collided.{Collided}
use Rattle.hgs_commit.specs.declared.hindrance.Hindrances.{Hindrances}

-- a limit that would be passed, a file where a new one would be made, or a revlog's revision with the node of a new one
pub data Obstacle : Type 0 where
  passes : Which → Obstacle
  stands : List ℕ → Obstacle
  collides : List ℕ → ℕ → Obstacle

-- what is told of them: the limit with the least number, and the first of the others
pub record Met : Type 0 where
  pub limit : Option Which
  pub in_the_way : Option (List ℕ)
  pub collision : Option Collided

abbrev pub met_of : Hindrances → Met
met_of h = record { limit = h.limit; in_the_way = h.in_the_way; collision = h.collision }

abbrev pub nothing_met : Met
nothing_met = record { limit = None; in_the_way = None; collision = None }

abbrev pub least_limit : Which → Option Which → Option Which
least_limit which None = Some which
least_limit which (Some other) = if nat_lt (limit_number which) (limit_number other) then Some which else Some other

abbrev pub noted_one : Met → Obstacle → Met
noted_one m (passes which) = record m { limit = least_limit which m.limit }
noted_one m (stands path) = record m { in_the_way = first_of m.in_the_way (Some path) }
noted_one m (collides path rev) = record m { collision = first_of m.collision (Some (record { path = path; rev = rev })) }

abbrev pub noted : Met → List Obstacle → Met
noted m [] = m
noted m (o ∷ obstacles) = noted (noted_one m o) obstacles

-- an answer with what was met for it, noted behind what was met before
abbrev pub noting : {A : Type 0} → Met → Result (A × List Obstacle) ReadAnswer → Result (A × Met) ReadAnswer
noting m (Ok x) = Ok (x.0, noted m x.1)
noting m (Err e) = Err e

-- the files of two lists
abbrev pub either_list : (List ℕ → Ext → Bool) → (List ℕ → Ext → Bool) → List ℕ → Ext → Bool
either_list files more path ext = files path ext || more path ext

-- these files and both of each of these paths
abbrev pub with_all : (List ℕ → Ext → Bool) → List (List ℕ) → List ℕ → Ext → Bool
with_all files [] = files
with_all files (path ∷ paths) = with_all (with_both files path) paths

-- Of new filelogs' paths one after another the first path is told that clashes with one of them, and is listed or is one
-- before it.
abbrev pub ClashAfter : (List ℕ → Ext → Bool) → List ℕ → Option (List ℕ) → Option (List ℕ) → Type 0
ClashAfter files path None new = IsClash files path new
ClashAfter files path (Some other) new = new ≡ Some other

abbrev pub ClashBehind : (List ℕ → Ext → Bool) → List (List ℕ) → Option (List ℕ) → Option (List ℕ) → Type 0
ClashBehind files [] old new = new ≡ old
ClashBehind files (path ∷ paths) old new = (between : Option (List ℕ)) × ClashAfter files path old between × ClashBehind (with_both files path) paths between new
