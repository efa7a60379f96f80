-- How a search stops before it has found all.
use Rattle.std.specs.Prelude.{◌≡◌, List, None}
use Rattle.hgs_follow.specs.declared.filelogs.Stop.{Stop}
use Rattle.hgs_follow.specs.declared.filelogs.Stop.TheVariants.{Refused, Missing, Memory}
use Rattle.hgs_follow.specs.Asked.{Asked, Asking, AllOf, Chain}
use Rattle.hgs_follow.specs.Followed.{Filelogs, number_of}
use Rattle.hgs_follow.specs.Source.{CopySource}

-- From one state to another some things were asked, and then one was refused so, or there was no memory.
abbrev pub StopsAt : {S E : Type 0} → (S → Asked → S → Type 0) → (S → Asking → E → S → Type 0) → S → Stop E → S → Type 0
StopsAt {S} gives refuses a (Refused e) c = (asked : List Asked) × (b : S) × (asking : Asking) × Chain gives a asked b × refuses b asking e c
StopsAt gives refuses a Missing c = ⊥
StopsAt gives refuses a Memory c = (asked : List Asked) × Chain gives a asked c

-- The same of a search from the file revision that a path and a node name; by what was asked there may be none.
abbrev pub MayStop : {S E : Type 0} → (S → Asked → S → Type 0) → (S → Asking → E → S → Type 0) → CopySource → S → Stop E → S → Type 0
MayStop gives refuses begin a (Refused e) c = StopsAt gives refuses a (Refused e) c
MayStop gives refuses begin a Missing c = (asked : List Asked) × Chain gives a asked c × ((files : Filelogs) → AllOf files asked → number_of files begin ≡ None)
MayStop gives refuses begin a Memory c = StopsAt gives refuses a Memory c
