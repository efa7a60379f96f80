-- Where a run comes to rest, its tree stands.
use Rattle.std.proofs.Common.{List, length, take, ap, subst, take_all, arith}
use Rattle.std.specs.Prelude.{None, Some}
use Rattle.hgs_files.specs.declared.op.Op.{Op}
use Rattle.hgs_files.specs.Tree.{Tree, after_all}
use Rattle.hgs_model.specs.Repo.{Repo}
use Rattle.hgs_stands.specs.Stands.{Stands}
use Rattle.hgs_legal.specs.LegalLog.{Doing, Idle, IsRun, Leaves, Preparing, Published, Refused, State, Turn, Undoing, Working, breaks, breaks_after, breaks_undo, gives_up, is_refused, last_repo, stays}
use Rattle.hgs_legal.specs.Numbers.{StopsAt, acknowledged_of, is_some_op, left_of, less_one, repo_at}

-- where no writer is at work, the tree stands
abbrev pub StandsIdle : Doing → Tree → Repo → Type 0
StandsIdle (Idle None rest) u r = Stands u r
StandsIdle _ u r = Unit {0}

-- what law says of stops
abbrev pub Safe : Type 0
Safe = (t : Tree) (r : Repo) (log : List Op) (s : State) → Stands t r → IsRun t r log s → StopsAt s.doing (after_all log t) (repo_at s (acknowledged_of s))

-- where a writer leaves to be at rest, the tree stands for the current repository
pub idle-stands : (d d' : Doing) (f : Repo) (ps : List Turn) (u : Tree) → Leaves d d' → StopsAt d u (last_repo f (take (less_one (is_some_op (left_of d)) (length ps)) ps)) → StandsIdle d' u (last_repo f ps)
idle-stands d d' f ps u leaves at = by leaves at
  where
    all : Stands u (last_repo f (take (length ps) ps)) → Stands u (last_repo f ps)
    all s = subst (Stands u) (ap (last_repo f) (take_all (length ps) ps (omega arith))) s

    same : (d : Doing) → StopsAt d u (last_repo f (take (less_one (is_some_op (left_of d)) (length ps)) ps)) → StandsIdle d u (last_repo f ps)
    same (Idle None rest) s = all s
    same (Idle (Some left) rest) s = tt
    same (Refused left creation rest) s = tt
    same (Preparing x left) s = tt
    same (Working x left) s = tt
    same (Published x left) s = tt
    same (Undoing left) s = tt

    by : {d d' : Doing} → Leaves d d' → StopsAt d u (last_repo f (take (less_one (is_some_op (left_of d)) (length ps)) ps)) → StandsIdle d' u (last_repo f ps)
    by (stays {d = d}) s = same d s
    by gives_up s = all s
    by breaks s = tt
    by breaks_after s = tt
    by breaks_undo s = tt
    by (is_refused {left = None}) s = all s
    by (is_refused {left = Some left}) s = tt
