-- Two workers that find a lock held meet what the laws ask.
use Rattle.std.proofs.Common.{◌≡◌, ◌≤◌, ◌+◌, ℕ, List, [], ◌∷◌, Some, None, refl, arith, true}
use Rattle.std.specs.List.{AllByRecursion}
use Rattle.std.specs.Prelude.{codes, min}
use Rattle.hgs_files.specs.Reads.{greatest}
use Rattle.hgs_machine.specs.Locks.{IsTurnedAway, at_wlock}
use Rattle.hgs_machine.specs.Refusals.{WereRefused}
use Rattle.hgs_machine.specs.declared.locks.LockRefusal.TheVariants.{Held}
use Rattle.hgs_model.specs.Repo.{empty_repo}
use Rattle.hgs_ops.specs.Samples.{delete_here, requires_text}
use Rattle.hgs_script.specs.Script.{IsShare}
use Rattle.hgs_session.specs.Calls.{AreInOrder, IsCall, Makes, name_of}
use Rattle.hgs_session.specs.Desk.{said_by}
use Rattle.hgs_session.specs.Jobs.{IsFresh, Progress, changed, changes}
use Rattle.hgs_session.specs.Session.{HasEnded, IsSession}
use Rattle.hgs_stands.specs.Stands.{Stands}
use Rattle.hgs_stands.specs.Theorems.EmptyLemmas.{empty-stands}
use Rattle.hgs_legal.specs.ListsPaths.{ListsPaths}
use Rattle.hgs_writer.specs.Begun.{has_no_locks}
use Rattle.hgs_writer.specs.Written.{has_no_plan}
use Rattle.hgs_history.specs.Samples.{held_call, held_calls, held_result, held_session, held_states, held_store, nothing_done, told_once, two_jobs}

pub held-stands : Stands held_store empty_repo
held-stands = empty-stands held_store (record { text = requires_text; there = refl; known = refl; whole = refl }) (refl, (refl, (refl, (refl, (refl, (refl, (refl, (refl, tt)))))))) refl

pub one-job : (n : ℕ) → n ≡ 1 → n ≤ 10000
one-job n e = omega arith

pub held-shares : AllByRecursion IsShare two_jobs
held-shares = (record { most = one-job 1 refl; each = ((tt, tt), tt) }, (record { most = one-job 1 refl; each = ((tt, tt), tt) }, tt))

pub held-order : AreInOrder held_calls
held-order = ((λ same. absurd (cc same), tt), (tt, tt))

-- ---- the calls

rest : (d g : ℕ) → min (d + 0) g ≤ d
rest d g = omega arith

none : 0 ≤ 0
none = omega arith

held-refused : WereRefused 0 0 0 0 0
held-refused = record { failed = 0; wanting = 0; all = none; faults = rest 0 greatest; denied = rest 0 greatest }

found-held : (who : List ℕ) → IsTurnedAway who held_store (Held (Some (codes "other"))) true []
found-held who = at_wlock (Held (Some (codes "other"))) (refl, refl)

first-called : IsCall held_session nothing_done (held_call 0) nothing_done
first-called = record {
  command = delete_here;
  job = refl;
  log = ([], refl, has_no_plan [] (has_no_locks (Held (Some (codes "other"))) (found-held (name_of 0 0)) refl));
  behind = refl;
  fault = λ e. absurd (cc e);
  refused = held-refused;
  left = ([], refl, held-refused);
  faults = none;
  denied = none;
}

second-called : IsCall held_session nothing_done (held_call 1) nothing_done
second-called = record {
  command = delete_here;
  job = refl;
  log = ([], refl, has_no_plan [] (has_no_locks (Held (Some (codes "other"))) (found-held (name_of 1 0)) refl));
  behind = refl;
  fault = λ e. absurd (cc e);
  refused = held-refused;
  left = ([], refl, held-refused);
  faults = none;
  denied = none;
}

pub held-made : Makes held_session held_calls nothing_done
held-made = (nothing_done, second-called, (nothing_done, first-called, refl))

pub held-lists : ListsPaths held_store empty_repo
held-lists = record { lines = tt }

-- ---- the workers

fresh : Progress
fresh = record { done = 0; place = 0; told = []; seen = Some []; start = held_store; view = None; faults = 0; denied = 0 }

is-fresh : IsFresh held_session fresh
unfolding fresh
is-fresh = record { done = refl; place = refl; view = refl; faults = refl; denied = refl; seen = (refl, refl, refl) }

first-ended : HasEnded held_session 0 held_calls told_once (said_by delete_here (held_call 0) ∷ [])
unfolding fresh
first-ended = record {
  now = changed fresh 1 (Some []);
  done = record { first = fresh; fresh = is-fresh; does = (changed fresh 1 (Some []), changes delete_here (held_call 0) 1 refl (let h : 0 ≤ 1 = omega arith in h) refl refl refl refl, refl) };
  all = refl;
  state_is = refl;
}

second-ended : HasEnded held_session 1 held_calls told_once (said_by delete_here (held_call 1) ∷ [])
unfolding fresh
second-ended = record {
  now = changed fresh 0 (Some []);
  done = record { first = fresh; fresh = is-fresh; does = (changed fresh 0 (Some []), changes delete_here (held_call 1) 0 refl none refl refl refl refl, refl) };
  all = refl;
  state_is = refl;
}

pub held-is-session : IsSession held_session held_calls nothing_done held_states held_result
held-is-session = record {
  all = refl;
  published = refl;
  unsure = refl;
  workers = refl;
  replies = (first-ended, (second-ended, tt));
  within = ((([], refl), (([], refl), tt)), ((([], refl), (([], refl), tt)), tt));
}
