-- What the history tells of a job that was noted.
use Rattle.std.specs.Prelude.{List, Option}
use Rattle.hgs_files.specs.declared.op.Op.{Op}
use Rattle.hgs_session.specs.declared.noted.Noted.{Noted}
use Rattle.hgs_session.specs.Calls.{Call}

-- the call, with the log that its front tells
abbrev pub call_of : {F : Type 0} → (F → Option (List Op)) → Noted F → Call
call_of log n = record { worker = n.worker; job = n.job; answer = n.answer; changeset = n.changeset; log = log n.front }
