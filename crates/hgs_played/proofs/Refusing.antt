-- A command that is refused publishes nothing.
use Rattle.std.proofs.Common.{ℕ, List, [], refl, inl, inr}
use Rattle.std.specs.Prelude.{None, Option, Some}
use Rattle.hgs_answers.specs.declared.outcome.Outcome.{Outcome}
use Rattle.hgs_answers.specs.declared.outcome.Outcome.TheVariants.{Done, LockHeld, Abandoned, UnknownRevision, UnknownPath, CopyOver, NothingChanged, Fault, Unfinished, Limit, NameClash, InTheWay, Collision, NeedsForce, Memory, Unsettled, Damaged}
use Rattle.hgs_answers.specs.declared.outcome.Published.TheVariants.{No, Yes, Unknown}
use Rattle.hgs_files.specs.declared.op.Op.{Op}
use Rattle.hgs_legal.specs.LegalLog.{State}
use Rattle.hgs_model.specs.declared.command.Command.{Command}
use Rattle.hgs_writer.specs.Turns.{LeadsAs, LeadsOn, LeadsToOne, Order}
use Rattle.hgs_played.proofs.Ending.{Leads}

-- what is told of no changeset leads to no transaction
module _ (s : State) (log : List Op) (who : List ℕ) (command : Command) where
  abbrev order : Order
  order = record { who = who; command = command; changeset = None }

  no_turn : {A : Type 0} (left : Option (List Op)) → LeadsToOne s log order left → A
  no_turn left (x, is, leads) = absurd is.told

  nothing : (left : Option (List Op)) → LeadsOn s log [] left → Leads s log []
  nothing left h = record { left = left; turns = []; leads = h; are = refl }

  pub refused_leads : (outcome : Outcome) → LeadsAs s log order outcome → Leads s log []
  refused_leads (Done rev node) h = no_turn None h
  refused_leads (Unfinished No) (left, h) = nothing (Some left) h
  refused_leads (Unfinished Yes) (left, h) = no_turn (Some left) h
  refused_leads (Unfinished Unknown) (left, inl h) = nothing (Some left) h
  refused_leads (Unfinished Unknown) (left, inr h) = no_turn (Some left) h
  refused_leads (LockHeld holder) h = nothing None h
  refused_leads Abandoned h = nothing None h
  refused_leads UnknownRevision h = nothing None h
  refused_leads UnknownPath h = nothing None h
  refused_leads (CopyOver path) h = nothing None h
  refused_leads (NeedsForce rev) h = nothing None h
  refused_leads (NothingChanged rev) h = nothing None h
  refused_leads (Damaged damage) h = nothing None h
  refused_leads Fault h = nothing None h
  refused_leads (Limit which) h = nothing None h
  refused_leads (NameClash path) h = nothing None h
  refused_leads (InTheWay path) h = nothing None h
  refused_leads (Collision path rev) h = nothing None h
  refused_leads Memory h = nothing None h
  refused_leads (Unsettled rev node) h = nothing None h
