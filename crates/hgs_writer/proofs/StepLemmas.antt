-- The parts of a step that replaces one file are sound.
use Rattle.std.proofs.Common.{◌≡◌, Bool, true, false, ◌||◌, Result, Ok, Err, refl, subst}
use Rattle.std.specs.Prelude.{if◌then◌else◌}
use Rattle.hgs_files.specs.Tree.{Tree}
use Rattle.hgs_machine.specs.Sound.{AreSound}
use Rattle.hgs_model.specs.declared.command.Refusal.{Refusal}
use Rattle.hgs_steps.specs.Loaded.{has_inline}
use Rattle.hgs_steps.specs.declared.fault.PlanFault.{PlanFault}
use Rattle.hgs_steps.specs.declared.loaded.Loaded.{Loaded}
use Rattle.hgs_steps.specs.declared.step.Step.{Step}
use Rattle.hgs_index.specs.declared.kinds.Which.TheVariants.{Bookmarks, Inline}
use Rattle.hgs_steps.specs.declared.fault.PlanFault.TheVariants.{Limit}
use Rattle.hgs_steps.specs.Steps.{Accepted, alone, are_too_many, planned, step_with}
use Rattle.hgs_transaction.specs.declared.parts.Replacing.{Replacing}

alone_sound : (t : Tree) (x : Replacing) → AreSound t (alone x)
alone_sound t x = record { once = (refl, tt); made = tt; publishing = tt }

step_is : (x y : Step) → (let a : Result Step PlanFault = Ok x in a ≡ Ok y) → x ≡ y
step_is x y e = cc

pub step_sound : (t : Tree) (l : Loaded) (accepted : Result Accepted Refusal) (step : Step) → planned l accepted ≡ Ok step → AreSound t step.parts
step_sound t l (Err e) step h = cc
step_sound t l (Ok a) step h = by (are_too_many l.bookmarks || are_too_many a.marks) (has_inline l) h
  where
    by : (b c : Bool) → (if b then Err (Limit Bookmarks) else if c then Err (Limit Inline) else Ok (step_with l a.file a.rev)) ≡ Ok step → AreSound t step.parts
    by true c k = cc
    by false true k = cc
    by false false k = subst (λ (s : Step). AreSound t s.parts) (step_is (step_with l a.file a.rev) step k) (alone_sound t a.file)
