-- Names that are refused.
use Rattle.std.proofs.Common.{◌≡◌, ℕ, List, ◌∷◌, Bool, false, cond, ◌∙◌, ap}
use Rattle.std.specs.Prelude.{Option, Some, None, Ok, Err}
use Rattle.hgs_model.specs.Step.{◌>>=◌, or_unknown}
use Rattle.hgs_model.specs.declared.command.Refusal.TheVariants.{UnknownRevision}
use Rattle.hgs_reader.specs.Names.{named}
use Rattle.hgs_steps.specs.declared.fault.PlanFault.{PlanFault}
use Rattle.hgs_steps.specs.declared.fault.PlanFault.TheVariants.{Refused}
use Rattle.hgs_steps.specs.declared.loaded.Loaded.{Loaded}
use Rattle.hgs_steps.specs.Loaded.{view_of}
use Rattle.hgs_steps.specs.Parents.{means_no_parent, named_all, parents_behind}
use Rattle.hgs_steps.specs.Steps.{as_fault}

pub name-refused : (l : Loaded) (first second : Option ℕ) (name : List ℕ) (names : List (List ℕ)) (fault : PlanFault) → means_no_parent l name ≡ false → as_fault (or_unknown (named (view_of l) name)) ≡ Err fault → parents_behind first second (named_all l (name ∷ names)) ≡ Err fault
name-refused l first second name names fault is e =
    ap (λ (b : Bool). parents_behind first second (cond b (named_all l names) (or_unknown (named (view_of l) name) >>= λ rev. named_all l names >>= λ revs. Ok (rev ∷ revs)))) is
    ∙ by (named (view_of l) name) e
  where
    by : (o : Option ℕ) → as_fault (or_unknown o) ≡ Err fault → parents_behind first second (or_unknown o >>= λ rev. named_all l names >>= λ revs. Ok (rev ∷ revs)) ≡ Err fault
    by None h = ap (λ (f : PlanFault). Err f) same
      where
        same : Refused UnknownRevision ≡ fault
        same = cc
    by (Some rev) h = absurd no
      where
        no : ⊥
        no = cc
