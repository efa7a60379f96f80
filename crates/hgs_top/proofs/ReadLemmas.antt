-- Inputs that were read to their end.
use Rattle.std.proofs.Common.{◌≡◌, ◌≢◌, inl, inr, ℕ, List, [], ◌∷◌, Option, sym, ◌∙◌, arith}
use Rattle.hgs_input.specs.declared.fault.InputFault.{InputFault}
use Rattle.hgs_input.specs.declared.fault.InputFault.TheVariants as inputs
use Rattle.hgs_top.specs.Orders.{IsReadBy, record_fault_status}
use Rattle.hgs_top.specs.Run.{IsOneOf}
use Rattle.hgs_top.specs.Words.{Job, do_commit, do_import, do_init, do_mark, do_move, do_recover, do_unmark}

pub refused_otherwise : (fault : InputFault) → record_fault_status fault ≢ 0
refused_otherwise (inputs.BadInput place) e = omega (arith, e)
refused_otherwise (inputs.Limit which) e = omega (arith, e)
refused_otherwise inputs.Memory e = omega (arith, e)

-- a status that is said is that of what was done, where it is 0
zero_said : (status said : ℕ) → IsOneOf (19 ∷ 30 ∷ said ∷ []) status → status ≡ 0 → said ≡ 0
zero_said status said (inl is) z = absurd (omega (arith, is, z))
zero_said status said (inr (inl is)) z = absurd (omega (arith, is, z))
zero_said status said (inr (inr (inl is))) z = sym is ∙ z
zero_said status said (inr (inr (inr none))) z = absurd none

pub read_said : (job : Job) (status said : ℕ) (left : Option (List ℕ)) → IsOneOf (19 ∷ 30 ∷ said ∷ []) status → IsReadBy job said left → IsReadBy job status left
read_said do_init status said left one h = tt
read_said do_commit status said left one h = λ z. h (zero_said status said one z)
read_said do_import status said left one h = λ z. h (zero_said status said one z)
read_said do_recover status said left one h = tt
read_said (do_move rev phase force) status said left one h = tt
read_said (do_mark name rev) status said left one h = tt
read_said (do_unmark name) status said left one h = tt
