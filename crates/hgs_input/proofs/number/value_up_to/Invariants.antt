use Rattle.std.proofs.Common.{◌≡◌, min, ◌≤◌, drop}
use Rattle.std.specs.Str.Parse.{digits_value, digits_value_after}
use Rattle.hgs_input.proofs.number.value_up_to.Given as goal

abbrev pub invariant-loop-digit : goal.invariant-loop-digit
invariant-loop-digit l = record {
  small : l.value ≤ l.bound;
  same : min (digits_value_after 10 l.value (drop l.digit-index l.digits)) l.bound ≡ min (digits_value 10 l.digits) l.bound;
}
