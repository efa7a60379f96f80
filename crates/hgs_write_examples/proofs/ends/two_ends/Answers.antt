use Rattle.std.proofs.Common.{rules, ◌≡◌, ◌-◌, ◌<◌, length, vec_len, slice_index_or, ap, ◌∙◌}
use Rattle.hgs_hub.specs.Reader.{ties_by}
use Rattle.hgs_write_examples.proofs.ends.two_ends.Goals as goal

pub invariant_of-result : goal.invariant_of-result
invariant_of-result g c =
    let xs = c.in-Ok.rs.items in
    let r = c.in-Some.r in
    let i = vec_len c.in-Ok.rs - 1 in
    let some : 0 < vec_len c.in-Ok.rs = search rules in
    let lt : i < length xs = search rules in
    let is : r ≡ slice_index_or xs i r = search rules in
    let n = c.in-Ok.ensures.readers i r lt in
    record { home = ap (λ s. (ties_by s).home) is ∙ n.0 }
