use Rattle.std.proofs.Common.{◌≡◌, ◌≤◌, ◌∙◌, ℕ, List, length, take, drop, refl, ap, arith}
use Rattle.std.proofs.lemmas.List.{length-take}
use Rattle.hgs_mem.proofs.StreamLemmas.{taken}
use Rattle.hgs_mem.proofs.streams.MemSourceSource.read.Goals as goal

pub returns-in-Ok-clause-bytes : goal.returns-in-Ok-clause-bytes
returns-in-Ok-clause-bytes c =
    let part : List ℕ = c.front-part.result.now in
    let bytes : List ℕ = c.args.self.now.bytes.items in
    let at : ℕ = c.args.self.now.at in
    let e : part ≡ take c.args.most (drop at bytes) = c.front-part.ensures ∙ ap (take c.args.most) (c.past.ensures ∙ ap (drop at) c.as_slice.ensures.value) in
    let short : length part ≤ c.args.most = omega (arith, ap length e, length-take c.args.most (drop at bytes)) in
    (part, c.in-Ok.ensures.items, refl, short, taken bytes part at c.args.most (length part) e refl)
