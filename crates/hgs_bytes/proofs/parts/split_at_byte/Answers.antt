use Rattle.std.proofs.Common.{◌+◌, sym, ◌∙◌, ap, take, Some}
use Rattle.std.proofs.lemmas.List.{take_rest}
use Rattle.hgs_bytes.specs.Theorems.TextLemmas.{split_found, split_missing}
use Rattle.hgs_bytes.proofs.parts.split_at_byte.Goals as goal

pub returns-in-Some : goal.returns-in-Some
returns-in-Some c =
    ap (λ l. Some (take c.in-Some.at c.args.bytes.now, l)) (take_rest c.args.bytes.now (c.in-Some.at + 1)) ∙ sym (split_found c.args.byte c.args.bytes.now c.in-Some.at c.in-Some.ensures)

pub returns-in-None : goal.returns-in-None
returns-in-None c = sym (split_missing c.args.byte c.args.bytes.now c.in-None.ensures)
