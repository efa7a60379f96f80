use Rattle.std.proofs.Common.{◌∙◌, sym, ap, length}
use Rattle.hgs_members.proofs.BitLemmas.{length-bits_of}
use Rattle.hgs_members.proofs.members.Members.len.Goals as goal

pub returns : goal.returns
returns c = sym (length-bits_of c.self.inside.words.items c.self.inside.count) ∙ ap (λ ms. length ms) c.self.view_is
