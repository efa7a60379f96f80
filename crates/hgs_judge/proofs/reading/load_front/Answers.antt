use Rattle.std.proofs.Common.{◌≡◌, ◌*◌, ◌∙◌, sym, ap, subst, take}
use Rattle.std.specs.Prelude.{Result, Ok, false}
use Rattle.hgs_bytes.specs.Answer.{Gives}
use Rattle.hgs_revlog.specs.declared.fault.RevFault.{RevFault}
use Rattle.hgs_revlog.specs.declared.fault.Tail.TheVariants.{Ignore}
use Rattle.hgs_revlog.specs.Fault.{is_memory}
use Rattle.hgs_revlog.specs.Load.{loaded}
use Rattle.hgs_revlog.specs.Log.{Log}
use Rattle.hgs_judge.proofs.EntryLemmas.{first-loads}
use Rattle.hgs_judge.proofs.reading.load_front.Goals as goal

pub returns : goal.returns
returns c = λ entries first count.
    let is : loaded Ignore (take (64 * c.args.count) c.args.index.now) ≡ Ok (record { inline = false; entries = entries }) = ap (λ n. loaded Ignore (take (64 * n) c.args.index.now)) (sym count) ∙ first-loads c.args.index.now entries first in
    subst (λ (answer : Result Log RevFault). Gives is_memory (λ (log : Log). log) c.load.result answer) is c.load.ensures
