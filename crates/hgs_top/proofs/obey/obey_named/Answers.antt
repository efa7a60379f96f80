use Rattle.hgs_bytes.specs.Answer.{Gives}
use Rattle.hgs_load.specs.Answer.{is_of_outside}
use Rattle.hgs_load.specs.declared.answer.ReadAnswer.TheVariants.{Memory}
use Rattle.hgs_loading.specs.Found.{required_in}
use Rattle.std.proofs.Common.{Err, refl}
use Rattle.hgs_top.proofs.LogLemmas.{of_all}
use Rattle.hgs_top.proofs.obey.obey_named.Goals as goal

pub returns-in-Err-clause-comes : goal.returns-in-Err-clause-comes
returns-in-Err-clause-comes g c = λ job some is left.
    let command = some left in
    let told = of_all (g.F.Files.log c.args.files.now) (g.F.Reads.start c.args.files.now) (λ t. Gives is_of_outside (λ x. x) (Err Memory) (required_in t)) (λ t. tt) in
    (command.0, command.1, told, refl)
