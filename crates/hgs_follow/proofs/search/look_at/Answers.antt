use Rattle.std.proofs.Common.{[], ◌∷◌, refl}
use Rattle.hgs_follow.specs.Asked.{text_of, told}
use Rattle.hgs_follow.specs.declared.filelogs.Stop.TheVariants.{Memory}
use Rattle.hgs_follow.proofs.ChainLemmas.{chain_one, stopped_in}
use Rattle.hgs_follow.proofs.search.look_at.Goals as goal

pub returns-in-Err-clause-err : goal.returns-in-Err-clause-err
returns-in-Err-clause-err g c = ([], c.args.files.now, text_of c.args.path.now c.args.rev, refl, c.in-Err.ensures.refused)

pub returns-in_err-add_line-clause-err : goal.returns-in_err-add_line-clause-err
returns-in_err-add_line-clause-err g c =
    let gave = c.in-Ok.ensures.given in
    stopped_in g.F.Filelogs.gives g.F.Filelogs.refuses c.args.files.now c.source.new.self c.source.new.self (told c.args.path.now c.args.rev gave.0 ∷ []) Memory c.from_residual.result (chain_one g.F.Filelogs.gives c.args.files.now (told c.args.path.now c.args.rev gave.0) c.source.new.self gave.1) ([], refl) c.from_residual.ensures.1

pub returns-in_err-push-clause-err : goal.returns-in_err-push-clause-err
returns-in_err-push-clause-err g c =
    let gave = c.in-Ok.ensures.given in
    stopped_in g.F.Filelogs.gives g.F.Filelogs.refuses c.args.files.now c.source.new.self c.source.new.self (told c.args.path.now c.args.rev gave.0 ∷ []) Memory c.from_residual-in_err-push.result (chain_one g.F.Filelogs.gives c.args.files.now (told c.args.path.now c.args.rev gave.0) c.source.new.self gave.1) ([], refl) c.from_residual-in_err-push.ensures.1
