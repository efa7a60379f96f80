use Rattle.std.proofs.Common.{[], ◌∷◌, List, ℕ, refl, sym, inr, subst}
use Rattle.hgs_follow.specs.Asked.{loaded, log_of}
use Rattle.hgs_follow.specs.declared.filelogs.Stop.TheVariants.{Memory}
use Rattle.hgs_follow.proofs.ChainLemmas.{chain_one, stopped_in}
use Rattle.hgs_follow.proofs.MapLemmas.{held_put}
use Rattle.hgs_follow.proofs.walk.hold.Goals as goal

pub returns-in-Err-clause-err : goal.returns-in-Err-clause-err
returns-in-Err-clause-err g c = ([], c.args.files.now, log_of c.as_slice.result.now, refl, c.in-Err.ensures.refused)

pub returns-in_err-put-clause-err : goal.returns-in_err-put-clause-err
returns-in_err-put-clause-err g c =
    stopped_in g.F.Filelogs.gives g.F.Filelogs.refuses c.args.files.now c.filelog.new.self c.filelog.new.self (loaded c.as_slice.result.now c.in-Ok.filelog.log.entries ∷ []) Memory c.from_residual.result (chain_one g.F.Filelogs.gives c.args.files.now (loaded c.as_slice.result.now c.in-Ok.filelog.log.entries) c.filelog.new.self c.in-Ok.ensures.given) ([], refl) c.from_residual.ensures.1

pub returns-clause-ok : goal.returns-clause-ok
returns-clause-ok g c = inr (record {
  f = c.in-Ok.filelog;
  absent = sym c.if-contains_key.ensures;
  gave = subst (λ (p : List ℕ). g.F.Filelogs.gives c.args.files.now (loaded p c.in-Ok.filelog.log.entries) c.filelog.new.self) c.as_slice.ensures c.in-Ok.ensures.given;
  of_path = subst (λ (p : List ℕ). g.F.Filelogs.holds p c.in-Ok.filelog) c.as_slice.ensures c.in-Ok.ensures.holds;
  earlier = c.in-Ok.ensures.earlier;
  put = c.in_ok-put.ensures;
})

pub returns-clause-held : goal.returns-clause-held
returns-clause-held g c =
    held_put g.F.Filelogs.holds c.args.logs.now c.put.new.logs c.args.path.now c.in-Ok.filelog c.requires c.in_ok-put.ensures (subst (λ (p : List ℕ). g.F.Filelogs.holds p c.in-Ok.filelog) c.as_slice.ensures c.in-Ok.ensures.holds) c.in-Ok.ensures.earlier
