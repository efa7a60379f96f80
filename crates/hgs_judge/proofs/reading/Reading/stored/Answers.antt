use Rattle.std.proofs.Common.{◌≡◌, ◌+◌, [], ◌∷◌, ◌++◌, take, ◌∙◌, sym, ap, arith}
use Rattle.std.proofs.lemmas.List.{take_more}
use Rattle.std.proofs.lemmas.List.Sums.{sum_by_push}
use Rattle.std.proofs.lemmas.Option.{slice_get_within, get_or_from_slice_get}
use Rattle.hgs_index.specs.declared.entry.Entry.{Entry}
use Rattle.hgs_revlog.specs.Log.{stored_sum}
use Rattle.hgs_judge.proofs.reading.Reading.stored.Goals as goal

pub loop-rev-preserved : goal.loop-rev-preserved
loop-rev-preserved c =
    let entries = c.args.self.now.log.entries in
    let i = c.loop-rev.rev in
    let e = c.entry.result.now in
    let more : take (i + 1) entries ≡ take i entries ++ e ∷ [] = take_more entries i e (slice_get_within entries i e c.entry.ensures) ∙ ap (λ y. take i entries ++ y ∷ []) (get_or_from_slice_get entries i e e c.entry.ensures) in
    record {
      sum = ap (λ n. n + e.stored) c.loop-rev.invariant.sum ∙ sym (ap stored_sum more ∙ sum_by_push (λ (x : Entry). x.stored) (take i entries) e);
      small = omega arith;
    }
