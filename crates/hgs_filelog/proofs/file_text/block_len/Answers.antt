use Rattle.std.proofs.Common.{sym, ◌∙◌}
use Rattle.hgs_filelog.proofs.MarkerLemmas.{block_answer}
use Rattle.hgs_filelog.proofs.file_text.block_len.Goals as goal

pub returns-in-Some-clause-value : goal.returns-in-Some-clause-value
returns-in-Some-clause-value c =
    block_answer c.args.text.now c.past.result.now c.in-Some.place c.past.ensures (sym c.starts.ensures ∙ c.if-not-starts.false) c.in-Some.ensures.fits c.in-Some.ensures.value
