use Rattle.std.proofs.Common.{◌∙◌}
use Rattle.hgs_load.proofs.FeedLemmas.{refused_behind, whole_behind}
use Rattle.hgs_load.proofs.pieces.IndexLoad.finish_last.Goals as goal

pub returns-in-Err-clause-done : goal.returns-in-Err-clause-done
returns-in-Err-clause-done c = refused_behind c.args.former c.deref.result.now c.args.self.now.bytes.items c.in-Some.behind.now c.in-Err.refusal c.deref.ensures.value c.in-Some.ensures c.in-Err.ensures.log

pub returns-in-None-clause-done : goal.returns-in-None-clause-done
returns-in-None-clause-done c = c.read_whole.ensures.asks ∙ whole_behind c.args.former c.deref.result.now c.args.self.now.bytes.items c.deref.ensures.value c.in-None.ensures
