use Rattle.std.proofs.Common.{◌-◌, arith}
use Rattle.hgs_loading.proofs.EndLemmas.{last-end}
use Rattle.hgs_loading.proofs.logs.end_of.Goals as goal

pub overflow_add-result : goal.overflow_add-result
overflow_add-result c =
    let n = c.len-count.ensures in
    let some = c.if-count-eq0.false in
    let e = last-end c.args.log.now.entries (c.len-count.result - 1) c.text_span-span.result c.requires (omega (arith, n, some)) c.text_span-span.ensures in
    let d = c.requires.data_end in
    omega (arith, e, d)

pub returns : goal.returns
returns c =
    let n = c.len-count.ensures in
    let some = c.if-count-eq0.false in
    last-end c.args.log.now.entries (c.len-count.result - 1) c.text_span-span.result c.requires (omega (arith, n, some)) c.text_span-span.ensures
