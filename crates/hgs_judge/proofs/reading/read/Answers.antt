use Rattle.std.proofs.Common.{◌≡◌, ◌<◌, ◌∙◌, subst, arith, length, take}
use Rattle.std.specs.Prelude.{true, false}
use Rattle.hgs_revlog.specs.Log.{Log}
use Rattle.hgs_judge.specs.Read.{IsRead}
use Rattle.hgs_judge.proofs.EntryLemmas.{loaded_log, ok-log, refused}
use Rattle.hgs_judge.proofs.WalkLemmas.{all-read, cut-read}
use Rattle.hgs_judge.proofs.reading.read.Goals as goal

pub returns-then-count-len-clause-ok : goal.returns-then-count-len-clause-ok
returns-then-count-len-clause-ok c =
    let r = c.in-Ok.reading in
    all-read c.args.index.now c.args.data_bytes.now r.log.entries r.broken c.sound-count.result c.in-Ok.ensures.ok c.sound-count.ensures (c.if-count-len.true ∙ c.len.ensures)

pub returns-in-Ok-load_front-clause-ok : goal.returns-in-Ok-load_front-clause-ok
returns-in-Ok-load_front-clause-ok c =
    let r = c.in-Ok.reading in
    let n = c.sound-count.result in
    let lt : n < length r.log.entries = (let w = c.sound-count.ensures.within in let l = c.len.ensures in let no = c.if-count-len.false in omega (arith, w, l, no)) in
    let cut = cut-read c.args.index.now c.args.data_bytes.now r.log.entries r.broken n c.in-Ok.ensures.ok c.sound-count.ensures lt in
    let given : loaded_log (record { inline = false; entries = take n r.log.entries }) ≡ loaded_log c.in-Ok-load_front.log = c.in-Ok-load_front.ensures (take n r.log.entries) cut.0 cut.1 in
    let is : record { inline = false; entries = take n r.log.entries } ≡ c.in-Ok-load_front.log = ok-log (record { inline = false; entries = take n r.log.entries }) c.in-Ok-load_front.log given in
    subst (λ (log : Log). IsRead c.args.index.now c.args.data_bytes.now log.entries true) is cut.2

pub returns-clause-err : goal.returns-clause-err
returns-clause-err c =
    let r = c.in-Ok.reading in
    let n = c.sound-count.result in
    let lt : n < length r.log.entries = (let w = c.sound-count.ensures.within in let l = c.len.ensures in let no = c.if-count-len.false in omega (arith, w, l, no)) in
    let cut = cut-read c.args.index.now c.args.data_bytes.now r.log.entries r.broken n c.in-Ok.ensures.ok c.sound-count.ensures lt in
    refused c.in-Err-load_front.fault c.args.index.now (record { inline = false; entries = take n r.log.entries }) (c.in-Err-load_front.ensures (take n r.log.entries) cut.0 cut.1)
