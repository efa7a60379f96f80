use Rattle.std.proofs.Common.{Ok, sym, ◌∙◌, ap}
use Rattle.hgs_revlog.specs.Log.{Log, with_entry}
use Rattle.hgs_revlog.specs.Load.{loaded_either, entry_behind}
use Rattle.hgs_revlog.proofs.FormLemmas.{left_of, left-front, left-behind, left-ends, left-shorter, form-begins}
use Rattle.hgs_revlog.specs.Theorems.LoadLemmas.{load_rest, load_stops, load_ends, load_on, gives}
use Rattle.hgs_revlog.proofs.PutLemmas.{gives_on}
use Rattle.hgs_revlog.proofs.revlog.Revlog.load_inline.Goals as goal

pub loop-bytes-init : goal.loop-bytes-init
loop-bytes-init c = ap (λ (l : Log). load_rest c.args.tail l (left_of l.entries c.args.index.now)) c.empty-log.ensures ∙ form-begins c.args.tail c.args.index.now c.requires

pub returns-in-Err : goal.returns-in-Err
returns-in-Err c =
    let log = c.loop-bytes.log in
    let front = left-front log.entries c.loop-bytes.rest.now c.in-Some.bytes.now c.in-Some.behind.now (sym c.in-Some.ensures) in
    gives_on (λ log. log) c.in-Err.fault (entry_behind log.entries c.cell-cell.result) (loaded_either c.args.tail c.args.index.now) c.in-Err.ensures.answer
    (λ is. sym c.loop-bytes.invariant ∙ load_stops c.args.tail log (left_of log.entries c.loop-bytes.rest.now) c.in-Err.fault front.long (ap (entry_behind log.entries) (front.first ∙ sym c.cell-cell.ensures) ∙ is))

pub returns-then-ends : goal.returns-then-ends
returns-then-ends c =
    let log = c.loop-bytes.log in
    let front = left-front log.entries c.loop-bytes.rest.now c.in-Some.bytes.now c.in-Some.behind.now (sym c.in-Some.ensures) in
    sym c.loop-bytes.invariant
    ∙ load_ends c.args.tail log (left_of log.entries c.loop-bytes.rest.now) c.in-Ok.entry front.long (ap (entry_behind log.entries) (front.first ∙ sym c.cell-cell.ensures) ∙ c.in-Ok.ensures.answer) (sym c.ends.ensures ∙ c.if-ends.true)
    ∙ ap (λ x. Ok x) (sym c.in-Ok.ensures.taken)

pub loop-bytes-smaller : goal.loop-bytes-smaller
loop-bytes-smaller c = left-shorter c.loop-bytes.rest.now c.in-Some.bytes.now c.in-Some.behind.now (sym c.in-Some.ensures)

pub loop-bytes-preserved : goal.loop-bytes-preserved
loop-bytes-preserved c =
    let log = c.loop-bytes.log in
    let e = c.in-Ok.entry in
    let front = left-front log.entries c.loop-bytes.rest.now c.in-Some.bytes.now c.in-Some.behind.now (sym c.in-Some.ensures) in
    ap (λ (l : Log). load_rest c.args.tail l (left_of l.entries c.in-Some.behind.now)) c.in-Ok.ensures.taken
    ∙ ap (load_rest c.args.tail (with_entry log e)) (left-behind log.entries e c.in-Some.behind.now ∙ sym front.rest)
    ∙ sym (load_on c.args.tail log (left_of log.entries c.loop-bytes.rest.now) e front.long (ap (entry_behind log.entries) (front.first ∙ sym c.cell-cell.ensures) ∙ c.in-Ok.ensures.answer) (sym c.ends.ensures ∙ c.if-ends.false))
    ∙ c.loop-bytes.invariant

pub returns : goal.returns
returns c =
    gives c.ended.result (loaded_either c.args.tail c.args.index.now)
    (sym c.loop-bytes.invariant ∙ left-ends c.args.tail c.loop-bytes.log c.loop-bytes.rest.now (sym c.in_default.ensures) ∙ sym c.ended.ensures)
