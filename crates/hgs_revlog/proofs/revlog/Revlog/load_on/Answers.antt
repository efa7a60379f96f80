use Rattle.std.proofs.Common.{◌≡◌, ◌≤◌, length, take, drop, Ok, arith, sym, ◌∙◌, ap}
use Rattle.hgs_revlog.specs.Log.{with_entry}
use Rattle.hgs_revlog.specs.Load.{entry_behind}
use Rattle.hgs_revlog.specs.Theorems.LoadLemmas.{load_rest, load_stops, load_ends, load_on}
use Rattle.hgs_revlog.proofs.PutLemmas.{gives_on}
use Rattle.hgs_revlog.proofs.revlog.Revlog.load_on.Goals as goal

pub returns-in-Err : goal.returns-in-Err
returns-in-Err c =
    let log = c.loop-bytes.log in
    let rest = c.loop-bytes.rest.now in
    let front : c.in-Some.bytes.now ≡ take 64 rest = c.in-Some.ensures.cases.0 in
    let whole : 64 ≤ length rest = (let len = c.in-Some.ensures.cases.2 in omega (arith, len)) in
    gives_on (λ log. log) c.in-Err.fault (entry_behind log.entries c.in-Some.bytes.now) (load_rest c.args.tail c.args.self c.args.index.now) c.in-Err.ensures.answer
    (λ is. sym c.loop-bytes.invariant ∙ load_stops c.args.tail log rest c.in-Err.fault whole (ap (entry_behind log.entries) (sym front) ∙ is))

pub returns-then-ends : goal.returns-then-ends
returns-then-ends c =
    let log = c.loop-bytes.log in
    let rest = c.loop-bytes.rest.now in
    let front : c.in-Some.bytes.now ≡ take 64 rest = c.in-Some.ensures.cases.0 in
    let whole : 64 ≤ length rest = (let len = c.in-Some.ensures.cases.2 in omega (arith, len)) in
    sym c.loop-bytes.invariant
    ∙ load_ends c.args.tail log rest c.in-Ok.entry whole (ap (entry_behind log.entries) (sym front) ∙ c.in-Ok.ensures.answer) (sym c.ends.ensures ∙ c.if-ends.true)
    ∙ ap (λ x. Ok x) (sym c.in-Ok.ensures.taken)

pub loop-bytes-preserved : goal.loop-bytes-preserved
loop-bytes-preserved c =
    let log = c.loop-bytes.log in
    let rest = c.loop-bytes.rest.now in
    let front : c.in-Some.bytes.now ≡ take 64 rest = c.in-Some.ensures.cases.0 in
    let back : c.in-Some.behind.now ≡ drop 64 rest = c.in-Some.ensures.cases.1 in
    let whole : 64 ≤ length rest = (let len = c.in-Some.ensures.cases.2 in omega (arith, len)) in
    ap (λ l. load_rest c.args.tail l c.in-Some.behind.now) c.in-Ok.ensures.taken
    ∙ ap (load_rest c.args.tail (with_entry log c.in-Ok.entry)) back
    ∙ sym (load_on c.args.tail log rest c.in-Ok.entry whole (ap (entry_behind log.entries) (sym front) ∙ c.in-Ok.ensures.answer) (sym c.ends.ensures ∙ c.if-ends.false))
    ∙ c.loop-bytes.invariant
