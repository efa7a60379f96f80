use Rattle.std.proofs.Common.{◌≡◌, ◌<◌, length, false, sym, ◌∙◌, arith}
use Rattle.hgs_reader.specs.Find.{has_item}
use Rattle.hgs_reader.proofs.ItemLemmas.{item-here, item-shorter, no-item}
use Rattle.hgs_reader.proofs.PassedLemmas.{none-behind, passed-here, so-far, starts, steps}
use Rattle.hgs_reader.proofs.find.pass_items.Goals as goal
use Rattle.hgs_reader.proofs.find.pass_items.Goals.{in-Some+else-equal+then-is_empty, in_default}

pub loop-entry-init : goal.loop-entry-init
loop-entry-init c = starts c.args.node.now.0 c.args.bytes.now c.past-rest.result.now c.args.passed c.past-rest.ensures c.requires

pub returns-then-equal : goal.returns-then-equal
returns-then-equal c =
    so-far c.args.node.now.0 c.args.bytes.now c.loop-entry.rest.now c.loop-entry.invariant
    ∙ item-here c.args.node.now.0 c.loop-entry.rest.now c.in-Some.entry.now c.in-Some.behind.now (sym c.in-Some.ensures) (sym c.equal.ensures ∙ c.if-equal.true)

pub loop-entry-smaller : goal.loop-entry-smaller
loop-entry-smaller c = item-shorter c.loop-entry.rest.now c.in-Some.entry.now c.in-Some.behind.now (sym c.in-Some.ensures)

pub loop-entry-preserved : goal.loop-entry-preserved
loop-entry-preserved c =
    let some : 0 < length c.in-Some.behind.now = (let e = c.is_empty.ensures in let f = c.if-is_empty.false in grind (arith, e, f)) in
    steps c.args.node.now.0 c.args.bytes.now c.loop-entry.rest.now c.in-Some.entry.now c.in-Some.behind.now (sym c.in-Some.ensures) (sym c.equal.ensures ∙ c.if-equal.false) some c.loop-entry.invariant

pub returns : goal.returns
returns c =
    let node = c.args.node.now.0 in
    let bytes = c.args.bytes.now in
    let rest = c.loop-entry.rest.now in
    let at = c.loop-entry.invariant in
    let none : has_item node (length rest) rest ≡ false =
    elim c.match-whole_item.branch [
      | in-Some+else-equal+then-is_empty w ↦
          none-behind node rest w.in-Some.entry.now w.in-Some.behind.now (sym w.in-Some.ensures) (sym w.equal.ensures ∙ w.if-equal.false) (let e = w.is_empty.ensures in let t = w.if-is_empty.true in grind (arith, e, t))
      | in_default w ↦ no-item node rest (sym w.in_default.ensures)
    ] in
    (so-far node bytes rest at ∙ none, passed-here node bytes rest at)
