use Rattle.std.proofs.Common.{◌≡◌, ◌≤◌, length, take, drop, sym, ◌∙◌, arith}
use Rattle.hgs_reader.specs.Theorems.FindLemmas.{node_here, node_behind, no_node}
use Rattle.hgs_reader.proofs.find.has_node.Goals as goal

pub returns-then-equal : goal.returns-then-equal
returns-then-equal c =
    let rest = c.loop-entry.rest.now in
    let front : c.in-Some.entry.now ≡ take 64 rest = c.in-Some.ensures.cases.0 in
    let whole : 64 ≤ length rest = (let len = c.in-Some.ensures.cases.2 in omega (arith, len)) in
    sym (node_here c.args.node.now.0 rest c.in-Some.entry.now whole front (sym c.equal.ensures ∙ c.if-equal.true)) ∙ c.loop-entry.invariant

pub loop-entry-preserved : goal.loop-entry-preserved
loop-entry-preserved c =
    let rest = c.loop-entry.rest.now in
    let front : c.in-Some.entry.now ≡ take 64 rest = c.in-Some.ensures.cases.0 in
    let back : c.in-Some.behind.now ≡ drop 64 rest = c.in-Some.ensures.cases.1 in
    let whole : 64 ≤ length rest = (let len = c.in-Some.ensures.cases.2 in omega (arith, len)) in
    node_behind c.args.node.now.0 rest c.in-Some.entry.now c.in-Some.behind.now whole front back (sym c.equal.ensures ∙ c.if-equal.false) ∙ c.loop-entry.invariant

pub returns : goal.returns
returns c = sym (no_node c.args.node.now.0 c.loop-entry.rest.now (let short = c.in_default.ensures.cases in omega (arith, short))) ∙ c.loop-entry.invariant
