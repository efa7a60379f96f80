use Rattle.std.proofs.Common.{◌≡◌, ◌+◌, List, ℕ, length, take, IfSome, sym, ◌∙◌, ap, subst, arith}
use Rattle.hgs_input.specs.Record.{most_input}
use Rattle.hgs_top.specs.Orders.{IsAtEnd}
use Rattle.hgs_top.proofs.InputLemmas.{all_taken, at_end, most_taken}
use Rattle.hgs_top.proofs.input.read_input.Goals as goal
use Rattle.hgs_top.proofs.input.read_input.Goals.{else-loop-bytes-test, then-loop-bytes-test+in-Ok-eq0}

pub returns-clause-read : goal.returns-clause-read
returns-clause-read g c =
    let left = g.S.Source.left c.args.input.now in
    let i = c.loop-bytes.invariant in
    let P : List ℕ → Type 0 = λ bytes. IfSome left (λ all. bytes ≡ take (most_input + 1) all) in
    elim c.loop-bytes-test.branch [
      | else-loop-bytes-test w ↦
          let past = w.loop-bytes-test.false in
          let few = i.few in
          let len = c.len.ensures ∙ c.loop-bytes.bytes.ok.0 in
          subst P (sym (ap (λ v. v.items) w.bytes-is)) (most_taken left (g.S.Source.left c.loop-bytes.input) c.loop-bytes.bytes.items i.taken (omega (arith, past, few, len)))
      | then-loop-bytes-test+in-Ok-eq0 w ↦
          let t = w.in-Ok-eq0.ensures.bytes in
          let some = w.loop-bytes-test.true in
          let most = w.min-most.ensures in
          let len = w.len-in-loop-bytes.ensures in
          subst P (sym (ap (λ v. v.items) w.bytes-is)) (all_taken left (g.S.Source.left c.loop-bytes.input) (g.S.Source.left w.read.new.self) c.loop-bytes.bytes.items t.0 w.read.new.into.items w.min-most.result i.taken t.4 t.1
          (t.2 ∙ w.in-Ok-eq0.field-0-test) (omega (arith, some, most, len)) i.few)
    ]

pub returns-clause-whole : goal.returns-clause-whole
returns-clause-whole g c =
    let i = c.loop-bytes.invariant in
    elim c.loop-bytes-test.branch [
      | else-loop-bytes-test w ↦
          let past = w.loop-bytes-test.false in
          let len = c.len.ensures ∙ c.loop-bytes.bytes.ok.0 in
          let same = ap (λ v. length v.items) w.bytes-is in
          λ few. absurd (omega (arith, past, len, same, few))
      | then-loop-bytes-test+in-Ok-eq0 w ↦
          let t = w.in-Ok-eq0.ensures.bytes in
          let some = w.loop-bytes-test.true in
          let most = w.min-most.ensures in
          let len = w.len-in-loop-bytes.ensures in
          λ few. subst IsAtEnd (ap g.S.Source.left (sym w.input-is)) (at_end (g.S.Source.left c.loop-bytes.input) (g.S.Source.left w.read.new.self) t.0 w.min-most.result t.4 (t.2 ∙ w.in-Ok-eq0.field-0-test) (omega (arith, some, most, len)))
    ]
