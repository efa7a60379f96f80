use Rattle.std.proofs.Common.{◌≡◌, ◌-◌, ◌++◌, cond, Ok, refl, sym, ◌∙◌, ap, subst, arith, List, ℕ, Vec, Result}
use Rattle.std.proofs.Common as std_common
use Rattle.hgs_load.specs.Asks.{Continues}
use Rattle.hgs_load.specs.Asks.{Asks, answer}
use Rattle.hgs_load.specs.declared.answer.ReadAnswer.{ReadAnswer}
use Rattle.hgs_load.specs.declared.answer.ReadAnswer.TheVariants.{Memory}
use Rattle.hgs_load.specs.Given.{Gave, Takes}
use Rattle.hgs_load.specs.Theorems.GivenLemmas.{gave-none, handed-on, refused-both, refused-first, takes-no-memory}
use Rattle.hgs_reader.specs.Find.{bytes_behind, is_far, more_pieces, pieces_until}
use Rattle.hgs_load.specs.Theorems.AskLemmas.{continues-start, grows-refl, grows-trans}
use Rattle.hgs_reader.specs.Passed.{IsPassed}
use Rattle.hgs_reader.proofs.UntilLemmas.{asks_behind, goes_on, ends, none_left, gave_piece, gave_on, gave_end}
use Rattle.hgs_reader.proofs.find.read_behind.Goals as goal

pub returns-in_err-extend_from_slice-clause-seen : goal.returns-in_err-extend_from_slice-clause-seen
returns-in_err-extend_from_slice-clause-seen g c =
    grows-trans (g.R.Reads.seen c.args.files.now) (g.R.Reads.seen c.loop-left.files) (g.R.Reads.seen c.read_part.new.files) c.loop-left.invariant.grown c.in_ok-part.ensures.seen

pub returns-in-Ended-search_piece-clause-answer : goal.returns-in-Ended-search_piece-clause-answer
returns-in-Ended-search_piece-clause-answer g c =
    let i = c.loop-left.invariant in
    let e = c.in_ok-part.ensures in
    let whole = bytes_behind c.args.inline c.args.index.now c.args.node.now.0 c.args.first.now in
    ends (g.R.Reads.seen c.args.files.now) (g.R.Reads.seen c.loop-left.files) (g.R.Reads.seen c.read_part.new.files) (g.R.Reads.start c.args.files.now) (g.R.Reads.start c.read_part.new.files) whole
    c.args.inline c.args.index.now c.args.node.now.0 c.loop-left.bytes.items c.extend_from_slice.new.self.items c.bytes_of-piece.result.now c.in_ok-part.part c.len.result (c.len.ensures ∙ c.loop-left.bytes.ok.0)
    c.loop-left.left c.loop-left-test.true i.asked e.seen (e.same_start ∙ i.same_start) e.answer c.bytes_of-piece.ensures c.in_ok-extend_from_slice.ensures.items
    (ap (λ l. is_far c.args.inline c.args.node.now.0 l c.bytes_of-piece.result.now) (sym c.deref.ensures.value) ∙ c.in-Ended-search_piece.ensures)

pub loop-left-preserved-in-Passed-search_piece : goal.loop-left-preserved-in-Passed-search_piece
loop-left-preserved-in-Passed-search_piece g c =
    let i = c.loop-left.invariant in
    let e = c.in_ok-part.ensures in
    let whole = bytes_behind c.args.inline c.args.index.now c.args.node.now.0 c.args.first.now in
    record {
      passed = subst (λ (l : List ℕ). IsPassed c.args.node.now.0 l c.in-Passed-search_piece.more) c.deref.ensures.value c.in-Passed-search_piece.ensures.1;
      asked = goes_on (g.R.Reads.seen c.args.files.now) (g.R.Reads.seen c.loop-left.files) (g.R.Reads.seen c.read_part.new.files) (g.R.Reads.start c.args.files.now) (g.R.Reads.start c.read_part.new.files) whole
          c.args.inline c.args.index.now c.args.node.now.0 c.loop-left.bytes.items c.extend_from_slice.new.self.items c.bytes_of-piece.result.now c.in_ok-part.part c.len.result (c.len.ensures ∙ c.loop-left.bytes.ok.0)
          c.loop-left.left c.loop-left-test.true i.asked e.seen (e.same_start ∙ i.same_start) e.answer c.bytes_of-piece.ensures c.in_ok-extend_from_slice.ensures.items
          (ap (λ l. is_far c.args.inline c.args.node.now.0 l c.bytes_of-piece.result.now) (sym c.deref.ensures.value) ∙ c.in-Passed-search_piece.ensures.0);
      gave = gave_on (g.R.Reads.given c.args.files.now) (g.R.Reads.given c.loop-left.files) (g.R.Reads.given c.read_part.new.files) (g.R.Reads.seen c.args.files.now) (g.R.Reads.seen c.loop-left.files) (g.R.Reads.seen c.read_part.new.files) (g.R.Reads.start c.args.files.now) (g.R.Reads.start c.read_part.new.files) whole
          c.args.inline c.args.index.now c.args.node.now.0 c.loop-left.bytes.items c.extend_from_slice.new.self.items c.bytes_of-piece.result.now c.in_ok-part.part c.len.result (c.len.ensures ∙ c.loop-left.bytes.ok.0) e.given e.short
          c.loop-left.left c.loop-left-test.true i.gave e.seen (e.same_start ∙ i.same_start) e.answer c.bytes_of-piece.ensures c.in_ok-extend_from_slice.ensures.items
          (ap (λ l. is_far c.args.inline c.args.node.now.0 l c.bytes_of-piece.result.now) (sym c.deref.ensures.value) ∙ c.in-Passed-search_piece.ensures.0);
      grown = grows-trans (g.R.Reads.seen c.args.files.now) (g.R.Reads.seen c.loop-left.files) (g.R.Reads.seen c.read_part.new.files) i.grown e.seen;
      same_start = e.same_start ∙ i.same_start;
      still = λ h. e.still h ∙ i.still h;
      tied = e.same_ties ∙ i.tied;
      shown = λ h. e.shown (i.shown h);
      later = (let l = e.cause.later in omega (arith, l, i.later));
      refused = (let l = e.cause.refused in omega (arith, l, i.refused));
    }

pub loop-left-init : goal.loop-left-init
loop-left-init g c =
    let seen = g.R.Reads.seen c.args.files.now in
    let start = g.R.Reads.start c.args.files.now in
    let given = g.R.Reads.given c.args.files.now in
    let first = c.args.first.now in
    let whole = bytes_behind c.args.inline c.args.index.now c.args.node.now.0 first in
    let left = c.more_pieces-left.result in
    let next : ℕ → List ℕ → Asks (Result (List ℕ) ReadAnswer) = λ n bytes. pieces_until c.args.inline c.args.index.now c.args.node.now.0 n bytes in
    let is : whole ≡ next left c.in_ok-bytes.bytes.items =
    ap (λ b. cond b (answer (Ok first)) (next (more_pieces c.args.inline) first)) c.in-Passed.ensures.0 ∙ ap (λ n. next n first) (sym c.more_pieces-left.ensures) ∙ ap (next left) (sym c.in_ok-bytes.ensures.items) in
    let P : Asks (Result (List ℕ) ReadAnswer) → Type 0 = λ q. Continues seen start seen whole q in
    let Q : Asks (Result (List ℕ) ReadAnswer) → Type 0 = λ q. Gave given given seen start seen whole q in
    record {
      passed = subst (λ (l : List ℕ). IsPassed c.args.node.now.0 l c.in-Passed.passed) (sym c.in_ok-bytes.ensures.items) c.in-Passed.ensures.1;
      asked = subst P is (continues-start seen start whole);
      gave = subst Q is (gave-none given given seen seen start whole refl (grows-refl seen));
      grown = grows-refl seen;
      same_start = refl;
      still = λ h. refl;
      tied = refl;
      shown = λ h. h;
      later = omega arith;
      refused = omega arith;
    }

pub returns-in-Ended-clause-given : goal.returns-in-Ended-clause-given
returns-in-Ended-clause-given g c =
    let seen = g.R.Reads.seen c.args.files.now in
    let start = g.R.Reads.start c.args.files.now in
    let given = g.R.Reads.given c.args.files.now in
    let first = c.args.first.now in
    let whole = bytes_behind c.args.inline c.args.index.now c.args.node.now.0 first in
    let is : whole ≡ answer (Ok c.in_ok-bytes.bytes.items) =
    ap (λ b. cond b (answer (Ok first)) (pieces_until c.args.inline c.args.index.now c.args.node.now.0 (more_pieces c.args.inline) first)) c.in-Ended.ensures ∙ ap (λ l. answer (Ok l)) (sym c.in_ok-bytes.ensures.items) in
    let Q : Asks (Result (List ℕ) ReadAnswer) → Type 0 = λ q. Gave given given seen start seen whole q in
    subst Q is (gave-none given given seen seen start whole refl (grows-refl seen))

pub returns-in_err-bytes-clause-given : goal.returns-in_err-bytes-clause-given
returns-in_err-bytes-clause-given g c =
    takes-no-memory (λ (bytes : Vec ℕ std_common.Global). bytes.items) (g.R.Reads.given c.args.files.now) (g.R.Reads.seen c.args.files.now) (g.R.Reads.start c.args.files.now) (bytes_behind c.args.inline c.args.index.now c.args.node.now.0 c.args.first.now) c.from_residual.result c.from_residual.ensures.0 c.from_residual.ensures.1

pub returns-in-Ended-search_piece-clause-given : goal.returns-in-Ended-search_piece-clause-given
returns-in-Ended-search_piece-clause-given g c =
    let i = c.loop-left.invariant in
    let e = c.in_ok-part.ensures in
    let whole = bytes_behind c.args.inline c.args.index.now c.args.node.now.0 c.args.first.now in
    gave_end (g.R.Reads.given c.args.files.now) (g.R.Reads.given c.loop-left.files) (g.R.Reads.given c.read_part.new.files) (g.R.Reads.seen c.args.files.now) (g.R.Reads.seen c.loop-left.files) (g.R.Reads.seen c.read_part.new.files) (g.R.Reads.start c.args.files.now) (g.R.Reads.start c.read_part.new.files) whole
    c.args.inline c.args.index.now c.args.node.now.0 c.loop-left.bytes.items c.extend_from_slice.new.self.items c.bytes_of-piece.result.now c.in_ok-part.part c.len.result (c.len.ensures ∙ c.loop-left.bytes.ok.0) e.given e.short
    c.loop-left.left c.loop-left-test.true i.gave e.seen (e.same_start ∙ i.same_start) e.answer c.bytes_of-piece.ensures c.in_ok-extend_from_slice.ensures.items
    (ap (λ l. is_far c.args.inline c.args.node.now.0 l c.bytes_of-piece.result.now) (sym c.deref.ensures.value) ∙ c.in-Ended-search_piece.ensures)

pub returns-clause-given : goal.returns-clause-given
returns-clause-given g c =
    let past = c.loop-left-test.false in
    let whole = bytes_behind c.args.inline c.args.index.now c.args.node.now.0 c.args.first.now in
    let none : c.loop-left.left ≡ 0 = omega (arith, past) in
    let Q : ℕ → Type 0 = λ k. Gave (g.R.Reads.given c.args.files.now) (g.R.Reads.given c.loop-left.files) (g.R.Reads.seen c.args.files.now) (g.R.Reads.start c.args.files.now) (g.R.Reads.seen c.loop-left.files) whole (pieces_until c.args.inline c.args.index.now c.args.node.now.0 k c.loop-left.bytes.items) in
    subst Q none c.loop-left.invariant.gave

pub returns-in_err-part-clause-given : goal.returns-in_err-part-clause-given
returns-in_err-part-clause-given g c =
    let i = c.loop-left.invariant in
    let e = c.in_err-part.ensures in
    let whole = bytes_behind c.args.inline c.args.index.now c.args.node.now.0 c.args.first.now in
    let left = pieces_until c.args.inline c.args.index.now c.args.node.now.0 c.loop-left.left c.loop-left.bytes.items in
    let P : Result (Vec ℕ std_common.Global) ReadAnswer → Type 0 = λ r. Takes (λ (bytes : Vec ℕ std_common.Global). bytes.items) (g.R.Reads.given c.args.files.now) (g.R.Reads.given c.read_part.new.files) (g.R.Reads.seen c.args.files.now) (g.R.Reads.start c.args.files.now) (g.R.Reads.seen c.read_part.new.files) whole r in
    handed-on P c.from_residual-in_err-part.result c.in_err-part.field-0.0 c.from_residual-in_err-part.ensures.0 c.from_residual-in_err-part.ensures.1
    (refused-both (g.R.Reads.given c.args.files.now) (g.R.Reads.given c.loop-left.files) (g.R.Reads.given c.read_part.new.files) (g.R.Reads.seen c.args.files.now) (g.R.Reads.seen c.loop-left.files) (g.R.Reads.seen c.read_part.new.files) (g.R.Reads.start c.args.files.now) (g.R.Reads.start c.args.files.now) whole left c.in_err-part.field-0.0
    refl i.gave (refused-first (g.R.Reads.given c.loop-left.files) (g.R.Reads.given c.read_part.new.files) (g.R.Reads.seen c.loop-left.files) (g.R.Reads.seen c.read_part.new.files) (g.R.Reads.start c.args.files.now) left c.in_err-part.field-0.0 e.answer e.given e.seen))

pub returns-in_err-extend_from_slice-clause-given : goal.returns-in_err-extend_from_slice-clause-given
returns-in_err-extend_from_slice-clause-given g c =
    let i = c.loop-left.invariant in
    let e = c.in_ok-part.ensures in
    let whole = bytes_behind c.args.inline c.args.index.now c.args.node.now.0 c.args.first.now in
    let P : Result (Vec ℕ std_common.Global) ReadAnswer → Type 0 = λ r. Takes (λ (bytes : Vec ℕ std_common.Global). bytes.items) (g.R.Reads.given c.args.files.now) (g.R.Reads.given c.read_part.new.files) (g.R.Reads.seen c.args.files.now) (g.R.Reads.start c.args.files.now) (g.R.Reads.seen c.read_part.new.files) whole r in
    handed-on P c.from_residual-in_err-extend_from_slice.result Memory c.from_residual-in_err-extend_from_slice.ensures.0 c.from_residual-in_err-extend_from_slice.ensures.1 (
      asks_behind c.args.inline c.args.index.now c.args.node.now.0 (c.loop-left.left - 1) (c.loop-left.bytes.items ++ c.bytes_of-piece.result.now) c.bytes_of-piece.result.now,
      gave_piece (g.R.Reads.given c.args.files.now) (g.R.Reads.given c.loop-left.files) (g.R.Reads.given c.read_part.new.files) (g.R.Reads.seen c.args.files.now) (g.R.Reads.seen c.loop-left.files) (g.R.Reads.seen c.read_part.new.files) (g.R.Reads.start c.args.files.now) (g.R.Reads.start c.read_part.new.files) whole
          c.args.inline c.args.index.now c.args.node.now.0 c.loop-left.bytes.items (c.loop-left.bytes.items ++ c.bytes_of-piece.result.now) c.bytes_of-piece.result.now c.in_ok-part.part c.len.result (c.len.ensures ∙ c.loop-left.bytes.ok.0) e.given e.short
          c.loop-left.left c.loop-left-test.true i.gave e.seen (e.same_start ∙ i.same_start) e.answer c.bytes_of-piece.ensures refl,
    )

pub returns-clause-answer : goal.returns-clause-answer
returns-clause-answer g c =
    let past = c.loop-left-test.false in
    none_left (g.R.Reads.seen c.args.files.now) (g.R.Reads.seen c.loop-left.files) (g.R.Reads.start c.args.files.now) (bytes_behind c.args.inline c.args.index.now c.args.node.now.0 c.args.first.now)
    c.args.inline c.args.index.now c.args.node.now.0 c.loop-left.bytes.items c.loop-left.left (omega (arith, past)) c.loop-left.invariant.asked

pub returns-in_err-part-clause-same_ties : goal.returns-in_err-part-clause-same_ties
returns-in_err-part-clause-same_ties g c = c.in_err-part.ensures.same_ties ∙ c.loop-left.invariant.tied

pub returns-in_err-part-clause-shown : goal.returns-in_err-part-clause-shown
returns-in_err-part-clause-shown g c h = c.in_err-part.ensures.shown (c.loop-left.invariant.shown h)

pub returns-in_err-extend_from_slice-clause-same_ties : goal.returns-in_err-extend_from_slice-clause-same_ties
returns-in_err-extend_from_slice-clause-same_ties g c = c.in_ok-part.ensures.same_ties ∙ c.loop-left.invariant.tied

pub returns-in_err-extend_from_slice-clause-shown : goal.returns-in_err-extend_from_slice-clause-shown
returns-in_err-extend_from_slice-clause-shown g c h = c.in_ok-part.ensures.shown (c.loop-left.invariant.shown h)

pub returns-in-Ended-search_piece-clause-same_ties : goal.returns-in-Ended-search_piece-clause-same_ties
returns-in-Ended-search_piece-clause-same_ties g c = c.in_ok-part.ensures.same_ties ∙ c.loop-left.invariant.tied

pub returns-in-Ended-search_piece-clause-shown : goal.returns-in-Ended-search_piece-clause-shown
returns-in-Ended-search_piece-clause-shown g c h = c.in_ok-part.ensures.shown (c.loop-left.invariant.shown h)

pub returns-clause-same_ties : goal.returns-clause-same_ties
returns-clause-same_ties g c = c.loop-left.invariant.tied

pub returns-clause-shown : goal.returns-clause-shown
returns-clause-shown g c = c.loop-left.invariant.shown
