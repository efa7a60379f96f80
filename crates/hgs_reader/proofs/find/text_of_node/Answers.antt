use Rattle.std.proofs.Common.{List, ℕ, Ok, Err, sym, ◌∙◌}
use Rattle.hgs_load.specs.Theorems.AskLemmas.{grows-trans}
use Rattle.hgs_load.specs.Theorems.GivenLemmas.{takes-refused-read}
use Rattle.hgs_reader.specs.Find.{text_asks}
use Rattle.hgs_reader.proofs.FirstLemmas.{first-inline, first-separate, inline-takes, separate-takes}
use Rattle.hgs_reader.proofs.find.text_of_node.Goals as goal

pub returns-in-Ok-clause-answer : goal.returns-in-Ok-clause-answer
returns-in-Ok-clause-answer g c =
    let e = c.in_ok-part.ensures in
    first-inline (λ (text : List ℕ). text) (g.R.Reads.seen c.args.files.now) (g.R.Reads.seen c.read_part.new.files) (g.R.Reads.seen c.inline_text_of.new.files) (g.R.Reads.start c.args.files.now) (g.R.Reads.start c.read_part.new.files)
    c.args.paths.now.index c.args.paths.now.chunks c.args.node.now.0 c.bytes_of-first.result.now c.in_ok-part.part (Ok c.in-Ok.text) e.seen e.same_start e.answer c.bytes_of-first.ensures (sym c.is_inline.ensures ∙ c.if-is_inline.true) c.in-Ok.ensures.answer

pub returns-in-Ok-clause-seen : goal.returns-in-Ok-clause-seen
returns-in-Ok-clause-seen g c =
    grows-trans (g.R.Reads.seen c.args.files.now) (g.R.Reads.seen c.read_part.new.files) (g.R.Reads.seen c.inline_text_of.new.files) c.in_ok-part.ensures.seen c.in-Ok.ensures.seen

pub returns-then-is_inline-clause-answer : goal.returns-then-is_inline-clause-answer
returns-then-is_inline-clause-answer g c =
    let e = c.in_ok-part.ensures in
    first-inline (λ (text : List ℕ). text) (g.R.Reads.seen c.args.files.now) (g.R.Reads.seen c.read_part.new.files) (g.R.Reads.seen c.inline_text_of.new.files) (g.R.Reads.start c.args.files.now) (g.R.Reads.start c.read_part.new.files)
    c.args.paths.now.index c.args.paths.now.chunks c.args.node.now.0 c.bytes_of-first.result.now c.in_ok-part.part (Err c.in-Err.refusal) e.seen e.same_start e.answer c.bytes_of-first.ensures (sym c.is_inline.ensures ∙ c.if-is_inline.true) c.in-Err.ensures.answer

pub returns-then-is_inline-clause-seen : goal.returns-then-is_inline-clause-seen
returns-then-is_inline-clause-seen g c =
    grows-trans (g.R.Reads.seen c.args.files.now) (g.R.Reads.seen c.read_part.new.files) (g.R.Reads.seen c.inline_text_of.new.files) c.in_ok-part.ensures.seen c.in-Err.ensures.seen

pub returns-in-Ok-separate_text-clause-answer : goal.returns-in-Ok-separate_text-clause-answer
returns-in-Ok-separate_text-clause-answer g c =
    let e = c.in_ok-part.ensures in
    first-separate (λ (text : List ℕ). text) (g.R.Reads.seen c.args.files.now) (g.R.Reads.seen c.read_part.new.files) (g.R.Reads.seen c.separate_text.new.files) (g.R.Reads.start c.args.files.now) (g.R.Reads.start c.read_part.new.files)
    c.args.paths.now.index c.args.paths.now.chunks c.args.node.now.0 c.bytes_of-first.result.now c.in_ok-part.part (Ok c.in-Ok-separate_text.text) e.seen e.same_start e.answer c.bytes_of-first.ensures (sym c.is_inline.ensures ∙ c.if-is_inline.false) c.in-Ok-separate_text.ensures.answer

pub returns-in-Ok-separate_text-clause-seen : goal.returns-in-Ok-separate_text-clause-seen
returns-in-Ok-separate_text-clause-seen g c =
    grows-trans (g.R.Reads.seen c.args.files.now) (g.R.Reads.seen c.read_part.new.files) (g.R.Reads.seen c.separate_text.new.files) c.in_ok-part.ensures.seen c.in-Ok-separate_text.ensures.seen

pub returns-clause-answer : goal.returns-clause-answer
returns-clause-answer g c =
    let e = c.in_ok-part.ensures in
    first-separate (λ (text : List ℕ). text) (g.R.Reads.seen c.args.files.now) (g.R.Reads.seen c.read_part.new.files) (g.R.Reads.seen c.separate_text.new.files) (g.R.Reads.start c.args.files.now) (g.R.Reads.start c.read_part.new.files)
    c.args.paths.now.index c.args.paths.now.chunks c.args.node.now.0 c.bytes_of-first.result.now c.in_ok-part.part (Err c.in-Err-separate_text.refusal) e.seen e.same_start e.answer c.bytes_of-first.ensures (sym c.is_inline.ensures ∙ c.if-is_inline.false) c.in-Err-separate_text.ensures.answer

pub returns-clause-seen : goal.returns-clause-seen
returns-clause-seen g c =
    grows-trans (g.R.Reads.seen c.args.files.now) (g.R.Reads.seen c.read_part.new.files) (g.R.Reads.seen c.separate_text.new.files) c.in_ok-part.ensures.seen c.in-Err-separate_text.ensures.seen

pub returns-in-Ok-clause-given : goal.returns-in-Ok-clause-given
returns-in-Ok-clause-given g c =
    let e = c.in_ok-part.ensures in
    inline-takes (λ (text : List ℕ). text) (g.R.Reads.given c.args.files.now) (g.R.Reads.given c.read_part.new.files) (g.R.Reads.given c.inline_text_of.new.files) (g.R.Reads.seen c.args.files.now) (g.R.Reads.seen c.read_part.new.files) (g.R.Reads.seen c.inline_text_of.new.files) (g.R.Reads.start c.args.files.now) (g.R.Reads.start c.read_part.new.files)
    c.args.paths.now.index c.args.paths.now.chunks c.args.node.now.0 c.bytes_of-first.result.now c.in_ok-part.part (Ok c.in-Ok.text) e.given e.short e.seen e.same_start e.answer c.bytes_of-first.ensures (sym c.is_inline.ensures ∙ c.if-is_inline.true) c.in-Ok.ensures.given

pub returns-then-is_inline-clause-given : goal.returns-then-is_inline-clause-given
returns-then-is_inline-clause-given g c =
    let e = c.in_ok-part.ensures in
    inline-takes (λ (text : List ℕ). text) (g.R.Reads.given c.args.files.now) (g.R.Reads.given c.read_part.new.files) (g.R.Reads.given c.inline_text_of.new.files) (g.R.Reads.seen c.args.files.now) (g.R.Reads.seen c.read_part.new.files) (g.R.Reads.seen c.inline_text_of.new.files) (g.R.Reads.start c.args.files.now) (g.R.Reads.start c.read_part.new.files)
    c.args.paths.now.index c.args.paths.now.chunks c.args.node.now.0 c.bytes_of-first.result.now c.in_ok-part.part (Err c.in-Err.refusal) e.given e.short e.seen e.same_start e.answer c.bytes_of-first.ensures (sym c.is_inline.ensures ∙ c.if-is_inline.true) c.in-Err.ensures.given

pub returns-in-Ok-separate_text-clause-given : goal.returns-in-Ok-separate_text-clause-given
returns-in-Ok-separate_text-clause-given g c =
    let e = c.in_ok-part.ensures in
    separate-takes (λ (text : List ℕ). text) (g.R.Reads.given c.args.files.now) (g.R.Reads.given c.read_part.new.files) (g.R.Reads.given c.separate_text.new.files) (g.R.Reads.seen c.args.files.now) (g.R.Reads.seen c.read_part.new.files) (g.R.Reads.seen c.separate_text.new.files) (g.R.Reads.start c.args.files.now) (g.R.Reads.start c.read_part.new.files)
    c.args.paths.now.index c.args.paths.now.chunks c.args.node.now.0 c.bytes_of-first.result.now c.in_ok-part.part (Ok c.in-Ok-separate_text.text) e.given e.short e.seen e.same_start e.answer c.bytes_of-first.ensures (sym c.is_inline.ensures ∙ c.if-is_inline.false) c.in-Ok-separate_text.ensures.given

pub returns-clause-given : goal.returns-clause-given
returns-clause-given g c =
    let e = c.in_ok-part.ensures in
    separate-takes (λ (text : List ℕ). text) (g.R.Reads.given c.args.files.now) (g.R.Reads.given c.read_part.new.files) (g.R.Reads.given c.separate_text.new.files) (g.R.Reads.seen c.args.files.now) (g.R.Reads.seen c.read_part.new.files) (g.R.Reads.seen c.separate_text.new.files) (g.R.Reads.start c.args.files.now) (g.R.Reads.start c.read_part.new.files)
    c.args.paths.now.index c.args.paths.now.chunks c.args.node.now.0 c.bytes_of-first.result.now c.in_ok-part.part (Err c.in-Err-separate_text.refusal) e.given e.short e.seen e.same_start e.answer c.bytes_of-first.ensures (sym c.is_inline.ensures ∙ c.if-is_inline.false) c.in-Err-separate_text.ensures.given

pub returns-in_err-part-clause-given : goal.returns-in_err-part-clause-given
returns-in_err-part-clause-given g c =
    let e = c.in_err-part.ensures in
    takes-refused-read (λ (text : List ℕ). text) (g.R.Reads.given c.args.files.now) (g.R.Reads.given c.read_part.new.files) (g.R.Reads.seen c.args.files.now) (g.R.Reads.seen c.read_part.new.files) (g.R.Reads.start c.args.files.now)
    (text_asks c.args.paths.now.index c.args.paths.now.chunks c.args.node.now.0) c.from_residual.result c.in_err-part.field-0.0 c.from_residual.ensures.0 c.from_residual.ensures.1 e.answer e.given e.seen
