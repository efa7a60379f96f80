use Rattle.std.proofs.Common.{◌≡◌, refl, subst, sym}
use Rattle.std.specs.Prelude.{false}
use Rattle.hgs_load.specs.Answer.{is_of_outside, refusal_line}
use Rattle.hgs_load.specs.Asks.{AddsGiven, at_rest}
use Rattle.hgs_mem.specs.Steady.{steady_log, steady_start, steady_tree}
use Rattle.hgs_reader.specs.Contents.{cat_asks}
use Rattle.hgs_world.specs.Questions.{body_text}
use Rattle.hgs_world.proofs.QuestionLemmas.{adds_steady, body_given, body_refused, if_ok_both, still}
use Rattle.hgs_world.proofs.questions.body_text.Goals as goal

pub returns-in-Ok-clause-text : goal.returns-in-Ok-clause-text
returns-in-Ok-clause-text c =
    let e = c.cat.ensures in
    let t = steady_tree c.args.files.now in
    let v = c.args.session.now in
    let l = steady_log c.args.files.now in
    let s = steady_start c.args.files.now in
    let q = cat_asks v c.in-Some.rev c.args.path.now in
    let given = subst (λ old. AddsGiven (at_rest t q) old c.cat.new.into.items c.cat.result) c.new-text.ensures.items
    (adds_steady l (steady_log c.cat.new.files) l s s q c.new-text.result.items c.cat.new.into.items c.cat.result refl (still (e.still refl)) refl e.answer) in
    body_given t v c.args.name.now c.args.path.now c.in-Some.rev c.cat.new.into.items c.cat.result c.in-Ok.field-0 (sym c.in-Some.ensures.named) c.in-Ok.is given

pub returns-in-Err-clause-text : goal.returns-in-Err-clause-text
returns-in-Err-clause-text c =
    let e = c.cat.ensures in
    let t = steady_tree c.args.files.now in
    let v = c.args.session.now in
    let l = steady_log c.args.files.now in
    let s = steady_start c.args.files.now in
    let q = cat_asks v c.in-Some.rev c.args.path.now in
    let given = subst (λ old. AddsGiven (at_rest t q) old c.cat.new.into.items c.cat.result) c.new-text.ensures.items
    (adds_steady l (steady_log c.cat.new.files) l s s q c.new-text.result.items c.cat.new.into.items c.cat.result refl (still (e.still refl)) refl e.answer) in
    if_ok_both c.refusal_line.result (λ line. line.items ≡ refusal_line c.in-Err.refusal) (λ line. is_of_outside c.in-Err.refusal ≡ false) (λ text. text.items ≡ body_text t v c.args.name.now c.args.path.now)
    (λ line is out. body_refused t v c.args.name.now c.args.path.now c.in-Some.rev c.cat.new.into.items line.items c.cat.result c.in-Err.refusal (sym c.in-Some.ensures.named) c.in-Err.is out given is)
    c.refusal_line.ensures.line c.refusal_line.ensures.inner
