use Rattle.std.proofs.Common.{◌≡◌, List, Some, None, refl, sym, ◌∙◌, ap, subst}
use Rattle.hgs_index.specs.Manifest.{Row, read_manifest}
use Rattle.hgs_load.specs.declared.answer.ReadAnswer.{ReadAnswer}
use Rattle.hgs_load.specs.Asks.{Asks, Answers}
use Rattle.std.specs.Prelude.{Result}
use Rattle.hgs_load.specs.Given.{Takes}
use Rattle.hgs_load.specs.Theorems.GivenLemmas.{takes-given}
use Rattle.hgs_reader.specs.Contents.{rows_answer}
use Rattle.hgs_recent.specs.Questions.{KeepsRead}
use Rattle.hgs_recent.specs.Texts.{Texts, text_under, used_if}
use Rattle.hgs_recent.proofs.KeepLemmas.{kept-keeps, read-keeps, rows-asked, rows-kept}
use Rattle.hgs_recent.proofs.TextLemmas.{looked-under}
use Rattle.hgs_recent.proofs.manifest.manifest_of.Goals as goal

pub returns-in-Some-clause-given : goal.returns-in-Some-clause-given
returns-in-Some-clause-given g c =
    let node = c.args.node.now.0 in
    let texts = c.args.texts.now in
    let given = g.R.Reads.given c.args.files.now in
    let seen = g.R.Reads.seen c.args.files.now in
    let start = g.R.Reads.start c.args.files.now in
    let named = sym c.is_null.ensures ∙ c.if-is_null.false in
    let k : text_under node texts ≡ Some c.in-Some.text.now = sym (c.in-Some.ensures.text ∙ ap (text_under node) c.look_up.ensures ∙ looked-under node texts) in
    let rows : List Row → List Row = λ rows. rows in
    let P : Asks (Result (List Row) ReadAnswer) → Type 0 = λ q. Takes rows given given seen start seen q c.manifest_kept.result in
    subst P (sym (rows-kept texts node named c.in-Some.text.now k)) (takes-given rows given given seen start (rows_answer (read_manifest c.in-Some.text.now)) c.manifest_kept.result refl c.manifest_kept.ensures.manifest)

pub returns-in-Some-clause-kept : goal.returns-in-Some-clause-kept
returns-in-Some-clause-kept g c =
    let node = c.args.node.now.0 in
    let texts = c.args.texts.now in
    let named = sym c.is_null.ensures ∙ c.if-is_null.false in
    let k : text_under node texts ≡ Some c.in-Some.text.now = sym (c.in-Some.ensures.text ∙ ap (text_under node) c.look_up.ensures ∙ looked-under node texts) in
    kept-keeps (g.R.Reads.seen c.args.files.now) (g.R.Reads.start c.args.files.now) texts c.look_up.new.self node c.in-Some.text.now c.manifest_kept.result named k c.look_up.ensures

pub returns-in-None-clause-answer : goal.returns-in-None-clause-answer
returns-in-None-clause-answer g c =
    let node = c.args.node.now.0 in
    let texts = c.args.texts.now in
    let named = sym c.is_null.ensures ∙ c.if-is_null.false in
    let k : text_under node texts ≡ None = sym (c.in-None.ensures.text ∙ ap (text_under node) c.look_up.ensures ∙ looked-under node texts) in
    let P : Asks (Result (List Row) ReadAnswer) → Type 0 = λ q. Answers (λ (rows : List Row). rows) (g.R.Reads.seen c.args.files.now) (g.R.Reads.start c.args.files.now) (g.R.Reads.seen c.manifest_read.new.files) q c.manifest_read.result in
    subst P (sym (rows-asked texts node named k)) c.manifest_read.ensures.answer

pub returns-in-None-clause-given : goal.returns-in-None-clause-given
returns-in-None-clause-given g c =
    let node = c.args.node.now.0 in
    let texts = c.args.texts.now in
    let named = sym c.is_null.ensures ∙ c.if-is_null.false in
    let k : text_under node texts ≡ None = sym (c.in-None.ensures.text ∙ ap (text_under node) c.look_up.ensures ∙ looked-under node texts) in
    let P : Asks (Result (List Row) ReadAnswer) → Type 0 = λ q. Takes (λ (rows : List Row). rows) (g.R.Reads.given c.args.files.now) (g.R.Reads.given c.manifest_read.new.files) (g.R.Reads.seen c.args.files.now) (g.R.Reads.start c.args.files.now) (g.R.Reads.seen c.manifest_read.new.files) q c.manifest_read.result in
    subst P (sym (rows-asked texts node named k)) c.manifest_read.ensures.given

pub returns-in-None-clause-kept : goal.returns-in-None-clause-kept
returns-in-None-clause-kept g c =
    let node = c.args.node.now.0 in
    let texts = c.args.texts.now in
    let before = g.R.Reads.seen c.args.files.now in
    let after = g.R.Reads.seen c.manifest_read.new.files in
    let start = g.R.Reads.start c.args.files.now in
    let named = sym c.is_null.ensures ∙ c.if-is_null.false in
    let k : text_under node texts ≡ None = sym (c.in-None.ensures.text ∙ ap (text_under node) c.look_up.ensures ∙ looked-under node texts) in
    let P : Texts → Type 0 = λ old. KeepsRead before start after node old c.manifest_read.new.texts c.manifest_read.result in
    read-keeps before after start start texts c.manifest_read.new.texts node c.manifest_read.result c.manifest_read.ensures.seen refl named k (subst P (c.look_up.ensures ∙ ap (λ o. used_if node o texts) k) c.manifest_read.ensures.kept)
