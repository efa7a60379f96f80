use Rattle.std.proofs.Common.{List, ℕ, Ok, Err, refl, subst}
use Rattle.hgs_path.specs.StoreName.{store_name}
use Rattle.hgs_path.specs.declared.name.Ext.TheVariants.{I, D}
use Rattle.hgs_load.specs.Asks.{answer, Answers, AddsGiven}
use Rattle.hgs_load.specs.Given.{Takes}
use Rattle.hgs_reader.specs.Contents.{body_answer, body_asks}
use Rattle.hgs_reader.specs.Find.{text_asks}
use Rattle.hgs_load.specs.Theorems.GivenLemmas.{text-then, text-given, text-no-memory, refused-then}
use Rattle.hgs_load.specs.Theorems.AskLemmas.{adds-then, adds-refused, adds-given}
use Rattle.hgs_reader.proofs.contents.add_body.Goals as goal

pub returns-in-Ok-clause-answer : goal.returns-in-Ok-clause-answer
returns-in-Ok-clause-answer g c =
    let before = g.R.Reads.seen c.args.files.now in
    let seen = g.R.Reads.seen c.text_of_node.new.files in
    let start = g.R.Reads.start c.args.files.now in
    let now = g.R.Reads.start c.text_of_node.new.files in
    let node = c.args.node.now.0 in
    let index = store_name c.args.path.now I in
    let chunks = store_name c.args.path.now D in
    let old = c.args.into.now.items in
    let new = c.add_body_in.new.into.items in
    let P : List ℕ → Type 0 = λ p. Answers (λ (text : List ℕ). text) before start seen (text_asks p c.in_ok-paths.paths.chunks node) (Ok c.in-Ok.text) in
    let Q : List ℕ → Type 0 = λ p. Answers (λ (text : List ℕ). text) before start seen (text_asks index p node) (Ok c.in-Ok.text) in
    let T : List ℕ → Type 0 = λ t. AddsGiven (body_answer t) old new c.add_body_in.result in
    adds-then (λ (text : List ℕ). text) before seen seen start now (text_asks index chunks node) (λ text. answer (body_answer text)) c.in-Ok.text old new c.add_body_in.result
    c.in-Ok.ensures.seen c.in-Ok.ensures.same_start (subst Q c.in_ok-paths.ensures.1 (subst P c.in_ok-paths.ensures.0 c.in-Ok.ensures.answer))
    (adds-given seen now (body_answer c.in-Ok.text) old new c.add_body_in.result (subst T c.as_slice.ensures c.add_body_in.ensures.body))

pub returns-clause-answer : goal.returns-clause-answer
returns-clause-answer g c =
    let before = g.R.Reads.seen c.args.files.now in
    let seen = g.R.Reads.seen c.text_of_node.new.files in
    let start = g.R.Reads.start c.args.files.now in
    let node = c.args.node.now.0 in
    let index = store_name c.args.path.now I in
    let chunks = store_name c.args.path.now D in
    let old = c.args.into.now.items in
    let P : List ℕ → Type 0 = λ p. Answers (λ (text : List ℕ). text) before start seen (text_asks p c.in_ok-paths.paths.chunks node) (Err c.in-Err.refusal) in
    let Q : List ℕ → Type 0 = λ p. Answers (λ (text : List ℕ). text) before start seen (text_asks index p node) (Err c.in-Err.refusal) in
    adds-refused (λ (text : List ℕ). text) before seen start (text_asks index chunks node) (λ text. answer (body_answer text)) old old c.in-Err.refusal refl
    (subst Q c.in_ok-paths.ensures.1 (subst P c.in_ok-paths.ensures.0 c.in-Err.ensures.answer))

pub returns-in-Ok-clause-given : goal.returns-in-Ok-clause-given
returns-in-Ok-clause-given g c =
    let g0 = g.R.Reads.given c.args.files.now in
    let g1 = g.R.Reads.given c.text_of_node.new.files in
    let before = g.R.Reads.seen c.args.files.now in
    let seen = g.R.Reads.seen c.text_of_node.new.files in
    let start = g.R.Reads.start c.args.files.now in
    let now = g.R.Reads.start c.text_of_node.new.files in
    let node = c.args.node.now.0 in
    let index = store_name c.args.path.now I in
    let chunks = store_name c.args.path.now D in
    let old = c.args.into.now.items in
    let new = c.add_body_in.new.into.items in
    let P : List ℕ → Type 0 = λ p. Takes (λ (text : List ℕ). text) g0 g1 before start seen (text_asks p c.in_ok-paths.paths.chunks node) (Ok c.in-Ok.text) in
    let Q : List ℕ → Type 0 = λ p. Takes (λ (text : List ℕ). text) g0 g1 before start seen (text_asks index p node) (Ok c.in-Ok.text) in
    let T : List ℕ → Type 0 = λ t. AddsGiven (body_answer t) old new c.add_body_in.result in
    text-then (λ (text : List ℕ). text) g0 g1 g1 before seen seen start now (text_asks index chunks node) (λ text. answer (body_answer text)) c.in-Ok.text old new c.add_body_in.result
    c.in-Ok.ensures.same_start (subst Q c.in_ok-paths.ensures.1 (subst P c.in_ok-paths.ensures.0 c.in-Ok.ensures.given))
    (text-given g1 g1 seen now (body_answer c.in-Ok.text) old new c.add_body_in.result refl (subst T c.as_slice.ensures c.add_body_in.ensures.body))

pub returns-clause-given : goal.returns-clause-given
returns-clause-given g c =
    let g0 = g.R.Reads.given c.args.files.now in
    let g1 = g.R.Reads.given c.text_of_node.new.files in
    let before = g.R.Reads.seen c.args.files.now in
    let seen = g.R.Reads.seen c.text_of_node.new.files in
    let start = g.R.Reads.start c.args.files.now in
    let now = g.R.Reads.start c.text_of_node.new.files in
    let node = c.args.node.now.0 in
    let index = store_name c.args.path.now I in
    let chunks = store_name c.args.path.now D in
    let old = c.args.into.now.items in
    let P : List ℕ → Type 0 = λ p. Takes (λ (text : List ℕ). text) g0 g1 before start seen (text_asks p c.in_ok-paths.paths.chunks node) (Err c.in-Err.refusal) in
    let Q : List ℕ → Type 0 = λ p. Takes (λ (text : List ℕ). text) g0 g1 before start seen (text_asks index p node) (Err c.in-Err.refusal) in
    refused-then g0 g1 before seen start (text_asks index chunks node) (λ text. answer (body_answer text)) c.in-Err.refusal
    (subst Q c.in_ok-paths.ensures.1 (subst P c.in_ok-paths.ensures.0 c.in-Err.ensures.given))

pub returns-in_err-paths-clause-given : goal.returns-in_err-paths-clause-given
returns-in_err-paths-clause-given g c =
    text-no-memory (g.R.Reads.given c.args.files.now) (g.R.Reads.seen c.args.files.now) (g.R.Reads.start c.args.files.now) (body_asks c.args.path.now c.args.node.now.0) c.args.into.now.items c.args.into.now.items c.from_residual.result c.from_residual.ensures.0 c.from_residual.ensures.1
