use Rattle.std.proofs.Common.{List, ℕ, Ok, Err, refl, subst}
use Rattle.hgs_bytes.specs.Answer.{Gives}
use Rattle.hgs_index.specs.Manifest.{Row, read_manifest}
use Rattle.hgs_load.specs.Answer.{is_of_outside}
use Rattle.hgs_load.specs.Asks.{answer, then_asks, Answers}
use Rattle.hgs_load.specs.Given.{Takes}
use Rattle.hgs_reader.specs.Contents.{manifest_index, manifest_data, rows_answer}
use Rattle.hgs_reader.specs.Find.{text_asks}
use Rattle.hgs_load.specs.Theorems.GivenLemmas.{takes-then, takes-given, takes-no-memory, refused-then}
use Rattle.hgs_load.specs.Theorems.AskLemmas.{answers-then, answers-refused, answers-given}
use Rattle.hgs_recent.proofs.manifest.manifest_read.Goals as goal

pub returns-in-Ok-manifest_from-clause-answer : goal.returns-in-Ok-manifest_from-clause-answer
returns-in-Ok-manifest_from-clause-answer g c =
    let before = g.R.Reads.seen c.args.files.now in
    let seen = g.R.Reads.seen c.text_of_node.new.files in
    let start = g.R.Reads.start c.args.files.now in
    let node = c.args.node.now.0 in
    let rows : List Row → List Row = λ rows. rows in
    let I : List ℕ → Type 0 = λ p. Answers (λ (text : List ℕ). text) before start seen (text_asks p c.in_ok-paths.paths.chunks node) (Ok c.in-Ok.text) in
    let C : List ℕ → Type 0 = λ p. Answers (λ (text : List ℕ). text) before start seen (text_asks manifest_index p node) (Ok c.in-Ok.text) in
    let T : List ℕ → Type 0 = λ t. Gives is_of_outside rows (Ok c.in-Ok-manifest_from.manifest) (rows_answer (read_manifest t)) in
    (answers-then (λ (text : List ℕ). text) rows before seen seen start (g.R.Reads.start c.text_of_node.new.files) (text_asks manifest_index manifest_data node) (λ text. answer (rows_answer (read_manifest text))) c.in-Ok.text (Ok c.in-Ok-manifest_from.manifest)
    c.in-Ok.ensures.seen c.in-Ok.ensures.same_start (subst C c.in_ok-paths.ensures.1 (subst I c.in_ok-paths.ensures.0 c.in-Ok.ensures.answer))
    (answers-given rows seen (g.R.Reads.start c.text_of_node.new.files) (rows_answer (read_manifest c.in-Ok.text)) (Ok c.in-Ok-manifest_from.manifest) (subst T c.as_slice.ensures c.in-Ok-manifest_from.ensures.manifest)))

pub returns-clause-answer : goal.returns-clause-answer
returns-clause-answer g c =
    let before = g.R.Reads.seen c.args.files.now in
    let seen = g.R.Reads.seen c.text_of_node.new.files in
    let start = g.R.Reads.start c.args.files.now in
    let node = c.args.node.now.0 in
    let rows : List Row → List Row = λ rows. rows in
    let I : List ℕ → Type 0 = λ p. Answers (λ (text : List ℕ). text) before start seen (text_asks p c.in_ok-paths.paths.chunks node) (Ok c.in-Ok.text) in
    let C : List ℕ → Type 0 = λ p. Answers (λ (text : List ℕ). text) before start seen (text_asks manifest_index p node) (Ok c.in-Ok.text) in
    let T : List ℕ → Type 0 = λ t. Gives is_of_outside rows (Err c.in-Err-manifest_from.refusal) (rows_answer (read_manifest t)) in
    (answers-then (λ (text : List ℕ). text) rows before seen seen start (g.R.Reads.start c.text_of_node.new.files) (text_asks manifest_index manifest_data node) (λ text. answer (rows_answer (read_manifest text))) c.in-Ok.text (Err c.in-Err-manifest_from.refusal)
    c.in-Ok.ensures.seen c.in-Ok.ensures.same_start (subst C c.in_ok-paths.ensures.1 (subst I c.in_ok-paths.ensures.0 c.in-Ok.ensures.answer))
    (answers-given rows seen (g.R.Reads.start c.text_of_node.new.files) (rows_answer (read_manifest c.in-Ok.text)) (Err c.in-Err-manifest_from.refusal) (subst T c.as_slice.ensures c.in-Err-manifest_from.ensures.manifest)))

pub returns-in-Ok-manifest_from-clause-given : goal.returns-in-Ok-manifest_from-clause-given
returns-in-Ok-manifest_from-clause-given g c =
    let g0 = g.R.Reads.given c.args.files.now in
    let g1 = g.R.Reads.given c.text_of_node.new.files in
    let before = g.R.Reads.seen c.args.files.now in
    let seen = g.R.Reads.seen c.text_of_node.new.files in
    let start = g.R.Reads.start c.args.files.now in
    let node = c.args.node.now.0 in
    let rows : List Row → List Row = λ rows. rows in
    let I : List ℕ → Type 0 = λ p. Takes (λ (text : List ℕ). text) g0 g1 before start seen (text_asks p c.in_ok-paths.paths.chunks node) (Ok c.in-Ok.text) in
    let C : List ℕ → Type 0 = λ p. Takes (λ (text : List ℕ). text) g0 g1 before start seen (text_asks manifest_index p node) (Ok c.in-Ok.text) in
    let T : List ℕ → Type 0 = λ t. Gives is_of_outside rows (Ok c.in-Ok-manifest_from.manifest) (rows_answer (read_manifest t)) in
    (takes-then (λ (text : List ℕ). text) rows g0 g1 g1 before seen seen start (g.R.Reads.start c.text_of_node.new.files) (text_asks manifest_index manifest_data node) (λ text. answer (rows_answer (read_manifest text))) c.in-Ok.text (Ok c.in-Ok-manifest_from.manifest)
    c.in-Ok.ensures.same_start (subst C c.in_ok-paths.ensures.1 (subst I c.in_ok-paths.ensures.0 c.in-Ok.ensures.given))
    (takes-given rows g1 g1 seen (g.R.Reads.start c.text_of_node.new.files) (rows_answer (read_manifest c.in-Ok.text)) (Ok c.in-Ok-manifest_from.manifest) refl (subst T c.as_slice.ensures c.in-Ok-manifest_from.ensures.manifest)))

pub returns-clause-given : goal.returns-clause-given
returns-clause-given g c =
    let g0 = g.R.Reads.given c.args.files.now in
    let g1 = g.R.Reads.given c.text_of_node.new.files in
    let before = g.R.Reads.seen c.args.files.now in
    let seen = g.R.Reads.seen c.text_of_node.new.files in
    let start = g.R.Reads.start c.args.files.now in
    let node = c.args.node.now.0 in
    let rows : List Row → List Row = λ rows. rows in
    let I : List ℕ → Type 0 = λ p. Takes (λ (text : List ℕ). text) g0 g1 before start seen (text_asks p c.in_ok-paths.paths.chunks node) (Ok c.in-Ok.text) in
    let C : List ℕ → Type 0 = λ p. Takes (λ (text : List ℕ). text) g0 g1 before start seen (text_asks manifest_index p node) (Ok c.in-Ok.text) in
    let T : List ℕ → Type 0 = λ t. Gives is_of_outside rows (Err c.in-Err-manifest_from.refusal) (rows_answer (read_manifest t)) in
    (takes-then (λ (text : List ℕ). text) rows g0 g1 g1 before seen seen start (g.R.Reads.start c.text_of_node.new.files) (text_asks manifest_index manifest_data node) (λ text. answer (rows_answer (read_manifest text))) c.in-Ok.text (Err c.in-Err-manifest_from.refusal)
    c.in-Ok.ensures.same_start (subst C c.in_ok-paths.ensures.1 (subst I c.in_ok-paths.ensures.0 c.in-Ok.ensures.given))
    (takes-given rows g1 g1 seen (g.R.Reads.start c.text_of_node.new.files) (rows_answer (read_manifest c.in-Ok.text)) (Err c.in-Err-manifest_from.refusal) refl (subst T c.as_slice.ensures c.in-Err-manifest_from.ensures.manifest)))

pub returns-in-Err-clause-answer : goal.returns-in-Err-clause-answer
returns-in-Err-clause-answer g c =
    let before = g.R.Reads.seen c.args.files.now in
    let seen = g.R.Reads.seen c.text_of_node.new.files in
    let start = g.R.Reads.start c.args.files.now in
    let node = c.args.node.now.0 in
    let rows : List Row → List Row = λ rows. rows in
    let I : List ℕ → Type 0 = λ p. Answers (λ (text : List ℕ). text) before start seen (text_asks p c.in_ok-paths.paths.chunks node) (Err c.in-Err.refusal) in
    let C : List ℕ → Type 0 = λ p. Answers (λ (text : List ℕ). text) before start seen (text_asks manifest_index p node) (Err c.in-Err.refusal) in
    (answers-refused (λ (text : List ℕ). text) rows before seen start (text_asks manifest_index manifest_data node) (λ text. answer (rows_answer (read_manifest text))) c.in-Err.refusal
    (subst C c.in_ok-paths.ensures.1 (subst I c.in_ok-paths.ensures.0 c.in-Err.ensures.answer)))

pub returns-in-Err-clause-given : goal.returns-in-Err-clause-given
returns-in-Err-clause-given g c =
    let g0 = g.R.Reads.given c.args.files.now in
    let g1 = g.R.Reads.given c.text_of_node.new.files in
    let before = g.R.Reads.seen c.args.files.now in
    let seen = g.R.Reads.seen c.text_of_node.new.files in
    let start = g.R.Reads.start c.args.files.now in
    let node = c.args.node.now.0 in
    let rows : List Row → List Row = λ rows. rows in
    let I : List ℕ → Type 0 = λ p. Takes (λ (text : List ℕ). text) g0 g1 before start seen (text_asks p c.in_ok-paths.paths.chunks node) (Err c.in-Err.refusal) in
    let C : List ℕ → Type 0 = λ p. Takes (λ (text : List ℕ). text) g0 g1 before start seen (text_asks manifest_index p node) (Err c.in-Err.refusal) in
    (refused-then g0 g1 before seen start (text_asks manifest_index manifest_data node) (λ text. answer (rows_answer (read_manifest text))) c.in-Err.refusal
    (subst C c.in_ok-paths.ensures.1 (subst I c.in_ok-paths.ensures.0 c.in-Err.ensures.given)))

pub returns-in_err-paths-clause-given : goal.returns-in_err-paths-clause-given
returns-in_err-paths-clause-given g c =
    takes-no-memory (λ (rows : List Row). rows) (g.R.Reads.given c.args.files.now) (g.R.Reads.seen c.args.files.now) (g.R.Reads.start c.args.files.now) (then_asks (text_asks manifest_index manifest_data c.args.node.now.0) (λ text. answer (rows_answer (read_manifest text)))) c.from_residual.result c.from_residual.ensures.0 c.from_residual.ensures.1
