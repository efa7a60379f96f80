use Rattle.std.proofs.Common.{List, ℕ, [], Ok, Err, refl, sym, ◌∙◌, ap, subst}
use Rattle.hgs_bytes.specs.Answer.{Gives}
use Rattle.hgs_index.specs.Manifest.{Row, read_manifest}
use Rattle.hgs_load.specs.Answer.{is_of_outside}
use Rattle.hgs_load.specs.Asks.{answer, Answers}
use Rattle.hgs_load.specs.Given.{Takes}
use Rattle.hgs_reader.specs.Contents.{manifest_index, manifest_data, rows_answer, rows_asks}
use Rattle.hgs_reader.specs.Find.{text_asks}
use Rattle.hgs_load.specs.Theorems.GivenLemmas.{takes-then, takes-given, takes-no-memory, refused-then}
use Rattle.hgs_load.specs.Theorems.AskLemmas.{answers-then, answers-refused, answers-given}
use Rattle.hgs_reader.proofs.ContentLemmas.{named_rows, null_takes, named_takes}
use Rattle.hgs_reader.proofs.contents.manifest_of.Goals as goal

pub returns-in-Ok-clause-answer : goal.returns-in-Ok-clause-answer
returns-in-Ok-clause-answer g c =
    let before = g.R.Reads.seen c.args.files.now in
    let seen = g.R.Reads.seen c.text_of_node.new.files in
    let start = g.R.Reads.start c.args.files.now in
    let node = c.args.node.now.0 in
    let rows : List Row → List Row = λ rows. rows in
    let I : List ℕ → Type 0 = λ p. Answers (λ (text : List ℕ). text) before start seen (text_asks p c.in_ok-paths.paths.chunks node) (Ok c.in-Ok.text) in
    let C : List ℕ → Type 0 = λ p. Answers (λ (text : List ℕ). text) before start seen (text_asks manifest_index p node) (Ok c.in-Ok.text) in
    let T : List ℕ → Type 0 = λ t. Gives is_of_outside rows c.manifest_from.result (rows_answer (read_manifest t)) in
    named_rows before seen start node c.manifest_from.result (sym c.is_null.ensures ∙ c.if-is_null.false)
    (answers-then (λ (text : List ℕ). text) rows before seen seen start (g.R.Reads.start c.text_of_node.new.files) (text_asks manifest_index manifest_data node) (λ text. answer (rows_answer (read_manifest text))) c.in-Ok.text c.manifest_from.result
    c.in-Ok.ensures.seen c.in-Ok.ensures.same_start (subst C c.in_ok-paths.ensures.1 (subst I c.in_ok-paths.ensures.0 c.in-Ok.ensures.answer))
    (answers-given rows seen (g.R.Reads.start c.text_of_node.new.files) (rows_answer (read_manifest c.in-Ok.text)) c.manifest_from.result (subst T c.as_slice.ensures c.manifest_from.ensures.manifest)))

pub returns-clause-answer : goal.returns-clause-answer
returns-clause-answer g c =
    let before = g.R.Reads.seen c.args.files.now in
    let seen = g.R.Reads.seen c.text_of_node.new.files in
    let start = g.R.Reads.start c.args.files.now in
    let node = c.args.node.now.0 in
    let rows : List Row → List Row = λ rows. rows in
    let I : List ℕ → Type 0 = λ p. Answers (λ (text : List ℕ). text) before start seen (text_asks p c.in_ok-paths.paths.chunks node) (Err c.in-Err.refusal) in
    let C : List ℕ → Type 0 = λ p. Answers (λ (text : List ℕ). text) before start seen (text_asks manifest_index p node) (Err c.in-Err.refusal) in
    named_rows before seen start node (Err c.in-Err.refusal) (sym c.is_null.ensures ∙ c.if-is_null.false)
    (answers-refused (λ (text : List ℕ). text) rows before seen start (text_asks manifest_index manifest_data node) (λ text. answer (rows_answer (read_manifest text))) c.in-Err.refusal
    (subst C c.in_ok-paths.ensures.1 (subst I c.in_ok-paths.ensures.0 c.in-Err.ensures.answer)))

pub returns-in-Ok-clause-given : goal.returns-in-Ok-clause-given
returns-in-Ok-clause-given g c =
    let g0 = g.R.Reads.given c.args.files.now in
    let g1 = g.R.Reads.given c.text_of_node.new.files in
    let before = g.R.Reads.seen c.args.files.now in
    let seen = g.R.Reads.seen c.text_of_node.new.files in
    let start = g.R.Reads.start c.args.files.now in
    let node = c.args.node.now.0 in
    let rows : List Row → List Row = λ rows. rows in
    let I : List ℕ → Type 0 = λ p. Takes (λ (text : List ℕ). text) g0 g1 before start seen (text_asks p c.in_ok-paths.paths.chunks node) (Ok c.in-Ok.text) in
    let C : List ℕ → Type 0 = λ p. Takes (λ (text : List ℕ). text) g0 g1 before start seen (text_asks manifest_index p node) (Ok c.in-Ok.text) in
    let T : List ℕ → Type 0 = λ t. Gives is_of_outside rows c.manifest_from.result (rows_answer (read_manifest t)) in
    named_takes g0 g1 before seen start node c.manifest_from.result (sym c.is_null.ensures ∙ c.if-is_null.false)
    (takes-then (λ (text : List ℕ). text) rows g0 g1 g1 before seen seen start (g.R.Reads.start c.text_of_node.new.files) (text_asks manifest_index manifest_data node) (λ text. answer (rows_answer (read_manifest text))) c.in-Ok.text c.manifest_from.result
    c.in-Ok.ensures.same_start (subst C c.in_ok-paths.ensures.1 (subst I c.in_ok-paths.ensures.0 c.in-Ok.ensures.given))
    (takes-given rows g1 g1 seen (g.R.Reads.start c.text_of_node.new.files) (rows_answer (read_manifest c.in-Ok.text)) c.manifest_from.result refl (subst T c.as_slice.ensures c.manifest_from.ensures.manifest)))

pub returns-clause-given : goal.returns-clause-given
returns-clause-given g c =
    let g0 = g.R.Reads.given c.args.files.now in
    let g1 = g.R.Reads.given c.text_of_node.new.files in
    let before = g.R.Reads.seen c.args.files.now in
    let seen = g.R.Reads.seen c.text_of_node.new.files in
    let start = g.R.Reads.start c.args.files.now in
    let node = c.args.node.now.0 in
    let rows : List Row → List Row = λ rows. rows in
    let I : List ℕ → Type 0 = λ p. Takes (λ (text : List ℕ). text) g0 g1 before start seen (text_asks p c.in_ok-paths.paths.chunks node) (Err c.in-Err.refusal) in
    let C : List ℕ → Type 0 = λ p. Takes (λ (text : List ℕ). text) g0 g1 before start seen (text_asks manifest_index p node) (Err c.in-Err.refusal) in
    named_takes g0 g1 before seen start node (Err c.in-Err.refusal) (sym c.is_null.ensures ∙ c.if-is_null.false)
    (refused-then g0 g1 before seen start (text_asks manifest_index manifest_data node) (λ text. answer (rows_answer (read_manifest text))) c.in-Err.refusal
    (subst C c.in_ok-paths.ensures.1 (subst I c.in_ok-paths.ensures.0 c.in-Err.ensures.given)))

pub returns-in_err-paths-clause-given : goal.returns-in_err-paths-clause-given
returns-in_err-paths-clause-given g c =
    takes-no-memory (λ (rows : List Row). rows) (g.R.Reads.given c.args.files.now) (g.R.Reads.seen c.args.files.now) (g.R.Reads.start c.args.files.now) (rows_asks c.args.node.now.0) c.from_residual.result c.from_residual.ensures.0 c.from_residual.ensures.1

pub returns-then-is_null-clause-given : goal.returns-then-is_null-clause-given
returns-then-is_null-clause-given g c =
    let given = g.R.Reads.given c.args.files.now in
    let seen = g.R.Reads.seen c.args.files.now in
    let start = g.R.Reads.start c.args.files.now in
    let rows : List Row → List Row = λ rows. rows in
    null_takes given given seen seen start c.args.node.now.0 (Ok c.empty.result) (sym c.is_null.ensures ∙ c.if-is_null.true) (takes-given rows given given seen start (Ok []) (Ok c.empty.result) refl (ap (λ rows. Ok rows) (sym c.empty.ensures)))
