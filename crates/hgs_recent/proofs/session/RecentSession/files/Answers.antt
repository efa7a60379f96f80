use Rattle.std.proofs.Common.{List, ℕ, Result, Ok, refl}
use Rattle.hgs_index.specs.Manifest.{Row}
use Rattle.hgs_load.specs.declared.answer.ReadAnswer.{ReadAnswer}
use Rattle.hgs_load.specs.Asks.{Asks, answer, then_asks}
use Rattle.hgs_reader.specs.Contents.{files_text}
use Rattle.hgs_recent.specs.Questions.{tree_asks}
use Rattle.hgs_load.specs.Theorems.GivenLemmas.{gave-then, text-then, text-given, text-lost, refused-then}
use Rattle.hgs_load.specs.Theorems.AskLemmas.{adds-then, adds-refused, adds-given}
use Rattle.hgs_recent.proofs.session.RecentSession.files.Goals as goal

pub returns-in_ok-add_files-in-Ok-clause-answer : goal.returns-in_ok-add_files-in-Ok-clause-answer
returns-in_ok-add_files-in-Ok-clause-answer g c =
    let seen = g.R.Reads.seen c.manifest.new.files in
    let now = g.R.Reads.start c.manifest.new.files in
    let old = c.args.into.now.items in
    let new = c.add_files.new.into.items in
    let text = files_text c.in-Ok.manifest in
    adds-then (λ (rows : List Row). rows) (g.R.Reads.seen c.args.files.now) seen seen (g.R.Reads.start c.args.files.now) now (tree_asks c.args.self.now.texts c.args.self.now.view c.args.rev) (λ (rows : List Row). answer (Ok (files_text rows))) c.in-Ok.manifest old new (Ok tt)
    c.in-Ok.ensures.seen c.in-Ok.ensures.same_start c.in-Ok.ensures.answer (adds-given seen now (Ok text) old new (Ok tt) (text, c.in_ok-add_files-in-Ok.ensures.ok, refl))

pub returns-in-Err-clause-answer : goal.returns-in-Err-clause-answer
returns-in-Err-clause-answer g c =
    adds-refused (λ (rows : List Row). rows) (g.R.Reads.seen c.args.files.now) (g.R.Reads.seen c.manifest.new.files) (g.R.Reads.start c.args.files.now) (tree_asks c.args.self.now.texts c.args.self.now.view c.args.rev) (λ (rows : List Row). answer (Ok (files_text rows)))
    c.args.into.now.items c.args.into.now.items c.in-Err.refusal refl c.in-Err.ensures.answer

pub returns-in_ok-add_files-in-Ok-clause-given : goal.returns-in_ok-add_files-in-Ok-clause-given
returns-in_ok-add_files-in-Ok-clause-given g c =
    let given = g.R.Reads.given c.manifest.new.files in
    let seen = g.R.Reads.seen c.manifest.new.files in
    let now = g.R.Reads.start c.manifest.new.files in
    let old = c.args.into.now.items in
    let new = c.add_files.new.into.items in
    let text = files_text c.in-Ok.manifest in
    text-then (λ (rows : List Row). rows) (g.R.Reads.given c.args.files.now) given given (g.R.Reads.seen c.args.files.now) seen seen (g.R.Reads.start c.args.files.now) now (tree_asks c.args.self.now.texts c.args.self.now.view c.args.rev) (λ (rows : List Row). answer (Ok (files_text rows))) c.in-Ok.manifest old new (Ok tt)
    c.in-Ok.ensures.same_start c.in-Ok.ensures.given (text-given given given seen now (Ok text) old new (Ok tt) refl (text, c.in_ok-add_files-in-Ok.ensures.ok, refl))

pub returns-in_err-add_files-in-Ok-clause-given : goal.returns-in_err-add_files-in-Ok-clause-given
returns-in_err-add_files-in-Ok-clause-given g c =
    let more : List Row → Asks (Result (List ℕ) ReadAnswer) = λ rows. answer (Ok (files_text rows)) in
    let g0 = g.R.Reads.given c.args.files.now in
    let g1 = g.R.Reads.given c.manifest.new.files in
    let before = g.R.Reads.seen c.args.files.now in
    let seen = g.R.Reads.seen c.manifest.new.files in
    let start = g.R.Reads.start c.args.files.now in
    let tree = tree_asks c.args.self.now.texts c.args.self.now.view c.args.rev in
    text-lost g0 g1 before seen start (then_asks tree more) (more c.in-Ok.manifest) c.args.into.now.items c.add_files.new.into.items c.from_residual.result c.from_residual.ensures.0 c.from_residual.ensures.1
    (gave-then g0 g1 before seen start tree (answer (Ok c.in-Ok.manifest)) more c.in-Ok.ensures.given)

pub returns-in-Err-clause-given : goal.returns-in-Err-clause-given
returns-in-Err-clause-given g c =
    refused-then (g.R.Reads.given c.args.files.now) (g.R.Reads.given c.manifest.new.files) (g.R.Reads.seen c.args.files.now) (g.R.Reads.seen c.manifest.new.files) (g.R.Reads.start c.args.files.now) (tree_asks c.args.self.now.texts c.args.self.now.view c.args.rev) (λ (rows : List Row). answer (Ok (files_text rows)))
    c.in-Err.refusal c.in-Err.ensures.given
