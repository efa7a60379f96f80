use Rattle.std.proofs.Common.{◌≡◌, [], ◌∷◌, ◌++◌, length, ◌∙◌, ap, arith}
use Rattle.hgs_commit.specs.Appended.{append_some}
use Rattle.hgs_files.specs.Tree.{Tree, after_all, bytes_at}
use Rattle.hgs_stands.specs.Places.{fncache_path}
use Rattle.hgs_transaction.specs.declared.parts.Change.TheVariants.{Append}
use Rattle.hgs_writer.proofs.JoinLemmas.{lines-are}
use Rattle.hgs_writer.proofs.PlanLemmas.{at-rest}
use Rattle.hgs_writer.proofs.joined.push_lines.Goals as goal

pub returns-clause-found : goal.returns-clause-found
returns-clause-found g c =
    let path = c.in_ok-path.path in
    let before = c.in-Ok.before in
    let old = c.args.changes.now.items in
    let new = c.push.new.self.items in
    let lines = c.args.lines.items in
    at-rest g.R.Reads.alone (g.R.Reads.seen c.length_of.new.files) (g.R.Reads.start c.length_of.new.files)
    (λ t. before ≡ length (bytes_at t path)) (λ t. new ≡ old ++ append_some fncache_path (length (bytes_at t fncache_path)) lines)
    (λ t is. lines-are t path lines before old new (λ e. absurd (grind (arith, c.is_empty.ensures, c.if-is_empty.false, ap (λ l. length l) e, c.args.lines.ok.0))) c.in_ok-path.ensures is (c.in_ok-push.ensures.items ∙ ap (λ b. old ++ Append (record { path = path; before = before; bytes = b }) ∷ []) c.from_vec-bytes.ensures))
    c.in-Ok.ensures.found
