use Rattle.std.proofs.Common.{◌≡◌, ◌≤◌, ◌+◌, ℕ, length, ap, subst, arith}
use Rattle.hgs_branch.specs.Taken.{Taken}
use Rattle.hgs_branches.specs.Read.{stored_between}
use Rattle.hgs_branches.proofs.ReadLemmas.{few_given}
use Rattle.hgs_branches.proofs.branches.Branches.advance.Goals as goal

pub returns-in-Err-clause-few : goal.returns-in-Err-clause-few
returns-in-Err-clause-few g c =
    let a = c.len.ensures.parents in
    let b = ap (λ (t : Taken). length t.parents) c.self.view_is in
    let size : c.len.result ≡ length c.args.self.now.parents = omega (arith, a, b) in
    let le = c.requires.order in
    let P : ℕ → Type 0 = λ n. g.R.Reads.given c.read_changes.new.files ≤ g.R.Reads.given c.args.files.now + stored_between c.args.session.now.changelog.entries n c.args.upto in
    subst P size (few_given (g.R.Reads.given c.args.files.now) (g.R.Reads.given c.read_changes.new.files) (g.R.Reads.seen c.args.files.now) (g.R.Reads.seen c.read_changes.new.files) (g.R.Reads.start c.args.files.now) c.args.session.now c.len.result c.args.upto c.read_changes.result (omega (arith, le, size)) c.requires.there c.read_changes.ensures.given)

pub returns-in-Ok-extend-clause-few : goal.returns-in-Ok-extend-clause-few
returns-in-Ok-extend-clause-few g c =
    let a = c.len.ensures.parents in
    let b = ap (λ (t : Taken). length t.parents) c.self.view_is in
    let size : c.len.result ≡ length c.args.self.now.parents = omega (arith, a, b) in
    let le = c.requires.order in
    let P : ℕ → Type 0 = λ n. g.R.Reads.given c.read_changes.new.files ≤ g.R.Reads.given c.args.files.now + stored_between c.args.session.now.changelog.entries n c.args.upto in
    subst P size (few_given (g.R.Reads.given c.args.files.now) (g.R.Reads.given c.read_changes.new.files) (g.R.Reads.seen c.args.files.now) (g.R.Reads.seen c.read_changes.new.files) (g.R.Reads.start c.args.files.now) c.args.session.now c.len.result c.args.upto c.read_changes.result (omega (arith, le, size)) c.requires.there c.read_changes.ensures.given)

pub returns-clause-few : goal.returns-clause-few
returns-clause-few g c =
    let a = c.len.ensures.parents in
    let b = ap (λ (t : Taken). length t.parents) c.self.view_is in
    let size : c.len.result ≡ length c.args.self.now.parents = omega (arith, a, b) in
    let le = c.requires.order in
    let P : ℕ → Type 0 = λ n. g.R.Reads.given c.read_changes.new.files ≤ g.R.Reads.given c.args.files.now + stored_between c.args.session.now.changelog.entries n c.args.upto in
    subst P size (few_given (g.R.Reads.given c.args.files.now) (g.R.Reads.given c.read_changes.new.files) (g.R.Reads.seen c.args.files.now) (g.R.Reads.seen c.read_changes.new.files) (g.R.Reads.start c.args.files.now) c.args.session.now c.len.result c.args.upto c.read_changes.result (omega (arith, le, size)) c.requires.there c.read_changes.ensures.given)
