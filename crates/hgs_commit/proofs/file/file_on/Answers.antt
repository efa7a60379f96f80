use Rattle.std.proofs.Common.{◌≡◌, ℕ, Option, true, Ok, refl, sym, ◌∙◌, ap, subst}
use Rattle.std.specs.Prelude.{IfSome, Some}
use Rattle.hgs_files.specs.Tree.{after_all}
use Rattle.hgs_commit.specs.Files.{kept_in, view_filelog}
use Rattle.hgs_commit.specs.Known.{AreKept, IsReadOf, KnowsAt}
use Rattle.hgs_commit.proofs.AnswerLemmas.{alone-both}
use Rattle.hgs_commit.proofs.KnownLemmas.{kept-alone, knows-later, on-ok}
use Rattle.hgs_commit.proofs.file.file_on.Goals as goal

pub returns-in_ok-push-in-Some-clause-known : goal.returns-in_ok-push-in-Some-clause-known
returns-in_ok-push-in-Some-clause-known g c =
    let f = view_filelog c.args.filelog in
    let file = c.args.file.now in
    let rev = c.in-Some.rev in
    let old = c.args.files.now in
    let now = c.kept.new.files in
    let Kept : Option ℕ → Type 0 = λ o. g.R.Reads.alone ≡ true → IfSome (g.R.Reads.seen now) (λ log. kept_in f c.args.parents.0 c.args.parents.1 c.as_slice.result.now (after_all log (g.R.Reads.start now)) ≡ Ok o) in
    alone-both g.R.Reads.alone (g.R.Reads.seen old) (g.R.Reads.seen now) (g.R.Reads.start old) (g.R.Reads.start now)
    (λ t. AreKept t c.args.known.now × IsReadOf file.path f t)
    (λ t. kept_in f c.args.parents.0 c.args.parents.1 c.as_slice.result.now t ≡ Ok (Some rev))
    (λ t. AreKept t c.push.new.self)
    c.in_ok-rev.ensures.still c.in_ok-rev.ensures.same_start
    (λ t h is. c.in_ok-push-in-Some.ensures t h.0 (c.known_file.ensures t h.1 (kept-alone f c.args.parents.0 c.args.parents.1 rev file.body t (ap (λ b. kept_in f c.args.parents.0 c.args.parents.1 b t) (sym c.as_slice.ensures) ∙ is))))
    (alone-both g.R.Reads.alone (g.R.Reads.seen old) (g.R.Reads.seen old) (g.R.Reads.start old) (g.R.Reads.start old)
    (λ t. AreKept t c.args.known.now) (λ t. IsReadOf file.path f t) (λ t. AreKept t c.args.known.now × IsReadOf file.path f t)
    (λ alone. refl) refl (λ t a b. (a, b)) c.requires.known c.requires.read)
    (subst Kept c.in-Some.is c.in_ok-rev.ensures.found)

pub returns-in-None-clause-known : goal.returns-in-None-clause-known
returns-in-None-clause-known g c =
    let old = c.args.files.now in
    let now = c.changed_file.new.files in
    on-ok c.changed_file.result (KnowsAt g.R.Reads.alone (g.R.Reads.seen now) (g.R.Reads.start now) c.args.known.now)
    (knows-later g.R.Reads.alone (g.R.Reads.seen old) (g.R.Reads.seen now) (g.R.Reads.start old) (g.R.Reads.start now) c.args.known.now
    (λ alone. c.changed_file.ensures.still alone ∙ c.in_ok-rev.ensures.still alone) (c.changed_file.ensures.same_start ∙ c.in_ok-rev.ensures.same_start) c.requires.known)
