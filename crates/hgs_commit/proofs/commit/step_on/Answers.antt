use Rattle.std.proofs.Common.{◌≡◌, List, ℕ, Option, Ok, Err, sym, ◌∙◌, ap, subst}
use Rattle.std.specs.Prelude.{⊤}
use Rattle.std.specs.Bool.{MatchBool}
use Rattle.hgs_files.specs.Tree.{Tree}
use Rattle.hgs_index.specs.Manifest.{AreRows}
use Rattle.hgs_index.specs.Revision.{Parents}
use Rattle.hgs_load.specs.Answer.{is_of_outside}
use Rattle.hgs_loading.specs.Parent.{Files, view_parent}
use Rattle.hgs_model.specs.declared.files.NewFile.{NewFile}
use Rattle.hgs_steps.specs.Fault.{is_memory}
use Rattle.hgs_commit.specs.Commit.{OfTexts, StepsOn, both_parents, copies_tested, grown_on, planned, texts_in, too_many_marks, view_grown, view_texts}
use Rattle.hgs_commit.specs.declared.fault.CommitFault.TheVariants.{Unread, Refused}
use Rattle.hgs_commit.specs.Obstacles.{Met, met_of, noted, noting}
use Rattle.hgs_commit.specs.Trees.{OfGrown}
use Rattle.hgs_commit.proofs.AnswerLemmas.{alone-both, alone-one}
use Rattle.hgs_commit.proofs.KnownLemmas.{knows-later}
use Rattle.hgs_commit.proofs.StepLemmas.{IsGrownOn, grown-alone, start, step-found, step-orphan, step-refused, step-textless, step-unchanged, step-uncopied, step-unread}
use Rattle.hgs_commit.proofs.WholeLemmas.{are-parents, parent-ascends}
use Rattle.hgs_commit.proofs.commit.step_on.Goals as goal

pub returns-in-Err-clause-found : goal.returns-in-Err-clause-found
returns-in-Err-clause-found g c =
    let l = c.args.loaded.now in
    let change = c.args.change.now in
    let parents : Parents = c.args.parents in
    let e = c.in-Err.refusal in
    alone-one g.R.Reads.alone (g.R.Reads.seen c.both_parents.new.files) (g.R.Reads.start c.both_parents.new.files)
    (λ t. MatchBool (is_of_outside e) ⊤ (both_parents l parents t ≡ Err e))
    (λ t. StepsOn l change parents t (Err (Unread e)))
    (λ t h. step-orphan l change parents t e h)
    c.in-Err.ensures.found

pub returns-in-Err-test_copies-clause-found : goal.returns-in-Err-test_copies-clause-found
returns-in-Err-test_copies-clause-found g c =
    let l = c.args.loaded.now in
    let change = c.args.change.now in
    let parents : Parents = c.args.parents in
    let a : Files = view_parent c.in-Ok.read.0 in
    let b : Files = view_parent c.in-Ok.read.1 in
    let f = c.in-Err-test_copies.fault in
    let P : List NewFile → Type 0 = λ files. MatchBool (is_memory f) ⊤ (copies_tested a.1 b.1 files ≡ Err f) in
    alone-one g.R.Reads.alone (g.R.Reads.seen c.both_parents.new.files) (g.R.Reads.start c.both_parents.new.files)
    (λ t. both_parents l parents t ≡ Ok (a, b))
    (λ t. StepsOn l change parents t (Err (Refused f)))
    (λ t h. step-uncopied l change parents t a b h f (subst P c.as_slice.ensures c.in-Err-test_copies.ensures))
    c.in-Ok.ensures.found

pub grown_tree-requires-clause-rows : goal.grown_tree-requires-clause-rows
grown_tree-requires-clause-rows g c =
    let l = c.args.loaded.now in
    let parents : Parents = c.args.parents in
    let a : Files = view_parent c.in-Ok.read.0 in
    let b : Files = view_parent c.in-Ok.read.1 in
    let law = c.manifest_reads_then_prints.ensures in
    alone-one g.R.Reads.alone (g.R.Reads.seen c.both_parents.new.files) (g.R.Reads.start c.both_parents.new.files)
    (λ t. both_parents l parents t ≡ Ok (a, b))
    (λ t. AreRows a.1 × AreRows b.1)
    (λ t h. let are = are-parents l parents t a b h in (parent-ascends law l parents.0 t a are.0, parent-ascends law l parents.1 t b are.1))
    c.in-Ok.ensures.found

pub returns-in-Err-grown_tree-clause-found : goal.returns-in-Err-grown_tree-clause-found
returns-in-Err-grown_tree-clause-found g c =
    let l = c.args.loaded.now in
    let change = c.args.change.now in
    let parents : Parents = c.args.parents in
    let a : Files = view_parent c.in-Ok.read.0 in
    let b : Files = view_parent c.in-Ok.read.1 in
    let copied : copies_tested a.1 b.1 change.files ≡ Ok tt = ap (copies_tested a.1 b.1) (sym c.as_slice.ensures) ∙ c.in-Ok-test_copies.ensures in
    let started : met_of c.meet_bookmarks.new.met ≡ start l change = c.meet_bookmarks.ensures.met ∙ ap (λ k. noted k (too_many_marks l change)) c.none-met.ensures.met in
    let e = c.in-Err-grown_tree.refusal in
    let P : Met → Tree → Type 0 = λ k t. MatchBool (is_of_outside e) ⊤ (noting k (grown_on l change a b t) ≡ Err e) in
    alone-both g.R.Reads.alone (g.R.Reads.seen c.both_parents.new.files) (g.R.Reads.seen c.grown_tree.new.files) (g.R.Reads.start c.both_parents.new.files) (g.R.Reads.start c.grown_tree.new.files)
    (λ t. both_parents l parents t ≡ Ok (a, b))
    (P (met_of c.meet_bookmarks.new.met))
    (λ t. StepsOn l change parents t (Err (Unread e)))
    c.in-Err-grown_tree.ensures.still c.in-Err-grown_tree.ensures.same_start
    (λ t p q. step-unread l change parents t a b p copied e (let Q : Met → Type 0 = λ k. P k t in subst Q started q))
    c.in-Ok.ensures.found c.in-Err-grown_tree.ensures.found

pub returns-in-Err-test_change-clause-found : goal.returns-in-Err-test_change-clause-found
returns-in-Err-test_change-clause-found g c =
    let l = c.args.loaded.now in
    let change = c.args.change.now in
    let parents : Parents = c.args.parents in
    let a : Files = view_parent c.in-Ok.read.0 in
    let b : Files = view_parent c.in-Ok.read.1 in
    let copied : copies_tested a.1 b.1 change.files ≡ Ok tt = ap (copies_tested a.1 b.1) (sym c.as_slice.ensures) ∙ c.in-Ok-test_copies.ensures in
    let x : OfGrown = view_grown c.in-Ok-grown_tree.grown.0 in
    let manifests : Parents = c.in-Ok-grown_tree.grown.1 in
    let m : Met = met_of c.grown_tree.new.met in
    let clash = c.grown_tree.new.met.clash in
    let seen = g.R.Reads.seen c.grown_tree.new.files in
    let first = g.R.Reads.start c.grown_tree.new.files in
    let started : met_of c.meet_bookmarks.new.met ≡ start l change = c.meet_bookmarks.ensures.met ∙ ap (λ k. noted k (too_many_marks l change)) c.none-met.ensures.met in
    let untold = c.meet_bookmarks.ensures.clash ∙ c.none-met.ensures.clash in
    let grown =
    grown-alone l change parents a b x manifests (met_of c.meet_bookmarks.new.met) m c.meet_bookmarks.new.met.clash clash g.R.Reads.alone (g.R.Reads.seen c.both_parents.new.files) seen (g.R.Reads.start c.both_parents.new.files) first
    started untold c.in-Ok-grown_tree.ensures.still c.in-Ok-grown_tree.ensures.same_start c.in-Ok.ensures.found c.in-Ok-grown_tree.ensures.found c.in-Ok-grown_tree.ensures.clash in
    alone-one g.R.Reads.alone seen first (IsGrownOn l change parents a b x manifests m clash)
    (λ t. StepsOn l change parents t (Err (Refused c.in-Err-test_change.fault)))
    (λ t p. step-unchanged l change parents t a b p.0 copied x manifests m clash p.1 p.2 c.in-Err-test_change.fault c.in-Err-test_change.ensures)
    grown

pub returns-in-Err-texts_of-clause-found : goal.returns-in-Err-texts_of-clause-found
returns-in-Err-texts_of-clause-found g c =
    let l = c.args.loaded.now in
    let change = c.args.change.now in
    let parents : Parents = c.args.parents in
    let a : Files = view_parent c.in-Ok.read.0 in
    let b : Files = view_parent c.in-Ok.read.1 in
    let copied : copies_tested a.1 b.1 change.files ≡ Ok tt = ap (copies_tested a.1 b.1) (sym c.as_slice.ensures) ∙ c.in-Ok-test_copies.ensures in
    let x : OfGrown = view_grown c.in-Ok-grown_tree.grown.0 in
    let manifests : Parents = c.in-Ok-grown_tree.grown.1 in
    let m : Met = met_of c.grown_tree.new.met in
    let clash = c.grown_tree.new.met.clash in
    let seen = g.R.Reads.seen c.grown_tree.new.files in
    let first = g.R.Reads.start c.grown_tree.new.files in
    let started : met_of c.meet_bookmarks.new.met ≡ start l change = c.meet_bookmarks.ensures.met ∙ ap (λ k. noted k (too_many_marks l change)) c.none-met.ensures.met in
    let untold = c.meet_bookmarks.ensures.clash ∙ c.none-met.ensures.clash in
    let grown =
    grown-alone l change parents a b x manifests (met_of c.meet_bookmarks.new.met) m c.meet_bookmarks.new.met.clash clash g.R.Reads.alone (g.R.Reads.seen c.both_parents.new.files) seen (g.R.Reads.start c.both_parents.new.files) first
    started untold c.in-Ok-grown_tree.ensures.still c.in-Ok-grown_tree.ensures.same_start c.in-Ok.ensures.found c.in-Ok-grown_tree.ensures.found c.in-Ok-grown_tree.ensures.clash in
    let e = c.in-Err-texts_of.refusal in
    alone-both g.R.Reads.alone seen (g.R.Reads.seen c.texts_of.new.files) first (g.R.Reads.start c.texts_of.new.files) (IsGrownOn l change parents a b x manifests m clash)
    (λ t. MatchBool (is_of_outside e) ⊤ (noting m (texts_in l change parents x manifests t) ≡ Err e))
    (λ t. StepsOn l change parents t (Err (Unread e)))
    c.in-Err-texts_of.ensures.still c.in-Err-texts_of.ensures.same_start
    (λ t p q. step-textless l change parents t a b p.0 copied x manifests m clash p.1 p.2 c.in-Ok-test_change.ensures e q)
    grown c.in-Err-texts_of.ensures.found

pub returns-clause-found : goal.returns-clause-found
returns-clause-found g c =
    let l = c.args.loaded.now in
    let change = c.args.change.now in
    let parents : Parents = c.args.parents in
    let a : Files = view_parent c.in-Ok.read.0 in
    let b : Files = view_parent c.in-Ok.read.1 in
    let copied : copies_tested a.1 b.1 change.files ≡ Ok tt = ap (copies_tested a.1 b.1) (sym c.as_slice.ensures) ∙ c.in-Ok-test_copies.ensures in
    let x : OfGrown = view_grown c.in-Ok-grown_tree.grown.0 in
    let manifests : Parents = c.in-Ok-grown_tree.grown.1 in
    let m : Met = met_of c.grown_tree.new.met in
    let clash = c.grown_tree.new.met.clash in
    let seen = g.R.Reads.seen c.grown_tree.new.files in
    let first = g.R.Reads.start c.grown_tree.new.files in
    let started : met_of c.meet_bookmarks.new.met ≡ start l change = c.meet_bookmarks.ensures.met ∙ ap (λ k. noted k (too_many_marks l change)) c.none-met.ensures.met in
    let untold = c.meet_bookmarks.ensures.clash ∙ c.none-met.ensures.clash in
    let grown =
    grown-alone l change parents a b x manifests (met_of c.meet_bookmarks.new.met) m c.meet_bookmarks.new.met.clash clash g.R.Reads.alone (g.R.Reads.seen c.both_parents.new.files) seen (g.R.Reads.start c.both_parents.new.files) first
    started untold c.in-Ok-grown_tree.ensures.still c.in-Ok-grown_tree.ensures.same_start c.in-Ok.ensures.found c.in-Ok-grown_tree.ensures.found c.in-Ok-grown_tree.ensures.clash in
    let texts : OfTexts = view_texts c.in-Ok-texts_of.texts in
    let new : Met = met_of c.texts_of.new.met in
    let same = c.in-Ok-texts_of.ensures.clash in
    let fault = c.in-Err-planned_step.fault in
    let P : Option (List ℕ) → Type 0 = λ o. MatchBool (is_memory fault) ⊤ (planned l change parents texts new o ≡ Err fault) in
    alone-both g.R.Reads.alone seen (g.R.Reads.seen c.texts_of.new.files) first (g.R.Reads.start c.texts_of.new.files) (IsGrownOn l change parents a b x manifests m clash)
    (λ t. noting m (texts_in l change parents x manifests t) ≡ Ok (texts, new))
    (λ t. StepsOn l change parents t (Err (Refused fault)))
    c.in-Ok-texts_of.ensures.still c.in-Ok-texts_of.ensures.same_start
    (λ t p q. step-refused l change parents t a b p.0 copied x manifests m clash p.1 p.2 c.in-Ok-test_change.ensures texts new q fault (subst P same c.in-Err-planned_step.ensures.step))
    grown c.in-Ok-texts_of.ensures.found

pub returns-in-Ok-planned_step-clause-found : goal.returns-in-Ok-planned_step-clause-found
returns-in-Ok-planned_step-clause-found g c =
    let l = c.args.loaded.now in
    let change = c.args.change.now in
    let parents : Parents = c.args.parents in
    let a : Files = view_parent c.in-Ok.read.0 in
    let b : Files = view_parent c.in-Ok.read.1 in
    let copied : copies_tested a.1 b.1 change.files ≡ Ok tt = ap (copies_tested a.1 b.1) (sym c.as_slice.ensures) ∙ c.in-Ok-test_copies.ensures in
    let x : OfGrown = view_grown c.in-Ok-grown_tree.grown.0 in
    let manifests : Parents = c.in-Ok-grown_tree.grown.1 in
    let m : Met = met_of c.grown_tree.new.met in
    let clash = c.grown_tree.new.met.clash in
    let seen = g.R.Reads.seen c.grown_tree.new.files in
    let first = g.R.Reads.start c.grown_tree.new.files in
    let started : met_of c.meet_bookmarks.new.met ≡ start l change = c.meet_bookmarks.ensures.met ∙ ap (λ k. noted k (too_many_marks l change)) c.none-met.ensures.met in
    let untold = c.meet_bookmarks.ensures.clash ∙ c.none-met.ensures.clash in
    let grown =
    grown-alone l change parents a b x manifests (met_of c.meet_bookmarks.new.met) m c.meet_bookmarks.new.met.clash clash g.R.Reads.alone (g.R.Reads.seen c.both_parents.new.files) seen (g.R.Reads.start c.both_parents.new.files) first
    started untold c.in-Ok-grown_tree.ensures.still c.in-Ok-grown_tree.ensures.same_start c.in-Ok.ensures.found c.in-Ok-grown_tree.ensures.found c.in-Ok-grown_tree.ensures.clash in
    let texts : OfTexts = view_texts c.in-Ok-texts_of.texts in
    let new : Met = met_of c.texts_of.new.met in
    let same = c.in-Ok-texts_of.ensures.clash in
    let step = c.in-Ok-planned_step.step in
    let P : Option (List ℕ) → Type 0 = λ o. planned l change parents texts new o ≡ Ok step in
    alone-both g.R.Reads.alone seen (g.R.Reads.seen c.texts_of.new.files) first (g.R.Reads.start c.texts_of.new.files) (IsGrownOn l change parents a b x manifests m clash)
    (λ t. noting m (texts_in l change parents x manifests t) ≡ Ok (texts, new))
    (λ t. StepsOn l change parents t (Ok step))
    c.in-Ok-texts_of.ensures.still c.in-Ok-texts_of.ensures.same_start
    (λ t p q. step-found l change parents t a b p.0 copied x manifests m clash p.1 p.2 c.in-Ok-test_change.ensures texts new q step (subst P same c.in-Ok-planned_step.ensures.step))
    grown c.in-Ok-texts_of.ensures.found

pub grown_tree-requires-clause-known : goal.grown_tree-requires-clause-known
grown_tree-requires-clause-known g c =
    knows-later g.R.Reads.alone (g.R.Reads.seen c.args.files.now) (g.R.Reads.seen c.both_parents.new.files) (g.R.Reads.start c.args.files.now) (g.R.Reads.start c.both_parents.new.files) c.args.known.now
    c.in-Ok.ensures.still c.in-Ok.ensures.same_start c.requires.known

pub returns-in-Ok-planned_step-clause-known : goal.returns-in-Ok-planned_step-clause-known
returns-in-Ok-planned_step-clause-known g c =
    knows-later g.R.Reads.alone (g.R.Reads.seen c.grown_tree.new.files) (g.R.Reads.seen c.texts_of.new.files) (g.R.Reads.start c.grown_tree.new.files) (g.R.Reads.start c.texts_of.new.files) c.grown_tree.new.known
    c.in-Ok-texts_of.ensures.still c.in-Ok-texts_of.ensures.same_start c.in-Ok-grown_tree.ensures.known
