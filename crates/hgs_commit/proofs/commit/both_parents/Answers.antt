use Rattle.std.proofs.Common.{◌≡◌, Ok, Err}
use Rattle.std.specs.Prelude.{⊤}
use Rattle.std.specs.Bool.{MatchBool}
use Rattle.hgs_index.specs.Revision.{Parents}
use Rattle.hgs_load.specs.Answer.{is_of_outside}
use Rattle.hgs_loading.specs.Parent.{Files, view_parent}
use Rattle.hgs_loading.specs.Theorems.FoundLemmas.{either}
use Rattle.hgs_commit.specs.Commit.{both_parents, parent_files}
use Rattle.hgs_commit.proofs.AnswerLemmas.{alone-both, alone-one}
use Rattle.hgs_commit.proofs.WholeLemmas.{both-found, first-fault, second-fault}
use Rattle.hgs_commit.proofs.commit.both_parents.Goals as goal

pub returns-in-Err-clause-found : goal.returns-in-Err-clause-found
returns-in-Err-clause-found g c =
    let l = c.args.loaded.now in
    let parents : Parents = c.args.parents in
    let e = c.in-Err.refusal in
    alone-one g.R.Reads.alone (g.R.Reads.seen c.parent_of.new.files) (g.R.Reads.start c.parent_of.new.files)
    (λ t. MatchBool (is_of_outside e) ⊤ (parent_files l parents.0 t ≡ Err e))
    (λ t. MatchBool (is_of_outside e) ⊤ (both_parents l parents t ≡ Err e))
    (λ t. either (is_of_outside e) (parent_files l parents.0 t ≡ Err e) (both_parents l parents t ≡ Err e) (first-fault l parents t e))
    c.in-Err.ensures.found

pub returns-in-Err-parent_of-clause-found : goal.returns-in-Err-parent_of-clause-found
returns-in-Err-parent_of-clause-found g c =
    let l = c.args.loaded.now in
    let parents : Parents = c.args.parents in
    let a : Files = view_parent c.in-Ok.first in
    let e = c.in-Err-parent_of.refusal in
    alone-both g.R.Reads.alone (g.R.Reads.seen c.parent_of.new.files) (g.R.Reads.seen c.parent_of-2.new.files) (g.R.Reads.start c.parent_of.new.files) (g.R.Reads.start c.parent_of-2.new.files)
    (λ t. parent_files l parents.0 t ≡ Ok a)
    (λ t. MatchBool (is_of_outside e) ⊤ (parent_files l parents.1 t ≡ Err e))
    (λ t. MatchBool (is_of_outside e) ⊤ (both_parents l parents t ≡ Err e))
    c.in-Err-parent_of.ensures.still c.in-Err-parent_of.ensures.same_start
    (λ t p q. either (is_of_outside e) (parent_files l parents.1 t ≡ Err e) (both_parents l parents t ≡ Err e) (second-fault l parents t a e p) q)
    c.in-Ok.ensures.found c.in-Err-parent_of.ensures.found

pub returns-clause-found : goal.returns-clause-found
returns-clause-found g c =
    let l = c.args.loaded.now in
    let parents : Parents = c.args.parents in
    let a : Files = view_parent c.in-Ok.first in
    let b : Files = view_parent c.in-Ok-parent_of.second in
    alone-both g.R.Reads.alone (g.R.Reads.seen c.parent_of.new.files) (g.R.Reads.seen c.parent_of-2.new.files) (g.R.Reads.start c.parent_of.new.files) (g.R.Reads.start c.parent_of-2.new.files)
    (λ t. parent_files l parents.0 t ≡ Ok a)
    (λ t. parent_files l parents.1 t ≡ Ok b)
    (λ t. both_parents l parents t ≡ Ok (a, b))
    c.in-Ok-parent_of.ensures.still c.in-Ok-parent_of.ensures.same_start
    (λ t p q. both-found l parents t a b p q)
    c.in-Ok.ensures.found c.in-Ok-parent_of.ensures.found
