use Rattle.std.proofs.Common.{◌≡◌, ℕ, List, [], true, false, refl, inl, sym, ap, ◌∙◌, suc, zero, arith}
use Rattle.std.specs.Prelude.{Ok, Result, codes}
use Rattle.hex.specs.Hex.{IsBytes}
use Rattle.hgs_model.specs.Repo.{empty_repo}
use Rattle.hgs_model.specs.Step.{answer_at}
use Rattle.hgs_ops.specs.Operations.{operations}
use Rattle.hgs_ops.specs.Samples.{after_first, bare, first_change, one_draft}
use Rattle.hgs_path.specs.declared.fncache.FncacheFault.{FncacheFault}
use Rattle.hgs_path.specs.declared.name.Ext.TheVariants.{I}
use Rattle.hgs_path.specs.Fncache.{is_path_of, lists}
use Rattle.hgs_legal.specs.Samples.{first_turn}
use Rattle.hgs_legal.specs.ListsPaths.{ListsPaths}
use Rattle.hgs_legal.specs.NothingClashes.{NothingClashes}
use Rattle.hgs_legal.proofs.examples.first_commit_keeps_its_list.Goals as goal

pub returns : goal.returns
returns c = record {
  start = start;
  free = free;
  bytes = c.listed_paths_need_no_test.ensures.bytes bare empty_repo one_draft first_change (answer_at one_draft 0) c.first_commit.ensures.stands start c.first_commit.ensures.accepted (one_byte, tt);
  listed = c.listed_paths_need_no_test.ensures.listed bare empty_repo one_draft start free;
  ends = λ who. let run = c.first_commit_as_a_log.ensures.whole who in c.writers_keep_lists.ensures.ends bare empty_repo one_draft (operations (first_turn who).ops) run.0 c.first_commit.ensures.stands start run.1 (inl (c.first_commit.ensures.leads who).stands);
  there = λ who names read. c.files_of_standing_trees.ensures.listed (after_first who) one_draft names (codes "a") I (c.first_commit.ensures.leads who).stands read refl refl;
}
  where
    start : ListsPaths bare empty_repo
    start = c.new_repositories_list_paths.ensures.empty bare empty_repo refl

    none : (names : List (List ℕ)) → ◌≡◌ {A = Result (List (List ℕ)) FncacheFault} (Ok []) (Ok names) → names ≡ []
    none names h = cc

    free : NothingClashes bare empty_repo one_draft
    free names read path there unused other bytes is = absurd (no (sym (ap (λ (l : List (List ℕ)). is_path_of (lists l) other) (none names read)) ∙ is))
      where
        no : false ≡ true → ⊥
        no h = cc

    one_byte : IsBytes (codes "a")
    one_byte zero = omega arith
    one_byte (suc i) = omega arith
