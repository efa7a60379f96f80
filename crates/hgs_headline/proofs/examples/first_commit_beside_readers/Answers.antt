use Rattle.std.proofs.Common.{◌≡◌, [], length, take, refl, sym, ◌∙◌, ap, append-nil}
use Rattle.hgs_model.specs.Repo.{empty_repo}
use Rattle.hgs_ops.specs.Operations.{operations}
use Rattle.hgs_ops.specs.Samples.{bare}
use Rattle.hgs_ops.specs.Shown.{lacks_bookmarks, lacks_dirstate}
use Rattle.hgs_legal.specs.LegalLog.{last_repo}
use Rattle.hgs_legal.specs.Numbers.{b_of, left_of, less_one, n_of, w_of}
use Rattle.hgs_legal.specs.Samples.{first_turn}
use Rattle.hgs_headline.specs.WritersLog.{WritersLog}
use Rattle.hgs_headline.proofs.examples.first_commit_beside_readers.Goals as goal

pub returns : goal.returns
returns c who =
    let p = c.pieces_are_legal.ensures.whole bare empty_repo [] [] (first_turn who) (c.first_commit_as_a_log.ensures.turn who) in
    let h : WritersLog = record { start = bare; first = empty_repo; log = operations (first_turn who).ops; last = p.0; stands = c.first_commit.ensures.stands; run = p.1 } in
    let end = c.legal_logs_are_writers_logs.ensures.ends h in
    let one : n_of p.0 ≡ 1 = ap length p.2 in (
      h,
      refl,
      refl,
      c.writers_logs_are_courses.ensures.course h [] h.log ([], sym (append-nil h.log)),
      c.writers_logs_are_courses.ensures.first h,
      ap (λ l. last_repo p.0.first (take 1 l)) p.2,
      ap n_of (c.legal_logs_are_writers_logs.ensures.begins h),
      ap b_of end ∙ ap (λ d. less_one (lacks_bookmarks (left_of d)) (n_of p.0)) p.3 ∙ one,
      ap w_of end ∙ ap (λ d. less_one (lacks_dirstate (left_of d)) (n_of p.0)) p.3 ∙ one,
      ap n_of end ∙ one,
    )
