use Rattle.std.proofs.Common.{◌≡◌, [], Some, ◌∙◌, subst, sym}
use Rattle.std.specs.Prelude.{OnOk}
use Rattle.hgs_files.specs.Files.{GoesOn}
use Rattle.hgs_machine.specs.Asked.{asked}
use Rattle.hgs_mem.specs.Steady.{steady_log, steady_tree}
use Rattle.hgs_world.specs.Working.{Acts, Does, OfOperation}
use Rattle.hgs_world.specs.declared.working.Deed.TheVariants.{All, Part, Fail}
use Rattle.hgs_world.proofs.WorkLemmas.{acts_after, on_ok}
use Rattle.hgs_world.proofs.working.Working.act.Goals as goal

pub returns-in-All-clause-acts : goal.returns-in-All-clause-acts
returns-in-All-clause-acts c =
    let v = c.come.new.self in
    let a = c.finish_next.new.self in
    let X : Type 0 = GoesOn (Some (steady_log c.come.new.files)) (Some (steady_log c.finish_next.new.files)) (λ done. OfOperation (asked v.machine) (λ op. Does All op v done a) ((done ≡ []) × (a ≡ v))) in
    let Y : Type 0 = GoesOn (Some (steady_log c.args.files.now)) (Some (steady_log c.finish_next.new.files)) (λ done. Acts All (steady_tree c.args.files.now) c.args.self.now done a) in
    subst (λ x. OnOk c.finish_next.result (GoesOn (Some (steady_log c.args.files.now)) (Some (steady_log c.finish_next.new.files)) (λ done. Acts x (steady_tree c.args.files.now) c.args.self.now done a))) (sym c.in-All.is)
    (on_ok c.finish_next.result X Y
    (acts_after All (steady_tree c.args.files.now) c.args.self.now v a (steady_log c.args.files.now) (steady_log c.come.new.files) (steady_log c.finish_next.new.files) c.in_ok-come.ensures.next c.in_ok-come.ensures.same c.in_ok-come.ensures.log)
    c.finish_next.ensures.does)

pub returns-in-Part-clause-acts : goal.returns-in-Part-clause-acts
returns-in-Part-clause-acts c =
    let v = c.come.new.self in
    let a = c.do_more.new.self in
    let X : Type 0 = GoesOn (Some (steady_log c.come.new.files)) (Some (steady_log c.do_more.new.files)) (λ done. OfOperation (asked v.machine) (λ op. Does (Part c.in-Part.count) op v done a) ((done ≡ []) × (a ≡ v))) in
    let Y : Type 0 = GoesOn (Some (steady_log c.args.files.now)) (Some (steady_log c.do_more.new.files)) (λ done. Acts (Part c.in-Part.count) (steady_tree c.args.files.now) c.args.self.now done a) in
    subst (λ x. OnOk c.do_more.result (GoesOn (Some (steady_log c.args.files.now)) (Some (steady_log c.do_more.new.files)) (λ done. Acts x (steady_tree c.args.files.now) c.args.self.now done a))) (sym c.in-Part.is)
    (on_ok c.do_more.result X Y
    (acts_after (Part c.in-Part.count) (steady_tree c.args.files.now) c.args.self.now v a (steady_log c.args.files.now) (steady_log c.come.new.files) (steady_log c.do_more.new.files) c.in_ok-come.ensures.next c.in_ok-come.ensures.same c.in_ok-come.ensures.log)
    c.do_more.ensures.does)

pub returns-in-Fail-clause-acts : goal.returns-in-Fail-clause-acts
returns-in-Fail-clause-acts c =
    let v = c.come.new.self in
    let a = c.fail_next.new.self in
    let X : Type 0 = GoesOn (Some (steady_log c.come.new.files)) (Some (steady_log c.fail_next.new.files)) (λ done. OfOperation (asked v.machine) (λ op. Does (Fail c.in-Fail.count) op v done a) ((done ≡ []) × (a ≡ v))) in
    let Y : Type 0 = GoesOn (Some (steady_log c.args.files.now)) (Some (steady_log c.fail_next.new.files)) (λ done. Acts (Fail c.in-Fail.count) (steady_tree c.args.files.now) c.args.self.now done a) in
    subst (λ x. OnOk c.fail_next.result (GoesOn (Some (steady_log c.args.files.now)) (Some (steady_log c.fail_next.new.files)) (λ done. Acts x (steady_tree c.args.files.now) c.args.self.now done a))) (sym c.in-Fail.is)
    (on_ok c.fail_next.result X Y
    (acts_after (Fail c.in-Fail.count) (steady_tree c.args.files.now) c.args.self.now v a (steady_log c.args.files.now) (steady_log c.come.new.files) (steady_log c.fail_next.new.files) c.in_ok-come.ensures.next c.in_ok-come.ensures.same c.in_ok-come.ensures.log)
    c.fail_next.ensures.does)

pub returns-in-All-clause-same_start : goal.returns-in-All-clause-same_start
returns-in-All-clause-same_start c = c.finish_next.ensures.same_start ∙ c.in_ok-come.ensures.same_start

pub returns-in-Part-clause-same_start : goal.returns-in-Part-clause-same_start
returns-in-Part-clause-same_start c = c.do_more.ensures.same_start ∙ c.in_ok-come.ensures.same_start

pub returns-in-Fail-clause-same_start : goal.returns-in-Fail-clause-same_start
returns-in-Fail-clause-same_start c = c.fail_next.ensures.same_start ∙ c.in_ok-come.ensures.same_start
