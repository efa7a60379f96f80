use Rattle.std.proofs.Common.{[], Some, sym, ◌∙◌, refl, arith, append-nil, ap}
use Rattle.hgs_machine.specs.Asked.{asked}
use Rattle.hgs_mem.specs.Steady.{steady_log, steady_start}
use Rattle.hgs_world.specs.Working.{not_yet}
use Rattle.hgs_world.proofs.WorkLemmas.{doing_of, runs_more, runs_until}
use Rattle.hgs_world.proofs.working.Working.run.Goals as goal
use Rattle.hgs_world.proofs.working.Working.run.Goals.{then-has_ended-via-then-has_ended, then-has_ended-via-else-has_ended+then-is_at}

pub ops-init : goal.ops-init
ops-init c = record { runs = ([], ap (λ l. Some l) (sym (append-nil (steady_log c.args.files.now))), not_yet); at_work = c.requires.at_work; same_start = refl }

pub returns-then-has_ended-clause-runs : goal.returns-then-has_ended-clause-runs
returns-then-has_ended-clause-runs c =
    let i = c.ops.invariant in
    let e = c.in_ok-come.ensures in
    runs_until c.args.goal c.args.self.now c.ops.self c.come.new.self (steady_log c.args.files.now) (steady_log c.ops.files) (steady_log c.come.new.files) (steady_start c.args.files.now) (steady_start c.ops.files)
    i.runs i.same_start e.log e.next e.same
    (λ going. elim c.then-has_ended.branch [ then-has_ended-via-then-has_ended w ↦ (let t = w.if-has_ended.true in let s = c.has_ended.ensures in cc) | then-has_ended-via-else-has_ended+then-is_at w ↦ sym w.is_at.ensures ∙ w.if-is_at.true ])

pub ops-smaller : goal.ops-smaller
ops-smaller c =
    let op = doing_of (asked c.come.new.self.machine) c.in_ok-come.ensures.next.no_more (sym c.has_ended.ensures ∙ c.if-has_ended.false) in
    let less = c.in_ok-finish_next.ensures.fewer op.0 op.1 in
    let most = c.in_ok-come.ensures.fewer in
    omega (arith, less, most)

pub ops-preserved : goal.ops-preserved
ops-preserved c =
    let i = c.ops.invariant in
    let e = c.in_ok-come.ensures in
    record {
      runs = runs_more c.args.goal c.args.self.now c.ops.self c.come.new.self c.finish_next.new.self (steady_log c.args.files.now) (steady_log c.ops.files) (steady_log c.come.new.files) (steady_log c.finish_next.new.files) (steady_start c.args.files.now) (steady_start c.ops.files)
          i.runs i.same_start e.log e.next e.same (sym c.has_ended.ensures ∙ c.if-has_ended.false) (sym c.is_at.ensures ∙ c.if-is_at.false) c.in_ok-finish_next.ensures.does;
      at_work = c.in_ok-finish_next.ensures.at_work;
      same_start = c.in_ok-finish_next.ensures.same_start ∙ e.same_start ∙ i.same_start;
    }
