use Rattle.std.proofs.Common.{Some}
use Rattle.hgs_files.specs.Files.{GoesOn}
use Rattle.hgs_machine.specs.Asked.{asked}
use Rattle.hgs_mem.specs.Steady.{steady_log, steady_tree}
use Rattle.hgs_world.specs.Parts.{DoesPart}
use Rattle.hgs_world.specs.Working.{StopsWithin}
use Rattle.hgs_world.proofs.WorkLemmas.{asks_nothing, is_doing, is_sizing, on_ok, stops_at_end, stops_at_op, stops_at_size}
use Rattle.hgs_world.proofs.working.Working.stop.Goals as goal

pub returns-in-Do-clause-stops : goal.returns-in-Do-clause-stops
returns-in-Do-clause-stops c =
    let v = c.come.new.self in
    let X : Type 0 = GoesOn (Some (steady_log c.come.new.files)) (Some (steady_log c.do_part.new.files)) (DoesPart c.in-Do.op.now v.part c.args.count) in
    let Y : Type 0 = GoesOn (Some (steady_log c.args.files.now)) (Some (steady_log c.do_part.new.files)) (λ done. StopsWithin c.args.count (steady_tree c.args.files.now) c.args.self.now done v) in
    on_ok c.do_part.result X Y
    (stops_at_op c.args.count (steady_tree c.args.files.now) c.args.self.now v c.in-Do.op.now (steady_log c.args.files.now) (steady_log c.come.new.files) (steady_log c.do_part.new.files) c.in_ok-come.ensures.next c.in_ok-come.ensures.same c.in_ok-come.ensures.log
    (is_doing (asked v.machine) _ c.in-Do.op c.in-Do.ensures.question))
    c.do_part.ensures.done

pub returns-in-Size-clause-stops : goal.returns-in-Size-clause-stops
returns-in-Size-clause-stops c =
    stops_at_size c.args.count (steady_tree c.args.files.now) c.args.self.now c.come.new.self _ (steady_log c.args.files.now) (steady_log c.come.new.files) c.in_ok-come.ensures.next c.in_ok-come.ensures.log
    (is_sizing (asked c.come.new.self.machine) _ _ c.in-Size.ensures.question)

pub returns-in-End-clause-stops : goal.returns-in-End-clause-stops
returns-in-End-clause-stops c =
    stops_at_end c.args.count (steady_tree c.args.files.now) c.args.self.now c.come.new.self (steady_log c.args.files.now) (steady_log c.come.new.files) c.in_ok-come.ensures.next c.in_ok-come.ensures.same c.in_ok-come.ensures.log
    (asks_nothing (asked c.come.new.self.machine) _ _ c.in-End.ensures.question)
