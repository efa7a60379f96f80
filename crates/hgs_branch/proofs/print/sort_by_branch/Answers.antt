use Rattle.std.proofs.Common.{rules, is_lt}
use Rattle.std.proofs.lemmas.Fn.{always_returns_same}
use Rattle.std.proofs.lemmas.List.MinMax.{ranks_by}
use Rattle.std.proofs.lemmas.Result.{on_ok_weaker}
use Rattle.std.specs.Cmp.Lexicographic.{nat_list_cmp_total}
use Rattle.hgs_branch.specs.Heads.{branch_at, comes_before}
use Rattle.hgs_branch.specs.Kept.{names_in}
use Rattle.hgs_branch.proofs.OrderLemmas.{sorted_stand}
use Rattle.hgs_branch.proofs.print.sort_by_branch.Goals as goal

pub returns-clause-sorted : goal.returns-clause-sorted
returns-clause-sorted c =
    let names = names_in c.args.course.now.names.items c.args.course.now.known.items in
    on_ok_weaker c.sort_by.result
    (λ sorted. sorted_stand names c.sort_by.new.self.items (sorted (comes_before names) (ranks_by nat_list_cmp_total (branch_at names)) (always_returns_same _ _ _ (λ a r f k. search rules))))
    c.sort_by.ensures.sorted

pub returns-clause-stable : goal.returns-clause-stable
returns-clause-stable c =
    let names = names_in c.args.course.now.names.items c.args.course.now.known.items in
    c.sort_by.ensures.stable (comes_before names) (ranks_by nat_list_cmp_total (branch_at names)) (always_returns_same _ _ _ (λ a r f k. search rules))
