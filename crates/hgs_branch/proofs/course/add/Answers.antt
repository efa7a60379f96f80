use Rattle.std.proofs.Common.{◌∙◌, ◌+◌, ◌/◌, length, ap, refl}
use Rattle.hgs_branch.proofs.KeptLemmas.{adds}
use Rattle.hgs_branch.proofs.course.add.Goals as goal

pub returns-clause-ok : goal.returns-clause-ok
returns-clause-ok c =
    adds c.args.course.now c.number_for.new.course _ c.in_ok-branch.branch c.args.change.now (record { p1 = c.args.change.now.p1; p2 = c.args.change.now.p2; branch = c.in_ok-branch.branch }) c.in_ok-own.field-0
    (record {
      same_known = c.in_ok-branch.ensures.same_known;
      same_heads = c.in_ok-branch.ensures.same_heads;
      same_reaches = c.in_ok-branch.ensures.same_reaches;
      kept = c.in_ok-branch.ensures.kept;
      has = c.in_ok-branch.ensures.has;
      known_is = c.in_ok-push.ensures.items;
      names_are = refl;
      numbers_are = refl;
      heads_are = c.in_ok-push-2.ensures.items;
      reaches_are = c.in_ok-push-3.ensures.items;
      k_is = refl;
      own = c.in_ok-own.ensures.own;
      wide = c.in_ok-own.ensures.wide ∙ ap (λ n. n / 64 + 1) (c.len.ensures ∙ c.number_for.new.course.names.ok.0);
      left = c.in_ok-own.ensures.left;
    })
