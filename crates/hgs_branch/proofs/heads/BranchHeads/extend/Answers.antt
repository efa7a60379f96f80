use Rattle.std.proofs.Common.{◌∙◌, ◌≤◌, ◌*◌, List, length, ap, refl, sym, subst, arith}
use Rattle.hgs_branch.specs.Reached.{wide_at, IsLeftWithin, Reached}
use Rattle.hgs_branch.specs.Taken.{Taken}
use Rattle.hgs_branch.specs.declared.reach.Known.{Known}
use Rattle.hgs_branch.proofs.KeptLemmas.{adds_all_size, forgotten, left_new, long_parents, tracks_spread}
use Rattle.hgs_branch.proofs.heads.BranchHeads.extend.Goals as goal

pub invariant_of-self : goal.invariant_of-self
invariant_of-self c =
    let old = c.self.inside.course in
    let mid = c.add_and_mark.new.course in
    let t = c.in-Ok.ensures.ok.0.tracks c.self.invariant.0 in
    let left = left_new old mid c.len-count.result (c.len-count.ensures ∙ old.known.ok.0) c.in-Ok.ensures.kept c.self.invariant.0 t c.self.invariant.1 in
    let spread =
    c.spread.ensures.reached (subst (λ (k : List Known). length k ≤ 64 * length c.in-Ok.marks.items) (sym c.deref.ensures.value) c.in-Ok.ensures.ok.1)
    (subst (λ (k : List Known). Reached k mid.heads.items mid.reaches.items) (sym c.deref.ensures.value) t.reached)
    (subst (λ (k : List Known). IsLeftWithin mid.reaches.items c.len-count.result (length k)) (sym c.deref.ensures.value) left) in (
      tracks_spread mid _ refl refl refl (λ i. let w = t.wide i in let e = c.spread.ensures.wide i in omega (arith, w, e)) (subst (λ (k : List Known). Reached k c.spread.new.heads.items c.spread.new.reaches.items) c.deref.ensures.value spread.0) t,
      spread.1,
      let size = adds_all_size old mid c.args.changes.now c.in-Ok.ensures.ok.0 in
          let long = long_parents old.known.items in
          let view = ap (λ (t : Taken). length t.parents) c.self.view_is in
          let most = c.requires in omega (arith, size, long, view, most),
    )

pub invariant_of-self-in-Err : goal.invariant_of-self-in-Err
invariant_of-self-in-Err c =
    let old = c.self.inside.course in
    let back = forgotten old c.add_and_mark.new.course c.forget.new.course c.len-count.result c.len-branches.result (c.len-count.ensures ∙ old.known.ok.0) (c.len-branches.ensures ∙ old.names.ok.0) c.in-Err.ensures.kept
    c.forget.ensures.known c.forget.ensures.names c.forget.ensures.numbers c.forget.ensures.heads c.forget.ensures.reaches c.self.invariant.0 in
    (back.0, subst (λ r. IsLeftWithin r 0 0) (sym back.3) c.self.invariant.1, let same = ap length back.1 in let most = c.self.invariant.2 in omega (arith, same, most))
