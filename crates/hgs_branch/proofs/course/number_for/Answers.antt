use Rattle.std.proofs.Common.{◌≡◌, ◌∙◌, ◌++◌, ◌∷◌, [], List, ℕ, Some, false, ap, refl, subst, sym}
use Rattle.std.specs.BTreeMap.{get_by, is_at}
use Rattle.std.specs.Cmp.Lexicographic.{slice_cmp}
use Rattle.std.specs.Ordering.{nat_cmp}
use Rattle.std.specs.Prelude.{slice_get}
use Rattle.hgs_branch.proofs.KeptLemmas.{keeps_named, keeps_unnamed}
use Rattle.hgs_branch.proofs.ListLemmas.{get_last}
use Rattle.hgs_branch.proofs.course.number_for.Goals as goal

pub returns-in_err-copy-2-clause-kept : goal.returns-in_err-copy-2-clause-kept
returns-in_err-copy-2-clause-kept c =
    let u = c.in_ok-insert.ensures.updates in
    keeps_unnamed c.args.course.now _ c.args.change.now.branch c.len-number.result refl refl refl refl (λ all. record {
      fresh = c.in_default.ensures.none all;
      here = subst (λ k. get_by (slice_cmp nat_cmp k) c.insert.new.self ≡ Some c.len-number.result) c.in_ok-copy.ensures u.1;
      others = λ other e. u.2 other (subst (λ k. is_at (slice_cmp nat_cmp k) other ≡ false) (sym c.in_ok-copy.ensures) e);
    })

pub returns-in_err-push-clause-kept : goal.returns-in_err-push-clause-kept
returns-in_err-push-clause-kept c =
    let u = c.in_ok-insert.ensures.updates in
    keeps_unnamed c.args.course.now _ c.args.change.now.branch c.len-number.result refl c.in_err-push.ensures.items refl refl (λ all. record {
      fresh = c.in_default.ensures.none all;
      here = subst (λ k. get_by (slice_cmp nat_cmp k) c.insert.new.self ≡ Some c.len-number.result) c.in_ok-copy.ensures u.1;
      others = λ other e. u.2 other (subst (λ k. is_at (slice_cmp nat_cmp k) other ≡ false) (sym c.in_ok-copy.ensures) e);
    })

pub returns-clause-kept : goal.returns-clause-kept
returns-clause-kept c =
    let u = c.in_ok-insert.ensures.updates in
    keeps_named c.args.course.now _ c.args.change.now.branch c.len-number.result refl (c.in_ok-push.ensures.items ∙ ap (λ (x : List ℕ). c.args.course.now.names.items ++ x ∷ []) c.in_ok-copy-2.ensures) (c.len-number.ensures ∙ c.args.course.now.names.ok.0) refl refl (λ all. record {
      fresh = c.in_default.ensures.none all;
      here = subst (λ k. get_by (slice_cmp nat_cmp k) c.insert.new.self ≡ Some c.len-number.result) c.in_ok-copy.ensures u.1;
      others = λ other e. u.2 other (subst (λ k. is_at (slice_cmp nat_cmp k) other ≡ false) (sym c.in_ok-copy.ensures) e);
    })

pub returns-clause-has : goal.returns-clause-has
returns-clause-has c =
    ap (λ l. slice_get l c.len-number.result) (c.in_ok-push.ensures.items ∙ ap (λ (x : List ℕ). c.args.course.now.names.items ++ x ∷ []) c.in_ok-copy-2.ensures)
    ∙ get_last c.args.course.now.names.items c.args.change.now.branch c.len-number.result (c.len-number.ensures ∙ c.args.course.now.names.ok.0)
