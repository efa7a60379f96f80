use Rattle.std.proofs.Common.{◌≡◌, ℕ, List, Bool, ◌||◌, Some, sym, refl, ap, subst, ◌∙◌, rules}
use Rattle.std.specs.BTreeMap.{get_by, is_at}
use Rattle.std.specs.Cmp.Lexicographic.{slice_cmp}
use Rattle.std.specs.Ordering.{nat_cmp}
use Rattle.hgs_bytes.specs.Bytes.{same}
use Rattle.hgs_path.specs.Owners.{path_at, is_kept}
use Rattle.hgs_path.proofs.OwnersLemmas.{first-here, second-here, again-here, added}
use Rattle.hgs_path.proofs.owners.Owners.add.Goals as goal

pub returns-in_ok-insert-in-None : goal.returns-in_ok-insert-in-None
returns-in_ok-insert-in-None c owns h =
    let name = c.args.name in
    let path = c.args.path.now in
    let f = path_at c.args.self.now.first in
    let s = path_at c.args.self.now.second in
    let g = path_at c.insert.new.self in
    let updates = c.in_ok-insert-in-None.ensures.updates in
    let is : g name ≡ Some path = subst (λ k. get_by (slice_cmp nat_cmp k) c.insert.new.self ≡ Some path) c.name.view_is (updates.1 ∙ ap Some c.in_ok-from_slice-in-None.ensures) in
    let own = owns name in
    let more : List ℕ → Bool = λ q. own q || same q path in
    added owns name path f s g s h (λ n e. (updates.2 n (ap (λ k. is_at (slice_cmp nat_cmp k) n) c.name.view_is ∙ e), refl))
    (λ q. ap (λ x. is_kept more x (s name) q) is ∙ first-here own path (s name) (λ r. ap (λ x. is_kept own x (s name) r) c.in-None.ensures.value ∙ h name r) q)

pub returns-in_ok-insert-in-Some : goal.returns-in_ok-insert-in-Some
returns-in_ok-insert-in-Some c owns h =
    let name = c.args.name in
    let path = c.args.path.now in
    let f = path_at c.args.self.now.first in
    let s = path_at c.args.self.now.second in
    let t = path_at c.insert-then-not-equal.new.self in
    let updates = c.in_ok-insert-in-Some.ensures.updates in
    let is : t name ≡ Some path = subst (λ k. get_by (slice_cmp nat_cmp k) c.insert-then-not-equal.new.self ≡ Some path) c.name.view_is (updates.1 ∙ ap Some c.in_ok-from_slice-in-Some.ensures) in
    let old : f name ≡ Some c.as_slice.result.now = sym c.in-Some.ensures.value ∙ ap Some (sym c.as_slice.ensures) in
    let own = owns name in
    let more : List ℕ → Bool = λ q. own q || same q path in
    added owns name path f s f t h (λ n e. (refl, updates.2 n (ap (λ k. is_at (slice_cmp nat_cmp k) n) c.name.view_is ∙ e)))
    (λ q. ap (λ x. is_kept more x (t name) q) old ∙ ap (λ x. is_kept more (Some c.as_slice.result.now) x q) is
    ∙ second-here own path c.as_slice.result.now (s name) (λ r. ap (λ x. is_kept own x (s name) r) (sym old) ∙ h name r) (search rules) q)

pub returns-else-not-equal : goal.returns-else-not-equal
returns-else-not-equal c owns h =
    let name = c.args.name in
    let path = c.args.path.now in
    let f = path_at c.args.self.now.first in
    let s = path_at c.args.self.now.second in
    let old : f name ≡ Some c.as_slice.result.now = sym c.in-Some.ensures.value ∙ ap Some (sym c.as_slice.ensures) in
    let own = owns name in
    let more : List ℕ → Bool = λ q. own q || same q path in
    added owns name path f s f s h (λ n e. (refl, refl))
    (λ q. ap (λ x. is_kept more x (s name) q) old
    ∙ again-here own path c.as_slice.result.now (s name) (λ r. ap (λ x. is_kept own x (s name) r) (sym old) ∙ h name r) (search rules) q)
