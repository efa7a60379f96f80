-- The order of lines.
use Rattle.std.proofs.Common.{◌≡◌, ℕ, ◌+◌, ◌<◌, ◌≤◌, Bool, true, false, cond, ◌&&◌, ◌||◌, List, length, refl, sym, ◌∙◌, ap, arith}
use Rattle.std.specs.Prelude.{◌==◌, nat_lt, slice_index_or}
use Rattle.std.specs.Cmp.{unsigned_ties}
use Rattle.std.specs.Cmp.Lexicographic.{slice_cmp}
use Rattle.std.specs.Ordering.{is_eq, is_lt, nat_cmp, ordering_then}
use Rattle.std.specs.declared.cmp.Ordering.{Ordering}
use Rattle.std.specs.declared.cmp.Ordering.TheVariants.{Less, Equal, Greater}
use Rattle.std.proofs.lemmas.Option.{slice_get-get_or}
use Rattle.hgs_bytes.specs.Bytes.{is_below, same}
use Rattle.hgs_follow.specs.Lines.{comes_before, StandInOrder}
use Rattle.hgs_follow.specs.contracts.line.LineOrd.TheImpl.{ghosts}
use Rattle.hgs_follow.specs.declared.line.Line.{Line}
use Rattle.hgs_follow.proofs.ListLemmas.{false_is, get_low, some_is}
use Rattle.hgs_follow.proofs.MapLemmas.{tied}

-- lines are compared by their changesets, the greater first, then by their paths, then by their numbers
shape : (a b : Line) → ghosts.cmp b a ≡ ordering_then (nat_cmp a.link.0 b.link.0) (ordering_then (slice_cmp nat_cmp b.path a.path) (ordering_then (nat_cmp b.rev a.rev) (slice_cmp nat_cmp b.node.0 a.node.0)))
shape a b = refl

ordered : (link path rev node : Ordering) → is_lt (ordering_then link (ordering_then path (ordering_then rev node))) ≡ false → (is_lt link || (is_eq link && (is_lt path || (is_eq path && is_lt rev)))) ≡ false
ordered Less path rev node h = false_is (sym h)
ordered Equal Less rev node h = false_is (sym h)
ordered Equal Equal Less node h = false_is (sym h)
ordered Equal Equal Equal node h = refl
ordered Equal Equal Greater node h = refl
ordered Equal Greater rev node h = refl
ordered Greater path rev node h = refl

less : (x y : ℕ) → nat_lt x y ≡ is_lt (nat_cmp x y)
less x y = by (nat_lt x y) (x == y)
  where
    by : (b e : Bool) → b ≡ is_lt (cond b Less (cond e Equal Greater))
    by true e = refl
    by false true = refl
    by false false = refl

step : (a b : Line) → is_lt (ghosts.cmp b a) ≡ false → comes_before b a ≡ false
step a b h =
    ap (λ x. x || (a.link.0 == b.link.0 && (is_below b.path a.path || (same b.path a.path && nat_lt b.rev a.rev)))) (less a.link.0 b.link.0)
    ∙ ap (λ x. is_lt (nat_cmp a.link.0 b.link.0) || (x && (is_below b.path a.path || (same b.path a.path && nat_lt b.rev a.rev)))) (unsigned_ties a.link.0 b.link.0)
    ∙ ap (λ x. is_lt (nat_cmp a.link.0 b.link.0) || (is_eq (nat_cmp a.link.0 b.link.0) && (is_below b.path a.path || (x && nat_lt b.rev a.rev)))) (tied b.path a.path)
    ∙ ap (λ x. is_lt (nat_cmp a.link.0 b.link.0) || (is_eq (nat_cmp a.link.0 b.link.0) && (is_below b.path a.path || (is_eq (slice_cmp nat_cmp b.path a.path) && x)))) (less b.rev a.rev)
    ∙ ordered (nat_cmp a.link.0 b.link.0) (slice_cmp nat_cmp b.path a.path) (nat_cmp b.rev a.rev) (slice_cmp nat_cmp b.node.0 a.node.0) (ap is_lt (sym (shape a b)) ∙ h)

pub in_order : (lines : List Line) → ((k : ℕ) (d : Line) → 0 ≤ k → k + 1 < length lines → is_lt (ghosts.cmp (slice_index_or lines (k + 1) d) (slice_index_or lines k d)) ≡ false) → StandInOrder lines
in_order lines sorted i a b at_a at_b =
    let low = get_low lines (i + 1) b at_b in
    let x : slice_index_or lines i a ≡ a = some_is (slice_index_or lines i a) a (sym (slice_get-get_or lines i a (omega (arith, low))) ∙ at_a) in
    let y : slice_index_or lines (i + 1) a ≡ b = some_is (slice_index_or lines (i + 1) a) b (sym (slice_get-get_or lines (i + 1) a low) ∙ at_b) in
    step a b (ap (λ z. is_lt (ghosts.cmp b z)) (sym x) ∙ ap (λ z. is_lt (ghosts.cmp z (slice_index_or lines i a))) (sym y) ∙ sorted i a (omega arith) low)
