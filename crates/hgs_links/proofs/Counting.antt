-- Entries counted by their links.
use Rattle.std.proofs.Common.{◌≡◌, ℕ, zero, suc, ◌+◌, ◌*◌, ◌<◌, ◌≤◌, List, Bool, true, false, cond, ◌&&◌, length, take, drop, refl, sym, ◌∙◌, ap, arith}
use Rattle.std.specs.Prelude.{nat_le, nat_lt}
use Rattle.std.specs.Int.{w32, from_be_bytes}
use Rattle.std.proofs.lemmas.List.{drop-drop, drop-take, length-drop, take-take}
use Rattle.hgs_index.specs.Entry.{number_at}
use Rattle.hgs_links.specs.Fronts.{IsCutByLinks, IsOfMoments, entry_in, link_in, linked_front}

link-next : (index : List ℕ) (rev : ℕ) → link_in (drop 64 index) rev ≡ link_in index (suc rev)
link-next index rev =
    let n : 64 + 64 * rev ≡ 64 * suc rev = omega arith in
    ap (number_at 20) (drop-drop (64 * rev) 64 index) ∙ ap (λ k. number_at 20 (drop k index)) n

rest-cut : (index : List ℕ) (changesets first : ℕ) → IsCutByLinks index changesets (suc first) → IsCutByLinks (drop 64 index) changesets first
rest-cut index changesets first c = record {
  there = (let t = c.there in omega (arith, t, length-drop 64 index));
  front = λ rev le lt. (let k = c.front (suc rev) (omega (arith, le, length-drop 64 index)) (omega (arith, lt)) in omega (arith, k, link-next index rev));
  later = λ rev le ge. (let k = c.later (suc rev) (omega (arith, le, length-drop 64 index)) (omega (arith, ge)) in omega (arith, k, link-next index rev));
}

is-least : (n len : ℕ) → n ≤ len → nat_le n len ≡ true
is-least n len h = grind (arith, h)

at-least : (n len : ℕ) → nat_le n len ≡ true → n ≤ len
at-least n len h = grind (arith, h)

is-below : (a b : ℕ) → a < b → nat_lt a b ≡ true
is-below a b h = grind (arith, h)

not-below : (a b : ℕ) → b ≤ a → nat_lt a b ≡ false
not-below a b h = grind (arith, h)

count-from : (most : ℕ) (index : List ℕ) (changesets first : ℕ) → IsCutByLinks index changesets first → first ≤ most → linked_front most changesets index ≡ first
count-from zero index changesets first c le = omega (arith, le)
count-from (suc most) index changesets zero c le = by (nat_le 64 (length index)) refl
  where
    next : ℕ
    next = suc (linked_front most changesets (drop 64 index))

    by : (b : Bool) → nat_le 64 (length index) ≡ b → cond (b && nat_lt (number_at 20 index) changesets) next 0 ≡ 0
    by true e = ap (λ z. cond z next 0) (not-below (number_at 20 index) changesets (c.later 0 (let k = at-least 64 (length index) e in omega (arith, k)) (omega arith)))
    by false e = refl
count-from (suc most) index changesets (suc first) c le =
    let there = c.there in
    let long : 64 ≤ length index = omega (arith, there) in
    (λ i. cond (is-least 64 (length index) long i && is-below (number_at 20 index) changesets (c.front 0 (omega (arith, long)) (omega arith)) i) (suc (linked_front most changesets (drop 64 index))) 0)
    ∙ ap suc (count-from most (drop 64 index) changesets first (rest-cut index changesets first c) (omega (arith, le)))

pub counted : (index : List ℕ) (changesets first : ℕ) → IsCutByLinks index changesets first → linked_front (length index) changesets index ≡ first
counted index changesets first c = count-from (length index) index changesets first c (let there = c.there in omega (arith, there))

-- ---- at several moments

link-of-entry : (index : List ℕ) (rev : ℕ) → number_at 20 (entry_in index rev) ≡ link_in index rev
link-of-entry index rev = ap (λ l. from_be_bytes w32 (take 4 l)) (drop-take 20 44 (drop (64 * rev) index)) ∙ ap (from_be_bytes w32) (take-take 4 44 (drop 20 (drop (64 * rev) index)) (omega arith))

pub of-moments : (bytes : List ℕ) (changesets first : ℕ) → IsOfMoments bytes changesets first → IsCutByLinks bytes changesets first
of-moments bytes changesets first m = record {
  there = m.there;
  front = λ rev le lt. (let e = m.each rev le in let k = (e.1).front rev e.2 lt in let same = sym (link-of-entry bytes rev) ∙ ap (number_at 20) e.3 ∙ link-of-entry e.0 rev in omega (arith, k, same));
  later = λ rev le ge. (let e = m.each rev le in let k = (e.1).later rev e.2 ge in let same = sym (link-of-entry bytes rev) ∙ ap (number_at 20) e.3 ∙ link-of-entry e.0 rev in omega (arith, k, same));
}
