-- Nodes that differ, and their places.
use Rattle.std.proofs.Common.{◌≡◌, ℕ, zero, suc, ◌+◌, ◌<◌, List, [], ◌∷◌, Bool, true, false, cond, ◌&&◌, ◌||◌, not, nat_lt, length, Some, None, refl, sym, ◌∙◌, ap, arith}
use Rattle.std.specs.Prelude.{position, slice_index_or}
use Rattle.std.specs.Cmp.Lexicographic.{bytes_decides}
use Rattle.std.specs.List.{position_or_len}
use Rattle.std.proofs.lemmas.Bool.Decides.{nat_tests}
use Rattle.hgs_bytes.specs.Bytes.{same, among}
use Rattle.hgs_index.specs.Node.{null_node}
use Rattle.hgs_index.specs.Revlog.{all_different}

never : {A : Type 0} → true ≡ false → A
never e = absurd (no_case e)
  where
    no_case : true ≡ false → ⊥
    no_case h = cc

and-left : (a b : Bool) → (a && b) ≡ true → a ≡ true
and-left true b e = refl
and-left false b e = e

and-right : (a b : Bool) → (a && b) ≡ true → b ≡ true
and-right true b e = e
and-right false b e = never (sym e)

same-refl : (x : List ℕ) → same x x ≡ true
same-refl x = (bytes_decides x x).1 refl

same-eq : (x y : List ℕ) → same x y ≡ true → x ≡ y
same-eq x y e = (bytes_decides x y).0 e

not-true : (b : Bool) → not b ≡ true → b ≡ false
not-true true e = sym e
not-true false e = refl

-- a node of a list stands in it
pub among-at : (nodes : List (List ℕ)) (rev : ℕ) (d : List ℕ) → rev < length nodes → among (slice_index_or nodes rev d) nodes ≡ true
among-at [] rev d lt = absurd (omega (arith, lt))
among-at (x ∷ nodes) zero d lt = ap (λ b. b || among x nodes) (same-refl x)
among-at (x ∷ nodes) (suc rev) d lt = by (same (slice_index_or nodes rev d) x) (among-at nodes rev d (omega (arith, lt)))
  where
    by : (b : Bool) → among (slice_index_or nodes rev d) nodes ≡ true → (b || among (slice_index_or nodes rev d) nodes) ≡ true
    by true e = refl
    by false e = e

-- where all differ, two places with one node are one
pub place-same : (nodes : List (List ℕ)) (i j : ℕ) → all_different nodes ≡ true → i < length nodes → j < length nodes → slice_index_or nodes i null_node ≡ slice_index_or nodes j null_node → i ≡ j
place-same [] i j d a b e = absurd (omega (arith, a))
place-same (x ∷ nodes) zero zero d a b e = refl
place-same (x ∷ nodes) zero (suc j) d a b e = never (sym (ap (λ z. among z nodes) e ∙ among-at nodes j null_node (omega (arith, b))) ∙ not-true (among x nodes) (and-left _ _ d))
place-same (x ∷ nodes) (suc i) zero d a b e = never (sym (ap (λ z. among z nodes) (sym e) ∙ among-at nodes i null_node (omega (arith, a))) ∙ not-true (among x nodes) (and-left _ _ d))
place-same (x ∷ nodes) (suc i) (suc j) d a b e = ap suc (place-same nodes i j (and-right (not (among x nodes)) _ d) (omega (arith, a)) (omega (arith, b)) e)

-- ---- the first place of a node

first-place : (known : List (List ℕ)) (rev : ℕ) (d : List ℕ) → all_different known ≡ true → rev < length known → position_or_len (λ n. same n (slice_index_or known rev d)) known ≡ rev
first-place [] rev d different lt = absurd (omega (arith, lt))
first-place (x ∷ known) zero d different lt = ap (λ b. cond (not b) (1 + position_or_len (λ n. same n x) known) 0) (same-refl x)
first-place (x ∷ known) (suc rev) d different lt = by (same x (slice_index_or known rev d)) refl (first-place known rev d (and-right (not (among x known)) (all_different known) different) (omega (arith, lt)))
  where
    here : List ℕ
    here = slice_index_or known rev d

    by : (b : Bool) → same x (slice_index_or known rev d) ≡ b → position_or_len (λ n. same n (slice_index_or known rev d)) known ≡ rev
        → cond (not b) (1 + position_or_len (λ n. same n (slice_index_or known rev d)) known) 0 ≡ suc rev
    by true e more = never (sym (ap (λ z. among z known) (same-eq x (slice_index_or known rev d) e) ∙ among-at known rev d (omega (arith, lt))) ∙ not-true (among x known) (and-left (not (among x known)) (all_different known) different))
    by false e more = omega (arith, more)

pub position-there : (known : List (List ℕ)) (rev : ℕ) (d : List ℕ) → all_different known ≡ true → rev < length known → position (λ n. same n (slice_index_or known rev d)) known ≡ Some rev
position-there known rev d different lt = by (position_or_len (λ n. same n (slice_index_or known rev d)) known) (first-place known rev d different lt)
  where
    by : (n : ℕ) → n ≡ rev → cond (nat_lt n (length known)) (Some n) None ≡ Some rev
    by n e = ap (λ b. cond b (Some n) None) (below n e) ∙ ap Some e
      where
        below : (n : ℕ) → n ≡ rev → nat_lt n (length known) ≡ true
        below n e = grind (arith, nat_tests, e, lt)

-- no node of these is the null node
pub not-null : (known : List (List ℕ)) (rev : ℕ) (d : List ℕ) → among null_node known ≡ false → rev < length known → same (slice_index_or known rev d) null_node ≡ false
not-null known rev d none lt = by (same (slice_index_or known rev d) null_node) refl
  where
    by : (b : Bool) → same (slice_index_or known rev d) null_node ≡ b → same (slice_index_or known rev d) null_node ≡ false
    by true e = never (sym (ap (λ z. among z known) (sym (same-eq (slice_index_or known rev d) null_node e)) ∙ among-at known rev d lt) ∙ none)
    by false e = e
