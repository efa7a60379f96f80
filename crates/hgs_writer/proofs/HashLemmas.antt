-- The node of a revision does not depend on the order of its parents; and where no item of a list passes a test, none is found.
use Rattle.std.proofs.Common.{◌≡◌, ◌⊎◌, ℕ, ◌<◌, ◌≤◌, List, ◌++◌, Bool, true, false, ◌==◌, cond, ◌&&◌, ◌||◌, length, get_or, sym, ◌∙◌, ap, inl, inr, arith, refl}
use Rattle.std.specs.Prelude.{Option, Some, None, slice_index_or, nat_lt, position}
use Rattle.std.specs.List.{position_or_len}
use Rattle.std.specs.Cmp.Lexicographic.{slice_cmp, nat_list_cmp_total, lists_ties}
use Rattle.std.specs.Ordering.{nat_cmp, is_eq, is_gt, ordering_reverse}
use Rattle.std.specs.declared.cmp.Ordering.{Ordering}
use Rattle.std.specs.declared.cmp.Ordering.TheVariants.{Less, Equal, Greater}
use Rattle.std.specs.Cmp.{unsigned_ties}
use Rattle.std.proofs.lemmas.Bool.Decides.{nat_tests}
use Rattle.std.proofs.lemmas.List.Sums.{fails_before_first}
use Rattle.sha1.specs.Sha1.{sha1}
use Rattle.hgs_bytes.specs.Theorems.ByteLemmas.{same-eq}
use Rattle.hgs_index.specs.Node.{null_node, node_hash}
use Rattle.hgs_index.specs.Revision.{Parents, parent_node, same_parent, same_parents}
use Rattle.hgs_model.specs.Theorems.ListLemmas.{and-left, and-right, bool, never, none-some}

eq-test : (a b : ℕ) → (a == b) ≡ true → a ≡ b
eq-test a b e = grind (arith, nat_tests, e)

hash-swap : (a b text : List ℕ) → node_hash a b text ≡ node_hash b a text
hash-swap a b text = by (slice_cmp nat_cmp a b) refl
  where
    back : (o : Ordering) → slice_cmp nat_cmp a b ≡ o → slice_cmp nat_cmp b a ≡ ordering_reverse o
    back o e = nat_list_cmp_total.antisymm b a ∙ ap ordering_reverse e

    by : (o : Ordering) → slice_cmp nat_cmp a b ≡ o → node_hash a b text ≡ node_hash b a text
    by Less e = ap (λ z. sha1 (cond z b a ++ cond z a b ++ text)) (ap is_gt e) ∙ sym (ap (λ z. sha1 (cond z a b ++ cond z b a ++ text)) (ap is_gt (back Less e)))
    by Equal e = let s : a ≡ b = same-eq a b (lists_ties nat_cmp unsigned_ties a b ∙ ap is_eq e) in ap (λ x. node_hash x b text) s ∙ ap (λ x. node_hash b x text) (sym s)
    by Greater e = ap (λ z. sha1 (cond z b a ++ cond z a b ++ text)) (ap is_gt e) ∙ sym (ap (λ z. sha1 (cond z a b ++ cond z b a ++ text)) (ap is_gt (back Greater e)))

same-parent-node : (known : List (List ℕ)) (a b : Option ℕ) → same_parent a b ≡ true → parent_node known a ≡ parent_node known b
same-parent-node known None None e = refl
same-parent-node known None (Some b) e = never (sym e)
same-parent-node known (Some a) None e = never (sym e)
same-parent-node known (Some a) (Some b) e = ap (λ n. slice_index_or known n null_node) (eq-test a b e)

pub hash-same : (known : List (List ℕ)) (p q : Parents) (text : List ℕ) → same_parents p q ≡ true → node_hash (parent_node known p.0) (parent_node known p.1) text ≡ node_hash (parent_node known q.0) (parent_node known q.1) text
hash-same known p q text e = by (bool (same_parent p.0 q.0 && same_parent p.1 q.1))
  where
    by : ((same_parent p.0 q.0 && same_parent p.1 q.1) ≡ true) ⊎ ((same_parent p.0 q.0 && same_parent p.1 q.1) ≡ false) → node_hash (parent_node known p.0) (parent_node known p.1) text ≡ node_hash (parent_node known q.0) (parent_node known q.1) text
    by (inl t) =
        ap (λ n. node_hash n (parent_node known p.1) text) (same-parent-node known p.0 q.0 (and-left (same_parent p.0 q.0) (same_parent p.1 q.1) t))
        ∙ ap (λ n. node_hash (parent_node known q.0) n text) (same-parent-node known p.1 q.1 (and-right (same_parent p.0 q.0) (same_parent p.1 q.1) t))
    by (inr t) =
        let u : (same_parent p.0 q.1 && same_parent p.1 q.0) ≡ true = ap (λ b. b || (same_parent p.0 q.1 && same_parent p.1 q.0)) (sym t) ∙ e in
        ap (λ n. node_hash n (parent_node known p.1) text) (same-parent-node known p.0 q.1 (and-left (same_parent p.0 q.1) (same_parent p.1 q.0) u))
        ∙ ap (λ n. node_hash (parent_node known q.1) n text) (same-parent-node known p.1 q.0 (and-right (same_parent p.0 q.1) (same_parent p.1 q.0) u))
        ∙ hash-swap (parent_node known q.1) (parent_node known q.0) text

pub position-none : {A : Type 0} (f : A → Bool) (xs : List A) (k : ℕ) (d : A) → position f xs ≡ None → k < length xs → f (get_or xs k d) ≡ false
position-none f xs k d e lt = by (bool (nat_lt (position_or_len f xs) (length xs)))
  where
    by : (nat_lt (position_or_len f xs) (length xs) ≡ true) ⊎ (nat_lt (position_or_len f xs) (length xs) ≡ false) → f (get_or xs k d) ≡ false
    by (inl t) = none-some (position_or_len f xs) (sym e ∙ ap (λ b. cond b (Some (position_or_len f xs)) None) t)
    by (inr t) = fails_before_first f xs k d (let l : length xs ≤ position_or_len f xs = grind (arith, nat_tests) in omega (arith, l, lt))
