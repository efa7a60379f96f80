-- A revision in a list whose nodes all differ stands there once: by its text and its parents it is found at its number.
use Rattle.std.proofs.Common.{◌≡◌, ◌⊎◌, ℕ, zero, suc, ◌+◌, ◌<◌, ◌≤◌, List, [], ◌∷◌, ◌++◌, Bool, true, false, cond, ◌&&◌, ◌||◌, length, take, get_or, refl, sym, ◌∙◌, ap, subst, inl, inr, arith, append_assoc}
use Rattle.std.specs.Prelude.{Option, Some, None, IfSome, slice_get, slice_index_or, nat_lt, position}
use Rattle.std.specs.List.{position_or_len}
use Rattle.std.specs.Cmp.Lexicographic.{slice_cmp, nat_list_cmp_total, lists_ties}
use Rattle.std.specs.Ordering.{nat_cmp, is_eq, is_gt, ordering_reverse}
use Rattle.std.specs.declared.cmp.Ordering.{Ordering}
use Rattle.std.specs.declared.cmp.Ordering.TheVariants.{Less, Equal, Greater}
use Rattle.std.specs.Cmp.{unsigned_ties}
use Rattle.std.proofs.lemmas.Bool.Decides.{nat_tests}
use Rattle.std.proofs.lemmas.List.{length-take-le, get_or-take, get_or_append_left, take_more}
use Rattle.std.proofs.lemmas.List.Quantifiers.{position-Some}
use Rattle.std.proofs.lemmas.List.Sums.{fails_before_first}
use Rattle.std.proofs.lemmas.Option.{slice_get-get_or, slice_get_within, get_or_from_slice_get}
use Rattle.sha1.specs.Sha1.{sha1}
use Rattle.hgs_bytes.specs.Bytes.{same}
use Rattle.hgs_index.specs.Node.{null_node, node_hash}
use Rattle.hgs_index.specs.Revision.{Parents, Revision, ParentsBefore, parent_node, node_after, nodes, same_parent, same_parents, is_as, standing}
use Rattle.hgs_index.specs.Revlog.{all_different}
use Rattle.hgs_index.specs.Theorems.RevisionLemmas.{nodes_from-append, nodes_from-prefix}
use Rattle.hgs_model.specs.History.{node_at, parents_in}
use Rattle.hgs_stands.specs.Theorems.ListedLemmas.{rev-same, length-nodes}
use Rattle.hgs_findings.proofs.Basics.{same-eq, same-refl, bool, never, some-same, none-some, and-left, and-right}
use Rattle.hgs_findings.proofs.NamingLemmas.{eq-test}

-- ---- the node of a revision

hash-swap : (a b text : List ℕ) → node_hash a b text ≡ node_hash b a text
hash-swap a b text = by (slice_cmp nat_cmp a b) refl
  where
    back : (o : Ordering) → slice_cmp nat_cmp a b ≡ o → slice_cmp nat_cmp b a ≡ ordering_reverse o
    back o e = nat_list_cmp_total.antisymm b a ∙ ap ordering_reverse e

    by : (o : Ordering) → slice_cmp nat_cmp a b ≡ o → node_hash a b text ≡ node_hash b a text
    by Less e = ap (λ z. sha1 (cond z b a ++ cond z a b ++ text)) (ap is_gt e) ∙ sym (ap (λ z. sha1 (cond z a b ++ cond z b a ++ text)) (ap is_gt (back Less e)))
    by Equal e = let s : a ≡ b = same-eq a b (lists_ties nat_cmp unsigned_ties a b ∙ ap is_eq e) in ap (λ x. node_hash x b text) s ∙ ap (λ x. node_hash b x text) (sym s)
    by Greater e = ap (λ z. sha1 (cond z b a ++ cond z a b ++ text)) (ap is_gt e) ∙ sym (ap (λ z. sha1 (cond z a b ++ cond z b a ++ text)) (ap is_gt (back Greater e)))

-- ---- where a revision stands

-- the list before a revision and behind it
record Split (log : List Revision) (rev : ℕ) (r : Revision) : Type 0 where
  front : List Revision
  back : List Revision
  is : log ≡ front ++ r ∷ back
  count : length front ≡ rev

split : (log : List Revision) (rev : ℕ) (r : Revision) → slice_get log rev ≡ Some r → Split log rev r
split [] rev r e = none-some r e
split (x ∷ log) zero r e = record { front = []; back = log; is = ap (λ y. y ∷ log) (some-same x x r e); count = refl }
split (x ∷ log) (suc rev) r e = let s = split log rev r e in record { front = x ∷ s.front; back = s.back; is = ap (λ l. x ∷ l) s.is; count = ap suc s.count }

pub record AreBefore (rev : ℕ) (r : Revision) : Type 0 where
  pub first : IfSome r.parents.0 (λ p. p < rev)
  pub second : IfSome r.parents.1 (λ p. p < rev)

before-at : (n : ℕ) (log : List Revision) (rev : ℕ) (r : Revision) → ParentsBefore n (parents_in log) → slice_get log rev ≡ Some r → (IfSome r.parents.0 (λ p. p < n + rev)) × (IfSome r.parents.1 (λ p. p < n + rev))
before-at n [] rev r b e = none-some r e
before-at n (x ∷ log) zero r b e =
    let s = some-same x x r e in
    (subst (λ (y : Revision). IfSome y.parents.0 (λ p. p < n + 0)) s (wide x.parents.0 b.0), subst (λ (y : Revision). IfSome y.parents.1 (λ p. p < n + 0)) s (wide x.parents.1 b.1))
  where
    wide : (o : Option ℕ) → IfSome o (λ p. p < n) → IfSome o (λ p. p < n + 0)
    wide None h = tt
    wide (Some p) h = omega (arith, h)
before-at n (x ∷ log) (suc rev) r b e = let h = before-at (suc n) log rev r b.2 e in (wide r.parents.0 h.0, wide r.parents.1 h.1)
  where
    wide : (o : Option ℕ) → IfSome o (λ p. p < suc n + rev) → IfSome o (λ p. p < n + suc rev)
    wide None h = tt
    wide (Some p) h = omega (arith, h)

pub are-before : (log : List Revision) (rev : ℕ) (r : Revision) → ParentsBefore 0 (parents_in log) → slice_get log rev ≡ Some r → AreBefore rev r
are-before log rev r b e = let h = before-at 0 log rev r b e in record { first = wide r.parents.0 h.0; second = wide r.parents.1 h.1 }
  where
    wide : (o : Option ℕ) → IfSome o (λ p. p < 0 + rev) → IfSome o (λ p. p < rev)
    wide None h = tt
    wide (Some p) h = omega (arith, h)

parent-front : (known more : List (List ℕ)) (o : Option ℕ) → IfSome o (λ p. p < length known) → parent_node (known ++ more) o ≡ parent_node known o
parent-front known more None h = refl
parent-front known more (Some p) h = get_or_append_left known more null_node p h

-- the node of a revision is that of its text and its parents' nodes
node-is : (log : List Revision) (rev : ℕ) (r : Revision) → AreBefore rev r → slice_get log rev ≡ Some r → node_at log rev ≡ node_after (nodes log) r
node-is log rev r b e =
    let s = split log rev r e in
    let p = nodes_from-prefix (nodes s.front ++ node_after (nodes s.front) r ∷ []) s.back in
    let all : nodes log ≡ nodes s.front ++ node_after (nodes s.front) r ∷ p.0 = ap nodes s.is ∙ nodes_from-append [] s.front (r ∷ s.back) ∙ p.1 ∙ append_assoc (nodes s.front) (node_after (nodes s.front) r ∷ []) p.0 in
    let count : length (nodes s.front) ≡ rev = length-nodes s.front ∙ s.count in
    let here : node_at log rev ≡ node_after (nodes s.front) r = ap (λ l. slice_index_or l rev null_node) all ∙ ap (λ n. slice_index_or (nodes s.front ++ node_after (nodes s.front) r ∷ p.0) n null_node) (sym count) ∙ at_seam (nodes s.front) (node_after (nodes s.front) r) p.0 in
    let one : parent_node (nodes log) r.parents.0 ≡ parent_node (nodes s.front) r.parents.0 = ap (λ l. parent_node l r.parents.0) all ∙ parent-front (nodes s.front) (node_after (nodes s.front) r ∷ p.0) r.parents.0 (subst (λ n. IfSome r.parents.0 (λ q. q < n)) (sym count) b.first) in
    let two : parent_node (nodes log) r.parents.1 ≡ parent_node (nodes s.front) r.parents.1 = ap (λ l. parent_node l r.parents.1) all ∙ parent-front (nodes s.front) (node_after (nodes s.front) r ∷ p.0) r.parents.1 (subst (λ n. IfSome r.parents.1 (λ q. q < n)) (sym count) b.second) in
    here ∙ ap (λ n. node_hash n (parent_node (nodes s.front) r.parents.1) r.text) (sym one) ∙ ap (λ n. node_hash (parent_node (nodes log) r.parents.0) n r.text) (sym two)
  where
    at_seam : (xs : List (List ℕ)) (x : List ℕ) (ys : List (List ℕ)) → slice_index_or (xs ++ x ∷ ys) (length xs) null_node ≡ x
    at_seam [] x ys = refl
    at_seam (y ∷ xs) x ys = at_seam xs x ys

same-parent-node : (known : List (List ℕ)) (a b : Option ℕ) → same_parent a b ≡ true → parent_node known a ≡ parent_node known b
same-parent-node known None None e = refl
same-parent-node known None (Some b) e = never (sym e)
same-parent-node known (Some a) None e = never (sym e)
same-parent-node known (Some a) (Some b) e = ap (λ n. slice_index_or known n null_node) (eq-test a b e)

hash-same : (known : List (List ℕ)) (p q : Parents) (text : List ℕ) → same_parents p q ≡ true → node_hash (parent_node known p.0) (parent_node known p.1) text ≡ node_hash (parent_node known q.0) (parent_node known q.1) text
hash-same known p q text e = by (bool (same_parent p.0 q.0 && same_parent p.1 q.1))
  where
    by : ((same_parent p.0 q.0 && same_parent p.1 q.1) ≡ true) ⊎ ((same_parent p.0 q.0 && same_parent p.1 q.1) ≡ false) → node_hash (parent_node known p.0) (parent_node known p.1) text ≡ node_hash (parent_node known q.0) (parent_node known q.1) text
    by (inl t) =
        ap (λ n. node_hash n (parent_node known p.1) text) (same-parent-node known p.0 q.0 (and-left (same_parent p.0 q.0) (same_parent p.1 q.1) t))
        ∙ ap (λ n. node_hash (parent_node known q.0) n text) (same-parent-node known p.1 q.1 (and-right (same_parent p.0 q.0) (same_parent p.1 q.1) t))
    by (inr t) =
        let u : (same_parent p.0 q.1 && same_parent p.1 q.0) ≡ true = ap (λ b. b || (same_parent p.0 q.1 && same_parent p.1 q.0)) (sym t) ∙ e in
        ap (λ n. node_hash n (parent_node known p.1) text) (same-parent-node known p.0 q.1 (and-left (same_parent p.0 q.1) (same_parent p.1 q.0) u))
        ∙ ap (λ n. node_hash (parent_node known q.1) n text) (same-parent-node known p.1 q.0 (and-right (same_parent p.0 q.1) (same_parent p.1 q.0) u))
        ∙ hash-swap (parent_node known q.1) (parent_node known q.0) text

-- a list of revisions that bytes hold: no node twice, parents before
pub record IsLog (log : List Revision) : Type 0 where
  pub different : all_different (nodes log) ≡ true
  pub before : ParentsBefore 0 (parents_in log)

-- two revisions with one text and the same parents are one
same-place : (log : List Revision) → IsLog log → (v w : ℕ) (r s : Revision) → slice_get log v ≡ Some r → slice_get log w ≡ Some s → s.text ≡ r.text → same_parents r.parents s.parents ≡ true → w ≡ v
same-place log is v w r s a b text parents =
    rev-same log w v is.different (slice_get_within log w s b) (slice_get_within log v r a)
    (node-is log w s (are-before log w s is.before b) b ∙ ap (node_hash (parent_node (nodes log) s.parents.0) (parent_node (nodes log) s.parents.1)) text
    ∙ sym (hash-same (nodes log) r.parents s.parents r.text parents) ∙ sym (node-is log v r (are-before log v r is.before a) a))

pub position-none : {A : Type 0} (f : A → Bool) (xs : List A) (k : ℕ) (d : A) → position f xs ≡ None → k < length xs → f (get_or xs k d) ≡ false
position-none f xs k d e lt = by (bool (nat_lt (position_or_len f xs) (length xs)))
  where
    by : (nat_lt (position_or_len f xs) (length xs) ≡ true) ⊎ (nat_lt (position_or_len f xs) (length xs) ≡ false) → f (get_or xs k d) ≡ false
    by (inl t) = none-some (position_or_len f xs) (sym e ∙ ap (λ b. cond b (Some (position_or_len f xs)) None) t)
    by (inr t) = fails_before_first f xs k d (let l : length xs ≤ position_or_len f xs = grind (arith, nat_tests) in omega (arith, l, lt))

-- what stands at a place among the first n
take-there : (log : List Revision) (n w : ℕ) (d : Revision) → w < length (take n log) → n ≤ length log → slice_get log w ≡ Some (get_or (take n log) w d)
take-there log n w d lt le =
    let len = length-take-le n log le in
    slice_get-get_or log w d (omega (arith, lt, len, le)) ∙ ap Some (sym (get_or-take n log w d (omega (arith, lt, len))))

-- a revision that stands is found among those before any greater number
pub again : (log : List Revision) → IsLog log → (n v : ℕ) (r : Revision) (p : Parents) → v < n → n ≤ length log → slice_get log v ≡ Some r → same_parents p r.parents ≡ true → standing (take n log) r.text p ≡ Some v
again log is n v r p lt le at same_ones = by (standing (take n log) r.text p) refl
  where
    here : is_as r.text p (get_or (take n log) v r) ≡ true
    here = ap (λ x. is_as r.text p x) (get_or-take n log v r lt ∙ get_or_from_slice_get log v r r at) ∙ ap (λ b. b && same_parents p r.parents) (same-refl r.text) ∙ same_ones

    found : (w : ℕ) → standing (take n log) r.text p ≡ Some w → w ≡ v
    found w e =
        let q = position-Some (is_as r.text p) (take n log) w r e in
        let s : Revision = get_or (take n log) w r in
        let text : r.text ≡ s.text = same-eq r.text s.text (and-left (same r.text s.text) (same_parents p s.parents) q.1) in
        same-places w s (take-there log n w r q.0 le) (sym text) (and-right (same r.text s.text) (same_parents p s.parents) q.1)
      where
        same-places : (w : ℕ) (s : Revision) → slice_get log w ≡ Some s → s.text ≡ r.text → same_parents p s.parents ≡ true → w ≡ v
        same-places w s b text parents =
            rev-same log w v is.different (slice_get_within log w s b) (slice_get_within log v r at)
            (node-is log w s (are-before log w s is.before b) b ∙ ap (node_hash (parent_node (nodes log) s.parents.0) (parent_node (nodes log) s.parents.1)) text
            ∙ sym (hash-same (nodes log) p s.parents r.text parents) ∙ hash-same (nodes log) p r.parents r.text same_ones ∙ sym (node-is log v r (are-before log v r is.before at) at))

    by : (o : Option ℕ) → standing (take n log) r.text p ≡ o → standing (take n log) r.text p ≡ Some v
    by None e = never (sym here ∙ position-none (is_as r.text p) (take n log) v r e (let len = length-take-le n log le in omega (arith, len, lt)))
    by (Some w) e = e ∙ ap Some (found w e)

-- a revision is not found among those before it
pub fresh : (log : List Revision) → IsLog log → (n : ℕ) (r : Revision) → slice_get log n ≡ Some r → standing (take n log) r.text r.parents ≡ None
fresh log is n r at = by (standing (take n log) r.text r.parents) refl
  where
    inside : n < length log
    inside = slice_get_within log n r at

    by : (o : Option ℕ) → standing (take n log) r.text r.parents ≡ o → standing (take n log) r.text r.parents ≡ None
    by None e = e
    by (Some w) e =
        let q = position-Some (is_as r.text r.parents) (take n log) w r e in
        let s : Revision = get_or (take n log) w r in
        let len = length-take-le n log (omega (arith, inside)) in
        let text : r.text ≡ s.text = same-eq r.text s.text (and-left (same r.text s.text) (same_parents r.parents s.parents) q.1) in
        let one = same-place log is n w r s at (take-there log n w r q.0 (omega (arith, inside))) (sym text) (and-right (same r.text s.text) (same_parents r.parents s.parents) q.1) in
        absurd (omega (arith, q.0, len, one))

-- the first n and the next
pub one-more : (log : List Revision) (n : ℕ) (r : Revision) → slice_get log n ≡ Some r → take n log ++ r ∷ [] ≡ take (suc n) log
one-more log n r at =
    let count : n + 1 ≡ suc n = omega arith in
    ap (λ x. take n log ++ x ∷ []) (sym (get_or_from_slice_get log n r r at)) ∙ sym (take_more log n r (slice_get_within log n r at)) ∙ ap (λ k. take k log) count
