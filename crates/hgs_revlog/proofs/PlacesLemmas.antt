-- The revisions of nodes: by chains, and in a tree.
use Rattle.std.proofs.Common.{◌≡◌, ℕ, ◌≤◌, Bool, true, false, cond, List, [], ◌∷◌, ◌++◌, length, take, Option, Some, None, refl, sym, ◌∙◌, ap, subst, arith}
use Rattle.std.specs.BTreeMap.{get, is_at}
use Rattle.std.specs.Cmp.Lexicographic.{slice_cmp}
use Rattle.std.specs.Option.{option_or}
use Rattle.std.specs.Ordering.{nat_cmp}
use Rattle.std.proofs.lemmas.List.{length-take, take-append-le, take_all}
use Rattle.std.proofs.lemmas.Map.Text.{is_eq-slice_cmp}
use Rattle.hgs_index.specs.declared.entry.Entry.{Entry}
use Rattle.hgs_revlog.specs.declared.chains.Chains.{Chains}
use Rattle.hgs_revlog.specs.declared.places.Places.{Places}
use Rattle.hgs_revlog.specs.Chains.{AreChains}
use Rattle.hgs_revlog.specs.Log.{place_of}
use Rattle.hgs_revlog.specs.Places.{chained, place_in}
use Rattle.hgs_revlog.specs.Theorems.LogLemmas.{equal_from_same}

no_first : (o p : Option ℕ) → option_or o p ≡ None → o ≡ None
no_first None p h = refl
no_first (Some x) p h = h

-- one more in the tree
pub put_one : (node : List ℕ) (rev : ℕ) (chained : List Entry) (old new : List ℕ → Option ℕ) → ((q : List ℕ) → new q ≡ cond (is_at (slice_cmp nat_cmp node) q) (Some rev) (old q))
    → option_or (place_of chained node) (old node) ≡ None → (q : List ℕ)
    → option_or (place_of chained q) (new q) ≡ cond (is_at (slice_cmp nat_cmp node) q) (Some rev) (option_or (place_of chained q) (old q))
put_one node rev chained old new put none q = by (is_at (slice_cmp nat_cmp node) q) refl
  where
    by : (b : Bool) → is_at (slice_cmp nat_cmp node) q ≡ b → option_or (place_of chained q) (new q) ≡ cond b (Some rev) (option_or (place_of chained q) (old q))
    by true here =
        let one : node ≡ q = equal_from_same node q (sym (is_eq-slice_cmp node q) ∙ here) in
        let no_place : place_of chained q ≡ None = ap (place_of chained) (sym one) ∙ no_first (place_of chained node) (old node) none in
        ap (λ o. option_or o (new q)) no_place ∙ put q ∙ ap (λ b. cond b (Some rev) (old q)) here
    by false there = ap (option_or (place_of chained q)) (put q ∙ ap (λ b. cond b (Some rev) (old q)) there)

-- ---- the entries on chains, where one more is not

on_few : (places : Places) (entries : List Entry) → AreChains places.chains (chained places entries) → length places.chains.links.items ≤ length entries
on_few places entries are =
    let all = are.all in
    let size = length-take (length places.chains.links.items) entries in
    omega (arith, all, size)

module _ (places new : Places) (entries items : List Entry) (e : Entry) (same : new.chains ≡ places.chains) (one : items ≡ entries ++ e ∷ []) (are : AreChains places.chains (chained places entries)) where
  chained_more : chained new items ≡ chained places entries
  chained_more =
      (λ i. take (length (same i).links.items) (one i))
      ∙ take-append-le (length places.chains.links.items) entries (e ∷ []) (on_few places entries are)

  pub chains_more : AreChains new.chains (chained new items)
  chains_more = subst (AreChains new.chains) (sym chained_more) (subst (λ (c : Chains). AreChains c (chained places entries)) (sym same) are)

  pub place_more : (q : List ℕ) → place_in new items q ≡ place_in new entries q
  place_more q = ap (λ l. option_or (place_of l q) (get (slice_cmp nat_cmp) new.since q)) (chained_more ∙ (λ i. take (length (sym same i).links.items) entries))

pub chains_kept : (places new : Places) (entries items : List Entry) → new.chains ≡ places.chains → items ≡ entries → AreChains places.chains (chained places entries) → AreChains new.chains (chained new items)
chains_kept places new entries items same is are = subst (λ (c : Chains). AreChains c (take (length c.links.items) items)) (sym same) (subst (λ l. AreChains places.chains (chained places l)) (sym is) are)

-- all entries are on chains
pub chains_all : (places : Places) (entries : List Entry) → AreChains places.chains entries → AreChains places.chains (chained places entries)
chains_all places entries are = subst (AreChains places.chains) (sym (take_all (length places.chains.links.items) entries (let all = are.all in omega (arith, all)))) are
