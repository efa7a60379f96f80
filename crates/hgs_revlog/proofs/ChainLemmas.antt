-- Entries in chains: where a chain goes on, and one more entry on it.
use Rattle.std.proofs.Common.{◌≡◌, ℕ, zero, suc, ◌+◌, ◌-◌, ◌<◌, ◌≤◌, Bool, true, false, cond, List, [], ◌∷◌, ◌++◌, length, take, Option, Some, None, refl, sym, ◌∙◌, ap, subst, inl, inr, arith}
use Rattle.std.specs.Prelude.{◌==◌, slice_get, get_or}
use Rattle.std.proofs.Math.ListN.{replicate, set}
use Rattle.std.proofs.lemmas.List.{get_or-replicate, get_or-set_other, get_or-set_same, length-replicate, length-set, length-take, length_push, take-append-le, take-take, take_all}
use Rattle.std.proofs.lemmas.Option.{get_or_from_slice_get, slice_get-get_or, slice_get_read, slice_get_within}
use Rattle.hgs_bytes.specs.Bytes.{same}
use Rattle.hgs_index.specs.declared.entry.Entry.{Entry}
use Rattle.hgs_revlog.specs.declared.chains.Chains.{Chains}
use Rattle.hgs_revlog.specs.Chains.{AreChains, IsOn, counted_on, is_of, part_of, until_last}
use Rattle.hgs_revlog.specs.Log.{place_of}
use Rattle.hgs_revlog.specs.Theorems.LogLemmas.{equal_from_same, position_push_none, position_push_some}
use Rattle.hgs_revlog.proofs.LoadedLemmas.{get-push, own_more}

-- ---- the last that passes

module _ (passes : Entry → Bool) where
  pub last_within : (entries : List Entry) → until_last passes entries ≤ length entries
  last_within [] = omega arith
  last_within (e ∷ entries) = by (until_last passes entries) (passes e) (last_within entries)
    where
      by : (n : ℕ) (b : Bool) → n ≤ length entries → counted_on b n ≤ suc (length entries)
      by zero true h = omega arith
      by zero false h = omega arith
      by (suc n) b h = omega (arith, h)

  pub last_push : (entries : List Entry) (e : Entry) → until_last passes (entries ++ e ∷ []) ≡ cond (passes e) (suc (length entries)) (until_last passes entries)
  last_push [] e = by (passes e)
    where
      by : (b : Bool) → counted_on b 0 ≡ cond b 1 0
      by true = refl
      by false = refl
  last_push (x ∷ entries) e = by (passes e) (until_last passes (entries ++ e ∷ [])) (last_push entries e)
    where
      by : (b : Bool) (n : ℕ) → n ≡ cond b (suc (length entries)) (until_last passes entries) → counted_on (passes x) n ≡ cond b (suc (suc (length entries))) (counted_on (passes x) (until_last passes entries))
      by true n h = ap (counted_on (passes x)) h
      by false n h = ap (counted_on (passes x)) h

  pub last_front : (entries : List Entry) → until_last passes (take (until_last passes entries) entries) ≡ until_last passes entries
  last_front [] = refl
  last_front (e ∷ entries) = by (until_last passes entries) (passes e) refl (last_front entries)
    where
      by : (n : ℕ) (b : Bool) → passes e ≡ b → until_last passes (take n entries) ≡ n → until_last passes (take (counted_on b n) (e ∷ entries)) ≡ counted_on b n
      by zero true h more = ap (λ c. counted_on c 0) h
      by zero false h more = refl
      by (suc n) b h more = ap (counted_on (passes e)) more

  pub last_passes : (entries : List Entry) (rev : ℕ) (e : Entry) → until_last passes entries ≡ suc rev → slice_get entries rev ≡ Some e → passes e ≡ true
  last_passes [] rev e is there = absurd (omega (arith, is))
  last_passes (x ∷ entries) rev e is there = by (until_last passes entries) (passes x) refl rev (λ k. last_passes entries k e) is there
    where
      one : Some x ≡ Some e → x ≡ e
      one h = cc

      by : (n : ℕ) (b : Bool) → passes x ≡ b → (rev : ℕ) → ((k : ℕ) → n ≡ suc k → slice_get entries k ≡ Some e → passes e ≡ true) → counted_on b n ≡ suc rev → slice_get (x ∷ entries) rev ≡ Some e → passes e ≡ true
      by zero true h zero more is there = ap passes (sym (one there)) ∙ h
      by zero true h (suc rev) more is there = absurd (omega (arith, is))
      by zero false h rev more is there = absurd (omega (arith, is))
      by (suc n) b h zero more is there = absurd (omega (arith, is))
      by (suc n) b h (suc rev) more is there = more rev (omega (arith, is)) there

  pub last_behind : (entries : List Entry) (rev : ℕ) (e : Entry) → until_last passes entries ≤ rev → slice_get entries rev ≡ Some e → passes e ≡ false
  last_behind [] rev e le there = cc
  last_behind (x ∷ entries) rev e le there = by (until_last passes entries) (passes x) refl rev (λ k. last_behind entries k e) le there
    where
      one : Some x ≡ Some e → x ≡ e
      one h = cc

      by : (n : ℕ) (b : Bool) → passes x ≡ b → (rev : ℕ) → ((k : ℕ) → n ≤ k → slice_get entries k ≡ Some e → passes e ≡ false) → counted_on b n ≤ rev → slice_get (x ∷ entries) rev ≡ Some e → passes e ≡ false
      by zero true h zero more le there = absurd (omega (arith, le))
      by zero true h (suc rev) more le there = more rev (omega arith) there
      by zero false h zero more le there = ap passes (sym (one there)) ∙ h
      by zero false h (suc rev) more le there = more rev (omega arith) there
      by (suc n) b h zero more le there = absurd (omega (arith, le))
      by (suc n) b h (suc rev) more le there = more rev (omega (arith, le)) there

-- ---- the place of a node, of one entry fewer

front_more : (entries : List Entry) (rev : ℕ) (e : Entry) → slice_get entries rev ≡ Some e → take (suc rev) entries ≡ take rev entries ++ e ∷ []
front_more [] rev e there = cc
front_more (x ∷ entries) zero e there = ap (λ (y : Entry). y ∷ []) (one there)
  where
    one : Some x ≡ Some e → x ≡ e
    one h = cc
front_more (x ∷ entries) (suc rev) e there = ap (λ l. x ∷ l) (front_more entries rev e there)

pub place_fewer : (entries : List Entry) (node : List ℕ) (rev : ℕ) (e : Entry) → slice_get entries rev ≡ Some e → same e.node.0 node ≡ false → place_of (take (suc rev) entries) node ≡ place_of (take rev entries) node
place_fewer entries node rev e there other = ap (λ l. place_of l node) (front_more entries rev e there) ∙ by (place_of (take rev entries) node) refl
  where
    by : (o : Option ℕ) → place_of (take rev entries) node ≡ o → place_of (take rev entries ++ e ∷ []) node ≡ place_of (take rev entries) node
    by None h = position_push_none (λ x. same x.node.0 node) (take rev entries) e h ∙ ap (λ b. cond b (Some (length (take rev entries))) None) other ∙ sym h
    by (Some i) h = position_push_some (λ x. same x.node.0 node) (take rev entries) e i h ∙ sym h

get_some : (entries : List Entry) (rev : ℕ) → rev < length entries → (e : Entry) × (slice_get entries rev ≡ Some e)
get_some [] rev lt = absurd (omega (arith, lt))
get_some (x ∷ entries) zero lt = (x, refl)
get_some (x ∷ entries) (suc rev) lt = get_some entries rev (omega (arith, lt))

pub place_front : (entries : List Entry) (node : List ℕ) (n more : ℕ) → n + more ≡ length entries → ((rev : ℕ) (e : Entry) → n ≤ rev → slice_get entries rev ≡ Some e → same e.node.0 node ≡ false)
    → place_of (take n entries) node ≡ place_of entries node
place_front entries node n zero is others = ap (λ l. place_of l node) (take_all n entries (omega (arith, is)))
place_front entries node n (suc more) is others =
    let found = get_some entries n (omega (arith, is)) in
    sym (place_fewer entries node n found.0 found.1 (others n found.0 (omega arith) found.1))
    ∙ place_front entries node (suc n) more (omega (arith, is)) (λ rev e le there. others rev e (omega (arith, le)) there)

-- ---- along a chain

some_number : (a b : ℕ) → Some a ≡ Some b → a ≡ b
some_number a b h = cc

equal_number : (a b : ℕ) → (a == b) ≡ true → a ≡ b
equal_number a b h = grind arith

number_itself : (a : ℕ) → (a == a) ≡ true
number_itself a = grind arith

get_front : (entries : List Entry) (n rev : ℕ) → rev < n → slice_get (take n entries) rev ≡ slice_get entries rev
get_front [] zero rev lt = refl
get_front [] (suc n) rev lt = refl
get_front (x ∷ entries) zero rev lt = absurd (omega (arith, lt))
get_front (x ∷ entries) (suc n) zero lt = refl
get_front (x ∷ entries) (suc n) (suc rev) lt = get_front entries n rev (omega (arith, lt))

-- entries of other parts have other nodes
other_node : (parts : ℕ) (node : List ℕ) (e : Entry) → is_of parts (part_of parts node) e ≡ false → same e.node.0 node ≡ false
other_node parts node e other = by (same e.node.0 node) refl
  where
    by : (b : Bool) → same e.node.0 node ≡ b → b ≡ false
    by false h = refl
    by true h = sym (ap (λ n. part_of parts n == part_of parts node) (equal_from_same e.node.0 node h) ∙ number_itself (part_of parts node)) ∙ other

-- the chain goes on, or begins, at the last entry of a part among some
on_front : (chains : Chains) (entries : List Entry) (node : List ℕ) → IsOn chains entries node (until_last (is_of (length chains.lasts.items) (part_of (length chains.lasts.items) node)) entries)
on_front chains entries node = record {
  last = last_front passes entries;
  place = place_front entries node last (length entries - last) (let le = last_within passes entries in omega (arith, le))
      (λ rev e le there. other_node parts node e (last_behind passes entries rev e le there));
}
  where
    parts : ℕ
    parts = length chains.lasts.items

    passes : Entry → Bool
    passes = is_of parts (part_of parts node)

    last : ℕ
    last = until_last passes entries

below : (until last taken all : ℕ) → last ≡ until → last ≤ taken → taken ≤ all → until ≤ all
below until last taken all is le most = omega (arith, is, le, most)

module _ (chains : Chains) (entries : List Entry) (are : AreChains chains entries) (node : List ℕ) where
  abbrev parts : ℕ
  parts = length chains.lasts.items

  pub on_start : (last : ℕ) → slice_get chains.lasts.items (part_of parts node) ≡ Some last → part_of parts node < parts → IsOn chains entries node last
  on_start last there lt =
      subst (IsOn chains entries node) (some_number (until_last (is_of parts (part_of parts node)) entries) last (sym (are.lasts (part_of parts node) lt) ∙ there)) (on_front chains entries node)

  pub on_within : (until : ℕ) → IsOn chains entries node until → until ≤ length entries
  on_within until on =
      below until (until_last (is_of parts (part_of parts node)) (take until entries)) (length (take until entries)) (length entries) on.last (last_within (is_of parts (part_of parts node)) (take until entries))
      (let size = length-take until entries in omega (arith, size))

  pub on_found : (rev : ℕ) (e : Entry) → slice_get entries rev ≡ Some e → same e.node.0 node ≡ true → Some rev ≡ place_of entries node
  on_found rev e there here = sym (are.own rev e there) ∙ ap (place_of entries) (equal_from_same e.node.0 node here)

  module _ (rev link : ℕ) (e : Entry) (on : IsOn chains entries node (suc rev)) (there : slice_get entries rev ≡ Some e) (other : same e.node.0 node ≡ false) (linked : slice_get chains.links.items rev ≡ Some link) where
    abbrev passes : Entry → Bool
    passes = is_of parts (part_of parts node)

    of_part : part_of parts e.node.0 ≡ part_of parts node
    of_part = equal_number (part_of parts e.node.0) (part_of parts node) (last_passes passes (take (suc rev) entries) rev e on.last (get_front entries (suc rev) rev (omega arith) ∙ there))

    link_is : until_last passes (take rev entries) ≡ link
    link_is = some_number (until_last passes (take rev entries)) link (sym (are.links rev e there ∙ ap (λ part. Some (until_last (is_of parts part) (take rev entries))) of_part) ∙ linked)

    pub on_lower : link ≤ rev
    on_lower = (let le = last_within passes (take rev entries) in let size = length-take rev entries in let is = link_is in grind (arith, le, size, is))

    pub on_next : IsOn chains entries node link
    on_next =
        let on : IsOn chains (take rev entries) node link = subst (IsOn chains (take rev entries) node) link_is (on_front chains (take rev entries) node) in
        let fewer : take link (take rev entries) ≡ take link entries = take-take link rev entries on_lower in record {
          last = ap (until_last passes) (sym fewer) ∙ on.last;
          place = ap (λ l. place_of l node) (sym fewer) ∙ on.place ∙ sym (place_fewer entries node rev e there other) ∙ on_here;
        }
      where
        on_here : place_of (take (suc rev) entries) node ≡ place_of entries node
        on_here = on.place

-- the entry before, as the program reads it
module _ (chains : Chains) (entries : List Entry) (are : AreChains chains entries) (node : List ℕ) (rev : ℕ) (other : Entry) (lt : rev < length entries) where
  pub on_read : same (get_or entries rev other).node.0 node ≡ true → Some rev ≡ place_of entries node
  on_read here = on_found chains entries are node rev (get_or entries rev other) (slice_get-get_or entries rev other lt) here

  pub on_step : (until link : ℕ) → until ≡ suc rev → IsOn chains entries node until → same (get_or entries rev other).node.0 node ≡ false → link ≡ get_or chains.links.items rev link → (link < until) × IsOn chains entries node link × (link ≤ length entries)
  on_step until link is on differs linked =
      let here : IsOn chains entries node (suc rev) = subst (IsOn chains entries node) is on in
      let there = slice_get-get_or entries rev other lt in
      let row : slice_get chains.links.items rev ≡ Some link = slice_get_read chains.links.items (length entries) rev link (sym are.all) lt linked in
      let low = on_lower chains entries are node rev link (get_or entries rev other) here there differs row in
      let next = on_next chains entries are node rev link (get_or entries rev other) here there differs row in
      (omega (arith, low, is), next, omega (arith, low, lt))

-- ---- one more on its chain

get_last : {A : Type 0} (xs : List A) (x : A) (i : ℕ) → i ≡ length xs → slice_get (xs ++ x ∷ []) i ≡ Some x
get_last [] x zero is = refl
get_last [] x (suc i) is = absurd (omega (arith, is))
get_last (y ∷ xs) x zero is = absurd (omega (arith, is))
get_last (y ∷ xs) x (suc i) is = get_last xs x i (omega (arith, is))

get_before : {A : Type 0} (xs : List A) (x y : A) (i : ℕ) → slice_get xs i ≡ Some y → slice_get (xs ++ x ∷ []) i ≡ Some y
get_before [] x y i there = cc
get_before (z ∷ xs) x y zero there = there
get_before (z ∷ xs) x y (suc i) there = get_before xs x y i there

get_set : (xs : List ℕ) (i x : ℕ) → i < length xs → slice_get (set xs i x) i ≡ Some x
get_set xs i x lt = slice_get-get_or (set xs i x) i x (omega (arith, lt, length-set xs i x)) ∙ ap (λ n. Some n) (get_or-set_same xs i x x lt)

get_beside : (xs : List ℕ) (i j x y : ℕ) → (i == j) ≡ false → slice_get xs j ≡ Some y → slice_get (set xs i x) j ≡ Some y
get_beside xs i j x y other there =
    let lt = slice_get_within xs j y there in
    slice_get-get_or (set xs i x) j x (omega (arith, lt, length-set xs i x)) ∙ ap (λ n. Some n) (get_or-set_other xs i j x x (λ is. no_more is) ∙ get_or_from_slice_get xs j y x there)
  where
    no_more : j ≡ i → ⊥
    no_more is = absurd (let same = number_itself i in let o = ap (λ n. (i == n)) is in grind (arith, other, same, o))

module _ (old new : Chains) (entries : List Entry) (e : Entry) (last : ℕ) (are : AreChains old entries) (fresh : place_of entries e.node.0 ≡ None) where
  abbrev in_parts : ℕ
  in_parts = length old.lasts.items

  abbrev its_part : ℕ
  its_part = part_of in_parts e.node.0

  module _ (within : its_part < in_parts) (there : slice_get old.lasts.items its_part ≡ Some last) (put : new.lasts.items ≡ set old.lasts.items its_part (suc (length entries))) (linked : new.links.items ≡ old.links.items ++ last ∷ []) where
    as_many : length new.lasts.items ≡ in_parts
    as_many = ap length put ∙ length-set old.lasts.items its_part (suc (length entries))

    put_lasts : (part : ℕ) → part < in_parts → slice_get new.lasts.items part ≡ Some (until_last (is_of in_parts part) (entries ++ e ∷ []))
    put_lasts part lt = ap (λ l. slice_get l part) put ∙ by (its_part == part) refl ∙ ap (λ n. Some n) (sym (last_push (is_of in_parts part) entries e))
      where
        by : (b : Bool) → (its_part == part) ≡ b → slice_get (set old.lasts.items its_part (suc (length entries))) part ≡ Some (cond (its_part == part) (suc (length entries)) (until_last (is_of in_parts part) entries))
        by true here =
            let is : its_part ≡ part = equal_number its_part part here in
            ap (slice_get (set old.lasts.items its_part (suc (length entries)))) (sym is) ∙ get_set old.lasts.items its_part (suc (length entries)) within
            ∙ ap (λ b. Some (cond b (suc (length entries)) (until_last (is_of in_parts part) entries))) (sym here)
        by false other =
            get_beside old.lasts.items its_part part (suc (length entries)) (until_last (is_of in_parts part) entries) other (are.lasts part lt)
            ∙ ap (λ b. Some (cond b (suc (length entries)) (until_last (is_of in_parts part) entries))) (sym other)

    put_links : (rev : ℕ) (x : Entry) → slice_get (entries ++ e ∷ []) rev ≡ Some x → slice_get new.links.items rev ≡ Some (until_last (is_of in_parts (part_of in_parts x.node.0)) (take rev (entries ++ e ∷ [])))
    put_links rev x at = ap (λ l. slice_get l rev) linked ∙ elim (get-push entries e rev x at) [
      | inl b ↦ get_before old.links.items last (until_last (is_of in_parts (part_of in_parts x.node.0)) (take rev entries)) rev (are.links rev x b.0)
          ∙ ap (λ l. Some (until_last (is_of in_parts (part_of in_parts x.node.0)) l)) (sym (take-append-le rev entries (e ∷ []) (let lt = b.1 in omega (arith, lt))))
      | inr b ↦ get_last old.links.items last rev (b.0 ∙ sym are.all) ∙ sym there ∙ are.lasts its_part within
          ∙ (λ i. Some (until_last (is_of in_parts (part_of in_parts (b.1 i).node.0)) (front b.0 i)))
    ]
      where
        front : rev ≡ length entries → entries ≡ take rev (entries ++ e ∷ [])
        front is = sym (ap (λ n. take n (entries ++ e ∷ [])) is ∙ take-append-le (length entries) entries (e ∷ []) (omega arith) ∙ take_all (length entries) entries (omega arith))

    pub chains_push : AreChains new (entries ++ e ∷ [])
    chains_push = record {
      all = ap length linked ∙ length_push old.links.items last ∙ ap (λ n. n + 1) are.all ∙ sym (length_push entries e);
      room = λ _. subst (λ n. 0 < n) (sym as_many) (omega (arith, within));
      lasts = subst (λ n. (part : ℕ) → part < n → slice_get new.lasts.items part ≡ Some (until_last (is_of n part) (entries ++ e ∷ []))) (sym as_many) put_lasts;
      links = subst (λ n. (rev : ℕ) (x : Entry) → slice_get (entries ++ e ∷ []) rev ≡ Some x → slice_get new.links.items rev ≡ Some (until_last (is_of n (part_of n x.node.0)) (take rev (entries ++ e ∷ [])))) (sym as_many) put_links;
      own = own_more entries e fresh are.own;
    }

-- ---- no chains yet

pub empty_lasts : (chains : Chains) (n : ℕ) → chains.lasts.items ≡ replicate n 0 → chains.links.items ≡ [] → AreChains chains []
empty_lasts chains n zeros none = record {
  all = ap length none;
  room = λ some. absurd (omega (arith, some));
  lasts = λ part lt. slice_get-get_or chains.lasts.items part 0 lt ∙ ap (λ l. Some (get_or l part 0)) zeros ∙ ap (λ m. Some m) (get_or-replicate n part 0 0 (omega (arith, lt, ap length zeros, length-replicate {A = ℕ} n 0)));
  links = λ rev e there. cc;
  own = λ rev e there. cc;
}
