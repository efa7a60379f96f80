-- One entry after another, of which the nodes are looked at once all are there.
use Rattle.std.proofs.Common.{◌≡◌, ℕ, ◌<◌, ◌≤◌, Bool, true, false, cond, List, [], ◌∷◌, ◌++◌, length, take, drop, Option, Some, None, Ok, refl, sym, ◌∙◌, ap, subst, arith}
use Rattle.std.specs.Prelude.{nat_lt, slice_get}
use Rattle.std.specs.List.{position_or_len}
use Rattle.std.proofs.lemmas.List.Sums.{sum_by-take-le}
use Rattle.std.proofs.lemmas.Option.{slice_get_within}
use Rattle.hgs_bytes.specs.Bytes.{same}
use Rattle.hgs_index.specs.declared.entry.Entry.{Entry}
use Rattle.hgs_revlog.specs.declared.fault.Tail.{Tail}
use Rattle.hgs_revlog.specs.Load.{ends_at, entry_behind, loaded, most_data}
use Rattle.hgs_revlog.specs.Loaded.{HaveOwnNodes}
use Rattle.hgs_revlog.specs.Log.{Log, place_of, stored_sum}
use Rattle.hgs_revlog.specs.Theorems.LoadLemmas.{load_ends, load_on, load_rest}
use Rattle.hgs_revlog.specs.Theorems.LogLemmas.{position_push_none, position_push_some}
use Rattle.hgs_revlog.proofs.LoadedLemmas.{get-kept, loaded-entries}

last_get : (entries : List Entry) (e : Entry) → slice_get (entries ++ e ∷ []) (length entries) ≡ Some e
last_get [] e = refl
last_get (x ∷ entries) e = last_get entries e

place_below : (n len i : ℕ) → cond (nat_lt n len) (Some n) None ≡ Some i → i < len
place_below n len i h = grind arith

-- where each node of some entries stands once, the last is new behind the others, and so it is with these
own_fresh : (entries : List Entry) (e : Entry) → HaveOwnNodes (entries ++ e ∷ []) → place_of entries e.node.0 ≡ None
own_fresh entries e own = by (place_of entries e.node.0) refl
  where
    by : (o : Option ℕ) → place_of entries e.node.0 ≡ o → o ≡ None
    by None h = refl
    by (Some i) h =
        let twice : Some i ≡ Some (length entries) = sym (position_push_some (λ x. same x.node.0 e.node.0) entries e i h) ∙ own (length entries) e (last_get entries e) in
        let at : i ≡ length entries = some_is i (length entries) twice in
        let lt = place_below (position_or_len (λ (x : Entry). same x.node.0 e.node.0) entries) (length entries) i h in
        absurd (omega (arith, at, lt))
      where
        some_is : (a b : ℕ) → Some a ≡ Some b → a ≡ b
        some_is a b k = cc

own_front : (entries : List Entry) (e : Entry) → HaveOwnNodes (entries ++ e ∷ []) → HaveOwnNodes entries
own_front entries e own rev x there = by (place_of entries x.node.0) refl
  where
    all : place_of (entries ++ e ∷ []) x.node.0 ≡ Some rev
    all = own rev x (get-kept entries (e ∷ []) rev x there)

    by : (o : Option ℕ) → place_of entries x.node.0 ≡ o → o ≡ Some rev
    by (Some i) h = sym (position_push_some (λ y. same y.node.0 x.node.0) entries e i h) ∙ all
    by None h = last (same e.node.0 x.node.0) (sym (position_push_none (λ y. same y.node.0 x.node.0) entries e h) ∙ all)
      where
        some_is : (a b : ℕ) → Some a ≡ Some b → a ≡ b
        some_is a b k = cc

        last : (b : Bool) → cond b (Some (length entries)) None ≡ Some rev → None ≡ Some rev
        last true k = (let at : length entries ≡ rev = some_is (length entries) rev k in let lt = slice_get_within entries rev x there in absurd (omega (arith, at, lt)))
        last false k = k

abbrev pub separate : List Entry → Log
separate entries = record { inline = false; entries = entries }

module _ (tail : Tail) (index rest bytes : List ℕ) (old new : List Entry) (e : Entry) (one : new ≡ old ++ e ∷ []) (whole : 64 ≤ length rest) (front : bytes ≡ take 64 rest)
    (fits : place_of old e.node.0 ≡ None → entry_behind old bytes ≡ Ok e) (before : HaveOwnNodes old → load_rest tail (separate old) rest ≡ loaded tail index) (own : HaveOwnNodes new) where
  all : HaveOwnNodes (old ++ e ∷ [])
  all = subst HaveOwnNodes one own

  behind : entry_behind old (take 64 rest) ≡ Ok e
  behind = ap (entry_behind old) (sym front) ∙ fits (own_fresh old e all)

  pub fitting_ends : ends_at tail e ≡ true → loaded tail index ≡ Ok (separate new)
  fitting_ends last = sym (before (own_front old e all)) ∙ load_ends tail (separate old) rest e whole behind last ∙ ap (λ es. Ok (separate es)) (sym one)

  pub fitting_on : (left : List ℕ) → left ≡ drop 64 rest → ends_at tail e ≡ false → load_rest tail (separate new) left ≡ loaded tail index
  fitting_on left is last = (λ i. load_rest tail (separate (one i)) (is i)) ∙ sym (load_on tail (separate old) rest e whole behind last) ∙ before (own_front old e all)

-- the chunk of each entry of an index that loads begins within the limit
pub loaded_low : (tail : Tail) (index : List ℕ) (entries : List Entry) → loaded tail index ≡ Ok (separate entries) → (rev : ℕ) (e : Entry) → slice_get entries rev ≡ Some e → e.offset ≤ most_data
loaded_low tail index entries h rev e there =
    let are = loaded-entries tail index (separate entries) h in
    let offset : e.offset ≡ stored_sum (take rev entries) = are.offsets rev e there in
    let part : stored_sum (take rev entries) ≤ stored_sum entries = sum_by-take-le (λ (x : Entry). x.stored) entries rev in
    let all : stored_sum entries ≤ most_data = are.data_end in
    omega (arith, offset, part, all)

pub loaded_short : (tail : Tail) (index : List ℕ) (entries : List Entry) → loaded tail index ≡ Ok (separate entries) → stored_sum entries ≤ most_data
loaded_short tail index entries h = (loaded-entries tail index (separate entries) h).data_end
