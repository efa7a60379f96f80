-- The place of a node where more entries stand behind.
use Rattle.std.proofs.Common.{◌≡◌, ◌⊎◌, ℕ, ◌≤◌, List, [], ◌∷◌, ◌++◌, Bool, true, false, cond, length, Option, Some, None, sym, ◌∙◌, ap, inl, inr, arith, append_assoc, append-nil, length-append}
use Rattle.hgs_bytes.specs.Bytes.{same}
use Rattle.hgs_index.specs.declared.entry.Entry.{Entry}
use Rattle.hgs_revlog.specs.Log.{place_of}
use Rattle.hgs_revlog.specs.Theorems.LogLemmas.{position_push_none, position_push_some}

pub place-stays : (node : List ℕ) (i : ℕ) (front back : List Entry) → place_of front node ≡ Some i → place_of (front ++ back) node ≡ Some i
place-stays node i front [] e = ap (λ l. place_of l node) (append-nil front) ∙ e
place-stays node i front (x ∷ back) e =
    ap (λ l. place_of l node) (sym (append_assoc front (x ∷ []) back))
    ∙ place-stays node i (front ++ x ∷ []) back (position_push_some (λ e. same e.node.0 node) front x i e)

-- no place, or one behind the front
abbrev IsBehind : ℕ → Option ℕ → Type 0
IsBehind n o = (o ≡ None) ⊎ ((j : ℕ) × (o ≡ Some j) × (n ≤ j))

pub place-behind : (node : List ℕ) (front back : List Entry) → place_of front node ≡ None → IsBehind (length front) (place_of (front ++ back) node)
place-behind node front [] e = inl (ap (λ l. place_of l node) (append-nil front) ∙ e)
place-behind node front (x ∷ back) e = by (same x.node.0 node) (position_push_none (λ e. same e.node.0 node) front x e) (place-behind node (front ++ x ∷ []) back)
  where
    joined : place_of (front ++ x ∷ back) node ≡ place_of ((front ++ x ∷ []) ++ back) node
    joined = ap (λ l. place_of l node) (sym (append_assoc front (x ∷ []) back))

    by : (b : Bool) → place_of (front ++ x ∷ []) node ≡ cond b (Some (length front)) None → (place_of (front ++ x ∷ []) node ≡ None → IsBehind (length (front ++ x ∷ [])) (place_of ((front ++ x ∷ []) ++ back) node))
        → IsBehind (length front) (place_of (front ++ x ∷ back) node)
    by true here more = inr (length front, joined ∙ place-stays node (length front) (front ++ x ∷ []) back here, omega arith)
    by false here more = elim (more here) [
      | inl none ↦ inl (joined ∙ none)
      | inr some ↦ inr (some.0, joined ∙ some.1, (let le = some.2 in let l = length-append front (x ∷ []) in omega (arith, le, l)))
    ]
