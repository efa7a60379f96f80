-- Kept texts: what is found among them, and what a use makes of them.
use Rattle.std.proofs.Common.{◌≡◌, ℕ, suc, ◌-◌, ◌≤◌, Bool, true, false, cond, List, [], ◌∷◌, length, take, take_all, length-take, Option, Some, None, refl, sym, ◌∙◌, ap, subst, arith}
use Rattle.std.specs.Prelude.{IfSome}
use Rattle.std.specs.List.{AllByRecursion}
use Rattle.std.specs.Map.{lookup, lookup_entry, remove_entry}
use Rattle.std.specs.Option.{option_map_or}
use Rattle.hgs_bytes.specs.Bytes.{same}
use Rattle.hgs_bytes.specs.Theorems.ByteLemmas.{same-eq, same-refl}
use Rattle.lru.specs.LruCache.{promoted, put_entries}
use Rattle.hgs_revlog.specs.Load.{most_text}
use Rattle.hgs_recent.specs.Theorems.UseLemmas.{found-all, removed-all, taken-all}
use Rattle.hgs_recent.specs.Texts.{AreKept, Texts, looked_up, most_kept, text_under, used, used_if}

module _ {K X : Type 0} (test : K → Bool) where
  -- where there is no value, there is no entry
  none-entry : (es : List (K × X)) → lookup test es ≡ None → lookup_entry test es ≡ None
  none-entry [] h = refl
  none-entry (e ∷ es) h = by (test e.0) (none-entry es) h
    where
      by : (b : Bool) → (lookup test es ≡ None → lookup_entry test es ≡ None) → cond b (Some e.1) (lookup test es) ≡ None → cond b (Some e) (lookup_entry test es) ≡ None
      by true on n = cc
      by false on n = on n

  none-removed : (es : List (K × X)) → lookup test es ≡ None → remove_entry test es ≡ es
  none-removed [] h = refl
  none-removed (e ∷ es) h = by (test e.0) (none-removed es) h
    where
      by : (b : Bool) → (lookup test es ≡ None → remove_entry test es ≡ es) → cond b (Some e.1) (lookup test es) ≡ None → cond b es (e ∷ remove_entry test es) ≡ e ∷ es
      by true on n = cc
      by false on n = ap (λ l. e ∷ l) (on n)

  -- the first entry with a value whose key passes
  record IsFirst (es : List (K × X)) (x : X) : Type 0 where
    pub key : K
    pub passes : test key ≡ true
    pub entry : lookup_entry test es ≡ Some (key, x)
    pub others : suc (length (remove_entry test es)) ≡ length es

  some-is : (a b : X) → Some a ≡ Some b → a ≡ b
  some-is a b e = cc

  first-entry : (es : List (K × X)) (x : X) → lookup test es ≡ Some x → IsFirst es x
  first-entry [] x h = cc
  first-entry (e ∷ es) x h = by (test e.0) refl (first-entry es x) h
    where
      by : (b : Bool) → test e.0 ≡ b → (lookup test es ≡ Some x → IsFirst es x) → cond b (Some e.1) (lookup test es) ≡ Some x → IsFirst (e ∷ es) x
      by true t on n = record {
        key = e.0;
        passes = t;
        entry = ap (λ b. cond b (Some e) (lookup_entry test es)) t ∙ ap (λ v. let o : Option (K × X) = Some (e.0, v) in o) (some-is e.1 x n);
        others = ap (λ b. suc (length (cond b es (e ∷ remove_entry test es)))) t;
      }
      by false t on n =
          let f = on n in
          record {
            key = f.key;
            passes = f.passes;
            entry = ap (λ b. cond b (Some e) (lookup_entry test es)) t ∙ f.entry;
            others = ap (λ b. suc (length (cond b es (e ∷ remove_entry test es)))) t ∙ ap (λ n. suc n) f.others;
          }

-- ---- uses

abbrev IsSmall : List ℕ × List ℕ → Type 0
IsSmall e = length e.1 ≤ most_text

-- a use of a text that is there leaves as many
module _ (node : List ℕ) (es : Texts) (few : length es ≤ most_kept) where
  found-first : (k text : List ℕ) → same node k ≡ true → suc (length (remove_entry (same node) es)) ≡ length es → (k, text) ∷ remove_entry (same node) es ≡ used node text es
  found-first k text is others =
      ap (λ z. (z, text) ∷ remove_entry (same node) es) (sym (same-eq node k is))
      ∙ ap (λ l. (node, text) ∷ l) (sym (take_all (most_kept - 1) (remove_entry (same node) es) (omega (arith, others, few))))

  pub promoted-is : promoted (same node) es ≡ looked_up node es
  promoted-is = by (lookup (same node) es) refl
    where
      by : (o : Option (List ℕ)) → lookup (same node) es ≡ o → promoted (same node) es ≡ used_if node o es
      by None h = ap (λ o. option_map_or (λ e. e ∷ remove_entry (same node) es) o es) (none-entry (same node) es h)
      by (Some text) h =
          let f = first-entry (same node) es text h in
          ap (λ o. option_map_or (λ e. e ∷ remove_entry (same node) es) o es) f.entry ∙ found-first f.key text f.passes f.others

  pub put-is : (text : List ℕ) (cap : ℕ) → cap ≡ most_kept → put_entries same (record { entries = es; cap = cap }) node text ≡ used node text es
  put-is text cap is = by (lookup (same node) es) refl
    where
      after : Option (List ℕ × List ℕ) → Texts
      after o = option_map_or (λ e. (e.0, text) ∷ remove_entry (same node) es) o ((node, text) ∷ take (cap - 1) es)

      by : (o : Option (List ℕ)) → lookup (same node) es ≡ o → after (lookup_entry (same node) es) ≡ used node text es
      by None h = ap after (none-entry (same node) es h) ∙ ap (λ n. (node, text) ∷ take (n - 1) es) is ∙ ap (λ l. (node, text) ∷ take (most_kept - 1) l) (sym (none-removed (same node) es h))
      by (Some old) h =
          let f = first-entry (same node) es old h in
          ap after f.entry ∙ found-first f.key text f.passes f.others

-- ---- what holds of kept texts

pub used-kept : (node text : List ℕ) (es : Texts) (cap : ℕ) → cap ≡ most_kept → length text ≤ most_text → AllByRecursion (λ (e : List ℕ × List ℕ). length e.1 ≤ most_text) es → AreKept (record { entries = used node text es; cap = cap })
used-kept node text es cap is small all = record {
  cap = is;
  few = (let n = length-take (most_kept - 1) (remove_entry (same node) es) in omega (arith, n));
  small = (small, taken-all IsSmall (most_kept - 1) (remove_entry (same node) es) (removed-all (same node) IsSmall es all));
}

pub looked-kept : (node : List ℕ) (es : Texts) (cap : ℕ) → AreKept (record { entries = es; cap = cap }) → AreKept (record { entries = looked_up node es; cap = cap })
looked-kept node es cap are = by (lookup (same node) es) refl
  where
    by : (o : Option (List ℕ)) → lookup (same node) es ≡ o → AreKept (record { entries = used_if node o es; cap = cap })
    by None h = are
    by (Some text) h = used-kept node text es cap are.cap (subst (λ o. IfSome o (λ (t : List ℕ). length t ≤ most_text)) h (found-all (same node) (λ (t : List ℕ). length t ≤ most_text) es are.small)) are.small

pub found-small : (node : List ℕ) (es : Texts) → AllByRecursion (λ (e : List ℕ × List ℕ). length e.1 ≤ most_text) es → IfSome (text_under node es) (λ text. length text ≤ most_text)
found-small node es all = found-all (same node) (λ (t : List ℕ). length t ≤ most_text) es all

-- what is found under a node is found there once it was used
pub looked-under : (node : List ℕ) (es : Texts) → text_under node (looked_up node es) ≡ text_under node es
looked-under node es = by (lookup (same node) es) refl
  where
    by : (o : Option (List ℕ)) → lookup (same node) es ≡ o → lookup (same node) (used_if node o es) ≡ o
    by None h = h
    by (Some text) h = ap (λ b. cond b (Some text) (lookup (same node) (take (most_kept - 1) (remove_entry (same node) es)))) (same-refl node)
