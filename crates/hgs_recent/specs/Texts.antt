-- The texts of the manifests that were used last.
use Rattle.std.specs.Prelude.{◌≡◌, ◌⊎◌, ◌-◌, ◌≤◌, ℕ, List, ◌∷◌, length, take, Option, Some, None}
use Rattle.std.specs.List.{AllByRecursion}
use Rattle.std.specs.Map.{lookup, remove_entry}
use Rattle.hgs_bytes.specs.Bytes.{same}
use Rattle.hgs_revlog.specs.Load.{most_text}
use Rattle.lru.specs.LruCache.{LruCache}

-- texts with the nodes of their manifests, the one that was used last first
abbrev pub Texts : Type 0
Texts = List (List ℕ × List ℕ)

-- as many are kept
abbrev pub most_kept : ℕ
most_kept = 16

abbrev pub text_under : List ℕ → Texts → Option (List ℕ)
text_under node texts = lookup (same node) texts

-- A text was used: it comes first, and the others behind it, as far as they are among the last used.
abbrev pub used : List ℕ → List ℕ → Texts → Texts
used node text texts = (node, text) ∷ take (most_kept - 1) (remove_entry (same node) texts)

abbrev pub used_if : List ℕ → Option (List ℕ) → Texts → Texts
used_if node None texts = texts
used_if node (Some text) texts = used node text texts

-- the text under a node was used, where there is one
abbrev pub looked_up : List ℕ → Texts → Texts
looked_up node texts = used_if node (text_under node texts) texts

-- A text that was read was used. Where there was no memory to keep it, nothing changed.
abbrev pub MayKeep : List ℕ → List ℕ → Texts → Texts → Type 0
MayKeep node text old new = (new ≡ used node text old) ⊎ (new ≡ old)

-- at most so many, each no longer than a text may be
pub record AreKept (cache : LruCache (List ℕ) (List ℕ)) : Type 0 where
  pub cap : cache.cap ≡ most_kept
  pub few : length cache.entries ≤ most_kept
  pub small : AllByRecursion (λ (e : List ℕ × List ℕ). length e.1 ≤ most_text) cache.entries
