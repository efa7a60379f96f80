-- What only grows at its end.
use Rattle.std.proofs.Common.{◌≡◌, List, ℕ, [], ◌++◌, length, take, sym, ◌∙◌, ap, append_assoc, refl}
use Rattle.std.proofs.lemmas.List.{take_at, append-nil}
use Rattle.hgs_bytes.specs.Bytes.{IsPrefixOf}

pub front_grows : (old mid new part : List ℕ) → IsPrefixOf old mid → new ≡ mid ++ part → IsPrefixOf old new
front_grows old mid new part h e = (h.0 ++ part, e ∙ ap (λ l. l ++ part) h.1 ∙ append_assoc old h.0 part)

-- cut back to what it was
pub cut_back : (old new : List ℕ) → IsPrefixOf old new → take (length old) new ≡ old
cut_back old new h = ap (take (length old)) h.1 ∙ take_at old h.0 (length old) refl

pub front_none : (old new : List ℕ) → new ≡ old → IsPrefixOf old new
front_none old new e = ([], e ∙ sym (append-nil old))

pub front_one : (old new part : List ℕ) → new ≡ old ++ part → IsPrefixOf old new
front_one old new part e = (part, e)

pub front_same : (old mid new : List ℕ) → IsPrefixOf old mid → new ≡ mid → IsPrefixOf old new
front_same old mid new h e = (h.0, e ∙ h.1)

pub front_over : (old mid new : List ℕ) → IsPrefixOf old mid → IsPrefixOf mid new → IsPrefixOf old new
front_over old mid new h k = front_grows old mid new k.0 h k.1
