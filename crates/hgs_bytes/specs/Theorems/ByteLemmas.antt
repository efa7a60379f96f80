-- Equal bytes.
use Rattle.std.proofs.Common.{◌≡◌, ℕ, true, List, refl}
use Rattle.std.specs.Cmp.Lexicographic.{bytes_decides}
use Rattle.hgs_bytes.specs.Bytes.{same}

pub same-refl : (p : List ℕ) → same p p ≡ true
same-refl p = (bytes_decides p p).1 refl

pub same-eq : (p q : List ℕ) → same p q ≡ true → p ≡ q
same-eq p q e = (bytes_decides p q).0 e
