-- What a read gives.
use Rattle.std.proofs.Common.{◌≡◌, ℕ, List, [], take, drop, Option, Some, None, refl, sym, ◌∙◌, ap}
use Rattle.std.specs.Prelude.{unwrap_or}
use Rattle.std.specs.Option.{option_map}
use Rattle.std.proofs.Math.Seq.{take-nil, drop-nil}

-- what a read gives of a file
pub part-bytes : (file : Option (List ℕ)) (from most : ℕ) → unwrap_or (option_map (λ bytes. take most (drop from bytes)) file) [] ≡ take most (drop from (unwrap_or file []))
part-bytes None from most = sym (ap (take most) (drop-nil from) ∙ take-nil most)
part-bytes (Some bytes) from most = refl
