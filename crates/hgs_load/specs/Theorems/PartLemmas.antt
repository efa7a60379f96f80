-- What a read gives of a file.
use Rattle.std.proofs.Common.{◌≡◌, ℕ, zero, suc, List, [], take, drop, Option, Some, None, refl, sym, ◌∙◌, ap}
use Rattle.std.specs.Prelude.{unwrap_or}
use Rattle.std.specs.Option.{option_map}

take_none : (n : ℕ) → take n [] ≡ (let l : List ℕ = [] in l)
take_none zero = refl
take_none (suc n) = refl

drop_none : (n : ℕ) → drop n [] ≡ (let l : List ℕ = [] in l)
drop_none zero = refl
drop_none (suc n) = refl

-- what a read gives of a file
pub part_is : (file : Option (List ℕ)) (from most : ℕ) → unwrap_or (option_map (λ bytes. take most (drop from bytes)) file) [] ≡ take most (drop from (unwrap_or file []))
part_is None from most = sym (ap (take most) (drop_none from) ∙ take_none most)
part_is (Some bytes) from most = refl
