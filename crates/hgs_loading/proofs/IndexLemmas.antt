-- An index that is read piece by piece.
use Rattle.std.proofs.Common.{◌≡◌, ℕ, ◌+◌, ◌<◌, ◌≤◌, List, [], ◌++◌, length, take, drop, Bool, true, Option, Some, None, Result, Ok, refl, sym, ◌∙◌, ap, subst, arith, length-append}
use Rattle.std.specs.Prelude.{IfSome, unwrap_or}
use Rattle.std.proofs.Math.Seq.{take-add}
use Rattle.std.proofs.lemmas.List.{take_all, length-take, length-drop}
use Rattle.hgs_files.specs.declared.op.Op.{Op}
use Rattle.hgs_files.specs.Tree.{Tree, after_all, bytes_at}
use Rattle.hgs_load.specs.declared.answer.ReadAnswer.{ReadAnswer}
use Rattle.hgs_load.specs.Asks.{IsPart, part_of}
use Rattle.hgs_load.specs.View.{piece_length}
use Rattle.hgs_loading.specs.Theorems.FoundLemmas.{told-read}
use Rattle.hgs_loading.proofs.PartLemmas.{part-bytes}

-- what was read is a front of the file
abbrev pub IsFront : List ℕ → List ℕ → Tree → Type 0
IsFront path bytes t = take (length bytes) (bytes_at t path) ≡ bytes

module _ (file bytes piece new : List ℕ) (front : take (length bytes) file ≡ bytes) (part : piece ≡ take piece_length (drop (length bytes) file)) (joined : new ≡ bytes ++ piece) where
  longer : new ≡ take (length bytes + piece_length) file
  longer = joined ∙ ap (λ l. l ++ piece) (sym front) ∙ ap (λ p. take (length bytes) file ++ p) part ∙ sym (take-add (length bytes) piece_length file)

  next-front : length piece ≡ piece_length → take (length new) file ≡ new
  next-front size = ap (λ n. take n file) (ap length joined ∙ length-append bytes piece ∙ ap (λ n. length bytes + n) size) ∙ sym longer

  rest : length piece < piece_length → length file ≤ length bytes + piece_length
  rest size =
      let e = ap length part in
      let f = length-take piece_length (drop (length bytes) file) in
      let g = length-drop (length bytes) file in
      omega (arith, e, f, g, size)

  last-front : (most : ℕ) → length piece < piece_length → length bytes + piece_length ≤ most → take most file ≡ new
  last-front most size fits =
      let few = rest size in
      take_all most file (omega (arith, few, fits)) ∙ sym (take_all (length bytes + piece_length) file few) ∙ sym longer

piece-is : (t : Tree) (path bytes piece : List ℕ) (from : ℕ) (part : Option (List ℕ)) → from ≡ length bytes → part ≡ part_of t path from piece_length → piece ≡ unwrap_or part [] → piece ≡ take piece_length (drop (length bytes) (bytes_at t path))
piece-is t path bytes piece from part f e p = p ∙ ap (λ o. unwrap_or o []) e ∙ part-bytes (t path) from piece_length ∙ ap (λ n. take piece_length (drop n (bytes_at t path))) f

module _ (alone : Bool) (now next : Option (List Op)) (start start_next : Tree) (path bytes piece new : List ℕ) (from : ℕ) (part : Option (List ℕ)) (behind : from ≡ length bytes)
    (still : alone ≡ true → next ≡ now) (same : start_next ≡ start) (before : alone ≡ true → IfSome now (λ log. IsFront path bytes (after_all log start))) (read : IsPart next start_next path from piece_length (Ok part))
    (piece_part : piece ≡ unwrap_or part []) (joined : new ≡ bytes ++ piece) where
  pub goes-on : length piece ≡ piece_length → alone ≡ true → IfSome next (λ log. IsFront path new (after_all log start_next))
  goes-on size =
      told-read alone now next start start_next (IsFront path bytes) (IsFront path new) path from piece_length part still same before read
      (λ t k e. next-front (bytes_at t path) bytes piece new k (piece-is t path bytes piece from part behind e piece_part) joined size)

  pub ends : (most : ℕ) → length piece < piece_length → length bytes + piece_length ≤ most → alone ≡ true → IfSome next (λ log. (let g : Result (List ℕ) ReadAnswer = Ok (take most (bytes_at (after_all log start_next) path)) in g) ≡ Ok new)
  ends most size fits =
      told-read alone now next start start_next (IsFront path bytes) (λ t. (let g : Result (List ℕ) ReadAnswer = Ok (take most (bytes_at t path)) in g) ≡ Ok new) path from piece_length part still same before read
      (λ t k e. ap (λ l. Ok l) (last-front (bytes_at t path) bytes piece new k (piece-is t path bytes piece from part behind e piece_part) joined most size fits))

pub none-read : (seen : Option (List Op)) (start : Tree) (path bytes : List ℕ) → bytes ≡ [] → IfSome seen (λ log. IsFront path bytes (after_all log start))
none-read None start path bytes e = tt
none-read (Some log) start path bytes e = let P : List ℕ → Type 0 = λ l. IsFront path l (after_all log start) in subst P (sym e) refl

-- as much was read as may be
pub all-read : (most : ℕ) (seen : Option (List Op)) (start : Tree) (path bytes : List ℕ) → length bytes ≡ most → IfSome seen (λ log. IsFront path bytes (after_all log start)) → IfSome seen (λ log. (let g : Result (List ℕ) ReadAnswer = Ok (take most (bytes_at (after_all log start) path)) in g) ≡ Ok bytes)
all-read most None start path bytes e h = tt
all-read most (Some log) start path bytes e h = ap (λ l. Ok l) (ap (λ n. take n (bytes_at (after_all log start) path)) (sym e) ∙ h)

pub short-piece : (most : ℕ) (part : Option (List ℕ)) (piece : List ℕ) → IfSome part (λ bytes. length bytes ≤ most) → piece ≡ unwrap_or part [] → length piece ≤ most
short-piece most None piece h e = let k = ap length e in omega (arith, k)
short-piece most (Some bytes) piece h e = let k = ap length e in omega (arith, k, h)
