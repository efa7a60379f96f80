-- The block of a copy is a whole one.
use Rattle.std.proofs.Common.{◌≡◌, ℕ, zero, suc, List, [], ◌∷◌, ◌++◌, Bool, true, false, cond, ◌&&◌, refl, sym, ◌∙◌, ap, append_assoc}
use Rattle.std.specs.Prelude.{◌==◌, Option, Some, None, option_map, codes, slice_index}
use Rattle.hex.specs.Hex.{encode_with, lower_digits}
use Rattle.hgs_bytes.specs.Text.{Lacks, line}
use Rattle.hgs_index.specs.FileText.{IsBlock, split_at_marker}
use Rattle.hgs_index.specs.Hex.{hex}
use Rattle.hgs_index.specs.Theorems.HexText.{hex_lacks}
use Rattle.hgs_model.specs.Step.{copy_block, copy_lines}
use Rattle.hgs_model.specs.Valid.{ends_in}

and-false : (a b : Bool) → b ≡ false → (a && b) ≡ false
and-false true b e = e
and-false false b e = refl

-- in a line that doesn't end in the byte 1 no marker begins
no-marker : (xs ys : List ℕ) → Lacks 10 xs → ends_in 1 xs ≡ false → split_at_marker ys ≡ None → split_at_marker (xs ++ 10 ∷ ys) ≡ None
no-marker [] [] l e h = refl
no-marker [] (y ∷ ys) l e h = ap (option_map (λ p. (10 ∷ p.0, p.1))) h
no-marker (a ∷ []) ys l e h =
    ap (λ b. cond {A = Option (List ℕ × List ℕ)} (b && true) (Some ([], ys)) (option_map (λ p. (a ∷ p.0, p.1)) (split_at_marker (10 ∷ ys)))) e
    ∙ ap (option_map (λ p. (a ∷ p.0, p.1))) (no-marker [] ys tt refl h)
no-marker (a ∷ b ∷ xs) ys l e h =
    ap (λ c. cond {A = Option (List ℕ × List ℕ)} c (Some ([], xs ++ 10 ∷ ys)) (option_map (λ p. (a ∷ p.0, p.1)) (split_at_marker (b ∷ xs ++ 10 ∷ ys)))) (and-false (a == 1) (b == 10) l.1.0)
    ∙ ap (option_map (λ p. (a ∷ p.0, p.1))) (no-marker (b ∷ xs) ys l.1 e h)

digits-lack : Lacks 1 lower_digits
digits-lack = (refl, (refl, (refl, (refl, (refl, (refl, (refl, (refl, (refl, (refl, (refl, (refl, (refl, (refl, (refl, (refl, tt))))))))))))))))

lacks-one : (xs : List ℕ) (i : ℕ) → Lacks 1 xs → (slice_index xs i == 1) ≡ false
lacks-one [] i l = refl
lacks-one (x ∷ xs) zero l = l.0
lacks-one (x ∷ xs) (suc i) l = lacks-one xs i l.1

hex-lacks : (xs : List ℕ) → Lacks 1 (hex xs)
unfolding encode_with
hex-lacks [] = tt
hex-lacks (x ∷ xs) = (lacks-one lower_digits _ digits-lack, (lacks-one lower_digits _ digits-lack, hex-lacks xs))

lacks-end : (byte : ℕ) (xs : List ℕ) → Lacks byte xs → ends_in byte xs ≡ false
lacks-end byte [] l = refl
lacks-end byte (a ∷ []) l = l.0
lacks-end byte (a ∷ b ∷ xs) l = lacks-end byte (b ∷ xs) l.1

-- six more bytes before a path
path-end : (path : List ℕ) → ends_in 1 path ≡ false → ends_in 1 (codes "copy: " ++ path) ≡ false
path-end [] e = refl
path-end (a ∷ path) e = e

pub copy-block : (path node : List ℕ) → Lacks 10 path → ends_in 1 path ≡ false → IsBlock (copy_block path node)
copy-block path node l e =
    (copy_lines path node, ap split_at_marker joined ∙ no-marker (codes "copy: " ++ path) (codes "copyrev: " ++ hex node ++ 10 ∷ []) (refl, (refl, (refl, (refl, (refl, (refl, l)))))) (path-end path e) second, refl)
  where
    joined : copy_lines path node ≡ (codes "copy: " ++ path) ++ 10 ∷ (codes "copyrev: " ++ hex node ++ 10 ∷ [])
    joined = append_assoc (codes "copy: " ++ path) (10 ∷ []) (line (codes "copyrev: " ++ hex node)) ∙ ap (λ k. (codes "copy: " ++ path) ++ 10 ∷ k) (append_assoc (codes "copyrev: ") (hex node) (10 ∷ []))

    second : split_at_marker (codes "copyrev: " ++ hex node ++ 10 ∷ []) ≡ None
    second =
        ap split_at_marker (sym (append_assoc (codes "copyrev: ") (hex node) (10 ∷ [])))
        ∙ no-marker (codes "copyrev: " ++ hex node) [] (refl, (refl, (refl, (refl, (refl, (refl, (refl, (refl, (refl, hex_lacks node)))))))))
        (lacks-end 1 (codes "copyrev: " ++ hex node) (refl, (refl, (refl, (refl, (refl, (refl, (refl, (refl, (refl, hex-lacks node))))))))))
        refl
