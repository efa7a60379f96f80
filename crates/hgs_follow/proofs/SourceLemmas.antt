-- Blocks of copies.
use Rattle.std.proofs.Common.{◌≡◌, ℕ, ◌-◌, Bool, true, false, cond, List, [], ◌∷◌, ◌++◌, length, take, drop, Some, None, refl, ◌∙◌, ap, arith, append_assoc, length-append}
use Rattle.std.specs.Option.{option_map}
use Rattle.std.proofs.lemmas.List.{take_at}
use Rattle.hex.specs.Hex.{IsBytes}
use Rattle.hgs_bytes.specs.Bytes.{begins_with}
use Rattle.hgs_bytes.specs.Text.{Lacks, line, lines_of}
use Rattle.hgs_bytes.specs.Theorems.TextLemmas.{lines_split, split_over}
use Rattle.hgs_index.specs.FileText.{marker, plain_prefix}
use Rattle.hgs_index.specs.Hex.{hex}
use Rattle.hgs_index.specs.Theorems.FileTextLemmas.{unpacked-block, unpacked-plain}
use Rattle.hgs_index.specs.Theorems.HexText.{hex_lacks, node_back}
use Rattle.hgs_model.specs.Step.{copy_block, copy_lines}
use Rattle.hgs_model.specs.Theorems.CopyLemmas.{copy-block}
use Rattle.hgs_model.specs.Valid.{ends_in}
use Rattle.hgs_follow.specs.Source.{between_markers, copied_from, copy_key, copyrev_key, source_in}

between-block : (inner : List ℕ) → between_markers (marker ++ inner ++ marker) ≡ inner
between-block inner =
    let len = length-append (marker ++ inner) marker in
    let size : length (marker ++ inner ++ marker) - 2 ≡ length (marker ++ inner) = omega (arith, len) in
    ap (λ n. drop 2 (take n (marker ++ inner ++ marker))) size ∙ ap (drop 2) (take_at (marker ++ inner) marker (length (marker ++ inner)) refl)

second-line : (node : List ℕ) → lines_of (line (copyrev_key ++ hex node)) ≡ (copyrev_key ++ hex node, true) ∷ []
second-line node = lines_split (line (copyrev_key ++ hex node)) (copyrev_key ++ hex node, []) (split_over 10 (copyrev_key ++ hex node) [] (refl, (refl, (refl, (refl, (refl, (refl, (refl, (refl, (refl, hex_lacks node))))))))))

both-lines : (path node : List ℕ) → Lacks 10 path → lines_of (copy_lines path node) ≡ (copy_key ++ path, true) ∷ (copyrev_key ++ hex node, true) ∷ []
both-lines path node l =
    let rest = line (copyrev_key ++ hex node) in
    ap lines_of (append_assoc (copy_key ++ path) (10 ∷ []) rest)
    ∙ lines_split ((copy_key ++ path) ++ 10 ∷ rest) (copy_key ++ path, rest) (split_over 10 (copy_key ++ path) rest (refl, (refl, (refl, (refl, (refl, (refl, l)))))))
    ∙ ap (λ ls. (copy_key ++ path, true) ∷ ls) (second-line node)

source-read : (path node : List ℕ) → length node ≡ 20 → IsBytes node → source_in ((copy_key ++ path, true) ∷ (copyrev_key ++ hex node, true) ∷ []) ≡ Some (record { path = path; node = node })
source-read path node l b = ap (option_map (λ n. record { path = path; node = n })) (node_back node l b)

pub copy-read : (path node body : List ℕ) → Lacks 10 path → ends_in 1 path ≡ false → length node ≡ 20 → IsBytes node → copied_from (copy_block path node ++ body) ≡ Some (record { path = path; node = node })
copy-read path node body l e size b =
    ap (λ (p : List ℕ × List ℕ). source_in (lines_of (between_markers p.0))) (unpacked-block (copy_block path node) body (copy-block path node l e))
    ∙ ap (λ t. source_in (lines_of t)) (between-block (copy_lines path node))
    ∙ ap source_in (both-lines path node l) ∙ source-read path node size b

plain-read : (b : Bool) → source_in (lines_of (between_markers (cond b (marker ++ marker) []))) ≡ None
plain-read true = refl
plain-read false = refl

pub no-copy-read : (body : List ℕ) → copied_from (plain_prefix body ++ body) ≡ None
no-copy-read body =
    ap (λ (p : List ℕ × List ℕ). source_in (lines_of (between_markers p.0))) (unpacked-plain body) ∙ plain-read (begins_with body marker)
