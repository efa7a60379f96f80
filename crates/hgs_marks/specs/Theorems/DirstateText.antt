-- Parents, tracked paths and their text.
use Rattle.std.proofs.Common.{◌≡◌, ◌<◌, ◌≤◌, ℕ, zero, suc, ◌+◌, ◌-◌, ◌^◌, true, false, ◌&&◌, List, [], ◌∷◌, ◌++◌, length, take, drop, map, Some, None, Result, Ok, Err, refl, sym, ◌∙◌, ap, arith, append_assoc, length-append}
use Rattle.std.specs.Prelude.{◌==◌, nat_le, if◌then◌else◌}
use Rattle.std.specs.List.{AllByRecursion}
use Rattle.std.specs.Option.{option_map}
use Rattle.std.proofs.lemmas.Bool.Decides.{nat_tests}
use Rattle.std.proofs.lemmas.List.{take_at, drop_at, drop-drop}
use Rattle.std.proofs.lemmas.Nat.{from_be_bytes-to_be_bytes_4}
use Rattle.hgs_bytes.specs.Text.{Lacks, split}
use Rattle.hgs_marks.specs.declared.fault.MarkFault.{MarkFault}
use Rattle.hgs_marks.specs.declared.fault.MarkFault.TheVariants.{Short}
use Rattle.hgs_marks.specs.Dirstate.{Dirstate, Entry, path_text, paths_text, dirstate_text, name_len, next_entry, entry_then, entry_and_more, entries_from, before_nul, tracked, paths_with, read_paths, dirstate_with, read_dirstate, no_dirstate}
use Rattle.hgs_marks.specs.Texts.{IsTracked, IsDirstate}
use Rattle.hgs_marks.specs.Theorems.DirstateLemmas.{one_step}

-- the entry that is written of a path
abbrev normal : List ℕ → Entry
normal path = record { state = 110; name = path }

pub within : (n m : ℕ) → n ≤ m → nat_le n m ≡ true
within n m h = grind (arith, nat_tests)

abbrev read : List ℕ → List ℕ → Result (Entry × List ℕ) MarkFault
read name left = Ok (record { state = 110; name = name }, left)

-- what an entry's bytes give, by their length and that of the path
parts-step : (len n : ℕ) (path rest : List ℕ) → len ≡ 17 + length (path ++ rest) → n ≡ length path →
    (if nat_le 17 len && nat_le (17 + n) len then read (take n (path ++ rest)) (drop n (path ++ rest)) else Err Short) ≡ Ok (normal path, rest)
parts-step len n path rest whole is =
    let size = length-append path rest in
    ap (λ b. if b && nat_le (17 + n) len then read (take n (path ++ rest)) (drop n (path ++ rest)) else Err Short) (within 17 len (omega arith))
    ∙ ap (λ b. if b then read (take n (path ++ rest)) (drop n (path ++ rest)) else Err Short) (within (17 + n) len (omega arith))
    ∙ ap (λ name. read name (drop n (path ++ rest))) (take_at path rest n (sym is))
    ∙ ap (read path) (drop_at path rest n (sym is))

entry_back : (at : ℕ) (path rest : List ℕ) → length path < 2 ^ 32 → next_entry at (path_text path ++ rest) ≡ Ok (normal path, rest)
entry_back at path rest fits = parts-step (length (path_text path ++ rest)) (name_len (path_text path ++ rest)) path rest (omega arith) (from_be_bytes-to_be_bytes_4 (length path) fits)

entries_back : (n len : ℕ) (paths : List (List ℕ)) → length (paths_text paths) ≤ n → AllByRecursion IsTracked paths → entries_from n len (paths_text paths) ≡ Ok (map normal paths)
entries_back zero len [] few h = refl
entries_back (suc n) len [] few h = refl
entries_back zero len (path ∷ paths) few h = absurd (omega arith)
entries_back (suc n) len (path ∷ paths) few h =
    let rest = paths_text paths in
    let size = length-append path rest in
    let fewer : length rest ≤ n = omega arith in
    one_step n len (path_text path ++ rest) (omega arith)
    ∙ ap (λ r. entry_and_more r (λ b. entries_from n len b)) (entry_back (len - length (path_text path ++ rest)) path rest h.0.size)
    ∙ ap (entry_then (normal path)) (entries_back n len paths fewer h.1)

lacks_split : (byte : ℕ) (xs : List ℕ) → Lacks byte xs → split byte xs ≡ None
lacks_split byte [] h = refl
lacks_split byte (x ∷ xs) h =
    ap (λ b. if b then Some ([], xs) else option_map (λ y. (x ∷ y.0, y.1)) (split byte xs)) h.0 ∙ ap (option_map (λ y. (x ∷ y.0, y.1))) (lacks_split byte xs h.1)

tracked_back : (paths : List (List ℕ)) → AllByRecursion IsTracked paths → tracked (map normal paths) ≡ paths
tracked_back [] h = refl
tracked_back (path ∷ paths) h = ap (λ o. before_nul path o ∷ tracked (map normal paths)) (lacks_split 0 path h.0.no_nul) ∙ ap (λ l. path ∷ l) (tracked_back paths h.1)

not_none : (n : ℕ) → 40 ≤ n → (n == 0) ≡ false
not_none n h = grind arith

-- two parents and what stands behind them
pub parents_back : (p1 p2 rest : List ℕ) (paths : Result (List (List ℕ)) MarkFault) → length p1 ≡ 20 → length p2 ≡ 20 → read_paths (p1 ++ (p2 ++ rest)) ≡ paths → read_dirstate (p1 ++ (p2 ++ rest)) ≡ dirstate_with p1 p2 paths
parents_back p1 p2 rest paths a b e =
    let text = p1 ++ (p2 ++ rest) in
    let size = length-append p1 (p2 ++ rest) in
    let more = length-append p2 rest in
    let long : 40 ≤ length text = omega arith in
    ap (λ t. if t then Ok no_dirstate else (if nat_le 40 (length text) then dirstate_with (take 20 text) (take 20 (drop 20 text)) (read_paths text) else Err Short)) (not_none (length text) long)
    ∙ ap (λ t. if t then dirstate_with (take 20 text) (take 20 (drop 20 text)) (read_paths text) else Err Short) (within 40 (length text) long)
    ∙ ap (λ x. dirstate_with x (take 20 (drop 20 text)) (read_paths text)) (take_at p1 (p2 ++ rest) 20 a)
    ∙ ap (λ x. dirstate_with p1 x (read_paths text)) (ap (take 20) (drop_at p1 (p2 ++ rest) 20 a) ∙ take_at p2 rest 20 b)
    ∙ ap (dirstate_with p1 p2) e

paths_back : (p1 p2 : List ℕ) (paths : List (List ℕ)) → length p1 ≡ 20 → length p2 ≡ 20 → AllByRecursion IsTracked paths → read_paths (p1 ++ (p2 ++ paths_text paths)) ≡ Ok paths
paths_back p1 p2 paths a b h =
    let rest = paths_text paths in
    let text = p1 ++ (p2 ++ rest) in
    let size = length-append p1 (p2 ++ rest) in
    let more = length-append p2 rest in
    ap (λ t. paths_with [] (entries_from (length text) (length text) t)) (sym (drop-drop 20 20 text) ∙ ap (drop 20) (drop_at p1 (p2 ++ rest) 20 a) ∙ drop_at p2 rest 20 b)
    ∙ ap (paths_with []) (entries_back (length text) (length text) paths (omega arith) h)
    ∙ ap (λ l. Ok l) (tracked_back paths h)

pub dirstate_back : (d : Dirstate) → IsDirstate d → read_dirstate (dirstate_text d) ≡ Ok d
dirstate_back d h =
    ap read_dirstate (append_assoc d.p1 d.p2 (paths_text d.paths))
    ∙ parents_back d.p1 d.p2 (paths_text d.paths) (Ok d.paths) h.p1 h.p2 (paths_back d.p1 d.p2 d.paths h.p1 h.p2 h.paths)
