-- Texts of roots, and the roots that are read of them.
use Rattle.std.proofs.Common.{◌≡◌, ◌⊎◌, ℕ, ◌+◌, Bool, true, false, ◌&&◌, List, [], ◌∷◌, ◌++◌, Option, Some, None, Result, Ok, Err, refl, sym, ◌∙◌, ap, subst, inl, inr, append_assoc, append-nil}
use Rattle.std.specs.Prelude.{◌==◌, if◌then◌else◌}
use Rattle.std.specs.List.{AllByRecursion}
use Rattle.std.specs.Option.{option_map}
use Rattle.hgs_bytes.specs.Text.{Line as TextLine, Lacks, lines_of, onto, split}
use Rattle.hgs_bytes.specs.Theorems.TextLemmas.{lines_split, lines_last, split_over, unlines, unlines-lines_of}
use Rattle.hgs_index.specs.Hex.{hex, node_at}
use Rattle.hgs_index.specs.Theorems.HexText.{hex_lacks, node_back, node_found}
use Rattle.hgs_phases.specs.declared.fault.RootsFault.{RootsFault}
use Rattle.hgs_model.specs.declared.phase.Phase.{Phase}
use Rattle.hgs_model.specs.declared.phase.Phase.TheVariants.{Public, Draft, Secret}
use Rattle.hgs_phases.specs.declared.roots.Root.{Root}
use Rattle.hgs_index.specs.Node.{IsNode}
use Rattle.hgs_model.specs.Phase.{phase_number}
use Rattle.hgs_phases.specs.Roots.{HasNode, IsTextOf, roots_text, phase_from, root_with, root_of, with_root, root_then, roots_from, read_roots}
use Rattle.hgs_phases.specs.Theorems.PhaseLemmas.{some_is, number-same}

-- ---- a text is read as the roots that it was written of

-- a root's line without its LF
abbrev pub item : Root → List ℕ
item r = (48 + phase_number r.phase) ∷ 32 ∷ hex r.node.0

phase-back : (phase : Phase) → phase_from ((48 + phase_number phase) ∷ 32 ∷ []) ≡ Some phase
phase-back Public = refl
phase-back Draft = refl
phase-back Secret = refl

digit-lacks : (phase : Phase) → ((48 + phase_number phase) == 10) ≡ false
digit-lacks Public = refl
digit-lacks Draft = refl
digit-lacks Secret = refl

item-lacks : (r : Root) → Lacks 10 (item r)
item-lacks r = (digit-lacks r.phase, (refl, hex_lacks r.node.0))

root-back : (r : Root) → IsNode r.node.0 → root_of (item r) ≡ Some r
root-back r n = ap (λ o. root_with o (node_at (hex r.node.0))) (phase-back r.phase) ∙ ap (root_with (Some r.phase)) (node_back r.node.0 n.size n.bytes)

-- a line, and what is read behind it
line-back : (n : ℕ) (r : Root) (rest : List ℕ) (rs : List Root) → IsNode r.node.0 → roots_from (n + 1) (lines_of rest) ≡ Ok rs → roots_from n (lines_of (item r ++ 10 ∷ rest)) ≡ Ok (r ∷ rs)
line-back n r rest rs node behind =
    ap (roots_from n) (lines_split (item r ++ 10 ∷ rest) (item r, rest) (split_over 10 (item r) rest (item-lacks r)))
    ∙ ap (λ o. root_then (n + 1) o (roots_from (n + 1) (lines_of rest))) (root-back r node) ∙ ap (with_root r) behind

pub roots_back : (n : ℕ) (rs : List Root) → AllByRecursion HasNode rs → roots_from n (lines_of (roots_text rs)) ≡ Ok rs
roots_back n [] h = refl
roots_back n (r ∷ rs) h = ap (λ t. roots_from n (lines_of t)) (append_assoc (item r) (10 ∷ []) (roots_text rs)) ∙ line-back n r (roots_text rs) rs h.0 (roots_back (n + 1) rs h.1)

lacks-split : (byte : ℕ) (xs : List ℕ) → Lacks byte xs → split byte xs ≡ None
lacks-split byte [] h = refl
lacks-split byte (x ∷ xs) h =
    ap (λ b. if b then Some ([], xs) else option_map (λ y. (x ∷ y.0, y.1)) (split byte xs)) h.0 ∙ ap (option_map (λ y. (x ∷ y.0, y.1))) (lacks-split byte xs h.1)

-- the text without its last LF
unended : Root → List Root → List ℕ
unended r [] = item r
unended r (s ∷ rs) = item r ++ 10 ∷ unended s rs

unended-is : (r : Root) (rs : List Root) → roots_text (r ∷ rs) ≡ unended r rs ++ 10 ∷ []
unfolding unended
unended-is r [] = append-nil (item r ++ 10 ∷ [])
unended-is r (s ∷ rs) = append_assoc (item r) (10 ∷ []) (roots_text (s ∷ rs)) ∙ ap (λ t. item r ++ 10 ∷ t) (unended-is s rs) ∙ sym (append_assoc (item r) (10 ∷ unended s rs) (10 ∷ []))

unended-back : (n : ℕ) (r : Root) (rs : List Root) → AllByRecursion HasNode (r ∷ rs) → roots_from n (lines_of (unended r rs)) ≡ Ok (r ∷ rs)
unfolding unended
unended-back n r [] h =
    ap (roots_from n) (lines_last (48 + phase_number r.phase) (32 ∷ hex r.node.0) (lacks-split 10 (item r) (item-lacks r))) ∙ ap (λ o. root_then (n + 1) o (Ok [])) (root-back r h.0)
unended-back n r (s ∷ rs) h = line-back n r (unended s rs) (s ∷ rs) h.0 (unended-back (n + 1) s rs h.1)

cons_is : (x y : ℕ) (xs ys : List ℕ) → (let a : List ℕ = x ∷ xs in a) ≡ y ∷ ys → (x ≡ y) × (xs ≡ ys)
cons_is x y xs ys e = (cc, cc)

no_end : {A : Type 0} (xs : List ℕ) (b : ℕ) → [] ≡ xs ++ b ∷ [] → A
no_end [] b e = cc
no_end (x ∷ xs) b e = cc

same_front : (xs ys : List ℕ) (b : ℕ) → xs ++ b ∷ [] ≡ ys ++ b ∷ [] → xs ≡ ys
same_front [] [] b e = refl
same_front [] (y ∷ ys) b e = no_end ys b (cons_is b y [] (ys ++ b ∷ []) e).1
same_front (x ∷ xs) [] b e = no_end xs b (sym (cons_is x b (xs ++ b ∷ []) [] e).1)
same_front (x ∷ xs) (y ∷ ys) b e =
    let both = cons_is x y (xs ++ b ∷ []) (ys ++ b ∷ []) e in
    ap (λ z. z ∷ xs) both.0 ∙ ap (λ zs. y ∷ zs) (same_front xs ys b both.1)

text-back : (rs : List Root) (text : List ℕ) → AllByRecursion HasNode rs → (text ≡ roots_text rs) ⊎ (roots_text rs ≡ text ++ 10 ∷ []) → read_roots text ≡ Ok rs
text-back rs text h (inl e) = ap read_roots e ∙ roots_back 0 rs h
text-back [] text h (inr e) = no_end text 10 e
text-back (r ∷ rs) text h (inr e) = ap read_roots (sym (same_front (unended r rs) text 10 (sym (unended-is r rs) ∙ e))) ∙ unended-back 0 r rs h

-- ---- a text that is read was written so

both : (a b : Bool) → (a && b) ≡ true → (a ≡ true) × (b ≡ true)
both true b h = (refl, h)
both false b h = cc

phase-found : (b c : ℕ) (p : Phase) → phase_from (b ∷ c ∷ []) ≡ Some p → (b ≡ 48 + phase_number p) × (c ≡ 32)
phase-found b c p h = by (b == 48 && c == 32) (b == 49 && c == 32) (b == 50 && c == 32) refl refl refl h
  where
    of : (q : Phase) → Some q ≡ Some p → (b ≡ 48 + phase_number q) × (c ≡ 32) → (b ≡ 48 + phase_number p) × (c ≡ 32)
    of q e s = subst (λ (x : Phase). (b ≡ 48 + phase_number x) × (c ≡ 32)) (some_is q p e) s

    by : (x y z : Bool) → (b == 48 && c == 32) ≡ x → (b == 49 && c == 32) ≡ y → (b == 50 && c == 32) ≡ z → (if x then Some Public else (if y then Some Draft else (if z then Some Secret else None))) ≡ Some p →
        (b ≡ 48 + phase_number p) × (c ≡ 32)
    by true y z d e f k = let s = both (b == 48) (c == 32) d in of Public k (number-same b 48 s.0, number-same c 32 s.1)
    by false true z d e f k = let s = both (b == 49) (c == 32) e in of Draft k (number-same b 49 s.0, number-same c 32 s.1)
    by false false true d e f k = let s = both (b == 50) (c == 32) f in of Secret k (number-same b 50 s.0, number-same c 32 s.1)
    by false false false d e f k = cc

pub record IsItem (text : List ℕ) (r : Root) : Type 0 where
  pub spelled : text ≡ item r
  pub node : IsNode r.node.0

root-with-found : (b c : ℕ) (rest : List ℕ) (o : Option Phase) (u : Option (List ℕ)) (r : Root) → phase_from (b ∷ c ∷ []) ≡ o → node_at rest ≡ u → root_with o u ≡ Some r → IsItem (b ∷ c ∷ rest) r
root-with-found b c rest None u r phase node h = cc
root-with-found b c rest (Some p) None r phase node h = cc
root-with-found b c rest (Some p) (Some bytes) r phase node h =
    let first = phase-found b c p phase in
    let digits = node_found rest bytes node in
    subst (λ (x : Root). IsItem (b ∷ c ∷ rest) x) (some_is (record { phase = p; node = record { 0 = bytes } }) r h)
    (record {
      spelled = ap (λ x. x ∷ c ∷ rest) first.0 ∙ ap (λ x. (48 + phase_number p) ∷ x ∷ rest) first.1 ∙ ap (λ x. (48 + phase_number p) ∷ 32 ∷ x) digits.text;
      node = record { size = digits.len; bytes = digits.bytes };
    })

root-found : (text : List ℕ) (r : Root) → root_of text ≡ Some r → IsItem text r
root-found [] r h = cc
root-found (b ∷ []) r h = cc
root-found (b ∷ c ∷ rest) r h = root-with-found b c rest (phase_from (b ∷ c ∷ [])) (node_at rest) r refl refl h

-- each line but the last has its LF
abbrev OnlyLastLacks : List TextLine → Type 0
OnlyLastLacks [] = Unit {0}
OnlyLastLacks (p ∷ []) = Unit {0}
OnlyLastLacks (p ∷ q ∷ ps) = (p.1 ≡ true) × OnlyLastLacks (q ∷ ps)

onto-last : (b : ℕ) (ps : List TextLine) → OnlyLastLacks ps → OnlyLastLacks (onto b ps)
onto-last b [] h = tt
onto-last b (p ∷ []) h = tt
onto-last b (p ∷ q ∷ ps) h = h

ended-last : (ps : List TextLine) → OnlyLastLacks ps → OnlyLastLacks (([], true) ∷ ps)
ended-last [] h = tt
ended-last (p ∷ ps) h = (refl, h)

lines-last : (xs : List ℕ) → OnlyLastLacks (lines_of xs)
lines-last [] = tt
lines-last (b ∷ bytes) = by (b == 10) (lines-last bytes)
  where
    by : (t : Bool) → OnlyLastLacks (lines_of bytes) → OnlyLastLacks (if t then ([], true) ∷ lines_of bytes else onto b (lines_of bytes))
    by true h = ended-last (lines_of bytes) h
    by false h = onto-last b (lines_of bytes) h

ok_is : (x y : List Root) → (let a : Result (List Root) RootsFault = Ok x in a) ≡ Ok y → x ≡ y
ok_is x y e = cc

rest-of : (l : TextLine) (ls : List TextLine) → OnlyLastLacks (l ∷ ls) → OnlyLastLacks ls
rest-of l [] h = tt
rest-of l (q ∷ ls) h = h.1

-- a line and its root before what is read
one-line : (l : TextLine) (ls : List TextLine) (r : Root) (rs : List Root) → OnlyLastLacks (l ∷ ls) → IsItem l.0 r → ((ls ≡ []) → rs ≡ []) → IsTextOf rs (unlines ls) → IsTextOf (r ∷ rs) (unlines (l ∷ ls))
unfolding unlines
one-line (text, true) ls r rs last is none (have, inl e) = ((is.node, have), inl (ap (λ t. text ++ 10 ∷ t) e ∙ ap (λ t. t ++ 10 ∷ roots_text rs) is.spelled ∙ sym (append_assoc (item r) (10 ∷ []) (roots_text rs))))
one-line (text, true) ls r rs last is none (have, inr e) =
    ((is.node, have), inr (append_assoc (item r) (10 ∷ []) (roots_text rs) ∙ ap (λ t. item r ++ 10 ∷ t) e ∙ ap (λ t. t ++ 10 ∷ (unlines ls ++ 10 ∷ [])) (sym is.spelled) ∙ sym (append_assoc text (10 ∷ unlines ls) (10 ∷ []))))
one-line (text, false) [] r rs last is none (have, e) =
    ((is.node, have), inr (ap (λ x. (item r ++ 10 ∷ []) ++ roots_text x) (none refl) ∙ append-nil (item r ++ 10 ∷ []) ∙ ap (λ t. t ++ 10 ∷ []) (sym is.spelled ∙ sym (append-nil text))))
one-line (text, false) (q ∷ ls) r rs last is none (have, e) = no_flag last.0
  where
    no_flag : {A : Type 0} → false ≡ true → A
    no_flag k = cc

lines-found : (n : ℕ) (ls : List TextLine) (roots : List Root) → OnlyLastLacks ls → roots_from n ls ≡ Ok roots → IsTextOf roots (unlines ls)
unfolding unlines
lines-found n [] roots last e = subst (λ rs. IsTextOf rs []) (ok_is [] roots e) (tt, inl refl)
lines-found n (l ∷ ls) roots last e = by (root_of l.0) (roots_from (n + 1) ls) refl refl e (λ rs k. lines-found (n + 1) ls rs (rest-of l ls last) k)
  where
    none-of : (rs : List Root) → roots_from (n + 1) ls ≡ Ok rs → (ls ≡ []) → rs ≡ []
    none-of rs k is = ok_is rs [] (sym k ∙ ap (roots_from (n + 1)) is)

    by : (o : Option Root) (x : Result (List Root) RootsFault) → root_of l.0 ≡ o → roots_from (n + 1) ls ≡ x → root_then (n + 1) o x ≡ Ok roots → ((rs : List Root) → roots_from (n + 1) ls ≡ Ok rs → IsTextOf rs (unlines ls)) → IsTextOf roots (unlines (l ∷ ls))
    by None x here behind k more = cc
    by (Some r) (Err f) here behind k more = cc
    by (Some r) (Ok rs) here behind k more =
        subst (λ all. IsTextOf all (unlines (l ∷ ls))) (ok_is (r ∷ rs) roots k) (one-line l ls r rs last (root-found l.0 r here) (none-of rs behind) (more rs behind))

pub read_texts : (roots : List Root) (text : List ℕ) → (read_roots text ≡ Ok roots → IsTextOf roots text) × (IsTextOf roots text → read_roots text ≡ Ok roots)
read_texts roots text =
    (λ e. subst (IsTextOf roots) (unlines-lines_of text) (lines-found 0 (lines_of text) roots (lines-last text) e), λ h. text-back roots text h.0 h.1)
