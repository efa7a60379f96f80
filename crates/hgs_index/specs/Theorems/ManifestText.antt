-- Manifests and their texts.
use Rattle.std.proofs.Common.{◌≡◌, ℕ, ◌+◌, Bool, true, false, cond, List, [], ◌∷◌, ◌++◌, length, take, drop, Option, Some, None, Result, Ok, Err, refl, sym, ◌∙◌, ap, subst, append_assoc}
use Rattle.std.specs.Prelude.{◌==◌}
use Rattle.std.proofs.lemmas.List.{take_at, drop_at, take-append-drop}
use Rattle.hgs_bytes.specs.Bytes.{is_below}
use Rattle.hgs_bytes.specs.Text.{Line as TextLine, split, lines_of, Lacks}
use Rattle.hgs_bytes.specs.Theorems.TextLemmas.{number_is, lines_split, split_over, split_parts, lacks-append, lacks_front, unlines, unlines-lines_of, LinesLack, lines_lack}
use Rattle.hgs_index.specs.Hex.{hex, node_at}
use Rattle.hgs_index.specs.declared.kinds.Flag.{Flag}
use Rattle.hgs_index.specs.declared.kinds.Flag.TheVariants.{Plain, Exec, Link}
use Rattle.hgs_index.specs.declared.texts.ManifestFault.{ManifestFault}
use Rattle.hgs_index.specs.declared.texts.ManifestFault.TheVariants.{Order}
use Rattle.hgs_index.specs.Manifest.{Row, flag_text, row_text, manifest_text, IsRow, AscendFrom, AreRows, flag_at, row_with, row_of_parts, row_at, with_row, row_then, rows_from, read_manifest}
use Rattle.hgs_index.specs.Theorems.HexText.{AreDigits, hex_lacks, hex_length, node_back, node_found}

some_is : {A : Type 0} (x y : A) → Some x ≡ Some y → x ≡ y
some_is x y e = cc

-- a row's line without its LF
unfoldable pub row_line : Row → List ℕ
row_line r = r.path ++ 0 ∷ (hex r.node ++ flag_text r.flag)

pub row_text-line : (r : Row) (rest : List ℕ) → row_text r ++ rest ≡ row_line r ++ 10 ∷ rest
unfolding row_line
row_text-line r rest = append_assoc (r.path ++ 0 ∷ (hex r.node ++ flag_text r.flag)) (10 ∷ []) rest

-- ---- what is printed is read again

flag_lacks : (f : Flag) → Lacks 10 (flag_text f)
flag_lacks Plain = tt
flag_lacks Exec = (refl, tt)
flag_lacks Link = (refl, tt)

line_lacks : (r : Row) → IsRow r → Lacks 10 (row_line r)
unfolding row_line
line_lacks r h = lacks-append 10 r.path (0 ∷ (hex r.node ++ flag_text r.flag)) h.no_lf (refl, lacks-append 10 (hex r.node) (flag_text r.flag) (hex_lacks r.node) (flag_lacks r.flag))

flag_back : (f : Flag) → flag_at (flag_text f) ≡ Some f
flag_back Plain = refl
flag_back Exec = refl
flag_back Link = refl

row_back : (r : Row) → IsRow r → row_at (row_line r, true) ≡ Some r
unfolding row_line
row_back r h =
    let forty = hex_length r.node h.node in
    let rest = hex r.node ++ flag_text r.flag in
    ap row_of_parts (split_over 0 r.path rest h.no_nul)
    ∙ ap (λ b. cond b None (row_with r.path (node_at (take 40 rest)) (flag_at (drop 40 rest)))) h.some_path
    ∙ ap (λ n. row_with r.path n (flag_at (drop 40 rest))) (ap node_at (take_at (hex r.node) (flag_text r.flag) 40 forty) ∙ node_back r.node h.node h.bytes)
    ∙ ap (row_with r.path (Some r.node)) (ap flag_at (drop_at (hex r.node) (flag_text r.flag) 40 forty) ∙ flag_back r.flag)

-- a line that is a row's gives the row, and then what the lines behind it give
pub row_step : (n : ℕ) (last : List ℕ) (l : TextLine) (ls : List TextLine) (r : Row) → row_at l ≡ Some r → is_below last r.path ≡ true → rows_from n last (l ∷ ls) ≡ with_row r (rows_from (n + 1) r.path ls)
row_step n last l ls r e b = ap (λ o. row_then n last o (λ k path. rows_from k path ls)) e ∙ rw b

pub rows_back : (n : ℕ) (last : List ℕ) (rows : List Row) → AscendFrom last rows → rows_from n last (lines_of (manifest_text rows)) ≡ Ok rows
rows_back n last [] h = refl
rows_back n last (r ∷ rs) h =
    ap (rows_from n last) (ap lines_of (row_text-line r (manifest_text rs)) ∙ lines_split (row_line r ++ 10 ∷ manifest_text rs) (row_line r, manifest_text rs) (split_over 10 (row_line r) (manifest_text rs) (line_lacks r h.0)))
    ∙ row_step n last (row_line r, true) (lines_of (manifest_text rs)) r (row_back r h.0) h.1
    ∙ ap (with_row r) (rows_back (n + 1) r.path rs h.2)

pub manifest_back : (rows : List Row) → AreRows rows → read_manifest (manifest_text rows) ≡ Ok rows
manifest_back rows h = rows_back 0 [] rows h

-- ---- what is read is the text of its rows

flag-step : (a b : Bool) (f : Flag) (x : ℕ) → (x == 120) ≡ a → (x == 108) ≡ b → cond a (Some Exec) (cond b (Some Link) None) ≡ Some f → x ∷ [] ≡ flag_text f
flag-step true b f x p q e = let P : Flag → Type 0 = λ g. x ∷ [] ≡ flag_text g in subst P (some_is Exec f e) (ap (λ n. n ∷ []) (number_is x 120 p))
flag-step false true f x p q e = let P : Flag → Type 0 = λ g. x ∷ [] ≡ flag_text g in subst P (some_is Link f e) (ap (λ n. n ∷ []) (number_is x 108 q))
flag-step false false f x p q e = cc

flag_found : (xs : List ℕ) (f : Flag) → flag_at xs ≡ Some f → xs ≡ flag_text f
flag_found [] f e = let P : Flag → Type 0 = λ g. [] ≡ flag_text g in subst P (some_is Plain f e) refl
flag_found (x ∷ []) f e = flag-step (x == 120) (x == 108) f x refl refl e
flag_found (x ∷ y ∷ ys) f e = cc

with_found : (path : List ℕ) (n : Option (List ℕ)) (f : Option Flag) (r : Row) → row_with path n f ≡ Some r → (n ≡ Some r.node) × (f ≡ Some r.flag) × (path ≡ r.path)
with_found path None f r e = cc
with_found path (Some node) None r e = cc
with_found path (Some node) (Some flag) r e =
    let same_row : ◌≡◌ {A = Row} (record { path = path; node = node; flag = flag }) r = some_is _ r e in
    (ap (λ (q : Row). Some q.node) same_row, ap (λ (q : Row). Some q.flag) same_row, ap (λ (q : Row). q.path) same_row)

record IsBehind (path rest : List ℕ) (r : Row) : Type 0 where
  pub some_path : (length path == 0) ≡ false
  pub path_is : path ≡ r.path
  pub rest_is : rest ≡ hex r.node ++ flag_text r.flag
  pub digits : AreDigits (hex r.node) r.node

behind-step : (t : Bool) (path rest : List ℕ) (r : Row) → (length path == 0) ≡ t → cond t None (row_with path (node_at (take 40 rest)) (flag_at (drop 40 rest))) ≡ Some r → IsBehind path rest r
behind-step true path rest r t e = cc
behind-step false path rest r t e =
    let w = with_found path (node_at (take 40 rest)) (flag_at (drop 40 rest)) r e in
    let n = node_found (take 40 rest) r.node w.0 in
    let f = flag_found (drop 40 rest) r.flag w.1 in
    record {
      some_path = t;
      path_is = w.2;
      rest_is = sym (take-append-drop 40 rest) ∙ ap (λ l. l ++ drop 40 rest) n.text ∙ ap (λ l. hex r.node ++ l) f;
      digits = record { text = refl; len = n.len; bytes = n.bytes };
    }

record IsLineOf (bytes : List ℕ) (r : Row) : Type 0 where
  pub is : bytes ≡ row_line r
  pub row : IsRow r

parts-step : (s : Option (List ℕ × List ℕ)) (bytes : List ℕ) (r : Row) → split 0 bytes ≡ s → row_of_parts s ≡ Some r → Lacks 10 bytes → IsLineOf bytes r
unfolding row_line
parts-step None bytes r t e lf = cc
parts-step (Some x) bytes r t e lf =
    let p = split_parts 0 bytes x t in
    let b = behind-step (length x.0 == 0) x.0 x.1 r refl e in
    let whole : bytes ≡ row_line r = p.0 ∙ ap (λ l. x.0 ++ 0 ∷ l) b.rest_is ∙ ap (λ q. q ++ 0 ∷ (hex r.node ++ flag_text r.flag)) b.path_is in
    let N : List ℕ → Type 0 = λ q. Lacks 0 q in
    let L : List ℕ → Type 0 = λ q. Lacks 10 q in
    let S : List ℕ → Type 0 = λ q. (length q == 0) ≡ false in
    record {
      is = whole;
      row = record {
        some_path = subst S b.path_is b.some_path;
        no_nul = subst N b.path_is p.1;
        no_lf = lacks_front 10 r.path (0 ∷ (hex r.node ++ flag_text r.flag)) (subst L whole lf);
        node = b.digits.len;
        bytes = b.digits.bytes;
      };
    }

line-step : (t : Bool) (bytes : List ℕ) (r : Row) → cond t (row_of_parts (split 0 bytes)) None ≡ Some r → Lacks 10 bytes → (t ≡ true) × IsLineOf bytes r
line-step true bytes r e lf = (refl, parts-step (split 0 bytes) bytes r refl e lf)
line-step false bytes r e lf = cc

with_row_ok : (r : Row) (x : Result (List Row) ManifestFault) (rows : List Row) → with_row r x ≡ Ok rows → (rs : List Row) × (x ≡ Ok rs) × (r ∷ rs ≡ rows)
with_row_ok r (Ok rs) rows e = (rs, refl, (let k : r ∷ rs ≡ rows = cc in k))
with_row_ok r (Err f) rows e = cc

below-step : (t : Bool) (n : ℕ) (x : Result (List Row) ManifestFault) (rows : List Row) → cond t x (Err (Order n)) ≡ Ok rows → (t ≡ true) × (x ≡ Ok rows)
below-step true n x rows e = (refl, e)
below-step false n x rows e = cc

record AreText (last : List ℕ) (text : List ℕ) (rows : List Row) : Type 0 where
  pub text_is : text ≡ manifest_text rows
  pub in_order : AscendFrom last rows

then-step : (o : Option Row) (n : ℕ) (last : List ℕ) (p : TextLine) (ps : List TextLine) (rows : List Row) → row_at p ≡ o → row_then n last o (λ k path. rows_from k path ps) ≡ Ok rows → Lacks 10 p.0 →
    ((k : ℕ) (path : List ℕ) (rs : List Row) → rows_from k path ps ≡ Ok rs → AreText path (unlines ps) rs) → AreText last (unlines (p ∷ ps)) rows
unfolding unlines
then-step None n last p ps rows a e lf h = cc
then-step (Some r) n last p ps rows a e lf h =
    let b = below-step (is_below last r.path) (n + 1) (with_row r (rows_from (n + 1) r.path ps)) rows e in
    let w = with_row_ok r (rows_from (n + 1) r.path ps) rows b.1 in
    let rest = h (n + 1) r.path w.0 w.1 in
    let l = line-step p.1 p.0 r a lf in
    let P : List Row → Type 0 = λ rs. AreText last (p.0 ++ cond p.1 (10 ∷ unlines ps) (unlines ps)) rs in
    subst P w.2 (record {
      text_is = ap (λ t. p.0 ++ cond t (10 ∷ unlines ps) (unlines ps)) l.0 ∙ ap (λ q. q ++ 10 ∷ unlines ps) l.1.is ∙ sym (row_text-line r (unlines ps)) ∙ ap (λ q. row_text r ++ q) rest.text_is;
      in_order = (l.1.row, b.0, rest.in_order);
    })

rows_found : (n : ℕ) (last : List ℕ) (ps : List TextLine) (rows : List Row) → rows_from n last ps ≡ Ok rows → LinesLack ps → AreText last (unlines ps) rows
unfolding unlines
rows_found n last [] rows e lf = let k : [] ≡ rows = cc in let P : List Row → Type 0 = λ rs. AreText last [] rs in subst P k (record { text_is = refl; in_order = tt })
rows_found n last (p ∷ ps) rows e lf = then-step (row_at p) n last p ps rows refl e lf.0 (λ k path rs h. rows_found k path ps rs h lf.1)

pub manifest_found : (text : List ℕ) (rows : List Row) → read_manifest text ≡ Ok rows → (text ≡ manifest_text rows) × AreRows rows
manifest_found text rows e =
    let f = rows_found 0 [] (lines_of text) rows e (lines_lack text) in
    (sym (unlines-lines_of text) ∙ f.text_is, f.in_order)
