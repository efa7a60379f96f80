-- Which texts are read as lists of names.
use Rattle.std.proofs.Common.{◌≡◌, ℕ, ◌+◌, Bool, true, false, cond, ◌&&◌, List, [], ◌∷◌, ◌++◌, Result, Ok, Err, refl, sym, ◌∙◌, ap, subst, append_assoc}
use Rattle.std.specs.List.{AllByRecursion}
use Rattle.hgs_bytes.specs.Text.{Line as TextLine, lines, lines_of}
use Rattle.hgs_bytes.specs.Theorems.TextLemmas.{lines_split, split_over, unlines, unlines-lines_of, LinesLack, lines_lack}
use Rattle.hgs_path.specs.declared.fncache.FncacheFault.{FncacheFault}
use Rattle.hgs_path.specs.declared.fncache.FncacheFault.TheVariants.{Line}
use Rattle.hgs_path.specs.ListedNames.{is_listed, with_name, names_from, names_of}
use Rattle.hgs_path.specs.ListText.{IsName, IsListOf}

-- ---- a list is read again

names-back : (n : ℕ) (names : List (List ℕ)) → AllByRecursion IsName names → names_from n (lines_of (lines names)) ≡ Ok names
names-back n [] h = refl
names-back n (x ∷ names) h =
    ap (λ t. names_from n (lines_of t)) (append_assoc x (10 ∷ []) (lines names))
    ∙ ap (names_from n) (lines_split (x ++ 10 ∷ lines names) (x, lines names) (split_over 10 x (lines names) h.0.no_lf))
    ∙ ap (λ b. cond b (with_name x (names_from (n + 1) (lines_of (lines names)))) (Err (Line n))) h.0.listed
    ∙ ap (with_name x) (names-back (n + 1) names h.1)

-- ---- what is read is a list

ok_is : (x y : List (List ℕ)) → (let a : Result (List (List ℕ)) FncacheFault = Ok x in a) ≡ Ok y → x ≡ y
ok_is x y e = cc

names-found : (n : ℕ) (ls : List TextLine) (names : List (List ℕ)) → LinesLack ls → names_from n ls ≡ Ok names → IsListOf names (unlines ls)
unfolding unlines
names-found n [] names lack e = subst (λ l. IsListOf l []) (ok_is [] names e) (record { each = tt; text_is = refl })
names-found n (l ∷ ls) names lack e = by (λ more k. names-found (n + 1) ls more lack.1 k) l.1 refl (is_listed l.0) refl (names_from (n + 1) ls) refl e
  where
    by : ((more : List (List ℕ)) → names_from (n + 1) ls ≡ Ok more → IsListOf more (unlines ls)) → (w : Bool) → l.1 ≡ w → (s : Bool) → is_listed l.0 ≡ s → (r : Result (List (List ℕ)) FncacheFault) → names_from (n + 1) ls ≡ r → cond (w && s) (with_name l.0 r) (Err (Line n)) ≡ Ok names
        → IsListOf names (l.0 ++ cond l.1 (10 ∷ unlines ls) (unlines ls))
    by behind true whole true listed (Ok more) read k =
        let rest = behind more read in
        subst (λ all. IsListOf all (l.0 ++ cond l.1 (10 ∷ unlines ls) (unlines ls))) (ok_is (l.0 ∷ more) names k)
        (record {
          each = (record { listed = listed; no_lf = lack.0 }, rest.each);
          text_is = ap (λ w. l.0 ++ cond w (10 ∷ unlines ls) (unlines ls)) whole ∙ ap (λ t. l.0 ++ 10 ∷ t) rest.text_is ∙ sym (append_assoc l.0 (10 ∷ []) (lines more));
        })
    by behind true whole true listed (Err f) read k = cc
    by behind true whole false listed r read k = cc
    by behind false whole s listed r read k = cc

pub list-texts : (names : List (List ℕ)) (text : List ℕ) → (names_of text ≡ Ok names → IsListOf names text) × (IsListOf names text → names_of text ≡ Ok names)
list-texts names text = (
  λ e. subst (IsListOf names) (unlines-lines_of text) (names-found 1 (lines_of text) names (lines_lack text) e),
  λ h. ap names_of h.text_is ∙ names-back 1 names h.each,
)
