-- Lines that are read and written, and what stands before the rest of an input.
use Rattle.std.proofs.Common.{◌≡◌, ℕ, ◌+◌, ◌<◌, ◌≤◌, ◌^◌, Bool, true, false, List, [], ◌∷◌, ◌++◌, Option, Some, None, Ok, refl, sym, ◌∙◌, ap, subst, append_assoc}
use Rattle.std.specs.List.{list_any}
use Rattle.std.specs.Prelude.{◌==◌, ◌||◌, decimal}
use Rattle.hgs_bytes.specs.Bytes.{same}
use Rattle.hgs_bytes.specs.Text.{Lacks, line, split}
use Rattle.hgs_bytes.specs.Theorems.ByteLemmas.{same-eq}
use Rattle.hgs_bytes.specs.Theorems.TextLemmas.{lacks-append, split_over, split_parts}
use Rattle.hgs_index.specs.MarkName.{is_mark_name}
use Rattle.hgs_model.specs.declared.phase.Phase.{Phase}
use Rattle.hgs_model.specs.declared.phase.Phase.TheVariants.{Public, Draft, Secret}
use Rattle.hgs_model.specs.Phase.{phase_name}
use Rattle.hgs_input.specs.Front.{left}
use Rattle.hgs_input.specs.Read.{Rest, place, line_or_cut, next_line, required_at, required, number_up_to}
use Rattle.hgs_schedule.specs.Read.{has_space, target_of}
use Rattle.hgs_schedule.specs.Schedule.{force_text}
use Rattle.hgs_schedule.specs.Theorems.ReadLemmas.{bound, then_ok, ok_is, required_is}

-- ---- texts without a byte

pub lacks_lf : (xs : List ℕ) → list_any (λ b. b == 10) xs ≡ false → Lacks 10 xs
lacks_lf [] h = tt
lacks_lf (x ∷ xs) h = by (x == 10) refl h (lacks_lf xs)
  where
    by : (t : Bool) → (x == 10) ≡ t → (t || list_any (λ b. b == 10) xs) ≡ false → (list_any (λ b. b == 10) xs ≡ false → Lacks 10 xs) → Lacks 10 (x ∷ xs)
    by true a k next = cc
    by false a k next = (a, next k)

-- two words with a space between are a line
pub spaced : (xs ys : List ℕ) → Lacks 10 xs → Lacks 10 ys → Lacks 10 (xs ++ 32 ∷ ys)
spaced xs ys h k = lacks-append 10 xs (32 ∷ ys) h (refl, k)

pub no_space : (xs : List ℕ) → Lacks 32 xs → has_space xs ≡ false
no_space [] h = refl
no_space (x ∷ xs) h = ap (λ t. t || list_any (λ b. b == 32) xs) h.0 ∙ no_space xs h.1

-- what is said below of numbers and names
pub record Words : Type 0 where
  pub numbers : (most n : ℕ) → n ≤ most + 1 → most + 1 < 2 ^ 64 → number_up_to most (decimal n) ≡ Some n
  pub digits : (byte n : ℕ) → byte < 45 → n < 2 ^ 64 → Lacks byte (decimal n)
  pub names : (name : List ℕ) → is_mark_name name ≡ true → Lacks 10 name

-- ---- the phase that a command asks for

pub target_back : (phase : Phase) (force : Bool) → target_of (phase_name phase ++ force_text force) ≡ Some (phase, force)
target_back Public true = refl
target_back Public false = refl
target_back Draft true = refl
target_back Draft false = refl
target_back Secret true = refl
target_back Secret false = refl

pub target_line : (phase : Phase) (force : Bool) → Lacks 10 (phase_name phase ++ force_text force)
target_line Public true = lacks_lf (phase_name Public ++ force_text true) refl
target_line Public false = lacks_lf (phase_name Public ++ force_text false) refl
target_line Draft true = lacks_lf (phase_name Draft ++ force_text true) refl
target_line Draft false = lacks_lf (phase_name Draft ++ force_text false) refl
target_line Secret true = lacks_lf (phase_name Secret ++ force_text true) refl
target_line Secret false = lacks_lf (phase_name Secret ++ force_text false) refl

-- ---- what stands before the rest of an input

pub record Before (r : Rest) (text : List ℕ) (rest : Rest) : Type 0 where
  pub is : r.bytes ≡ text ++ rest.bytes
  pub whole : rest.whole ≡ r.whole

pub before_both : (r mid rest : Rest) (a b : List ℕ) → Before r a mid → Before mid b rest → Before r (a ++ b) rest
before_both r mid rest a b f g = record { is = f.is ∙ ap (λ t. a ++ t) g.is ∙ sym (append_assoc a b rest.bytes); whole = g.whole ∙ f.whole }

line_then : (text rest : List ℕ) → line text ++ rest ≡ text ++ 10 ∷ rest
line_then text rest = append_assoc text (10 ∷ []) rest

pub record LineFound (r : Rest) (text : List ℕ) (rest : Rest) : Type 0 where
  pub before : Before r (line text) rest
  pub lacks : Lacks 10 text

pub line_found : (r : Rest) (l : List ℕ × Rest) → next_line r ≡ Ok l → LineFound r l.0 l.1
line_found r l e = by (split 10 r.bytes) refl e
  where
    by : (s : Option (List ℕ × List ℕ)) → split 10 r.bytes ≡ s → line_or_cut r s ≡ Ok l → LineFound r l.0 l.1
    by None h k = cc
    by (Some p) h k =
        let parts = split_parts 10 r.bytes p h in
        let found : LineFound r p.0 (record r { bytes = p.1 }) = record { before = record { is = parts.0 ∙ sym (line_then p.0 p.1); whole = refl }; lacks = parts.1 } in
        let P : List ℕ × Rest → Type 0 = λ q. LineFound r q.0 q.1 in
        subst P (ok_is {A = List ℕ × Rest} (p.0, record r { bytes = p.1 }) l k) found

pub line_back : (w : ℕ) (text rest : List ℕ) → Lacks 10 text → next_line (left w (line text ++ rest)) ≡ Ok (text, left w rest)
line_back w text rest l = ap (line_or_cut (left w (line text ++ rest))) (ap (split 10) (line_then text rest) ∙ split_over 10 text rest l)

-- a line of this form
pub record FormFound (form : List ℕ → Option ℕ) (r : Rest) (n : ℕ) (rest : Rest) : Type 0 where
  pub said : List ℕ
  pub found : LineFound r said rest
  pub says : form said ≡ Some n

pub form_found : (form : List ℕ → Option ℕ) (r : Rest) (n : ℕ × Rest) → required form r ≡ Ok n → FormFound form r n.0 n.1
form_found form r n e =
    let l = bound (next_line r) (λ l. required_at (place r) (form l.0) l.1) n e in
    let h = required_is (place r) (form l.value.0) l.value.1 n l.gives in
    record { said = l.value.0; found = subst (LineFound r l.value.0) (sym h.1) (line_found r l.value l.is); says = h.0 }

pub form_back : (form : List ℕ → Option ℕ) (w : ℕ) (first rest : List ℕ) (n : ℕ) → Lacks 10 first → form first ≡ Some n → required form (left w (line first ++ rest)) ≡ Ok (n, left w rest)
form_back form w first rest n lacks says =
    let r = left w (line first ++ rest) in
    then_ok (next_line r) (first, left w rest) (λ l. required_at (place r) (form l.0) l.1) (Ok (n, left w rest)) (line_back w first rest lacks) (ap (λ o. required_at (place r) o (left w rest)) says)

-- ---- lines that are not the same

-- what cannot hold where two texts are the same tells them apart
pub unlike : (a b : List ℕ) → (a ≡ b → ⊥) → same a b ≡ false
unlike a b never = by (same a b) refl
  where
    by : (t : Bool) → same a b ≡ t → same a b ≡ false
    by true h = absurd (never (same-eq a b h))
    by false h = h
