-- What is read first and what is read behind it, what is there, and a fault in place of it.
use Rattle.std.proofs.Common.{◌≡◌, ◌⊎◌, inl, inr, ℕ, ◌<◌, ◌≤◌, Bool, true, false, ◌&&◌, List, [], ◌∷◌, ◌++◌, length, Option, Some, None, Result, Ok, Err, refl, sym, ◌∙◌, ap, arith, length-append}
use Rattle.std.specs.Prelude.{⊤}
use Rattle.std.specs.Bool.{MatchBool}
use Rattle.std.specs.Option.{option_map, option_or}
use Rattle.hgs_bytes.specs.Text.{split}
use Rattle.hgs_bytes.specs.Theorems.TextLemmas.{split_shorter}
use Rattle.hgs_model.specs.declared.command.NewChange.{NewChange}
use Rattle.hgs_model.specs.Valid.{IsNewChange}
use Rattle.hgs_input.specs.declared.fault.InputFault.{InputFault}
use Rattle.hgs_input.specs.Front.{IsImportBefore, IsRecordBefore, left}
use Rattle.hgs_input.specs.Import.{IsImportText, import_from}
use Rattle.hgs_input.specs.Record.{Wording, record_text}
use Rattle.hgs_input.specs.Read.{Rest, ◌>>=◌, bad_at, line_or_cut, next_line, required_at, and_then, where_true, record_from, is_memory}

pub record Bound {A B : Type 0} (x : Result A InputFault) (f : A → Result B InputFault) (y : B) : Type 0 where
  pub value : A
  pub is : x ≡ Ok value
  pub gives : f value ≡ Ok y

pub bound : {A B : Type 0} (x : Result A InputFault) (f : A → Result B InputFault) (y : B) → (x >>= f) ≡ Ok y → Bound x f y
bound (Ok a) f y e = record { value = a; is = refl; gives = e }
bound (Err d) f y e = cc

pub then_ok : {A B : Type 0} (x : Result A InputFault) (a : A) (f : A → Result B InputFault) (y : Result B InputFault) → x ≡ Ok a → f a ≡ y → (x >>= f) ≡ y
then_ok x a f y e h = ap (λ r. r >>= f) e ∙ h

pub ok_is : {A : Type 0} (x y : A) → ◌≡◌ {A = Result A InputFault} (Ok x) (Ok y) → x ≡ y
ok_is x y e = cc

-- ---- what is there

pub some_is : {A : Type 0} (x y : A) → Some x ≡ Some y → x ≡ y
some_is x y e = cc

pub none_some : {A : Type 0} (x : A) → ◌≡◌ {A = Option A} None (Some x) → ⊥
none_some x e = cc

pub or_some : {A : Type 0} (a b : Option A) (x : A) → option_or a b ≡ Some x → (a ≡ Some x) ⊎ (b ≡ Some x)
or_some None b x e = inr e
or_some (Some y) b x e = inl e

pub map_some : {A B : Type 0} (f : A → B) (o : Option A) (y : B) → option_map f o ≡ Some y → (x : A) × (o ≡ Some x) × (f x ≡ y)
map_some f None y e = cc
map_some f (Some x) y e = (x, refl, some_is (f x) y e)

pub then_some : {A B : Type 0} (o : Option A) (f : A → Option B) (y : B) → and_then o f ≡ Some y → (x : A) × (o ≡ Some x) × (f x ≡ Some y)
then_some None f y e = cc
then_some (Some x) f y e = (x, refl, e)

pub and_then_back : {A B : Type 0} (o : Option A) (x : A) (f : A → Option B) (y : Option B) → o ≡ Some x → f x ≡ y → and_then o f ≡ y
and_then_back o x f y e h = ap (λ p. and_then p f) e ∙ h

pub where_some : {A : Type 0} (b : Bool) (x y : A) → where_true b x ≡ Some y → (b ≡ true) × (x ≡ y)
where_some true x y e = (refl, some_is x y e)
where_some false x y e = cc

pub both : (a b : Bool) → (a && b) ≡ true → (a ≡ true) × (b ≡ true)
both true b e = (refl, e)
both false b e = cc

pub required_is : {A : Type 0} (at : ℕ) (o : Option A) (r : Rest) (p : A × Rest) → required_at at o r ≡ Ok p → (o ≡ Some p.0) × (p.1 ≡ r)
required_is at None r p e = cc
required_is {A} at (Some x) r p e = let same = ok_is {A = A × Rest} (x, r) p e in (ap (λ (q : A × Rest). Some q.0) same, sym (ap (λ (q : A × Rest). q.1) same))

-- ---- fewer bytes are left

pub line_fewer : (r : Rest) (l : List ℕ × Rest) → next_line r ≡ Ok l → length l.1.bytes < length r.bytes
line_fewer r l e = by (split 10 r.bytes) refl e
  where
    by : (s : Option (List ℕ × List ℕ)) → split 10 r.bytes ≡ s → line_or_cut r s ≡ Ok l → length l.1.bytes < length r.bytes
    by None h k = cc
    by (Some p) h k =
        let few = split_shorter 10 r.bytes p h in
        let same = ap (λ q. length q.1.bytes) (ok_is {A = List ℕ × Rest} (p.0, record r { bytes = p.1 }) l k) in
        omega (arith, few, same)

-- where the bytes are at an end, the next line is cut
pub line_at_end : (r : Rest) → length r.bytes ≤ 0 → next_line r ≡ Err (bad_at r.whole)
line_at_end r h = ap (λ s. line_or_cut r s) (ap (split 10) (none r.bytes h))
  where
    none : (xs : List ℕ) → length xs ≤ 0 → xs ≡ []
    none [] h = refl
    none (x ∷ xs) h = absurd (omega (arith, h))

-- what is read as a record stands before the rest
abbrev pub RecordsStand : Type 0
RecordsStand = (r rest : Rest) (c : NewChange) → record_from r ≡ Ok (c, rest) → IsRecordBefore r c rest

-- a record is read where other bytes stand behind it
abbrev pub RecordsRead : Type 0
RecordsRead = (says : Wording) (c : NewChange) (whole : ℕ) (behind : List ℕ) → IsNewChange c → record_from (left whole (record_text says c ++ behind)) ≡ Ok (c, left whole behind)

pub record_fewer : RecordsStand → (r : Rest) (p : NewChange × Rest) → record_from r ≡ Ok p → length p.1.bytes ≤ length r.bytes
record_fewer stand r p e =
    let h = stand r p.1 p.0 e in
    let size = ap length h.text ∙ length-append (record_text h.says p.0) p.1.bytes in
    omega (arith, size)

-- so are those of an import
abbrev pub ImportsStand : Type 0
ImportsStand = (r rest : Rest) (changes : List NewChange) → import_from r ≡ Ok (changes, rest) → IsImportBefore r changes rest

abbrev pub ImportsRead : Type 0
ImportsRead = (text : List ℕ) (changes : List NewChange) (whole : ℕ) (behind : List ℕ) → IsImportText text changes → import_from (left whole (text ++ behind)) ≡ Ok (changes, left whole behind)

pub import_fewer : ImportsStand → (r : Rest) (p : List NewChange × Rest) → import_from r ≡ Ok p → length p.1.bytes ≤ length r.bytes
import_fewer stand r p e =
    let h = stand r p.1 p.0 e in
    let size = ap length h.is ∙ length-append h.text p.1.bytes in
    omega (arith, size)

-- ---- the fault that the definition gives, where want of memory is free

abbrev pub Refused : {A : Type 0} → InputFault → Result A InputFault → Type 0
Refused e answer = MatchBool (is_memory e) ⊤ (answer ≡ Err e)

pub free : (b : Bool) (P Q : Type 0) → (P → Q) → MatchBool b ⊤ P → MatchBool b ⊤ Q
free true P Q f h = tt
free false P Q f h = f h
