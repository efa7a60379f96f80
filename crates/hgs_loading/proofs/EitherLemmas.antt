-- An index of either form, as it is read.
use Rattle.std.proofs.Common.{◌≡◌, ◌<◌, ℕ, List, true, false, cond, length, take, Result, Ok, Err, sym, ◌∙◌, ap, subst, arith}
use Rattle.std.proofs.lemmas.List.{length-take, take_all}
use Rattle.std.specs.Prelude.{⊤}
use Rattle.std.specs.Bool.{MatchBool}
use Rattle.hgs_bytes.specs.Answer.{Gives}
use Rattle.hgs_files.specs.Tree.{Tree, bytes_at}
use Rattle.hgs_load.specs.declared.answer.ReadAnswer.{ReadAnswer}
use Rattle.hgs_load.specs.Answer.{is_of_outside}
use Rattle.hgs_revlog.specs.Log.{Log}
use Rattle.hgs_loading.specs.Logs.{either_index_in, has_more, index_in}
use Rattle.hgs_loading.specs.Theorems.FoundLemmas.{either}

abbrev Bytes : Type 0
Bytes = Result (List ℕ) ReadAnswer

ok-is : (x y : List ℕ) → (let r : Bytes = Ok x in r) ≡ Ok y → x ≡ y
ok-is x y e = cc

no-err : {A : Type 0} (x : List ℕ) (e : ReadAnswer) → (let r : Bytes = Ok x in r) ≡ Err e → A
no-err x e h = absurd (no h)
  where
    no : (let r : Bytes = Ok x in r) ≡ Err e → ⊥
    no k = cc

pub not-more : (index : List ℕ) (t : Tree) (bytes : List ℕ) → has_more bytes ≡ false → (let r : Bytes = Ok (index_in index t) in r) ≡ Ok bytes → (let r : Bytes = Ok (either_index_in index t) in r) ≡ Ok bytes
not-more index t bytes less e =
    let is = ok-is (index_in index t) bytes e in
    ap (λ b. let r : Bytes = Ok (cond b (bytes_at t index) (index_in index t)) in r) (ap has_more is ∙ less) ∙ e

pub all-items : (index : List ℕ) (t : Tree) (bytes all : List ℕ) → has_more bytes ≡ true → (let r : Bytes = Ok (index_in index t) in r) ≡ Ok bytes → (let r : Bytes = Ok (bytes_at t index) in r) ≡ Ok all → (let r : Bytes = Ok (either_index_in index t) in r) ≡ Ok all
all-items index t bytes all more e h =
    let is = ok-is (index_in index t) bytes e in
    ap (λ b. let r : Bytes = Ok (cond b (bytes_at t index) (index_in index t)) in r) (ap has_more is ∙ more) ∙ h

-- a read that was refused was refused by the outside
pub refused-bytes : (x y : List ℕ) (e : ReadAnswer) → MatchBool (is_of_outside e) ⊤ ((let r : Bytes = Ok x in r) ≡ Err e) → MatchBool (is_of_outside e) ⊤ ((let r : Bytes = Ok y in r) ≡ Err e)
refused-bytes x y e h = either (is_of_outside e) _ _ (λ k. no-err x e k) h

-- the revlog of what was read
abbrev Logs : Type 0
Logs = Result Log ReadAnswer

pub given-by : {V : Type 0} (view : V → Log) (f : List ℕ → Logs) (x bytes : List ℕ) (r : Result V ReadAnswer) → (let g : Bytes = Ok x in g) ≡ Ok bytes → Gives is_of_outside view r (f bytes) → Gives is_of_outside view r (f x)
given-by view f x bytes r e h = subst (λ b. Gives is_of_outside view r (f b)) (sym (ok-is x bytes e)) h

pub log-refused : (f : List ℕ → Logs) (x : List ℕ) (e : ReadAnswer) → MatchBool (is_of_outside e) ⊤ ((let g : Bytes = Ok x in g) ≡ Err e) → MatchBool (is_of_outside e) ⊤ (f x ≡ Err e)
log-refused f x e h = either (is_of_outside e) ((let g : Bytes = Ok x in g) ≡ Err e) (f x ≡ Err e) (λ k. no-err x e k) h

-- fewer bytes were read than were asked for: it is all of them
pub all-bytes : (n : ℕ) (file bytes : List ℕ) → length bytes < n → (let g : Bytes = Ok (take n file) in g) ≡ Ok bytes → (let g : Bytes = Ok file in g) ≡ Ok bytes
all-bytes n file bytes less e =
    let is = ok-is (take n file) bytes e in
    let size = ap length is in
    let most = length-take n file in
    ap (λ l. let g : Bytes = Ok l in g) (sym (take_all n file (omega (arith, size, most, less))) ∙ is)
