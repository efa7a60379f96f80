-- A changelog in either form, and bytes that go on from it.
use Rattle.std.proofs.Common.{◌≡◌, ◌⊎◌, ℕ, suc, ◌<◌, ◌≤◌, List, [], ◌∷◌, ◌++◌, Bool, true, false, cond, length, map, min, Option, Some, None, Result, Ok, Err, refl, sym, ◌∙◌, ap, subst, inl, inr, arith}
use Rattle.std.specs.Prelude.{nat_lt, unwrap_or}
use Rattle.std.specs.List.{concat}
use Rattle.std.proofs.lemmas.Bool.Decides.{nat_tests}
use Rattle.std.proofs.lemmas.List.{take_all, length-take}
use Rattle.hgs_bytes.specs.Bytes.{IsPrefixOf}
use Rattle.hgs_files.specs.declared.op.Op.{Op}
use Rattle.hgs_files.specs.Tree.{Tree, bytes_at, after_all}
use Rattle.hgs_index.specs.declared.kinds.Which.TheVariants.{Part}
use Rattle.hgs_index.specs.Either.{HoldsEither, chunk_bytes, chunks_either}
use Rattle.hgs_index.specs.Inline.{index_apart, is_inline}
use Rattle.hgs_index.specs.Revision.{Revision}
use Rattle.hgs_index.specs.Revlog.{Holds, HoldsRevisions, Stored, index_bytes, items}
use Rattle.hgs_index.specs.Theorems.EitherLemmas.{held-form}
use Rattle.hgs_index.specs.Theorems.InlineLemmas.{apart-front}
use Rattle.hgs_revlog.specs.declared.fault.RevFault.{RevFault}
use Rattle.hgs_revlog.specs.Load.{in_form}
use Rattle.hgs_revlog.specs.Log.{Log}
use Rattle.hgs_load.specs.declared.answer.ReadAnswer.{ReadAnswer}
use Rattle.hgs_load.specs.declared.answer.ReadAnswer.TheVariants.{Limit}
use Rattle.hgs_load.specs.Asks.{Asks, answer, read, part_of, then_asks, MayAnswer}
use Rattle.hgs_load.specs.Form.{unless_inline}
use Rattle.hgs_load.specs.View.{pieces_by, piece_length}
use Rattle.hgs_load.specs.Whole.{is_above, within}
use Rattle.hgs_load.specs.Theorems.FormLemmas.{first_says}
use Rattle.hgs_stands.specs.Theorems.FormLemmas.{apart-held, plain-apart}
use Rattle.hgs_views.specs.Course.{IsBetween}
use Rattle.hgs_views.proofs.Basics.{prefix-refl, part_is, may-front}

-- ---- taken apart

pub plain-chunks : (index data_bytes : List ℕ) → is_inline index ≡ false → chunks_either index data_bytes ≡ data_bytes
plain-chunks index data_bytes e = ap (λ b. chunk_bytes b index data_bytes) e

-- no revisions are no bytes
nothing-held : (inline : Bool) (index data_bytes : List ℕ) → Holds inline index data_bytes [] → index ≡ []
nothing-held inline index data_bytes h = by h.stored h.these h.index_is
  where
    by : (stored : List Stored) → map (λ s. s.revision) stored ≡ [] → index ≡ index_bytes h.header (items stored) → index ≡ []
    by [] these is = is
    by (s ∷ stored) these is = cc

no-chunks : (index data_bytes : List ℕ) → HoldsRevisions index data_bytes [] → data_bytes ≡ []
no-chunks index data_bytes h = by h.stored h.these h.data_is
  where
    by : (stored : List Stored) → map (λ s. s.revision) stored ≡ [] → data_bytes ≡ concat (map (λ s. s.chunk) stored) → data_bytes ≡ []
    by [] these is = is
    by (s ∷ stored) these is = cc

front-of-none : (front all : List ℕ) → front ≡ [] → IsPrefixOf front all
front-of-none front all e = (all, ap (λ l. l ++ all) (sym e))

-- an index that holds a revision keeps its form
pub same-form : (inline : Bool) (index data_bytes more : List ℕ) (revisions : List Revision) → 0 < length revisions → Holds inline index data_bytes revisions → is_inline (index ++ more) ≡ inline
same-form inline index data_bytes more [] some held = absurd (omega (arith, some))
same-form inline index data_bytes more (r ∷ revisions) some held = held-form inline index data_bytes more r revisions held

-- what goes on as a separate index was one
pub plain-front : (index data_bytes more : List ℕ) (revisions : List Revision) → HoldsEither index data_bytes revisions → is_inline (index ++ more) ≡ false → is_inline index ≡ false
plain-front index data_bytes more [] held e = ap is_inline (nothing-held (is_inline index) index data_bytes held)
plain-front index data_bytes more (r ∷ revisions) held e = sym (held-form (is_inline index) index data_bytes more r revisions held) ∙ e

-- what an index is taken apart into stands in front where more stands behind it
pub index-longer : (index data_bytes more : List ℕ) (revisions : List Revision) → HoldsEither index data_bytes revisions → IsPrefixOf (index_apart index) (index_apart (index ++ more))
index-longer index data_bytes more [] held = front-of-none (index_apart index) (index_apart (index ++ more)) (nothing-held false (index_apart index) (chunks_either index data_bytes) (apart-held index data_bytes [] held))
index-longer index data_bytes more (r ∷ revisions) held = by (is_inline index) refl
  where
    form : is_inline (index ++ more) ≡ is_inline index
    form = held-form (is_inline index) index data_bytes more r revisions held

    by : (b : Bool) → is_inline index ≡ b → IsPrefixOf (index_apart index) (index_apart (index ++ more))
    by false e = (more, plain-apart (index ++ more) (form ∙ e) ∙ ap (λ l. l ++ more) (sym (plain-apart index e)))
    by true e = (apart-front index more data_bytes r revisions (form ∙ e) (subst (λ b. Holds b index data_bytes (r ∷ revisions)) e held)).0

-- and so do its chunks, where more stands behind the data too
pub chunks-longer : (index data_bytes more data_on : List ℕ) (revisions : List Revision) → HoldsEither index data_bytes revisions → IsPrefixOf data_bytes data_on → IsPrefixOf (chunks_either index data_bytes) (chunks_either (index ++ more) data_on)
chunks-longer index data_bytes more data_on [] held p = front-of-none (chunks_either index data_bytes) (chunks_either (index ++ more) data_on) (no-chunks (index_apart index) (chunks_either index data_bytes) (apart-held index data_bytes [] held))
chunks-longer index data_bytes more data_on (r ∷ revisions) held p = by (is_inline index) refl
  where
    form : is_inline (index ++ more) ≡ is_inline index
    form = held-form (is_inline index) index data_bytes more r revisions held

    by : (b : Bool) → is_inline index ≡ b → IsPrefixOf (chunks_either index data_bytes) (chunks_either (index ++ more) data_on)
    by false e = (p.0, plain-chunks (index ++ more) data_on (form ∙ e) ∙ p.1 ∙ ap (λ l. l ++ p.0) (sym (plain-chunks index data_bytes e)))
    by true e =
        let f = (apart-front index more data_bytes r revisions (form ∙ e) (subst (λ b. Holds b index data_bytes (r ∷ revisions)) e held)).1 in
        (f.0, ap (λ b. chunk_bytes b (index ++ more) data_on) (form ∙ e) ∙ f.1 ∙ ap (λ l. l ++ f.0) (sym (ap (λ b. chunk_bytes b index data_bytes) e)))

-- a history in a form is one of the separate index
pub out-of-form : (inline : Bool) (r : Result Log RevFault) (log : Log) → in_form inline r ≡ Ok log → (apart : Log) × (r ≡ Ok apart) × (apart.entries ≡ log.entries)
out-of-form inline (Err f) log e = cc
out-of-form inline (Ok apart) log e = (apart, refl, entries-same (record { inline = inline; entries = apart.entries }) log e)
  where
    entries-same : (a b : Log) → (let r : Result Log RevFault = Ok a in r) ≡ Ok b → a.entries ≡ b.entries
    entries-same a b e = cc

-- ---- the first read

-- what is left of a question whose first read is answered from this list
abbrev pub FirstAt : {A B : Type 0} → Tree → List Op → Asks (Result A ReadAnswer) → (A → Asks (Result B ReadAnswer)) → List Op → Result B ReadAnswer → Type 0
FirstAt start log (answer x) more last y = MayAnswer start log (then_asks (answer x) more) last y
FirstAt start log (read path at most rest) more last y = MayAnswer start log (then_asks (rest (part_of (after_all log start) path at most)) more) last y

pub read-first : {A B : Type 0} (start : Tree) (log : List Op) (q : Asks (Result A ReadAnswer)) (more : A → Asks (Result B ReadAnswer)) (last : List Op) (y : Result B ReadAnswer) → FirstAt start log q more last y → MayAnswer start log (then_asks q more) last y
read-first start log (answer x) more last y m = m
read-first start log (read path at most rest) more last y m = (log, prefix-refl log, m)

-- it says which of two questions goes on
pub said : {A B : Type 0} (start : Tree) (from last : List Op) (inline q : Asks (Result A ReadAnswer)) (more : A → Asks (Result B ReadAnswer)) (y : Result B ReadAnswer) → MayAnswer start from (then_asks (unless_inline inline q) more) last y
    → (log : List Op) × IsBetween from last log × (((first_says (after_all log start) q ≡ true) × MayAnswer start log (then_asks inline more) last y) ⊎ ((first_says (after_all log start) q ≡ false) × FirstAt start log q more last y))
said start from last inline (answer x) more y m = (from, record { begins = prefix-refl from; ends = may-front (then_asks (answer x) more) start from last y m }, inr (refl, m))
said {A} {B} start from last inline (read path at most rest) more y m =
    let part = part_of (after_all m.0 start) path at most in
    (m.0, record { begins = m.1; ends = may-front (then_asks (cond (is_inline (unwrap_or part [])) inline (rest part)) more) start m.0 last y m.2 }, by m.0 (is_inline (unwrap_or part [])) refl m.2)
  where
    by : (log : List Op) (b : Bool) → is_inline (unwrap_or (part_of (after_all log start) path at most) []) ≡ b → MayAnswer start log (then_asks (cond (is_inline (unwrap_or (part_of (after_all log start) path at most) [])) inline (rest (part_of (after_all log start) path at most))) more) last y
        → ((is_inline (unwrap_or (part_of (after_all log start) path at most) []) ≡ true) × MayAnswer start log (then_asks inline more) last y) ⊎ ((is_inline (unwrap_or (part_of (after_all log start) path at most) []) ≡ false) × MayAnswer start log (then_asks (rest (part_of (after_all log start) path at most)) more) last y)
    by log true e m = inl (e, subst (λ b. MayAnswer start log (then_asks (cond b inline (rest (part_of (after_all log start) path at most))) more) last y) e m)
    by log false e m = inr (e, subst (λ b. MayAnswer start log (then_asks (cond b inline (rest (part_of (after_all log start) path at most))) more) last y) e m)

-- a file of less than a piece is read in one
pub short-first : {A B : Type 0} (start : Tree) (log : List Op) (path : List ℕ) (left : ℕ) (f : List ℕ → Asks (Result A ReadAnswer)) (more : A → Asks (Result B ReadAnswer)) (last : List Op) (y : Result B ReadAnswer) → length (bytes_at (after_all log start) path) < piece_length
    → FirstAt start log (pieces_by path length (suc left) [] f) more last y → MayAnswer start log (then_asks (f (bytes_at (after_all log start) path)) more) last y
short-first start log path left f more last y few m =
    let t = after_all log start in
    let file = bytes_at t path in
    let whole : unwrap_or (part_of t path 0 piece_length) [] ≡ file = part_is (t path) 0 piece_length ∙ take_all piece_length file (omega (arith, few)) in
    let m1 = subst (λ p. MayAnswer start log (then_asks (cond (nat_lt (length p) piece_length) (f p) (pieces_by path length left p f)) more) last y) whole m in
    subst (λ b. MayAnswer start log (then_asks (cond b (f file) (pieces_by path length left file f)) more) last y) (below (length file) few) m1
  where
    below : (n : ℕ) → n < 65536 → nat_lt n 65536 ≡ true
    below n h = grind (arith, nat_tests, h)

-- ---- one read of a whole file

above-is : (most : ℕ) (o : Option (List ℕ)) → is_above most o ≡ nat_lt most (length (unwrap_or o []))
above-is most None = sym (none most)
  where
    none : (n : ℕ) → nat_lt n 0 ≡ false
    none n = grind arith
above-is most (Some bytes) = refl

-- more than may be was read
pub above-part : (t : Tree) (path : List ℕ) (most : ℕ) → is_above most (part_of t path 0 (suc most)) ≡ true → most < length (bytes_at t path)
above-part t path most e =
    let file = bytes_at t path in
    let part = part_of t path 0 (suc most) in
    let size : length (unwrap_or part []) ≡ min (suc most) (length file) = ap length (part_is (t path) 0 (suc most)) ∙ length-take (suc most) file in
    more (length (unwrap_or part [])) (length file) (sym (above-is most part) ∙ e) size
  where
    more : (n m : ℕ) → nat_lt most n ≡ true → n ≡ min (suc most) m → most < m
    more n m h s = grind (arith, nat_tests, h, s)

-- or the whole file was
pub whole-part : (t : Tree) (path : List ℕ) (most : ℕ) → is_above most (part_of t path 0 (suc most)) ≡ false → unwrap_or (part_of t path 0 (suc most)) [] ≡ bytes_at t path
whole-part t path most e =
    let file = bytes_at t path in
    let part = part_of t path 0 (suc most) in
    let is = part_is (t path) 0 (suc most) in
    let size : length (unwrap_or part []) ≡ min (suc most) (length file) = ap length is ∙ length-take (suc most) file in
    is ∙ take_all (suc most) file (all (length (unwrap_or part [])) (length file) (sym (above-is most part) ∙ e) size)
  where
    all : (n m : ℕ) → nat_lt most n ≡ false → n ≡ min (suc most) m → m ≤ suc most
    all n m h s = grind (arith, nat_tests, h, s)

pub within-part : {A : Type 0} (most : ℕ) (given : Option (List ℕ) → Result A ReadAnswer) (part : Option (List ℕ)) → is_above most part ≡ false → within most given part ≡ given part
within-part most given part e = ap (λ b. cond b (Err (Limit Part)) (given part)) e
