-- One read of a chunk.
use Rattle.std.proofs.Common.{◌≡◌, ℕ, ◌≤◌, Bool, true, false, List, [], length, Option, Some, None, Result, Ok, Err, sym, ◌∙◌, refl, ap, subst, arith}
use Rattle.std.specs.Prelude.{unwrap_or, IfSome}
use Rattle.std.specs.Option.{option_map}
use Rattle.hgs_files.specs.declared.op.Op.{Op}
use Rattle.hgs_files.specs.Tree.{Tree}
use Rattle.hgs_files.specs.Reads.{Grows}
use Rattle.hgs_index.specs.declared.entry.Entry.{Entry}
use Rattle.hgs_index.specs.declared.kinds.Span.{Span}
use Rattle.hgs_revlog.specs.Text.{span_in, span_of}
use Rattle.hgs_load.specs.declared.answer.ReadAnswer.{ReadAnswer}
use Rattle.hgs_bytes.specs.Answer.{Gives}
use Rattle.hgs_load.specs.Answer.{is_of_outside}
use Rattle.hgs_load.specs.Asks.{Asks, answer, MayAnswerWhereTold, Answers, IsPart}
use Rattle.hgs_reader.specs.Line.{changeset_asks, chunk_asks, chunks_path, span_asks}
use Rattle.hgs_load.specs.View.{changelog_data, changelog_index}
use Rattle.hgs_load.specs.Given.{RisesBy, size_of, Gave, Takes}
use Rattle.hgs_load.specs.Theorems.GivenLemmas.{gave-read, takes-ended}
use Rattle.hgs_load.specs.Theorems.AskLemmas.{continues-start, continues-read, continues-answer, either}

some_is : {A : Type 0} (x y : A) → Some x ≡ Some y → x ≡ y
some_is x y e = cc

-- the chunk of an entry was read, and gave this
pub chunk_read : {A : Type 0} (before after : Option (List Op)) (start start_new : Tree) (path chunks : List ℕ) (e : Option Entry) (given : List ℕ → Result A ReadAnswer) (span : Span) (part : Option (List ℕ)) (bytes : List ℕ) (y : Result A ReadAnswer) →
    option_map span_of e ≡ Some span → Grows before after → start_new ≡ start → path ≡ chunks → IsPart after start_new path span.from span.len (Ok part) → bytes ≡ unwrap_or part [] → given bytes ≡ y →
    MayAnswerWhereTold before start after (chunk_asks chunks e given) y
chunk_read before after start start_new path chunks None given span part bytes y s g st p h b r = cc
chunk_read {A} before after start start_new path chunks (Some e) given span part bytes y s g st p h b r =
    let same : span_of e ≡ span = some_is (span_of e) span s in
    let P : Tree → Type 0 = λ t. IsPart after t path span.from span.len (Ok part) in
    let Q : List ℕ → Type 0 = λ q. IsPart after start q span.from span.len (Ok part) in
    let S : Span → Type 0 = λ q. IsPart after start chunks q.from q.len (Ok part) in
    let found = subst S (sym same) (subst Q p (subst P st h)) in
    let asked : Asks (Result A ReadAnswer) = chunk_asks chunks (Some e) given in
    continues-answer before after start asked (answer (given (unwrap_or part []))) y
    (continues-read before before after start asked chunks e.offset e.stored (λ chunk. answer (given (unwrap_or chunk []))) part (continues-start before start asked) g found)
    (ap (λ q. answer (given q)) (sym b) ∙ ap answer r)

-- the same for what a call answered
pub chunk_answers : {V A : Type 0} (view : V → A) (before after : Option (List Op)) (start start_new : Tree) (path chunks : List ℕ) (e : Option Entry) (given : List ℕ → Result A ReadAnswer) (span : Span) (part : Option (List ℕ)) (bytes : List ℕ) (r : Result V ReadAnswer) →
    option_map span_of e ≡ Some span → Grows before after → start_new ≡ start → path ≡ chunks → IsPart after start_new path span.from span.len (Ok part) → bytes ≡ unwrap_or part [] → Gives is_of_outside view r (given bytes) →
    Answers view before start after (chunk_asks chunks e given) r
chunk_answers view before after start start_new path chunks e given span part bytes (Ok x) s g st p h b r = chunk_read before after start start_new path chunks e given span part bytes (Ok (view x)) s g st p h b r
chunk_answers view before after start start_new path chunks e given span part bytes (Err f) s g st p h b r =
    either (is_of_outside f) _ _ (λ m. chunk_read before after start start_new path chunks e given span part bytes (Err f) s g st p h b m) r

-- ---- what was given

module _ {A : Type 0} (g0 g1 : ℕ) (before after : Option (List Op)) (start start_new : Tree) (path chunks : List ℕ) where
  pub chunk_gave : (e : Option Entry) (given : List ℕ → Result A ReadAnswer) (span : Span) (part : Option (List ℕ)) (bytes : List ℕ) →
      option_map span_of e ≡ Some span → Grows before after → start_new ≡ start → path ≡ chunks → IsPart after start_new path span.from span.len (Ok part) → bytes ≡ unwrap_or part [] → RisesBy g0 g1 (size_of part) → IfSome part (λ b. length b ≤ span.len) →
      Gave g0 g1 before start after (chunk_asks chunks e given) (answer (given bytes))
  chunk_gave None given span part bytes s g st p h b rises short = cc
  chunk_gave (Some e) given span part bytes s g st p h b rises short =
      let same : span_of e ≡ span = some_is (span_of e) span s in
      let P : Tree → Type 0 = λ t. IsPart after t path span.from span.len (Ok part) in
      let Q : List ℕ → Type 0 = λ q. IsPart after start q span.from span.len (Ok part) in
      let S : Span → Type 0 = λ q. IsPart after start chunks q.from q.len (Ok part) in
      let L : Span → Type 0 = λ q. IfSome part (λ b. length b ≤ q.len) in
      let B : List ℕ → Type 0 = λ l. Gave g0 g1 before start after (chunk_asks chunks (Some e) given) (answer (given l)) in
      subst B (sym b) (gave-read g0 g1 before after start chunks e.offset e.stored (λ chunk. answer (given (unwrap_or chunk []))) part rises g (subst L (sym same) short, subst S (sym same) (subst Q p (subst P st h))))

  -- the same for what a call answered
  pub chunk_takes : {V : Type 0} (view : V → A) (e : Option Entry) (given : List ℕ → Result A ReadAnswer) (span : Span) (part : Option (List ℕ)) (bytes : List ℕ) (r : Result V ReadAnswer) →
      option_map span_of e ≡ Some span → Grows before after → start_new ≡ start → path ≡ chunks → IsPart after start_new path span.from span.len (Ok part) → bytes ≡ unwrap_or part [] → RisesBy g0 g1 (size_of part) → IfSome part (λ b. length b ≤ span.len) → Gives is_of_outside view r (given bytes) →
      Takes view g0 g1 before start after (chunk_asks chunks e given) r
  chunk_takes view e given span part bytes r s g st p h b rises short h2 =
      takes-ended view g0 g1 before after start (chunk_asks chunks e given) (given bytes) r (chunk_gave e given span part bytes s g st p h b rises short) h2

-- ---- the chunk of a changeset

-- a span of a file was read, and gave this
span_read : {A : Type 0} (before after : Option (List Op)) (start start_new : Tree) (path chunks : List ℕ) (o : Option Span) (given : List ℕ → Result A ReadAnswer) (span : Span) (part : Option (List ℕ)) (bytes : List ℕ) (y : Result A ReadAnswer) →
    o ≡ Some span → Grows before after → start_new ≡ start → path ≡ chunks → IsPart after start_new path span.from span.len (Ok part) → bytes ≡ unwrap_or part [] → given bytes ≡ y →
    MayAnswerWhereTold before start after (span_asks chunks o given) y
span_read before after start start_new path chunks None given span part bytes y s g st p h b r = cc
span_read {A} before after start start_new path chunks (Some found) given span part bytes y s g st p h b r =
    let same : found ≡ span = some_is found span s in
    let P : Tree → Type 0 = λ t. IsPart after t path span.from span.len (Ok part) in
    let Q : List ℕ → Type 0 = λ q. IsPart after start q span.from span.len (Ok part) in
    let S : Span → Type 0 = λ q. IsPart after start chunks q.from q.len (Ok part) in
    let stands = subst S (sym same) (subst Q p (subst P st h)) in
    let asked : Asks (Result A ReadAnswer) = span_asks chunks (Some found) given in
    continues-answer before after start asked (answer (given (unwrap_or part []))) y
    (continues-read before before after start asked chunks found.from found.len (λ chunk. answer (given (unwrap_or chunk []))) part (continues-start before start asked) g stands)
    (ap (λ q. answer (given q)) (sym b) ∙ ap answer r)

span_gave : {A : Type 0} (g0 g1 : ℕ) (before after : Option (List Op)) (start start_new : Tree) (path chunks : List ℕ) (o : Option Span) (given : List ℕ → Result A ReadAnswer) (span : Span) (part : Option (List ℕ)) (bytes : List ℕ) →
    o ≡ Some span → Grows before after → start_new ≡ start → path ≡ chunks → IsPart after start_new path span.from span.len (Ok part) → bytes ≡ unwrap_or part [] → RisesBy g0 g1 (size_of part) → IfSome part (λ b. length b ≤ span.len) →
    Gave g0 g1 before start after (span_asks chunks o given) (answer (given bytes))
span_gave g0 g1 before after start start_new path chunks None given span part bytes s g st p h b rises short = cc
span_gave {A} g0 g1 before after start start_new path chunks (Some found) given span part bytes s g st p h b rises short =
    let same : found ≡ span = some_is found span s in
    let P : Tree → Type 0 = λ t. IsPart after t path span.from span.len (Ok part) in
    let Q : List ℕ → Type 0 = λ q. IsPart after start q span.from span.len (Ok part) in
    let S : Span → Type 0 = λ q. IsPart after start chunks q.from q.len (Ok part) in
    let L : Span → Type 0 = λ q. IfSome part (λ b. length b ≤ q.len) in
    let B : List ℕ → Type 0 = λ l. Gave g0 g1 before start after (span_asks chunks (Some found) given) (answer (given l)) in
    subst B (sym b) (gave-read g0 g1 before after start chunks found.from found.len (λ chunk. answer (given (unwrap_or chunk []))) part rises g (subst L (sym same) short, subst S (sym same) (subst Q p (subst P st h))))

-- Of a changelog of either form.
module _ {A : Type 0} (inline : Bool) (rev : ℕ) (before after : Option (List Op)) (start start_new : Tree) (path : List ℕ) where
  -- it was read, and gave this
  pub changeset_read : (e : Option Entry) (given : List ℕ → Result A ReadAnswer) (span : Span) (part : Option (List ℕ)) (bytes : List ℕ) (y : Result A ReadAnswer) →
      option_map (span_in inline rev) e ≡ Some span → Grows before after → start_new ≡ start → path ≡ chunks_path inline → IsPart after start_new path span.from span.len (Ok part) → bytes ≡ unwrap_or part [] → given bytes ≡ y →
      MayAnswerWhereTold before start after (changeset_asks inline rev e given) y
  changeset_read e given span part bytes y s g st p h b r = by inline s p
    where
      by : (i : Bool) → option_map (span_in i rev) e ≡ Some span → path ≡ chunks_path i → MayAnswerWhereTold before start after (changeset_asks i rev e given) y
      by false s p = chunk_read before after start start_new path changelog_data e given span part bytes y s g st p h b r
      by true s p = span_read before after start start_new path changelog_index (option_map (span_in true rev) e) given span part bytes y s g st p h b r

  -- the same for what a call answered
  pub changeset_answers : {V : Type 0} (view : V → A) (e : Option Entry) (given : List ℕ → Result A ReadAnswer) (span : Span) (part : Option (List ℕ)) (bytes : List ℕ) (r : Result V ReadAnswer) →
      option_map (span_in inline rev) e ≡ Some span → Grows before after → start_new ≡ start → path ≡ chunks_path inline → IsPart after start_new path span.from span.len (Ok part) → bytes ≡ unwrap_or part [] → Gives is_of_outside view r (given bytes) →
      Answers view before start after (changeset_asks inline rev e given) r
  changeset_answers view e given span part bytes (Ok x) s g st p h b r = changeset_read e given span part bytes (Ok (view x)) s g st p h b r
  changeset_answers view e given span part bytes (Err f) s g st p h b r =
      either (is_of_outside f) _ _ (λ m. changeset_read e given span part bytes (Err f) s g st p h b m) r

  -- what was given
  pub changeset_gave : (g0 g1 : ℕ) (e : Option Entry) (given : List ℕ → Result A ReadAnswer) (span : Span) (part : Option (List ℕ)) (bytes : List ℕ) →
      option_map (span_in inline rev) e ≡ Some span → Grows before after → start_new ≡ start → path ≡ chunks_path inline → IsPart after start_new path span.from span.len (Ok part) → bytes ≡ unwrap_or part [] → RisesBy g0 g1 (size_of part) → IfSome part (λ b. length b ≤ span.len) →
      Gave g0 g1 before start after (changeset_asks inline rev e given) (answer (given bytes))
  changeset_gave g0 g1 e given span part bytes s g st p h b rises short = by inline s p
    where
      by : (i : Bool) → option_map (span_in i rev) e ≡ Some span → path ≡ chunks_path i → Gave g0 g1 before start after (changeset_asks i rev e given) (answer (given bytes))
      by false s p = chunk_gave g0 g1 before after start start_new path changelog_data e given span part bytes s g st p h b rises short
      by true s p = span_gave g0 g1 before after start start_new path changelog_index (option_map (span_in true rev) e) given span part bytes s g st p h b rises short

  pub changeset_takes : {V : Type 0} (g0 g1 : ℕ) (view : V → A) (e : Option Entry) (given : List ℕ → Result A ReadAnswer) (span : Span) (part : Option (List ℕ)) (bytes : List ℕ) (r : Result V ReadAnswer) →
      option_map (span_in inline rev) e ≡ Some span → Grows before after → start_new ≡ start → path ≡ chunks_path inline → IsPart after start_new path span.from span.len (Ok part) → bytes ≡ unwrap_or part [] → RisesBy g0 g1 (size_of part) → IfSome part (λ b. length b ≤ span.len) → Gives is_of_outside view r (given bytes) →
      Takes view g0 g1 before start after (changeset_asks inline rev e given) r
  changeset_takes g0 g1 view e given span part bytes r s g st p h b rises short h2 =
      takes-ended view g0 g1 before after start (changeset_asks inline rev e given) (given bytes) r (changeset_gave g0 g1 e given span part bytes s g st p h b rises short) h2

-- a chunk has no more bytes than its entry says
pub changeset_short : (inline : Bool) (rev : ℕ) (e : Option Entry) (span : Span) (part : Option (List ℕ)) (bytes : List ℕ) → option_map (span_in inline rev) e ≡ Some span → bytes ≡ unwrap_or part [] → IfSome part (λ b. length b ≤ span.len) → IfSome e (λ x. length bytes ≤ x.stored)
changeset_short inline rev None span part bytes s b short = tt
changeset_short inline rev (Some e) span part bytes s b short = by part b short
  where
    len : (i : Bool) → (span_in i rev e).len ≡ e.stored
    len false = refl
    len true = refl

    stored : span.len ≡ e.stored
    stored = ap (λ (q : Span). q.len) (sym (some_is (span_in inline rev e) span s)) ∙ len inline

    by : (o : Option (List ℕ)) → bytes ≡ unwrap_or o [] → IfSome o (λ b. length b ≤ span.len) → length bytes ≤ e.stored
    by None is few = let none : length bytes ≡ 0 = ap length is in omega (arith, none)
    by (Some found) is few = let same = ap length is in omega (arith, same, few, stored)
