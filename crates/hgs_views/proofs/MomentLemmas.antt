-- Questions whose reads stand at different moments.
use Rattle.std.proofs.Common.{◌≡◌, ℕ, zero, suc, ◌+◌, ◌*◌, ◌<◌, List, [], ◌++◌, length, take, drop, Bool, true, false, cond, nat_lt, Option, Result, Ok, refl, sym, ◌∙◌, ap, subst, arith, append_assoc, length-append}
use Rattle.std.specs.Prelude.{unwrap_or}
use Rattle.std.proofs.lemmas.Bool.Decides.{nat_tests}
use Rattle.std.proofs.Math.Seq.{drop-append_seam}
use Rattle.std.proofs.lemmas.List.{take-append-drop, take_all, length-take}
use Rattle.hgs_bytes.specs.Bytes.{IsPrefixOf}
use Rattle.hgs_files.specs.declared.op.Op.{Op}
use Rattle.hgs_files.specs.Tree.{Tree, bytes_at, after_all}
use Rattle.hgs_load.specs.declared.answer.ReadAnswer.{ReadAnswer}
use Rattle.hgs_load.specs.Asks.{Asks, answer, part_of, at_rest, then_asks, MayAnswer}
use Rattle.hgs_load.specs.View.{pieces_by, pieces_then, piece_length, most_pieces}
use Rattle.hgs_load.specs.Whole.{within, whole_asks}
use Rattle.hgs_views.specs.Course.{IsBetween}
use Rattle.hgs_views.specs.Moments.{WholeStays}
use Rattle.hgs_views.proofs.Basics.{prefix-trans, part_is, may-front}

-- ---- lists between two

pub between-later : (first last log more : List Op) → IsBetween first last log → IsBetween log last more → IsBetween first last more
between-later first last log more a b = record { begins = prefix-trans first log more a.begins b.begins; ends = b.ends }

-- ---- a file that is read whole

pub whole-then : {A B : Type 0} (start : Tree) (path : List ℕ) (most : ℕ) (given : Option (List ℕ) → Result A ReadAnswer) (more : A → Asks (Result B ReadAnswer)) (now last : List Op) (y : Result B ReadAnswer) → MayAnswer start now (then_asks (whole_asks path most given) more) last y
    → (log : List Op) × IsBetween now last log × ((z : A) → at_rest (after_all log start) (whole_asks path most given) ≡ Ok z → MayAnswer start log (more z) last y)
whole-then start path most given more now last y m = (
  m.0,
  record { begins = m.1; ends = may-front (then_asks (answer (within most given (part_of (after_all m.0 start) path 0 (suc most)))) more) start m.0 last y m.2 },
  λ z e. subst (λ q. MayAnswer start m.0 (then_asks (answer q) more) last y) e m.2,
)

-- ---- an index that is read piece by piece

short_piece : (n : ℕ) (rest : List ℕ) → nat_lt (length (take n rest)) n ≡ true → take n rest ≡ rest
short_piece n rest h = let e = length-take n rest in take_all n rest (grind (arith, h, e))

long_piece : (n : ℕ) (rest : List ℕ) → nat_lt (length (take n rest)) n ≡ false → length (take n rest) ≡ n
long_piece n rest h = let e = length-take n rest in grind (arith, nat_tests, h, e)

module _ {A B : Type 0} (start : Tree) (path : List ℕ) (first last : List Op) (y : Result B ReadAnswer) (f : List ℕ → Asks (Result A ReadAnswer)) (more : A → Asks (Result B ReadAnswer)) (stays : WholeStays start path first last) (room : (log : List Op) → IsBetween first last log → length (bytes_at (after_all log start) path) < most_pieces * piece_length) (front : List ℕ) (before : ℕ) (whole : length front ≡ 64 * before) (place : List ℕ → ℕ) (placed : (b : List ℕ) → place b ≡ length front + length b) where
  -- what is asked once this piece was read behind these bytes
  abbrev asked : ℕ → List ℕ → List ℕ → Asks (Result A ReadAnswer)
  asked left bytes p = cond (nat_lt (length p) piece_length) (f (bytes ++ p)) (pieces_by path place left (bytes ++ p) f)

  -- at some moment the file is the front and all that was read behind it
  abbrev Ends : List Op → Type 0
  Ends now = (log : List Op) × IsBetween now last log × (tail : List ℕ) × (bytes_at (after_all log start) path ≡ front ++ tail) × MayAnswer start log (then_asks (f tail) more) last y

  pub pieces-end : (left k : ℕ) (bytes : List ℕ) (now : List Op) → IsBetween first last now → length bytes ≡ 64 * k → length bytes + left * piece_length ≡ most_pieces * piece_length → IsPrefixOf (front ++ bytes) (bytes_at (after_all now start) path)
      → MayAnswer start now (then_asks (pieces_by path place left bytes f) more) last y → Ends now
  pieces-end zero k bytes now at size all begins m =
      let less = room now at in
      let longer = ap length begins.1 in
      absurd (omega (arith, less, longer, all, length-append (front ++ bytes) begins.0, length-append front bytes))
  pieces-end (suc left) k bytes now at size all begins m =
      let log = m.0 in
      let part = part_of (after_all log start) path (place bytes) piece_length in
      let here : IsBetween now last log = record { begins = m.1; ends = may-front (then_asks (asked left bytes (unwrap_or part [])) more) start log last y m.2 } in
      let kept = stays now log (front ++ bytes) (before + k) at here (let both = length-append front bytes in omega (arith, both, whole, size)) begins in
      let piece : unwrap_or part [] ≡ take piece_length kept.0 =
      part_is (after_all log start path) (place bytes) piece_length
      ∙ ap (λ l. take piece_length (drop (place bytes) l)) kept.1
      ∙ ap (λ n. take piece_length (drop n (front ++ bytes ++ kept.0))) (placed bytes ∙ sym (length-append front bytes))
      ∙ ap (take piece_length) (drop-append_seam (front ++ bytes) kept.0) in
      by log here kept (subst (λ p. MayAnswer start log (then_asks (asked left bytes p) more) last y) piece m.2) (nat_lt (length (take piece_length kept.0)) piece_length) refl (pieces-end left (k + 1024) (bytes ++ take piece_length kept.0) log (between-later first last now log at here))
    where
      joined : (rest : List ℕ) → front ++ bytes ++ take piece_length rest ≡ front ++ (bytes ++ take piece_length rest)
      joined rest = append_assoc front bytes (take piece_length rest)

      by : (log : List Op) → IsBetween now last log → (kept : IsPrefixOf (front ++ bytes) (bytes_at (after_all log start) path)) → MayAnswer start log (then_asks (asked left bytes (take piece_length kept.0)) more) last y
          → (b : Bool) → nat_lt (length (take piece_length kept.0)) piece_length ≡ b
          → (length (bytes ++ take piece_length kept.0) ≡ 64 * (k + 1024) → length (bytes ++ take piece_length kept.0) + left * piece_length ≡ most_pieces * piece_length → IsPrefixOf (front ++ (bytes ++ take piece_length kept.0)) (bytes_at (after_all log start) path)
          → MayAnswer start log (then_asks (pieces_by path place left (bytes ++ take piece_length kept.0) f) more) last y → Ends log)
          → Ends now
      by log here kept m true e next =
          let all_read : bytes_at (after_all log start) path ≡ front ++ (bytes ++ take piece_length kept.0) = kept.1 ∙ ap (λ l. front ++ bytes ++ l) (sym (short_piece piece_length kept.0 e)) ∙ joined kept.0 in
          let m1 = subst (λ b. MayAnswer start log (then_asks (cond b (f (bytes ++ take piece_length kept.0)) (pieces_by path place left (bytes ++ take piece_length kept.0) f)) more) last y) e m in
          (log, here, bytes ++ take piece_length kept.0, all_read, m1)
      by log here kept m false e next =
          let m1 = subst (λ b. MayAnswer start log (then_asks (cond b (f (bytes ++ take piece_length kept.0)) (pieces_by path place left (bytes ++ take piece_length kept.0) f)) more) last y) e m in
          let long = long_piece piece_length kept.0 e in
          let both = length-append bytes (take piece_length kept.0) in
          let r = next (omega (arith, size, long, both)) (omega (arith, all, long, both))
          (drop piece_length kept.0, kept.1 ∙ ap (λ l. front ++ bytes ++ l) (sym (take-append-drop piece_length kept.0)) ∙ sym (append_assoc (front ++ bytes) (take piece_length kept.0) (drop piece_length kept.0)) ∙ ap (λ l. l ++ drop piece_length kept.0) (joined kept.0)) m1 in
          (r.0, between-later now last log r.0 here r.1, r.2, r.3, r.4)

-- the pieces from the first byte on are the whole file
pub pieces-whole : {A B : Type 0} (start : Tree) (path : List ℕ) (first last : List Op) (y : Result B ReadAnswer) (f : List ℕ → Asks (Result A ReadAnswer)) (more : A → Asks (Result B ReadAnswer)) → WholeStays start path first last → ((log : List Op) → IsBetween first last log → length (bytes_at (after_all log start) path) < most_pieces * piece_length)
    → (now : List Op) → IsBetween first last now → MayAnswer start now (then_asks (pieces_then path most_pieces [] f) more) last y
    → (log : List Op) × IsBetween now last log × MayAnswer start log (then_asks (f (bytes_at (after_all log start) path)) more) last y
pieces-whole start path first last y f more stays room now at m =
    let r = pieces-end start path first last y f more stays room [] 0 refl length (λ b. omega arith) most_pieces 0 [] now at refl refl (bytes_at (after_all now start) path, refl) m in
    (r.0, r.1, subst (λ l. MayAnswer start r.0 (then_asks (f l) more) last y) (sym r.3) r.4)
