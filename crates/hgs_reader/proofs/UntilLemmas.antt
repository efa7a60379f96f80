-- An index read piece by piece.
use Rattle.std.proofs.Common.{◌≡◌, ℕ, zero, suc, ◌-◌, ◌<◌, ◌≤◌, Bool, true, false, cond, List, [], ◌++◌, length, Option, Result, Ok, refl, sym, ◌∙◌, ap, subst, arith}
use Rattle.std.specs.Prelude.{unwrap_or, IfSome}
use Rattle.hgs_files.specs.declared.op.Op.{Op}
use Rattle.hgs_files.specs.Tree.{Tree}
use Rattle.hgs_files.specs.Reads.{Grows}
use Rattle.hgs_load.specs.declared.answer.ReadAnswer.{ReadAnswer}
use Rattle.hgs_load.specs.Asks.{Asks, answer, read, IsPart, Continues, MayAnswerWhereTold}
use Rattle.hgs_reader.specs.Find.{is_far, pieces_until}
use Rattle.hgs_load.specs.View.{piece_length}
use Rattle.hgs_load.specs.Given.{RisesBy, size_of, Gave}
use Rattle.hgs_load.specs.Theorems.GivenLemmas.{gave-read, gave-both}
use Rattle.hgs_load.specs.Theorems.AskLemmas.{continues-read, continues-answer}

-- what is asked once so much was read, the last piece being this one
abbrev pub asks_behind : Bool → List ℕ → List ℕ → ℕ → List ℕ → List ℕ → Asks (Result (List ℕ) ReadAnswer)
asks_behind inline index node left bytes piece = cond (is_far inline node bytes piece) (answer (Ok bytes)) (pieces_until inline index node left bytes)

none : 0 < 0 → ⊥
none h = omega (arith, h)

module _ (before now next : Option (List Op)) (start start_now : Tree) (whole : Asks (Result (List ℕ) ReadAnswer)) (inline : Bool) (index node bytes new piece : List ℕ) (part : Option (List ℕ)) (from : ℕ) (behind : from ≡ length bytes) where
  piece_read : (left : ℕ) → 0 < left → Continues before start now whole (pieces_until inline index node left bytes) → Grows now next → start_now ≡ start → IsPart next start_now index from piece_length (Ok part) → piece ≡ unwrap_or part [] → new ≡ bytes ++ piece
      → Continues before start next whole (asks_behind inline index node (left - 1) new piece)
  piece_read zero some asked g s p b n = absurd (none some)
  piece_read (suc left) some asked g s p b n =
      let P : Tree → Type 0 = λ t. IsPart next t index from piece_length (Ok part) in
      let F : ℕ → Type 0 = λ k. IsPart next start index k piece_length (Ok part) in
      let Q : Asks (Result (List ℕ) ReadAnswer) → Type 0 = λ q. Continues before start next whole q in
      let less : suc left - 1 ≡ left = omega arith in
      subst Q
      (ap (λ l. asks_behind inline index node left (bytes ++ l) l) (sym b) ∙ ap (λ l. asks_behind inline index node left l piece) (sym n) ∙ ap (λ k. asks_behind inline index node k new piece) (sym less))
      (continues-read before now next start whole index (length bytes) piece_length (λ piece. asks_behind inline index node left (bytes ++ unwrap_or piece []) (unwrap_or piece [])) part asked g (subst F behind (subst P s p)))

  pub goes_on : (left : ℕ) → 0 < left → Continues before start now whole (pieces_until inline index node left bytes) → Grows now next → start_now ≡ start → IsPart next start_now index from piece_length (Ok part) → piece ≡ unwrap_or part [] → new ≡ bytes ++ piece
      → is_far inline node new piece ≡ false → Continues before start next whole (pieces_until inline index node (left - 1) new)
  goes_on left some asked g s p b n more =
      let Q : Bool → Type 0 = λ t. Continues before start next whole (cond t (answer (Ok new)) (pieces_until inline index node (left - 1) new)) in
      subst Q more (piece_read left some asked g s p b n)

  pub ends : (left : ℕ) → 0 < left → Continues before start now whole (pieces_until inline index node left bytes) → Grows now next → start_now ≡ start → IsPart next start_now index from piece_length (Ok part) → piece ≡ unwrap_or part [] → new ≡ bytes ++ piece
      → is_far inline node new piece ≡ true → MayAnswerWhereTold before start next whole (Ok new)
  ends left some asked g s p b n last =
      continues-answer before next start whole (asks_behind inline index node (left - 1) new piece) (Ok new) (piece_read left some asked g s p b n)
      (ap (λ t. cond t (answer (Ok new)) (pieces_until inline index node (left - 1) new)) last)

-- as many pieces were read as may be
pub none_left : (before now : Option (List Op)) (start : Tree) (whole : Asks (Result (List ℕ) ReadAnswer)) (inline : Bool) (index node bytes : List ℕ) (left : ℕ) → left ≡ 0 → Continues before start now whole (pieces_until inline index node left bytes) → MayAnswerWhereTold before start now whole (Ok bytes)
none_left before now start whole inline index node bytes left z asked =
    continues-answer before now start whole (pieces_until inline index node left bytes) (Ok bytes) asked (ap (λ k. pieces_until inline index node k bytes) z)

-- ---- what was given

module _ (g0 g1 g2 : ℕ) (before now next : Option (List Op)) (start start_now : Tree) (whole : Asks (Result (List ℕ) ReadAnswer)) (inline : Bool) (index node bytes new piece : List ℕ) (part : Option (List ℕ)) (from : ℕ) (behind : from ≡ length bytes) (rises : RisesBy g1 g2 (size_of part)) (short : IfSome part (λ b. length b ≤ piece_length)) where
  pub gave_piece : (left : ℕ) → 0 < left → Gave g0 g1 before start now whole (pieces_until inline index node left bytes) → Grows now next → start_now ≡ start → IsPart next start_now index from piece_length (Ok part) → piece ≡ unwrap_or part [] → new ≡ bytes ++ piece
      → Gave g0 g2 before start next whole (asks_behind inline index node (left - 1) new piece)
  gave_piece zero some gave g s p b n = absurd (none some)
  gave_piece (suc left) some gave g s p b n =
      let P : Tree → Type 0 = λ t. IsPart next t index from piece_length (Ok part) in
      let F : ℕ → Type 0 = λ k. IsPart next start index k piece_length (Ok part) in
      let Q : Asks (Result (List ℕ) ReadAnswer) → Type 0 = λ q. Gave g0 g2 before start next whole q in
      let less : suc left - 1 ≡ left = omega arith in
      let rest : Option (List ℕ) → Asks (Result (List ℕ) ReadAnswer) = λ piece. asks_behind inline index node left (bytes ++ unwrap_or piece []) (unwrap_or piece []) in
      subst Q
      (ap (λ l. asks_behind inline index node left (bytes ++ l) l) (sym b) ∙ ap (λ l. asks_behind inline index node left l piece) (sym n) ∙ ap (λ k. asks_behind inline index node k new piece) (sym less))
      (gave-both g0 g1 g2 before now next start start whole (read index (length bytes) piece_length rest) (rest part) refl gave (gave-read g1 g2 now next start index (length bytes) piece_length rest part rises g (short, subst F behind (subst P s p))))

  pub gave_on : (left : ℕ) → 0 < left → Gave g0 g1 before start now whole (pieces_until inline index node left bytes) → Grows now next → start_now ≡ start → IsPart next start_now index from piece_length (Ok part) → piece ≡ unwrap_or part [] → new ≡ bytes ++ piece
      → is_far inline node new piece ≡ false → Gave g0 g2 before start next whole (pieces_until inline index node (left - 1) new)
  gave_on left some gave g s p b n more =
      let Q : Bool → Type 0 = λ t. Gave g0 g2 before start next whole (cond t (answer (Ok new)) (pieces_until inline index node (left - 1) new)) in
      subst Q more (gave_piece left some gave g s p b n)

  pub gave_end : (left : ℕ) → 0 < left → Gave g0 g1 before start now whole (pieces_until inline index node left bytes) → Grows now next → start_now ≡ start → IsPart next start_now index from piece_length (Ok part) → piece ≡ unwrap_or part [] → new ≡ bytes ++ piece
      → is_far inline node new piece ≡ true → Gave g0 g2 before start next whole (answer (Ok new))
  gave_end left some gave g s p b n last =
      let Q : Bool → Type 0 = λ t. Gave g0 g2 before start next whole (cond t (answer (Ok new)) (pieces_until inline index node (left - 1) new)) in
      subst Q last (gave_piece left some gave g s p b n)
