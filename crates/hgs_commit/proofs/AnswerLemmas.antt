-- What calls found, one after another, and what they answer.
use Rattle.std.proofs.Common.{◌≡◌, ℕ, ◌+◌, List, Bool, true, false, length, drop, Option, Some, None, Result, Err, refl, sym, ◌∙◌, ap, arith}
use Rattle.std.specs.Prelude.{IfSome, ⊤}
use Rattle.std.specs.Bool.{MatchBool}
use Rattle.std.proofs.lemmas.List.{take_all, length-drop}
use Rattle.hgs_filelog.specs.Packed.{bytes_in}
use Rattle.hgs_files.specs.declared.op.Op.{Op}
use Rattle.hgs_files.specs.Tree.{Tree, after_all}
use Rattle.hgs_index.specs.declared.kinds.Span.{Span}
use Rattle.hgs_index.specs.FileText.{body_of, unpacked}
use Rattle.hgs_load.specs.Answer.{IsRefusal, is_of_outside}
use Rattle.hgs_load.specs.View.{revlog_refusal}
use Rattle.hgs_load.specs.declared.answer.ReadAnswer.{ReadAnswer}
pub use Rattle.hgs_loading.specs.Theorems.FoundLemmas.{alone-both, alone-one}
use Rattle.hgs_revlog.specs.Fault.{is_memory}
use Rattle.hgs_revlog.specs.declared.fault.RevFault.{RevFault}
use Rattle.hgs_revlog.specs.declared.fault.RevFault.TheVariants.{Entry, Compressed, Delta, Flagged, Short, Length, Hash, Parent, Collision, Limit, Memory, Offset, Twice, Tail, Missing}
use Rattle.hgs_commit.specs.Texts.{revlog_answer}
use Rattle.hgs_commit.specs.declared.growth.Revised.{Revised}

-- want of memory for a revlog is of the outside
memory : (index : List ℕ) (fault : RevFault) → is_memory fault ≡ true → is_of_outside (revlog_refusal index fault) ≡ true
memory index (Entry rev f) h = cc
memory index (Compressed rev) h = cc
memory index (Delta rev) h = cc
memory index (Flagged rev) h = cc
memory index (Short rev) h = cc
memory index (Length rev) h = cc
memory index (Hash rev) h = cc
memory index (Parent rev) h = cc
memory index (Collision rev) h = cc
memory index (Limit which) h = cc
memory index Memory h = refl
memory index (Offset rev) h = cc
memory index (Twice rev) h = cc
memory index (Tail rev) h = cc
memory index Missing h = cc

never : {A : Type 0} → true ≡ false → A
never e = absurd (no e)
  where
    no : true ≡ false → ⊥
    no h = cc

pub refused-so : (index : List ℕ) (fault : RevFault) (e : ReadAnswer) (given : Result Revised RevFault) → IsRefusal e (revlog_refusal index fault) → MatchBool (is_memory fault) ⊤ (given ≡ Err fault) → MatchBool (is_of_outside e) ⊤ (revlog_answer index given ≡ Err e)
refused-so index fault e given r g = by (is_of_outside e) refl r
  where
    by : (b : Bool) → is_of_outside e ≡ b → MatchBool b ⊤ (revlog_refusal index fault ≡ e) → MatchBool b ⊤ (revlog_answer index given ≡ Err e)
    by true h r = tt
    by false h r = told (is_memory fault) refl g
      where
        told : (m : Bool) → is_memory fault ≡ m → MatchBool m ⊤ (given ≡ Err fault) → revlog_answer index given ≡ Err e
        told true k g = never (sym (memory index fault k) ∙ ap is_of_outside r ∙ h)
        told false k g = ap (revlog_answer index) g ∙ ap (λ x. Err x) r

-- the body of a text is what stands behind its block
pub body-is : (text : List ℕ) (meta body : Span) → body.from + body.len ≡ length text → (bytes_in text meta, bytes_in text body) ≡ unpacked text → drop body.from text ≡ body_of text
body-is text meta body fits is =
    let l = length-drop body.from text in
    sym (take_all body.len (drop body.from text) (omega (arith, l, fits))) ∙ ap (λ p. p.1) is

-- ---- where nobody else writes

pub alone-free : (alone : Bool) (seen : Option (List Op)) (start : Tree) (S : Tree → Type 0) → ((t : Tree) → S t) → alone ≡ true → IfSome seen (λ log. S (after_all log start))
alone-free alone None start S f h = tt
alone-free alone (Some log) start S f h = f (after_all log start)
