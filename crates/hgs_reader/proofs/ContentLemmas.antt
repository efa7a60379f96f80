-- The files of a manifest, and their lines.
use Rattle.std.proofs.Common.{◌≡◌, ℕ, zero, suc, ◌+◌, ◌≤◌, Bool, true, false, cond, List, [], ◌∷◌, ◌++◌, length, drop, Option, Some, Result, Ok, sym, ◌∙◌, ap, subst, arith, append_assoc, append-nil}
use Rattle.std.specs.Prelude.{slice_get}
use Rattle.std.proofs.lemmas.List.{drop_all}
use Rattle.hgs_bytes.specs.Bytes.{same}
use Rattle.hgs_files.specs.declared.op.Op.{Op}
use Rattle.hgs_files.specs.Tree.{Tree}
use Rattle.hgs_index.specs.Manifest.{Row, read_manifest}
use Rattle.hgs_index.specs.Node.{null_node}
use Rattle.hgs_load.specs.declared.answer.ReadAnswer.{ReadAnswer}
use Rattle.hgs_load.specs.Asks.{Asks, answer, then_asks, Answers}
use Rattle.hgs_load.specs.Given.{Takes}
use Rattle.hgs_reader.specs.Contents.{manifest_index, manifest_data, rows_answer, rows_asks, file_line, files_text}
use Rattle.hgs_reader.specs.Find.{text_asks}

-- the files of a manifest that is read
abbrev pub read_rows : List ℕ → Asks (Result (List Row) ReadAnswer)
read_rows node = then_asks (text_asks manifest_index manifest_data node) (λ text. answer (rows_answer (read_manifest text)))

module _ (before after : Option (List Op)) (start : Tree) (node : List ℕ) (r : Result (List Row) ReadAnswer) where
  abbrev by : (b : Bool) → Type 0
  by b = Answers (λ (rows : List Row). rows) before start after (cond b (answer (Ok [])) (read_rows node)) r

  pub null_rows : same node null_node ≡ true → by true → Answers (λ (rows : List Row). rows) before start after (rows_asks node) r
  null_rows e h = subst by (sym e) h

  pub named_rows : same node null_node ≡ false → by false → Answers (λ (rows : List Row). rows) before start after (rows_asks node) r
  named_rows e h = subst by (sym e) h

-- the same of what was given
module _ (g0 g1 : ℕ) (before after : Option (List Op)) (start : Tree) (node : List ℕ) (r : Result (List Row) ReadAnswer) where
  abbrev given_by : (b : Bool) → Type 0
  given_by b = Takes (λ (rows : List Row). rows) g0 g1 before start after (cond b (answer (Ok [])) (read_rows node)) r

  pub null_takes : same node null_node ≡ true → given_by true → Takes (λ (rows : List Row). rows) g0 g1 before start after (rows_asks node) r
  null_takes e h = subst given_by (sym e) h

  pub named_takes : same node null_node ≡ false → given_by false → Takes (λ (rows : List Row). rows) g0 g1 before start after (rows_asks node) r
  named_takes e h = subst given_by (sym e) h

some_is : {A : Type 0} (x y : A) → Some x ≡ Some y → x ≡ y
some_is x y e = cc

drop_here : (rows : List Row) (i : ℕ) (r : Row) → slice_get rows i ≡ Some r → drop i rows ≡ r ∷ drop (suc i) rows
drop_here [] i r e = cc
drop_here (x ∷ rows) zero r e = ap (λ q. q ∷ rows) (some_is x r e)
drop_here (x ∷ rows) (suc i) r e = drop_here rows i r e

-- one line more
pub line_on : (rows : List Row) (i : ℕ) (r : Row) (old mid new : List ℕ) → slice_get rows i ≡ Some r → new ≡ mid ++ file_line r → mid ++ files_text (drop i rows) ≡ old ++ files_text rows
    → new ++ files_text (drop (i + 1) rows) ≡ old ++ files_text rows
line_on rows i r old mid new at add so =
    let next : i + 1 ≡ suc i = omega arith in
    ap (λ k. new ++ files_text (drop k rows)) next ∙ ap (λ l. l ++ files_text (drop (suc i) rows)) add ∙ append_assoc mid (file_line r) (files_text (drop (suc i) rows))
    ∙ ap (λ rs. mid ++ files_text rs) (sym (drop_here rows i r at)) ∙ so

pub lines_end : (rows : List Row) (i : ℕ) (old new : List ℕ) → length rows ≤ i → new ++ files_text (drop i rows) ≡ old ++ files_text rows → new ≡ old ++ files_text rows
lines_end rows i old new past so = sym (append-nil new) ∙ ap (λ rs. new ++ files_text rs) (sym (drop_all i rows past)) ∙ so
