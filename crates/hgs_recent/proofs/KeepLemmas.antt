-- Questions where texts are kept, and what calls keep.
use Rattle.std.proofs.Common.{◌≡◌, inl, inr, ℕ, Bool, false, cond, List, [], ◌++◌, Option, Some, None, Result, Ok, Err, refl, sym, ◌∙◌, ap, subst}
use Rattle.hgs_bytes.specs.Bytes.{same, IsPrefixOf}
use Rattle.hgs_files.specs.declared.op.Op.{Op}
use Rattle.hgs_files.specs.Reads.{Grows}
use Rattle.hgs_files.specs.Tree.{Tree, after_all}
use Rattle.hgs_index.specs.Manifest.{Row, read_manifest}
use Rattle.hgs_index.specs.Node.{null_node}
use Rattle.hgs_load.specs.declared.answer.ReadAnswer.{ReadAnswer}
use Rattle.hgs_load.specs.Asks.{Asks, answer, read, part_of, then_asks, MayAnswer, MayAnswerWhereTold, Answers}
use Rattle.hgs_load.specs.Load.{asks_unless}
use Rattle.hgs_load.specs.Theorems.AskLemmas.{answers-given, answers-then, prefix-trans}
use Rattle.hgs_reader.specs.Contents.{manifest_index, manifest_data, rows_answer}
use Rattle.hgs_reader.specs.Find.{text_asks}
use Rattle.hgs_recent.specs.Questions.{rows_asks, use_asks, Use, UsesText, WasUsed, Keeps, KeepsRead}
use Rattle.hgs_recent.specs.Texts.{Texts, looked_up, text_under, used_if}

-- ---- a manifest's rows, and what is used

abbrev rows-by : Bool → Option (List ℕ) → List ℕ → Asks (Result (List Row) ReadAnswer)
rows-by b o node = cond b (answer (Ok [])) (then_asks (asks_unless o (text_asks manifest_index manifest_data node)) (λ text. answer (rows_answer (read_manifest text))))

abbrev use-by : Bool → Option (List ℕ) → List ℕ → Asks (Result Use ReadAnswer)
use-by b o node = cond b (answer (Ok None)) (then_asks (asks_unless o (text_asks manifest_index manifest_data node)) (λ text. answer (Ok (Some (node, text)))))

module _ (texts : Texts) (node : List ℕ) (named : same node null_node ≡ false) where
  pub rows-kept : (text : List ℕ) → text_under node texts ≡ Some text → rows_asks texts node ≡ answer (rows_answer (read_manifest text))
  rows-kept text k = ap (λ b. rows-by b (text_under node texts) node) named ∙ ap (λ o. rows-by false o node) k

  pub rows-asked : text_under node texts ≡ None → rows_asks texts node ≡ then_asks (text_asks manifest_index manifest_data node) (λ text. answer (rows_answer (read_manifest text)))
  rows-asked k = ap (λ b. rows-by b (text_under node texts) node) named ∙ ap (λ o. rows-by false o node) k

  pub use-kept : (text : List ℕ) → text_under node texts ≡ Some text → use_asks texts node ≡ answer (Ok (Some (node, text)))
  use-kept text k = ap (λ b. use-by b (text_under node texts) node) named ∙ ap (λ o. use-by false o node) k

  pub use-asked : text_under node texts ≡ None → use_asks texts node ≡ then_asks (text_asks manifest_index manifest_data node) (λ text. answer (Ok (Some (node, text))))
  use-asked k = ap (λ b. use-by b (text_under node texts) node) named ∙ ap (λ o. use-by false o node) k

-- ---- what a call keeps

-- whatever it answered
pub keeps-any : {X : Type 0} (before after : Option (List Op)) (start : Tree) (q : Asks (Result Use ReadAnswer)) (old new : Texts) (r : Result X ReadAnswer) → WasUsed before start after q old new → Keeps before start after q old new r
keeps-any before after start q old new (Ok x) h = h
keeps-any before after start q old new (Err e) h = inr h

-- a text that was kept
pub kept-keeps : {X : Type 0} (seen : Option (List Op)) (start : Tree) (old new : Texts) (node text : List ℕ) (r : Result X ReadAnswer) → same node null_node ≡ false → text_under node old ≡ Some text → new ≡ looked_up node old → Keeps seen start seen (use_asks old node) old new r
kept-keeps seen start old new node text r named k is =
    let P : Asks (Result Use ReadAnswer) → Type 0 = λ q. MayAnswerWhereTold seen start seen q (Ok (Some (node, text))) in
    let U : Option (List ℕ) → Type 0 = λ o. UsesText node text o old new in
    keeps-any seen seen start (use_asks old node) old new r (
      Some (node, text),
      subst P (sym (use-kept old node named text k)) (answers-given {V = Use} (λ u. u) seen start (Ok (Some (node, text))) (Ok (Some (node, text))) refl),
      subst U (sym k) (is ∙ ap (λ o. used_if node o old) k),
    )

-- a text that was not kept
pub read-keeps : {X : Type 0} (before after : Option (List Op)) (start start_now : Tree) (old new : Texts) (node : List ℕ) (r : Result X ReadAnswer) → Grows before after → start_now ≡ start → same node null_node ≡ false → text_under node old ≡ None → KeepsRead before start after node old new r
    → Keeps before start after (use_asks old node) old new r
read-keeps before after start start_now old new node (Err e) g s named k h = inl h
read-keeps before after start start_now old new node (Ok x) g s named k h =
    let P : Asks (Result Use ReadAnswer) → Type 0 = λ q. MayAnswerWhereTold before start after q (Ok (Some (node, h.0))) in
    let U : Option (List ℕ) → Type 0 = λ o. UsesText node h.0 o old new in (
      Some (node, h.0),
      subst P (sym (use-asked old node named k))
          (answers-then {V = List ℕ} {W = Use} (λ text. text) (λ u. u) before after after start start_now (text_asks manifest_index manifest_data node) (λ text. answer (Ok (Some (node, text)))) h.0 (Ok (Some (node, h.0))) g s h.1
          (answers-given {V = Use} (λ u. u) after start_now (Ok (Some (node, h.0))) (Ok (Some (node, h.0))) refl)),
      subst U (sym k) h.2,
    )

-- a question before
pub keeps-then : {V A X : Type 0} (view : V → A) (before now next : Option (List Op)) (start start_now : Tree) (q : Asks (Result A ReadAnswer)) (more : A → Asks (Result Use ReadAnswer)) (x : V) (old new : Texts) (r : Result X ReadAnswer) →
    Grows before now → start_now ≡ start → Answers view before start now q (Ok x) → Keeps now start_now next (more (view x)) old new r → Keeps before start next (then_asks q more) old new r
keeps-then view before now next start start_now q more x old new (Ok y) g s h k =
    (k.0, answers-then {W = Use} view (λ u. u) before now next start start_now q more x (Ok k.0) g s h k.1, k.2)
keeps-then view before now next start start_now q more x old new (Err e) g s h (inl k) = inl k
keeps-then view before now next start start_now q more x old new (Err e) g s h (inr k) =
    inr (k.0, answers-then {W = Use} view (λ u. u) before now next start start_now q more x (Ok k.0) g s h k.1, k.2)

-- reads behind
later-end : {A : Type 0} (start : Tree) (q : Asks A) (from to last : List Op) (y : A) → IsPrefixOf to last → MayAnswer start from q to y → MayAnswer start from q last y
later-end start (answer z) from to last y on m = (prefix-trans from to last m.0 on, m.1)
later-end start (read path at most rest) from to last y on m = (m.0, m.1, later-end start (rest (part_of (after_all m.0 start) path at most)) m.0 to last y on m.2)

some-is : {A : Type 0} (x y : A) → Some x ≡ Some y → x ≡ y
some-is x y e = cc

told-later : {A : Type 0} (before now next : Option (List Op)) (start : Tree) (q : Asks A) (y : A) → Grows before now → Grows now next → MayAnswerWhereTold before start now q y → MayAnswerWhereTold before start next q y
told-later None now next start q y g f h = tt
told-later (Some first) None next start q y g f h = cc
told-later (Some first) (Some now) None start q y g f h = tt
told-later (Some first) (Some now) (Some next) start q y g f h = later-end start q first now next y (f.0, some-is next (now ++ f.0) f.1) h

pub keeps-later : {X : Type 0} (before now next : Option (List Op)) (start : Tree) (q : Asks (Result Use ReadAnswer)) (old new : Texts) (r : Result X ReadAnswer) → Grows before now → Grows now next → WasUsed before start now q old new → Keeps before start next q old new r
keeps-later before now next start q old new r g f h = keeps-any before next start q old new r (h.0, told-later before now next start q (Ok h.0) g f h.1, h.2)
