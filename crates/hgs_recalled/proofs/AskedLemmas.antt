-- Questions one after another, and the question for what is used of kept texts.
use Rattle.std.proofs.Common.{◌≡◌, ◌⊎◌, inl, inr, ℕ, Bool, true, false, cond, List, [], Option, Some, None, Result, Ok, Err, refl, sym, ◌∙◌, ap, subst}
use Rattle.hgs_bytes.specs.Bytes.{same, IsPrefixOf}
use Rattle.hgs_files.specs.declared.op.Op.{Op}
use Rattle.hgs_files.specs.Tree.{Tree, after_all}
use Rattle.hgs_index.specs.ChangeText.{Change}
use Rattle.hgs_index.specs.Manifest.{read_manifest}
use Rattle.hgs_index.specs.Node.{null_node}
use Rattle.hgs_load.specs.declared.answer.ReadAnswer.{ReadAnswer}
use Rattle.hgs_load.specs.Asks.{Asks, answer, read, part_of, at_rest, then_asks, MayAnswer}
use Rattle.hgs_load.specs.Load.{asks_unless}
use Rattle.hgs_load.specs.Theorems.AskLemmas.{prefix-refl, prefix-trans}
use Rattle.hgs_load.specs.View.{View}
use Rattle.hgs_reader.specs.Contents as plain
use Rattle.hgs_reader.specs.Contents.{manifest_index, manifest_data, rows_answer}
use Rattle.hgs_reader.specs.Find.{text_asks}
use Rattle.hgs_reader.specs.Line.{change_asks}
use Rattle.hgs_recent.specs.Questions.{Use, use_asks, changeset_use_asks}
use Rattle.hgs_recent.specs.Texts.{Texts, text_under}

-- ---- one question after another

pub may-front : {A : Type 0} (q : Asks A) (start : Tree) (k l : List Op) (y : A) → MayAnswer start k q l y → IsPrefixOf k l
may-front (answer x) start k l y m = m.0
may-front (read path from most rest) start k l y m = prefix-trans k m.0 l m.1 (may-front (rest (part_of (after_all m.0 start) path from most)) start m.0 l y m.2)

may-earlier : {A : Type 0} (start : Tree) (first mid last : List Op) (q : Asks A) (y : A) → IsPrefixOf first mid → MayAnswer start mid q last y → MayAnswer start first q last y
may-earlier start first mid last (answer x) y f h = (prefix-trans first mid last f h.0, h.1)
may-earlier start first mid last (read path from most rest) y f h = (h.0, prefix-trans first mid h.0 f h.1, h.2)

pub later-end : {A : Type 0} (start : Tree) (q : Asks A) (from to last : List Op) (y : A) → IsPrefixOf to last → MayAnswer start from q to y → MayAnswer start from q last y
later-end start (answer z) from to last y on m = (prefix-trans from to last m.0 on, m.1)
later-end start (read path at most rest) from to last y on m = (m.0, m.1, later-end start (rest (part_of (after_all m.0 start) path at most)) m.0 to last y on m.2)

ok-is : {A : Type 0} (x y : A) → (let a : Result A ReadAnswer = Ok x in a) ≡ Ok y → x ≡ y
ok-is x y e = cc

no-ok : {A : Type 0} (x : A) (e : ReadAnswer) → (let a : Result A ReadAnswer = Ok x in a) ≡ Err e → ⊥
no-ok x e h = cc

pub may-then : {A B : Type 0} (start : Tree) (first mid last : List Op) (q : Asks (Result A ReadAnswer)) (more : A → Asks (Result B ReadAnswer)) (x : A) (y : Result B ReadAnswer) →
    MayAnswer start first q mid (Ok x) → MayAnswer start mid (more x) last y → MayAnswer start first (then_asks q more) last y
may-then {A} {B} start first mid last (answer (Ok a)) more x y h k =
    let P : A → Type 0 = λ z. MayAnswer start mid (more z) last y in
    may-earlier start first mid last (more a) y h.0 (subst P (ok-is x a h.1) k)
may-then start first mid last (answer (Err e)) more x y h k = absurd (no-ok x e h.1)
may-then start first mid last (read path from most rest) more x y h k =
    (h.0, h.1, may-then start h.0 mid last (rest (part_of (after_all h.0 start) path from most)) more x y h.2 k)

-- what comes behind the answer of the first question
abbrev pub Behind : {A B : Type 0} → Tree → (A → Asks (Result B ReadAnswer)) → List Op → List Op → Result B ReadAnswer → Result A ReadAnswer → Type 0
Behind start more now last y (Ok a) = MayAnswer start now (more a) last y
Behind start more now last y (Err e) = y ≡ Err e

-- the two parts of an answer
pub record Parts {A B : Type 0} (start : Tree) (q : Asks (Result A ReadAnswer)) (more : A → Asks (Result B ReadAnswer)) (from last : List Op) (y : Result B ReadAnswer) : Type 0 where
  pub now : List Op
  pub begins : IsPrefixOf from now
  pub ends : IsPrefixOf now last
  pub first : Result A ReadAnswer
  pub asked : MayAnswer start from q now first
  pub behind : Behind start more now last y first

pub split : {A B : Type 0} (start : Tree) (q : Asks (Result A ReadAnswer)) (more : A → Asks (Result B ReadAnswer)) (from last : List Op) (y : Result B ReadAnswer) → MayAnswer start from (then_asks q more) last y → Parts start q more from last y
split start (answer (Ok a)) more from last y m = record { now = from; begins = prefix-refl from; ends = may-front (more a) start from last y m; first = Ok a; asked = (prefix-refl from, refl); behind = m }
split start (answer (Err e)) more from last y m = record { now = from; begins = prefix-refl from; ends = m.0; first = Err e; asked = (prefix-refl from, refl); behind = m.1 }
split start (read path at most rest) more from last y m =
    let s = split start (rest (part_of (after_all m.0 start) path at most)) more m.0 last y m.2 in
    record { now = s.now; begins = prefix-trans from m.0 s.now m.1 s.begins; ends = s.ends; first = s.first; asked = (m.0, m.1, s.asked); behind = s.behind }

-- all reads at one moment
pub may-rest : {A : Type 0} (start : Tree) (log : List Op) (q : Asks A) → MayAnswer start log q log (at_rest (after_all log start) q)
may-rest start log (answer x) = (prefix-refl log, refl)
may-rest start log (read path from most rest) = (log, prefix-refl log, may-rest start log (rest (part_of (after_all log start) path from most)))

-- ---- what is used

pub record IsUse (start : Tree) (texts : Texts) (node : List ℕ) (from to : List Op) (kept : List ℕ × List ℕ) : Type 0 where
  pub node_is : kept.0 ≡ node
  pub named : same node null_node ≡ false
  pub source : (text_under node texts ≡ Some kept.1) ⊎ MayAnswer start from (text_asks manifest_index manifest_data node) to (Ok kept.1)

some-is : {A : Type 0} (x y : A) → (let a : Result (Option A) ReadAnswer = Ok (Some x) in a) ≡ Ok (Some y) → x ≡ y
some-is x y e = cc

no-some : {A : Type 0} (x : A) → (let a : Result (Option A) ReadAnswer = Ok (Some x) in a) ≡ Ok None → ⊥
no-some x e = cc

pub use-of : (start : Tree) (texts : Texts) (node : List ℕ) (from to : List Op) (kept : List ℕ × List ℕ) → MayAnswer start from (use_asks texts node) to (Ok (Some kept)) → IsUse start texts node from to kept
use-of start texts node from to kept = by (same node null_node) (text_under node texts) refl refl
  where
    texts_of : List ℕ → Asks (Result Use ReadAnswer)
    texts_of text = answer (Ok (Some (node, text)))

    read-one : (s : Result (List ℕ) ReadAnswer) (now : List Op) → IsPrefixOf now to → same node null_node ≡ false → MayAnswer start from (text_asks manifest_index manifest_data node) now s → Behind start (λ text. answer (Ok (Some (node, text)))) now to (Ok (Some kept)) s → IsUse start texts node from to kept
    read-one (Err e) now on named asked behind = absurd (no-ok (Some kept) e behind)
    read-one (Ok text) now on named asked behind =
        let is : kept ≡ (node, text) = some-is kept (node, text) behind.1 in
        record {
          node_is = ap (λ p. p.0) is;
          named = named;
          source = inr (subst (λ t. MayAnswer start from (text_asks manifest_index manifest_data node) to (Ok t)) (sym (ap (λ p. p.1) is)) (later-end start (text_asks manifest_index manifest_data node) from now to (Ok text) on asked));
        }

    by : (b : Bool) (o : Option (List ℕ)) → same node null_node ≡ b → text_under node texts ≡ o → MayAnswer start from (cond b (answer (Ok None)) (then_asks (asks_unless o (text_asks manifest_index manifest_data node)) (λ text. answer (Ok (Some (node, text)))))) to (Ok (Some kept)) → IsUse start texts node from to kept
    by true o named k m = absurd (no-some kept m.1)
    by false (Some text) named k m =
        let is : kept ≡ (node, text) = some-is kept (node, text) m.1 in
        record {
          node_is = ap (λ p. p.0) is;
          named = named;
          source = inl (k ∙ ap (λ t. Some t) (sym (ap (λ p. p.1) is)));
        }
    by false None named k m =
        let s = split start (text_asks manifest_index manifest_data node) (λ text. answer (Ok (Some (node, text)))) from to (Ok (Some kept)) m in
        read-one s.first s.now s.ends named s.asked s.behind

-- for a changeset
pub record IsChangesetUse (start : Tree) (texts : Texts) (view : View) (rev : ℕ) (from to : List Op) (kept : List ℕ × List ℕ) : Type 0 where
  pub now : List Op
  pub begins : IsPrefixOf from now
  pub ends : IsPrefixOf now to
  pub change : Change
  pub asked : MayAnswer start from (change_asks view rev) now (Ok change)
  pub used_text : IsUse start texts change.manifest now to kept

pub changeset-use-of : (start : Tree) (texts : Texts) (view : View) (rev : ℕ) (from to : List Op) (kept : List ℕ × List ℕ) → MayAnswer start from (changeset_use_asks texts view rev) to (Ok (Some kept)) → IsChangesetUse start texts view rev from to kept
changeset-use-of start texts view rev from to kept m = by s.first s.now s.begins s.ends s.asked s.behind
  where
    s : Parts start (change_asks view rev) (λ (c : Change). use_asks texts c.manifest) from to (Ok (Some kept))
    s = split start (change_asks view rev) (λ (c : Change). use_asks texts c.manifest) from to (Ok (Some kept)) m

    by : (r : Result Change ReadAnswer) (now : List Op) → IsPrefixOf from now → IsPrefixOf now to → MayAnswer start from (change_asks view rev) now r → Behind start (λ (c : Change). use_asks texts c.manifest) now to (Ok (Some kept)) r → IsChangesetUse start texts view rev from to kept
    by (Err e) now begins ends asked behind = absurd (no-ok (Some kept) e behind)
    by (Ok c) now begins ends asked behind = record { now = now; begins = begins; ends = ends; change = c; asked = asked; used_text = use-of start texts c.manifest now to kept behind }

-- a text that was read is one that is used where nothing is kept
pub use-plain : (start : Tree) (view : View) (rev : ℕ) (from now to : List Op) (change : Change) (kept : List ℕ × List ℕ) → kept.0 ≡ change.manifest → same change.manifest null_node ≡ false → MayAnswer start from (change_asks view rev) now (Ok change)
    → MayAnswer start now (text_asks manifest_index manifest_data change.manifest) to (Ok kept.1) → MayAnswer start from (changeset_use_asks [] view rev) to (Ok (Some kept))
use-plain start view rev from now to change kept is named asked text =
    may-then start from now to (change_asks view rev) (λ (c : Change). use_asks [] c.manifest) change (Ok (Some kept)) asked
    (subst (λ b. MayAnswer start now (cond b (answer (Ok None)) (then_asks (text_asks manifest_index manifest_data change.manifest) (λ text. answer (Ok (Some (change.manifest, text)))))) to (Ok (Some kept))) (sym named)
    (may-then start now to to (text_asks manifest_index manifest_data change.manifest) (λ text. answer (Ok (Some (change.manifest, text)))) kept.1 (Ok (Some kept)) text
    (prefix-refl to, ap (λ n. let a : Result Use ReadAnswer = Ok (Some (n, kept.1)) in a) is)))

-- and then the rows are those of this text
pub tree-plain : (start : Tree) (view : View) (rev : ℕ) (from now to : List Op) (change : Change) (text : List ℕ) → same change.manifest null_node ≡ false → MayAnswer start from (change_asks view rev) now (Ok change)
    → MayAnswer start now (text_asks manifest_index manifest_data change.manifest) to (Ok text) → MayAnswer start from (plain.tree_asks view rev) to (rows_answer (read_manifest text))
tree-plain start view rev from now to change text named asked text_read =
    may-then start from now to (change_asks view rev) (λ (c : Change). plain.rows_asks c.manifest) change (rows_answer (read_manifest text)) asked
    (subst (λ b. MayAnswer start now (cond b (answer (Ok [])) (then_asks (text_asks manifest_index manifest_data change.manifest) (λ text. answer (rows_answer (read_manifest text))))) to (rows_answer (read_manifest text))) (sym named)
    (may-then start now to to (text_asks manifest_index manifest_data change.manifest) (λ text. answer (rows_answer (read_manifest text))) text (rows_answer (read_manifest text)) text_read (prefix-refl to, refl)))
