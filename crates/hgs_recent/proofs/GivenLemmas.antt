-- How many bytes a question is given, of files at rest, where texts are kept.
use Rattle.std.proofs.Common.{◌≡◌, ℕ, ◌+◌, Bool, true, false, cond, List, [], Option, Some, None, Result, Ok, Err, refl, ◌∙◌, ap, arith}
use Rattle.hgs_bytes.specs.Bytes.{same}
use Rattle.hgs_files.specs.Tree.{Tree}
use Rattle.hgs_index.specs.ChangeText.{Change}
use Rattle.hgs_index.specs.Manifest.{Row, read_manifest}
use Rattle.hgs_index.specs.Node.{null_node}
use Rattle.hgs_load.specs.declared.answer.ReadAnswer.{ReadAnswer}
use Rattle.hgs_load.specs.Asks.{Asks, answer, read, part_of, at_rest, then_asks}
use Rattle.hgs_load.specs.Given.{given_at_rest, size_of}
use Rattle.hgs_load.specs.Load.{asks_unless}
use Rattle.hgs_load.specs.View.{View}
use Rattle.hgs_reader.specs.Contents.{manifest_index, manifest_data, rows_answer, files_text}
use Rattle.hgs_reader.specs.Find.{text_asks}
use Rattle.hgs_reader.specs.Line.{change_asks}
use Rattle.hgs_recent.specs.Questions.{rows_asks, tree_asks, files_asks}
use Rattle.hgs_recent.specs.Texts.{Texts, text_under}

ok-is : {A : Type 0} (x y : A) → (let a : Result A ReadAnswer = Ok x in a) ≡ Ok y → x ≡ y
ok-is x y e = cc

no-ok : {A : Type 0} (x : A) (e : ReadAnswer) → (let a : Result A ReadAnswer = Err e in a) ≡ Ok x → ⊥
no-ok x e h = cc

nothing-more : (n : ℕ) → n ≡ 0 + n
nothing-more n = omega arith

in-turn : (a b c d : ℕ) → d ≡ b + c → a + d ≡ a + b + c
in-turn a b c d e = omega (arith, e)

given-then : {A B : Type 0} (t : Tree) (q : Asks (Result A ReadAnswer)) (more : A → Asks (Result B ReadAnswer)) (x : A) → at_rest t q ≡ Ok x → given_at_rest t (then_asks q more) ≡ given_at_rest t q + given_at_rest t (more x)
given-then t (answer (Ok y)) more x h = ap (λ z. given_at_rest t (more z)) (ok-is y x h) ∙ nothing-more (given_at_rest t (more x))
given-then t (answer (Err e)) more x h = absurd (no-ok x e h)
given-then t (read path from most rest) more x h =
    let part = part_of t path from most in
    in-turn (size_of part) (given_at_rest t (rest part)) (given_at_rest t (more x)) (given_at_rest t (then_asks (rest part) more)) (given-then t (rest part) more x h)

-- what is answered behind a question without a read is given nothing
given-mapped : {A B : Type 0} (t : Tree) (q : Asks (Result A ReadAnswer)) (f : A → Result B ReadAnswer) → given_at_rest t (then_asks q (λ x. answer (f x))) ≡ given_at_rest t q
given-mapped t (answer (Ok y)) f = refl
given-mapped t (answer (Err e)) f = refl
given-mapped t (read path from most rest) f = ap (λ n. size_of (part_of t path from most) + n) (given-mapped t (rest (part_of t path from most)) f)

files-given : (t : Tree) (texts : Texts) (view : View) (rev : ℕ) (c : Change) → at_rest t (change_asks view rev) ≡ Ok c → given_at_rest t (files_asks texts view rev) ≡ given_at_rest t (change_asks view rev) + given_at_rest t (rows_asks texts c.manifest)
files-given t texts view rev c h =
    given-mapped t (tree_asks texts view rev) (λ (rows : List Row). Ok (files_text rows)) ∙ given-then t (change_asks view rev) (λ (c : Change). rows_asks texts c.manifest) c h

abbrev rows-by : Bool → Option (List ℕ) → List ℕ → Asks (Result (List Row) ReadAnswer)
rows-by b o node = cond b (answer (Ok [])) (then_asks (asks_unless o (text_asks manifest_index manifest_data node)) (λ text. answer (rows_answer (read_manifest text))))

pub plain-given : (t : Tree) (view : View) (rev : ℕ) (c : Change) → at_rest t (change_asks view rev) ≡ Ok c → same c.manifest null_node ≡ false → given_at_rest t (files_asks [] view rev) ≡ given_at_rest t (change_asks view rev) + given_at_rest t (text_asks manifest_index manifest_data c.manifest)
plain-given t view rev c h named =
    files-given t [] view rev c h
    ∙ ap (λ n. given_at_rest t (change_asks view rev) + n) (ap (λ b. given_at_rest t (rows-by b None c.manifest)) named ∙ given-mapped t (text_asks manifest_index manifest_data c.manifest) (λ text. rows_answer (read_manifest text)))

none-more : (a b : ℕ) → b ≡ 0 → a + b ≡ a
none-more a b e = omega (arith, e)

pub kept-given : (t : Tree) (texts : Texts) (view : View) (rev : ℕ) (c : Change) (text : List ℕ) → at_rest t (change_asks view rev) ≡ Ok c → text_under c.manifest texts ≡ Some text → given_at_rest t (files_asks texts view rev) ≡ given_at_rest t (change_asks view rev)
kept-given t texts view rev c text h k =
    files-given t texts view rev c h
    ∙ none-more (given_at_rest t (change_asks view rev)) (given_at_rest t (rows_asks texts c.manifest)) (ap (λ o. given_at_rest t (rows-by (same c.manifest null_node) o c.manifest)) k ∙ by (same c.manifest null_node))
  where
    by : (b : Bool) → given_at_rest t (rows-by b (Some text) c.manifest) ≡ 0
    by true = refl
    by false = refl
