-- What is read of a changeset of a view is its repository's text.
use Rattle.std.proofs.Common.{◌≡◌, ℕ, zero, suc, List, [], ◌∷◌, ◌++◌, Bool, true, false, ◌||◌, cond, Option, Some, None, Result, Ok, refl, sym, ◌∙◌, ap, subst}
use Rattle.std.specs.Prelude.{decimal, find, slice_get, slice_index_or, Err}
use Rattle.std.specs.Fmt.{signed_decimal}
use Rattle.std.specs.List.{AllZip}
use Rattle.std.specs.Option.{option_map}
use Rattle.hgs_bytes.specs.Bytes.{among, same}
use Rattle.hgs_bytes.specs.Theorems.ByteLemmas.{same-eq, same-refl}
use Rattle.hgs_files.specs.declared.op.Op.{Op}
use Rattle.hgs_index.specs.ChangeText.{Change}
use Rattle.hgs_index.specs.Hex.{hex}
use Rattle.hgs_index.specs.Manifest.{Row}
use Rattle.hgs_index.specs.Node.{null_node}
use Rattle.hgs_index.specs.declared.entry.Entry.{Entry}
use Rattle.hgs_load.specs.View.{View}
use Rattle.hgs_load.specs.declared.answer.ReadAnswer.{ReadAnswer}
use Rattle.hgs_load.specs.declared.answer.ReadAnswer.TheVariants.{UnknownPath}
use Rattle.hgs_model.specs.Held.{Tells}
use Rattle.hgs_model.specs.History.{changeset_nodes}
use Rattle.hgs_model.specs.Repo.{Changeset, Repo, TreeFile, tree_at, tree_paths}
use Rattle.hgs_reader.specs.Contents.{cat_asks, files_asks, files_text}
use Rattle.hgs_reader.specs.Line.{field, first_line, line_asks, line_text, parent_text}
use Rattle.hgs_shown.specs.Answers.{body_answer, body_at, log_line, node_in}
use Rattle.hgs_views.specs.Answered.{IsAnswered, IsFileAnswered, OnlyAnswers}
use Rattle.hgs_views.specs.Course.{Course}
use Rattle.hgs_views.specs.Says.{TellsOf}

tree-there : (changesets : List Changeset) (rev : ℕ) (c : Changeset) → slice_get changesets rev ≡ Some c → tree_at changesets rev ≡ c.tree
tree-there [] rev c e = cc
tree-there (d ∷ changesets) zero c e = ap (λ o. elim o [ None ↦ d.tree | Some z ↦ z.tree ]) e
tree-there (d ∷ changesets) (suc rev) c e = tree-there changesets rev c e

index-there : (nodes : List (List ℕ)) (rev : ℕ) (node : List ℕ) → slice_get nodes rev ≡ Some node → slice_index_or nodes rev null_node ≡ node
index-there [] rev node e = cc
index-there (n ∷ nodes) zero node e = ap (λ o. elim o [ None ↦ n | Some z ↦ z ]) e
index-there (n ∷ nodes) (suc rev) node e = index-there nodes rev node e

-- the line of an entry and a text that are those of a changeset
line-is : (r : Repo) (rev : ℕ) (c : Changeset) (entry : Entry) (change : Change) → entry.node.0 ≡ node_in r rev → (entry.p1, entry.p2) ≡ c.parents → Tells change c → line_text rev entry change ≡ log_line r rev c
line-is r rev c entry change node parents tells =
    let user = tells.user in
    let seconds = tells.seconds in
    let offset = tells.offset in
    let description = tells.description in
    λ i. (decimal rev ++ field (hex (node i)) ++ field (parent_text ((parents i).0)) ++ field (parent_text ((parents i).1)))
    ++ (field (signed_decimal (seconds i)) ++ field (signed_decimal (offset i)) ++ field (user i) ++ field (first_line (description i))) ++ 10 ∷ []

module _ (x : Course) (first last : List Op) (view : View) (r : Repo) (rev : ℕ) where
  -- `cat` of a path answers this
  abbrev Cats : List ℕ → Result (List ℕ) ReadAnswer → Type 0
  Cats path y = OnlyAnswers x first last (cat_asks view rev path) y

  found-in : (path : List ℕ) (tree : List TreeFile) (rows : List Row) → AllZip (IsFileAnswered x first last view r.changesets rev) tree rows → (among path (tree_paths tree) ≡ false → Cats path (Err UnknownPath))
      → Cats path (body_answer (option_map (λ (f : TreeFile). f.body) (find (λ (f : TreeFile). same f.path path) tree)))
  found-in path [] [] z other = other refl
  found-in path [] (row ∷ rows) z other = absurd z
  found-in path (f ∷ tree) [] z other = absurd z
  found-in path (f ∷ tree) (row ∷ rows) z other = by (same f.path path) refl (λ o. found-in path tree rows z.1 o)
    where
      by : (b : Bool) → same f.path path ≡ b → ((among path (tree_paths tree) ≡ false → Cats path (Err UnknownPath)) → Cats path (body_answer (option_map (λ (f : TreeFile). f.body) (find (λ (f : TreeFile). same f.path path) tree))))
          → Cats path (body_answer (option_map (λ (f : TreeFile). f.body) (cond b (Some f) (find (λ (f : TreeFile). same f.path path) tree))))
      by true e rec = subst (λ p. Cats p (Ok f.body)) (same-eq f.path path e) z.0.body
      by false e rec = rec (λ none. other (ap (λ b. b || among path (tree_paths tree)) (flip e) ∙ none))
        where
          flip : same f.path path ≡ false → same path f.path ≡ false
          flip h = turn (same path f.path) refl
            where
              turn : (b : Bool) → same path f.path ≡ b → b ≡ false
              turn true g = sym (ap (λ p. same p path) (sym (same-eq path f.path g)) ∙ same-refl path) ∙ h
              turn false g = refl

  pub tells-of : (c : Changeset) → slice_get r.changesets rev ≡ Some c → IsAnswered x first last view r.changesets rev c → TellsOf x first last view r rev c
  tells-of c found a =
      let line = line-is r rev c a.entry a.change (sym (index-there (changeset_nodes r.changesets) rev a.entry.node.0 a.node)) a.parents a.tells in
      record {
        line = subst (λ l. OnlyAnswers x first last (line_asks view rev) (Ok l)) line a.line;
        files = subst (λ rows. OnlyAnswers x first last (files_asks view rev) (Ok (files_text rows))) a.rows_are a.lines;
        body = λ path.
            subst (λ tree. Cats path (body_answer (option_map (λ (f : TreeFile). f.body) (find (λ (f : TreeFile). same f.path path) tree)))) (sym (tree-there r.changesets rev c found))
            (found-in path c.tree a.rows a.files (a.others path));
      }
