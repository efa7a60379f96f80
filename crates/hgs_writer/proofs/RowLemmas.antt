-- The row of a file of a commit, and whether the file is changed, are those of the repository.
use Rattle.std.proofs.Common.{◌≡◌, ℕ, List, [], ◌++◌, true, ◌||◌, ◌==◌, cond, length, refl, sym, ◌∙◌, ap, subst}
use Rattle.std.specs.Prelude.{Option, Some, None, Result, Ok, find, is_none, is_some, option_map, unwrap_or}
use Rattle.hgs_bytes.specs.Bytes.{same}
use Rattle.hgs_files.specs.Tree.{Tree}
use Rattle.hgs_index.specs.declared.kinds.Flag.{Flag}
use Rattle.hgs_index.specs.Revision.{Parents, Revision, number_of, with_revision}
use Rattle.hgs_loading.specs.Found.{and_then}
use Rattle.hgs_model.specs.History.{History, Placed, file_parents, file_revision, filelog_with, first_of, has_other_flag as other_flag, history, kept, log_with_file, node_at, parent_file, placed_at, placed_file, rev_of_file}
use Rattle.hgs_model.specs.Repo.{Changeset, Repo, TreeFile, file_text}
use Rattle.hgs_model.specs.Step.{new_changeset, new_file, new_prefix}
use Rattle.hgs_model.specs.declared.command.NewChange.{NewChange}
use Rattle.hgs_model.specs.declared.files.NewFile.{NewFile}
use Rattle.hgs_model.specs.Theorems.CountLemmas.{file-revision-below, sound}
use Rattle.hgs_path.specs.Fncache.{listing}
use Rattle.hgs_load.specs.declared.answer.ReadAnswer.{ReadAnswer}
use Rattle.hgs_stands.specs.Stands.{Stands}
use Rattle.hgs_steps.specs.Planned.{IsLoadedOf}
use Rattle.hgs_steps.specs.declared.loaded.Loaded.{Loaded}
use Rattle.hgs_commit.specs.Files.{OfFile, file_in, file_on, file_with, filelog_in, formed, fresh_block, fresh_text, has_other_flag, kept_file, parents_by, place_in, row_with, source_node}
use Rattle.hgs_commit.specs.Obstacles.{Obstacle}
use Rattle.hgs_commit.specs.Texts.{OfLog, OfText, new_text_in}
use Rattle.hgs_commit.specs.Walk.{Told}
use Rattle.hgs_writer.specs.CommitsBelow.{Below}
use Rattle.hgs_writer.specs.Files.{files_at, told_at}
use Rattle.hgs_writer.specs.Logs.{IsLogOf}
use Rattle.hgs_writer.specs.Trees.{IsFileOf}
use Rattle.hgs_writer.proofs.Basics.{both, ok-is}
use Rattle.hgs_writer.proofs.FileLemmas.{fresh-block, kept-is, parents-of}
use Rattle.hgs_writer.proofs.FilelogLemmas.{filelog-of}
use Rattle.hgs_writer.proofs.FormLemmas.{formed-log}
use Rattle.hgs_writer.proofs.NewTextLemmas.{text-of}
use Rattle.hgs_writer.proofs.TextLemmas.{node-of}

-- the flag that the first parent's row has is that of its file
other-flag : (h : History) (parents : Parents) (flag : Flag) (path : List ℕ) → has_other_flag flag (first_of (told_at h parents.0 path) (told_at h parents.1 path)) ≡ other_flag flag (parent_file h parents path)
other-flag h parents flag path = by (placed_file (placed_at h parents.0) path) (placed_file (placed_at h parents.1) path)
  where
    told : Option Placed → Option Told
    told o = option_map (λ (p : Placed). (node_at (h.filelog p.path) p.rev, p.flag)) o

    by : (a b : Option Placed) → has_other_flag flag (first_of (told a) (told b)) ≡ other_flag flag (first_of a b)
    by None None = refl
    by None (Some q) = refl
    by (Some p) b = refl

module _ (laws : Below) (t : Tree) (r : Repo) (l : Loaded) (s : Stands t r) (loads : IsLoadedOf t l) (n : NewChange) (parents : Parents) (link : ℕ) (linked : link ≡ length (history r.changesets).placed) (file : NewFile) (source : List ℕ) (sourced : source ≡ source_node (files_at (history r.changesets) parents.0).1 file.from) where
  abbrev h : History
  h = history r.changesets

  abbrev c : Changeset
  c = new_changeset h parents n

  abbrev g : TreeFile
  g = new_file h parents file

  abbrev log : List Revision
  log = h.filelog file.path

  abbrev both_parents : Parents
  both_parents = file_parents h parents file.path

  abbrev old : Option Told
  old = first_of (told_at h parents.0 file.path) (told_at h parents.1 file.path)

  abbrev node-by : Option ℕ → List ℕ
  node-by o = node_at (cond (is_some o) log (with_revision log (file_revision h c g))) (unwrap_or o (number_of log (file_text g) both_parents))

  -- its filelog in the repository with the changeset
  pub filelog-is : (o : Option ℕ) → kept h parents file.path file.body ≡ o → find (λ (x : TreeFile). same x.path g.path) c.tree ≡ Some g → filelog_with h c g.path ≡ cond (is_some o) log (with_revision log (file_revision h c g))
  filelog-is o k found = ap (λ x. log_with_file h c x log) found ∙ ap (λ x. cond (is_some x) log (with_revision log (file_revision h c g))) k

  model-node : (o : Option ℕ) → kept h parents file.path file.body ≡ o → find (λ (x : TreeFile). same x.path g.path) c.tree ≡ Some g → node-by o ≡ node_at (filelog_with h c g.path) (rev_of_file h c g)
  model-node o k found = sym (λ i. node_at (logs i) (number i))
    where
      logs : filelog_with h c g.path ≡ cond (is_some o) log (with_revision log (file_revision h c g))
      logs = filelog-is o k found

      number : rev_of_file h c g ≡ unwrap_or o (number_of log (file_text g) both_parents)
      number = ap (λ x. unwrap_or x (number_of log (file_text g) both_parents)) k

  -- the text of a file that is not kept
  fresh-is : fresh_text file source ≡ new_prefix h parents file None ++ file.body
  fresh-is = ap (λ node. fresh_block file.from node file.body ++ file.body) sourced ∙ ap (λ p. p ++ file.body) (fresh-block h parents file.from file.body (sound r s.repository))

  pub new-revision : kept h parents file.path file.body ≡ None → (let x : Revision = record { text = fresh_text file source; parents = both_parents; link = link } in x) ≡ file_revision h c g
  new-revision k =
      let text = fresh-is ∙ ap (λ o. new_prefix h parents file o ++ file.body) (sym k) in
      λ i. record { text = text i; parents = both_parents; link = linked i }

  with-row : (x : OfFile × List Obstacle) (node : List ℕ) (o : Option ℕ) → kept h parents file.path file.body ≡ o → find (λ (y : TreeFile). same y.path g.path) c.tree ≡ Some g → x.0.row ≡ row_with file node → node ≡ node-by o → x.0.changed ≡ (is_none o || other_flag file.flag (parent_file h parents file.path)) → IsFileOf h c g x.0
  with-row x node o k found row is changed = record {
    row = row ∙ (let e = is ∙ model-node o k found in λ i. row_with file (e i));
    changed = changed ∙ ap (λ y. is_none y || other_flag file.flag (parent_file h parents file.path)) (sym k);
  }

  file-by : (f : OfLog) (x : OfFile × List Obstacle) → IsLogOf t f log → find (λ (y : TreeFile). same y.path g.path) c.tree ≡ Some g → (o : Option ℕ) → kept h parents file.path file.body ≡ o → file_with f file source old both_parents link o t ≡ Ok x → IsFileOf h c g x.0
  file-by f x is found (Some rev) k e =
      subst (λ (z : OfFile × List Obstacle). IsFileOf h c g z.0) (ok-is {E = ReadAnswer} (kept_file f file old rev, []) x e)
      (with-row (kept_file f file old rev, []) _ (Some rev) k found refl (node-of t f log rev is) (other-flag h parents file.flag file.path))
  file-by f x is found None k e =
      let revision : Revision = record { text = fresh_text file source; parents = both_parents; link = link } in
      let now = formed f (fresh_text file source) in
      let made : OfText × List Obstacle → List Obstacle → OfFile × List Obstacle = λ text obstacles. (record { row = row_with file text.0.node; changed = true; growth = text.0.growth; new = length f.log.entries == 0; inline = now.log.inline }, obstacles ++ text.1) in
      let a = both (new_text_in now revision t) (λ text. and_then (place_in now t) (λ obstacles. Ok (made text obstacles))) x e in
      let b = both (place_in now t) (λ obstacles. Ok (made a.0 obstacles)) x a.2 in
      let y = text-of t now log revision (formed-log t f log (fresh_text file source) is) in
      let text : y.0 ≡ a.0 = ok-is {E = ReadAnswer} y.0 a.0 (sym y.1 ∙ a.1) in
      let node : a.0.0.node ≡ node-by None = ap (λ (z : OfText × List Obstacle). z.0.node) (sym text) ∙ y.2.node ∙ ap (λ (z : Revision). node_at (with_revision log z) (number_of log z.text z.parents)) (new-revision k) in
      subst (λ (z : OfFile × List Obstacle). IsFileOf h c g z.0) (ok-is {E = ReadAnswer} (made a.0 b.0) x b.2) (with-row (made a.0 b.0) a.0.0.node None k found refl node refl)

  -- its filelog as it is loaded, and what it becomes by the revision that is kept
  pub file-steps : (x : OfFile × List Obstacle) → file_in (listing l.fncache) link file source (told_at h parents.0 file.path) (told_at h parents.1 file.path) t ≡ Ok x
      → (f : OfLog) × (filelog_in (listing l.fncache) file.path t ≡ Ok f) × IsLogOf t f log × (file_with f file source old both_parents link (kept h parents file.path file.body) t ≡ Ok x)
  file-steps x e =
      let first = told_at h parents.0 file.path in
      let second = told_at h parents.1 file.path in
      let a = both (filelog_in (listing l.fncache) file.path t) (λ f. and_then (parents_by f first second) (λ ps. file_on f file source (first_of first second) ps link t)) x e in
      let is = filelog-of laws t r l file.path a.0 s loads a.1 in
      let sound_is = sound r s.repository in
      let ps = ap (λ (z : Result Parents ReadAnswer). and_then z (λ p. file_on a.0 file source old p link t)) (parents-of t h a.0 parents file.path sound_is is) in
      let stays = ap (λ (z : Result (Option ℕ) ReadAnswer). and_then z (λ rev. file_with a.0 file source old both_parents link rev t)) (kept-is t a.0 log both_parents.0 both_parents.1 file.body is (file-revision-below h parents file.path sound_is).first) in
      (a.0, a.1, is, sym stays ∙ sym ps ∙ a.2)

  pub file-of : (x : OfFile × List Obstacle) → find (λ (y : TreeFile). same y.path g.path) c.tree ≡ Some g → file_in (listing l.fncache) link file source (told_at h parents.0 file.path) (told_at h parents.1 file.path) t ≡ Ok x → IsFileOf h c g x.0
  file-of x found e = let a = file-steps x e in file-by a.0 x a.2 found (kept h parents file.path file.body) refl a.3
