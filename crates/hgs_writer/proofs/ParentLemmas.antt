-- The files that are read of a commit's parents are those of the repository's changesets.
use Rattle.std.proofs.Common.{◌≡◌, ℕ, List, [], Bool, true, false, cond, length, map, nat_lt, take, refl, sym, ◌∙◌, ap, subst, arith}
use Rattle.std.specs.Prelude.{◌<◌, Option, Some, None, IfSome, Result, Ok, Err}
use Rattle.hgs_bytes.specs.Bytes.{among, same}
use Rattle.hgs_files.specs.Tree.{Tree}
use Rattle.hgs_index.specs.declared.kinds.Which.TheVariants.{Tree as TreeLimit}
use Rattle.hgs_index.specs.ChangeText.{Change, read_change}
use Rattle.hgs_index.specs.Manifest.{Row, manifest_text}
use Rattle.hgs_index.specs.declared.texts.ManifestFault.{ManifestFault}
use Rattle.hgs_index.specs.declared.entry.Entry.{Entry}
use Rattle.hgs_index.specs.Node.{null_node}
use Rattle.hgs_index.specs.Revision.{nodes}
use Rattle.hgs_index.specs.Theorems.ChangeTextLemmas.{change_back}
use Rattle.hgs_index.specs.Theorems.ManifestText.{manifest_back}
use Rattle.hgs_index.specs.Theorems.PlaceLemmas.{not-null}
use Rattle.hgs_loading.specs.Found.{and_then}
use Rattle.hgs_loading.specs.Parent.{Files, change_in, rows_at, rows_in, rows_of_text}
use Rattle.hgs_model.specs.History.{History, changeset_revision, changeset_text_value, history, manifest_number, manifest_revision, manifest_with, node_at, placed_of, row_of, rows_of, text_at}
use Rattle.hgs_model.specs.Repo.{Changeset, Repo}
use Rattle.hgs_model.specs.Theorems.CountLemmas.{number-below}
use Rattle.hgs_model.specs.Theorems.ListedLemmas.{front-below, length-nodes, node_at-front, number-text, text_at-front}
use Rattle.hgs_model.specs.Theorems.RowLemmas.{rows-good}
use Rattle.hgs_load.specs.declared.answer.ReadAnswer.{ReadAnswer}
use Rattle.hgs_load.specs.declared.answer.ReadAnswer.TheVariants.{Limit}
use Rattle.hgs_reader.specs.Contents.{manifest_data, most_files, rows_answer}
use Rattle.hgs_reader.specs.Line.{change_of_text}
use Rattle.hgs_load.specs.View.{changelog_data}
use Rattle.hgs_revlog.specs.Log.{place_of}
use Rattle.hgs_stands.specs.Stands.{Stands}
use Rattle.hgs_steps.specs.declared.loaded.Loaded.{Loaded}
use Rattle.hgs_commit.specs.Changeset.{of_changelog, of_manifest}
use Rattle.hgs_commit.specs.Commit.{parent_files}
use Rattle.hgs_writer.specs.Files.{files_at}
use Rattle.hgs_writer.specs.Logs.{IsLogOf}
use Rattle.hgs_writer.proofs.Basics.{IsLimited, ok-is}
use Rattle.hgs_writer.proofs.HistoryLemmas.{IsAddedAt, added, below-found, got, index-is, rows-are, text-is}
use Rattle.hgs_writer.proofs.TextLemmas.{place-of, text-in}

-- ---- what a changeset's texts are read as

module _ (t : Tree) (l : Loaded) (before k : History) (rev : ℕ) (c : Changeset) (is : IsAddedAt before k rev c) (changelog : IsLogOf t (of_changelog l.changelog) k.changelog) (manifests : IsLogOf t (of_manifest l.manifest) k.manifest) where
  entries : List Entry
  entries = l.manifest.entries

  number : ℕ
  number = manifest_number before c

  change : Change
  change = changeset_text_value before c

  change-read : change_in changelog_data l.changelog rev t ≡ Ok change
  unfolding change
  change-read =
      ap (λ (x : Result (List ℕ) ReadAnswer). and_then x (λ text. change_of_text rev (read_change text)))
      (text-in t (of_changelog l.changelog) k.changelog rev changelog (below-found k.changelog rev (changeset_revision before c) is.revision) ∙ ap (λ text. Ok text) (text-is k.changelog rev (changeset_revision before c) is.revision))
      ∙ ap (change_of_text rev) (change_back change is.next.spelled)

  below-front : number < length (manifest_with before c)
  unfolding number
  below-front = number-below before.manifest (manifest_revision before c)

  below : number < length k.manifest
  below = front-below (manifest_with before c) k.manifest is.extends.manifest number below-front

  node : change.manifest ≡ node_at k.manifest number
  unfolding change number
  node = sym (node_at-front (manifest_with before c) k.manifest is.extends.manifest number below-front)

  text : text_at k.manifest number ≡ manifest_text (rows_of before c)
  unfolding number
  text = text_at-front (manifest_with before c) k.manifest is.extends.manifest number below-front ∙ number-text before.manifest (manifest_revision before c)

  named : same change.manifest null_node ≡ false
  named = ap (λ (n : List ℕ). same n null_node) node ∙ not-null (nodes k.manifest) number null_node (ap (among null_node) (sym manifests.nodes_are) ∙ manifests.entries.not_null) (omega (arith, below, length-nodes k.manifest))

  rows-read : rows_in manifest_data l.manifest change.manifest t ≡ and_then (rows_answer (Ok (rows_of before c))) (λ rows. Ok (Some number, rows))
  unfolding entries
  rows-read =
      ap (λ (b : Bool). cond b (Ok (None, [])) (rows_at manifest_data l.manifest t (place_of entries change.manifest))) named
      ∙ ap (rows_at manifest_data l.manifest t) (ap (place_of entries) node ∙ place-of t (of_manifest l.manifest) k.manifest number manifests below)
      ∙ ap (λ (x : Result (List ℕ) ReadAnswer). and_then x (rows_of_text number)) (text-in t (of_manifest l.manifest) k.manifest number manifests below ∙ ap (λ x. Ok x) text)
      ∙ ap (λ (x : Result (List Row) ManifestFault). and_then (rows_answer x) (λ rows. Ok (Some number, rows))) (manifest_back (rows_of before c) (rows-good before c is.next))

  within : (files : Files) (b : Bool) → and_then (let a : Result (List Row) ReadAnswer = cond b (Err (Limit TreeLimit)) (Ok (rows_of before c)) in a) (λ rows. Ok (Some number, rows)) ≡ Ok files → (Some number, rows_of before c) ≡ files
  within files true e = cc
  within files false e = ok-is {E = ReadAnswer} (Some number, rows_of before c) files e

  placed : files_at k (Some rev) ≡ (Some number, rows_of before c)
  unfolding number
  placed =
      let rows = ap (map (row_of k.filelog)) (index-is k.placed rev [] (placed_of before c) is.placed) ∙ sym (rows-are before k rev c is) in
      let manifest = is.manifest in
      λ i. (manifest i, rows i)

  files-read : (files : Files) → parent_files l (Some rev) t ≡ Ok files → files ≡ files_at k (Some rev)
  unfolding entries change
  files-read files e =
      let read = ap (λ (x : Result Change ReadAnswer). and_then x (λ y. rows_in manifest_data l.manifest y.manifest t)) change-read in
      sym (within files (nat_lt most_files (length (rows_of before c))) (sym rows-read ∙ sym read ∙ e)) ∙ sym placed

  -- they are, where they are not too many
  pub files-there : nat_lt most_files (length (rows_of before c)) ≡ false → (files : Files) × (parent_files l (Some rev) t ≡ Ok files)
  unfolding entries change
  files-there few = (
    (Some number, rows_of before c),
    ap (λ (x : Result Change ReadAnswer). and_then x (λ y. rows_in manifest_data l.manifest y.manifest t)) change-read ∙ rows-read
        ∙ ap (λ b. and_then (let a : Result (List Row) ReadAnswer = cond b (Err (Limit TreeLimit)) (Ok (rows_of before c)) in a) (λ rows. Ok (Some number, rows))) few,
  )

  -- they are refused only where they are too many
  pub files-limited : IsLimited (parent_files l (Some rev) t)
  unfolding entries change
  files-limited =
      subst (λ (x : Result Files ReadAnswer). IsLimited x) (sym (ap (λ (x : Result Change ReadAnswer). and_then x (λ y. rows_in manifest_data l.manifest y.manifest t)) change-read ∙ rows-read)) (by (nat_lt most_files (length (rows_of before c))))
    where
      by : (b : Bool) → IsLimited {A = Files} (and_then (let a : Result (List Row) ReadAnswer = cond b (Err (Limit TreeLimit)) (Ok (rows_of before c)) in a) (λ rows. Ok (Some number, rows)))
      by true = (TreeLimit, refl)
      by false = tt

-- ---- a parent

pub parent-files : (t : Tree) (r : Repo) (l : Loaded) (o : Option ℕ) (files : Files) → Stands t r → IsLogOf t (of_changelog l.changelog) (history r.changesets).changelog → IsLogOf t (of_manifest l.manifest) (history r.changesets).manifest → IfSome o (λ rev. rev < length r.changesets)
    → parent_files l o t ≡ Ok files → files ≡ files_at (history r.changesets) o
parent-files t r l None files s changelog manifests low e = sym (ok-is {E = ReadAnswer} (None, []) files e)
parent-files t r l (Some rev) files s changelog manifests low e =
    let c = got r.changesets rev low in
    files-read t l (history (take rev r.changesets)) (history r.changesets) rev c.0 (added r.changesets s.repository.changesets rev c.0 c.1) changelog manifests files e
