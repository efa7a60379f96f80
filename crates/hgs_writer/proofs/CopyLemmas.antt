-- The copies of a commit are refused as the repository refuses them.
use Rattle.std.proofs.Common.{◌≡◌, ℕ, List, Bool, true, false, ◌&&◌, length, refl, sym, ◌∙◌, ap}
use Rattle.std.specs.Prelude.{◌<◌, Option, Some, None, is_none, is_some, option_map, Result, Ok, Err, find, if◌then◌else◌}
use Rattle.std.specs.List.{list_any}
use Rattle.hgs_files.specs.Tree.{Tree}
use Rattle.hgs_index.specs.Revision.{Parents}
use Rattle.hgs_loading.specs.Found.{and_then}
use Rattle.hgs_loading.specs.Parent.{Files}
use Rattle.hgs_model.specs.History.{History, Placed, first_of, history, node_at, placed_at, placed_file}
use Rattle.hgs_model.specs.Repo.{Repo}
use Rattle.hgs_model.specs.Step.{◌>>=◌, copies_hold, guard, is_over as is_over_of, lacks as lacks_of, lacks_source as lacks_source_of, over_where as over_where_of}
use Rattle.hgs_model.specs.declared.command.NewChange.{NewChange}
use Rattle.hgs_model.specs.declared.command.Refusal.TheVariants.{UnknownPath}
use Rattle.hgs_model.specs.declared.files.NewFile.{NewFile}
use Rattle.hgs_load.specs.declared.answer.ReadAnswer.{ReadAnswer}
use Rattle.hgs_stands.specs.Stands.{Stands}
use Rattle.hgs_steps.specs.Steps.{as_fault}
use Rattle.hgs_steps.specs.declared.fault.PlanFault.{PlanFault}
use Rattle.hgs_steps.specs.declared.fault.PlanFault.TheVariants.{Refused as refused_for}
use Rattle.hgs_steps.specs.declared.loaded.Loaded.{Loaded}
use Rattle.hgs_commit.specs.Changeset.{of_changelog, of_manifest}
use Rattle.hgs_commit.specs.Commit.{both_parents, copies_tested, is_over, lacks, lacks_source, over_where, parent_files}
use Rattle.hgs_commit.specs.Walk.{Told}
use Rattle.hgs_writer.specs.Files.{files_at}
use Rattle.hgs_writer.specs.Logs.{IsLogOf}
use Rattle.hgs_writer.specs.Trees.{AreBelow}
use Rattle.hgs_writer.proofs.Basics.{both, ok-is}
use Rattle.hgs_writer.proofs.FileLemmas.{told-of}
use Rattle.hgs_writer.proofs.ParentLemmas.{parent-files}

-- ---- by the files of the parents

module _ (h : History) (parents : Parents) where
  abbrev told : Option Placed → Option Told
  told o = option_map (λ (p : Placed). let x : Told = (node_at (h.filelog p.path) p.rev, p.flag) in x) o

  lacks-same : (from : Option (List ℕ)) → lacks (files_at h parents.0).1 from ≡ lacks_of h parents from
  lacks-same None = refl
  lacks-same (Some path) = ap is_none (told-of h parents.0 path) ∙ by (placed_file (placed_at h parents.0) path)
    where
      by : (o : Option Placed) → is_none (told o) ≡ is_none o
      by None = refl
      by (Some p) = refl

  over-same : (f : NewFile) → is_over (files_at h parents.0).1 (files_at h parents.1).1 f ≡ is_over_of h parents f
  over-same f =
      let one = told-of h parents.0 f.path in
      let two = told-of h parents.1 f.path in
      (λ i. is_some f.from && is_some (first_of (one i) (two i)))
      ∙ ap (λ b. is_some f.from && b) (by (placed_file (placed_at h parents.0) f.path) (placed_file (placed_at h parents.1) f.path))
    where
      by : (a b : Option Placed) → is_some (first_of (told a) (told b)) ≡ is_some (first_of a b)
      by None None = refl
      by None (Some q) = refl
      by (Some p) b = refl

  pub copies-same : (files : List NewFile) → copies_tested (files_at h parents.0).1 (files_at h parents.1).1 files ≡ as_fault (copies_hold h parents files)
  copies-same files =
      let unknown : lacks_source (files_at h parents.0).1 ≡ lacks_source_of h parents = (λ i f. lacks-same f.from i) in
      let over : is_over (files_at h parents.0).1 (files_at h parents.1).1 ≡ is_over_of h parents = (λ i f. over-same f i) in
      ap (λ p. answer (list_any p files) (find (is_over (files_at h parents.0).1 (files_at h parents.1).1) files)) unknown
      ∙ ap (λ p. answer (list_any (lacks_source_of h parents) files) (find p files)) over
      ∙ by (list_any (lacks_source_of h parents) files) (find (is_over_of h parents) files)
    where
      answer : Bool → Option NewFile → Result (Unit {0}) PlanFault
      answer lost o = if lost then Err (refused_for UnknownPath) else over_where o

      by : (lost : Bool) (o : Option NewFile) → answer lost o ≡ as_fault (guard lost UnknownPath >>= λ known. over_where_of o)
      by true o = refl
      by false None = refl
      by false (Some f) = refl

-- ---- as they are read

pub copies-are : (t : Tree) (r : Repo) (l : Loaded) (n : NewChange) (parents : Parents) (trees : Files × Files) → Stands t r → IsLogOf t (of_changelog l.changelog) (history r.changesets).changelog → IsLogOf t (of_manifest l.manifest) (history r.changesets).manifest → AreBelow (length r.changesets) parents
    → both_parents l parents t ≡ Ok trees → copies_tested trees.0.1 trees.1.1 n.files ≡ as_fault (copies_hold (history r.changesets) parents n.files)
copies-are t r l n parents trees s changelog manifest below e =
    let a = both (parent_files l parents.0 t) (λ first. and_then (parent_files l parents.1 t) (λ second. Ok (first, second))) trees e in
    let b = both (parent_files l parents.1 t) (λ second. Ok (a.0, second)) trees a.2 in
    let is : (a.0, b.0) ≡ trees = ok-is {E = ReadAnswer} (a.0, b.0) trees b.2 in
    let one = parent-files t r l parents.0 a.0 s changelog manifest below.first a.1 in
    let two = parent-files t r l parents.1 b.0 s changelog manifest below.second b.1 in
    ap (λ (x : Files × Files). copies_tested x.0.1 x.1.1 n.files) (sym is)
    ∙ (λ i. copies_tested (one i).1 (two i).1 n.files)
    ∙ copies-same (history r.changesets) parents n.files
