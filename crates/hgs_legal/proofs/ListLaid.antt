-- A commit that is laid into a tree keeps the list of filelogs.
use Rattle.std.proofs.Common.{◌≡◌, ℕ, List, [], ◌∷◌, ◌++◌, false, refl, sym, ◌∙◌, ap, subst, append-nil}
use Rattle.std.specs.Prelude.{Ok}
use Rattle.hgs_bytes.specs.Bytes.{among}
use Rattle.hgs_files.specs.declared.op.Op.{Op}
use Rattle.hgs_files.specs.declared.op.Op.TheVariants.{Append}
use Rattle.hgs_files.specs.Tree.{Tree, after_all, bytes_at}
use Rattle.hgs_model.specs.declared.command.Command.TheVariants.{Commit}
use Rattle.hgs_model.specs.declared.command.NewChange.{NewChange}
use Rattle.hgs_model.specs.Repo.{Repo}
use Rattle.hgs_model.specs.Step.{Answer, step}
use Rattle.hgs_model.specs.Valid.{IsNewChange}
use Rattle.hgs_ops.specs.Growth.{appended, growth, new_changelog_entry}
use Rattle.hgs_ops.specs.Laid.{Record, appended_by, laid, tree_behind}
use Rattle.hgs_ops.specs.Operations.{appending, roots_renamed}
use Rattle.hgs_ops.specs.Replaced.{roots_change}
use Rattle.hgs_ops.specs.Theorems.Touch.{appended-append}
use Rattle.hgs_ops.specs.Unhindered.{IsReady}
use Rattle.hgs_stands.specs.Places.{bookmarks_path, changelog_index, dirstate_path, fncache_path, roots_path}
use Rattle.hgs_stands.specs.Stands.{Stands}
use Rattle.hgs_legal.specs.ListsPaths.{AreKeptLines, ListsPaths}
use Rattle.hgs_legal.proofs.ListCommits.{added, growth-list, roots-list}
use Rattle.hgs_legal.proofs.ListOps.{list_of}
use Rattle.hgs_legal.proofs.ListRuns.{coming-as}

-- what its operations up to the publishing one append to the list
appending-list : (t : Tree) (r : Repo) (n : NewChange) (next : Repo) → appended fncache_path (appending t r next) ≡ added r (Commit n) next
appending-list t r n next =
    appended-append fncache_path (growth t r next ++ roots_renamed r next) publish
    ∙ append-nil (appended fncache_path (growth t r next ++ roots_renamed r next))
    ∙ appended-append fncache_path (growth t r next) (roots_renamed r next)
    ∙ ap (λ l. appended fncache_path (growth t r next) ++ l) (roots-list next (roots_change r next))
    ∙ append-nil (appended fncache_path (growth t r next))
    ∙ growth-list t r next
  where
    publish : List Op
    publish = Append changelog_index (new_changelog_entry t r next) ∷ []

-- what records that are laid leave of a file that none replaces
abbrev pub LaidLaw : Type 0
LaidLaw = (t : Tree) (r : Repo) (records : List Record) (path : List ℕ) → among path (roots_path ∷ dirstate_path ∷ bookmarks_path ∷ []) ≡ false → bytes_at (tree_behind t r records) path ≡ bytes_at t path ++ appended_by path t r records

pub laid-lists : LaidLaw → (t : Tree) (r next : Repo) (n : NewChange) (answer : Answer) → Stands t r → ListsPaths t r → IsNewChange n → step r (Commit n) ≡ Ok (next, answer) → IsReady t r (Commit n) next → ListsPaths (after_all (laid t r n next) t) next
laid-lists law t r next n answer s lists good e ready = record { lines = subst (AreKeptLines next.changesets) (sym text) (coming-as t r next (Commit n) answer s lists good e ready).0 }
  where
    text : list_of (after_all (laid t r n next) t) ≡ list_of t ++ added r (Commit n) next
    text =
        law t r ((n, next) ∷ []) fncache_path refl
        ∙ ap (λ l. list_of t ++ l) (append-nil (appended fncache_path (appending t r next)) ∙ appending-list t r n next)
