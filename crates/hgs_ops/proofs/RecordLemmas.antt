-- Records that are laid one after another are an import.
use Rattle.std.proofs.Common.{◌≡◌, inl, inr, ℕ, List, [], ◌∷◌, ◌++◌, false, refl, sym, ◌∙◌, ap, append-nil, arith}
use Rattle.std.specs.Prelude.{Ok}
use Rattle.hgs_bytes.specs.Bytes.{same}
use Rattle.hgs_files.specs.declared.op.Op.TheVariants.{Append}
use Rattle.hgs_files.specs.Tree.{Tree, after_all}
use Rattle.hgs_journal.specs.Covers.{is_loose}
use Rattle.hgs_model.specs.declared.command.Command.TheVariants.{Commit, Import}
use Rattle.hgs_model.specs.declared.command.NewChange.{NewChange}
use Rattle.hgs_model.specs.Repo.{Repo}
use Rattle.hgs_model.specs.Step.{Answer, sets_bookmark, step}
use Rattle.hgs_model.specs.Valid.{IsValid}
use Rattle.hgs_path.specs.StoreName.{store_name}
use Rattle.hgs_stands.specs.Places.{changelog_data, changelog_index, manifest_data, manifest_index}
use Rattle.hgs_stands.specs.Same.{AreStrays}
use Rattle.hgs_stands.specs.Stands.{Stands}
use Rattle.hgs_ops.specs.Growth.{IsRevlogFile, appended, growth, growth_of, new_changelog_entry}
use Rattle.hgs_ops.specs.Laid.{AreLaid, Record, appended_by, changes_of, laid, repo_behind, tree_behind}
use Rattle.hgs_ops.specs.Operations.{appending, operations, strays, transaction_of}
use Rattle.hgs_ops.specs.Theorems.Beside.{appending-same, ready-same}
use Rattle.hgs_ops.specs.Replaced.{new_bookmarks, new_dirstate, roots_change, roots_of}
use Rattle.hgs_ops.specs.Theorems.CommitTree.{CommitLeaves}
use Rattle.hgs_ops.specs.Theorems.StandsCommit.{GrowthFacts, growth-told, paths-used, store-published}
use Rattle.hgs_ops.specs.Unhindered.{IsReady}
use Rattle.hgs_ops.proofs.ImportSteps.{growth_of-same, import-facts, import-left, only-entry, only-growth, steps-append, steps-ready}
use Rattle.hgs_ops.proofs.LaidLemmas.{commit-lays-beside}
use Rattle.hgs_ops.proofs.TransactionLemmas.{transaction-leads}

-- what the crates below say
pub record Laws : Type 0 where
  pub loose : (strays : List (List ℕ)) (t u : Tree) (r : Repo) → AreStrays strays → ((path : List ℕ) → is_loose strays path ≡ false → u path ≡ t path) → Stands t r → Stands u r
  pub one : (r : Repo) (n : NewChange) → step r (Import (n ∷ [])) ≡ step r (Commit n)
  pub more : (r mid : Repo) (n m : NewChange) (changes : List NewChange) (answer : Answer) → step r (Commit n) ≡ Ok (mid, answer) → step r (Import (n ∷ m ∷ changes)) ≡ step mid (Import (m ∷ changes))

-- what is known of them: the import is accepted and ready, and appends to each file of a revlog what they append
pub record IsImport (t : Tree) (r : Repo) (records : List Record) : Type 0 where
  pub answer : Answer
  pub accepted : step r (Import (changes_of records)) ≡ Ok (repo_behind r records, answer)
  pub ready : IsReady t r (Import (changes_of records)) (repo_behind r records)
  pub appends : (path : List ℕ) → IsRevlogFile (repo_behind r records) path → appended path (appending t r (repo_behind r records)) ≡ appended_by path t r records
  pub stands : Stands (tree_behind t r records) (repo_behind r records)

module _ (laws : Laws) where
  module _ (t : Tree) (r : Repo) (s : Stands t r) (x : Record) (records : List Record) (all : AreLaid t r (x ∷ records)) where
    abbrev given : Answer
    given = all.1.0

    -- the tree behind the first one's commit, and that into which it is laid
    abbrev committed : Tree
    committed = after_all (operations (transaction_of t r (Commit x.0) [] x.1)) t

    abbrev with_it : Tree
    with_it = after_all (laid t r x.0 x.1) t

    committed-stands : Stands committed x.1
    committed-stands = (transaction-leads t r x.1 (Commit x.0) [] given s all.0 all.1.1 all.2).stands

    aside : (path : List ℕ) → is_loose strays path ≡ false → with_it path ≡ committed path
    aside path free = commit-lays-beside t t r x.1 x.0 [] s.no_journal committed-stands.no_journal (λ p k. refl) path free

    pub laid-stands : Stands with_it x.1
    laid-stands = laws.loose strays committed with_it x.1 refl aside committed-stands

    pub one-import : records ≡ [] → IsImport t r (x ∷ [])
    one-import none = record {
      answer = given;
      accepted = laws.one r x.0 ∙ all.1.1;
      ready = (all.2.0, record { paths = all.2.1.paths; sizes = all.2.1.sizes });
      appends = λ path is. sym (append-nil (appended path (appending t r x.1)));
      stands = laid-stands;
    }

    -- the first one, and the import of the others in the tree into which it is laid
    pub more-import : (y : Record) (others : List Record) → IsValid (Import (changes_of (y ∷ others))) → IsImport with_it x.1 (y ∷ others) → IsImport t r (x ∷ y ∷ others)
    more-import y others valid is = record {
      answer = is.answer;
      accepted = laws.more r x.1 x.0 y.0 (changes_of others) given all.1.1 ∙ is.accepted;
      ready = steps-ready t r x.1 next x.0 (changes_of (y ∷ others)) [] given is.answer s all.0 valid all.1.1 is.accepted all.2 behind;
      appends = λ path file.
          steps-append t r x.1 next x.0 (changes_of (y ∷ others)) [] given is.answer s all.0 valid all.1.1 is.accepted all.2.0 behind.0 path file
          ∙ ap (λ ops. appended path (appending t r x.1) ++ appended path ops) (sym (appending-same committed with_it aside x.1 next)) ∙ ap (λ l. appended path (appending t r x.1) ++ l) (is.appends path file);
      stands = is.stands;
    }
      where
        next : Repo
        next = repo_behind x.1 (y ∷ others)

        behind : IsReady committed x.1 (Import (changes_of (y ∷ others))) next
        behind = ready-same with_it committed (λ path free. sym (aside path free)) x.1 (Import (changes_of (y ∷ others))) next is.ready

  -- the others of a valid import are one
  pub fewer : (n m : NewChange) (changes : List NewChange) → IsValid (Import (n ∷ m ∷ changes)) → IsValid (Import (m ∷ changes))
  fewer n m changes valid = record { least = omega arith; most = omega (arith, valid.most); each = valid.each.1 }

  pub records-import : (t : Tree) (r : Repo) (x : Record) (records : List Record) → Stands t r → IsValid (Import (changes_of (x ∷ records))) → AreLaid t r (x ∷ records) → IsImport t r (x ∷ records)
  records-import t r x [] s valid all = one-import t r s x [] all refl
  records-import t r x (y ∷ records) s valid all =
      let others = fewer x.0 y.0 (changes_of records) valid in
      more-import t r s x (y ∷ records) all y records others (records-import (after_all (laid t r x.0 x.1) t) x.1 y records (laid-stands t r s x (y ∷ records) all) others all.3)

  -- its growth is that of what they append to each file, and its entries are theirs
  pub records-growth : (t : Tree) (r : Repo) (x : Record) (records : List Record) → Stands t r → IsValid (Import (changes_of (x ∷ records))) → IsImport t r (x ∷ records)
      → growth t r (repo_behind r (x ∷ records)) ≡ growth_of (λ path. appended_by path t r (x ∷ records)) r (repo_behind r (x ∷ records))
  records-growth t r x records s valid is =
      growth-told t r next facts _ _ _ _ _ left
      ∙ growth_of-same (λ path. appended path (growth t r next)) (λ path. appended_by path t r (x ∷ records)) r next
      (λ q ext e. so (store_name q ext) (inr (q, ext, paths-used t r next facts _ _ _ _ _ left q e, refl)) (store-published t r next facts _ _ _ _ _ left q ext))
      (so manifest_data (inl refl) refl) (so manifest_index (inl refl) refl) (so changelog_data (inl refl) refl)
    where
      next : Repo
      next = repo_behind r (x ∷ records)

      facts : GrowthFacts t r (repo_behind r (x ∷ records))
      facts = import-facts t r (repo_behind r (x ∷ records)) (changes_of (x ∷ records)) is.answer s valid is.accepted is.ready.0

      left : CommitLeaves t (after_all (operations (transaction_of t r (Import (changes_of (x ∷ records))) [] (repo_behind r (x ∷ records)))) t) (roots_change r (repo_behind r (x ∷ records))) (sets_bookmark (changes_of (x ∷ records))) (roots_of (repo_behind r (x ∷ records))) (new_dirstate (repo_behind r (x ∷ records))).text (new_bookmarks (repo_behind r (x ∷ records))).text (growth t r (repo_behind r (x ∷ records))) (Append changelog_index (new_changelog_entry t r (repo_behind r (x ∷ records))))
      left = import-left t r (repo_behind r (x ∷ records)) (changes_of (x ∷ records)) []

      so : (path : List ℕ) → IsRevlogFile (repo_behind r (x ∷ records)) path → same changelog_index path ≡ false → appended path (growth t r (repo_behind r (x ∷ records))) ≡ appended_by path t r (x ∷ records)
      so path file e = sym (only-growth t r (repo_behind r (x ∷ records)) path e) ∙ is.appends path file

  pub records-entries : (t : Tree) (r : Repo) (x : Record) (records : List Record) → IsImport t r (x ∷ records) → new_changelog_entry t r (repo_behind r (x ∷ records)) ≡ appended_by changelog_index t r (x ∷ records)
  records-entries t r x records is = sym (only-entry t r (repo_behind r (x ∷ records))) ∙ is.appends changelog_index (inl refl)
