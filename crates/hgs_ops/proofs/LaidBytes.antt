-- What records that are laid leave of a file that none of them replaces: its bytes, and those that they append.
use Rattle.std.proofs.Common.{◌≡◌, ℕ, List, [], ◌∷◌, ◌++◌, Bool, true, false, not, map, refl, sym, ◌∙◌, ap, append-nil, append_assoc}
use Rattle.std.specs.Prelude.{is_some}
use Rattle.std.specs.List.{list_all}
use Rattle.hgs_bytes.specs.Bytes.{among, same}
use Rattle.hgs_files.specs.declared.op.Op.{Op}
use Rattle.hgs_files.specs.declared.op.Op.TheVariants.{Append}
use Rattle.hgs_files.specs.Tree.{Tree, after_all, bytes_at}
use Rattle.hgs_model.specs.Repo.{Repo}
use Rattle.hgs_model.specs.declared.command.NewChange.{NewChange}
use Rattle.hgs_stands.specs.Places.{bookmarks_path, changelog_index, dirstate_path, roots_path}
use Rattle.hgs_ops.specs.Growth.{appended, appends_at, growth, new_changelog_entry}
use Rattle.hgs_ops.specs.Laid.{Record, appended_by, laid, put_whole, tree_behind}
use Rattle.hgs_ops.specs.Operations.{appending}
use Rattle.hgs_ops.specs.Replaced.{Replacement, dirstate_with, marks_with, new_bookmarks, new_dirstate, new_roots, only_if, roots_change, roots_of, roots_with}
use Rattle.hgs_ops.specs.Theorems.CommitLemmas.{growth-appends}
use Rattle.hgs_ops.specs.Theorems.CommitTree.{appends-only}
use Rattle.hgs_ops.specs.Theorems.Touch.{all-append, and-both, appended-append, appended-at, only_appends, or-left, or-right, same-sym}
use Rattle.hgs_ops.proofs.ImportSteps.{parts-appended}

-- what puts a file whole appends nothing
puts-append : (p : List ℕ) (files : List Replacement) → appended p (map put_whole files) ≡ []
puts-append p [] = refl
puts-append p (x ∷ files) = puts-append p files

-- what is laid appends what the commit does
pub laid-appends : (p : List ℕ) (t : Tree) (r next : Repo) (n : NewChange) → appended p (laid t r n next) ≡ appended p (appending t r next)
laid-appends p t r next n =
    let first : List Op = map put_whole (only_if (roots_change r next) (new_roots next)) in
    let second : List Op = map put_whole (new_dirstate next ∷ only_if (is_some n.bookmark) (new_bookmarks next)) in
    let entry : Op = Append changelog_index (new_changelog_entry t r next) in
    appended-append p (growth t r next) (first ++ (entry ∷ second))
    ∙ ap (λ l. appended p (growth t r next) ++ l)
    (appended-append p first (entry ∷ second)
    ∙ (λ i. puts-append p (only_if (roots_change r next) (new_roots next)) i ++ (appends_at p entry ++ puts-append p (new_dirstate next ∷ only_if (is_some n.bookmark) (new_bookmarks next)) i)) ∙ append-nil (appends_at p entry))
    ∙ sym (parts-appended t r next p)

module _ (p : List ℕ) (apart : among p (roots_path ∷ dirstate_path ∷ bookmarks_path ∷ []) ≡ false) where
  off-roots : not (same roots_path p) ≡ true
  off-roots = ap not (same-sym p roots_path (or-left _ _ apart))

  off-dirstate : not (same dirstate_path p) ≡ true
  off-dirstate = ap not (same-sym p dirstate_path (or-left _ _ (or-right (same p roots_path) _ apart)))

  off-marks : not (same bookmarks_path p) ≡ true
  off-marks = ap not (same-sym p bookmarks_path (or-left _ _ (or-right (same p dirstate_path) _ (or-right (same p roots_path) _ apart))))

  firsts-off : (rc : Bool) (a : List ℕ) → list_all (only_appends p) (map put_whole (only_if rc (roots_with a))) ≡ true
  firsts-off true a = and-both _ _ off-roots refl
  firsts-off false a = refl

  seconds-off : (bk : Bool) (b c : List ℕ) → list_all (only_appends p) (map put_whole (dirstate_with b ∷ only_if bk (marks_with c))) ≡ true
  seconds-off true b c = and-both _ _ off-dirstate (and-both _ _ off-marks refl)
  seconds-off false b c = and-both _ _ off-dirstate refl

  laid-only : (t : Tree) (r next : Repo) (n : NewChange) → list_all (only_appends p) (laid t r n next) ≡ true
  laid-only t r next n =
      all-append (only_appends p) (growth t r next) _ (appends-only (growth t r next) p (growth-appends t r next))
      (all-append (only_appends p) (map put_whole (only_if (roots_change r next) (new_roots next))) _ (firsts-off (roots_change r next) (roots_of next)) (seconds-off (is_some n.bookmark) (new_dirstate next).text (new_bookmarks next).text))

  pub records-append : (t : Tree) (r : Repo) (records : List Record) → bytes_at (tree_behind t r records) p ≡ bytes_at t p ++ appended_by p t r records
  records-append t r [] = sym (append-nil (bytes_at t p))
  records-append t r (x ∷ records) =
      records-append (after_all (laid t r x.0 x.1) t) x.1 records
      ∙ ap (λ l. l ++ appended_by p (after_all (laid t r x.0 x.1) t) x.1 records) (appended-at (laid t r x.0 x.1) t p (laid-only t r x.1 x.0) ∙ ap (λ l. bytes_at t p ++ l) (laid-appends p t r x.1 x.0))
      ∙ append_assoc (bytes_at t p) (appended p (appending t r x.1)) (appended_by p (after_all (laid t r x.0 x.1) t) x.1 records)
