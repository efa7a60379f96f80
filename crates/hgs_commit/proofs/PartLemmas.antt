-- The parts of a commit.
use Rattle.std.proofs.Common.{◌≡◌, ◌≤◌, List, [], ◌∷◌, ◌++◌, Bool, true, false, ◌&&◌, not, length, codes, Option, Some, None, refl, ◌∙◌, ap, arith}
use Rattle.std.specs.List.{list_all}
use Rattle.std.proofs.lemmas.List.Folds.{list_all-append}
use Rattle.std.proofs.lemmas.List.{length-append}
use Rattle.hgs_bytes.specs.Bytes.{begins_with}
use Rattle.hgs_files.specs.Tree.{same_path}
use Rattle.hgs_load.specs.View.{changelog_index}
use Rattle.hgs_steps.specs.Steps.{CanBeAssembled}
use Rattle.hgs_transaction.specs.declared.parts.Appending.{Appending}
use Rattle.hgs_transaction.specs.declared.parts.Change.{Change}
use Rattle.hgs_transaction.specs.declared.parts.Change.TheVariants.{Append, MakeIndex, RenameIndex, Replace}
use Rattle.hgs_transaction.specs.declared.parts.Replacing.{Replacing}
use Rattle.hgs_transaction.specs.Parts.{is_in_store}
use Rattle.hgs_commit.specs.Appended.{is_beside, is_beside_path}
use Rattle.hgs_commit.specs.OfCommit.{AreReplacedAfter, optional_replace}

both : (a b : Bool) → a && b ≡ true → (a ≡ true) × (b ≡ true)
both true b e = (refl, e)
both false b e = cc

stored : (changes : List Change) → list_all is_beside changes ≡ true → list_all is_in_store changes ≡ true
stored [] h = refl
stored (Append a ∷ changes) h =
    let b = both (is_beside_path a.path) (list_all is_beside changes) h in
    ap (λ q. q && list_all is_in_store changes) (both (begins_with a.path (codes "store/")) (not (same_path a.path changelog_index)) b.0).0 ∙ stored changes b.1
stored (Replace x ∷ changes) h = cc
stored (MakeIndex bytes ∷ changes) h = cc
stored (RenameIndex before ∷ changes) h = cc

roots_stored : (roots : Option Replacing) → list_all is_in_store (optional_replace roots) ≡ true
roots_stored None = refl
roots_stored (Some x) = refl

roots_few : (roots : Option Replacing) → length (optional_replace roots) ≤ 1
roots_few None = omega arith
roots_few (Some x) = omega arith

after_few : (after : List Replacing) → AreReplacedAfter after → length after ≤ 2
after_few [] h = absurd h
after_few (d ∷ []) h = omega arith
after_few (d ∷ b ∷ []) h = omega arith
after_few (d ∷ b ∷ x ∷ after) h = absurd h

pub ready : (before appends : List Change) (roots : Option Replacing) (entry : Appending) (after : List Replacing) → before ≡ appends ++ optional_replace roots → list_all is_beside appends ≡ true → length appends ≤ 40010 → entry.path ≡ changelog_index → AreReplacedAfter after
    → CanBeAssembled (record { before = before; publishing = Append entry; after = after })
ready before appends roots entry after split beside few path are =
    let all = ap (list_all is_in_store) split ∙ list_all-append is_in_store appends (optional_replace roots) ∙ ap (λ q. q && list_all is_in_store (optional_replace roots)) (stored appends beside) ∙ roots_stored roots in
    let long = ap length split ∙ length-append appends (optional_replace roots) in
    let one = roots_few roots in
    let two = after_few after are in
    record {
      before = all;
      publishing = ap (λ q. begins_with q (codes "store/")) path;
      few = omega (arith, long, one, two, few);
    }
