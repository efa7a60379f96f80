-- What was met keeps a commit from being written.
use Rattle.std.proofs.Common.{◌≡◌, ℕ, List, [], ◌∷◌, Bool, true, false, ◌||◌, cond, refl, subst}
use Rattle.std.specs.Prelude.{Option, Some, None, Result, Ok, Err}
use Rattle.hgs_index.specs.declared.kinds.Which.{Which}
use Rattle.hgs_index.specs.declared.kinds.Which.TheVariants as limits
use Rattle.hgs_model.specs.Valid.{new_paths}
use Rattle.hgs_model.specs.declared.command.NewChange.{NewChange}
use Rattle.hgs_transaction.specs.declared.parts.Replacing.{Replacing}
use Rattle.hgs_steps.specs.Steps.{are_too_many, dirstate_replacing, marked, marks_replacing}
use Rattle.hgs_steps.specs.declared.fault.PlanFault.{PlanFault}
use Rattle.hgs_steps.specs.declared.fault.PlanFault.TheVariants as faults
use Rattle.hgs_steps.specs.declared.loaded.Loaded.{Loaded}
use Rattle.hgs_commit.specs.declared.hindrance.Collided.{Collided}
use Rattle.hgs_commit.specs.Commit.{and_plan, marks_after, replaced_after}
use Rattle.hgs_commit.specs.Hindered.{refusal_of}
use Rattle.hgs_writer.specs.Commits.{Hinders}

err-is : {A : Type 0} (x y : PlanFault) → ◌≡◌ {A = Result A PlanFault} (Err x) (Err y) → x ≡ y
err-is x y e = cc

some-none : {A B : Type 0} (x : A) → Some x ≡ None → B
some-none x e = absurd (no e)
  where
    no : Some x ≡ None → ⊥
    no h = cc

pub refused-by : (HasRoom : Type 0) (limit : Option Which) (clash in_the_way : Option (List ℕ)) (collision : Option Collided) (fault : PlanFault) → (HasRoom → (limit ≡ None) × (in_the_way ≡ None) × (collision ≡ None))
    → refusal_of (record { limit = limit; clash = clash; in_the_way = in_the_way; collision = collision }) ≡ Err fault → Hinders HasRoom clash fault
refused-by HasRoom None None None None fault free e = absurd (no e)
  where
    no : ◌≡◌ {A = Result (Unit {0}) PlanFault} (Ok tt) (Err fault) → ⊥
    no h = cc
refused-by HasRoom None None None (Some c) fault free e = subst (Hinders HasRoom None) (err-is {A = Unit {0}} (faults.Collision c.path c.rev) fault e) (λ room. some-none c (free room).2)
refused-by HasRoom None None (Some path) c fault free e = subst (Hinders HasRoom None) (err-is {A = Unit {0}} (faults.InTheWay path) fault e) (λ room. some-none path (free room).1)
refused-by HasRoom None (Some path) w c fault free e = subst (Hinders HasRoom (Some path)) (err-is {A = Unit {0}} (faults.NameClash path) fault e) refl
refused-by HasRoom (Some which) k w c fault free e = subst (Hinders HasRoom k) (err-is {A = Unit {0}} (faults.Limit which) fault e) (λ room. some-none which (free room).0)

-- so do bookmarks past their limit
pub marks-refused : (HasRoom : Type 0) (l : Loaded) (n : NewChange) (node : List ℕ) (clash : Option (List ℕ)) (fault : PlanFault) → (HasRoom → ⊥) → replaced_after l n node ≡ Err fault → Hinders HasRoom clash fault
marks-refused HasRoom l n node clash fault full e = by n.bookmark e
  where
    replaced : Replacing
    replaced = dirstate_replacing l node (new_paths n.files)

    within-limit : (name : List ℕ) (b : Bool) → and_plan (and_plan (cond b (Err (faults.Limit limits.Bookmarks)) (Ok (marks_replacing l (marked l name node)))) (λ x. Ok (x ∷ []))) (λ marks. Ok (replaced ∷ marks)) ≡ Err fault → Hinders HasRoom clash fault
    within-limit name true h = subst (Hinders HasRoom clash) (err-is {A = List Replacing} (faults.Limit limits.Bookmarks) fault h) full
    within-limit name false h = cc

    by : (o : Option (List ℕ)) → and_plan (marks_after l o node) (λ marks. Ok (dirstate_replacing l node (new_paths n.files) ∷ marks)) ≡ Err fault → Hinders HasRoom clash fault
    by None h = cc
    by (Some name) h = within-limit name (are_too_many l.bookmarks || are_too_many (marked l name node)) h
