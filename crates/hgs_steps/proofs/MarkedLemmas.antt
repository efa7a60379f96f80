-- The step that sets a bookmark, of what replaces the bookmarks.
use Rattle.std.proofs.Common.{◌≡◌, ◌<◌, ℕ, List, Bool, true, false, length, sym, ◌∙◌, ap}
use Rattle.std.specs.Prelude.{◌||◌, Result, Ok, Err, Some, ⊤, slice_index_or, if◌then◌else◌}
use Rattle.std.specs.Bool.{MatchBool}
use Rattle.std.specs.List.{slice_get}
use Rattle.std.proofs.lemmas.List.{get_or-map}
use Rattle.std.proofs.lemmas.Option.{get_or_from_slice_get}
use Rattle.hgs_index.specs.Node.{null_node}
use Rattle.hgs_index.specs.declared.entry.Entry.{Entry}
use Rattle.hgs_index.specs.declared.kinds.Which.TheVariants as limits
use Rattle.hgs_revlog.specs.Log.{nodes_of}
use Rattle.hgs_steps.specs.declared.fault.PlanFault.{PlanFault}
use Rattle.hgs_steps.specs.declared.fault.PlanFault.TheVariants.{Limit}
use Rattle.hgs_steps.specs.declared.loaded.Loaded.{Loaded}
use Rattle.hgs_steps.specs.declared.step.Step.{Step}
use Rattle.hgs_transaction.specs.declared.parts.Replacing.{Replacing}
use Rattle.hgs_steps.specs.Fault.{is_memory}
use Rattle.hgs_steps.specs.Loaded.{node_at}
use Rattle.hgs_steps.specs.Steps.{Accepted, are_too_many, if_separate, marked, marked_at, marks_replacing, step_of, step_with, within}

pub node-found : (entries : List Entry) (rev : ℕ) (e : Entry) → rev < length entries → slice_get entries rev ≡ Some e → e.node.0 ≡ slice_index_or (nodes_of entries) rev null_node
node-found entries rev e below found =
    sym (get_or-map (λ (x : Entry). x.node.0) entries rev e null_node below ∙ ap (λ (x : Entry). x.node.0) (get_or_from_slice_get entries rev e e found))

-- what is replaced within the limit of bookmarks is the file of the step
pub stepped : (l : Loaded) (a : Accepted) (file : Replacing) (answer : Result Step PlanFault) → within l a.marks a.file ≡ Ok file → answer ≡ if_separate l (step_with l file a.rev) → step_of l a ≡ answer
stepped l a file answer w is = by (are_too_many l.bookmarks || are_too_many a.marks) w
  where
    by : (b : Bool) → (let x : Result Replacing PlanFault = if b then Err (Limit limits.Bookmarks) else Ok a.file in x) ≡ Ok file → (if b then Err (Limit limits.Bookmarks) else if_separate l (step_with l a.file a.rev)) ≡ answer
    by true e = absurd no
      where
        no : ⊥
        no = cc
    by false e = ap (λ (x : Replacing). if_separate l (step_with l x a.rev)) same ∙ sym is
      where
        same : a.file ≡ file
        same = cc

-- what is refused for the limit of bookmarks
pub unstepped : (l : Loaded) (a : Accepted) (fault : PlanFault) → within l a.marks a.file ≡ Err fault → step_of l a ≡ Err fault
unstepped l a fault w = by (are_too_many l.bookmarks || are_too_many a.marks) w
  where
    by : (b : Bool) → (let x : Result Replacing PlanFault = if b then Err (Limit limits.Bookmarks) else Ok a.file in x) ≡ Err fault → (if b then Err (Limit limits.Bookmarks) else if_separate l (step_with l a.file a.rev)) ≡ Err fault
    by true e = ap (λ (x : PlanFault). Err x) same
      where
        same : Limit limits.Bookmarks ≡ fault
        same = cc
    by false e = absurd no
      where
        no : ⊥
        no = cc

-- the same of a node that is the changeset's
pub marked-step : (l : Loaded) (name node : List ℕ) (rev : ℕ) (file : Replacing) (answer : Result Step PlanFault) → node ≡ node_at l rev
    → within l (marked l name node) (marks_replacing l (marked l name node)) ≡ Ok file
    → answer ≡ if_separate l (step_with l file rev) → step_of l (marked_at l name rev) ≡ answer
marked-step l name node rev file answer same w is =
    stepped l (marked_at l name rev) file answer (ap (λ n. within l (marked l name n) (marks_replacing l (marked l name n))) (sym same) ∙ w) is

pub marked-refused : (l : Loaded) (name node : List ℕ) (rev : ℕ) (fault : PlanFault) → node ≡ node_at l rev
    → MatchBool (is_memory fault) ⊤ (within l (marked l name node) (marks_replacing l (marked l name node)) ≡ Err fault)
    → MatchBool (is_memory fault) ⊤ (step_of l (marked_at l name rev) ≡ Err fault)
marked-refused l name node rev fault same m = by (is_memory fault) m
  where
    by : (b : Bool) → MatchBool b ⊤ (within l (marked l name node) (marks_replacing l (marked l name node)) ≡ Err fault) → MatchBool b ⊤ (step_of l (marked_at l name rev) ≡ Err fault)
    by true x = tt
    by false x = unstepped l (marked_at l name rev) fault (ap (λ n. within l (marked l name n) (marks_replacing l (marked l name n))) (sym same) ∙ x)

pub refused-too : (fault : PlanFault) (P : Type 0) → P → MatchBool (is_memory fault) ⊤ P
refused-too fault P p = by (is_memory fault)
  where
    by : (b : Bool) → MatchBool b ⊤ P
    by true = tt
    by false = p
