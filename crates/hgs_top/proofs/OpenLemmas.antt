-- What is loaded of a repository at rest.
use Rattle.std.proofs.Common.{◌≡◌, ℕ, Bool, true, false, cond, List, Option, Some, None, Ok, refl, sym, ◌∙◌, ap, inl, inr}
use Rattle.std.specs.Prelude.{position}
use Rattle.hgs_bytes.specs.Bytes.{same}
use Rattle.hgs_files.specs.Tree.{Tree}
use Rattle.hgs_index.specs.declared.entry.Entry.{Entry}
use Rattle.hgs_index.specs.Node.{null_node}
use Rattle.hgs_phases.specs.Phases.{phases_by}
use Rattle.hgs_revlog.specs.Log.{Log, nodes_of, place_of}
use Rattle.hgs_load.specs.Asks.{answer, at_rest, then_asks}
use Rattle.hgs_load.specs.Marks.{known_parent, parent_answer, both_parents, working_answer}
use Rattle.hgs_load.specs.Open.{requires_asks, bookmarks_asks, dirstate_asks, log_asks, roots_asks, view_with, view_of, open_asks}
use Rattle.hgs_load.specs.View.{View}
use Rattle.hgs_revlog.specs.Theorems.TailHeldLemmas.{position_map}
use Rattle.hgs_load.specs.Theorems.OpenedLemmas.{rest_then}
use Rattle.hgs_top.specs.History.{IsKnown, Opens}

-- ---- what opens

-- a working parent that is known names a changeset, or none
known_answer : (entries : List Entry) (known : List (List ℕ)) (node : List ℕ) → nodes_of entries ≡ known → IsKnown known node → (w : Option ℕ) × (parent_answer entries node ≡ Ok w)
known_answer entries known node is (inl e) = (None, ap (λ b. cond b (Ok None) (known_parent (place_of entries node))) e)
known_answer entries known node is (inr k) = by (same node null_node)
  where
    place : place_of entries node ≡ Some k.0
    place = sym (position_map (λ (e : Entry). e.node.0) (λ n. same n node) entries) ∙ ap (position (λ n. same n node)) is ∙ k.1

    by : (b : Bool) → (w : Option ℕ) × (cond b (Ok None) (known_parent (place_of entries node)) ≡ Ok w)
    by true = (None, refl)
    by false = (Some k.0, ap known_parent place)

pub opening : (t : Tree) (log : Log) (known : List (List ℕ)) → at_rest t log_asks ≡ Ok log → nodes_of log.entries ≡ known → Opens t known → (view : View) × (at_rest t open_asks ≡ Ok view) × (view.changelog ≡ log)
opening t log known loads is o =
    let first = known_answer log.entries known o.nodes.0 is o.first in
    let second = known_answer log.entries known o.nodes.1 is o.second in
    let working : working_answer log.entries o.nodes ≡ Ok (first.0, second.0) = ap (λ r. both_parents r (parent_answer log.entries o.nodes.1)) first.1 ∙ ap (both_parents (Ok first.0)) second.1 in (
      record { changelog = log; bookmarks = o.marks; working = (first.0, second.0); phases = phases_by o.roots log.entries },
      rest_then t requires_asks (λ x. then_asks bookmarks_asks (λ marks. then_asks dirstate_asks (λ nodes. then_asks log_asks (λ log. then_asks roots_asks (λ roots. answer (view_of marks nodes log roots)))))) tt o.required
          ∙ rest_then t bookmarks_asks (λ marks. then_asks dirstate_asks (λ nodes. then_asks log_asks (λ log. then_asks roots_asks (λ roots. answer (view_of marks nodes log roots))))) o.marks o.bookmarks
          ∙ rest_then t dirstate_asks (λ nodes. then_asks log_asks (λ log. then_asks roots_asks (λ roots. answer (view_of o.marks nodes log roots)))) o.nodes o.dirstate
          ∙ rest_then t log_asks (λ log. then_asks roots_asks (λ roots. answer (view_of o.marks o.nodes log roots))) log loads
          ∙ rest_then t roots_asks (λ roots. answer (view_of o.marks o.nodes log roots)) o.roots o.phases
          ∙ ap (view_with o.marks log o.roots) working,
      refl,
    )
