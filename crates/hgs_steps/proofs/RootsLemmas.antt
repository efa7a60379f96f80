-- The text that is written of phases depends on nodes and parents alone.
use Rattle.std.proofs.Common.{◌≡◌, ℕ, ◌+◌, List, [], ◌∷◌, ◌++◌, map, refl, sym}
use Rattle.hgs_index.specs.declared.entry.Entry.{Entry}
use Rattle.hgs_index.specs.Revision.{Parents}
use Rattle.hgs_model.specs.declared.phase.Phase.{Phase}
use Rattle.hgs_model.specs.declared.phase.Phase.TheVariants.{Public, Draft, Secret}
use Rattle.hgs_model.specs.Phase.{phase_number}
use Rattle.hgs_phases.specs.Phases.{history_of}
use Rattle.hgs_phases.specs.Printed.{root_at, roots_in}
use Rattle.hgs_phases.specs.Roots.{roots_text}
use Rattle.hgs_revlog.specs.Log.{nodes_of}
use Rattle.hgs_ops.specs.Replaced.{phase_numbered}
use Rattle.hgs_steps.specs.Steps.{phases_text}
use Rattle.hgs_steps.proofs.Basics.{head-same, nil-cons, tail-same}

abbrev parents_of : Entry → Parents
parents_of e = (e.p1, e.p2)

one-same : (phase : Phase) (phases : List Phase) (rev : ℕ) (e o : Entry) → e.node.0 ≡ o.node.0 → parents_of e ≡ parents_of o → root_at phase phases rev e ≡ root_at phase phases rev o
one-same phase phases rev e o n p = λ i. root_at phase phases rev (record o { node = record { 0 = n i }; p1 = (p i).0; p2 = (p i).1 })

roots-same : (phase : Phase) (phases : List Phase) (rev : ℕ) (entries others : List Entry) → nodes_of entries ≡ nodes_of others → history_of entries ≡ history_of others → roots_in phase phases rev entries ≡ roots_in phase phases rev others
roots-same phase phases rev [] [] n p = refl
roots-same phase phases rev [] (o ∷ os) n p = nil-cons o.node.0 (nodes_of os) n
roots-same phase phases rev (e ∷ es) [] n p = nil-cons e.node.0 (nodes_of es) (sym n)
roots-same phase phases rev (e ∷ es) (o ∷ os) n p =
    let first = one-same phase phases rev e o (head-same e.node.0 o.node.0 (nodes_of es) (nodes_of os) n) (head-same (parents_of e) (parents_of o) (history_of es) (history_of os) p) in
    let more = roots-same phase phases (rev + 1) es os (tail-same e.node.0 o.node.0 (nodes_of es) (nodes_of os) n) (tail-same (parents_of e) (parents_of o) (history_of es) (history_of os) p) in
    λ i. first i ++ more i

pub text-same : (phases : List Phase) (entries others : List Entry) → nodes_of entries ≡ nodes_of others → history_of entries ≡ history_of others → phases_text phases entries ≡ phases_text phases others
text-same phases entries others n p =
    let drafts = roots-same Draft phases 0 entries others n p in
    let secrets = roots-same Secret phases 0 entries others n p in
    λ i. roots_text (drafts i ++ secrets i)

one-back : (phase : Phase) → phase_numbered (phase_number phase) ≡ phase
one-back Public = refl
one-back Draft = refl
one-back Secret = refl

pub numbers-back : (phases : List Phase) → map phase_numbered (map phase_number phases) ≡ phases
numbers-back [] = refl
numbers-back (phase ∷ phases) = λ i. one-back phase i ∷ numbers-back phases i
