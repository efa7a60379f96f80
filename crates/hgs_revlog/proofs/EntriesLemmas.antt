-- The parents in entries, and bytes that are loaded whole.
use Rattle.std.proofs.Common.{◌≡◌, ℕ, ◌+◌, ◌*◌, ◌/◌, List, [], ◌∷◌, ◌++◌, length, take, map, Ok, refl, ◌∙◌, ap, arith}
use Rattle.std.proofs.lemmas.List.{take_all}
use Rattle.hgs_index.specs.declared.entry.Entry.{Entry}
use Rattle.hgs_index.specs.Revision.{Parents, Revision, node_after}
use Rattle.hgs_index.specs.Revlog.{HoldsRevisions, Stored, items_from}
use Rattle.hgs_index.specs.Theorems.RevlogLemmas.{length-held}
use Rattle.hgs_revlog.specs.declared.fault.Tail.TheVariants.{Ignore, Refuse}
use Rattle.hgs_revlog.specs.Held.{Agrees, AreWithinLimits}
use Rattle.hgs_revlog.specs.Load.{loaded}
use Rattle.hgs_revlog.specs.Log.{Log}
use Rattle.hgs_revlog.specs.Theorems.StandingLemmas.{held-loaded}
use Rattle.hgs_revlog.specs.Theorems.TailLemmas.{ignore-refuse}

abbrev parents_of_entries : List Entry → List Parents
parents_of_entries entries = map (λ e. (e.p1, e.p2)) entries

parents-items : (offset : ℕ) (known : List (List ℕ)) (stored : List Stored) → parents_of_entries (map (λ i. i.entry) (items_from offset known stored)) ≡ map (λ r. r.parents) (map (λ s. s.revision) stored)
parents-items offset known [] = refl
parents-items offset known (s ∷ stored) = ap (λ l. s.revision.parents ∷ l) (parents-items (offset + length s.chunk) (known ++ node_after known s.revision ∷ []) stored)

pub parents-agrees : (index data_bytes : List ℕ) (entries : List Entry) (revisions : List Revision) → Agrees index data_bytes entries revisions → parents_of_entries entries ≡ map (λ r. r.parents) revisions
parents-agrees index data_bytes entries revisions h = ap parents_of_entries h.entries_are ∙ parents-items 0 [] h.held.stored ∙ ap (map (λ (r : Revision). r.parents)) h.held.these

-- bytes that hold a list and nothing else load as its entries, whether or not a rest is passed over
pub held-whole : (index data_bytes : List ℕ) (revisions : List Revision) → HoldsRevisions index data_bytes revisions → AreWithinLimits revisions data_bytes → (log : Log) × (loaded Ignore index ≡ Ok log) × Agrees index data_bytes log.entries revisions
held-whole index data_bytes revisions held within =
    let h = held-loaded index data_bytes [] revisions held within in
    let len = length-held index data_bytes revisions held in
    let all : take (64 * (length index / 64)) index ≡ index = take_all (64 * (length index / 64)) index (omega (arith, len)) in
    (h.0, ignore-refuse index ∙ ap (loaded Refuse) all ∙ h.1, h.3)
