-- A revlog in either form, by the separate one that it is taken apart into.
use Rattle.std.proofs.Common.{◌≡◌, ℕ, ◌+◌, ◌*◌, List, [], ◌∷◌, ◌++◌, true, length, Option, Some, None, refl, sym, ◌∙◌, ap, arith, length-append}
use Rattle.std.specs.List.{AllByRecursion}
use Rattle.std.proofs.lemmas.List.{length-map}
use Rattle.hgs_index.specs.declared.entry.Header.{Header}
use Rattle.hgs_index.specs.Entry.{Fits, entry_bytes}
use Rattle.hgs_index.specs.Inline.{chunks_apart}
use Rattle.hgs_index.specs.Revision.{Revision, node_after}
use Rattle.hgs_index.specs.Revlog.{Holds, Item, Stored, index_bytes, items, items_from}
use Rattle.hgs_index.specs.Theorems.EntryPartLemmas.{length-entry_bytes}
use Rattle.hgs_index.specs.Theorems.InlineLemmas.{apart-chunks, chunks_of_items, header-is, index-inline, inline_header, inlined, item-chunks}

-- ---- how long an index is

items-count : (offset : ℕ) (known : List (List ℕ)) (stored : List Stored) → length (items_from offset known stored) ≡ length stored
items-count offset known [] = refl
items-count offset known (s ∷ stored) = (let rest = items-count (offset + length s.chunk) (known ++ node_after known s.revision ∷ []) stored in omega (arith, rest))

inlined-length : (first : Option Header) (is : List Item) → AllByRecursion (λ (i : Item). Fits i.entry None) is → length (inlined first is) ≡ 64 * length is + length (chunks_of_items is)
inlined-length first [] fits = refl
inlined-length first (i ∷ is) fits =
    let rest = inlined-length None is fits.1 in
    omega (arith, rest, length-append (entry_bytes i.entry first ++ i.chunk) (inlined None is), length-append (entry_bytes i.entry first) i.chunk, length-entry_bytes i.entry first fits.0.node, length-append i.chunk (chunks_of_items is))

-- an inline index has its entries and the chunks
pub inline-length : (index data_bytes : List ℕ) (revisions : List Revision) → Holds true index data_bytes revisions → length index ≡ 64 * length revisions + length (chunks_apart index)
inline-length index data_bytes revisions h =
    let is = items h.stored in
    let g = h.header.generaldelta in
    let first = Some (inline_header g) in
    let spelled : index ≡ inlined first is = h.index_is ∙ ap (λ k. index_bytes k is) (header-is true h.header h.form) ∙ index-inline g is in
    let chunks : chunks_apart index ≡ chunks_of_items is = apart-chunks index data_bytes revisions h ∙ sym (item-chunks 0 [] h.stored) in
    let long = inlined-length first is h.fits in
    let count = items-count 0 [] h.stored in
    let these = sym (length-map h.stored (λ (s : Stored). s.revision)) ∙ ap length h.these in
    omega (arith, ap length spelled, long, ap length chunks, count, these)
