-- The changesets of a history, one by one.
use Rattle.std.proofs.Common.{◌≡◌, ℕ, zero, suc, ◌+◌, List, [], ◌∷◌, length, Option, Some, Ok, refl, sym, ◌∙◌, ap, subst, arith}
use Rattle.std.specs.Prelude.{slice_get}
use Rattle.std.specs.List.{AllByRecursion}
use Rattle.hgs_files.specs.Tree.{Tree, bytes_at}
use Rattle.hgs_index.specs.declared.entry.Entry.{Entry}
use Rattle.hgs_index.specs.Revision.{Revision, nodes}
use Rattle.hgs_revlog.specs.declared.fault.Tail.TheVariants.{Ignore}
use Rattle.hgs_revlog.specs.Held.{AreWithinLimits, chunk_in}
use Rattle.hgs_revlog.specs.Load.{loaded_either}
use Rattle.hgs_revlog.specs.Text.{text_of}
use Rattle.hgs_load.specs.Asks.{at_rest}
use Rattle.hgs_reader.specs.Line.{changeset_asks, change_asks, change_at, change_of_chunk, change_of_text}
use Rattle.hgs_load.specs.View.{View, changelog_index}
use Rattle.hgs_load.specs.Open.{open_asks}
use Rattle.hgs_reader.specs.Theorems.HeldLemmas.{read_there, read_length}
use Rattle.hgs_top.specs.History.{Changeset, HoldsHistory, IsRead, IsReadWhole, chunks_in, revisions_of, Opens}
use Rattle.hgs_top.specs.IndexLaws.{IndexLaws}
use Rattle.hgs_top.proofs.HistoryLemmas.{history-opens}
use Rattle.hgs_top.proofs.IndexLemmas.{chunk-asked}

some_is : {A : Type 0} (x y : A) → Some x ≡ Some y → x ≡ y
some_is x y e = cc

get_map : (history : List Changeset) (rev : ℕ) (c : Changeset) → slice_get history rev ≡ Some c → slice_get (revisions_of history) rev ≡ Some c.revision
get_map [] rev c h = cc
get_map (x ∷ history) zero c h = ap (λ (y : Changeset). let o : Option Revision = Some y.revision in o) (some_is x c h)
get_map (x ∷ history) (suc rev) c h = get_map history rev c h

count_map : (history : List Changeset) → length (revisions_of history) ≡ length history
count_map [] = refl
count_map (x ∷ history) = ap suc (count_map history)

read_at : (history : List Changeset) (rev : ℕ) (c : Changeset) → AllByRecursion IsRead history → slice_get history rev ≡ Some c → IsRead c
read_at [] rev c all h = cc
read_at (x ∷ history) zero c all h = subst IsRead (some_is x c h) all.0
read_at (x ∷ history) (suc rev) c all h = read_at history rev c all.1 h

-- the changeset of an entry whose text is known
change_at_rest : (laws : IndexLaws) (t : Tree) (view : View) (rev : ℕ) (e : Entry) (c : Changeset) → loaded_either Ignore (bytes_at t changelog_index) ≡ Ok view.changelog → slice_get view.changelog.entries rev ≡ Some e
    → text_of view.changelog.entries rev (chunk_in (chunks_in t) e) ≡ Ok c.revision.text → IsRead c → at_rest t (change_asks view rev) ≡ Ok c.change
change_at_rest laws t view rev e c loads at text reads =
    ap (λ o. at_rest t (changeset_asks view.changelog.inline rev o (change_at view rev))) at
    ∙ chunk-asked laws t view.changelog rev e (change_at view rev) loads at
    ∙ ap (change_of_chunk rev) text
    ∙ ap (change_of_text rev) reads

pub history-changesets : (laws : IndexLaws) (t : Tree) (history : List Changeset) → HoldsHistory t history → Opens t (nodes (revisions_of history)) → AreWithinLimits (revisions_of history) (chunks_in t) → IsReadWhole t
    → (view : View) × (at_rest t open_asks ≡ Ok view) × (length view.changelog.entries ≡ length history) × ((rev : ℕ) (c : Changeset) → slice_get history rev ≡ Some c → at_rest t (change_asks view rev) ≡ Ok c.change)
history-changesets laws t history h opens within short =
    let data_bytes = chunks_in t in
    let o = history-opens laws t history h opens within short in
    let entries = o.0.changelog.entries in (
      o.0,
      o.1,
      sym (read_length entries entries data_bytes 0 (revisions_of history) o.2.texts) ∙ count_map history,
      λ rev c found.
          let there = read_there entries entries data_bytes 0 rev (revisions_of history) c.revision o.2.texts (get_map history rev c found) in
          let from_first : 0 + rev ≡ rev = omega arith in
          change_at_rest laws t o.0 rev there.0 c o.2.loads there.1 (ap (λ n. text_of entries n (chunk_in data_bytes there.0)) (sym from_first) ∙ there.2) (read_at history rev c h.read found),
    )
