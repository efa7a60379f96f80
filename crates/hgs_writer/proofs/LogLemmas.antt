-- An index that loads, over bytes that hold revisions, is the list of these.
use Rattle.std.proofs.Common.{◌≡◌, ℕ, ◌+◌, ◌*◌, ◌≤◌, Bool, true, false, List, [], ◌∷◌, ◌++◌, length, map, refl, sym, ◌∙◌, ap, subst, arith, append-nil}
use Rattle.std.specs.Prelude.{Option, Some, Ok, slice_get}
use Rattle.std.specs.Option.{option_map}
use Rattle.std.specs.List.{AllByRecursion}
use Rattle.hgs_files.specs.Tree.{Tree, bytes_at}
use Rattle.hgs_index.specs.declared.entry.Entry.{Entry}
use Rattle.hgs_index.specs.Either.{HoldsEither, chunk_bytes, chunks_either}
use Rattle.hgs_index.specs.Inline.{chunks_apart, index_apart, is_inline}
use Rattle.hgs_index.specs.Revision.{Revision, node_after}
use Rattle.hgs_index.specs.Revlog.{Holds, HoldsRevisions, Item, Stored, items_from}
use Rattle.hgs_loading.specs.Logs.{chunk_file, chunk_in_form}
use Rattle.hgs_reader.specs.Find.{chunk_placed}
use Rattle.hgs_revlog.specs.declared.fault.RevFault.{RevFault}
use Rattle.hgs_revlog.specs.declared.fault.Tail.TheVariants.{Refuse}
use Rattle.hgs_revlog.specs.Held.{Agrees, AreWithinLimits, chunk_in, read_all}
use Rattle.hgs_revlog.specs.Load.{loaded, loaded_either, most_data, most_text}
use Rattle.hgs_revlog.specs.Loaded.{AreEntries, HaveSmallTexts}
use Rattle.hgs_revlog.specs.Log.{Log, stored_sum}
use Rattle.hgs_revlog.specs.Text.{span_in}
use Rattle.hgs_revlog.specs.Theorems.HeldLemmas.{stored_sum-agrees}
use Rattle.hgs_stands.specs.Theorems.FormLemmas.{apart-held}
use Rattle.hgs_steps.specs.Theorems.SeparateLemmas.{IsLoadedApart, apart-loaded}
use Rattle.hgs_commit.specs.Texts.{OfLog}
use Rattle.hgs_writer.specs.CommitsBelow.{Below}
use Rattle.hgs_writer.specs.Growth.{IsWhole, index_end}
use Rattle.hgs_writer.specs.Logs.{HasForm, IsLogOf, held_chunks}
use Rattle.hgs_writer.proofs.Basics.{ok-is}
use Rattle.hgs_writer.proofs.EitherLemmas.{inline-length}

abbrev entries_from : ℕ → List (List ℕ) → List Stored → List Entry
entries_from offset known stored = map (λ (i : Item). i.entry) (items_from offset known stored)

-- the texts are as small as the entries say
small-texts : (offset : ℕ) (known : List (List ℕ)) (stored : List Stored) → HaveSmallTexts (entries_from offset known stored) → AllByRecursion (λ (r : Revision). length r.text ≤ most_text) (map (λ (s : Stored). s.revision) stored)
small-texts offset known [] small = tt
small-texts offset known (s ∷ stored) small = (small.0, small-texts (offset + length s.chunk) (known ++ node_after known s.revision ∷ []) stored small.1)

within-limits : (laws : Below) (index data_bytes : List ℕ) (entries : List Entry) (revisions : List Revision) → Agrees index data_bytes entries revisions → AreEntries entries → AreWithinLimits revisions data_bytes
within-limits laws index data_bytes entries revisions a are = record {
  few = (let count = laws.entry_count index data_bytes entries revisions a in let few = are.few in omega (arith, count, few));
  texts = subst (AllByRecursion (λ (r : Revision). length r.text ≤ most_text)) a.held.these (small-texts 0 [] a.held.stored (subst HaveSmallTexts a.entries_are are.texts));
  data_end = subst (λ n. n ≤ most_data) (stored_sum-agrees index data_bytes entries revisions a) are.data_end;
}

module _ (laws : Below) (t : Tree) (f : OfLog) (revisions : List Revision) (h : HoldsEither (bytes_at t f.index) (bytes_at t f.chunks) revisions) (e : loaded_either Refuse (bytes_at t f.index) ≡ Ok f.log) where
  abbrev index : List ℕ
  index = bytes_at t f.index

  abbrev data_bytes : List ℕ
  data_bytes = bytes_at t f.chunks

  abbrev chunks : List ℕ
  chunks = chunks_either (bytes_at t f.index) (bytes_at t f.chunks)

  parts : IsLoadedApart Refuse (bytes_at t f.index) f.log
  parts = apart-loaded Refuse (bytes_at t f.index) f.log e

  held : HoldsRevisions (index_apart (bytes_at t f.index)) chunks revisions
  held = apart-held (bytes_at t f.index) data_bytes revisions h

  agrees : Agrees (index_apart (bytes_at t f.index)) chunks f.log.entries revisions
  agrees = subst (λ es. Agrees (index_apart index) chunks es revisions) parts.entries (laws.held (index_apart index) chunks revisions parts.apart held parts.loads)

  -- its chunks, in the form that the index says
  pub chunks-sum : length (chunks_either (bytes_at t f.index) (bytes_at t f.chunks)) ≡ stored_sum f.log.entries
  chunks-sum = sym (stored_sum-agrees (index_apart index) chunks f.log.entries revisions agrees)

  same-chunks : held_chunks t f ≡ chunks
  same-chunks = ap (λ b. chunk_bytes b index data_bytes) parts.form

  pub log-of : IsLogOf t f revisions
  log-of = record {
    entries = are;
    form = formed revisions;
    texts = subst (λ es. read_all es (held_chunks t f) ≡ Ok revisions) same_entries (subst (λ d. read_all again.0.entries d ≡ Ok revisions) (append-nil chunks ∙ sym same-chunks) again.2);
    places = placed;
    nodes_are = laws.entry_nodes (index_apart index) chunks f.log.entries revisions agrees;
    different = h.different;
    parents_are = laws.entry_parents (index_apart index) chunks f.log.entries revisions agrees;
  }
    where
      are : AreEntries f.log.entries
      are = subst AreEntries parts.entries (laws.entries (index_apart index) parts.apart parts.loads)

      formed : (list : List Revision) → HasForm t f list
      formed [] = tt
      formed (x ∷ list) = parts.form

      again : (log : Log) × (loaded Refuse (index_apart index) ≡ Ok log) × (read_all log.entries (chunks ++ []) ≡ Ok revisions) × Agrees (index_apart index) chunks log.entries revisions
      again = laws.loads (index_apart index) chunks [] revisions held (within-limits laws (index_apart index) chunks f.log.entries revisions agrees are)

      same_entries : again.0.entries ≡ f.log.entries
      same_entries = ap (λ (l : Log). l.entries) (ok-is {E = RevFault} again.0 parts.apart (sym again.1 ∙ parts.loads)) ∙ parts.entries

      placed : (rev : ℕ) (x : Entry) → slice_get f.log.entries rev ≡ Some x → chunk_in_form f.index f.chunks f.log rev t ≡ chunk_in (held_chunks t f) x
      placed rev x there = ap (λ (o : Option Entry). chunk_placed (bytes_at t (chunk_file f.log.inline f.index f.chunks)) (option_map (span_in f.log.inline rev) o)) there ∙ by f.log.inline refl
        where
          by : (b : Bool) → f.log.inline ≡ b → chunk_placed (bytes_at t (chunk_file b f.index f.chunks)) (option_map (span_in b rev) (Some x)) ≡ chunk_in (chunk_bytes b index data_bytes) x
          by true is = laws.places Refuse index f.log rev x e is there
          by false is = refl

  pub whole-of : IsWhole t f
  whole-of = record { entries = by (is_inline index) refl ∙ ap (λ b. index_end b f.log.entries) (sym parts.form); chunks = ap length same-chunks ∙ chunks-sum }
    where
      count : length f.log.entries ≡ length revisions
      count = laws.entry_count (index_apart index) chunks f.log.entries revisions agrees

      by : (b : Bool) → is_inline index ≡ b → length index ≡ index_end b f.log.entries
      by true is =
          let sum : length (chunks_apart index) ≡ stored_sum f.log.entries = ap (λ b. length (chunk_bytes b index data_bytes)) (sym is) ∙ chunks-sum in
          let long = inline-length index data_bytes revisions (subst (λ b. Holds b index data_bytes revisions) is h) in
          omega (arith, long, sum, count)
      by false is = laws.index_length index data_bytes revisions (subst (λ b. Holds b index data_bytes revisions) is h) ∙ ap (λ n. 64 * n) (sym count)
