-- The text with a node, where an inline index begins with bytes that hold revisions, whatever the moments of the reads.
use Rattle.std.proofs.Common.{◌≡◌, ◌⊎◌, ℕ, zero, suc, ◌+◌, ◌-◌, ◌*◌, ◌^◌, ◌<◌, ◌≤◌, min, Bool, true, false, cond, ◌&&◌, ◌||◌, not, List, [], ◌∷◌, ◌++◌, take, drop, length, map, Option, Some, None, Result, Ok, refl, sym, ◌∙◌, ap, subst, inl, inr, arith, append_assoc, append-nil, length-append}
use Rattle.std.specs.Prelude.{nat_lt, nat_le, position, slice_get, unwrap_or}
use Rattle.std.specs.List.{position_or_len}
use Rattle.std.specs.Option.{option_map}
use Rattle.std.proofs.lemmas.Bool.Decides.{nat_tests}
use Rattle.std.proofs.lemmas.List.{take-append-drop, take-take, length-take, length-drop, length-map, take_at, drop_at, take-append-le}
use Rattle.std.proofs.Math.Seq.{take-add}
use Rattle.hgs_bytes.specs.Bytes.{IsPrefixOf, same}
use Rattle.hgs_files.specs.declared.op.Op.{Op}
use Rattle.hgs_files.specs.Tree.{Tree, after_all, bytes_at}
use Rattle.hgs_index.specs.declared.entry.Header.{Header}
use Rattle.hgs_index.specs.Entry.{entry_bytes, number_at, is_negative}
use Rattle.hgs_index.specs.Inline.{is_cut}
use Rattle.hgs_index.specs.Revlog.{Item}
use Rattle.hgs_index.specs.Theorems.InlineLemmas.{AreStored, Fit, inlined, item-cell, item-rest, item-stored, number-in-cell, whole-item}
use Rattle.hgs_index.specs.Theorems.EntryPartLemmas.{length-entry_bytes}
use Rattle.hgs_index.specs.declared.entry.Entry as index_entry
use Rattle.hgs_index.specs.declared.node.Node.{Node}
use Rattle.hgs_index.specs.Inline.{chunks_apart, index_apart, is_inline}
use Rattle.hgs_index.specs.Revision.{Revision, node_after, nodes, nodes_from}
use Rattle.hgs_index.specs.Revlog.{BeginsWithRevisions, Holds, Stored, index_bytes, items, items_from}
use Rattle.hgs_index.specs.Theorems.EitherLemmas.{form-more, held-form}
use Rattle.hgs_index.specs.Theorems.InlineLemmas.{apart-chunks, apart-front, cells, chunks_of_items, header-is, held-apart, index-inline, inline_header, item-chunks, items-stored}
use Rattle.hgs_revlog.specs.declared.fault.Tail.{Tail}
use Rattle.hgs_revlog.specs.declared.fault.Tail.TheVariants.{Until}
use Rattle.hgs_revlog.specs.Held.{AreWithinLimits, EndsFirstAt, chunk_in}
use Rattle.hgs_revlog.specs.Load.{in_form, loaded_either}
use Rattle.hgs_revlog.specs.Log.{Log}
use Rattle.hgs_revlog.specs.Text.{span_in, text_of}
use Rattle.hgs_revlog.specs.Theorems.TailHeldLemmas.{front-until}
use Rattle.hgs_revlog.specs.Theorems.TailLemmas.{until-refuse}
use Rattle.hgs_load.specs.declared.answer.ReadAnswer.{ReadAnswer}
use Rattle.hgs_load.specs.Asks.{Asks, MayAnswer, answer, at_rest, part_of, read, then_asks}
use Rattle.hgs_load.specs.Theorems.AskLemmas.{prefix-refl, prefix-trans}
use Rattle.hgs_load.specs.Theorems.PartLemmas.{part_is}
use Rattle.hgs_load.specs.View.{piece_length}
use Rattle.hgs_reader.specs.Find.{chunk_placed, has_item, inline_behind, inline_text, is_far, item_or, more_pieces, pieces_until, placed_text, separate_behind, text_answer, text_asks}
use Rattle.hgs_reader.proofs.TreeLemmas.{AreHeld, FrontsAre, SaysSeparate, may-front, text-held}
use Rattle.hgs_reader.specs.Held.{EndsInline, HasInlineText}
use Rattle.hgs_reader.specs.Theorems.HeldLemmas.{read_length, read_there}

-- ---- items before the one with the node

-- all but the last
abbrev pub ButLast : (List ℕ → Bool) → List (List ℕ) → Type 0
ButLast p [] = Unit {0}
ButLast p (x ∷ []) = Unit {0}
ButLast p (x ∷ y ∷ xs) = (p x ≡ false) × ButLast p (y ∷ xs)

-- where the first that has this is the last one, no other has
pub but-last : (p : List ℕ → Bool) (xs : List (List ℕ)) → position p xs ≡ Some (length xs - 1) → ButLast p xs
but-last p [] h = tt
but-last p (x ∷ []) h = tt
but-last p (x ∷ y ∷ xs) h = (none (p x) h, but-last p (y ∷ xs) (rest (p x) (position_or_len p (y ∷ xs)) (length xs) h))
  where
    none : (b : Bool) → cond (nat_lt (cond (not b) (1 + position_or_len p (y ∷ xs)) 0) (suc (suc (length xs)))) (Some (cond (not b) (1 + position_or_len p (y ∷ xs)) 0)) None ≡ Some (suc (suc (length xs)) - 1) → b ≡ false
    none true k = absurd (grind arith)
    none false k = refl

    rest : (b : Bool) (n len : ℕ) → cond (nat_lt (cond (not b) (1 + n) 0) (suc (suc len))) (Some (cond (not b) (1 + n) 0)) None ≡ Some (suc (suc len) - 1) → cond (nat_lt n (suc len)) (Some n) None ≡ Some (suc len - 1)
    rest true n len k = absurd (grind arith)
    rest false n len k = grind arith

abbrev node_of_item : Item → List ℕ
node_of_item i = i.entry.node.0

less-is : (a b : ℕ) → a < b → nat_lt a b ≡ true
less-is a b h = grind arith

below-is : (a b : ℕ) → nat_lt a b ≡ true → a < b
below-is a b h = grind (arith, nat_tests, h)

not-below : (a b : ℕ) → nat_lt a b ≡ false → b ≤ a
not-below a b h = grind (arith, nat_tests, h)

plain-number : (n : ℕ) → n < 2147483648 → not (is_negative n) ≡ true
plain-number n h = grind arith

or-left : (a b : Bool) → a ≡ true → (a || b) ≡ true
or-left true b h = refl
or-left false b h = cc

or-right : (a b : Bool) → b ≡ true → (a || b) ≡ true
or-right true b h = refl
or-right false b h = h

and-both : (a b : Bool) → a ≡ true → b ≡ true → (a && b) ≡ true
and-both true b h k = k
and-both false b h k = h

module _ (first : Option Header) (i : Item) (more : List ℕ) (m : ℕ) (fits : Fit (i ∷ [])) (stored : length i.chunk ≡ i.entry.stored) where
  abbrev bytes : List ℕ
  bytes = (entry_bytes i.entry first ++ i.chunk) ++ more

  abbrev item_size : ℕ
  item_size = 64 + length i.chunk

  first-size : length (entry_bytes i.entry first ++ i.chunk) ≡ item_size
  first-size = omega (arith, length-append (entry_bytes i.entry first) i.chunk, length-entry_bytes i.entry first fits.0.node)

  -- a front within the first item has no whole one
  pub cut-front : m < item_size → is_cut (take m bytes) ≡ true
  cut-front h = by (nat_lt m 64) refl
    where
      long : length bytes ≡ item_size + length more
      long = omega (arith, length-append (entry_bytes i.entry first ++ i.chunk) more, first-size)

      len : length (take m bytes) ≡ m
      len = omega (arith, length-take m bytes, long, h)

      by : (b : Bool) → nat_lt m 64 ≡ b → is_cut (take m bytes) ≡ true
      by true e = or-left (nat_lt (length (take m bytes)) 64) (not (is_negative (number_at 8 (take m bytes))) && nat_lt (length (take m bytes)) (64 + number_at 8 (take m bytes))) (ap (λ n. nat_lt n 64) len ∙ e)
      by false e =
          let whole = not-below m 64 e in
          let number : number_at 8 (take m bytes) ≡ i.entry.stored =
          sym (number-in-cell (take m bytes)) ∙ ap (number_at 8) (take-take 64 m bytes whole) ∙ number-in-cell bytes ∙ item-stored i.entry first i.chunk more fits.0 stored in
          let small = fits.0.stored in
          or-right (nat_lt (length (take m bytes)) 64) (not (is_negative (number_at 8 (take m bytes))) && nat_lt (length (take m bytes)) (64 + number_at 8 (take m bytes)))
          (and-both (not (is_negative (number_at 8 (take m bytes)))) (nat_lt (length (take m bytes)) (64 + number_at 8 (take m bytes)))
          (plain-number (number_at 8 (take m bytes)) (omega (arith, number, small)))
          (less-is (length (take m bytes)) (64 + number_at 8 (take m bytes)) (omega (arith, len, number, stored, h))))

  -- another front begins with it
  pub long-front : item_size ≤ m → take m bytes ≡ (entry_bytes i.entry first ++ i.chunk) ++ take (m - item_size) more
  long-front h =
      let parts : m ≡ item_size + (m - item_size) = omega (arith, h) in
      ap (λ n. take n bytes) parts ∙ take-add item_size (m - item_size) bytes
      ∙ (λ j. take_at (entry_bytes i.entry first ++ i.chunk) more item_size first-size j ++ take (m - item_size) (drop_at (entry_bytes i.entry first ++ i.chunk) more item_size first-size j))

node-at : (e : Item) (first : Option Header) → length e.entry.node.0 ≡ 20 → take 20 (drop 32 (entry_bytes e.entry first)) ≡ e.entry.node.0
node-at e None size = take_at e.entry.node.0 _ 20 size
node-at e (Some h) size = take_at e.entry.node.0 _ 20 size

-- In a proper front of the items, of which only the last may have the node, none has it.
pub front-lacks : (node : List ℕ) (first : Option Header) (is : List Item) (n m : ℕ) → Fit is → AreStored is → ButLast (λ x. same x node) (map node_of_item is) → m < length (inlined first is) → has_item node n (take m (inlined first is)) ≡ false
front-lacks node first is zero m fits stored lacks less = refl
front-lacks node first [] (suc n) m fits stored lacks less = absurd (omega (arith, less))
front-lacks node first (i ∷ []) (suc n) m fits stored lacks less =
    ap (λ c. item_or node (cond c None (Some (take 64 (take m (inlined first (i ∷ []))), drop (64 + number_at 8 (take m (inlined first (i ∷ [])))) (take m (inlined first (i ∷ [])))))) (has_item node n))
    (cut-front first i [] m (fits.0, tt) stored.0 (omega (arith, less, length-append (entry_bytes i.entry first ++ i.chunk) [], length-append (entry_bytes i.entry first) i.chunk, length-entry_bytes i.entry first fits.0.node)))
front-lacks node first (i ∷ j ∷ is) (suc n) m fits stored lacks less = by (nat_lt m (64 + length i.chunk)) refl (front-lacks node None (j ∷ is) n (m - (64 + length i.chunk)) fits.1 stored.1 lacks.1)
  where
    rest : List ℕ
    rest = inlined None (j ∷ is)

    whole : List ℕ
    whole = (entry_bytes i.entry first ++ i.chunk) ++ rest

    size : length whole ≡ 64 + length i.chunk + length rest
    size = omega (arith, length-append (entry_bytes i.entry first ++ i.chunk) rest, length-append (entry_bytes i.entry first) i.chunk, length-entry_bytes i.entry first fits.0.node)

    at : (b : Bool) → is_cut (take m whole) ≡ b → has_item node (suc n) (take m whole) ≡ item_or node (cond b None (Some (take 64 (take m whole), drop (64 + number_at 8 (take m whole)) (take m whole)))) (has_item node n)
    at b e = ap (λ c. item_or node (cond c None (Some (take 64 (take m whole), drop (64 + number_at 8 (take m whole)) (take m whole)))) (has_item node n)) e

    by : (b : Bool) → nat_lt m (64 + length i.chunk) ≡ b → (m - (64 + length i.chunk) < length rest → has_item node n (take (m - (64 + length i.chunk)) rest) ≡ false) → has_item node (suc n) (take m whole) ≡ false
    by true e more = at true (cut-front first i rest m (fits.0, tt) stored.0 (below-is m (64 + length i.chunk) e))
    by false e more =
        let long = not-below m (64 + length i.chunk) e in
        let front = take (m - (64 + length i.chunk)) rest in
        let is : take m whole ≡ (entry_bytes i.entry first ++ i.chunk) ++ front = long-front first i rest m (fits.0, tt) stored.0 long in
        at false (ap is_cut is ∙ whole-item i.entry first i.chunk front fits.0 stored.0)
        ∙ (λ k. same (take 20 (drop 32 (take 64 (is k)))) node || has_item node n (drop (64 + number_at 8 (is k)) (is k)))
        ∙ (λ k. same (take 20 (drop 32 (item-cell i.entry first i.chunk front fits.0 stored.0 k))) node || has_item node n (item-rest i.entry first i.chunk front fits.0 stored.0 k))
        ∙ ap (λ x. same x node || has_item node n front) (node-at i first fits.0.node)
        ∙ ap (λ b. b || has_item node n front) lacks.0
        ∙ more (omega (arith, long, less, size))

-- ---- the bytes that are read, at whatever moments

-- the bytes and the front are the same as far as both go
abbrev Begun : List ℕ → List ℕ → Type 0
Begun front bytes = IsPrefixOf front bytes ⊎ ((bytes ≡ take (length bytes) front) × (length bytes < length front))

-- so are they with one more piece of a file that begins with the front; where it does not reach the front's end it is a whole one
abbrev Reaches : List ℕ → List ℕ → List ℕ → Type 0
Reaches front bytes piece = IsPrefixOf front (bytes ++ piece) ⊎ (((bytes ++ piece) ≡ take (length (bytes ++ piece)) front) × (length (bytes ++ piece) < length front) × (length piece ≡ 65536))

front-of : (front rest : List ℕ) (q : ℕ) → length front ≤ q → take q (front ++ rest) ≡ front ++ take (q - length front) rest
front-of front rest q le =
    let parts : q ≡ length front + (q - length front) = omega (arith, le) in
    ap (λ n. take n (front ++ rest)) parts ∙ take-add (length front) (q - length front) (front ++ rest)
    ∙ (λ j. take_at front rest (length front) refl j ++ take (q - length front) (drop_at front rest (length front) refl j))

one-piece : (front file bytes : List ℕ) → IsPrefixOf front file → Begun front bytes → Reaches front bytes (take 65536 (drop (length bytes) file))
one-piece front file bytes stays (inl p) = inl (p.0 ++ take 65536 (drop (length bytes) file), ap (λ l. l ++ take 65536 (drop (length bytes) file)) p.1 ∙ append_assoc front p.0 (take 65536 (drop (length bytes) file)))
one-piece front file bytes stays (inr b) = by (nat_le (length front) q) refl
  where
    q : ℕ
    q = length bytes + 65536

    piece : List ℕ
    piece = take 65536 (drop (length bytes) file)

    rest : List ℕ
    rest = stays.0

    low : length bytes < length front
    low = b.1

    whole : length file ≡ length front + length rest
    whole = ap length stays.1 ∙ length-append front rest

    bytes-in : take (length bytes) file ≡ bytes
    bytes-in = ap (take (length bytes)) stays.1 ∙ take-append-le (length bytes) front rest (omega (arith, low)) ∙ sym b.0

    joined : bytes ++ piece ≡ take q file
    joined = ap (λ l. l ++ piece) (sym bytes-in) ∙ sym (take-add (length bytes) 65536 file)

    size : length piece ≡ min 65536 (length file - length bytes)
    size = length-take 65536 (drop (length bytes) file) ∙ ap (λ n. min 65536 n) (length-drop (length bytes) file)

    most-is : (a b : ℕ) → nat_le a b ≡ true → a ≤ b
    most-is a b h = grind (arith, nat_tests, h)

    above-is : (a b : ℕ) → nat_le a b ≡ false → b < a
    above-is a b h = grind (arith, nat_tests, h)

    by : (t : Bool) → nat_le (length front) q ≡ t → Reaches front bytes piece
    by true e = inl (take (q - length front) rest, joined ∙ ap (take q) stays.1 ∙ front-of front rest q (most-is (length front) q e))
    by false e =
        let less = above-is (length front) q e in
        let full : length piece ≡ 65536 = omega (arith, size, less, whole) in
        let long : length (bytes ++ piece) ≡ q = length-append bytes piece ∙ ap (λ n. length bytes + n) full in
        inr (joined ∙ ap (take q) stays.1 ∙ take-append-le q front rest (omega (arith, less)) ∙ ap (λ n. take n front) (sym long), omega (arith, long, less), full)

-- ---- the whole

length-inlined : (first : Option Header) (is : List Item) → length (inlined first is) ≡ length (cells first is) + length (chunks_of_items is)
length-inlined first [] = refl
length-inlined first (i ∷ is) =
    omega (arith, length-append (entry_bytes i.entry first ++ i.chunk) (inlined None is), length-append (entry_bytes i.entry first) i.chunk, length-append (entry_bytes i.entry first) (cells None is), length-append i.chunk (chunks_of_items is), length-inlined None is)

length-cells : (first : Option Header) (is : List Item) → Fit is → length (cells first is) ≡ 64 * length is
length-cells first [] fits = refl
length-cells first (i ∷ is) fits = omega (arith, length-append (entry_bytes i.entry first) (cells None is), length-entry_bytes i.entry first fits.0.node, length-cells None is fits.1)

nodes-of : (offset : ℕ) (known : List (List ℕ)) (stored : List Stored) → known ++ map node_of_item (items_from offset known stored) ≡ nodes_from known (map (λ s. s.revision) stored)
nodes-of offset known [] = append-nil known
nodes-of offset known (s ∷ stored) = sym (append_assoc known (node_after known s.revision ∷ []) _) ∙ nodes-of (offset + length s.chunk) (known ++ node_after known s.revision ∷ []) stored

length-items : (offset : ℕ) (known : List (List ℕ)) (stored : List Stored) → length (items_from offset known stored) ≡ length (map (λ s. s.revision) stored)
length-items offset known [] = refl
length-items offset known (s ∷ stored) = ap suc (length-items (offset + length s.chunk) (known ++ node_after known s.revision ∷ []) stored)

-- where the chunks of an inline index stand
abbrev pub ArePlaced : Type 0
ArePlaced = (tail : Tail) (index : List ℕ) (log : Log) (rev : ℕ) (e : index_entry.Entry) → loaded_either tail index ≡ Ok log → log.inline ≡ true → slice_get log.entries rev ≡ Some e → take e.stored (drop (span_in true rev e).from index) ≡ chunk_in (chunks_apart index) e

module _ (placed : ArePlaced) (index front data_front node : List ℕ) (r : Revision) (revisions : List Revision) (last : Revision) (holds : Holds true front data_front (r ∷ revisions)) (ends : EndsFirstAt node (r ∷ revisions)) (limits : AreWithinLimits (r ∷ revisions) (chunks_apart front)) (is_last : slice_get (r ∷ revisions) (length (r ∷ revisions) - 1) ≡ Some last) where
  abbrev all : List Item
  all = items holds.stored

  abbrev first_header : Option Header
  first_header = Some (inline_header holds.header.generaldelta)

  spelled : front ≡ inlined first_header all
  spelled = holds.index_is ∙ ap (λ k. index_bytes k all) (header-is true holds.header holds.form) ∙ index-inline holds.header.generaldelta all

  count : length all ≡ length (r ∷ revisions)
  count = length-items 0 [] holds.stored ∙ ap length holds.these

  size : length front ≡ 64 * length all + length (chunks_apart front)
  size =
      let chunks : length (chunks_apart front) ≡ length (chunks_of_items all) = ap length (apart-chunks front data_front (r ∷ revisions) holds ∙ sym (item-chunks 0 [] holds.stored)) in
      omega (arith, ap length spelled, length-inlined first_header all, length-cells first_header all holds.fits, chunks)

  lacks : ButLast (λ x. same x node) (map node_of_item all)
  lacks = but-last (λ x. same x node) (map node_of_item all) (ap (position (λ x. same x node)) nodes_are ∙ ends ∙ ap (λ n. Some (n - 1)) (sym (length-map all node_of_item ∙ count)))
    where
      nodes_are : map node_of_item all ≡ nodes (r ∷ revisions)
      nodes_are = nodes-of 0 [] holds.stored ∙ ap nodes holds.these

  -- before the end of the front no entry has the node
  none-before : (bytes : List ℕ) → bytes ≡ take (length bytes) front → length bytes < length front → has_item node (length bytes) bytes ≡ false
  none-before bytes is less =
      ap (has_item node (length bytes)) (is ∙ ap (take (length bytes)) spelled)
      ∙ front-lacks node first_header all (length bytes) (length bytes) holds.fits (items-stored 0 [] holds.stored) lacks (omega (arith, less, ap length spelled))

  -- of any bytes that begin with the front, the text is the last one
  abbrev text_of_bytes : List ℕ → Result (List ℕ) ReadAnswer
  text_of_bytes bytes = inline_text index node bytes (loaded_either (Until (record { 0 = node })) bytes)

  text-of-bytes : (more : List ℕ) → text_of_bytes (front ++ more) ≡ Ok last.text
  text-of-bytes more =
      let bytes = front ++ more in
      let named : Node = record { 0 = node } in
      let inline : is_inline bytes ≡ true = held-form true front data_front more r revisions holds in
      let parts = apart-front front more data_front r revisions inline holds in
      let begins : BeginsWithRevisions (index_apart bytes) (chunks_apart bytes) (r ∷ revisions) = record {
        index_front = index_apart front;
        data_front = chunks_apart front;
        held = held-apart front data_front (r ∷ revisions) holds;
        index_begins = parts.0;
        data_begins = parts.1;
      } in
      let h = front-until (index_apart bytes) (chunks_apart bytes) (r ∷ revisions) named begins ends limits in
      let log = h.0 in
      let formed : Log = record { inline = true; entries = log.entries } in
      let loads : loaded_either (Until named) bytes ≡ Ok formed = (λ i. in_form (inline i) (h.1 i)) in
      let u = until-refuse (index_apart bytes) log named h.1 in
      let counted = read_length log.entries log.entries (chunks_apart bytes) 0 (r ∷ revisions) h.2 in
      let place : length (r ∷ revisions) - 1 ≡ length log.entries - 1 = ap (λ n. n - 1) counted in
      let there = read_there log.entries log.entries (chunks_apart bytes) 0 (length log.entries - 1) (r ∷ revisions) last h.2 (ap (slice_get (r ∷ revisions)) (sym place) ∙ is_last) in
      let from_first : 0 + (length log.entries - 1) ≡ length log.entries - 1 = omega arith in
      ap (inline_text index node bytes) loads
      ∙ ap (placed_text index bytes formed) u.1
      ∙ ap (λ o. text_answer index (text_of log.entries (length log.entries - 1) (chunk_placed bytes (option_map (span_in true (length log.entries - 1)) o)))) there.1
      ∙ ap (λ c. text_answer index (text_of log.entries (length log.entries - 1) c)) (placed (Until named) bytes formed (length log.entries - 1) there.0 loads refl there.1)
      ∙ ap (text_answer index) (ap (λ n. text_of log.entries n (chunk_in (chunks_apart bytes) there.0)) (sym from_first) ∙ there.2)

  module _ (start : Tree) (from to : List Op) (y : Result (List ℕ) ReadAnswer) (stays : (now : List Op) → IsPrefixOf from now → IsPrefixOf now to → IsPrefixOf front (bytes_at (after_all now start) index)) where
    -- what is asked once so much was read, the last piece being this one
    abbrev behind : ℕ → List ℕ → List ℕ → Asks (Result (List ℕ) ReadAnswer)
    behind left bytes piece = then_asks (cond (is_far true node bytes piece) (answer (Ok bytes)) (pieces_until true index node left bytes)) (λ b. answer (text_of_bytes b))

    ends-there : (bytes : List ℕ) → IsPrefixOf front bytes → y ≡ text_of_bytes bytes → y ≡ Ok last.text
    ends-there bytes p e = e ∙ ap (λ b. text_of_bytes b) p.1 ∙ text-of-bytes p.0

    -- once so much was read, the text is what is answered
    abbrev Ends : ℕ → Type 0
    Ends left = (bytes : List ℕ) (now : List Op) → IsPrefixOf from now → Begun front bytes → length front ≤ length bytes + 65536 * left → MayAnswer start now (then_asks (pieces_until true index node left bytes) (λ b. answer (text_of_bytes b))) to y → y ≡ Ok last.text

    pieces-end : (left : ℕ) → Ends left
    pieces-end zero bytes now at begun room m = by begun
      where
        by : Begun front bytes → y ≡ Ok last.text
        by (inl p) = ends-there bytes p m.1
        by (inr b) = let low = b.1 in absurd (omega (arith, low, room))
    pieces-end (suc left) bytes now at begun room m =
        let log = m.0 in
        let tree = after_all log start in
        let asked = unwrap_or (part_of tree index (length bytes) piece_length) [] in
        let there = prefix-trans from now log at m.1 in
        let goes = may-front (behind left (bytes ++ asked) asked) start log to y m.2 in
        let read : asked ≡ take 65536 (drop (length bytes) (bytes_at tree index)) = part_is (tree index) (length bytes) piece_length in
        by log there (take 65536 (drop (length bytes) (bytes_at tree index))) (one-piece front (bytes_at tree index) bytes (stays log there goes) begun) (subst (λ p. MayAnswer start log (behind left (bytes ++ p) p) to y) read m.2) (pieces-end left)
      where
        by : (log : List Op) → IsPrefixOf from log → (piece : List ℕ) → Reaches front bytes piece → MayAnswer start log (behind left (bytes ++ piece) piece) to y → Ends left → y ≡ Ok last.text
        by log there piece reaches m next = far (is_far true node (bytes ++ piece) piece) refl m reaches
          where
            short : length piece ≡ 65536 → nat_lt (length piece) 65536 ≡ false
            short full = ap (λ n. nat_lt n 65536) full

            clash : true ≡ false → ⊥
            clash h = cc

            far : (b : Bool) → is_far true node (bytes ++ piece) piece ≡ b → MayAnswer start log (behind left (bytes ++ piece) piece) to y → Reaches front bytes piece → y ≡ Ok last.text
            far true e m (inl p) = ends-there (bytes ++ piece) p (let k = subst (λ b. MayAnswer start log (then_asks (cond b (answer (Ok (bytes ++ piece))) (pieces_until true index node left (bytes ++ piece))) (λ b. answer (text_of_bytes b))) to y) e m in k.1)
            far true e m (inr b) = absurd (clash (sym e ∙ ap (λ s. s || has_item node (length (bytes ++ piece)) (bytes ++ piece)) (short b.2) ∙ none-before (bytes ++ piece) b.0 b.1))
            far false e m reached =
                next (bytes ++ piece) log there (begun-of reached) (enough reached)
                (subst (λ b. MayAnswer start log (then_asks (cond b (answer (Ok (bytes ++ piece))) (pieces_until true index node left (bytes ++ piece))) (λ b. answer (text_of_bytes b))) to y) e m)
              where
                begun-of : Reaches front bytes piece → Begun front (bytes ++ piece)
                begun-of (inl p) = inl p
                begun-of (inr b) = inr (b.0, b.1)

                enough : Reaches front bytes piece → length front ≤ length (bytes ++ piece) + 65536 * left
                enough (inl p) = let long = ap length p.1 in omega (arith, long, length-append front p.0)
                enough (inr b) = let full = b.2 in omega (arith, room, full, length-append bytes piece)

    -- the first piece is read to see the form
    first-piece : (n : ℕ) (log : List Op) → IsPrefixOf from log → length front ≤ 65536 * suc n
        → MayAnswer start log (behind n (unwrap_or (part_of (after_all log start) index 0 piece_length) []) (unwrap_or (part_of (after_all log start) index 0 piece_length) [])) to y → y ≡ Ok last.text
    first-piece n log there room m = pieces-end (suc n) [] from (prefix-refl from) nothing (omega (arith, room)) (log, there, m)
      where
        nothing : Begun front []
        nothing = inr (refl, let some = size in let many = count in omega (arith, some, many))

    pub inline-at-moments : (chunks : List ℕ) → MayAnswer start from (text_asks index chunks node) to y → y ≡ Ok last.text
    inline-at-moments chunks m =
        let log = m.0 in
        let tree = after_all log start in
        let piece = unwrap_or (part_of tree index 0 piece_length) [] in
        let goes = may-front (cond (is_inline piece) (inline_behind index node piece) (separate_behind index chunks node piece)) start log to y m.2 in
        let p = stays log m.1 goes in
        let file = bytes_at tree index in
        let whole : length file ≡ length front + length p.0 = ap length p.1 ∙ length-append front p.0 in
        let long : 64 ≤ length (take piece_length file) = omega (arith, length-take piece_length file, whole, size, count) in
        let says : is_inline piece ≡ true =
        ap is_inline (part_is (tree index) 0 piece_length) ∙ sym (form-more (take piece_length file) (drop piece_length file) long) ∙ ap is_inline (take-append-drop piece_length file ∙ p.1) ∙ held-form true front data_front p.0 r revisions holds in
        first-piece (more_pieces true) log m.1 (room (more_pieces true) refl) (subst (λ b. MayAnswer start log (cond b (inline_behind index node piece) (separate_behind index chunks node piece)) to y) says m.2)
      where
        room : (n : ℕ) → n ≡ 2 ^ 33 → length front ≤ 65536 * suc n
        room n is = let few = limits.few in let end = limits.data_end in omega (arith, is, size, count, few, end)

pub ends-inline : ArePlaced → (start : Tree) (from to : List Op) (index chunks front node text : List ℕ) (y : Result (List ℕ) ReadAnswer) → EndsInline front node text → ((now : List Op) → IsPrefixOf from now → IsPrefixOf now to → IsPrefixOf front (bytes_at (after_all now start) index))
    → MayAnswer start from (text_asks index chunks node) to y → y ≡ Ok text
ends-inline placed start from to index chunks front node text y h stays m = by h.revisions h.held h.ends h.limits h.is_last
  where
    by : (revisions : List Revision) → Holds true front [] revisions → EndsFirstAt node revisions → AreWithinLimits revisions (chunks_apart front) → slice_get revisions (length revisions - 1) ≡ Some h.last → y ≡ Ok text
    by [] held ends limits is_last = cc
    by (r ∷ revisions) held ends limits is_last = inline-at-moments placed index front [] node r revisions h.last held ends limits is_last start from to y stays chunks m ∙ ap (λ x. let a : Result (List ℕ) ReadAnswer = Ok x in a) h.text_is

-- ---- files at rest

rest-answers : {A : Type 0} (t : Tree) (q : Asks A) → MayAnswer t [] q [] (at_rest t q)
rest-answers t (answer x) = (([], refl), refl)
rest-answers t (read path at most rest) = ([], ([], refl), rest-answers t (rest (part_of t path at most)))

nothing-before : (now : List Op) → IsPrefixOf now [] → now ≡ []
nothing-before [] p = refl
nothing-before (op ∷ now) p = let e = p.1 in cc

pub inline-text-held : ArePlaced → (t : Tree) (index chunks node text : List ℕ) → HasInlineText t index node text → at_rest t (text_asks index chunks node) ≡ Ok text
inline-text-held placed t index chunks node text h =
    ends-inline placed t [] [] index chunks h.0 node text (at_rest t (text_asks index chunks node)) h.2
    (λ now begins ends. subst (λ l. IsPrefixOf h.0 (bytes_at (after_all l t) index)) (sym (nothing-before now ends)) h.1)
    (rest-answers t (text_asks index chunks node))

-- in either form
pub either-text-held : SaysSeparate → FrontsAre → ArePlaced → AreHeld
either-text-held says fronts placed t index chunks node text (inl h) = text-held says fronts t index chunks node text h
either-text-held says fronts placed t index chunks node text (inr h) = inline-text-held placed t index chunks node text h
