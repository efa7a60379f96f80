-- A revision of a revlog is what a search by its node finds.
use Rattle.std.proofs.Common.{◌≡◌, ℕ, zero, suc, ◌+◌, ◌-◌, ◌<◌, ◌≤◌, List, [], ◌∷◌, ◌++◌, Bool, true, false, inl, inr, length, take, drop, Some, refl, sym, ◌∙◌, ap, arith, length-append}
use Rattle.std.specs.Prelude.{position, slice_get, slice_index_or}
use Rattle.std.specs.List.{AllByRecursion}
use Rattle.std.proofs.lemmas.List.{take-append-drop, length-take}
use Rattle.hgs_bytes.specs.Bytes.{IsPrefixOf, same}
use Rattle.hgs_files.specs.Tree.{Tree, bytes_at}
use Rattle.hgs_index.specs.Either.{chunk_bytes, chunks_either}
use Rattle.hgs_index.specs.Inline.{chunks_apart, is_inline}
use Rattle.hgs_index.specs.Node.{null_node}
use Rattle.hgs_index.specs.Revision.{Revision, nodes}
use Rattle.hgs_index.specs.Revlog.{Begins, BeginsWithRevisions, Holds, all_different}
use Rattle.hgs_index.specs.Theorems.EitherLemmas.{form-begins-front, held-form}
use Rattle.hgs_index.specs.Theorems.InlineLemmas.{apart-front}
use Rattle.hgs_revlog.specs.Held.{AreWithinLimits, EndsFirstAt}
use Rattle.hgs_revlog.specs.Load.{most_revisions, most_text}
use Rattle.hgs_model.specs.History.{node_at, text_at}
use Rattle.hgs_reader.specs.Held.{EndsInline, HasSeparateText, HasText}
use Rattle.hgs_stands.specs.Shows.{BeginsAt}
use Rattle.hgs_shown.specs.Below.{Below}

front-get : (revisions : List Revision) (rev : ℕ) → slice_get (take (suc rev) revisions) rev ≡ slice_get revisions rev
front-get [] rev = refl
front-get (x ∷ revisions) zero = refl
front-get (x ∷ revisions) (suc rev) = front-get revisions rev

front-texts : (n : ℕ) (revisions : List Revision) → AllByRecursion (λ (r : Revision). length r.text ≤ most_text) revisions → AllByRecursion (λ (r : Revision). length r.text ≤ most_text) (take n revisions)
front-texts zero revisions all = tt
front-texts (suc n) [] all = tt
front-texts (suc n) (r ∷ revisions) all = (all.0, front-texts n revisions all.1)

-- the chunks behind a front of an inline index are a front of all chunks
fewer-chunks : (index data_bytes : List ℕ) (revisions : List Revision) → 0 < length revisions → (begins : Begins true index data_bytes revisions) → length (chunks_apart begins.index_front) ≤ length (chunks_apart index)
fewer-chunks index data_bytes [] some begins = absurd (omega (arith, some))
fewer-chunks index data_bytes (r ∷ revisions) some begins =
    let parts = apart-front begins.index_front begins.index_begins.0 begins.data_front r revisions (held-form true begins.index_front begins.data_front begins.index_begins.0 r revisions begins.held) begins.held in
    let rest = parts.1 in
    let whole : length (chunks_apart index) ≡ length (chunks_apart begins.index_front) + length rest.0 =
    ap (λ l. length (chunks_apart l)) begins.index_begins.1 ∙ ap length rest.1 ∙ length-append (chunks_apart begins.index_front) rest.0 in
    omega (arith, whole)

-- what an inline index holds it holds whatever stands beside it
beside : (index data_bytes : List ℕ) (revisions : List Revision) → Holds true index data_bytes revisions → Holds true index [] revisions
beside index data_bytes revisions h = record {
  header = h.header;
  stored = h.stored;
  these = h.these;
  texts = h.texts;
  earlier = h.earlier;
  fits = h.fits;
  different = h.different;
  not_null = h.not_null;
  form = h.form;
  index_is = h.index_is;
  data_is = tt;
}

-- a revision among others, and these up to it
module _ (laws : Below) (revisions : List Revision) (rev : ℕ) (node text : List ℕ) (lt : rev < length revisions) (at : node_at revisions rev ≡ node) (is : text_at revisions rev ≡ text) where
  abbrev r : (r : Revision) × (slice_get revisions rev ≡ Some r) × (r.text ≡ text_at revisions rev)
  r = laws.there revisions rev lt

  abbrev front : List Revision
  front = take (suc rev) revisions

  size : length front ≡ suc rev
  size = let l = length-take (suc rev) revisions in omega (arith, l, lt)

  joined : front ++ drop (suc rev) revisions ≡ revisions
  joined = take-append-drop (suc rev) revisions

  below : rev < length front
  below = omega (arith, size)

  last : rev ≡ length front - 1
  last = omega (arith, size)

  ends-at : all_different (nodes front) ≡ true → EndsFirstAt node front
  ends-at different =
      let node_is : slice_index_or (nodes front) rev null_node ≡ node = sym (laws.node_stays front revisions rev (drop (suc rev) revisions, sym joined) below) ∙ at in
      let place : position (λ n. same n (slice_index_or (nodes front) rev null_node)) (nodes front) ≡ Some rev = laws.first_place (nodes front) rev different (let n = laws.counted front in omega (arith, n, below)) in
      ap (λ x. position (λ n. same n x) (nodes front)) (sym node_is) ∙ place ∙ ap Some last

  last-there : slice_get front (length front - 1) ≡ Some r.0
  last-there = ap (slice_get front) (sym last) ∙ front-get revisions rev ∙ r.1

  few-in : length revisions ≤ most_revisions → length front ≤ most_revisions
  few-in most = omega (arith, most, size, lt)

  pub separate-text : (t : Tree) (index chunks : List ℕ) → BeginsWithRevisions (bytes_at t index) (bytes_at t chunks) revisions → AreWithinLimits revisions (bytes_at t chunks) → HasSeparateText t index chunks node text
  separate-text t index chunks begin within =
      let begins : BeginsWithRevisions (bytes_at t index) (bytes_at t chunks) front = form-begins-front false (bytes_at t index) (bytes_at t chunks) revisions front (drop (suc rev) revisions) joined begin in
      record {
        revisions = front;
        last = r.0;
        held = begins;
        limits = record { few = few-in within.few; texts = front-texts (suc rev) revisions within.texts; data_end = (let room = within.data_end in let parts = ap length begins.data_begins.1 in let sum = length-append begins.data_front begins.data_begins.0 in omega (arith, room, parts, sum)) };
        ends = ends-at begins.held.different;
        is_last = last-there;
        text_is = r.2 ∙ is;
      }

  pub inline-text : (index data_bytes : List ℕ) → Begins true index data_bytes revisions → AreWithinLimits revisions (chunks_apart index) → (bytes : List ℕ) × IsPrefixOf bytes index × EndsInline bytes node text
  inline-text index data_bytes begin within =
      let begins : Begins true index data_bytes front = form-begins-front true index data_bytes revisions front (drop (suc rev) revisions) joined begin in
      let fewer = fewer-chunks index data_bytes front (omega (arith, size)) begins in (
        begins.index_front,
        begins.index_begins,
        record {
          revisions = front;
          last = r.0;
          held = beside begins.index_front begins.data_front front begins.held;
          limits = record { few = few-in within.few; texts = front-texts (suc rev) revisions within.texts; data_end = (let room = within.data_end in omega (arith, room, fewer)) };
          ends = ends-at begins.held.different;
          is_last = last-there;
          text_is = r.2 ∙ is;
        },
      )

  pub has-text : (t : Tree) (index chunks : List ℕ) → BeginsAt t index chunks revisions → AreWithinLimits revisions (chunks_either (bytes_at t index) (bytes_at t chunks)) → HasText t index chunks node text
  has-text t index chunks begin within = by (is_inline (bytes_at t index)) begin within
    where
      by : (inline : Bool) → Begins inline (bytes_at t index) (bytes_at t chunks) revisions → AreWithinLimits revisions (chunk_bytes inline (bytes_at t index) (bytes_at t chunks)) → HasText t index chunks node text
      by false begin within = inl (separate-text t index chunks begin within)
      by true begin within = inr (inline-text (bytes_at t index) (bytes_at t chunks) begin within)

-- its node is not the null node
pub named : (laws : Below) (t : Tree) (index chunks : List ℕ) (revisions : List Revision) (rev : ℕ) (node : List ℕ) → BeginsAt t index chunks revisions → rev < length revisions → node_at revisions rev ≡ node → same node null_node ≡ false
named laws t index chunks revisions rev node begin lt at =
    ap (λ x. same x null_node) (sym at)
    ∙ laws.not_null (nodes revisions) rev begin.held.not_null (let n = laws.counted revisions in omega (arith, n, lt))
