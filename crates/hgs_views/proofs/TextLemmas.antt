-- The text with a node, its reads at different moments: in a separate revlog, and then in either form.
use Rattle.std.proofs.Common.{◌≡◌, ℕ, suc, ◌*◌, ◌<◌, ◌≤◌, List, [], ◌∷◌, ◌++◌, length, Bool, true, false, cond, Result, Ok, refl, sym, ◌∙◌, ap, subst, arith, length-append}
use Rattle.std.specs.Prelude.{unwrap_or}
use Rattle.hgs_bytes.specs.Bytes.{IsPrefixOf, same}
use Rattle.hgs_files.specs.declared.op.Op.{Op}
use Rattle.hgs_files.specs.Tree.{Tree, bytes_at, after_all}
use Rattle.hgs_index.specs.declared.node.Node.{Node}
use Rattle.hgs_index.specs.Either.{chunk_bytes}
use Rattle.hgs_index.specs.Inline.{chunks_apart, is_inline}
use Rattle.hgs_index.specs.Revision.{Revision}
use Rattle.hgs_index.specs.Revlog.{Begins, Holds, HoldsRevisions}
use Rattle.hgs_index.specs.Theorems.EitherLemmas.{held-form, holds-begins}
use Rattle.hgs_index.specs.Theorems.InlineLemmas.{apart-front}
use Rattle.hgs_model.specs.History.{node_at, text_at}
use Rattle.hgs_revlog.specs.declared.fault.Tail.TheVariants.{Until}
use Rattle.hgs_revlog.specs.Held.{AreWithinLimits}
use Rattle.hgs_revlog.specs.Load.{loaded}
use Rattle.hgs_revlog.specs.Log.{Log, place_of}
use Rattle.hgs_load.specs.declared.answer.ReadAnswer.{ReadAnswer}
use Rattle.hgs_load.specs.Asks.{Asks, answer, at_rest, MayAnswer}
use Rattle.hgs_reader.specs.Find.{has_node, bytes_until, log_until, text_asks, text_at_asks, separate_asks}
use Rattle.hgs_reader.specs.Held.{EndsInline, HasSeparateText}
use Rattle.hgs_load.specs.View.{log_answer, most_pieces}
use Rattle.hgs_views.specs.Course.{IsBetween}
use Rattle.hgs_views.specs.Moments.{StaysAt}
use Rattle.hgs_views.proofs.Basics.{same-refl, prefix-refl, prefix-trans, may-front, rest_then, rest_both}
use Rattle.hgs_views.proofs.FormLemmas.{same-form}
use Rattle.hgs_views.proofs.MomentLemmas.{between-later}
use Rattle.hgs_views.proofs.Below.{TextLaws}
use Rattle.hgs_views.proofs.OnlyLemmas.{Behind, Only, later-end, split, only-text, text-same, until-one, until-same}

-- the same of a separate revlog
pub record StaysApart (start : Tree) (from last : List Op) (store : Tree) (index chunks : List ℕ) (revisions : List Revision) : Type 0 where
  pub held : HoldsRevisions (bytes_at store index) (bytes_at store chunks) revisions
  pub index_stays : (now : List Op) → IsBetween from last now → IsPrefixOf (bytes_at store index) (bytes_at (after_all now start) index)
  pub chunks_stay : (now : List Op) → IsBetween from last now → IsPrefixOf (bytes_at store chunks) (bytes_at (after_all now start) chunks)
  pub within : (now : List Op) → IsBetween from last now → AreWithinLimits revisions (bytes_at (after_all now start) chunks)

module _ (law : TextLaws) (start : Tree) (from last : List Op) (store : Tree) (index chunks : List ℕ) (revisions : List Revision) (rev : ℕ) (node text : List ℕ) (apart : same index chunks ≡ false) (lt : rev < length revisions) (at : node_at revisions rev ≡ node) (is : text_at revisions rev ≡ text) where
  -- where the two files of a tree go on from those of the store
  text-of : (t : Tree) → HoldsRevisions (bytes_at store index) (bytes_at store chunks) revisions → IsPrefixOf (bytes_at store index) (bytes_at t index) → IsPrefixOf (bytes_at store chunks) (bytes_at t chunks) → AreWithinLimits revisions (bytes_at t chunks) → HasSeparateText t index chunks node text
  text-of t held p q within = law.found t index chunks revisions rev node text (record { index_front = bytes_at store index; data_front = bytes_at store chunks; held = held; index_begins = p; data_begins = q }) within lt at is

  -- the place of the node in the index
  pub record IsNodeAt (k : ℕ) : Type 0 where
    pub before : has_node node k (bytes_at store index) ≡ false
    pub there : has_node node (suc k) (bytes_at store index) ≡ true
    pub fits : 64 * suc k ≤ length (bytes_at store index)

  node-place : HasSeparateText store index chunks node text → (k : ℕ) × IsNodeAt k
  node-place h =
      let front = bytes_at store index in
      let named : Node = record { 0 = node } in
      let u = law.loads front (bytes_at store chunks) h.revisions named h.held h.ends h.limits in
      let e = law.last front u.0 named u.1 in
      (e.0, record { before = e.1; there = e.2; fits = e.3 })

  -- the index as it is in one tree, all else as in another

  -- the log that one tree gives, and the text in another
  text-then : (t u : Tree) (bytes : List ℕ) (log : Log) → at_rest t (bytes_until index node most_pieces []) ≡ Ok bytes → log_answer index (loaded (Until (record { 0 = node })) bytes) ≡ Ok log
      → HasSeparateText (λ path. cond (same index path) (t path) (u path)) index chunks node text → at_rest u (text_at_asks index chunks log (place_of log.entries node)) ≡ Ok text
  text-then t u bytes log read loads h =
      let w : Tree = λ path. cond (same index path) (t path) (u path) in
      let index_is : w index ≡ t index = ap (λ b. cond b (t index) (u index)) (same-refl index) in
      let chunks_are : w chunks ≡ u chunks = ap (λ b. cond b (t chunks) (u chunks)) apart in
      let f : List ℕ → Asks (Result Log ReadAnswer) = λ bytes. answer (log_answer index (loaded (Until (record { 0 = node })) bytes)) in
      let g : Log → Asks (Result (List ℕ) ReadAnswer) = λ log. text_at_asks index chunks log (place_of log.entries node) in
      let asked : at_rest w (log_until index node) ≡ Ok log = rest_then w (bytes_until index node most_pieces []) f bytes (until-same w t index node most_pieces [] index_is ∙ read) ∙ loads in
      text-same u w index chunks log (place_of log.entries node) (sym chunks_are)
      ∙ sym (rest_then w (log_until index node) g log asked)
      ∙ law.held w index chunks node text h

  module _ (s : StaysApart start from last store index chunks revisions) where
    mixed : (now later : List Op) → IsBetween from last now → IsBetween from last later → HasSeparateText (λ path. cond (same index path) (after_all now start path) (after_all later start path)) index chunks node text
    mixed now later a b =
        let t = after_all now start in
        let u = after_all later start in
        let w : Tree = λ path. cond (same index path) (t path) (u path) in
        let index_is : bytes_at w index ≡ bytes_at t index = ap (λ b. unwrap_or (cond b (t index) (u index)) []) (same-refl index) in
        let chunks_are : bytes_at w chunks ≡ bytes_at u chunks = ap (λ b. unwrap_or (cond b (t chunks) (u chunks)) []) apart in
        text-of w s.held (subst (IsPrefixOf (bytes_at store index)) (sym index_is) (s.index_stays now a)) (subst (IsPrefixOf (bytes_at store chunks)) (sym chunks_are) (s.chunks_stay later b)) (subst (AreWithinLimits revisions) (sym chunks_are) (s.within later b))

    in-store : IsBetween from last from → HasSeparateText store index chunks node text
    in-store here =
        let within = s.within from here in
        let longer = ap length (s.chunks_stay from here).1 in
        let joined = length-append (bytes_at store chunks) (s.chunks_stay from here).0 in
        text-of store s.held (prefix-refl (bytes_at store index)) (prefix-refl (bytes_at store chunks)) (record { few = within.few; texts = within.texts; data_end = (let room = within.data_end in omega (arith, room, longer, joined)) })

    -- the bytes of the index come as from one tree
    pub bytes-read : (mid : List Op) (r : Result (List ℕ) ReadAnswer) → IsBetween from last from → IsPrefixOf mid last → MayAnswer start from (bytes_until index node most_pieces []) mid r
        → (now : List Op) × IsBetween from last now × (r ≡ at_rest (after_all now start) (bytes_until index node most_pieces []))
    bytes-read mid r here on m =
        let n = node-place (in-store here) in
        until-one law start index node (bytes_at store index) n.0 n.1.before n.1.there n.1.fits last most_pieces 0 [] from r refl (bytes_at store index, refl) refl s.index_stays
        (later-end start (bytes_until index node most_pieces []) from mid last r on m)

    -- what was found in the index
    log-read : (mid : List Op) (r : Result Log ReadAnswer) → IsBetween from last from → IsPrefixOf mid last → MayAnswer start from (log_until index node) mid r
        → (now : List Op) × IsBetween from last now × (bytes : List ℕ) × (log : Log) × (at_rest (after_all now start) (bytes_until index node most_pieces []) ≡ Ok bytes) × (log_answer index (loaded (Until (record { 0 = node })) bytes) ≡ Ok log) × (r ≡ Ok log)
    log-read mid r here on m =
        let f : List ℕ → Asks (Result Log ReadAnswer) = λ bytes. answer (log_answer index (loaded (Until (record { 0 = node })) bytes)) in
        let g : Log → Asks (Result (List ℕ) ReadAnswer) = λ log. text_at_asks index chunks log (place_of log.entries node) in
        let p = split start (bytes_until index node most_pieces []) f from mid r m in
        let b = bytes-read p.0 p.2 here (prefix-trans p.0 mid last p.1.ends on) p.3 in
        let t = after_all b.0 start in
        let all : at_rest t (separate_asks index chunks node) ≡ Ok text = law.held t index chunks node text (text-of t s.held (s.index_stays b.0 b.1) (s.chunks_stay b.0 b.1) (s.within b.0 b.1)) in
        let whole = rest_both t (log_until index node) g text all in
        let part = rest_both t (bytes_until index node most_pieces []) f whole.0 whole.1 in
        let is : p.2 ≡ Ok part.0 = b.2 ∙ part.1 in
        let behind = subst (Behind start f p.0 mid r) is p.4 in
        (b.0, b.1, part.0, whole.0, part.1, part.2, behind.1 ∙ part.2)

    pub text-only : Only start from last (separate_asks index chunks node) (Ok text)
    text-only y m =
        let g : Log → Asks (Result (List ℕ) ReadAnswer) = λ log. text_at_asks index chunks log (place_of log.entries node) in
        let here : IsBetween from last from = record { begins = prefix-refl from; ends = may-front (separate_asks index chunks node) start from last y m } in
        let p = split start (log_until index node) g from last y m in
        let found = log-read p.0 p.2 here p.1.ends p.3 in
        let behind = subst (Behind start g p.0 last y) found.6 p.4 in
        only-text start index chunks found.3 (place_of found.3.entries node) (Ok text) p.0 last
        (λ later at. text-then (after_all found.0 start) (after_all later start) found.2 found.3 found.4 found.5 (mixed found.0 later found.1 (between-later from last p.0 later p.1 at))) y behind

-- ---- either form

-- what an inline index holds, it has at its front, and so have the bytes that go on from it
fewer-chunks : (front more data_bytes : List ℕ) (revisions : List Revision) → 0 < length revisions → Holds true front data_bytes revisions → length (chunks_apart front) ≤ length (chunks_apart (front ++ more))
fewer-chunks front more data_bytes [] some held = absurd (omega (arith, some))
fewer-chunks front more data_bytes (r ∷ revisions) some held =
    let parts = apart-front front more data_bytes r revisions (held-form true front data_bytes more r revisions held) held in
    let rest = parts.1 in
    omega (arith, ap length rest.1, length-append (chunks_apart front) rest.0)

module _ (start : Tree) (from last : List Op) (store : Tree) (index chunks : List ℕ) (revisions : List Revision) (some : 0 < length revisions) (s : StaysAt start from last store index chunks revisions) where
  form-stays : (inline : Bool) → Holds inline (bytes_at store index) (bytes_at store chunks) revisions → (now : List Op) → IsBetween from last now → is_inline (bytes_at (after_all now start) index) ≡ inline
  form-stays inline held now at =
      let stays = s.index_stays now at in
      ap is_inline stays.1 ∙ same-form inline (bytes_at store index) (bytes_at store chunks) stays.0 revisions some held

  within-form : (inline : Bool) → Holds inline (bytes_at store index) (bytes_at store chunks) revisions → (now : List Op) → IsBetween from last now → AreWithinLimits revisions (chunk_bytes inline (bytes_at (after_all now start) index) (bytes_at (after_all now start) chunks))
  within-form inline held now at =
      subst (λ f. AreWithinLimits revisions (chunk_bytes f (bytes_at (after_all now start) index) (bytes_at (after_all now start) chunks))) (form-stays inline held now at) (s.within now at)

  stays-apart : Holds false (bytes_at store index) (bytes_at store chunks) revisions → StaysApart start from last store index chunks revisions
  stays-apart held = record { held = held; index_stays = s.index_stays; chunks_stay = s.chunks_stay; within = within-form false held }

  -- the index of the store is within the limits too
  inline-within : Holds true (bytes_at store index) (bytes_at store chunks) revisions → IsBetween from last from → AreWithinLimits revisions (chunks_apart (bytes_at store index))
  inline-within held here =
      let within = within-form true held from here in
      let stays = s.index_stays from here in
      let fewer = fewer-chunks (bytes_at store index) stays.0 (bytes_at store chunks) revisions some held in
      record { few = within.few; texts = within.texts; data_end = (let room = within.data_end in let same = ap (λ l. length (chunks_apart l)) stays.1 in omega (arith, room, same, fewer)) }

-- what a text by its node needs in either form
pub record EitherLaws : Type 0 where
  pub apart : TextLaws
  pub asked : (start : Tree) (from last : List Op) (index chunks node : List ℕ) (y : Result (List ℕ) ReadAnswer) → ((now : List Op) → IsPrefixOf from now → IsPrefixOf now last → is_inline (bytes_at (after_all now start) index) ≡ false)
      → MayAnswer start from (text_asks index chunks node) last y → MayAnswer start from (separate_asks index chunks node) last y
  pub ends : (index data_bytes : List ℕ) (revisions : List Revision) (rev : ℕ) (node text : List ℕ) → Begins true index data_bytes revisions → AreWithinLimits revisions (chunks_apart index) → rev < length revisions → node_at revisions rev ≡ node → text_at revisions rev ≡ text
      → (front : List ℕ) × IsPrefixOf front index × EndsInline front node text
  pub inline : (start : Tree) (from last : List Op) (index chunks front node text : List ℕ) (y : Result (List ℕ) ReadAnswer) → EndsInline front node text → ((now : List Op) → IsPrefixOf from now → IsPrefixOf now last → IsPrefixOf front (bytes_at (after_all now start) index))
      → MayAnswer start from (text_asks index chunks node) last y → y ≡ Ok text

pub either-text-only : (law : EitherLaws) (start : Tree) (from last : List Op) (store : Tree) (index chunks : List ℕ) (revisions : List Revision) (rev : ℕ) (node text : List ℕ) → same index chunks ≡ false → rev < length revisions → node_at revisions rev ≡ node → text_at revisions rev ≡ text
    → StaysAt start from last store index chunks revisions → Only start from last (text_asks index chunks node) (Ok text)
either-text-only law start from last store index chunks revisions rev node text apart lt at is s y m = by (is_inline (bytes_at store index)) s.held
  where
    here : IsBetween from last from
    here = record { begins = prefix-refl from; ends = may-front (text_asks index chunks node) start from last y m }

    some : 0 < length revisions
    some = omega (arith, lt)

    by : (inline : Bool) → Holds inline (bytes_at store index) (bytes_at store chunks) revisions → y ≡ Ok text
    by false held =
        text-only law.apart start from last store index chunks revisions rev node text apart lt at is (stays-apart start from last store index chunks revisions some s held) y
        (law.asked start from last index chunks node y (λ now begins ends. form-stays start from last store index chunks revisions some s false held now (record { begins = begins; ends = ends })) m)
    by true held =
        let e = law.ends (bytes_at store index) (bytes_at store chunks) revisions rev node text (holds-begins true (bytes_at store index) (bytes_at store chunks) revisions held) (inline-within start from last store index chunks revisions some s held here) lt at is in
        law.inline start from last index chunks e.0 node text y e.2 (λ now begins ends. prefix-trans e.0 (bytes_at store index) (bytes_at (after_all now start) index) e.1 (s.index_stays now (record { begins = begins; ends = ends }))) m
