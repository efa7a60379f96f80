-- What a text becomes in a revlog that was loaded is what the list of its revisions has of it.
use Rattle.std.proofs.Common.{◌≡◌, ℕ, zero, suc, ◌+◌, List, [], ◌∷◌, ◌++◌, Bool, true, false, ◌&&◌, ◌==◌, cond, drop, length, map, nat_le, nat_lt, not, refl, sym, ◌∙◌, ap, subst, arith, length-append}
use Rattle.std.specs.Prelude.{◌<◌, ◌≤◌, Option, Some, None, Result, Ok, Err, slice_get, slice_index_or, sum_by, unwrap_or}
use Rattle.std.specs.List.{AllByRecursion}
use Rattle.std.specs.Option.{option_map}
use Rattle.std.proofs.lemmas.Bool.Decides.{nat_tests}
use Rattle.std.proofs.lemmas.List.{length-map}
use Rattle.std.proofs.lemmas.List.Quantifiers.{position-Some}
use Rattle.std.proofs.lemmas.Option.{get_or_from_slice_get}
use Rattle.hgs_bytes.specs.Bytes.{among, same}
use Rattle.hgs_bytes.specs.Theorems.ByteLemmas.{same-eq}
use Rattle.hgs_files.specs.Tree.{Tree, bytes_at}
use Rattle.hgs_index.specs.declared.entry.Entry.{Entry}
use Rattle.hgs_index.specs.declared.kinds.Which.TheVariants as limits
use Rattle.hgs_index.specs.Either.{chunk_bytes}
use Rattle.hgs_index.specs.Entry.{entry_bytes}
use Rattle.hgs_index.specs.Node.{node_hash, null_node}
use Rattle.hgs_index.specs.Revision.{Parents, Revision, is_as, node_after, nodes, number_of, parent_node, same_parents, standing as standing_in, with_revision, with_revision_at}
use Rattle.hgs_index.specs.Revlog.{all_different, chunk_of, chunk_text}
use Rattle.hgs_index.specs.Theorems.RevisionLemmas.{nodes_from-append}
use Rattle.hgs_loading.specs.Found.{and_then}
use Rattle.hgs_loading.specs.Logs.{chunk_in_form}
use Rattle.hgs_model.specs.History.{node_at, text_at}
use Rattle.hgs_model.specs.Theorems.ListLemmas.{and-left, and-right, some-same}
use Rattle.hgs_model.specs.Theorems.ListedLemmas.{length-nodes}
use Rattle.hgs_ops.specs.Unhindered.{AreNewRevisions}
use Rattle.hgs_load.specs.declared.answer.ReadAnswer.{ReadAnswer}
use Rattle.hgs_revlog.specs.declared.add.Added.{Added}
use Rattle.hgs_revlog.specs.declared.add.Added.TheVariants.{New, Old}
use Rattle.hgs_revlog.specs.declared.fault.RevFault.{RevFault}
use Rattle.hgs_revlog.specs.declared.fault.RevFault.TheVariants as faults
use Rattle.hgs_revlog.specs.Add.{added_at, matched, next_entry, parents_of}
use Rattle.hgs_revlog.specs.Held.{chunk_in}
use Rattle.hgs_revlog.specs.Load.{most_data, most_revisions, most_text}
use Rattle.hgs_revlog.specs.Log.{new_header, nodes_of, place_of, stored_sum}
use Rattle.hgs_revlog.specs.Text.{entry_text, fitting_text, node_with, text_at as text_with, text_of}
use Rattle.hgs_ops.specs.Theorems.GrowLemmas.{drop-front}
use Rattle.hgs_revlog.specs.Theorems.HeldLemmas.{among_none, not_among}
use Rattle.hgs_commit.specs.declared.growth.Became.TheVariants.{New as NewRevision}
use Rattle.hgs_commit.specs.Obstacles.{Obstacle, collides, passes}
use Rattle.hgs_commit.specs.Revised.{revised}
use Rattle.hgs_commit.specs.Texts.{OfLog, OfText, new_text_in, new_text_of, revlog_answer}
use Rattle.hgs_writer.specs.Free.{HasRoomFor}
use Rattle.hgs_writer.specs.Logs.{IsLogOf, held_chunks}
use Rattle.hgs_writer.specs.NewTexts.{IsTextOf, growth_by}
use Rattle.hgs_writer.proofs.FreshLemmas.{fresh-push, fresh-same}
use Rattle.hgs_writer.proofs.HashLemmas.{hash-same, position-none}
use Rattle.hgs_writer.proofs.HistoryLemmas.{got, text-is}
use Rattle.hgs_writer.proofs.LimitLemmas.{apart-within, different-within}
use Rattle.hgs_writer.proofs.TextLemmas.{entry-node, entry-of, node-of, text-of-chunk}

-- ---- what an entry says of its revision

-- a text that is read has the node of its entry
fitting-node : (entries : List Entry) (rev : ℕ) (e : Entry) (chunk : Option (List ℕ)) (text : List ℕ) → fitting_text entries rev e chunk ≡ Ok text → node_with entries e text ≡ e.node.0
fitting-node entries rev e None text h = cc
fitting-node entries rev e (Some x) text h = by (length x == e.size) (same (node_with entries e x) e.node.0) refl h
  where
    by : (a b : Bool) → same (node_with entries e x) e.node.0 ≡ b → (let r : Result (List ℕ) RevFault = cond (not a) (Err (faults.Length rev)) (cond (not b) (Err (faults.Hash rev)) (Ok x)) in r) ≡ Ok text → node_with entries e text ≡ e.node.0
    by true true same_node g = ap (node_with entries e) (sym (ok-text g)) ∙ same-eq (node_with entries e x) e.node.0 same_node
      where
        ok-text : (let r : Result (List ℕ) RevFault = Ok x in r) ≡ Ok text → x ≡ text
        ok-text k = cc
    by true false same_node g = cc
    by false b same_node g = cc

entry-hash : (entries : List Entry) (rev : ℕ) (chunk : List ℕ) (e : Entry) (text : List ℕ) → entry_text entries rev chunk e ≡ Ok text → node_with entries e text ≡ e.node.0
entry-hash entries rev chunk e text h = by (e.flags == 0) (e.base == rev) (nat_lt (length chunk) e.stored) h
  where
    by : (a b c : Bool) → (let r : Result (List ℕ) RevFault = cond (not a) (Err (faults.Flagged rev)) (cond (not b) (Err (faults.Delta rev)) (cond c (Err (faults.Short rev)) (fitting_text entries rev e (chunk_text chunk)))) in r) ≡ Ok text → node_with entries e text ≡ e.node.0
    by true true false g = fitting-node entries rev e (chunk_text chunk) text g
    by true true true g = cc
    by true false c g = cc
    by false b c g = cc

get-map : {A B : Type 0} (f : A → B) (xs : List A) (i : ℕ) (x : A) → slice_get xs i ≡ Some x → slice_get (map f xs) i ≡ Some (f x)
get-map f [] i x e = absurd (no e)
  where
    no : None ≡ Some x → ⊥
    no h = cc
get-map f (y ∷ xs) zero x e = ap (option_map f) e
get-map f (y ∷ xs) (suc i) x e = get-map f xs i x e

-- a revision of a list that was loaded, and its entry
record Pair (t : Tree) (f : OfLog) (rev : ℕ) (s : Revision) : Type 0 where
  entry : Entry
  there : slice_get f.log.entries rev ≡ Some entry
  text : text_of f.log.entries rev (chunk_in_form f.index f.chunks f.log rev t) ≡ Ok s.text
  parents : (entry.p1, entry.p2) ≡ s.parents
  node : entry.node.0 ≡ node_hash (parent_node (nodes_of f.log.entries) s.parents.0) (parent_node (nodes_of f.log.entries) s.parents.1) s.text

pair-of : (t : Tree) (f : OfLog) (revisions : List Revision) (rev : ℕ) (s : Revision) → IsLogOf t f revisions → rev < length revisions → slice_get revisions rev ≡ Some s → Pair t f rev s
pair-of t f revisions rev s is lt at = record { entry = e.0; there = e.1; text = text; parents = parents; node = node }
  where
    e : (x : Entry) × (slice_get f.log.entries rev ≡ Some x) × (text_of f.log.entries rev (chunk_in (held_chunks t f) x) ≡ Ok (text_at revisions rev))
    e = entry-of t f revisions rev is lt

    text : text_of f.log.entries rev (chunk_in_form f.index f.chunks f.log rev t) ≡ Ok s.text
    text = text-of-chunk t f revisions rev is lt ∙ ap (λ x. Ok x) (text-is revisions rev s at)

    parents : (e.0.p1, e.0.p2) ≡ s.parents
    parents = some-same s.parents (e.0.p1, e.0.p2) s.parents
        (sym (get-map (λ (x : Entry). let p : Parents = (x.p1, x.p2) in p) f.log.entries rev e.0 e.1) ∙ ap (λ (ps : List Parents). slice_get ps rev) is.parents_are ∙ get-map (λ (x : Revision). x.parents) revisions rev s at)

    node : e.0.node.0 ≡ node_hash (parent_node (nodes_of f.log.entries) s.parents.0) (parent_node (nodes_of f.log.entries) s.parents.1) s.text
    node =
        sym (entry-hash f.log.entries rev (chunk_in_form f.index f.chunks f.log rev t) e.0 s.text (ap (text_with f.log.entries rev (chunk_in_form f.index f.chunks f.log rev t)) (sym e.1) ∙ text))
        ∙ ap (λ (p : Parents). node_hash (parent_node (nodes_of f.log.entries) p.0) (parent_node (nodes_of f.log.entries) p.1) s.text) parents

-- ---- the node of one more revision

last-node : (revisions : List Revision) (r : Revision) → node_at (revisions ++ r ∷ []) (length revisions) ≡ node_after (nodes revisions) r
last-node revisions r =
    ap (λ (known : List (List ℕ)). slice_index_or known (length revisions) null_node) (nodes_from-append [] revisions (r ∷ []))
    ∙ ap (λ n. slice_index_or (nodes revisions ++ node_after (nodes revisions) r ∷ []) n null_node) (sym (length-nodes revisions)) ∙ at_end (nodes revisions) (node_after (nodes revisions) r)
  where
    at_end : (xs : List (List ℕ)) (x : List ℕ) → slice_index_or (xs ++ x ∷ []) (length xs) null_node ≡ x
    at_end [] x = refl
    at_end (y ∷ xs) x = at_end xs x

-- ---- what a text becomes

module _ (t : Tree) (f : OfLog) (revisions : List Revision) (r : Revision) (is : IsLogOf t f revisions) where
  entries-count : length f.log.entries ≡ length revisions
  entries-count = omega (arith, length-map f.log.entries (λ (x : Entry). x.node.0), ap length is.nodes_are, length-nodes revisions)

  below : (k : ℕ) → nat_le most_revisions k ≡ false → k < most_revisions
  below k small = grind (arith, nat_tests)

  -- by the place of its node
  abbrev answer : Option ℕ → Result (OfText × List Obstacle) ReadAnswer
  answer place = and_then (revlog_answer f.index (revised f.log r (added_at f.log r (option_map (λ rev. chunk_in_form f.index f.chunks f.log rev t) place) place))) (λ became. Ok (new_text_of f became))

  abbrev Becomes : Result (OfText × List Obstacle) ReadAnswer → Type 0
  Becomes given = (y : OfText × List Obstacle) × (given ≡ Ok y) × IsTextOf f revisions r y

  abbrev node : List ℕ
  node = (next_entry f.log.entries r).node.0

  -- where a revision has the node, whether it is this one
  found-at : (rev : ℕ) (s : Revision) → Pair t f rev s → added_at f.log r (Some (chunk_in_form f.index f.chunks f.log rev t)) (Some rev) ≡ cond (is_as r.text r.parents s) (Ok (Old rev)) (Err (faults.Collision rev))
  found-at rev s p =
      let parents = ap parents_of p.there ∙ p.parents in
      ap (matched f.log r.text r.parents rev) p.text
      ∙ λ i. cond (same r.text s.text && same_parents r.parents (parents i)) (Ok (Old rev)) (Err (faults.Collision rev))

  -- a revision with the text and the parents has the node
  same-hash : (rev : ℕ) (s : Revision) (p : Pair t f rev s) → is_as r.text r.parents s ≡ true → node ≡ p.entry.node.0
  same-hash rev s p e =
      let text = same-eq r.text s.text (and-left (same r.text s.text) (same_parents r.parents s.parents) e) in
      let known = nodes_of f.log.entries in
      hash-same known r.parents s.parents r.text (and-right (same r.text s.text) (same_parents r.parents s.parents) e)
      ∙ ap (node_hash (parent_node known s.parents.0) (parent_node known s.parents.1)) text ∙ sym p.node

  abbrev number-with : Option ℕ → List ℕ
  number-with o = node_at (with_revision_at o revisions r) (unwrap_or o (length revisions))

  abbrev finished : Result Added RevFault → Result (OfText × List Obstacle) ReadAnswer
  finished x = and_then (revlog_answer f.index (revised f.log r x)) (λ became. Ok (new_text_of f became))

  when-standing : (rev : ℕ) → standing_in revisions r.text r.parents ≡ Some rev → Becomes (new_text_in f r t)
  when-standing rev e =
      let q = position-Some (is_as r.text r.parents) revisions rev r e in
      let s = got revisions rev q.0 in
      let alike = ap (is_as r.text r.parents) (sym (get_or_from_slice_get revisions rev s.0 r s.1)) ∙ q.1 in
      let p = pair-of t f revisions rev s.0 is q.0 s.1 in
      let hash = same-hash rev s.0 p alike in
      let place : place_of f.log.entries node ≡ Some rev = ap (place_of f.log.entries) hash ∙ is.entries.own rev p.entry p.there in
      let here : node ≡ node_at revisions rev = hash ∙ sym (entry-node f.log.entries rev p.entry p.there) ∙ node-of t f revisions rev is in (
        (record { node = node; standing = Some rev; growth = None }, []),
        ap answer place ∙ ap finished (found-at rev s.0 p ∙ ap (λ b. cond b (Ok (Old rev)) (Err (faults.Collision rev))) alike),
        record {
          node = here ∙ ap number-with (sym e);
          standing = sym e;
          growth = λ none. ap (growth_by f r) (sym e);
          fresh = λ none. subst (λ (o : Option ℕ). AreNewRevisions revisions (with_revision_at o revisions r)) (sym e) (fresh-same t f revisions is);
          few = λ none. subst (λ (o : Option ℕ). length (with_revision_at o revisions r) ≤ most_revisions) (sym e) (omega (arith, entries-count, is.entries.few));
        },
      )

  module _ (e : standing_in revisions r.text r.parents ≡ None) where
    here : node ≡ node_at (with_revision revisions r) (number_of revisions r.text r.parents)
    here = ap (λ (known : List (List ℕ)). node_after known r) is.nodes_are ∙ sym (last-node revisions r) ∙ ap number-with (sym e)

    hindered : (o : Obstacle) → IsTextOf f revisions r (record { node = node; standing = None; growth = None }, o ∷ [])
    hindered o = record { node = here; standing = sym e; growth = λ none. absurd (no none); fresh = λ none. absurd (no none); few = λ none. absurd (no none) }
      where
        no : ◌≡◌ {A = List Obstacle} (o ∷ []) [] → ⊥
        no h = cc

    node-is : node ≡ node_after (nodes revisions) r
    node-is = ap (λ (known : List (List ℕ)). node_after known r) is.nodes_are

    not-null : (b : Bool) → (let os : List Obstacle = cond b (collides f.index (length f.log.entries) ∷ []) [] in os) ≡ [] → b ≡ false
    not-null false none = refl
    not-null true none = absurd (no none)
      where
        no : ◌≡◌ {A = List Obstacle} (collides f.index (length f.log.entries) ∷ []) [] → ⊥
        no h = cc

    appended : place_of f.log.entries node ≡ None → nat_lt most_text (length r.text) ≡ false → nat_le most_revisions (length f.log.entries) ≡ false
        → IsTextOf f revisions r (new_text_of f (record { node = (next_entry f.log.entries r).node; became = NewRevision (entry_bytes (next_entry f.log.entries r) (new_header f.log)) (chunk_of r.text) }))
    appended place fits small = record {
      node = here;
      standing = sym e;
      growth = λ none. ap (λ b. cond b None (growth_by f r None)) (not-null (same null_node node) none) ∙ ap (growth_by f r) (sym e);
      fresh = λ none. subst (λ (o : Option ℕ). AreNewRevisions revisions (with_revision_at o revisions r)) (sym e)
          (fresh-push t f revisions r is fits (ap (λ n. among n (nodes revisions)) (sym node-is) ∙ ap (among node) (sym is.nodes_are) ∙ not_among f.log.entries node place) (ap (same null_node) (sym node-is) ∙ not-null (same null_node node) none));
      few = λ none. subst (λ (o : Option ℕ). length (with_revision_at o revisions r) ≤ most_revisions) (sym e) (omega (arith, length-append revisions (r ∷ []), entries-count, below (length f.log.entries) small));
    }

    limited : place_of f.log.entries node ≡ None → (a b c : Bool) → nat_le most_revisions (length f.log.entries) ≡ a → nat_lt most_text (length r.text) ≡ b → Becomes (finished (cond a (Err (faults.Limit limits.Changesets)) (cond b (Err (faults.Limit limits.Text)) (cond c (Err (faults.Limit limits.Data)) (Ok (New (entry_bytes (next_entry f.log.entries r) (new_header f.log)) (chunk_of r.text) (next_entry f.log.entries r).node))))))
    limited g true b c small fits = ((record { node = node; standing = None; growth = None }, passes limits.Changesets ∷ []), refl, hindered (passes limits.Changesets))
    limited g false true c small fits = ((record { node = node; standing = None; growth = None }, passes limits.Text ∷ []), refl, hindered (passes limits.Text))
    limited g false false true small fits = ((record { node = node; standing = None; growth = None }, passes limits.Data ∷ []), refl, hindered (passes limits.Data))
    limited g false false false small fits = (new_text_of f (record { node = (next_entry f.log.entries r).node; became = NewRevision (entry_bytes (next_entry f.log.entries r) (new_header f.log)) (chunk_of r.text) }), refl, appended g fits small)

    at-place : (place : Option ℕ) → place_of f.log.entries node ≡ place → Becomes (answer place)
    at-place None g = limited g (nat_le most_revisions (length f.log.entries)) (nat_lt most_text (length r.text)) (nat_lt most_data (stored_sum f.log.entries + length (chunk_of r.text))) refl refl
    at-place (Some rev) g =
        let low : rev < length revisions = omega (arith, (position-Some (λ (x : Entry). same x.node.0 node) f.log.entries rev (next_entry f.log.entries r) g).0, length-map f.log.entries (λ (x : Entry). x.node.0), ap length is.nodes_are, length-nodes revisions) in
        let s = got revisions rev low in
        let other = ap (is_as r.text r.parents) (sym (get_or_from_slice_get revisions rev s.0 r s.1)) ∙ position-none (is_as r.text r.parents) revisions rev r e low in (
          (record { node = node; standing = None; growth = None }, collides f.index rev ∷ []),
          ap finished (found-at rev s.0 (pair-of t f revisions rev s.0 is low s.1) ∙ ap (λ b. cond b (Ok (Old rev)) (Err (faults.Collision rev))) other),
          hindered (collides f.index rev),
        )

    when-new : Becomes (new_text_in f r t)
    when-new = at-place (place_of f.log.entries node) refl

  becomes : (o : Option ℕ) → standing_in revisions r.text r.parents ≡ o → Becomes (new_text_in f r t)
  becomes None e = when-new e
  becomes (Some rev) e = when-standing rev e

pub text-of : (t : Tree) (f : OfLog) (revisions : List Revision) (r : Revision) → IsLogOf t f revisions → (x : OfText × List Obstacle) × (new_text_in f r t ≡ Ok x) × IsTextOf f revisions r x
text-of t f revisions r is = becomes t f revisions r is (standing_in revisions r.text r.parents) refl

-- ---- where nothing keeps it from being written

sum-one : (f : Revision → ℕ) (revisions : List Revision) (r : Revision) → revisions ≡ r ∷ [] → sum_by f revisions ≡ f r
sum-one f revisions r e = ap (sum_by f) e ∙ omega arith

module _ (t : Tree) (f : OfLog) (revisions : List Revision) (r : Revision) (is : IsLogOf t f revisions) (inline : Bool) (whole : length (chunk_bytes inline (bytes_at t f.index) (bytes_at t f.chunks)) ≡ stored_sum f.log.entries) where
  abbrev new-node : List ℕ
  new-node = (next_entry f.log.entries r).node.0

  -- where the revision is new
  new-free : HasRoomFor inline t f.index f.chunks revisions (revisions ++ r ∷ []) → (x : OfText × List Obstacle) → new_text_in f r t ≡ Ok x → x.1 ≡ []
  new-free room x given = ap (λ (z : OfText × List Obstacle). z.1) (sym (ok-text made x (sym plain ∙ given))) ∙ ap (λ b. let os : List Obstacle = cond b (collides f.index (length f.log.entries) ∷ []) [] in os) not-null
    where
      ok-text : (a b : OfText × List Obstacle) → (let y : Result (OfText × List Obstacle) ReadAnswer = Ok a in y) ≡ Ok b → a ≡ b
      ok-text a b h = cc

      node-after : (next_entry f.log.entries r).node.0 ≡ node_after (nodes revisions) r
      node-after = ap (λ (known : List (List ℕ)). node_after known r) is.nodes_are

      with-it : nodes (revisions ++ r ∷ []) ≡ nodes revisions ++ node_after (nodes revisions) r ∷ []
      with-it = nodes_from-append [] revisions (r ∷ [])

      no-place : place_of f.log.entries (next_entry f.log.entries r).node.0 ≡ None
      no-place = among_none f.log.entries (next_entry f.log.entries r).node.0
          (ap (among (next_entry f.log.entries r).node.0) is.nodes_are ∙ ap (λ n. among n (nodes revisions)) node-after ∙ different-within (node_after (nodes revisions) r) (nodes revisions) [] (ap all_different (sym with-it) ∙ room.new.different))

      not-null : same null_node (next_entry f.log.entries r).node.0 ≡ false
      not-null = ap (same null_node) node-after ∙ apart-within null_node (node_after (nodes revisions) r) (nodes revisions) [] (ap (among null_node) (sym with-it) ∙ room.new.not_null)

      count : length f.log.entries ≡ length revisions
      count = omega (arith, length-map f.log.entries (λ (x : Entry). x.node.0), ap length is.nodes_are, length-nodes revisions)

      few : nat_le most_revisions (length f.log.entries) ≡ false
      few = below (length f.log.entries) (let most = room.few in omega (arith, most, count, length-append revisions (r ∷ [])))
        where
          below : (k : ℕ) → k < most_revisions → nat_le most_revisions k ≡ false
          below k lt = grind (arith, nat_tests)

      within : (most k : ℕ) → k ≤ most → nat_lt most k ≡ false
      within most k le = grind (arith, nat_tests)

      text : nat_lt most_text (length r.text) ≡ false
      text = within most_text (length r.text) (subst (AllByRecursion (λ (x : Revision). length x.text ≤ most_text)) (drop-front revisions (r ∷ [])) room.new.texts).0

      end : nat_lt most_data (stored_sum f.log.entries + length (chunk_of r.text)) ≡ false
      end = within most_data (stored_sum f.log.entries + length (chunk_of r.text)) (let most = room.data_end in let one = sum-one (λ (x : Revision). length (chunk_of x.text)) (drop (length revisions) (revisions ++ r ∷ [])) r (drop-front revisions (r ∷ [])) in omega (arith, most, one, whole))

      made : OfText × List Obstacle
      made = new_text_of f (record { node = (next_entry f.log.entries r).node; became = NewRevision (entry_bytes (next_entry f.log.entries r) (new_header f.log)) (chunk_of r.text) })

      plain : new_text_in f r t ≡ Ok made
      plain =
          ap (answer t f revisions r is) no-place
          ∙ (let a = few in let b = text in let c = end in λ i. finished t f revisions r is (cond (a i) (Err (faults.Limit limits.Changesets)) (cond (b i) (Err (faults.Limit limits.Text)) (cond (c i) (Err (faults.Limit limits.Data)) (Ok (New (entry_bytes (next_entry f.log.entries r) (new_header f.log)) (chunk_of r.text) (next_entry f.log.entries r).node))))))

  pub text-free : HasRoomFor inline t f.index f.chunks revisions (with_revision revisions r) → (x : OfText × List Obstacle) → new_text_in f r t ≡ Ok x → x.1 ≡ []
  unfolding when-standing
  text-free room x given = by (standing_in revisions r.text r.parents) refl
    where
      by : (o : Option ℕ) → standing_in revisions r.text r.parents ≡ o → x.1 ≡ []
      by (Some rev) e = let y = when-standing t f revisions r is rev e in ap (λ (z : OfText × List Obstacle). z.1) (sym (ok-text y.0 x (sym y.1 ∙ given)))
        where
          ok-text : (a b : OfText × List Obstacle) → (let z : Result (OfText × List Obstacle) ReadAnswer = Ok a in z) ≡ Ok b → a ≡ b
          ok-text a b h = cc
      by None e = new-free (subst (λ (o : Option ℕ). HasRoomFor inline t f.index f.chunks revisions (with_revision_at o revisions r)) e room) x given
