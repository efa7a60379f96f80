-- A load whose reads stand at different moments.
use Rattle.std.proofs.Common.{◌≡◌, ℕ, suc, ◌+◌, ◌-◌, ◌*◌, ◌/◌, ◌<◌, ◌≤◌, List, [], ◌++◌, length, take, map, Bool, true, false, cond, ◌&&◌, not, Option, Result, Ok, refl, sym, ◌∙◌, ap, subst, arith, append-nil, length-append, inl, inr}
use Rattle.std.specs.Prelude.{nat_le, unwrap_or}
use Rattle.std.proofs.lemmas.Bool.Decides.{nat_tests}
use Rattle.std.proofs.Math.Nat.{lt-mul-div-succ}
use Rattle.std.proofs.Math.Seq.{take-append-add, take-append_seam}
use Rattle.std.proofs.lemmas.List.{take_all}
use Rattle.hgs_bytes.specs.Bytes.{IsPrefixOf}
use Rattle.hgs_files.specs.declared.op.Op.{Op}
use Rattle.hgs_files.specs.Tree.{bytes_at}
use Rattle.hgs_index.specs.Either.{chunks_either}
use Rattle.hgs_index.specs.Inline.{index_apart, is_inline}
use Rattle.hgs_index.specs.Revlog.{BeginsWithRevisions}
use Rattle.hgs_marks.specs.Bookmarks.{Mark}
use Rattle.hgs_model.specs.History.{history, changeset_nodes}
use Rattle.hgs_model.specs.Phase.{phase_number}
use Rattle.hgs_phases.specs.declared.roots.Root.{Root}
use Rattle.hgs_phases.specs.Phases.{phases_by}
use Rattle.hgs_revlog.specs.declared.fault.Tail.TheVariants.{Ignore, Refuse}
use Rattle.hgs_revlog.specs.Held.{Agrees, AreWithinLimits}
use Rattle.hgs_revlog.specs.Load.{in_form, loaded, loaded_either}
use Rattle.hgs_revlog.specs.Log.{Log}
use Rattle.hgs_load.specs.declared.answer.ReadAnswer.{ReadAnswer}
use Rattle.hgs_load.specs.Asks.{Asks, answer, part_of, then_asks, MayAnswer}
use Rattle.hgs_load.specs.Marks.{Nodes, bookmarks_answer, dirstate_answer, roots_answer, working_answer}
use Rattle.hgs_load.specs.Open.{requires_path, most_requires, most_bookmarks_text, most_dirstate, most_roots, bookmarks_asks, dirstate_asks, log_asks, roots_asks, log_of, view_with, view_of, open_asks}
use Rattle.hgs_load.specs.Requirements.{requires_answer}
use Rattle.hgs_load.specs.Refresh.{behind_asks, behind_last, last_place}
use Rattle.hgs_load.specs.View.{View, log_answer, pieces_from, pieces_then, most_pieces, piece_length}
use Rattle.hgs_load.specs.Form.{either_log_of, in_one_read, is_long_apart, most_inline_index, unless_inline}
use Rattle.hgs_load.specs.Whole.{is_above, within}
use Rattle.hgs_load.specs.Theorems.FormLemmas.{IsApart, first_says, part-form}
use Rattle.hgs_load.specs.Theorems.TailLemmas.{tail-answers}
use Rattle.hgs_stands.specs.Places.{bookmarks_path, dirstate_path, roots_path, changelog_index, changelog_data}
use Rattle.hgs_stands.specs.Stands.{HoldsAt, changeset_entries, mark_of}
use Rattle.hgs_stands.specs.Theorems.FormLemmas.{apart-held, plain-apart}
use Rattle.hgs_shown.specs.Shown.{chunks_of_changelog, index_of_changelog, working_nodes}
use Rattle.hgs_views.specs.Course.{Course, IsBetween, IsCourse, OpensAlong, tree_after}
use Rattle.hgs_views.specs.Moments.{WholeStays}
use Rattle.hgs_views.specs.Seen.{Numbers, IsViewAt, AreReadBetween, AreInOrder, IsLoadedBetween}
use Rattle.hgs_views.proofs.Basics.{may-front, prefix-refl, prefix-trans}
use Rattle.hgs_views.proofs.CourseLemmas.{itself-between}
use Rattle.hgs_views.proofs.FormLemmas.{FirstAt, above-part, chunks-longer, index-longer, plain-front, read-first, said, same-form, short-first, whole-part, within-part}
use Rattle.hgs_views.proofs.MomentLemmas.{between-later, whole-then, pieces-end, pieces-whole}
use Rattle.hgs_views.proofs.Below.{LoadLaws}

-- ---- fronts

pub front-of-longer : (a b c : List ℕ) → IsPrefixOf a c → IsPrefixOf b c → length a ≤ length b → IsPrefixOf a b
front-of-longer a b c p q le =
    let sum : length b ≡ length a + (length b - length a) = omega (arith, le) in
    (take (length b - length a) p.0, sym (take-append_seam b q.0) ∙ ap (take (length b)) (sym q.1 ∙ p.1) ∙ ap (λ n. take n (a ++ p.0)) sum ∙ take-append-add a p.0 (length b - length a))

few-bytes : (n : ℕ) → n / 64 ≤ 1000000 → n < most_pieces * piece_length
few-bytes n h = let e : n < 64 * (n / 64 + 1) = lt-mul-div-succ n (omega arith) in omega (arith, e, h)

-- ---- the index of a repository's files

-- the index of this number's files loads as these entries, in its form where there are any
pub record LoadsAt (x : Course) (c : ℕ) (log : Log) : Type 0 where
  pub loads : in_form log.inline (loaded Ignore (index_of_changelog (x.store c))) ≡ Ok log
  pub form : 0 < length log.entries → log.inline ≡ is_inline (bytes_at (x.store c) changelog_index)
  pub entries : Agrees (index_of_changelog (x.store c)) (chunks_of_changelog (x.store c)) log.entries (history (x.repo c).changesets).changelog

module _ (x : Course) (first last : List Op) (is : IsCourse x first last) where
  pub below : (log : List Op) → IsBetween first last log → x.published log ≤ x.published last
  below log at = (is.rises log last at (record { begins = at.ends; ends = prefix-refl last })).published

  held-of : (log : List Op) (c : ℕ) → IsBetween first last log → c ≤ x.published log → HoldsAt (x.store c) changelog_index changelog_data (history (x.repo c).changesets).changelog
  held-of log c at top = let b = below log at in (is.holds c (omega (arith, top, b))).changelog

  -- what the files of a number have stands, taken apart, in front of what a later tree has
  pub index-stays : (log : List Op) (c : ℕ) → IsBetween first last log → c ≤ x.published log → IsPrefixOf (index_of_changelog (x.store c)) (index_of_changelog (tree_after x log))
  index-stays log c at top =
      let kept = (is.stays log c at top).changelog in
      subst (λ i. IsPrefixOf (index_of_changelog (x.store c)) (index_apart i)) (sym kept.1)
      (index-longer (bytes_at (x.store c) changelog_index) (bytes_at (x.store c) changelog_data) kept.0 (history (x.repo c).changesets).changelog (held-of log c at top))

  pub chunks-stay : (log : List Op) (c : ℕ) → IsBetween first last log → c ≤ x.published log → IsPrefixOf (chunks_of_changelog (x.store c)) (chunks_of_changelog (tree_after x log))
  chunks-stay log c at top =
      let kept = is.stays log c at top in
      subst (λ i. IsPrefixOf (chunks_of_changelog (x.store c)) (chunks_either i (bytes_at (tree_after x log) changelog_data))) (sym kept.changelog.1)
      (chunks-longer (bytes_at (x.store c) changelog_index) (bytes_at (x.store c) changelog_data) kept.changelog.0 (bytes_at (tree_after x log) changelog_data) (history (x.repo c).changesets).changelog (held-of log c at top) kept.changelog_chunks)

  -- what has a changeset keeps its form
  pub form-at : (log : List Op) (c : ℕ) → IsBetween first last log → c ≤ x.published log → 0 < length (history (x.repo c).changesets).changelog → is_inline (bytes_at (tree_after x log) changelog_index) ≡ is_inline (bytes_at (x.store c) changelog_index)
  form-at log c at top some =
      let kept = (is.stays log c at top).changelog in
      ap is_inline kept.1 ∙ same-form (is_inline (bytes_at (x.store c) changelog_index)) (bytes_at (x.store c) changelog_index) (bytes_at (x.store c) changelog_data) kept.0 (history (x.repo c).changesets).changelog some (held-of log c at top)

  -- a separate index goes on from a separate one
  pub store-plain : (log : List Op) (c : ℕ) → IsBetween first last log → c ≤ x.published log → is_inline (bytes_at (tree_after x log) changelog_index) ≡ false → is_inline (bytes_at (x.store c) changelog_index) ≡ false
  store-plain log c at top e =
      let kept = (is.stays log c at top).changelog in
      plain-front (bytes_at (x.store c) changelog_index) (bytes_at (x.store c) changelog_data) kept.0 (history (x.repo c).changesets).changelog (held-of log c at top) (sym (ap is_inline kept.1) ∙ e)

  -- from this list on the index says that it is separate
  abbrev pub IsPlain : List Op → Type 0
  IsPlain from = (now : List Op) → IsBetween from last now → is_inline (bytes_at (tree_after x now) changelog_index) ≡ false

  pub plain-from : (from : List Op) (c : ℕ) → IsBetween first last from → c ≤ x.published from → 0 < length (history (x.repo c).changesets).changelog → is_inline (bytes_at (x.store c) changelog_index) ≡ false → IsPlain from
  plain-from from c at top some plain now there =
      let up = (is.rises from now at there).published in
      form-at now c (between-later first last from now at there) (omega (arith, up, top)) some ∙ plain

  pub is-apart : {A : Type 0} (from : List Op) → IsPlain from → (f : List ℕ → Asks A) → IsApart x.start from last (pieces_then changelog_index most_pieces [] f)
  is-apart from plain f = λ now begun ends. part-form (tree_after x now) changelog_index piece_length (omega arith) ∙ plain now (record { begins = begun; ends = ends })

module _ (law : LoadLaws) (x : Course) (first last : List Op) (is : IsCourse x first last) where
  -- there is a revision for each whole entry that stands
  count-at : (log : List Op) → IsBetween first last log → length (history (x.repo (x.published log)).changesets).changelog ≡ length (index_of_changelog (tree_after x log)) / 64
  count-at log at = law.count (x.repo (x.published log)) (is.repository (x.published log) (below x first last is log at)) ∙ (is.shows log at).revlogs.whole

  -- and an entry of the files of the list's own number
  entries-whole : (log : List Op) → IsBetween first last log → length (index_of_changelog (x.store (x.published log))) ≡ 64 * (length (index_of_changelog (tree_after x log)) / 64)
  entries-whole log at =
      let c = x.published log in
      let held = apart-held (bytes_at (x.store c) changelog_index) (bytes_at (x.store c) changelog_data) (history (x.repo c).changesets).changelog (held-of x first last is log c at (omega arith)) in
      law.size (index_of_changelog (x.store c)) (chunks_of_changelog (x.store c)) (history (x.repo c).changesets).changelog held ∙ ap (λ n. 64 * n) (count-at log at)

  pub whole-stays : (from : List Op) → IsBetween first last from → IsPlain x first last is from → WholeStays x.start changelog_index from last
  whole-stays from from_at plain log more front k at later size f =
      let log_at = between-later first last from log from_at at in
      let c = x.published log in
      let store = bytes_at (x.store c) changelog_index in
      let index = bytes_at (tree_after x log) changelog_index in
      let kept = (is.stays log c log_at (omega arith)).changelog in
      let store_is : length (index_of_changelog (x.store c)) ≡ length store = ap length (plain-apart store (store-plain x first last is log c log_at (omega arith) (plain log at))) in
      let index_is : length (index_of_changelog (tree_after x log)) ≡ length index = ap length (plain-apart index (plain log at)) in
      let all = entries-whole log log_at in
      let len = ap length f.1 in
      let both = length-append front f.0 in
      let short : length front ≤ length store = no-longer (length front) (length store) (length index) (length (index_of_changelog (x.store c))) (length (index_of_changelog (tree_after x log))) (length f.0) k size (len ∙ both) all store_is index_is in
      prefix-trans front store (bytes_at (tree_after x more) changelog_index) (front-of-longer front store index f kept short)
      (is.stays more c (between-later first last log more log_at later) (is.rises log more log_at later).published).changelog
    where
      no-longer : (f s i a b r k : ℕ) → f ≡ 64 * k → i ≡ f + r → a ≡ 64 * (b / 64) → a ≡ s → b ≡ i → f ≤ s
      no-longer f s i a b r k e1 e2 e3 e4 e5 = omega (arith, e1, e2, e3, e4, e5)

  -- what the index loads as
  pub loads-as : (log : List Op) → IsBetween first last log → loaded Ignore (index_of_changelog (tree_after x log)) ≡ loaded Ignore (index_of_changelog (x.store (x.published log)))
  loads-as log at =
      let store = index_of_changelog (x.store (x.published log)) in
      let index = index_of_changelog (tree_after x log) in
      let kept = index-stays x first last is log (x.published log) at (omega arith) in
      let all = entries-whole log at in
      let front : take (64 * (length index / 64)) index ≡ store = ap (λ n. take n index) (sym all) ∙ ap (take (length store)) kept.1 ∙ take-append_seam store kept.0 in
      let whole : take (64 * (length store / 64)) store ≡ store = take_all (64 * (length store / 64)) store (omega (arith, all)) in
      law.whole index ∙ ap (loaded Refuse) (front ∙ sym whole) ∙ sym (law.whole store)

  module _ (opens : OpensAlong x first last) where
    pub room : (log : List Op) → IsBetween first last log → is_inline (bytes_at (tree_after x log) changelog_index) ≡ false → length (bytes_at (tree_after x log) changelog_index) < most_pieces * piece_length
    room log at plain =
        let index = bytes_at (tree_after x log) changelog_index in
        let index_is : length (index_of_changelog (tree_after x log)) ≡ length index = ap length (plain-apart index plain) in
        let few = (opens log at).changelog.few in
        few-bytes (length index) (few_entries (length index) (length (index_of_changelog (tree_after x log))) (length (history (x.repo (x.published log)).changesets).changelog) index_is (count-at log at) few)
      where
        few_entries : (i b n : ℕ) → b ≡ i → n ≡ b / 64 → n ≤ 1000000 → i / 64 ≤ 1000000
        few_entries i b n e c f = omega (arith, e, c, f)

    -- what the index of a list on the way loads as
    pub record FoundAt (log : List Op) : Type 0 where
      pub history_is : Log
      pub is_at : LoadsAt x (x.published log) history_is
      pub loads : loaded_either Ignore (bytes_at (tree_after x log) changelog_index) ≡ Ok history_is

    pub found-at : (log : List Op) → IsBetween first last log → FoundAt log
    found-at log at =
        let c = x.published log in
        let store = index_of_changelog (x.store c) in
        let chunks = chunks_of_changelog (x.store c) in
        let revisions = (history (x.repo c).changesets).changelog in
        let inline = is_inline (bytes_at (tree_after x log) changelog_index) in
        let held = apart-held (bytes_at (x.store c) changelog_index) (bytes_at (x.store c) changelog_data) revisions (held-of x first last is log c at (omega arith)) in
        let size = law.size store chunks revisions held in
        let within = (opens log at).changelog in
        let kept = chunks-stay x first last is log c at (omega arith) in
        let longer = ap length kept.1 in
        let both = length-append chunks kept.0 in
        let limits : AreWithinLimits revisions chunks = record { few = within.few; texts = within.texts; data_end = (let room = within.data_end in omega (arith, room, longer, both)) } in
        let begins : BeginsWithRevisions store chunks revisions = record { index_front = store; data_front = chunks; held = held; index_begins = ([], sym (append-nil store)); data_begins = ([], sym (append-nil chunks)) } in
        let h = law.loads store chunks revisions begins (omega (arith, size)) limits in
        record {
          history_is = record { inline = inline; entries = h.0.entries };
          is_at = record {
            loads = ap (in_form inline) h.1;
            form = λ some. form-at x first last is log c at (omega arith) (let n = law.entries store chunks h.0.entries revisions h.3 in omega (arith, some, n));
            entries = h.3;
          };
          loads = ap (in_form inline) (loads-as log at ∙ h.1);
        }

    -- a separate one by itself
    pub plain-loads : (log : List Op) (at : IsBetween first last log) → is_inline (bytes_at (tree_after x log) changelog_index) ≡ false → loaded Ignore (bytes_at (tree_after x log) changelog_index) ≡ Ok (found-at log at).history_is
    plain-loads log at plain = sym (law.separate Ignore (bytes_at (tree_after x log) changelog_index) plain) ∙ (found-at log at).loads

    -- ---- the reads

    -- what was read between these lists, of these numbers
    pub record HasRead (from : List Op) (v : Numbers) (marks : List Mark) (nodes : Nodes) (log : Log) (roots : List Root) : Type 0 where
      pub reads : AreReadBetween x from last v
      pub marks_are : marks ≡ map (mark_of (changeset_nodes (x.repo v.marked).changesets)) (x.repo v.marked).bookmarks
      pub nodes_are : nodes ≡ working_nodes (x.repo v.worked)
      pub log_is : LoadsAt x v.read log
      pub roots_give : map phase_number (phases_by roots (changeset_entries (x.repo v.rooted).changesets)) ≡ (x.repo v.rooted).phases

    -- what is asked behind `requires`, with this question for the history
    abbrev pub asked : Asks (Result Log ReadAnswer) → (List Mark → Nodes → Log → List Root → Result View ReadAnswer) → Asks (Result View ReadAnswer)
    asked newer finish = then_asks bookmarks_asks (λ marks. then_asks dirstate_asks (λ nodes. then_asks newer (λ log. then_asks roots_asks (λ roots. answer (finish marks nodes log roots)))))

    -- the reads and their answer
    pub record Answered (finish : List Mark → Nodes → Log → List Root → Result View ReadAnswer) (from : List Op) (y : Result View ReadAnswer) : Type 0 where
      pub v : Numbers
      pub marks : List Mark
      pub nodes : Nodes
      pub log : Log
      pub roots : List Root
      pub has : HasRead from v marks nodes log roots
      pub answer_is : y ≡ finish marks nodes log roots

    marks-step : (more : List Mark → Asks (Result View ReadAnswer)) (from : List Op) (y : Result View ReadAnswer) → IsBetween first last from → MayAnswer x.start from (then_asks bookmarks_asks more) last y
        → (log : List Op) × IsBetween from last log × (marks : List Mark) × (marks ≡ map (mark_of (changeset_nodes (x.repo (x.marked log)).changesets)) (x.repo (x.marked log)).bookmarks) × MayAnswer x.start log (more marks) last y
    marks-step more from y at m =
        let a = whole-then x.start bookmarks_path most_bookmarks_text bookmarks_answer more from last y m in
        let now = between-later first last from a.0 at a.1 in
        let marks = map (mark_of (changeset_nodes (x.repo (x.marked a.0)).changesets)) (x.repo (x.marked a.0)).bookmarks in
        (a.0, a.1, marks, refl, a.2 marks (law.bookmarks (tree_after x a.0) (x.repo (x.marked a.0)) (x.repo (x.worked a.0)) (x.repo (x.published a.0)) (is.shows a.0 now) (opens a.0 now)))

    nodes-step : (more : Nodes → Asks (Result View ReadAnswer)) (from : List Op) (y : Result View ReadAnswer) → IsBetween first last from → MayAnswer x.start from (then_asks dirstate_asks more) last y
        → (log : List Op) × IsBetween from last log × (nodes : Nodes) × (nodes ≡ working_nodes (x.repo (x.worked log))) × MayAnswer x.start log (more nodes) last y
    nodes-step more from y at m =
        let a = whole-then x.start dirstate_path most_dirstate dirstate_answer more from last y m in
        let now = between-later first last from a.0 at a.1 in
        let nodes = working_nodes (x.repo (x.worked a.0)) in
        (a.0, a.1, nodes, refl, a.2 nodes (law.dirstate (tree_after x a.0) (x.repo (x.marked a.0)) (x.repo (x.worked a.0)) (x.repo (x.published a.0)) (is.shows a.0 now) (opens a.0 now)))

    -- what is answered to a question for the history is that of some list
    abbrev pub StepTo : (Log → Asks (Result View ReadAnswer)) → List Op → Result View ReadAnswer → Type 0
    StepTo more from y = (log : List Op) × IsBetween from last log × (found : Log) × LoadsAt x (x.published log) found × MayAnswer x.start log (more found) last y

    abbrev pub LogStep : Asks (Result Log ReadAnswer) → Type 0
    LogStep newer = (more : Log → Asks (Result View ReadAnswer)) (from : List Op) (y : Result View ReadAnswer) → IsBetween first last from → MayAnswer x.start from (then_asks newer more) last y → StepTo more from y

    step-later : (more : Log → Asks (Result View ReadAnswer)) (from now : List Op) (y : Result View ReadAnswer) → IsBetween from last now → StepTo more now y → StepTo more from y
    step-later more from now y there s = (s.0, between-later from last now s.0 there s.1, s.2, s.3, s.4)

    -- the history that one list has
    found-step : (more : Log → Asks (Result View ReadAnswer)) (log : List Op) (y : Result View ReadAnswer) (r : Result Log ReadAnswer) (at : IsBetween first last log) → r ≡ Ok (found-at log at).history_is → MayAnswer x.start log (then_asks (answer r) more) last y → StepTo more log y
    found-step more log y r at e m =
        let found = found-at log at in
        (log, itself-between log last at.ends, found.history_is, found.is_at, subst (λ q. MayAnswer x.start log (then_asks (answer q) more) last y) e m)

    -- So it is where the history that was read passes a test, which that of each list does.
    module _ (test : Result Log ReadAnswer → Result Log ReadAnswer) (passes : (log : List Op) (found : Log) → IsBetween first last log → LoadsAt x (x.published log) found → test (Ok found) ≡ Ok found) where
      abbrev in_pieces : Asks (Result Log ReadAnswer)
      in_pieces = pieces_then changelog_index most_pieces [] (λ index. answer (test (log_of index)))

      abbrev at_once : Asks (Result Log ReadAnswer)
      at_once = in_one_read in_pieces (λ index. test (either_log_of index))

      passed : (log : List Op) (at : IsBetween first last log) → test (Ok (found-at log at).history_is) ≡ Ok (found-at log at).history_is
      passed log at = passes log (found-at log at).history_is at (found-at log at).is_at

      plain-passed : (log : List Op) (at : IsBetween first last log) → is_inline (bytes_at (tree_after x log) changelog_index) ≡ false → test (log_of (bytes_at (tree_after x log) changelog_index)) ≡ Ok (found-at log at).history_is
      plain-passed log at plain = ap (λ r. test (log_answer changelog_index r)) (plain-loads log at plain) ∙ passed log at

      -- of a separate index, in pieces
      pub pieces-step : (more : Log → Asks (Result View ReadAnswer)) (from : List Op) (y : Result View ReadAnswer) → IsBetween first last from → IsPlain x first last is from → MayAnswer x.start from (then_asks in_pieces more) last y → StepTo more from y
      pieces-step more from y at plain m =
          let fits = λ (log : List Op) (there : IsBetween from last log). room log (between-later first last from log at there) (plain log there) in
          let a = pieces-whole x.start changelog_index from last y (λ index. answer (test (log_of index))) more (whole-stays from at plain) fits from (itself-between from last at.ends) m in
          let now = between-later first last from a.0 at a.1 in
          step-later more from a.0 y a.1 (found-step more a.0 y (test (log_of (bytes_at (tree_after x a.0) changelog_index))) now (plain-passed a.0 now (plain a.0 a.1)) a.2)

      -- from a list on at which a separate index has an entry
      plain-step : (more : Log → Asks (Result View ReadAnswer)) (from : List Op) (y : Result View ReadAnswer) → IsBetween first last from → is_inline (bytes_at (tree_after x from) changelog_index) ≡ false → 64 ≤ length (bytes_at (tree_after x from) changelog_index)
          → MayAnswer x.start from (then_asks in_pieces more) last y → StepTo more from y
      plain-step more from y at plain long m =
          let c = x.published from in
          let index = bytes_at (tree_after x from) changelog_index in
          let index_is : length (index_of_changelog (tree_after x from)) ≡ length index = ap length (plain-apart index plain) in
          let count = count-at from at in
          pieces-step more from y at (plain-from x first last is from c at (omega arith) (omega (arith, count, index_is, long)) (store-plain x first last is from c at (omega arith) plain)) m

      -- of an index in either form, in one read
      pub once-step : LogStep at_once
      once-step more from y at m =
          let part = part_of (tree_after x m.0) changelog_index 0 (suc most_inline_index) in
          let here : IsBetween from last m.0 = record { begins = m.1; ends = may-front (then_asks (cond (is_long_apart part) in_pieces (answer (within most_inline_index (λ whole. test (either_log_of (unwrap_or whole []))) part))) more) x.start m.0 last y m.2 } in
          let now = between-later first last from m.0 at here in
          step-later more from m.0 y here (by m.0 now (is_above most_inline_index part) refl (is_inline (unwrap_or part [])) refl m.2)
        where
          part-at : List Op → Option (List ℕ)
          part-at log = part_of (tree_after x log) changelog_index 0 (suc most_inline_index)

          given : Option (List ℕ) → Result Log ReadAnswer
          given whole = test (either_log_of (unwrap_or whole []))

          form-of : (log : List Op) → is_inline (unwrap_or (part-at log) []) ≡ is_inline (bytes_at (tree_after x log) changelog_index)
          form-of log = part-form (tree_after x log) changelog_index (suc most_inline_index) (omega arith)

          by : (log : List Op) (now : IsBetween first last log) (above : Bool) → is_above most_inline_index (part-at log) ≡ above → (inline : Bool) → is_inline (unwrap_or (part-at log) []) ≡ inline
              → MayAnswer x.start log (then_asks (cond (is_above most_inline_index (part-at log) && not (is_inline (unwrap_or (part-at log) []))) in_pieces (answer (within most_inline_index given (part-at log)))) more) last y → StepTo more log y
          by log now true a true i m =
              let long = above-part (tree_after x log) changelog_index most_inline_index a in
              let short = (opens log now).inline_index (sym (form-of log) ∙ i) in
              absurd (omega (arith, long, short))
          by log now true a false i m =
              let long = above-part (tree_after x log) changelog_index most_inline_index a in
              plain-step more log y now (sym (form-of log) ∙ i) (omega (arith, long))
              (subst (λ b. MayAnswer x.start log (then_asks (cond b in_pieces (answer (within most_inline_index given (part-at log)))) more) last y) (λ k. a k && not (i k)) m)
          by log now false a inline i m =
              let index = bytes_at (tree_after x log) changelog_index in
              let whole : within most_inline_index given (part-at log) ≡ test (either_log_of index) = within-part most_inline_index given (part-at log) a ∙ ap (λ l. test (either_log_of l)) (whole-part (tree_after x log) changelog_index most_inline_index a) in
              let loads = ap (λ r. test (log_answer changelog_index r)) (found-at log now).loads ∙ passed log now in
              found-step more log y (within most_inline_index given (part-at log)) now (whole ∙ loads)
              (subst (λ b. MayAnswer x.start log (then_asks (cond (b && not (is_inline (unwrap_or (part-at log) []))) in_pieces (answer (within most_inline_index given (part-at log)))) more) last y) a m)

      -- of an index whose first piece says the form
      pub said-step : LogStep (unless_inline at_once in_pieces)
      said-step more from y at m =
          let s = said x.start from last at_once in_pieces more y m in
          let now = between-later first last from s.0 at s.1 in
          step-later more from s.0 y s.1 (elim s.2 [
            | inl inline ↦ once-step more s.0 y now inline.1
            | inr plain ↦ separate s.0 now (sym (form-of s.0) ∙ plain.0) plain.1
          ])
        where
          form-of : (log : List Op) → first_says (tree_after x log) in_pieces ≡ is_inline (bytes_at (tree_after x log) changelog_index)
          form-of log = part-form (tree_after x log) changelog_index piece_length (omega arith)

          separate : (log : List Op) → IsBetween first last log → is_inline (bytes_at (tree_after x log) changelog_index) ≡ false → FirstAt x.start log in_pieces more last y → StepTo more log y
          separate log now plain m = by (nat_le 64 (length (bytes_at (tree_after x log) changelog_index))) refl
            where
              index : List ℕ
              index = bytes_at (tree_after x log) changelog_index

              at_least : (n : ℕ) → nat_le 64 n ≡ true → 64 ≤ n
              at_least n h = grind (arith, nat_tests, h)

              below_it : (n : ℕ) → nat_le 64 n ≡ false → n < 64
              below_it n h = grind (arith, nat_tests, h)

              less : (n : ℕ) → nat_le 64 n ≡ false → n < 65536
              less n h = let b = below_it n h in omega (arith, b)

              by : (b : Bool) → nat_le 64 (length index) ≡ b → StepTo more log y
              by true e = plain-step more log y now plain (at_least (length index) e) (read-first x.start log in_pieces more last y m)
              by false e =
                  found-step more log y (test (log_of index)) now (plain-passed log now plain)
                  (short-first x.start log changelog_index 976 (λ index. answer (test (log_of index))) more last y (less (length index) e) m)

    -- and so it is of the index from the last of some entries on, where each list on the way begins with them
    pub last-step : (old : Log) (front : List ℕ) → old.inline ≡ false → IsPlain x first last is first → 0 < length old.entries → length front ≡ last_place old.entries → IsPrefixOf front (bytes_at (tree_after x first) changelog_index)
        → ((log : List Op) (found : Log) → IsBetween first last log → LoadsAt x (x.published log) found → IsPrefixOf old.entries found.entries)
        → LogStep (pieces_from changelog_index (last_place old.entries) most_pieces [] (λ tail. behind_asks old (behind_last old.entries tail)))
    last-step old front separate plain some size stands begins more from y at m =
        let first_at = itself-between first last (prefix-trans first from last at.begins at.ends) in
        let stays = whole-stays first first_at plain in
        let kept = stays first from front (length old.entries - 1) first_at at size stands in
        let a = pieces-end x.start changelog_index first last y (λ tail. behind_asks old (behind_last old.entries tail)) more stays (λ log there. room log there (plain log there)) front (length old.entries - 1) size (λ bytes. last_place old.entries + length bytes) (λ b. ap (λ n. n + length b) (sym size))
        most_pieces 0 [] from at refl refl (subst (λ l. IsPrefixOf l (bytes_at (tree_after x from) changelog_index)) (sym (append-nil front)) kept) m in
        let now = between-later first last from a.0 at a.1 in
        let found = found-at a.0 now in
        let loads : loaded Ignore (front ++ a.2) ≡ Ok found.history_is = ap (loaded Ignore) (sym a.3) ∙ plain-loads a.0 now (plain a.0 now) in
        (a.0, a.1, found.history_is, found.is_at, subst (λ q. MayAnswer x.start a.0 (then_asks q more) last y) (tail-answers front a.2 old found.history_is separate some size loads (begins a.0 found.history_is now found.is_at)) a.4)

    log-step : LogStep log_asks
    log-step = said-step (λ r. r) (λ log found at is_at. refl)

    roots-step : (more : List Root → Asks (Result View ReadAnswer)) (from : List Op) (y : Result View ReadAnswer) → IsBetween first last from → MayAnswer x.start from (then_asks roots_asks more) last y
        → (log : List Op) × IsBetween from last log × (roots : List Root) × (map phase_number (phases_by roots (changeset_entries (x.repo (x.published log)).changesets)) ≡ (x.repo (x.published log)).phases) × MayAnswer x.start log (more roots) last y
    roots-step more from y at m =
        let a = whole-then x.start roots_path most_roots roots_answer more from last y m in
        let now = between-later first last from a.0 at a.1 in
        let shows = is.shows a.0 now in
        (a.0, a.1, shows.phases.roots, shows.phases.phases, a.2 shows.phases.roots (law.roots (tree_after x a.0) (x.repo (x.marked a.0)) (x.repo (x.worked a.0)) (x.repo (x.published a.0)) shows (opens a.0 now)))

    assembled : (finish : List Mark → Nodes → Log → List Root → Result View ReadAnswer) (from a b c d : List Op) (y : Result View ReadAnswer) (marks : List Mark) (nodes : Nodes) (log : Log) (roots : List Root)
        → IsBetween from last a → IsBetween a last b → IsBetween b last c → IsBetween c last d
        → marks ≡ map (mark_of (changeset_nodes (x.repo (x.marked a)).changesets)) (x.repo (x.marked a)).bookmarks → nodes ≡ working_nodes (x.repo (x.worked b)) → LoadsAt x (x.published c) log
        → map phase_number (phases_by roots (changeset_entries (x.repo (x.published d)).changesets)) ≡ (x.repo (x.published d)).phases → y ≡ finish marks nodes log roots → Answered finish from y
    assembled finish from a b c d y marks nodes log roots fa ab bc cd marks_are nodes_are log_is roots_give answer_is = record {
      v = record { marked = x.marked a; worked = x.worked b; read = x.published c; rooted = x.published d };
      marks = marks;
      nodes = nodes;
      log = log;
      roots = roots;
      has = record {
        reads = record {
          bookmarks = a;
          dirstate = b;
          changelog = c;
          roots = d;
          from_first = fa.begins;
          then_dirstate = ab.begins;
          then_changelog = bc.begins;
          then_roots = cd.begins;
          to_last = cd.ends;
          marked = refl;
          worked = refl;
          read = refl;
          rooted = refl;
        };
        marks_are = marks_are;
        nodes_are = nodes_are;
        log_is = log_is;
        roots_give = roots_give;
      };
      answer_is = answer_is;
    }

    pub answered : (newer : Asks (Result Log ReadAnswer)) → LogStep newer → (finish : List Mark → Nodes → Log → List Root → Result View ReadAnswer) (from : List Op) (y : Result View ReadAnswer) → IsBetween first last from → MayAnswer x.start from (asked newer finish) last y → Answered finish from y
    answered newer step finish from y at m = one (marks-step (λ marks. then_asks dirstate_asks (λ nodes. then_asks newer (λ log. then_asks roots_asks (λ roots. answer (finish marks nodes log roots))))) from y at m)
      where
        four : (a b c : List Op) (marks : List Mark) (nodes : Nodes) (log : Log) → IsBetween from last a → IsBetween a last b → IsBetween b last c → IsBetween first last c
            → marks ≡ map (mark_of (changeset_nodes (x.repo (x.marked a)).changesets)) (x.repo (x.marked a)).bookmarks → nodes ≡ working_nodes (x.repo (x.worked b)) → LoadsAt x (x.published c) log
            → MayAnswer x.start c (then_asks roots_asks (λ roots. answer (finish marks nodes log roots))) last y → Answered finish from y
        four a b c marks nodes log fa ab bc c_at marks_are nodes_are log_is m =
            let r = roots-step (λ roots. answer (finish marks nodes log roots)) c y c_at m in
            assembled finish from a b c r.0 y marks nodes log r.2 fa ab bc r.1 marks_are nodes_are log_is r.3 r.4.1

        three : (a b : List Op) (marks : List Mark) (nodes : Nodes) → IsBetween from last a → IsBetween a last b → IsBetween first last b
            → marks ≡ map (mark_of (changeset_nodes (x.repo (x.marked a)).changesets)) (x.repo (x.marked a)).bookmarks → nodes ≡ working_nodes (x.repo (x.worked b))
            → MayAnswer x.start b (then_asks newer (λ log. then_asks roots_asks (λ roots. answer (finish marks nodes log roots)))) last y → Answered finish from y
        three a b marks nodes fa ab b_at marks_are nodes_are m =
            let r = step (λ log. then_asks roots_asks (λ roots. answer (finish marks nodes log roots))) b y b_at m in
            four a b r.0 marks nodes r.2 fa ab r.1 (between-later first last b r.0 b_at r.1) marks_are nodes_are r.3 r.4

        two : (a : List Op) (marks : List Mark) → IsBetween from last a → IsBetween first last a → marks ≡ map (mark_of (changeset_nodes (x.repo (x.marked a)).changesets)) (x.repo (x.marked a)).bookmarks
            → MayAnswer x.start a (then_asks dirstate_asks (λ nodes. then_asks newer (λ log. then_asks roots_asks (λ roots. answer (finish marks nodes log roots))))) last y → Answered finish from y
        two a marks fa a_at marks_are m =
            let r = nodes-step (λ nodes. then_asks newer (λ log. then_asks roots_asks (λ roots. answer (finish marks nodes log roots)))) a y a_at m in
            three a r.0 marks r.2 fa r.1 (between-later first last a r.0 a_at r.1) marks_are r.3 r.4

        one : ((a : List Op) × IsBetween from last a × (marks : List Mark) × (marks ≡ map (mark_of (changeset_nodes (x.repo (x.marked a)).changesets)) (x.repo (x.marked a)).bookmarks)
            × MayAnswer x.start a (then_asks dirstate_asks (λ nodes. then_asks newer (λ log. then_asks roots_asks (λ roots. answer (finish marks nodes log roots))))) last y) → Answered finish from y
        one r = two r.0 r.2 r.1 (between-later first last from r.0 at r.1) r.3 r.4

    -- ---- the numbers

    pub in-order : (from : List Op) (v : Numbers) → IsBetween first last from → AreReadBetween x from last v → AreInOrder x from last v
    in-order from v at r =
        let d_end = r.to_last in
        let c_end = prefix-trans r.changelog r.roots last r.then_roots d_end in
        let b_end = prefix-trans r.dirstate r.changelog last r.then_changelog c_end in
        let a_end = prefix-trans r.bookmarks r.dirstate last r.then_dirstate b_end in
        let a : IsBetween from last r.bookmarks = record { begins = r.from_first; ends = a_end } in
        let b : IsBetween r.bookmarks last r.dirstate = record { begins = r.then_dirstate; ends = b_end } in
        let c : IsBetween r.dirstate last r.changelog = record { begins = r.then_changelog; ends = c_end } in
        let d : IsBetween r.changelog last r.roots = record { begins = r.then_roots; ends = d_end } in
        let a_at = between-later first last from r.bookmarks at a in
        let b_at = between-later first last r.bookmarks r.dirstate a_at b in
        let c_at = between-later first last r.dirstate r.changelog b_at c in
        let d_at = between-later first last r.changelog r.roots c_at d in
        let fa = is.rises from r.bookmarks at a in
        let ab = is.rises r.bookmarks r.dirstate a_at b in
        let bc = is.rises r.dirstate r.changelog b_at c in
        let cd = is.rises r.changelog r.roots c_at d in
        let oa = is.ordered r.bookmarks a_at in
        let ob = is.ordered r.dirstate b_at in
        let end = below x first last is r.roots d_at in
        let e1 = r.marked in
        let e2 = r.worked in
        let e3 = r.read in
        let e4 = r.rooted in
        record {
          marked_worked = (let p = oa.marked in let q = ab.worked in omega (arith, p, q, e1, e2));
          worked_read = (let p = ob.worked in let q = bc.published in omega (arith, p, q, e2, e3));
          read_rooted = (let p = cd.published in omega (arith, p, e3, e4));
          rooted_last = omega (arith, end, e4);
          first_marked = (let p = fa.marked in omega (arith, p, e1));
          first_worked = (let p = fa.worked in let q = ab.worked in omega (arith, p, q, e2));
          first_read = (let p = fa.published in let q = ab.published in let s = bc.published in omega (arith, p, q, s, e3));
        }

    -- ---- the view

    pub viewed : (from : List Op) (v : Numbers) (marks : List Mark) (nodes : Nodes) (log : Log) (roots : List Root) → HasRead from v marks nodes log roots → AreInOrder x from last v → (view : View) × IsViewAt x v view × (view.changelog ≡ log) × (view_of marks nodes log roots ≡ Ok view)
    viewed from v marks nodes log roots h o =
        let p_low : v.rooted ≤ x.published last = o.rooted_last in
        let c_low : v.read ≤ x.published last = (let a = o.read_rooted in omega (arith, a, p_low)) in
        let w_low : v.worked ≤ x.published last = (let a = o.worked_read in omega (arith, a, c_low)) in
        let r = x.repo v.read in
        let worked = x.repo v.worked in
        let rooted = x.repo v.rooted in
        let store = index_of_changelog (x.store v.read) in
        let chunks = chunks_of_changelog (x.store v.read) in
        let revisions = (history r.changesets).changelog in
        let agrees = h.log_is.entries in
        let held = (is.holds v.read c_low).changelog in
        let nodes_are = law.nodes store chunks log.entries revisions agrees in
        let parents_are = law.parents store chunks log.entries revisions agrees ∙ law.all_parents_are r (is.repository v.read c_low) in
        let working = ap (working_answer log.entries) h.nodes_are ∙ law.working log.entries worked r (is.repository v.worked w_low) (is.goes_on v.worked v.read o.worked_read c_low) nodes_are held.different held.not_null in
        let front = law.roots_before roots r rooted (is.repository v.read c_low) (is.repository v.rooted p_low) (is.goes_on v.read v.rooted o.read_rooted p_low) h.roots_give in (
          record { changelog = log; bookmarks = marks; working = worked.working; phases = phases_by roots log.entries },
          record {
            loads = h.log_is.loads;
            form = h.log_is.form;
            entries = agrees;
            bookmarks = h.marks_are;
            working = refl;
            phases = law.phases r log.entries roots (take (length r.changesets) rooted.phases) (is.repository v.read c_low) nodes_are parents_are front;
          },
          refl,
          ap (view_with marks log roots) working,
        )

    pub opened-along : (from : List Op) (y : Result View ReadAnswer) → IsBetween first last from → MayAnswer x.start from open_asks last y → (v : Numbers) × (view : View) × (y ≡ Ok view) × IsLoadedBetween x from last v view
    opened-along from y at m =
        let a = whole-then x.start requires_path most_requires requires_answer (λ u. asked log_asks view_of) from last y m in
        let a_at = between-later first last from a.0 at a.1 in
        let m1 = a.2 tt (law.requirements (tree_after x a.0) (is.shows a.0 a_at).requires (opens a.0 a_at).requires) in
        let r = answered log_asks log-step view_of a.0 y a_at m1 in
        let reads = r.has.reads in
        let whole : AreReadBetween x from last r.v = record {
          bookmarks = reads.bookmarks;
          dirstate = reads.dirstate;
          changelog = reads.changelog;
          roots = reads.roots;
          from_first = prefix-trans from a.0 reads.bookmarks a.1.begins reads.from_first;
          then_dirstate = reads.then_dirstate;
          then_changelog = reads.then_changelog;
          then_roots = reads.then_roots;
          to_last = reads.to_last;
          marked = reads.marked;
          worked = reads.worked;
          read = reads.read;
          rooted = reads.rooted;
        } in
        let seen = viewed a.0 r.v r.marks r.nodes r.log r.roots r.has (in-order a.0 r.v a_at reads) in
        (r.v, seen.0, r.answer_is ∙ seen.3, record { is_view = seen.1; reads = whole; order = in-order from r.v at whole })
