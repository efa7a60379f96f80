-- A refresh over an old view of the same course.
use Rattle.std.proofs.Common.{◌≡◌, ℕ, zero, suc, ◌+◌, ◌-◌, ◌*◌, ◌/◌, ◌<◌, ◌≤◌, List, [], ◌∷◌, ◌++◌, length, take, drop, Bool, true, false, cond, Some, None, Result, Ok, Err, refl, sym, ◌∙◌, ap, subst, arith, append-nil, length-append}
use Rattle.std.specs.Prelude.{◌==◌}
use Rattle.std.proofs.lemmas.Bool.Decides.{nat_tests}
use Rattle.std.proofs.lemmas.List.{take-append-drop, length-take-le, take-append-le, drop-append-le, length-drop}
use Rattle.hgs_bytes.specs.Bytes.{IsPrefixOf}
use Rattle.hgs_files.specs.declared.op.Op.{Op}
use Rattle.hgs_files.specs.Tree.{bytes_at}
use Rattle.hgs_index.specs.declared.entry.Entry.{Entry}
use Rattle.hgs_index.specs.Inline.{is_inline}
use Rattle.hgs_model.specs.History.{history}
use Rattle.hgs_revlog.specs.declared.fault.RevFault.{RevFault}
use Rattle.hgs_revlog.specs.declared.fault.Tail.TheVariants.{Ignore}
use Rattle.hgs_revlog.specs.Load.{after, entry_behind, load_from, loaded}
use Rattle.hgs_revlog.specs.Log.{Log, with_entry}
use Rattle.hgs_load.specs.declared.answer.ReadAnswer.{ReadAnswer}
use Rattle.hgs_load.specs.Asks.{Asks, answer, then_asks, MayAnswer}
use Rattle.hgs_load.specs.Given.{GoesTo}
use Rattle.hgs_load.specs.Marks.{Nodes, Working, bookmarks_answer, dirstate_answer, roots_answer, working_answer}
use Rattle.hgs_marks.specs.Bookmarks.{Mark}
use Rattle.hgs_phases.specs.declared.roots.Root.{Root}
use Rattle.hgs_load.specs.Open.{bookmarks_asks, dirstate_asks, roots_asks, log_of, view_of, view_with, most_bookmarks_text, most_dirstate, most_roots}
use Rattle.hgs_load.specs.Refresh.{behind_asks, behind_last, behind_log_asks, inline_whole_asks, separate_whole_asks, first_changed, last_place, unless_changed, log_after, newer_log_asks, refresh_asks, whole_log_asks}
use Rattle.hgs_load.specs.View.{View, pieces_from, most_pieces}
use Rattle.hgs_load.specs.Theorems.FormLemmas.{IsApart}
use Rattle.hgs_load.specs.Theorems.TailLemmas.{entry-itself, tail-answers}
use Rattle.hgs_revlog.specs.Theorems.BehindLemmas.{loaded-count}
use Rattle.hgs_stands.specs.Places.{bookmarks_path, dirstate_path, roots_path, changelog_index, changelog_data}
use Rattle.hgs_stands.specs.Theorems.FormLemmas.{apart-held, plain-apart}
use Rattle.hgs_shown.specs.Shown.{chunks_of_changelog, index_of_changelog}
use Rattle.hgs_views.specs.Course.{Course, IsBetween, IsCourse, OpensAlong, tree_after}
use Rattle.hgs_views.specs.Seen.{Numbers, NoneFell, AreReadBetween, IsGivenFew, IsLoadedBetween}
use Rattle.hgs_views.proofs.Basics.{prefix-refl, prefix-trans, may-front}
use Rattle.hgs_views.proofs.CourseLemmas.{course-later, itself-between}
use Rattle.hgs_views.proofs.FormLemmas.{out-of-form}
use Rattle.hgs_views.proofs.LoadLemmas.{IsPlain, LoadsAt, LogStep, answered, below, found-at, front-of-longer, in-order, index-stays, is-apart, last-step, once-step, plain-from, plain-loads, room, said-step, store-plain, viewed, whole-stays}
use Rattle.hgs_views.proofs.MomentLemmas.{between-later, pieces-end}
use Rattle.hgs_views.proofs.NewLemmas.{all_bytes, answer-is, both-asked, go-apart, go-front, pieces-asked, read-again, tail-few, whole-few, whole-log-few}
use Rattle.hgs_views.proofs.OnlyLemmas.{later-end}
use Rattle.hgs_views.proofs.Below.{LoadLaws}

-- ---- the old entries in front

unchanged : (rev : ℕ) (old more : List Entry) → first_changed rev old (old ++ more) ≡ None
unchanged rev [] more = refl
unchanged rev (e ∷ old) more = ap (λ b. cond b (first_changed (suc rev) old (old ++ more)) (Some rev)) (entry-itself e) ∙ unchanged (suc rev) old more

-- ---- the entries of a front of an index

after_ok : (r : Result Entry RevFault) (f : Entry → Result Log RevFault) (log : Log) → after r f ≡ Ok log → (e : Entry) × (r ≡ Ok e) × (f e ≡ Ok log)
after_ok (Err fault) f log h = cc
after_ok (Ok e) f log h = (e, refl, h)

log_is : (log end : Log) → (let a : Result Log RevFault = Ok log in a) ≡ Ok end → log ≡ end
log_is log end h = cc

load-grows : (n : ℕ) (log end : Log) (bytes : List ℕ) → load_from Ignore n log bytes ≡ Ok end → IsPrefixOf log.entries end.entries
load-grows zero log end bytes h = subst (λ (l : Log). IsPrefixOf log.entries l.entries) (log_is log end h) (prefix-refl log.entries)
load-grows (suc n) log end bytes h =
    let s = after_ok (entry_behind log.entries (take 64 bytes)) (λ e. load_from Ignore n (with_entry log e) (drop 64 bytes)) end h in
    prefix-trans log.entries (log.entries ++ s.0 ∷ []) end.entries (s.0 ∷ [], refl) (load-grows n (with_entry log s.0) end (drop 64 bytes) s.2)

load-front : (n m : ℕ) (log small end : Log) (front rest : List ℕ) → n ≤ m → 64 * n ≤ length front → load_from Ignore n log front ≡ Ok small → load_from Ignore m log (front ++ rest) ≡ Ok end → IsPrefixOf small.entries end.entries
load-front zero m log small end front rest le long h g = subst (λ (l : Log). IsPrefixOf l.entries end.entries) (log_is log small h) (load-grows m log end (front ++ rest) g)
load-front (suc n) zero log small end front rest le long h g = absurd (omega (arith, le))
load-front (suc n) (suc m) log small end front rest le long h g =
    let s = after_ok (entry_behind log.entries (take 64 front)) (λ e. load_from Ignore n (with_entry log e) (drop 64 front)) small h in
    let cell : take 64 (front ++ rest) ≡ take 64 front = take-append-le 64 front rest (omega (arith, long)) in
    let behind : drop 64 (front ++ rest) ≡ drop 64 front ++ rest = drop-append-le 64 front rest (omega (arith, long)) in
    let on : load_from Ignore m (with_entry log s.0) (drop 64 front ++ rest) ≡ Ok end =
    ap (load_from Ignore m (with_entry log s.0)) (sym behind)
    ∙ sym (ap (λ r. after r (λ e. load_from Ignore m (with_entry log e) (drop 64 (front ++ rest)))) (ap (entry_behind log.entries) cell ∙ s.1))
    ∙ g in
    load-front n m (with_entry log s.0) small end (drop 64 front) rest (omega (arith, le)) (let d = length-drop 64 front in omega (arith, d, long)) s.2 on

pub loaded-front : (front rest : List ℕ) (small end : Log) → loaded Ignore front ≡ Ok small → loaded Ignore (front ++ rest) ≡ Ok end → IsPrefixOf small.entries end.entries
loaded-front front rest small end h g =
    load-front (length front / 64) (length (front ++ rest) / 64) (record { inline = false; entries = [] }) small end front rest (let l = length-append front rest in omega (arith, l)) (omega arith) h g

-- ---- the refresh

module _ (x : Course) (first last : List Op) (is : IsCourse x first last) where
  -- the index of an earlier number stands, taken apart, at the front of a later one's
  pub store-front : (law : LoadLaws) (log : List Op) (i j : ℕ) → IsBetween first last log → i ≤ j → j ≤ x.published log → IsPrefixOf (index_of_changelog (x.store i)) (index_of_changelog (x.store j))
  store-front law log i j at le top =
      let low = below x first last is log at in
      let i_revisions = (history (x.repo i).changesets).changelog in
      let j_revisions = (history (x.repo j).changesets).changelog in
      let i_held = apart-held (bytes_at (x.store i) changelog_index) (bytes_at (x.store i) changelog_data) i_revisions (is.holds i (omega (arith, le, top, low))).changelog in
      let j_held = apart-held (bytes_at (x.store j) changelog_index) (bytes_at (x.store j) changelog_data) j_revisions (is.holds j (omega (arith, top, low))).changelog in
      let i_size = law.size (index_of_changelog (x.store i)) (chunks_of_changelog (x.store i)) i_revisions i_held in
      let j_size = law.size (index_of_changelog (x.store j)) (chunks_of_changelog (x.store j)) j_revisions j_held in
      let goes = law.changelog (x.repo i).changesets (x.repo j).changesets (is.goes_on i j le (omega (arith, top, low))) in
      let longer = ap length goes.1 in
      let both = length-append i_revisions goes.0 in
      front-of-longer (index_of_changelog (x.store i)) (index_of_changelog (x.store j)) (index_of_changelog (tree_after x log)) (index-stays x first last is log i at (omega (arith, le, top))) (index-stays x first last is log j at top)
      (omega (arith, i_size, j_size, longer, both))

  none-fell : (ended from : List Op) (v w : Numbers) → AreReadBetween x first ended v → IsPrefixOf ended from → IsPrefixOf from last → x.marked from ≤ w.marked → x.worked from ≤ w.worked → x.published from ≤ w.read → w.read ≤ w.rooted → NoneFell v w
  none-fell ended from v w r then on marked worked read rooted =
      let d_end = prefix-trans r.roots ended from r.to_last then in
      let c_end = prefix-trans r.changelog r.roots from r.then_roots d_end in
      let b_end = prefix-trans r.dirstate r.changelog from r.then_changelog c_end in
      let a_end = prefix-trans r.bookmarks r.dirstate from r.then_dirstate b_end in
      let b_begin = prefix-trans first r.bookmarks r.dirstate r.from_first r.then_dirstate in
      let c_begin = prefix-trans first r.dirstate r.changelog b_begin r.then_changelog in
      let d_begin = prefix-trans first r.changelog r.roots c_begin r.then_roots in
      let a = is.rises r.bookmarks from (record { begins = r.from_first; ends = prefix-trans r.bookmarks from last a_end on }) (record { begins = a_end; ends = on }) in
      let b = is.rises r.dirstate from (record { begins = b_begin; ends = prefix-trans r.dirstate from last b_end on }) (record { begins = b_end; ends = on }) in
      let c = is.rises r.changelog from (record { begins = c_begin; ends = prefix-trans r.changelog from last c_end on }) (record { begins = c_end; ends = on }) in
      let d = is.rises r.roots from (record { begins = d_begin; ends = prefix-trans r.roots from last d_end on }) (record { begins = d_end; ends = on }) in
      record {
        marked = (let e = r.marked in let p = a.marked in omega (arith, e, p, marked));
        worked = (let e = r.worked in let p = b.worked in omega (arith, e, p, worked));
        read = (let e = r.read in let p = c.published in omega (arith, e, p, read));
        rooted = (let e = r.rooted in let p = d.published in omega (arith, e, p, read, rooted));
      }

  pub began-by : (ended from : List Op) (v : Numbers) → AreReadBetween x first ended v → IsPrefixOf ended from → IsPrefixOf first from
  began-by ended from v r then =
      prefix-trans first ended from
      (prefix-trans first r.roots ended (prefix-trans first r.changelog r.roots (prefix-trans first r.dirstate r.changelog (prefix-trans first r.bookmarks r.dirstate r.from_first r.then_dirstate) r.then_changelog) r.then_roots) r.to_last)
      then

  -- a list after the load is not below its changesets
  pub loaded-below : (ended from : List Op) (v : Numbers) → AreReadBetween x first ended v → IsPrefixOf ended from → IsPrefixOf from last → v.read ≤ x.published from
  loaded-below ended from v r then on =
      let c_end = prefix-trans r.changelog r.roots from r.then_roots (prefix-trans r.roots ended from r.to_last then) in
      let c_begin = prefix-trans first r.dirstate r.changelog (prefix-trans first r.bookmarks r.dirstate r.from_first r.then_dirstate) r.then_changelog in
      let up = is.rises r.changelog from (record { begins = c_begin; ends = prefix-trans r.changelog from last c_end on }) (record { begins = c_end; ends = on }) in
      let e = r.read in
      let p = up.published in
      omega (arith, e, p)

  -- the history of a later list begins with that of the old view
  begins-at : (law : LoadLaws) (ended from : List Op) (v : Numbers) (old : View) → IsLoadedBetween x first ended v old → IsPrefixOf ended from → IsPrefixOf from last → (log : List Op) (found : Log) → IsBetween from last log → LoadsAt x (x.published log) found → IsPrefixOf old.changelog.entries found.entries
  begins-at law ended from v old loaded_old then on log found at is_at =
      let from_at : IsBetween first last from = record { begins = began-by ended from v loaded_old.reads then; ends = on } in
      let log_at : IsBetween first last log = record { begins = prefix-trans first from log from_at.begins at.begins; ends = at.ends } in
      let low = loaded-below ended from v loaded_old.reads then on in
      let up = (is.rises from log from_at at).published in
      let front = store-front law log v.read (x.published log) log_at (omega (arith, low, up)) (omega arith) in
      let was = out-of-form old.changelog.inline (loaded Ignore (index_of_changelog (x.store v.read))) old.changelog loaded_old.is_view.loads in
      let now = out-of-form found.inline (loaded Ignore (index_of_changelog (x.store (x.published log)))) found is_at.loads in
      subst (λ l. IsPrefixOf l found.entries) was.2
      (subst (IsPrefixOf was.0.entries) now.2 (loaded-front (index_of_changelog (x.store v.read)) front.0 was.0 now.0 was.1 (ap (loaded Ignore) (sym front.1) ∙ now.1)))

  kept-at : (law : LoadLaws) (ended from : List Op) (v : Numbers) (old : View) → IsLoadedBetween x first ended v old → IsPrefixOf ended from → IsPrefixOf from last → (log : List Op) (found : Log) → IsBetween from last log → LoadsAt x (x.published log) found → first_changed 0 old.changelog.entries found.entries ≡ None
  kept-at law ended from v old loaded_old then on log found at is_at =
      let kept = begins-at law ended from v old loaded_old then on log found at is_at in
      ap (first_changed 0 old.changelog.entries) kept.1 ∙ unchanged 0 old.changelog.entries kept.0

  -- what a separate index had before the last of the old entries stands in front of it
  old-front : (law : LoadLaws) (ended from : List Op) (v : Numbers) (old : View) → IsLoadedBetween x first ended v old → IsPrefixOf ended from → IsPrefixOf from last → is_inline (bytes_at (x.store v.read) changelog_index) ≡ false
      → (front : List ℕ) × (length front ≡ last_place old.changelog.entries) × IsPrefixOf front (bytes_at (tree_after x from) changelog_index)
  old-front law ended from v old loaded_old then on plain =
      let from_at : IsBetween first last from = record { begins = began-by ended from v loaded_old.reads then; ends = on } in
      let low = loaded-below ended from v loaded_old.reads then on in
      let index = bytes_at (x.store v.read) changelog_index in
      let place = last_place old.changelog.entries in
      let stands = (is.stays from v.read from_at low).changelog in
      let was = out-of-form old.changelog.inline (loaded Ignore (index_of_changelog (x.store v.read))) old.changelog loaded_old.is_view.loads in
      let count = (loaded-count index was.0 (ap (loaded Ignore) (sym (plain-apart index plain)) ∙ was.1)).0 in
      let entries = ap length was.2 in
      (take place index, length-take-le place index (omega (arith, count, entries)), prefix-trans (take place index) index (bytes_at (tree_after x from) changelog_index) (drop place index, sym (take-append-drop place index)) stands)

  -- behind a separate history with an entry the index is separate
  stays-plain : (law : LoadLaws) (ended from : List Op) (v : Numbers) (old : View) → IsLoadedBetween x first ended v old → IsPrefixOf ended from → (on : IsPrefixOf from last) → (at : IsBetween first last from) → old.changelog.inline ≡ false → 0 < length old.changelog.entries
      → (is_inline (bytes_at (x.store v.read) changelog_index) ≡ false) × IsPlain x from last (course-later x first from last at is) from
  stays-plain law ended from v old loaded_old then on at separate some =
      let entries = old.changelog.entries in
      let plain = sym (loaded_old.is_view.form some) ∙ separate in
      let count = law.entries (index_of_changelog (x.store v.read)) (chunks_of_changelog (x.store v.read)) entries (history (x.repo v.read).changesets).changelog loaded_old.is_view.entries in
      (plain, plain-from x from last (course-later x first from last at is) from v.read (itself-between from last on) (loaded-below ended from v loaded_old.reads then on) (omega (arith, some, count)) plain)

  -- so it is where that is known besides of a history without one
  pub plain-along : (law : LoadLaws) (ended from : List Op) (v : Numbers) (old : View) → IsLoadedBetween x first ended v old → IsPrefixOf ended from → IsPrefixOf from last → old.changelog.inline ≡ false
      → (length old.changelog.entries ≡ 0 → (now : List Op) → IsBetween from last now → is_inline (bytes_at (tree_after x now) changelog_index) ≡ false) → (now : List Op) → IsBetween from last now → is_inline (bytes_at (tree_after x now) changelog_index) ≡ false
  plain-along law ended from v old loaded_old then on separate none = by (length old.changelog.entries == 0) refl
    where
      no_entries : (n : ℕ) → (n == 0) ≡ true → n ≡ 0
      no_entries n h = grind (arith, nat_tests, h)

      some_entries : (n : ℕ) → (n == 0) ≡ false → 0 < n
      some_entries n h = grind (arith, nat_tests, h)

      by : (b : Bool) → (length old.changelog.entries == 0) ≡ b → (now : List Op) → IsBetween from last now → is_inline (bytes_at (tree_after x now) changelog_index) ≡ false
      by true e = none (no_entries (length old.changelog.entries) e)
      by false e = (stays-plain law ended from v old loaded_old then on (record { begins = began-by ended from v loaded_old.reads then; ends = on }) separate (some_entries (length old.changelog.entries) e)).1

  -- so what is answered to the question of a refresh is the history of some list
  newer-step : (law : LoadLaws) (ended from : List Op) (v : Numbers) (old : View) → IsLoadedBetween x first ended v old → IsPrefixOf ended from → (on : IsPrefixOf from last) → (at : IsBetween first last from) → (opens : OpensAlong x from last) → LogStep law x from last (course-later x first from last at is) opens (newer_log_asks old.changelog)
  newer-step law ended from v old loaded_old then on at opens = by_form log.inline refl
    where
      later : IsCourse x from last
      later = course-later x first from last at is

      log : Log
      log = old.changelog

      passes : (list : List Op) (found : Log) → IsBetween from last list → LoadsAt x (x.published list) found → log_after log.entries (Ok found) ≡ Ok found
      passes list found now is_at = ap (λ o. unless_changed o found) (kept-at law ended from v old loaded_old then on list found now is_at)

      some_entries : (n : ℕ) → (n == 0) ≡ false → 0 < n
      some_entries n h = grind (arith, nat_tests, h)

      by : (b : Bool) → log.inline ≡ false → (length log.entries == 0) ≡ b
          → LogStep law x from last later opens (cond b (whole_log_asks log.entries) (pieces_from changelog_index (last_place log.entries) most_pieces [] (λ tail. behind_asks log (behind_last log.entries tail))))
      by true separate e = said-step law x from last later opens (log_after log.entries) passes
      by false separate e =
          let some = some_entries (length log.entries) e in
          let plain = stays-plain law ended from v old loaded_old then on at separate some in
          let front = old-front law ended from v old loaded_old then on plain.0 in
          last-step law x from last later opens log front.0 separate plain.1 some front.1 front.2 (begins-at law ended from v old loaded_old then on)

      by_form : (b : Bool) → log.inline ≡ b → LogStep law x from last later opens (cond b (inline_whole_asks log.entries) (behind_log_asks log))
      by_form true e = once-step law x from last later opens (log_after log.entries) passes
      by_form false e = by (length log.entries == 0) e refl

  pub refreshed-along : (law : LoadLaws) (ended from : List Op) (v : Numbers) (old : View) (y : Result View ReadAnswer) → IsLoadedBetween x first ended v old → IsPrefixOf ended from → OpensAlong x from last → MayAnswer x.start from (refresh_asks old) last y
      → (w : Numbers) × (view : View) × (y ≡ Ok view) × IsLoadedBetween x from last w view × NoneFell v w
  refreshed-along law ended from v old y loaded_old then opens m =
      let on = may-front (refresh_asks old) x.start from last y m in
      let at : IsBetween first last from = record { begins = began-by ended from v loaded_old.reads then; ends = on } in
      let later = course-later x first from last at is in
      let now = itself-between from last on in
      let step = newer-step law ended from v old loaded_old then on at opens in
      let r = answered law x from last later opens (newer_log_asks old.changelog) step view_of from y now m in
      let order = in-order law x from last later opens from r.v now r.has.reads in
      let fell = none-fell ended from v r.v loaded_old.reads then on order.first_marked order.first_worked order.first_read order.read_rooted in
      let seen = viewed law x from last later opens from r.v r.marks r.nodes r.log r.roots r.has order in
      (r.v, seen.0, r.answer_is ∙ seen.3, record { is_view = seen.1; reads = r.has.reads; order = order }, fell)

  -- ---- how many bytes it is given

  module _ (law : LoadLaws) (ended from : List Op) (v : Numbers) (old : View) (loaded_old : IsLoadedBetween x first ended v old) (then : IsPrefixOf ended from) (on : IsPrefixOf from last) (opens : OpensAlong x from last)
      (separate : old.changelog.inline ≡ false) (plain : (now : List Op) → IsBetween from last now → is_inline (bytes_at (tree_after x now) changelog_index) ≡ false) where
    abbrev log_old : Log
    log_old = old.changelog

    abbrev from_at : IsBetween first last from
    from_at = record { begins = began-by ended from v loaded_old.reads then; ends = on }

    abbrev later_on : IsCourse x from last
    later_on = course-later x first from last from_at is

    -- the tail that was read begins with the last of the old entries
    tail-stands : 0 < length log_old.entries → (now mid : List Op) (tail : List ℕ) → IsPrefixOf from now → IsPrefixOf mid last
        → MayAnswer x.start now (pieces_from changelog_index (last_place log_old.entries) most_pieces [] all_bytes) mid (Ok tail) → (found : Log) × (behind_asks log_old (behind_last log_old.entries tail) ≡ answer (Ok found))
    tail-stands some now mid tail begun ends m =
        let place = last_place log_old.entries in
        let q = pieces_from changelog_index place most_pieces [] all_bytes in
        let late = later-end x.start q now mid last (Ok tail) ends m in
        let at : IsBetween from last now = record { begins = begun; ends = may-front q x.start now last (Ok tail) late } in
        let from_itself = itself-between from last on in
        let store = store-plain x from last later_on from v.read from_itself (loaded-below ended from v loaded_old.reads then on) (plain from from_itself) in
        let front = old-front law ended from v old loaded_old then on store in
        let stays = whole-stays law x from last later_on from from_itself plain in
        let kept = stays from now front.0 (length log_old.entries - 1) from_itself at front.1 front.2 in
        let asked = read-again x.start now last q (Ok tail) late in
        let a = pieces-end x.start changelog_index from last (Ok tail) all_bytes all_bytes stays (λ log there. room law x from last later_on opens log there (plain log there)) front.0 (length log_old.entries - 1) front.1 (λ bytes. place + length bytes) (λ b. ap (λ n. n + length b) (sym front.1))
        most_pieces 0 [] now at refl refl (subst (λ l. IsPrefixOf l (bytes_at (tree_after x now) changelog_index)) (sym (append-nil front.0)) kept) asked in
        let here = between-later from last now a.0 at a.1 in
        let found = found-at law x from last later_on opens a.0 here in
        let whole : loaded Ignore (front.0 ++ a.2) ≡ Ok found.history_is = ap (loaded Ignore) (sym a.3) ∙ plain-loads law x from last later_on opens a.0 here (plain a.0 here) in
        (found.history_is, ap (λ t. behind_asks log_old (behind_last log_old.entries t)) (same tail a.2 a.4.1) ∙ tail-answers front.0 a.2 log_old found.history_is separate some front.1 whole (begins-at law ended from v old loaded_old then on a.0 found.history_is here found.is_at))
      where
        same : (s t : List ℕ) → (let r : Result (List ℕ) ReadAnswer = Ok s in r) ≡ Ok t → s ≡ t
        same s t e = cc

    newer-few : (k l : List Op) (n : ℕ) (log : Log) → IsPrefixOf from k → IsPrefixOf l last → GoesTo x.start (Some k) (newer_log_asks log_old) n (Some l) (answer (Ok log)) → n ≤ 64 * (length log.entries - length log_old.entries + 2)
    newer-few k l n log begun ends h = by (length log_old.entries == 0) refl (subst (λ b. GoesTo x.start (Some k) (cond b (inline_whole_asks log_old.entries) (behind_log_asks log_old)) n (Some l) (answer (Ok log))) separate h)
      where
        no_entries : (n : ℕ) → (n == 0) ≡ true → n ≡ 0
        no_entries n h = grind (arith, nat_tests, h)

        some_entries : (n : ℕ) → (n == 0) ≡ false → 0 < n
        some_entries n h = grind (arith, nat_tests, h)

        few : (n own rest tail most : ℕ) → n ≡ own + rest → rest ≡ 0 → tail ≡ 0 + own → tail ≤ most → n ≤ most
        few n own rest tail most e z s f = omega (arith, e, z, s, f)

        apart : IsApart x.start k l (separate_whole_asks log_old.entries)
        apart = λ now later early. is-apart x from last later_on from plain (λ index. answer (log_after log_old.entries (log_of index))) now (prefix-trans from k now begun later) (prefix-trans now l last early ends)

        by : (b : Bool) → (length log_old.entries == 0) ≡ b
            → GoesTo x.start (Some k) (cond b (whole_log_asks log_old.entries) (pieces_from changelog_index (last_place log_old.entries) most_pieces [] (λ tail. behind_asks log_old (behind_last log_old.entries tail)))) n (Some l) (answer (Ok log))
            → n ≤ 64 * (length log.entries - length log_old.entries + 2)
        by true e m = whole-log-few x.start k l log_old.entries n log (no_entries (length log_old.entries) e) (go-apart x.start k l (inline_whole_asks log_old.entries) (separate_whole_asks log_old.entries) n (Ok log) apart m)
        by false e m =
            let p = pieces-asked x.start k l changelog_index (λ bytes. last_place log_old.entries + length bytes) most_pieces [] (λ tail. behind_asks log_old (behind_last log_old.entries tail)) n log m in
            let s = tail-stands (some_entries (length log_old.entries) e) k p.log p.all begun (prefix-trans p.log l last (go-front x.start p.log l (behind_asks log_old (behind_last log_old.entries p.all)) (answer (Ok log)) p.rest p.goes_on) ends) p.may in
            let m1 = subst (λ q. GoesTo x.start (Some p.log) q p.rest (Some l) (answer (Ok log))) s.1 p.goes_on in
            few n p.own p.rest (length p.all) (64 * (length log.entries - length log_old.entries + 2)) p.sum m1.1 p.size (tail-few log_old log p.all (s.1 ∙ sym m1.2))

    pub given-along : (view : View) (n : ℕ) → GoesTo x.start (Some from) (refresh_asks old) n (Some last) (answer (Ok view)) → IsGivenFew x from last old view n
    given-along view n h =
        let newer = newer_log_asks log_old in
        let behind_log = λ (marks : List Mark) (nodes : Nodes) (log : Log). then_asks roots_asks (λ roots. answer (view_of marks nodes log roots)) in
        let behind_nodes = λ (marks : List Mark) (nodes : Nodes). then_asks newer (behind_log marks nodes) in
        let a = both-asked x.start from last bookmarks_asks (λ marks. then_asks dirstate_asks (behind_nodes marks)) n view h in
        let b = both-asked x.start a.log last dirstate_asks (behind_nodes a.value) a.second view a.to_second in
        let c = both-asked x.start b.log last newer (behind_log a.value b.value) b.second view b.to_second in
        let d = both-asked x.start c.log last roots_asks (λ roots. answer (view_of a.value b.value c.value roots)) c.second view c.to_second in
        let marks = whole-few x.start from a.log bookmarks_path most_bookmarks_text bookmarks_answer a.first (Ok a.value) a.to_first in
        let nodes = whole-few x.start a.log b.log dirstate_path most_dirstate dirstate_answer b.first (Ok b.value) b.to_first in
        let roots = whole-few x.start c.log d.log roots_path most_roots roots_answer d.first (Ok d.value) d.to_first in
        let to_d = go-front x.start d.log last (answer (view_of a.value b.value c.value d.value)) (answer (Ok view)) d.second d.to_second in
        let to_c = prefix-trans c.log roots.0 last roots.1 (prefix-trans roots.0 d.log last roots.2 to_d) in
        let to_b = go-front x.start b.log c.log newer (answer (Ok c.value)) c.first c.to_first in
        let begun = prefix-trans from a.log b.log (prefix-trans from marks.0 a.log marks.1 marks.2) (prefix-trans a.log nodes.0 b.log nodes.1 nodes.2) in
        let its = its-log a.value c.value d.value (working_answer c.value.entries b.value) view (sym (view-is (view_of a.value b.value c.value d.value) d.to_second.2)) in
        let few = subst (λ (l : Log). c.first ≤ 64 * (length l.entries - length log_old.entries + 2)) its (newer-few b.log c.log c.first c.value begun to_c c.to_first) in
        record {
          bookmarks = marks.0;
          dirstate = nodes.0;
          roots = roots.0;
          from_first = marks.1;
          then_dirstate = prefix-trans marks.0 a.log nodes.0 marks.2 nodes.1;
          then_roots = prefix-trans nodes.0 b.log roots.0 nodes.2 (prefix-trans b.log c.log roots.0 to_b roots.1);
          to_last = prefix-trans roots.0 d.log last roots.2 to_d;
          few = sums a.sum b.sum c.sum d.sum d.to_second.1 marks.3 nodes.3 few roots.3;
        }
      where
        no_ok : (y : View) (e : ReadAnswer) → (let a : Result View ReadAnswer = Err e in a) ≡ Ok y → ⊥
        no_ok y e h = cc

        view-is : (r : Result View ReadAnswer) → (let q : Asks (Result View ReadAnswer) = answer (Ok view) in q) ≡ answer r → (let s : Result View ReadAnswer = Ok view in s) ≡ r
        view-is r h = answer-is (Ok view) r h

        changelog-is : (a b : View) → (let s : Result View ReadAnswer = Ok a in s) ≡ Ok b → a.changelog ≡ b.changelog
        changelog-is a b e = cc

        its-log : (marks : List Mark) (log : Log) (roots : List Root) (working : Result Working ReadAnswer) (y : View) → view_with marks log roots working ≡ Ok y → log ≡ y.changelog
        its-log marks log roots (Err e) y h = absurd (no_ok y e h)
        its-log marks log roots (Ok w) y h = changelog-is _ y h

        sums : {n a b c d m1 m2 m3 m4 A B C D : ℕ} → n ≡ a + m1 → m1 ≡ b + m2 → m2 ≡ c + m3 → m3 ≡ d + m4 → m4 ≡ 0 → a ≤ A → b ≤ B → c ≤ C → d ≤ D → n ≤ A + B + D + C
        sums e f g h z i j k l = omega (arith, e, f, g, h, z, i, j, k, l)
