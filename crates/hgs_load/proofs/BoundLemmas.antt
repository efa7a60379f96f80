-- How many bytes a refresh is given over files at rest.
use Rattle.std.proofs.Common.{◌≡◌, inl, inr, ℕ, suc, ◌+◌, ◌-◌, ◌*◌, ◌/◌, ◌<◌, ◌≤◌, min, Bool, true, false, cond, ◌&&◌, List, [], ◌++◌, length, take, drop, Option, Some, None, Result, Ok, Err, refl, sym, ◌∙◌, ap, subst, arith, length-append}
use Rattle.std.specs.Prelude.{IfOk, IfSome, ◌==◌, nat_le, unwrap_or, slice_get}
use Rattle.std.proofs.lemmas.Bool.Decides.{nat_tests}
use Rattle.std.proofs.lemmas.List.{take-append-drop, take_all, length-take, length-take-le, length-drop}
use Rattle.hgs_files.specs.declared.op.Op.{Op}
use Rattle.hgs_files.specs.Reads.{Grows}
use Rattle.hgs_files.specs.Tree.{Tree, bytes_at, after_all}
use Rattle.hgs_index.specs.declared.entry.Entry.{Entry}
use Rattle.hgs_index.specs.Inline.{is_inline}
use Rattle.hgs_marks.specs.Bookmarks.{Mark}
use Rattle.hgs_revlog.specs.declared.fault.Tail.TheVariants.{Ignore}
use Rattle.hgs_revlog.specs.Load.{load_from, loaded, separate_at}
use Rattle.hgs_revlog.specs.Log.{Log}
use Rattle.hgs_revlog.specs.Theorems.BehindLemmas.{load-grows, loaded-count}
use Rattle.hgs_load.specs.declared.answer.ReadAnswer.{ReadAnswer}
use Rattle.hgs_load.specs.Asks.{Asks, answer, read, part_of, at_rest, then_asks}
use Rattle.hgs_load.specs.Given.{Gave, GoesTo, Takes, given_at_rest, size_of}
use Rattle.hgs_load.specs.Marks.{Nodes, bookmarks_path, dirstate_path, roots_path, bookmarks_answer, dirstate_answer, roots_answer, working_answer}
use Rattle.hgs_load.specs.Open.{open_asks, bookmarks_asks, dirstate_asks, roots_asks, log_of, view_of, most_bookmarks_text, most_dirstate, most_roots}
use Rattle.hgs_load.specs.Refresh.{GivenFew, behind_asks, behind_last, behind_log_asks, first_changed, inline_whole_asks, is_this, last_place, log_after, newer_log_asks, refresh_asks, refresh_bytes, separate_whole_asks, unless_changed, whole_log_asks}
use Rattle.hgs_load.specs.View.{View, changelog_index, pieces_from, most_pieces, piece_length}
use Rattle.hgs_load.specs.Whole.{whole_asks}
use Rattle.hgs_load.specs.Theorems.AskLemmas.{grows-trans}
use Rattle.hgs_load.specs.Theorems.OpenedLemmas.{opened_log, rest_both}
use Rattle.hgs_load.specs.Theorems.RestLemmas.{prefix-antisym}
use Rattle.hgs_load.specs.Theorems.PartLemmas.{part_is}
use Rattle.hgs_load.specs.Theorems.TailLemmas.{tail-answers}
use Rattle.hgs_load.proofs.HistoryLemmas.{front-of-new}
use Rattle.hgs_load.proofs.WayLemmas.{not-answered, answer-is, no-read, no-ok, ok-is, after-ok, its-log, log-loads}
use Rattle.hgs_load.proofs.IndexLemmas.{apart-given, apart-rest, once-is, pieces-rest, said-form}
use Rattle.hgs_load.proofs.WholeLemmas.{pieces_front, pieces_given, whole-place, whole-index}

-- the first question was answered, and the next one asked
given-then : {A B : Type 0} (t : Tree) (q : Asks (Result A ReadAnswer)) (more : A → Asks (Result B ReadAnswer)) (x : A) → at_rest t q ≡ Ok x → given_at_rest t (then_asks q more) ≡ given_at_rest t q + given_at_rest t (more x)
given-then t (answer (Ok y)) more x h = ap (λ z. given_at_rest t (more z)) (ok-is y x h) ∙ omega arith
given-then t (answer (Err e)) more x h = absurd (no-ok x e (sym h))
given-then t (read path from most rest) more x h =
    let part = part_of t path from most in
    let on = given-then t (rest part) more x h in
    ap (λ n. length (unwrap_or part []) + n) on ∙ omega arith

-- a file that is read whole gives no more than it has
given-whole : {A : Type 0} (t : Tree) (path : List ℕ) (most : ℕ) (given : Option (List ℕ) → Result A ReadAnswer) → given_at_rest t (whole_asks path most given) ≤ length (bytes_at t path)
given-whole t path most given =
    let size = ap length (part_is (t path) 0 (suc most)) in
    let cut = length-take (suc most) (bytes_at t path) in
    least (length (unwrap_or (part_of t path 0 (suc most)) [])) (length (take (suc most) (bytes_at t path))) (suc most) (length (bytes_at t path)) size cut
  where
    least : (a b n m : ℕ) → a ≡ b → b ≡ min n m → a + 0 ≤ m
    least a b n m e f = omega (arith, e, f)

-- ---- the index

after-is : (old : List Entry) (r : Result Log ReadAnswer) (log : Log) → log_after old r ≡ Ok log → r ≡ Ok log
after-is old (Err e) log h = cc
after-is old (Ok found) log h = by (first_changed 0 old found.entries) h
  where
    by : (o : Option ℕ) → unless_changed o found ≡ Ok log → (let a : Result Log ReadAnswer = Ok found in a) ≡ Ok log
    by None u = u
    by (Some rev) u = absurd (no-ok log _ (sym u))

module _ (t : Tree) (old log : Log) where
  abbrev index : List ℕ
  index = bytes_at t changelog_index

  abbrev front : List ℕ
  front = take (most_pieces * piece_length) index

  -- what the whole index answers is what its front loads as
  whole-loads : at_rest t (separate_whole_asks old.entries) ≡ Ok log → log_after old.entries (log_of front) ≡ Ok log
  whole-loads h = sym (pieces-rest t (log_after old.entries)) ∙ h

  whole-given : length old.entries ≡ 0 → at_rest t (separate_whole_asks old.entries) ≡ Ok log → given_at_rest t (separate_whole_asks old.entries) ≤ 64 * (length log.entries - length old.entries + 2)
  whole-given none h =
      let given = pieces_given t changelog_index 0 length whole-place most_pieces [] index (λ bytes. answer (log_after old.entries (log_of bytes))) refl in
      let count = (loaded-count front log (log-loads (loaded Ignore front) log (after-is old.entries (log_of front) log (whole-loads h)))).0 in
      few (length front) (length log.entries) (length old.entries) (given_at_rest t (separate_whole_asks old.entries)) given count none
    where
      few : (n entries before given : ℕ) → given ≡ n + 0 → entries ≡ n / 64 → before ≡ 0 → given ≤ 64 * (entries - before + 2)
      few n entries before given g e z = omega (arith, g, e, z)

  -- a history that is separate is that of a separate index, which was read in pieces
  plain : log.inline ≡ false → at_rest t (whole_log_asks old.entries) ≡ Ok log → is_inline index ≡ false
  plain stays h = sym (said-form t (log_after old.entries) (after-is old.entries) log h) ∙ stays

  whole-apart : log.inline ≡ false → at_rest t (whole_log_asks old.entries) ≡ Ok log → at_rest t (separate_whole_asks old.entries) ≡ Ok log
  whole-apart stays h = sym (apart-rest t (log_after old.entries) (plain stays h)) ∙ h

  abbrev place : ℕ
  place = last_place old.entries

  abbrev tail : List ℕ
  tail = take (most_pieces * piece_length) (drop place index)

  from-place : drop (place + 0) index ≡ drop place index
  from-place = ap (λ n. drop n index) (omega arith)

  tail-rests : at_rest t (pieces_from changelog_index place most_pieces [] (λ bytes. behind_asks old (behind_last old.entries bytes))) ≡ at_rest t (behind_asks old (behind_last old.entries tail))
  tail-rests = pieces_front t changelog_index place (λ b. place + length b) (λ b. refl) most_pieces [] (drop place index) (λ bytes. behind_asks old (behind_last old.entries bytes)) from-place

  tail-given : given_at_rest t (pieces_from changelog_index place most_pieces [] (λ bytes. behind_asks old (behind_last old.entries bytes))) ≡ length tail + given_at_rest t (behind_asks old (behind_last old.entries tail))
  tail-given = pieces_given t changelog_index place (λ b. place + length b) (λ b. refl) most_pieces [] (drop place index) (λ bytes. behind_asks old (behind_last old.entries bytes)) from-place

  behind-is : (behind : List ℕ) → behind_last old.entries tail ≡ Some behind → (behind ≡ drop 64 tail) × (64 ≤ length tail)
  behind-is behind h = by (nat_le 64 (length tail)) (is_this (slice_get old.entries (length old.entries - 1)) (separate_at (take 64 tail) (length old.entries - 1))) refl h
    where
      same : (x y : List ℕ) → Some x ≡ Some y → y ≡ x
      same x y e = cc

      long : (n : ℕ) → nat_le 64 n ≡ true → 64 ≤ n
      long n h = grind arith

      by : (a b : Bool) → nat_le 64 (length tail) ≡ a → cond (a && b) (Some (drop 64 tail)) None ≡ Some behind → (behind ≡ drop 64 tail) × (64 ≤ length tail)
      by false b e h = cc
      by true false e h = cc
      by true true e h = (same (drop 64 tail) behind h, long (length tail) e)

  -- where the index goes on from the old entries, the last of them stands at its place
  last-stands : old.inline ≡ false → 0 < length old.entries → at_rest t (separate_whole_asks old.entries) ≡ Ok log → behind_asks old (behind_last old.entries tail) ≡ answer (Ok log)
  last-stands separate some h =
      let loads = whole-loads h in
      let whole = whole-index t log (after-is old.entries (log_of front) log loads) in
      let begins = front-of-new 0 old.entries log.entries (after-ok old.entries (log_of front) log loads) in
      let room = whole.0 in
      let count = (loaded-count index log whole.1).0 in
      let longer = ap length begins.1 ∙ length-append old.entries begins.0 in
      let size : length (take place index) ≡ place = length-take-le place index (omega (arith, count, longer, some)) in
      let joined : index ≡ take place index ++ drop place index = sym (take-append-drop place index) in
      let short : length (drop place index) ≤ most_pieces * piece_length = (let d = length-drop place index in omega (arith, d, room)) in
      ap (λ bytes. behind_asks old (behind_last old.entries bytes)) (take_all (most_pieces * piece_length) (drop place index) short)
      ∙ tail-answers (take place index) (drop place index) old log separate some size (ap (loaded Ignore) (sym joined) ∙ whole.1) begins

  last-given : old.inline ≡ false → log.inline ≡ false → 0 < length old.entries → at_rest t (behind_asks old (behind_last old.entries tail)) ≡ Ok log → length tail + given_at_rest t (behind_asks old (behind_last old.entries tail)) ≤ 64 * (length log.entries - length old.entries + 2)
  last-given separate stays some h = by (behind_last old.entries tail) refl h
    where
      few : (n behind entries before : ℕ) → 64 ≤ n → behind ≡ n - 64 → entries ≡ before + behind / 64 → n + 0 ≤ 64 * (entries - before + 2)
      few n behind entries before l e c = omega (arith, l, e, c)

      by : (found : Option (List ℕ)) → behind_last old.entries tail ≡ found → at_rest t (behind_asks old found) ≡ Ok log → length tail + given_at_rest t (behind_asks old found) ≤ 64 * (length log.entries - length old.entries + 2)
      by None is m = absurd (not-answered old.entries (Ok log) (ap (behind_asks old) (sym is) ∙ last-stands separate some (whole-apart stays m)))
      by (Some behind) is m =
          let b = behind-is behind is in
          let size = ap length b.0 ∙ length-drop 64 tail in
          let count = (load-grows (length behind / 64) old log behind (log-loads (load_from Ignore (length behind / 64) old behind) log m)).count in
          few (length tail) (length behind) (length log.entries) (length old.entries) b.1 size count

  abbrev most : ℕ
  most = 64 * (length log.entries - length old.entries + 2)

  abbrev tail_asks : Asks (Result Log ReadAnswer)
  tail_asks = pieces_from changelog_index place most_pieces [] (λ bytes. behind_asks old (behind_last old.entries bytes))

  behind-given : old.inline ≡ false → log.inline ≡ false → at_rest t (behind_log_asks old) ≡ Ok log → given_at_rest t (behind_log_asks old) ≤ most
  behind-given separate stays h = by (length old.entries == 0) refl h
    where
      none_old : (n : ℕ) → (n == 0) ≡ true → n ≡ 0
      none_old n h = grind (arith, nat_tests, h)

      some_old : (n : ℕ) → (n == 0) ≡ false → 0 < n
      some_old n h = grind (arith, nat_tests, h)

      by : (b : Bool) → (length old.entries == 0) ≡ b → at_rest t (cond b (whole_log_asks old.entries) tail_asks) ≡ Ok log → given_at_rest t (cond b (whole_log_asks old.entries) tail_asks) ≤ most
      by true e m =
          subst (λ n. n ≤ most) (sym (apart-given t (log_after old.entries) (plain stays m))) (whole-given (none_old (length old.entries) e) (whole-apart stays m))
      by false e m =
          let few = last-given separate stays (some_old (length old.entries) e) (sym tail-rests ∙ m) in
          subst (λ n. n ≤ most) (sym tail-given) few

  pub newer-given : old.inline ≡ false → log.inline ≡ false → at_rest t (newer_log_asks old) ≡ Ok log → given_at_rest t (newer_log_asks old) ≤ most
  newer-given separate stays h =
      let P : Bool → Type 0 = λ b. at_rest t (cond b (inline_whole_asks old.entries) (behind_log_asks old)) ≡ Ok log → given_at_rest t (cond b (inline_whole_asks old.entries) (behind_log_asks old)) ≤ most in
      subst P (sym separate) (behind-given separate stays) h

  -- what is read of a separate index is separate
  pub newer-separate : is_inline index ≡ false → at_rest t (newer_log_asks old) ≡ Ok log → log.inline ≡ false
  newer-separate apart h = by old.inline (length old.entries == 0) refl h
    where
      whole : at_rest t (whole_log_asks old.entries) ≡ Ok log → log.inline ≡ false
      whole m = said-form t (log_after old.entries) (after-is old.entries) log m ∙ apart

      behind : old.inline ≡ false → (found : Option (List ℕ)) → at_rest t (behind_asks old found) ≡ Ok log → log.inline ≡ false
      behind separate None m = whole m
      behind separate (Some rest) m = (load-grows (length rest / 64) old log rest (log-loads (load_from Ignore (length rest / 64) old rest) log m)).form ∙ separate

      by : (a b : Bool) → old.inline ≡ a → at_rest t (cond a (inline_whole_asks old.entries) (cond b (whole_log_asks old.entries) tail_asks)) ≡ Ok log → log.inline ≡ false
      by true b is m = whole (sym (once-is t (log_after old.entries)) ∙ m)
      by false true is m = whole m
      by false false is m = behind is (behind_last old.entries tail) (sym tail-rests ∙ m)

-- ---- a refresh

-- what was opened has the form of the index
pub opened-form : (t : Tree) (view : View) → at_rest t open_asks ≡ Ok view → view.changelog.inline ≡ is_inline (bytes_at t changelog_index)
opened-form t view h = said-form t (λ r. r) (λ r log e. e) view.changelog (opened_log t view h)

pub refreshed-separate : (t : Tree) (old view : View) → is_inline (bytes_at t changelog_index) ≡ false → at_rest t (refresh_asks old) ≡ Ok view → view.changelog.inline ≡ false
refreshed-separate t old view separate h =
    let newer = newer_log_asks old.changelog in
    let behind_log = λ (marks : List Mark) (nodes : Nodes) (log : Log). then_asks roots_asks (λ roots. answer (view_of marks nodes log roots)) in
    let behind_nodes = λ (marks : List Mark) (nodes : Nodes). then_asks newer (behind_log marks nodes) in
    let b = rest_both t bookmarks_asks (λ marks. then_asks dirstate_asks (behind_nodes marks)) view h in
    let c = rest_both t dirstate_asks (behind_nodes b.0) view b.2 in
    let d = rest_both t newer (behind_log b.0 c.0) view c.2 in
    let e = rest_both t roots_asks (λ roots. answer (view_of b.0 c.0 d.0 roots)) view d.2 in
    let log : d.0 ≡ view.changelog = its-log b.0 d.0 e.0 (working_answer d.0.entries c.0) view e.2 in
    subst (λ (l : Log). l.inline ≡ false) log (newer-separate t old.changelog d.0 separate d.1)

sums : {all a b c d behind_a behind_b behind_c most_a most_b most_c most_d : ℕ} → all ≡ a + behind_a → behind_a ≡ b + behind_b → behind_b ≡ c + behind_c → behind_c ≡ d + 0 → a ≤ most_a → b ≤ most_b → c ≤ most_c → d ≤ most_d → all ≤ most_a + most_b + most_d + most_c
sums e f g h i j k l = omega (arith, e, f, g, h, i, j, k, l)

pub refresh-given : (t : Tree) (old view : View) → old.changelog.inline ≡ false → view.changelog.inline ≡ false → at_rest t (refresh_asks old) ≡ Ok view → given_at_rest t (refresh_asks old) ≤ refresh_bytes t old view
refresh-given t old view separate stays h =
    let newer = newer_log_asks old.changelog in
    let behind_log = λ (marks : List Mark) (nodes : Nodes) (log : Log). then_asks roots_asks (λ roots. answer (view_of marks nodes log roots)) in
    let behind_nodes = λ (marks : List Mark) (nodes : Nodes). then_asks newer (behind_log marks nodes) in
    let behind_marks = λ (marks : List Mark). then_asks dirstate_asks (behind_nodes marks) in
    let b = rest_both t bookmarks_asks behind_marks view h in
    let c = rest_both t dirstate_asks (behind_nodes b.0) view b.2 in
    let d = rest_both t newer (behind_log b.0 c.0) view c.2 in
    let e = rest_both t roots_asks (λ roots. answer (view_of b.0 c.0 d.0 roots)) view d.2 in
    let log : d.0 ≡ view.changelog = its-log b.0 d.0 e.0 (working_answer d.0.entries c.0) view e.2 in
    let marks_given = given-then t bookmarks_asks behind_marks b.0 b.1 in
    let nodes_given = given-then t dirstate_asks (behind_nodes b.0) c.0 c.1 in
    let log_given = given-then t newer (behind_log b.0 c.0) d.0 d.1 in
    let roots_given = given-then t roots_asks (λ roots. answer (view_of b.0 c.0 d.0 roots)) e.0 e.1 in
    let marks_few = given-whole t bookmarks_path most_bookmarks_text bookmarks_answer in
    let nodes_few = given-whole t dirstate_path most_dirstate dirstate_answer in
    let roots_few = given-whole t roots_path most_roots roots_answer in
    let log_few = subst (λ (l : Log). given_at_rest t newer ≤ 64 * (length l.entries - length old.changelog.entries + 2)) log (newer-given t old.changelog d.0 separate (ap (λ (l : Log). l.inline) log ∙ stays) d.1) in
    sums marks_given nodes_given log_given roots_given marks_few nodes_few log_few roots_few

-- ---- a call

-- what was seen grows on the way of a question
go-grows : {A : Type 0} (start : Tree) (before after : Option (List Op)) (q left : Asks A) (n : ℕ) → GoesTo start before q n after left → Grows before after
go-grows start before after (answer x) left n h = h.0
go-grows start before after (read path from most rest) left n (inl h) = h.0
go-grows start before after (read path from most rest) left n (inr h) = grows-trans before h.0 after h.3 (go-grows start h.0 after (rest h.1) left h.2 h.6)

-- where it is the same at the end, it was the same on the way
stays-same : (l : List Op) (mid : Option (List Op)) → Grows (Some l) mid → Grows mid (Some l) → mid ≡ Some l
stays-same l None f g = absurd (none l f.0 f.1)
  where
    none : (l more : List Op) → None ≡ Some (l ++ more) → ⊥
    none l more e = cc
stays-same l (Some m) f g = ap (λ x. Some x) (prefix-antisym l m (f.0, inside m (l ++ f.0) f.1) (g.0, inside l (m ++ g.0) g.1))
  where
    inside : (a b : List Op) → Some a ≡ Some b → a ≡ b
    inside a b e = cc

-- all reads are answered from the tree that stays
still-way : {A : Type 0} (start : Tree) (l : List Op) (q : Asks A) (n : ℕ) (y : A) → GoesTo start (Some l) q n (Some l) (answer y) → (n ≡ given_at_rest (after_all l start) q) × (at_rest (after_all l start) q ≡ y)
still-way start l (answer x) n y h = (h.1, sym (answer-is y x h.2))
still-way start l (read path from most rest) n y (inl h) = absurd (no-read y path from most rest h.2)
still-way {A} start l (read path from most rest) n y (inr h) =
    let same : h.0 ≡ Some l = stays-same l h.0 h.3 (go-grows start h.0 (Some l) (rest h.1) (answer y) h.2 h.6) in
    let P : Option (List Op) → Type 0 = λ o. IfSome o (λ log. h.1 ≡ part_of (after_all log start) path from most) in
    let part : h.1 ≡ part_of (after_all l start) path from most = subst P same h.4.1 in
    let Q : Option (List Op) → Type 0 = λ o. GoesTo start o (rest h.1) h.2 (Some l) (answer y) in
    let on = still-way start l (rest h.1) h.2 y (subst Q same h.6) in
    let t = after_all l start in
    (h.5 ∙ ap (λ k. size_of h.1 + k) on.0 ∙ ap (λ o. size_of o + given_at_rest t (rest o)) part, ap (λ o. at_rest t (rest o)) (sym part) ∙ on.1)

few-given : (g0 g1 : ℕ) (alone : Bool) (start : Tree) (before after : Option (List Op)) (old view : View) → (alone ≡ true → after ≡ before) → Gave g0 g1 before start after (refresh_asks old) (answer (Ok view)) → GivenFew alone g0 g1 before start old view
few-given g0 g1 alone start None after old view still h is separate stays = tt
few-given g0 g1 alone start (Some l) after old view still h is separate stays =
    let P : Option (List Op) → Type 0 = λ o. GoesTo start (Some l) (refresh_asks old) h.0 o (answer (Ok view)) in
    let way = still-way start l (refresh_asks old) h.0 (Ok view) (subst P (still is) h.2) in
    let few = refresh-given (after_all l start) old view separate stays way.1 in
    at_most h.1.at_most way.0 few
  where
    at_most : {n given most : ℕ} → g1 ≤ g0 + n → n ≡ given → given ≤ most → g1 ≤ g0 + most
    at_most a e f = omega (arith, a, e, f)

-- a refresh that was answered was given few bytes
pub few-takes : (g0 g1 : ℕ) (alone : Bool) (start : Tree) (before after : Option (List Op)) (old : View) (r : Result View ReadAnswer) → (alone ≡ true → after ≡ before) → Takes (λ (view : View). view) g0 g1 before start after (refresh_asks old) r → IfOk r (λ view. GivenFew alone g0 g1 before start old view)
few-takes g0 g1 alone start before after old (Ok view) still h = few-given g0 g1 alone start before after old view still h
few-takes g0 g1 alone start before after old (Err e) still h = tt
