-- The views that parts give.
use Rattle.std.proofs.Common.{◌≡◌, ℕ, ◌+◌, ◌*◌, ◌<◌, ◌≤◌, Bool, true, false, cond, List, [], ◌++◌, length, take, drop, None, Ok, refl, sym, ◌∙◌, ap, arith, length-append}
use Rattle.std.specs.Prelude.{◌==◌}
use Rattle.std.proofs.lemmas.Bool.Decides.{nat_tests}
use Rattle.std.proofs.lemmas.List.{take-append-drop, take_all, length-take-le, length-drop}
use Rattle.hgs_files.specs.Tree.{Tree, bytes_at}
use Rattle.hgs_index.specs.Inline.{is_inline}
use Rattle.hgs_revlog.specs.declared.fault.Tail.TheVariants.{Ignore}
use Rattle.hgs_revlog.specs.Load.{loaded}
use Rattle.hgs_revlog.specs.Theorems.BehindLemmas.{loaded-count}
use Rattle.hgs_marks.specs.Bookmarks.{Mark}
use Rattle.hgs_phases.specs.declared.roots.Root.{Root}
use Rattle.hgs_phases.specs.Phases.{phases_by}
use Rattle.hgs_revlog.specs.Log.{Log}
use Rattle.hgs_load.specs.Asks.{answer, at_rest, then_asks}
use Rattle.hgs_load.specs.Marks.{Nodes, Working, working_answer}
use Rattle.hgs_load.specs.Open.{requires_asks, bookmarks_asks, dirstate_asks, log_asks, roots_asks, separate_log_asks, view_with, view_of, open_asks}
use Rattle.hgs_load.specs.Refresh.{behind_asks, behind_last, first_changed, last_place, unless_changed, inline_whole_asks, log_after, newer_log_asks, refresh_asks, whole_log_asks}
use Rattle.hgs_load.specs.View.{View, changelog_index, pieces_from, piece_length, most_pieces}
use Rattle.hgs_load.specs.Theorems.OpenedLemmas.{rest_then}
use Rattle.hgs_load.specs.Theorems.TailLemmas.{tail-answers}
use Rattle.hgs_load.proofs.HistoryLemmas.{front-of-new}
use Rattle.hgs_load.proofs.IndexLemmas.{apart-rest, once-is, said-form, said-through}
use Rattle.hgs_load.proofs.WholeLemmas.{pieces_front, index-front, whole-index}

pub opening : (t : Tree) (marks : List Mark) (nodes : Nodes) (log : Log) (roots : List Root) (working : Working) → at_rest t requires_asks ≡ Ok tt → at_rest t bookmarks_asks ≡ Ok marks → at_rest t dirstate_asks ≡ Ok nodes → at_rest t log_asks ≡ Ok log → at_rest t roots_asks ≡ Ok roots
    → working_answer log.entries nodes ≡ Ok working → at_rest t open_asks ≡ Ok (record { changelog = log; bookmarks = marks; working = working; phases = phases_by roots log.entries })
opening t marks nodes log roots working a b c d e w =
    rest_then t requires_asks (λ x. then_asks bookmarks_asks (λ marks. then_asks dirstate_asks (λ nodes. then_asks log_asks (λ log. then_asks roots_asks (λ roots. answer (view_of marks nodes log roots)))))) tt a
    ∙ rest_then t bookmarks_asks (λ marks. then_asks dirstate_asks (λ nodes. then_asks log_asks (λ log. then_asks roots_asks (λ roots. answer (view_of marks nodes log roots))))) marks b
    ∙ rest_then t dirstate_asks (λ nodes. then_asks log_asks (λ log. then_asks roots_asks (λ roots. answer (view_of marks nodes log roots)))) nodes c
    ∙ rest_then t log_asks (λ log. then_asks roots_asks (λ roots. answer (view_of marks nodes log roots))) log d
    ∙ rest_then t roots_asks (λ roots. answer (view_of marks nodes log roots)) roots e
    ∙ ap (view_with marks log roots) w

whole-again : (t : Tree) (old log : Log) → at_rest t log_asks ≡ Ok log → first_changed 0 old.entries log.entries ≡ None → at_rest t (whole_log_asks old.entries) ≡ Ok log
whole-again t old log reads none =
    said-through t (log_after old.entries) (λ e. refl)
    ∙ ap (log_after old.entries) reads
    ∙ ap (λ o. unless_changed o log) none

-- so it is of one read of all
once-again : (t : Tree) (old log : Log) → at_rest t log_asks ≡ Ok log → first_changed 0 old.entries log.entries ≡ None → at_rest t (inline_whole_asks old.entries) ≡ Ok log
once-again t old log reads none = once-is t (log_after old.entries) ∙ whole-again t old log reads none

some_entries : (n : ℕ) → (n == 0) ≡ false → 0 < n
some_entries n h = grind (arith, nat_tests, h)

-- of an index that begins with the old entries what stands from the last of them on is enough
last-again : (t : Tree) (old log : Log) → old.inline ≡ false → 0 < length old.entries → at_rest t separate_log_asks ≡ Ok log → first_changed 0 old.entries log.entries ≡ None
    → at_rest t (pieces_from changelog_index (last_place old.entries) most_pieces [] (λ tail. behind_asks old (behind_last old.entries tail))) ≡ Ok log
last-again t old log separate some reads none =
    let index = bytes_at t changelog_index in
    let place = last_place old.entries in
    let whole = whole-index t log (sym (index-front t) ∙ reads) in
    let begins = front-of-new 0 old.entries log.entries none in
    let room = whole.0 in
    let count = (loaded-count index log whole.1).0 in
    let longer = ap length begins.1 ∙ length-append old.entries begins.0 in
    let size : length (take place index) ≡ place = length-take-le place index (omega (arith, count, longer, some)) in
    let joined : index ≡ take place index ++ drop place index = sym (take-append-drop place index) in
    let short : length (drop place index) ≤ most_pieces * piece_length = (let d = length-drop place index in omega (arith, d, room)) in
    pieces_front t changelog_index place (λ b. place + length b) (λ b. refl) most_pieces [] (drop place index) (λ tail. behind_asks old (behind_last old.entries tail)) (ap (λ n. drop n index) (let e : place + 0 ≡ place = omega arith in e))
    ∙ ap (λ tail. at_rest t (behind_asks old (behind_last old.entries tail))) (take_all (most_pieces * piece_length) (drop place index) short)
    ∙ ap (at_rest t) (tail-answers (take place index) (drop place index) old log separate some size (ap (loaded Ignore) (sym joined) ∙ whole.1) begins)

newer-log : (t : Tree) (old log : Log) → at_rest t log_asks ≡ Ok log → first_changed 0 old.entries log.entries ≡ None → (old.inline ≡ false → log.inline ≡ false) → at_rest t (newer_log_asks old) ≡ Ok log
newer-log t old log reads none stays = by old.inline (length old.entries == 0) refl refl
  where
    plain : old.inline ≡ false → is_inline (bytes_at t changelog_index) ≡ false
    plain separate = sym (said-form t (λ r. r) (λ r log h. h) log reads) ∙ stays separate

    by : (a b : Bool) → old.inline ≡ a → (length old.entries == 0) ≡ b
        → at_rest t (cond a (inline_whole_asks old.entries) (cond b (whole_log_asks old.entries) (pieces_from changelog_index (last_place old.entries) most_pieces [] (λ tail. behind_asks old (behind_last old.entries tail))))) ≡ Ok log
    by true b is none_old = once-again t old log reads none
    by false true is none_old = whole-again t old log reads none
    by false false is some_old = last-again t old log is (some_entries (length old.entries) some_old) (sym (apart-rest t (λ r. r) (plain is)) ∙ reads) none

pub refreshing : (t : Tree) (old : View) (marks : List Mark) (nodes : Nodes) (log : Log) (roots : List Root) (working : Working) → at_rest t bookmarks_asks ≡ Ok marks → at_rest t dirstate_asks ≡ Ok nodes → at_rest t log_asks ≡ Ok log → at_rest t roots_asks ≡ Ok roots
    → working_answer log.entries nodes ≡ Ok working → first_changed 0 old.changelog.entries log.entries ≡ None → (old.changelog.inline ≡ false → log.inline ≡ false) → at_rest t (refresh_asks old) ≡ Ok (record { changelog = log; bookmarks = marks; working = working; phases = phases_by roots log.entries })
refreshing t old marks nodes log roots working b c d e w none stays =
    let newer = newer_log_asks old.changelog in
    rest_then t bookmarks_asks (λ marks. then_asks dirstate_asks (λ nodes. then_asks newer (λ log. then_asks roots_asks (λ roots. answer (view_of marks nodes log roots))))) marks b
    ∙ rest_then t dirstate_asks (λ nodes. then_asks newer (λ log. then_asks roots_asks (λ roots. answer (view_of marks nodes log roots)))) nodes c
    ∙ rest_then t newer (λ log. then_asks roots_asks (λ roots. answer (view_of marks nodes log roots))) log (newer-log t old.changelog log d none stays)
    ∙ rest_then t roots_asks (λ roots. answer (view_of marks nodes log roots)) roots e
    ∙ ap (view_with marks log roots) w
