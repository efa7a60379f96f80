-- What an answered question says of its parts.
use Rattle.std.proofs.Common.{◌≡◌, inl, inr, ℕ, zero, suc, ◌+◌, ◌/◌, Bool, true, false, cond, List, [], ◌++◌, length, Option, Some, None, Result, Ok, Err, refl, sym, ap, subst, arith}
use Rattle.std.specs.Prelude.{◌==◌, nat_lt, unwrap_or, IfOk}
use Rattle.hgs_bytes.specs.Bytes.{IsPrefixOf}
use Rattle.hgs_files.specs.declared.op.Op.{Op}
use Rattle.hgs_files.specs.Tree.{Tree}
use Rattle.hgs_index.specs.declared.entry.Entry.{Entry}
use Rattle.hgs_index.specs.declared.kinds.Which.TheVariants.{Part}
use Rattle.hgs_index.specs.Inline.{is_inline}
use Rattle.hgs_marks.specs.Bookmarks.{Mark}
use Rattle.hgs_phases.specs.declared.roots.Root.{Root}
use Rattle.hgs_revlog.specs.declared.fault.RevFault.{RevFault}
use Rattle.hgs_revlog.specs.declared.fault.Tail.TheVariants.{Ignore}
use Rattle.hgs_revlog.specs.Load.{load_from}
use Rattle.hgs_revlog.specs.Log.{Log}
use Rattle.hgs_revlog.specs.Theorems.BehindLemmas.{load-grows}
use Rattle.hgs_load.specs.declared.answer.ReadAnswer.{ReadAnswer}
use Rattle.hgs_load.specs.declared.answer.ReadAnswer.TheVariants.{Limit}
use Rattle.hgs_load.specs.Asks.{Asks, answer, read, then_asks}
use Rattle.hgs_load.specs.Form.{either_log_of, is_long_apart, most_inline_index, unless_inline}
use Rattle.hgs_load.specs.Given.{size_of, GoesTo, Takes}
use Rattle.hgs_load.specs.Marks.{Working, working_answer}
use Rattle.hgs_load.specs.Open.{bookmarks_asks, dirstate_asks, roots_asks, log_of, view_of, view_with}
use Rattle.hgs_load.specs.Refresh.{behind_asks, behind_last, first_changed, last_place, unless_changed, inline_whole_asks, log_after, log_on, newer_log_asks, refresh_asks, separate_whole_asks, whole_log_asks}
use Rattle.hgs_load.specs.View.{View, changelog_index, pieces_by, pieces_from, piece_length, most_pieces, log_answer}
use Rattle.hgs_load.specs.Whole.{is_above, within}
use Rattle.hgs_load.specs.Theorems.AskLemmas.{grows-refl}
use Rattle.hgs_load.proofs.HistoryLemmas.{front-of-new}

abbrev answer_of : {A : Type 0} → Asks A → Option A
answer_of (answer x) = Some x
answer_of (read path from most rest) = None

pub answer-is : {A : Type 0} (x y : A) → (let q : Asks A = answer x in q) ≡ answer y → x ≡ y
answer-is {A} x y h = some_is x y (ap answer_of h)
  where
    some_is : (x y : A) → Some x ≡ Some y → x ≡ y
    some_is x y e = cc

pub no-read : {A : Type 0} (x : A) (path : List ℕ) (from most : ℕ) (rest : Option (List ℕ) → Asks A) → (let q : Asks A = answer x in q) ≡ read path from most rest → ⊥
no-read x path from most rest h = none x (ap answer_of h)
  where
    none : {A : Type 0} (x : A) → Some x ≡ None → ⊥
    none x e = cc

pub no-ok : {A : Type 0} (x : A) (e : ReadAnswer) → (let a : Result A ReadAnswer = Ok x in a) ≡ Err e → ⊥
no-ok x e h = cc

pub ok-is : {A : Type 0} (x y : A) → (let a : Result A ReadAnswer = Ok x in a) ≡ Ok y → x ≡ y
ok-is x y e = cc

-- the first question was answered, and then the next one
pub record Both {A B : Type 0} (start : Tree) (before : Option (List Op)) (q : Asks (Result A ReadAnswer)) (more : A → Asks (Result B ReadAnswer)) (bytes : ℕ) (after : Option (List Op)) (y : B) : Type 0 where
  pub value : A
  pub mid : Option (List Op)
  pub first : ℕ
  pub second : ℕ
  pub sum : bytes ≡ first + second
  pub to_first : GoesTo start before q first mid (answer (Ok value))
  pub to_second : GoesTo start mid (more value) second after (answer (Ok y))

pub go-parts : {A B : Type 0} (start : Tree) (before after : Option (List Op)) (q : Asks (Result A ReadAnswer)) (more : A → Asks (Result B ReadAnswer)) (bytes : ℕ) (y : B) → GoesTo start before (then_asks q more) bytes after (answer (Ok y)) → Both start before q more bytes after y
go-parts start before after (answer (Ok x)) more bytes y h = record { value = x; mid = before; first = 0; second = bytes; sum = omega arith; to_first = (grows-refl before, refl, refl); to_second = h }
go-parts start before after (answer (Err e)) more bytes y h = absurd (no-ok y e (answer-is (Ok y) (Err e) h.2))
go-parts start before after (read path from most rest) more bytes y (inl h) = absurd (no-read (Ok y) path from most (λ part. then_asks (rest part) more) h.2)
go-parts start before after (read path from most rest) more bytes y (inr h) =
    let r = go-parts start h.0 after (rest h.1) more h.2 y h.6 in
    let sum = h.5 in
    let more_sum = r.sum in
    record { value = r.value; mid = r.mid; first = size_of h.1 + r.first; second = r.second; sum = omega (arith, sum, more_sum); to_first = inr (h.0, h.1, r.first, h.3, h.4, refl, r.to_first); to_second = r.to_second }

-- A file was read in pieces, and what was asked then was answered.
pub record PiecesRead {A : Type 0} (start : Tree) (bytes : List ℕ) (more : List ℕ → Asks (Result A ReadAnswer)) (n : ℕ) (after : Option (List Op)) (y : A) : Type 0 where
  pub index : List ℕ
  pub mid : Option (List Op)
  pub rest : ℕ
  pub goes_on : GoesTo start mid (more index) rest after (answer (Ok y))

pub pieces-read : {A : Type 0} (start : Tree) (path : List ℕ) (place : List ℕ → ℕ) (left : ℕ) (bytes : List ℕ) (more : List ℕ → Asks (Result A ReadAnswer)) (before after : Option (List Op)) (n : ℕ) (y : A) → GoesTo start before (pieces_by path place left bytes more) n after (answer (Ok y)) → PiecesRead start bytes more n after y
pieces-read start path place zero bytes more before after n y h = record { index = bytes; mid = before; rest = n; goes_on = h }
pieces-read start path place (suc left) bytes more before after n y (inl h) = absurd (no-read (Ok y) path (place bytes) piece_length _ h.2)
pieces-read {A} start path place (suc left) bytes more before after n y (inr h) = by (nat_lt (length (unwrap_or h.1 [])) piece_length) h.6
    (λ m. let r = pieces-read start path place left (bytes ++ unwrap_or h.1 []) more h.0 after h.2 y m in record { index = r.index; mid = r.mid; rest = r.rest; goes_on = r.goes_on })
  where
    piece : List ℕ
    piece = unwrap_or h.1 []

    by : (b : Bool) → GoesTo start h.0 (cond b (more (bytes ++ piece)) (pieces_by path place left (bytes ++ piece) more)) h.2 after (answer (Ok y))
        → (GoesTo start h.0 (pieces_by path place left (bytes ++ piece) more) h.2 after (answer (Ok y)) → PiecesRead start bytes more n after y)
        → PiecesRead start bytes more n after y
    by true m on = record { index = bytes ++ piece; mid = h.0; rest = h.2; goes_on = m }
    by false m on = on m

-- ---- a refresh

pub after-ok : (old : List Entry) (r : Result Log ReadAnswer) (log : Log) → log_after old r ≡ Ok log → first_changed 0 old log.entries ≡ None
after-ok old (Err e) log h = absurd (no-ok log e (sym h))
after-ok old (Ok found) log h = by (first_changed 0 old found.entries) refl h
  where
    by : (o : Option ℕ) → first_changed 0 old found.entries ≡ o → unless_changed o found ≡ Ok log → first_changed 0 old log.entries ≡ None
    by None same u = let P : Log → Type 0 = λ l. first_changed 0 old l.entries ≡ None in subst P (ok-is found log u) same
    by (Some rev) same u = absurd (no-ok log _ (sym u))

-- the whole index is read before anything is answered
pub not-answered : (old : List Entry) (r : Result Log ReadAnswer) → whole_log_asks old ≡ answer r → ⊥
not-answered old r h = none (ap answer_of h)
  where
    none : None ≡ Some r → ⊥
    none e = cc

-- the whole index was read again, in pieces
apart-front : (start : Tree) (before after : Option (List Op)) (old : List Entry) (n : ℕ) (log : Log) → GoesTo start before (separate_whole_asks old) n after (answer (Ok log)) → IsPrefixOf old log.entries
apart-front start before after old n log h =
    let r = pieces-read start changelog_index length most_pieces [] (λ index. answer (log_after old (log_of index))) before after n log h in
    front-of-new 0 old log.entries (after-ok old (log_of r.index) log (sym (answer-is (Ok log) (log_after old (log_of r.index)) r.goes_on.2)))

-- or in one read
once-front : (start : Tree) (before after : Option (List Op)) (old : List Entry) (n : ℕ) (log : Log) → GoesTo start before (inline_whole_asks old) n after (answer (Ok log)) → IsPrefixOf old log.entries
once-front start before after old n log (inl h) = absurd (no-read (Ok log) changelog_index 0 (suc most_inline_index) _ h.2)
once-front start before after old n log (inr h) = by (is_long_apart h.1) h.6
  where
    answered : (b : Bool) → cond b (Err (Limit Part)) (log_after old (either_log_of (unwrap_or h.1 []))) ≡ Ok log → IsPrefixOf old log.entries
    answered true e = absurd (no-ok log _ (sym e))
    answered false e = front-of-new 0 old log.entries (after-ok old (either_log_of (unwrap_or h.1 [])) log e)

    by : (b : Bool) → GoesTo start h.0 (cond b (separate_whole_asks old) (answer (within most_inline_index (λ whole. log_after old (either_log_of (unwrap_or whole []))) h.1))) h.2 after (answer (Ok log)) → IsPrefixOf old log.entries
    by true m = apart-front start h.0 after old h.2 log m
    by false m = answered (is_above most_inline_index h.1) (sym (answer-is (Ok log) (within most_inline_index (λ whole. log_after old (either_log_of (unwrap_or whole []))) h.1) m.2))

-- A question was answered, and another where its first read said that the index is inline.
pub go-either : {A : Type 0} (start : Tree) (before after : Option (List Op)) (inline q : Asks A) (n : ℕ) (y : A) (P : Type 0) → GoesTo start before (unless_inline inline q) n after (answer y)
    → (GoesTo start before q n after (answer y) → P) → ((mid : Option (List Op)) (more : ℕ) → GoesTo start mid inline more after (answer y) → P) → P
go-either start before after inline (answer x) n y P h apart once = apart h
go-either start before after inline (read path from most rest) n y P (inl h) apart once = absurd (no-read y path from most _ h.2)
go-either {A} start before after inline (read path from most rest) n y P (inr h) apart once = by (is_inline (unwrap_or h.1 [])) h.6
  where
    by : (b : Bool) → GoesTo start h.0 (cond b inline (rest h.1)) h.2 after (answer y) → P
    by true m = once h.0 h.2 m
    by false m = apart (inr (h.0, h.1, h.2, h.3, h.4, h.5, m))

whole-front : (start : Tree) (before after : Option (List Op)) (old : List Entry) (n : ℕ) (log : Log) → GoesTo start before (whole_log_asks old) n after (answer (Ok log)) → IsPrefixOf old log.entries
whole-front start before after old n log h =
    go-either start before after (inline_whole_asks old) (separate_whole_asks old) n (Ok log) (IsPrefixOf old log.entries) h
    (λ m. apart-front start before after old n log m) (λ mid more m. once-front start mid after old more log m)

pub log-loads : (r : Result Log RevFault) (log : Log) → log_answer changelog_index r ≡ Ok log → r ≡ Ok log
log-loads (Ok x) log h = cc
log-loads (Err f) log h = cc

behind-front : (start : Tree) (before after : Option (List Op)) (old : Log) (found : Option (List ℕ)) (n : ℕ) (log : Log) → GoesTo start before (behind_asks old found) n after (answer (Ok log)) → IsPrefixOf old.entries log.entries
behind-front start before after old None n log h = whole-front start before after old.entries n log h
behind-front start before after old (Some behind) n log h =
    (load-grows (length behind / 64) old log behind (log-loads (load_from Ignore (length behind / 64) old behind) log (sym (answer-is (Ok log) (log_on old behind) h.2)))).begins

-- the new history begins with the old one
newer-front : (start : Tree) (before after : Option (List Op)) (old : Log) (n : ℕ) (log : Log) → GoesTo start before (newer_log_asks old) n after (answer (Ok log)) → IsPrefixOf old.entries log.entries
newer-front start before after old n log h = by old.inline (length old.entries == 0) h
  where
    by : (a b : Bool) → GoesTo start before (cond a (inline_whole_asks old.entries) (cond b (whole_log_asks old.entries) (pieces_from changelog_index (last_place old.entries) most_pieces [] (λ tail. behind_asks old (behind_last old.entries tail))))) n after (answer (Ok log)) → IsPrefixOf old.entries log.entries
    by true b m = once-front start before after old.entries n log m
    by false true m = whole-front start before after old.entries n log m
    by false false m =
        let r = pieces-read start changelog_index (λ bytes. last_place old.entries + length bytes) most_pieces [] (λ tail. behind_asks old (behind_last old.entries tail)) before after n log m in
        behind-front start r.mid after old (behind_last old.entries r.index) r.rest log r.goes_on

pub its-log : (marks : List Mark) (log : Log) (roots : List Root) (working : Result Working ReadAnswer) (view : View) → view_with marks log roots working ≡ Ok view → log ≡ view.changelog
its-log marks log roots (Err e) view h = absurd (no-ok view e (sym h))
its-log marks log roots (Ok w) view h = ap (λ (v : View). v.changelog) (ok-is _ view h)

-- a refresh that is answered goes on from the old history
pub refreshed-front : (start : Tree) (before after : Option (List Op)) (old view : View) (bytes : ℕ) → GoesTo start before (refresh_asks old) bytes after (answer (Ok view)) → IsPrefixOf old.changelog.entries view.changelog.entries
refreshed-front start before after old view bytes h =
    let newer = newer_log_asks old.changelog in
    let a = go-parts start before after bookmarks_asks (λ marks. then_asks dirstate_asks (λ nodes. then_asks newer (λ log. then_asks roots_asks (λ roots. answer (view_of marks nodes log roots))))) bytes view h in
    let b = go-parts start a.mid after dirstate_asks (λ nodes. then_asks newer (λ log. then_asks roots_asks (λ roots. answer (view_of a.value nodes log roots)))) a.second view a.to_second in
    let c = go-parts start b.mid after newer (λ log. then_asks roots_asks (λ roots. answer (view_of a.value b.value log roots))) b.second view b.to_second in
    let d = go-parts start c.mid after roots_asks (λ roots. answer (view_of a.value b.value c.value roots)) c.second view c.to_second in
    let kept = newer-front start b.mid c.mid old.changelog c.first c.value c.to_first in
    let log = its-log a.value c.value d.value (working_answer c.value.entries b.value) view (sym (answer-is (Ok view) (view_of a.value b.value c.value d.value) d.to_second.2)) in
    let P : Log → Type 0 = λ l. IsPrefixOf old.changelog.entries l.entries in
    subst P log kept

pub refreshed-takes : (g0 g1 : ℕ) (start : Tree) (before after : Option (List Op)) (old : View) (r : Result View ReadAnswer) → Takes (λ (view : View). view) g0 g1 before start after (refresh_asks old) r → IfOk r (λ view. IsPrefixOf old.changelog.entries view.changelog.entries)
refreshed-takes g0 g1 start before after old (Ok view) h = refreshed-front start before after old view h.0 h.2
refreshed-takes g0 g1 start before after old (Err e) h = tt
