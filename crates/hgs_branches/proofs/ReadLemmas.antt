-- Changesets that are read one after another.
use Rattle.std.proofs.Common.{◌≡◌, ◌<◌, ◌≤◌, ℕ, zero, suc, ◌+◌, ◌-◌, Bool, true, false, List, [], ◌∷◌, ◌++◌, length, Option, Some, None, Result, Ok, Err, if◌then◌else◌, refl, sym, ◌∙◌, ap, subst, inl, inr, arith}
use Rattle.std.specs.Prelude.{⊤, IfSome, nat_lt, slice_get}
use Rattle.std.specs.Bool.{MatchBool}
use Rattle.std.proofs.lemmas.Bool.Decides.{nat_tests}
use Rattle.hgs_bytes.specs.Bytes.{IsPrefixOf}
use Rattle.hgs_files.specs.declared.op.Op.{Op}
use Rattle.hgs_files.specs.Reads.{Grows}
use Rattle.hgs_files.specs.Tree.{Tree, after_all}
use Rattle.hgs_index.specs.ChangeText.{Change}
use Rattle.hgs_index.specs.declared.entry.Entry.{Entry}
use Rattle.hgs_load.specs.declared.answer.ReadAnswer.{ReadAnswer}
use Rattle.hgs_load.specs.declared.answer.ReadAnswer.TheVariants.{Memory}
use Rattle.hgs_load.specs.Answer.{is_of_outside}
use Rattle.hgs_load.specs.Asks.{Asks, answer, read, part_of, then_asks, MayAnswer, MayAnswerWhereTold}
use Rattle.hgs_load.specs.Given.{size_of, Gave, GaveRefused, GoesTo, IsAnswer, Takes}
use Rattle.hgs_load.specs.Theorems.AskLemmas.{either, prefix-trans}
use Rattle.hgs_load.specs.Theorems.GivenLemmas.{gave-both, gave-then, refused-behind, refused-both, refused-then}
use Rattle.hgs_load.specs.View.{View}
use Rattle.hgs_reader.specs.Line.{change_asks, change_at, chunks_path}
use Rattle.hgs_branch.specs.declared.changeset.OnBranch.{OnBranch}
use Rattle.hgs_branches.specs.Read.{stored_between, AreRead, IsRead, IsRefused, IsRefusedAt, IsUnmade}
use Rattle.hgs_branches.specs.Windows.{behind_change, changes_asks, changes_behind, chunk_in, chunk_span, held_asks, no_window, window_asks, window_of}
use Rattle.hgs_branches.specs.declared.window.Run.{Run}
use Rattle.hgs_branches.specs.declared.window.Window.{Window}
use Rattle.hgs_branches.proofs.HoldLemmas.{change_held, IsHeld}
use Rattle.hgs_branches.proofs.SumLemmas.{between_both, get_there}
use Rattle.hgs_branches.proofs.WindowLemmas.{window_is, Covers}

-- ---- moments

may_later : {A : Type 0} (start : Tree) (first last later : List Op) (q : Asks A) (y : A) → IsPrefixOf last later → MayAnswer start first q last y → MayAnswer start first q later y
may_later start first last later (answer x) y p h = (prefix-trans first last later h.0 p, h.1)
may_later start first last later (read path from most rest) y p h = (h.0, h.1, may_later start h.0 last later (rest (part_of (after_all h.0 start) path from most)) y p h.2)

told_later : {A : Type 0} (a b c : Option (List Op)) (start : Tree) (q : Asks A) (y : A) → Grows b c → MayAnswerWhereTold a start b q y → MayAnswerWhereTold a start c q y
told_later None b c start q y g h = tt
told_later (Some first) None c start q y g h = subst (λ o. IfSome o (λ last. MayAnswer start first q last y)) (sym g) tt
told_later (Some first) (Some last) c start q y g h = subst (λ o. IfSome o (λ l. MayAnswer start first q l y)) (sym g.1) (may_later start first last (last ++ g.0) q y (g.0, refl) h)

-- ---- changesets

read_later : (a b c : Option (List Op)) (start : Tree) (view : View) (rev : ℕ) (x : OnBranch) → Grows b c → IsRead a start b view rev x → IsRead a start c view rev x
read_later a b c start view rev x g h = record { entry = h.entry; there = h.there; p1 = h.p1; p2 = h.p2; change = h.change; answer = told_later a b c start (change_asks view rev) (Ok h.change) g h.answer; branch = h.branch }

all_later : (a b c : Option (List Op)) (start : Tree) (view : View) (rev : ℕ) (xs : List OnBranch) → Grows b c → AreRead a start b view rev xs → AreRead a start c view rev xs
all_later a b c start view rev [] g h = h
all_later a b c start view rev (x ∷ xs) g h = (read_later a b c start view rev x g h.0, all_later a b c start view (suc rev) xs g h.1)

read_more : (a c : Option (List Op)) (start : Tree) (view : View) (rev at : ℕ) (xs : List OnBranch) (x : OnBranch) → rev + length xs ≡ at → AreRead a start c view rev xs → IsRead a start c view at x → AreRead a start c view rev (xs ++ x ∷ [])
read_more a c start view rev at [] x e h k = (subst (λ n. IsRead a start c view n x) (let d = e in omega (arith, d)) k, h)
read_more a c start view rev at (y ∷ xs) x e h k = (h.0, read_more a c start view (suc rev) at xs x (omega (arith, e)) h.1 k)

pub read_next : (a b c : Option (List Op)) (start : Tree) (view : View) (rev at : ℕ) (xs more : List OnBranch) (x : OnBranch) → more ≡ xs ++ x ∷ [] → rev + length xs ≡ at → Grows b c → AreRead a start b view rev xs → IsRead a start c view at x → AreRead a start c view rev more
read_next a b c start view rev at xs more x is e g h k = subst (λ l. AreRead a start c view rev l) (sym is) (read_more a c start view rev at xs x e (all_later a b c start view rev xs g h) k)

-- those before were read, and this one was refused
pub refused_next : (a b c : Option (List Op)) (start : Tree) (view : View) (window : Window) (from at upto : ℕ) (xs : List OnBranch) (e : ReadAnswer) → from + length xs ≡ at → at < upto → upto ≤ length view.changelog.entries → Grows b c → AreRead a start b view from xs → Covers window.run.span (chunk_span view.changelog at) → IsHeld a start c view window →
    IsUnmade view at (chunk_in window (chunk_span view.changelog at)) e → IsRefused a start c view from upto e
refused_next a b c start view window from at upto xs e count lt there g front covers was unmade = either (is_of_outside e) (change_at view at (chunk_in window (chunk_span view.changelog at)) ≡ Err e) (IsRefusedAt a start c view from upto e) by unmade
  where
    by : change_at view at (chunk_in window (chunk_span view.changelog at)) ≡ Err e → IsRefusedAt a start c view from upto e
    by is =
        let entry = get_there view.changelog.entries at (omega (arith, lt, there)) in
        let P : Result Change ReadAnswer → Type 0 = λ y. MayAnswerWhereTold a start c (change_asks view at) y in
        record { rev = at; changes = xs; count = count; read = all_later a b c start view from xs g front; below = lt; answer = subst P is (change_held a c start view window at entry.0 entry.1 covers was) }

-- the outside refused
pub outside_refused : (a c : Option (List Op)) (start : Tree) (view : View) (from upto : ℕ) (e : ReadAnswer) → is_of_outside e ≡ true → IsRefused a start c view from upto e
outside_refused a c start view from upto e outside = let P : Bool → Type 0 = λ b. MatchBool b ⊤ (IsRefusedAt a start c view from upto e) in subst P (sym outside) tt

one_longer : (xs : List OnBranch) (x : OnBranch) → length (xs ++ x ∷ []) ≡ length xs + 1
one_longer [] x = refl
one_longer (y ∷ xs) x = let e = one_longer xs x in omega (arith, e)

pub length_next : (xs more : List OnBranch) (x : OnBranch) → more ≡ xs ++ x ∷ [] → length more ≡ length xs + 1
length_next xs more x is = ap length is ∙ one_longer xs x

-- ---- bytes

size_few : (part : Option (List ℕ)) (most : ℕ) → IfSome part (λ bytes. length bytes ≤ most) → size_of part ≤ most
size_few None most k = omega arith
size_few (Some bytes) most k = k

module _ (view : View) (upto : ℕ) (start : Tree) (after : Option (List Op)) (left : Asks (Result Unit ReadAnswer)) (there : upto ≤ length view.changelog.entries) where
  abbrev entries : List Entry
  entries = view.changelog.entries

  few_refused : (b : Option (List Op)) (e : ReadAnswer) (m k : ℕ) → GoesTo start b (answer (Err e)) m after left → m ≤ k
  few_refused b e m k h = let none = h.1 in omega (arith, none)

  few_changed : (rev n : ℕ) (w : Window) (b : Option (List Op)) (m : ℕ) (r : Result Change ReadAnswer) → (GoesTo start b (changes_behind view upto w (suc rev) n) m after left → m ≤ stored_between entries w.run.end upto)
      → GoesTo start b (behind_change r (changes_behind view upto w (suc rev) n)) m after left → m ≤ stored_between entries w.run.end upto
  few_changed rev n w b m (Ok c) rec h = rec h
  few_changed rev n w b m (Err e) rec h = few_refused b e m (stored_between entries w.run.end upto) h

  few_next : (rev n : ℕ) (window : Window) (before : Option (List Op)) (bytes : ℕ) → rev < upto → rev ≤ window.run.end → window.run.end ≤ upto
      → ((w : Window) (b : Option (List Op)) (m : ℕ) → suc rev ≤ w.run.end → w.run.end ≤ upto → GoesTo start b (changes_behind view upto w (suc rev) n) m after left → m ≤ stored_between entries w.run.end upto)
      → GoesTo start before (changes_behind view upto window rev (suc n)) bytes after left → bytes ≤ stored_between entries window.run.end upto
  few_next rev n window before bytes lt lo hi rec h = by (nat_lt rev window.run.end) refl h
    where
      path : List ℕ
      path = chunks_path view.changelog.inline

      run : Run
      run = window_of view.changelog rev upto

      more : Window → Asks (Result Unit ReadAnswer)
      more next = behind_change (change_at view rev (chunk_in next (chunk_span view.changelog rev))) (changes_behind view upto next (suc rev) n)

      on : (w : Window) (b : Option (List Op)) (m : ℕ) → suc rev ≤ w.run.end → w.run.end ≤ upto → GoesTo start b (more w) m after left → m ≤ stored_between entries w.run.end upto
      on w b m l k g = few_changed rev n w b m (change_at view rev (chunk_in w (chunk_span view.changelog rev))) (rec w b m l k) g

      by : (c : Bool) → nat_lt rev window.run.end ≡ c → GoesTo start before (then_asks (if c then answer (Ok window) else window_asks path run) more) bytes after left → bytes ≤ stored_between entries window.run.end upto
      by true e g = on window before bytes (grind (arith, nat_tests, e)) hi g
      by false e (inl g) = let none = g.1 in omega (arith, none)
      by false e (inr g) =
          let is = window_is view.changelog rev upto lt there in
          let some = is.some in
          let within = is.within in
          let sum = is.sum in
          let same : window.run.end ≡ rev = grind (arith, nat_tests, e, lo) in
          let few = size_few g.1 run.span.len g.4.0 in
          let bytes_are = g.5 in
          let rest = on (record { run = run; part = g.1 }) g.0 g.2 (omega (arith, some)) within g.6 in
          let both = between_both entries rev run.end upto (omega (arith, some)) within there in
          let from : stored_between entries window.run.end upto ≡ stored_between entries rev upto = ap (λ k. stored_between entries k upto) same in
          omega (arith, few, bytes_are, rest, both, from, sum)

  few_behind : (n rev : ℕ) (window : Window) (before : Option (List Op)) (bytes : ℕ) → rev + n ≡ upto → rev ≤ window.run.end → window.run.end ≤ upto → GoesTo start before (changes_behind view upto window rev n) bytes after left → bytes ≤ stored_between entries window.run.end upto
  few_behind zero rev window before bytes e lo hi h = let none = h.1 in omega (arith, none)
  few_behind (suc n) rev window before bytes e lo hi h =
      few_next rev n window before bytes (omega (arith, e)) lo hi (λ w b m l k g. few_behind n (suc rev) w b m (omega (arith, e)) l k g) h

few : (old new : ℕ) (before after : Option (List Op)) (start : Tree) (view : View) (from upto : ℕ) (left : Asks (Result Unit ReadAnswer)) → from ≤ upto → upto ≤ length view.changelog.entries → Gave old new before start after (changes_asks view from upto) left → new ≤ old + stored_between view.changelog.entries from upto
few old new before after start view from upto left le there g =
    let most = g.1.at_most in
    let n = few_behind view upto start after left there (upto - from) from (no_window from) before g.0 (omega (arith, le)) (omega arith) le g.2 in omega (arith, most, n)

-- a call that reads these changesets and nothing else is given no more than their stored bytes
pub few_given : {V : Type 0} (old new : ℕ) (before after : Option (List Op)) (start : Tree) (view : View) (from upto : ℕ) (r : Result V ReadAnswer) → from ≤ upto → upto ≤ length view.changelog.entries → Takes (λ (x : V). tt) old new before start after (changes_asks view from upto) r → new ≤ old + stored_between view.changelog.entries from upto
few_given old new before after start view from upto (Ok x) le there h = few old new before after start view from upto (answer (Ok tt)) le there h
few_given old new before after start view from upto (Err e) le there h = by (is_of_outside e) h
  where
    by : (b : Bool) → MatchBool b ((left : Asks (Result Unit ReadAnswer)) × Gave old new before start after (changes_asks view from upto) left) (Gave old new before start after (changes_asks view from upto) (answer (Err e))) → new ≤ old + stored_between view.changelog.entries from upto
    by true k = few old new before after start view from upto k.0 le there k.1
    by false k = few old new before after start view from upto (answer (Err e)) le there k

-- ---- reads

module _ (g0 g1 g2 : ℕ) (before now next : Option (List Op)) (start start_now : Tree) (view : View) (from rev upto : ℕ) (window : Window) (begun : start_now ≡ start) (lt : rev < upto) (gave : Gave g0 g1 before start now (changes_asks view from upto) (changes_behind view upto window rev (upto - rev))) where
  abbrev pub whole : Asks (Result Unit ReadAnswer)
  whole = changes_asks view from upto

  abbrev pub behind : Window → Asks (Result Unit ReadAnswer)
  behind w = behind_change (change_at view rev (chunk_in w (chunk_span view.changelog rev))) (changes_behind view upto w (suc rev) (upto - suc rev))

  this : Gave g0 g1 before start now whole (then_asks (held_asks view window rev upto) behind)
  this = let e : upto - rev ≡ suc (upto - suc rev) = omega (arith, lt) in subst (λ n. Gave g0 g1 before start now whole (changes_behind view upto window rev n)) e gave

  -- the window of the next changeset is there
  pub held_on : (held : Window) → Gave g1 g2 now start_now next (held_asks view window rev upto) (answer (Ok held)) → Gave g0 g2 before start next whole (behind held)
  held_on held h = gave-both g0 g1 g2 before now next start start_now whole (then_asks (held_asks view window rev upto) behind) (behind held) begun this (gave-then g1 g2 now next start_now (held_asks view window rev upto) (answer (Ok held)) behind h)

  pub held_refused : (e : ReadAnswer) → GaveRefused g1 g2 now start_now next (held_asks view window rev upto) e → GaveRefused g0 g2 before start next whole e
  held_refused e h = refused-both g0 g1 g2 before now next start start_now whole (then_asks (held_asks view window rev upto) behind) e begun this (refused-then g1 g2 now next start_now (held_asks view window rev upto) behind e h)

  -- the changeset was made
  pub made_on : (held : Window) (change : Change) → change_at view rev (chunk_in held (chunk_span view.changelog rev)) ≡ Ok change → Gave g1 g2 now start_now next (held_asks view window rev upto) (answer (Ok held)) → Gave g0 g2 before start next whole (changes_behind view upto held (suc rev) (upto - suc rev))
  made_on held change is h = let P : Result Change ReadAnswer → Type 0 = λ r. Gave g0 g2 before start next whole (behind_change r (changes_behind view upto held (suc rev) (upto - suc rev))) in subst P is (held_on held h)

  pub unmade_on : (held : Window) (e : ReadAnswer) → IsUnmade view rev (chunk_in held (chunk_span view.changelog rev)) e → Gave g1 g2 now start_now next (held_asks view window rev upto) (answer (Ok held)) → GaveRefused g0 g2 before start next whole e
  unmade_on held e unmade h =
      let rest : Asks (Result Unit ReadAnswer) = changes_behind view upto held (suc rev) (upto - suc rev) in
      refused-behind g0 g2 before next start whole (behind held) e (held_on held h)
      (either (is_of_outside e) (change_at view rev (chunk_in held (chunk_span view.changelog rev)) ≡ Err e) (behind held ≡ answer (Err e)) (λ m. ap (λ r. behind_change r rest) m) unmade)

-- all changesets were read
pub all_taken : (g0 g1 : ℕ) (before now : Option (List Op)) (start : Tree) (view : View) (from rev upto : ℕ) (window : Window) → upto ≤ rev → Gave g0 g1 before start now (changes_asks view from upto) (changes_behind view upto window rev (upto - rev)) → Gave g0 g1 before start now (changes_asks view from upto) (answer (Ok tt))
all_taken g0 g1 before now start view from rev upto window le gave =
    let e : upto - rev ≡ 0 = omega (arith, le) in
    let P : ℕ → Type 0 = λ n. Gave g0 g1 before start now (changes_asks view from upto) (changes_behind view upto window rev n) in
    subst P e gave
