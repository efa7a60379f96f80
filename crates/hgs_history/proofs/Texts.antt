-- What is said of a view is its repository's answer.
use Rattle.std.proofs.Common.{◌≡◌, ◌≤◌, ◌<◌, ◌+◌, ◌-◌, ℕ, zero, suc, List, [], ◌∷◌, ◌++◌, append_assoc, append-nil, length, take, drop, refl, sym, ◌∙◌, ap, subst, inl, inr, arith}
use Rattle.std.specs.Prelude.{Option, Some, None, Result, Ok, slice_get}
use Rattle.std.proofs.lemmas.List.{drop-append-le, length-drop, length-take-le}
use Rattle.std.proofs.Math.ListN.{drop_of_length-le}
use Rattle.hgs_bytes.specs.Bytes.{IsPrefixOf}
use Rattle.hgs_files.specs.declared.op.Op.{Op}
use Rattle.hgs_files.specs.Tree.{Tree, after_all}
use Rattle.hgs_load.specs.Asks.{Asks, MayAnswer, answer, part_of, read}
use Rattle.hgs_load.specs.Theorems.AskLemmas.{prefix-refl, prefix-trans}
use Rattle.hgs_load.specs.View.{View}
use Rattle.hgs_load.specs.declared.answer.ReadAnswer.{ReadAnswer}
use Rattle.hgs_model.specs.Names.{named as named_in}
use Rattle.hgs_reader.specs.Names.{named}
use Rattle.hgs_model.specs.Repo.{Changeset, Repo}
use Rattle.hgs_questions.specs.Questions.{line_before, named_asks, newest_asks, question_asks, text_asks, with_answer}
use Rattle.hgs_questions.specs.Said.{behind, phase_line, said, said_of}
use Rattle.hgs_reader.specs.Contents.{cat_asks, files_asks}
use Rattle.hgs_reader.specs.Line.{line_asks}
use Rattle.hgs_script.specs.declared.job.Question.{Question}
use Rattle.hgs_script.specs.declared.job.Question.TheVariants as questions
use Rattle.hgs_script.specs.declared.result.Answered.{Answered}
use Rattle.hgs_shown.specs.Answers.{body_answer, body_at, files_text_of, log_line, log_lines, log_text, phase_text, tree_text}
use Rattle.hgs_views.specs.Course.{Course}
use Rattle.hgs_views.specs.Says.{SaysOf, TellsOf}
use Rattle.hgs_history.specs.Beside.{IsStatusBeside}
use Rattle.hgs_history.specs.Said.{answer_of, newest_lines, of_named}

-- the lists of a question's reads grow
pub grows : {A : Type 0} (start : Tree) (first last : List Op) (q : Asks A) (y : A) → MayAnswer start first q last y → IsPrefixOf first last
grows start first last (answer x) y m = m.0
grows start first last (read path from most rest) y m = prefix-trans first m.0 last m.1 (grows start m.0 last (rest (part_of (after_all m.0 start) path from most)) y m.2)

-- one question, and what is asked behind it
split : {A B : Type 0} (start : Tree) (first last : List Op) (q : Asks A) (more : A → Asks B) (y : B) → MayAnswer start first (with_answer q more) last y → (x : A) × (mid : List Op) × MayAnswer start first q mid x × MayAnswer start mid (more x) last y
split start first last (answer x) more y m = (x, first, (prefix-refl first, refl), m)
split start first last (read path from most rest) more y m =
    let s = split start m.0 last (rest (part_of (after_all m.0 start) path from most)) more y m.2 in
    (s.0, s.1, (m.0, m.1, s.2), s.3)

-- ---- the lines of a log

abbrev line-at : Repo → ℕ → Option Changeset → List ℕ
line-at r rev None = []
line-at r rev (Some c) = log_line r rev c

-- those of so many changesets out of the first `len`, newest first
abbrev lines-down : Repo → ℕ → ℕ → List ℕ
lines-down r zero len = []
lines-down r (suc count) zero = []
lines-down r (suc count) (suc rev) = line-at r rev (slice_get r.changesets rev) ++ lines-down r count rev

-- the newest one stands in front
newest-first : (r : Repo) (at : ℕ) (older : List Changeset) (c : Changeset) → log_lines r at (older ++ c ∷ []) ≡ log_line r (at + length older) c ++ log_lines r at older
newest-first r at [] c = ap (λ n. log_line r n c) (same at) ∙ sym (append-nil (log_line r (at + 0) c))
  where
    same : (n : ℕ) → n ≡ n + 0
    same n = omega arith
newest-first r at (d ∷ older) c =
    ap (λ l. l ++ log_line r at d) (newest-first r (suc at) older c)
    ∙ append_assoc (log_line r (suc at + length older) c) (log_lines r (suc at) older) (log_line r at d)
    ∙ ap (λ n. log_line r n c ++ (log_lines r (suc at) older ++ log_line r at d)) (same at (length older))
  where
    same : (n m : ℕ) → suc n + m ≡ n + suc m
    same n m = omega arith

take-more : {A : Type 0} (xs : List A) (k : ℕ) (x : A) → slice_get xs k ≡ Some x → take (suc k) xs ≡ take k xs ++ x ∷ []
take-more [] k x e = cc
take-more (y ∷ xs) zero x e = ap (λ z. z ∷ []) (some-is y x e)
  where
    some-is : {A : Type 0} (a b : A) → (let o : Option A = Some a in o) ≡ Some b → a ≡ b
    some-is a b e = cc
take-more (y ∷ xs) (suc k) x e = ap (λ l. y ∷ l) (take-more xs k x e)

pub element : {A : Type 0} (xs : List A) (i : ℕ) → i < length xs → (x : A) × (slice_get xs i ≡ Some x)
element [] i few = absurd (omega (arith, few))
element (x ∷ xs) zero few = (x, refl)
element (x ∷ xs) (suc i) few = element xs i (omega (arith, few))

lines-are : (r : Repo) (count len : ℕ) → len ≤ length r.changesets → lines-down r count len ≡ log_lines r (len - count) (drop (len - count) (take len r.changesets))
lines-are r zero len few = sym (ap (log_lines r (len - 0)) (drop_of_length-le (take len r.changesets) {i = len - 0} (let l = length-take-le len r.changesets few in omega (arith, l))))
lines-are r (suc count) zero few = sym (ap (log_lines r (0 - suc count)) (drop_of_length-le (take 0 r.changesets) {i = 0 - suc count} (omega arith)))
lines-are r (suc count) (suc rev) few =
    let c = element r.changesets rev (omega (arith, few)) in
    let front = take rev r.changesets in
    let at = rev - count in
    let size : length front ≡ rev = length-take-le rev r.changesets (omega (arith, few)) in
    let older = drop at front in
    let long : at + length older ≡ rev = (let l = length-drop at front in omega (arith, l, size)) in
    ap (λ o. line-at r rev o ++ lines-down r count rev) c.1
    ∙ ap (λ l. log_line r rev c.0 ++ l) (lines-are r count rev (omega (arith, few)))
    ∙ ap (λ n. log_line r n c.0 ++ log_lines r at older) (sym long)
    ∙ sym (newest-first r at older c.0)
    ∙ ap (log_lines r at) (sym (drop-append-le at front (c.0 ∷ []) (omega (arith, size))))
    ∙ ap (λ l. log_lines r at (drop at l)) (sym (take-more r.changesets rev c.0 c.1))
    ∙ ap (λ n. log_lines r n (drop n (take (suc rev) r.changesets))) (less rev count)
  where
    less : (n m : ℕ) → n - m ≡ suc n - suc m
    less n m = omega arith

take-all : {A : Type 0} (xs : List A) → take (length xs) xs ≡ xs
take-all [] = refl
take-all (x ∷ xs) = ap (λ l. x ∷ l) (take-all xs)

newest-are : (r : Repo) (count : ℕ) → lines-down r count (length r.changesets) ≡ newest_lines r count
newest-are r count = lines-are r count (length r.changesets) (omega arith) ∙ ap (λ l. log_lines r (length r.changesets - count) (drop (length r.changesets - count) l)) (take-all r.changesets)

all-are : (r : Repo) → newest_lines r (length r.changesets) ≡ log_text r
all-are r = ap (λ n. log_lines r n (drop n r.changesets)) (none (length r.changesets))
  where
    none : (n : ℕ) → n - n ≡ 0
    none n = omega arith

-- ---- answers

module _ (x : Course) (first last : List Op) (view : View) (r : Repo) (says : SaysOf view r)
    (known : (rev : ℕ) → rev < length r.changesets → (c : Changeset) × (slice_get r.changesets rev ≡ Some c) × TellsOf x first last view r rev c)
    (there : (name : List ℕ) (rev : ℕ) → named_in r name ≡ Some rev → rev < length r.changesets) where
  -- a text that is told
  text-is : (q : Asks (Result (List ℕ) ReadAnswer)) (y : Result (List ℕ) ReadAnswer) (answered : Answered) → ((to : List Op) (z : Result (List ℕ) ReadAnswer) → IsPrefixOf to last → MayAnswer x.start first q to z → z ≡ y)
      → MayAnswer x.start first (text_asks q) last answered → answered ≡ said_of y
  text-is q y answered only m =
      let s = split x.start first last q (λ z. answer (said_of z)) answered m in
      s.3.1 ∙ ap said_of (only s.1 s.0 s.3.0 s.2)

  -- the lines of a log
  lines-told : (count len : ℕ) (from to : List Op) (answered : Answered) → len ≤ length r.changesets → IsPrefixOf first from → IsPrefixOf to last → MayAnswer x.start from (newest_asks view count len) to answered → answered ≡ said (lines-down r count len)
  lines-told zero len from to answered few p q m = m.1
  lines-told (suc count) zero from to answered few p q m = m.1
  lines-told (suc count) (suc rev) from to answered few p q m =
      let s = split x.start from to (line_asks view rev) (λ line. line_before line (newest_asks view count rev)) answered m in
      let c = known rev (omega (arith, few)) in
      let told = c.2.line from s.1 s.0 p (prefix-trans s.1 to last (grows x.start s.1 to (line_before s.0 (newest_asks view count rev)) answered s.3) q) s.2 in
      let next = subst (λ (y : Result (List ℕ) ReadAnswer). MayAnswer x.start s.1 (line_before y (newest_asks view count rev)) to answered) told s.3 in
      let line = log_line r rev c.0 in
      let rest = split x.start s.1 to (newest_asks view count rev) (λ a. answer (behind line a)) answered next in
      let older = lines-told count rev s.1 rest.1 rest.0 (omega (arith, few)) (prefix-trans first from s.1 p (grows x.start from s.1 (line_asks view rev) s.0 s.2)) (prefix-trans rest.1 to last rest.3.0 q) rest.2 in
      rest.3.1 ∙ ap (behind line) older ∙ ap (λ o. said (line-at r rev o ++ lines-down r count rev)) (sym c.1)

  -- so many lines of a log
  pub log-told : (count : ℕ) (answered : Answered) → MayAnswer x.start first (newest_asks view count (length view.changelog.entries)) last answered → answered ≡ said (newest_lines r count)
  log-told count answered m =
      lines-told count (length r.changesets) first last answered (omega arith) (prefix-refl first) (prefix-refl last) (subst (λ n. MayAnswer x.start first (newest_asks view count n) last answered) says.count m) ∙ ap said (newest-are r count)

  -- what is said of the revision that a name names
  named-told : (name : List ℕ) (more : ℕ → Asks Answered) (whole : ℕ → Answered) (answered : Answered) → ((rev : ℕ) → rev < length r.changesets → MayAnswer x.start first (more rev) last answered → answered ≡ whole rev)
      → MayAnswer x.start first (named_asks (named view name) more) last answered → answered ≡ of_named (named_in r name) whole
  named-told name more whole answered each m = by (named_in r name) refl (subst (λ o. MayAnswer x.start first (named_asks o more) last answered) (says.names name) m)
    where
      by : (o : Option ℕ) → named_in r name ≡ o → MayAnswer x.start first (named_asks o more) last answered → answered ≡ of_named o whole
      by None is m = m.1
      by (Some rev) is m = each rev (there name rev is) m

  files-told : (rev : ℕ) (answered : Answered) → rev < length r.changesets → MayAnswer x.start first (text_asks (files_asks view rev)) last answered → answered ≡ said (files_text_of r rev)
  files-told rev answered low m =
      let c = known rev low in
      text-is (files_asks view rev) (Ok (tree_text r rev (Some c.0))) answered (λ to z p a. c.2.files first to z (prefix-refl first) p a) m ∙ ap (λ o. said (tree_text r rev o)) (sym c.1)

  cat-told : (path : List ℕ) (rev : ℕ) (answered : Answered) → rev < length r.changesets → MayAnswer x.start first (text_asks (cat_asks view rev path)) last answered → answered ≡ said_of (body_answer (body_at r rev path))
  cat-told path rev answered low m = let c = known rev low in text-is (cat_asks view rev path) (body_answer (body_at r rev path)) answered (λ to z p a. c.2.body path first to z (prefix-refl first) p a) m

  pub question-told : (question : Question) (answered : Answered) → MayAnswer x.start first (question_asks view question) last answered → answered ≡ answer_of r question
  question-told (questions.Phase name) answered m =
      named-told name (λ rev. answer (said (phase_line (slice_get view.phases rev)))) (λ rev. said (phase_text r rev)) answered
      (λ rev low m. m.1 ∙ (let p = says.phase rev low in ap (λ o. said (phase_line o)) p.1 ∙ ap (λ word. said (word ++ 10 ∷ [])) p.2)) m
  question-told questions.Log answered m = log-told (length view.changelog.entries) answered m ∙ ap (λ n. said (newest_lines r n)) says.count ∙ ap said (all-are r)
  question-told questions.Heads answered m = m.1 ∙ ap said says.heads
  question-told questions.Bookmarks answered m = m.1 ∙ ap said says.bookmarks
  question-told questions.Parents answered m = m.1 ∙ ap said says.parents
  question-told (questions.Files name) answered m = named-told name (λ rev. text_asks (files_asks view rev)) (λ rev. said (files_text_of r rev)) answered (λ rev low n. files-told rev answered low n) m
  question-told (questions.Cat name path) answered m = named-told name (λ rev. text_asks (cat_asks view rev path)) (λ rev. said_of (body_answer (body_at r rev path))) answered (λ rev low n. cat-told path rev answered low n) m

-- ---- statuses

named-status : (o : Option ℕ) (whole : ℕ → Answered) → ((rev : ℕ) → IsStatusBeside (whole rev).status) → IsStatusBeside (of_named o whole).status
named-status None whole each = inr (inl refl)
named-status (Some rev) whole each = each rev

body-status : (o : Option (List ℕ)) → IsStatusBeside (said_of (body_answer o)).status
body-status None = inr (inr (inr (inl refl)))
body-status (Some body) = inl refl

pub answer-status : (r : Repo) (question : Question) → IsStatusBeside (answer_of r question).status
answer-status r (questions.Phase name) = named-status (named_in r name) (λ rev. said (phase_text r rev)) (λ rev. inl refl)
answer-status r questions.Log = inl refl
answer-status r questions.Heads = inl refl
answer-status r questions.Bookmarks = inl refl
answer-status r questions.Parents = inl refl
answer-status r (questions.Files name) = named-status (named_in r name) (λ rev. said (files_text_of r rev)) (λ rev. inl refl)
answer-status r (questions.Cat name path) = named-status (named_in r name) (λ rev. said_of (body_answer (body_at r rev path))) (λ rev. body-status (body_at r rev path))
