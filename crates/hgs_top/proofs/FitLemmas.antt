-- The words of a command that sets a bookmark have a name that a bookmark can have.
use Rattle.std.proofs.Common.{◌≡◌, ℕ, ◌+◌, Bool, true, false, List, [], ◌∷◌, Option, Some, None, Result, Ok, Err, refl, sym, subst, arith}
use Rattle.std.specs.Prelude.{if◌then◌else◌, IfOk, ⊤, codes, is_some, not, nat_le, nat_lt, unwrap_or, ◌&&◌, ◌≤◌, ◌<◌, ◌^◌}
use Rattle.std.proofs.lemmas.Bool.{leb-true, ltb-true}
use Rattle.hgs_input.specs.Read.{number_up_to}
use Rattle.hgs_bytes.specs.Bytes.{same, begins_with}
use Rattle.hgs_index.specs.MarkName.{is_mark_name}
use Rattle.hgs_top.specs.declared.operands.Operand.{Operand}
use Rattle.hgs_top.specs.declared.operands.Operand.TheVariants as operand_kinds
use Rattle.hgs_top.specs.declared.pages.Page.{Page}
use Rattle.hgs_top.specs.Words.{Job, do_init, do_commit, do_import, do_recover, do_move, do_mark, do_unmark, Request, to_answer, to_do, to_play, to_session, to_verify, to_generate, operands, operand, with_operand, asked_with, alone_named, alone_else, about_named, bookmark_with, branches_with, count_of, kept_where, seed_of, steps_of, verify_with, jobs_of, phase_with, phase_or_move, moved_with, behind_word, request_named, request_of_words, page_named, page_else}

abbrev pub IsFitJob : Job → Type 0
IsFitJob do_init = ⊤
IsFitJob do_commit = ⊤
IsFitJob do_import = ⊤
IsFitJob do_recover = ⊤
IsFitJob (do_move rev phase force) = ⊤
IsFitJob (do_mark name rev) = is_mark_name name ≡ true
IsFitJob (do_unmark name) = ⊤

abbrev pub IsFitRequest : Request → Type 0
IsFitRequest (to_answer question) = ⊤
IsFitRequest (to_do job) = IsFitJob job
IsFitRequest to_play = ⊤
IsFitRequest to_session = ⊤
IsFitRequest (to_verify jobs) = ⊤
IsFitRequest (to_generate seed count) = (seed < 2 ^ 64) × (count ≤ 5000)

either : (b : Bool) (x y : Result Request ℕ) → IfOk x IsFitRequest → IfOk y IsFitRequest → IfOk (if b then x else y) IsFitRequest
either true x y hx hy = hx
either false x y hx hy = hy

with-operands : (f : List (List ℕ) → Request) (r : Result (List (List ℕ)) ℕ) → ((words : List (List ℕ)) → r ≡ Ok words → IsFitRequest (f words)) → IfOk (asked_with f r) IsFitRequest
with-operands f (Ok words) h = h words refl
with-operands f (Err place) h = tt

and-right : (a b : Bool) → (a && b) ≡ true → b ≡ true
and-right true b e = e
and-right false b e = cc

first-word : (word : List ℕ) (r : Result (List (List ℕ)) ℕ) (words : List (List ℕ)) → with_operand word r ≡ Ok words → operand words 0 ≡ word
first-word word (Ok rest) (w ∷ words) h = cc
first-word word (Ok rest) [] h = cc
first-word word (Err place) words h = cc

first-fits : (ended : Bool) (kinds : List Operand) (place : ℕ) (words found : List (List ℕ)) → operands ended (operand_kinds.MarkName ∷ kinds) place words ≡ Ok found → is_mark_name (operand found 0) ≡ true
first-fits ended kinds place [] found h = cc
first-fits ended kinds place (word ∷ words) found h = by (not ended && same word (codes "--")) (not ended && begins_with word (codes "-")) (is_mark_name word) refl (first-fits true kinds (place + 1) words found) h
  where
    by : (ends option fit : Bool) → is_mark_name word ≡ fit → (operands true (operand_kinds.MarkName ∷ kinds) (place + 1) words ≡ Ok found → is_mark_name (operand found 0) ≡ true)
        → (if ends then operands true (operand_kinds.MarkName ∷ kinds) (place + 1) words else if option then Err place else if fit then with_operand word (operands ended kinds (place + 1) words) else Err place) ≡ Ok found → is_mark_name (operand found 0) ≡ true
    by true option fit e behind k = behind k
    by false true fit e behind k = cc
    by false false true e behind k = subst (λ w. is_mark_name w ≡ true) (sym (first-word word (operands ended kinds (place + 1) words) found k)) e
    by false false false e behind k = cc

bookmark-fits : (behind : Option (List (List ℕ))) (words : List (List ℕ)) → IfOk (bookmark_with behind words) IsFitRequest
bookmark-fits (Some behind) words = with-operands (λ w. to_do (do_unmark (operand w 0))) (operands false (operand_kinds.MarkName ∷ []) 2 behind) (λ found h. tt)
bookmark-fits None words = with-operands (λ w. to_do (do_mark (operand w 0) (operand w 1))) (operands false (operand_kinds.MarkName ∷ operand_kinds.Any ∷ []) 1 words) (λ found h. first-fits false (operand_kinds.Any ∷ []) 1 words found h)

move-fits : (force : Bool) (r : Result (List (List ℕ)) ℕ) → IfOk (moved_with force r) IsFitRequest
move-fits force (Ok words) = tt
move-fits force (Err place) = tt

phase-fits : (behind : Option (List (List ℕ))) (words : List (List ℕ)) → IfOk (phase_with behind words) IsFitRequest
phase-fits (Some behind) words = move-fits true (operands false (operand_kinds.Any ∷ operand_kinds.PhaseName ∷ []) 2 behind)
phase-fits None words = by (operands false (operand_kinds.Any ∷ []) 1 words) (operands false (operand_kinds.Any ∷ operand_kinds.PhaseName ∷ []) 1 words)
  where
    by : (one both : Result (List (List ℕ)) ℕ) → IfOk (phase_or_move one both) IsFitRequest
    by (Ok found) both = tt
    by (Err place) both = move-fits false both

verify-fits : (behind : Option (List (List ℕ))) (words : List (List ℕ)) → IfOk (verify_with behind words) IsFitRequest
verify-fits (Some []) words = tt
verify-fits (Some (word ∷ behind)) words = either (is_some (jobs_of word)) _ _ (with-operands _ (operands false [] 3 behind) (λ found h. tt)) tt
verify-fits None words = with-operands _ (operands false [] 1 words) (λ found h. tt)

branches-fit : (behind : Option (List (List ℕ))) (words : List (List ℕ)) → IfOk (branches_with behind words) IsFitRequest
branches-fit (Some []) words = tt
branches-fit (Some (word ∷ behind)) words = either (is_some (steps_of word)) _ _ (with-operands _ (operands false [] 3 behind) (λ found h. tt)) tt
branches-fit None words = with-operands _ (operands false [] 1 words) (λ found h. tt)

-- ---- numbers

kept-small : (fit : ℕ → Bool) (o : Option ℕ) (other most : ℕ) → other ≤ most → ((n : ℕ) → fit n ≡ true → n ≤ most) → unwrap_or (kept_where fit o) other ≤ most
kept-small fit None other most h within = h
kept-small fit (Some n) other most h within = by (fit n) refl
  where
    by : (b : Bool) → fit n ≡ b → unwrap_or (if b then Some n else (let none : Option ℕ = None in none)) other ≤ most
    by true e = within n e
    by false e = h

either-small : (b : Bool) (x y : Option ℕ) (other most : ℕ) → unwrap_or x other ≤ most → unwrap_or y other ≤ most → unwrap_or (if b then x else y) other ≤ most
either-small true x y other most hx hy = hx
either-small false x y other most hx hy = hy

seed-small : (word : List ℕ) → unwrap_or (seed_of word) 0 < 2 ^ 64
seed-small word =
    let most : ℕ = 18446744073709551615 in
    let h = either-small (same word (codes "18446744073709551615")) (Some most) (kept_where (λ n. nat_lt n most) (number_up_to 18446744073709551614 word)) 0 most (omega arith)
    (kept-small (λ n. nat_lt n most) (number_up_to 18446744073709551614 word) 0 most (omega arith) (λ n e. let l = ltb-true n most e in omega (arith, l))) in
    omega (arith, h)

count-small : (word : List ℕ) → unwrap_or (count_of word) 1 ≤ 5000
count-small word = kept-small (λ n. nat_le 1 n && nat_le n 5000) (number_up_to 5000 word) 1 5000 (omega arith) (λ n e. leb-true n 5000 (and-right (nat_le 1 n) (nat_le n 5000) e))

about-fits : (name : List ℕ) (words : List (List ℕ)) → IfOk (about_named name words) IsFitRequest
about-fits name words =
    either (same name (codes "files")) _ _ (with-operands _ (operands false (operand_kinds.Any ∷ []) 1 words) (λ found h. tt))
    (either (same name (codes "cat")) _ _ (with-operands _ (operands false (operand_kinds.Any ∷ operand_kinds.Any ∷ []) 1 words) (λ found h. tt))
    (either (same name (codes "revset")) _ _ (with-operands _ (operands false (operand_kinds.Any ∷ []) 1 words) (λ found h. tt))
    (either (same name (codes "branches")) _ _ (branches-fit (behind_word (codes "--steps") words) words)
    (either (same name (codes "phase")) _ _ (phase-fits (behind_word (codes "--force") words) words)
    (either (same name (codes "bookmark")) _ _ (bookmark-fits (behind_word (codes "--delete") words) words)
    (either (same name (codes "verify")) _ _ (verify-fits (behind_word (codes "--jobs") words) words)
    (either (same name (codes "gen")) _ _ (with-operands _ (operands false (operand_kinds.Seed ∷ operand_kinds.Count ∷ []) 1 words) (λ found h. (seed-small (operand found 0), count-small (operand found 1)))) tt)))))))

abbrev IsFitOption : Option Request → Type 0
IsFitOption None = ⊤
IsFitOption (Some request) = IsFitRequest request

either-option : (b : Bool) (x y : Option Request) → IsFitOption x → IsFitOption y → IsFitOption (if b then x else y)
either-option true x y hx hy = hx
either-option false x y hx hy = hy

alone-fits : (name : List ℕ) → IsFitOption (alone_named name)
alone-fits name =
    either-option (same name (codes "log")) _ _ tt (either-option (same name (codes "heads")) _ _ tt (either-option (same name (codes "bookmarks")) _ _ tt (either-option (same name (codes "parents")) _ _ tt
    (either-option (same name (codes "init")) _ _ tt (either-option (same name (codes "commit")) _ _ tt (either-option (same name (codes "import")) _ _ tt (either-option (same name (codes "recover")) _ _ tt (either-option (same name (codes "play")) _ _ tt (either-option (same name (codes "session")) _ _ tt tt)))))))))

alone-else-fits : (o : Option Request) (about : Result Request ℕ) (words : List (List ℕ)) → IsFitOption o → IfOk about IsFitRequest → IfOk (alone_else o about words) IsFitRequest
alone-else-fits None about words fit h = h
alone-else-fits (Some request) about words fit h = with-operands (λ w. request) (operands false [] 1 words) (λ found k. fit)

page-else-fits : (o : Option Page) (words : List (List ℕ)) (r : Result Request ℕ) → IfOk r IsFitRequest → IfOk (page_else o words r) IsFitRequest
page-else-fits None words r h = h
page-else-fits (Some page) [] r h = tt
page-else-fits (Some page) (word ∷ words) r h = tt

pub request-fits : (words : List (List ℕ)) → IfOk (request_of_words words) IsFitRequest
request-fits [] = tt
request-fits (name ∷ words) = page-else-fits (page_named name) words (request_named name words) (alone-else-fits (alone_named name) (about_named name words) words (alone-fits name) (about-fits name words))
