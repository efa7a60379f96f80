-- Over files that stand for a repository each question is answered as the repository is.
use Rattle.std.proofs.Common.{◌≡◌, ℕ, zero, suc, ◌+◌, ◌<◌, List, [], ◌∷◌, ◌++◌, length, Option, Some, None, Result, Ok, Err, refl, sym, ◌∙◌, ap, subst, arith, append_assoc, append-nil}
use Rattle.std.specs.Prelude.{map, slice_get, slice_index, if◌then◌else◌}
use Rattle.hgs_files.specs.declared.op.Op.{Op}
use Rattle.hgs_files.specs.Tree.{Tree, after_all}
use Rattle.hgs_model.specs.Names.{named as model_named}
use Rattle.hgs_model.specs.Phase.{phase_name}
use Rattle.hgs_model.specs.Repo.{Changeset, Repo, all_parents}
use Rattle.hgs_model.specs.IsRepo.{IsRepo}
use Rattle.hgs_model.specs.declared.phase.Phase.{Phase}
use Rattle.hgs_load.specs.declared.answer.ReadAnswer.{ReadAnswer}
use Rattle.hgs_load.specs.Asks.{at_rest}
use Rattle.hgs_reader.specs.Contents.{cat_asks, files_asks}
use Rattle.hgs_reader.specs.Heads as reader_heads
use Rattle.hgs_index.specs.ChangeText.{Change}
use Rattle.hgs_branch.specs.Extras.{branch_of}
use Rattle.hgs_branch.specs.Text.{branches_text}
use Rattle.hgs_branches.specs.Rest.{branch_then, branches_from}
use Rattle.hgs_revlog.specs.Log.{nodes_of}
use Rattle.hgs_reader.specs.Line.{change_asks, line_asks}
use Rattle.hgs_reader.specs.Names.{named}
use Rattle.hgs_load.specs.Open.{open_asks}
use Rattle.hgs_reader.specs.Shown as reader_shown
use Rattle.hgs_load.specs.View.{View}
use Rattle.hgs_shown.specs.Answers.{IsReadable, body_answer, body_at, bookmarks_text, files_text_of, heads_text, log_line, log_lines, log_text, parents_text, phase_text, phase_word, tree_text}
use Rattle.hgs_top.specs.declared.listing.Listing.TheVariants.{Heads, Bookmarks, Parents}
use Rattle.hgs_top.specs.Outcome.{Outcome, Reply, Subject, told, unknown_revision, its_files, its_file, its_phase, line_then, lines_down, log_of_view, log_outcome, listing_of_load, contents_of_load, contents_of_rev, contents_reply, phase_text as text_of_phase, text_outcome}
use Rattle.hgs_members.specs.Story.{story_of}
use Rattle.hgs_revset.specs.Members.{Set, Story, is_known, story_of_repo, AreAlike}
use Rattle.hgs_revset.specs.Read.{read_set}
use Rattle.hgs_revset.specs.Text.{set_text}
use Rattle.hgs_revset.specs.declared.fault.SetFault.{SetFault}
use Rattle.hgs_top.specs.Branches.{branches_at, branches_of_load, branches_of_repo, branches_outcome, heads_of_view}
use Rattle.hgs_top.specs.Sets.{set_of_load, set_reply, set_reply_of}
use Rattle.hgs_top.proofs.SetLemmas.{set_at}
use Rattle.hgs_top.specs.Repository.{body_reply, of_named, reply_of, said, SaysOfRepository}
use Rattle.hgs_top.specs.Run.{OfReply, Replied, Says, reply_to}
use Rattle.hgs_top.specs.Words.{Request, to_answer, to_do, to_play, to_session, to_verify, to_generate, Question, ask_page, ask_log, ask_heads, ask_bookmarks, ask_parents, ask_files, ask_cat, ask_phase, ask_set, ask_branches}

-- what the crates below say of the answers
pub record Laws : Type 0 where
  pub opens : (t : Tree) (r : Repo) → IsReadable t r → (view : View) × (at_rest t open_asks ≡ Ok view)
  pub count : (t : Tree) (r : Repo) (view : View) → IsReadable t r → at_rest t open_asks ≡ Ok view → length view.changelog.entries ≡ length r.changesets
  pub line : (t : Tree) (r : Repo) (view : View) → IsReadable t r → at_rest t open_asks ≡ Ok view → (rev : ℕ) (c : Changeset) → slice_get r.changesets rev ≡ Some c → at_rest t (line_asks view rev) ≡ Ok (log_line r rev c)
  pub heads : (t : Tree) (r : Repo) (view : View) → IsReadable t r → at_rest t open_asks ≡ Ok view → reader_heads.heads_text view ≡ heads_text r
  pub parents : (t : Tree) (r : Repo) (view : View) → IsReadable t r → at_rest t open_asks ≡ Ok view → reader_shown.parents_text view ≡ parents_text r
  pub bookmarks : (t : Tree) (r : Repo) (view : View) → IsReadable t r → at_rest t open_asks ≡ Ok view → reader_shown.marks_text view ≡ bookmarks_text r
  pub names : (t : Tree) (r : Repo) (view : View) → IsReadable t r → at_rest t open_asks ≡ Ok view → (name : List ℕ) → named view name ≡ model_named r name
  pub phase : (t : Tree) (r : Repo) (view : View) → IsReadable t r → at_rest t open_asks ≡ Ok view → (rev : ℕ) → rev < length r.changesets → (p : Phase) × (slice_get view.phases rev ≡ Some p) × (phase_name p ≡ phase_word (slice_index r.phases rev))
  pub files : (t : Tree) (r : Repo) (view : View) → IsReadable t r → at_rest t open_asks ≡ Ok view → (rev : ℕ) (c : Changeset) → slice_get r.changesets rev ≡ Some c → at_rest t (files_asks view rev) ≡ Ok (tree_text r rev (Some c))
  pub body : (t : Tree) (r : Repo) (view : View) → IsReadable t r → at_rest t open_asks ≡ Ok view → (rev : ℕ) (c : Changeset) → slice_get r.changesets rev ≡ Some c → (path : List ℕ) → at_rest t (cat_asks view rev path) ≡ body_answer (body_at r rev path)
  pub there : (r : Repo) (name : List ℕ) (rev : ℕ) → IsRepo r → model_named r name ≡ Some rev → rev < length r.changesets
  pub alike : (t : Tree) (r : Repo) (view : View) → IsReadable t r → at_rest t open_asks ≡ Ok view → AreAlike (story_of view) (story_of_repo r)
  pub changed : (t : Tree) (r : Repo) (view : View) → IsReadable t r → at_rest t open_asks ≡ Ok view → (rev : ℕ) (c : Changeset) → slice_get r.changesets rev ≡ Some c → (x : Change) × (at_rest t (change_asks view rev) ≡ Ok x) × (x.extras ≡ c.extras)
  pub known : (s t : Story) (a : Set) → AreAlike s t → is_known s a ≡ is_known t a
  pub lines : (s t : Story) (a : Set) → AreAlike s t → set_text s a ≡ set_text t a

-- ---- branches

-- the branches of changesets, the first of which has this number
names-are : (change : ℕ → Result Change ReadAnswer) (rev : ℕ) (changesets : List Changeset) → ((i : ℕ) (c : Changeset) → slice_get changesets i ≡ Some c → (x : Change) × (change (rev + i) ≡ Ok x) × (x.extras ≡ c.extras))
    → branches_from change rev (length changesets) ≡ Ok (map (λ (c : Changeset). branch_of c.extras) changesets)
names-are change rev [] h = refl
names-are change rev (c ∷ later) h =
    let one = h 0 c refl in
    let here : rev ≡ rev + 0 = omega arith in
    let rest = names-are change (suc rev) later (λ i d at. let e : rev + suc i ≡ suc rev + i = omega arith in subst (λ n. (x : Change) × (change n ≡ Ok x) × (x.extras ≡ d.extras)) e (h (suc i) d at)) in
    ap (λ q. branch_then q (branches_from change (suc rev) (length later))) (ap change here ∙ one.1) ∙ ap (branch_then (Ok one.0)) rest
    ∙ ap (λ e. let r : Result (List (List ℕ)) ReadAnswer = Ok (branch_of e ∷ map (λ (c : Changeset). branch_of c.extras) later) in r) one.2

-- ---- log

-- each of these lines is its changeset's, the first of which has this number
abbrev AreLines : (ℕ → Result (List ℕ) ReadAnswer) → Repo → ℕ → List Changeset → Type 0
AreLines line r rev [] = Unit {0}
AreLines line r rev (c ∷ newer) = (line rev ≡ Ok (log_line r rev c)) × AreLines line r (suc rev) newer

down : (line : ℕ → Result (List ℕ) ReadAnswer) (r : Repo) (rev : ℕ) (changesets : List Changeset) → AreLines line r rev changesets
    → lines_down line (rev + length changesets) ≡ record { text = log_lines r rev changesets ++ (lines_down line rev).text; refusal = (lines_down line rev).refusal }
down line r rev [] h = ap (lines_down line) (none rev)
  where
    none : (n : ℕ) → n + 0 ≡ n
    none n = omega arith
down line r rev (c ∷ newer) h =
    let below = lines_down line rev in
    let next : lines_down line (suc rev) ≡ record { text = log_line r rev c ++ below.text; refusal = below.refusal } = ap (λ l. line_then l below) h.0 in
    ap (lines_down line) (count rev (length newer)) ∙ down line r (suc rev) newer h.1
    ∙ ap (λ (o : Outcome). let all : Outcome = record { text = log_lines r (suc rev) newer ++ o.text; refusal = o.refusal } in all) next
    ∙ ap (λ l. let all : Outcome = record { text = l; refusal = below.refusal } in all) (sym (append_assoc (log_lines r (suc rev) newer) (log_line r rev c) below.text))
  where
    count : (a b : ℕ) → a + suc b ≡ suc a + b
    count a b = omega arith

are-lines : (line : ℕ → Result (List ℕ) ReadAnswer) (r : Repo) (rev : ℕ) (changesets : List Changeset) → ((i : ℕ) (c : Changeset) → slice_get changesets i ≡ Some c → line (rev + i) ≡ Ok (log_line r (rev + i) c)) → AreLines line r rev changesets
are-lines line r rev [] h = tt
are-lines line r rev (c ∷ newer) h = (
  subst (λ n. line n ≡ Ok (log_line r n c)) (none rev) (h 0 c refl),
  are-lines line r (suc rev) newer (λ i d found. subst (λ n. line n ≡ Ok (log_line r n d)) (more rev i) (h (suc i) d found)),
)
  where
    none : (n : ℕ) → n + 0 ≡ n
    none n = omega arith

    more : (n i : ℕ) → n + suc i ≡ suc n + i
    more n i = omega arith

get-below : {A : Type 0} (xs : List A) (rev : ℕ) → rev < length xs → (x : A) × (slice_get xs rev ≡ Some x)
get-below [] rev h = absurd (omega (arith, h))
get-below (x ∷ xs) zero h = (x, refl)
get-below (x ∷ xs) (suc rev) h = get-below xs rev (omega (arith, h))

module _ (laws : Laws) (t : Tree) (r : Repo) (s : IsReadable t r) (view : View) (answered : at_rest t open_asks ≡ Ok view) where
  log-is : log_outcome t ≡ record { text = log_text r; refusal = None }
  log-is =
      let line : ℕ → Result (List ℕ) ReadAnswer = λ rev. at_rest t (line_asks view rev) in
      let lines : AreLines line r 0 r.changesets = are-lines line r 0 r.changesets (λ i c found. subst (λ n. line n ≡ Ok (log_line r n c)) (from_first i) (laws.line t r view s answered i c found)) in
      ap (log_of_view t) answered
      ∙ ap (lines_down line) (laws.count t r view s answered ∙ from_first (length r.changesets))
      ∙ down line r 0 r.changesets lines
      ∙ ap (λ l. let all : Outcome = record { text = l; refusal = None } in all) (append-nil (log_text r))
    where
      from_first : (i : ℕ) → i ≡ 0 + i
      from_first i = omega arith

  listed : (text : List ℕ) (shown : List ℕ) → shown ≡ text → told (record { text = shown; refusal = None }) ≡ said text
  listed text shown e = ap (λ l. said l) e

  -- what is asked of a changeset
  asked : (name : List ℕ) (subject : Subject) (reply : ℕ → Reply) → ((rev : ℕ) (c : Changeset) → slice_get r.changesets rev ≡ Some c → contents_of_rev t view subject (Some rev) ≡ reply rev) → contents_reply name subject t ≡ of_named (model_named r name) reply
  asked name subject reply each =
      ap (contents_of_load t name subject) answered ∙ ap (contents_of_rev t view subject) (laws.names t r view s answered name) ∙ by (model_named r name) refl
    where
      by : (o : Option ℕ) → model_named r name ≡ o → contents_of_rev t view subject o ≡ of_named o reply
      by None e = refl
      by (Some rev) e = let c = get-below r.changesets rev (laws.there r name rev s.stands.repository e) in each rev c.0 c.1

  files-reply : (rev : ℕ) (c : Changeset) → slice_get r.changesets rev ≡ Some c → contents_of_rev t view its_files (Some rev) ≡ said (files_text_of r rev)
  files-reply rev c found = ap (λ x. told (text_outcome x)) (laws.files t r view s answered rev c found) ∙ ap (λ o. said (tree_text r rev o)) (sym found)

  body-reply : (path : List ℕ) (rev : ℕ) (c : Changeset) → slice_get r.changesets rev ≡ Some c → contents_of_rev t view (its_file path) (Some rev) ≡ body_reply (body_at r rev path)
  body-reply path rev c found = ap (λ x. told (text_outcome x)) (laws.body t r view s answered rev c found path) ∙ by (body_at r rev path)
    where
      by : (o : Option (List ℕ)) → told (text_outcome (body_answer o)) ≡ body_reply o
      by None = refl
      by (Some body) = refl

  phase-reply : (rev : ℕ) (c : Changeset) → slice_get r.changesets rev ≡ Some c → contents_of_rev t view its_phase (Some rev) ≡ said (phase_text r rev)
  phase-reply rev c found =
      let p = laws.phase t r view s answered rev (low r.changesets rev c found) in
      ap (λ o. said (text_of_phase o)) p.1 ∙ ap (λ word. said (word ++ 10 ∷ [])) p.2
    where
      low : (xs : List Changeset) (rev : ℕ) (c : Changeset) → slice_get xs rev ≡ Some c → rev < length xs
      low [] rev c e = cc
      low (x ∷ xs) zero c e = omega arith
      low (x ∷ xs) (suc rev) c e = let h = low xs rev c e in omega (arith, h)

  set-reply : (a : Result Set SetFault) → set_reply a t ≡ set_reply_of a r
  set-reply (Err fault) = refl
  set-reply (Ok a) =
      let same = laws.alike t r view s answered in
      let shown = story_of view in
      let own = story_of_repo r in
      ap (set_of_load a) answered ∙ ap (λ b. if b then said (set_text shown a) else unknown_revision) (laws.known shown own a same) ∙ ap (λ text. if is_known own a then said text else unknown_revision) (laws.lines shown own a same)

  branches-are : branches_outcome t ≡ record { text = branches_of_repo r; refusal = None }
  branches-are =
      let same = laws.alike t r view s answered in
      let change : ℕ → Result Change ReadAnswer = λ rev. at_rest t (change_asks view rev) in
      let names = map (λ (c : Changeset). branch_of c.extras) r.changesets in
      let count : branches_at t view ≡ branches_from change 0 (length r.changesets) = ap (branches_from change 0) (laws.count t r view s answered) in
      let read : branches_from change 0 (length r.changesets) ≡ Ok names =
      names-are change 0 r.changesets (λ i c at. let e : i ≡ 0 + i = omega arith in subst (λ n. (x : Change) × (change n ≡ Ok x) × (x.extras ≡ c.extras)) e (laws.changed t r view s answered i c at)) in
      ap (branches_of_load t) answered ∙ ap (heads_of_view view) (count ∙ read)
      ∙ ap (λ p. let o : Outcome = record { text = branches_text p names (nodes_of view.changelog.entries); refusal = None } in o) same.parents
      ∙ ap (λ n. let o : Outcome = record { text = branches_text (all_parents r.changesets) names n; refusal = None } in o) same.nodes

  reply-of-view : (question : Question) → reply_to question t ≡ reply_of r question
  reply-of-view (ask_page page) = refl
  reply-of-view ask_log = ap told log-is
  reply-of-view ask_heads = ap (λ x. told (listing_of_load Heads x)) answered ∙ listed (heads_text r) (reader_heads.heads_text view) (laws.heads t r view s answered)
  reply-of-view ask_bookmarks = ap (λ x. told (listing_of_load Bookmarks x)) answered ∙ listed (bookmarks_text r) (reader_shown.marks_text view) (laws.bookmarks t r view s answered)
  reply-of-view ask_parents = ap (λ x. told (listing_of_load Parents x)) answered ∙ listed (parents_text r) (reader_shown.parents_text view) (laws.parents t r view s answered)
  reply-of-view (ask_files name) = asked name its_files (λ rev. said (files_text_of r rev)) files-reply
  reply-of-view (ask_cat name path) = asked name (its_file path) (λ rev. body_reply (body_at r rev path)) (body-reply path)
  reply-of-view (ask_phase name) = asked name its_phase (λ rev. said (phase_text r rev)) phase-reply
  reply-of-view (ask_set text) = set-reply (read_set text)
  reply-of-view (ask_branches steps) = ap told branches-are

pub reply-is : (laws : Laws) (t : Tree) (r : Repo) → IsReadable t r → (question : Question) → reply_to question t ≡ reply_of r question
reply-is laws t r s question = let o = laws.opens t r s in reply-of-view laws t r s o.0 o.1 question

-- ---- a run

of-question : (Faulted : Type 0) (question : Question) (log : List Op) (start : Tree) (status : ℕ) (old new : Option (List ℕ)) → OfReply question (Some log) start (λ reply. Replied Faulted reply status old new) → Replied Faulted (reply_to question (after_all log start)) status old new
of-question Faulted (ask_page page) log start status old new h = h
of-question Faulted ask_log log start status old new h = h
of-question Faulted ask_heads log start status old new h = h
of-question Faulted ask_bookmarks log start status old new h = h
of-question Faulted ask_parents log start status old new h = h
of-question Faulted (ask_files name) log start status old new h = h
of-question Faulted (ask_cat name path) log start status old new h = h
of-question Faulted (ask_phase name) log start status old new h = h
of-question Faulted (ask_branches steps) log start status old new h = h
of-question Faulted (ask_set text) log start status old new h = set_at (read_set text) log start (λ reply. Replied Faulted reply status old new) h

pub says-of : ((t : Tree) (r : Repo) → IsReadable t r → (question : Question) → reply_to question t ≡ reply_of r question) → (Faulted : Type 0) (asked : Result Request ℕ) (log : Option (List Op)) (start : Tree) (status : ℕ) (old new : Option (List ℕ)) → Says Faulted asked log start status old new → SaysOfRepository Faulted asked log start status old new
says-of law Faulted (Err place) log start status old new h = tt
says-of law Faulted (Ok (to_do job)) log start status old new h = tt
says-of law Faulted (Ok to_play) log start status old new h = tt
says-of law Faulted (Ok to_session) log start status old new h = tt
says-of law Faulted (Ok (to_verify jobs)) log start status old new h = tt
says-of law Faulted (Ok (to_generate seed count)) log start status old new h = tt
says-of law Faulted (Ok (to_answer question)) None start status old new h = tt
says-of law Faulted (Ok (to_answer question)) (Some l) start status old new h =
    λ r s. subst (λ reply. Replied Faulted reply status old new) (law (after_all l start) r s question) (of-question Faulted question l start status old new h)
