-- A commit is answered as the repository answers it.
use Rattle.std.proofs.Common.{◌≡◌, ℕ, List, [], ◌∷◌, ◌++◌, Bool, true, false, cond, length, refl, sym, ◌∙◌, ap, subst, arith}
use Rattle.std.specs.Prelude.{◌<◌, ◌≤◌, ◌+◌, ◌^◌, Option, Some, None, IfSome, Result, Ok, Err}
use Rattle.hgs_files.specs.Tree.{Tree, bytes_at}
use Rattle.hgs_index.specs.ChangeText.{change_text}
use Rattle.hgs_index.specs.Either.{chunk_bytes, chunks_either}
use Rattle.hgs_index.specs.declared.kinds.Which.TheVariants as limits
use Rattle.hgs_index.specs.Manifest.{manifest_text}
use Rattle.hgs_index.specs.Revision.{Parents, Revision, standing}
use Rattle.hgs_loading.specs.Found.{and_then}
use Rattle.hgs_loading.specs.Parent.{Files}
use Rattle.hgs_loading.specs.Small.{most_fncache}
use Rattle.hgs_model.specs.History.{History, changeset_revision, first_of, history}
use Rattle.hgs_model.specs.IsRepo.{IsRepo}
use Rattle.hgs_model.specs.Repo.{Changeset, Repo}
use Rattle.hgs_model.specs.Step.{◌>>=◌, Next, as_parents, copies_hold, done_at, named_all as model_named_all, new_changeset, nothing_changed, refused_where, step, unchanged_from, with_new}
use Rattle.hgs_model.specs.Valid.{IsNewChange}
use Rattle.hgs_model.specs.declared.command.Command.TheVariants.{Commit}
use Rattle.hgs_model.specs.declared.command.NewChange.{NewChange}
use Rattle.hgs_model.specs.declared.command.Refusal.{Refusal}
use Rattle.hgs_model.specs.Theorems.HistoryLemmas.{history-push, length-changelog}
use Rattle.hgs_ops.specs.Theorems.Touch.{or-left, or-right}
use Rattle.hgs_ops.specs.Unhindered.{IsReady}
use Rattle.hgs_load.specs.declared.answer.ReadAnswer.{ReadAnswer}
use Rattle.hgs_revlog.specs.Add.{next_entry}
use Rattle.hgs_revlog.specs.Load.{most_revisions}
use Rattle.hgs_revlog.specs.Log.{stored_sum}
use Rattle.hgs_stands.specs.Places.{changelog_data, changelog_index, fncache_path, manifest_data, manifest_index}
use Rattle.hgs_stands.specs.Stands.{Stands}
use Rattle.hgs_stands.specs.Theorems.FormLemmas.{changelog-plain, manifest-plain}
use Rattle.hgs_transaction.specs.declared.parts.Replacing.{Replacing}
use Rattle.hgs_steps.specs.Parents.{named_all, parents_answer}
use Rattle.hgs_steps.specs.Loaded.{has_inline}
use Rattle.hgs_steps.specs.Planned.{IsLoadedOf, IsStepOf}
use Rattle.hgs_steps.specs.Steps.{as_fault}
use Rattle.hgs_steps.specs.declared.fault.PlanFault.{PlanFault}
use Rattle.hgs_steps.specs.declared.fault.PlanFault.TheVariants.{Refused as refused_for}
use Rattle.hgs_steps.specs.declared.loaded.Loaded.{Loaded}
use Rattle.hgs_steps.specs.declared.step.Step.{Step}
use Rattle.hgs_commit.specs.Changeset.{change_of, changeset_in, manifest_in, of_changelog, of_manifest}
use Rattle.hgs_commit.specs.Commit.{ClashBy, ClashOn, OfTexts, accepted, and_plan, both_parents, commit_in, copies_tested, grown_in, inline_logs, long_list, or_refused, or_unread, planned, refusal_with, replaced_after, step_copied, step_of, step_on, step_with, tested, texts_in, trees_in, too_many_marks, written_new, written_unless, written_with}
use Rattle.hgs_commit.specs.Obstacles.{Met, Obstacle, noted, nothing_met, passes}
use Rattle.hgs_commit.specs.Texts.{OfGrowth, OfText}
use Rattle.hgs_commit.specs.Trees.{OfGrown}
use Rattle.hgs_commit.specs.declared.fault.CommitFault.{CommitFault}
use Rattle.hgs_commit.specs.declared.fault.CommitFault.TheVariants.{Refused}
use Rattle.hgs_writer.specs.CommitsBelow.{Below}
use Rattle.hgs_writer.specs.Commits.{AnswersAs, AnswersWith}
use Rattle.hgs_writer.specs.Free.{HasRoomFor, IsFree, new_lines}
use Rattle.hgs_writer.specs.Growth.{AreGrownFilesOf, IsWhole}
use Rattle.hgs_writer.specs.Logs.{IsLogOf}
use Rattle.hgs_writer.specs.NewTexts.{growth_by}
use Rattle.hgs_legal.specs.ListsPaths.{ListsPaths}
use Rattle.hgs_writer.specs.BytePaths.{HasBytePaths}
use Rattle.hgs_writer.specs.StepsBelow.{StepsBelow}
use Rattle.hgs_writer.specs.Trees.{AreBelow, AreTextsOf, IsTreeOf}
use Rattle.hgs_writer.proofs.Basics.{IsLimited, both, ok-is}
use Rattle.hgs_writer.proofs.CopyLemmas.{copies-are}
use Rattle.hgs_writer.proofs.FormLemmas.{count-is}
use Rattle.hgs_writer.proofs.FreeLemmas.{grown-free, list-free, marks-free, marks-given}
use Rattle.hgs_writer.proofs.LogLemmas.{chunks-sum}
use Rattle.hgs_writer.proofs.MetLemmas.{all-none}
use Rattle.hgs_writer.proofs.NewTextLemmas.{text-of}
use Rattle.hgs_writer.proofs.NextLemmas.{next, next-manifest, node-is}
use Rattle.hgs_writer.proofs.PushedLemmas.{pushed-of}
use Rattle.hgs_writer.proofs.ReadLemmas.{grown-there, parents-there}
use Rattle.hgs_writer.proofs.CommitRefusalLemmas.{marks-refused, refused-by}
use Rattle.hgs_writer.proofs.ReplacedLemmas.{behind-are}
use Rattle.hgs_writer.proofs.CommitStepLemmas.{step-is}
use Rattle.hgs_writer.proofs.TestedLemmas.{tested-is}
use Rattle.hgs_writer.proofs.TreeLemmas.{grown-of}
use Rattle.hgs_writer.proofs.UnreadLemmas.{grown-limited, parents-limited}
use Rattle.hgs_writer.proofs.WholeTextLemmas.{texts-are, texts-free}

-- ---- the texts

-- how the texts came about
record AreMade (l : Loaded) (n : NewChange) (parents : Parents) (x : OfGrown) (t : Tree) (y : OfTexts × List Obstacle) : Type 0 where
  manifest : OfText × List Obstacle
  changeset : OfText × List Obstacle
  changeset_is : changeset_in l.changelog n parents manifest.0.node x.changed t ≡ Ok changeset
  are : (let z : OfTexts × List Obstacle = (record { filelogs = x.growth; lines = x.lines; manifest = manifest.0.growth; changeset = changeset.0 }, manifest.1 ++ changeset.1) in z) ≡ y

texts-made : (l : Loaded) (n : NewChange) (parents : Parents) (x : OfGrown) (manifests : Parents) (t : Tree) (y : OfTexts × List Obstacle) → texts_in l n parents x manifests t ≡ Ok y → AreMade l n parents x t y
texts-made l n parents x manifests t y e =
    let a = both (manifest_in l.manifest x.rows manifests (length l.changelog.entries) t) (λ m. and_then (changeset_in l.changelog n parents m.0.node x.changed t) (λ z. Ok (record { filelogs = x.growth; lines = x.lines; manifest = m.0.growth; changeset = z.0 }, m.1 ++ z.1))) y e in
    let b = both (changeset_in l.changelog n parents a.0.0.node x.changed t) (λ z. Ok (record { filelogs = x.growth; lines = x.lines; manifest = a.0.0.growth; changeset = z.0 }, a.0.1 ++ z.1)) y a.2 in
    record { manifest = a.0; changeset = b.0; changeset_is = b.1; are = ok-is {E = ReadAnswer} _ y b.2 }

texts-there : (t : Tree) (l : Loaded) (h : History) (n : NewChange) (parents : Parents) (x : OfGrown) (manifests : Parents) → IsLogOf t (of_changelog l.changelog) h.changelog → IsLogOf t (of_manifest l.manifest) h.manifest → (y : OfTexts × List Obstacle) × (texts_in l n parents x manifests t ≡ Ok y)
texts-there t l h n parents x manifests changelog manifest =
    let link = length l.changelog.entries in
    let m = text-of t (of_manifest l.manifest) h.manifest (record { text = manifest_text x.rows; parents = manifests; link = link }) manifest in
    let s = text-of t (of_changelog l.changelog) h.changelog (record { text = change_text (change_of n m.0.0.node x.changed); parents = parents; link = link }) changelog in (
      (record { filelogs = x.growth; lines = x.lines; manifest = m.0.0.growth; changeset = s.0.0 }, m.0.1 ++ s.0.1),
      ap (λ z. and_then z (λ p. and_then (changeset_in l.changelog n parents p.0.node x.changed t) (λ q. Ok (record { filelogs = x.growth; lines = x.lines; manifest = p.0.growth; changeset = q.0 }, p.1 ++ q.1)))) m.1
          ∙ ap (λ z. and_then z (λ q. Ok (record { filelogs = x.growth; lines = x.lines; manifest = m.0.0.growth; changeset = q.0 }, m.0.1 ++ q.1))) s.1,
    )

-- ---- a commit on known parents

some-number : (l : Loaded) (t : Tree) (revisions : List Revision) → IsLogOf t (of_changelog l.changelog) revisions → length l.changelog.entries < 2 ^ 31
some-number l t revisions is = let few : length l.changelog.entries ≤ most_revisions = is.entries.few in omega (arith, few)

-- the repository's answer, by the changeset because of which nothing changes
abbrev answer-of : Repo → Changeset → NewChange → Option ℕ → Result Next Refusal
answer-of r c n o = refused_where o >>= λ unchanged. Ok (done_at (with_new r c n) (length r.changesets))

-- by whether its copies are refused
abbrev copied-answer : Repo → NewChange → Parents → Result (Unit {0}) Refusal → Result Next Refusal
copied-answer r n parents copies = copies >>= λ copied. answer-of r (new_changeset (history r.changesets) parents n) n (nothing_changed r (new_changeset (history r.changesets) parents n))

module _ (laws : Below) (more : StepsBelow) (t : Tree) (r : Repo) (l : Loaded) (s : Stands t r) (loads : IsLoadedOf t l) (changelog : IsLogOf t (of_changelog l.changelog) (history r.changesets).changelog) (changelog_whole : IsWhole t (of_changelog l.changelog)) (manifest : IsLogOf t (of_manifest l.manifest) (history r.changesets).manifest) (manifest_whole : IsWhole t (of_manifest l.manifest))
    (n : NewChange) (good : IsNewChange n) (clash : Option (List ℕ)) (parents : Parents) (below : AreBelow (length r.changesets) parents)
    (files : (x : OfGrown × Parents) → grown_in l n parents t ≡ Ok (x, []) → AreGrownFilesOf t r (next r n parents) x.0) (keeps : nothing_changed r (new_changeset (history r.changesets) parents n) ≡ None → IsRepo (next r n parents))
    (is_ready : (x : OfGrown × Parents) (z : OfTexts) → has_inline l ≡ false → grown_in l n parents t ≡ Ok (x, []) → texts_in l n parents x.0 x.1 t ≡ Ok (z, []) → ClashOn l n (trees_in l n parents t) None None → standing (history r.changesets).changelog (changeset_revision (history r.changesets) (new_changeset (history r.changesets) parents n)).text parents ≡ None → long_list l (length z.lines) ≡ [] → ListsPaths t r → HasBytePaths n → IsReady t r (Commit n) (next r n parents)) where
  -- it was told whether names clash
  abbrev IsTold : Type 0
  IsTold = ClashOn l n (trees_in l n parents t) None clash

  abbrev h : History
  h = history r.changesets

  abbrev c : Changeset
  c = new_changeset h parents n

  abbrev then-next : Repo
  then-next = next r n parents

  abbrev equal-one : Option ℕ
  equal-one = standing h.changelog (changeset_revision h c).text parents

  abbrev same-parent : Option ℕ
  same-parent = unchanged_from r.changesets parents.0 parents.1 c.tree

  changelog_sum : length (chunks_either (bytes_at t changelog_index) (bytes_at t changelog_data)) ≡ stored_sum l.changelog.entries
  changelog_sum = chunks-sum laws t (of_changelog l.changelog) h.changelog s.revlogs.changelog loads.changelog

  manifest_sum : length (chunks_either (bytes_at t manifest_index) (bytes_at t manifest_data)) ≡ stored_sum l.manifest.entries
  manifest_sum = chunks-sum laws t (of_manifest l.manifest) h.manifest s.revlogs.manifest loads.manifest

  count : length l.changelog.entries ≡ length r.changesets
  count = count-is t (of_changelog l.changelog) h.changelog changelog ∙ length-changelog r s.repository

  module _ (y : (OfGrown × Parents) × List Obstacle) (e : grown_in l n parents t ≡ Ok y) (z : OfTexts × List Obstacle) (texts_is : texts_in l n parents y.0.0 y.0.1 t ≡ Ok z) (texts : AreTextsOf l h c z) (tree : IsTreeOf h c y.0) where
    abbrev met : Met
    met = noted (noted (noted (noted (noted nothing_met (too_many_marks l n)) y.1) z.1) (long_list l (length z.0.lines))) (inline_logs l)

    -- changelog and manifest are separate where nothing was told of the form
    separate-by : inline_logs l ≡ [] → has_inline l ≡ false
    separate-by = by (has_inline l)
      where
        by : (b : Bool) → (let os : List Obstacle = cond b (passes limits.Inline ∷ []) [] in os) ≡ [] → b ≡ false
        by true h = cc
        by false h = refl

    -- where nothing was met it is the step of the repository
    step-of : IsRepo then-next → equal-one ≡ None → too_many_marks l n ≡ [] → y.1 ≡ [] → z.1 ≡ [] → inline_logs l ≡ [] → (g : OfGrowth) → z.0.changeset.growth ≡ Some g → (after : List Replacing) → replaced_after l n z.0.changeset.node ≡ Ok after → IsStepOf t r (Commit n) (done_at then-next (length r.changesets)) (step_with l n parents (written_with z.0 g) after)
    step-of next_is new few free texts_free plain g grown after after_is =
        let changelog_separate = or-left l.changelog.inline l.manifest.inline (separate-by plain) in
        let manifest_separate = or-right l.changelog.inline l.manifest.inline (separate-by plain) in
        let made = texts-made l n parents y.0.0 y.0.1 t z texts_is in
        let asked : Revision = record { text = change_text (change_of n made.manifest.0.node y.0.0.changed); parents = parents; link = length l.changelog.entries } in
        let node = texts.node ∙ node-is r n parents new in
        let first = subst (λ (k : ℕ). IfSome parents.0 (λ p. p < k)) (sym count) below.first in
        let second = subst (λ (k : ℕ). IfSome parents.1 (λ p. p < k)) (sym count) below.second in
        let pushed = pushed-of more t (of_changelog l.changelog) asked made.changeset g changelog_separate first second (some-number l t h.changelog changelog) made.changeset_is (ap (λ (x : OfTexts × List Obstacle). x.0.changeset.growth) made.are ∙ grown) in
        step-is t r l loads n parents y.0.0 (written_with z.0 g) new changelog changelog_whole manifest manifest_whole changelog_separate manifest_separate (record {
          files = files y.0 (e ∙ ap (λ (os : List Obstacle). Ok (y.0, os)) free);
          filelogs = ap (λ (x : OfTexts × List Obstacle). x.0.filelogs) (sym made.are);
          lines = ap (λ (x : OfTexts × List Obstacle). x.0.lines) (sym made.are);
          manifest = texts.manifest texts_free;
          changeset = sym grown ∙ texts.changeset texts_free ∙ ap (growth_by (of_changelog l.changelog) (changeset_revision h c)) new;
        }) after (next_entry l.changelog.entries asked) more s next_is count node pushed.entries (sym pushed.node ∙ ap (λ (x : OfTexts × List Obstacle). x.0.changeset.node) made.are ∙ node) refl
        (behind-are more t r l s loads n parents new z.0.changeset.node after node few after_is) (sym (more.form t l loads) ∙ separate-by plain)

    -- where there is room for it nothing was met
    nothing-met : IsFree t r then-next → met ≡ nothing_met
    nothing-met free =
        let marks = marks-free more t r l n parents s loads free.bookmarks in
        let grown = grown-free laws t r l s loads changelog manifest n parents y good.ordered below free e in
        let manifest_room = subst (HasRoomFor false t manifest_index manifest_data h.manifest) (next-manifest r n parents) free.manifest in
        let changelog_room = subst (λ (k : History). HasRoomFor false t changelog_index changelog_data h.changelog k.changelog) (history-push r.changesets c) free.changelog in
        let first_sum : length (bytes_at t manifest_data) ≡ stored_sum l.manifest.entries = ap (λ b. length (chunk_bytes b (bytes_at t manifest_index) (bytes_at t manifest_data))) (sym (manifest-plain t free.separate)) ∙ manifest_sum in
        let second_sum : length (bytes_at t changelog_data) ≡ stored_sum l.changelog.entries = ap (λ b. length (chunk_bytes b (bytes_at t changelog_index) (bytes_at t changelog_data))) (sym (changelog-plain t free.separate)) ∙ changelog_sum in
        let both_texts = texts-free t r l s changelog manifest n parents y.0.0 y.0.1 tree first_sum second_sum manifest_room changelog_room z texts_is in
        let plain : has_inline l ≡ false = more.form t l loads ∙ free.separate in
        let logs = ap (λ b. let os : List Obstacle = cond b (passes limits.Inline ∷ []) [] in os) plain in
        let made = texts-made l n parents y.0.0 y.0.1 t z texts_is in
        let lines : z.0.lines ≡ new_lines r then-next = ap (λ (x : OfTexts × List Obstacle). x.0.lines) (sym made.are) ∙ (files y.0 (e ∙ ap (λ (os : List Obstacle). Ok (y.0, os)) grown)).lines in
        let list = list-free t l loads z.0.lines (subst (λ (bytes : List ℕ). length (bytes_at t fncache_path) + length bytes ≤ most_fncache) (sym lines) free.list) in
        λ i. noted (noted (noted (noted (noted nothing_met (marks i)) (grown i)) (both_texts i)) (list i)) (logs i)

    -- where it is accepted
    accepted-answer : IsRepo then-next → equal-one ≡ None → (refusal : Result (Unit {0}) PlanFault) → refusal_with met clash ≡ refusal
        → AnswersWith IsTold t r n clash (or_refused (and_plan (and_plan refusal (λ free. written_new z.0 z.0.changeset.growth)) (λ w. step_of l n parents w)) accepted) (Ok (done_at then-next (length r.changesets)))
    accepted-answer next_is new (Err fault) refusal =
        refused-by (IsFree t r then-next) met.limit clash met.in_the_way met.collision fault (λ free. (ap (λ (m : Met). m.limit) (nothing-met free), ap (λ (m : Met). m.in_the_way) (nothing-met free), ap (λ (m : Met). m.collision) (nothing-met free))) refusal
    accepted-answer next_is new (Ok free) refusal = by z.0.changeset.growth (texts.changeset none.2 ∙ ap (growth_by (of_changelog l.changelog) (changeset_revision h c)) new) refl
      where
        none : (too_many_marks l n ≡ []) × (y.1 ≡ []) × (z.1 ≡ []) × (long_list l (length z.0.lines) ≡ []) × (inline_logs l ≡ []) × (clash ≡ None)
        none = all-none (too_many_marks l n) y.1 z.1 (long_list l (length z.0.lines)) (inline_logs l) clash refusal

        replaced : (g : OfGrowth) → z.0.changeset.growth ≡ Some g → (after : Result (List Replacing) PlanFault) → replaced_after l n z.0.changeset.node ≡ after
            → AnswersWith IsTold t r n clash (or_refused (and_plan after (λ xs. Ok (step_with l n parents (written_with z.0 g) xs))) accepted) (Ok (done_at then-next (length r.changesets)))
        replaced g grown (Err fault) is = marks-refused (IsFree t r then-next) l n z.0.changeset.node clash fault (λ free. marks-given more t r l n parents s loads free.bookmarks z.0.changeset.node fault is) is
        replaced g grown (Ok after) is = record {
          as_step = step-of next_is new none.0 none.1 none.2 none.4 g grown after is;
          ready = λ told. is_ready y.0 z.0 (separate-by none.4) (e ∙ ap (λ (os : List Obstacle). Ok (y.0, os)) none.1) (texts_is ∙ ap (λ (os : List Obstacle). Ok (z.0, os)) none.2) (subst (ClashOn l n (trees_in l n parents t) None) none.5 told) new none.3;
        }

        by : (o : Option OfGrowth) → z.0.changeset.growth ≡ growth_by (of_changelog l.changelog) (changeset_revision h c) None → z.0.changeset.growth ≡ o → AnswersWith IsTold t r n clash (or_refused (and_plan (written_new z.0 o) (λ w. step_of l n parents w)) accepted) (Ok (done_at then-next (length r.changesets)))
        by None some is = absurd (no (sym is ∙ some))
          where
            no : ◌≡◌ {A = Option OfGrowth} None (growth_by (of_changelog l.changelog) (changeset_revision h c) None) → ⊥
            no k = cc
        by (Some g) some is = replaced g is (replaced_after l n z.0.changeset.node) refl

    -- by the equal changeset, if there is one
    standing-answer : same-parent ≡ None → (o : Option ℕ) → equal-one ≡ o
        → AnswersWith IsTold t r n clash (or_refused (and_plan (written_unless z.0 met clash o) (λ w. step_of l n parents w)) accepted) (answer-of r c n o)
    standing-answer changed (Some rev) is = refl
    standing-answer changed None is = accepted-answer (keeps ((λ i. first_of (changed i) (is i)))) is (refusal_with met clash) refl

  -- where the tree changes something
  changed-answer : (y : (OfGrown × Parents) × List Obstacle) → grown_in l n parents t ≡ Ok y → IsTreeOf h c y.0 → same-parent ≡ None
      → AnswersWith IsTold t r n clash (or_unread (texts_in l n parents y.0.0 y.0.1 t) (λ texts. or_refused (planned l n parents texts.0 (noted (noted (noted nothing_met (too_many_marks l n)) y.1) texts.1) clash) accepted)) (answer-of r c n equal-one)
  changed-answer y e tree changed =
      let z = texts-there t l h n parents y.0.0 y.0.1 changelog manifest in
      let texts = texts-are t r l s changelog manifest n parents y.0.0 y.0.1 tree z.0 z.1 in
      subst (λ (p : Result (OfTexts × List Obstacle) ReadAnswer). AnswersWith IsTold t r n clash (or_unread p (λ x. or_refused (planned l n parents x.0 (noted (noted (noted nothing_met (too_many_marks l n)) y.1) x.1) clash) accepted)) (answer-of r c n equal-one)) (sym z.1)
      (subst (λ (o : Option ℕ). AnswersWith IsTold t r n clash (or_refused (and_plan (written_unless z.0.0 (met y e z.0 z.1 texts tree) clash o) (λ w. step_of l n parents w)) accepted) (answer-of r c n equal-one)) (sym texts.standing)
      (standing-answer y e z.0 z.1 texts tree changed equal-one refl))

  -- by the parent whose tree it is, if it is
  tested-answer : (y : (OfGrown × Parents) × List Obstacle) → grown_in l n parents t ≡ Ok y → IsTreeOf h c y.0 → (o : Option ℕ) → same-parent ≡ o
      → AnswersWith IsTold t r n clash (or_refused (as_fault (refused_where o)) (λ changed. or_unread (texts_in l n parents y.0.0 y.0.1 t) (λ texts. or_refused (planned l n parents texts.0 (noted (noted (noted nothing_met (too_many_marks l n)) y.1) texts.1) clash) accepted))) (answer-of r c n (first_of o equal-one))
  tested-answer y e tree (Some rev) is = refl
  tested-answer y e tree None is = changed-answer y e tree is

  -- by what is read
  read-answer : (g : Result ((OfGrown × Parents) × List Obstacle) ReadAnswer) → grown_in l n parents t ≡ g
      → AnswersWith IsTold t r n clash (or_unread g (λ grown. or_refused (tested parents grown.0.0) (λ changed. or_unread (texts_in l n parents grown.0.0 grown.0.1 t) (λ texts. or_refused (planned l n parents texts.0 (noted (noted (noted nothing_met (too_many_marks l n)) grown.1) texts.1) clash) accepted)))) (answer-of r c n (nothing_changed r c))
  read-answer (Err why) e =
      (subst (λ (g : Result ((OfGrown × Parents) × List Obstacle) ReadAnswer). IsLimited g) e (grown-limited laws more t r l n parents s loads changelog manifest below), λ read. unread (grown-there laws more t r l n parents s loads changelog manifest read below))
    where
      unread : (y : (OfGrown × Parents) × List Obstacle) × (grown_in l n parents t ≡ Ok y) → ⊥
      unread there = no (sym e ∙ there.1)
        where
          no : ◌≡◌ {A = Result ((OfGrown × Parents) × List Obstacle) ReadAnswer} (Err why) (Ok there.0) → ⊥
          no k = cc
  read-answer (Ok y) e =
      let tree = grown-of laws t r l s loads changelog manifest n parents y good.ordered below.first below.second e in
      subst (λ (p : Result (Unit {0}) PlanFault). AnswersWith IsTold t r n clash (or_refused p (λ changed. or_unread (texts_in l n parents y.0.0 y.0.1 t) (λ texts. or_refused (planned l n parents texts.0 (noted (noted (noted nothing_met (too_many_marks l n)) y.1) texts.1) clash) accepted))) (answer-of r c n (nothing_changed r c)))
      (sym (tested-is r n parents.0 parents.1 y.0.0 s.repository below good.ordered tree.changed)) (tested-answer y e tree same-parent refl)

  pub commit-on : AnswersWith IsTold t r n clash (step_copied clash l n parents t) (answer-of r c n (nothing_changed r c))
  commit-on = read-answer (grown_in l n parents t) refl

-- ---- a commit

-- the repository's answer on known parents
pub step-known : (r : Repo) (n : NewChange) (revs : List ℕ) → model_named_all r n.parents ≡ Ok revs
    → step r (Commit n) ≡ copied-answer r n (as_parents revs) (copies_hold (history r.changesets) (as_parents revs) n.files)
step-known r n revs named =
    ap (λ (x : Result (List ℕ) Refusal). x >>= λ more. copies_hold (history r.changesets) (as_parents more) n.files >>= λ copied. refused_where (nothing_changed r (new_changeset (history r.changesets) (as_parents more) n)) >>= λ unchanged. Ok (done_at (with_new r (new_changeset (history r.changesets) (as_parents more) n) n) (length r.changesets))) named

pub commit-answers : (laws : Below) (more : StepsBelow) (t : Tree) (r : Repo) (l : Loaded) (s : Stands t r) (loads : IsLoadedOf t l) → IsLogOf t (of_changelog l.changelog) (history r.changesets).changelog → IsWhole t (of_changelog l.changelog) → IsLogOf t (of_manifest l.manifest) (history r.changesets).manifest → IsWhole t (of_manifest l.manifest)
    → (n : NewChange) → IsNewChange n → (clash : Option (List ℕ)) → ((e : Refusal) → model_named_all r n.parents ≡ Err e → (commit_in clash l n t ≡ Err (Refused (refused_for e))) × (step r (Commit n) ≡ Err e))
    → ((revs : List ℕ) → model_named_all r n.parents ≡ Ok revs → (commit_in clash l n t ≡ step_on clash l n (as_parents revs) t) × AreBelow (length r.changesets) (as_parents revs))
    → ((parents : Parents) (x : OfGrown × Parents) → AreBelow (length r.changesets) parents → grown_in l n parents t ≡ Ok (x, []) → AreGrownFilesOf t r (next r n parents) x.0)
    → ((parents : Parents) (x : OfGrown × Parents) (z : OfTexts) → AreBelow (length r.changesets) parents → copies_hold (history r.changesets) parents n.files ≡ Ok tt → has_inline l ≡ false → grown_in l n parents t ≡ Ok (x, []) → texts_in l n parents x.0 x.1 t ≡ Ok (z, []) → ClashOn l n (trees_in l n parents t) None None → standing (history r.changesets).changelog (changeset_revision (history r.changesets) (new_changeset (history r.changesets) parents n)).text parents ≡ None → long_list l (length z.lines) ≡ [] → ListsPaths t r → HasBytePaths n → IsReady t r (Commit n) (next r n parents))
    → named_all l n.parents ≡ model_named_all r n.parents → AnswersAs t r l n clash (commit_in clash l n t) (step r (Commit n))
commit-answers laws more t r l s loads changelog changelog_whole manifest manifest_whole n good clash unknown known files is_ready names = by (model_named_all r n.parents) refl
  where
    -- what is named, and both answers, are these
    moved : (named : Result (List ℕ) Refusal) (a : Result Step CommitFault) (b : Result Next Refusal) → model_named_all r n.parents ≡ named → commit_in clash l n t ≡ a → step r (Commit n) ≡ b → AnswersWith (ClashBy l n t (parents_answer named) clash) t r n clash a b → AnswersAs t r l n clash (commit_in clash l n t) (step r (Commit n))
    moved named a b g e f is =
        subst (λ (o : Result (List ℕ) Refusal). AnswersWith (ClashBy l n t (parents_answer o) clash) t r n clash (commit_in clash l n t) (step r (Commit n))) (sym (names ∙ g))
        (subst (λ (x : Result Step CommitFault). AnswersWith (ClashBy l n t (parents_answer named) clash) t r n clash x (step r (Commit n))) (sym e)
        (subst (λ (y : Result Next Refusal). AnswersWith (ClashBy l n t (parents_answer named) clash) t r n clash a y) (sym f) is))

    keeps : (revs : List ℕ) → model_named_all r n.parents ≡ Ok revs → copies_hold (history r.changesets) (as_parents revs) n.files ≡ Ok tt → nothing_changed r (new_changeset (history r.changesets) (as_parents revs) n) ≡ None → IsRepo (next r n (as_parents revs))
    keeps revs named copies none =
        let c = new_changeset (history r.changesets) (as_parents revs) n in
        let done = done_at (with_new r c n) (length r.changesets) in
        more.keeps r done.0 (Commit n) done.1 s.repository good (step-known r n revs named ∙ ap (copied-answer r n (as_parents revs)) copies ∙ ap (answer-of r c n) none)

    -- on known parents, by what is told of the copies
    on-copies : (revs : List ℕ) → model_named_all r n.parents ≡ Ok revs → AreBelow (length r.changesets) (as_parents revs) → (copies : Result (Unit {0}) Refusal) → copies_hold (history r.changesets) (as_parents revs) n.files ≡ copies
        → AnswersWith (ClashOn l n (trees_in l n (as_parents revs) t) None clash) t r n clash (or_refused (as_fault copies) (λ copied. step_copied clash l n (as_parents revs) t)) (copied-answer r n (as_parents revs) copies)
    on-copies revs named below (Err e) is = refl
    on-copies revs named below (Ok x) is =
        commit-on laws more t r l s loads changelog changelog_whole manifest manifest_whole n good clash (as_parents revs) below (λ y e. files (as_parents revs) y below e) (keeps revs named is) (λ y z. is_ready (as_parents revs) y z below is)

    -- by what is read of them
    on-parents : (revs : List ℕ) → model_named_all r n.parents ≡ Ok revs → AreBelow (length r.changesets) (as_parents revs) → (g : Result (Files × Files) ReadAnswer) → both_parents l (as_parents revs) t ≡ g
        → AnswersWith (ClashOn l n (trees_in l n (as_parents revs) t) None clash) t r n clash (or_unread g (λ trees. or_refused (copies_tested trees.0.1 trees.1.1 n.files) (λ copied. step_copied clash l n (as_parents revs) t)))
        (copied-answer r n (as_parents revs) (copies_hold (history r.changesets) (as_parents revs) n.files))
    on-parents revs named below (Err why) e =
        (subst (λ (g : Result (Files × Files) ReadAnswer). IsLimited g) e (parents-limited t r l (as_parents revs) s changelog manifest below), λ read. unread (parents-there t r l (as_parents revs) s changelog manifest read below))
      where
        unread : (x : Files × Files) × (both_parents l (as_parents revs) t ≡ Ok x) → ⊥
        unread there = no (sym e ∙ there.1)
          where
            no : ◌≡◌ {A = Result (Files × Files) ReadAnswer} (Err why) (Ok there.0) → ⊥
            no k = cc
    on-parents revs named below (Ok trees) e =
        let parents = as_parents revs in
        let told = copies-are t r l n parents trees s changelog manifest below e in
        subst (λ (p : Result (Unit {0}) PlanFault). AnswersWith (ClashOn l n (trees_in l n parents t) None clash) t r n clash (or_refused p (λ copied. step_copied clash l n parents t)) (copied-answer r n parents (copies_hold (history r.changesets) parents n.files))) (sym told)
        (on-copies revs named below (copies_hold (history r.changesets) parents n.files) refl)

    by : (named : Result (List ℕ) Refusal) → model_named_all r n.parents ≡ named → AnswersAs t r l n clash (commit_in clash l n t) (step r (Commit n))
    by (Err e) named = let u = unknown e named in moved (Err e) (Err (Refused (refused_for e))) (Err e) named u.0 u.1 refl
    by (Ok revs) named =
        let k = known revs named in
        moved (Ok revs) (step_on clash l n (as_parents revs) t) (copied-answer r n (as_parents revs) (copies_hold (history r.changesets) (as_parents revs) n.files)) named k.0 (step-known r n revs named)
        (on-parents revs named k.1 (both_parents l (as_parents revs) t) refl)
