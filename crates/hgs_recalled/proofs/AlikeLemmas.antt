-- Kept texts were read, and answer as the files do.
use Rattle.std.proofs.Common.{◌≡◌, ◌⊎◌, inl, inr, ℕ, Bool, true, false, cond, List, [], ◌∷◌, Option, Some, None, Result, Ok, Err, refl, sym, ◌∙◌, ap, subst}
use Rattle.std.specs.Prelude.{slice_get}
use Rattle.hgs_bytes.specs.Bytes.{same, IsPrefixOf}
use Rattle.hgs_files.specs.declared.op.Op.{Op}
use Rattle.hgs_files.specs.Tree.{Tree, after_all}
use Rattle.hgs_index.specs.ChangeText.{Change}
use Rattle.hgs_index.specs.Manifest.{Row, read_manifest}
use Rattle.hgs_index.specs.Node.{null_node}
use Rattle.hgs_model.specs.Repo.{Changeset}
use Rattle.hgs_load.specs.declared.answer.ReadAnswer.{ReadAnswer}
use Rattle.hgs_load.specs.Asks.{Asks, answer, at_rest, then_asks, MayAnswer}
use Rattle.hgs_load.specs.Load.{asks_unless}
use Rattle.hgs_load.specs.Theorems.AskLemmas.{prefix-refl, prefix-trans}
use Rattle.hgs_load.specs.Theorems.OpenedLemmas.{rest_then}
use Rattle.hgs_load.specs.View.{View}
use Rattle.hgs_reader.specs.Contents as plain
use Rattle.hgs_reader.specs.Contents.{manifest_index, manifest_data, rows_answer, files_text, file_node, body_asks}
use Rattle.hgs_reader.specs.Find.{text_asks}
use Rattle.hgs_reader.specs.Line.{change_asks}
use Rattle.hgs_recent.specs.Questions.{UsesText, WasUsed, Keeps, rows_asks, tree_asks, changeset_use_asks}
use Rattle.hgs_recent.specs.Texts.{Texts, text_under, used}
use Rattle.hgs_recent.specs.Theorems.UseLemmas.{under-all, used-all}
use Rattle.hgs_views.specs.Answered.{OnlyAnswers, IsAnswered}
use Rattle.hgs_views.specs.Course.{Course, IsBetween, IsCourse, OpensAlong, ReadsAlong}
use Rattle.hgs_views.specs.Seen.{IsLoadedBetween, Numbers}
use Rattle.hgs_recalled.specs.Recalled.{WasRead, WereRead, AnswerAlike}
use Rattle.hgs_recalled.proofs.AskedLemmas.{IsChangesetUse, Behind, Parts, changeset-use-of, may-rest, may-then, split, tree-plain, use-plain}

-- ---- kept texts were read

was-later : (x : Course) (first last more : List Op) (kept : List ℕ × List ℕ) → IsPrefixOf last more → WasRead x first last kept → WasRead x first more kept
was-later x first last more kept on w = record {
  began = w.began;
  ended = w.ended;
  numbers = w.numbers;
  view = w.view;
  loaded = w.loaded;
  rev = w.rev;
  changeset = w.changeset;
  there = w.there;
  from = w.from;
  to = w.to;
  from_first = w.from_first;
  then_read = w.then_read;
  to_last = prefix-trans w.to last more w.to_last on;
  read = w.read;
}

pub were-later : (x : Course) (first last more : List Op) (texts : Texts) → WereRead x first last texts → IsPrefixOf last more → WereRead x first more texts
were-later x first last more [] all on = tt
were-later x first last more (kept ∷ texts) all on = (was-later x first last more kept on all.0, were-later x first last more texts all.1 on)

module _ (x : Course) (first began ended from to : List Op) (v : Numbers) (view : View) (rev : ℕ) (c : Changeset) (old new : Texts) (loaded : IsLoadedBetween x began ended v view) (there : slice_get (x.repo v.read).changesets rev ≡ Some c) (begins : IsPrefixOf first began)
    (then_read : IsPrefixOf ended from) (on : IsPrefixOf from to) (were : WereRead x first from old) where
  was : (kept : List ℕ × List ℕ) → MayAnswer x.start from (changeset_use_asks old view rev) to (Ok (Some kept)) → WasRead x first to kept
  was kept m = by u.used_text.source
    where
      u : IsChangesetUse x.start old view rev from to kept
      u = changeset-use-of x.start old view rev from to kept m

      by : (text_under u.change.manifest old ≡ Some kept.1) ⊎ MayAnswer x.start u.now (text_asks manifest_index manifest_data u.change.manifest) to (Ok kept.1) → WasRead x first to kept
      by (inl k) = subst (λ n. WasRead x first to (n, kept.1)) (sym u.used_text.node_is) (under-all (WasRead x first to) u.change.manifest kept.1 old k (were-later x first from to old were on))
      by (inr read) = record {
        began = began;
        ended = ended;
        numbers = v;
        view = view;
        loaded = loaded;
        rev = rev;
        changeset = c;
        there = there;
        from = from;
        to = to;
        from_first = begins;
        then_read = then_read;
        to_last = prefix-refl to;
        read = use-plain x.start view rev from u.now to u.change kept u.used_text.node_is u.used_text.named u.asked read;
      }

  stays : new ≡ old → WereRead x first to new
  stays is = subst (WereRead x first to) (sym is) (were-later x first from to old were on)

  used-now : WasUsed (Some from) x.start (Some to) (changeset_use_asks old view rev) old new → WereRead x first to new
  used-now (None, asked, is) = stays is
  used-now (Some kept, asked, uses) = by (text_under kept.0 old) uses
    where
      is-used : new ≡ used kept.0 kept.1 old → WereRead x first to new
      is-used is = subst (WereRead x first to) (sym is) (used-all (WasRead x first to) kept.0 kept.1 old (was kept asked) (were-later x first from to old were on))

      by : (o : Option (List ℕ)) → UsesText kept.0 kept.1 o old new → WereRead x first to new
      by (Some text) is = is-used is
      by None (inl is) = is-used is
      by None (inr is) = stays is

  pub were-kept : (r : Result Unit ReadAnswer) → Keeps (Some from) x.start (Some to) (changeset_use_asks old view rev) old new r → WereRead x first to new
  were-kept (Ok u) k = used-now k
  were-kept (Err e) (inl is) = stays is
  were-kept (Err e) (inr k) = used-now k

-- ---- one answer

-- where two questions answer the same rows, what follows both has the same answer
pub alike-then : {B : Type 0} (x : Course) (first last : List Op) (q r : Asks (Result (List Row) ReadAnswer)) (more : List Row → Asks (Result B ReadAnswer)) (rows : List Row) (z : Result B ReadAnswer) → OnlyAnswers x first last q (Ok rows) → OnlyAnswers x first last r (Ok rows) → OnlyAnswers x first last (then_asks q more) z
    → OnlyAnswers x first last (then_asks r more) z
alike-then x first last q r more rows z q_only r_only only from to y begins ends m =
    let s = split x.start r more from to y m in
    let to_now = prefix-trans first from s.now begins s.begins in
    let on = prefix-trans s.now to last s.ends ends in
    let is : s.first ≡ Ok rows = r_only from s.now s.first begins on s.asked in
    let behind = subst (Behind x.start more s.now to y) is s.behind in
    let rest = may-rest x.start s.now q in
    let same_rows = q_only s.now s.now (at_rest (after_all s.now x.start) q) to_now on rest in
    only s.now to y to_now ends (may-then x.start s.now s.now to q more rows y (subst (λ o. MayAnswer x.start s.now q s.now o) same_rows rest) behind)

course-later : (x : Course) (began first last : List Op) → IsPrefixOf began first → IsCourse x began last → IsCourse x first last
course-later x began first last on is = record {
  repository = is.repository;
  goes_on = is.goes_on;
  holds = is.holds;
  ordered = λ log there. is.ordered log (earlier log there);
  rises = λ log more there next. is.rises log more (earlier log there) next;
  shows = λ log there. is.shows log (earlier log there);
  stays = λ log i there le. is.stays log i (earlier log there) le;
}
  where
    earlier : (log : List Op) → IsBetween first last log → IsBetween began last log
    earlier log there = record { begins = prefix-trans began first log on there.begins; ends = there.ends }

-- what a law of a crate below says, on which this one rests
abbrev pub Contents : Course → List Op → Type 0
Contents x last = (began ended first : List Op) (v : Numbers) (view : View) (rev : ℕ) (c : Changeset) → IsCourse x began last → OpensAlong x first last → ReadsAlong x first last → IsLoadedBetween x began ended v view → IsPrefixOf ended first → IsPrefixOf first last → slice_get (x.repo v.read).changesets rev ≡ Some c → IsAnswered x first last view (x.repo v.read).changesets rev c

ok-is : {A : Type 0} (a b : A) → (let r : Result A ReadAnswer = Ok a in r) ≡ Ok b → a ≡ b
ok-is a b e = cc

module _ (x : Course) (zero last : List Op) (is : IsCourse x zero last) (opens : OpensAlong x zero last) (reads : ReadsAlong x zero last) (contents : Contents x last) where
  loaded-front : (began ended : List Op) (v : Numbers) (view : View) → IsLoadedBetween x began ended v view → IsPrefixOf began ended
  loaded-front began ended v view l =
      let r = l.reads in
      prefix-trans began r.bookmarks ended r.from_first (prefix-trans r.bookmarks r.dirstate ended r.then_dirstate (prefix-trans r.dirstate r.changelog ended r.then_changelog (prefix-trans r.changelog r.roots ended r.then_roots r.to_last)))

  pub answered : (began ended first : List Op) (v : Numbers) (view : View) (rev : ℕ) (c : Changeset) → IsPrefixOf zero began → IsLoadedBetween x began ended v view → IsPrefixOf ended first → IsPrefixOf first last → slice_get (x.repo v.read).changesets rev ≡ Some c → IsAnswered x first last view (x.repo v.read).changesets rev c
  answered began ended first v view rev c begins loaded on to_end there =
      let from_zero = prefix-trans zero began first begins (prefix-trans began ended first (loaded-front began ended v view loaded) on) in
      contents began ended first v view rev c (course-later x zero began last begins is) (λ log b. opens log (record { begins = prefix-trans zero first log from_zero b.begins; ends = b.ends })) (λ log b. reads log (record { begins = prefix-trans zero first log from_zero b.begins; ends = b.ends })) loaded on to_end there

  module _ (first : List Op) (view : View) (rev : ℕ) (changesets : List Changeset) (c : Changeset) (to_end : IsPrefixOf first last) (a : IsAnswered x first last view changesets rev c) where
    abbrev T : Tree
    T = after_all last x.start

    -- a text that was read under the node of this changeset's manifest has its rows
    same-rows : (kept : List ℕ × List ℕ) → WasRead x zero first kept → kept.0 ≡ a.change.manifest → rows_answer (read_manifest kept.1) ≡ Ok a.rows
    same-rows kept w node_is = by u.used_text.source
      where
        end : IsPrefixOf w.to last
        end = prefix-trans w.to first last w.to_last to_end

        u : IsChangesetUse x.start [] w.view w.rev w.from w.to kept
        u = changeset-use-of x.start [] w.view w.rev w.from w.to kept w.read

        from_end : IsPrefixOf w.from last
        from_end = prefix-trans w.from w.to last (prefix-trans w.from u.now w.to u.begins u.ends) end

        b : IsAnswered x w.from last w.view (x.repo w.numbers.read).changesets w.rev w.changeset
        b = answered w.began w.ended w.from w.numbers w.view w.rev w.changeset w.from_first w.loaded w.then_read from_end w.there

        change_is : u.change ≡ b.change
        change_is = ok-is u.change b.change (b.text w.from u.now (Ok u.change) (prefix-refl w.from) (prefix-trans u.now w.to last u.ends end) u.asked)

        -- at the last list both changesets ask for the same manifest
        theirs : at_rest T (plain.rows_asks b.change.manifest) ≡ Ok b.rows
        theirs =
            sym (rest_then T (change_asks w.view w.rev) (λ (c : Change). plain.rows_asks c.manifest) b.change (b.text last last (at_rest T (change_asks w.view w.rev)) from_end (prefix-refl last) (may-rest x.start last (change_asks w.view w.rev))))
            ∙ b.tree last last (at_rest T (plain.tree_asks w.view w.rev)) from_end (prefix-refl last) (may-rest x.start last (plain.tree_asks w.view w.rev))

        ours : at_rest T (plain.rows_asks a.change.manifest) ≡ Ok a.rows
        ours =
            sym (rest_then T (change_asks view rev) (λ (c : Change). plain.rows_asks c.manifest) a.change (a.text last last (at_rest T (change_asks view rev)) to_end (prefix-refl last) (may-rest x.start last (change_asks view rev))))
            ∙ a.tree last last (at_rest T (plain.tree_asks view rev)) to_end (prefix-refl last) (may-rest x.start last (plain.tree_asks view rev))

        nodes : b.change.manifest ≡ a.change.manifest
        nodes = ap (λ (z : Change). z.manifest) (sym change_is) ∙ sym u.used_text.node_is ∙ node_is

        by : (text_under u.change.manifest [] ≡ Some kept.1) ⊎ MayAnswer x.start u.now (text_asks manifest_index manifest_data u.change.manifest) w.to (Ok kept.1) → rows_answer (read_manifest kept.1) ≡ Ok a.rows
        by (inl k) = cc
        by (inr read) =
            b.tree w.from w.to (rows_answer (read_manifest kept.1)) (prefix-refl w.from) end (tree-plain x.start w.view w.rev w.from u.now w.to u.change kept.1 u.used_text.named u.asked read)
            ∙ sym theirs ∙ ap (λ n. at_rest T (plain.rows_asks n)) nodes ∙ ours

    module _ (texts : Texts) (were : WereRead x zero first texts) where
      pub tree-alike : OnlyAnswers x first last (tree_asks texts view rev) (Ok a.rows)
      tree-alike from to y begins ends m = by (same a.change.manifest null_node) (text_under a.change.manifest texts) refl refl behind
        where
          s : Parts x.start (change_asks view rev) (λ (c : Change). rows_asks texts c.manifest) from to y
          s = split x.start (change_asks view rev) (λ (c : Change). rows_asks texts c.manifest) from to y m

          change_is : s.first ≡ Ok a.change
          change_is = a.text from s.now s.first begins (prefix-trans s.now to last s.ends ends) s.asked

          behind : MayAnswer x.start s.now (rows_asks texts a.change.manifest) to y
          behind = subst (Behind x.start (λ (c : Change). rows_asks texts c.manifest) s.now to y) change_is s.behind

          as-plain : MayAnswer x.start s.now (plain.rows_asks a.change.manifest) to y → y ≡ Ok a.rows
          as-plain k = a.tree from to y begins ends (may-then x.start from s.now to (change_asks view rev) (λ (c : Change). plain.rows_asks c.manifest) a.change y (subst (λ r. MayAnswer x.start from (change_asks view rev) s.now r) change_is s.asked) k)

          by : (b : Bool) (o : Option (List ℕ)) → same a.change.manifest null_node ≡ b → text_under a.change.manifest texts ≡ o → MayAnswer x.start s.now (cond b (answer (Ok [])) (then_asks (asks_unless o (text_asks manifest_index manifest_data a.change.manifest)) (λ text. answer (rows_answer (read_manifest text))))) to y → y ≡ Ok a.rows
          by true o named k h = as-plain (subst (λ b. MayAnswer x.start s.now (cond b (answer (Ok [])) (then_asks (text_asks manifest_index manifest_data a.change.manifest) (λ text. answer (rows_answer (read_manifest text))))) to y) (sym named) h)
          by false None named k h = as-plain (subst (λ b. MayAnswer x.start s.now (cond b (answer (Ok [])) (then_asks (text_asks manifest_index manifest_data a.change.manifest) (λ text. answer (rows_answer (read_manifest text))))) to y) (sym named) h)
          by false (Some text) named k h = h.1 ∙ same-rows (a.change.manifest, text) (under-all (WasRead x zero first) a.change.manifest text texts k were) refl

      pub alike : AnswerAlike x first last texts view rev
      alike = record {
        files = λ z only. alike-then x first last (plain.tree_asks view rev) (tree_asks texts view rev) (λ (rows : List Row). answer (Ok (files_text rows))) a.rows z a.tree tree-alike only;
        cat = λ path z only. alike-then x first last (plain.tree_asks view rev) (tree_asks texts view rev) (λ (rows : List Row). then_asks (answer (file_node path rows)) (λ node. body_asks path node)) a.rows z a.tree tree-alike only;
      }
