-- One transaction, in parts: wherever it is stopped the tree stands for one of its two repositories, or can be taken back to
-- the first, and undoing it leads there.
use Rattle.std.proofs.Common.{◌≡◌, ◌⊎◌, ℕ, List, [], ◌∷◌, ◌++◌, Bool, true, false, cond, ◌||◌, not, map, drop, refl, sym, ◌∙◌, ap, subst, inl, inr, append_assoc}
use Rattle.std.specs.Prelude.{is_some, length, unwrap_or}
use Rattle.std.specs.List.{AllByRecursion, list_any}
use Rattle.std.proofs.lemmas.List.Elements.{filter_map-append}
use Rattle.hgs_bytes.specs.Bytes.{same, among}
use Rattle.hgs_bytes.specs.Theorems.ByteLemmas.{same-eq, same-refl}
use Rattle.hgs_files.specs.declared.op.Op.{Op}
use Rattle.hgs_files.specs.declared.op.Op.TheVariants.{Append, Cut, Rename, Remove, Create, Sync, Settle}
use Rattle.hgs_files.specs.Log.{IsDone}
use Rattle.hgs_files.specs.Tree.{Tree, after_all, apply, bytes_at}
use Rattle.hgs_files.specs.Theorems.LogLemmas.{after-done}
use Rattle.hgs_files.specs.Theorems.StopLemmas.{IsInPart, done-in-part}
use Rattle.hgs_files.specs.Theorems.TreeLemmas.{after_all-append}
use Rattle.hgs_journal.specs.declared.backups.BackupLine.{BackupLine}
use Rattle.hgs_journal.specs.declared.journal.JournalLine.{JournalLine}
use Rattle.hgs_journal.specs.Begun.{HasOffset, IsAllowed, IsPrepared, LeadsBack, bytes_before, is_free}
use Rattle.hgs_journal.specs.Covers.{Restores, undo_ops, is_loose, journal_paths, no_repeat}
use Rattle.hgs_journal.specs.Names.{backup_name, in_store, journal_path, place, new_journal_path}
use Rattle.hgs_journal.specs.Texts.{IsJournalLine, journal_text}
use Rattle.hgs_journal.specs.Undo.{undo_list}
use Rattle.hgs_model.specs.Repo.{Repo}
use Rattle.hgs_stands.specs.Open.{IsOpen}
use Rattle.hgs_stands.specs.Places.{changelog_index}
use Rattle.hgs_stands.specs.Stands.{IsClean, Stands}
use Rattle.hgs_ops.specs.Operations.{journal_line_of, journal_lines, lock_path, new_changelog_path, preparations, removals, strays, wlock_path}
use Rattle.hgs_ops.specs.Replaced.{Replacement, backup_line_of, standing_file}
use Rattle.hgs_ops.specs.Stops.{IsBetween}
use Rattle.hgs_ops.proofs.Below.{Below}
use Rattle.hgs_ops.proofs.ImportParts.{ComesTo}
use Rattle.hgs_ops.proofs.JournalLemmas.{IsGood, IsOneFile, backups-kept, list-stands, offsets, or-true, paths-fail, place_of_file, places-same, prep-loose, prep-stays, replaced-all, small-unnamed, small_paths, text-stands}
use Rattle.hgs_ops.proofs.Parts.{done-split, done-within}
use Rattle.hgs_ops.specs.Theorems.Replace.{gone-none}
use Rattle.hgs_ops.proofs.SmallFiles.{IsOne, is-one}
use Rattle.hgs_ops.proofs.SmallFiles.IsOne.{phaseroots, dirstate, bookmarks}
use Rattle.hgs_ops.specs.Theorems.Touch.{bool, bytes-same, never, or-both, touched-within, untouched, apply-other}

-- What the laws of a journal ask of a transaction, whose journal names what is appended to in some operations: what is done of
-- it comes to appends to paths that a journal may name, and renames of new texts to the files that it replaces, each once,
-- and these append to nothing else.
pub record IsPlan (t : Tree) (files : List Replacement) (named changes : List Op) (publish : Op) (renames : List Op) : Type 0 where
  pub ones : AllByRecursion IsOneFile files
  pub once : no_repeat (map place_of_file files) ≡ true
  pub ops : List Op
  pub good : AllByRecursion (IsGood files) ops
  pub lines : journal_lines t ops ≡ journal_lines t named
  pub spelled : AllByRecursion IsJournalLine (journal_lines t named)
  pub comes : (u : Tree) → bytes_at u changelog_index ≡ bytes_at t changelog_index → (done left : List Op) → IsDone (changes ++ publish ∷ renames) done left → ComesTo ops u done

lines-one : (t : Tree) (op : Op) (ops : List Op) → journal_lines t ops ≡ [] → journal_lines t (op ∷ ops) ≡ journal_lines t (op ∷ [])
lines-one t (Append path bytes) ops e = ap (λ l. record { name = drop 6 path; offset = length (bytes_at t path) } ∷ l) e
lines-one t (Cut path len) ops e = e
lines-one t (Rename from to) ops e = e
lines-one t (Remove path) ops e = e
lines-one t (Create path bytes) ops e = e
lines-one t (Sync path) ops e = e
lines-one t Settle ops e = e

-- the lines of operations behind which nothing is appended
pub lines-through : (t : Tree) (changes : List Op) (publish : Op) (renames : List Op) → journal_lines t renames ≡ [] → journal_lines t (changes ++ publish ∷ renames) ≡ journal_lines t (changes ++ publish ∷ [])
lines-through t changes publish renames none = filter_map-append (journal_line_of t) changes (publish ∷ renames) ∙ ap (λ l. journal_lines t changes ++ l) (lines-one t publish renames none) ∙ sym (filter_map-append (journal_line_of t) changes (publish ∷ []))

-- no backup is the new index of the changelog
new-unneeded : (t : Tree) (files : List Replacement) → AllByRecursion IsOneFile files → among new_changelog_path (map (λ (l : BackupLine). place l.plain l.backup) (map (backup_line_of t) files)) ≡ false
new-unneeded t [] all = refl
new-unneeded t (x ∷ files) all = or-both _ _ (by (is-one x.plain x.file all.0) (is_some (standing_file t x))) (new-unneeded t files all.1)
  where
    by : {p : Bool} {file : List ℕ} → IsOne p file → (b : Bool) → same new_changelog_path (place p (cond b (backup_name file) [])) ≡ false
    by phaseroots true = refl
    by phaseroots false = refl
    by dirstate true = refl
    by dirstate false = refl
    by bookmarks true = refl
    by bookmarks false = refl

small-one : (p : Bool) (x : List ℕ) → IsOne p x → among (place p x) small_paths ≡ true
small-one p x phaseroots = refl
small-one p x dirstate = refl
small-one p x bookmarks = refl

-- the bytes that a writer keeps
abbrev pub old_bytes : Tree → List Replacement → List (List ℕ)
old_bytes t files = map (λ x. unwrap_or (standing_file t x) []) files

kept-bytes : (t : Tree) (files : List Replacement) → bytes_before t (map (backup_line_of t) files) ≡ old_bytes t files
kept-bytes t [] = refl
kept-bytes t (x ∷ files) = ap (λ l. unwrap_or (standing_file t x) [] ∷ l) (kept-bytes t files)

module _ (below : Below) (t : Tree) (who : List ℕ) (files : List Replacement) (named changes : List Op) (publish : Op) (renames : List Op) (plan : IsPlan t files named changes publish renames) (r : Repo) (s : Stands t r) where
  abbrev all_ops : List Op
  all_ops = changes ++ publish ∷ renames

  abbrev lines : List JournalLine
  lines = journal_lines t named

  abbrev list : List BackupLine
  list = map (backup_line_of t) files

  abbrev text : List ℕ
  text = journal_text lines

  abbrev prep : List Op
  prep = preparations t who files list text

  abbrev t0 : Tree
  t0 = after_all prep t

  abbrev t1 : Tree
  t1 = apply (Rename new_journal_path journal_path) t0

  abbrev undo : List Op
  undo = undo_list lines list (old_bytes t files)

  unnamed : (p : List ℕ) → among p small_paths ≡ true → among p (journal_paths lines) ≡ false
  unnamed p e = ap (λ l. among p (journal_paths l)) (sym plan.lines) ∙ small-unnamed t files plan.ops p e plan.good

  none-named : (xs : List Replacement) → AllByRecursion IsOneFile xs → list_any (λ path. among path (journal_paths lines)) (map place_of_file xs) ≡ false
  none-named [] all = refl
  none-named (x ∷ xs) all = or-both _ _ (unnamed (place_of_file x) (small-one x.plain x.file (is-one x.plain x.file all.0))) (none-named xs all.1)

  ready : IsPrepared strays lines list t0 t
  ready = record {
    lines = plan.spelled;
    offsets = subst (AllByRecursion (HasOffset t)) plan.lines (offsets t files plan.ops plan.good);
    apart = ap (λ l. list_any (λ path. is_loose strays path || same path journal_path) (journal_paths l)) (sym plan.lines) ∙ paths-fail t files (λ path. is_loose strays path || same path journal_path) plan.ops (λ path g. g.kept) plan.good;
    unnamed = ap (list_any (λ path. among path (journal_paths lines))) (places-same t files) ∙ none-named files plan.ones;
    text_stands = text-stands t who files plan.ones plan.once text;
    list_stands = list-stands t who files plan.ones plan.once text;
    replaced = replaced-all t files plan.ones;
    once = ap no_repeat (places-same t files) ∙ plan.once;
    kept = backups-kept t who files plan.ones plan.once text;
    others = prep-stays t who files plan.ones plan.once text;
    undone = s.no_journal;
  }

  allowed-of : (xs : List Op) → AllByRecursion (IsGood files) xs → ((path : List ℕ) → among path (journal_paths (journal_lines t xs)) ≡ true → among path (journal_paths lines) ≡ true) → AllByRecursion (IsAllowed lines list) xs
  allowed-of [] all sub = tt
  allowed-of (Append path bytes ∷ xs) all sub =
      (sub path (ap (λ b. b || among path (journal_paths (journal_lines t xs))) (ap (same path) all.0.spelled ∙ same-refl path)), allowed-of xs all.1 (λ p e. sub p (or-true (same p (in_store (drop 6 path))) (among p (journal_paths (journal_lines t xs))) e)))
  allowed-of (Rename from to ∷ xs) ((x, e, f, one, placed), rest) sub =
      ((x.plain, x.file, e, f, one, ap (among (place_of_file x)) (places-same t files) ∙ placed, unnamed (place_of_file x) (small-one x.plain x.file (is-one x.plain x.file one))), allowed-of xs rest sub)
  allowed-of (Cut path len ∷ xs) all sub = absurd all.0
  allowed-of (Remove path ∷ xs) all sub = absurd all.0
  allowed-of (Create path bytes ∷ xs) all sub = absurd all.0
  allowed-of (Sync path ∷ xs) all sub = absurd all.0
  allowed-of (Settle ∷ xs) all sub = absurd all.0

  -- whatever part is done behind the whole journal, the tree leads back
  pub changes-lead-back : (done left : List Op) → IsDone all_ops done left → LeadsBack strays lines list (after_all done t1) t
  changes-lead-back done left h =
      let index : bytes_at t1 changelog_index ≡ bytes_at t changelog_index = bytes-same t t1 changelog_index (apply-other (Rename new_journal_path journal_path) t0 changelog_index refl ∙ prep-stays t who files plan.ones plan.once text changelog_index refl) in
      let d = plan.comes t1 index done left h in
      below.free strays (after_all d.other t1) (after_all done t1) t lines list
      (below.changed strays t1 t lines list plan.ops d.other d.rest refl (below.named strays lines list t0 t refl ready) (allowed-of plan.ops plan.good (λ path e. ap (λ l. among path (journal_paths l)) (sym plan.lines) ∙ e)) d.is_done)
      (λ p bound. d.agree p (not-new p bound))
    where
      -- what undoing needs is not the new index
      free-new : is_free strays list new_changelog_path ≡ true
      free-new = ap not (new-unneeded t files plan.ones)

      not-new : (p : List ℕ) → is_free strays list p ≡ false → same new_changelog_path p ≡ false
      not-new p bound = elim (bool (same new_changelog_path p)) [
        | inl e ↦ never (sym free-new ∙ ap (is_free strays list) (same-eq new_changelog_path p e) ∙ bound)
        | inr e ↦ e
      ]

  -- before the journal the tree stands for the repository
  pub before-stands : (done left : List Op) → IsDone prep done left → Stands (after_all done t) r
  before-stands done left h =
      below.loose strays t (after_all done t) r refl (λ path free. untouched done t path (touched-within (is_loose strays) done path (done-within (is_loose strays) prep done left h (prep-loose t who files plan.ones plan.once text)) free)) s

  -- it stays open until the journal goes
  pub changes-open : (done left : List Op) → IsDone all_ops done left → IsOpen strays (after_all done t1) r
  changes-open done left h = (t, (changes-lead-back done left h).covers, s)

  -- ---- undoing

  module _ (done left : List Op) (h : IsDone all_ops done left) where
    abbrev u : Tree
    u = after_all done t1

    undo-is : undo_list lines list (bytes_before t list) ≡ undo
    undo-is = ap (undo_list lines list) (kept-bytes t files)

    pub undone : Stands (after_all undo u) r
    undone =
        let lead = changes-lead-back done left h in
        subst (λ (ops : List Op). Stands (after_all ops u) r) (below.kept strays u t lines list lead ∙ undo-is) (below.restored strays _ t r refl (below.leads strays u t lines list refl lead) s)

    pub undone-clean : IsClean (after_all (undo ++ removals) u) r
    undone-clean = subst (λ (v : Tree). IsClean v r) (sym (after_all-append undo removals u)) (record {
      stands = below.loose strays (after_all undo u) (after_all removals (after_all undo u)) r refl (λ path free. untouched removals (after_all undo u) path (touched-within (is_loose strays) removals path refl free)) undone;
      no_locks = (gone-none wlock_path false removals (after_all undo u) (λ e. never (sym e)) refl, (gone-none lock_path false removals (after_all undo u) (λ e. never (sym e)) refl, tt));
    })

    as-read : (log rest : List Op) → IsDone undo log rest → IsDone (undo_ops u lines list) log rest
    as-read log rest k = subst (λ (ops : List Op). IsDone ops log rest) (sym (below.kept strays u t lines list (changes-lead-back done left h) ∙ undo-is)) k

    -- wherever it is stopped the tree still leads back, or has the files of the one before
    pub undo-back : (log rest : List Op) → IsDone undo log rest → LeadsBack strays lines list (after_all log u) t ⊎ ((rest ≡ []) × Restores strays (after_all log u) t)
    undo-back log rest k = below.parts strays u t lines list log rest refl (changes-lead-back done left h) (as-read log rest k)

    -- or stands
    pub undo-lead : (log rest : List Op) → IsDone undo log rest → LeadsBack strays lines list (after_all log u) t ⊎ ((rest ≡ []) × Stands (after_all log u) r)
    undo-lead log rest k = elim (below.parts strays u t lines list log rest refl (changes-lead-back done left h) (as-read log rest k)) [
      | inl lead ↦ inl lead
      | inr ends ↦ inr (ends.0, below.restored strays (after_all log u) t r refl ends.1 s)
    ]

    pub undo-may-stop : (log rest : List Op) → IsDone undo log rest → IsOpen strays (after_all log u) r ⊎ ((rest ≡ []) × Stands (after_all log u) r)
    undo-may-stop log rest k = elim (undo-lead log rest k) [
      | inl lead ↦ inl (t, lead.covers, s)
      | inr ends ↦ inr ends
    ]

    -- and each file has the bytes that it had, or those of the tree before
    pub undo-files : (log rest : List Op) → IsDone undo log rest → (path : List ℕ) → is_loose strays path ≡ false → same path journal_path ≡ false → (bytes_at (after_all log u) path ≡ bytes_at u path) ⊎ (bytes_at (after_all log u) path ≡ bytes_at t path)
    undo-files log rest k path free off = below.files strays u t lines list path log rest refl (changes-lead-back done left h) free off (as-read log rest k)

  -- ---- behind the removal of the journal, and the whole

  module _ (next : Repo) (leads : Stands (after_all (prep ++ (Rename new_journal_path journal_path ∷ changes) ++ (publish ∷ renames) ++ (Remove journal_path ∷ removals)) t) next) where
    abbrev whole : List Op
    whole = prep ++ (Rename new_journal_path journal_path ∷ changes) ++ (publish ∷ renames) ++ (Remove journal_path ∷ removals)

    abbrev t2 : Tree
    t2 = after_all all_ops t1

    abbrev t3 : Tree
    t3 = apply (Remove journal_path) t2

    regroup : whole ≡ prep ++ (Rename new_journal_path journal_path ∷ (all_ops ++ (Remove journal_path ∷ removals)))
    regroup =
        append_assoc (prep ++ (Rename new_journal_path journal_path ∷ changes)) (publish ∷ renames) (Remove journal_path ∷ removals)
        ∙ append_assoc prep (Rename new_journal_path journal_path ∷ changes) ((publish ∷ renames) ++ (Remove journal_path ∷ removals))
        ∙ ap (λ l. prep ++ (Rename new_journal_path journal_path ∷ l)) (sym (append_assoc changes (publish ∷ renames) (Remove journal_path ∷ removals)))

    ends : after_all whole t ≡ after_all removals t3
    ends =
        ap (λ l. after_all l t) regroup ∙ after_all-append prep (Rename new_journal_path journal_path ∷ (all_ops ++ (Remove journal_path ∷ removals))) t
        ∙ after_all-append all_ops (Remove journal_path ∷ removals) t1

    -- behind the journal's removal the tree stands for the next repository
    pub removed-stands : (done left : List Op) → IsDone removals done left → Stands (after_all done t3) next
    removed-stands done left h =
        below.loose strays (after_all removals t3) (after_all done t3) next refl
        (λ path free. untouched done t3 path (touched-within (is_loose strays) done path (done-within (is_loose strays) removals done left h refl) free) ∙ sym (untouched removals t3 path (touched-within (is_loose strays) removals path refl free)))
        (subst (λ (u : Tree). Stands u next) ends leads)

    abbrev Says : Tree → Type 0
    Says u = IsBetween u r next

    last : (done left : List Op) → IsOpen strays t2 r → IsDone (Remove journal_path ∷ removals) done left → Says (after_all done t2)
    last done left is_open h = elim (done-split (Remove journal_path ∷ []) removals done left h) [
      | inl (l, k) ↦ one (done-in-part (Remove journal_path) done l k)
      | inr (a, b, e, k, m) ↦ subst Says (sym (ap (λ l. after_all l t2) e ∙ after_all-append a b t2 ∙ ap (after_all b) (after-done (Remove journal_path ∷ []) a [] t2 k))) (inr (inr (removed-stands b left m)))
    ]
      where
        one : IsInPart (Remove journal_path) done → Says (after_all done t2)
        one (inl e) = subst Says (sym (ap (λ l. after_all l t2) e)) (inr (inl is_open))
        one (inr (piece, rest, (f, g), leaves)) = subst Says (sym (leaves t2 ∙ ap (λ op. apply op t2) f)) (inr (inr (removed-stands [] removals refl)))

    middle : (done left : List Op) → IsDone (all_ops ++ (Remove journal_path ∷ removals)) done left → Says (after_all done t1)
    middle done left h = elim (done-split all_ops (Remove journal_path ∷ removals) done left h) [
      | inl (l, k) ↦ inr (inl (changes-open done l k))
      | inr (a, b, e, k, m) ↦
          let same_tree = after-done all_ops a [] t1 k in
          subst Says (sym (ap (λ l. after_all l t1) e ∙ after_all-append a b t1 ∙ ap (after_all b) same_tree)) (last b left (subst (λ (u : Tree). IsOpen strays u r) same_tree (changes-open a [] k)) m)
    ]

    second : (done left : List Op) → Stands t0 r → IsDone ((Rename new_journal_path journal_path ∷ []) ++ (all_ops ++ (Remove journal_path ∷ removals))) done left → Says (after_all done t0)
    second done left stands h = elim (done-split (Rename new_journal_path journal_path ∷ []) (all_ops ++ (Remove journal_path ∷ removals)) done left h) [
      | inl (l, k) ↦ one (done-in-part (Rename new_journal_path journal_path) done l k)
      | inr (a, b, e, k, m) ↦ subst Says (sym (ap (λ l. after_all l t0) e ∙ after_all-append a b t0 ∙ ap (after_all b) (after-done (Rename new_journal_path journal_path ∷ []) a [] t0 k))) (middle b left m)
    ]
      where
        one : IsInPart (Rename new_journal_path journal_path) done → Says (after_all done t0)
        one (inl e) = subst Says (sym (ap (λ l. after_all l t0) e)) (inl stands)
        one (inr (piece, rest, (f, g), leaves)) = subst Says (sym (leaves t0 ∙ ap (λ op. apply op t0) f)) (inr (inl (changes-open [] all_ops refl)))

    pub may-stop : (done left : List Op) → IsDone whole done left → Says (after_all done t)
    may-stop done left h = elim (done-split prep ((Rename new_journal_path journal_path ∷ []) ++ (all_ops ++ (Remove journal_path ∷ removals))) done left (subst (λ l. IsDone l done left) regroup h)) [
      | inl (l, k) ↦ inl (before-stands done l k)
      | inr (a, b, e, k, m) ↦
          let same_tree = after-done prep a [] t k in
          subst Says (sym (ap (λ l. after_all l t) e ∙ after_all-append a b t ∙ ap (after_all b) same_tree)) (second b left (subst (λ (u : Tree). Stands u r) same_tree (before-stands a [] k)) m)
    ]
