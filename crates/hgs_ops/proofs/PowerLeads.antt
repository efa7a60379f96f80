-- The operations of a command that a loss of power does no harm to lead where its operations lead.
use Rattle.hgs_files.specs.Log.{IsDone}
use Rattle.hgs_journal.specs.Begun.{bytes_before}
use Rattle.hgs_power.specs.Undo.{undo_list}
use Rattle.hgs_ops.specs.PowerCourses.Fate.{whole, undone, recovered}
use Rattle.std.proofs.Common.{◌≡◌, ◌⊎◌, ℕ, List, [], ◌∷◌, ◌++◌, Bool, true, false, ◌||◌, map, refl, sym, ◌∙◌, ap, subst, inl, inr, None}
use Rattle.std.specs.Prelude.{Ok, is_some, suc}
use Rattle.std.specs.Option.{option_map}
use Rattle.std.specs.List.{AllByRecursion, list_all}
use Rattle.hgs_bytes.specs.Bytes.{same, among}
use Rattle.hgs_bytes.specs.Theorems.ByteLemmas.{same-eq}
use Rattle.hgs_files.specs.declared.op.Op.{Op}
use Rattle.hgs_files.specs.declared.op.Op.TheVariants.{Append, Cut, Rename, Remove, Create, Sync, Settle}
use Rattle.hgs_files.specs.Tree.{Tree, after_all, apply}
use Rattle.hgs_files.specs.Theorems.TreeLemmas.{after_all-append}
use Rattle.hgs_journal.specs.declared.journal.JournalLine.{JournalLine}
use Rattle.hgs_journal.specs.Covers.{is_loose, journal_paths, no_repeat}
use Rattle.hgs_journal.specs.Names.{journal_path, new_journal_path, new_name, place}
use Rattle.hgs_journal.specs.Texts.{journal_text}
use Rattle.hgs_model.specs.Repo.{Repo}
use Rattle.hgs_model.specs.Step.{Answer, sets_bookmark, step}
use Rattle.hgs_model.specs.Valid.{IsValid}
use Rattle.hgs_model.specs.declared.command.NewChange.{NewChange}
use Rattle.hgs_model.specs.declared.command.Command.{Command}
use Rattle.hgs_model.specs.declared.command.Command.TheVariants.{Commit, Import, Move, Mark, Unmark}
use Rattle.hgs_power.specs.Course.{AllWithin, IsCourse, IsOpenFor, IsUnmoved, disk_after, Part, place_after}
use Rattle.hgs_power.specs.Disk.{Disk, Leaves, at_rest, run, tree_now}
use Rattle.hgs_power.specs.Held.{IsOrderly, IsQuiet}
use Rattle.hgs_power.specs.Theorems.Courses.{IsResting, calm-rests, course-append, course-kept, course-within, open-stands, start-kept}
use Rattle.hgs_power.specs.Theorems.Transactions.{transaction-course-tree, recovered-course, undone-course}
use Rattle.hgs_power.specs.Plan.{IsPut, Put, put_all, put_paths}
use Rattle.hgs_power.specs.Shape.{new_of, new_puts, backup_puts, puts_of, rename_of, steps_of, sync_of}
use Rattle.hgs_power.specs.Transaction.{IsTransaction, Steps, ops_to_removal, parts_of, recovered_parts_of, undone_parts_of}
use Rattle.hgs_power.specs.Theorems.Now.{bytes_of, log-tree, now-left, run-tree}
use Rattle.hgs_power.specs.Theorems.Orderly.{start-whole}
use Rattle.hgs_power.specs.Theorems.Puts.{has-tree, put-all-has}
use Rattle.hgs_power.specs.Theorems.Shapes.{put-left, put-right}
use Rattle.hgs_ops.specs.Growth.{growth, new_changelog_entry}
use Rattle.hgs_ops.specs.Operations.{journal_lines, journal_of, new_changelog_index, new_changelog_path, preparations, strays}
use Rattle.hgs_ops.specs.PowerCourses.{AreCalls, Call, parts_of_call, parts_of_calls, Fate, HasFate, number_after, parts_as}
use Rattle.hgs_ops.specs.PowerSteps.{as_new, power_locks, power_steps, rename_shape, resting_at}
use Rattle.hgs_ops.specs.Replaced.{Replacement, backup_line_of, dirstate_with, marks_with, new_bookmarks, new_dirstate, new_rename, new_roots, only_if, roots_change, roots_of, roots_with}
use Rattle.hgs_ops.specs.Theorems.Touch.{and-both, and-left, and-right, apply-other, at, bool, never, or-both, or-left, or-right, same-sym, touched-within, untouched, within}
use Rattle.hgs_ops.specs.Theorems.CommitTree.{files_of, first_of, second_of}
use Rattle.hgs_ops.proofs.Below.{Below}
use Rattle.hgs_ops.proofs.PowerShape.{command-transaction}
use Rattle.hgs_ops.specs.Theorems.Clear.{IsAppend, growth-clear}
use Rattle.hgs_stands.specs.Stands.{Stands}
use Rattle.hgs_ops.specs.Unhindered.{IsReady}
use Rattle.hgs_ops.proofs.GoodLemmas.{files-once, files-ones}
use Rattle.hgs_ops.proofs.InStep.{Agree, OrMade, Reads, StandsNew, agree-all, agree-made, all-turned, apply-alike, created, created-new, created-stays, reads-join, reads-too}
use Rattle.hgs_ops.proofs.TransactionLemmas.{settled-stands}
use Rattle.hgs_stands.specs.Places.{changelog_index}
use Rattle.hgs_ops.proofs.JournalLemmas.{IsOneFile, place_of_file}
use Rattle.hgs_ops.proofs.SmallFiles.{IsOne, is-one}
use Rattle.hgs_ops.proofs.SmallFiles.IsOne.{phaseroots, dirstate, bookmarks}

-- ---- operations in step, on two trees

-- ---- the paths that are watched: those of the repository, and the new texts

abbrev Watched : List Replacement → List ℕ → Type 0
Watched files q = ((is_loose strays q ≡ false) × (same q journal_path ≡ false)) ⊎ (among q (map new_of (map as_new files)) ≡ true)

syncs-none : (paths : List (List ℕ)) (v : Tree) → after_all (map sync_of paths) v ≡ v
syncs-none [] v = refl
syncs-none (p ∷ paths) v = syncs-none paths v

-- ---- new texts stand

-- ---- both trees once the journal stands

new-turned : (p : Bool) (x : List ℕ) → IsOne p x → (same new_journal_path (place p (new_name x)) || same journal_path (place p (new_name x))) ≡ false
new-turned p x phaseroots = refl
new-turned p x dirstate = refl
new-turned p x bookmarks = refl

puts-within : (ok : List ℕ → Bool) (puts : List Put) → list_all ok (put_paths puts) ≡ true → list_all (within ok) (put_all puts) ≡ true
puts-within ok [] e = refl
puts-within ok (x ∷ puts) e = and-both _ _ (and-left _ _ e) (puts-within ok puts (and-right (ok x.0) _ e))

loose-off : (p : List ℕ) → is_loose strays p ≡ false → same new_journal_path p ≡ false
loose-off p e = by (bool (same new_journal_path p))
  where
    by : (same new_journal_path p ≡ true) ⊎ (same new_journal_path p ≡ false) → same new_journal_path p ≡ false
    by (inr h) = h
    by (inl h) = never (sym (ap (is_loose strays) (sym (same-eq new_journal_path p h)) ∙ refl) ∙ e)

watched-new : (v w : Tree) (xs : List Replacement) (q : List ℕ) → AllByRecursion (StandsNew v) xs → AllByRecursion (StandsNew w) xs → among q (map new_of (map as_new xs)) ≡ true → v q ≡ w q
watched-new v w [] q a b e = never (sym e)
watched-new v w (x ∷ xs) q a b e = by (bool (same q (place x.plain (new_name x.file)))) (watched-new v w xs q a.1 b.1)
  where
    by : (same q (place x.plain (new_name x.file)) ≡ true) ⊎ (same q (place x.plain (new_name x.file)) ≡ false) → (among q (map new_of (map as_new xs)) ≡ true → v q ≡ w q) → v q ≡ w q
    by (inl h) rec = subst (λ y. v y ≡ w y) (sym (same-eq q (place x.plain (new_name x.file)) h)) (a.0 ∙ sym b.0)
    by (inr h) rec = rec (sym (ap (λ c. c || among q (map new_of (map as_new xs))) h) ∙ e)

news-put : (puts : List Put) (xs : List Replacement) → ((path b : List ℕ) → IsPut path b (new_puts (map as_new xs)) → IsPut path b puts) → AllByRecursion (λ (x : Replacement). IsPut (place x.plain (new_name x.file)) x.text puts) xs
news-put puts [] sub = tt
news-put puts (x ∷ xs) sub = (sub (place x.plain (new_name x.file)) x.text (inl (refl, refl)), news-put puts xs (λ path b p. sub path b (inr p)))

module _ (t : Tree) (who : List ℕ) (files : List Replacement) (ones : AllByRecursion IsOneFile files) (once : no_repeat (map place_of_file files) ≡ true)
    (journal : List JournalLine) (text : List ℕ) (each_once : no_repeat (put_paths (puts_of t (map as_new files) journal)) ≡ true) (loose : list_all (is_loose strays) (put_paths (puts_of t (map as_new files) journal)) ≡ true) where
  abbrev puts : List Put
  puts = puts_of t (map as_new files) journal

  -- the journal got its name
  abbrev named : Tree
  named = apply (Rename new_journal_path journal_path) (after_all (put_all puts) t)

  named-stays : (q : List ℕ) → is_loose strays q ≡ false → same q journal_path ≡ false → named q ≡ t q
  named-stays q l j =
      apply-other (Rename new_journal_path journal_path) (after_all (put_all puts) t) q (or-both _ _ (loose-off q l) (same-sym q journal_path j))
      ∙ untouched (put_all puts) t q (touched-within (is_loose strays) (put_all puts) q (puts-within (is_loose strays) puts loose) l)

  named-new : AllByRecursion (StandsNew named) files
  named-new = all-turned (λ (x : Replacement). IsPut (place x.plain (new_name x.file)) x.text puts) (StandsNew named) files (λ x one p.
      let path = place x.plain (new_name x.file) in
      let h = put-all-has puts (at_rest t) path x.text (start-whole t) each_once p in
      apply-other (Rename new_journal_path journal_path) (after_all (put_all puts) t) path (new-turned x.plain x.file (is-one x.plain x.file one))
      ∙ ap (λ (v : Tree). v path) (sym (log-tree (put_all puts) t)) ∙ has-tree (run (put_all puts) (at_rest t)) path x.text h)
      ones (news-put puts files (λ path b p. put-right path b (backup_puts t (map as_new files)) _ (put-left path b (new_puts (map as_new files)) _ p)))

  -- so far they agree
  pub both-agree : Agree (Watched files) named (created t who files ones once text)
  both-agree q (inl k) = named-stays q k.0 k.1 ∙ sym (created-stays t who files ones once text q k.0 k.1)
  both-agree q (inr k) = watched-new named (created t who files ones once text) files q named-new (created-new t who files ones once text) k

-- ---- to the removal of the journal

clear-reads : (files : List Replacement) (xs : List Op) → AllByRecursion IsAppend xs → AllByRecursion (Reads (Watched files)) xs
clear-reads files [] all = tt
clear-reads files (Append path bytes ∷ xs) all = (inl (or-left (is_loose strays path) (same path journal_path) all.0.0, or-right (is_loose strays path) (same path journal_path) all.0.0), clear-reads files xs all.1)
clear-reads files (Cut path len ∷ xs) all = absurd all.0
clear-reads files (Rename from to ∷ xs) all = absurd all.0
clear-reads files (Remove path ∷ xs) all = absurd all.0
clear-reads files (Create path bytes ∷ xs) all = absurd all.0
clear-reads files (Sync path ∷ xs) all = absurd all.0
clear-reads files (Settle ∷ xs) all = absurd all.0

first-reads : (rc bk : Bool) (a b c : List ℕ) → AllByRecursion (Reads (Watched (files_of rc bk a b c))) (first_of rc a)
first-reads true true a b c = (inr refl, tt)
first-reads true false a b c = (inr refl, tt)
first-reads false bk a b c = tt

second-reads : (rc bk : Bool) (a b c : List ℕ) → AllByRecursion (Reads (Watched (files_of rc bk a b c))) (second_of bk b c)
second-reads true true a b c = (inr refl, (inr refl, tt))
second-reads true false a b c = (inr refl, tt)
second-reads false true a b c = (inr refl, (inr refl, tt))
second-reads false false a b c = (inr refl, tt)

first-same : (rc : Bool) (a : List ℕ) → map rename_of (map as_new (only_if rc (roots_with a))) ≡ first_of rc a
first-same true a = refl
first-same false a = refl

second-same : (bk : Bool) (b c : List ℕ) → map rename_of (map as_new (dirstate_with b ∷ only_if bk (marks_with c))) ≡ second_of bk b c
second-same true b c = refl
second-same false b c = refl

-- two trees that agree still do once the journal is gone
gone-agree : (files : List Replacement) (v w : Tree) → Agree (Watched files) v w → (p : List ℕ) → is_loose strays p ≡ false → apply (Remove journal_path) v p ≡ apply (Remove journal_path) w p
gone-agree files v w a p l = by (bool (same journal_path p))
  where
    by : (same journal_path p ≡ true) ⊎ (same journal_path p ≡ false) → apply (Remove journal_path) v p ≡ apply (Remove journal_path) w p
    by (inl e) = at v journal_path p None e ∙ sym (at w journal_path p None e)
    by (inr e) = apply-alike (Remove journal_path) v w p tt (a p (inl (l, same-sym journal_path p e)))

module _ (below : Below) where
  -- where two lists of operations do the same to each tree, both lead to the next repository
  leads-as : (t0 : Tree) (who : List ℕ) (files : List Replacement) (ones : AllByRecursion IsOneFile files) (once : no_repeat (map place_of_file files) ≡ true) (s : Steps) (text : List ℕ)
      → s.locks ≡ power_locks who → s.puts ≡ puts_of (after_all (power_locks who) t0) (map as_new files) s.journal
      → (plan : (no_repeat (put_paths s.puts) ≡ true) × (list_all (is_loose strays) (put_paths s.puts) ≡ true))
      → (changes renames : List Op) → ((v : Tree) → after_all s.changes v ≡ after_all changes v) → ((v : Tree) → after_all s.renames v ≡ after_all renames v)
      → ((v w : Tree) → Agree (Watched files) v w → Agree (Watched files) (after_all renames (after_all changes v)) (after_all renames (after_all changes w))) → (next : Repo)
      → Stands (after_all (renames ++ (Remove journal_path ∷ [])) (after_all changes (apply (Rename new_journal_path journal_path) (after_all (preparations (after_all (power_locks who) t0) who files (map (backup_line_of (after_all (power_locks who) t0)) files) text) (after_all (power_locks who) t0))))) next
      → Stands (after_all (ops_to_removal s) t0) next
  leads-as t0 who files ones once s text locks_are puts_are plan changes renames same_changes same_renames agrees next stands =
      below.restored strays (after_all (ops_to_removal s) t0) old next refl (λ p l. inl (ap (λ (v : Tree). v p) mine ∙ gone-agree files (after_all renames (after_all changes first)) (after_all renames (after_all changes second)) agree p l ∙ sym (ap (λ (v : Tree). v p) theirs))) stands
    where
      first : Tree
      first = apply (Rename new_journal_path journal_path) (after_all (put_all (puts_of (after_all (power_locks who) t0) (map as_new files) s.journal)) (after_all (power_locks who) t0))

      second : Tree
      second = apply (Rename new_journal_path journal_path) (after_all (preparations (after_all (power_locks who) t0) who files (map (backup_line_of (after_all (power_locks who) t0)) files) text) (after_all (power_locks who) t0))

      old : Tree
      old = after_all (renames ++ (Remove journal_path ∷ [])) (after_all changes (apply (Rename new_journal_path journal_path) (after_all (preparations (after_all (power_locks who) t0) who files (map (backup_line_of (after_all (power_locks who) t0)) files) text) (after_all (power_locks who) t0))))

      agree : Agree (Watched files) (after_all renames (after_all changes first)) (after_all renames (after_all changes second))
      agree = agrees first second (both-agree (after_all (power_locks who) t0) who files ones once s.journal text
          (ap (λ l. no_repeat (put_paths l)) (sym puts_are) ∙ plan.0) (ap (λ l. list_all (is_loose strays) (put_paths l)) (sym puts_are) ∙ plan.1))

      theirs : old ≡ apply (Remove journal_path) (after_all renames (after_all changes second))
      theirs = after_all-append renames (Remove journal_path ∷ []) (after_all changes second)

      rest : List Op
      rest = s.changes ++ (s.renames ++ (Remove journal_path ∷ []))

      mine : after_all (ops_to_removal s) t0 ≡ apply (Remove journal_path) (after_all renames (after_all changes first))
      mine =
          after_all-append s.locks (Settle ∷ (put_all s.puts ++ (Rename new_journal_path journal_path ∷ Settle ∷ rest))) t0
          ∙ ap (λ l. after_all (put_all s.puts ++ (Rename new_journal_path journal_path ∷ Settle ∷ rest)) (after_all l t0)) locks_are
          ∙ after_all-append (put_all s.puts) (Rename new_journal_path journal_path ∷ Settle ∷ rest) (after_all (power_locks who) t0)
          ∙ ap (λ l. after_all rest (apply (Rename new_journal_path journal_path) (after_all (put_all l) (after_all (power_locks who) t0)))) puts_are
          ∙ after_all-append s.changes (s.renames ++ (Remove journal_path ∷ [])) first
          ∙ after_all-append s.renames (Remove journal_path ∷ []) (after_all s.changes first)
          ∙ ap (λ (v : Tree). apply (Remove journal_path) (after_all s.renames v)) (same_changes first)
          ∙ ap (apply (Remove journal_path)) (same_renames (after_all changes first))

  plan-facts : (t : Tree) (s : Steps) → IsTransaction strays s t → (no_repeat (put_paths s.puts) ≡ true) × (list_all (is_loose strays) (put_paths s.puts) ≡ true)
  plan-facts t s h = (h.plan.each_once, h.plan.loose)

  -- ---- a commit and an import

  module _ (t : Tree) (r next : Repo) (marks : Bool) where
    abbrev rc : Bool
    rc = roots_change r next

    abbrev first_ops : List Op
    first_ops = first_of rc (roots_of next)

    abbrev second_ops : List Op
    second_ops = second_of marks (new_dirstate next).text (new_bookmarks next).text

    abbrev both_files : List Replacement
    both_files = files_of rc marks (roots_of next) (new_dirstate next).text (new_bookmarks next).text

    abbrev syncs : List (List ℕ)
    syncs = journal_paths (journal_lines t (growth t r next))

    abbrev entry : Op
    entry = Append changelog_index (new_changelog_entry t r next)

    abbrev made : Op
    made = Create new_changelog_path (new_changelog_index t r next)

    abbrev taken : Op
    taken = Rename new_changelog_path changelog_index

    abbrev renamed_first : List Op
    renamed_first = map rename_of (map as_new (only_if rc (roots_with (roots_of next))))

    commit-same : (v : Tree) → after_all (growth t r next ++ (map sync_of syncs ++ (renamed_first ++ (entry ∷ [])))) v ≡ after_all ((growth t r next ++ first_ops) ++ (entry ∷ [])) v
    commit-same v =
        let grown = growth t r next in
        after_all-append grown (map sync_of syncs ++ (renamed_first ++ (entry ∷ []))) v
        ∙ after_all-append (map sync_of syncs) (renamed_first ++ (entry ∷ [])) (after_all grown v)
        ∙ ap (after_all (renamed_first ++ (entry ∷ []))) (syncs-none syncs (after_all grown v))
        ∙ after_all-append renamed_first (entry ∷ []) (after_all grown v)
        ∙ ap (λ l. after_all (entry ∷ []) (after_all l (after_all grown v))) (first-same rc (roots_of next))
        ∙ sym (after_all-append (grown ++ first_ops) (entry ∷ []) v ∙ ap (after_all (entry ∷ [])) (after_all-append grown first_ops v))

    import-same : (v : Tree) → after_all (growth t r next ++ (made ∷ (map sync_of syncs ++ (Sync new_changelog_path ∷ (renamed_first ++ (taken ∷ [])))))) v ≡ after_all ((growth t r next ++ (made ∷ first_ops)) ++ (taken ∷ [])) v
    import-same v =
        let grown = growth t r next in
        let put : Tree = apply made (after_all grown v) in
        after_all-append grown (made ∷ (map sync_of syncs ++ (Sync new_changelog_path ∷ (renamed_first ++ (taken ∷ []))))) v
        ∙ after_all-append (map sync_of syncs) (Sync new_changelog_path ∷ (renamed_first ++ (taken ∷ []))) put
        ∙ ap (after_all (renamed_first ++ (taken ∷ []))) (syncs-none syncs put)
        ∙ after_all-append renamed_first (taken ∷ []) put
        ∙ ap (λ l. after_all (taken ∷ []) (after_all l put)) (first-same rc (roots_of next))
        ∙ sym (after_all-append (grown ++ (made ∷ first_ops)) (taken ∷ []) v ∙ ap (after_all (taken ∷ [])) (after_all-append grown (made ∷ first_ops) v))

    renames-same : (last : List (List ℕ)) (v : Tree) → after_all (map rename_of (map as_new (dirstate_with (new_dirstate next).text ∷ only_if marks (marks_with (new_bookmarks next).text))) ++ map sync_of last) v ≡ after_all second_ops v
    renames-same last v =
        let renames = map rename_of (map as_new (dirstate_with (new_dirstate next).text ∷ only_if marks (marks_with (new_bookmarks next).text))) in
        after_all-append renames (map sync_of last) v
        ∙ syncs-none last (after_all renames v)
        ∙ ap (λ l. after_all l v) (second-same marks (new_dirstate next).text (new_bookmarks next).text)

    growth-reads : AllByRecursion (Reads (Watched both_files)) (growth t r next)
    growth-reads = clear-reads both_files (growth t r next) (growth-clear t r next)

    firsts-read : AllByRecursion (Reads (Watched both_files)) first_ops
    firsts-read = first-reads rc marks (roots_of next) (new_dirstate next).text (new_bookmarks next).text

    seconds-read : AllByRecursion (Reads (Watched both_files)) second_ops
    seconds-read = second-reads rc marks (roots_of next) (new_dirstate next).text (new_bookmarks next).text

    commit-agrees : (v w : Tree) → Agree (Watched both_files) v w → Agree (Watched both_files) (after_all second_ops (after_all ((growth t r next ++ first_ops) ++ (entry ∷ [])) v)) (after_all second_ops (after_all ((growth t r next ++ first_ops) ++ (entry ∷ [])) w))
    commit-agrees v w a =
        let ops = (growth t r next ++ first_ops) ++ (entry ∷ []) in
        agree-all (Watched both_files) second_ops (after_all ops v) (after_all ops w) seconds-read
        (agree-all (Watched both_files) ops v w
        (reads-join (Watched both_files) (growth t r next ++ first_ops) (entry ∷ []) (reads-join (Watched both_files) (growth t r next) first_ops growth-reads firsts-read) (inl (refl, refl), tt)) a)

    import-agrees : (v w : Tree) → Agree (Watched both_files) v w
        → Agree (Watched both_files) (after_all second_ops (after_all ((growth t r next ++ (made ∷ first_ops)) ++ (taken ∷ [])) v)) (after_all second_ops (after_all ((growth t r next ++ (made ∷ first_ops)) ++ (taken ∷ [])) w))
    import-agrees v w a q k = ap (λ (x : Tree). x q) (there v) ∙ whole q (inl k) ∙ sym (ap (λ (x : Tree). x q) (there w))
      where
        too : List ℕ → Type 0
        too = OrMade (Watched both_files) new_changelog_path

        behind : List Op
        behind = first_ops ++ (taken ∷ [])

        put : Tree → Tree
        put x = apply made (after_all (growth t r next) x)

        there : (x : Tree) → after_all second_ops (after_all ((growth t r next ++ (made ∷ first_ops)) ++ (taken ∷ [])) x) ≡ after_all second_ops (after_all behind (put x))
        there x = ap (after_all second_ops) (after_all-append (growth t r next ++ (made ∷ first_ops)) (taken ∷ []) x ∙ ap (after_all (taken ∷ [])) (after_all-append (growth t r next) (made ∷ first_ops) x) ∙ sym (after_all-append first_ops (taken ∷ []) (put x)))

        whole : Agree too (after_all second_ops (after_all behind (put v))) (after_all second_ops (after_all behind (put w)))
        whole =
            agree-all too second_ops (after_all behind (put v)) (after_all behind (put w)) (reads-too (Watched both_files) new_changelog_path second_ops seconds-read)
            (agree-all too behind (put v) (put w) (reads-join too first_ops (taken ∷ []) (reads-too (Watched both_files) new_changelog_path first_ops firsts-read) (inr refl, tt))
            (agree-made (Watched both_files) new_changelog_path (new_changelog_index t r next) (after_all (growth t r next) v) (after_all (growth t r next) w) (agree-all (Watched both_files) (growth t r next) v w growth-reads a)))

  abbrev Leads : Tree → Repo → Command → List ℕ → Repo → Type 0
  Leads t0 r command who next = Stands (after_all (ops_to_removal (power_steps (after_all (power_locks who) t0) r command who next)) t0) next

  commit-leads-too : (t0 : Tree) (r next : Repo) (n : NewChange) (who : List ℕ) (answer : Answer) → Stands (after_all (power_locks who) t0) r → IsValid (Commit n) → step r (Commit n) ≡ Ok (next, answer) → IsReady (after_all (power_locks who) t0) r (Commit n) next → Leads t0 r (Commit n) who next
  commit-leads-too t0 r next n who answer s valid accepted ready =
      let t = after_all (power_locks who) t0 in
      let bk = is_some n.bookmark in
      let rc = roots_change r next in
      leads-as t0 who (both_files t r next bk) (files-ones rc bk (roots_of next) (new_dirstate next).text (new_bookmarks next).text) (files-once rc bk (roots_of next) (new_dirstate next).text (new_bookmarks next).text)
      (power_steps t r (Commit n) who next) (journal_text (journal_of t r (Commit n) next)) refl refl (plan-facts t (power_steps t r (Commit n) who next) (command-transaction t r next (Commit n) who ready))
      ((growth t r next ++ first_ops t r next bk) ++ (entry t r next bk ∷ [])) (second_ops t r next bk) (commit-same t r next bk) (renames-same t r next bk (changelog_index ∷ [])) (commit-agrees t r next bk) next
      (settled-stands below t r next (Commit n) who s ready answer valid accepted)

  import-leads-too : (t0 : Tree) (r next : Repo) (changes : List NewChange) (who : List ℕ) (answer : Answer) → Stands (after_all (power_locks who) t0) r → IsValid (Import changes) → step r (Import changes) ≡ Ok (next, answer) → IsReady (after_all (power_locks who) t0) r (Import changes) next → Leads t0 r (Import changes) who next
  import-leads-too t0 r next changes who answer s valid accepted ready =
      let t = after_all (power_locks who) t0 in
      let bk = sets_bookmark changes in
      let rc = roots_change r next in
      leads-as t0 who (both_files t r next bk) (files-ones rc bk (roots_of next) (new_dirstate next).text (new_bookmarks next).text) (files-once rc bk (roots_of next) (new_dirstate next).text (new_bookmarks next).text)
      (power_steps t r (Import changes) who next) (journal_text (journal_of t r (Import changes) next)) refl refl (plan-facts t (power_steps t r (Import changes) who next) (command-transaction t r next (Import changes) who ready))
      ((growth t r next ++ (made t r next bk ∷ first_ops t r next bk)) ++ (taken t r next bk ∷ [])) (second_ops t r next bk) (import-same t r next bk)
      (λ v. ap (λ l. after_all l v) (second-same bk (new_dirstate next).text (new_bookmarks next).text)) (import-agrees t r next bk) next
      (settled-stands below t r next (Import changes) who s ready answer valid accepted)

  -- ---- each command

  one-leads : (t0 : Tree) (r next : Repo) (command : Command) (who : List ℕ) (x : Replacement) → IsOneFile x → power_steps (after_all (power_locks who) t0) r command who next ≡ steps_of (after_all (power_locks who) t0) (rename_shape who x) → Reads (Watched (x ∷ [])) (new_rename x)
      → IsReady (after_all (power_locks who) t0) r command next
      → Stands (after_all (Remove journal_path ∷ []) (after_all (new_rename x ∷ []) (apply (Rename new_journal_path journal_path) (after_all (preparations (after_all (power_locks who) t0) who (x ∷ []) (map (backup_line_of (after_all (power_locks who) t0)) (x ∷ [])) (journal_text [])) (after_all (power_locks who) t0))))) next
      → Leads t0 r command who next
  one-leads t0 r next command who x one is reads ready stands =
      let t = after_all (power_locks who) t0 in
      let s : Steps = steps_of t (rename_shape who x) in
      subst (λ (s : Steps). Stands (after_all (ops_to_removal s) t0) next) (sym is)
      (leads-as t0 who (x ∷ []) (one, tt) refl s (journal_text []) refl refl (plan-facts t s (subst (λ (s : Steps). IsTransaction strays s t) is (command-transaction t r next command who ready)))
      (new_rename x ∷ []) [] (λ v. refl) (λ v. refl) (λ v w a. agree-all (Watched (x ∷ [])) (new_rename x ∷ []) v w (reads, tt) a) next stands)

  pub command-leads : (t0 : Tree) (r next : Repo) (command : Command) (who : List ℕ) (answer : Answer) → Stands (after_all (power_locks who) t0) r → IsValid command → step r command ≡ Ok (next, answer) → IsReady (after_all (power_locks who) t0) r command next
      → Stands (after_all (ops_to_removal (power_steps (after_all (power_locks who) t0) r command who next)) t0) next
  command-leads t0 r next (Commit n) who answer s valid accepted ready = commit-leads-too t0 r next n who answer s valid accepted ready
  command-leads t0 r next (Import changes) who answer s valid accepted ready = import-leads-too t0 r next changes who answer s valid accepted ready
  command-leads t0 r next (Move rev phase force) who answer s valid accepted ready =
      one-leads t0 r next (Move rev phase force) who (new_roots next) refl refl (inr refl) ready (settled-stands below (after_all (power_locks who) t0) r next (Move rev phase force) who s ready answer valid accepted)
  command-leads t0 r next (Mark name rev) who answer s valid accepted ready =
      one-leads t0 r next (Mark name rev) who (new_bookmarks next) refl refl (inr refl) ready (settled-stands below (after_all (power_locks who) t0) r next (Mark name rev) who s ready answer valid accepted)
  command-leads t0 r next (Unmark name) who answer s valid accepted ready =
      one-leads t0 r next (Unmark name) who (new_bookmarks next) refl refl (inr refl) ready (settled-stands below (after_all (power_locks who) t0) r next (Unmark name) who s ready answer valid accepted)

  -- ---- a command's transaction is a course

  abbrev StandsBy : (ℕ → Repo) → ℕ → Tree → Type 0
  StandsBy repos m t = Stands t (repos m)

  unmoved : (repos : ℕ → Repo) → IsUnmoved strays (StandsBy repos)
  unmoved repos m t u r s = below.restored strays t u (repos m) refl r s

  -- the tree with the locks, on a disk
  locked-tree : (who : List ℕ) (d : Disk) → IsOrderly strays d → tree_now (run (power_locks who) d) ≡ after_all (power_locks who) (tree_now d)
  locked-tree who d o = run-tree (power_locks who) d o.whole

  abbrev steps_on : (ℕ → Repo) → ℕ → Disk → Command → List ℕ → Repo → Steps
  steps_on repos a d command who next = power_steps (after_all (power_locks who) (tree_now d)) (repos a) command who next

  same-locked : (repos : ℕ → Repo) (a : ℕ) (d : Disk) (c : Command) (who : List ℕ) (next : Repo) → tree_now (run (steps_on repos a d c who next).locks d) ≡ tree_now (run (power_locks who) d)
  same-locked repos a d (Commit n) who next = refl
  same-locked repos a d (Import changes) who next = refl
  same-locked repos a d (Move rev phase force) who next = refl
  same-locked repos a d (Mark name rev) who next = refl
  same-locked repos a d (Unmark name) who next = refl

  abbrev Resting : (ℕ → Repo) → Disk → ℕ → Type 0
  Resting repos d a = IsResting strays refl refl refl (StandsBy repos) (unmoved repos) d a

  module _ (repos : ℕ → Repo) (d : Disk) (a : ℕ) (command : Command) (who : List ℕ) (next : Repo) (answer : Answer) (i : Resting repos d a) (valid : IsValid command) (accepted : step (repos a) command ≡ Ok (next, answer))
      (ready : IsReady (after_all (power_locks who) (tree_now d)) (repos a) command next) where
    is-transaction : IsTransaction strays (steps_on repos a d command who next) (tree_now (run (steps_on repos a d command who next).locks d))
    is-transaction =
        let t = after_all (power_locks who) (tree_now d) in
        subst (IsTransaction strays (steps_on repos a d command who next)) (sym (same-locked repos a d command who next ∙ locked-tree who d i.orderly)) (command-transaction t (repos a) next command who ready)

    before : Stands (tree_now d) (repos a)
    before = open-stands strays refl refl refl (StandsBy repos) (unmoved repos) a (tree_now d) (ap (option_map (bytes_of d)) i.quiet.no_journal) (i.good (tree_now d) (now-left d i.orderly.whole))

    stands : Stands (after_all (power_locks who) (tree_now d)) (repos a)
    stands = below.loose strays (tree_now d) (after_all (power_locks who) (tree_now d)) (repos a) refl (λ p l. untouched (power_locks who) (tree_now d) p (touched-within (is_loose strays) (power_locks who) p refl l)) before

    whole-course : next ≡ repos (suc a) → IsCourse strays (StandsBy repos) (parts_of (steps_on repos a d command who next)) d (resting_at a)
    whole-course e =
        transaction-course-tree strays refl refl refl (StandsBy repos) (unmoved repos) (steps_on repos a d command who next) d a i is-transaction
        (subst (Stands (after_all (ops_to_removal (steps_on repos a d command who next)) (tree_now d))) e (command-leads (tree_now d) (repos a) next command who answer stands valid accepted ready))

    abbrev kept : List (List ℕ)
    kept = bytes_before (tree_now (run (steps_on repos a d command who next).locks d)) (steps_on repos a d command who next).backups

    back-course : (done left ops : List Op) → IsDone (steps_on repos a d command who next).changes done left → IsDone (undo_list (steps_on repos a d command who next).journal (steps_on repos a d command who next).backups kept) ops []
        → IsCourse strays (StandsBy repos) (undone_parts_of (steps_on repos a d command who next) kept done ops) d (resting_at a)
    back-course done left ops h k = undone-course strays refl refl refl (StandsBy repos) (unmoved repos) (steps_on repos a d command who next) d a i is-transaction done left ops h k

    recover-course : (done left ops : List Op) → IsDone (steps_on repos a d command who next).renames done left → IsDone (undo_list (steps_on repos a d command who next).journal (steps_on repos a d command who next).backups kept) ops []
        → IsCourse strays (StandsBy repos) (recovered_parts_of (steps_on repos a d command who next) kept done ops) d (resting_at a)
    recover-course done left ops h k = recovered-course strays refl refl refl (StandsBy repos) (unmoved repos) (steps_on repos a d command who next) d a i is-transaction done left ops h k

  pub command-course : (repos : ℕ → Repo) (d : Disk) (a : ℕ) (command : Command) (who : List ℕ) (answer : Answer) → IsOrderly strays d → IsQuiet strays d → ((t : Tree) → Leaves d t → IsOpenFor strays (StandsBy repos) a t)
      → IsValid command → step (repos a) command ≡ Ok (repos (suc a), answer) → IsReady (after_all (power_locks who) (tree_now d)) (repos a) command (repos (suc a))
      → IsCourse strays (StandsBy repos) (parts_of (steps_on repos a d command who (repos (suc a)))) d (resting_at a)
  command-course repos d a command who answer o quiet good valid accepted ready = whole-course repos d a command who (repos (suc a)) answer (record { orderly = o; quiet = quiet; good = good }) valid accepted ready refl

  -- ---- commands, one after another

  -- a call, and what is at rest after it
  call-course : (repos : ℕ → Repo) (d : Disk) (a : ℕ) (who : List ℕ) (command : Command) (next : Repo) (answer : Answer) (fate : Fate) → Resting repos d a → IsValid command → step (repos a) command ≡ Ok (next, answer)
      → IsReady (after_all (power_locks who) (tree_now d)) (repos a) command next
      → HasFate repos a next fate (steps_on repos a d command who next) (bytes_before (tree_now (run (steps_on repos a d command who next).locks d)) (steps_on repos a d command who next).backups)
      → IsCourse strays (StandsBy repos) (parts_as fate (steps_on repos a d command who next) (bytes_before (tree_now (run (steps_on repos a d command who next).locks d)) (steps_on repos a d command who next).backups)) d (resting_at a)
      × Resting repos (disk_after (parts_as fate (steps_on repos a d command who next) (bytes_before (tree_now (run (steps_on repos a d command who next).locks d)) (steps_on repos a d command who next).backups)) d (resting_at a)) (number_after fate a)
      × (place_after (parts_as fate (steps_on repos a d command who next) (bytes_before (tree_now (run (steps_on repos a d command who next).locks d)) (steps_on repos a d command who next).backups)) d (resting_at a) ≡ resting_at (number_after fate a))
  call-course repos d a who command next answer whole i valid accepted ready f =
      let s = steps_on repos a d command who next in
      let c = whole-course repos d a command who next answer i valid accepted ready f in
      (c, (course-kept strays refl refl refl (StandsBy repos) (unmoved repos) (parts_of s) d (resting_at a) c (i, refl)).0, refl)
  call-course repos d a who command next answer (undone done ops) i valid accepted ready f =
      let s = steps_on repos a d command who next in
      let kept_bytes = bytes_before (tree_now (run s.locks d)) s.backups in
      let c = back-course repos d a command who next answer i valid accepted ready done f.0 ops f.1 f.2 in
      (c, (course-kept strays refl refl refl (StandsBy repos) (unmoved repos) (undone_parts_of s kept_bytes done ops) d (resting_at a) c (i, refl)).0, refl)
  call-course repos d a who command next answer (recovered done ops) i valid accepted ready f =
      let s = steps_on repos a d command who next in
      let kept_bytes = bytes_before (tree_now (run s.locks d)) s.backups in
      let c = recover-course repos d a command who next answer i valid accepted ready done f.0 ops f.1 f.2 in
      (c, (course-kept strays refl refl refl (StandsBy repos) (unmoved repos) (recovered_parts_of s kept_bytes done ops) d (resting_at a) c (i, refl)).0, refl)

  calls-course : (repos : ℕ → Repo) (d : Disk) (a : ℕ) (calls : List Call) → Resting repos d a → AreCalls repos a d calls → IsCourse strays (StandsBy repos) (parts_of_calls repos a d calls) d (resting_at a)
  calls-course repos d a [] i c = tt
  calls-course repos d a (call ∷ calls) i c =
      let one = call-course repos d a call.who call.command call.next call.answer call.fate i c.0.0 c.0.1 c.0.2 c.0.3 in
      let parts : List Part = parts_of_call (repos a) d call in
      course-append strays refl refl refl (StandsBy repos) (unmoved repos) parts (parts_of_calls repos (number_after call.fate a) (disk_after parts d (resting_at a)) calls) d (resting_at a) one.0
      (subst (IsCourse strays (StandsBy repos) (parts_of_calls repos (number_after call.fate a) (disk_after parts d (resting_at a)) calls) (disk_after parts d (resting_at a))) (sym one.2)
      (calls-course repos (disk_after parts d (resting_at a)) (number_after call.fate a) calls one.1 c.1))

  -- From a tree that stands for the first repository: wherever the power fails, a tree of the window is left.
  pub calls-safe : (repos : ℕ → Repo) (start : Tree) (calls : List Call) → Stands start (repos 0) → AreCalls repos 0 (at_rest start) calls → AllWithin strays (StandsBy repos) (parts_of_calls repos 0 (at_rest start) calls) (at_rest start) (resting_at 0)
  calls-safe repos start calls s c =
      let i : Resting repos (at_rest start) 0 = calm-rests strays refl refl refl (StandsBy repos) (unmoved repos) (at_rest start) start 0 (start-kept strays refl refl refl (StandsBy repos) (unmoved repos) start s.no_journal s) in
      course-within strays refl refl refl (StandsBy repos) (unmoved repos) (parts_of_calls repos 0 (at_rest start) calls) (at_rest start) (resting_at 0) (calls-course repos (at_rest start) 0 calls i c) (i, refl)
