-- A commit leaves what it lays, locks and strays aside.
use Rattle.std.proofs.Common.{◌≡◌, ◌⊎◌, ℕ, List, [], ◌∷◌, ◌++◌, Bool, true, false, ◌||◌, map, refl, sym, ◌∙◌, ap, inl, inr, Some, None}
use Rattle.std.specs.Prelude.{is_some}
use Rattle.std.specs.List.{AllByRecursion}
use Rattle.hgs_bytes.specs.Bytes.{same}
use Rattle.hgs_bytes.specs.Theorems.ByteLemmas.{same-eq}
use Rattle.hgs_files.specs.declared.op.Op.{Op}
use Rattle.hgs_files.specs.declared.op.Op.TheVariants.{Append, Create, Remove, Rename}
use Rattle.hgs_files.specs.Tree.{Tree, after_all, apply, renamed, with_file}
use Rattle.hgs_files.specs.Theorems.TreeLemmas.{after_all-append}
use Rattle.hgs_journal.specs.Covers.{is_loose}
use Rattle.hgs_journal.specs.Names.{journal_path, new_name, place, new_journal_path}
use Rattle.hgs_journal.specs.Texts.{journal_text}
use Rattle.hgs_model.specs.Repo.{Repo}
use Rattle.hgs_model.specs.Theorems.ListLemmas.{all-join}
use Rattle.hgs_model.specs.declared.command.Command.TheVariants.{Commit}
use Rattle.hgs_model.specs.declared.command.NewChange.{NewChange}
use Rattle.hgs_stands.specs.Places.{changelog_index}
use Rattle.hgs_ops.specs.Growth.{growth, new_changelog_entry}
use Rattle.hgs_ops.specs.Laid.{laid, put_whole}
use Rattle.hgs_ops.specs.Operations.{backups_of, journal_of, operations, preparations, removals, strays, transaction_of}
use Rattle.hgs_ops.specs.Replaced.{Replacement, dirstate_with, marks_with, new_bookmarks, new_dirstate, new_rename, new_roots, only_if, roots_change, roots_of, roots_with}
use Rattle.hgs_ops.specs.Theorems.Beside.{AreSameAside, entry-same, growth-same}
use Rattle.hgs_ops.specs.Theorems.Clear.{IsAppend, growth-clear}
use Rattle.hgs_ops.specs.Theorems.CommitLemmas.{growth-quiet}
use Rattle.hgs_journal.specs.Covers.{no_repeat}
use Rattle.hgs_ops.proofs.JournalLemmas.{IsOneFile, place_of_file}
use Rattle.hgs_ops.specs.Theorems.CommitTree.{commit_list, files_of, first_of, is_quiet, second_of}
use Rattle.hgs_ops.specs.Theorems.Touch.{at, away, bool, never, or-both, or-left, or-right, touched, touched-append, touched-within, untouched}
use Rattle.hgs_ops.proofs.GoodLemmas.{files-once, files-ones}
use Rattle.hgs_ops.proofs.InStep.{Agree, Reads, StandsNew, agree-all, agree-op, apply-alike, created, created-new, created-stays}

-- the files of the repository: no lock, no stray and not the journal
abbrev Kept : List ℕ → Type 0
Kept q = (is_loose strays q ≡ false) × (same q journal_path ≡ false)

appends-read : (xs : List Op) → AllByRecursion IsAppend xs → AllByRecursion (Reads Kept) xs
appends-read [] all = tt
appends-read (Append path bytes ∷ xs) all = ((or-left _ (same path journal_path) all.0.0, or-right _ (same path journal_path) all.0.0), appends-read xs all.1)
appends-read (Rename from to ∷ xs) all = absurd all.0
appends-read (Remove path ∷ xs) all = absurd all.0
appends-read (Create path bytes ∷ xs) all = absurd all.0
appends-read (_ ∷ xs) all = absurd all.0

-- ---- a new text gets its name, or is put whole

-- the rename of a new text that stands does what putting it does
renamed-put : (x : Replacement) (v w : Tree) → is_loose strays (place x.plain (new_name x.file)) ≡ true → StandsNew v x → Agree Kept v w → Agree Kept (apply (new_rename x) v) (apply (put_whole x) w)
renamed-put x v w loose stands a q k = ap (λ f. renamed v from to f q) stands ∙ by (bool (same to q))
  where
    from : List ℕ
    from = place x.plain (new_name x.file)

    to : List ℕ
    to = place x.plain x.file

    off : same from q ≡ false
    off = by (bool (same from q))
      where
        by : (same from q ≡ true) ⊎ (same from q ≡ false) → same from q ≡ false
        by (inl e) = never (sym loose ∙ ap (is_loose strays) (same-eq from q e) ∙ k.0)
        by (inr e) = e

    by : (same to q ≡ true) ⊎ (same to q ≡ false) → renamed v from to (Some x.text) q ≡ apply (put_whole x) w q
    by (inl e) = at (with_file v from None) to q (Some x.text) e ∙ sym (at w to q (Some x.text) e)
    by (inr e) = away (with_file v from None) to q (Some x.text) e ∙ away v from q None off ∙ a q k ∙ sym (away w to q (Some x.text) e)

-- another new text stands still
still-new : (x : Replacement) (op : Op) (v : Tree) → touched (place x.plain (new_name x.file)) (op ∷ []) ≡ false → StandsNew v x → StandsNew (apply op v) x
still-new x op v e s = untouched (op ∷ []) v (place x.plain (new_name x.file)) e ∙ s

first-laid : (rc bk : Bool) (a b c : List ℕ) (v w : Tree) → AllByRecursion (StandsNew v) (files_of rc bk a b c) → Agree Kept v w
    → Agree Kept (after_all (first_of rc a) v) (after_all (map put_whole (only_if rc (roots_with a))) w) × AllByRecursion (StandsNew (after_all (first_of rc a) v)) (dirstate_with b ∷ only_if bk (marks_with c))
first-laid true true a b c v w s k = (renamed-put (roots_with a) v w refl s.0 k, (still-new (dirstate_with b) (new_rename (roots_with a)) v refl s.1.0, (still-new (marks_with c) (new_rename (roots_with a)) v refl s.1.1.0, tt)))
first-laid true false a b c v w s k = (renamed-put (roots_with a) v w refl s.0 k, (still-new (dirstate_with b) (new_rename (roots_with a)) v refl s.1.0, tt))
first-laid false true a b c v w s k = (k, s)
first-laid false false a b c v w s k = (k, s)

second-laid : (bk : Bool) (b c : List ℕ) (v w : Tree) → AllByRecursion (StandsNew v) (dirstate_with b ∷ only_if bk (marks_with c)) → Agree Kept v w → Agree Kept (after_all (second_of bk b c) v) (after_all (map put_whole (dirstate_with b ∷ only_if bk (marks_with c))) w)
second-laid true b c v w s k =
    renamed-put (marks_with c) (apply (new_rename (dirstate_with b)) v) (apply (put_whole (dirstate_with b)) w) refl (still-new (marks_with c) (new_rename (dirstate_with b)) v refl s.1.0) (renamed-put (dirstate_with b) v w refl s.0 k)
second-laid false b c v w s k = renamed-put (dirstate_with b) v w refl s.0 k

-- new texts stand behind operations that do not come to them
news-after : (rc bk : Bool) (a b c : List ℕ) (ops : List Op) (v : Tree) → ((q : List ℕ) → is_quiet q ≡ true → touched q ops ≡ false) → AllByRecursion (StandsNew v) (files_of rc bk a b c) → AllByRecursion (StandsNew (after_all ops v)) (files_of rc bk a b c)
news-after true true a b c ops v off s = (untouched ops v _ (off _ refl) ∙ s.0, (untouched ops v _ (off _ refl) ∙ s.1.0, (untouched ops v _ (off _ refl) ∙ s.1.1.0, tt)))
news-after true false a b c ops v off s = (untouched ops v _ (off _ refl) ∙ s.0, (untouched ops v _ (off _ refl) ∙ s.1.0, tt))
news-after false true a b c ops v off s = (untouched ops v _ (off _ refl) ∙ s.0, (untouched ops v _ (off _ refl) ∙ s.1.0, tt))
news-after false false a b c ops v off s = (untouched ops v _ (off _ refl) ∙ s.0, tt)

behind-new : (bk : Bool) (b c : List ℕ) (op : Op) (v : Tree) → ((q : List ℕ) → is_quiet q ≡ true → touched q (op ∷ []) ≡ false) → AllByRecursion (StandsNew v) (dirstate_with b ∷ only_if bk (marks_with c)) → AllByRecursion (StandsNew (apply op v)) (dirstate_with b ∷ only_if bk (marks_with c))
behind-new true b c op v off s = (untouched (op ∷ []) v _ (off _ refl) ∙ s.0, (untouched (op ∷ []) v _ (off _ refl) ∙ s.1.0, tt))
behind-new false b c op v off s = (untouched (op ∷ []) v _ (off _ refl) ∙ s.0, tt)

-- ---- a commit

module _ (t : Tree) (r next : Repo) (n : NewChange) (who : List ℕ) where
  abbrev rc : Bool
  rc = roots_change r next

  abbrev bk : Bool
  bk = is_some n.bookmark

  abbrev files : List Replacement
  files = files_of rc bk (roots_of next) (new_dirstate next).text (new_bookmarks next).text

  abbrev text : List ℕ
  text = journal_text (journal_of t r (Commit n) next)

  ones : AllByRecursion IsOneFile files
  ones = files-ones rc bk (roots_of next) (new_dirstate next).text (new_bookmarks next).text

  once : no_repeat (map place_of_file files) ≡ true
  once = files-once rc bk (roots_of next) (new_dirstate next).text (new_bookmarks next).text

  abbrev opened : Tree
  opened = created t who files ones once text

  abbrev entry : Op
  entry = Append changelog_index (new_changelog_entry t r next)

  abbrev first : List Op
  first = first_of rc (roots_of next)

  abbrev second : List Op
  second = second_of bk (new_dirstate next).text (new_bookmarks next).text

  abbrev first_whole : List Op
  first_whole = map put_whole (only_if rc (roots_with (roots_of next)))

  abbrev second_whole : List Op
  second_whole = map put_whole (dirstate_with (new_dirstate next).text ∷ only_if bk (marks_with (new_bookmarks next).text))

  grown : Agree Kept (after_all (growth t r next) opened) (after_all (growth t r next) t)
  grown = agree-all Kept (growth t r next) opened t (appends-read (growth t r next) (growth-clear t r next)) (λ q k. created-stays t who files ones once text q k.0 k.1)

  news : AllByRecursion (StandsNew (after_all (growth t r next) opened)) files
  news = news-after rc bk (roots_of next) (new_dirstate next).text (new_bookmarks next).text (growth t r next) opened (growth-quiet t r next) (created-new t who files ones once text)

  entry-off : (q : List ℕ) → is_quiet q ≡ true → touched q (entry ∷ []) ≡ false
  entry-off q e = by (bool (same changelog_index q))
    where
      by : (same changelog_index q ≡ true) ⊎ (same changelog_index q ≡ false) → touched q (entry ∷ []) ≡ false
      by (inl k) = never (sym e ∙ ap is_quiet (sym (same-eq changelog_index q k)))
      by (inr k) = or-both (same changelog_index q) false k refl

  -- up to the removal of the journal
  so-far : Agree Kept (after_all second (apply entry (after_all first (after_all (growth t r next) opened)))) (after_all second_whole (apply entry (after_all first_whole (after_all (growth t r next) t))))
  so-far =
      let one = first-laid rc bk (roots_of next) (new_dirstate next).text (new_bookmarks next).text (after_all (growth t r next) opened) (after_all (growth t r next) t) news grown in
      second-laid bk (new_dirstate next).text (new_bookmarks next).text (apply entry (after_all first (after_all (growth t r next) opened))) (apply entry (after_all first_whole (after_all (growth t r next) t)))
      (behind-new bk (new_dirstate next).text (new_bookmarks next).text entry (after_all first (after_all (growth t r next) opened)) entry-off one.1)
      (agree-op Kept entry (after_all first (after_all (growth t r next) opened)) (after_all first_whole (after_all (growth t r next) t)) (refl, refl) one.0)

  abbrev end : List Op
  end = Remove journal_path ∷ removals

  listed : operations (transaction_of t r (Commit n) who next) ≡ commit_list t who files (backups_of t r (Commit n) next) text (growth t r next) first entry second
  listed = refl

  whole : after_all (operations (transaction_of t r (Commit n) who next)) t ≡ after_all end (after_all second (apply entry (after_all first (after_all (growth t r next) opened))))
  whole =
      let prep = preparations t who files (backups_of t r (Commit n) next) text in
      let changes = Rename new_journal_path journal_path ∷ (growth t r next ++ first) in
      ap (λ l. after_all l t) listed
      ∙ after_all-append ((prep ++ changes) ++ (entry ∷ second)) end t
      ∙ ap (after_all end)
      (after_all-append (prep ++ changes) (entry ∷ second) t
      ∙ ap (after_all (entry ∷ second)) (after_all-append prep changes t ∙ after_all-append (growth t r next) first opened))

  laid-is : after_all (laid t r n next) t ≡ after_all second_whole (apply entry (after_all first_whole (after_all (growth t r next) t)))
  laid-is = after_all-append (growth t r next) (first_whole ++ (entry ∷ second_whole)) t ∙ after_all-append first_whole (entry ∷ second_whole) (after_all (growth t r next) t)

  pub commit-lays : (q : List ℕ) → is_loose strays q ≡ false → same q journal_path ≡ false → after_all (operations (transaction_of t r (Commit n) who next)) t q ≡ after_all (laid t r n next) t q
  commit-lays q l j =
      ap (λ (v : Tree). v q) whole
      ∙ untouched end (after_all second (apply entry (after_all first (after_all (growth t r next) opened)))) q (touched-within (λ p. is_loose strays p || same p journal_path) end q refl (or-both _ _ l j))
      ∙ so-far q (l, j) ∙ sym (ap (λ (v : Tree). v q) laid-is)

-- ---- laid into a tree with other locks and strays

abbrev Bound : List ℕ → Type 0
Bound q = is_loose strays q ≡ false

-- what is laid reads what it appends to
abbrev Lays : Op → Type 0
Lays (Append path bytes) = Bound path
Lays (Create path bytes) = Unit {0}
Lays _ = ⊥

lays-alike : (ops : List Op) (v w : Tree) → AllByRecursion Lays ops → Agree Bound v w → Agree Bound (after_all ops v) (after_all ops w)
lays-alike [] v w all a = a
lays-alike (Append path bytes ∷ ops) v w all a = lays-alike ops (apply (Append path bytes) v) (apply (Append path bytes) w) all.1 (λ q k. apply-alike (Append path bytes) v w q (a path all.0) (a q k))
lays-alike (Create path bytes ∷ ops) v w all a = lays-alike ops (apply (Create path bytes) v) (apply (Create path bytes) w) all.1 (λ q k. apply-alike (Create path bytes) v w q tt (a q k))
lays-alike (Rename from to ∷ ops) v w all a = absurd all.0
lays-alike (Remove path ∷ ops) v w all a = absurd all.0
lays-alike (_ ∷ ops) v w all a = absurd all.0

appends-lay : (xs : List Op) → AllByRecursion IsAppend xs → AllByRecursion Lays xs
appends-lay [] all = tt
appends-lay (Append path bytes ∷ xs) all = (or-left _ (same path journal_path) all.0.0, appends-lay xs all.1)
appends-lay (Rename from to ∷ xs) all = absurd all.0
appends-lay (Remove path ∷ xs) all = absurd all.0
appends-lay (Create path bytes ∷ xs) all = absurd all.0
appends-lay (_ ∷ xs) all = absurd all.0

puts-lay : (files : List Replacement) → AllByRecursion Lays (map put_whole files)
puts-lay [] = tt
puts-lay (x ∷ files) = (tt, puts-lay files)

laid-lays : (t : Tree) (r next : Repo) (n : NewChange) → AllByRecursion Lays (laid t r n next)
laid-lays t r next n =
    let first : List Replacement = only_if (roots_change r next) (new_roots next) in
    let second : List Replacement = new_dirstate next ∷ only_if (is_some n.bookmark) (new_bookmarks next) in
    let entry : Op = Append changelog_index (new_changelog_entry t r next) in
    all-join Lays (growth t r next) (map put_whole first ++ (entry ∷ map put_whole second)) (appends-lay (growth t r next) (growth-clear t r next)) (all-join Lays (map put_whole first) (entry ∷ map put_whole second) (puts-lay first) (refl, puts-lay second))

laid-same : (t u : Tree) (r next : Repo) (n : NewChange) → AreSameAside t u → laid u r n next ≡ laid t r n next
laid-same t u r next n aside =
    let first = map put_whole (only_if (roots_change r next) (new_roots next)) in
    let second = map put_whole (new_dirstate next ∷ only_if (is_some n.bookmark) (new_bookmarks next)) in
    ap (λ g. g ++ (first ++ (Append changelog_index (new_changelog_entry u r next) ∷ second))) (growth-same t u aside r next) ∙ ap (λ e. growth t r next ++ (first ++ (Append changelog_index e ∷ second))) (entry-same t u aside r next)

pub laid-alike : (t u : Tree) (r next : Repo) (n : NewChange) → AreSameAside t u → (path : List ℕ) → is_loose strays path ≡ false → after_all (laid u r n next) u path ≡ after_all (laid t r n next) t path
laid-alike t u r next n aside path free = ap (λ ops. after_all ops u path) (laid-same t u r next n aside) ∙ lays-alike (laid t r n next) u t (laid-lays t r next n) (λ q k. aside q k) path free

firsts-off : (rc : Bool) (a : List ℕ) → touched journal_path (map put_whole (only_if rc (roots_with a))) ≡ false
firsts-off true a = refl
firsts-off false a = refl

seconds-off : (bk : Bool) (b c : List ℕ) → touched journal_path (map put_whole (dirstate_with b ∷ only_if bk (marks_with c))) ≡ false
seconds-off true b c = refl
seconds-off false b c = refl

laid-off : (t : Tree) (r next : Repo) (n : NewChange) → touched journal_path (laid t r n next) ≡ false
laid-off t r next n =
    let first = map put_whole (only_if (roots_change r next) (new_roots next)) in
    let second = map put_whole (new_dirstate next ∷ only_if (is_some n.bookmark) (new_bookmarks next)) in
    let entry : Op = Append changelog_index (new_changelog_entry t r next) in
    touched-append journal_path (growth t r next) (first ++ (entry ∷ second)) (growth-quiet t r next journal_path refl)
    (touched-append journal_path first (entry ∷ second) (firsts-off (roots_change r next) (roots_of next)) (seconds-off (is_some n.bookmark) (new_dirstate next).text (new_bookmarks next).text))

pub commit-lays-beside : (t u : Tree) (r next : Repo) (n : NewChange) (who : List ℕ) → t journal_path ≡ None → after_all (operations (transaction_of t r (Commit n) who next)) t journal_path ≡ None → AreSameAside t u
    → (path : List ℕ) → is_loose strays path ≡ false → after_all (laid u r n next) u path ≡ after_all (operations (transaction_of t r (Commit n) who next)) t path
commit-lays-beside t u r next n who none gone aside path free =
    laid-alike t u r next n aside path free ∙ by (bool (same path journal_path))
  where
    by : (same path journal_path ≡ true) ⊎ (same path journal_path ≡ false) → after_all (laid t r n next) t path ≡ after_all (operations (transaction_of t r (Commit n) who next)) t path
    by (inr e) = sym (commit-lays t r next n who path free e)
    by (inl e) = ap (after_all (laid t r n next) t) (same-eq path journal_path e) ∙ untouched (laid t r n next) t journal_path (laid-off t r next n) ∙ none ∙ sym gone
        ∙ sym (ap (after_all (operations (transaction_of t r (Commit n) who next)) t) (same-eq path journal_path e))
