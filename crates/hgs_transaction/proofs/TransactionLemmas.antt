-- The plan of the parts of a transaction has the operations of that transaction.
use Rattle.std.proofs.Common.{◌≡◌, ℕ, List, [], ◌∷◌, ◌++◌, length, drop, map, refl, sym, ◌∙◌, ap, append_assoc}
use Rattle.std.specs.Prelude.{Bool, true, false, Option, Some, None, is_some, unwrap_or, flat_map, if◌then◌else◌, codes}
use Rattle.std.specs.List.{AllByRecursion, cons_option, filter_map, list_all}
use Rattle.std.proofs.Math.Seq.{drop-append_seam}
use Rattle.std.proofs.lemmas.List.{map-append}
use Rattle.std.proofs.lemmas.List.Elements.{filter_map-append}
use Rattle.hgs_files.specs.declared.op.Op.{Op}
use Rattle.hgs_files.specs.declared.op.Op.TheVariants.{Cut, Rename, Remove, Create, Sync, Settle}
use Rattle.hgs_files.specs.Tree.{Tree, bytes_at}
use Rattle.hgs_bytes.specs.Bytes.{same as same_bytes}
use Rattle.hgs_journal.specs.declared.backups.BackupLine.{BackupLine}
use Rattle.hgs_journal.specs.declared.journal.JournalLine.{JournalLine}
use Rattle.hgs_journal.specs.Names.{backup_name, backups_path, journal_path, new_journal_path}
use Rattle.hgs_journal.specs.Texts.{backups_text, journal_text}
use Rattle.hgs_journal.specs.Undo.{undo_list}
use Rattle.hgs_model.specs.Repo.{Repo}
use Rattle.hgs_model.specs.declared.command.Command.{Command}
use Rattle.hgs_model.specs.declared.command.Command.TheVariants.{Commit, Import, Move, Mark, Unmark}
use Rattle.hgs_ops.specs.Growth.{growth}
use Rattle.hgs_ops.specs.Operations.{backups_of, changes_before, journal_line_of, journal_lines, journal_of, lock_path, new_changelog_index, new_changelog_path, operations, publishing, removals, renames_after, roots_renamed, transaction_of, wlock_path}
use Rattle.hgs_ops.specs.Replaced.{Replacement, backup_line_of, backup_put, new_put, new_rename, new_roots, replacements, roots_change, standing_file}
use Rattle.hgs_ops.specs.Theorems.CommitLemmas.{growth-appends}
use Rattle.hgs_ops.specs.Theorems.CommitTree.{is_append}
use Rattle.hgs_ops.specs.Theorems.ImportTree.{import-lines}
use Rattle.hgs_ops.specs.Theorems.Touch.{and-left, and-right, never}
use Rattle.hgs_stands.specs.Places.{changelog_index}
use Rattle.hgs_transaction.specs.declared.assemble.Plan.{Plan}
use Rattle.hgs_transaction.specs.declared.parts.Change.{Change}
use Rattle.hgs_transaction.specs.declared.parts.Change.TheVariants.{Append, Replace, MakeIndex, RenameIndex}
use Rattle.hgs_transaction.specs.declared.parts.Parts.{Parts}
use Rattle.hgs_transaction.specs.declared.parts.ReplacedFile.{ReplacedFile}
use Rattle.hgs_transaction.specs.declared.parts.ReplacedFile.TheVariants.{PhaseRoots, Dirstate, Bookmarks}
use Rattle.hgs_transaction.specs.declared.parts.Replacing.{Replacing}
use Rattle.hgs_transaction.specs.Assembled.{IsPlanOf, before_commit, before_publishing, ops_of, preparing}
use Rattle.hgs_transaction.specs.OfTransaction.{ArePartsOf, IsOfTree}
use Rattle.hgs_transaction.specs.Parts.{all_changes, backup_of, change_op, file_name, is_plain, kept_of, line_of, lines_of, replacement_of, replacings_of}

-- ---- the journal

-- the line of an operation, where the rename of the changelog's new index has that of an append to the index
abbrev op_line : Tree → Op → Option JournalLine
op_line t (Op.Append path bytes) = Some (record { name = drop 6 path; offset = length (bytes_at t path) })
op_line t (Rename from to) = if same_bytes from new_changelog_path then Some (record { name = codes "00changelog.i"; offset = length (bytes_at t changelog_index) }) else None
op_line t _ = None

abbrev op_lines : Tree → List Op → List JournalLine
op_lines t ops = filter_map (op_line t) ops

replaced-quiet : (t : Tree) (file : ReplacedFile) (text : List ℕ) → op_line t (new_rename (record { plain = is_plain file; file = file_name file; text = text })) ≡ None
replaced-quiet t PhaseRoots text = refl
replaced-quiet t Dirstate text = refl
replaced-quiet t Bookmarks text = refl

line-same : (t : Tree) (change : Change) → IsOfTree t change → line_of change ≡ op_line t (change_op change)
line-same t (Append a) h = ap (λ n. Some (record { name = drop 6 a.path; offset = n })) h
line-same t (Replace x) h = sym (replaced-quiet t x.file x.text)
line-same t (MakeIndex bytes) h = refl
line-same t (RenameIndex before) h = ap (λ n. Some (record { name = codes "00changelog.i"; offset = n })) h

lines-same : (t : Tree) (changes : List Change) → AllByRecursion (IsOfTree t) changes → lines_of changes ≡ op_lines t (map change_op changes)
lines-same t [] h = refl
lines-same t (change ∷ changes) h = ap (λ o. cons_option o (lines_of changes)) (line-same t change h.0) ∙ ap (cons_option (op_line t (change_op change))) (lines-same t changes h.1)

renames-of : (xs : List Replacing) → map change_op (map (λ x. Replace x) xs) ≡ map (λ x. new_rename (replacement_of x)) xs
renames-of [] = refl
renames-of (x ∷ xs) = ap (λ ops. new_rename (replacement_of x) ∷ ops) (renames-of xs)

renames-quiet : (t : Tree) (xs : List Replacing) → op_lines t (map (λ x. new_rename (replacement_of x)) xs) ≡ []
renames-quiet t [] = refl
renames-quiet t (x ∷ xs) = ap (λ o. cons_option o (op_lines t (map (λ x. new_rename (replacement_of x)) xs))) (replaced-quiet t x.file x.text) ∙ renames-quiet t xs

appends-same : (t : Tree) (ops : List Op) → list_all is_append ops ≡ true → op_lines t ops ≡ journal_lines t ops
appends-same t [] e = refl
appends-same t (op ∷ ops) e = ap (λ o. cons_option o (op_lines t ops)) (one op (and-left _ _ e)) ∙ ap (cons_option (journal_line_of t op)) (appends-same t ops (and-right (is_append op) _ e))
  where
    one : (op : Op) → is_append op ≡ true → op_line t op ≡ journal_line_of t op
    one (Op.Append path bytes) e = refl
    one (Cut path len) e = refl
    one (Rename from to) e = never (sym e)
    one (Remove path) e = refl
    one (Create path bytes) e = refl
    one (Sync path) e = refl
    one Settle e = refl

roots-same : (t : Tree) (r next : Repo) → op_lines t (roots_renamed r next) ≡ journal_lines t (roots_renamed r next)
roots-same t r next = by (roots_change r next)
  where
    by : (b : Bool) → op_lines t (if b then new_rename (new_roots next) ∷ [] else []) ≡ journal_lines t (if b then new_rename (new_roots next) ∷ [] else [])
    by true = refl
    by false = refl

-- the appends, what is made behind them, and the rename of the phase roots
grown-same : (t : Tree) (r next : Repo) (made : List Op) → op_lines t made ≡ journal_lines t made → op_lines t (growth t r next ++ made) ≡ journal_lines t (growth t r next ++ made)
grown-same t r next made e =
    filter_map-append (op_line t) (growth t r next) made
    ∙ ap (λ ls. ls ++ op_lines t made) (appends-same t (growth t r next) (growth-appends t r next))
    ∙ ap (λ ls. journal_lines t (growth t r next) ++ ls) e
    ∙ sym (filter_map-append (journal_line_of t) (growth t r next) made)

before-same : (t : Tree) (r next : Repo) (command : Command) → op_lines t (changes_before t r command next) ≡ journal_lines t (changes_before t r command next)
before-same t r next (Commit n) = grown-same t r next (roots_renamed r next) (roots-same t r next)
before-same t r next (Import changes) = grown-same t r next (Create new_changelog_path (new_changelog_index t r next) ∷ roots_renamed r next) (roots-same t r next)
before-same t r next (Move rev phase force) = refl
before-same t r next (Mark name rev) = refl
before-same t r next (Unmark name) = refl

published-same : (t : Tree) (r next : Repo) (command : Command) → journal_lines t (changes_before t r command next) ++ op_lines t (publishing t r command next ∷ []) ≡ journal_of t r command next
published-same t r next (Commit n) = sym (filter_map-append (journal_line_of t) (growth t r next ++ roots_renamed r next) (publishing t r (Commit n) next ∷ []))
published-same t r next (Import changes) = sym (import-lines t r next changes)
published-same t r next (Move rev phase force) = refl
published-same t r next (Mark name rev) = refl
published-same t r next (Unmark name) = refl

-- ---- the replaced files

replaced-standing : (t : Tree) (changes : List Change) → AllByRecursion (IsOfTree t) changes → AllByRecursion (λ (x : Replacing). x.standing ≡ standing_file t (replacement_of x)) (replacings_of changes)
replaced-standing t [] h = tt
replaced-standing t (Append a ∷ changes) h = replaced-standing t changes h.1
replaced-standing t (Replace x ∷ changes) h = (h.0, replaced-standing t changes h.1)
replaced-standing t (MakeIndex bytes ∷ changes) h = replaced-standing t changes h.1
replaced-standing t (RenameIndex before ∷ changes) h = replaced-standing t changes h.1

puts-of : (t : Tree) (xs : List Replacing) → AllByRecursion (λ (x : Replacing). x.standing ≡ standing_file t (replacement_of x)) xs
    → flat_map (λ (x : Replacing). backup_put (replacement_of x) x.standing) xs ≡ flat_map (λ (y : Replacement). backup_put y (standing_file t y)) (map replacement_of xs)
puts-of t [] h = refl
puts-of t (x ∷ xs) h =
    ap (λ s. backup_put (replacement_of x) s ++ flat_map (λ (x : Replacing). backup_put (replacement_of x) x.standing) xs) h.0
    ∙ ap (λ ops. backup_put (replacement_of x) (standing_file t (replacement_of x)) ++ ops) (puts-of t xs h.1)

texts-of : (xs : List Replacing) → map (λ (x : Replacing). new_put (replacement_of x)) xs ≡ map new_put (map replacement_of xs)
texts-of [] = refl
texts-of (x ∷ xs) = ap (λ ops. new_put (replacement_of x) ∷ ops) (texts-of xs)

list-of : (t : Tree) (xs : List Replacing) → AllByRecursion (λ (x : Replacing). x.standing ≡ standing_file t (replacement_of x)) xs → map backup_of xs ≡ map (backup_line_of t) (map replacement_of xs)
list-of t [] h = refl
list-of t (x ∷ xs) h =
    ap (λ s. record { plain = (replacement_of x).plain; file = (replacement_of x).file; backup = if is_some s then backup_name (replacement_of x).file else [] } ∷ map backup_of xs) h.0
    ∙ ap (λ ls. backup_line_of t (replacement_of x) ∷ ls) (list-of t xs h.1)

kept-of : (t : Tree) (xs : List Replacing) → AllByRecursion (λ (x : Replacing). x.standing ≡ standing_file t (replacement_of x)) xs
    → map kept_of xs ≡ map (λ (y : Replacement). unwrap_or (standing_file t y) []) (map replacement_of xs)
kept-of t [] h = refl
kept-of t (x ∷ xs) h =
    ap (λ s. unwrap_or s [] ∷ map kept_of xs) h.0 ∙ ap (λ ks. unwrap_or (standing_file t (replacement_of x)) [] ∷ ks) (kept-of t xs h.1)

-- ---- the parts of a transaction

changes-of : (t : Tree) (r next : Repo) (command : Command) (p : Parts) → ArePartsOf t r command next p
    → map change_op (all_changes p) ≡ changes_before t r command next ++ publishing t r command next ∷ renames_after command next
changes-of t r next command p h =
    map-append change_op p.before (p.publishing ∷ map (λ x. Replace x) p.after)
    ∙ ap (λ ops. ops ++ change_op p.publishing ∷ map change_op (map (λ x. Replace x) p.after)) h.before
    ∙ ap (λ op. changes_before t r command next ++ op ∷ map change_op (map (λ x. Replace x) p.after)) h.publish
    ∙ ap (λ ops. changes_before t r command next ++ publishing t r command next ∷ ops) (renames-of p.after ∙ h.after)

journal-of : (t : Tree) (r next : Repo) (command : Command) (p : Parts) → ArePartsOf t r command next p → lines_of (all_changes p) ≡ journal_of t r command next
journal-of t r next command p h =
    let quiet : op_lines t (renames_after command next) ≡ [] = ap (op_lines t) (sym h.after) ∙ renames-quiet t p.after in
    lines-same t (all_changes p) h.standing
    ∙ ap (op_lines t) (changes-of t r next command p h)
    ∙ filter_map-append (op_line t) (changes_before t r command next) (publishing t r command next ∷ renames_after command next)
    ∙ ap (λ ls. ls ++ op_lines t (publishing t r command next ∷ renames_after command next)) (before-same t r next command)
    ∙ ap (λ ls. journal_lines t (changes_before t r command next) ++ cons_option (op_line t (publishing t r command next)) ls) quiet
    ∙ published-same t r next command

pub record Same (t : Tree) (r : Repo) (command : Command) (next : Repo) (p : Parts) : Type 0 where
  pub journal : lines_of (all_changes p) ≡ journal_of t r command next
  pub backups : map backup_of (replacings_of (all_changes p)) ≡ backups_of t r command next
  pub kept : map kept_of (replacings_of (all_changes p)) ≡ map (λ (y : Replacement). unwrap_or (standing_file t y) []) (replacements r command next)
  pub puts : flat_map (λ (x : Replacing). backup_put (replacement_of x) x.standing) (replacings_of (all_changes p)) ≡ flat_map (λ (y : Replacement). backup_put y (standing_file t y)) (replacements r command next)
  pub texts : map (λ (x : Replacing). new_put (replacement_of x)) (replacings_of (all_changes p)) ≡ map new_put (replacements r command next)
  pub changes : map change_op (all_changes p) ≡ changes_before t r command next ++ publishing t r command next ∷ renames_after command next

same : (t : Tree) (r next : Repo) (command : Command) (p : Parts) → ArePartsOf t r command next p → Same t r command next p
same t r next command p h =
    let xs = replacings_of (all_changes p) in
    let stands = replaced-standing t (all_changes p) h.standing in
    record {
      journal = journal-of t r next command p h;
      backups = list-of t xs stands ∙ ap (map (backup_line_of t)) h.replaced;
      kept = kept-of t xs stands ∙ ap (map (λ (y : Replacement). unwrap_or (standing_file t y) [])) h.replaced;
      puts = puts-of t xs stands ∙ ap (flat_map (λ (y : Replacement). backup_put y (standing_file t y))) h.replaced;
      texts = texts-of xs ∙ ap (map new_put) h.replaced;
      changes = changes-of t r next command p h;
    }

prepared-same : (puts puts' texts texts' : List Op) (backups backups' : List BackupLine) (journal journal' : List JournalLine) → puts ≡ puts' → texts ≡ texts' → backups ≡ backups' → journal ≡ journal' →
    (puts ++ texts) ++ Create backups_path (backups_text backups) ∷ Create new_journal_path (journal_text journal) ∷ Rename new_journal_path journal_path ∷ []
    ≡ (puts' ++ texts') ++ Create backups_path (backups_text backups') ∷ Create new_journal_path (journal_text journal') ∷ Rename new_journal_path journal_path ∷ []
prepared-same puts puts' texts texts' backups backups' journal journal' ep et eb ej =
    ap (λ o. (o ++ texts) ++ Create backups_path (backups_text backups) ∷ Create new_journal_path (journal_text journal) ∷ Rename new_journal_path journal_path ∷ []) ep
    ∙ ap (λ o. (puts' ++ o) ++ Create backups_path (backups_text backups) ∷ Create new_journal_path (journal_text journal) ∷ Rename new_journal_path journal_path ∷ []) et
    ∙ ap (λ ls. (puts' ++ texts') ++ Create backups_path (backups_text ls) ∷ Create new_journal_path (journal_text journal) ∷ Rename new_journal_path journal_path ∷ []) eb
    ∙ ap (λ ls. (puts' ++ texts') ++ Create backups_path (backups_text backups') ∷ Create new_journal_path (journal_text ls) ∷ Rename new_journal_path journal_path ∷ []) ej

-- the two ways to write the whole list
arranged : (l j n : Op) (puts changes rest : List Op) → (puts ++ l ∷ j ∷ n ∷ []) ++ (changes ++ rest) ≡ ((puts ++ l ∷ j ∷ []) ++ (n ∷ changes)) ++ rest
arranged l j n puts changes rest =
    ap (λ o. o ++ (changes ++ rest)) (sym (append_assoc puts (l ∷ j ∷ []) (n ∷ [])))
    ∙ append_assoc (puts ++ l ∷ j ∷ []) (n ∷ []) (changes ++ rest)
    ∙ sym (append_assoc (puts ++ l ∷ j ∷ []) (n ∷ changes) rest)

prepared-of : (t : Tree) (r next : Repo) (command : Command) (p : Parts) → Same t r command next p → preparing p
    ≡ (flat_map (λ (y : Replacement). backup_put y (standing_file t y)) (replacements r command next) ++ map new_put (replacements r command next))
    ++ Create backups_path (backups_text (backups_of t r command next)) ∷ Create new_journal_path (journal_text (journal_of t r command next)) ∷ Rename new_journal_path journal_path ∷ []
prepared-of t r next command p h =
    prepared-same (flat_map (λ (x : Replacing). backup_put (replacement_of x) x.standing) (replacings_of (all_changes p))) (flat_map (λ (y : Replacement). backup_put y (standing_file t y)) (replacements r command next))
    (map (λ (x : Replacing). new_put (replacement_of x)) (replacings_of (all_changes p))) (map new_put (replacements r command next))
    (map backup_of (replacings_of (all_changes p))) (backups_of t r command next) (lines_of (all_changes p)) (journal_of t r command next) h.puts h.texts h.backups h.journal

pub all-operations : (t : Tree) (r next : Repo) (command : Command) (who : List ℕ) (p : Parts) (plan : Plan) → ArePartsOf t r command next p → IsPlanOf p plan
    → Create wlock_path who ∷ Create lock_path who ∷ plan.ops.items ≡ operations (transaction_of t r command who next)
all-operations t r next command who p plan h made =
    let s = same t r next command p h in
    ap (λ ops. Create wlock_path who ∷ Create lock_path who ∷ ops) (
    made.ops
    ∙ ap (λ ops. (ops ++ map change_op (all_changes p)) ++ Remove journal_path ∷ removals) (prepared-of t r next command p s)
    ∙ ap (λ ops. (((flat_map (λ (y : Replacement). backup_put y (standing_file t y)) (replacements r command next) ++ map new_put (replacements r command next)) ++ Create backups_path (backups_text (backups_of t r command next)) ∷ Create new_journal_path (journal_text (journal_of t r command next)) ∷ Rename new_journal_path journal_path ∷ []) ++ ops) ++ Remove journal_path ∷ removals) s.changes)
    ∙ ap (λ o. Create wlock_path who ∷ Create lock_path who ∷ (o ++ Remove journal_path ∷ removals)) (
    arranged (Create backups_path (backups_text (backups_of t r command next))) (Create new_journal_path (journal_text (journal_of t r command next))) (Rename new_journal_path journal_path)
    (flat_map (λ (y : Replacement). backup_put y (standing_file t y)) (replacements r command next) ++ map new_put (replacements r command next))
    (changes_before t r command next) (publishing t r command next ∷ renames_after command next))

pub all-undone : (t : Tree) (r next : Repo) (command : Command) (who : List ℕ) (p : Parts) (plan : Plan) → ArePartsOf t r command next p → IsPlanOf p plan → plan.undo.items ≡ (transaction_of t r command who next).undo
all-undone t r next command who p plan h made =
    let s = same t r next command p h in
    made.undo
    ∙ ap (λ ls. undo_list ls (map backup_of (replacings_of (all_changes p))) (map kept_of (replacings_of (all_changes p)))) s.journal
    ∙ ap (λ ls. undo_list (journal_of t r command next) ls (map kept_of (replacings_of (all_changes p)))) s.backups
    ∙ ap (λ ks. undo_list (journal_of t r command next) (backups_of t r command next) ks) s.kept

-- ---- the places

at-place : (front back ops : List Op) (n : ℕ) → ops ≡ front ++ back → n ≡ length front → drop n ops ≡ back
at-place front back ops n e m = ap (λ k. drop k ops) m ∙ ap (λ o. drop (length front) o) e ∙ drop-append_seam front back

pub committed : (p : Parts) (plan : Plan) → IsPlanOf p plan → drop plan.commit plan.ops.items ≡ Remove journal_path ∷ removals
committed p plan made = at-place (before_commit p) (Remove journal_path ∷ removals) plan.ops.items plan.commit made.ops made.commit

split-at : (p : Parts) → ops_of p ≡ before_publishing p ++ (change_op p.publishing ∷ map (λ x. new_rename (replacement_of x)) p.after ++ Remove journal_path ∷ removals)
split-at p =
    let rest : List Op = Remove journal_path ∷ removals in
    ap (λ ops. (preparing p ++ ops) ++ rest) (map-append change_op p.before (p.publishing ∷ map (λ x. Replace x) p.after) ∙ ap (λ ops. map change_op p.before ++ change_op p.publishing ∷ ops) (renames-of p.after))
    ∙ append_assoc (preparing p) (map change_op p.before ++ change_op p.publishing ∷ map (λ x. new_rename (replacement_of x)) p.after) rest
    ∙ ap (λ ops. preparing p ++ ops) (append_assoc (map change_op p.before) (change_op p.publishing ∷ map (λ x. new_rename (replacement_of x)) p.after) rest)
    ∙ sym (append_assoc (preparing p) (map change_op p.before) (change_op p.publishing ∷ map (λ x. new_rename (replacement_of x)) p.after ++ rest))

pub published : (t : Tree) (r next : Repo) (command : Command) (p : Parts) (plan : Plan) → ArePartsOf t r command next p → IsPlanOf p plan
    → drop plan.publish plan.ops.items ≡ publishing t r command next ∷ renames_after command next ++ Remove journal_path ∷ removals
published t r next command p plan h made =
    at-place (before_publishing p) (change_op p.publishing ∷ map (λ x. new_rename (replacement_of x)) p.after ++ Remove journal_path ∷ removals) plan.ops.items plan.publish (made.ops ∙ split-at p) made.publish
    ∙ ap (λ op. op ∷ map (λ x. new_rename (replacement_of x)) p.after ++ Remove journal_path ∷ removals) h.publish
    ∙ ap (λ ops. publishing t r command next ∷ ops ++ Remove journal_path ∷ removals) h.after
