-- The plans that are assembled can be carried out.
use Rattle.std.proofs.Common.{◌≡◌, ℕ, Bool, true, false, cond, List, [], ◌∷◌, ◌++◌, length, map, take, drop, reverse, refl, sym, ◌∙◌, ap, subst, arith, append_assoc, length-append}
use Rattle.std.specs.Prelude.{Option, Some, None, IsSome, unwrap_or, flat_map, ◌||◌, ◌==◌, if◌then◌else◌, codes}
use Rattle.std.specs.List.{AllByRecursion, list_any}
use Rattle.std.proofs.Math.Seq.{drop-append_seam, take-append_seam}
use Rattle.std.proofs.lemmas.List.{map-append}
use Rattle.hgs_bytes.specs.Bytes.{same}
use Rattle.hgs_files.specs.declared.op.Op.{Op}
use Rattle.hgs_files.specs.declared.op.Op.TheVariants.{Append as AppendOp, Cut, Rename, Remove, Create, Sync, Settle}
use Rattle.hgs_files.specs.Tree.{Tree, after_all, apply, bytes_at, same_path, touches, with_file, shortened, renamed}
use Rattle.hgs_journal.specs.declared.backups.BackupLine.{BackupLine}
use Rattle.hgs_journal.specs.declared.journal.JournalLine.{JournalLine}
use Rattle.hgs_journal.specs.Names.{backups_path, in_store, journal_path, new_name, place, new_journal_path}
use Rattle.hgs_journal.specs.Texts.{backups_text, journal_text}
use Rattle.hgs_journal.specs.Undo.{undo_backup, undo_backups, undo_line, undo_list, undo_with}
use Rattle.hgs_ops.specs.Operations.{new_changelog_path, removals}
use Rattle.hgs_ops.specs.Replaced.{backup_put, new_put, new_rename}
use Rattle.hgs_transaction.specs.declared.assemble.Plan.{Plan}
use Rattle.hgs_transaction.specs.declared.parts.Change.{Change}
use Rattle.hgs_transaction.specs.declared.parts.Change.TheVariants.{Append, Replace, MakeIndex, RenameIndex}
use Rattle.hgs_transaction.specs.declared.parts.Parts.{Parts}
use Rattle.hgs_transaction.specs.declared.parts.ReplacedFile.{ReplacedFile}
use Rattle.hgs_transaction.specs.declared.parts.ReplacedFile.TheVariants.{PhaseRoots, Dirstate, Bookmarks}
use Rattle.hgs_transaction.specs.declared.parts.Replacing.{Replacing}
use Rattle.hgs_transaction.specs.Assembled.{IsPlanOf, before_commit, before_publishing, ops_of, preparing, texts_put}
use Rattle.hgs_transaction.specs.Parts.{all_changes, backup_of, change_op, file_name, is_plain, kept_of, length_before, lines_of, replacement_of, replacings_of}
use Rattle.hgs_machine.specs.Planned.{HasSource, IsPlanned, Publishes, SourcesStand}
use Rattle.hgs_machine.specs.Sound.{AreMadeFirst, AreOnce, AreSound, IsPublished}
use Rattle.hgs_machine.proofs.Lists.{at-place}
use Rattle.hgs_machine.proofs.Trees.{after_all-append, same_path-refl}

-- ---- files that stand

stays : (b : Bool) (file other : Option (List ℕ)) → IsSome file → IsSome other → IsSome (cond b file other)
stays true file other f o = f
stays false file other f o = o

-- what stands stays where another file is made
written : (t : Tree) (path other bytes : List ℕ) → IsSome (t other) → IsSome (with_file t path (Some bytes) other)
written t path other bytes h = stays (same_path path other) (Some bytes) (t other) refl h

-- the file from which a new text is renamed
abbrev source_of : Replacing → List ℕ
source_of x = place (is_plain x.file) (new_name (file_name x.file))

abbrev AreThere : List Replacing → Tree → Type 0
AreThere files t = AllByRecursion (λ (x : Replacing). IsSome (t (source_of x))) files

there-written : (files : List Replacing) (t : Tree) (path bytes : List ℕ) → AreThere files t → AreThere files (with_file t path (Some bytes))
there-written [] t path bytes h = tt
there-written (x ∷ files) t path bytes h = (written t path (source_of x) bytes h.0, there-written files t path bytes h.1)

-- ---- two files that are replaced

apart : (f g : ReplacedFile) → same (file_name f) (file_name g) ≡ false → same_path (place (is_plain f) (new_name (file_name f))) (place (is_plain g) (new_name (file_name g))) ≡ false
apart PhaseRoots PhaseRoots e = absurd (let no : ⊥ = cc in no)
apart PhaseRoots Dirstate e = refl
apart PhaseRoots Bookmarks e = refl
apart Dirstate PhaseRoots e = refl
apart Dirstate Dirstate e = absurd (let no : ⊥ = cc in no)
apart Dirstate Bookmarks e = refl
apart Bookmarks PhaseRoots e = refl
apart Bookmarks Dirstate e = refl
apart Bookmarks Bookmarks e = absurd (let no : ⊥ = cc in no)

neither : (a b : Bool) → (a || b) ≡ false → (a ≡ false) × (b ≡ false)
neither false b e = (refl, e)
neither true b e = absurd (let no : ⊥ = cc in no)

neither-path : (a b : Bool) → (if a then true else b) ≡ false → (a ≡ false) × (b ≡ false)
neither-path false b e = (refl, e)
neither-path true b e = absurd (let no : ⊥ = cc in no)

gone-elsewhere : (b : Bool) (file : Option (List ℕ)) → b ≡ false → IsSome file → IsSome (cond b None file)
gone-elsewhere false file e h = h
gone-elsewhere true file e h = absurd (let no : ⊥ = cc in no)

there-renamed : (x : Replacing) (files : List Replacing) (t : Tree) (to bytes : List ℕ) → list_any (λ y. same (file_name x.file) (file_name y.file)) files ≡ false → AreThere files t → AreThere files (with_file (with_file t (source_of x) None) to (Some bytes))
there-renamed x [] t to bytes e h = tt
there-renamed x (y ∷ files) t to bytes e h =
    let both = neither (same (file_name x.file) (file_name y.file)) (list_any (λ z. same (file_name x.file) (file_name z.file)) files) e in
    (written (with_file t (source_of x) None) to (source_of y) bytes (gone-elsewhere (same_path (source_of x) (source_of y)) (t (source_of y)) (apart x.file y.file both.0) h.0), there-renamed x files t to bytes both.1 h.1)

-- ---- the changes

sources-append : (xs ys : List Op) (t : Tree) → SourcesStand xs t → SourcesStand ys (after_all xs t) → SourcesStand (xs ++ ys) t
sources-append [] ys t h k = k
sources-append (op ∷ xs) ys t h k = (h.0, sources-append xs ys (apply op t) h.1 k)

after-rename : (x : Replacing) (files : List Replacing) (t : Tree) (to : List ℕ) (file : Option (List ℕ)) → IsSome file → list_any (λ y. same (file_name x.file) (file_name y.file)) files ≡ false → AreThere files t → AreThere files (renamed t (source_of x) to file)
after-rename x files t to None some e h = absurd (let no : ⊥ = cc in no)
after-rename x files t to (Some bytes) some e h = there-renamed x files t to bytes e h

is-made : (t : Tree) (path bytes : List ℕ) → IsSome (with_file t path (Some bytes) path)
is-made t path bytes = rw (same_path-refl path) refl

-- the new index of the changelog is no new text of a file that is replaced
index-apart : (f : ReplacedFile) → (same_path (place (is_plain f) (new_name (file_name f))) new_changelog_path ≡ false) × (same_path new_changelog_path (place (is_plain f) (new_name (file_name f))) ≡ false)
index-apart PhaseRoots = (refl, refl)
index-apart Dirstate = (refl, refl)
index-apart Bookmarks = (refl, refl)

-- it stays where another file is renamed
index-stays : (x : Replacing) (t : Tree) (to : List ℕ) (file : Option (List ℕ)) → IsSome (t new_changelog_path) → IsSome (renamed t (source_of x) to file new_changelog_path)
index-stays x t to None h = h
index-stays x t to (Some bytes) h = written (with_file t (source_of x) None) to new_changelog_path bytes (gone-elsewhere (same_path (source_of x) new_changelog_path) (t new_changelog_path) (index-apart x.file).0 h)

-- and the new texts stay where it is renamed
there-published : (files : List Replacing) (t : Tree) (to : List ℕ) (file : Option (List ℕ)) → AreThere files t → AreThere files (renamed t new_changelog_path to file)
there-published files t to None h = h
there-published [] t to (Some bytes) h = tt
there-published (x ∷ files) t to (Some bytes) h =
    (written (with_file t new_changelog_path None) to (source_of x) bytes (gone-elsewhere (same_path new_changelog_path (source_of x)) (t (source_of x)) (index-apart x.file).1 h.0), there-published files t to (Some bytes) h.1)

changes-stand : (changes : List Change) (t : Tree) (made : Bool) → AreOnce (replacings_of changes) → AreMadeFirst made changes → (made ≡ true → IsSome (t new_changelog_path)) → AreThere (replacings_of changes) t → SourcesStand (map change_op changes) t
changes-stand [] t made once first stands h = tt
changes-stand (Append a ∷ changes) t made once first stands h =
    let u = apply (AppendOp a.path a.bytes) t in
    (tt, changes-stand changes u made once first (λ e. written t a.path new_changelog_path _ (stands e)) (there-written (replacings_of changes) t a.path _ h))
changes-stand (Replace x ∷ changes) t made once first stands h =
    let to = place (is_plain x.file) (file_name x.file) in
    (h.0, changes-stand changes (apply (new_rename (replacement_of x)) t) made once.1 first (λ e. index-stays x t to (t (source_of x)) (stands e)) (after-rename x (replacings_of changes) t to (t (source_of x)) h.0 once.0 h.1))
changes-stand (MakeIndex bytes ∷ changes) t made once first stands h =
    (tt, changes-stand changes (apply (Create new_changelog_path bytes) t) true once first (λ e. is-made t new_changelog_path bytes) (there-written (replacings_of changes) t new_changelog_path bytes h))
changes-stand (RenameIndex before ∷ changes) t made once first stands h =
    let u = apply (change_op (RenameIndex before)) t in
    (stands first.0, changes-stand changes u false once first.1 no (there-published (replacings_of changes) t (in_store (codes "00changelog.i")) (t new_changelog_path) h))
  where
    no : {A : Type 0} → false ≡ true → A
    no e = absurd (let never : ⊥ = cc in never)

-- ---- what is prepared

abbrev IsCreation : Op → Type 0
IsCreation (Create path bytes) = Unit {0}
IsCreation _ = ⊥

creations-stand : (ops : List Op) (t : Tree) → AllByRecursion IsCreation ops → SourcesStand ops t
creations-stand [] t h = tt
creations-stand (Create path bytes ∷ ops) t h = (tt, creations-stand ops (apply (Create path bytes) t) h.1)
creations-stand (AppendOp path bytes ∷ ops) t h = elim h.0 [ ]
creations-stand (Cut path len ∷ ops) t h = elim h.0 [ ]
creations-stand (Rename from to ∷ ops) t h = elim h.0 [ ]
creations-stand (Remove path ∷ ops) t h = elim h.0 [ ]
creations-stand (Sync path ∷ ops) t h = elim h.0 [ ]
creations-stand (Settle ∷ ops) t h = elim h.0 [ ]

creations-append : (xs ys : List Op) → AllByRecursion IsCreation xs → AllByRecursion IsCreation ys → AllByRecursion IsCreation (xs ++ ys)
creations-append [] ys h k = k
creations-append (x ∷ xs) ys h k = (h.0, creations-append xs ys h.1 k)

backups-create : (files : List Replacing) → AllByRecursion IsCreation (flat_map (λ (x : Replacing). backup_put (replacement_of x) x.standing) files)
backups-create [] = tt
backups-create (x ∷ files) = creations-append (backup_put (replacement_of x) x.standing) (flat_map (λ (x : Replacing). backup_put (replacement_of x) x.standing) files) (one x.standing) (backups-create files)
  where
    one : (standing : Option (List ℕ)) → AllByRecursion IsCreation (backup_put (replacement_of x) standing)
    one None = tt
    one (Some bytes) = (tt, tt)

texts-create : (files : List Replacing) → AllByRecursion IsCreation (map (λ (x : Replacing). new_put (replacement_of x)) files)
texts-create [] = tt
texts-create (x ∷ files) = (tt, texts-create files)

-- a file that stands stays through creations
kept-through : (ops : List Op) (t : Tree) (path : List ℕ) → AllByRecursion IsCreation ops → IsSome (t path) → IsSome (after_all ops t path)
kept-through [] t path h k = k
kept-through (Create made bytes ∷ ops) t path h k = kept-through ops (apply (Create made bytes) t) path h.1 (written t made path bytes k)
kept-through (AppendOp made bytes ∷ ops) t path h k = elim h.0 [ ]
kept-through (Cut made len ∷ ops) t path h k = elim h.0 [ ]
kept-through (Rename from to ∷ ops) t path h k = elim h.0 [ ]
kept-through (Remove made ∷ ops) t path h k = elim h.0 [ ]
kept-through (Sync made ∷ ops) t path h k = elim h.0 [ ]
kept-through (Settle ∷ ops) t path h k = elim h.0 [ ]

there-through : (files : List Replacing) (ops : List Op) (t : Tree) → AllByRecursion IsCreation ops → AreThere files t → AreThere files (after_all ops t)
there-through [] ops t h k = tt
there-through (x ∷ files) ops t h k = (kept-through ops t (source_of x) h k.0, there-through files ops t h k.1)

texts-there : (files : List Replacing) (t : Tree) → AreThere files (after_all (map (λ (x : Replacing). new_put (replacement_of x)) files) t)
texts-there [] t = tt
texts-there (x ∷ files) t =
    (kept-through (map (λ (x : Replacing). new_put (replacement_of x)) files) (apply (new_put (replacement_of x)) t) (source_of x) (texts-create files) (is-made t (source_of x) x.text), texts-there files (apply (new_put (replacement_of x)) t))

abbrev journal_files : Parts → List Op
journal_files p = Create backups_path (backups_text (map backup_of (replacings_of (all_changes p)))) ∷ Create new_journal_path (journal_text (lines_of (all_changes p))) ∷ []

abbrev naming : Op
naming = Rename new_journal_path journal_path

abbrev first_prepared : Parts → List Op
first_prepared p = texts_put (replacings_of (all_changes p)) ++ journal_files p

-- the journal gets its name last
prepared-shape : (p : Parts) → preparing p ≡ first_prepared p ++ naming ∷ []
prepared-shape p = sym (append_assoc (texts_put (replacings_of (all_changes p))) (journal_files p) (naming ∷ []))

first-create : (p : Parts) → AllByRecursion IsCreation (first_prepared p)
first-create p =
    creations-append (texts_put (replacings_of (all_changes p))) (journal_files p)
    (creations-append (flat_map (λ (x : Replacing). backup_put (replacement_of x) x.standing) (replacings_of (all_changes p))) (map (λ (x : Replacing). new_put (replacement_of x)) (replacings_of (all_changes p))) (backups-create (replacings_of (all_changes p))) (texts-create (replacings_of (all_changes p))))
    (tt, (tt, tt))

-- its text stands when it gets its name
text-there : (p : Parts) (t : Tree) → IsSome (after_all (first_prepared p) t new_journal_path)
text-there p t =
    let texts = texts_put (replacings_of (all_changes p)) in
    subst (λ (v : Tree). IsSome (v new_journal_path)) (sym (after_all-append texts (journal_files p) t))
    (is-made (apply (Create backups_path (backups_text (map backup_of (replacings_of (all_changes p))))) (after_all texts t)) new_journal_path (journal_text (lines_of (all_changes p))))

prepared-stand : (p : Parts) (t : Tree) → SourcesStand (preparing p) t
prepared-stand p t = subst (λ (l : List Op). SourcesStand l t) (sym (prepared-shape p)) (sources-append (first_prepared p) (naming ∷ []) t (creations-stand (first_prepared p) t (first-create p)) (text-there p t, tt))

journal-apart : (file : ReplacedFile) → same_path new_journal_path (place (is_plain file) (new_name (file_name file))) ≡ false
journal-apart PhaseRoots = refl
journal-apart Dirstate = refl
journal-apart Bookmarks = refl

-- the new texts stay where the journal gets its name
there-named : (files : List Replacing) (t : Tree) (to : List ℕ) (file : Option (List ℕ)) → AreThere files t → AreThere files (renamed t new_journal_path to file)
there-named files t to None h = h
there-named [] t to (Some bytes) h = tt
there-named (x ∷ files) t to (Some bytes) h =
    (written (with_file t new_journal_path None) to (source_of x) bytes (gone-elsewhere (same_path new_journal_path (source_of x)) (t (source_of x)) (journal-apart x.file) h.0), there-named files t to (Some bytes) h.1)

prepared-there : (p : Parts) (t : Tree) → AreThere (replacings_of (all_changes p)) (after_all (preparing p) t)
prepared-there p t =
    let files = replacings_of (all_changes p) in
    let backups = flat_map (λ (x : Replacing). backup_put (replacement_of x) x.standing) files in
    let texts = map (λ (x : Replacing). new_put (replacement_of x)) files in
    let u = after_all (first_prepared p) t in
    subst (AreThere files) (sym (ap (λ (l : List Op). after_all l t) (prepared-shape p) ∙ after_all-append (first_prepared p) (naming ∷ []) t))
    (there-named files u journal_path (u new_journal_path)
    (subst (AreThere files) (sym (after_all-append (backups ++ texts) (journal_files p) t))
    (there-through files (journal_files p) (after_all (backups ++ texts) t) (tt, (tt, tt))
    (subst (AreThere files) (sym (after_all-append backups texts t)) (texts-there files (after_all backups t))))))

removals-stand : (t : Tree) → SourcesStand (Remove journal_path ∷ removals) t
removals-stand t = (tt, (tt, (tt, (tt, (tt, (tt, (tt, (tt, (tt, (tt, (tt, (tt, (tt, tt)))))))))))))

all-stand : (p : Parts) (t : Tree) → AreOnce (replacings_of (all_changes p)) → AreMadeFirst false (all_changes p) → SourcesStand (ops_of p) t
all-stand p t once first =
    sources-append (before_commit p) (Remove journal_path ∷ removals) t
    (sources-append (preparing p) (map change_op (all_changes p)) t (prepared-stand p t) (changes-stand (all_changes p) (after_all (preparing p) t) false once first none (prepared-there p t)))
    (removals-stand (after_all (before_commit p) t))
  where
    none : {A : Type 0} → false ≡ true → A
    none e = absurd (let never : ⊥ = cc in never)

-- ---- undoing

line-stands : (l : JournalLine) (b : Bool) (t : Tree) → HasSource (if b then Remove (in_store l.name) else Cut (in_store l.name) l.offset) t
line-stands l true t = tt
line-stands l false t = tt

lines-stand : (lines : List JournalLine) (t : Tree) → SourcesStand (map undo_line lines) t
lines-stand [] t = tt
lines-stand (l ∷ lines) t = (line-stands l (l.offset == 0) t, lines-stand lines (apply (undo_line l) t))

with-stands : (l : BackupLine) (backup kept : List ℕ) (t : Tree) → SourcesStand (undo_with l backup kept) t
with-stands l [] kept t = (tt, tt)
with-stands l (b ∷ backup) kept t = (tt, (is-made t (place l.plain (new_name l.file)) kept, tt))

backups-stand : (lines : List BackupLine) (kept : List (List ℕ)) (t : Tree) → SourcesStand (undo_backups lines kept) t
backups-stand [] kept t = tt
backups-stand (l ∷ lines) [] t = tt
backups-stand (l ∷ lines) (k ∷ kept) t =
    sources-append (undo_backup l k) (undo_backups lines kept) t (with-stands l l.backup k t) (backups-stand lines kept (after_all (undo_backup l k) t))

undo-stands : (journal : List JournalLine) (backups : List BackupLine) (kept : List (List ℕ)) (t : Tree) → SourcesStand (undo_list journal backups kept) t
undo-stands journal backups kept t =
    sources-append (map undo_line (reverse journal) ++ undo_backups backups kept) (Remove journal_path ∷ []) t
    (sources-append (map undo_line (reverse journal)) (undo_backups backups kept) t (lines-stand (reverse journal) t) (backups-stand backups kept (after_all (map undo_line (reverse journal)) t)))
    (tt, tt)

-- ---- the publishing operation

elsewhere : (t : Tree) (p q : List ℕ) (file : Option (List ℕ)) → same_path p q ≡ false → with_file t p file q ≡ t q
elsewhere t p q file e = rw e

cut-elsewhere : (t : Tree) (p q : List ℕ) (n : ℕ) (file : Option (List ℕ)) → same_path p q ≡ false → shortened t p n file q ≡ t q
cut-elsewhere t p q n None e = refl
cut-elsewhere t p q n (Some bytes) e = elsewhere t p q (Some (take n bytes)) e

renamed-elsewhere : (t : Tree) (from to q : List ℕ) (file : Option (List ℕ)) → same_path from q ≡ false → same_path to q ≡ false → renamed t from to file q ≡ t q
renamed-elsewhere t from to q None e f = refl
renamed-elsewhere t from to q (Some bytes) e f = elsewhere (with_file t from None) to q (Some bytes) f ∙ elsewhere t from q None e

untouched : (op : Op) (t : Tree) (path : List ℕ) → touches op path ≡ false → apply op t path ≡ t path
untouched (AppendOp p bytes) t path e = elsewhere t p path _ e
untouched (Cut p n) t path e = cut-elsewhere t p path n (t p) e
untouched (Rename from to) t path e = let both = neither-path (same_path from path) (same_path to path) e in renamed-elsewhere t from to path (t from) both.0 both.1
untouched (Remove p) t path e = elsewhere t p path None e
untouched (Create p bytes) t path e = elsewhere t p path (Some bytes) e
untouched (Sync p) t path e = refl
untouched Settle t path e = refl

untouched-all : (ops : List Op) (t : Tree) (path : List ℕ) → list_any (λ op. touches op path) ops ≡ false → after_all ops t path ≡ t path
untouched-all [] t path e = refl
untouched-all (op ∷ ops) t path e =
    let both = neither (touches op path) (list_any (λ op. touches op path) ops) e in
    untouched-all ops (apply op t) path both.1 ∙ untouched op t path both.0

publishes-there : (t u : Tree) (p : Parts) (change : Change) (before : ℕ) → IsPublished t p change → before ≡ length_before change → u ≡ after_all (before_publishing p) t → Publishes u before (change_op change)
publishes-there t u p (Append a) before h e tree =
    (h.0, ap (λ (v : Tree). length (bytes_at v a.path)) tree ∙ ap (λ f. length (unwrap_or f [])) (untouched-all (before_publishing p) t a.path h.2) ∙ sym h.1 ∙ sym e)
publishes-there t u p (Replace x) before h e tree = tt
publishes-there t u p (MakeIndex bytes) before h e tree = elim h [ ]
publishes-there t u p (RenameIndex old) before h e tree = tt

-- ---- the whole

pub is-planned : (t : Tree) (p : Parts) (plan : Plan) → AreSound t p → IsPlanOf p plan → IsPlanned t plan
is-planned t p plan sound h =
    let behind = change_op p.publishing ∷ map change_op (map (λ x. Replace x) p.after) in
    let changes : map change_op (all_changes p) ≡ map change_op p.before ++ behind = map-append change_op p.before (p.publishing ∷ map (λ x. Replace x) p.after) in
    let split : ops_of p ≡ before_publishing p ++ (behind ++ Remove journal_path ∷ removals) =
    ap (λ (l : List Op). (preparing p ++ l) ++ Remove journal_path ∷ removals) changes
    ∙ ap (λ (l : List Op). l ++ Remove journal_path ∷ removals) (sym (append_assoc (preparing p) (map change_op p.before) behind))
    ∙ append_assoc (before_publishing p) behind (Remove journal_path ∷ removals) in
    let size-before = length-append (preparing p) (map change_op p.before) in
    let size-commit = length-append (preparing p) (map change_op (all_changes p)) in
    let size-changes = ap (λ (l : List Op). length l) changes in
    let size-behind = length-append (map change_op p.before) behind in
    let size-first = length-append (texts_put (replacings_of (all_changes p))) (journal_files p) in
    let size-prepared = ap (λ (l : List Op). length l) (prepared-shape p) ∙ length-append (first_prepared p) (naming ∷ []) in
    let at-first : plan.journal ≡ length (first_prepared p) = omega (arith, h.journal, size-prepared) in
    let at-journal = h.journal in
    let at-publish = h.publish in
    let at-commit = h.commit in
    record {
      begins = omega arith;
      journal = omega arith;
      publish = omega arith;
      named = at-place plan.ops.items _ plan.journal naming
          (ap (λ n. drop n plan.ops.items) at-first
          ∙ ap (λ (l : List Op). drop (length (first_prepared p)) l)
          (h.ops ∙ ap (λ (l : List Op). (l ++ map change_op (all_changes p)) ++ Remove journal_path ∷ removals) (prepared-shape p)
          ∙ append_assoc (first_prepared p ++ naming ∷ []) (map change_op (all_changes p)) (Remove journal_path ∷ removals)
          ∙ append_assoc (first_prepared p) (naming ∷ []) (map change_op (all_changes p) ++ Remove journal_path ∷ removals))
          ∙ drop-append_seam (first_prepared p) (naming ∷ (map change_op (all_changes p) ++ Remove journal_path ∷ removals)));
      commit = ap (λ n. drop n plan.ops.items) h.commit ∙ ap (λ (l : List Op). drop (length (before_commit p)) l) h.ops ∙ drop-append_seam (before_commit p) (Remove journal_path ∷ removals);
      undo = (map undo_line (reverse (lines_of (all_changes p))) ++ undo_backups (map backup_of (replacings_of (all_changes p))) (map kept_of (replacings_of (all_changes p))), h.undo);
      publishing = change_op p.publishing;
      at_publish = at-place plan.ops.items _ plan.publish (change_op p.publishing)
          (ap (λ n. drop n plan.ops.items) h.publish ∙ ap (λ (l : List Op). drop (length (before_publishing p)) l) (h.ops ∙ split) ∙ drop-append_seam (before_publishing p) (behind ++ Remove journal_path ∷ removals));
      publishes = publishes-there t (after_all (take plan.publish plan.ops.items) t) p p.publishing plan.before sound.publishing h.before
          (ap (λ (l : List Op). after_all l t) (ap (λ n. take n plan.ops.items) h.publish ∙ ap (λ (l : List Op). take (length (before_publishing p)) l) (h.ops ∙ split) ∙ take-append_seam (before_publishing p) (behind ++ Remove journal_path ∷ removals)));
      sources = subst (λ (l : List Op). SourcesStand l t) (sym h.ops) (all-stand p t sound.once sound.made);
      undo_sources = λ u. subst (λ (l : List Op). SourcesStand l u) (sym h.undo) (undo-stands (lines_of (all_changes p)) (map backup_of (replacings_of (all_changes p))) (map kept_of (replacings_of (all_changes p))) u);
    }
