-- A clash that is told is one of names.
use Rattle.std.proofs.Common.{◌≡◌, ◌⊎◌, ℕ, List, [], ◌∷◌, ◌++◌, Bool, true, false, ◌||◌, inl, inr, refl, sym, ◌∙◌, ap, subst}
use Rattle.std.specs.Prelude.{Option, Some, None, Result, Ok, Err, OnOk, length, ◌==◌, if◌then◌else◌, find}
use Rattle.std.specs.List.{list_any}
use Rattle.hgs_bytes.specs.Bytes.{among, same}
use Rattle.hgs_bytes.specs.Theorems.ByteLemmas.{same-refl}
use Rattle.hgs_commit.specs.Commit.{ClashBy, ClashOn, OfTrees, commit_in, copies_tested, is_over, lacks_source, over_where, or_refused, or_unread, parent_files, step_on}
use Rattle.hgs_commit.specs.Files.{OfFile, changed_in, file_in, file_on, file_with, filelog_in, formed, fresh_text, kept_in, new_path, parents_by, place_in, row_with, source_node}
use Rattle.hgs_commit.specs.Obstacles.{ClashBehind, Obstacle}
use Rattle.hgs_commit.specs.Texts.{OfLog, OfText, new_text_in}
use Rattle.hgs_commit.specs.Tree.{OfFiles, new_paths as new_filelogs, with_first}
use Rattle.hgs_commit.specs.Trees.{OfGrown, all_files_in, grown_of}
use Rattle.hgs_commit.specs.declared.fault.CommitFault.{CommitFault}
use Rattle.hgs_commit.specs.declared.fault.CommitFault.TheVariants.{Unread, Refused}
use Rattle.hgs_files.specs.Tree.{Tree, bytes_at}
use Rattle.hgs_index.specs.Manifest.{Row}
use Rattle.hgs_index.specs.Revision.{Parents}
use Rattle.hgs_model.specs.Step.{as_parents}
use Rattle.hgs_load.specs.declared.answer.ReadAnswer.{ReadAnswer}
use Rattle.hgs_loading.specs.Found.{and_then}
use Rattle.hgs_loading.specs.Parent.{Files}
use Rattle.hgs_manifest.specs.Held.{found_in}
use Rattle.hgs_model.specs.Valid.{new_paths}
use Rattle.hgs_commit.specs.Walk.{Told}
use Rattle.hgs_model.specs.History.{first_of, manifest_parents_of}
use Rattle.hgs_model.specs.declared.command.NewChange.{NewChange}
use Rattle.hgs_model.specs.declared.command.Refusal.{Refusal}
use Rattle.hgs_model.specs.declared.files.NewFile.{NewFile}
use Rattle.hgs_path.specs.declared.fncache.FncacheFault.{FncacheFault}
use Rattle.hgs_path.specs.declared.name.Ext.{Ext}
use Rattle.hgs_path.specs.declared.name.Ext.TheVariants.{D, I}
use Rattle.hgs_path.specs.Fncache.{as_files, clashes, is_path_of, listing, lists, with_both}
use Rattle.hgs_path.specs.ListedNames.{names_of}
use Rattle.hgs_stands.specs.Places.{fncache_path}
use Rattle.hgs_steps.specs.Parents.{named_all, parents_answer}
use Rattle.hgs_steps.specs.Planned.{IsLoadedOf}
use Rattle.hgs_steps.specs.declared.fault.PlanFault.{PlanFault}
use Rattle.hgs_steps.specs.declared.fault.PlanFault.TheVariants as plans
use Rattle.hgs_steps.specs.declared.loaded.Loaded.{Loaded}
use Rattle.hgs_steps.specs.declared.step.Step.{Step}
use Rattle.hgs_causes.specs.Clashes.{IsClashOf}

never : {A : Type 0} → false ≡ true → A
never e = cc

or-second : (a b : Bool) → b ≡ true → (a || b) ≡ true
or-second true b e = refl
or-second false b e = e

-- ---- what was told of names that clash

stays-told : (files : List ℕ → Ext → Bool) (paths : List (List ℕ)) (first other : List ℕ) → ClashBehind files paths (Some first) (Some other) → other ≡ first
stays-told files [] first other h = let e : Some other ≡ Some first = h in cc
stays-told files (path ∷ paths) first other h = stays-told (with_both files path) paths first other (subst (λ b. ClashBehind (with_both files path) paths b (Some other)) h.1 h.2)

-- a path that clashes with another one of these, and is a file's or another of them
pub record IsToldOf (files : List ℕ → Ext → Bool) (paths : List (List ℕ)) (other : List ℕ) : Type 0 where
  pub path : List ℕ
  pub is_new : among path paths ≡ true
  pub same_name : clashes path other ≡ true
  pub known : (is_path_of files other ≡ true) ⊎ (among other paths ≡ true)

among-first : (x : List ℕ) (xs : List (List ℕ)) → among x (x ∷ xs) ≡ true
among-first x xs = ap (λ b. b || among x xs) (same-refl x)

among-later : (x y : List ℕ) (xs : List (List ℕ)) → among x xs ≡ true → among x (y ∷ xs) ≡ true
among-later x y xs h = or-second (same x y) (among x xs) h

told-of : (files : List ℕ → Ext → Bool) (paths : List (List ℕ)) (other : List ℕ) → ClashBehind files paths None (Some other) → IsToldOf files paths other
told-of files [] other h = let e : Some other ≡ None = h in cc
told-of files (path ∷ paths) other (Some first, after, behind) =
    let is = stays-told (with_both files path) paths first other behind in
    record {
      path = path;
      is_new = among-first path paths;
      same_name = subst (λ x. clashes path x ≡ true) (sym is) after.1;
      known = inl (subst (λ x. is_path_of files x ≡ true) (sym is) after.0);
    }
told-of files (path ∷ paths) other (None, after, behind) =
    let rest = told-of (with_both files path) paths other behind in
    record {
      path = rest.path;
      is_new = among-later rest.path path paths rest.is_new;
      same_name = rest.same_name;
      known = known-before rest.known;
    }
  where
    known-before : (is_path_of (with_both files path) other ≡ true) ⊎ (among other paths ≡ true) → (is_path_of files other ≡ true) ⊎ (among other (path ∷ paths) ≡ true)
    known-before (inr h) = inr (among-later other path paths h)
    known-before (inl h) = by (files other I) (files other D) (same other path) refl refl refl h
      where
        by : (a b c : Bool) → files other I ≡ a → files other D ≡ b → same other path ≡ c → (is_path_of (with_both files path) other ≡ true) → (is_path_of files other ≡ true) ⊎ (among other (path ∷ paths) ≡ true)
        by true b c x y z h = inl (ap (λ p. p || files other D) x)
        by false true c x y z h = inl (ap (λ p. p || files other D) x ∙ y)
        by false false true x y z h = inr (ap (λ p. p || among other paths) z)
        by false false false x y z h = never (sym (ap (λ p. (p || same other path) || (files other D || same other path)) x ∙ ap (λ p. (false || p) || (files other D || p)) z ∙ ap (λ p. (false || false) || (p || false)) y) ∙ h)

-- ---- the paths of files are the commit's

then-of : {A B : Type 0} (a : Result A ReadAnswer) (more : A → Result B ReadAnswer) (y : B) → and_then a more ≡ Ok y → (x : A) × (a ≡ Ok x) × (more x ≡ Ok y)
then-of (Ok x) more y h = (x, refl, h)
then-of (Err e) more y h = let no : ⊥ = cc in absurd no

value-of : {A : Type 0} (x y : A) → (let r : Result A ReadAnswer = Ok x in r) ≡ Ok y → x ≡ y
value-of x y h = cc

changed-row : (file : NewFile) (texts : Result (OfText × List Obstacle) ReadAnswer) (place : Result (List Obstacle) ReadAnswer) (new inline : Bool) (y : OfFile × List Obstacle)
    → and_then {A = OfText × List Obstacle} {B = OfFile × List Obstacle} texts (λ text. and_then {A = List Obstacle} {B = OfFile × List Obstacle} place (λ obstacles. Ok (record { row = row_with file text.0.node; changed = true; growth = text.0.growth; new = new; inline = inline }, obstacles ++ text.1))) ≡ Ok y → y.0.row.path ≡ file.path
changed-row file (Ok text) (Ok place) new inline y h = sym (ap (λ (x : OfFile × List Obstacle). x.0.row.path) (value-of _ y h))
changed-row file (Ok text) (Err e) new inline y h = let no : ⊥ = cc in absurd no
changed-row file (Err e) place new inline y h = let no : ⊥ = cc in absurd no

row-of-changed : (f : OfLog) (file : NewFile) (source : List ℕ) (parents : Parents) (link : ℕ) (t : Tree) (y : OfFile × List Obstacle) → changed_in f file source parents link t ≡ Ok y → y.0.row.path ≡ file.path
row-of-changed f file source parents link t y h = changed-row file (new_text_in f (record { text = fresh_text file source; parents = parents; link = link }) t) (place_in f t) (length f.log.entries == 0) f.log.inline y h

row-of-file : (f : OfLog) (file : NewFile) (source : List ℕ) (old : Option Told) (parents : Parents) (link : ℕ) (rev : Option ℕ) (t : Tree) (y : OfFile × List Obstacle) → file_with f file source old parents link rev t ≡ Ok y → y.0.row.path ≡ file.path
row-of-file f file source old parents link None t y h = row-of-changed (formed f (fresh_text file source)) file source parents link t y h
row-of-file f file source old parents link (Some rev) t y h = sym (ap (λ (x : OfFile × List Obstacle). x.0.row.path) (value-of _ y h))

row-of : (named : List ℕ → Ext → Bool) (link : ℕ) (file : NewFile) (source : List ℕ) (first second : Option Told) (t : Tree) (y : OfFile × List Obstacle) → file_in named link file source first second t ≡ Ok y → y.0.row.path ≡ file.path
row-of named link file source first second t y h =
    let log = then-of {A = OfLog} {B = OfFile × List Obstacle} (filelog_in named file.path t) (λ f. and_then (parents_by f first second) (λ parents. file_on f file source (first_of first second) parents link t)) y h in
    let parents = then-of {A = Parents} {B = OfFile × List Obstacle} (parents_by log.0 first second) (λ parents. file_on log.0 file source (first_of first second) parents link t) y log.2 in
    let kept = then-of {A = Option ℕ} {B = OfFile × List Obstacle} (kept_in log.0 parents.0.0 parents.0.1 file.body t) (λ rev. file_with log.0 file source (first_of first second) parents.0 link rev t) y parents.2 in
    row-of-file log.0 file source (first_of first second) parents.0 link kept.0 t y kept.2

new-of-first : (new : Bool) (q path of_file : List ℕ) (rest files : List (List ℕ)) → path ≡ of_file → (among q rest ≡ true → among q files ≡ true) → among q (new_path new path ++ rest) ≡ true → among q (of_file ∷ files) ≡ true
new-of-first false q path of_file rest files same_path more h = or-second (same q of_file) (among q files) (more h)
new-of-first true q path of_file rest files same_path more h = by (same q path) refl h
  where
    by : (b : Bool) → same q path ≡ b → (b || among q rest) ≡ true → among q (of_file ∷ files) ≡ true
    by true e k = ap (λ x. x || among q files) (ap (same q) (sym same_path) ∙ e)
    by false e k = or-second (same q of_file) (among q files) (more k)

new-are-files : (named : List ℕ → Ext → Bool) (link : ℕ) (first second : List Row) (files : List NewFile) (t : Tree) (xs : OfFiles) → all_files_in named link first second files t ≡ Ok xs → (q : List ℕ) → among q (new_filelogs xs.0) ≡ true → among q (new_paths files) ≡ true
new-are-files named link first second [] t xs h q is = subst (λ (x : OfFiles). among q (new_filelogs x.0) ≡ true) (sym (value-of _ xs h)) is
new-are-files named link first second (f ∷ files) t xs h q is =
    let one = then-of {A = OfFile × List Obstacle} {B = OfFiles} (file_in named link f (source_node first f.from) (found_in f.path first) (found_in f.path second) t) (λ x. and_then (all_files_in named link first second files t) (λ more. Ok (with_first x more))) xs h in
    let more = then-of {A = OfFiles} {B = OfFiles} (all_files_in named link first second files t) (λ rest. Ok (with_first one.0 rest)) xs one.2 in
    let here : among q (new_path one.0.0.new one.0.0.row.path ++ new_filelogs more.0.0) ≡ true = subst (λ (x : OfFiles). among q (new_filelogs x.0) ≡ true) (sym (value-of (with_first one.0 more.0) xs more.2)) is in
    new-of-first one.0.0.new q one.0.0.row.path f.path (new_filelogs more.0.0) (new_paths files)
    (row-of named link f (source_node first f.from) (found_in f.path first) (found_in f.path second) t one.0 one.1)
    (new-are-files named link first second files t more.0 more.1 q) here

-- ---- where names are looked at

-- neither unread, nor refused before names are looked at
abbrev pub is_late : Result Step CommitFault → Bool
is_late (Ok step) = true
is_late (Err (Unread e)) = false
is_late (Err (Refused (plans.Refused e))) = false
is_late (Err (Refused fault)) = true

over-refused : (o : Option NewFile) (more : Unit {0} → Result Step CommitFault) → is_late (or_refused (over_where o) more) ≡ true → over_where o ≡ Ok tt
over-refused None more h = refl
over-refused (Some f) more h = never h

copies-refused : (first second : List Row) (files : List NewFile) (more : Unit {0} → Result Step CommitFault) → is_late (or_refused (copies_tested first second files) more) ≡ true → copies_tested first second files ≡ Ok tt
copies-refused first second files more h = by (list_any (lacks_source first) files) h
  where
    by : (b : Bool) → is_late (or_refused (if b then Err (plans.Refused Refusal.UnknownPath) else over_where (find (is_over first second) files)) more) ≡ true → (if b then Err (plans.Refused Refusal.UnknownPath) else over_where (find (is_over first second) files)) ≡ Ok tt
    by true k = never k
    by false k = over-refused (find (is_over first second) files) more k

module _ (l : Loaded) (n : NewChange) (t : Tree) (told : Option (List ℕ)) where
  -- the files of the new tree that were looked at, and what was told of them
  abbrev IsLookedAt : Type 0
  IsLookedAt = (first : List Row) × (second : List Row) × (xs : OfFiles) × (all_files_in (listing l.fncache) (length l.changelog.entries) first second n.files t ≡ Ok xs) × ClashBehind (listing l.fncache) (new_filelogs xs.0) None told

  module _ (more : ((OfGrown × Parents) × List Obstacle) → Result Step CommitFault) where
    abbrev grown-of : Result OfTrees ReadAnswer → Result ((OfGrown × Parents) × List Obstacle) ReadAnswer
    grown-of trees = and_then trees (λ x. Ok ((grown_of x.first.1 x.second.1 x.files.0, manifest_parents_of x.first.0 x.second.0), x.files.1))

    abbrev trees-of : Files → Files → Result OfFiles ReadAnswer → Result OfTrees ReadAnswer
    trees-of first second all = and_then all (λ files. Ok (record { first = first; second = second; files = files }))

    -- the copies hold
    by-files : (first second : Files) (all : Result OfFiles ReadAnswer) → all_files_in (listing l.fncache) (length l.changelog.entries) first.1 second.1 n.files t ≡ all → copies_tested first.1 second.1 n.files ≡ Ok tt
        → is_late (or_unread (grown-of (trees-of first second all)) more) ≡ true → ClashOn l n (trees-of first second all) None told → IsLookedAt
    by-files first second (Err e) is copies late clash = never late
    by-files first second (Ok xs) is copies late clash =
        (first.1, second.1, xs, is, subst (λ (c : Result Unit PlanFault). OnOk c (ClashBehind (listing l.fncache) (new_filelogs xs.0) None told)) copies clash)

    by-parents : (a b : Result Files ReadAnswer)
        → is_late (or_unread {A = Files × Files} (and_then {B = Files × Files} a (λ first. and_then {B = Files × Files} b (λ second. Ok (first, second)))) (λ trees. or_refused (copies_tested trees.0.1 trees.1.1 n.files) (λ copied. or_unread (grown-of (and_then a (λ first. and_then b (λ second. trees-of first second (all_files_in (listing l.fncache) (length l.changelog.entries) first.1 second.1 n.files t))))) more))) ≡ true
        → ClashOn l n (and_then a (λ first. and_then b (λ second. trees-of first second (all_files_in (listing l.fncache) (length l.changelog.entries) first.1 second.1 n.files t)))) None told → IsLookedAt
    by-parents (Err e) b late clash = never late
    by-parents (Ok first) (Err e) late clash = never late
    by-parents (Ok first) (Ok second) late clash =
        let all = all_files_in (listing l.fncache) (length l.changelog.entries) first.1 second.1 n.files t in
        let copies = copies-refused first.1 second.1 n.files (λ copied. or_unread (grown-of (trees-of first second all)) more) late in
        by-files first second all refl copies (subst (λ (c : Result Unit PlanFault). is_late (or_refused c (λ copied. or_unread (grown-of (trees-of first second all)) more)) ≡ true) copies late) clash

  by-named : (given : Option (List ℕ)) (named : Result (List ℕ) Refusal) → is_late (or_refused (parents_answer named) (λ parents. step_on given l n parents t)) ≡ true → ClashBy l n t (parents_answer named) told → IsLookedAt
  by-named given (Err e) late clash = never late
  by-named given (Ok revs) late clash = by-parents _ (parent_files l (as_parents revs).0 t) (parent_files l (as_parents revs).1 t) late clash

  looked-at : (given : Option (List ℕ)) → is_late (commit_in given l n t) ≡ true → ClashBy l n t (parents_answer (named_all l n.parents)) told → IsLookedAt
  looked-at given late clash = by-named given (named_all l n.parents) late clash

-- ---- a clash of names

listed-in : (text other : List ℕ) (files : List ℕ → Ext → Bool) (given : Result (List (List ℕ)) FncacheFault) → names_of text ≡ given → as_files given ≡ Ok files → is_path_of files other ≡ true → (names : List (List ℕ)) × (ext : Ext) × (names_of text ≡ Ok names) × (lists names other ext ≡ true)
listed-in text other files (Err e) is h known = let no : ⊥ = cc in absurd no
listed-in text other files (Ok names) is h known =
    let same_files : lists names ≡ files = files-are (lists names) files h in
    by (lists names other I) refl (subst (λ (f : List ℕ → Ext → Bool). is_path_of f other ≡ true) (sym same_files) known)
  where
    files-are : (f g : List ℕ → Ext → Bool) → (let r : Result (List ℕ → Ext → Bool) FncacheFault = Ok f in r) ≡ Ok g → f ≡ g
    files-are f g e = cc

    by : (b : Bool) → lists names other I ≡ b → (b || lists names other D) ≡ true → (found : List (List ℕ)) × (ext : Ext) × (names_of text ≡ Ok found) × (lists found other ext ≡ true)
    by true e k = (names, I, is, e)
    by false e k = (names, D, is, k)

pub clash-of : (l : Loaded) (n : NewChange) (u : Tree) (given : Option (List ℕ)) (other : List ℕ) → IsLoadedOf u l → is_late (commit_in given l n u) ≡ true → ClashBy l n u (parents_answer (named_all l n.parents)) (Some other) → IsClashOf u n other
clash-of l n u given other loaded late clash =
    let seen = looked-at l n u (Some other) given late clash in
    let told = told-of (listing l.fncache) (new_filelogs seen.2.0) other seen.4 in
    let inside = new-are-files (listing l.fncache) (length l.changelog.entries) seen.0 seen.1 n.files u seen.2 seen.3 in
    record {
      path = told.path;
      is_new = inside told.path told.is_new;
      same_name = told.same_name;
      known = elim told.known [
        | inl h ↦ inl (listed-in (bytes_at u fncache_path) other (listing l.fncache) (names_of (bytes_at u fncache_path)) refl loaded.fncache h)
        | inr h ↦ inr (inside other h)
      ];
    }
