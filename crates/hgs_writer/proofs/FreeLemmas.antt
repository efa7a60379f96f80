-- Nothing keeps a commit from being written where there is room for it.
use Rattle.std.proofs.Common.{◌≡◌, ℕ, zero, suc, ◌+◌, List, [], ◌∷◌, ◌++◌, Bool, true, false, ◌||◌, ◌==◌, cond, not, inl, inr, length, map, nat_lt, refl, sym, ◌∙◌, ap, subst, arith}
use Rattle.std.specs.Prelude.{◌≤◌, Option, Some, None, Result, Ok, Err, find, is_none}
use Rattle.std.specs.Cmp.Lexicographic.{lists_ties, slice_cmp}
use Rattle.std.specs.Cmp.{unsigned_ties}
use Rattle.std.specs.List.{AllByRecursion}
use Rattle.std.specs.Ordering.{is_eq, match_ordering, nat_cmp}
use Rattle.std.specs.declared.cmp.Ordering.{Ordering}
use Rattle.std.specs.declared.cmp.Ordering.TheVariants.{Less, Equal, Greater}
use Rattle.std.proofs.lemmas.Bool.Decides.{nat_tests}
use Rattle.std.proofs.lemmas.List.{length-map}
use Rattle.hgs_bytes.specs.Bytes.{among, same}
use Rattle.hgs_bytes.specs.Text.{ascends}
use Rattle.hgs_files.specs.Tree.{Tree, bytes_at}
use Rattle.hgs_index.specs.Revision.{Parents, Revision, with_revision}
use Rattle.hgs_index.specs.declared.kinds.Which.TheVariants as limits
use Rattle.hgs_loading.specs.Found.{and_then}
use Rattle.hgs_loading.specs.Logs.{either_data_in}
use Rattle.hgs_loading.specs.Small.{most_fncache}
use Rattle.hgs_manifest.specs.Held.{found_in}
use Rattle.hgs_marks.specs.Bookmarks.{Mark, node_of, with_mark}
use Rattle.hgs_model.specs.History.{History, changeset_nodes, file_parents, filelog_with, first_of, history, kept, uses, with_changeset}
use Rattle.hgs_model.specs.Repo.{Changeset, Repo, TreeFile, tree_paths}
use Rattle.hgs_model.specs.Step.{new_changeset, new_file, with_optional_mark}
use Rattle.hgs_model.specs.Valid.{new_paths as paths_of_files}
use Rattle.hgs_model.specs.declared.command.NewChange.{NewChange}
use Rattle.hgs_model.specs.declared.files.NewFile.{NewFile}
use Rattle.hgs_ops.specs.Growth.{begins_inline, grows_inline, is_part, new_paths}
use Rattle.hgs_path.specs.declared.name.Ext.{Ext}
use Rattle.hgs_path.specs.declared.name.Ext.TheVariants.{I, D}
use Rattle.hgs_path.specs.Fncache.{listing}
use Rattle.hgs_path.specs.StoreName.{store_name}
use Rattle.hgs_load.specs.Marks.{most_bookmarks}
use Rattle.hgs_load.specs.declared.answer.ReadAnswer.{ReadAnswer}
use Rattle.hgs_revlog.specs.Log.{Log}
use Rattle.hgs_stands.specs.Places.{fncache_path}
use Rattle.hgs_stands.specs.Stands.{Stands, mark_of}
use Rattle.hgs_steps.specs.Planned.{IsLoadedOf, passes_limit}
use Rattle.hgs_steps.specs.Steps.{are_too_many, dirstate_replacing, marked, marks_replacing}
use Rattle.hgs_steps.specs.declared.fault.PlanFault.{PlanFault}
use Rattle.hgs_steps.specs.declared.fault.PlanFault.TheVariants as faults
use Rattle.hgs_steps.specs.declared.loaded.Loaded.{Loaded}
use Rattle.hgs_commit.specs.Changeset.{of_changelog, of_manifest}
use Rattle.hgs_commit.specs.Commit.{and_plan, grown_in, long_list, mark_count, marks_after, replaced_after, too_many_marks}
use Rattle.hgs_commit.specs.Files.{OfFile, file_in, file_with, formed, fresh_text, filelog_with as filelog_at, kept_file, place_in, row_with, source_node, standing_at}
use Rattle.hgs_commit.specs.Obstacles.{Obstacle, passes, stands}
use Rattle.hgs_commit.specs.Texts.{OfLog, OfText, new_text_in}
use Rattle.hgs_commit.specs.Tree.{OfFiles, with_first}
use Rattle.hgs_commit.specs.Trees.{OfGrown, all_files_in}
use Rattle.hgs_commit.specs.Walk.{Told}
use Rattle.hgs_writer.specs.CommitsBelow.{Below}
use Rattle.hgs_writer.specs.Files.{files_at, told_at}
use Rattle.hgs_writer.specs.Free.{HasRoomFor, IsFree}
use Rattle.hgs_writer.specs.Growth.{IsWhole}
use Rattle.hgs_writer.specs.Logs.{IsLogOf}
use Rattle.hgs_writer.specs.StepsBelow.{StepsBelow}
use Rattle.hgs_writer.specs.Trees.{AreBelow}
use Rattle.hgs_writer.proofs.Basics.{both, never, ok-is}
use Rattle.hgs_writer.proofs.FileLemmas.{told-of}
use Rattle.hgs_writer.proofs.FormLemmas.{count-is, form-grows, formed-log, formed-same, some-or-none, whole-chunks, whole-empty}
use Rattle.hgs_writer.proofs.GrownFileLemmas.{NoFiles, parts-of, path-used}
use Rattle.hgs_writer.proofs.GrownTreeLemmas.{history-next, new-paths-of}
use Rattle.hgs_writer.proofs.NewTextLemmas.{text-free}
use Rattle.hgs_writer.proofs.NextLemmas.{next}
use Rattle.hgs_writer.proofs.RowLemmas.{file-steps, filelog-is, new-revision}
use Rattle.hgs_writer.proofs.SameTreeLemmas.{found-among}
use Rattle.hgs_writer.proofs.TreeLemmas.{found-files, link-is, new-paths-are, trees-of}

-- ---- the place of a filelog

no-file : (t : Tree) (path : List ℕ) → bytes_at t path ≡ [] → standing_at path t ≡ []
no-file t path none = ap (λ (bytes : List ℕ). let os : List Obstacle = cond (length bytes == 0) [] (stands path ∷ []) in os) none

place-free : (t : Tree) (path : List ℕ) (log : Log) (obstacles : List Obstacle) → (length log.entries ≡ 0 → (ext : Ext) → is_part log.inline ext ≡ true → bytes_at t (store_name path ext) ≡ []) → place_in (filelog_at path log) t ≡ Ok obstacles → obstacles ≡ []
place-free t path log obstacles free e = by (length log.entries == 0) refl e
  where
    none : (n : ℕ) → (n == 0) ≡ true → n ≡ 0
    none zero h = refl
    none (suc n) h = grind (arith, nat_tests, h)

    index : List ℕ
    index = store_name path I

    chunks : List ℕ
    chunks = store_name path D

    no-data : (inline : Bool) → (is_part inline D ≡ true → bytes_at t chunks ≡ []) → cond inline [] (standing_at chunks t) ≡ []
    no-data true h = refl
    no-data false h = no-file t chunks (h refl)

    by : (b : Bool) → (length log.entries == 0) ≡ b → (let x : Result (List Obstacle) ReadAnswer = cond b (Ok (standing_at index t ++ cond log.inline [] (standing_at chunks t))) (and_then (either_data_in index chunks log t) (λ x. Ok [])) in x) ≡ Ok obstacles → obstacles ≡ []
    by true is h =
        let files = free (none (length log.entries) is) in
        let first = no-file t index (files I refl) in
        let second = no-data log.inline (files D) in
        sym (ok-is {E = ReadAnswer} (standing_at index t ++ cond log.inline [] (standing_at chunks t)) obstacles h) ∙ λ i. first i ++ second i
    by false is h = let a = both (either_data_in index chunks log t) (λ x. Ok []) obstacles h in sym (ok-is {E = ReadAnswer} [] obstacles a.2)

-- ---- a file

module _ (laws : Below) (t : Tree) (r : Repo) (l : Loaded) (s : Stands t r) (loads : IsLoadedOf t l) (n : NewChange) (parents : Parents) (link : ℕ) (linked : link ≡ length (history r.changesets).placed) (file : NewFile) (source : List ℕ) (sourced : source ≡ source_node (files_at (history r.changesets) parents.0).1 file.from) where
  abbrev h : History
  h = history r.changesets

  abbrev c : Changeset
  c = new_changeset h parents n

  abbrev g : TreeFile
  g = new_file h parents file

  abbrev revisions : List Revision
  revisions = h.filelog file.path

  abbrev both_parents : Parents
  both_parents = file_parents h parents file.path

  abbrev old : Option Told
  old = first_of (told_at h parents.0 file.path) (told_at h parents.1 file.path)

  abbrev asked : Revision
  asked = record { text = fresh_text file source; parents = both_parents; link = link }

  abbrev made-of : OfLog → OfText × List Obstacle → List Obstacle → OfFile × List Obstacle
  made-of f text obstacles = (record { row = row_with file text.0.node; changed = true; growth = text.0.growth; new = length f.log.entries == 0; inline = f.log.inline }, obstacles ++ text.1)

  abbrev IsRoomy : List Revision → Type 0
  IsRoomy all = HasRoomFor (grows_inline (bytes_at t (store_name file.path I)) revisions all) t (store_name file.path I) (store_name file.path D) revisions all

  file-by : (log : Log) (x : OfFile × List Obstacle) → IsLogOf t (filelog_at file.path log) revisions → (uses r.changesets file.path ≡ true → IsWhole t (filelog_at file.path log)) → NoFiles t file.path (begins_inline (filelog_with h c g.path)) revisions → IsRoomy (filelog_with h c g.path) → find (λ (y : TreeFile). same y.path g.path) c.tree ≡ Some g
      → (o : Option ℕ) → kept h parents file.path file.body ≡ o → file_with (filelog_at file.path log) file source old both_parents link o t ≡ Ok x → x.1 ≡ []
  file-by log x is whole no_files room found (Some rev) k e = ap (λ (z : OfFile × List Obstacle). z.1) (sym (ok-is {E = ReadAnswer} (kept_file (filelog_at file.path log) file old rev, []) x e))
  file-by log x is whole no_files room found None k e =
      let f = filelog_at file.path log in
      let text_asked = fresh_text file source in
      let now = formed f text_asked in
      let a = both (new_text_in now asked t) (λ text. and_then (place_in now t) (λ obstacles. Ok (made-of now text obstacles))) x e in
      let b = both (place_in now t) (λ obstacles. Ok (made-of now a.0 obstacles)) x a.2 in
      let same_revision = new-revision laws t r l s loads n parents link linked file source sourced k in
      let more = filelog-is laws t r l s loads n parents link linked file source sourced None k found in
      let roomy : IsRoomy (with_revision revisions asked) = subst (λ (z : Revision). IsRoomy (with_revision revisions z)) (sym same_revision) (subst (λ (all : List Revision). IsRoomy all) more room) in
      let grows = form-grows t f revisions asked text_asked is refl in
      let begins : revisions ≡ [] → now.log.inline ≡ begins_inline (filelog_with h c g.path) =
      λ none. grows ∙ (λ i. grows_inline (bytes_at t f.index) (none i) (with_revision revisions (same_revision i))) ∙ ap begins_inline (sym more) in
      let free : NoFiles t file.path now.log.inline revisions = λ none ext part. no_files none ext (ap (λ b. is_part b ext) (sym (begins none)) ∙ part) in
      let whole_now : IsWhole t now = elim (some-or-none revisions) [
        | inl none ↦ whole-empty t now (count-is t f revisions is ∙ ap length none) (free none I refl) (λ plain. free none D (ap not plain))
        | inr some ↦ subst (IsWhole t) (sym (formed-same f text_asked (omega (arith, count-is t f revisions is, some)))) (whole (path-used laws r file.path some))
      ] in
      let text = text-free t now revisions asked (formed-log t f revisions text_asked is) (grows_inline (bytes_at t f.index) revisions (with_revision revisions asked)) (whole-chunks t now (grows_inline (bytes_at t f.index) revisions (with_revision revisions asked)) grows whole_now) roomy a.0 a.1 in
      let place = place-free t file.path now.log b.0 (λ empty. free (no-items revisions (sym (count-is t f revisions is) ∙ empty))) b.1 in
      ap (λ (z : OfFile × List Obstacle). z.1) (sym (ok-is {E = ReadAnswer} (made-of now a.0 b.0) x b.2)) ∙ λ i. place i ++ text i
    where
      no-items : (xs : List Revision) → length xs ≡ 0 → xs ≡ []
      no-items [] q = refl
      no-items (y ∷ xs) q = absurd (omega (arith, q))

  file-free : (x : OfFile × List Obstacle) → NoFiles t file.path (begins_inline (filelog_with h c g.path)) revisions → IsRoomy (filelog_with h c g.path) → find (λ (y : TreeFile). same y.path g.path) c.tree ≡ Some g → file_in (listing l.fncache) link file source (told_at h parents.0 file.path) (told_at h parents.1 file.path) t ≡ Ok x → x.1 ≡ []
  file-free x no_files room found e =
      let a = file-steps laws t r l s loads n parents link linked file source sourced x e in
      let p = parts-of laws t r l file.path a.0 s loads a.1 in
      let back = sym p.is in
      let is = subst (λ (z : OfLog). IsLogOf t z revisions) back a.2 in
      file-by p.log x is p.whole no_files room found (kept h parents file.path file.body) refl (subst (λ (z : OfLog). file_with z file source old both_parents link (kept h parents file.path file.body) t ≡ Ok x) back a.3)

-- ---- all files

module _ (laws : Below) (t : Tree) (r : Repo) (l : Loaded) (s : Stands t r) (loads : IsLoadedOf t l) (n : NewChange) (parents : Parents) (link : ℕ) (linked : link ≡ length (history r.changesets).placed) (free : IsFree t r (next r n parents)) (paths : new_paths r (next r n parents) ≡ tree_paths (new_changeset (history r.changesets) parents n).tree) where
  abbrev now : History
  now = history r.changesets

  abbrev added : Changeset
  added = new_changeset now parents n

  all-free : (files : List NewFile) (xs : OfFiles) → AllByRecursion (λ (x : TreeFile). find (λ (y : TreeFile). same y.path x.path) added.tree ≡ Some x) (map (new_file now parents) files)
      → all_files_in (listing l.fncache) link (files_at now parents.0).1 (files_at now parents.1).1 files t ≡ Ok xs → xs.1 ≡ []
  all-free [] xs found e = ap (λ (y : OfFiles). y.1) (sym (ok-is {E = ReadAnswer} ([], []) xs e))
  all-free (f ∷ files) xs found e =
      let lists = listing l.fncache in
      let first = (files_at now parents.0).1 in
      let second = (files_at now parents.1).1 in
      let a = both (file_in lists link f (source_node first f.from) (found_in f.path first) (found_in f.path second) t) (λ x. and_then (all_files_in lists link first second files t) (λ ys. Ok (with_first x ys))) xs e in
      let b = both (all_files_in lists link first second files t) (λ ys. Ok (with_first a.0 ys)) xs a.2 in
      let one = told-of now parents.0 f.path in
      let two = told-of now parents.1 f.path in
      let told : file_in lists link f (source_node first f.from) (found_in f.path first) (found_in f.path second) t ≡ file_in lists link f (source_node first f.from) (told_at now parents.0 f.path) (told_at now parents.1 f.path) t = (λ i. file_in lists link f (source_node first f.from) (one i) (two i) t) in
      let there : among f.path (new_paths r (next r n parents)) ≡ true = ap (among f.path) paths ∙ found-among added.tree f.path (new_file now parents f) found.0 in
      let index = bytes_at t (store_name f.path I) in
      let logs : history (next r n parents).changesets ≡ with_changeset now added = history-next r (next r n parents) added refl in
      let room : HasRoomFor (grows_inline index (now.filelog f.path) (filelog_with now added f.path)) t (store_name f.path I) (store_name f.path D) (now.filelog f.path) (filelog_with now added f.path) =
      subst (λ (k : History). HasRoomFor (grows_inline index (now.filelog f.path) (k.filelog f.path)) t (store_name f.path I) (store_name f.path D) (now.filelog f.path) (k.filelog f.path)) logs (free.filelogs f.path) in
      let no_files : NoFiles t f.path (begins_inline (filelog_with now added f.path)) (now.filelog f.path) = λ empty ext part. free.files f.path ext there empty (ap (λ (k : History). is_part (begins_inline (k.filelog f.path)) ext) logs ∙ part) in
      let none = file-free laws t r l s loads n parents link linked f (source_node first f.from) refl a.0 no_files room found.0 (sym told ∙ a.1) in
      let rest = all-free files b.0 found.1 b.1 in
      ap (λ (y : OfFiles). y.1) (sym (ok-is {E = ReadAnswer} (with_first a.0 b.0) xs b.2)) ∙ λ i. none i ++ rest i

pub grown-free : (laws : Below) (t : Tree) (r : Repo) (l : Loaded) (s : Stands t r) (loads : IsLoadedOf t l) → IsLogOf t (of_changelog l.changelog) (history r.changesets).changelog → IsLogOf t (of_manifest l.manifest) (history r.changesets).manifest → (n : NewChange) (parents : Parents) (y : (OfGrown × Parents) × List Obstacle) → ascends (paths_of_files n.files) ≡ true
    → AreBelow (length r.changesets) parents → IsFree t r (next r n parents) → grown_in l n parents t ≡ Ok y → y.1 ≡ []
grown-free laws t r l s loads changelog manifest n parents y ordered below free e =
    let h = history r.changesets in
    let c = new_changeset h parents n in
    let x = trees-of t r l s changelog manifest n parents y below.first below.second e in
    let paths = new-paths-of r (next r n parents) c refl (ap ascends (new-paths-are h parents n.files) ∙ ordered) in
    ap (λ (z : (OfGrown × Parents) × List Obstacle). z.1) (sym x.grown)
    ∙ all-free laws t r l s loads n parents (length l.changelog.entries) (link-is t r l s changelog) free paths n.files x.trees.files (found-files h n parents ordered) x.files

-- ---- the list of filelogs

pub list-free : (t : Tree) (l : Loaded) → IsLoadedOf t l → (lines : List ℕ) → length (bytes_at t fncache_path) + length lines ≤ most_fncache → long_list l (length lines) ≡ []
list-free t l loads lines room = ap (λ b. let os : List Obstacle = cond b (passes limits.Part ∷ []) [] in os) (within most_fncache (l.fncache_length + length lines) (subst (λ (k : ℕ). k + length lines ≤ most_fncache) (sym loads.fncache_length) room))
  where
    within : (most k : ℕ) → k ≤ most → nat_lt most k ≡ false
    within most k h = grind (arith, nat_tests, h)

-- ---- the bookmarks

-- a bookmark that was not there is one more
one-more : (marks : List Mark) (name node : List ℕ) → node_of name marks ≡ None → length (with_mark marks (record { name = name; node = node })) ≡ length marks + 1
one-more [] name node absent = refl
one-more (m ∷ marks) name node absent = by (slice_cmp nat_cmp name m.name) refl (same name m.name) refl absent (one-more marks name node)
  where
    no-some : {A : Type 0} (x : List ℕ) → Some x ≡ None → A
    no-some x e = absurd (no e)
      where
        no : Some x ≡ None → ⊥
        no k = cc

    by : (o : Ordering) → slice_cmp nat_cmp name m.name ≡ o → (b : Bool) → same name m.name ≡ b → cond b (Some m.node) (node_of name marks) ≡ None → (node_of name marks ≡ None → length (with_mark marks (record { name = name; node = node })) ≡ length marks + 1)
        → length (match_ordering o (record { name = name; node = node } ∷ m ∷ marks) (record { name = name; node = node } ∷ marks) (m ∷ with_mark marks (record { name = name; node = node }))) ≡ length (m ∷ marks) + 1
    by o c true is k rec = no-some m.node k
    by Less c false is k rec = omega arith
    by Equal c false is k rec = never (sym (lists_ties nat_cmp unsigned_ties name m.name ∙ ap is_eq c) ∙ is)
    by Greater c false is k rec = omega (arith, rec k)

left-false : (a b : Bool) → (a || b) ≡ false → a ≡ false
left-false true b e = e
left-false false b e = refl

right-false : (a b : Bool) → (a || b) ≡ false → b ≡ false
right-false true b e = never e
right-false false b e = e

module _ (more : StepsBelow) (t : Tree) (r : Repo) (l : Loaded) (n : NewChange) (parents : Parents) (s : Stands t r) (loads : IsLoadedOf t l) (within : passes_limit r (next r n parents) ≡ false) where
  -- the bookmarks before, and with the one that is set
  both-within : (name node : List ℕ) → n.bookmark ≡ Some name → (are_too_many l.bookmarks || are_too_many (marked l name node)) ≡ false
  both-within name node some = more.limit t r (next r n parents) l name node (length r.changesets) s loads (ap (λ (o : Option (List ℕ)). with_optional_mark r.bookmarks o (length r.changesets)) some) ∙ within

  pub marks-free : too_many_marks l n ≡ []
  marks-free = ap (λ b. let os : List Obstacle = cond b (passes limits.Bookmarks ∷ []) [] in os) (by n.bookmark refl)
    where
      set : (name : List ℕ) → n.bookmark ≡ Some name → (o : Option (List ℕ)) → node_of name l.bookmarks ≡ o → nat_lt most_bookmarks (cond (is_none o) (length l.bookmarks + 1) (length l.bookmarks)) ≡ false
      set name some None absent = ap (λ (k : ℕ). nat_lt most_bookmarks k) (sym (one-more l.bookmarks name [] absent)) ∙ right-false (are_too_many l.bookmarks) (are_too_many (marked l name [])) (both-within name [] some)
      set name some (Some node) there = left-false (are_too_many l.bookmarks) (are_too_many (marked l name [])) (both-within name [] some)

      by : (o : Option (List ℕ)) → n.bookmark ≡ o → nat_lt most_bookmarks (mark_count l (record n { bookmark = o })) ≡ false
      by None none =
          let same_count : length l.bookmarks ≡ length r.bookmarks = ap (λ ms. length ms) (more.holds t r l s loads).bookmarks ∙ length-map r.bookmarks (mark_of (changeset_nodes r.changesets)) in
          ap (λ (k : ℕ). nat_lt most_bookmarks k) same_count ∙ left-false (nat_lt most_bookmarks (length r.bookmarks)) (nat_lt most_bookmarks (length (next r n parents).bookmarks)) within
      by (Some name) some = set name some (node_of name l.bookmarks) refl

  -- so the files behind the publishing operation are replaced
  pub marks-given : (node : List ℕ) (fault : PlanFault) → replaced_after l n node ≡ Err fault → ⊥
  marks-given node fault e = by n.bookmark refl e
    where
      set : (name : List ℕ) (b : Bool) → b ≡ false → and_plan (and_plan (cond b (Err (faults.Limit limits.Bookmarks)) (Ok (marks_replacing l (marked l name node)))) (λ x. Ok (x ∷ []))) (λ marks. Ok (dirstate_replacing l node (paths_of_files n.files) ∷ marks)) ≡ Err fault → ⊥
      set name true p h = never p
      set name false p h = cc

      by : (o : Option (List ℕ)) → n.bookmark ≡ o → and_plan (marks_after l o node) (λ marks. Ok (dirstate_replacing l node (paths_of_files n.files) ∷ marks)) ≡ Err fault → ⊥
      by None none h = cc
      by (Some name) some h = set name (are_too_many l.bookmarks || are_too_many (marked l name node)) (both-within name node some) h
