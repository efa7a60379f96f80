-- What is appended for a file of a commit is what its path's filelog grows by.
use Rattle.std.proofs.Common.{◌≡◌, ◌⊎◌, ◌<◌, ◌≤◌, ℕ, List, [], ◌∷◌, ◌++◌, Bool, true, false, ◌==◌, cond, not, length, inl, inr, refl, sym, ◌∙◌, ap, subst, arith}
use Rattle.std.specs.Prelude.{◌^◌, Option, Some, None, Result, Ok, IfSome, find}
use Rattle.hgs_bytes.specs.Bytes.{same}
use Rattle.hgs_files.specs.declared.op.Op.{Op}
use Rattle.hgs_files.specs.Tree.{Tree, bytes_at}
use Rattle.hgs_index.specs.declared.entry.Entry.{Entry}
use Rattle.hgs_index.specs.Either.{chunk_bytes}
use Rattle.hgs_index.specs.Revision.{Parents, Revision, standing as standing_in, with_revision}
use Rattle.hgs_loading.specs.Found.{and_then}
use Rattle.hgs_loading.specs.Logs.{either_data_in, either_log_in}
use Rattle.hgs_model.specs.History.{History, file_parents, file_revision, filelog_with, first_of, history, kept, kept_of, uses}
use Rattle.hgs_model.specs.Repo.{Changeset, Repo, TreeFile}
use Rattle.hgs_model.specs.Step.{new_changeset, new_file}
use Rattle.hgs_model.specs.declared.command.NewChange.{NewChange}
use Rattle.hgs_model.specs.declared.files.NewFile.{NewFile}
use Rattle.hgs_model.specs.Theorems.CountLemmas.{file-revision-below, sound}
use Rattle.hgs_model.specs.Theorems.ListLemmas.{bool}
use Rattle.hgs_ops.specs.Growth.{begins_inline, filelog_growth, grown, growing_chunks, grows_inline, is_part}
use Rattle.hgs_ops.specs.Unhindered.{AreNewRevisions}
use Rattle.hgs_path.specs.declared.name.Ext.{Ext}
use Rattle.hgs_path.specs.declared.name.Ext.TheVariants.{I, D}
use Rattle.hgs_path.specs.Fncache.{listing, lists}
use Rattle.hgs_path.specs.StoreName.{store_name}
use Rattle.hgs_load.specs.declared.answer.ReadAnswer.{ReadAnswer}
use Rattle.hgs_revlog.specs.Load.{most_data, most_revisions}
use Rattle.hgs_revlog.specs.Log.{Log, stored_sum}
use Rattle.hgs_stands.specs.Stands.{Stands}
use Rattle.hgs_steps.specs.Planned.{IsLoadedOf}
use Rattle.hgs_steps.specs.declared.loaded.Loaded.{Loaded}
use Rattle.hgs_commit.specs.Files.{OfFile, empty_log, file_in, file_with, filelog_in, formed, fresh_text, filelog_with as filelog_at, kept_file, place_in, row_with, source_node, standing_at}
use Rattle.hgs_commit.specs.Obstacles.{Obstacle, stands}
use Rattle.hgs_commit.specs.Texts.{OfGrowth, OfLog, OfText, changes_of, new_text_in}
use Rattle.hgs_commit.specs.Walk.{Told}
use Rattle.hgs_writer.specs.CommitsBelow.{Below}
use Rattle.hgs_writer.specs.Files.{files_at, told_at}
use Rattle.hgs_writer.specs.Growth.{AreAppends, IsGrownFileOf, IsWhole, index_end}
use Rattle.hgs_writer.specs.Logs.{IsLogOf}
use Rattle.hgs_writer.specs.NewTexts.{IsTextOf, growth_by}
use Rattle.hgs_writer.proofs.Basics.{both, never, ok-is}
use Rattle.hgs_writer.proofs.FilelogLemmas.{listing-is}
use Rattle.hgs_writer.proofs.FormLemmas.{count-is, form-grows, form-stays, formed-log, formed-same, some-length, some-or-none, whole-chunks, whole-empty}
use Rattle.hgs_writer.proofs.FreshLemmas.{fresh-same}
use Rattle.hgs_writer.proofs.GrowthLemmas.{grown-none, growth-grows, no-appends}
use Rattle.hgs_writer.proofs.LogLemmas.{whole-of}
use Rattle.hgs_writer.proofs.NewTextLemmas.{text-of}
use Rattle.hgs_writer.proofs.RowLemmas.{file-steps, filelog-is, new-revision}
use Rattle.hgs_writer.proofs.WholeTextLemmas.{none-left, none-right}

-- ---- a filelog's files

-- The filelog of a path that is loaded, whose files are as long as its entries say where the path is used.
pub record Parts (t : Tree) (r : Repo) (path : List ℕ) (f : OfLog) : Type 0 where
  pub log : Log
  pub is : filelog_at path log ≡ f
  pub whole : uses r.changesets path ≡ true → IsWhole t (filelog_at path log)

pub parts-of : (laws : Below) (t : Tree) (r : Repo) (l : Loaded) (path : List ℕ) (f : OfLog) → Stands t r → IsLoadedOf t l → filelog_in (listing l.fncache) path t ≡ Ok f → Parts t r path f
parts-of laws t r l path f s h e = by (lists s.fncache.names path I) refl (ap (λ (list : List ℕ → Ext → Bool). filelog_in list path t) (sym (listing-is t r l s h)) ∙ e)
  where
    answer : Bool → Result OfLog ReadAnswer
    answer b = cond b (and_then (either_log_in (store_name path I) t) (λ log. Ok (filelog_at path log))) (Ok (filelog_at path empty_log))

    by : (listed : Bool) → lists s.fncache.names path I ≡ listed → answer (lists s.fncache.names path I) ≡ Ok f → Parts t r path f
    by true listed g =
        let a = both (either_log_in (store_name path I) t) (λ log. Ok (filelog_at path log)) f (ap answer (sym listed) ∙ g) in
        record {
          log = a.0;
          is = ok-is {E = ReadAnswer} (filelog_at path a.0) f a.2;
          whole = λ used. whole-of laws t (filelog_at path a.0) ((history r.changesets).filelog path) (s.revlogs.filelogs path used) (laws.whole (store_name path I) t a.0 a.1);
        }
    by false listed g = record {
      log = empty_log;
      is = ok-is {E = ReadAnswer} (filelog_at path empty_log) f (ap answer (sym listed) ∙ g);
      whole = λ used. never (sym (s.fncache.listed path I used refl) ∙ listed);
    }

-- ---- lengths

-- without revisions the files that a filelog in this form will have have no bytes
abbrev pub NoFiles : Tree → List ℕ → Bool → List Revision → Type 0
NoFiles t path inline revisions = revisions ≡ [] → (ext : Ext) → is_part inline ext ≡ true → bytes_at t (store_name path ext) ≡ []

chunks-room : (t : Tree) (path : List ℕ) (log : Log) (revisions all : List Revision) → IsLogOf t (filelog_at path log) revisions → IsWhole t (filelog_at path log) → log.inline ≡ grows_inline (bytes_at t (store_name path I)) revisions all → length (growing_chunks t path revisions all) ≤ most_data
chunks-room t path log revisions all is whole grows =
    let sum = whole-chunks t (filelog_at path log) (grows_inline (bytes_at t (store_name path I)) revisions all) grows whole in
    omega (arith, sum, is.entries.data_end)

index-short : (t : Tree) (path : List ℕ) (log : Log) (revisions : List Revision) → IsLogOf t (filelog_at path log) revisions → IsWhole t (filelog_at path log) → length (bytes_at t (store_name path I)) < 2 ^ 64
index-short t path log revisions is whole = subst (λ n. n < 2 ^ 64) (sym whole.entries) (by log.inline log.entries is.entries.few is.entries.data_end)
  where
    by : (b : Bool) (entries : List Entry) → length entries ≤ most_revisions → stored_sum entries ≤ most_data → index_end b entries < 2 ^ 64
    by true entries few end = omega (arith, few, end)
    by false entries few end = omega (arith, few)

data-short : (t : Tree) (path : List ℕ) (revisions all : List Revision) → length (growing_chunks t path revisions all) ≤ most_data → grows_inline (bytes_at t (store_name path I)) revisions all ≡ false → length (bytes_at t (store_name path D)) < 2 ^ 64
data-short t path revisions all room plain =
    let same = ap (λ b. length (chunk_bytes b (bytes_at t (store_name path I)) (bytes_at t (store_name path D)))) plain in
    omega (arith, room, same)

-- no file with bytes stands there
free-at : (path bytes : List ℕ) → (let os : List Obstacle = cond (length bytes == 0) [] (stands path ∷ []) in os) ≡ [] → bytes ≡ []
free-at path [] none = refl
free-at path (b ∷ bytes) none = absurd (no (sym (ap (λ z. let os : List Obstacle = cond z [] (stands path ∷ []) in os) (some-length (length (b ∷ bytes)) (omega arith))) ∙ none))
  where
    no : ◌≡◌ {A = List Obstacle} (stands path ∷ []) [] → ⊥
    no h = cc

-- where nothing is met at the place of a filelog without entries, the files that it will have have no bytes
place-free : (t : Tree) (path : List ℕ) (log : Log) (obstacles : List Obstacle) → length log.entries ≡ 0 → place_in (filelog_at path log) t ≡ Ok obstacles → obstacles ≡ [] → (ext : Ext) → is_part log.inline ext ≡ true → bytes_at t (store_name path ext) ≡ []
place-free t path log obstacles none e free = by
  where
    behind : Bool → List Obstacle
    behind inline = cond inline [] (standing_at (store_name path D) t)

    answer : ℕ → Result (List Obstacle) ReadAnswer
    answer n = cond (n == 0) (Ok (standing_at (store_name path I) t ++ behind log.inline)) (and_then (either_data_in (store_name path I) (store_name path D) log t) (λ x. Ok []))

    met : standing_at (store_name path I) t ++ behind log.inline ≡ []
    met = ok-is {E = ReadAnswer} (standing_at (store_name path I) t ++ behind log.inline) obstacles (sym (ap answer none) ∙ e) ∙ free

    plain : (b : Bool) → not b ≡ true → b ≡ false
    plain true h = never (sym h)
    plain false h = refl

    by : (ext : Ext) → is_part log.inline ext ≡ true → bytes_at t (store_name path ext) ≡ []
    by I part = free-at (store_name path I) (bytes_at t (store_name path I)) (none-left (standing_at (store_name path I) t) (behind log.inline) met)
    by D part = free-at (store_name path D) (bytes_at t (store_name path D)) (sym (ap behind (plain log.inline part)) ∙ none-right (standing_at (store_name path I) t) (behind log.inline) met)

-- a revision that is kept is one of the list
kept-some : (log : List Revision) (a b : Option ℕ) (body : List ℕ) (rev : ℕ) → IfSome a (λ p. p < length log) → kept_of log a b body ≡ Some rev → 0 < length log
kept-some log None b body rev low e = absurd (no e)
  where
    no : None ≡ Some rev → ⊥
    no h = cc
kept-some log (Some a) None body rev low e = omega (arith, low)
kept-some log (Some a) (Some b) body rev low e = absurd (no e)
  where
    no : None ≡ Some rev → ⊥
    no h = cc

-- a path with revisions is used
pub path-used : Below → (r : Repo) (path : List ℕ) → 0 < length ((history r.changesets).filelog path) → uses r.changesets path ≡ true
path-used laws r path some = by (bool (uses r.changesets path))
  where
    by : (uses r.changesets path ≡ true) ⊎ (uses r.changesets path ≡ false) → uses r.changesets path ≡ true
    by (inl used) = used
    by (inr unused) = absurd (omega (arith, some, ap length (laws.unused r.changesets path unused)))

-- ---- a file

module _ (laws : Below) (t : Tree) (r : Repo) (l : Loaded) (s : Stands t r) (loads : IsLoadedOf t l) (n : NewChange) (parents : Parents) (link : ℕ) (linked : link ≡ length (history r.changesets).placed) (file : NewFile) (source : List ℕ) (sourced : source ≡ source_node (files_at (history r.changesets) parents.0).1 file.from) where
  abbrev h : History
  h = history r.changesets

  abbrev c : Changeset
  c = new_changeset h parents n

  abbrev g : TreeFile
  g = new_file h parents file

  abbrev revisions : List Revision
  revisions = h.filelog file.path

  abbrev both_parents : Parents
  both_parents = file_parents h parents file.path

  abbrev old : Option Told
  old = first_of (told_at h parents.0 file.path) (told_at h parents.1 file.path)

  abbrev Found : Type 0
  Found = find (λ (y : TreeFile). same y.path g.path) c.tree ≡ Some g

  module _ (log : Log) (is : IsLogOf t (filelog_at file.path log) revisions) (whole : uses r.changesets file.path ≡ true → IsWhole t (filelog_at file.path log)) where
    abbrev f : OfLog
    f = filelog_at file.path log

    abbrev text_asked : List ℕ
    text_asked = fresh_text file source

    -- the filelog in the form in which it grows
    abbrev now : OfLog
    now = formed (filelog_at file.path log) (fresh_text file source)

    -- a file whose revision is kept
    grown-kept : (rev : ℕ) → kept h parents file.path file.body ≡ Some rev → Found → IsGrownFileOf t h c g (kept_file f file old rev)
    grown-kept rev k found = record {
      path = refl;
      growth = subst (λ (new : List Revision). AreAppends t (filelog_growth t g.path revisions new) []) (sym stays)
          (subst (λ (ops : List Op). AreAppends t ops []) (sym (grown-none (grows_inline (bytes_at t f.index) revisions revisions) t f.index f.chunks revisions)) (no-appends t));
      new = sym (some-length (length revisions) some);
      inline = λ none. absurd (not-empty none);
      fresh = subst (AreNewRevisions revisions) (sym stays) (fresh-same t f revisions is);
      room = room;
      index_short = index-short t file.path log revisions is (whole (path-used laws r file.path some));
      data_short = data-short t file.path revisions (filelog_with h c g.path) room;
      free = λ none. absurd (not-empty none);
    }
      where
        some : 0 < length revisions
        some = kept-some revisions both_parents.0 both_parents.1 file.body rev (file-revision-below h parents file.path (sound r s.repository)).first k

        not-empty : revisions ≡ [] → ⊥
        not-empty none = omega (arith, some, ap length none)

        stays : filelog_with h c g.path ≡ revisions
        stays = filelog-is laws t r l s loads n parents link linked file source sourced (Some rev) k found

        room : length (growing_chunks t file.path revisions (filelog_with h c g.path)) ≤ most_data
        room = chunks-room t file.path log revisions (filelog_with h c g.path) is (whole (path-used laws r file.path some)) (form-stays t f revisions (filelog_with h c g.path) some is)

    abbrev asked : Revision
    asked = record { text = fresh_text file source; parents = both_parents; link = link }

    abbrev made_of : OfText × List Obstacle → List Obstacle → OfFile × List Obstacle
    made_of text obstacles = (record { row = row_with file text.0.node; changed = true; growth = text.0.growth; new = length f.log.entries == 0; inline = now.log.inline }, obstacles ++ text.1)

    -- a file with another revision, before which nothing was met
    grown-new : (text : OfText × List Obstacle) (obstacles : List Obstacle) → kept h parents file.path file.body ≡ None → Found → new_text_in now asked t ≡ Ok text → place_in now t ≡ Ok obstacles → text.1 ≡ [] → obstacles ≡ [] → IsGrownFileOf t h c g (made_of text obstacles).0
    grown-new text obstacles k found told placed plain free = record {
      path = refl;
      growth = subst (λ (new : List Revision). AreAppends t (filelog_growth t g.path revisions new) (changes_of text.0.growth)) (sym more)
          (subst (λ (o : Option OfGrowth). AreAppends t (filelog_growth t g.path revisions (with_revision revisions revision)) (changes_of o)) (sym growth)
          (subst (λ b. AreAppends t (grown b t f.index f.chunks revisions (with_revision revisions revision)) (changes_of (growth_by now revision (standing_in revisions revision.text revision.parents)))) grows
          (growth-grows t now revisions revision (standing_in revisions revision.text revision.parents) now_is whole_now)));
      new = ap (λ m. m == 0) count;
      inline = begins;
      fresh = subst (AreNewRevisions revisions) (sym more) (subst (λ (z : Revision). AreNewRevisions revisions (with_revision revisions z)) same_revision (y.2.fresh (ap (λ (z : OfText × List Obstacle). z.1) text_is ∙ plain)));
      room = room;
      index_short = index-short t file.path now.log revisions now_is whole_now;
      data_short = data-short t file.path revisions (filelog_with h c g.path) room;
      free = λ none ext part. no-bytes none ext (ap (λ b. is_part b ext) (begins none) ∙ part);
    }
      where
        revision : Revision
        revision = file_revision h c g

        now_is : IsLogOf t now revisions
        now_is = formed-log t f revisions text_asked is

        y : (z : OfText × List Obstacle) × (new_text_in now asked t ≡ Ok z) × IsTextOf now revisions asked z
        y = text-of t now revisions asked now_is

        text_is : y.0 ≡ text
        text_is = ok-is {E = ReadAnswer} y.0 text (sym y.1 ∙ told)

        same_revision : asked ≡ revision
        same_revision = new-revision laws t r l s loads n parents link linked file source sourced k

        grows : now.log.inline ≡ grows_inline (bytes_at t f.index) revisions (with_revision revisions revision)
        grows = form-grows t f revisions revision text_asked is (ap (λ (z : Revision). z.text) same_revision)

        growth : text.0.growth ≡ growth_by now revision (standing_in revisions revision.text revision.parents)
        growth =
            ap (λ (z : OfText × List Obstacle). z.0.growth) (sym text_is) ∙ y.2.growth (ap (λ (z : OfText × List Obstacle). z.1) text_is ∙ plain)
            ∙ ap (λ (z : Revision). growth_by now z (standing_in revisions z.text z.parents)) same_revision

        more : filelog_with h c g.path ≡ with_revision revisions revision
        more = filelog-is laws t r l s loads n parents link linked file source sourced None k found

        count : length f.log.entries ≡ length revisions
        count = count-is t f revisions is

        becomes : now.log.inline ≡ grows_inline (bytes_at t f.index) revisions (filelog_with h c g.path)
        becomes = grows ∙ ap (λ (all : List Revision). grows_inline (bytes_at t f.index) revisions all) (sym more)

        begins : revisions ≡ [] → now.log.inline ≡ begins_inline (filelog_with h c g.path)
        begins none = becomes ∙ ap (λ (log : List Revision). grows_inline (bytes_at t f.index) log (filelog_with h c g.path)) none

        no-bytes : NoFiles t file.path now.log.inline revisions
        no-bytes none = place-free t file.path now.log obstacles (count ∙ ap length none) placed free

        whole_now : IsWhole t now
        whole_now = by (some-or-none revisions)
          where
            by : (revisions ≡ []) ⊎ (0 < length revisions) → IsWhole t now
            by (inl none) = whole-empty t now (count ∙ ap length none) (no-bytes none I refl) (λ plain. no-bytes none D (ap not plain))
            by (inr some) = subst (IsWhole t) (sym (formed-same f text_asked (omega (arith, count, some)))) (whole (path-used laws r file.path some))

        room : length (growing_chunks t file.path revisions (filelog_with h c g.path)) ≤ most_data
        room = chunks-room t file.path now.log revisions (filelog_with h c g.path) now_is whole_now becomes

    grown-by : (x : OfFile × List Obstacle) (o : Option ℕ) → kept h parents file.path file.body ≡ o → Found → file_with f file source old both_parents link o t ≡ Ok x → x.1 ≡ [] → IsGrownFileOf t h c g x.0
    grown-by x (Some rev) k found e free = subst (λ (z : OfFile × List Obstacle). IsGrownFileOf t h c g z.0) (ok-is {E = ReadAnswer} (kept_file f file old rev, []) x e) (grown-kept rev k found)
    grown-by x None k found e free =
        let a = both (new_text_in now asked t) (λ text. and_then (place_in now t) (λ obstacles. Ok (made_of text obstacles))) x e in
        let b = both (place_in now t) (λ obstacles. Ok (made_of a.0 obstacles)) x a.2 in
        let made : made_of a.0 b.0 ≡ x = ok-is {E = ReadAnswer} (made_of a.0 b.0) x b.2 in
        let none : b.0 ++ a.0.1 ≡ [] = ap (λ (z : OfFile × List Obstacle). z.1) made ∙ free in
        subst (λ (z : OfFile × List Obstacle). IsGrownFileOf t h c g z.0) made (grown-new a.0 b.0 k found a.1 b.1 (none-right b.0 a.0.1 none) (none-left b.0 a.0.1 none))

  pub grown-file : (x : OfFile × List Obstacle) → Found → file_in (listing l.fncache) link file source (told_at h parents.0 file.path) (told_at h parents.1 file.path) t ≡ Ok x → x.1 ≡ [] → IsGrownFileOf t h c g x.0
  grown-file x found e free =
      let a = file-steps laws t r l s loads n parents link linked file source sourced x e in
      let p = parts-of laws t r l file.path a.0 s loads a.1 in
      let back = sym p.is in
      grown-by p.log (subst (λ (z : OfLog). IsLogOf t z revisions) back a.2) p.whole x (kept h parents file.path file.body) refl found
      (subst (λ (z : OfLog). file_with z file source old both_parents link (kept h parents file.path file.body) t ≡ Ok x) back a.3) free
