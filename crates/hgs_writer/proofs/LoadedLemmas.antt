-- What was loaded of a tree is what its files are read as.
use Rattle.std.proofs.Common.{◌≡◌, ℕ, List, [], length, Bool, true, false, Option, Result, Ok, Err, sym, ◌∙◌, ap, subst}
use Rattle.std.specs.Prelude.{unwrap_or, if◌then◌else◌}
use Rattle.std.specs.Result.{result_map_both}
use Rattle.hgs_files.specs.Tree.{Tree, bytes_at}
use Rattle.hgs_index.specs.declared.kinds.Which.TheVariants.{Part}
use Rattle.hgs_loading.specs.Found.{and_then, whole_in}
use Rattle.hgs_loading.specs.Logs.{either_log_in, whole_log_in}
use Rattle.hgs_loading.specs.Small.{File, Small, bookmarks_in, dirstate_in, dirstate_said, file_in, fncache_in, fncache_path, fncache_refusal, fncache_said, marks_said, most_fncache, roots_in, small_in, with_bytes}
use Rattle.hgs_loading.specs.Store.{Loaded as Read, loaded_in, loaded_with, logs_in}
use Rattle.hgs_marks.specs.Bookmarks.{read_bookmarks}
use Rattle.hgs_marks.specs.Dirstate.{read_dirstate}
use Rattle.hgs_path.specs.Fncache.{files_of}
use Rattle.hgs_phases.specs.Phases.{phases_by}
use Rattle.hgs_phases.specs.Roots.{read_roots}
use Rattle.hgs_phases.specs.declared.fault.RootsFault.{RootsFault}
use Rattle.hgs_phases.specs.declared.roots.Root.{Root}
use Rattle.hgs_plan.specs.declared.damage.Part.TheVariants as parts
use Rattle.hgs_reader.specs.Contents.{manifest_data, manifest_index}
use Rattle.hgs_load.specs.Marks.{bookmarks_path, dirstate_path, mark_refusal, roots_answer, roots_of, roots_path, working_answer, working_of}
use Rattle.hgs_load.specs.Open.{most_bookmarks_text, most_dirstate, most_roots}
use Rattle.hgs_load.specs.View.{changelog_data, changelog_index}
use Rattle.hgs_load.specs.Whole.{is_above}
use Rattle.hgs_load.specs.declared.answer.ReadAnswer.{ReadAnswer}
use Rattle.hgs_load.specs.declared.answer.ReadAnswer.TheVariants.{Limit}
use Rattle.hgs_revlog.specs.Load.{loaded_either}
use Rattle.hgs_revlog.specs.Log.{Log}
use Rattle.hgs_revlog.specs.declared.fault.Tail.TheVariants.{Refuse}
use Rattle.hgs_steps.specs.Planned.{IsLoadedOf}
use Rattle.hgs_steps.specs.declared.loaded.Loaded.{Loaded}
use Rattle.hgs_writer.proofs.LengthLemmas.{both, ok_is, whole}
use Rattle.hgs_writer.specs.Planning.{IsLoadedFrom}

-- ---- a file

whole-is : (part bytes : Option (List ℕ)) (b : Bool) → (let a : Result (Option (List ℕ)) ReadAnswer = if b then Err (Limit Part) else Ok part in a) ≡ Ok bytes → part ≡ bytes
whole-is part bytes true h = cc
whole-is part bytes false h = ok_is part bytes h

mapped : {A E : Type 0} (f : E → ReadAnswer) (r : Result A E) (x : A) → result_map_both (λ y. y) f r ≡ Ok x → r ≡ Ok x
mapped f (Ok y) x h = ap (λ z. Ok z) (ok_is y x h)
mapped f (Err e) x h = cc

-- the bytes of a file that was read, and what they say
file-is : {A : Type 0} (most : ℕ) (path : List ℕ) (said : Option (List ℕ) → Result A ReadAnswer) (t : Tree) (f : File A) → file_in most path said t ≡ Ok f → (t path ≡ f.0) × (said (t path) ≡ Ok f.1)
file-is {A} most path said t f h =
    let a = both (whole_in most path t) (with_bytes said) f h in
    let same = whole-is (t path) a.0 (is_above most (t path)) a.1 in
    let b = both (said a.0) (λ x. Ok (a.0, x)) f a.2 in
    let e = ok_is (a.0, b.0) f b.2 in
    (same ∙ ap (λ (x : File A). x.0) e, ap said same ∙ b.1 ∙ ap (λ (x : File A). Ok x.1) e)

roots-are : (r : Result (List Root) RootsFault) (x : List Root) → roots_of r ≡ Ok x → r ≡ Ok x
roots-are (Ok y) x h = ap (λ z. Ok z) (ok_is y x h)
roots-are (Err e) x h = cc

-- ---- the small files

pub record AreRead (t : Tree) (s : Small) : Type 0 where
  pub bookmarks : (t bookmarks_path ≡ s.bookmarks.0) × (read_bookmarks (bytes_at t bookmarks_path) ≡ Ok s.bookmarks.1)
  pub dirstate : (t dirstate_path ≡ s.dirstate.0) × (read_dirstate (bytes_at t dirstate_path) ≡ Ok s.dirstate.1)
  pub roots : (t roots_path ≡ s.roots.0) × (read_roots (bytes_at t roots_path) ≡ Ok s.roots.1)
  pub fncache : (t fncache_path ≡ s.fncache.0) × (files_of (bytes_at t fncache_path) ≡ Ok s.fncache.1)

small-is : (t : Tree) (s : Small) → small_in t ≡ Ok s → AreRead t s
small-is t s h =
    let m = both (bookmarks_in t) (λ marks. and_then (dirstate_in t) (λ dirstate. and_then (roots_in t) (λ roots. and_then (fncache_in t) (λ files. Ok (record { bookmarks = marks; dirstate = dirstate; roots = roots; fncache = files }))))) s h in
    let d = both (dirstate_in t) (λ dirstate. and_then (roots_in t) (λ roots. and_then (fncache_in t) (λ files. Ok (record { bookmarks = m.0; dirstate = dirstate; roots = roots; fncache = files })))) s m.2 in
    let r = both (roots_in t) (λ roots. and_then (fncache_in t) (λ files. Ok (record { bookmarks = m.0; dirstate = d.0; roots = roots; fncache = files }))) s d.2 in
    let f = both (fncache_in t) (λ files. Ok (record { bookmarks = m.0; dirstate = d.0; roots = r.0; fncache = files })) s r.2 in
    let same : s ≡ record { bookmarks = m.0; dirstate = d.0; roots = r.0; fncache = f.0 } = sym (ok_is _ s f.2) in
    let marks = file-is most_bookmarks_text bookmarks_path marks_said t m.0 m.1 in
    let working = file-is most_dirstate dirstate_path dirstate_said t d.0 d.1 in
    let roots = file-is most_roots roots_path roots_answer t r.0 r.1 in
    let files = file-is most_fncache fncache_path fncache_said t f.0 f.1 in
    let read : AreRead t (record { bookmarks = m.0; dirstate = d.0; roots = r.0; fncache = f.0 }) = record {
      bookmarks = (marks.0, mapped (mark_refusal bookmarks_path parts.Bookmarks) (read_bookmarks (bytes_at t bookmarks_path)) m.0.1 marks.1);
      dirstate = (working.0, mapped (mark_refusal dirstate_path parts.Dirstate) (read_dirstate (bytes_at t dirstate_path)) d.0.1 working.1);
      roots = (roots.0, roots-are (read_roots (bytes_at t roots_path)) r.0.1 roots.1);
      fncache = (files.0, mapped fncache_refusal (files_of (bytes_at t fncache_path)) f.0.1 files.1);
    } in
    subst (AreRead t) (sym same) read

-- ---- the whole

-- an index that loads was read whole
abbrev pub AreReadWhole : Type 0
AreReadWhole = (index : List ℕ) (t : Tree) (log : Log) → either_log_in index t ≡ Ok log → loaded_either Refuse (bytes_at t index) ≡ Ok log

pub loaded-is : AreReadWhole → (t : Tree) (s : Read) (l : Loaded) → loaded_in t ≡ Ok s → IsLoadedFrom s l → IsLoadedOf t l
loaded-is read_whole t s l h from =
    let a = both (small_in t) (λ files. and_then (logs_in t) (λ logs. loaded_with files logs.0 logs.1)) s h in
    let b = both (logs_in t) (λ logs. loaded_with a.0 logs.0 logs.1) s a.2 in
    let c = both (whole_log_in changelog_index changelog_data t) (λ changelog. and_then (whole_log_in manifest_index manifest_data t) (λ manifest. Ok (changelog, manifest))) b.0 b.1 in
    let d = both (whole_log_in manifest_index manifest_data t) (λ manifest. Ok (c.0, manifest)) b.0 c.2 in
    let logs = ok_is (c.0, d.0) b.0 d.2 in
    let e = both (working_answer b.0.0.entries (a.0.dirstate.1.p1, a.0.dirstate.1.p2)) (λ working. Ok (record { files = a.0; changelog = b.0.0; manifest = b.0.1; working = working; phases = phases_by a.0.roots.1 b.0.0.entries })) s b.2 in
    let same = ok_is (let r : Read = record { files = a.0; changelog = b.0.0; manifest = b.0.1; working = e.0; phases = phases_by a.0.roots.1 b.0.0.entries } in r) s e.2 in
    let files = ap (λ (r : Read). r.files) same in
    let changelog : b.0.0 ≡ l.changelog = ap (λ (r : Read). r.changelog) same ∙ sym from.changelog in
    let manifest : b.0.1 ≡ l.manifest = ap (λ (r : Read). r.manifest) same ∙ sym from.manifest in
    let working : e.0 ≡ working_of l.working = ap (λ (r : Read). r.working) same ∙ sym from.working in
    let small = small-is t a.0 a.1 in
    record {
      changelog = (read_whole changelog_index t c.0 (whole changelog_index changelog_data t c.0 c.1)) ∙ ap (λ (x : Log × Log). Ok x.0) logs ∙ ap (λ x. Ok x) changelog;
      manifest = (read_whole manifest_index t d.0 (whole manifest_index manifest_data t d.0 d.1)) ∙ ap (λ (x : Log × Log). Ok x.1) logs ∙ ap (λ x. Ok x) manifest;
      bookmarks = small.bookmarks.1 ∙ ap (λ (x : Small). Ok x.bookmarks.1) files ∙ ap (λ x. Ok x) (sym from.bookmarks);
      roots = a.0.roots.1;
      roots_text = small.roots.1;
      phases = from.phases ∙ ap (λ (r : Read). r.phases) (sym same) ∙ ap (λ (x : Log). phases_by a.0.roots.1 x.entries) changelog;
      dirstate = a.0.dirstate.1;
      dirstate_text = small.dirstate.1;
      working = ap (λ (x : Log). working_answer x.entries (a.0.dirstate.1.p1, a.0.dirstate.1.p2)) (sym changelog) ∙ e.1 ∙ ap (λ x. Ok x) working;
      fncache = small.fncache.1 ∙ ap (λ (x : Small). Ok x.fncache.1) files ∙ ap (λ x. Ok x) (sym from.fncache);
      fncache_length = from.fncache_length ∙ ap (λ (x : Small). length (unwrap_or x.fncache.0 [])) (sym files) ∙ ap (λ o. length (unwrap_or o [])) (sym small.fncache.0);
      standing_bookmarks = from.standing_bookmarks ∙ ap (λ (x : Small). x.bookmarks.0) (sym files) ∙ sym small.bookmarks.0;
      standing_dirstate = from.standing_dirstate ∙ ap (λ (x : Small). x.dirstate.0) (sym files) ∙ sym small.dirstate.0;
      standing_roots = from.standing_roots ∙ ap (λ (x : Small). x.roots.0) (sym files) ∙ sym small.roots.0;
    }
