-- The small files of a repository: their bytes, and what these say.
use Rattle.std.specs.Prelude.{ℕ, List, [], Bool, codes, unwrap_or, Option, Result, Ok}
use Rattle.std.specs.Result.{result_map_both}
use Rattle.hgs_files.specs.Tree.{Tree}
use Rattle.hgs_marks.specs.Bookmarks.{Mark, read_bookmarks}
use Rattle.hgs_marks.specs.Dirstate.{Dirstate, read_dirstate}
use Rattle.hgs_marks.specs.Held.{view_dirstate}
use Rattle.hgs_path.specs.Fncache.{files_of, listing}
use Rattle.hgs_path.specs.declared.fncache.FncacheFault.{FncacheFault}
use Rattle.hgs_path.specs.declared.fncache.FncacheFault.TheVariants as fncache_faults
use Rattle.hgs_path.specs.declared.name.Ext.{Ext}
use Rattle.hgs_phases.specs.declared.roots.Root.{Root}
use Rattle.hgs_plan.specs.declared.damage.Part.TheVariants as parts
use Rattle.hgs_load.specs.declared.answer.ReadAnswer.{ReadAnswer}
use Rattle.hgs_load.specs.declared.answer.ReadAnswer.TheVariants.{Memory}
use Rattle.hgs_load.specs.Marks.{bookmarks_path, dirstate_path, roots_path, mark_refusal, roots_answer}
use Rattle.hgs_load.specs.Open.{most_bookmarks_text, most_dirstate, most_roots}
use Rattle.hgs_load.specs.View.{damaged}
use Rattle.hgs_loading.specs.declared.small.BookmarksFile.{BookmarksFile}
use Rattle.hgs_loading.specs.declared.small.DirstateFile.{DirstateFile}
use Rattle.hgs_loading.specs.declared.small.RootsFile.{RootsFile}
use Rattle.hgs_loading.specs.declared.small.FncacheFile.{FncacheFile}
use Rattle.hgs_loading.specs.declared.small.SmallFiles.{SmallFiles}
use Rattle.hgs_loading.specs.Found.{and_then, whole_in}

abbrev pub fncache_path : List ℕ
fncache_path = codes "store/fncache"

-- the bytes above which the list is refused
abbrev pub most_fncache : ℕ
most_fncache = 268435456

-- ---- what the bytes of a file say; an absent one is empty

-- how many names there may be is not tested here
abbrev pub marks_said : Option (List ℕ) → Result (List Mark) ReadAnswer
marks_said part = result_map_both (λ marks. marks) (mark_refusal bookmarks_path parts.Bookmarks) (read_bookmarks (unwrap_or part []))

abbrev pub dirstate_said : Option (List ℕ) → Result Dirstate ReadAnswer
dirstate_said part = result_map_both (λ d. d) (mark_refusal dirstate_path parts.Dirstate) (read_dirstate (unwrap_or part []))

abbrev pub fncache_refusal : FncacheFault → ReadAnswer
fncache_refusal (fncache_faults.Line n) = damaged fncache_path parts.Fncache 1 n
fncache_refusal fncache_faults.Memory = Memory

-- the files that the list names
abbrev pub Listing : Type 0
Listing = List ℕ → Ext → Bool

abbrev pub fncache_said : Option (List ℕ) → Result Listing ReadAnswer
fncache_said part = result_map_both (λ files. files) fncache_refusal (files_of (unwrap_or part []))

-- ---- a file: its bytes, none where it is absent, and what they say

abbrev pub File : Type 0 → Type 0
File A = Option (List ℕ) × A

abbrev pub with_bytes : {A : Type 0} → (Option (List ℕ) → Result A ReadAnswer) → Option (List ℕ) → Result (File A) ReadAnswer
with_bytes said part = and_then (said part) (λ x. Ok (part, x))

abbrev pub file_in : {A : Type 0} → ℕ → List ℕ → (Option (List ℕ) → Result A ReadAnswer) → Tree → Result (File A) ReadAnswer
file_in most path said t = and_then (whole_in most path t) (with_bytes said)

abbrev pub bookmarks_in : Tree → Result (File (List Mark)) ReadAnswer
bookmarks_in t = file_in most_bookmarks_text bookmarks_path marks_said t

abbrev pub dirstate_in : Tree → Result (File Dirstate) ReadAnswer
dirstate_in t = file_in most_dirstate dirstate_path dirstate_said t

abbrev pub roots_in : Tree → Result (File (List Root)) ReadAnswer
roots_in t = file_in most_roots roots_path roots_answer t

abbrev pub fncache_in : Tree → Result (File Listing) ReadAnswer
fncache_in t = file_in most_fncache fncache_path fncache_said t

-- ---- the four of them

pub record Small : Type 0 where
  pub bookmarks : File (List Mark)
  pub dirstate : File Dirstate
  pub roots : File (List Root)
  pub fncache : File Listing

-- in the order in which they are read
abbrev pub small_in : Tree → Result Small ReadAnswer
small_in t =
    and_then (bookmarks_in t) (λ marks.
    and_then (dirstate_in t) (λ dirstate.
    and_then (roots_in t) (λ roots.
    and_then (fncache_in t) (λ files.
    Ok (record { bookmarks = marks; dirstate = dirstate; roots = roots; fncache = files })))))

-- ---- what contracts see of the code's values

abbrev pub view_bookmarks : BookmarksFile → File (List Mark)
view_bookmarks f = (f.bytes, f.bookmarks)

abbrev pub view_of_dirstate : DirstateFile → File Dirstate
view_of_dirstate f = (f.bytes, view_dirstate f.dirstate)

abbrev pub view_roots : RootsFile → File (List Root)
view_roots f = (f.bytes, f.roots)

abbrev pub view_fncache : FncacheFile → File Listing
view_fncache f = (f.bytes, listing f.fncache)

abbrev pub view_small : SmallFiles → Small
view_small s = record { bookmarks = view_bookmarks s.bookmarks; dirstate = view_of_dirstate s.dirstate; roots = view_roots s.roots; fncache = view_fncache s.fncache }
