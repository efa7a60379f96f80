-- What is asked of filelogs.
use Rattle.std.specs.Prelude.{◌≡◌, ℕ, Bool, false, ◌&&◌, ◌==◌, List, [], ◌∷◌, map, count_by}
use Rattle.hgs_bytes.specs.Bytes.{same}
use Rattle.hgs_index.specs.declared.entry.Entry.{Entry}
use Rattle.hgs_revlog.specs.Log.{nodes_of}
use Rattle.hgs_revlog.specs.Loaded.{parents_in}
use Rattle.hgs_follow.specs.Followed.{At, Filelogs, parents_of, source_at}
use Rattle.hgs_follow.specs.Source.{copied_from}

-- What is asked: the filelog of a path, or the text of a revision of one.
pub data Asking : Type 0 where
  log_of : List ℕ → Asking
  text_of : List ℕ → ℕ → Asking

-- What was asked, with its answer: the entries of the filelog, or the text.
pub data Asked : Type 0 where
  loaded : List ℕ → List Entry → Asked
  told : List ℕ → ℕ → List ℕ → Asked

-- From one state to another this was asked, one after the other.
abbrev pub Chain : {S : Type 0} → (S → Asked → S → Type 0) → S → List Asked → S → Type 0
Chain one a [] c = a ≡ c
Chain {S} one a (x ∷ xs) c = (b : S) × one a x b × Chain one b xs c

-- these entries are those of a filelog
pub record AreOf (entries : List Entry) (files : Filelogs) (path : List ℕ) : Type 0 where
  pub nodes : map (λ r. r.node) (files path) ≡ nodes_of entries
  pub parents : parents_of (files path) ≡ parents_in entries
  pub links : map (λ r. r.link) (files path) ≡ map (λ e. e.link) entries

-- an answer is that of these filelogs
abbrev pub IsOf : Filelogs → Asked → Type 0
IsOf files (loaded path entries) = AreOf entries files path
IsOf files (told path rev text) = source_at files (record { path = path; rev = rev }) ≡ copied_from text

abbrev pub AllOf : Filelogs → List Asked → Type 0
AllOf files [] = Unit {0}
AllOf files (x ∷ xs) = IsOf files x × AllOf files xs

-- whether two file revisions are the same
abbrev pub same_at : At → At → Bool
same_at a b = same a.path b.path && b.rev == a.rev

-- whether the text of a file revision was asked for, and whether the filelog of a path was
abbrev pub tells : At → Asked → Bool
tells a (loaded path entries) = false
tells a (told path rev text) = same_at a (record { path = path; rev = rev })

abbrev pub loads : List ℕ → Asked → Bool
loads path (loaded other entries) = same path other
loads path (told other rev text) = false

-- how often
abbrev pub times_told : At → List Asked → ℕ
times_told a asked = count_by (tells a) asked

abbrev pub times_loaded : List ℕ → List Asked → ℕ
times_loaded path asked = count_by (loads path) asked
