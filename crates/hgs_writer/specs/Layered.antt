-- What layers over files are, by the operations that were laid.
use Rattle.std.specs.Prelude.{◌≡◌, ◌≤◌, ◌+◌, ◌*◌, ℕ, zero, suc, is_some, List, [], ◌∷◌, ◌++◌, Bool, true, false, length, Option, Some, None, IfSome, Result, Ok, Err, codes, ⊤}
use Rattle.std.specs.Bool.{MatchBool}
use Rattle.std.specs.List.{list_all}
use Rattle.hgs_bytes.specs.Bytes.{begins_with}
use Rattle.hgs_commit.specs.Commit.{is_free}
use Rattle.hgs_commit.specs.OfCommit.{optional_replace}
use Rattle.hgs_commit.specs.declared.fault.CommitFault.{CommitFault}
use Rattle.hgs_files.specs.declared.op.Op.{Op}
use Rattle.hgs_files.specs.Tree.{Tree, after_all, bytes_at}
use Rattle.hgs_model.specs.History.{inserted}
use Rattle.hgs_model.specs.declared.command.NewChange.{NewChange}
use Rattle.hgs_ops.specs.Growth.{appended}
use Rattle.hgs_overlay.specs.declared.layers.Layer.{Layer}
use Rattle.hgs_overlay.specs.declared.layers.Layers.{Layers}
use Rattle.hgs_overlay.specs.Layers.{laid_ops, layer_at}
use Rattle.hgs_stands.specs.Places.{changelog_index}
use Rattle.hgs_steps.specs.declared.loaded.Loaded.{Loaded}
use Rattle.hgs_steps.specs.declared.loaded.Standing.{Standing}
use Rattle.hgs_steps.specs.declared.step.Step.{Step}
use Rattle.hgs_transaction.specs.declared.parts.Change.{Change}
use Rattle.hgs_transaction.specs.declared.parts.Change.TheVariants.{Append, MakeIndex, RenameIndex}
use Rattle.hgs_transaction.specs.declared.parts.Parts.{Parts}
use Rattle.hgs_transaction.specs.declared.parts.ReplacedFile.{ReplacedFile}
use Rattle.hgs_transaction.specs.declared.parts.ReplacedFile.TheVariants.{PhaseRoots, Dirstate, Bookmarks}
use Rattle.hgs_transaction.specs.declared.parts.Replacing.{Replacing}
use Rattle.hgs_writer.specs.declared.import.Last.{Last}
use Rattle.hgs_writer.specs.Joined.{all_laid, are_put, joined_appends, lays, names_of_new, replaced_path}
use Rattle.hgs_writer.specs.Records.{AreMore, ArePlanned, AreRefused, CommitComesTo, IsRecordOn, IsRefusedAmong, IsRefusedOn}

-- ---- layers

abbrev pub is_in_place : Option Layer → Bool
is_in_place None = false
is_in_place (Some layer) = layer.in_place

abbrev pub layer_bytes : Option Layer → List ℕ
layer_bytes None = []
layer_bytes (Some layer) = layer.bytes

-- The layers leave what these operations leave: a file that is put whole is laid in its place, and behind another is what is appended to it.
pub record AreLayersOf (l : Layers) (laid : List Op) : Type 0 where
  pub tree : (t : Tree) → after_all (laid_ops l) t ≡ after_all laid t
  pub put : (path : List ℕ) → is_in_place (layer_at l path) ≡ are_put path laid
  pub behind : (path : List ℕ) → are_put path laid ≡ false → layer_bytes (layer_at l path) ≡ appended path laid

-- these operations were laid over what was laid before
pub record Lays (old new : Layers) (laid : List Op) : Type 0 where
  pub tree : (t : Tree) → after_all (laid_ops new) t ≡ after_all laid (after_all (laid_ops old) t)
  pub layers : (before : List Op) → AreLayersOf old before → AreLayersOf new (before ++ laid)

-- ---- records

abbrev pub last_of : Step → Last
last_of s = record { rev = s.rev; node = s.node }

-- the last one's changeset, where it was this before them
abbrev pub IsLast : Last → List Step → Last → Type 0
IsLast first [] last = last ≡ first
IsLast first (s ∷ steps) last = IsLast (last_of s) steps last

-- a record is planned and laid, or refused
abbrev pub LaysRecord : Tree → Loaded → NewChange → Layers → Layers → Result Last CommitFault → Type 0
LaysRecord t l n old new (Ok last) = (s : Step) × CommitComesTo t l n (Ok s) × Lays old new (lays s.parts) × (last ≡ last_of s)
LaysRecord t l n old new (Err fault) = MatchBool (is_free fault) ⊤ (CommitComesTo t l n (Err fault))

-- the same by what is loaded of the tree
abbrev pub LaysNext : Tree → NewChange → Layers → Layers → Result Last CommitFault → Type 0
LaysNext t n old new (Ok last) = (s : Step) × IsRecordOn t n s × Lays old new (lays s.parts) × (last ≡ last_of s)
LaysNext t n old new (Err fault) = MatchBool (is_free fault) ⊤ (IsRefusedOn t n fault)

-- so are more of them, or one is refused
abbrev pub LaysMore : Tree → List NewChange → Last → Layers → Layers → Result Last CommitFault → Type 0
LaysMore t changes first old new (Ok last) = (steps : List Step) × AreMore t changes steps × Lays old new (all_laid steps) × IsLast first steps last
LaysMore t changes first old new (Err fault) = MatchBool (is_free fault) ⊤ (IsRefusedAmong t changes fault)

-- so are all, of which there is a first one
abbrev pub LaysAll : Tree → Loaded → List NewChange → Layers → Layers → Result Last CommitFault → Type 0
LaysAll t l changes old new (Ok last) = (s : Step) × (steps : List Step) × ArePlanned t l changes (s ∷ steps) × Lays old new (all_laid (s ∷ steps)) × IsLast (last_of s) steps last
LaysAll t l changes old new (Err fault) = MatchBool (is_free fault) ⊤ (AreRefused t l changes fault)

-- ---- what is joined

-- a list in order with these texts in their places, each once
abbrev pub entered : List (List ℕ) → List (List ℕ) → List (List ℕ)
entered [] all = all
entered (x ∷ xs) all = inserted x (entered xs all)

-- the bytes of the layers
abbrev pub bytes_over : Layers → List ℕ → List ℕ
bytes_over l path = layer_bytes (layer_at l path)

-- a file that is replaced by the layer in its place
abbrev pub replacing_when : ReplacedFile → Option (List ℕ) → List ℕ → Bool → Option Replacing
replacing_when file standing text true = Some (record { file = file; text = text; standing = standing })
replacing_when file standing text false = None

abbrev pub replacing_by : ReplacedFile → Option (List ℕ) → Option Layer → Option Replacing
replacing_by file standing layer = replacing_when file standing (layer_bytes layer) (is_in_place layer)

abbrev pub replaced_over : Layers → ReplacedFile → Option (List ℕ) → Option Replacing
replaced_over l file standing = replacing_by file standing (layer_at l (replaced_path file))

abbrev pub as_list : Option Replacing → List Replacing
as_list None = []
as_list (Some x) = x ∷ []

-- the parts that the layers over a tree come to
abbrev pub parts_over : Tree → Standing → List (List ℕ) → Layers → Parts
parts_over t s paths l = record {
  before =
      joined_appends t (bytes_over l) paths
      ++ MakeIndex (bytes_at t changelog_index ++ bytes_over l changelog_index)
      ∷ optional_replace (replaced_over l PhaseRoots s.roots);
  publishing = RenameIndex (length (bytes_at t changelog_index));
  after = as_list (replaced_over l Dirstate s.dirstate) ++ as_list (replaced_over l Bookmarks s.bookmarks);
}

-- only a fault of the files, or want of memory, refuses
abbrev pub IsOr : {A : Type 0} → (A → Type 0) → Result A CommitFault → Type 0
IsOr holds (Ok x) = holds x
IsOr holds (Err fault) = is_free fault ≡ true

-- ---- the shape of what is joined

abbrev pub is_appended : Change → Bool
is_appended (Append a) = begins_with a.path (codes "store/")
is_appended change = false

-- at most so many appends to files of the store are added
abbrev pub AddsAppends : ℕ → List Change → List Change → Type 0
AddsAppends most old new = (more : List Change) × (new ≡ old ++ more) × (length more ≤ most) × (list_all is_appended more ≡ true)

-- the bytes are appended, if there are any, to a file of this length before
abbrev pub PushesAppend : List ℕ → List ℕ → Option ℕ → List Change → List Change → Type 0
PushesAppend path [] before old new = (before ≡ None) × (new ≡ old)
PushesAppend path (b ∷ bytes) None old new = ⊥
PushesAppend path (b ∷ bytes) (Some before) old new = new ≡ old ++ Append (record { path = path; before = before; bytes = b ∷ bytes }) ∷ []

-- the names of a filelog where something was pushed behind an index that had no bytes, and maybe behind its data
abbrev pub names_behind : List ℕ → Option ℕ → Option ℕ → List (List ℕ)
names_behind path data_before None = []
names_behind path data_before (Some zero) = names_of_new path (is_some data_before)
names_behind path data_before (Some (suc n)) = []

-- The parts of an import of so many paths: appends, the making of a new index of the changelog, and the phase roots where they change; the rename of the
-- index; the dirstate and the bookmarks, where they change.
pub record ArePartsOfImport (count : ℕ) (p : Parts) : Type 0 where
  pub appends : List Change
  pub adds : AddsAppends (2 * count + 4) [] appends
  pub index : List ℕ
  pub roots : Option Replacing
  pub are_roots : IfSome roots (λ x. x.file ≡ PhaseRoots)
  pub before : p.before ≡ appends ++ MakeIndex index ∷ optional_replace roots
  pub standing : ℕ
  pub publishing : p.publishing ≡ RenameIndex standing
  pub dirstate : Option Replacing
  pub is_dirstate : IfSome dirstate (λ x. x.file ≡ Dirstate)
  pub bookmarks : Option Replacing
  pub are_bookmarks : IfSome bookmarks (λ x. x.file ≡ Bookmarks)
  pub after : p.after ≡ as_list dirstate ++ as_list bookmarks
