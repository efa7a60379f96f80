-- The indexes of the two revlogs behind a record: what its parts lay leaves their bytes in front.
use Rattle.std.proofs.Common.{◌≡◌, ℕ, List, [], ◌∷◌, ◌++◌, Bool, true, false, refl, sym, ◌∙◌, ap, subst, append-nil}
use Rattle.std.specs.Prelude.{flat_map, unwrap_or, Option, Ok}
use Rattle.hgs_bytes.specs.Bytes.{IsPrefixOf, same}
use Rattle.hgs_files.specs.declared.op.Op.TheVariants as ops
use Rattle.hgs_files.specs.Theorems.TreeLemmas.{after_all-append, bytes_at-with_file, same_path-eq, with_file-other}
use Rattle.hgs_files.specs.Tree.{Tree, after_all, apply, bytes_at, same_path}
use Rattle.hgs_journal.specs.Theorems.Touched.{or-both, untouched}
use Rattle.hgs_load.specs.Theorems.AskLemmas.{prefix-trans}
use Rattle.hgs_loading.specs.Store.{HaveGrown, Loaded as Read, loaded_in}
use Rattle.hgs_model.specs.declared.command.NewChange.{NewChange}
use Rattle.hgs_overlay.specs.declared.layers.Layers.{Layers}
use Rattle.hgs_overlay.specs.Layers.{laid_ops}
use Rattle.hgs_revlog.specs.Log.{Log}
use Rattle.hgs_stands.specs.Places.{changelog_index, manifest_index}
use Rattle.hgs_steps.specs.Planned.{IsLoadedOf}
use Rattle.hgs_steps.specs.declared.loaded.Loaded.{Loaded}
use Rattle.hgs_transaction.specs.Parts.{all_changes}
use Rattle.hgs_transaction.specs.declared.parts.Change.{Change}
use Rattle.hgs_transaction.specs.declared.parts.Change.TheVariants.{Append, MakeIndex, RenameIndex, Replace}
use Rattle.hgs_transaction.specs.declared.parts.Parts.{Parts}
use Rattle.hgs_transaction.specs.declared.parts.ReplacedFile.{ReplacedFile}
use Rattle.hgs_transaction.specs.declared.parts.ReplacedFile.TheVariants.{PhaseRoots, Dirstate, Bookmarks}
use Rattle.hgs_writer.specs.declared.import.Last.{Last}
use Rattle.hgs_writer.specs.Joined.{laying, lays, replaced_path}
use Rattle.hgs_writer.specs.Layered.{LaysRecord}

prefix-same : (a b : List ℕ) → b ≡ a → IsPrefixOf a b
prefix-same a b e = ([], e ∙ sym (append-nil a))

module _ (path : List ℕ) (other : (file : ReplacedFile) → same (replaced_path file) path ≡ false) where
  append-grows : (to bytes : List ℕ) (t : Tree) → IsPrefixOf (bytes_at t path) (bytes_at (apply (ops.Append to bytes) t) path)
  append-grows to bytes t = by (same_path to path) refl
    where
      by : (b : Bool) → same_path to path ≡ b → IsPrefixOf (bytes_at t path) (bytes_at (apply (ops.Append to bytes) t) path)
      by true e =
          let is : to ≡ path = same_path-eq to path e in
          (bytes, ap (λ p. bytes_at (apply (ops.Append to bytes) t) p) (sym is) ∙ bytes_at-with_file t to (bytes_at t to ++ bytes) ∙ ap (λ p. bytes_at t p ++ bytes) is)
      by false e = prefix-same (bytes_at t path) (bytes_at (apply (ops.Append to bytes) t) path) (ap (λ (o : Option (List ℕ)). unwrap_or o []) (with_file-other t to path _ e))

  change-grows : (x : Change) (t : Tree) → IsPrefixOf (bytes_at t path) (bytes_at (after_all (laying x) t) path)
  change-grows (Append a) t = append-grows a.path a.bytes t
  change-grows (Replace x) t =
      prefix-same (bytes_at t path) (bytes_at (after_all (laying (Replace x)) t) path)
      (ap (λ (o : Option (List ℕ)). unwrap_or o []) (untouched (laying (Replace x)) t path (or-both (same (replaced_path x.file) path) false (other x.file) refl)))
  change-grows (MakeIndex bytes) t = prefix-same (bytes_at t path) (bytes_at t path) refl
  change-grows (RenameIndex before) t = prefix-same (bytes_at t path) (bytes_at t path) refl

  changes-grow : (xs : List Change) (t : Tree) → IsPrefixOf (bytes_at t path) (bytes_at (after_all (flat_map laying xs) t) path)
  changes-grow [] t = prefix-same (bytes_at t path) (bytes_at t path) refl
  changes-grow (x ∷ xs) t =
      subst (λ u. IsPrefixOf (bytes_at t path) (bytes_at u path)) (sym (after_all-append (laying x) (flat_map laying xs) t))
      (prefix-trans (bytes_at t path) (bytes_at (after_all (laying x) t) path) (bytes_at (after_all (flat_map laying xs) (after_all (laying x) t)) path) (change-grows x t) (changes-grow xs (after_all (laying x) t)))

not-changelog : (file : ReplacedFile) → same (replaced_path file) changelog_index ≡ false
not-changelog PhaseRoots = refl
not-changelog Dirstate = refl
not-changelog Bookmarks = refl

not-manifest : (file : ReplacedFile) → same (replaced_path file) manifest_index ≡ false
not-manifest PhaseRoots = refl
not-manifest Dirstate = refl
not-manifest Bookmarks = refl

-- what was loaded of a tree is in front of what stands behind the parts
pub logs-grown : (t : Tree) (l : Loaded) (p : Parts) (changelog manifest : Log) → IsLoadedOf t l → changelog ≡ l.changelog → manifest ≡ l.manifest → HaveGrown (changelog, manifest) (after_all (lays p) t)
logs-grown t l p changelog manifest is first second = (
  (bytes_at t changelog_index, changes-grow changelog_index not-changelog (all_changes p) t, is.changelog ∙ ap (λ x. Ok x) (sym first)),
  (bytes_at t manifest_index, changes-grow manifest_index not-manifest (all_changes p) t, is.manifest ∙ ap (λ x. Ok x) (sym second)),
)

-- so it is behind a record
pub next-grown : (t : Tree) (read : Read) (l : Loaded) (n : NewChange) (old mid final : Layers) (last : Last) (changelog manifest : Log) → ((u : Tree) → loaded_in u ≡ Ok read → IsLoadedOf u l) → changelog ≡ l.changelog → manifest ≡ l.manifest
    → (loaded_in (after_all (laid_ops old) t) ≡ Ok read) × (laid_ops mid ≡ laid_ops old) → LaysRecord (after_all (laid_ops mid) t) l n mid final (Ok last) → HaveGrown (changelog, manifest) (after_all (laid_ops final) t)
next-grown t read l n old mid final last changelog manifest is_loaded first second h k =
    let was : IsLoadedOf (after_all (laid_ops mid) t) l = subst (λ o. IsLoadedOf (after_all o t) l) (sym h.1) (is_loaded (after_all (laid_ops old) t) h.0) in
    subst (HaveGrown (changelog, manifest)) (sym (k.2.tree t)) (logs-grown (after_all (laid_ops mid) t) l k.0.parts changelog manifest was first second)
