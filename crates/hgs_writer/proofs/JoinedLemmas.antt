-- What layers come to, joined, by what was laid.
use Rattle.std.proofs.Common.{◌≡◌, ℕ, suc, ◌+◌, ◌*◌, ◌≤◌, ◌<◌, ◌^◌, Bool, true, false, cond, List, [], ◌∷◌, ◌++◌, length, map, refl, sym, ◌∙◌, ap, subst, append_assoc, append-nil, true≢false, arith, length-append}
use Rattle.std.specs.Prelude.{◌||◌, ◌&&◌, codes, Option, Some, None, IfSome, Result, Ok, Err, flat_map, unwrap_or}
use Rattle.std.specs.List.{AllByRecursion, list_all, list_any}
use Rattle.hgs_bytes.specs.Bytes.{among, same}
use Rattle.hgs_bytes.specs.Text.{line}
use Rattle.hgs_commit.specs.Appended.{append_some}
use Rattle.hgs_commit.specs.OfCommit.{optional_replace}
use Rattle.hgs_files.specs.declared.op.Op.{Op}
use Rattle.hgs_files.specs.declared.op.Op.TheVariants as ops
use Rattle.hgs_files.specs.Tree.{Tree, after_all, bytes_at}
use Rattle.hgs_ops.specs.Growth.{appended}
use Rattle.hgs_ops.specs.Theorems.Touch.{same-sym}
use Rattle.hgs_overlay.specs.declared.layers.Layer.{Layer}
use Rattle.hgs_overlay.specs.declared.layers.Layers.{Layers}
use Rattle.hgs_overlay.specs.Layers.{covered, laid_ops, layer_at}
use Rattle.hgs_path.specs.declared.name.Ext.{Ext}
use Rattle.hgs_path.specs.declared.name.Ext.TheVariants.{I, D}
use Rattle.hgs_path.specs.StoreName.{store_name}
use Rattle.hgs_stands.specs.Places.{bookmarks_path, changelog_data, changelog_index, dirstate_path, fncache_path, manifest_data, manifest_index, roots_path}
use Rattle.hgs_stands.specs.Theorems.ApartLemmas.{store-d}
use Rattle.hgs_steps.specs.declared.loaded.Standing.{Standing}
use Rattle.hgs_steps.specs.declared.step.Step.{Step}
use Rattle.hgs_transaction.specs.declared.parts.Change.{Change}
use Rattle.hgs_transaction.specs.declared.parts.Change.TheVariants.{Append, MakeIndex, RenameIndex, Replace}
use Rattle.hgs_transaction.specs.declared.parts.Parts.{Parts}
use Rattle.hgs_transaction.specs.declared.parts.ReplacedFile.{ReplacedFile}
use Rattle.hgs_transaction.specs.declared.parts.ReplacedFile.TheVariants.{PhaseRoots, Dirstate, Bookmarks}
use Rattle.hgs_transaction.specs.declared.parts.Replacing.{Replacing}
use Rattle.hgs_transaction.specs.Parts.{all_changes}
use Rattle.hgs_writer.specs.Joined.{all_laid, are_put, joined_append, joined_appends, joined_filelog, joined_lines, joined_names, joined_parts, joined_replaced, laying, lays, names_with, replaced_path, standing_in}
use Rattle.hgs_writer.specs.Layered.{AreLayersOf, as_list, bytes_over, is_in_place, layer_bytes, parts_over, replaced_over, replacing_by, replacing_when}
use Rattle.hgs_writer.proofs.LaysLemmas.{put-append}

-- ---- files that are put whole

abbrev replaced_paths : List (List ℕ)
replaced_paths = roots_path ∷ dirstate_path ∷ bookmarks_path ∷ []

or-left : (a b : Bool) → (a || b) ≡ false → a ≡ false
or-left true b e = e
or-left false b e = refl

or-right : (a b : Bool) → (a || b) ≡ false → b ≡ false
or-right true b e = absurd (true≢false e)
or-right false b e = e

or-none : (a b : Bool) → a ≡ false → b ≡ false → (a || b) ≡ false
or-none true b e f = e
or-none false b e f = f

place-none : (f : ReplacedFile) (p : List ℕ) → among p replaced_paths ≡ false → same (replaced_path f) p ≡ false
place-none PhaseRoots p e = same-sym p roots_path (or-left (same p roots_path) (among p (dirstate_path ∷ bookmarks_path ∷ [])) e)
place-none Dirstate p e = same-sym p dirstate_path (or-left (same p dirstate_path) (among p (bookmarks_path ∷ [])) (or-right (same p roots_path) (among p (dirstate_path ∷ bookmarks_path ∷ [])) e))
place-none Bookmarks p e =
    same-sym p bookmarks_path (or-left (same p bookmarks_path) false (or-right (same p dirstate_path) (among p (bookmarks_path ∷ [])) (or-right (same p roots_path) (among p (dirstate_path ∷ bookmarks_path ∷ [])) e)))

change-none : (x : Change) (p : List ℕ) → among p replaced_paths ≡ false → are_put p (laying x) ≡ false
change-none (Append a) p e = refl
change-none (Replace x) p e = or-none (same (replaced_path x.file) p) false (place-none x.file p e) refl
change-none (MakeIndex bytes) p e = refl
change-none (RenameIndex before) p e = refl

changes-none : (xs : List Change) (p : List ℕ) → among p replaced_paths ≡ false → are_put p (flat_map laying xs) ≡ false
changes-none [] p e = refl
changes-none (x ∷ xs) p e = put-append p (laying x) (flat_map laying xs) ∙ or-none (are_put p (laying x)) (are_put p (flat_map laying xs)) (change-none x p e) (changes-none xs p e)

steps-none : (steps : List Step) (p : List ℕ) → among p replaced_paths ≡ false → are_put p (all_laid steps) ≡ false
steps-none [] p e = refl
steps-none (s ∷ steps) p e = put-append p (lays s.parts) (all_laid steps) ∙ or-none (are_put p (lays s.parts)) (are_put p (all_laid steps)) (changes-none (all_changes s.parts) p e) (steps-none steps p e)

store-none : (path : List ℕ) (ext : Ext) → among (store_name path ext) replaced_paths ≡ false
store-none path ext = ap (λ z. among (codes "store/" ++ z) replaced_paths) (store-d path ext).1

-- ---- appends of the same bytes

module _ (t : Tree) (f g : List ℕ → List ℕ) (stores : (path : List ℕ) (ext : Ext) → f (store_name path ext) ≡ g (store_name path ext)) where
  filelogs-same : (paths : List (List ℕ)) → flat_map (joined_filelog t f) paths ≡ flat_map (joined_filelog t g) paths
  filelogs-same [] = refl
  filelogs-same (p ∷ paths) =
      λ i. (append_some (store_name p D) (length (bytes_at t (store_name p D))) (stores p D i) ++ append_some (store_name p I) (length (bytes_at t (store_name p I))) (stores p I i)) ++ filelogs-same paths i

  names-same : (paths : List (List ℕ)) → flat_map (joined_names t f) paths ≡ flat_map (joined_names t g) paths
  names-same [] = refl
  names-same (p ∷ paths) = λ i. names_with p (bytes_at t (store_name p I)) (stores p I i) (stores p D i) ++ names-same paths i

  pub appends-same : (paths : List (List ℕ)) → f manifest_data ≡ g manifest_data → f manifest_index ≡ g manifest_index → f changelog_data ≡ g changelog_data → joined_appends t f paths ≡ joined_appends t g paths
  appends-same paths md mi cd =
      λ i. filelogs-same paths i
      ++ append_some fncache_path (length (bytes_at t fncache_path)) (flat_map line (names-same paths i))
      ++ (append_some manifest_data (length (bytes_at t manifest_data)) (md i) ++ append_some manifest_index (length (bytes_at t manifest_index)) (mi i))
      ++ append_some changelog_data (length (bytes_at t changelog_data)) (cd i)

-- ---- files that are replaced

module _ (covers : (l : Layers) (t : Tree) (path : List ℕ) → after_all (laid_ops l) t path ≡ covered (layer_at l path) (t path)) (t : Tree) (l : Layers) (laid : List Op) (are : AreLayersOf l laid) (s : Standing) where
  text-is : (path : List ℕ) (layer : Layer) → layer_at l path ≡ Some layer → layer.in_place ≡ true → bytes_at (after_all laid t) path ≡ layer.bytes
  text-is path layer is whole =
      ap (λ (u : Tree). unwrap_or (u path) []) (sym (are.tree t))
      ∙ ap (λ o. unwrap_or o []) (covers l t path ∙ ap (λ o. covered o (t path)) is)
      ∙ by layer.in_place whole
    where
      by : (b : Bool) → b ≡ true → unwrap_or (covered (Some (record { in_place = b; bytes = layer.bytes })) (t path)) [] ≡ layer.bytes
      by true e = refl
      by false e = absurd (true≢false (sym e))

  replaced-is : (file : ReplacedFile) → as_list (replaced_over l file (standing_in s file)) ≡ joined_replaced t s laid file
  replaced-is file = by (layer_at l (replaced_path file)) refl
    where
      path : List ℕ
      path = replaced_path file

      by : (o : Option Layer) → layer_at l path ≡ o → as_list (replaced_over l file (standing_in s file)) ≡ joined_replaced t s laid file
      by None e =
          let none : are_put path laid ≡ false = sym (are.put path) ∙ ap is_in_place e in
          rw (e, none) refl
      by (Some layer) e = two layer.in_place refl
        where
          two : (b : Bool) → layer.in_place ≡ b → as_list (replaced_over l file (standing_in s file)) ≡ joined_replaced t s laid file
          two true w =
              let put : are_put path laid ≡ true = sym (are.put path) ∙ ap is_in_place e ∙ w in
              let text : bytes_at (after_all laid t) path ≡ layer.bytes = text-is path layer e w in
              rw (e, put, text, w) refl
          two false w =
              let none : are_put path laid ≡ false = sym (are.put path) ∙ ap is_in_place e ∙ w in
              rw (e, none, w) refl

optional-is : (o : Option Replacing) → optional_replace o ≡ map (λ (x : Replacing). Replace x) (as_list o)
optional-is None = refl
optional-is (Some x) = refl

-- ---- the whole

pub parts-are : ((l : Layers) (t : Tree) (path : List ℕ) → after_all (laid_ops l) t path ≡ covered (layer_at l path) (t path)) → (t : Tree) (s : Standing) (paths : List (List ℕ)) (l : Layers) (steps : List Step) → AreLayersOf l (all_laid steps)
    → parts_over t s paths l ≡ joined_parts t s paths (all_laid steps)
parts-are covers t s paths l steps are =
    let laid = all_laid steps in
    let bytes : (p : List ℕ) → among p replaced_paths ≡ false → bytes_over l p ≡ appended p laid = λ p e. are.behind p (steps-none steps p e) in
    let appends = appends-same t (bytes_over l) (λ p. appended p laid) (λ p ext. bytes (store_name p ext) (store-none p ext)) paths (bytes manifest_data refl) (bytes manifest_index refl) (bytes changelog_data refl) in
    let roots = optional-is (replaced_over l PhaseRoots s.roots) ∙ ap (map (λ (x : Replacing). Replace x)) (replaced-is covers t l laid are s PhaseRoots) in
    λ i. record {
      before = appends i ++ MakeIndex (bytes_at t changelog_index ++ bytes changelog_index refl i) ∷ roots i;
      publishing = RenameIndex (length (bytes_at t changelog_index));
      after = replaced-is covers t l laid are s Dirstate i ++ replaced-is covers t l laid are s Bookmarks i;
    }
