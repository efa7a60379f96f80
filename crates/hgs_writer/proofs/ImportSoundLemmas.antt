-- The parts of an import are sound.
use Rattle.std.proofs.Common.{◌≡◌, ℕ, List, [], ◌∷◌, ◌++◌, Bool, true, false, map, refl, sym, ◌∙◌, ap, subst, append_assoc}
use Rattle.std.specs.Prelude.{◌||◌, if◌then◌else◌}
use Rattle.std.specs.Bool.{MatchBool}
use Rattle.std.specs.List.{list_all, list_any}
use Rattle.std.proofs.lemmas.List.{map-append}
use Rattle.hgs_bytes.specs.Bytes.{same}
use Rattle.hgs_files.specs.declared.op.Op.{Op}
use Rattle.hgs_files.specs.declared.op.Op.TheVariants as ops
use Rattle.hgs_files.specs.Tree.{Tree, same_path}
use Rattle.hgs_journal.specs.Names.{new_name, place}
use Rattle.hgs_machine.specs.Sound.{AreMadeFirst, AreOnce, AreSound, IsPublished}
use Rattle.hgs_model.specs.Repo.{Repo}
use Rattle.hgs_model.specs.Step.{sets_bookmark}
use Rattle.hgs_model.specs.declared.command.Command.TheVariants.{Import}
use Rattle.hgs_model.specs.declared.command.NewChange.{NewChange}
use Rattle.hgs_ops.specs.Growth.{growth}
use Rattle.hgs_ops.specs.Operations.{changes_before, new_changelog_index, new_changelog_path, publishing, renames_after, roots_renamed}
use Rattle.hgs_ops.specs.Replaced.{Replacement, new_bookmarks, new_dirstate, new_rename, new_roots, only_if, replacements, roots_change}
use Rattle.hgs_ops.specs.Theorems.CommitLemmas.{growth-appends}
use Rattle.hgs_ops.specs.Theorems.CommitTree.{is_append}
use Rattle.hgs_stands.specs.Places.{changelog_index}
use Rattle.hgs_transaction.specs.declared.parts.Change.{Change}
use Rattle.hgs_transaction.specs.declared.parts.Change.TheVariants.{Append, MakeIndex, RenameIndex, Replace}
use Rattle.hgs_transaction.specs.declared.parts.Parts.{Parts}
use Rattle.hgs_transaction.specs.declared.parts.ReplacedFile.{ReplacedFile}
use Rattle.hgs_transaction.specs.declared.parts.ReplacedFile.TheVariants.{PhaseRoots, Dirstate, Bookmarks}
use Rattle.hgs_transaction.specs.declared.parts.Replacing.{Replacing}
use Rattle.hgs_transaction.specs.OfTransaction.{ArePartsOf}
use Rattle.hgs_transaction.specs.Parts.{all_changes, change_op, file_name, is_plain, replacement_of, replacings_of}

-- ---- the new index is made before it is renamed

-- so it is said of operations
abbrev MadeFirst : Bool → List Op → Type 0
MadeFirst made [] = Unit {0}
MadeFirst made (ops.Create path bytes ∷ rest) = MadeFirst true rest
MadeFirst made (ops.Rename from to ∷ rest) = MatchBool (same_path from new_changelog_path) ((made ≡ true) × MadeFirst false rest) (MadeFirst made rest)
MadeFirst made (ops.Append path bytes ∷ rest) = MadeFirst made rest
MadeFirst made (ops.Cut path len ∷ rest) = MadeFirst made rest
MadeFirst made (ops.Remove path ∷ rest) = MadeFirst made rest
MadeFirst made (ops.Sync path ∷ rest) = MadeFirst made rest
MadeFirst made (ops.Settle ∷ rest) = MadeFirst made rest

-- the new text of a replaced file is not the new index
no_index : (f : ReplacedFile) (A B : Type 0) → MatchBool (same_path (place (is_plain f) (new_name (file_name f))) new_changelog_path) A B → B
no_index PhaseRoots A B h = h
no_index Dirstate A B h = h
no_index Bookmarks A B h = h

made_first : (made : Bool) (changes : List Change) → MadeFirst made (map change_op changes) → AreMadeFirst made changes
made_first made [] h = tt
made_first made (Append a ∷ changes) h = made_first made changes h
made_first made (Replace x ∷ changes) h = made_first made changes (no_index x.file ((made ≡ true) × MadeFirst false (map change_op changes)) (MadeFirst made (map change_op changes)) h)
made_first made (MakeIndex bytes ∷ changes) h = made_first true changes h
made_first made (RenameIndex before ∷ changes) h = (h.0, made_first false changes h.1)

appends_first : (made : Bool) (growth rest : List Op) → list_all is_append growth ≡ true → MadeFirst made rest → MadeFirst made (growth ++ rest)
appends_first made [] rest e h = h
appends_first made (ops.Append path bytes ∷ growth) rest e h = appends_first made growth rest e h
appends_first made (ops.Cut path len ∷ growth) rest e h = cc
appends_first made (ops.Rename from to ∷ growth) rest e h = cc
appends_first made (ops.Remove path ∷ growth) rest e h = cc
appends_first made (ops.Create path bytes ∷ growth) rest e h = cc
appends_first made (ops.Sync path ∷ growth) rest e h = cc
appends_first made (ops.Settle ∷ growth) rest e h = cc

roots_first : (b : Bool) (next : Repo) (rest : List Op) → MadeFirst true rest → MadeFirst true ((if b then new_rename (new_roots next) ∷ [] else []) ++ rest)
roots_first true next rest h = h
roots_first false next rest h = h

renames_first : (b : Bool) (next : Repo) → MadeFirst false (new_rename (new_dirstate next) ∷ only_if b (new_rename (new_bookmarks next)))
renames_first true next = tt
renames_first false next = tt

import_first : (t : Tree) (r next : Repo) (changes : List NewChange) → MadeFirst false (changes_before t r (Import changes) next ++ publishing t r (Import changes) next ∷ renames_after (Import changes) next)
import_first t r next changes =
    let behind = ops.Rename new_changelog_path changelog_index ∷ renames_after (Import changes) next in
    let made = ops.Create new_changelog_path (new_changelog_index t r next) in
    subst (MadeFirst false) (sym (append_assoc (growth t r next) (made ∷ roots_renamed r next) behind))
    (appends_first false (growth t r next) (made ∷ (roots_renamed r next ++ behind)) (growth-appends t r next) (roots_first (roots_change r next) next behind (refl, renames_first (sets_bookmark changes) next)))

-- ---- no file is replaced twice

abbrev NamedOnce : List Replacement → Type 0
NamedOnce [] = Unit {0}
NamedOnce (x ∷ files) = (list_any (λ y. same x.file y.file) files ≡ false) × NamedOnce files

any_named : (name : List ℕ) (files : List Replacing) → list_any (λ y. same name (file_name y.file)) files ≡ list_any (λ y. same name y.file) (map replacement_of files)
any_named name [] = refl
any_named name (x ∷ files) = ap (λ b. same name (file_name x.file) || b) (any_named name files)

named_once : (files : List Replacing) → NamedOnce (map replacement_of files) → AreOnce files
named_once [] h = tt
named_once (x ∷ files) h = (any_named (file_name x.file) files ∙ h.0, named_once files h.1)

replaced_once : (roots mark : Bool) (next : Repo) → NamedOnce (only_if roots (new_roots next) ++ new_dirstate next ∷ only_if mark (new_bookmarks next))
replaced_once true true next = (refl, (refl, (refl, tt)))
replaced_once true false next = (refl, (refl, tt))
replaced_once false true next = (refl, (refl, tt))
replaced_once false false next = (refl, tt)

-- ---- the whole

published : (t : Tree) (p : Parts) (change : Change) → change_op change ≡ ops.Rename new_changelog_path changelog_index → IsPublished t p change
published t p (Append a) e = cc
published t p (Replace x) e = tt
published t p (MakeIndex bytes) e = cc
published t p (RenameIndex before) e = tt

renamed_after : (files : List Replacing) → map change_op (map (λ x. Replace x) files) ≡ map (λ x. new_rename (replacement_of x)) files
renamed_after [] = refl
renamed_after (x ∷ files) = ap (λ l. new_rename (replacement_of x) ∷ l) (renamed_after files)

pub import_sound : (t u : Tree) (r next : Repo) (changes : List NewChange) (p : Parts) → ArePartsOf t r (Import changes) next p → AreSound u p
import_sound t u r next changes p are =
    let all : map change_op (all_changes p) ≡ changes_before t r (Import changes) next ++ publishing t r (Import changes) next ∷ renames_after (Import changes) next =
    map-append change_op p.before (p.publishing ∷ map (λ x. Replace x) p.after)
    ∙ λ i. are.before i ++ are.publish i ∷ (renamed_after p.after ∙ are.after) i in
    record {
      once = named_once (replacings_of (all_changes p)) (subst NamedOnce (sym are.replaced) (replaced_once (roots_change r next) (sets_bookmark changes) next));
      made = made_first false (all_changes p) (subst (MadeFirst false) (sym all) (import_first t r next changes));
      publishing = published u p p.publishing are.publish;
    }
