-- The files that a transaction appends to are in the store.
use Rattle.std.proofs.Common.{◌≡◌, ℕ, List, [], ◌∷◌, ◌++◌, length, drop, map, refl, ◌∙◌, ap}
use Rattle.std.specs.Prelude.{Bool, true, false, ◌&&◌, codes, flat_map, if◌then◌else◌}
use Rattle.std.specs.List.{list_all}
use Rattle.std.proofs.lemmas.List.Folds.{list_all-append}
use Rattle.hgs_bytes.specs.Bytes.{begins_with}
use Rattle.hgs_bytes.specs.Text.{line}
use Rattle.hgs_files.specs.declared.op.Op.{Op}
use Rattle.hgs_files.specs.declared.op.Op.TheVariants.{Append, Cut, Rename, Remove, Create, Sync, Settle}
use Rattle.hgs_files.specs.Tree.{Tree, bytes_at}
use Rattle.hgs_index.specs.Either.{chunk_bytes}
use Rattle.hgs_index.specs.Revision.{Revision}
use Rattle.hgs_model.specs.History.{history}
use Rattle.hgs_model.specs.Repo.{Repo}
use Rattle.hgs_model.specs.declared.command.Command.{Command}
use Rattle.hgs_model.specs.declared.command.Command.TheVariants.{Commit, Import, Move, Mark, Unmark}
use Rattle.hgs_ops.specs.Growth.{append_some, filelog_growth, filelogs_grow, grown, grows_inline, growth, new_chunks, new_data, new_entries, new_items, new_names, new_paths}
use Rattle.hgs_ops.specs.Operations.{changes_before, new_changelog_index, new_changelog_path, publishing, roots_renamed}
use Rattle.hgs_ops.specs.Replaced.{new_rename, new_roots, roots_change}
use Rattle.hgs_path.specs.StoreName.{store_name}
use Rattle.hgs_path.specs.declared.name.Ext.TheVariants.{I, D}
use Rattle.hgs_stands.specs.Places.{changelog_data, fncache_path, manifest_data, manifest_index}
use Rattle.hgs_transaction.specs.declared.parts.Change.{Change}
use Rattle.hgs_transaction.specs.declared.parts.Parts.{Parts}
use Rattle.hgs_transaction.specs.OfTransaction.{ArePartsOf}
use Rattle.hgs_transaction.specs.Parts.{change_op, is_in_store}

-- an append is to a file in the store
abbrev op_in_store : Op → Bool
op_in_store (Append path bytes) = begins_with path (codes "store/")
op_in_store (Cut path len) = true
op_in_store (Rename from to) = true
op_in_store (Remove path) = true
op_in_store (Create path bytes) = true
op_in_store (Sync path) = true
op_in_store Settle = true

two : (xs ys : List Op) → list_all op_in_store xs ≡ true → list_all op_in_store ys ≡ true → list_all op_in_store (xs ++ ys) ≡ true
two xs ys e f = list_all-append op_in_store xs ys ∙ ap (λ b. b && list_all op_in_store ys) e ∙ f

some : (path bytes : List ℕ) → begins_with path (codes "store/") ≡ true → list_all op_in_store (append_some path bytes) ≡ true
some path [] e = refl
some path (b ∷ bytes) e = ap (λ x. x && true) e

grown-in : (inline : Bool) (t : Tree) (index data_path : List ℕ) (old all : List Revision) → begins_with index (codes "store/") ≡ true → begins_with data_path (codes "store/") ≡ true → list_all op_in_store (grown inline t index data_path old all) ≡ true
grown-in inline t index data_path old all e f =
    let items = new_items (length (chunk_bytes inline (bytes_at t index) (bytes_at t data_path))) old (drop (length old) all) in
    two (append_some data_path (new_data inline items)) (append_some index (new_entries inline old items)) (some data_path (new_data inline items) f) (some index (new_entries inline old items) e)

filelogs-in : (t : Tree) (old new : List ℕ → List Revision) (paths : List (List ℕ)) → list_all op_in_store (filelogs_grow t old new paths) ≡ true
filelogs-in t old new [] = refl
filelogs-in t old new (path ∷ paths) =
    two (filelog_growth t path (old path) (new path)) (filelogs_grow t old new paths) (grown-in (grows_inline (bytes_at t (store_name path I)) (old path) (new path)) t (store_name path I) (store_name path D) (old path) (new path) refl refl) (filelogs-in t old new paths)

growth-in : (t : Tree) (r next : Repo) → list_all op_in_store (growth t r next) ≡ true
growth-in t r next =
    let old = history r.changesets in
    let new = history next.changesets in
    let names : List ℕ = flat_map line (new_names old.filelog new.filelog (new_paths r next)) in
    let chunks : List ℕ = new_chunks (new_items (length (bytes_at t changelog_data)) old.changelog (drop (length old.changelog) new.changelog)) in
    let filelogs : List Op = filelogs_grow t old.filelog new.filelog (new_paths r next) in
    let list : List Op = append_some fncache_path names in
    let manifest : List Op = grown false t manifest_index manifest_data old.manifest new.manifest in
    two ((filelogs ++ list) ++ manifest) (append_some changelog_data chunks) (
    two (filelogs ++ list) manifest (two filelogs list (filelogs-in t old.filelog new.filelog (new_paths r next)) (some fncache_path names refl)) (grown-in false t manifest_index manifest_data old.manifest new.manifest refl refl))
    (some changelog_data chunks refl)

roots-in : (b : Bool) (next : Repo) → list_all op_in_store (if b then new_rename (new_roots next) ∷ [] else []) ≡ true
roots-in true next = refl
roots-in false next = refl

before-in : (t : Tree) (r next : Repo) (command : Command) → list_all op_in_store (changes_before t r command next) ≡ true
before-in t r next (Commit n) = two (growth t r next) (roots_renamed r next) (growth-in t r next) (roots-in (roots_change r next) next)
before-in t r next (Import changes) = two (growth t r next) (Create new_changelog_path (new_changelog_index t r next) ∷ roots_renamed r next) (growth-in t r next) (roots-in (roots_change r next) next)
before-in t r next (Move rev phase force) = refl
before-in t r next (Mark name rev) = refl
before-in t r next (Unmark name) = refl

publishing-in : (t : Tree) (r next : Repo) (command : Command) → op_in_store (publishing t r command next) ≡ true
publishing-in t r next (Commit n) = refl
publishing-in t r next (Import changes) = refl
publishing-in t r next (Move rev phase force) = refl
publishing-in t r next (Mark name rev) = refl
publishing-in t r next (Unmark name) = refl

one-same : (change : Change) → is_in_store change ≡ op_in_store (change_op change)
one-same (Change.Append a) = refl
one-same (Change.Replace x) = refl
one-same (Change.MakeIndex bytes) = refl
one-same (Change.RenameIndex before) = refl

all-same : (changes : List Change) → list_all is_in_store changes ≡ list_all op_in_store (map change_op changes)
all-same [] = refl
all-same (change ∷ changes) = ap (λ b. b && list_all is_in_store changes) (one-same change) ∙ ap (λ b. op_in_store (change_op change) && b) (all-same changes)

pub before-in-store : (t : Tree) (r next : Repo) (command : Command) (p : Parts) → ArePartsOf t r command next p → list_all is_in_store p.before ≡ true
before-in-store t r next command p h = all-same p.before ∙ ap (list_all op_in_store) h.before ∙ before-in t r next command

pub publishing-in-store : (t : Tree) (r next : Repo) (command : Command) (p : Parts) → ArePartsOf t r command next p → is_in_store p.publishing ≡ true
publishing-in-store t r next command p h = one-same p.publishing ∙ ap op_in_store h.publish ∙ publishing-in t r next command
