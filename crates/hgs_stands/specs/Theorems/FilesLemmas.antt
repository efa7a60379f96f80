-- The files of a tree that stands.
use Rattle.std.proofs.Common.{◌≡◌, ℕ, List, [], ◌∷◌, Bool, true, false, ◌&&◌, ◌||◌, not, refl, sym, ◌∙◌, ap, subst}
use Rattle.std.specs.Prelude.{Ok, Err, Result}
use Rattle.std.specs.List.{AllByRecursion}
use Rattle.hgs_bytes.specs.Bytes.{among, same}
use Rattle.hgs_files.specs.Tree.{Tree, bytes_at}
use Rattle.hgs_model.specs.History.{uses}
use Rattle.hgs_model.specs.Repo.{Repo}
use Rattle.hgs_path.specs.declared.fncache.FncacheFault.{FncacheFault}
use Rattle.hgs_path.specs.declared.name.Ext.{Ext}
use Rattle.hgs_path.specs.declared.name.Ext.TheVariants.{I, D}
use Rattle.hgs_path.specs.Fncache.{lists}
use Rattle.hgs_path.specs.ListedNames.{names_of}
use Rattle.hgs_path.specs.StoreName.{store_name}
use Rattle.hgs_stands.specs.Open.{IsOpen}
use Rattle.hgs_stands.specs.Places.{fncache_path}
use Rattle.hgs_stands.specs.Stands.{IsUsedName, Stands, has_file}
use Rattle.hgs_stands.specs.Theorems.Basics.{never, none-some, same-eq}

-- ---- names of used paths

neither : (a b : Bool) → (true && (a || b)) ≡ false → (a ≡ false) × (b ≡ false)
neither true b e = never e
neither false true e = never e
neither false false e = (refl, refl)

pub files-apart : (t : Tree) (r : Repo) (path other : List ℕ) (ext : Ext) → Stands t r → uses r.changesets path ≡ true → uses r.changesets other ≡ true → same path other ≡ false → same (store_name path ext) (store_name other ext) ≡ false
files-apart t r path other ext s used used_there differ = at ext
  where
    both : (same (store_name path I) (store_name other I) ≡ false) × (same (store_name path D) (store_name other D) ≡ false)
    both = neither (same (store_name path I) (store_name other I)) (same (store_name path D) (store_name other D)) (ap (λ b. not b && (same (store_name path I) (store_name other I) || same (store_name path D) (store_name other D))) (sym differ) ∙ s.revlogs.names other path used_there used)

    at : (x : Ext) → same (store_name path x) (store_name other x) ≡ false
    at I = both.0
    at D = both.1

-- ---- names that are listed

names-are : (t : Tree) (r : Repo) (names : List (List ℕ)) (s : Stands t r) → names_of (bytes_at t fncache_path) ≡ Ok names → s.fncache.names ≡ names
names-are t r names s e = ap (elim [ Ok z ↦ z | Err f ↦ names ]) read
  where
    read : ◌≡◌ {A = Result (List (List ℕ)) FncacheFault} (Ok s.fncache.names) (Ok names)
    read = sym s.fncache.text ∙ e

is-used : (P : List ℕ → Type 0) (name : List ℕ) (names : List (List ℕ)) → AllByRecursion P names → among name names ≡ true → P name
is-used P name [] all e = never (sym e)
is-used P name (x ∷ names) all e = by (same name x) refl e (is-used P name names all.1)
  where
    by : (b : Bool) → same name x ≡ b → (b || among name names) ≡ true → (among name names ≡ true → P name) → P name
    by true h d rec = subst P (sym (same-eq name x h)) all.0
    by false h d rec = rec d

pub name-used : (t : Tree) (r : Repo) (names : List (List ℕ)) (name : List ℕ) → Stands t r → names_of (bytes_at t fncache_path) ≡ Ok names → among name names ≡ true → IsUsedName t r.changesets name
name-used t r names name s read there = is-used (IsUsedName t r.changesets) name names (subst (AllByRecursion (IsUsedName t r.changesets)) (names-are t r names s read) s.fncache.used) there

pub path-listed : (t : Tree) (r : Repo) (names : List (List ℕ)) (path : List ℕ) (ext : Ext) → Stands t r → names_of (bytes_at t fncache_path) ≡ Ok names → uses r.changesets path ≡ true → has_file t path ext ≡ true → lists names path ext ≡ true
path-listed t r names path ext s read used has = ap (λ l. lists l path ext) (sym (names-are t r names s read)) ∙ s.fncache.listed path ext used has

-- ---- no transaction is open

pub stands-closed : (strays : List (List ℕ)) (t : Tree) (r s : Repo) → Stands t r → IsOpen strays t s → ⊥
stands-closed strays t r s stands is_open = none-some is_open.1.journal_bytes (sym stands.no_journal ∙ is_open.1.journal_stands)
