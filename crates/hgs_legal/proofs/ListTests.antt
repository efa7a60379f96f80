-- What no test tells of a commit is so over a list of kept names.
use Rattle.std.proofs.Common.{◌≡◌, ◌⊎◌, ℕ, List, Bool, true, false, ◌||◌, refl, sym, ◌∙◌, ap, subst, inl, inr}
use Rattle.std.specs.Prelude.{Ok}
use Rattle.std.specs.List.{AllByRecursion}
use Rattle.hex.specs.Hex.{IsBytes}
use Rattle.hgs_bytes.specs.Bytes.{among}
use Rattle.hgs_bytes.specs.Text.{lines_of}
use Rattle.hgs_files.specs.Tree.{Tree, bytes_at}
use Rattle.hgs_model.specs.declared.command.Command.TheVariants.{Commit}
use Rattle.hgs_model.specs.declared.command.NewChange.{NewChange}
use Rattle.hgs_model.specs.History.{uses}
use Rattle.hgs_model.specs.Repo.{Repo}
use Rattle.hgs_model.specs.Step.{Answer, step}
use Rattle.hgs_model.specs.Valid.{new_paths as paths_of_files}
use Rattle.hgs_ops.specs.Growth.{new_paths}
use Rattle.hgs_ops.specs.Theorems.Touch.{bool}
use Rattle.hgs_path.specs.declared.name.Ext.{Ext}
use Rattle.hgs_path.specs.declared.name.Ext.TheVariants.{I, D}
use Rattle.hgs_path.specs.Fncache.{is_path_of, lists as lists_file}
use Rattle.hgs_path.specs.ListedNames.{listed_file, names_of}
use Rattle.hgs_path.specs.StoreName.{listed_name, store_name}
use Rattle.hgs_path.specs.Theorems.ApartLemmas.{listed-file}
use Rattle.hgs_path.specs.Theorems.FncacheLemmas.{listed-once}
use Rattle.hgs_stands.specs.Places.{fncache_path}
use Rattle.hgs_stands.specs.Stands.{Stands}
use Rattle.hgs_legal.specs.ListsPaths.{IsKeptName, ListsPaths}
use Rattle.hgs_legal.specs.NothingClashes.{NothingClashes}
use Rattle.hgs_legal.proofs.ListCommits.{Added, adds, among-all, new-of-command, one-name, used-or-new}
use Rattle.hgs_legal.proofs.ListLines.{whole-names}
use Rattle.hgs_legal.proofs.ListOps.{list_of}

-- a used path is listed, so its name is bytes
pub used-bytes : (t : Tree) (r : Repo) → Stands t r → ListsPaths t r → (path : List ℕ) → uses r.changesets path ≡ true → IsBytes path
used-bytes t r s lists path used =
    let all = whole-names (IsKeptName r.changesets) 1 (lines_of (list_of t)) s.fncache.names s.fncache.text lists.lines in
    let k = among-all (IsKeptName r.changesets) s.fncache.names all (listed_name path I) (s.fncache.listed path I used refl) in
    subst IsBytes (listed-once k.0.0 path k.0.1 I k.0.3).0 k.0.2

pub paths-bytes : (t : Tree) (r next : Repo) (n : NewChange) (answer : Answer) → Stands t r → ListsPaths t r → step r (Commit n) ≡ Ok (next, answer) → AllByRecursion IsBytes (paths_of_files n.files) → (path : List ℕ) → uses next.changesets path ≡ true → IsBytes path
paths-bytes t r next n answer s lists e bytes path used = by (used-or-new r next a.c a.changesets path used)
  where
    a : Added r n next
    a = adds t r next n answer s e

    by : (uses r.changesets path ≡ true) ⊎ (among path (new_paths r next) ≡ true) → IsBytes path
    by (inl u) = used-bytes t r s lists path u
    by (inr w) = among-all IsBytes (paths_of_files n.files) bytes path (sym (new-of-command r next n a path) ∙ w)

pub names-own : (t : Tree) (r next : Repo) → ListsPaths t r → NothingClashes t r next → (names : List (List ℕ)) → names_of (bytes_at t fncache_path) ≡ Ok names → (name path : List ℕ) (ext : Ext) → among name names ≡ true → among path (new_paths r next) ≡ true → listed_file name ≡ store_name path ext → listed_name path ext ≡ name
names-own t r next lists free names read name path ext there new is = by (bool (uses r.changesets path))
  where
    k : IsKeptName r.changesets name
    k = among-all (IsKeptName r.changesets) names (whole-names (IsKeptName r.changesets) 1 (lines_of (list_of t)) names read lists.lines) name there

    listed : (e : Ext) (q : List ℕ) → among (listed_name q e) names ≡ true → is_path_of (lists_file names) q ≡ true
    listed I q h = ap (λ b. b || lists_file names q D) h
    listed D q h = ap (λ b. lists_file names q I || b) h ∙ or-true (lists_file names q I)
      where
        or-true : (b : Bool) → (b || true) ≡ true
        or-true true = refl
        or-true false = refl

    by : (uses r.changesets path ≡ true) ⊎ (uses r.changesets path ≡ false) → listed_name path ext ≡ name
    by (inl used) = k.1 path ext used is
    by (inr unused) =
        let q = k.0.0 in
        let e = k.0.1 in
        one-name path q ext e (free names read path new unused q k.0.2 (listed e q (ap (λ n. among n names) k.0.3 ∙ there)))
        (sym (listed-file q e) ∙ ap listed_file k.0.3 ∙ is) ∙ k.0.3
