-- The tree that is built of a repository stands for it, and what a tree stands for can be stored.
use Rattle.std.proofs.Common.{◌≡◌, ℕ, List, refl, sym, subst}
use Rattle.hgs_files.specs.Tree.{Tree}
use Rattle.hgs_journal.specs.Names.{journal_path}
use Rattle.hgs_model.specs.History.{history}
use Rattle.hgs_model.specs.IsRepo.{IsRepo}
use Rattle.hgs_model.specs.Repo.{Repo}
use Rattle.std.specs.Prelude.{codes}
use Rattle.hgs_stands.specs.Stands.{IsClean, Stands}
use Rattle.hgs_stands.specs.Requires.{IsInProfile}
use Rattle.hgs_built.specs.Built.{tree_of, used_paths}
use Rattle.hgs_built.specs.CanBeStored.{CanBeStored}
use Rattle.hgs_built.proofs.Below.{NameLaws, RevisionLaws, SmallLaws}
use Rattle.hgs_built.proofs.ListLemmas.{filelogs-listed}
use Rattle.hgs_built.proofs.MarkLemmas.{bookmarks-built, names-had}
use Rattle.hgs_built.proofs.ParentLemmas.{dirstate-built}
use Rattle.hgs_built.proofs.PathLemmas.{nothing-there}
use Rattle.hgs_built.proofs.PhaseLemmas.{phases-built}
use Rattle.hgs_built.proofs.RevlogLemmas.{changesets-held, held-room}

in-profile : (r : Repo) → IsInProfile (tree_of r)
in-profile r = record { text = _; there = refl; known = refl; whole = refl }

pub built-stands : (laws : RevisionLaws) (names : NameLaws) (small : SmallLaws) (r : Repo) → IsRepo r → CanBeStored r → Stands (tree_of r) r
built-stands laws names small r is can = record {
  repository = is;
  requires = in-profile r;
  revlogs = changesets-held laws names r is can;
  fncache = filelogs-listed names r is;
  phases = phases-built laws small r is can.changelog.different;
  bookmarks = bookmarks-built laws small r is can.marks;
  dirstate = dirstate-built laws small r is;
  no_journal = nothing-there names (history r.changesets).filelog journal_path (used_paths r.changesets) refl;
}

pub built-clean : (laws : RevisionLaws) (names : NameLaws) (small : SmallLaws) (r : Repo) → IsRepo r → CanBeStored r → IsClean (tree_of r) r
built-clean laws names small r is can = record {
  stands = built-stands laws names small r is can;
  no_locks = (nothing-there names (history r.changesets).filelog (codes "wlock") (used_paths r.changesets) refl, (nothing-there names (history r.changesets).filelog (codes "store/lock") (used_paths r.changesets) refl, tt));
}

pub stands-stored : (small : SmallLaws) (t : Tree) (r : Repo) → Stands t r → CanBeStored r
stands-stored small t r s = record {
  changelog = held-room _ _ _ (history r.changesets).changelog s.revlogs.changelog;
  manifest = held-room _ _ _ (history r.changesets).manifest s.revlogs.manifest;
  filelogs = λ path used. held-room _ _ _ ((history r.changesets).filelog path) (s.revlogs.filelogs path used);
  names = s.revlogs.names;
  marks = names-had small t r s.bookmarks;
}

-- repositories with one tree are one
pub one-tree : (laws : RevisionLaws) (names : NameLaws) (small : SmallLaws) (once : (t : Tree) (r s : Repo) → Stands t r → Stands t s → r ≡ s) (r s : Repo) → IsRepo r → IsRepo s → CanBeStored r → CanBeStored s → ((path : List ℕ) → tree_of r path ≡ tree_of s path) → r ≡ s
one-tree laws names small once r s is other can also same_tree = once (tree_of r) r s (built-stands laws names small r is can) (subst (λ t. Stands t s) (λ i path. sym (same_tree path) i) (built-stands laws names small s other also))
