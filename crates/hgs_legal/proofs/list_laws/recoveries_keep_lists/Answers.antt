use Rattle.std.proofs.Common.{◌≡◌, ◌⊎◌, ℕ, List, [], Option, refl, sym, ◌∙◌, ap, inl, inr, append-nil}
use Rattle.std.specs.Prelude.{unwrap_or}
use Rattle.hgs_files.specs.declared.op.Op.{Op}
use Rattle.hgs_files.specs.Tree.{Tree, after_all}
use Rattle.hgs_journal.specs.Covers.{Covers, IsRestored}
use Rattle.hgs_model.specs.Repo.{Repo}
use Rattle.hgs_ops.specs.Operations.{strays}
use Rattle.hgs_stands.specs.Places.{fncache_path}
use Rattle.hgs_legal.specs.ListsPaths.{ListsPaths}
use Rattle.hgs_legal.proofs.ListEnds.{front-lists}
use Rattle.hgs_legal.proofs.ListOps.{list_of}
use Rattle.hgs_legal.proofs.list_laws.recoveries_keep_lists.Goals as goal

same-list : (t u : Tree) (r : Repo) → list_of u ≡ list_of t → ListsPaths t r → ListsPaths u r
same-list t u r e l = front-lists t u r ([], sym e ∙ sym (append-nil (list_of u))) l

restored-list : (now before : Option (List ℕ)) → IsRestored now before → unwrap_or now [] ≡ unwrap_or before []
restored-list now before (inl e) = ap (λ (o : Option (List ℕ)). unwrap_or o []) e
restored-list now before (inr e) = ap (λ (o : Option (List ℕ)). unwrap_or o []) e.0 ∙ sym (ap (λ (o : Option (List ℕ)). unwrap_or o []) e.1)

pub returns : goal.returns
returns c = record {
  covered = covered;
  parts = λ u q r journal backups done left back d l. by u q r done l (covered u q r back.covers l) (c.undo_may_stop.ensures.files strays u q journal backups fncache_path done left c.strays_are_apart.ensures.own back refl refl d);
  restored = λ u q r is l. same-list q u r (restored-list (u fncache_path) (q fncache_path) (is fncache_path refl)) l;
}
  where
    covered : (u q : Tree) (r : Repo) → Covers strays u q → ListsPaths u r → ListsPaths q r
    covered u q r is l = front-lists u q r (c.files_only_grow.ensures.covered u q fncache_path is refl refl refl) l

    by : (u q : Tree) (r : Repo) (done : List Op) → ListsPaths u r → ListsPaths q r → (list_of (after_all done u) ≡ list_of u) ⊎ (list_of (after_all done u) ≡ list_of q) → ListsPaths (after_all done u) r
    by u q r done l k (inl e) = same-list u (after_all done u) r e l
    by u q r done l k (inr e) = same-list q (after_all done u) r e k
