-- Pieces of a log keep the list of filelogs.
use Rattle.std.proofs.Common.{List, [], ◌∷◌, ◌++◌, refl, sym, ◌∙◌, ap, subst, inl, inr, append-nil}
use Rattle.std.specs.List.{list_all}
use Rattle.hgs_files.specs.declared.op.Op.{Op}
use Rattle.hgs_files.specs.declared.op.Op.TheVariants.{Create, Remove}
use Rattle.hgs_files.specs.Log.{IsDone}
use Rattle.hgs_files.specs.Theorems.TreeLemmas.{after_all-append}
use Rattle.hgs_files.specs.Tree.{Tree, after_all, apply}
use Rattle.hgs_journal.specs.Names.{journal_path}
use Rattle.hgs_model.specs.Repo.{Changeset, Repo}
use Rattle.hgs_ops.specs.Operations.{lock_path, removals, wlock_path}
use Rattle.hgs_ops.specs.Theorems.Touch.{all-append, and-both, and-left, and-right}
use Rattle.hgs_stands.specs.Stands.{Stands}
use Rattle.hgs_legal.specs.LegalLog.{IsTurn, Turn, lock_removals, through_publishing, through_removal}
use Rattle.hgs_legal.specs.Pieces.{AreSome, HasBegun, LeavesJournal, Piece, Refusal, Refusals, before, behind, given_up, no_more, once, one_more, refused, twice, was_undone, whole_list, within}
use Rattle.hgs_legal.specs.ListsPaths.{AreKeptLines, ListsPaths}
use Rattle.hgs_legal.proofs.ListOps.{AreHarmless, does-harmless, is_harmless, list_of}
use Rattle.hgs_legal.proofs.ListRuns.{IsComing, coming, coming-does, coming-now, harmless-kept, settled}

-- ---- lists of operations

coming-done : (x : Turn) (r : Repo) (ops log left rest : List Op) (u : Tree) → IsComing x r (ops ++ rest) u → IsDone ops log left → IsComing x r (left ++ rest) (after_all log u)
coming-done x r ops [] left rest u c d = subst (λ (l : List Op). IsComing x r (l ++ rest) u) d c
coming-done x r ops (op ∷ log) left rest u c d = coming-done x r d.0 log left rest (apply op u) (coming-does x r ops d.0 rest op u c d.1) d.2

done-harmless : (ops log left : List Op) → AreHarmless ops → IsDone ops log left → AreHarmless log
done-harmless ops [] left e d = refl
done-harmless ops (op ∷ log) left e d = let h = does-harmless ops d.0 op e d.1 in and-both _ _ h.0 (done-harmless d.0 log left h.1 d.2)

all-kept : (changesets : List Changeset) (log : List Op) (u : Tree) → AreHarmless log → AreKeptLines changesets (list_of u) → AreKeptLines changesets (list_of (after_all log u))
all-kept changesets [] u e k = k
all-kept changesets (op ∷ log) u e k = all-kept changesets log (apply op u) (and-right (is_harmless op) _ e) (harmless-kept changesets op u (and-left _ _ e) k)

some-harmless : (all log : List Op) → AreHarmless all → AreSome all log → AreHarmless log
some-harmless [] log e h = ap (list_all is_harmless) h
some-harmless (op ∷ all) log e (inl h) = some-harmless all log (and-right (is_harmless op) _ e) h
some-harmless (op ∷ all) log e (inr h) = ap (list_all is_harmless) h.1 ∙ and-both _ _ (and-left _ _ e) (some-harmless all h.0 (and-right (is_harmless op) _ e) h.2)

-- the tree behind some operations and harmless ones
behind-kept : (changesets : List Changeset) (a c : List Op) (t : Tree) → AreKeptLines changesets (list_of (after_all a t)) → AreHarmless c → AreKeptLines changesets (list_of (after_all (a ++ c) t))
behind-kept changesets a c t k e = subst (λ (u : Tree). AreKeptLines changesets (list_of u)) (sym (after_all-append a c t)) (all-kept changesets c (after_all a t) e k)

-- ---- a writer that is refused

refusal-harmless : (a : List Op) → Refusal a → AreHarmless a
refusal-harmless _ (once who c op more left d some) = all-append is_harmless (op ∷ more) c (done-harmless (Create wlock_path who ∷ []) (op ∷ more) left refl d) (some-harmless (Remove wlock_path ∷ []) c refl some)
refusal-harmless _ (twice who other c o first op more left d e some) =
    all-append is_harmless ((o ∷ first) ++ (op ∷ more)) c
    (all-append is_harmless (o ∷ first) (op ∷ more) (done-harmless (Create wlock_path who ∷ []) (o ∷ first) [] refl d) (done-harmless (Create lock_path other ∷ []) (op ∷ more) left refl e))
    (some-harmless lock_removals c refl some)

refusals-harmless : (a : List Op) → Refusals a → AreHarmless a
refusals-harmless _ no_more = refl
refusals-harmless _ (one_more a b one more) = all-append is_harmless a b (refusal-harmless a one) (refusals-harmless b more)

-- ---- pieces

module _ (t : Tree) (r : Repo) (stands : Stands t r) (lists : ListsPaths t r) where
  begun : (x : Turn) (log left : List Op) → HasBegun t r x log left → IsComing x r left (after_all log t)
  begun x log left h =
      let first = coming-done x r x.ops.before (h.start ∷ h.prepared) [] (through_publishing x.ops) t (coming t r x stands lists h.it) h.all_prepared in
      let u = after_all (h.start ∷ h.prepared) t in
      let second = coming-done x r (through_publishing x.ops) (h.first ∷ h.more) left [] u (subst (λ (l : List Op). IsComing x r l u) (sym (append-nil (through_publishing x.ops))) first) h.done in
      subst (λ (l : List Op). IsComing x r left (after_all l t)) (sym h.whole)
      (subst (λ (v : Tree). IsComing x r left v) (sym (after_all-append (h.start ∷ h.prepared) (h.first ∷ h.more) t)) (subst (λ (l : List Op). IsComing x r l (after_all (h.first ∷ h.more) u)) (append-nil left) second))

  begun-now : (x : Turn) (log left : List Op) → HasBegun t r x log left → AreKeptLines r.changesets (list_of (after_all log t))
  begun-now x log left h = coming-now x r left (after_all log t) (begun x log left h)

  prepared-now : (x : Turn) (log left : List Op) → IsTurn t r x → IsDone x.ops.before log left → AreKeptLines r.changesets (list_of (after_all log t))
  prepared-now x log left it d = coming-now x r (left ++ through_publishing x.ops) (after_all log t) (coming-done x r x.ops.before log left (through_publishing x.ops) t (coming t r x stands lists it) d)

  pub piece-lines : (log : List Op) (next : Repo) → Piece t r log next → AreKeptLines next.changesets (list_of (after_all log t))
  piece-lines _ _ (whole_list x a c o b h d some) =
      behind-kept x.next.changesets (a ++ (o ∷ b)) c t
      (behind-kept x.next.changesets a (o ∷ b) t (begun x a [] h).lines (done-harmless (through_removal x.ops) (o ∷ b) [] (settled t r x h.it).settles d)) (some-harmless removals c refl some)
  piece-lines _ _ (was_undone x a c op left o b h d some) =
      behind-kept r.changesets (a ++ (o ∷ b)) c t
      (behind-kept r.changesets a (o ∷ b) t (begun-now x a (op ∷ left) h) (done-harmless x.ops.undo (o ∷ b) [] (settled t r x h.it).undoes d)) (some-harmless removals c refl some)
  piece-lines _ _ (given_up x c op left more it d some) = behind-kept r.changesets (op ∷ more) c t (prepared-now x (op ∷ more) left it d) (some-harmless removals c refl some)
  piece-lines _ _ (refused a h) = all-kept r.changesets a t (refusal-harmless a h) lists.lines

  pub left-lines : (log : List Op) → LeavesJournal t r log → AreKeptLines r.changesets (list_of (after_all log t))
  left-lines _ (before x a c op left h some) = behind-kept r.changesets a c t (begun-now x a (op ∷ left) h) (some-harmless lock_removals c refl some)
  left-lines _ (within x a c op left o rest u b h d some) =
      behind-kept r.changesets (a ++ (u ∷ b)) c t
      (behind-kept r.changesets a (u ∷ b) t (begun-now x a (op ∷ left) h) (done-harmless x.ops.undo (u ∷ b) (o ∷ rest) (settled t r x h.it).undoes d)) (some-harmless lock_removals c refl some)
  left-lines _ (behind x a b c o rest h d some) =
      behind-kept r.changesets (a ++ b) c t
      (behind-kept r.changesets a b t (begun-now x a [] h) (done-harmless (through_removal x.ops) b (o ∷ rest) (settled t r x h.it).settles d)) (some-harmless lock_removals c refl some)
