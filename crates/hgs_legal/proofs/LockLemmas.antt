-- Operations at locks and strays keep what a tree stands for, and those at locks what it is open for and what it shows.
use Rattle.std.proofs.Common.{◌≡◌, ℕ, List, [], ◌∷◌, ◌++◌, Bool, true, false, ◌||◌, refl, ap}
use Rattle.std.specs.List.{list_all}
use Rattle.hgs_bytes.specs.Bytes.{among}
use Rattle.hgs_files.specs.declared.op.Op.{Op}
use Rattle.hgs_files.specs.declared.op.Op.TheVariants.{Append, Cut, Rename, Remove, Create, Sync, Settle}
use Rattle.hgs_files.specs.Tree.{Tree, apply}
use Rattle.hgs_model.specs.Repo.{Repo}
use Rattle.hgs_stands.specs.Open.{IsOpen}
use Rattle.hgs_stands.specs.Shows.{Shows}
use Rattle.hgs_stands.specs.Stands.{Stands}
use Rattle.hgs_ops.specs.Operations.{strays}
use Rattle.hgs_legal.proofs.Below.{Below}
use Rattle.hgs_legal.proofs.Invariant.{AreAside, AreLocks, is_aside, is_lock}
use Rattle.hgs_legal.proofs.Touched.{and-both, and-left, and-right, touched-within, untouched, within}

one-other : (ok : List ℕ → Bool) (op : Op) (u : Tree) (p : List ℕ) → within ok op ≡ true → ok p ≡ false → apply op u p ≡ u p
one-other ok op u p w e = untouched (op ∷ []) u p (touched-within ok (op ∷ []) p (and-both _ _ w refl) e)

or-is-left : (a b : Bool) → a ≡ true → (a || b) ≡ true
or-is-left true b e = refl
or-is-left false b e = ap (λ x. x || b) e

pub lock-aside : (op : Op) → within is_lock op ≡ true → within is_aside op ≡ true
lock-aside (Append path bytes) e = or-is-left _ _ e
lock-aside (Create path bytes) e = or-is-left _ _ e
lock-aside (Remove path) e = or-is-left _ _ e
lock-aside (Cut path len) e = or-is-left _ _ e
lock-aside (Rename from to) e = and-both (is_aside from) (is_aside to) (or-is-left (is_lock from) (among from strays) (and-left (is_lock from) (is_lock to) e)) (or-is-left (is_lock to) (among to strays) (and-right (is_lock from) (is_lock to) e))
lock-aside (Sync path) e = refl
lock-aside Settle e = refl

pub locks-aside : (ops : List Op) → AreLocks ops → AreAside ops
locks-aside [] e = refl
locks-aside (op ∷ ops) e = and-both _ _ (lock-aside op (and-left _ _ e)) (locks-aside ops (and-right (within is_lock op) _ e))

pub aside-stands : (b : Below) (op : Op) (u : Tree) (r : Repo) → within is_aside op ≡ true → Stands u r → Stands (apply op u) r
aside-stands b op u r w s = b.loose strays u (apply op u) r refl (λ p free. one-other is_aside op u p w free) s

pub lock-open : (b : Below) (op : Op) (u : Tree) (r : Repo) → within is_lock op ≡ true → IsOpen strays u r → IsOpen strays (apply op u) r
lock-open b op u r w (q, c, s) =
    let lead = b.read strays u q c in
    (q, (b.locks_kept strays u (apply op u) q lead.0 lead.1 lead.2 (λ p e. one-other is_lock op u p w e)).covers, s)

pub lock-shown : (b : Below) (op : Op) (u : Tree) (x y z : Repo) → within is_lock op ≡ true → Shows u x y z → Shows (apply op u) x y z
lock-shown b op u x y z w shown = b.loose_shows u (apply op u) x y z (λ p free. one-other is_aside op u p (lock-aside op w) free) shown

pub behind : (ok : List ℕ → Bool) (skipped rest : List Op) (op : Op) → list_all (within ok) (skipped ++ op ∷ rest) ≡ true → (within ok op ≡ true) × (list_all (within ok) rest ≡ true)
behind ok [] rest op e = (and-left _ _ e, and-right (within ok op) _ e)
behind ok (s ∷ skipped) rest op e = behind ok skipped rest op (and-right (within ok s) _ e)
