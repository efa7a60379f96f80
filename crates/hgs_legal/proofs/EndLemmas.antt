-- The tree behind a piece.
use Rattle.std.proofs.Common.{◌≡◌, ◌⊎◌, List, [], sym, ◌∙◌, ap, subst, inl, inr}
use Rattle.std.specs.Prelude.{Some, None}
use Rattle.hgs_files.specs.declared.op.Op.{Op}
use Rattle.hgs_files.specs.Tree.{Tree, after_all}
use Rattle.hgs_model.specs.Repo.{Repo}
use Rattle.hgs_ops.specs.Operations.{strays}
use Rattle.hgs_stands.specs.Open.{IsOpen}
use Rattle.hgs_stands.specs.Stands.{Stands}
use Rattle.hgs_legal.specs.LegalLog.{Doing, Idle, Leaves, Turn, breaks, breaks_after, breaks_undo, gives_up, is_refused, last_repo, state_at, stays}
use Rattle.hgs_legal.specs.Numbers.{StopsAt, left_of}
use Rattle.hgs_legal.specs.Pieces.{Early, Front, LeavesJournal, Piece}
use Rattle.hgs_files.specs.Stop.{StopLeaves}
use Rattle.hgs_ops.specs.Stops.{IsBetween}
use Rattle.hgs_legal.proofs.Below.{Below}
use Rattle.hgs_legal.proofs.FrontLemmas.{leaves-front, piece-front}
use Rattle.hgs_legal.proofs.Invariant.{kept_at, less-none}
use Rattle.hgs_legal.proofs.LegalLemmas.{leaves-left}
use Rattle.hgs_legal.proofs.PieceLemmas.{leaves-run, piece-run}
use Rattle.hgs_legal.proofs.RunLemmas.{run-stops}

-- where no journal was left, the tree stands
stands-there : (d : Doing) (rest : List Op) (u : Tree) (f : Repo) (ps : List Turn) → Leaves d (Idle None rest) → StopsAt d u (kept_at (left_of d) f ps) → Stands u (last_repo f ps)
stands-there _ rest u f ps stays s = subst (Stands u) (less-none f ps) s
stands-there _ _ u f ps gives_up s = subst (Stands u) (less-none f ps) s
stands-there _ rest u f ps is_refused s = subst (Stands u) (less-none f ps) s

-- where one was left, it is open
open-there : (d : Doing) (left rest : List Op) (u : Tree) (r : Repo) → Leaves d (Idle (Some left) rest) → StopsAt d u r → IsOpen strays u r
open-there _ left rest u r stays s = s
open-there _ _ _ u r breaks s = s
open-there _ _ _ u r breaks_after s = s
open-there _ _ _ u r breaks_undo s = s
open-there _ left rest u r is_refused s = s

module _ (b : Below) where
  pub piece-stands : (t : Tree) (r next : Repo) (log : List Op) → Stands t r → Piece t r log next → Stands (after_all log t) next
  piece-stands t r next log stands piece =
      let e = piece-run t r [] [] log next piece in
      subst (Stands (after_all log t)) e.repo (stands-there e.doing e.rest (after_all log t) r e.so e.leaves (run-stops b t r log (state_at (after_all log t) r e.so e.doing) stands e.run))

  pub leaves-open : (t : Tree) (r : Repo) (log : List Op) → Stands t r → LeavesJournal t r log → IsOpen strays (after_all log t) r
  leaves-open t r log stands left =
      let k = leaves-run t r [] [] log left in
      let e = k.ends in
      let stops = run-stops b t r log (state_at (after_all log t) r e.so e.doing) stands e.run in
      let same : left_of e.doing ≡ k.left = sym (leaves-left e.doing (Idle (Some k.left) e.rest) e.leaves) in
      open-there e.doing k.left e.rest (after_all log t) r e.leaves (subst (StopsAt e.doing (after_all log t)) (ap (λ l. kept_at l r e.so) same ∙ k.is_kept) stops)

  -- ---- stops

  pub piece-stops : (t : Tree) (r next : Repo) (log : List Op) (u : Tree) → Stands t r → Piece t r log next → StopLeaves t log u → IsBetween u r next
  piece-stops t r next log u stands piece stop = subst (λ v. IsBetween v r next) (sym stop.2) (by (piece-front t r next log stop.0 piece stop.1))
    where
      by : Front t r next stop.0 → IsBetween (after_all stop.0 t) r next
      by (inl none) = inl (subst (λ l. Stands (after_all l t) r) (sym none) stands)
      by (inr (inl p)) = inl (piece-stands t r r stop.0 stands p)
      by (inr (inr (inl p))) = inr (inr (piece-stands t r next stop.0 stands p))
      by (inr (inr (inr left))) = inr (inl (leaves-open t r stop.0 stands left))

  pub leaves-stops : (t : Tree) (r : Repo) (log : List Op) (u : Tree) → Stands t r → LeavesJournal t r log → StopLeaves t log u → Stands u r ⊎ IsOpen strays u r
  leaves-stops t r log u stands left_open stop = subst (λ v. Stands v r ⊎ IsOpen strays v r) (sym stop.2) (by (leaves-front t r log stop.0 left_open stop.1))
    where
      by : Early t r stop.0 → Stands (after_all stop.0 t) r ⊎ IsOpen strays (after_all stop.0 t) r
      by (inl none) = inl (subst (λ l. Stands (after_all l t) r) (sym none) stands)
      by (inr (inl p)) = inl (piece-stands t r r stop.0 stands p)
      by (inr (inr left)) = inr (leaves-open t r stop.0 stands left)
