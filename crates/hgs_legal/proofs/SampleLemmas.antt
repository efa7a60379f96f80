-- A first commit as a log.
use Rattle.std.proofs.Common.{◌≡◌, List, [], ◌∷◌, ◌++◌, length, refl, sym, ◌∙◌, ap, subst}
use Rattle.std.specs.Prelude.{Some, None}
use Rattle.hgs_files.specs.declared.op.Op.{Op}
use Rattle.hgs_files.specs.declared.op.Op.TheVariants.{Remove}
use Rattle.hgs_files.specs.Log.{IsDone}
use Rattle.hgs_files.specs.Theorems.LogLemmas.{piece-whole}
use Rattle.hgs_journal.specs.Names.{journal_path}
use Rattle.hgs_model.specs.Repo.{empty_repo}
use Rattle.hgs_ops.specs.Operations.{operations, removals}
use Rattle.hgs_ops.specs.Samples.{bare}
use Rattle.hgs_legal.specs.LegalLog.{Doing, Idle, IsRun, IsTurn, State, Turn, lock_removals, through_publishing, to_publishing}
use Rattle.hgs_legal.specs.Numbers.{acknowledged_of, b_of, is_some_op, left_of, less_one, n_of, w_of}
use Rattle.hgs_ops.specs.Shown.{lacks_bookmarks, lacks_dirstate}
use Rattle.hgs_legal.proofs.Pieces.{broken-run, undone-run, whole-run}
use Rattle.hgs_legal.proofs.TurnLemmas.{all-done}

-- a list with a last operation has a first one
some-first : (xs : List Op) (last : Op) → (o : Op) × (l : List Op) × (xs ++ last ∷ [] ≡ o ∷ l)
some-first [] last = (last, [], refl)
some-first (x ∷ xs) last = (x, xs ++ last ∷ [], refl)

module _ (x : Turn) (turn : IsTurn bare empty_repo x) where
  pub whole : (s : State) × IsRun bare empty_repo (operations x.ops) s × (n_of s ≡ 1) × (w_of s ≡ 1) × (b_of s ≡ 1) × (acknowledged_of s ≡ 1)
  whole =
      let p = whole-run bare empty_repo [] [] x turn in
      let n : n_of p.0 ≡ 1 = ap length p.2 in (
        p.0,
        p.1,
        n,
        ap (λ (d : Doing). less_one (lacks_dirstate (left_of d)) (n_of p.0)) p.3 ∙ n,
        ap (λ (d : Doing). less_one (lacks_bookmarks (left_of d)) (n_of p.0)) p.3 ∙ n,
        ap (λ (d : Doing). less_one (is_some_op (left_of d)) (n_of p.0)) p.3 ∙ n,
      )

  -- the journal is made
  made : (o : Op) (l : List Op) → to_publishing x.ops ≡ o ∷ l → IsDone (through_publishing x.ops) (x.ops.journal ∷ []) (o ∷ l)
  made o l e = (to_publishing x.ops, ([], piece-whole x.ops.journal, refl), e)

  pub broken : (s : State) × IsRun bare empty_repo (x.ops.before ++ ((x.ops.journal ∷ []) ++ lock_removals)) s × (n_of s ≡ 0) × (acknowledged_of s ≡ 0) × (s.doing ≡ Idle (Some []) [])
  broken =
      let f = some-first x.ops.changes x.ops.publish in
      let p = broken-run bare empty_repo [] [] x turn x.ops.journal [] f.0 f.1 (made f.0 f.1 f.2) in
      let n : n_of p.0 ≡ 0 = ap length p.2 in
      (p.0, p.1, n, ap (λ (d : Doing). less_one (is_some_op (left_of d)) (n_of p.0)) p.3 ∙ n, p.3)

  pub undone : (front : List Op) → x.ops.undo ≡ front ++ Remove journal_path ∷ [] → (s : State) × IsRun bare empty_repo (x.ops.before ++ ((x.ops.journal ∷ []) ++ (x.ops.undo ++ removals))) s × (n_of s ≡ 0) × (s.doing ≡ Idle None [])
  undone front is =
      let f = some-first x.ops.changes x.ops.publish in
      let u = some-first front (Remove journal_path) in
      let whole_undo : x.ops.undo ≡ u.0 ∷ u.1 = is ∙ u.2 in
      let p = undone-run bare empty_repo [] [] x turn x.ops.journal [] f.0 f.1 (made f.0 f.1 f.2) u.0 u.1 (subst (λ (l : List Op). IsDone x.ops.undo l []) whole_undo (all-done x.ops.undo)) in
      (p.0, subst (λ (l : List Op). IsRun bare empty_repo (x.ops.before ++ ((x.ops.journal ∷ []) ++ (l ++ removals))) p.0) (sym whole_undo) p.1, ap length p.2, p.3)
