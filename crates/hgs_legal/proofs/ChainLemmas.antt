-- The repositories of a run go on from one another.
use Rattle.std.proofs.Common.{◌≡◌, ℕ, zero, suc, ◌≤◌, List, [], ◌∷◌, ◌++◌, take, refl, sym, ◌∙◌, ap, subst, arith, append-nil, append_assoc}
use Rattle.std.specs.Prelude.{Ok}
use Rattle.hgs_bytes.specs.Bytes.{IsPrefixOf}
use Rattle.hgs_files.specs.declared.op.Op.{Op}
use Rattle.hgs_files.specs.Tree.{Tree}
use Rattle.hgs_model.specs.declared.command.Command.{Command}
use Rattle.hgs_model.specs.IsRepo.{IsRepo}
use Rattle.hgs_model.specs.Repo.{Changeset, Repo}
use Rattle.hgs_model.specs.Step.{Answer, step}
use Rattle.hgs_model.specs.Valid.{IsValid}
use Rattle.hgs_stands.specs.Stands.{Stands}
use Rattle.hgs_legal.specs.LegalLog.{Acts, Doing, Goes, IsRun, State, Turn, begins, finishes, goes_on_knocking, goes_on_undoing, journals, knocks, knocks_again, last_repo, newly, prepares, removes, start_of, undoes, works}
use Rattle.hgs_legal.specs.Numbers.{repo_at}
use Rattle.hgs_legal.proofs.Below.{Below}
use Rattle.hgs_legal.proofs.Invariant.{Inv, Invariant}
use Rattle.hgs_legal.specs.Theorems.Runs.{run-keeps}
use Rattle.hgs_legal.proofs.Step.{goes-keeps, leaves-keeps}

-- each transaction was accepted by the repository before it
abbrev Chain : Repo → List Turn → Type 0
Chain f [] = Unit {0}
Chain f (x ∷ ps) = IsValid x.command × (step f x.command ≡ Ok (x.next, x.answer)) × Chain x.next ps

chain-more : (f : Repo) (ps : List Turn) (x : Turn) → Chain f ps → IsValid x.command → step (last_repo f ps) x.command ≡ Ok (x.next, x.answer) → Chain f (ps ++ x ∷ [])
chain-more f [] x c v e = (v, e, tt)
chain-more f (p ∷ ps) x c v e = (c.0, c.1, chain-more p.next ps x c.2 v e)

acts-chain : (t : Tree) (f : Repo) (ps : List Turn) (d : Doing) (op : Op) (news : List Turn) (e : Doing) → Acts t (last_repo f ps) d op news e → Inv d t f ps → Chain f ps → Chain f (ps ++ news)
acts-chain t f ps _ op _ _ (works {x = x} {to_do = to_do} left does) i c = by left
  where
    by : (l : List Op) → Chain f (ps ++ newly x l)
    by [] = chain-more f ps x c i.0.turn.valid i.0.turn.accepted
    by (o ∷ l) = subst (Chain f) (sym (append-nil ps)) c
acts-chain t f ps _ op _ _ (begins it does) i c = subst (Chain f) (sym (append-nil ps)) c
acts-chain t f ps _ op _ _ (prepares does) i c = subst (Chain f) (sym (append-nil ps)) c
acts-chain t f ps _ op _ _ (journals does) i c = subst (Chain f) (sym (append-nil ps)) c
acts-chain t f ps _ op _ _ (finishes left does) i c = subst (Chain f) (sym (append-nil ps)) c
acts-chain t f ps _ op _ _ (undoes left does) i c = subst (Chain f) (sym (append-nil ps)) c
acts-chain t f ps _ op _ _ (goes_on_undoing left does) i c = subst (Chain f) (sym (append-nil ps)) c
acts-chain t f ps _ _ _ _ (removes skipped e) i c = subst (Chain f) (sym (append-nil ps)) c
acts-chain t f ps _ op _ _ (knocks who does) i c = subst (Chain f) (sym (append-nil ps)) c
acts-chain t f ps _ op _ _ (knocks_again who does) i c = subst (Chain f) (sym (append-nil ps)) c
acts-chain t f ps _ op _ _ (goes_on_knocking does) i c = subst (Chain f) (sym (append-nil ps)) c

module _ (b : Below) where
  abbrev Both : State → Type 0
  Both s = Invariant s × Chain s.first s.published

  goes-both : (s : State) (op : Op) (s' : State) → Goes s op s' → Both s → Both s'
  goes-both s op s' go i = (
    goes-keeps b s op s' go i.0,
    subst (Chain s'.first) (sym go.published) (subst (λ f. Chain f (s.published ++ go.news)) (sym go.first) (acts-chain s.files s.first s.published go.there op go.news s'.doing go.acts (leaves-keeps b s.doing go.there s.files s.first s.published go.leaves i.0) i.1)),
  )

  run-chain : (t : Tree) (r : Repo) (log : List Op) (s : State) → Stands t r → IsRun t r log s → Chain s.first s.published
  run-chain t r log s stands run = (run-keeps Goes Both goes-both (start_of t r) log s run ((stands, refl), tt)).1

-- ---- what such a chain gives

module _ (keeps : (r next : Repo) (command : Command) (answer : Answer) → IsRepo r → IsValid command → step r command ≡ Ok (next, answer) → IsRepo next)
    (goes_on : (r next : Repo) (command : Command) (answer : Answer) → IsRepo r → IsValid command → step r command ≡ Ok (next, answer) → IsPrefixOf r.changesets next.changesets) where
  pub chain-repo : (f : Repo) (ps : List Turn) (j : ℕ) → IsRepo f → Chain f ps → IsRepo (last_repo f (take j ps))
  chain-repo f ps zero is c = is
  chain-repo f [] (suc j) is c = is
  chain-repo f (x ∷ ps) (suc j) is c = chain-repo x.next ps j (keeps f x.next x.command x.answer is c.0 c.1) c.2

  joined : (xs ys zs : List Changeset) → IsPrefixOf xs ys → IsPrefixOf ys zs → IsPrefixOf xs zs
  joined xs ys zs p q = (p.0 ++ q.0, q.1 ∙ ap (λ l. l ++ q.0) p.1 ∙ append_assoc xs p.0 q.0)

  chain-on : (f : Repo) (ps : List Turn) (j : ℕ) → IsRepo f → Chain f ps → IsPrefixOf f.changesets (last_repo f (take j ps)).changesets
  chain-on f ps zero is c = ([], sym (append-nil f.changesets))
  chain-on f [] (suc j) is c = ([], sym (append-nil f.changesets))
  chain-on f (x ∷ ps) (suc j) is c = joined f.changesets x.next.changesets _ (goes_on f x.next x.command x.answer is c.0 c.1) (chain-on x.next ps j (keeps f x.next x.command x.answer is c.0 c.1) c.2)

  pub chain-between : (f : Repo) (ps : List Turn) (i j : ℕ) → i ≤ j → IsRepo f → Chain f ps → IsPrefixOf (last_repo f (take i ps)).changesets (last_repo f (take j ps)).changesets
  chain-between f ps zero j le is c = chain-on f ps j is c
  chain-between f ps (suc i) zero le is c = absurd (omega (arith, le))
  chain-between f [] (suc i) (suc j) le is c = ([], sym (append-nil f.changesets))
  chain-between f (x ∷ ps) (suc i) (suc j) le is c = chain-between x.next ps i j (omega (arith, le)) (keeps f x.next x.command x.answer is c.0 c.1) c.2

  pub run-goes-on : (b : Below) (t : Tree) (r : Repo) (log : List Op) (s : State) (i j : ℕ) → Stands t r → IsRun t r log s → s.first ≡ r → i ≤ j → IsRepo (repo_at s j) × IsPrefixOf (repo_at s i).changesets (repo_at s j).changesets
  run-goes-on b t r log s i j stands run first le =
      let c = run-chain b t r log s stands run in
      let is : IsRepo s.first = subst IsRepo (sym first) stands.repository in
      (chain-repo s.first s.published j is c, chain-between s.first s.published i j le is c)
