use Rattle.std.proofs.Common.{◌≡◌, ℕ, List, [], ◌∷◌, sym, subst, refl}
use Rattle.std.specs.Prelude.{Option}
use Rattle.std.specs.List.{AllByRecursion}
use Rattle.hex.specs.Hex.{IsBytes}
use Rattle.hgs_files.specs.Tree.{Tree, bytes_at}
use Rattle.hgs_findings.specs.Findings.{Finding, IsFinding, IsReport, repo_of}
use Rattle.hgs_findings.proofs.Basics.{never}
use Rattle.hgs_findings.proofs.PartLemmas.{FindsNothing}
use Rattle.hgs_findings.proofs.CleanLemmas.{clean}
use Rattle.hgs_findings.proofs.LimitLemmas.{made-within}
use Rattle.hgs_findings.proofs.AbsentLemmas.{absent}
use Rattle.hgs_findings.proofs.laws.empty_exactly_where_clean.Goals as goal

nothing : (t : Tree) (findings : List Finding) (changesets filelogs : ℕ) → ((path : List ℕ) → IsBytes (bytes_at t path)) → IsReport t findings changesets filelogs → findings ≡ [] → FindsNothing t
nothing t findings changesets filelogs bytes report e =
    let r : IsReport t [] changesets filelogs = subst (λ l. IsReport t l changesets filelogs) e report in
    record { bytes = bytes; none = λ path rev kind f. never (sym (r.complete path rev kind f)) }

none-left : (t : Tree) (findings : List Finding) → ((path : List ℕ) (rev : Option ℕ) (kind : ℕ) → IsFinding t path rev kind → ⊥) → AllByRecursion (λ (f : Finding). IsFinding t f.path f.rev f.kind) findings → findings ≡ []
none-left t [] refuse all = refl
none-left t (f ∷ findings) refuse all = absurd (refuse f.path f.rev f.kind all.0)

pub returns : goal.returns
returns z t findings changesets filelogs bytes profile report = (
  λ e. let n = nothing t findings changesets filelogs bytes report e in (repo_of t, clean t n profile, made-within t n),
  λ c. none-left t findings (absent t c.0 c.1 c.2) report.found,
)
