use Rattle.std.proofs.Common.{◌≡◌, inl, List, Some, sym, ◌∙◌, subst}
use Rattle.std.proofs.Math.Logic.{∥∥₁_map}
use Rattle.std.specs.List.{AllByRecursion}
use Rattle.hgs_files.specs.declared.op.Op.{Op}
use Rattle.hgs_legal.specs.ListsPaths.{ListsPaths}
use Rattle.hgs_legal.specs.LegalLog.{IsRun}
use Rattle.hgs_script.specs.Script.{IsShare}
use Rattle.hgs_stands.specs.Stands.{Stands}
use Rattle.hgs_history.proofs.laws.sessions_make_legal_logs.Goals as goal

same-log : {a b : List Op} → Some a ≡ Some b → a ≡ b
same-log e = cc

pub returns-clause-legal : goal.returns-clause-legal
returns-clause-legal c = λ x calls last log makes first shares lists told. λ r clean.
    let found = c.sessions_publish_what_they_list.ensures x r calls last makes clean.stands first shares (lists r (inl clean.stands)) in
    let h = found.0 in
    let same = same-log (sym found.3 ∙ told) in (
      h.last,
      subst (λ l. IsRun x.start r l h.last) same (subst (λ r. IsRun x.start r h.log h.last) found.2 (subst (λ t. IsRun t h.first h.log h.last) found.1 h.run)),
    )

pub returns-clause-taken : goal.returns-clause-taken
returns-clause-taken c = λ jobs old start shares lists. λ x same begins log led.
    ∥∥₁_map led (λ l. λ r clean.
    let found = c.sessions_publish_what_they_list.ensures x r l.calls l.last l.makes clean.stands begins.0 (subst (λ j. AllByRecursion IsShare j) (sym same) shares) (subst (λ t. ListsPaths t r) (sym begins.1) (lists r (inl (subst (λ t. Stands t r) begins.1 clean.stands)))) in
    let h = found.0 in
    let is = same-log (sym found.3 ∙ l.told) in (
      h.last,
      subst (λ l. IsRun x.start r l h.last) is (subst (λ r. IsRun x.start r h.log h.last) found.2 (subst (λ t. IsRun t h.first h.log h.last) found.1 h.run)),
    ))
