use Rattle.std.proofs.Common.{◌≡◌, List, None, ℕ, subst, sym}
use Rattle.hgs_follow.specs.Asked.{AllOf}
use Rattle.hgs_follow.specs.Followed.{Filelogs, number_of}
use Rattle.hgs_follow.specs.Search.{IsFound}
use Rattle.hgs_follow.proofs.WalkLemmas.{is_found, is_missing, no_items, some_items}
use Rattle.hgs_follow.proofs.walk.walk.Goals as goal

pub returns-in-Ok-clause-err : goal.returns-in-Ok-clause-err
returns-in-Ok-clause-err g c =
    let e = c.in-Ok.ensures.ok in (
      e.0,
      e.1,
      subst (λ (p : List ℕ). (files : Filelogs) → AllOf files e.0 → number_of files (record { path = p; node = c.args.node.now.0 }) ≡ None) c.in_ok-from_slice.ensures
          (is_missing (record { path = c.in_ok-from_slice.field-0; node = c.args.node.now.0 }) e.2 c.in-Ok.lines.items e.0 e.3 (no_items c.in-Ok.lines.items _ c.in-Ok.lines.ok.0 (sym c.if-is_empty.ensures))),
    )

pub returns-in-Ok-2-clause-ok : goal.returns-in-Ok-2-clause-ok
returns-in-Ok-2-clause-ok g c =
    let e = c.in-Ok.ensures.ok in (
      e.0,
      e.1,
      subst (λ (p : List ℕ). IsFound (record { path = p; node = c.args.node.now.0 }) c.in-Ok.lines.items e.0) c.in_ok-from_slice.ensures
          (is_found (record { path = c.in_ok-from_slice.field-0; node = c.args.node.now.0 }) e.2 c.in-Ok.lines.items e.0 e.3 (some_items c.in-Ok.lines.items _ c.in-Ok.lines.ok.0 (sym c.if-is_empty.ensures))),
    )
