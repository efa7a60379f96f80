use Rattle.std.proofs.Common.{◌≡◌, suc, ◌+◌, take, sym, ◌∙◌, ap, arith}
use Rattle.std.specs.Prelude.{is_ok, ◌||◌}
use Rattle.hgs_bytes.specs.Bytes.{among, same}
use Rattle.hgs_findings.specs.Sight.{row_paths, tracked_rows}
use Rattle.hgs_index.specs.TrackedPath.{is_tracked}
use Rattle.hgs_manifest.specs.Held.{view_row}
use Rattle.hgs_path.specs.Check.{checked}
use Rattle.hgs_report.specs.Lines.{has_key}
use Rattle.hgs_report.proofs.TrackedLemmas.{row-entered, row-passed}
use Rattle.hgs_report.proofs.tracked.set_of_rows.Goals as goal
use Rattle.hgs_report.proofs.tracked.set_of_rows.Goals.{then-is_ok+in_ok-from_slice+in_ok-enter, else-is_ok}

pub loop-i-preserved : goal.loop-i-preserved
loop-i-preserved c =
    let rows = c.args.rows.now in
    let i = c.loop-i.i in
    let r = view_row c.row.result in
    let next : suc i ≡ i + 1 = omega arith in
    let is : is_tracked r.path ≡ is_ok (checked r.path) = sym (c.tracked_without_fault.ensures r.path) in
    λ path. elim c.if-is_ok.branch [
      | then-is_ok+in_ok-from_slice+in_ok-enter w ↦
          ap (λ keys. has_key keys path) (ap (λ s. s.keys) w.set-is)
          ∙ w.in_ok-enter.ensures.keys path
          ∙ ap (λ x. same path x || has_key c.loop-i.set.keys path) w.in_ok-from_slice.ensures.items
          ∙ ap (λ b. same path r.path || b) (c.loop-i.invariant path)
          ∙ sym (row-entered rows i r path c.row.ensures (is ∙ ap is_ok (sym c.check.ensures) ∙ sym c.is_ok.ensures.value ∙ w.if-is_ok.true))
          ∙ ap (λ n. among path (row_paths (tracked_rows (take n rows)))) next
      | else-is_ok w ↦
          ap (λ keys. has_key keys path) (ap (λ s. s.keys) w.set-is)
          ∙ c.loop-i.invariant path
          ∙ sym (row-passed rows i r path c.row.ensures (is ∙ ap is_ok (sym c.check.ensures) ∙ sym c.is_ok.ensures.value ∙ w.if-is_ok.false))
          ∙ ap (λ n. among path (row_paths (tracked_rows (take n rows)))) next
    ]
