use Rattle.std.proofs.Common.{sym, ◌∙◌, ap, arith, length}
use Rattle.std.proofs.lemmas.List.{length_push}
use Rattle.hgs_bytes.specs.Bytes.{is_below}
use Rattle.hgs_manifest.specs.Held.{view_row}
use Rattle.hgs_manifest.proofs.ReadLemmas.{one_row}
use Rattle.hgs_manifest.proofs.manifest.Manifest.read.Goals as goal

pub loop-rest-preserved : goal.loop-rest-preserved
loop-rest-preserved c =
    let shorter = c.next_line-whole.ensures.shorter in
    let room = c.loop-rest.invariant.room in
    let more = ap length c.in_ok-add.ensures.ok ∙ length_push c.loop-rest.manifest (view_row c.in-Some.row) in
    record {
      read = one_row c.loop-rest.manifest c.add.new.self (view_row c.in-Some.row) c.loop-rest.rest.now _ c.next_line-whole.result.2.now _ _
          c.loop-rest.invariant.read c.next_line-whole.ensures.lines c.if-not-whole.false c.in-Some.ensures
          (sym (c.below.ensures ∙ ap (λ p. is_below p c.in-Some.row.path.now) c.last_path.ensures) ∙ c.if-not-below.false)
          c.in_ok-add.ensures.ok;
      room = omega (arith, shorter, room, more);
    }
