use Rattle.std.proofs.Common.{◌≡◌, ◌∙◌, ap, arith, rules, length, drop, []}
use Rattle.std.proofs.lemmas.List.{length-drop}
use Rattle.hgs_marks.specs.Dirstate.{paths_with, entries_from}
use Rattle.hgs_marks.specs.Held.{view_entry}
use Rattle.hgs_marks.proofs.DirstateFound.{paths_fit}
use Rattle.hgs_marks.specs.Theorems.DirstateLemmas.{one_entry, entry_refused, no_more}
use Rattle.hgs_marks.proofs.dirstate.paths_from.Goals as goal

pub loop-rest-init : goal.loop-rest-init
loop-rest-init c =
    let d = length-drop 40 c.args.text.now in
    let l : length c.past-rest.result.now ≡ length (drop 40 c.args.text.now) = ap length c.past-rest.ensures in
    let n = length c.args.text.now in
    record {
      read = (
        length c.args.text.now,
        omega (arith, d, l),
        ap (λ ps. paths_with ps (entries_from (length c.args.text.now) (length c.args.text.now) c.past-rest.result.now)) c.new-paths.ensures
            ∙ ap (λ r. paths_with [] (entries_from (length c.args.text.now) (length c.args.text.now) r)) c.past-rest.ensures,
      );
      room = omega (arith, d, l);
    }

pub returns-in_err-entry : goal.returns-in_err-entry
returns-in_err-entry c =
    let refused = entry_refused c.loop-rest.paths c.in_err-entry.field-0.0 (length c.args.text.now) c.loop-rest.rest.now _ c.loop-rest-test.true c.loop-rest.invariant.read c.in_err-entry.ensures.entry in
    search (rules, refused)

pub loop-rest-smaller : goal.loop-rest-smaller
loop-rest-smaller c = c.in_ok-entry.ensures.shorter

pub loop-rest-preserved : goal.loop-rest-preserved
loop-rest-preserved c =
    let shorter = c.in_ok-entry.ensures.shorter in
    let room = c.loop-rest.invariant.room in
    record {
      read = one_entry c.loop-rest.paths c.track.new.paths (view_entry c.in_ok-entry.entry) (length c.args.text.now) c.loop-rest.rest.now c.in_ok-entry.behind.now _
          c.loop-rest-test.true shorter c.loop-rest.invariant.read c.in_ok-entry.ensures.entry c.in_ok-track.ensures.ok;
      room = omega (arith, shorter, room);
    }

pub returns-clause-read : goal.returns-clause-read
returns-clause-read c = let past = c.loop-rest-test.false in no_more c.loop-rest.paths (length c.args.text.now) c.loop-rest.rest.now _ (omega (arith, past)) c.loop-rest.invariant.read

pub returns-clause-fits : goal.returns-clause-fits
returns-clause-fits c =
    let past = c.loop-rest-test.false in
    paths_fit c.args.text.now c.loop-rest.paths (λ i. let h = c.type_inv.text i in omega (arith, h)) (no_more c.loop-rest.paths (length c.args.text.now) c.loop-rest.rest.now _ (omega (arith, past)) c.loop-rest.invariant.read)
