use Rattle.std.proofs.Common.{[], refl}
use Rattle.std.proofs.Math.Logic.{∥∥₁_map}
use Rattle.hgs_session.specs.Calls.{Beginning}
use Rattle.hgs_session.proofs.BeginLemmas.{at_home, begun, comes_under, new_ones, rests_begun, rests_same, unbegun, unbegun_over}
use Rattle.hgs_session.proofs.EndLemmas.{left_as, of_one_start}
use Rattle.hgs_session.proofs.session.session.Goals as goal
use Rattle.hgs_session.specs.Theorems.PartsLemmas.{if_parts}

pub returns-in_default-clause-comes : goal.returns-in_default-clause-comes
returns-in_default-clause-comes g c =
    let A = g.Y.Yard.files c.args.yard in
    let x = unbegun c.args.script.now.workers (g.Y.A.Files.log A) (g.Y.A.Reads.start A) (g.Y.A.Reads.faults A) (g.Y.A.Reads.denied A) in
    ∣ (
      x,
      unbegun_over c.args.script.now.workers (g.Y.A.Files.log A) (g.Y.A.Reads.start A) (g.Y.A.Reads.faults A) (g.Y.A.Reads.denied A),
      record {
        last = x.first;
        calls = [];
        makes = refl;
        order = tt;
        left = rests_same (λ y. g.Y.A.Files.log (g.Y.Yard.files y)) (λ y. g.Y.A.Reads.start (g.Y.Yard.files y)) c.args.yard c.args.yard refl;
        told = tt;
      },
    ) ∣₁

pub run-requires-clause-allows : goal.run-requires-clause-allows
run-requires-clause-allows g c κs within =
    let A = g.Y.Yard.files c.args.yard in
    let w = c.in-Ok-start.w in
    let x : Beginning = record { jobs = c.args.script.now.workers; start = g.Y.W.Reads.start w; first = record { log = g.Y.W.Files.log w; faults = g.Y.W.Reads.faults w; denied = g.Y.W.Reads.denied w } } in
    c.requires.allows x refl (begun c.args.script.now.workers (g.Y.A.Files.log A) (g.Y.A.Reads.start A) (g.Y.A.Reads.faults A) (g.Y.A.Reads.denied A) (g.Y.W.Files.log w) (g.Y.W.Reads.start w) (g.Y.W.Reads.faults w) (g.Y.W.Reads.denied w) (g.Y.W.Reads.ties w) c.in-Ok-start.ensures.log c.in-Ok-start.ensures.counts).log_is

pub run-requires-clause-homes : goal.run-requires-clause-homes
run-requires-clause-homes g c κs within =
    let w = c.in-Ok-start.w in
    at_home (λ r. g.Y.R.Reads.seen r) (λ r. g.Y.R.Reads.start r) (λ r. g.Y.R.Reads.ties r) (g.Y.W.Files.log w) (g.Y.W.Reads.start w) (g.Y.W.Reads.ties w) c.in-Ok-start.rs.items c.in-Ok-start.ensures.readers

pub run-requires-clause-new : goal.run-requires-clause-new
run-requires-clause-new g c κs within =
    let w = c.in-Ok-start.w in
    new_ones (λ r. g.Y.R.Reads.seen r) (λ r. g.Y.R.Reads.start r) (λ r. g.Y.R.Reads.ties r) (λ r. g.Y.R.Reads.faults r) (λ r. g.Y.R.Reads.denied r) (g.Y.W.Files.log w) (g.Y.W.Reads.start w) (g.Y.W.Reads.ties w) c.in-Ok-start.rs.items c.in-Ok-start.ensures.readers c.in-Ok-start.ensures.uncounted

pub returns-in-Ok-start-clause-comes : goal.returns-in-Ok-start-clause-comes
returns-in-Ok-start-clause-comes g c =
    let A = g.Y.Yard.files c.args.yard in
    let w = c.in-Ok-start.w in
    let ties = g.Y.W.Reads.ties w in
    let log = g.Y.A.Files.log A in
    let start = g.Y.A.Reads.start A in
    let b = c.in-Ok-start.ensures.log in
    let x : Beginning = record { jobs = c.args.script.now.workers; start = g.Y.W.Reads.start w; first = record { log = g.Y.W.Files.log w; faults = g.Y.W.Reads.faults w; denied = g.Y.W.Reads.denied w } } in
    ∥∥₁_map c.run.ensures.comes (λ r. (
      x,
      begun c.args.script.now.workers log start (g.Y.A.Reads.faults A) (g.Y.A.Reads.denied A) (g.Y.W.Files.log w) (g.Y.W.Reads.start w) (g.Y.W.Reads.faults w) (g.Y.W.Reads.denied w) ties b c.in-Ok-start.ensures.counts,
      comes_under x _ _ _ c.run.result.result
          (λ last. left_as c.run.result.left
          (λ y f. rests_begun log start (g.Y.W.Files.log w) (g.Y.W.Reads.start w) ties b last.log (g.Y.A.Files.log (g.Y.Yard.files y)) (g.Y.A.Reads.start (g.Y.Yard.files y)) f)
          (λ e f. f))
          r,
    ))

pub returns-in-Err-clause-comes : goal.returns-in-Err-clause-comes
returns-in-Err-clause-comes g c =
    let A = g.Y.Yard.files c.args.yard in
    let x = unbegun c.args.script.now.workers (g.Y.A.Files.log A) (g.Y.A.Reads.start A) (g.Y.A.Reads.faults A) (g.Y.A.Reads.denied A) in
    ∣ (
      x,
      unbegun_over c.args.script.now.workers (g.Y.A.Files.log A) (g.Y.A.Reads.start A) (g.Y.A.Reads.faults A) (g.Y.A.Reads.denied A),
      record {
        last = x.first;
        calls = [];
        makes = refl;
        order = tt;
        left = rests_same (λ y. g.Y.A.Files.log (g.Y.Yard.files y)) (λ y. g.Y.A.Reads.start (g.Y.Yard.files y)) c.args.yard _ c.in-Err.ensures.err;
        told = tt;
      },
    ) ∣₁

pub returns-in-Ok-start-clause-parts : goal.returns-in-Ok-start-clause-parts
returns-in-Ok-start-clause-parts g c =
    let A = g.Y.Yard.files c.args.yard in
    let start = c.in-Ok-start.w in
    if_parts c.run.result.left
    (λ w rs h. of_one_start (g.Y.A.Files.log A) (g.Y.A.Reads.start A) (g.Y.W.Files.log start) (g.Y.W.Reads.start start) (g.Y.W.Reads.ties start) (g.Y.W.Reads.ties w) (λ r. g.Y.R.Reads.ties r) rs c.in-Ok-start.ensures.log h)
    c.run.ensures.parts
