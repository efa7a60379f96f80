use Rattle.std.proofs.Common.{◌≡◌, [], length, refl, true, sym, ap, ◌∙◌, subst, arith}
use Rattle.hgs_files.specs.Tree.{Tree, bytes_at}
use Rattle.std.specs.Prelude.{flat_map}
use Rattle.hgs_writer.specs.Joined.{joined_filelog, joined_lines}
use Rattle.hgs_writer.specs.Layered.{bytes_over}
use Rattle.hgs_writer.proofs.JoinLemmas.{Counted, Joining, OneFilelog, counted-begins, counted-ends, counted-goes, joining-begins, joining-ends, joining-goes}
use Rattle.hgs_writer.proofs.OverLemmas.{both-at-rest}
use Rattle.hgs_writer.proofs.PlanLemmas.{always-at-rest, at-rest}
use Rattle.hgs_writer.proofs.joined.push_filelogs.Goals as goal

pub loop-path-init : goal.loop-path-init
loop-path-init g c =
    let l = c.args.layers.now in
    let paths = c.args.paths.now.keys in
    let left = c.into_iter-path-iterator.result in
    record {
      joining = always-at-rest g.R.Reads.alone (g.R.Reads.seen c.args.files.now) (g.R.Reads.start c.args.files.now) (λ t. Joining t l paths left c.new.result.items c.new-2.result.items)
          (λ t. joining-begins t l paths left c.new.result.items c.new-2.result.items c.into_iter-path-iterator.ensures.into_iter_gives.0 c.new.ensures.items c.new-2.ensures.items);
      counted = counted-begins paths left c.new.result.items c.into_iter-path-iterator.ensures.into_iter_gives.0 c.new.ensures.items;
      same_start = refl;
      still = λ alone. refl;
      later = omega arith;
      refused = omega arith;
    }

pub loop-path-preserved : goal.loop-path-preserved
loop-path-preserved g c =
    let i = c.loop-path.invariant in
    let one = c.in-Ok.ensures in
    let l = c.args.layers.now in
    let paths = c.args.paths.now.keys in
    let path = c.in-Some.path.now in
    let was = c.loop-path.joined in
    let new = c.push_filelog.new.joined in
    let left = c.next.new.self in
    record {
      joining =
          both-at-rest g.R.Reads.alone (g.R.Reads.seen c.loop-path.files) (g.R.Reads.seen c.push_filelog.new.files) (g.R.Reads.start c.loop-path.files) (g.R.Reads.start c.push_filelog.new.files)
          (λ t. Joining t l paths c.loop-path.path-iterator was.changes.items was.lines.items) (λ t. OneFilelog t l c.as_slice.result.now was.changes.items new.changes.items was.lines.items new.lines.items) (λ t. Joining t l paths left new.changes.items new.lines.items)
          one.still one.same_start
          (λ t p q. joining-goes t l paths c.loop-path.path-iterator left path was.changes.items new.changes.items was.lines.items new.lines.items c.in-Some.ensures.steps p (subst (λ x. OneFilelog t l x was.changes.items new.changes.items was.lines.items new.lines.items) c.as_slice.ensures q))
          i.joining one.found;
      counted = counted-goes paths c.loop-path.path-iterator left path was.changes.items new.changes.items c.in-Some.ensures.steps i.counted one.adds;
      same_start = one.same_start ∙ i.same_start;
      still = λ alone. one.still alone ∙ i.still alone;
      later = (let a = i.later in let b = one.later in omega (arith, a, b));
      refused = (let a = i.refused in let b = one.refused in omega (arith, a, b));
    }

pub returns-clause-found : goal.returns-clause-found
returns-clause-found g c =
    let i = c.loop-path.invariant in
    let l = c.args.layers.now in
    let paths = c.args.paths.now.keys in
    let left = c.loop-path.path-iterator in
    let was = c.loop-path.joined in
    at-rest g.R.Reads.alone (g.R.Reads.seen c.loop-path.files) (g.R.Reads.start c.loop-path.files)
    (λ t. Joining t l paths left was.changes.items was.lines.items) (λ t. (was.changes.items ≡ flat_map (joined_filelog t (bytes_over l)) paths) × (was.lines.items ≡ joined_lines t (bytes_over l) paths))
    (λ t p. joining-ends t l paths left was.changes.items was.lines.items c.in-None.ensures.steps.0 p) i.joining

pub returns-clause-adds : goal.returns-clause-adds
returns-clause-adds g c = counted-ends c.args.paths.now.keys c.loop-path.path-iterator c.loop-path.joined.changes.items c.loop-path.invariant.counted
