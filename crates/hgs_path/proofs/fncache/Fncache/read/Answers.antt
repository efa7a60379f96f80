use Rattle.std.proofs.Common.{◌≡◌, ◌+◌, ◌∷◌, ◌∙◌, ap, sym, true, arith, rules}
use Rattle.hgs_bytes.specs.Text.{lines_of}
use Rattle.hgs_path.specs.Fncache.{listing}
use Rattle.hgs_path.specs.ListedNames.{is_listed, names_from}
use Rattle.hgs_path.specs.Theorems.FncacheLemmas.{files_more, files-start, more-line}
use Rattle.hgs_path.proofs.fncache.Fncache.read.Goals as goal

pub loop-rest-init : goal.loop-rest-init
loop-rest-init c = record { left = files-start _ c.empty-fncache.ensures _; count = omega arith }

pub loop-rest-preserved : goal.loop-rest-preserved
loop-rest-preserved c =
    let name = c.next_line-is_whole.result.0.now in
    let behind = c.next_line-is_whole.result.2.now in
    let whole : c.next_line-is_whole.result.1 ≡ true = search rules in
    let listed : is_listed c.next_line-is_whole.result.0.now ≡ true = search rules in
    let line = c.next_line-is_whole.ensures.lines ∙ ap (λ t. (name, t) ∷ lines_of behind) whole in
    let shorter = c.next_line-is_whole.ensures.shorter in
    record {
      left = ap (λ fs. files_more fs (names_from (c.loop-rest.number + 1) (lines_of behind))) c.in_ok-fncache.ensures
          ∙ more-line (listing c.loop-rest.fncache) c.loop-rest.number name (lines_of behind) listed
          ∙ ap (λ ls. files_more (listing c.loop-rest.fncache) (names_from c.loop-rest.number ls)) (sym line)
          ∙ c.loop-rest.invariant.left;
      count = omega arith;
    }
