use Rattle.std.proofs.Common.{◌≡◌, ◌+◌, ◌∷◌, ◌++◌, [], ◌∙◌, ap, sym, true, arith, rules}
use Rattle.hgs_bytes.specs.Text.{lines_of}
use Rattle.hgs_path.specs.ListedNames.{is_listed, names_from}
use Rattle.hgs_path.proofs.ListedLemmas.{names_onto, one_name}
use Rattle.hgs_path.proofs.listed.listed_names.Goals as goal

pub loop-rest-preserved : goal.loop-rest-preserved
loop-rest-preserved c =
    let name = c.next_line-is_whole.result.0.now in
    let behind = c.next_line-is_whole.result.2.now in
    let whole : c.next_line-is_whole.result.1 ≡ true = search rules in
    let listed : is_listed c.next_line-is_whole.result.0.now ≡ true = search rules in
    let line = c.next_line-is_whole.ensures.lines ∙ ap (λ t. (name, t) ∷ lines_of behind) whole in
    let shorter = c.next_line-is_whole.ensures.shorter in
    record {
      left = ap (λ l. names_onto l (names_from (c.loop-rest.number + 1) (lines_of behind))) (c.in_ok-push.ensures.ok ∙ ap (λ x. c.loop-rest.names ++ x ∷ []) c.in_ok-from_slice.ensures)
          ∙ one_name c.loop-rest.names c.loop-rest.number name (lines_of behind) listed
          ∙ ap (λ ls. names_onto c.loop-rest.names (names_from c.loop-rest.number ls)) (sym line)
          ∙ c.loop-rest.invariant.left;
      count = omega arith;
    }
