use Rattle.std.proofs.Common.{◌≡◌, ◌∷◌, [], ◌++◌, length, map, sym, ap, subst, ◌∙◌, append_assoc, append-nil, arith}
use Rattle.std.proofs.lemmas.List.{map-append}
use Rattle.std.specs.Vec.Iter.{into_iter_items}
use Rattle.hgs_transaction.specs.Gathered.{Adds}
use Rattle.hgs_transaction.specs.declared.parts.Change.TheVariants.{Replace}
use Rattle.hgs_transaction.specs.declared.parts.Replacing.{Replacing}
use Rattle.hgs_transaction.proofs.GatherLemmas.{adds-both}
use Rattle.hgs_transaction.proofs.OwnedLoops.{nothing-left}
use Rattle.hgs_transaction.proofs.gathered.Gathered.replace_all.Goals as goal

pub loop-replacing-preserved : goal.loop-replacing-preserved
loop-replacing-preserved c =
    let at = c.loop-replacing in
    let steps : into_iter_items at.replacing-iterator ≡ c.in-Some.replacing ∷ into_iter_items c.next.new.self = c.in-Some.ensures.steps.0 in record {
      split = append_assoc at.yielded (c.in-Some.replacing ∷ []) _ ∙ ap (λ l. at.yielded ++ l) (sym steps) ∙ at.invariant.split;
      count =
          let was = at.invariant.count in
          let gone = c.in-Some.ensures.steps.1 in
          let short = ap (λ l. length l) steps in
          omega arith;
      adds = subst (λ cs. Adds c.args.self.now c.replace.new.self cs) (sym (map-append (λ (x : Replacing). Replace x) at.yielded (c.in-Some.replacing ∷ [])))
          (adds-both c.args.self.now at.self c.replace.new.self (map (λ x. Replace x) at.yielded) (Replace c.in-Some.replacing ∷ []) at.invariant.adds c.in_ok-replace.ensures.adds);
    }

pub returns : goal.returns
returns c =
    let at = c.loop-replacing in
    let none = c.in-None.ensures.steps in
    let empty : into_iter_items at.replacing-iterator ≡ [] = nothing-left _ (sym at.invariant.count ∙ none.0) in
    let all : at.yielded ≡ c.args.files.items =
    sym (append-nil at.yielded) ∙ ap (λ l. at.yielded ++ l) (sym empty) ∙ at.invariant.split ∙ c.into_iter-replacing-iterator.ensures.into_iter_gives.0 in
    subst (λ xs. Adds c.args.self.now at.self (map (λ x. Replace x) xs)) all at.invariant.adds
