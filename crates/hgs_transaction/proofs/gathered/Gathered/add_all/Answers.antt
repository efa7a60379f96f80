use Rattle.std.proofs.Common.{◌≡◌, ◌∷◌, [], ◌++◌, length, sym, ap, subst, ◌∙◌, append_assoc, append-nil, arith}
use Rattle.std.specs.List.{AllByRecursion}
use Rattle.std.specs.Vec.Iter.{into_iter_items}
use Rattle.hgs_transaction.specs.Gathered.{Adds}
use Rattle.hgs_transaction.specs.Parts.{IsInStore}
use Rattle.hgs_transaction.proofs.GatherLemmas.{adds-both}
use Rattle.hgs_transaction.proofs.OwnedLoops.{middle, nothing-left}
use Rattle.hgs_transaction.proofs.gathered.Gathered.add_all.Goals as goal

pub add-requires-clause-in_store : goal.add-requires-clause-in_store
add-requires-clause-in_store c =
    let at = c.loop-change in
    let steps : into_iter_items at.change-iterator ≡ c.in-Some.change ∷ into_iter_items c.next.new.self = c.in-Some.ensures.steps.0 in
    let whole : at.yielded ++ c.in-Some.change ∷ into_iter_items c.next.new.self ≡ c.args.changes.items =
    ap (λ l. at.yielded ++ l) (sym steps) ∙ at.invariant.split ∙ c.into_iter-change-iterator.ensures.into_iter_gives.0 in
    middle IsInStore at.yielded (into_iter_items c.next.new.self) c.in-Some.change (subst (AllByRecursion IsInStore) (sym whole) c.requires.in_store)

pub loop-change-preserved : goal.loop-change-preserved
loop-change-preserved c =
    let at = c.loop-change in
    let steps : into_iter_items at.change-iterator ≡ c.in-Some.change ∷ into_iter_items c.next.new.self = c.in-Some.ensures.steps.0 in record {
      split = append_assoc at.yielded (c.in-Some.change ∷ []) _ ∙ ap (λ l. at.yielded ++ l) (sym steps) ∙ at.invariant.split;
      count =
          let was = at.invariant.count in
          let gone = c.in-Some.ensures.steps.1 in
          let short = ap (λ l. length l) steps in
          omega arith;
      adds = adds-both c.args.self.now at.self c.add.new.self at.yielded (c.in-Some.change ∷ []) at.invariant.adds c.in_ok-add.ensures.adds;
      paths = c.in_ok-add.ensures.paths;
    }

pub returns : goal.returns
returns c =
    let at = c.loop-change in
    let none = c.in-None.ensures.steps in
    let empty : into_iter_items at.change-iterator ≡ [] = nothing-left _ (sym at.invariant.count ∙ none.0) in
    let all : at.yielded ≡ c.args.changes.items =
    sym (append-nil at.yielded) ∙ ap (λ l. at.yielded ++ l) (sym empty) ∙ at.invariant.split ∙ c.into_iter-change-iterator.ensures.into_iter_gives.0 in record {
      adds = subst (λ cs. Adds c.args.self.now at.self cs) all at.invariant.adds;
      paths = at.invariant.paths;
    }
