use Rattle.std.proofs.Common.{◌≡◌, [], ◌∷◌, ◌++◌, length, refl, sym, ◌∙◌, ap, subst, append_assoc, append-nil, arith, map}
use Rattle.std.specs.Prelude.{flat_map}
use Rattle.std.specs.Vec.Iter.{into_iter_items}
use Rattle.hgs_writer.specs.Joined.{laying}
use Rattle.hgs_writer.specs.Layered.{Lays}
use Rattle.hgs_transaction.specs.declared.parts.Change.TheVariants.{Replace}
use Rattle.hgs_writer.proofs.LaysLemmas.{laying-text, lays-none, lays-then}
use Rattle.hgs_writer.proofs.OwnedLoops.{nothing-left}
use Rattle.hgs_writer.proofs.import.lay_texts.Goals as goal

pub loop-replacing-init : goal.loop-replacing-init
loop-replacing-init g c = record {
  split = refl;
  count = (let gives = c.into_iter-replacing-iterator.ensures.into_iter_gives in omega (arith, gives.1, ap (λ l. length l) gives.0, c.args.files.ok.0));
  lays = lays-none c.args.overlay.now.layers c.args.overlay.now.layers refl (λ path. refl);
  files = refl;
  denied = refl;
}

pub loop-replacing-preserved : goal.loop-replacing-preserved
loop-replacing-preserved g c =
    let at = c.loop-replacing in
    let steps : into_iter_items at.replacing-iterator ≡ c.in-Some.replacing ∷ into_iter_items c.next.new.self = c.in-Some.ensures.steps.0 in record {
      split = append_assoc at.yielded (c.in-Some.replacing ∷ []) _ ∙ ap (λ l. at.yielded ++ l) (sym steps) ∙ at.invariant.split;
      count =
          let was = at.invariant.count in
          let gone = c.in-Some.ensures.steps.1 in
          let short = ap (λ l. length l) steps in
          omega arith;
      lays = laying-text c.args.overlay.now.layers at.overlay.layers c.lay_replaced.new.overlay.layers at.yielded c.in-Some.replacing at.invariant.lays c.in_ok-lay_replaced.ensures.lays;
      files = c.in_ok-lay_replaced.ensures.files ∙ at.invariant.files;
      denied = c.in_ok-lay_replaced.ensures.denied ∙ at.invariant.denied;
    }

pub returns : goal.returns
returns g c =
    let at = c.loop-replacing in
    let none = c.in-None.ensures.steps in
    let empty : into_iter_items at.replacing-iterator ≡ [] = nothing-left _ (sym at.invariant.count ∙ none.0) in
    let all : at.yielded ≡ c.args.files.items =
    sym (append-nil at.yielded) ∙ ap (λ l. at.yielded ++ l) (sym empty) ∙ at.invariant.split ∙ c.into_iter-replacing-iterator.ensures.into_iter_gives.0 in record {
      lays = subst (λ xs. Lays c.args.overlay.now.layers at.overlay.layers (flat_map laying (map (λ x. Replace x) xs))) all at.invariant.lays;
      files = at.invariant.files;
      denied = at.invariant.denied;
    }
