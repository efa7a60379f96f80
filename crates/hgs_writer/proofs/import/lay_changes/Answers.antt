use Rattle.std.proofs.Common.{◌≡◌, [], ◌∷◌, ◌++◌, length, refl, sym, ◌∙◌, ap, subst, append_assoc, append-nil, arith}
use Rattle.std.specs.Prelude.{flat_map}
use Rattle.std.specs.Vec.Iter.{into_iter_items}
use Rattle.hgs_writer.specs.Joined.{laying}
use Rattle.hgs_writer.specs.Layered.{Lays}
use Rattle.hgs_writer.proofs.LaysLemmas.{laying-append, lays-none, lays-then}
use Rattle.hgs_writer.proofs.OwnedLoops.{nothing-left}
use Rattle.hgs_writer.proofs.import.lay_changes.Goals as goal

pub loop-change-init : goal.loop-change-init
loop-change-init g c = record {
  split = refl;
  count = (let gives = c.into_iter-change-iterator.ensures.into_iter_gives in omega (arith, gives.1, ap (λ l. length l) gives.0, c.args.changes.ok.0));
  lays = lays-none c.args.overlay.now.layers c.args.overlay.now.layers refl (λ path. refl);
  files = refl;
  denied = refl;
}

pub loop-change-preserved : goal.loop-change-preserved
loop-change-preserved g c =
    let at = c.loop-change in
    let steps : into_iter_items at.change-iterator ≡ c.in-Some.change ∷ into_iter_items c.next.new.self = c.in-Some.ensures.steps.0 in record {
      split = append_assoc at.yielded (c.in-Some.change ∷ []) _ ∙ ap (λ l. at.yielded ++ l) (sym steps) ∙ at.invariant.split;
      count =
          let was = at.invariant.count in
          let gone = c.in-Some.ensures.steps.1 in
          let short = ap (λ l. length l) steps in
          omega arith;
      lays = laying-append c.args.overlay.now.layers at.overlay.layers c.lay.new.overlay.layers at.yielded c.in-Some.change at.invariant.lays c.in_ok-lay.ensures.lays;
      files = c.in_ok-lay.ensures.files ∙ at.invariant.files;
      denied = c.in_ok-lay.ensures.denied ∙ at.invariant.denied;
    }

pub returns : goal.returns
returns g c =
    let at = c.loop-change in
    let none = c.in-None.ensures.steps in
    let empty : into_iter_items at.change-iterator ≡ [] = nothing-left _ (sym at.invariant.count ∙ none.0) in
    let all : at.yielded ≡ c.args.changes.items =
    sym (append-nil at.yielded) ∙ ap (λ l. at.yielded ++ l) (sym empty) ∙ at.invariant.split ∙ c.into_iter-change-iterator.ensures.into_iter_gives.0 in record {
      lays = subst (λ xs. Lays c.args.overlay.now.layers at.overlay.layers (flat_map laying xs)) all at.invariant.lays;
      files = at.invariant.files;
      denied = at.invariant.denied;
    }
