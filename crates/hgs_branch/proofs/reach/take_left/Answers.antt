use Rattle.std.proofs.Common.{◌∙◌, ap, refl}
use Rattle.std.proofs.lemmas.Option.{slice_get_read}
use Rattle.std.specs.Prelude.{vec_len}
use Rattle.hgs_branch.specs.Reached.{left_of}
use Rattle.hgs_branch.proofs.ListLemmas.{get_set_other, set_same}
use Rattle.hgs_branch.proofs.reach.take_left.Goals as goal

pub returns-then-reach-clause-some : goal.returns-then-reach-clause-some
returns-then-reach-clause-some c = (
  c.in-Some.reach.now,
  slice_get_read c.args.reaches.now.items (vec_len c.args.reaches.now) c.args.rev c.in-Some.reach.now c.args.reaches.now.ok.0 (c.in-Some.ensures.variant.0 refl) c.in-Some.ensures.value,
  ap (λ v. v.items) c.replace.ensures.value,
)

pub returns-then-reach-clause-others : goal.returns-then-reach-clause-others
returns-then-reach-clause-others c = λ i ne. get_set_other c.args.reaches.now.items c.args.rev i _ ne

pub returns-clause-none : goal.returns-clause-none
returns-clause-none c =
    let there = slice_get_read c.args.reaches.now.items (vec_len c.args.reaches.now) c.args.rev c.in-Some.reach.now c.args.reaches.now.ok.0 (c.in-Some.ensures.variant.0 refl) c.in-Some.ensures.value in
    (ap left_of there ∙ c.if-reach.false, set_same c.args.reaches.now.items c.args.rev c.in-Some.reach.now there)
