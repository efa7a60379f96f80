use Rattle.std.proofs.Common.{inl, inr, ◌+◌, ◌-◌, ◌/◌, Some, sym, ◌∙◌, ap, arith}
use Rattle.std.specs.Option.{option_map}
use Rattle.std.proofs.lemmas.Bool.{cases_lt}
use Rattle.std.specs.Cmp.Lexicographic.{bytes_decides, texts_ties}
use Rattle.std.specs.Ordering.{is_eq}
use Rattle.hgs_judge.specs.Trees.{path_of}
use Rattle.hgs_judge.proofs.SearchLemmas.{not-among, not-before, not-behind}
use Rattle.hgs_judge.proofs.search.place_by_halves.Goals as goal

pub loop-low-init : goal.loop-low-init
loop-low-init c = record {
  order = omega arith;
  within = (let e = c.len-high.ensures in omega (arith, e));
  others = λ a k lt out. absurd (elim out [
    | inl early ↦ omega (arith, early)
    | inr late ↦ let e = c.len-high.ensures in omega (arith, e, lt, late)
  ]);
}

pub row-requires : goal.row-requires
row-requires c =
    let i = c.loop-low.invariant in
    let o = i.order in
    let w = i.within in
    let t = c.loop-low-test.true in
    omega (arith, o, w, t)

pub loop-low-preserved-in-Less : goal.loop-low-preserved-in-Less
loop-low-preserved-in-Less c =
    let i = c.loop-low.invariant in
    let w = i.within in
    let t = c.loop-low-test.true in
    let middle = c.loop-low.low + (c.loop-low.high - c.loop-low.low) / 2 in
    record {
      order = omega (arith, t);
      within = w;
      others = λ a k lt out. elim (cases_lt middle k) [
        | inl behind ↦ i.others a k lt (elim out [
          | inl early ↦ absurd (omega (arith, behind, early))
          | inr late ↦ inr late
        ])
        | inr before ↦ not-before c.args.rows.now c.args.path.now middle k _ a c.row.ensures (omega (arith, t, w)) before (sym c.cmp.ensures ∙ c.in-Less.is)
      ];
    }

pub loop-low-preserved : goal.loop-low-preserved
loop-low-preserved c =
    let i = c.loop-low.invariant in
    let w = i.within in
    let t = c.loop-low-test.true in
    let middle = c.loop-low.low + (c.loop-low.high - c.loop-low.low) / 2 in
    record {
      order = omega arith;
      within = omega (arith, w, t);
      others = λ a k lt out. elim out [
        | inl early ↦ i.others a k lt (inl early)
        | inr late ↦ not-behind c.args.rows.now c.args.path.now middle k _ a c.row.ensures late lt (sym c.cmp.ensures ∙ c.in-Greater.is)
      ];
    }

pub returns-in-Equal-clause-within : goal.returns-in-Equal-clause-within
returns-in-Equal-clause-within c =
    let i = c.loop-low.invariant in
    let w = i.within in
    let t = c.loop-low-test.true in
    omega (arith, w, t)

pub returns-in-Equal-clause-stands : goal.returns-in-Equal-clause-stands
returns-in-Equal-clause-stands c =
    ap (option_map path_of) c.row.ensures ∙ ap Some ((bytes_decides c.row.result.path.now c.args.path.now).0 (texts_ties c.row.result.path.now c.args.path.now ∙ ap is_eq (sym c.cmp.ensures ∙ c.in-Equal.is)))

pub returns-clause-lacks : goal.returns-clause-lacks
returns-clause-lacks c = λ a.
    let i = c.loop-low.invariant in
    let t = c.loop-low-test.false in
    not-among c.args.rows.now c.args.path.now (λ k lt. i.others a k lt (elim (cases_lt k c.loop-low.low) [
      | inl early ↦ inl early
      | inr late ↦ inr (omega (arith, late, t))
    ]))
