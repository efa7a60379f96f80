use Rattle.std.proofs.Common.{◌≡◌, ◌∙◌, ◌≤◌, List, ℕ, false, length, ap, refl, subst, sym, arith}
use Rattle.std.specs.Prelude.{slice_get}
use Rattle.hgs_branch.specs.Reached.{Hands}
use Rattle.hgs_branch.specs.declared.reach.Reach.{Reach}
use Rattle.hgs_branch.proofs.HandLemmas.{parents_marked, passed_on, passed_wide, put_others, put_there, Passes}
use Rattle.hgs_branch.proofs.ListLemmas.{get_is, get_low, length_set}
use Rattle.hgs_branch.proofs.reach.pass_on.Goals as goal

pub returns-clause-wide : goal.returns-clause-wide
returns-clause-wide c =
    let known = c.args.known.now in
    let reaches = c.args.reaches.now.items in
    let rev = c.args.rev in
    let changeset = c.in-Some.changeset.now in
    let some = c.in-Some-take_left.ensures.some in
    let out = c.take_left.new.reaches.items in
    let next = c.hand_on-first.new.reaches.items in
    let more = c.hand_on-second.new.reaches.items in
    let back : Reach = record { words = c.in-Some-take_left.words; left = false } in
    passed_wide known c.args.heads.now.items c.hand_on-first.new.heads.items c.hand_on-second.new.heads.items reaches out next more c.put_back.new.reaches.items c.in-Some-take_left.words.items rev changeset some.0 back c.hand_on-first.result c.hand_on-second.result
    (record {
      there = get_is known rev changeset c.in-Some.ensures.lookup.3;
      has = some.1;
      was = some.2;
      taken = c.in-Some-take_left.ensures.others;
      out_count = c.in-Some-take_left.ensures.count;
      one = subst (λ w. Hands known c.args.heads.now.items c.hand_on-first.new.heads.items out next w rev changeset.p1 c.hand_on-first.result) c.deref.ensures.value c.hand_on-first.ensures;
      two = subst (λ w. Hands known c.hand_on-first.new.heads.items c.hand_on-second.new.heads.items next more w rev changeset.p2 c.hand_on-second.result) c.deref-2.ensures.value c.hand_on-second.ensures;
      put = λ i ne. ap (λ l. slice_get l i) c.put_back.ensures ∙ put_others more rev back i ne;
      new_count = ap length c.put_back.ensures ∙ length_set more rev back;
      back_there = ap (λ l. slice_get l rev) c.put_back.ensures ∙ put_there reaches rev some.0 back more some.1 (c.hand_on-second.ensures.count ∙ c.hand_on-first.ensures.count ∙ c.in-Some-take_left.ensures.count);
      back_words = refl;
      back_left = refl;
    })

pub returns-clause-reached : goal.returns-clause-reached
returns-clause-reached c = λ new enough r are.
    let known = c.args.known.now in
    let reaches = c.args.reaches.now.items in
    let rev = c.args.rev in
    let changeset = c.in-Some.changeset.now in
    let some = c.in-Some-take_left.ensures.some in
    let out = c.take_left.new.reaches.items in
    let next = c.hand_on-first.new.reaches.items in
    let more = c.hand_on-second.new.reaches.items in
    let back : Reach = record { words = c.in-Some-take_left.words; left = false } in
    let there = get_is known rev changeset c.in-Some.ensures.lookup.3 in
    let passed =
    passed_on known c.args.heads.now.items c.hand_on-first.new.heads.items c.hand_on-second.new.heads.items reaches out next more c.put_back.new.reaches.items c.in-Some-take_left.words.items rev changeset some.0 back c.hand_on-first.result c.hand_on-second.result
    (record {
      there = there;
      has = some.1;
      was = some.2;
      taken = c.in-Some-take_left.ensures.others;
      out_count = c.in-Some-take_left.ensures.count;
      one = subst (λ w. Hands known c.args.heads.now.items c.hand_on-first.new.heads.items out next w rev changeset.p1 c.hand_on-first.result) c.deref.ensures.value c.hand_on-first.ensures;
      two = subst (λ w. Hands known c.hand_on-first.new.heads.items c.hand_on-second.new.heads.items next more w rev changeset.p2 c.hand_on-second.result) c.deref-2.ensures.value c.hand_on-second.ensures;
      put = λ i ne. ap (λ l. slice_get l i) c.put_back.ensures ∙ put_others more rev back i ne;
      new_count = ap length c.put_back.ensures ∙ length_set more rev back;
      back_there = ap (λ l. slice_get l rev) c.put_back.ensures ∙ put_there reaches rev some.0 back more some.1 (c.hand_on-second.ensures.count ∙ c.hand_on-first.ensures.count ∙ c.in-Some-take_left.ensures.count);
      back_words = refl;
      back_left = refl;
    }) r (λ i h. (are i h).0) in (
      passed.0,
      parents_marked reaches c.put_back.new.reaches.items c.args.marks.now.items c.mark.new.marks.items c.mark-2.new.marks.items new rev c.hand_on-first.result c.hand_on-second.result
          (let lt = get_low known rev changeset there in omega (arith, lt, enough)) are passed.1
          c.mark.ensures.kept c.mark.ensures.marked c.mark-2.ensures.kept (λ i e lt. c.mark-2.ensures.marked i e (let w = c.mark.ensures.wide in omega (arith, lt, w))),
    )
