use Rattle.std.proofs.Common.{◌∙◌, ℕ, List, ap, sym, subst, refl}
use Rattle.std.proofs.lemmas.Result.{on_ok_weaker}
use Rattle.std.specs.Option.{option_copied_mut, IsSome}
use Rattle.hgs_follow.specs.Asked.{Chain}
use Rattle.hgs_follow.specs.Search.{asked_of, reached_at, view_copied, Adds, Searched, Text}
use Rattle.hgs_follow.proofs.ChainLemmas.{stopped_behind}
use Rattle.hgs_follow.proofs.GraphLemmas.{place_low}
use Rattle.hgs_follow.proofs.WalkLemmas.{goes_by, goes_past, held_set, is_set, takes_chain}
use Rattle.hgs_follow.proofs.walk.look_for.Goals as goal

pub search_file-requires-clause-holds : goal.search_file-requires-clause-holds
search_file-requires-clause-holds g c =
    let there = sym c.get_mut.ensures.value ∙ ap option_copied_mut c.in-Some.is in
    subst (λ (p : List ℕ). g.F.Filelogs.holds p c.in-Some.reached.now.filelog) (sym c.as_slice.ensures) ((c.in-Ok.ensures.held c.args.source.now.path c.in-Some.reached.now there).of_path)

pub search_file-requires-clause-size : goal.search_file-requires-clause-size
search_file-requires-clause-size g c =
    let there = sym c.get_mut.ensures.value ∙ ap option_copied_mut c.in-Some.is in
    (c.in-Ok.ensures.held c.args.source.now.path c.in-Some.reached.now there).size

pub search_file-requires-clause-earlier : goal.search_file-requires-clause-earlier
search_file-requires-clause-earlier g c =
    let there = sym c.get_mut.ensures.value ∙ ap option_copied_mut c.in-Some.is in
    (c.in-Ok.ensures.held c.args.source.now.path c.in-Some.reached.now there).earlier

pub returns-in-Some-rev_of-clause-ok : goal.returns-in-Some-rev_of-clause-ok
returns-in-Some-rev_of-clause-ok g c =
    let r = c.in-Some.reached.now in
    let again = c.search_file.new.reached in
    let path = c.args.source.now.path in
    let there = sym c.get_mut.ensures.value ∙ ap option_copied_mut c.in-Some.is in
    let some : IsSome (reached_at c.hold.new.logs path) = subst IsSome (sym there) refl in
    let place = sym c.rev_of.ensures ∙ c.in-Some-rev_of.is in
    on_ok_weaker c.search_file.result
    (λ (x : (texts : List Text) × Chain g.F.Filelogs.gives c.hold.new.files (asked_of c.as_slice.result.now texts) c.search_file.new.files × Searched r.filelog.log.entries c.in-Some-rev_of.rev r.marks.items again.marks.items texts × Adds c.as_slice.result.now r.filelog.log.entries texts c.args.finds.now c.search_file.new.finds).
    goes_by g.F.Filelogs.gives g.F.Filelogs.holds c.args.files.now c.hold.new.files c.search_file.new.files c.args.logs.now c.hold.new.logs (c.get_mut.follows.lender again) (view_copied c.args.source.now) r again c.in-Some-rev_of.rev c.args.finds.now c.search_file.new.finds c.in-Ok.ensures.ok there
    (c.in-Ok.ensures.held path r there) (is_set c.hold.new.logs (c.get_mut.follows.lender again) path again ((c.get_mut.follows.holds again).3 some)) c.search_file.ensures.filelog place (place_low r.filelog.log.entries c.args.source.now.node.0 c.in-Some-rev_of.rev place)
    (subst (λ (p : List ℕ). (texts : List Text) × Chain g.F.Filelogs.gives c.hold.new.files (asked_of p texts) c.search_file.new.files × Searched r.filelog.log.entries c.in-Some-rev_of.rev r.marks.items again.marks.items texts × Adds p r.filelog.log.entries texts c.args.finds.now c.search_file.new.finds) c.as_slice.ensures x))
    c.search_file.ensures.ok

pub returns-in-Some-rev_of-clause-held : goal.returns-in-Some-rev_of-clause-held
returns-in-Some-rev_of-clause-held g c =
    let r = c.in-Some.reached.now in
    let again = c.search_file.new.reached in
    let path = c.args.source.now.path in
    let there = sym c.get_mut.ensures.value ∙ ap option_copied_mut c.in-Some.is in
    let some : IsSome (reached_at c.hold.new.logs path) = subst IsSome (sym there) refl in
    on_ok_weaker c.search_file.result
    (λ (x : (texts : List Text) × Chain g.F.Filelogs.gives c.hold.new.files (asked_of c.as_slice.result.now texts) c.search_file.new.files × Searched r.filelog.log.entries c.in-Some-rev_of.rev r.marks.items again.marks.items texts × Adds c.as_slice.result.now r.filelog.log.entries texts c.args.finds.now c.search_file.new.finds).
    held_set g.F.Filelogs.holds c.hold.new.logs (c.get_mut.follows.lender again) path r again c.in-Ok.ensures.held there (is_set c.hold.new.logs (c.get_mut.follows.lender again) path again ((c.get_mut.follows.holds again).3 some)) c.search_file.ensures.filelog x.2.size)
    c.search_file.ensures.ok

pub returns-in-Some-rev_of-clause-err : goal.returns-in-Some-rev_of-clause-err
returns-in-Some-rev_of-clause-err g c =
    let first = takes_chain g.F.Filelogs.gives g.F.Filelogs.holds c.args.files.now c.hold.new.files c.args.logs.now c.hold.new.logs c.args.source.now.path c.in-Ok.ensures.ok in
    stopped_behind g.F.Filelogs.gives g.F.Filelogs.refuses c.args.files.now c.hold.new.files c.search_file.new.files first.0 c.search_file.result first.1 c.search_file.ensures.err

pub returns-in-None-clause-ok : goal.returns-in-None-clause-ok
returns-in-None-clause-ok g c =
    let r = c.in-Some.reached.now in
    let path = c.args.source.now.path in
    let there = sym c.get_mut.ensures.value ∙ ap option_copied_mut c.in-Some.is in
    let some : IsSome (reached_at c.hold.new.logs path) = subst IsSome (sym there) refl in
    goes_past g.F.Filelogs.gives g.F.Filelogs.holds c.args.files.now c.hold.new.files c.args.logs.now c.hold.new.logs (c.get_mut.follows.lender r) (view_copied c.args.source.now) r c.args.finds.now c.in-Ok.ensures.ok there
    (is_set c.hold.new.logs (c.get_mut.follows.lender r) path r ((c.get_mut.follows.holds r).3 some)) (sym c.rev_of.ensures ∙ c.in-None.is)

pub returns-in-None-clause-held : goal.returns-in-None-clause-held
returns-in-None-clause-held g c =
    let r = c.in-Some.reached.now in
    let path = c.args.source.now.path in
    let there = sym c.get_mut.ensures.value ∙ ap option_copied_mut c.in-Some.is in
    let some : IsSome (reached_at c.hold.new.logs path) = subst IsSome (sym there) refl in
    held_set g.F.Filelogs.holds c.hold.new.logs (c.get_mut.follows.lender r) path r r c.in-Ok.ensures.held there (is_set c.hold.new.logs (c.get_mut.follows.lender r) path r ((c.get_mut.follows.holds r).3 some)) refl refl
