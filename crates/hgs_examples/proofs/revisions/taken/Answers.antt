use Rattle.std.proofs.Common.{◌≡◌, length, Some, Result, Ok, arith, sym, ◌∙◌, ap}
use Rattle.std.specs.Option.{option_copied}
use Rattle.std.proofs.lemmas.List.{length_push}
use Rattle.hgs_index.specs.Revision.{Revision}
use Rattle.hgs_revlog.specs.declared.add.Added.TheVariants.{New}
use Rattle.hgs_revlog.specs.declared.fault.RevFault.{RevFault}
use Rattle.hgs_revlog.specs.Add.{added, next_entry}
use Rattle.hgs_revlog.specs.Log.{Log, with_entry}
use Rattle.hgs_examples.proofs.revisions.taken.Goals as goal

pub push-requires : goal.push-requires
push-requires c =
    let r : Revision = record { text = c.args.text.now; parents = (Some c.args.p1, Some c.args.p2); link = 2 } in
    let new : added c.args.log.now r (option_copied c.match-standing.given) ≡ Ok (New c.in-New.entry c.in-New.chunk c.in-New.node) = c.in_ok-rev.ensures ∙ ap (λ x. Ok x) c.in-New.is in
    c.new_revision.ensures.fits c.args.log.now r (option_copied c.match-standing.given) c.in-New.entry c.in-New.chunk c.in-New.node c.requires.separate c.requires.first c.requires.second (omega arith) (sym c.eq.ensures ∙ c.if-eq.false) new

-- what `push` makes of the log is what the law says
log_is : (x y : Log) → (let a : Result Log RevFault = Ok x in a) ≡ Ok y → x ≡ y
log_is x y h = cc

pub returns-clause-separate : goal.returns-clause-separate
returns-clause-separate c =
    let r : Revision = record { text = c.args.text.now; parents = (Some c.args.p1, Some c.args.p2); link = 2 } in
    let new : added c.args.log.now r (option_copied c.match-standing.given) ≡ Ok (New c.in-New.entry c.in-New.chunk c.in-New.node) = c.in_ok-rev.ensures ∙ ap (λ x. Ok x) c.in-New.is in
    let taken = c.new_revision.ensures.taken c.args.log.now r (option_copied c.match-standing.given) c.in-New.entry c.in-New.chunk c.in-New.node c.requires.separate c.requires.first c.requires.second (omega arith) (sym c.eq.ensures ∙ c.if-eq.false) new in
    ap (λ (l : Log). l.inline) (log_is c.push.new.self (with_entry c.args.log.now (next_entry c.args.log.now.entries r)) (c.in_ok-push.ensures.ok ∙ taken)) ∙ c.requires.separate

pub returns-clause-grown : goal.returns-clause-grown
returns-clause-grown c =
    let r : Revision = record { text = c.args.text.now; parents = (Some c.args.p1, Some c.args.p2); link = 2 } in
    let new : added c.args.log.now r (option_copied c.match-standing.given) ≡ Ok (New c.in-New.entry c.in-New.chunk c.in-New.node) = c.in_ok-rev.ensures ∙ ap (λ x. Ok x) c.in-New.is in
    let taken = c.new_revision.ensures.taken c.args.log.now r (option_copied c.match-standing.given) c.in-New.entry c.in-New.chunk c.in-New.node c.requires.separate c.requires.first c.requires.second (omega arith) (sym c.eq.ensures ∙ c.if-eq.false) new in
    let is = ap (λ (l : Log). length l.entries) (log_is c.push.new.self (with_entry c.args.log.now (next_entry c.args.log.now.entries r)) (c.in_ok-push.ensures.ok ∙ taken)) in
    let size = length_push c.args.log.now.entries (next_entry c.args.log.now.entries r) in
    omega (arith, is, size)
