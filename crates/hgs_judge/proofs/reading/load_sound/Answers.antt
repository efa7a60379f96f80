use Rattle.std.proofs.Common.{◌≡◌, ◌∙◌, sym, subst, arith}
use Rattle.std.specs.Prelude.{true, false}
use Rattle.hgs_revlog.specs.declared.fault.Tail.TheVariants.{Ignore}
use Rattle.hgs_revlog.specs.Log.{Log}
use Rattle.hgs_revlog.specs.Load.{loaded}
use Rattle.hgs_judge.specs.Read.{IsEnd, is_refusal}
use Rattle.hgs_judge.proofs.EntryLemmas.{loaded_log, ok-log, whole-end, cut-end, faults-within, loads-within, not-refused, refused, index-refuses}
use Rattle.hgs_judge.proofs.reading.load_sound.Goals as goal

pub returns-in-Ok-clause-ok : goal.returns-in-Ok-clause-ok
returns-in-Ok-clause-ok c = whole-end c.args.index.now c.in-Ok.log c.in-Ok.ensures

pub load_front-requires : goal.load_front-requires
load_front-requires c =
    let fault = c.in-Err.fault in
    let none : is_refusal fault ≡ false = sym c.is_refusal.ensures ∙ c.if-is_refusal.false in
    let e = cut-end c.args.index.now fault (not-refused fault (loaded Ignore c.args.index.now) c.in-Err.ensures none) none in
    let whole = e.2.first.whole in
    let place = c.place.ensures in
    omega (arith, whole, place, e.1)

pub returns-in-Ok-load_front-clause-ok : goal.returns-in-Ok-load_front-clause-ok
returns-in-Ok-load_front-clause-ok c =
    let fault = c.in-Err.fault in
    let none : is_refusal fault ≡ false = sym c.is_refusal.ensures ∙ c.if-is_refusal.false in
    let e = cut-end c.args.index.now fault (not-refused fault (loaded Ignore c.args.index.now) c.in-Err.ensures none) none in
    let given : loaded_log (record { inline = false; entries = e.0 }) ≡ loaded_log c.in-Ok-load_front.log = c.in-Ok-load_front.ensures e.0 e.2.first (e.1 ∙ sym c.place.ensures) in
    let is : record { inline = false; entries = e.0 } ≡ c.in-Ok-load_front.log = ok-log (record { inline = false; entries = e.0 }) c.in-Ok-load_front.log given in
    subst (λ (log : Log). IsEnd c.args.index.now log.entries true) is e.2

pub returns-in-Err-load_front-clause-err : goal.returns-in-Err-load_front-clause-err
returns-in-Err-load_front-clause-err c =
    let fault = c.in-Err.fault in
    let none : is_refusal fault ≡ false = sym c.is_refusal.ensures ∙ c.if-is_refusal.false in
    let e = cut-end c.args.index.now fault (not-refused fault (loaded Ignore c.args.index.now) c.in-Err.ensures none) none in
    refused c.in-Err-load_front.fault c.args.index.now (record { inline = false; entries = e.0 }) (c.in-Err-load_front.ensures e.0 e.2.first (e.1 ∙ sym c.place.ensures))

pub returns-then-is_refusal-clause-err : goal.returns-then-is_refusal-clause-err
returns-then-is_refusal-clause-err c = index-refuses c.in-Err.fault c.args.index.now c.in-Err.ensures (sym c.is_refusal.ensures ∙ c.if-is_refusal.true)

pub returns-in-Ok-clause-limits : goal.returns-in-Ok-clause-limits
returns-in-Ok-clause-limits c = loads-within c.args.index.now c.in-Ok.log c.in-Ok.ensures

pub returns-in-Ok-load_front-clause-limits : goal.returns-in-Ok-load_front-clause-limits
returns-in-Ok-load_front-clause-limits c =
    let fault = c.in-Err.fault in
    let none : is_refusal fault ≡ false = sym c.is_refusal.ensures ∙ c.if-is_refusal.false in
    faults-within c.args.index.now fault (not-refused fault (loaded Ignore c.args.index.now) c.in-Err.ensures none) none
