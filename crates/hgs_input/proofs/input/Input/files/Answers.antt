use Rattle.std.proofs.Common.{Ok, sym, ◌∙◌, ap, subst, arith, rules, length}
use Rattle.std.proofs.lemmas.List.{length_push}
use Rattle.hgs_input.specs.Read.{next_file}
use Rattle.hgs_input.specs.View.{IsTree}
use Rattle.hgs_input.proofs.ReadLemmas.{Refused, file_refused, files_end, file_more}
use Rattle.hgs_input.proofs.FoundLemmas.{file_more_found}
use Rattle.hgs_input.proofs.input.Input.files.Goals as goal

pub returns-in_err-file : goal.returns-in_err-file
returns-in_err-file c =
    let room = c.loop-files.invariant.room in
    let e = c.in_err-file.field-0.0 in
    let here : Refused e (next_file c.loop-files.files c.loop-files.self) = subst (λ fs. Refused e (next_file fs c.loop-files.self)) c.as_slice.ensures c.in_err-file.ensures in
    let refused = file_refused _ c.loop-files.files c.loop-files.self e _ (omega (arith, room)) c.loop-files.invariant.read here in
    search (rules, refused)

pub loop-files-smaller : goal.loop-files-smaller
loop-files-smaller c =
    let read = ap (λ fs. next_file fs c.loop-files.self) (sym c.as_slice.ensures) ∙ c.in_ok-file.ensures ∙ ap (λ o. Ok (o, c.file.new.self)) c.in-Some.is in
    (file_more_found c.loop-files.files c.loop-files.self c.file.new.self c.in-Some.file read).fewer

pub loop-files-preserved : goal.loop-files-preserved
loop-files-preserved c =
    let read = ap (λ fs. next_file fs c.loop-files.self) (sym c.as_slice.ensures) ∙ c.in_ok-file.ensures ∙ ap (λ o. Ok (o, c.file.new.self)) c.in-Some.is in
    let more = file_more_found c.loop-files.files c.loop-files.self c.file.new.self c.in-Some.file read in
    let fewer = more.fewer in
    let room = c.loop-files.invariant.room in
    let count = ap length c.in_ok-push.ensures.ok ∙ length_push c.loop-files.files c.in-Some.file in
    record {
      read = file_more _ _ c.loop-files.files c.push.new.self c.in-Some.file c.loop-files.self c.file.new.self _ (omega (arith, room)) (omega (arith, count)) c.loop-files.invariant.read read c.in_ok-push.ensures.ok;
      room = omega (arith, room, fewer, count);
      tree = subst IsTree (sym c.in_ok-push.ensures.ok) more.tree;
    }

pub returns : goal.returns
returns c =
    let room = c.loop-files.invariant.room in
    files_end _ c.loop-files.files c.loop-files.self c.file.new.self _ (omega (arith, room)) c.loop-files.invariant.read
    (ap (λ fs. next_file fs c.loop-files.self) (sym c.as_slice.ensures) ∙ c.in_ok-file.ensures ∙ ap (λ o. Ok (o, c.file.new.self)) c.in_default.is)
