use Rattle.std.proofs.Common.{◌≡◌, ◌∙◌, sym, ap, subst, not, arith, take}
use Rattle.std.specs.Prelude.{is_ok, IsOk}
use Rattle.hgs_revlog.specs.Held.{chunk_in, read_from}
use Rattle.hgs_revlog.specs.Text.{text_of}
use Rattle.hgs_judge.proofs.TextLemmas.{read-more, all-sound, ok-both}
use Rattle.hgs_judge.proofs.reading.sound.Goals as goal

pub loop-rev-preserved : goal.loop-rev-preserved
loop-rev-preserved c =
    let entries = c.args.log.now.entries in
    let here : IsOk (text_of entries c.loop-rev.rev (chunk_in c.args.data_bytes.now c.entry.result.now)) =
    ap (λ l. is_ok (text_of entries c.loop-rev.rev l)) (sym c.chunk.ensures) ∙ ap is_ok (sym c.text.ensures) ∙ ok-both (λ text. text.now) (λ fault. fault) c.text.result ∙ c.is_err.ensures.negation ∙ ap not c.if-is_err.false in
    read-more entries c.args.data_bytes.now c.loop-rev.rev c.entry.result.now c.entry.ensures c.loop-rev.invariant here

pub returns : goal.returns
returns c =
    let entries = c.args.log.now.entries in
    let is : c.loop-rev.rev ≡ c.len.result = (let past = c.loop-rev-test.false in let end = c.loop-rev.auto.rev-end in let a = c.len.ensures in let b = c.len-rev-end.ensures in omega (arith, past, end, a, b)) in
    all-sound entries c.args.data_bytes.now c.len.result c.len.ensures (subst (λ n. IsOk (read_from entries c.args.data_bytes.now 0 (take n entries))) is c.loop-rev.invariant)
