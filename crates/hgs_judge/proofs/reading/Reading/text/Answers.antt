use Rattle.std.proofs.Common.{◌≡◌, ℕ, ◌+◌, List, ◌∙◌, sym, ap, arith}
use Rattle.std.specs.Prelude.{Ok, Some, unwrap_or}
use Rattle.hgs_index.specs.Revlog.{chunk_text}
use Rattle.hgs_model.specs.History.{text_at}
use Rattle.hgs_revlog.specs.Held.{chunk_in}
use Rattle.hgs_revlog.specs.Text.{text_of}
use Rattle.hgs_judge.specs.Read.{revisions_in}
use Rattle.hgs_judge.proofs.WalkLemmas.{read-text, text-spelled}
use Rattle.hgs_judge.proofs.reading.Reading.text.Goals as goal

pub returns : goal.returns
returns c =
    let entries = c.args.self.now.log.entries in
    let data_bytes = c.args.data_bytes.now in
    let e = c.entry.result.now in
    let text : List ℕ = text_at (revisions_in entries data_bytes) c.args.rev in
    let zero : 0 + c.args.rev ≡ c.args.rev = omega arith in
    let reads : text_of entries c.args.rev (chunk_in data_bytes e) ≡ Ok text = ap (λ n. text_of entries n (chunk_in data_bytes e)) (sym zero) ∙ read-text entries data_bytes 0 entries (revisions_in entries data_bytes) c.args.rev e c.requires.read.reads c.entry.ensures in
    let spelled : chunk_text (chunk_in data_bytes e) ≡ Some text = text-spelled entries c.args.rev (chunk_in data_bytes e) text e c.entry.ensures reads in
    c.plain.ensures ∙ ap (λ l. unwrap_or (chunk_text l) l) c.chunk.ensures ∙ ap (λ o. unwrap_or o (chunk_in data_bytes e)) spelled
