use Rattle.std.proofs.Common.{◌≡◌, ◌*◌, ◌^◌, ◌<◌, List, ℕ, length, take, Ok, arith}
use Rattle.std.specs.Prelude.{Result}
use Rattle.hgs_files.specs.Tree.{bytes_at}
use Rattle.hgs_load.specs.View.{piece_length}
use Rattle.hgs_load.specs.declared.answer.ReadAnswer.{ReadAnswer}
use Rattle.hgs_loading.specs.Theorems.FoundLemmas.{alone-one}
use Rattle.hgs_loading.proofs.EitherLemmas.{all-bytes}
use Rattle.hgs_loading.proofs.logs.read_all.Goals as goal

abbrev Bytes : Type 0
Bytes = Result (List ℕ) ReadAnswer

pub returns-in-Ok-clause-found : goal.returns-in-Ok-clause-found
returns-in-Ok-clause-found g c =
    let index = c.args.index.now in
    let bytes = c.in-Ok.bytes.items in
    let small = c.in-Ok.bytes.small in
    let len = c.in-Ok.bytes.ok.0 in
    let less : length bytes < 2 ^ 48 * piece_length = omega (arith, small, len) in
    alone-one g.R.Reads.alone (g.R.Reads.seen c.read_index.new.files) (g.R.Reads.start c.read_index.new.files)
    (λ t. (let r : Bytes = Ok (take (2 ^ 48 * piece_length) (bytes_at t index)) in r) ≡ Ok bytes) (λ t. (let r : Bytes = Ok (bytes_at t index) in r) ≡ Ok bytes)
    (λ t h. all-bytes (2 ^ 48 * piece_length) (bytes_at t index) bytes less h) c.in-Ok.ensures.found
