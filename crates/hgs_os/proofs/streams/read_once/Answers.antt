use Rattle.std.proofs.Common.{◌≡◌, ◌≤◌, ◌+◌, take, length, ◌∙◌, arith}
use Rattle.std.proofs.lemmas.List.{length-take-le}
use Rattle.hgs_os.proofs.ReadLemmas.{old-front, read-front}
use Rattle.hgs_os.proofs.streams.read_once.Goals as goal

pub returns-in-Ok : goal.returns-in-Ok
returns-in-Ok g c =
    let old = c.args.into.now.items in
    let start = c.len-start.result in
    let count = c.in-Ok.count in
    let piece = c.read_piece.new.piece in
    let begins = c.len-start.ensures in
    let room = c.min-room.ensures in
    let ended = c.in_ok-resize.ensures.len in
    let holds = c.args.into.now.ok.0 in
    let size : length old ≡ start = omega (arith, begins, holds) in
    let few : count ≤ length piece = (let a = c.in-Ok.ensures.count in let b = c.in-Ok.ensures.same in omega (arith, a, b)) in
    let within : start + count ≤ c.resize.new.self.len = (let a = c.in-Ok.ensures.count in let b = c.deref_mut.ensures.len in omega (arith, a, b, ended)) in
    let front : take start c.deref_mut.result.now ≡ old = old-front start (start + c.min-room.result) old _ c.deref_mut.result.now (c.deref_mut.ensures.value ∙ c.in_ok-resize.ensures.items) size (omega arith) in (
      (let w = within in omega (arith, w, ended, room)),
      take count piece,
      c.truncate.ensures.items ∙ read-front start count c.resize.new.self.len old c.deref_mut.result.now piece _ _ front size few within,
      length-take-le count piece few,
    )
