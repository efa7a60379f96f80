use Rattle.hgs_recover.proofs.Finding.{nothing-found, refused-undo}
use Rattle.hgs_recover.proofs.find.find.Goals as goal

pub returns-in-Some-clause-found : goal.returns-in-Some-clause-found
returns-in-Some-clause-found g c =
    let read = c.in_ok-text.ensures in
    let e = c.in-Err.ensures in
    refused-undo g.R.Reads.alone (g.R.Reads.seen c.read_file.new.files) (g.R.Reads.seen c.undo_of.new.files) (g.R.Reads.start c.read_file.new.files) (g.R.Reads.start c.undo_of.new.files) c.in_ok-path.path c.in-Some.text c.as_slice.result.now c.in_ok-text.field-0 c.in-Err.refusal
    e.still e.same_start c.in_ok-path.ensures c.in-Some.is c.as_slice.ensures read.found e.found

pub returns-clause-found : goal.returns-clause-found
returns-clause-found g c =
    nothing-found g.R.Reads.alone (g.R.Reads.seen c.read_file.new.files) (g.R.Reads.start c.read_file.new.files) c.in_ok-path.path c.in_ok-text.field-0 c.in_ok-path.ensures c.in-None.is c.in_ok-text.ensures.found
