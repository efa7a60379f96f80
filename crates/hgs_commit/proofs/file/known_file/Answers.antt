use Rattle.std.proofs.Common.{refl}
use Rattle.hgs_commit.specs.Files.{view_filelog}
use Rattle.hgs_commit.proofs.KnownLemmas.{is-kept}
use Rattle.hgs_commit.proofs.file.known_file.Goals as goal

pub returns : goal.returns
returns c = λ t read kept.
    is-kept _ (view_filelog c.args.filelog) t c.args.rev refl refl c.is_inline-inline.ensures (c.requires.entries.own c.args.rev c.entry.result.now c.entry.ensures) read kept
