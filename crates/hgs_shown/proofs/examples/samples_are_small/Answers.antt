use Rattle.hgs_shown.proofs.SmallLemmas.{begun-open, begun-read, drafts-open, drafts-read, inline-open, inline-read}
use Rattle.hgs_shown.proofs.examples.samples_are_small.Goals as goal

pub returns : goal.returns
returns c = record { drafts_open = drafts-open; drafts_read = drafts-read; begun_open = begun-open; begun_read = begun-read; inline_open = inline-open; inline_read = inline-read }
