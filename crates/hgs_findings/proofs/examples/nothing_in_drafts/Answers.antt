use Rattle.hgs_findings.proofs.SampleLemmas.{drafts-bytes, drafts-within, drafts-report}
use Rattle.hgs_findings.proofs.examples.nothing_in_drafts.Goals as goal

pub returns-clause-bytes : goal.returns-clause-bytes
returns-clause-bytes c = drafts-bytes

pub returns-clause-within : goal.returns-clause-within
returns-clause-within c = drafts-within

pub returns-clause-report : goal.returns-clause-report
returns-clause-report c = drafts-report c.two_drafts_stand.ensures
