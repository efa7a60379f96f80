use Rattle.hgs_revlog.proofs.ApartLemmas.{form-entries, form-is, form-nodes}
use Rattle.hgs_revlog.proofs.FormLemmas.{separate-loads}
use Rattle.hgs_revlog.proofs.laws.either_form.Goals as goal

pub returns-clause-separate : goal.returns-clause-separate
returns-clause-separate c = separate-loads

pub returns-clause-form : goal.returns-clause-form
returns-clause-form c = form-is

pub returns-clause-entries : goal.returns-clause-entries
returns-clause-entries c = form-entries

pub returns-clause-nodes : goal.returns-clause-nodes
returns-clause-nodes c = form-nodes
