use Rattle.std.proofs.Common.{subst, sym}
use Rattle.hgs_index.specs.Revision.{ParentsBefore}
use Rattle.hgs_model.specs.Theorems.BeforeLemmas.{changelog-parents, before}
use Rattle.hgs_model.proofs.laws.parents_stand_before.Goals as goal

pub returns-clause-changelog : goal.returns-clause-changelog
returns-clause-changelog c r is = subst (ParentsBefore 0) (sym (changelog-parents r is)) is.parents

pub returns-clause-manifest : goal.returns-clause-manifest
returns-clause-manifest c r is = (before r is).manifest

pub returns-clause-filelogs : goal.returns-clause-filelogs
returns-clause-filelogs c r path is = (before r is).filelogs path
