use Rattle.hgs_model.specs.History.{history}
use Rattle.hgs_commit.specs.Changeset.{of_changelog, of_manifest}
use Rattle.hgs_writer.proofs.FilelogLemmas.{filelog-of}
use Rattle.hgs_writer.proofs.LogLemmas.{log-of}
use Rattle.hgs_writer.proofs.commit_laws.loaded_logs_are_the_repositorys.Goals as goal

pub returns-clause-changelog : goal.returns-clause-changelog
returns-clause-changelog c = λ t r l s h. log-of c.laws_below.ensures t (of_changelog l.changelog) (history r.changesets).changelog s.revlogs.changelog h.changelog

pub returns-clause-manifest : goal.returns-clause-manifest
returns-clause-manifest c = λ t r l s h. log-of c.laws_below.ensures t (of_manifest l.manifest) (history r.changesets).manifest s.revlogs.manifest h.manifest

pub returns-clause-filelogs : goal.returns-clause-filelogs
returns-clause-filelogs c = λ t r l path f s h e. filelog-of c.laws_below.ensures t r l path f s h e
