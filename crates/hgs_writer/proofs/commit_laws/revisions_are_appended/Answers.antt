use Rattle.hgs_index.specs.Revision.{standing}
use Rattle.hgs_model.specs.History.{history}
use Rattle.hgs_commit.specs.Changeset.{of_changelog, of_manifest}
use Rattle.hgs_writer.proofs.GrowthLemmas.{growth-grows}
use Rattle.hgs_writer.proofs.LogLemmas.{whole-of}
use Rattle.hgs_writer.proofs.commit_laws.revisions_are_appended.Goals as goal

pub returns-clause-grows : goal.returns-clause-grows
returns-clause-grows c = λ t f old r is whole. growth-grows t f old r (standing old r.text r.parents) is whole

pub returns-clause-changelog : goal.returns-clause-changelog
returns-clause-changelog c = λ t r l s h. whole-of c.laws_below.ensures t (of_changelog l.changelog) (history r.changesets).changelog s.revlogs.changelog h.changelog

pub returns-clause-manifest : goal.returns-clause-manifest
returns-clause-manifest c = λ t r l s h. whole-of c.laws_below.ensures t (of_manifest l.manifest) (history r.changesets).manifest s.revlogs.manifest h.manifest
