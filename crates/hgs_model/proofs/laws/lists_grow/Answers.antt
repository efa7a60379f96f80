use Rattle.std.proofs.Common.{subst, sym}
use Rattle.hgs_bytes.specs.Bytes.{IsPrefixOf}
use Rattle.hgs_index.specs.Theorems.RevisionLemmas.{nodes-append}
use Rattle.hgs_model.specs.History.{History, history}
use Rattle.hgs_model.specs.Theorems.HistoryLemmas.{history-push, with_changeset-extends}
use Rattle.hgs_model.proofs.laws.lists_grow.Goals as goal

pub returns-clause-changelog : goal.returns-clause-changelog
returns-clause-changelog z changesets c = subst (λ (h : History). IsPrefixOf (history changesets).changelog h.changelog) (sym (history-push changesets c)) (with_changeset-extends (history changesets) c).changelog

pub returns-clause-manifest : goal.returns-clause-manifest
returns-clause-manifest z changesets c = subst (λ (h : History). IsPrefixOf (history changesets).manifest h.manifest) (sym (history-push changesets c)) (with_changeset-extends (history changesets) c).manifest

pub returns-clause-filelogs : goal.returns-clause-filelogs
returns-clause-filelogs z changesets c path = subst (λ (h : History). IsPrefixOf ((history changesets).filelog path) (h.filelog path)) (sym (history-push changesets c)) ((with_changeset-extends (history changesets) c).filelogs path)

pub returns-clause-nodes : goal.returns-clause-nodes
returns-clause-nodes z revisions more = nodes-append revisions more
