-- Histories that go on.
use Rattle.std.proofs.Common.{List, ◌∙◌, ap, subst, sym}
use Rattle.hgs_bytes.specs.Bytes.{IsPrefixOf}
use Rattle.hgs_index.specs.Theorems.RevisionLemmas.{nodes-append}
use Rattle.hgs_index.specs.Revision.{nodes}
use Rattle.hgs_model.specs.History.{changeset_nodes, history, no_history}
use Rattle.hgs_model.specs.Repo.{Changeset}
use Rattle.hgs_model.specs.Theorems.HistoryLemmas.{Extends, history_from-append, history_from-extends}

pub histories-go-on : (xs ys : List Changeset) → IsPrefixOf xs ys → Extends (history xs) (history ys)
histories-go-on xs ys p = subst (Extends (history xs)) (sym (ap history p.1 ∙ history_from-append no_history xs p.0)) (history_from-extends (history xs) p.0)

pub nodes-go-on : (xs ys : List Changeset) → IsPrefixOf xs ys → IsPrefixOf (changeset_nodes xs) (changeset_nodes ys)
nodes-go-on xs ys p =
    let e = (histories-go-on xs ys p).changelog in
    let n = nodes-append (history xs).changelog e.0 in
    (n.0, ap nodes e.1 ∙ n.1)
