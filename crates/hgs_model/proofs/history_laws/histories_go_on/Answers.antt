use Rattle.hgs_model.proofs.FrontLemmas.{histories-go-on, nodes-go-on}
use Rattle.hgs_model.proofs.history_laws.histories_go_on.Goals as goal

pub returns-clause-changelog : goal.returns-clause-changelog
returns-clause-changelog c front all p = (histories-go-on front all p).changelog

pub returns-clause-manifest : goal.returns-clause-manifest
returns-clause-manifest c front all p = (histories-go-on front all p).manifest

pub returns-clause-filelogs : goal.returns-clause-filelogs
returns-clause-filelogs c front all path p = (histories-go-on front all p).filelogs path

pub returns-clause-nodes : goal.returns-clause-nodes
returns-clause-nodes c = nodes-go-on
