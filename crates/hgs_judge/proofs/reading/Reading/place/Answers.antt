use Rattle.std.proofs.Common.{◌≡◌, ℕ, List, ◌∙◌, ap}
use Rattle.std.specs.Prelude.{position}
use Rattle.hgs_bytes.specs.Bytes.{same}
use Rattle.hgs_index.specs.Revision.{nodes}
use Rattle.hgs_judge.specs.Read.{revisions_in}
use Rattle.hgs_judge.proofs.Basics.{same-turned}
use Rattle.hgs_judge.proofs.reading.Reading.place.Goals as goal

pub returns-clause-place : goal.returns-clause-place
returns-clause-place c = λ data_bytes read.
    let node = c.args.node.now.0 in
    let turned : (λ (n : List ℕ). same n node) ≡ (λ (n : List ℕ). same node n) = (λ i. λ n. same-turned n node i) in
    c.rev_of.ensures
    ∙ c.places_of_nodes.ensures c.args.self.now.log.entries node
    ∙ ap (position (λ n. same n node)) read.nodes_are
    ∙ ap (λ f. position f (nodes (revisions_in c.args.self.now.log.entries data_bytes))) turned
