use Rattle.std.proofs.Common.{◌≡◌, Ok}
use Rattle.std.specs.Option.{option_map}
use Rattle.hgs_index.specs.Revision.{Revision}
use Rattle.hgs_commit.specs.Obstacles.{met_of, noting}
use Rattle.hgs_commit.specs.Texts.{OfLog, log_at, new_text_in, revised_in, view_growth}
use Rattle.hgs_commit.proofs.AnswerLemmas.{alone-one}
use Rattle.hgs_commit.proofs.FoundLemmas.{text-found}
use Rattle.hgs_commit.proofs.texts.new_text.Goals as goal

pub returns-clause-found : goal.returns-clause-found
returns-clause-found g c =
    let f : OfLog = log_at c.args.paths c.args.log.now in
    let r : Revision = record { text = c.args.text.now; parents = c.args.parents; link = c.args.link } in
    let v = c.in_ok-revised.revised in
    alone-one g.R.Reads.alone (g.R.Reads.seen c.revise_in.new.files) (g.R.Reads.start c.revise_in.new.files)
    (λ t. revised_in f r t ≡ Ok v)
    (λ t. noting (met_of c.args.met.now) (new_text_in f r t) ≡ Ok (record { node = v.node.0; standing = c.standing_rev-standing.result; growth = option_map view_growth c.in_ok-growth.growth }, met_of c.growth_in.new.met))
    (λ t e. text-found f r t v (met_of c.args.met.now) (met_of c.growth_in.new.met) (option_map view_growth c.in_ok-growth.growth) c.standing_rev-standing.result c.standing_rev-standing.ensures.rev c.in_ok-growth.ensures.growth c.in_ok-growth.ensures.met e)
    c.in_ok-revised.ensures.found
