use Rattle.hgs_ops.specs.Operations.{strays}
use Rattle.hgs_legal.proofs.ListEnds.{Laws, run-any, run-lists, stop-any}
use Rattle.hgs_legal.proofs.list_laws.writers_keep_lists.Goals as goal

pub returns : goal.returns
returns c = record {
  runs = λ t r log s i stands lists run. run-lists laws t r stands lists log s i run;
  ends = λ t r next log s stands lists run is. run-any laws t r stands lists log s run next is;
  stops = λ t r next log s u stands lists run stop is. stop-any laws t r stands lists log s run u stop next is;
}
  where
    laws : Laws
    laws = record {
      safe = c.stops_are_safe.ensures.ends;
      stops = c.stops_are_safe.ensures.stops;
      files = c.numbers_rise.ensures.files;
      go_on = c.repositories_go_on.ensures;
      one = c.stands_for_one.ensures;
      not_open = c.files_of_standing_trees.ensures.not_open strays;
      open_one = λ t r s a b. c.open_trees_lead_back.ensures.one strays t r s c.strays_are_apart.ensures.own c.strays_are_apart.ensures.strays a b;
    }
