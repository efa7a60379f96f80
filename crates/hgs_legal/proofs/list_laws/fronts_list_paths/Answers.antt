use Rattle.std.proofs.Common.{[], sym, ◌∙◌, append-nil}
use Rattle.hgs_legal.proofs.ListEnds.{earlier-lists, front-lists}
use Rattle.hgs_legal.proofs.ListOps.{list_of}
use Rattle.hgs_legal.proofs.list_laws.fronts_list_paths.Goals as goal

pub returns : goal.returns
returns c = record {
  front = front-lists;
  same = λ t u r e l. front-lists t u r ([], sym e ∙ sym (append-nil (list_of u))) l;
  earlier = earlier-lists;
}
