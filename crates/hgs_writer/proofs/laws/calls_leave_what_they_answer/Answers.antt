use Rattle.hgs_model.specs.Step.{step}
use Rattle.hgs_ops.specs.Operations.{strays}
use Rattle.hgs_writer.proofs.AloneLemmas.{ListLaws, made-lists, pieces-of, stops-of, written}
use Rattle.hgs_writer.proofs.laws.calls_leave_what_they_answer.Goals as goal

pub returns : goal.returns
returns c = record {
  answered = λ t r command who answer done s valid lists w. (written c.laws_below.ensures t r command who answer done s valid lists w).0;
  lists = λ t r command who answer done s valid lists w next is. made-lists list_laws t r (step r command) s lists done next (written c.laws_below.ensures t r command who answer done s valid lists w).1 is;
  pieces = λ t r command who answer done s valid lists w. pieces-of t r (step r command) done (written c.laws_below.ensures t r command who answer done s valid lists w).1;
  stops = λ t r command who answer done d s valid lists w.
      stops-of c.pieces_end.ensures.stands c.pieces_end.ensures.left_open c.fronts_are_pieces.ensures.of_piece c.fronts_are_pieces.ensures.of_left t r (step r command) s done d (written c.laws_below.ensures t r command who answer done s valid lists w).1;
}
  where
    list_laws : ListLaws
    list_laws = record {
      ends = c.pieces_end.ensures.stands;
      left_open = c.pieces_end.ensures.left_open;
      piece = c.pieces_keep_lists.ensures.piece;
      left = c.pieces_keep_lists.ensures.left;
      one = c.stands_for_one.ensures;
      not_open = c.files_of_standing_trees.ensures.not_open strays;
      open_one = λ t r s a b. c.open_trees_lead_back.ensures.one strays t r s c.strays_are_apart.ensures.own c.strays_are_apart.ensures.strays a b;
    }
