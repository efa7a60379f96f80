use Rattle.hgs_views.proofs.Below.{TextLaws}
use Rattle.hgs_views.proofs.TextLemmas.{EitherLaws, either-text-only}
use Rattle.hgs_views.proofs.laws.text_of_node_at_moments.Goals as goal

pub returns : goal.returns
returns c start store first last index chunks revisions rev node text y stays apart lt at is m =
    let separate : TextLaws = record {
      found = c.texts_are_found.ensures.apart;
      held = c.separate_texts_are_asked.ensures.found;
      loads = c.until_node.ensures.loads;
      last = c.nodes_among_entries.ensures.last;
      behind = c.nodes_among_entries.ensures.behind;
      front = c.nodes_among_entries.ensures.front;
      more = c.nodes_among_entries.ensures.more;
    } in
    let law : EitherLaws = record {
      apart = separate;
      asked = c.separate_texts_are_asked.ensures.moments;
      ends = c.texts_are_found.ensures.inline;
      inline = c.inline_text_at_moments.ensures;
    } in
    either-text-only law start first last store index chunks revisions rev node text apart lt at is stays y m
