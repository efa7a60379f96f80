use Rattle.hgs_headline.proofs.laws.numbers_of_loads.Goals as goal

pub returns : goal.returns
returns c = record {
  moments = λ h first last v view l. (l.reads.bookmarks, l.reads.dirstate, l.reads.changelog, l.reads.roots, l.reads.from_first, l.reads.then_dirstate, l.reads.then_changelog, l.reads.then_roots, l.reads.to_last, l.reads.marked, l.reads.worked, l.reads.read, l.reads.rooted);
  order = λ h first last v view l. (l.order.marked_worked, l.order.worked_read, l.order.read_rooted, l.order.rooted_last);
  began = λ h first last v view l. (l.order.first_marked, l.order.first_worked, l.order.first_read);
}
