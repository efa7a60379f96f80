use Rattle.hgs_session.proofs.session.session.Given as goal

abbrev pub ghosts-run : goal.ghosts-run
ghosts-run g a = record {
  home = (g.Y.W.Reads.ties a.w).home;
  earlier = (g.Y.W.Reads.ties a.w).earlier;
  earlier_start = (g.Y.W.Reads.ties a.w).earlier_start;
  begins = record { jobs = a.script.now.workers; start = g.Y.W.Reads.start a.w; first = record { log = g.Y.W.Files.log a.w; faults = g.Y.W.Reads.faults a.w; denied = g.Y.W.Reads.denied a.w } };
  book = a.opened.seen.book;
}
