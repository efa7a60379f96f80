use Rattle.hgs_writer.proofs.import.import_named.Given as goal

abbrev pub ghosts-import_over : goal.ghosts-import_over
ghosts-import_over g a = record { seen = g.R.Reads.seen a.files; denied = g.R.Reads.denied a.files }
