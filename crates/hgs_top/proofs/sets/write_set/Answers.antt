use Rattle.std.proofs.Common.{Result, sym, subst}
use Rattle.hgs_load.specs.Theorems.AskLemmas.{grows-refl}
use Rattle.hgs_revset.specs.Members.{Set}
use Rattle.hgs_revset.specs.Read.{read_set}
use Rattle.hgs_revset.specs.declared.fault.SetFault.{SetFault}
use Rattle.hgs_top.specs.Given.{ReadsOnly}
use Rattle.hgs_top.specs.Run.{IsReplied}
use Rattle.hgs_top.specs.Sets.{set_reads}
use Rattle.hgs_top.proofs.GivenLemmas.{only-none}
use Rattle.hgs_top.proofs.SetLemmas.{of_set, of_lost_set}
use Rattle.hgs_top.proofs.sets.write_set.Goals as goal

pub returns-in-Ok-clause-told : goal.returns-in-Ok-clause-told
returns-in-Ok-clause-told g c = λ alone.
    of_set (read_set c.args.text.now) c.in-Ok.set (g.R.Reads.seen c.args.files.now) (g.R.Reads.start c.args.files.now) (λ reply. IsReplied reply (g.K.Sink.written c.args.out.now) (g.K.Sink.written c.write_members.new.out) c.write_members.result) c.in-Ok.ensures (c.write_members.ensures.told alone)

pub returns-in-Ok-clause-given : goal.returns-in-Ok-clause-given
returns-in-Ok-clause-given g c =
    let P : Result Set SetFault → Type 0 = λ r. ReadsOnly (g.R.Reads.given c.args.files.now) (g.R.Reads.given c.write_members.new.files) (g.R.Reads.seen c.args.files.now) (g.R.Reads.start c.args.files.now) (g.R.Reads.seen c.write_members.new.files) (set_reads r) in
    subst P (sym c.in-Ok.ensures) c.write_members.ensures.given

pub returns-in-Err-Memory-clause-told : goal.returns-in-Err-Memory-clause-told
returns-in-Err-Memory-clause-told g c = λ alone. of_lost_set (read_set c.args.text.now) (g.R.Reads.seen c.args.files.now) (g.R.Reads.start c.args.files.now) (g.K.Sink.written c.args.out.now)

pub returns-in-Err-Bad-clause-given : goal.returns-in-Err-Bad-clause-given
returns-in-Err-Bad-clause-given g c = only-none (g.R.Reads.given c.args.files.now) (g.R.Reads.seen c.args.files.now) (g.R.Reads.start c.args.files.now) (set_reads (read_set c.args.text.now)) (grows-refl (g.R.Reads.seen c.args.files.now))

pub returns-in-Err-Memory-clause-given : goal.returns-in-Err-Memory-clause-given
returns-in-Err-Memory-clause-given g c = only-none (g.R.Reads.given c.args.files.now) (g.R.Reads.seen c.args.files.now) (g.R.Reads.start c.args.files.now) (set_reads (read_set c.args.text.now)) (grows-refl (g.R.Reads.seen c.args.files.now))
