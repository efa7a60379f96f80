use Rattle.std.proofs.Common.{subst, sym}
use Rattle.hgs_script.specs.declared.job.Question.{Question}
use Rattle.hgs_questions.specs.Asked.{Tells}
use Rattle.hgs_questions.proofs.tell.tell.Goals as goal

pub returns-in-Phase-clause-told : goal.returns-in-Phase-clause-told
returns-in-Phase-clause-told g c =
    let P : Question → Type 0 = λ q. Tells (g.R.Reads.seen c.args.files.now) (g.R.Reads.start c.args.files.now) (g.R.Reads.seen c.args.files.now) c.args.session.now q (g.R.Reads.faults c.args.files.now) (g.R.Reads.faults c.args.files.now) c.phase_told.result in
    subst P (sym c.in-Phase.is) (c.phase_told.ensures.told (g.R.Reads.seen c.args.files.now) (g.R.Reads.start c.args.files.now) (g.R.Reads.faults c.args.files.now))

pub returns-in-Log-clause-told : goal.returns-in-Log-clause-told
returns-in-Log-clause-told g c =
    let P : Question → Type 0 = λ q. Tells (g.R.Reads.seen c.args.files.now) (g.R.Reads.start c.args.files.now) (g.R.Reads.seen c.log_told.new.files) c.args.session.now q (g.R.Reads.faults c.args.files.now) (g.R.Reads.faults c.log_told.new.files) c.log_told.result in
    subst P (sym c.in-Log.is) c.log_told.ensures.told

pub returns-in-Heads-clause-told : goal.returns-in-Heads-clause-told
returns-in-Heads-clause-told g c =
    let P : Question → Type 0 = λ q. Tells (g.R.Reads.seen c.args.files.now) (g.R.Reads.start c.args.files.now) (g.R.Reads.seen c.args.files.now) c.args.session.now q (g.R.Reads.faults c.args.files.now) (g.R.Reads.faults c.args.files.now) c.heads_told.result in
    subst P (sym c.in-Heads.is) (c.heads_told.ensures.told (g.R.Reads.seen c.args.files.now) (g.R.Reads.start c.args.files.now) (g.R.Reads.faults c.args.files.now))

pub returns-in-Bookmarks-clause-told : goal.returns-in-Bookmarks-clause-told
returns-in-Bookmarks-clause-told g c =
    let P : Question → Type 0 = λ q. Tells (g.R.Reads.seen c.args.files.now) (g.R.Reads.start c.args.files.now) (g.R.Reads.seen c.args.files.now) c.args.session.now q (g.R.Reads.faults c.args.files.now) (g.R.Reads.faults c.args.files.now) c.bookmarks_told.result in
    subst P (sym c.in-Bookmarks.is) (c.bookmarks_told.ensures.told (g.R.Reads.seen c.args.files.now) (g.R.Reads.start c.args.files.now) (g.R.Reads.faults c.args.files.now))

pub returns-in-Parents-clause-told : goal.returns-in-Parents-clause-told
returns-in-Parents-clause-told g c =
    let P : Question → Type 0 = λ q. Tells (g.R.Reads.seen c.args.files.now) (g.R.Reads.start c.args.files.now) (g.R.Reads.seen c.args.files.now) c.args.session.now q (g.R.Reads.faults c.args.files.now) (g.R.Reads.faults c.args.files.now) c.parents_told.result in
    subst P (sym c.in-Parents.is) (c.parents_told.ensures.told (g.R.Reads.seen c.args.files.now) (g.R.Reads.start c.args.files.now) (g.R.Reads.faults c.args.files.now))

pub returns-in-Files-clause-told : goal.returns-in-Files-clause-told
returns-in-Files-clause-told g c =
    let P : Question → Type 0 = λ q. Tells (g.R.Reads.seen c.args.files.now) (g.R.Reads.start c.args.files.now) (g.R.Reads.seen c.files_told.new.files) c.args.session.now q (g.R.Reads.faults c.args.files.now) (g.R.Reads.faults c.files_told.new.files) c.files_told.result in
    subst P (sym c.in-Files.is) c.files_told.ensures.told

pub returns-in-Cat-clause-told : goal.returns-in-Cat-clause-told
returns-in-Cat-clause-told g c =
    let P : Question → Type 0 = λ q. Tells (g.R.Reads.seen c.args.files.now) (g.R.Reads.start c.args.files.now) (g.R.Reads.seen c.cat_told.new.files) c.args.session.now q (g.R.Reads.faults c.args.files.now) (g.R.Reads.faults c.cat_told.new.files) c.cat_told.result in
    subst P (sym c.in-Cat.is) c.cat_told.ensures.told
