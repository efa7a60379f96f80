use Rattle.std.proofs.Common.{◌≡◌, refl}
use Rattle.std.specs.Prelude.{None, Some}
use Rattle.hgs_mem.specs.Steady.{steady_log, steady_start, steady_tree}
use Rattle.hgs_world.proofs.QuestionLemmas.{loaded_first, refreshed_reader, refused_first, still}
use Rattle.hgs_world.proofs.reading.Reading.load_all.Goals as goal

pub returns-in-Some-clause-loaded : goal.returns-in-Some-clause-loaded
returns-in-Some-clause-loaded c =
    let e = c.refresh.ensures in
    let t = steady_tree c.args.files.now in
    let old : c.args.self.now.session ≡ Some c.in-Some.session = cc in
    let none : c.args.self.now.load ≡ None = c.requires in
    refreshed_reader (steady_log c.args.files.now) (steady_log c.refresh.new.files) (steady_start c.args.files.now) c.args.self.now.session c.args.self.now.load c.in-Some.session c.refresh.new.self c.refresh.result old none (still (e.still refl)) e.answer

pub returns-in-Ok-clause-loaded : goal.returns-in-Ok-clause-loaded
returns-in-Ok-clause-loaded c =
    let e = c.in-Ok.ensures in
    let old : c.args.self.now.session ≡ None = cc in
    let none : c.args.self.now.load ≡ None = c.requires in
    let h = loaded_first (steady_log c.args.files.now) (steady_log c.open.new.files) (steady_start c.args.files.now) c.in-Ok.session (still (e.still refl)) e.answer in
    rw (old, none) h

pub returns-in-Err-clause-loaded : goal.returns-in-Err-clause-loaded
returns-in-Err-clause-loaded c =
    let e = c.in-Err.ensures in
    let old : c.args.self.now.session ≡ None = cc in
    let none : c.args.self.now.load ≡ None = c.requires in
    let h = refused_first (steady_log c.args.files.now) (steady_log c.open.new.files) (steady_start c.args.files.now) c.in-Err.refusal (still (e.still refl)) e.answer in
    rw (old, none) h
