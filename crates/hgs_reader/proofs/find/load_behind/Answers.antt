use Rattle.std.proofs.Common.{List, ℕ, false, Vec, refl, subst}
use Rattle.std.proofs.Common as std_common
use Rattle.hgs_bytes.specs.Answer.{Gives}
use Rattle.hgs_revlog.specs.declared.fault.Tail.TheVariants.{Until}
use Rattle.hgs_revlog.specs.Load.{loaded}
use Rattle.hgs_revlog.specs.Log.{Log}
use Rattle.hgs_load.specs.Answer.{is_of_outside}
use Rattle.hgs_load.specs.Asks.{answer}
use Rattle.hgs_reader.specs.Find.{bytes_behind}
use Rattle.hgs_load.specs.View.{log_answer}
use Rattle.hgs_load.specs.Theorems.GivenLemmas.{takes-then, takes-given, refused-then}
use Rattle.hgs_load.specs.Theorems.AskLemmas.{answers-then, answers-refused, answers-given}
use Rattle.hgs_reader.proofs.find.load_behind.Goals as goal

pub returns-in-Ok-clause-answer : goal.returns-in-Ok-clause-answer
returns-in-Ok-clause-answer g c =
    let index = c.args.index.now in
    let node = c.args.node.now.0 in
    let seen = g.R.Reads.seen c.read_behind.new.files in
    let start = g.R.Reads.start c.read_behind.new.files in
    let P : List ℕ → Type 0 = λ bytes. Gives is_of_outside (λ (log : Log). log) c.log_from.result (log_answer index (loaded (Until (record { 0 = node })) bytes)) in
    answers-then (λ (bytes : Vec ℕ std_common.Global). bytes.items) (λ (log : Log). log) (g.R.Reads.seen c.args.files.now) seen seen (g.R.Reads.start c.args.files.now) start
    (bytes_behind false index node c.args.first.now) (λ bytes. answer (log_answer index (loaded (Until (record { 0 = node })) bytes))) c.in-Ok.bytes c.log_from.result
    c.in-Ok.ensures.seen c.in-Ok.ensures.same_start c.in-Ok.ensures.answer
    (answers-given (λ (log : Log). log) seen start (log_answer index (loaded (Until (record { 0 = node })) c.in-Ok.bytes.items)) c.log_from.result (subst P c.deref.ensures.value c.log_from.ensures.log))

pub returns-in-Err-clause-answer : goal.returns-in-Err-clause-answer
returns-in-Err-clause-answer g c =
    answers-refused (λ (bytes : Vec ℕ std_common.Global). bytes.items) (λ (log : Log). log) (g.R.Reads.seen c.args.files.now) (g.R.Reads.seen c.read_behind.new.files) (g.R.Reads.start c.args.files.now)
    (bytes_behind false c.args.index.now c.args.node.now.0 c.args.first.now) (λ bytes. answer (log_answer c.args.index.now (loaded (Until (record { 0 = c.args.node.now.0 })) bytes))) c.in-Err.refusal c.in-Err.ensures.answer

pub returns-in-Ok-clause-given : goal.returns-in-Ok-clause-given
returns-in-Ok-clause-given g c =
    let index = c.args.index.now in
    let node = c.args.node.now.0 in
    let given = g.R.Reads.given c.read_behind.new.files in
    let seen = g.R.Reads.seen c.read_behind.new.files in
    let start = g.R.Reads.start c.read_behind.new.files in
    let P : List ℕ → Type 0 = λ bytes. Gives is_of_outside (λ (log : Log). log) c.log_from.result (log_answer index (loaded (Until (record { 0 = node })) bytes)) in
    takes-then (λ (bytes : Vec ℕ std_common.Global). bytes.items) (λ (log : Log). log) (g.R.Reads.given c.args.files.now) given given (g.R.Reads.seen c.args.files.now) seen seen (g.R.Reads.start c.args.files.now) start
    (bytes_behind false index node c.args.first.now) (λ bytes. answer (log_answer index (loaded (Until (record { 0 = node })) bytes))) c.in-Ok.bytes c.log_from.result
    c.in-Ok.ensures.same_start c.in-Ok.ensures.given
    (takes-given (λ (log : Log). log) given given seen start (log_answer index (loaded (Until (record { 0 = node })) c.in-Ok.bytes.items)) c.log_from.result refl (subst P c.deref.ensures.value c.log_from.ensures.log))

pub returns-in-Err-clause-given : goal.returns-in-Err-clause-given
returns-in-Err-clause-given g c =
    refused-then (g.R.Reads.given c.args.files.now) (g.R.Reads.given c.read_behind.new.files) (g.R.Reads.seen c.args.files.now) (g.R.Reads.seen c.read_behind.new.files) (g.R.Reads.start c.args.files.now)
    (bytes_behind false c.args.index.now c.args.node.now.0 c.args.first.now) (λ bytes. answer (log_answer c.args.index.now (loaded (Until (record { 0 = c.args.node.now.0 })) bytes))) c.in-Err.refusal c.in-Err.ensures.given
