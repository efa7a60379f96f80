use Rattle.std.proofs.Common.{List, ℕ, false}
use Rattle.hgs_revlog.specs.Log.{Log, place_of}
use Rattle.hgs_revlog.specs.declared.fault.Tail.TheVariants.{Until}
use Rattle.hgs_revlog.specs.Load.{loaded}
use Rattle.hgs_load.specs.Asks.{answer, then_asks}
use Rattle.hgs_load.specs.View.{log_answer}
use Rattle.hgs_reader.specs.Find.{bytes_behind, text_at_asks}
use Rattle.hgs_load.specs.Theorems.GivenLemmas.{takes-then, refused-then}
use Rattle.hgs_load.specs.Theorems.AskLemmas.{answers-then, answers-refused, grows-trans}
use Rattle.hgs_reader.proofs.find.separate_text.Goals as goal

pub returns-in-Ok-clause-answer : goal.returns-in-Ok-clause-answer
returns-in-Ok-clause-answer g c =
    let paths = c.args.paths.now in
    let node = c.args.node.now.0 in
    answers-then (λ (log : Log). log) (λ (text : List ℕ). text) (g.R.Reads.seen c.args.files.now) (g.R.Reads.seen c.load_behind.new.files) (g.R.Reads.seen c.text_in_log.new.files) (g.R.Reads.start c.args.files.now) (g.R.Reads.start c.load_behind.new.files)
    (then_asks (bytes_behind false paths.index node c.args.first.now) (λ bytes. answer (log_answer paths.index (loaded (Until (record { 0 = node })) bytes)))) (λ log. text_at_asks paths.index paths.chunks log (place_of log.entries node)) c.in-Ok.log c.text_in_log.result
    c.in-Ok.ensures.seen c.in-Ok.ensures.same_start c.in-Ok.ensures.answer c.text_in_log.ensures.answer

pub returns-in-Err-clause-answer : goal.returns-in-Err-clause-answer
returns-in-Err-clause-answer g c =
    let paths = c.args.paths.now in
    let node = c.args.node.now.0 in
    answers-refused (λ (log : Log). log) (λ (text : List ℕ). text) (g.R.Reads.seen c.args.files.now) (g.R.Reads.seen c.load_behind.new.files) (g.R.Reads.start c.args.files.now)
    (then_asks (bytes_behind false paths.index node c.args.first.now) (λ bytes. answer (log_answer paths.index (loaded (Until (record { 0 = node })) bytes)))) (λ log. text_at_asks paths.index paths.chunks log (place_of log.entries node)) c.in-Err.refusal c.in-Err.ensures.answer

pub returns-in-Ok-clause-given : goal.returns-in-Ok-clause-given
returns-in-Ok-clause-given g c =
    let paths = c.args.paths.now in
    let node = c.args.node.now.0 in
    takes-then (λ (log : Log). log) (λ (text : List ℕ). text) (g.R.Reads.given c.args.files.now) (g.R.Reads.given c.load_behind.new.files) (g.R.Reads.given c.text_in_log.new.files) (g.R.Reads.seen c.args.files.now) (g.R.Reads.seen c.load_behind.new.files) (g.R.Reads.seen c.text_in_log.new.files) (g.R.Reads.start c.args.files.now) (g.R.Reads.start c.load_behind.new.files)
    (then_asks (bytes_behind false paths.index node c.args.first.now) (λ bytes. answer (log_answer paths.index (loaded (Until (record { 0 = node })) bytes)))) (λ log. text_at_asks paths.index paths.chunks log (place_of log.entries node)) c.in-Ok.log c.text_in_log.result
    c.in-Ok.ensures.same_start c.in-Ok.ensures.given c.text_in_log.ensures.given

pub returns-in-Err-clause-given : goal.returns-in-Err-clause-given
returns-in-Err-clause-given g c =
    let paths = c.args.paths.now in
    let node = c.args.node.now.0 in
    refused-then (g.R.Reads.given c.args.files.now) (g.R.Reads.given c.load_behind.new.files) (g.R.Reads.seen c.args.files.now) (g.R.Reads.seen c.load_behind.new.files) (g.R.Reads.start c.args.files.now)
    (then_asks (bytes_behind false paths.index node c.args.first.now) (λ bytes. answer (log_answer paths.index (loaded (Until (record { 0 = node })) bytes)))) (λ log. text_at_asks paths.index paths.chunks log (place_of log.entries node)) c.in-Err.refusal c.in-Err.ensures.given

pub returns-in-Ok-clause-seen : goal.returns-in-Ok-clause-seen
returns-in-Ok-clause-seen g c = grows-trans (g.R.Reads.seen c.args.files.now) (g.R.Reads.seen c.load_behind.new.files) (g.R.Reads.seen c.text_in_log.new.files) c.in-Ok.ensures.seen c.text_in_log.ensures.seen
