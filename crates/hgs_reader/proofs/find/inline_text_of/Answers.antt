use Rattle.std.proofs.Common.{List, ℕ, true, Vec, refl, subst}
use Rattle.std.proofs.Common as std_common
use Rattle.hgs_bytes.specs.Answer.{Gives}
use Rattle.hgs_revlog.specs.declared.fault.Tail.TheVariants.{Until}
use Rattle.hgs_revlog.specs.Load.{loaded_either}
use Rattle.hgs_load.specs.Answer.{is_of_outside}
use Rattle.hgs_load.specs.Asks.{answer}
use Rattle.hgs_reader.specs.Find.{bytes_behind, inline_text}
use Rattle.hgs_load.specs.Theorems.GivenLemmas.{takes-then, takes-given, refused-then}
use Rattle.hgs_load.specs.Theorems.AskLemmas.{answers-then, answers-refused, answers-given}
use Rattle.hgs_reader.proofs.find.inline_text_of.Goals as goal

pub returns-in-Ok-clause-answer : goal.returns-in-Ok-clause-answer
returns-in-Ok-clause-answer g c =
    let index = c.args.index.now in
    let node = c.args.node.now.0 in
    let seen = g.R.Reads.seen c.read_behind.new.files in
    let start = g.R.Reads.start c.read_behind.new.files in
    let P : List ℕ → Type 0 = λ bytes. Gives is_of_outside (λ (text : List ℕ). text) c.inline_text.result (inline_text index node bytes (loaded_either (Until (record { 0 = node })) bytes)) in
    answers-then (λ (bytes : Vec ℕ std_common.Global). bytes.items) (λ (text : List ℕ). text) (g.R.Reads.seen c.args.files.now) seen seen (g.R.Reads.start c.args.files.now) start
    (bytes_behind true index node c.args.first.now) (λ bytes. answer (inline_text index node bytes (loaded_either (Until (record { 0 = node })) bytes))) c.in-Ok.bytes c.inline_text.result
    c.in-Ok.ensures.seen c.in-Ok.ensures.same_start c.in-Ok.ensures.answer
    (answers-given (λ (text : List ℕ). text) seen start (inline_text index node c.in-Ok.bytes.items (loaded_either (Until (record { 0 = node })) c.in-Ok.bytes.items)) c.inline_text.result (subst P c.deref.ensures.value c.inline_text.ensures.text))

pub returns-in-Err-clause-answer : goal.returns-in-Err-clause-answer
returns-in-Err-clause-answer g c =
    let index = c.args.index.now in
    let node = c.args.node.now.0 in
    answers-refused (λ (bytes : Vec ℕ std_common.Global). bytes.items) (λ (text : List ℕ). text) (g.R.Reads.seen c.args.files.now) (g.R.Reads.seen c.read_behind.new.files) (g.R.Reads.start c.args.files.now)
    (bytes_behind true index node c.args.first.now) (λ bytes. answer (inline_text index node bytes (loaded_either (Until (record { 0 = node })) bytes))) c.in-Err.refusal c.in-Err.ensures.answer

pub returns-in-Ok-clause-given : goal.returns-in-Ok-clause-given
returns-in-Ok-clause-given g c =
    let index = c.args.index.now in
    let node = c.args.node.now.0 in
    let given = g.R.Reads.given c.read_behind.new.files in
    let seen = g.R.Reads.seen c.read_behind.new.files in
    let start = g.R.Reads.start c.read_behind.new.files in
    let P : List ℕ → Type 0 = λ bytes. Gives is_of_outside (λ (text : List ℕ). text) c.inline_text.result (inline_text index node bytes (loaded_either (Until (record { 0 = node })) bytes)) in
    takes-then (λ (bytes : Vec ℕ std_common.Global). bytes.items) (λ (text : List ℕ). text) (g.R.Reads.given c.args.files.now) given given (g.R.Reads.seen c.args.files.now) seen seen (g.R.Reads.start c.args.files.now) start
    (bytes_behind true index node c.args.first.now) (λ bytes. answer (inline_text index node bytes (loaded_either (Until (record { 0 = node })) bytes))) c.in-Ok.bytes c.inline_text.result
    c.in-Ok.ensures.same_start c.in-Ok.ensures.given
    (takes-given (λ (text : List ℕ). text) given given seen start (inline_text index node c.in-Ok.bytes.items (loaded_either (Until (record { 0 = node })) c.in-Ok.bytes.items)) c.inline_text.result refl (subst P c.deref.ensures.value c.inline_text.ensures.text))

pub returns-in-Err-clause-given : goal.returns-in-Err-clause-given
returns-in-Err-clause-given g c =
    let index = c.args.index.now in
    let node = c.args.node.now.0 in
    refused-then (g.R.Reads.given c.args.files.now) (g.R.Reads.given c.read_behind.new.files) (g.R.Reads.seen c.args.files.now) (g.R.Reads.seen c.read_behind.new.files) (g.R.Reads.start c.args.files.now)
    (bytes_behind true index node c.args.first.now) (λ bytes. answer (inline_text index node bytes (loaded_either (Until (record { 0 = node })) bytes))) c.in-Err.refusal c.in-Err.ensures.given
