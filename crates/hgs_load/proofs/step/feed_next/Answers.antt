use Rattle.std.proofs.Common.{Bool, List, ℕ, ◌≤◌, length, Option, Ok, Err, sym, subst}
use Rattle.std.specs.Prelude.{IfSome}
use Rattle.hgs_load.specs.View.{View}
use Rattle.hgs_load.specs.declared.answer.ReadAnswer.{ReadAnswer}
use Rattle.std.proofs.Common.{Result}
use Rattle.std.specs.Option.{option_copied}
use Rattle.hgs_load.specs.Answer.{is_of_outside}
use Rattle.hgs_load.specs.Asks.{Asks, IsPart}
use Rattle.hgs_load.specs.Given.{RisesBy, size_of, Gave, TakesStep}
use Rattle.hgs_load.specs.Load.{asks_of, rest_of}
use Rattle.hgs_load.specs.Theorems.AskLemmas.{either, grows-refl}
use Rattle.hgs_load.specs.Theorems.GivenLemmas.{refused-behind, refused-first, handed-on}
use Rattle.hgs_load.proofs.StepLemmas.{asked_then, asked_on, asked_gave}
use Rattle.hgs_load.proofs.step.feed_next.Goals as goal

pub returns-clause-asked : goal.returns-clause-asked
returns-clause-asked g c =
    let seen = g.R.Reads.seen c.read_part.new.files in
    let start = g.R.Reads.start c.read_part.new.files in
    let P : Option (List ℕ) → Type 0 = λ part. IsPart seen start c.in-Read.path.now c.in-Read.from c.in-Read.most (Ok part) in
    either (is_of_outside c.in-Err.refusal) _ _
    (λ h. asked_then (g.R.Reads.seen c.args.files.now) seen (g.R.Reads.start c.args.files.now) start (asks_of c.args.machine.now) c.in-Read.path c.in-Read.from c.in-Read.most (option_copied c.slice_of.result) (Err c.in-Err.refusal)
    c.in-Read.ensures c.in_ok-part.ensures.seen c.in_ok-part.ensures.same_start (subst P (sym c.slice_of.ensures) c.in_ok-part.ensures.answer) h)
    c.in-Err.ensures.fed

pub returns-in-Ok-clause-asked : goal.returns-in-Ok-clause-asked
returns-in-Ok-clause-asked g c =
    let seen = g.R.Reads.seen c.read_part.new.files in
    let start = g.R.Reads.start c.read_part.new.files in
    let P : Option (List ℕ) → Type 0 = λ part. IsPart seen start c.in-Read.path.now c.in-Read.from c.in-Read.most (Ok part) in
    asked_on (g.R.Reads.seen c.args.files.now) seen (g.R.Reads.start c.args.files.now) start (asks_of c.args.machine.now) (asks_of c.feed.new.self) c.in-Read.path c.in-Read.from c.in-Read.most (option_copied c.slice_of.result)
    c.in-Read.ensures c.in_ok-part.ensures.seen c.in_ok-part.ensures.same_start (subst P (sym c.slice_of.ensures) c.in_ok-part.ensures.answer) c.in-Ok.ensures.fed

pub returns-clause-given : goal.returns-clause-given
returns-clause-given g c =
    let seen = g.R.Reads.seen c.read_part.new.files in
    let start = g.R.Reads.start c.read_part.new.files in
    let was = g.R.Reads.seen c.args.files.now in
    let begun = g.R.Reads.start c.args.files.now in
    let given = g.R.Reads.given c.args.files.now in
    let now = g.R.Reads.given c.read_part.new.files in
    let part = option_copied c.slice_of.result in
    let P : Option (List ℕ) → Type 0 = λ part. IsPart seen start c.in-Read.path.now c.in-Read.from c.in-Read.most (Ok part) in
    let C : Option (List ℕ) → Type 0 = λ part. RisesBy given now (size_of part) in
    let S : Option (List ℕ) → Type 0 = λ part. IfSome part (λ bytes. length bytes ≤ c.in-Read.most) in
    let e = c.in_ok-part.ensures in
    let gave = asked_gave given now was seen begun start (asks_of c.args.machine.now) c.in-Read.path c.in-Read.from c.in-Read.most part c.in-Read.ensures e.seen e.same_start (subst C (sym c.slice_of.ensures) e.given) (subst S (sym c.slice_of.ensures) e.short) (subst P (sym c.slice_of.ensures) e.answer) in
    refused-behind given now was seen begun (asks_of c.args.machine.now) (rest_of (asks_of c.args.machine.now) part) c.in-Err.refusal gave c.in-Err.ensures.fed

pub returns-in-Ok-clause-given : goal.returns-in-Ok-clause-given
returns-in-Ok-clause-given g c =
    let seen = g.R.Reads.seen c.read_part.new.files in
    let start = g.R.Reads.start c.read_part.new.files in
    let was = g.R.Reads.seen c.args.files.now in
    let begun = g.R.Reads.start c.args.files.now in
    let given = g.R.Reads.given c.args.files.now in
    let now = g.R.Reads.given c.read_part.new.files in
    let part = option_copied c.slice_of.result in
    let P : Option (List ℕ) → Type 0 = λ part. IsPart seen start c.in-Read.path.now c.in-Read.from c.in-Read.most (Ok part) in
    let C : Option (List ℕ) → Type 0 = λ part. RisesBy given now (size_of part) in
    let S : Option (List ℕ) → Type 0 = λ part. IfSome part (λ bytes. length bytes ≤ c.in-Read.most) in
    let e = c.in_ok-part.ensures in
    let gave = asked_gave given now was seen begun start (asks_of c.args.machine.now) c.in-Read.path c.in-Read.from c.in-Read.most part c.in-Read.ensures e.seen e.same_start (subst C (sym c.slice_of.ensures) e.given) (subst S (sym c.slice_of.ensures) e.short) (subst P (sym c.slice_of.ensures) e.answer) in
    let Q : Asks (Result View ReadAnswer) → Type 0 = λ left. Gave given now was begun seen (asks_of c.args.machine.now) left in
    subst Q (sym c.in-Ok.ensures.fed) gave

pub returns-in_err-part-clause-given : goal.returns-in_err-part-clause-given
returns-in_err-part-clause-given g c =
    let q = asks_of c.args.machine.now in
    let P : Result Bool ReadAnswer → Type 0 = λ r. TakesStep (g.R.Reads.given c.args.files.now) (g.R.Reads.given c.read_part.new.files) (g.R.Reads.seen c.args.files.now) (g.R.Reads.start c.args.files.now) (g.R.Reads.seen c.read_part.new.files) q q r in
    handed-on P c.from_residual.result c.in_err-part.field-0.0 c.from_residual.ensures.0 c.from_residual.ensures.1 (refused-first (g.R.Reads.given c.args.files.now) (g.R.Reads.given c.read_part.new.files) (g.R.Reads.seen c.args.files.now) (g.R.Reads.seen c.read_part.new.files) (g.R.Reads.start c.args.files.now) q c.in_err-part.field-0.0 c.in_err-part.ensures.answer c.in_err-part.ensures.given c.in_err-part.ensures.seen)

pub returns-in-Ok-clause-beyond : goal.returns-in-Ok-clause-beyond
returns-in-Ok-clause-beyond g c =
    let seen = g.R.Reads.seen c.read_part.new.files in
    let start = g.R.Reads.start c.read_part.new.files in
    let P : Option (List ℕ) → Type 0 = λ part. IsPart seen start c.in-Read.path.now c.in-Read.from c.in-Read.most (Ok part) in
    let e = c.in_ok-part.ensures in (
      e.beyond,
      asked_on seen seen (g.R.Reads.start c.args.files.now) start (asks_of c.args.machine.now) (asks_of c.feed.new.self) c.in-Read.path c.in-Read.from c.in-Read.most (option_copied c.slice_of.result)
          c.in-Read.ensures (grows-refl seen) e.same_start (subst P (sym c.slice_of.ensures) e.answer) c.in-Ok.ensures.fed,
    )

pub returns-clause-beyond : goal.returns-clause-beyond
returns-clause-beyond g c =
    let seen = g.R.Reads.seen c.read_part.new.files in
    let start = g.R.Reads.start c.read_part.new.files in
    let P : Option (List ℕ) → Type 0 = λ part. IsPart seen start c.in-Read.path.now c.in-Read.from c.in-Read.most (Ok part) in
    let e = c.in_ok-part.ensures in
    either (is_of_outside c.in-Err.refusal) _ _
    (λ h. (
      e.beyond,
      asked_then seen seen (g.R.Reads.start c.args.files.now) start (asks_of c.args.machine.now) c.in-Read.path c.in-Read.from c.in-Read.most (option_copied c.slice_of.result) (Err c.in-Err.refusal)
          c.in-Read.ensures (grows-refl seen) e.same_start (subst P (sym c.slice_of.ensures) e.answer) h,
    ))
    c.in-Err.ensures.fed
