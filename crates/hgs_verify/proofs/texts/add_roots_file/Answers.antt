use Rattle.std.proofs.Common.{◌≡◌, ◌∙◌, ap, subst}
use Rattle.std.specs.Prelude.{⊤, Ok, Err}
use Rattle.std.specs.Bool.{MatchBool}
use Rattle.hgs_load.specs.Answer.{is_of_outside}
use Rattle.hgs_load.specs.Open.{most_roots}
use Rattle.hgs_load.specs.Whole.{within}
use Rattle.hgs_verify.specs.Looked.{OfTree}
use Rattle.hgs_verify.specs.Refusal.{IsLimited}
use Rattle.hgs_verify.proofs.RefusalLemmas.{at-err, roots-long, text-limited}
use Rattle.hgs_judge.specs.Report.{findings_in}
use Rattle.hgs_report.specs.Adds.{Adds}
use Rattle.hgs_report.specs.Store.{IsStoreOf}
use Rattle.hgs_report.specs.Texts.{IsOfRoots}
use Rattle.hgs_stands.specs.Places.{roots_path}
use Rattle.hgs_verify.proofs.PathAdded.{if-each}
use Rattle.hgs_verify.proofs.TextLemmas.{bytes-are}
use Rattle.hgs_verify.proofs.WithinLemmas.{text-short}
use Rattle.hgs_verify.proofs.texts.add_roots_file.Goals as goal

pub returns-clause-added : goal.returns-clause-added
returns-clause-added g c = λ alone.
    let old = findings_in c.args.into.now.items in
    let new = findings_in c.add_roots.new.into.items in
    if-each (g.R.Reads.seen c.read_text.new.files) (g.R.Reads.start c.read_text.new.files) (λ t. c.in_ok-text.text ≡ t c.in_ok-path.path) (λ t. IsStoreOf c.args.store.now t → Adds t (IsOfRoots t) old new)
    (λ t p is. c.in_ok-add_roots.ensures t is (bytes-are roots_path t c.in_ok-text.text c.bytes_of.result.now c.bytes_of.ensures (p ∙ ap t c.in_ok-path.ensures))) c.in_ok-text.ensures.bytes

pub returns-in_err-text-clause-why : goal.returns-in_err-text-clause-why
returns-in_err-text-clause-why g c =
    let seen = g.R.Reads.seen c.read_text.new.files in
    let start = g.R.Reads.start c.read_text.new.files in
    let path = c.in_ok-path.path in
    let e = c.in_err-text.field-0.0 in
    at-err c.from_residual-in_err-text.result e (λ x. OfTree g.R.Reads.alone seen start (IsLimited x)) c.from_residual-in_err-text.ensures.0 c.from_residual-in_err-text.ensures.1
    (λ alone.
    if-each seen start (λ t. MatchBool (is_of_outside e) ⊤ (within most_roots Ok (t path) ≡ Err e)) (IsLimited e)
    (λ t p. text-limited most_roots roots_path e t (roots-long t) (subst (λ x. MatchBool (is_of_outside e) ⊤ (within most_roots Ok (t x) ≡ Err e)) c.in_ok-path.ensures p))
    (c.in_err-text.ensures.given alone))

pub returns-clause-short : goal.returns-clause-short
returns-clause-short g c = λ alone.
    text-short (g.R.Reads.seen c.read_text.new.files) (g.R.Reads.start c.read_text.new.files) most_roots c.in_ok-path.path roots_path c.in_ok-text.text c.in_ok-path.ensures (c.in_ok-text.ensures.given alone)
