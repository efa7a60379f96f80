use Rattle.std.proofs.Common.{◌≡◌, ◌∙◌, ap, subst}
use Rattle.hgs_findings.specs.Reading.{sight_of}
use Rattle.hgs_findings.specs.Regular.{used_paths}
use Rattle.std.specs.Prelude.{⊤, Ok, Err}
use Rattle.std.specs.Bool.{MatchBool}
use Rattle.hgs_load.specs.Answer.{is_of_outside}
use Rattle.hgs_load.specs.Whole.{within}
use Rattle.hgs_verify.specs.Looked.{OfTree}
use Rattle.hgs_verify.specs.Refusal.{IsLimited, most_fncache}
use Rattle.hgs_verify.proofs.RefusalLemmas.{at-err, names-long, text-limited}
use Rattle.hgs_judge.specs.Report.{findings_in}
use Rattle.hgs_report.specs.Adds.{Adds}
use Rattle.hgs_report.specs.Names.{AreInline, IsOfNames, unused_in}
use Rattle.hgs_stands.specs.Places.{fncache_path}
use Rattle.hgs_verify.proofs.PathAdded.{if-each}
use Rattle.hgs_verify.proofs.TextLemmas.{bytes-are}
use Rattle.hgs_verify.proofs.WithinLemmas.{text-short}
use Rattle.hgs_verify.proofs.texts.add_names_file.Goals as goal

pub returns-clause-added : goal.returns-clause-added
returns-clause-added g c = λ alone.
    let old = findings_in c.args.into.now.items in
    let new = findings_in c.add_used_names.new.into.items in
    if-each (g.R.Reads.seen c.read_text.new.files) (g.R.Reads.start c.read_text.new.files) (λ t. c.in_ok-text.text ≡ t c.in_ok-path.path) (λ t. c.args.used.now.keys ≡ used_paths (sight_of t) → AreInline t c.args.inline.now.keys → Adds t (IsOfNames t) old new × (c.in_ok-unused.unused.items ≡ unused_in t))
    (λ t p used inlined. let text = bytes-are fncache_path t c.in_ok-text.text c.bytes_of.result.now c.bytes_of.ensures (p ∙ ap t c.in_ok-path.ensures) in (c.in_ok-unused.ensures.found t text used inlined, c.in_ok-unused.ensures.unused t text used)) c.in_ok-text.ensures.bytes

pub returns-in_err-text-clause-why : goal.returns-in_err-text-clause-why
returns-in_err-text-clause-why g c =
    let seen = g.R.Reads.seen c.read_text.new.files in
    let start = g.R.Reads.start c.read_text.new.files in
    let path = c.in_ok-path.path in
    let e = c.in_err-text.field-0.0 in
    at-err c.from_residual-in_err-text.result e (λ x. OfTree g.R.Reads.alone seen start (IsLimited x)) c.from_residual-in_err-text.ensures.0 c.from_residual-in_err-text.ensures.1
    (λ alone.
    if-each seen start (λ t. MatchBool (is_of_outside e) ⊤ (within most_fncache Ok (t path) ≡ Err e)) (IsLimited e)
    (λ t p. text-limited most_fncache fncache_path e t (names-long t) (subst (λ x. MatchBool (is_of_outside e) ⊤ (within most_fncache Ok (t x) ≡ Err e)) c.in_ok-path.ensures p))
    (c.in_err-text.ensures.given alone))

pub returns-clause-short : goal.returns-clause-short
returns-clause-short g c = λ alone.
    text-short (g.R.Reads.seen c.read_text.new.files) (g.R.Reads.start c.read_text.new.files) most_fncache c.in_ok-path.path fncache_path c.in_ok-text.text c.in_ok-path.ensures (c.in_ok-text.ensures.given alone)
