use Rattle.std.proofs.Common.{◌≡◌, ℕ, Option, None, Err, refl, sym, ◌∙◌, ap, subst}
use Rattle.hgs_revlog.specs.Log.{place_of}
use Rattle.hgs_load.specs.Answer.{is_of_outside}
use Rattle.hgs_load.specs.Asks.{answer}
use Rattle.hgs_load.specs.Given.{GaveRefused}
use Rattle.hgs_reader.specs.Find.{text_at_asks}
use Rattle.hgs_load.specs.Theorems.AskLemmas.{either, grows-refl}
use Rattle.hgs_load.specs.Theorems.GivenLemmas.{gave-none, refused-behind}
use Rattle.hgs_reader.proofs.find.text_in_log.Goals as goal

pub returns-in-None-clause-given : goal.returns-in-None-clause-given
returns-in-None-clause-given g c =
    let given = g.R.Reads.given c.args.files.now in
    let seen = g.R.Reads.seen c.args.files.now in
    let start = g.R.Reads.start c.args.files.now in
    let paths = c.args.paths.now in
    let refusal = c.of_revlog.result in
    let P : Option ℕ → Type 0 = λ place. GaveRefused given given seen start seen (text_at_asks paths.index paths.chunks c.args.log.now place) refusal in
    let none : place_of c.args.log.now.entries c.args.node.now.0 ≡ None = sym c.rev_of.ensures ∙ c.in-None.is in
    let asked = text_at_asks paths.index paths.chunks c.args.log.now None in
    subst P (sym none)
    (refused-behind given given seen seen start asked asked refusal (gave-none given given seen seen start asked refl (grows-refl seen)) (either (is_of_outside refusal) _ _ (λ h. ap (λ e. answer (Err e)) h) c.of_revlog.ensures.refusal))
