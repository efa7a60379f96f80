use Rattle.std.proofs.Common.{◌≡◌, ◌≤◌, Some, length, refl, sym, ◌∙◌, ap, subst}
use Rattle.std.specs.Prelude.{IfSome, slice_get}
use Rattle.std.specs.Option.{option_copied}
use Rattle.hgs_index.specs.Revision.{Revision}
use Rattle.hgs_revlog.specs.Log.{place_of}
use Rattle.hgs_revlog.specs.Text.{text_of}
use Rattle.hgs_revlog.specs.Add.{next_entry, added, added_at, matched}
use Rattle.hgs_revlog.specs.Theorems.AddLemmas.{chunk_within, copied_or}
use Rattle.hgs_revlog.specs.Theorems.LoadLemmas.{gives}
use Rattle.hgs_revlog.proofs.revlog.Revlog.add.Goals as goal

pub matched-requires-clause-within : goal.matched-requires-clause-within
matched-requires-clause-within c =
    let es = c.args.self.now.entries in
    let r : Revision = record { text = c.args.text.now; parents = (c.args.p1, c.args.p2); link = c.args.link } in
    let node : c.node_of-node.result.0 ≡ (next_entry es r).node.0 = cc in
    let place : place_of es (next_entry es r).node.0 ≡ Some c.in-Some.rev = ap (place_of es) (sym node) ∙ sym c.rev_of.ensures ∙ c.in-Some.is in
    let chunk = ap (λ x. x.now) c.unwrap_or.ensures ∙ copied_or c.args.standing _ refl in
    subst (λ b. IfSome (slice_get es c.in-Some.rev) (λ e. length b ≤ e.stored)) (sym chunk)
    (chunk_within es (place_of es (next_entry es r).node.0) c.in-Some.rev (option_copied c.args.standing) place c.requires.standing)

pub returns-in-Some : goal.returns-in-Some
returns-in-Some c =
    let log = c.args.self.now in
    let es = c.args.self.now.entries in
    let r : Revision = record { text = c.args.text.now; parents = (c.args.p1, c.args.p2); link = c.args.link } in
    let node : c.node_of-node.result.0 ≡ (next_entry es r).node.0 = cc in
    let place : place_of es (next_entry es r).node.0 ≡ Some c.in-Some.rev = ap (place_of es) (sym node) ∙ sym c.rev_of.ensures ∙ c.in-Some.is in
    let chunk = ap (λ x. x.now) c.unwrap_or.ensures ∙ copied_or c.args.standing _ refl in
    gives c.matched.result (added log r (option_copied c.args.standing))
    (ap (added_at log r (option_copied c.args.standing)) place
    ∙ ap (λ b. matched log r.text r.parents c.in-Some.rev (text_of es c.in-Some.rev b)) (sym chunk)
    ∙ sym c.matched.ensures)
