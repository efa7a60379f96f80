use Rattle.std.proofs.Common.{ap, subst}
use Rattle.std.specs.Prelude.{flat_map, OnOk, map}
use Rattle.hgs_transaction.specs.declared.parts.Change.TheVariants.{Replace}
use Rattle.hgs_writer.specs.Joined.{laying}
use Rattle.hgs_writer.specs.Layered.{Lays}
use Rattle.hgs_writer.proofs.LaysLemmas.{parts-answer}
use Rattle.hgs_writer.proofs.import.lay_all.Goals as goal

pub returns-clause-lays : goal.returns-clause-lays
returns-clause-lays g c =
    let p = c.args.parts in
    parts-answer c.lay_texts.result c.args.overlay.now.layers c.lay_changes.new.overlay.layers c.lay.new.overlay.layers c.lay_texts.new.overlay.layers p.before p.publishing p.after
    (subst (λ l. Lays c.args.overlay.now.layers c.lay_changes.new.overlay.layers (flat_map laying l)) c.into_vec.ensures c.in_ok-lay_changes.ensures.lays)
    c.in_ok-lay.ensures.lays
    (subst (λ l. OnOk c.lay_texts.result (Lays c.lay.new.overlay.layers c.lay_texts.new.overlay.layers (flat_map laying (map (λ x. Replace x) l)))) c.into_vec-2.ensures c.lay_texts.ensures.lays)
