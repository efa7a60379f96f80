use Rattle.std.proofs.Common.{◌≡◌, ◌<◌, ◌+◌, ◌∙◌, sym, ap, subst, length, get_or, take, List, ◌++◌, ◌∷◌, []}
use Rattle.std.specs.Prelude.{Option, Some, None}
use Rattle.std.proofs.lemmas.List.{with_items_is}
use Rattle.hgs_findings.specs.Namings as findings
use Rattle.hgs_judge.specs.Kinds.{AreStandings, naming_in, namings_in}
use Rattle.hgs_judge.proofs.KindsLemmas.{none-noted, namings-more, namings-count}
use Rattle.hgs_judge.proofs.kinds.standings.Goals as goal
use Rattle.hgs_judge.proofs.kinds.standings.Goals.{in-Some, in_default}

pub loop-changeset-preserved : goal.loop-changeset-preserved
loop-changeset-preserved c =
    let i = c.loop-changeset.changeset in
    let before = c.loop-changeset.invariant in
    let within : i < length c.args.namings.now = c.loop-changeset-test.true in
    let front : List (Option findings.Naming) = namings_in (take i c.args.namings.now) in
    let more : namings_in (take (i + 1) c.args.namings.now) ≡ front ++ naming_in (get_or c.args.namings.now i None) ∷ [] = namings-more c.args.namings.now i within in
    let parents = c.args.parents.now in
    elim c.match-naming.branch [
      | in-Some w ↦
          let all : namings_in (take (i + 1) c.args.namings.now) ≡ front ++ naming_in (Some w.in-Some.naming) ∷ [] = more ∙ ap (λ n. front ++ naming_in n ∷ []) w.in-Some.is in
          let start : AreStandings front parents w.deref_mut.result.now = subst (λ l. AreStandings front parents l) (sym w.deref_mut.ensures.value) before in
          let noted = w.note.ensures front (namings-count c.args.namings.now i within) start in
          let count : length w.note.new.standings ≡ c.loop-changeset.standings.len = noted.count ∙ sym before.count ∙ sym c.loop-changeset.standings.ok.0 in
          let is : w.note.new.standings ≡ c.match-naming.standings.items = sym (ap (λ v. v.items) w.standings-is ∙ with_items_is c.loop-changeset.standings w.note.new.standings count) in
          subst (λ l. AreStandings l parents c.match-naming.standings.items) (sym all) (subst (λ l. AreStandings (front ++ naming_in (Some w.in-Some.naming) ∷ []) parents l) is noted)
      | in_default w ↦
          let all : namings_in (take (i + 1) c.args.namings.now) ≡ front ++ None ∷ [] = more ∙ ap (λ n. front ++ naming_in n ∷ []) w.in_default.is in
          subst (λ l. AreStandings l parents c.match-naming.standings.items) (sym all) (subst (λ v. AreStandings (front ++ None ∷ []) parents v.items) (sym w.standings-is) (none-noted front parents c.loop-changeset.standings.items before))
    ]
