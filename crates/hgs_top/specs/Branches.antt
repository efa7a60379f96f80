-- What `branches` replies, and what it reads.
use Rattle.std.specs.Prelude.{◌≡◌, ℕ, zero, suc, ◌+◌, ◌-◌, ◌==◌, nat_lt, List, length, map, Option, Some, None, Result, Ok, Err, ⊤, if◌then◌else◌}
use Rattle.std.specs.Bool.{MatchBool}
use Rattle.hgs_files.specs.Tree.{Tree}
use Rattle.hgs_branch.specs.Extras.{branch_of}
use Rattle.hgs_branch.specs.Taken.{Taken}
use Rattle.hgs_branch.specs.Text.{branches_text}
use Rattle.hgs_branches.specs.Rest.{branches_from}
use Rattle.hgs_branches.specs.Windows.{changes_asks}
use Rattle.hgs_load.specs.declared.answer.ReadAnswer.{ReadAnswer}
use Rattle.hgs_load.specs.Answer.{is_of_outside}
use Rattle.hgs_load.specs.Asks.{Asks, answer, at_rest, then_asks}
use Rattle.hgs_load.specs.Open.{open_asks}
use Rattle.hgs_load.specs.View.{View}
use Rattle.hgs_model.specs.History.{changeset_nodes}
use Rattle.hgs_model.specs.Repo.{Repo, all_parents}
use Rattle.hgs_phases.specs.Phases.{history_of}
use Rattle.hgs_reader.specs.Line.{change_asks}
use Rattle.hgs_revlog.specs.Log.{nodes_of}
use Rattle.hgs_top.specs.Outcome.{Outcome, refused}

-- ---- what is written

-- the branches of all changesets of a view, or the first of them that is refused
abbrev pub branches_at : Tree → View → Result (List (List ℕ)) ReadAnswer
branches_at t view = branches_from (λ rev. at_rest t (change_asks view rev)) 0 (length view.changelog.entries)

abbrev pub heads_of_view : View → Result (List (List ℕ)) ReadAnswer → Outcome
heads_of_view view (Err e) = refused e
heads_of_view view (Ok names) = record { text = branches_text (history_of view.changelog.entries) names (nodes_of view.changelog.entries); refusal = None }

abbrev pub branches_of_load : Tree → Result View ReadAnswer → Outcome
branches_of_load t (Err e) = refused e
branches_of_load t (Ok view) = heads_of_view view (branches_at t view)

-- what `branches` writes over files at rest: a line for each head of each branch, or nothing where a changeset is damaged
abbrev pub branches_outcome : Tree → Outcome
branches_outcome t = branches_of_load t (at_rest t open_asks)

-- the same of a repository
abbrev pub branches_of_repo : Repo → List ℕ
branches_of_repo r = branches_text (all_parents r.changesets) (map (λ c. branch_of c.extras) r.changesets) (changeset_nodes r.changesets)

-- all changesets were taken, or the first of them that can't be read was refused
abbrev pub TakesAll : Tree → View → Taken → Result Unit ReadAnswer → Type 0
TakesAll t view taken (Ok x) = (taken.parents ≡ history_of view.changelog.entries) × (branches_at t view ≡ Ok taken.names)
TakesAll t view taken (Err e) = MatchBool (is_of_outside e) ⊤ (branches_at t view ≡ Err e)

-- ---- what is read

-- how many changesets are taken at a time, at least one
abbrev pub step_of : ℕ → ℕ
step_of steps = if steps == 0 then 1 else steps

-- the number up to which changesets are taken next: so many more, or all
abbrev pub next_upto : Option ℕ → ℕ → ℕ → ℕ
next_upto None count taken = count
next_upto (Some steps) count taken = if nat_lt (step_of steps) (count - taken) then taken + step_of steps else count

-- all changesets behind so many that were taken, so many at a time, by at most so many calls
abbrev pub steps_asks : View → Option ℕ → ℕ → ℕ → Asks (Result Unit ReadAnswer)
steps_asks view steps taken zero = answer (Ok tt)
steps_asks view steps taken (suc calls) =
    if nat_lt taken (length view.changelog.entries) then then_asks (changes_asks view taken (next_upto steps (length view.changelog.entries) taken)) (λ x. steps_asks view steps (next_upto steps (length view.changelog.entries) taken) calls)
    else answer (Ok tt)

-- all changesets of a view
abbrev pub all_asks : Option ℕ → View → Asks (Result Unit ReadAnswer)
all_asks steps view = steps_asks view steps 0 (length view.changelog.entries)

abbrev pub branches_reads : Option ℕ → Asks (Result Unit ReadAnswer)
branches_reads steps = then_asks open_asks (all_asks steps)
