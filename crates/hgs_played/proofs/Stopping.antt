-- What a writer has published that is stopped.
use Rattle.std.proofs.Common.{◌≡◌, ◌⊎◌, ℕ, zero, suc, ◌-◌, ◌<◌, ◌≤◌, List, [], ◌∷◌, ◌++◌, length, take, drop, refl, sym, ◌∙◌, ap, subst, append-nil, Bool, true, false, inl, inr, arith}
use Rattle.std.proofs.lemmas.List.{length-drop}
use Rattle.std.proofs.Common.{take_all}
use Rattle.std.proofs.lemmas.Bool.Decides.{nat_tests}
use Rattle.std.specs.Prelude.{Some, None, ◌&&◌, ◌||◌, nat_le, nat_lt, slice_get}
use Rattle.hgs_files.specs.Log.{IsDone, append_of_rest}
use Rattle.hgs_files.specs.declared.op.Op.{Op}
use Rattle.hgs_files.specs.declared.op.Op.TheVariants as ops
use Rattle.hgs_files.specs.Tree.{Tree, after_all}
use Rattle.hgs_legal.specs.LegalLog.{State, current}
use Rattle.hgs_legal.specs.ListsPaths.{ListsPaths}
use Rattle.hgs_machine.specs.Asked.{Doing, Ending, Question, Sizing, asked, asks_size_in, is_size_asked_of, op_at, question_of}
use Rattle.hgs_machine.specs.Fed.{fed_done, fed_failed, is_published, is_published_at, is_publishing, is_publishing_at}
use Rattle.hgs_machine.specs.Planned.{Publishes}
use Rattle.hgs_machine.specs.SoFar.{IsAt, SoFar}
use Rattle.hgs_machine.specs.declared.machine.Machine.{Machine}
use Rattle.hgs_machine.specs.declared.machine.Stage.{Stage}
use Rattle.hgs_machine.specs.declared.machine.Stage.TheVariants as stages
use Rattle.hgs_model.specs.Valid.{IsValid}
use Rattle.hgs_model.specs.declared.command.Command.{Command}
use Rattle.hgs_stands.specs.Stands.{Stands}
use Rattle.hgs_writer.specs.Turns.{IsAtRest}
use Rattle.hgs_world.specs.Moments.{HasCome}
use Rattle.hgs_world.specs.Parts.{DoesPart, DoesRest}
use Rattle.hgs_world.specs.Working.{Acts, Does, IsSizing, OfOperation, Sizes, StopsWithin, asks_rest, at_machine, failed, is_part, no_more, publishes_with, wholly, with_part}
use Rattle.hgs_world.specs.declared.working.Deed.{Deed}
use Rattle.hgs_world.specs.declared.working.Deed.TheVariants.{All, Part, Fail}
use Rattle.hgs_world.specs.declared.working.Working.{Working}
use Rattle.hgs_played.specs.Below.{Calling, Going}
use Rattle.hgs_played.specs.Since.{IsSure, one_if}
use Rattle.hgs_played.proofs.Ending.{IsNotAsking, Leads, asked_at_publish, leads_at}
use Rattle.hgs_played.proofs.Going.{done_sure, failed_sure, no_sizes, no_sizes_end, sizes_onward}

-- ---- stages

abbrev IsNotPublishing : Stage → Type 0
IsNotPublishing stages.Publishing = ⊥
IsNotPublishing _ = Unit {0}

publishing_or_not : (s : Stage) → (s ≡ stages.Publishing) ⊎ (IsNotPublishing s × (is_publishing_at s ≡ false))
publishing_or_not stages.Publishing = inl refl
publishing_or_not stages.Preparing = inr (tt, refl)
publishing_or_not stages.Beginning = inr (tt, refl)
publishing_or_not stages.Working = inr (tt, refl)
publishing_or_not stages.Asking = inr (tt, refl)
publishing_or_not stages.Finishing = inr (tt, refl)
publishing_or_not stages.Undoing = inr (tt, refl)
publishing_or_not stages.Sweeping = inr (tt, refl)
publishing_or_not stages.Removing = inr (tt, refl)

-- where another operation fails, as much is published as before
failed_keeps : (s : Stage) (m : Machine) → IsNotPublishing s → IsNotAsking s → IsNotAsking (fed_failed s m).stage × (is_published (fed_failed s m) ≡ is_published_at s m.outcome)
failed_keeps stages.Publishing m apart not = absurd apart
failed_keeps stages.Asking m apart not = absurd not
failed_keeps stages.Preparing m apart not = (tt, refl)
failed_keeps stages.Beginning m apart not = (tt, refl)
failed_keeps stages.Working m apart not = (tt, refl)
failed_keeps stages.Finishing m apart not = (tt, refl)
failed_keeps stages.Undoing m apart not = (tt, refl)
failed_keeps stages.Sweeping m apart not = (tt, refl)
failed_keeps stages.Removing m apart not = (tt, refl)

or_no : (a b : Bool) → b ≡ false → (a || b) ≡ a
or_no true b e = refl
or_no false b e = e

no_and : (a b : Bool) → a ≡ false → (a && b) ≡ false
no_and a b e = ap (λ x. x && b) e

and_no : (a : Bool) → (a && false) ≡ false
and_no true = refl
and_no false = refl

le_by : (a b : ℕ) → nat_le a b ≡ true → a ≤ b
le_by a b h = grind (arith, nat_tests)

lt_by_not : (a b : ℕ) → nat_le a b ≡ false → nat_lt b a ≡ true
lt_by_not a b h = grind (arith, nat_tests)

is_lt : (a b : ℕ) → a < b → nat_lt a b ≡ true
is_lt a b h = grind (arith, nat_tests)

-- ---- the rest of an append

whole_rest : (path bytes : List ℕ) (part count : ℕ) (more : List Op) → 0 < length bytes → length bytes - part ≤ count → DoesPart (ops.Append path bytes) part count more → DoesRest (ops.Append path bytes) part more
whole_rest path [] part count more some le d = absurd (omega (arith, some))
whole_rest path (b ∷ bytes) zero count more some le d =
    let all : take count (b ∷ bytes) ≡ b ∷ bytes = take_all count (b ∷ bytes) (omega (arith, le)) in
    subst (λ l. IsDone (append_of_rest path l) more []) all d
whole_rest path (b ∷ bytes) (suc n) count more some le d =
    let e = length-drop (suc n) (b ∷ bytes) in
    let all : take count (drop (suc n) (b ∷ bytes)) ≡ drop (suc n) (b ∷ bytes) = take_all count (drop (suc n) (b ∷ bytes)) (omega (arith, le, e)) in
    subst (λ l. IsDone (append_of_rest path l) more []) all d

none_done : (path bytes : List ℕ) (part : ℕ) (more : List Op) → DoesPart (ops.Append path bytes) part 0 more → more ≡ []
none_done path bytes part [] d = refl
none_done path bytes part (op ∷ more) d = absurd d.1

yes_or : (a b : Bool) → a ≡ true → (a || b) ≡ true
yes_or a b e = ap (λ x. x || b) e

-- what was published stays so
pub publishes_on : Going → (count : ℕ) (t : Tree) (w after : Working) (more : List Op) → StopsWithin count t w more after → is_published w.machine ≡ true → publishes_with count after ≡ true
publishes_on g count t w after more h e = yes_or (is_published after.machine) (is_publishing after.machine && asks_rest (asked after.machine) after.part count) ((sizes_onward g t w.machine after.machine h.next.sizes).published e)

-- ---- a stop

module _ (g : Going) (c : Calling) (s : State) (command : Command) (rest : IsAtRest None s) (stands : Stands s.files (current s)) (valid : IsValid command) (lists : ListsPaths s.files (current s))
    (w : Working) (done : List Op) (come : HasCome command s.files w done) (sure : IsSure w.machine.outcome) (sized : IsSizing (asked w.machine) → ⊥) (not : IsNotAsking w.machine.stage) where
  abbrev m : Machine
  m = w.machine

  acts : (deed : Deed) (op : Op) (more : List Op) (after : Working) → asked m ≡ Doing op → Does deed op w more after → Acts deed (after_all done s.files) w more after
  acts deed op more after e d =
      record { machine = m; next = record { sizes = no_more; no_more = sized }; does = subst (λ q. OfOperation q (λ o. Does deed o w more after) ((more ≡ []) × (after ≡ w))) (sym e) d }

  same : (more : List Op) → more ≡ [] → Leads s (done ++ more) (one_if (is_published m) command)
  same more e = subst (λ l. Leads s l (one_if (is_published m) command)) (sym (ap (λ l. done ++ l) e ∙ append-nil done)) (leads_at g c s command w done rest stands valid lists come sure not)

  -- the operation does not publish
  other : (op : Op) (count : ℕ) (more : List Op) → asked m ≡ Doing op → IsNotPublishing m.stage → DoesPart op w.part count more → Leads s (done ++ more) (one_if (is_published m) command)
  other op count more e apart d =
      let h = g.acts command s.files w done (Fail count) more (failed w) come tt (acts (Fail count) op more (failed w) e (d, refl)) in
      let keeps = failed_keeps m.stage m apart not in
      subst (λ b. Leads s (done ++ more) (one_if b command)) keeps.1 (leads_at g c s command (failed w) (done ++ more) rest stands valid lists h (failed_sure m.stage m sure) keeps.0)

  -- it publishes
  by_rest : (path bytes : List ℕ) (count : ℕ) (more : List Op) (b : Bool) → asked m ≡ Doing (ops.Append path bytes) → m.stage ≡ stages.Publishing → 0 < length bytes → nat_le (length bytes - w.part) count ≡ b → DoesPart (ops.Append path bytes) w.part count more → Leads s (done ++ more) (one_if b command)
  by_rest path bytes count more true e at some le d =
      let fits : length bytes - w.part ≤ count = le_by (length bytes - w.part) count le in
      let h = g.acts command s.files w done All more (wholly w) come tt (acts All (ops.Append path bytes) more (wholly w) e (whole_rest path bytes w.part count more some fits d, refl)) in
      let after : is_published (wholly w).machine ≡ true = ap (λ x. is_published (fed_done x m)) at in
      let off : IsNotAsking (wholly w).machine.stage = subst (λ x. IsNotAsking (fed_done x m).stage) (sym at) tt in
      subst (λ x. Leads s (done ++ more) (one_if x command)) after (leads_at g c s command (wholly w) (done ++ more) rest stands valid lists h (done_sure m.stage m sure) off)
  by_rest path bytes zero more false e at some le d =
      let unpublished : is_published m ≡ false = ap (λ x. is_published_at x m.outcome) at in
      subst (λ x. Leads s (done ++ more) (one_if x command)) unpublished (same more (none_done path bytes w.part more d))
  by_rest path bytes (suc n) more false e at some le d =
      let unpublished : is_published m ≡ false = ap (λ x. is_published_at x m.outcome) at in
      let fewer : is_part (ops.Append path bytes) w.part (suc n) ≡ true = lt_by_not (length bytes - w.part) (suc n) le in
      let h = g.acts command s.files w done (Part (suc n)) more (with_part w (suc n)) come (omega arith) (acts (Part (suc n)) (ops.Append path bytes) more (with_part w (suc n)) e (inl (fewer, d, refl))) in
      subst (λ x. Leads s (done ++ more) (one_if x command)) unpublished (leads_at g c s command (with_part w (suc n)) (done ++ more) rest stands valid lists h sure not)

  publishing_with : (count : ℕ) (b : Bool) → m.stage ≡ stages.Publishing → asks_rest (asked m) w.part count ≡ b → publishes_with count w ≡ b
  publishing_with count b at e =
      ap (λ x. is_published_at x m.outcome || (is_publishing_at x && asks_rest (asked m) w.part count)) at ∙ e

  publishing : (op : Op) (u : Tree) (before count : ℕ) (more : List Op) → asked m ≡ Doing op → m.stage ≡ stages.Publishing → Publishes u before op → DoesPart op w.part count more → Leads s (done ++ more) (one_if (publishes_with count w) command)
  publishing (ops.Append path bytes) u before count more e at may d =
      let b = nat_le (length bytes - w.part) count in
      let some : nat_lt 0 (length bytes) ≡ true = is_lt 0 (length bytes) may.0 in
      let asks : asks_rest (asked m) w.part count ≡ b = ap (λ q. asks_rest q w.part count) e ∙ ap (λ x. x && b) some in
      subst (λ x. Leads s (done ++ more) (one_if x command)) (sym (publishing_with count b at asks)) (by_rest path bytes count more b e at may.0 refl d)
  publishing (ops.Rename from to) u before count more e at may d =
      let asks : asks_rest (asked m) w.part count ≡ false = ap (λ q. asks_rest q w.part count) e in
      let unpublished : is_published m ≡ false = ap (λ x. is_published_at x m.outcome) at in
      subst (λ x. Leads s (done ++ more) (one_if x command)) (unpublished ∙ sym (publishing_with count false at asks)) (same more d)
  publishing (ops.Cut path len) u before count more e at may d = elim may [ ]
  publishing (ops.Remove path) u before count more e at may d = elim may [ ]
  publishing (ops.Create path bytes) u before count more e at may d = elim may [ ]
  publishing (ops.Sync path) u before count more e at may d = elim may [ ]
  publishing ops.Settle u before count more e at may d = elim may [ ]

  at_publish : (t : Tree) (log : List Op) → SoFar t m log → m.stage ≡ stages.Publishing → (op : Op) × (u : Tree) × (before : ℕ) × (asked m ≡ Doing op) × Publishes u before op
  at_publish t log so at =
      let planned = so.planned in
      let here = subst (λ x. IsAt t m.plan x m.done m.place m.outcome log) at so.here in
      let there : slice_get m.plan.ops.items m.done ≡ Some planned.publishing = ap (slice_get m.plan.ops.items) here.0 ∙ planned.at_publish in
      let is : asked m ≡ Doing planned.publishing =
      ap (λ x. question_of (op_at m.plan x m.done m.place) (λ op. asks_size_in x (is_size_asked_of m op))) at ∙ asked_at_publish (slice_get m.plan.ops.items m.done) planned.publishing there in
      (planned.publishing, after_all (take m.plan.publish m.plan.ops.items) t, m.plan.before, is, planned.publishes)

  stopped : (count : ℕ) (more : List Op) (q : Question) → asked m ≡ q → OfOperation q (λ op. DoesPart op w.part count more) (more ≡ []) → (m.stage ≡ stages.Publishing) ⊎ (IsNotPublishing m.stage × (is_publishing m ≡ false)) → Leads s (done ++ more) (one_if (publishes_with count w) command)
  stopped count more (Doing op) e d (inr apart) =
      let as_was : publishes_with count w ≡ is_published m = or_no (is_published m) (is_publishing m && asks_rest (asked m) w.part count) (no_and (is_publishing m) (asks_rest (asked m) w.part count) apart.1) in
      subst (λ x. Leads s (done ++ more) (one_if x command)) (sym as_was) (other op count more e apart.0 d)
  stopped count more (Doing op) e d (inl at) =
      let k = come.worked in
      let p = at_publish (after_all come.locking s.files) k.log k.so_far at in
      let one : Doing op ≡ Doing p.0 = sym e ∙ p.3 in
      let op_is : op ≡ p.0 = cc in
      publishing p.0 p.1 p.2 count more p.3 at p.4 (subst (λ (o : Op). DoesPart o w.part count more) op_is d)
  stopped count more (Sizing path) e d at = absurd (sized (subst IsSizing (sym e) tt))
  stopped count more Ending e d at =
      let asks : asks_rest (asked m) w.part count ≡ false = ap (λ q. asks_rest q w.part count) e in
      let as_was : publishes_with count w ≡ is_published m = or_no (is_published m) (is_publishing m && asks_rest (asked m) w.part count) (ap (λ x. is_publishing m && x) asks ∙ and_no (is_publishing m)) in
      subst (λ x. Leads s (done ++ more) (one_if x command)) (sym as_was) (same more d)

  still : (t : Tree) (n : Machine) (q : Question) → asked m ≡ q → Sizes t m n → n ≡ m
  still t n (Doing op) e h = no_sizes t m n op e h
  still t n (Sizing path) e h = absurd (sized (subst IsSizing (sym e) tt))
  still t n Ending e h = no_sizes_end t m n e h

  -- so many more bytes are done, and nothing more
  pub leads_at_stop : (count : ℕ) (more : List Op) (after : Working) → StopsWithin count (after_all done s.files) w more after → Leads s (done ++ more) (one_if (publishes_with count after) command)
  leads_at_stop count more after h =
      let n : after.machine ≡ m = still (after_all done s.files) after.machine (asked m) refl h.next.sizes in
      let is : after ≡ w = h.is ∙ ap (at_machine w) n in
      let does = subst (λ x. OfOperation (asked x) (λ op. DoesPart op w.part count more) (more ≡ [])) n h.does in
      subst (λ x. Leads s (done ++ more) (one_if (publishes_with count x) command)) (sym is) (stopped count more (asked m) refl does (publishing_or_not m.stage))
