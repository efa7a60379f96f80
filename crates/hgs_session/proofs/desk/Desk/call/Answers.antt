use Rattle.std.proofs.Common.{ℕ, ◌+◌, set, Bool, false, List, ◌++◌, ◌∷◌, [], ◌≡◌, sym, ◌∙◌, subst}
use Rattle.std.proofs.Math.Logic.{∥∥₁_map}
use Rattle.hgs_files.specs.Files.{GoesOn}
use Rattle.hgs_files.specs.Tree.{Tree, after_all}
use Rattle.hgs_machine.specs.Carry.{tree_now}
use Rattle.std.specs.Prelude.{is_some}
use Rattle.hgs_machine.specs.Refusals.{WereRefused}
use Rattle.hgs_writer.specs.Refusals.{refusals_with}
use Rattle.hgs_writer.specs.Written.{IsWrittenFor}
use Rattle.hgs_session.specs.Calls.{Call, IsCall, Stage, name_of, published_by, unsure_with}
use Rattle.hgs_session.specs.Desk.{StandsAt}
use Rattle.hgs_session.proofs.CallLemmas.{led_more, made_broken, made_more, stage_same}
use Rattle.hgs_session.proofs.desk.Desk.call.Goals as goal

pub write_told-answer-requires-clause-allows : goal.write_told-answer-requires-clause-allows
write_told-answer-requires-clause-allows g c = λ l told answer changeset done written.
    let x = g.N.Naming.begins in
    let desk = c.args.self.now in
    let now : Stage = record { log = g.W.Files.log desk.leader.end; faults = g.W.Reads.faults desk.leader.end; denied = g.W.Reads.denied desk.leader.end } in
    let M : Bool → Type 0 = λ b. ∥ StandsAt x now desk.history desk.published.items desk.unsure b desk.next.items ∥₁ in
    let W : List ℕ → Tree → Type 0 = λ n t. IsWrittenFor n c.args.command.now (after_all l t) answer changeset done in
    let is = subst (λ t. W (name_of c.args.worker c.args.job) t) desk.start (subst (λ n. W n (g.W.Reads.start desk.leader.end)) c.requires.name written) in
    subst (λ t. g.W.Files.allows t (l ++ done)) (sym desk.start)
    (c.requires.allows (l ++ done)
    (∥∥₁_map (subst M c.requires.sound desk.made) (λ s. led_more x now desk.history desk.published.items desk.unsure false desk.next.items c.args.worker c.args.job c.args.command.now answer changeset l done s c.requires.may c.requires.job told is)))

pub returns-clause-made : goal.returns-clause-made
returns-clause-made g c =
    let x = g.N.Naming.begins in
    let desk = c.args.self.now in
    let w = c.write_told-answer in
    let now : Stage = record { log = g.W.Files.log c.args.self.now.leader.end; faults = g.W.Reads.faults c.args.self.now.leader.end; denied = g.W.Reads.denied c.args.self.now.leader.end } in
    let next : Stage = record { log = g.W.Files.log c.write_told-answer.new.files.end; faults = g.W.Reads.faults c.write_told-answer.new.files.end; denied = g.W.Reads.denied c.write_told-answer.new.files.end } in
    let call : Call = record { worker = c.args.worker; job = c.args.job; answer = w.result.answer; changeset = w.result.changeset; log = g.W.Front.Told.log c.front.result } in
    let P : List ℕ → Type 0 = λ n. GoesOn now.log next.log (IsWrittenFor n c.args.command.now (tree_now now.log (g.W.Reads.start c.args.self.now.leader.end)) w.result.answer w.result.changeset) in
    let Q : Tree → Type 0 = λ t. GoesOn now.log next.log (IsWrittenFor (name_of c.args.worker c.args.job) c.args.command.now (tree_now now.log t) w.result.answer w.result.changeset) in
    let V : Tree → Type 0 = λ t. GoesOn now.log next.log (λ done. WereRefused (refusals_with (is_some now.log) w.result.answer.outcome w.result.changeset (tree_now now.log t) done) now.faults next.faults now.denied next.denied) in
    let is_call : IsCall x now call next = record {
      command = c.args.command.now;
      job = c.requires.job;
      log = subst Q desk.start (subst P c.requires.name w.ensures.log);
      behind = c.front.ensures.told;
      fault = w.ensures.fault;
      refused = w.ensures.calls;
      left = subst V desk.start w.ensures.left;
      faults = w.ensures.later;
      denied = w.ensures.denied;
    } in
    let M : Bool → Type 0 = λ b. ∥ StandsAt x now desk.history desk.published.items desk.unsure b desk.next.items ∥₁ in
    let made = ∥∥₁_map (subst M c.requires.sound desk.made) (λ s. made_more x now next desk.history desk.published.items desk.unsure call desk.next.items s c.requires.may is_call) in
    let then : Stage = record { log = g.W.Files.log c.front.new.self.end; faults = g.W.Reads.faults c.front.new.self.end; denied = g.W.Reads.denied c.front.new.self.end } in
    let f = c.front.ensures in
    let same : next ≡ then = stage_same next then (sym f.same_log) (sym f.same_faults) (sym f.same_denied) in
    subst (λ (s : Stage). ∥ StandsAt x s (desk.history ++ call ∷ []) (desk.published.items ++ published_by call) (unsure_with desk.unsure call) false (set desk.next.items c.args.worker (c.args.job + 1)) ∥₁) same made

pub invariant_of-self : goal.invariant_of-self
invariant_of-self g c =
    let x = g.N.Naming.begins in
    let desk = c.args.self.now in
    let w = c.write_told-answer in
    let now : Stage = record { log = g.W.Files.log c.args.self.now.leader.end; faults = g.W.Reads.faults c.args.self.now.leader.end; denied = g.W.Reads.denied c.args.self.now.leader.end } in
    let next : Stage = record { log = g.W.Files.log c.write_told-answer.new.files.end; faults = g.W.Reads.faults c.write_told-answer.new.files.end; denied = g.W.Reads.denied c.write_told-answer.new.files.end } in
    let call : Call = record { worker = c.args.worker; job = c.args.job; answer = w.result.answer; changeset = w.result.changeset; log = g.W.Front.Told.log c.front.result } in
    let P : List ℕ → Type 0 = λ n. GoesOn now.log next.log (IsWrittenFor n c.args.command.now (tree_now now.log (g.W.Reads.start c.args.self.now.leader.end)) w.result.answer w.result.changeset) in
    let Q : Tree → Type 0 = λ t. GoesOn now.log next.log (IsWrittenFor (name_of c.args.worker c.args.job) c.args.command.now (tree_now now.log t) w.result.answer w.result.changeset) in
    let V : Tree → Type 0 = λ t. GoesOn now.log next.log (λ done. WereRefused (refusals_with (is_some now.log) w.result.answer.outcome w.result.changeset (tree_now now.log t) done) now.faults next.faults now.denied next.denied) in
    let is_call : IsCall x now call next = record {
      command = c.args.command.now;
      job = c.requires.job;
      log = subst Q desk.start (subst P c.requires.name w.ensures.log);
      behind = c.front.ensures.told;
      fault = w.ensures.fault;
      refused = w.ensures.calls;
      left = subst V desk.start w.ensures.left;
      faults = w.ensures.later;
      denied = w.ensures.denied;
    } in
    let M : Bool → Type 0 = λ b. ∥ StandsAt x now desk.history desk.published.items desk.unsure b desk.next.items ∥₁ in
    let made = ∥∥₁_map (subst M c.requires.sound desk.made) (λ s. made_more x now next desk.history desk.published.items desk.unsure call desk.next.items s c.requires.may is_call) in
    let then : Stage = record { log = g.W.Files.log c.front.new.self.end; faults = g.W.Reads.faults c.front.new.self.end; denied = g.W.Reads.denied c.front.new.self.end } in
    let f = c.front.ensures in
    let same : next ≡ then = stage_same next then (sym f.same_log) (sym f.same_faults) (sym f.same_denied) in
    record {
      start = f.same_start ∙ (w.ensures.same_start ∙ desk.start);
      made = ∥∥₁_map (subst (λ (s : Stage). ∥ StandsAt x s (desk.history ++ call ∷ []) (desk.published.items ++ published_by call) (unsure_with desk.unsure call) false (set desk.next.items c.args.worker (c.args.job + 1)) ∥₁) same made) (λ s. made_broken x then (desk.history ++ call ∷ []) desk.history (desk.published.items ++ published_by call) desk.published.items (unsure_with desk.unsure call) desk.unsure false (set desk.next.items c.args.worker (c.args.job + 1)) s);
    }
