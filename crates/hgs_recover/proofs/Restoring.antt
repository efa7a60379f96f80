-- All operations that undo a transaction, and then the removals.
use Rattle.std.proofs.Common.{◌≡◌, List, ◌++◌, Bool, true, refl, ◌∙◌, ap, subst, append_assoc}
use Rattle.std.specs.Prelude.{Option, Some, None, Ok, IfSome}
use Rattle.std.specs.Option.{option_map}
use Rattle.hgs_files.specs.declared.op.Op.{Op}
use Rattle.hgs_files.specs.Files.{GoesOn}
use Rattle.hgs_files.specs.Tree.{Tree, after_all}
use Rattle.hgs_machine.specs.Carry.{tree_now}
use Rattle.hgs_recover.specs.declared.answer.RecoverAnswer.TheVariants.{Restored}
use Rattle.hgs_recover.specs.Clearing.{Clears, leftover_paths}
use Rattle.hgs_recover.specs.Found.{found_in}
use Rattle.hgs_recover.specs.Recovering.{RecoversBy}
use Rattle.hgs_recover.specs.Undoing.{Undoes}
use Rattle.hgs_recover.proofs.Basics.{after_all-append}

module _ (start start_undone : Tree) (ops : List Op) (swept : Bool) (same : start_undone ≡ start) where
  abbrev found-there : Option (List Op) → Type 0
  found-there seen = IfSome seen (λ log. found_in (after_all log start) ≡ Ok (Some ops))

  whole : (log more : List Op) (after : Option (List Op)) → found_in (after_all log start) ≡ Ok (Some ops) → Undoes ops true more → GoesOn (Some (log ++ more)) after (Clears leftover_paths (after_all (log ++ more) start_undone) swept)
      → GoesOn (Some log) after (RecoversBy (after_all log start) Restored swept)
  whole log more after found undone (removed, is, clears) =
      let tree : after_all (log ++ more) start_undone ≡ after_all more (after_all log start) = ap (λ (u : Tree). after_all (log ++ more) u) same ∙ after_all-append log more start in (
        more ++ removed,
        is ∙ ap (λ (l : List Op). Some l) (append_assoc log more removed),
        (ops, found, record { undone = more; done = undone; removed = removed; clears = subst (λ (u : Tree). Clears leftover_paths u swept removed) tree clears; whole = refl }),
      )

  by : (old undone after : Option (List Op)) → found-there old → GoesOn old undone (Undoes ops true) → GoesOn undone after (Clears leftover_paths (tree_now undone start_undone) swept) → GoesOn old after (RecoversBy (tree_now old start) Restored swept)
  by None late after found h k = subst (λ x. GoesOn x after (Clears leftover_paths (tree_now x start_undone) swept)) h k
  by (Some log) late after found (more, is, h) k = whole log more after found h (subst (λ x. GoesOn x after (Clears leftover_paths (tree_now x start_undone) swept)) is k)

pub restored : {V : Type 0} (field : Option V) (v : V) (items : V → List Op) (old mid undone after seen : Option (List Op)) (start start_mid start_undone : Tree) (list : List Op) (all swept : Bool) → field ≡ Some v →
    mid ≡ old → seen ≡ old → start_mid ≡ start → start_undone ≡ start_mid → list ≡ items v → all ≡ true →
    IfSome seen (λ log. found_in (after_all log start_mid) ≡ Ok (option_map items field)) → GoesOn mid undone (Undoes list all) → GoesOn undone after (Clears leftover_paths (tree_now undone start_undone) swept) → GoesOn old after (RecoversBy (tree_now old start) Restored swept)
restored field v items old mid undone after seen start start_mid start_undone list all swept some same_mid same_seen same_start same_next is did found h k =
    let there : IfSome seen (λ log. found_in (after_all log start_mid) ≡ Ok (Some (items v))) = subst (λ f. IfSome seen (λ log. found_in (after_all log start_mid) ≡ Ok (option_map items f))) some found in
    by start start_undone (items v) swept (same_next ∙ same_start) old undone after
    (subst (λ s. IfSome s (λ log. found_in (after_all log start) ≡ Ok (Some (items v)))) same_seen (subst (λ (u : Tree). IfSome seen (λ log. found_in (after_all log u) ≡ Ok (Some (items v)))) same_start there))
    (subst (λ b. GoesOn old undone (Undoes (items v) b)) did (subst (λ (l : List Op). GoesOn old undone (Undoes l all)) is (subst (λ m. GoesOn m undone (Undoes list all)) same_mid h))) k
