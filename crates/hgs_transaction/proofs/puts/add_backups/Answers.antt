use Rattle.std.proofs.Common.{◌≡◌, ℕ, ◌+◌, ◌<◌, List, ◌∷◌, [], ◌++◌, length, drop, get_or, refl, sym, ap, subst, ◌∙◌, arith, append_assoc, append-nil, add-one, drop-cons}
use Rattle.std.specs.Vec.Iter.{into_iter_items}
use Rattle.hgs_files.specs.declared.op.Op.{Op}
use Rattle.hgs_journal.specs.declared.backups.BackupLine.{BackupLine}
use Rattle.hgs_transaction.specs.Gathered.{backup_puts, put_with}
use Rattle.hgs_transaction.proofs.OwnedLoops.{nothing-left}
use Rattle.hgs_transaction.proofs.puts.add_backups.Goals as goal

-- no backup is left to be added
no-more : (lines : List BackupLine) → backup_puts lines [] ≡ []
no-more [] = refl
no-more (l ∷ lines) = refl

one-more : (lines : List BackupLine) (place : ℕ) (d : BackupLine) (old new whole : List Op) (items rest : List (List ℕ)) (bytes : List ℕ) → place < length lines → items ≡ bytes ∷ rest
    → new ≡ old ++ put_with (get_or lines place d) (get_or lines place d).backup bytes → old ++ backup_puts (drop place lines) items ≡ whole → new ++ backup_puts (drop (place + 1) lines) rest ≡ whole
one-more lines place d old new whole items rest bytes lt steps added inv =
    let next : drop place lines ≡ get_or lines place d ∷ drop (place + 1) lines = drop-cons lines place d lt ∙ ap (λ n. get_or lines place d ∷ drop n lines) (sym (add-one place)) in
    let puts = put_with (get_or lines place d) (get_or lines place d).backup bytes in
    ap (λ o. o ++ backup_puts (drop (place + 1) lines) rest) added
    ∙ append_assoc old puts (backup_puts (drop (place + 1) lines) rest)
    ∙ ap (λ ls. old ++ backup_puts ls (bytes ∷ rest)) (sym next)
    ∙ ap (λ ks. old ++ backup_puts (drop place lines) ks) (sym steps)
    ∙ inv

pub loop-bytes-preserved : goal.loop-bytes-preserved
loop-bytes-preserved c =
    let at = c.loop-bytes in
    let steps : into_iter_items at.bytes-iterator ≡ c.in-Some.bytes ∷ into_iter_items c.next.new.self = c.in-Some.ensures.steps.0 in
    let was = at.invariant.count in
    let even = at.invariant.same in
    let gone = c.in-Some.ensures.steps.1 in
    let short = ap (λ l. length l) steps in
    let lt : at.place < length c.args.lines.now = omega arith in record {
      left = one-more c.args.lines.now at.place c.index-lines-place.result at.ops.items c.add_backup.new.ops.items _ (into_iter_items at.bytes-iterator) (into_iter_items c.next.new.self) c.in-Some.bytes lt steps (subst (λ l. c.add_backup.new.ops.items ≡ at.ops.items ++ put_with l l.backup c.in-Some.bytes) c.index-lines-place.is c.in_ok-add_backup.ensures) at.invariant.left;
      count = omega arith;
      same = omega arith;
    }

pub returns : goal.returns
returns c =
    let at = c.loop-bytes in
    let none = c.in-None.ensures.steps in
    let empty : into_iter_items at.bytes-iterator ≡ [] = nothing-left _ (sym at.invariant.count ∙ none.0) in
    sym (append-nil at.ops.items)
    ∙ ap (λ o. at.ops.items ++ o) (sym (ap (λ ks. backup_puts (drop at.place c.args.lines.now) ks) empty ∙ no-more (drop at.place c.args.lines.now)))
    ∙ at.invariant.left
    ∙ ap (λ ks. c.args.ops.now.items ++ backup_puts c.args.lines.now ks) c.into_iter-bytes-iterator.ensures.into_iter_gives.0
