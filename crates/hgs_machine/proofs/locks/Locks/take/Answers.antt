use Rattle.std.proofs.Common.{true, List, [], ◌∷◌, Ok, Err, ◌∙◌}
use Rattle.std.specs.Prelude.{is_some}
use Rattle.hgs_files.specs.declared.op.Op.TheVariants.{Remove}
use Rattle.hgs_files.specs.declared.op.Op.{Op}
use Rattle.hgs_files.specs.Tree.{Tree, after_all}
use Rattle.hgs_ops.specs.Operations.{wlock_path}
use Rattle.hgs_machine.specs.Carry.{tree_now}
use Rattle.hgs_machine.specs.Course.{lock_removals}
use Rattle.hgs_machine.specs.Locks.{AreLocked, AreRemoved, Looks, Makes, TakesLocks}
use Rattle.hgs_machine.specs.Refusals.{WereRefused, how_many_made, how_many_stand, lock_paths, refusals_of_made}
use Rattle.hgs_machine.proofs.Allowed.{may-make-first, may-make-second, may-release, may-remove-first}
use Rattle.hgs_machine.proofs.Counting.{falls-never, first-barred, lock-refused, told-on}
use Rattle.hgs_machine.proofs.Leaving.{left-at-journal, left-at-lock, left-at-wlock}
use Rattle.hgs_machine.proofs.Locking.{Pair, as-well, barred-first, lock-abandoned, lock-barred, locks-made, named, pair, then}
use Rattle.hgs_machine.proofs.locks.Locks.take.Goals as goal

pub make-requires : goal.make-requires
make-requires g c =
    let locks = c.args.self.now in
    may-make-first (g.F.Files.log c.args.files.now) (g.F.Files.allows (g.F.Reads.start c.args.files.now)) (g.F.Reads.start c.args.files.now) c.args.who.now locks.wlock locks.wlock_is c.requires

pub make-requires-2 : goal.make-requires-2
make-requires-2 g c =
    let locks = c.args.self.now in
    may-make-second g.F.Files.allows (g.F.Files.log c.args.files.now) (g.F.Files.log c.make.new.files) (g.F.Reads.start c.args.files.now) (g.F.Reads.start c.make.new.files) c.args.who.now locks.wlock locks.lock locks.wlock_is locks.lock_is c.make.ensures.same_start
    c.requires c.in_default.ensures.log

pub remove-swept-requires : goal.remove-swept-requires
remove-swept-requires g c =
    let locks = c.args.self.now in
    let who = c.args.who.now in
    let why = c.in-Err-make.why in
    may-remove-first g.F.Files.allows (g.F.Files.log c.args.files.now) (g.F.Files.log c.make-2.new.files) (g.F.Reads.start c.args.files.now) (g.F.Reads.start c.make-2.new.files) who locks.wlock locks.lock locks.wlock_is locks.lock_is
    (c.make-2.ensures.same_start ∙ c.make.ensures.same_start) c.requires why
    (pair (g.F.Files.log c.args.files.now) (g.F.Files.log c.make.new.files) (g.F.Files.log c.make-2.new.files) (g.F.Reads.start c.args.files.now) (g.F.Reads.start c.make.new.files)
    (λ t. Makes locks.wlock who t (Ok tt)) (λ t. Makes locks.lock who t (Err why)) c.make.ensures.same_start c.in_default.ensures.log c.in-Err-make.ensures.log)

pub release-swept-requires : goal.release-swept-requires
release-swept-requires g c =
    let locks = c.args.self.now in
    let who = c.args.who.now in
    let why = c.in-Err-look.why in
    may-release g.F.Files.allows (g.F.Files.log c.args.files.now) (g.F.Files.log c.look.new.files) (g.F.Reads.start c.args.files.now) (g.F.Reads.start c.look.new.files) who locks.wlock locks.lock locks.wlock_is locks.lock_is
    (c.look.ensures.same_start ∙ (c.make-2.ensures.same_start ∙ c.make.ensures.same_start)) c.requires why
    (pair (g.F.Files.log c.args.files.now) (g.F.Files.log c.make.new.files) (g.F.Files.log c.look.new.files) (g.F.Reads.start c.args.files.now) (g.F.Reads.start c.make.new.files)
    (λ t. Makes locks.wlock who t (Ok tt)) (Pair (λ t. Makes locks.lock who t (Ok tt)) (λ t. Looks t (Err why))) c.make.ensures.same_start c.in_default.ensures.log
    (pair (g.F.Files.log c.make.new.files) (g.F.Files.log c.make-2.new.files) (g.F.Files.log c.look.new.files) (g.F.Reads.start c.make.new.files) (g.F.Reads.start c.make-2.new.files)
    (λ t. Makes locks.lock who t (Ok tt)) (λ t. Looks t (Err why)) c.make-2.ensures.same_start c.in_default-make.ensures.log c.in-Err-look.ensures.log))

pub returns-in-Err-clause-log : goal.returns-in-Err-clause-log
returns-in-Err-clause-log g c =
    let locks = c.args.self.now in
    let who = c.args.who.now in
    let t = tree_now (g.F.Files.log c.args.files.now) (g.F.Reads.start c.args.files.now) in
    as-well (g.F.Files.log c.args.files.now) (g.F.Files.log c.make.new.files) (Makes locks.wlock who t (Err c.in-Err.why)) (TakesLocks {T = Unit {0}} who t (Err (record { why = c.in-Err.why; swept = true })))
    (λ done h. barred-first who t c.in-Err.why done (named locks.wlock wlock_path who t (Err c.in-Err.why) done locks.wlock_is h)) c.in-Err.ensures.log

pub returns-in-Err-make-clause-log : goal.returns-in-Err-make-clause-log
returns-in-Err-make-clause-log g c =
    let locks = c.args.self.now in
    let who = c.args.who.now in
    let why = c.in-Err-make.why in
    let swept = c.remove-swept.result in
    then (g.F.Files.log c.args.files.now) (g.F.Files.log c.make.new.files) (g.F.Files.log c.remove-swept.new.files) (g.F.Reads.start c.args.files.now) (g.F.Reads.start c.make.new.files)
    (λ t. Makes locks.wlock who t (Ok tt)) (Pair (λ t. Makes locks.lock who t (Err why)) (λ t. AreRemoved (Remove locks.wlock ∷ []) swept)) (λ t. TakesLocks {T = Unit {0}} who t (Err (record { why = why; swept = swept }))) c.make.ensures.same_start
    (λ t a d h k. lock-barred who locks.wlock locks.lock t why swept a d locks.wlock_is locks.lock_is h k) c.in_default.ensures.log
    (pair (g.F.Files.log c.make.new.files) (g.F.Files.log c.make-2.new.files) (g.F.Files.log c.remove-swept.new.files) (g.F.Reads.start c.make.new.files) (g.F.Reads.start c.make-2.new.files)
    (λ t. Makes locks.lock who t (Err why)) (λ t. AreRemoved (Remove locks.wlock ∷ []) swept) c.make-2.ensures.same_start c.in-Err-make.ensures.log c.remove-swept.ensures.log)

pub returns-in-Err-look-clause-log : goal.returns-in-Err-look-clause-log
returns-in-Err-look-clause-log g c =
    let locks = c.args.self.now in
    let who = c.args.who.now in
    let why = c.in-Err-look.why in
    let swept = c.release-swept.result in
    then (g.F.Files.log c.args.files.now) (g.F.Files.log c.make.new.files) (g.F.Files.log c.release-swept.new.files) (g.F.Reads.start c.args.files.now) (g.F.Reads.start c.make.new.files)
    (λ t. Makes locks.wlock who t (Ok tt)) (Pair (λ t. Makes locks.lock who t (Ok tt)) (Pair (λ t. Looks t (Err why)) (λ t. AreRemoved lock_removals swept))) (λ t. TakesLocks {T = Unit {0}} who t (Err (record { why = why; swept = swept }))) c.make.ensures.same_start
    (λ t a d h k. lock-abandoned who locks.wlock locks.lock t why swept a d locks.wlock_is locks.lock_is h k) c.in_default.ensures.log
    (pair (g.F.Files.log c.make.new.files) (g.F.Files.log c.make-2.new.files) (g.F.Files.log c.release-swept.new.files) (g.F.Reads.start c.make.new.files) (g.F.Reads.start c.make-2.new.files)
    (λ t. Makes locks.lock who t (Ok tt)) (Pair (λ t. Looks t (Err why)) (λ t. AreRemoved lock_removals swept)) c.make-2.ensures.same_start c.in_default-make.ensures.log
    (pair (g.F.Files.log c.make-2.new.files) (g.F.Files.log c.look.new.files) (g.F.Files.log c.release-swept.new.files) (g.F.Reads.start c.make-2.new.files) (g.F.Reads.start c.look.new.files)
    (λ t. Looks t (Err why)) (λ t. AreRemoved lock_removals swept) c.look.ensures.same_start c.in-Err-look.ensures.log c.release-swept.ensures.log))

pub returns-clause-log : goal.returns-clause-log
returns-clause-log g c =
    let locks = c.args.self.now in
    let who = c.args.who.now in
    then (g.F.Files.log c.args.files.now) (g.F.Files.log c.make.new.files) (g.F.Files.log c.look.new.files) (g.F.Reads.start c.args.files.now) (g.F.Reads.start c.make.new.files)
    (λ t. Makes locks.wlock who t (Ok tt)) (Pair (λ t. Makes locks.lock who t (Ok tt)) (λ t. Looks t (Ok tt))) (λ t. AreLocked who t) c.make.ensures.same_start
    (λ t a d h k. locks-made who locks.wlock locks.lock t a d locks.wlock_is locks.lock_is h k) c.in_default.ensures.log
    (pair (g.F.Files.log c.make.new.files) (g.F.Files.log c.make-2.new.files) (g.F.Files.log c.look.new.files) (g.F.Reads.start c.make.new.files) (g.F.Reads.start c.make-2.new.files)
    (λ t. Makes locks.lock who t (Ok tt)) (λ t. Looks t (Ok tt)) c.make-2.ensures.same_start c.in_default-make.ensures.log c.in_default-look.ensures.log)

pub returns-in-Err-clause-calls : goal.returns-in-Err-clause-calls
returns-in-Err-clause-calls g c =
    let before = c.args.files.now in
    let after = c.make.new.files in
    first-barred (g.F.Reads.faults before) (g.F.Reads.faults after) (g.F.Reads.denied before) (g.F.Reads.denied after) (is_some (g.F.Files.log before)) c.in-Err.why c.in-Err.ensures.calls

pub returns-in-Err-make-clause-calls : goal.returns-in-Err-make-clause-calls
returns-in-Err-make-clause-calls g c =
    let before = c.args.files.now in
    let first = c.make.new.files in
    let second = c.make-2.new.files in
    let after = c.remove-swept.new.files in
    let told = told-on (g.F.Files.log before) (g.F.Files.log first) _ c.in_default.ensures.log in
    lock-refused (g.F.Reads.faults before) (g.F.Reads.faults first) (g.F.Reads.faults second) (g.F.Reads.faults after) (g.F.Reads.denied before) (g.F.Reads.denied first) (g.F.Reads.denied second) (g.F.Reads.denied after)
    (is_some (g.F.Files.log before)) (is_some (g.F.Files.log first)) c.in-Err-make.why c.remove-swept.result told c.make.ensures.counts c.in-Err-make.ensures.calls c.remove-swept.ensures.counts c.remove-swept.ensures.causes

pub returns-in-Err-look-clause-calls : goal.returns-in-Err-look-clause-calls
returns-in-Err-look-clause-calls g c =
    let before = c.args.files.now in
    let first = c.make.new.files in
    let second = c.make-2.new.files in
    let looked = c.look.new.files in
    let after = c.release-swept.new.files in
    let made = falls-never (g.F.Reads.faults before) (g.F.Reads.faults first) (g.F.Reads.faults second) (g.F.Reads.denied before) (g.F.Reads.denied first) (g.F.Reads.denied second) c.make.ensures.counts c.make-2.ensures.counts in
    let told = told-on (g.F.Files.log first) (g.F.Files.log second) _ c.in_default-make.ensures.log ∙ told-on (g.F.Files.log before) (g.F.Files.log first) _ c.in_default.ensures.log in
    lock-refused (g.F.Reads.faults before) (g.F.Reads.faults second) (g.F.Reads.faults looked) (g.F.Reads.faults after) (g.F.Reads.denied before) (g.F.Reads.denied second) (g.F.Reads.denied looked) (g.F.Reads.denied after)
    (is_some (g.F.Files.log before)) (is_some (g.F.Files.log second)) c.in-Err-look.why c.release-swept.result told made c.in-Err-look.ensures.calls c.release-swept.ensures.counts c.release-swept.ensures.causes

pub returns-in-Err-clause-left : goal.returns-in-Err-clause-left
returns-in-Err-clause-left g c =
    let locks = c.args.self.now in
    let old = c.args.files.now in
    let new = c.make.new.files in
    let why = c.in-Err.why in
    let told = is_some (g.F.Files.log old) in
    let t = tree_now (g.F.Files.log old) (g.F.Reads.start old) in
    as-well (g.F.Files.log old) (g.F.Files.log new) (Makes locks.wlock c.args.who.now t (Err why))
    (λ done. WereRefused (refusals_of_made told why (how_many_made lock_paths t (after_all done t))) (g.F.Reads.faults old) (g.F.Reads.faults new) (g.F.Reads.denied old) (g.F.Reads.denied new))
    (λ done h. left-at-wlock told why t done (g.F.Reads.faults old) (g.F.Reads.faults new) (g.F.Reads.denied old) (g.F.Reads.denied new) h.0 c.in-Err.ensures.calls) c.in-Err.ensures.log

pub returns-in-Err-make-clause-left : goal.returns-in-Err-make-clause-left
returns-in-Err-make-clause-left g c =
    let locks = c.args.self.now in
    let who = c.args.who.now in
    let old = c.args.files.now in
    let first = c.make.new.files in
    let second = c.make-2.new.files in
    let new = c.remove-swept.new.files in
    let why = c.in-Err-make.why in
    let swept = c.remove-swept.result in
    let told = is_some (g.F.Files.log old) in
    let same = told-on (g.F.Files.log old) (g.F.Files.log first) _ c.in_default.ensures.log in
    then (g.F.Files.log old) (g.F.Files.log first) (g.F.Files.log new) (g.F.Reads.start old) (g.F.Reads.start first)
    (λ t. Makes locks.wlock who t (Ok tt)) (Pair (λ t. Makes locks.lock who t (Err why)) (λ t. AreRemoved (Remove locks.wlock ∷ []) swept))
    (λ t done. WereRefused (refusals_of_made told why (how_many_made lock_paths t (after_all done t))) (g.F.Reads.faults old) (g.F.Reads.faults new) (g.F.Reads.denied old) (g.F.Reads.denied new)) c.make.ensures.same_start
    (λ t a x h k. left-at-lock told (is_some (g.F.Files.log first)) why swept who locks.wlock locks.lock t a x (g.F.Reads.faults old) (g.F.Reads.faults first) (g.F.Reads.faults second) (g.F.Reads.faults new) (g.F.Reads.denied old) (g.F.Reads.denied first) (g.F.Reads.denied second) (g.F.Reads.denied new)
    same locks.wlock_is c.make.ensures.counts c.in-Err-make.ensures.calls c.remove-swept.ensures.counts c.remove-swept.ensures.causes h k) c.in_default.ensures.log
    (pair (g.F.Files.log first) (g.F.Files.log second) (g.F.Files.log new) (g.F.Reads.start first) (g.F.Reads.start second)
    (λ t. Makes locks.lock who t (Err why)) (λ t. AreRemoved (Remove locks.wlock ∷ []) swept) c.make-2.ensures.same_start c.in-Err-make.ensures.log c.remove-swept.ensures.log)

pub returns-in-Err-look-clause-left : goal.returns-in-Err-look-clause-left
returns-in-Err-look-clause-left g c =
    let locks = c.args.self.now in
    let who = c.args.who.now in
    let old = c.args.files.now in
    let first = c.make.new.files in
    let second = c.make-2.new.files in
    let looked = c.look.new.files in
    let new = c.release-swept.new.files in
    let why = c.in-Err-look.why in
    let told = is_some (g.F.Files.log old) in
    let same = told-on (g.F.Files.log first) (g.F.Files.log second) _ c.in_default-make.ensures.log ∙ told-on (g.F.Files.log old) (g.F.Files.log first) _ c.in_default.ensures.log in
    let made = falls-never (g.F.Reads.faults old) (g.F.Reads.faults first) (g.F.Reads.faults second) (g.F.Reads.denied old) (g.F.Reads.denied first) (g.F.Reads.denied second) c.make.ensures.counts c.make-2.ensures.counts in
    let Left : Tree → List Op → Type 0 = λ u done. WereRefused (how_many_stand lock_paths (after_all done u)) (g.F.Reads.faults looked) (g.F.Reads.faults new) (g.F.Reads.denied looked) (g.F.Reads.denied new) in
    then (g.F.Files.log old) (g.F.Files.log first) (g.F.Files.log new) (g.F.Reads.start old) (g.F.Reads.start first)
    (λ t. Makes locks.wlock who t (Ok tt)) (Pair (λ t. Makes locks.lock who t (Ok tt)) (Pair (λ t. Looks t (Err why)) Left))
    (λ t done. WereRefused (refusals_of_made told why (how_many_made lock_paths t (after_all done t))) (g.F.Reads.faults old) (g.F.Reads.faults new) (g.F.Reads.denied old) (g.F.Reads.denied new)) c.make.ensures.same_start
    (λ t a x h k. left-at-journal told (is_some (g.F.Files.log second)) why t (λ u. Makes locks.lock who u (Ok tt)) (λ u. Looks u (Err why)) a x (g.F.Reads.faults old) (g.F.Reads.faults second) (g.F.Reads.faults looked) (g.F.Reads.faults new) (g.F.Reads.denied old) (g.F.Reads.denied second) (g.F.Reads.denied looked)
    (g.F.Reads.denied new) same made c.in-Err-look.ensures.calls k) c.in_default.ensures.log
    (pair (g.F.Files.log first) (g.F.Files.log second) (g.F.Files.log new) (g.F.Reads.start first) (g.F.Reads.start second)
    (λ t. Makes locks.lock who t (Ok tt)) (Pair (λ t. Looks t (Err why)) Left) c.make-2.ensures.same_start c.in_default-make.ensures.log
    (pair (g.F.Files.log second) (g.F.Files.log looked) (g.F.Files.log new) (g.F.Reads.start second) (g.F.Reads.start looked)
    (λ t. Looks t (Err why)) Left c.look.ensures.same_start c.in-Err-look.ensures.log c.release-swept.ensures.left))
