use Rattle.std.proofs.Common.{[], ◌∷◌, subst}
use Rattle.hgs_files.specs.declared.op.Op.TheVariants.{Remove}
use Rattle.hgs_files.specs.Tree.{after_all}
use Rattle.hgs_machine.specs.Course.{lock_removals}
use Rattle.hgs_machine.specs.Locks.{AreRemoved}
use Rattle.hgs_machine.specs.Refusals.{WereRefused, how_many_stand, lock_paths}
use Rattle.hgs_machine.proofs.Allowed.{may-remove-lock, may-remove-wlock}
use Rattle.hgs_machine.proofs.Leaving.{release-refused}
use Rattle.hgs_machine.proofs.Locking.{removed-both, removed-some, then}
use Rattle.hgs_machine.proofs.locks.Locks.release.Goals as goal

pub remove-lock-requires : goal.remove-lock-requires
remove-lock-requires g c = may-remove-lock (g.F.Files.log c.args.files.now) (g.F.Files.allows (g.F.Reads.start c.args.files.now)) c.args.self.now.lock c.args.self.now.lock_is c.requires

pub remove-wlock-requires : goal.remove-wlock-requires
remove-wlock-requires g c =
    let locks = c.args.self.now in
    may-remove-wlock g.F.Files.allows (g.F.Files.log c.args.files.now) (g.F.Files.log c.remove-lock.new.files) (g.F.Reads.start c.args.files.now) (g.F.Reads.start c.remove-lock.new.files) locks.wlock locks.lock c.remove-lock.result locks.wlock_is locks.lock_is
    c.remove-lock.ensures.same_start c.requires c.remove-lock.ensures.log

pub returns-then-lock-clause-log : goal.returns-then-lock-clause-log
returns-then-lock-clause-log g c =
    let locks = c.args.self.now in
    let lock = c.remove-lock.result in
    let wlock = c.remove-wlock.result in
    then (g.F.Files.log c.args.files.now) (g.F.Files.log c.remove-lock.new.files) (g.F.Files.log c.remove-wlock.new.files) (g.F.Reads.start c.args.files.now) (g.F.Reads.start c.remove-lock.new.files)
    (λ t. AreRemoved (Remove locks.lock ∷ []) lock) (λ t. AreRemoved (Remove locks.wlock ∷ []) wlock) (λ t. AreRemoved lock_removals wlock) c.remove-lock.ensures.same_start
    (λ t a b h k. removed-both lock wlock a b (subst (λ p. AreRemoved (Remove p ∷ []) lock a) locks.lock_is h) (subst (λ p. AreRemoved (Remove p ∷ []) wlock b) locks.wlock_is k) c.if-lock.true)
    c.remove-lock.ensures.log c.remove-wlock.ensures.log

pub returns-else-lock-clause-log : goal.returns-else-lock-clause-log
returns-else-lock-clause-log g c =
    let locks = c.args.self.now in
    let lock = c.remove-lock.result in
    let wlock = c.remove-wlock.result in
    then (g.F.Files.log c.args.files.now) (g.F.Files.log c.remove-lock.new.files) (g.F.Files.log c.remove-wlock.new.files) (g.F.Reads.start c.args.files.now) (g.F.Reads.start c.remove-lock.new.files)
    (λ t. AreRemoved (Remove locks.lock ∷ []) lock) (λ t. AreRemoved (Remove locks.wlock ∷ []) wlock) (λ t. AreRemoved lock_removals lock) c.remove-lock.ensures.same_start
    (λ t a b h k. removed-some lock wlock a b (subst (λ p. AreRemoved (Remove p ∷ []) lock a) locks.lock_is h) (subst (λ p. AreRemoved (Remove p ∷ []) wlock b) locks.wlock_is k) c.if-lock.false)
    c.remove-lock.ensures.log c.remove-wlock.ensures.log

pub returns-then-lock-clause-left : goal.returns-then-lock-clause-left
returns-then-lock-clause-left g c =
    let locks = c.args.self.now in
    let old = c.args.files.now in
    let mid = c.remove-lock.new.files in
    let new = c.remove-wlock.new.files in
    let lock = c.remove-lock.result in
    let wlock = c.remove-wlock.result in
    then (g.F.Files.log old) (g.F.Files.log mid) (g.F.Files.log new) (g.F.Reads.start old) (g.F.Reads.start mid)
    (λ t. AreRemoved (Remove locks.lock ∷ []) lock) (λ t. AreRemoved (Remove locks.wlock ∷ []) wlock)
    (λ t done. WereRefused (how_many_stand lock_paths (after_all done t)) (g.F.Reads.faults old) (g.F.Reads.faults new) (g.F.Reads.denied old) (g.F.Reads.denied new)) c.remove-lock.ensures.same_start
    (λ t a b h k. release-refused (g.F.Reads.faults old) (g.F.Reads.faults mid) (g.F.Reads.faults new) (g.F.Reads.denied old) (g.F.Reads.denied mid) (g.F.Reads.denied new) lock wlock locks.lock locks.wlock a b t locks.lock_is locks.wlock_is
    c.remove-lock.ensures.counts c.remove-lock.ensures.causes c.remove-wlock.ensures.counts c.remove-wlock.ensures.causes h k)
    c.remove-lock.ensures.log c.remove-wlock.ensures.log

pub returns-else-lock-clause-left : goal.returns-else-lock-clause-left
returns-else-lock-clause-left g c =
    let locks = c.args.self.now in
    let old = c.args.files.now in
    let mid = c.remove-lock.new.files in
    let new = c.remove-wlock.new.files in
    let lock = c.remove-lock.result in
    let wlock = c.remove-wlock.result in
    then (g.F.Files.log old) (g.F.Files.log mid) (g.F.Files.log new) (g.F.Reads.start old) (g.F.Reads.start mid)
    (λ t. AreRemoved (Remove locks.lock ∷ []) lock) (λ t. AreRemoved (Remove locks.wlock ∷ []) wlock)
    (λ t done. WereRefused (how_many_stand lock_paths (after_all done t)) (g.F.Reads.faults old) (g.F.Reads.faults new) (g.F.Reads.denied old) (g.F.Reads.denied new)) c.remove-lock.ensures.same_start
    (λ t a b h k. release-refused (g.F.Reads.faults old) (g.F.Reads.faults mid) (g.F.Reads.faults new) (g.F.Reads.denied old) (g.F.Reads.denied mid) (g.F.Reads.denied new) lock wlock locks.lock locks.wlock a b t locks.lock_is locks.wlock_is
    c.remove-lock.ensures.counts c.remove-lock.ensures.causes c.remove-wlock.ensures.counts c.remove-wlock.ensures.causes h k)
    c.remove-lock.ensures.log c.remove-wlock.ensures.log
