use Rattle.hgs_files.specs.Tree.{after_all}
use Rattle.hgs_legal.specs.Theorems.TreeFacts.{other-path, same-sym}
use Rattle.hgs_ops.specs.Operations.{lock_path, wlock_path}
use Rattle.hgs_writer.proofs.AwayLemmas.{turned-away-others}
use Rattle.hgs_writer.proofs.LockedReadyLemmas.{ready-unlocked}
use Rattle.hgs_writer.proofs.UnderLemmas.{changes-same, parts-same, same-beside, stands-beside}
use Rattle.hgs_writer.proofs.piece_laws.locks_do_not_matter.Goals as goal

pub returns : goal.returns
returns c = record {
  others = λ t who locking path locked w l. same-beside who t locking locked path w l;
  turned_away = λ t who why swept log d path away stop w l. turned-away-others t who why swept log d away stop path (other-path wlock_path path (same-sym path wlock_path w)) (other-path lock_path path (same-sym path lock_path l));
  stands = λ t r who locking locked s. stands-beside c.other_files_do_not_matter.ensures.loose c.strays_are_apart.ensures.strays t (after_all locking t) r (same-beside who t locking locked) s;
  parts = λ t r next command who p locking locked are.
      (let beside = same-beside who t locking locked in
      parts-same t (after_all locking t) r command next p beside (changes-same t (after_all locking t) r command next beside) are);
  ready = λ t r next command who locking locked is. ready-unlocked who t locking locked r command next is;
}
