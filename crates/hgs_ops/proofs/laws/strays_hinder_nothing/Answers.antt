use Rattle.hgs_ops.specs.Theorems.Beside.{changes-same, journalled-same, publishing-same, ready-same}
use Rattle.hgs_ops.proofs.LaidLemmas.{laid-alike}
use Rattle.hgs_ops.proofs.laws.strays_hinder_nothing.Goals as goal

pub returns : goal.returns
returns c = record {
  ready = λ t u r next command aside. ready-same t u aside r command next;
  changes = λ t u r next command aside. changes-same t u aside r command next;
  publishing = λ t u r next command aside. publishing-same t u aside r command next;
  journalled = λ t u r next command aside. journalled-same t u aside r command next;
  laid = λ t u r next n aside path free. laid-alike t u r next n aside path free;
}
