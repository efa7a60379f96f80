use Rattle.hgs_lasting.proofs.Lasting.{lives-keep, lives-lead, lives-recover}
use Rattle.hgs_lasting.proofs.laws.acknowledged_commands_last.Goals as goal

pub returns : goal.returns
returns c = record { keeps = lives-keep c.laws_below.ensures; leads = lives-lead; recovers = lives-recover c.laws_below.ensures }
