use Rattle.std.proofs.Common.{refl}
use Rattle.hgs_legal.specs.LegalLog.{start_of}
use Rattle.hgs_headline.proofs.RunLemmas.{begins, ends, split}
use Rattle.hgs_headline.proofs.laws.legal_logs_are_writers_logs.Goals as goal

pub returns : goal.returns
returns c = record {
  legal = λ t r log clean legal. (let run = legal r clean in (record { start = t; first = r; log = log; last = run.0; stands = clean.stands; run = run.1 }, refl, refl, refl));
  fronts = λ h front rest e. split (start_of h.start h.first) h.log h.last h.run front rest e;
  begins = λ h. begins (start_of h.start h.first) h.log h.last h.run;
  ends = λ h. ends (start_of h.start h.first) h.log h.last h.run;
}
