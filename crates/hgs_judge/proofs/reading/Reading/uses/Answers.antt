use Rattle.std.proofs.Common.{length, sym, ◌∙◌, ap, subst}
use Rattle.std.specs.Prelude.{None}
use Rattle.std.proofs.lemmas.List.{map_push}
use Rattle.hgs_findings.specs.OnePath as findings
use Rattle.hgs_findings.specs.OnePath.{use_of_found}
use Rattle.hgs_judge.specs.declared.words.Found.TheVariants.{Unread}
use Rattle.hgs_judge.specs.Read.{revisions_in}
use Rattle.hgs_judge.specs.Words.{AreAmong, IsAmong, use_in, uses_in}
use Rattle.hgs_judge.proofs.Basics.{all-push}
use Rattle.hgs_judge.proofs.WordLemmas.{said-more}
use Rattle.hgs_judge.proofs.reading.Reading.uses.Goals as goal

pub loop-word-preserved : goal.loop-word-preserved
loop-word-preserved c = record {
  used = λ path data_bytes read.
      let log = revisions_in c.args.self.now.log.entries data_bytes in
      said-more (λ (w : findings.Word). use_of_found log w.row) path c.args.words.now c.loop-word.word-index (record { parents = (None, None); found = Unread; listed = None })
      (uses_in c.loop-word.uses.items) (uses_in c.push.new.self.items) (use_in c.use_of.result)
      c.loop-word-test.true
      (ap uses_in c.in_ok-push.ensures.items ∙ map_push use_in c.loop-word.uses.items c.use_of.result)
      (c.loop-word.invariant.used path data_bytes read)
      (c.use_of.ensures.used path data_bytes read);
  among = subst (AreAmong (length c.args.self.now.log.entries)) (sym c.in_ok-push.ensures.items) (all-push (IsAmong (length c.args.self.now.log.entries)) c.loop-word.uses.items c.use_of.result c.loop-word.invariant.among c.use_of.ensures.among);
}
