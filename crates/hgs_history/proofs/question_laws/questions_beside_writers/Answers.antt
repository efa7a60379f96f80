use Rattle.hgs_history.proofs.Questions.{Below, asked}
use Rattle.hgs_history.proofs.question_laws.questions_beside_writers.Goals as goal

pub returns : goal.returns
returns c = λ h told first last old v new question faults_old faults_new answered on opens reads known is.
    let below : Below = record {
      opened = c.loads_beside_writers.ensures.opened;
      refreshed = c.loads_beside_writers.ensures.refreshed;
      numbers = c.ends_beside_writers.ensures.numbers;
      tells = c.views_beside_writers.ensures.tells;
      repository = λ k from to w view p l. (c.views_beside_writers.ensures.shown k from to w view p l).0;
      says = c.views_beside_writers.ensures.says;
      there = c.named_is_there.ensures;
    } in
    asked below h told first last on opens reads old v new question faults_old faults_new answered known is
