use Rattle.hgs_history.proofs.Working.{jobs-go}
use Rattle.hgs_history.proofs.laws.workers_never_fall_back.Goals as goal

pub returns : goal.returns
returns c = λ h x worker calls p v answers now last opens reads k seen on does. jobs-go h x worker calls (c.questions_beside_writers.ensures h) opens reads p v answers now last k seen on does
