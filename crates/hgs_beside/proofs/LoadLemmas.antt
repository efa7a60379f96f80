-- What the law of such ends says, as loads have it.
use Rattle.std.proofs.Common.{List, Some, Result, Ok, Err}
use Rattle.hgs_bytes.specs.Bytes.{IsPrefixOf}
use Rattle.hgs_files.specs.declared.op.Op.{Op}
use Rattle.hgs_files.specs.Reads.{Covers}
use Rattle.hgs_files.specs.Tree.{Tree}
use Rattle.hgs_load.specs.declared.answer.ReadAnswer.{ReadAnswer}
use Rattle.hgs_load.specs.Asks.{Asks}
use Rattle.hgs_load.specs.Load.{Refreshes}
use Rattle.hgs_load.specs.View.{View}
use Rattle.hgs_views.specs.Seen.{Given, IsLoadedBetween, NoneFell, Numbers}
use Rattle.hgs_headline.specs.Again.{GivenAgain}
use Rattle.hgs_headline.specs.WritersLog.{WritersLog, course_of}
use Rattle.hgs_beside.specs.Loads.{OpensBeside, RefreshesBeside}

module _ (h : WritersLog) (told : List (List Op)) (first last : List Op) where
  pub opened : (r : Result View ReadAnswer) → Given (λ view. (from : List Op) × IsPrefixOf first from × Covers told from × ((v : Numbers) × IsLoadedBetween (course_of h) from last v view)) r → OpensBeside h told first last r
  opened (Ok view) g = (g.3.0, record { from = g.0; after = g.1; covers = g.2; loaded = g.3.1 })
  opened (Err e) g = g

  pub refreshed : (start : Tree) (question : Asks (Result View ReadAnswer)) (v : Numbers) (old new : View) (r : Result Unit ReadAnswer) → Refreshes (Some first) start (Some last) question old new r
      → GivenAgain (λ view. (from : List Op) × IsPrefixOf first from × Covers told from × ((w : Numbers) × IsLoadedBetween (course_of h) from last w view × NoneFell v w)) new r → RefreshesBeside h told first last v old new r
  refreshed start question v old new (Ok u) a g = (g.3.0, record { from = g.0; after = g.1; covers = g.2; loaded = g.3.1 }, g.3.2)
  refreshed start question v old new (Err e) a g = (a.0, g)
