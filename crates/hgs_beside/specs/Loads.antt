-- What loads of an end give that shares its files with a writer.
use Rattle.std.specs.Prelude.{◌≡◌, List, true, Result, Ok, Err}
use Rattle.hgs_bytes.specs.Bytes.{IsPrefixOf}
use Rattle.hgs_files.specs.declared.op.Op.{Op}
use Rattle.hgs_files.specs.Reads.{Covers}
use Rattle.hgs_load.specs.declared.answer.ReadAnswer.{ReadAnswer}
use Rattle.hgs_load.specs.Answer.{is_of_outside}
use Rattle.hgs_load.specs.View.{View}
use Rattle.hgs_views.specs.Seen.{IsLoadedBetween, NoneFell, Numbers}
use Rattle.hgs_headline.specs.WritersLog.{WritersLog, course_of}

-- A view of moments from one on that goes on from what was seen and from each list told, up to the last one.
pub record IsLoadedBeside (h : WritersLog) (told : List (List Op)) (first last : List Op) (v : Numbers) (view : View) : Type 0 where
  pub from : List Op
  pub after : IsPrefixOf first from
  pub covers : Covers told from
  pub loaded : IsLoadedBetween (course_of h) from last v view

-- an opening gives such a view, or its refusal says nothing of the repository
abbrev pub OpensBeside : WritersLog → List (List Op) → List Op → List Op → Result View ReadAnswer → Type 0
OpensBeside h told first last (Ok view) = (v : Numbers) × IsLoadedBeside h told first last v view
OpensBeside h told first last (Err e) = is_of_outside e ≡ true

-- so does a refresh, and no number fell; a refusal leaves the view
abbrev pub RefreshesBeside : WritersLog → List (List Op) → List Op → List Op → Numbers → View → View → Result Unit ReadAnswer → Type 0
RefreshesBeside h told first last v old new (Ok x) = (w : Numbers) × IsLoadedBeside h told first last w new × NoneFell v w
RefreshesBeside h told first last v old new (Err e) = (new ≡ old) × (is_of_outside e ≡ true)
