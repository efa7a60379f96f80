-- What a session has after a refresh.
use Rattle.std.specs.Prelude.{◌≡◌, true, Result, Ok, Err}
use Rattle.hgs_load.specs.declared.answer.ReadAnswer.{ReadAnswer}
use Rattle.hgs_load.specs.Answer.{is_of_outside}
use Rattle.hgs_load.specs.View.{View}

-- The view after a refresh has this property, or the refresh was refused for a reason that says nothing of the repository.
abbrev pub GivenAgain : (View → Type 0) → View → Result Unit ReadAnswer → Type 0
GivenAgain Has new (Ok x) = Has new
GivenAgain Has new (Err e) = is_of_outside e ≡ true
