-- The commands that were published.
use Rattle.std.specs.Prelude.{◌≤◌, ℕ, List, [], ◌∷◌, ◌++◌, Bool, Option, Some, None, if◌then◌else◌, length, take}
use Rattle.hgs_model.specs.declared.command.Command.{Command}

-- The commands that were published and not taken back, in their order, how many of them, from the first on, are acknowledged, and the
-- command of a writer at work that has not published yet.
pub record Commands : Type 0 where
  pub published : List Command
  pub acknowledged : ℕ
  pub pending : Option Command

abbrev pub no_commands : Commands
no_commands = record { published = []; acknowledged = 0; pending = None }

abbrev pub with_pending : Command → Commands → Commands
with_pending command book = record book { pending = Some command }

abbrev pub published_more : Option Command → List Command → List Command
published_more None commands = commands
published_more (Some command) commands = commands ++ command ∷ []

-- the pending command is published
abbrev pub published_in : Commands → Commands
published_in book = record book { published = published_more book.pending book.published; pending = None }

-- all that were published are acknowledged
abbrev pub acknowledged_in : Commands → Commands
acknowledged_in book = record book { acknowledged = length book.published }

-- a pending command is let go
abbrev pub ended_in : Commands → Commands
ended_in book = record book { pending = None }

-- what is not acknowledged is taken off
abbrev pub taken_back : Commands → Commands
taken_back book = record book { published = take book.acknowledged book.published }

-- what a writer that has come so far makes of it
abbrev pub noted : Bool → Bool → Commands → Commands
noted is_published is_acknowledged book =
    let known = if is_published then published_in book else book in
    if is_acknowledged then acknowledged_in known else known

-- those that are acknowledged
abbrev pub acknowledged_of : Commands → List Command
acknowledged_of book = take book.acknowledged book.published

abbrev pub IsCounted : Commands → Type 0
IsCounted book = book.acknowledged ≤ length book.published
