-- What is noted of a writer's command.
use Rattle.std.proofs.Common.{◌≡◌, List, [], ◌∷◌, ◌++◌, refl, ◌∙◌, ap, append-nil, Bool, true, false, if◌then◌else◌}
use Rattle.hgs_model.specs.declared.command.Command.{Command}
use Rattle.hgs_world.specs.Book.{Commands, acknowledged_in, noted, published_in, published_more}
use Rattle.hgs_played.specs.Since.{none_if, one_if}

-- a command is published behind these, or pending
pub record IsNoted (older : List Command) (command : Command) (known : Bool) (book : Commands) : Type 0 where
  pub published : book.published ≡ older ++ one_if known command
  pub pending : book.pending ≡ none_if known command

acknowledges : (older : List Command) (command : Command) (p a : Bool) (book : Commands) → IsNoted older command p book → IsNoted older command p (if a then acknowledged_in book else book)
acknowledges older command p false book h = h
acknowledges older command p true book h = record { published = h.published; pending = h.pending }

publishes : (older : List Command) (command : Command) (p : Bool) (book : Commands) → IsNoted older command p book → IsNoted older command true (published_in book)
publishes older command false book h =
    record { published = ap (λ o. published_more o book.published) h.pending ∙ ap (λ l. l ++ command ∷ []) (h.published ∙ append-nil older); pending = refl }
publishes older command true book h = record { published = ap (λ o. published_more o book.published) h.pending ∙ h.published; pending = refl }

pub notes : (older : List Command) (command : Command) (p q a : Bool) (book : Commands) → (p ≡ true → q ≡ true) → IsNoted older command p book → IsNoted older command q (noted q a book)
notes older command p true a book on h = acknowledges older command true a (published_in book) (publishes older command p book h)
notes older command false false a book on h = acknowledges older command false a book h
notes older command true false a book on h = absurd (let k = on refl in let no : ⊥ = cc in no)
