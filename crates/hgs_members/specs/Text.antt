-- The text of a set over what a session holds.
use Rattle.std.specs.Prelude.{◌≡◌, ⊤, true, false, List, ℕ, Result, Ok, Err}
use Rattle.hgs_index.specs.Revision.{ParentsBefore}
use Rattle.hgs_revset.specs.Members.{Set, Story, is_known}
use Rattle.hgs_revset.specs.Text.{set_text}
use Rattle.hgs_members.specs.declared.answer.SetAnswer.{SetAnswer}
use Rattle.hgs_members.specs.declared.answer.SetAnswer.TheVariants.{Memory, UnknownRevision}

-- A line for each member, where each name of the set names a changeset; where one names none, that is said.
abbrev pub Prints : Story → Set → Result (List ℕ) SetAnswer → Type 0
Prints s a (Ok text) = (is_known s a ≡ true) × (ParentsBefore 0 s.parents → text ≡ set_text s a)
Prints s a (Err UnknownRevision) = is_known s a ≡ false
Prints s a (Err Memory) = ⊤
