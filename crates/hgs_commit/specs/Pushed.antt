-- What is appended of a revision may be pushed behind those of its revlog.
use Rattle.std.specs.Prelude.{◌≡◌, ◌*◌, ℕ, List, true, false, is_some, length, Option, Some, None, IsOk}
use Rattle.hgs_revlog.specs.Load.{entry_behind}
use Rattle.hgs_revlog.specs.Log.{Log}
use Rattle.hgs_load.specs.View.{changelog_index}
use Rattle.hgs_commit.specs.declared.appended.Growth.{Growth}
use Rattle.hgs_commit.specs.declared.new_text.NewText.{NewText}
use Rattle.hgs_commit.specs.declared.hindrance.Hindrances.{Hindrances}
use Rattle.hgs_commit.specs.Hindered.{is_met}

-- what is appended to the index may be pushed behind the entries of the revlog
abbrev pub Pushes : Log → Option Growth → Type 0
Pushes log None = Unit {0}
Pushes log (Some g) = (length g.new_entry ≡ 64) × IsOk (entry_behind log.entries g.new_entry)

-- the entry is appended to this index, behind the revlog's entries
abbrev pub AppendsTo : List ℕ → Log → Option Growth → Type 0
AppendsTo index log None = Unit {0}
AppendsTo index log (Some g) = g.entry ≡ record { path = index; before = 64 * length log.entries; bytes = g.new_entry }

-- what the text of a changeset became in a changelog, of which one that is inline is not appended to: where it neither stands
-- nor is appended, something was met
pub record IsNewText (log : Log) (met : Hindrances) (text : NewText) : Type 0 where
  pub pushes : log.inline ≡ false → Pushes log text.growth
  pub index : log.inline ≡ false → AppendsTo changelog_index log text.growth
  pub lacking : is_some text.growth ≡ false → is_some text.standing ≡ false → is_met met ≡ true
