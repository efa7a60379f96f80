-- The branches of changesets, as they are read of files that others may change meanwhile.
use Rattle.std.specs.Prelude.{◌≡◌, ◌<◌, ◌≤◌, ⊤, ℕ, suc, ◌+◌, ◌-◌, List, [], ◌∷◌, slice_get, length, take, drop, Option, Some, Ok, Err}
use Rattle.std.specs.Bool.{MatchBool}
use Rattle.hgs_files.specs.declared.op.Op.{Op}
use Rattle.hgs_files.specs.Tree.{Tree}
use Rattle.hgs_index.specs.ChangeText.{Change}
use Rattle.hgs_index.specs.declared.entry.Entry.{Entry}
use Rattle.hgs_load.specs.declared.answer.ReadAnswer.{ReadAnswer}
use Rattle.hgs_load.specs.Answer.{is_of_outside}
use Rattle.hgs_load.specs.Asks.{MayAnswerWhereTold}
use Rattle.hgs_load.specs.View.{View}
use Rattle.hgs_reader.specs.Line.{change_asks, change_at}
use Rattle.hgs_revlog.specs.Log.{stored_sum}
use Rattle.hgs_branch.specs.Extras.{branch_of}
use Rattle.hgs_branch.specs.declared.changeset.OnBranch.{OnBranch}

-- a changeset of which this is the chunk: its parents are those of its entry, and its branch is that of the extras in its text
pub record IsMade (view : View) (rev : ℕ) (chunk : List ℕ) (c : OnBranch) : Type 0 where
  pub entry : Entry
  pub there : slice_get view.changelog.entries rev ≡ Some entry
  pub p1 : c.p1 ≡ entry.p1
  pub p2 : c.p2 ≡ entry.p2
  pub change : Change
  pub text : change_at view rev chunk ≡ Ok change
  pub branch : c.branch ≡ branch_of change.extras

-- this chunk has no changeset, or there was no memory for it
abbrev pub IsUnmade : View → ℕ → List ℕ → ReadAnswer → Type 0
IsUnmade view rev chunk e = MatchBool (is_of_outside e) ⊤ (change_at view rev chunk ≡ Err e)

-- a changeset as it was read: its parents are those of its entry, and its branch is that of the extras in its text
pub record IsRead (before : Option (List Op)) (start : Tree) (after : Option (List Op)) (view : View) (rev : ℕ) (c : OnBranch) : Type 0 where
  pub entry : Entry
  pub there : slice_get view.changelog.entries rev ≡ Some entry
  pub p1 : c.p1 ≡ entry.p1
  pub p2 : c.p2 ≡ entry.p2
  pub change : Change
  pub answer : MayAnswerWhereTold before start after (change_asks view rev) (Ok change)
  pub branch : c.branch ≡ branch_of change.extras

-- and so were changesets one after another, the first of which has this number
abbrev pub AreRead : Option (List Op) → Tree → Option (List Op) → View → ℕ → List OnBranch → Type 0
AreRead before start after view rev [] = ⊤
AreRead before start after view rev (c ∷ changes) = IsRead before start after view rev c × AreRead before start after view (suc rev) changes

-- Reading changesets, from one number up to another, was refused so: those before one of them were read, and this one was refused, unless the outside refused.
pub record IsRefusedAt (before : Option (List Op)) (start : Tree) (after : Option (List Op)) (view : View) (from upto : ℕ) (e : ReadAnswer) : Type 0 where
  pub rev : ℕ
  pub changes : List OnBranch
  pub count : from + length changes ≡ rev
  pub read : AreRead before start after view from changes
  pub below : rev < upto
  pub answer : MayAnswerWhereTold before start after (change_asks view rev) (Err e)

abbrev pub IsRefused : Option (List Op) → Tree → Option (List Op) → View → ℕ → ℕ → ReadAnswer → Type 0
IsRefused before start after view from upto e = MatchBool (is_of_outside e) ⊤ (IsRefusedAt before start after view from upto e)

-- the stored bytes of the changesets from one number up to another
abbrev pub stored_between : List Entry → ℕ → ℕ → ℕ
stored_between entries from upto = stored_sum (take (upto - from) (drop from entries))
