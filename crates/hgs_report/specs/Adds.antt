-- Findings of a tree, gathered part by part.
use Rattle.std.specs.Prelude.{◌≡◌, ◌⊎◌, ℕ, true, List, Option}
use Rattle.std.specs.List.{list_any}
use Rattle.hgs_files.specs.Tree.{Tree}
use Rattle.hgs_findings.specs.Findings.{Finding, IsFinding, is_finding}

-- All of a part stands among the new findings, which are the old ones and findings of the tree.
pub record Adds (t : Tree) (IsPart : List ℕ → Option ℕ → ℕ → Type 0) (old new : List Finding) : Type 0 where
  pub are : (file : List ℕ) (rev : Option ℕ) (kind : ℕ) → list_any (is_finding file rev kind) new ≡ true → (list_any (is_finding file rev kind) old ≡ true) ⊎ IsFinding t file rev kind
  pub kept : (file : List ℕ) (rev : Option ℕ) (kind : ℕ) → list_any (is_finding file rev kind) old ≡ true → list_any (is_finding file rev kind) new ≡ true
  pub all : (file : List ℕ) (rev : Option ℕ) (kind : ℕ) → IsPart file rev kind → list_any (is_finding file rev kind) new ≡ true
