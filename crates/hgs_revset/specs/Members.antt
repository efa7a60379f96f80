-- What a set of revisions is, and which changesets it holds.
use Rattle.std.specs.Prelude.{◌≡◌, ℕ, ◌<◌, ◌⊎◌, ⊤, Bool, true, ◌&&◌, List, length, is_some, slice_get, Option, Some}
use Rattle.hgs_index.specs.Ancestor.{IsAncestor, IsParent}
use Rattle.hgs_index.specs.Revision.{Parents}
use Rattle.hgs_model.specs.History.{changeset_nodes}
use Rattle.hgs_model.specs.Names as model
use Rattle.hgs_model.specs.Phase.{phase_number}
use Rattle.hgs_model.specs.Repo.{Repo, all_parents}
use Rattle.hgs_model.specs.declared.phase.Phase.{Phase}

pub data Set : Type 0 where
  Name : List ℕ → Set
  Marked : List ℕ → Set
  All : Set
  InPhase : Phase → Set
  Not : Set → Set
  Ancestors : Set → Set
  Descendants : Set → Set
  Heads : Set → Set
  Roots : Set → Set
  And : Set → Set → Set
  Or : Set → Set → Set

-- what a set is asked of: the parents and the phase of each changeset, what names and bookmarks name, and the nodes
pub record Story : Type 0 where
  pub parents : List Parents
  pub phases : List ℕ
  pub named : List ℕ → Option ℕ
  pub marked : List ℕ → Option ℕ
  pub nodes : List (List ℕ)

-- the same is told
pub record AreAlike (s t : Story) : Type 0 where
  pub parents : s.parents ≡ t.parents
  pub phases : s.phases ≡ t.phases
  pub named : (name : List ℕ) → s.named name ≡ t.named name
  pub marked : (name : List ℕ) → s.marked name ≡ t.marked name
  pub nodes : s.nodes ≡ t.nodes

-- what a repository tells
abbrev pub story_of_repo : Repo → Story
story_of_repo r = record {
  parents = all_parents r.changesets;
  phases = r.phases;
  named = model.named r;
  marked = model.bookmark_named r.bookmarks;
  nodes = changeset_nodes r.changesets;
}

-- a set holds a changeset
abbrev pub Has : Story → Set → ℕ → Type 0
Has s (Name n) rev = s.named n ≡ Some rev
Has s (Marked n) rev = s.marked n ≡ Some rev
Has s All rev = ⊤
Has s (InPhase p) rev = slice_get s.phases rev ≡ Some (phase_number p)
Has s (Not a) rev = Has s a rev → ⊥
Has s (Ancestors a) rev = (m : ℕ) × (m < length s.parents) × Has s a m × IsAncestor s.parents rev m
Has s (Descendants a) rev = (m : ℕ) × (m < length s.parents) × Has s a m × IsAncestor s.parents m rev
Has s (Heads a) rev = Has s a rev × ((child : ℕ) → child < length s.parents → Has s a child → IsParent s.parents rev child → ⊥)
Has s (Roots a) rev = Has s a rev × ((p : ℕ) → p < length s.parents → Has s a p → IsParent s.parents p rev → ⊥)
Has s (And a b) rev = Has s a rev × Has s b rev
Has s (Or a b) rev = Has s a rev ⊎ Has s b rev

-- whether each name and each bookmark of a set names a changeset
abbrev pub is_known : Story → Set → Bool
is_known s (Name n) = is_some (s.named n)
is_known s (Marked n) = is_some (s.marked n)
is_known s All = true
is_known s (InPhase p) = true
is_known s (Not a) = is_known s a
is_known s (Ancestors a) = is_known s a
is_known s (Descendants a) = is_known s a
is_known s (Heads a) = is_known s a
is_known s (Roots a) = is_known s a
is_known s (And a b) = is_known s a && is_known s b
is_known s (Or a b) = is_known s a && is_known s b
