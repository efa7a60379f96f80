-- Which branches the descendants of changesets are of, and what one hands on to its parents.
use Rattle.std.specs.Prelude.{◌≡◌, ◌≢◌, ◌⊎◌, ◌<◌, ◌≤◌, ◌*◌, ◌/◌, ◌%◌, ◌==◌, ◌&&◌, ◌||◌, ℕ, nat_lt, Bool, true, false, List, [], length, slice_get, slice_index_or, Option, Some, None}
use Rattle.std.specs.Int.{bit_at}
use Rattle.hgs_index.specs.Ancestor.{IsAncestor, IsParent}
use Rattle.hgs_branch.specs.Tracked.{numbers_in, parents_in}
use Rattle.hgs_branch.specs.declared.reach.Known.{Known}
use Rattle.hgs_branch.specs.declared.reach.Reach.{Reach}

-- bit n of the words, counted from the lowest bit of the first
abbrev pub bit_of : List ℕ → ℕ → Bool
bit_of words n = bit_at (slice_index_or words (n / 64) 0) (n % 64) == 1

abbrev pub words_of : Option Reach → List ℕ
words_of None = []
words_of (Some reach) = reach.words.items

abbrev pub left_of : Option Reach → Bool
left_of None = false
left_of (Some reach) = reach.left

-- whether the bit of a branch stands at a changeset
abbrev pub has_at : List Reach → ℕ → ℕ → Bool
has_at reaches rev number = bit_of (words_of (slice_get reaches rev)) number

-- of how many branches a changeset has words
abbrev pub wide_at : List Reach → ℕ → ℕ
wide_at reaches rev = length (words_of (slice_get reaches rev))

abbrev pub left_at : List Reach → ℕ → Bool
left_at reaches rev = left_of (slice_get reaches rev)

-- nothing is left but from one changeset on and before another
abbrev pub IsLeftWithin : List Reach → ℕ → ℕ → Type 0
IsLeftWithin reaches low high = (rev : ℕ) → left_at reaches rev ≡ true → (low ≤ rev) × (rev < high)

-- what is left stands before a changeset, and is new or has its bit in the marks
abbrev pub AreMarked : List Reach → List ℕ → ℕ → ℕ → Type 0
AreMarked reaches marks new high = (rev : ℕ) → left_at reaches rev ≡ true → (rev < high) × ((new ≤ rev) ⊎ (bit_of marks rev ≡ true))

-- ---- what stands

-- a changeset of the branch is this one or descends from it
pub record Descends (known : List Known) (rev number : ℕ) : Type 0 where
  pub other : ℕ
  pub behind : rev ≤ other
  pub branch : slice_get (numbers_in known) other ≡ Some number
  pub above : IsAncestor (parents_in known) rev other

-- another changeset of its own branch descends from it
pub record IsFallen (known : List Known) (rev : ℕ) : Type 0 where
  pub other : ℕ
  pub behind : rev < other
  pub same : slice_get (numbers_in known) other ≡ slice_get (numbers_in known) rev
  pub above : IsAncestor (parents_in known) rev other

-- a changeset has nothing that a parent before it lacks
pub record IsHanded (known : List Known) (heads : List Bool) (reaches : List Reach) (rev : ℕ) : Type 0 where
  pub bits : (parent number : ℕ) → IsParent (parents_in known) parent rev → parent < rev → number < 64 * wide_at reaches parent → has_at reaches rev number ≡ true → has_at reaches parent number ≡ true
  pub head : (parent number : ℕ) → IsParent (parents_in known) parent rev → parent < rev → slice_get (numbers_in known) parent ≡ Some number → has_at reaches rev number ≡ true → slice_index_or heads parent false ≡ false

-- Each bit tells of a branch, each head that fell of a changeset that goes on, and what a changeset has its parents have, unless it is left.
pub record Reached (known : List Known) (heads : List Bool) (reaches : List Reach) : Type 0 where
  pub heads_count : length heads ≡ length known
  pub reaches_count : length reaches ≡ length known
  pub own : (rev number : ℕ) → slice_get (numbers_in known) rev ≡ Some number → has_at reaches rev number ≡ true
  pub inside : (rev number : ℕ) → slice_get (numbers_in known) rev ≡ Some number → number < 64 * wide_at reaches rev
  pub wide : (a b : ℕ) → a ≤ b → b < length known → wide_at reaches a ≤ wide_at reaches b
  pub bits : (rev number : ℕ) → has_at reaches rev number ≡ true → Descends known rev number
  pub fallen : (rev : ℕ) → rev < length known → slice_index_or heads rev false ≡ false → IsFallen known rev
  pub handed : (rev : ℕ) → left_at reaches rev ≡ false → IsHanded known heads reaches rev

-- ---- what is handed on

-- a changeset was given bits, of as many branches as it has words for
pub record Receives (reaches new : List Reach) (place : ℕ) (words : List ℕ) (more : Bool) : Type 0 where
  pub count : length new ≡ length reaches
  pub others : (c : ℕ) → c ≢ place → slice_get new c ≡ slice_get reaches c
  pub wide : wide_at new place ≡ wide_at reaches place
  pub each : (number : ℕ) → has_at new place number ≡ (has_at reaches place number || (nat_lt number (64 * wide_at reaches place) && bit_of words number))
  pub left : left_at new place ≡ (left_at reaches place || more)
  pub none : more ≡ false → words_of (slice_get new place) ≡ words_of (slice_get reaches place)

-- the head of a parent falls where its branch is among the bits
pub record Falls (known : List Known) (heads dropped : List Bool) (words : List ℕ) (place : ℕ) : Type 0 where
  pub count : length dropped ≡ length heads
  pub fell : (c : ℕ) → slice_index_or heads c false ≡ false → slice_index_or dropped c false ≡ false
  pub fell_from : (c : ℕ) → slice_index_or dropped c false ≡ false → (slice_index_or heads c false ≡ false) ⊎ ((place ≡ c) × (number : ℕ) × (slice_get (numbers_in known) c ≡ Some number) × (bit_of words number ≡ true))
  pub falls : (number : ℕ) → slice_get (numbers_in known) place ≡ Some number → bit_of words number ≡ true → slice_index_or dropped place false ≡ false

-- a parent before a changeset was given its bits, and fell where its branch is among them; it is the next one if it has something to hand on itself
pub record Hands (known : List Known) (heads dropped : List Bool) (reaches new : List Reach) (words : List ℕ) (rev : ℕ) (parent next : Option ℕ) : Type 0 where
  pub heads_count : length dropped ≡ length heads
  pub count : length new ≡ length reaches
  pub behind : (c : ℕ) → rev ≤ c → slice_get new c ≡ slice_get reaches c
  pub wide : (c : ℕ) → wide_at new c ≡ wide_at reaches c
  pub kept : (c number : ℕ) → has_at reaches c number ≡ true → has_at new c number ≡ true
  pub from : (c number : ℕ) → has_at new c number ≡ true → (has_at reaches c number ≡ true) ⊎ ((parent ≡ Some c) × (c < rev) × (bit_of words number ≡ true))
  pub handed : (c number : ℕ) → parent ≡ Some c → c < rev → number < 64 * wide_at reaches c → bit_of words number ≡ true → has_at new c number ≡ true
  pub left_from : (c : ℕ) → left_at new c ≡ true → (left_at reaches c ≡ true) ⊎ ((next ≡ Some c) × (c < rev))
  pub still : (c : ℕ) → left_at new c ≡ false → (left_at reaches c ≡ false) × (words_of (slice_get new c) ≡ words_of (slice_get reaches c))
  pub fell : (c : ℕ) → slice_index_or heads c false ≡ false → slice_index_or dropped c false ≡ false
  pub fell_from : (c : ℕ) → slice_index_or dropped c false ≡ false → (slice_index_or heads c false ≡ false) ⊎ ((parent ≡ Some c) × (c < rev) × (number : ℕ) × (slice_get (numbers_in known) c ≡ Some number) × (bit_of words number ≡ true))
  pub falls : (c number : ℕ) → parent ≡ Some c → c < rev → slice_get (numbers_in known) c ≡ Some number → bit_of words number ≡ true → slice_index_or dropped c false ≡ false
