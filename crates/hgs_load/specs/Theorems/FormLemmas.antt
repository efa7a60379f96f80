-- What the first piece of an index says of its form.
use Rattle.std.proofs.Common.{◌≡◌, ℕ, ◌+◌, ◌≤◌, Bool, true, false, cond, List, [], length, take, drop, refl, sym, ◌∙◌, ap, subst, arith}
use Rattle.std.specs.Prelude.{nat_lt, unwrap_or}
use Rattle.std.proofs.lemmas.List.{take-append-drop, take_all, length-take}
use Rattle.hgs_bytes.specs.Bytes.{IsPrefixOf}
use Rattle.hgs_files.specs.declared.op.Op.{Op}
use Rattle.hgs_files.specs.Tree.{Tree, after_all, bytes_at}
use Rattle.hgs_index.specs.Inline.{is_inline}
use Rattle.hgs_index.specs.Theorems.EitherLemmas.{form-more}
use Rattle.hgs_load.specs.Asks.{Asks, answer, read, part_of, at_rest, MayAnswer}
use Rattle.hgs_load.specs.Form.{unless_inline}
use Rattle.hgs_load.specs.Given.{given_at_rest, size_of}
use Rattle.hgs_load.specs.Theorems.AskLemmas.{prefix-refl}
use Rattle.hgs_load.specs.Theorems.PartLemmas.{part_is}
use Rattle.hgs_load.specs.Theorems.RestLemmas.{may-front}

-- a front of at least an entry says the same form
pub front-form : (n : ℕ) (index : List ℕ) → 64 ≤ n → is_inline (take n index) ≡ is_inline index
front-form n index some = by (nat_lt (length index) n) refl
  where
    less : (a b : ℕ) → nat_lt a b ≡ true → a ≤ b
    less a b h = grind arith

    more : (a b : ℕ) → nat_lt a b ≡ false → b ≤ a
    more a b h = grind arith

    by : (b : Bool) → nat_lt (length index) n ≡ b → is_inline (take n index) ≡ is_inline index
    by true e = ap is_inline (take_all n index (less (length index) n e))
    by false e =
        let cut = length-take n index in
        let long = more (length index) n e in
        sym (form-more (take n index) (drop n index) (omega (arith, cut, long, some))) ∙ ap is_inline (take-append-drop n index)

-- a read from the first byte on says the form of its file
pub part-form : (t : Tree) (path : List ℕ) (most : ℕ) → 64 ≤ most → is_inline (unwrap_or (part_of t path 0 most) []) ≡ is_inline (bytes_at t path)
part-form t path most some = ap is_inline (part_is (t path) 0 most) ∙ front-form most (bytes_at t path) some

-- what the first read of a question says
abbrev pub first_says : {A : Type 0} → Tree → Asks A → Bool
first_says t (answer x) = false
first_says t (read path from most rest) = is_inline (unwrap_or (part_of t path from most) [])

-- ---- files at rest

pub rest-apart : {A : Type 0} (t : Tree) (inline q : Asks A) → first_says t q ≡ false → at_rest t (unless_inline inline q) ≡ at_rest t q
rest-apart t inline (answer x) h = refl
rest-apart t inline (read path from most rest) h = ap (λ b. at_rest t (cond b inline (rest (part_of t path from most)))) h

pub rest-inline : {A : Type 0} (t : Tree) (inline q : Asks A) → first_says t q ≡ true → at_rest t (unless_inline inline q) ≡ at_rest t inline
rest-inline t inline (answer x) h = cc
rest-inline t inline (read path from most rest) h = ap (λ b. at_rest t (cond b inline (rest (part_of t path from most)))) h

pub given-apart : {A : Type 0} (t : Tree) (inline q : Asks A) → first_says t q ≡ false → given_at_rest t (unless_inline inline q) ≡ given_at_rest t q
given-apart t inline (answer x) h = refl
given-apart t inline (read path from most rest) h = ap (λ b. size_of (part_of t path from most) + given_at_rest t (cond b inline (rest (part_of t path from most)))) h

-- ---- the moments of a load

-- at each of them the first read would say that the index is separate
abbrev pub IsApart : {A : Type 0} → Tree → List Op → List Op → Asks A → Type 0
IsApart start from last q = (now : List Op) → IsPrefixOf from now → IsPrefixOf now last → first_says (after_all now start) q ≡ false

pub may-apart : {A : Type 0} (start : Tree) (from last : List Op) (inline q : Asks A) (y : A) → IsApart start from last q → MayAnswer start from (unless_inline inline q) last y → MayAnswer start from q last y
may-apart start from last inline (answer x) y plain m = m
may-apart start from last inline (read path at most rest) y plain m =
    let part = part_of (after_all m.0 start) path at most in
    let goes = may-front (cond (is_inline (unwrap_or part [])) inline (rest part)) start m.0 last y m.2 in
    (m.0, m.1, subst (λ b. MayAnswer start m.0 (cond b inline (rest part)) last y) (plain m.0 m.1 goes) m.2)

-- where it would say at each of them that the index is inline, the other question is asked
pub may-inline : {A : Type 0} (start : Tree) (from last : List Op) (inline q : Asks A) (y : A) → ((now : List Op) → IsPrefixOf from now → IsPrefixOf now last → first_says (after_all now start) q ≡ true) → MayAnswer start from (unless_inline inline q) last y
    → (now : List Op) × IsPrefixOf from now × MayAnswer start now inline last y
may-inline start from last inline (answer x) y says m = no (says from (prefix-refl from) m.0)
  where
    no : false ≡ true → (now : List Op) × IsPrefixOf from now × MayAnswer start now inline last y
    no e = cc
may-inline start from last inline (read path at most rest) y says m =
    let part = part_of (after_all m.0 start) path at most in
    let goes = may-front (cond (is_inline (unwrap_or part [])) inline (rest part)) start m.0 last y m.2 in
    (m.0, m.1, subst (λ b. MayAnswer start m.0 (cond b inline (rest part)) last y) (says m.0 m.1 goes) m.2)
