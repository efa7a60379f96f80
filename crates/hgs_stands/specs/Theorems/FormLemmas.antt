-- A revlog in the form that its index says, by the separate one that it is taken apart into.
use Rattle.std.proofs.Common.{◌≡◌, ℕ, zero, suc, ◌+◌, ◌*◌, ◌<◌, List, [], ◌∷◌, ◌++◌, Bool, true, false, cond, ◌&&◌, ◌||◌, not, length, take, drop, map, refl, sym, ◌∙◌, ap, subst, append-nil, arith, length-append}
use Rattle.std.specs.Prelude.{◌/◌, nat_lt}
use Rattle.std.proofs.lemmas.List.{length-take}
use Rattle.std.proofs.lemmas.Bool.Decides.{nat_tests}
use Rattle.hgs_files.specs.Tree.{Tree, bytes_at}
use Rattle.hgs_index.specs.Either.{BeginsEither, HoldsEither, chunk_bytes, chunks_either}
use Rattle.hgs_index.specs.Entry.{is_negative, number_at}
use Rattle.hgs_index.specs.Inline.{chunks_apart, entries_in, index_apart, is_inline, without_inline}
use Rattle.hgs_index.specs.Revision.{Revision}
use Rattle.hgs_index.specs.Revlog.{Begins, BeginsWithRevisions, Holds, HoldsRevisions, Stored, index_bytes, items}
use Rattle.hgs_index.specs.Theorems.EitherLemmas.{begins-apart}
use Rattle.hgs_index.specs.Theorems.InlineLemmas.{held-apart, held-plain}
use Rattle.hgs_index.specs.Theorems.RevlogLemmas.{length-held}
use Rattle.hgs_stands.specs.Places.{changelog_index, manifest_index}
use Rattle.hgs_stands.specs.Stands.{has_inline_log}

-- what holds a list as a separate revlog does not say that it is inline
none-held : (index data_bytes : List ℕ) → HoldsRevisions index data_bytes [] → index ≡ []
none-held index data_bytes h = nothing h.stored h.these h.index_is
  where
    nothing : (stored : List Stored) → map (λ s. s.revision) stored ≡ [] → index ≡ index_bytes h.header (items stored) → index ≡ []
    nothing [] these is = is
    nothing (s ∷ stored) these is = cc

pub held-separate : (index data_bytes : List ℕ) (revisions : List Revision) → HoldsRevisions index data_bytes revisions → is_inline index ≡ false
held-separate index data_bytes [] h = ap is_inline (none-held index data_bytes h)
held-separate index data_bytes (r ∷ revisions) h = ap is_inline (sym (append-nil index)) ∙ held-plain index data_bytes [] r revisions h

-- taken apart, what holds it in its form holds it as a separate revlog
pub apart-held : (index data_bytes : List ℕ) (revisions : List Revision) → HoldsEither index data_bytes revisions → HoldsRevisions (index_apart index) (chunks_either index data_bytes) revisions
apart-held index data_bytes revisions h = by (is_inline index) refl
  where
    by : (b : Bool) → is_inline index ≡ b → HoldsRevisions (cond b (without_inline (entries_in (length index) index)) index) (chunk_bytes b index data_bytes) revisions
    by true e =
        subst (λ b. HoldsRevisions (cond b (without_inline (entries_in (length index) index)) index) (chunks_apart index) revisions) e
        (held-apart index data_bytes revisions (subst (λ b. Holds b index data_bytes revisions) e h))
    by false e = subst (λ b. Holds b index data_bytes revisions) e h

-- so its index has an entry for each revision
pub either-length : (index data_bytes : List ℕ) (revisions : List Revision) → HoldsEither index data_bytes revisions → length (index_apart index) ≡ 64 * length revisions
either-length index data_bytes revisions h = length-held (index_apart index) (chunks_either index data_bytes) revisions (apart-held index data_bytes revisions h)

-- and what begins with it is taken apart into what begins with it as a separate revlog
pub apart-begins : (index data_bytes : List ℕ) (revisions : List Revision) → BeginsEither index data_bytes revisions → BeginsWithRevisions (index_apart index) (chunks_either index data_bytes) revisions
apart-begins index data_bytes revisions b = by (is_inline index) refl
  where
    by : (f : Bool) → is_inline index ≡ f → BeginsWithRevisions (cond f (without_inline (entries_in (length index) index)) index) (chunk_bytes f index data_bytes) revisions
    by true e =
        subst (λ f. BeginsWithRevisions (cond f (without_inline (entries_in (length index) index)) index) (chunks_apart index) revisions) e
        (begins-apart index data_bytes revisions (subst (λ f. Begins f index data_bytes revisions) e b))
    by false e = subst (λ f. Begins f index data_bytes revisions) e b

-- ---- separate ones

-- what holds a list in its form, where that is not inline, holds it as a separate revlog
pub plain-held : (index data_bytes : List ℕ) (revisions : List Revision) → is_inline index ≡ false → HoldsEither index data_bytes revisions → HoldsRevisions index data_bytes revisions
plain-held index data_bytes revisions plain h = subst (λ b. Holds b index data_bytes revisions) plain h

pub plain-begins : (index data_bytes : List ℕ) (revisions : List Revision) → is_inline index ≡ false → BeginsEither index data_bytes revisions → BeginsWithRevisions index data_bytes revisions
plain-begins index data_bytes revisions plain b = subst (λ f. Begins f index data_bytes revisions) plain b

pub plain-apart : (index : List ℕ) → is_inline index ≡ false → index_apart index ≡ index
plain-apart index plain = ap (λ b. cond b (without_inline (entries_in (length index) index)) index) plain

neither : (a b : Bool) → (a || b) ≡ false → (a ≡ false) × (b ≡ false)
neither false false e = (refl, refl)
neither false true e = cc
neither true b e = cc

-- where neither the changelog nor the manifest is inline
pub changelog-plain : (t : Tree) → has_inline_log t ≡ false → is_inline (bytes_at t changelog_index) ≡ false
changelog-plain t e = (neither (is_inline (bytes_at t changelog_index)) (is_inline (bytes_at t manifest_index)) e).0

pub manifest-plain : (t : Tree) → has_inline_log t ≡ false → is_inline (bytes_at t manifest_index) ≡ false
manifest-plain t e = (neither (is_inline (bytes_at t changelog_index)) (is_inline (bytes_at t manifest_index)) e).1

-- less than an entry is taken apart into less than an entry
length-without : (bytes : List ℕ) → length (without_inline bytes) ≡ length bytes
length-without [] = refl
length-without (a ∷ []) = refl
length-without (a ∷ b ∷ bytes) = refl

cut-short : (n : ℕ) (bytes : List ℕ) → length bytes < 64 → length (entries_in n bytes) < 64
cut-short zero bytes lt = omega arith
cut-short (suc n) bytes lt =
    let is : nat_lt (length bytes) 64 ≡ true = grind (arith, nat_tests, lt) in
    let cut : entries_in (suc n) bytes ≡ take 63 bytes =
    ap (λ b. cond (b || (not (is_negative (number_at 8 bytes)) && nat_lt (length bytes) (64 + number_at 8 bytes))) (take 63 bytes) (take 64 bytes ++ entries_in n (drop (64 + number_at 8 bytes) bytes))) is in
    let size = ap length cut ∙ length-take 63 bytes in
    omega (arith, size)

none-apart : (bytes : List ℕ) → length bytes < 64 → length (index_apart bytes) / 64 ≡ 0
none-apart bytes lt = by (is_inline bytes)
  where
    by : (b : Bool) → length (cond b (without_inline (entries_in (length bytes) bytes)) bytes) / 64 ≡ 0
    by true = let size = length-without (entries_in (length bytes) bytes) in let short = cut-short (length bytes) bytes lt in omega (arith, size, short)
    by false = omega (arith, lt)

-- less than an entry behind a separate index does not count
pub part-counted : (index data_bytes more : List ℕ) (revisions : List Revision) → is_inline index ≡ false → HoldsEither index data_bytes revisions → length more < 64 → length (index_apart (index ++ more)) / 64 ≡ length (index_apart index) / 64
part-counted index data_bytes more [] plain h lt =
    let none : index ≡ [] = none-held index data_bytes (plain-held index data_bytes [] plain h) in
    ap (λ i. length (index_apart (i ++ more)) / 64) none ∙ none-apart more lt ∙ ap (λ i. length (index_apart i) / 64) (sym none)
part-counted index data_bytes more (r ∷ revisions) plain h lt =
    let held = plain-held index data_bytes (r ∷ revisions) plain h in
    let size = length-held index data_bytes (r ∷ revisions) held in
    let count : length (index ++ more) / 64 ≡ length index / 64 = omega (arith, lt, size, length-append index more) in
    ap (λ i. length i / 64) (plain-apart (index ++ more) (held-plain index data_bytes more r revisions held)) ∙ count ∙ ap (λ i. length i / 64) (sym (plain-apart index plain))
