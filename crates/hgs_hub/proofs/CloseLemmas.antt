-- Several reading ends, gone through in place.
use Rattle.std.proofs.Common.{◌≡◌, ℕ, ◌+◌, ◌<◌, Bool, true, List, [], ◌∷◌, ◌++◌, map, fold, length, get_or, set, take, refl, sym, ap, ◌∙◌, subst}
use Rattle.std.specs.List.{AllZip}
use Rattle.std.proofs.lemmas.List.{get_or-map, map-set, set-get_or, length-map, take_more}
use Rattle.std.proofs.lemmas.List.Elements.{All-push}
use mathlib.Core.List.{IsPrefix}
use Rattle.hgs_files.specs.declared.op.Op.{Op}
use Rattle.hgs_files.specs.Reads.{counted, Covers}
use Rattle.hgs_files.specs.Ends.{total_of}
use Rattle.hgs_hub.specs.declared.reader.HubReader.{HubReader}
use Rattle.hgs_hub.specs.New.{Mark, mark_of, marks_of, IsWithin, AllWithin}
use Rattle.hgs_hub.specs.Told.{lists_of}

total_from : {R : Type 0} (count : R → ℕ) (n : ℕ) (rs : List R) (r : R) → fold (λ (m : ℕ) (s : R). counted m (count s)) n (rs ++ r ∷ []) ≡ counted (fold (λ (m : ℕ) (s : R). counted m (count s)) n rs) (count r)
total_from count n [] r = refl
total_from count n (s ∷ rs) r = total_from count (counted n (count s)) rs r

total_push : {R : Type 0} (count : R → ℕ) (rs : List R) (r : R) (old new : ℕ) → old ≡ total_of count rs → new ≡ counted old (count r) → new ≡ total_of count (rs ++ r ∷ [])
total_push count rs r old new was is = is ∙ ap (λ n. counted n (count r)) was ∙ sym (total_from count 0 rs r)

pub as_long : {P : Type 0} (first now : List (HubReader P)) → marks_of now ≡ marks_of first → length now ≡ length first
as_long first now same = sym (length-map now mark_of) ∙ ap length same ∙ length-map first mark_of

-- the ends as they were, and as they are when those before a place were gone through
module _ {P : Type 0} (first now : List (HubReader P)) (i : ℕ) (same : marks_of now ≡ marks_of first) (there : i < length now) where
  pub still_there : i < length first
  still_there = subst (λ n. i < n) (as_long first now same) there

  pub mark_there : (d : HubReader P) → mark_of (get_or now i d) ≡ mark_of (get_or first i d)
  mark_there d = sym (get_or-map mark_of now i d (mark_of d) there) ∙ ap (λ l. get_or l i (mark_of d)) same ∙ get_or-map mark_of first i d (mark_of d) still_there

  pub marks_stay : (d r : HubReader P) → mark_of r ≡ mark_of (get_or now i d) → marks_of (set now i r) ≡ marks_of first
  marks_stay d r e =
      map-set mark_of now i r ∙ ap (set (marks_of now) i) (e ∙ sym (get_or-map mark_of now i d (mark_of d) there))
      ∙ set-get_or (marks_of now) i (mark_of d) ∙ same

  -- one more
  pub within_more : (log : List Op) (old new : Bool) (d : HubReader P) → (old ≡ true → AllWithin log (take i first)) → (new ≡ true → old ≡ true) → (new ≡ true → IsWithin log (get_or now i d))
      → new ≡ true → AllWithin log (take (i + 1) first)
  within_more log old new d was and one held =
      let W : Mark → Type 0 = λ m. IsPrefix m.last.log.value.items log × Covers (lists_of m.told) log in
      let w : IsWithin log (get_or first i d) = subst W (mark_there d) (one held) in
      subst (λ l. AllWithin log l) (sym (take_more first i d still_there)) (All-push (IsWithin log) (take i first) (get_or first i d) (was (and held)) w)

  pub total_more : (count : Mark → ℕ) (old new : ℕ) (d : HubReader P) → old ≡ total_of (λ (s : HubReader P). count (mark_of s)) (take i first) → new ≡ counted old (count (mark_of (get_or now i d)))
      → new ≡ total_of (λ (s : HubReader P). count (mark_of s)) (take (i + 1) first)
  total_more count old new d was is =
      let f : HubReader P → ℕ = λ s. count (mark_of s) in
      total_push f (take i first) (get_or first i d) old new was (is ∙ ap (λ m. counted old (count m)) (mark_there d))
      ∙ ap (total_of f) (sym (take_more first i d still_there))

-- what holds of the marks holds of each
pub all_zip : {A : Type 0} {M : Type 0} (mark : A → M) (R : A → A → Type 0) → ((r s : A) → mark s ≡ mark r → R r s) → (rs ss : List A) → map mark ss ≡ map mark rs → AllZip R rs ss
all_zip mark R by [] [] e = tt
all_zip mark R by [] (s ∷ ss) e = absurd (cc e)
all_zip mark R by (r ∷ rs) [] e = absurd (cc e)
all_zip mark R by (r ∷ rs) (s ∷ ss) e = (by r s (cc e), all_zip mark R by rs ss (cc e))
