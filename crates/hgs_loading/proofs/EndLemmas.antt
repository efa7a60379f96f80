-- Where the last chunk of a revlog ends.
use Rattle.std.proofs.Common.{◌≡◌, ℕ, ◌+◌, List, [], ◌∷◌, length, take, Option, Some, None, refl, sym, ◌∙◌, ap, arith, slice_get}
use Rattle.std.specs.Option.{option_map}
use Rattle.std.proofs.lemmas.List.{take_all}
use Rattle.std.proofs.lemmas.List.Sums.{sum_by_more}
use Rattle.std.proofs.lemmas.Option.{get_or_from_slice_get}
use Rattle.hgs_index.specs.declared.entry.Entry.{Entry}
use Rattle.hgs_index.specs.declared.kinds.Span.{Span}
use Rattle.hgs_revlog.specs.Loaded.{AreEntries}
use Rattle.hgs_revlog.specs.Log.{stored_sum}
use Rattle.hgs_revlog.specs.Text.{span_of}

some_is : {A : Type 0} (x y : A) → Some x ≡ Some y → x ≡ y
some_is x y e = cc

last-sum : (entries : List Entry) (n : ℕ) (e : Entry) → length entries ≡ n + 1 → slice_get entries n ≡ Some e → stored_sum entries ≡ stored_sum (take n entries) + e.stored
last-sum entries n e len at =
    ap stored_sum (sym (take_all (n + 1) entries (omega (arith, len))))
    ∙ sum_by_more (λ (x : Entry). x.stored) entries n e (omega (arith, len))
    ∙ ap (λ (x : Entry). stored_sum (take n entries) + x.stored) (get_or_from_slice_get entries n e e at)

-- the span of the last chunk ends where the data does
pub last-end : (entries : List Entry) (n : ℕ) (span : Span) → AreEntries entries → length entries ≡ n + 1 → option_map span_of (slice_get entries n) ≡ Some span → span.from + span.len ≡ stored_sum entries
last-end entries n span are len at = by (slice_get entries n) refl at
  where
    by : (o : Option Entry) → slice_get entries n ≡ o → option_map span_of o ≡ Some span → span.from + span.len ≡ stored_sum entries
    by None e s = cc
    by (Some x) e s =
        let same : span_of x ≡ span = some_is (span_of x) span s in
        ap (λ (p : Span). p.from + p.len) (sym same) ∙ ap (λ k. k + x.stored) (are.offsets n x e) ∙ sym (last-sum entries n x len e)

pub no-data : (entries : List Entry) → length entries ≡ 0 → 0 ≡ stored_sum entries
no-data [] e = refl
no-data (x ∷ entries) e = cc
