-- The text of what was found.
use Rattle.std.proofs.Common.{◌≡◌, ℕ, List, Option, Some, None, refl, sym, ◌∙◌, ap, subst, cond, arith}
use Rattle.std.specs.Prelude.{slice_get, IsSome}
use Rattle.std.specs.List.Sorted.{IsPermutation}
use Rattle.std.proofs.lemmas.List.Sorted.{sum_by-IsPermutation, Contains-permutation, IsPermutation-sym}
use Rattle.std.proofs.lemmas.Option.{slice_get-get_or}
use Rattle.hgs_follow.specs.Asked.{same_at, Asked}
use Rattle.hgs_follow.specs.Follow.{Follows}
use Rattle.hgs_follow.specs.Followed.{At, Filelogs, IsFollowed, number_of}
use Rattle.hgs_follow.specs.Lines.{at_line, lines_text, times_listed, StandInOrder}
use Rattle.hgs_follow.specs.Search.{IsFound, IsReached}
use Rattle.hgs_follow.specs.Source.{CopySource}
use Rattle.hgs_follow.specs.declared.line.Line.{Line}
use Rattle.hgs_follow.proofs.ListLemmas.{false_is, get_low, some_is}

same_count : (xs ys : List Line) (a : At) → IsPermutation xs ys → times_listed a ys ≡ times_listed a xs
same_count xs ys a p = sum_by-IsPermutation (λ l. cond (same_at a (at_line l)) 1 0) xs ys p

was_there : (xs ys : List Line) (i : ℕ) (l : Line) → IsPermutation xs ys → slice_get ys i ≡ Some l → (j : ℕ) × (slice_get xs j ≡ Some l)
was_there xs ys i l p e =
    let low = get_low ys i l e in
    let k = Contains-permutation ys xs l (IsPermutation-sym xs ys p) (i, low, some_is _ l (sym (slice_get-get_or ys i l low) ∙ e)) in
    (k.0, slice_get-get_or xs k.0 l k.1 ∙ ap (λ x. Some x) k.2)

its_number : (o : Option ℕ) → IsSome o → (rev : ℕ) × (o ≡ Some rev)
its_number None h = false_is h
its_number (Some rev) h = (rev, refl)

reached_is : (files : Filelogs) (begin : CopySource) (rev : ℕ) (a : At) → number_of files begin ≡ Some rev → IsReached files begin a → IsFollowed files (record { path = begin.path; rev = rev }) a
reached_is files begin rev a named r = subst (λ n. IsFollowed files (record { path = begin.path; rev = n }) a) (some_is r.rev rev (sym r.named ∙ named)) r.followed

pub follows : (begin : CopySource) (lines sorted : List Line) (asked : List Asked) (text : List ℕ) → IsFound begin lines asked → IsPermutation lines sorted → StandInOrder sorted → text ≡ lines_text sorted → Follows begin asked text
follows begin lines sorted asked text found same order whole = record {
  is = λ files h. let n = its_number (number_of files begin) (found.there files h) in record {
    rev = n.0;
    named = n.1;
    is = record {
      lines = sorted;
      say = λ i l e. (let j = was_there lines sorted i l same e in found.say files h j.0 l j.1);
      each = λ a. (
        λ f. same_count lines sorted a same ∙ (found.each files h a).0 (record { rev = n.0; named = n.1; followed = f }),
        λ e. reached_is files begin n.0 a n.1 ((found.each files h a).1 (sym (same_count lines sorted a same) ∙ e)),
      );
      once = λ a. (let c = same_count lines sorted a same in let o = found.once a in omega (arith, c, o));
      ordered = order;
      whole = whole;
    };
    told = λ a. (
      λ f. found.told a ∙ (found.each files h a).0 (record { rev = n.0; named = n.1; followed = f }),
      λ e. reached_is files begin n.0 a n.1 ((found.each files h a).1 (sym (found.told a) ∙ e)),
    );
  };
  told_once = λ a. (let c = found.told a in let o = found.once a in omega (arith, c, o));
  loaded_once = found.loaded;
}
