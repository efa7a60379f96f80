-- The lines of a listing are written at once.
use Rattle.std.proofs.Common.{◌≡◌, ℕ, List, [], Option, Some, None, Result, Ok, Err, OnOk, refl, sym, ap, subst}
use Rattle.std.specs.Prelude.{IfErr}
use Rattle.hgs_files.specs.declared.op.Op.{Op}
use Rattle.hgs_files.specs.Streams.{IsWritten}
use Rattle.hgs_files.specs.Tree.{Tree, after_all}
use Rattle.hgs_load.specs.declared.answer.ReadAnswer.TheVariants.{Memory}
use Rattle.hgs_load.specs.Asks.{at_rest, Answers}
use Rattle.hgs_load.specs.View.{View}
use Rattle.hgs_load.specs.Open.{open_asks}
use Rattle.hgs_load.specs.Theorems.RestLemmas.{answers_at_rest}
use Rattle.hgs_top.specs.declared.stopped.Stopped.{Stopped}
use Rattle.hgs_top.specs.declared.stopped.Stopped.TheVariants.{Refused}
use Rattle.hgs_top.specs.Outcome.{Outcome, listing_text, listing_of_view, listing_of_load, listing_outcome}
use Rattle.hgs_top.specs.declared.listing.Listing.{Listing}
use Rattle.hgs_top.specs.Run.{OfTree, IsTold, IsCut, IsUnwritten}
use Rattle.hgs_top.proofs.LogLemmas.{nothing_written, last_told, of_all}

-- all lines of the opened view were written, or a front of them
pub listing_told : (listing : Listing) (seen0 seen1 : Option (List Op)) (start : Tree) (view : View) (old new : Option (List ℕ)) (lines : List ℕ) (r : Result Unit Stopped) → seen1 ≡ seen0 → Answers (λ (s : View). s) seen0 start seen1 open_asks (Ok view) → lines ≡ listing_text listing view
    → OnOk r (IsWritten old new lines) → IfErr r (λ e. IsUnwritten e × IsCut old new lines) → OfTree seen0 start (λ t. IsTold (listing_outcome listing t) old new r)
listing_told listing None seen1 start view old new lines r s a is ok err = tt
listing_told listing (Some l) seen1 start view old new lines r s a is ok err =
    let found : at_rest (after_all l start) open_asks ≡ Ok view = answers_at_rest (λ (v : View). v) (Some l) seen1 l start open_asks view refl s a in
    let P : Outcome → Type 0 = λ o. IsTold o old new r in
    let u : Unit {0} = tt in
    subst P (sym (ap (listing_of_load listing) found)) (last_told (listing_of_view listing view) old old new lines u r ([], nothing_written old, is, refl) ok err)

-- there was no memory for the lines
pub listing_lost : (listing : Listing) (seen : Option (List Op)) (start : Tree) (o : Option (List ℕ)) → OfTree seen start (λ t. IsTold (listing_outcome listing t) o o (Err (Refused Memory)))
listing_lost listing seen start o = of_all seen start (λ t. IsTold (listing_outcome listing t) o o (Err (Refused Memory))) (λ t. (0, nothing_written o))
