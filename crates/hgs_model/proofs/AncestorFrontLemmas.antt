-- Ancestors among the first revisions of a history.
use Rattle.std.proofs.Common.{◌≡◌, ℕ, ◌<◌, List, [], ◌++◌, false, length, sym, ◌∙◌, ap, arith, length-append}
use Rattle.std.specs.Prelude.{slice_index_or}
use Rattle.std.proofs.Math.Seq.{take-append_seam, take-length}
use Rattle.hgs_index.specs.Ancestor.{is_ancestor}
use Rattle.hgs_index.specs.Revision.{Parents}
use Rattle.hgs_model.specs.Theorems.ReachedLemmas.{marks_from, marks-decide}

pub ancestor-front : (history more : List Parents) (a b : ℕ) → b < length history → is_ancestor (history ++ more) a b ≡ is_ancestor history a b
ancestor-front history more a b lt =
    sym (marks-decide a b (history ++ more) (length history) lt (let l = length-append history more in omega (arith, l)))
    ∙ ap (λ l. slice_index_or (marks_from a [] l) b false) (take-append_seam history more ∙ sym (take-length history))
    ∙ marks-decide a b history (length history) lt (omega arith)
