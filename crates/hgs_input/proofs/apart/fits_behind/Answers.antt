use Rattle.std.proofs.Common.{◌≡◌, ◌&&◌, [], ◌∷◌, drop, take, sym, ap, ◌∙◌}
use Rattle.hgs_bytes.specs.Bytes.{among, begins_with}
use Rattle.hgs_model.specs.Valid.{new_paths}
use Rattle.hgs_input.proofs.PathLemmas.{fits_where, fits_nowhere}
use Rattle.hgs_input.proofs.apart.fits_behind.Goals as goal
use Rattle.hgs_input.proofs.apart.fits_behind.Goals.{then-starts, else-starts}

pub returns-after-starts : goal.returns-after-starts
returns-after-starts c =
    let path = c.args.path.now in
    let n = c.common-count.result in
    let starts : c.starts.result ≡ begins_with (drop n path) (47 ∷ []) = c.starts.ensures ∙ ap (λ t. begins_with t (47 ∷ [])) c.past.ensures in
    let inside : c.if-starts.result ≡ (begins_with (drop n path) (47 ∷ []) && among (take n path) (new_paths c.args.files.now)) =
    elim c.if-starts.branch [
      | then-starts w ↦
          w.result-is ∙ w.has_path.ensures ∙ ap (λ t. among t (new_paths c.args.files.now)) w.front.ensures
          ∙ ap (λ b. b && among (take n path) (new_paths c.args.files.now)) (sym w.if-starts.true ∙ starts)
      | else-starts w ↦ w.result-is ∙ w.if-starts.false ∙ ap (λ b. b && among (take n path) (new_paths c.args.files.now)) (sym w.if-starts.false ∙ starts)
    ] in
    fits_where c.args.files.now c.in-Some.last.now c.as_slice-last.result.now path n c.if-starts.result c.requires c.in-Some.ensures.value c.as_slice-last.ensures (sym c.below.ensures ∙ c.if-below.true) c.common-count.ensures inside

pub returns-else-below : goal.returns-else-below
returns-else-below c =
    c.if-below.false ∙ fits_nowhere c.args.files.now c.in-Some.last.now c.as_slice-last.result.now c.args.path.now c.requires c.in-Some.ensures.value c.as_slice-last.ensures (sym c.below.ensures ∙ c.if-below.false)
