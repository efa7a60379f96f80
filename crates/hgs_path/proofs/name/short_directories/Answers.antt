use Rattle.std.proofs.Common.{◌∙◌, ap, ◌++◌, ◌∷◌, [], sym, length, map, arith}
use Rattle.hgs_path.specs.StoreName.{short_directory, fitting}
use Rattle.hgs_path.specs.Theorems.PartLemmas.{directories-step, directories-last, split-length, slashed, fits-more, fits-not, fits-end}
use Rattle.hgs_path.proofs.name.short_directories.Goals as goal

pub loop-directory-smaller : goal.loop-directory-smaller
loop-directory-smaller c =
    let l = split-length 47 c.loop-directory.rest.now _ (sym c.in-Some.ensures) in
    omega arith

pub loop-directory-preserved : goal.loop-directory-preserved
loop-directory-preserved c =
    let out = c.loop-directory.out.items in
    let step = directories-step c.loop-directory.rest.now _ (sym c.in-Some.ensures) in
    let short = c.in_ok-short.ensures in
    let items = c.in_ok-push.ensures.items ∙ ap (λ l. l ++ 47 ∷ []) (c.in_ok-extend_from_slice.ensures.items ∙ ap (λ l. out ++ l) (c.deref.ensures.value ∙ short)) in
    let left = ap (λ ds. out ++ slashed (fitting (length out) (map short_directory ds))) (sym step) ∙ c.loop-directory.invariant.left in
    let more = fits-more out (short_directory c.in-Some.directory.now) c.push.new.self.items _ _ items (let e = ap length short in omega (arith, e)) left in
    record { left = more.0; small = more.1 }

pub returns-then-len-gt68 : goal.returns-then-len-gt68
returns-then-len-gt68 c =
    let out = c.loop-directory.out.items in
    let step = directories-step c.loop-directory.rest.now _ (sym c.in-Some.ensures) in
    let left = ap (λ ds. out ++ slashed (fitting (length out) (map short_directory ds))) (sym step) ∙ c.loop-directory.invariant.left in
    fits-not out (short_directory c.in-Some.directory.now) _ _ (let e = ap length c.in_ok-short.ensures in omega (arith, e)) left

pub returns : goal.returns
returns c = fits-end c.loop-directory.out.items _ (ap (λ ds. c.loop-directory.out.items ++ slashed (fitting (length c.loop-directory.out.items) (map short_directory ds))) (sym (directories-last c.loop-directory.rest.now (sym c.in_default.ensures))) ∙ c.loop-directory.invariant.left)
