use Rattle.std.proofs.Common.{◌∙◌, ap, ◌++◌, arith}
use Rattle.std.specs.Prelude.{codes}
use Rattle.hgs_files.specs.Path.{is_store_path}
use Rattle.hgs_path.specs.Theorems.ShapeLemmas.{encoded-path, small-of}
use Rattle.hgs_path.proofs.name.path_of.Goals as goal

pub path_of-requires : goal.path_of-requires
path_of-requires c =
    let small = small-of c.args.name.now (λ i. let h = c.type_inv.name i in omega (arith, h)) in
    let encoded = c.deref.ensures.value ∙ c.in_ok-encoded_name.ensures in
    let bytes = c.deref-2.ensures.value ∙ c.in_ok-extend_from_slice.ensures.items ∙ ap (λ l. l ++ c.deref.result.now) c.in_ok-out.ensures.items ∙ ap (λ l. codes "store/" ++ l) encoded in
    ap is_store_path bytes ∙ encoded-path c.args.name.now c.args.ext small
