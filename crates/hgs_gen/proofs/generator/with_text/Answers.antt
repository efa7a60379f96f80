use Rattle.std.proofs.Common.{rules, ◌≡◌, ◌++◌, List, false, take, drop, ◌∙◌, sym, ap, subst}
use Rattle.std.specs.Prelude.{IfSome, slice_get}
use Rattle.hgs_bytes.specs.Bytes.{is_below}
use Rattle.hgs_gen.specs.Generated.{with_text}
use Rattle.hgs_model.specs.declared.files.NewFile.{NewFile}
use Rattle.hgs_gen.proofs.PutLemmas.{put_new, put_last, put_there}
use Rattle.hgs_gen.proofs.generator.with_text.Goals.{then-at-len, else-at-len, then-stands, else-stands+in_ok-insert}
use Rattle.hgs_gen.proofs.generator.with_text.Goals as goal

pub returns : goal.returns
returns c =
    let path = c.args.path in
    let body = c.args.body in
    let files = c.args.files.items in
    let at = c.place_of-at.result in
    let same_files = c.deref.ensures.value in
    let whole : with_text path body files ≡ take at files ++ with_text path body (drop at files) =
    subst (λ (fs : List NewFile). with_text path body fs ≡ take at fs ++ with_text path body (drop at fs)) same_files (c.place_of-at.ensures.passed body) in
    let ends : IfSome (slice_get files at) (λ f. is_below f.path path ≡ false) =
    subst (λ (fs : List NewFile). IfSome (slice_get fs at) (λ f. is_below f.path path ≡ false)) same_files c.place_of-at.ensures.ends in
    elim c.if-stands.branch [
      | then-stands w ↦ elim c.if-at-len.branch [
        | then-at-len v ↦ ap (λ v. v.items) w.files-is ∙ put_there path body files at v.index.result.now (search rules) v.index.ensures ends (search rules) ∙ sym whole
        | else-at-len v ↦ absurd (search rules)
      ]
      | else-stands+in_ok-insert w ↦ elim c.if-at-len.branch [
        | then-at-len v ↦ ap (λ v. v.items) w.files-is ∙ (search rules) ∙ put_new path body files at v.index.result.now (search rules) v.index.ensures ends (search rules) ∙ sym whole
        | else-at-len v ↦ ap (λ v. v.items) w.files-is ∙ (search rules) ∙ put_last path body files at (search rules) ∙ sym whole
      ]
    ]
