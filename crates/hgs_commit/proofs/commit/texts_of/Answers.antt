use Rattle.std.proofs.Common.{◌≡◌, Ok, Err, sym, ◌∙◌, ap}
use Rattle.std.specs.Prelude.{⊤}
use Rattle.std.specs.Bool.{MatchBool}
use Rattle.std.specs.Option.{option_map}
use Rattle.hgs_loading.specs.Theorems.FoundLemmas.{either}
use Rattle.hgs_load.specs.Answer.{is_of_outside}
use Rattle.hgs_commit.specs.Changeset.{changeset_in, manifest_in}
use Rattle.hgs_commit.specs.Commit.{OfTexts, texts_in, view_grown}
use Rattle.hgs_commit.specs.Obstacles.{Met, met_of, noting}
use Rattle.hgs_commit.specs.Texts.{OfText, view_growth, view_text}
use Rattle.hgs_commit.specs.Trees.{OfGrown}
use Rattle.hgs_commit.proofs.AnswerLemmas.{alone-both}
use Rattle.hgs_commit.proofs.StepLemmas.{texts-fault, texts-found}
use Rattle.hgs_commit.proofs.commit.texts_of.Goals as goal

pub returns-in-Err-clause-found : goal.returns-in-Err-clause-found
returns-in-Err-clause-found g c =
    let l = c.args.loaded.now in
    let change = c.args.change.now in
    let x : OfGrown = view_grown c.args.grown in
    let m : Met = met_of c.args.met.now in
    let between : Met = met_of c.new_manifest.new.met in
    let manifest : OfText = view_text c.in_ok-manifest.manifest in
    let e = c.in-Err.refusal in
    alone-both g.R.Reads.alone (g.R.Reads.seen c.new_manifest.new.files) (g.R.Reads.seen c.new_changeset.new.files) (g.R.Reads.start c.new_manifest.new.files) (g.R.Reads.start c.new_changeset.new.files)
    (λ t. noting m (manifest_in l.manifest x.rows c.args.manifests c.len-link.result t) ≡ Ok (manifest, between))
    (λ t. MatchBool (is_of_outside e) ⊤ (noting between (changeset_in l.changelog change c.args.parents manifest.node x.changed t) ≡ Err e))
    (λ t. MatchBool (is_of_outside e) ⊤ (noting m (texts_in l change c.args.parents x c.args.manifests t) ≡ Err e))
    c.in-Err.ensures.still c.in-Err.ensures.same_start
    (λ t p q. either (is_of_outside e) (noting between (changeset_in l.changelog change c.args.parents manifest.node x.changed t) ≡ Err e) (noting m (texts_in l change c.args.parents x c.args.manifests t) ≡ Err e)
    (λ k. texts-fault l change c.args.parents c.args.manifests x t m between manifest e (ap (λ n. noting m (manifest_in l.manifest x.rows c.args.manifests n t)) (sym c.len-link.ensures) ∙ p) k) q)
    c.in_ok-manifest.ensures.found c.in-Err.ensures.found

pub returns-clause-found : goal.returns-clause-found
returns-clause-found g c =
    let l = c.args.loaded.now in
    let change = c.args.change.now in
    let x : OfGrown = view_grown c.args.grown in
    let m : Met = met_of c.args.met.now in
    let between : Met = met_of c.new_manifest.new.met in
    let new : Met = met_of c.new_changeset.new.met in
    let manifest : OfText = view_text c.in_ok-manifest.manifest in
    let changeset : OfText = view_text c.in-Ok.changeset in
    let texts : OfTexts = record { filelogs = x.growth; lines = x.lines; manifest = option_map view_growth c.in_ok-manifest.manifest.growth; changeset = changeset } in
    alone-both g.R.Reads.alone (g.R.Reads.seen c.new_manifest.new.files) (g.R.Reads.seen c.new_changeset.new.files) (g.R.Reads.start c.new_manifest.new.files) (g.R.Reads.start c.new_changeset.new.files)
    (λ t. noting m (manifest_in l.manifest x.rows c.args.manifests c.len-link.result t) ≡ Ok (manifest, between))
    (λ t. noting between (changeset_in l.changelog change c.args.parents manifest.node x.changed t) ≡ Ok (changeset, new))
    (λ t. noting m (texts_in l change c.args.parents x c.args.manifests t) ≡ Ok (texts, new))
    c.in-Ok.ensures.still c.in-Ok.ensures.same_start
    (λ t p q. texts-found l change c.args.parents c.args.manifests x t m between new manifest changeset (ap (λ n. noting m (manifest_in l.manifest x.rows c.args.manifests n t)) (sym c.len-link.ensures) ∙ p) q)
    c.in_ok-manifest.ensures.found c.in-Ok.ensures.found
