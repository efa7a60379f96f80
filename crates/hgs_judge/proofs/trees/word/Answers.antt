use Rattle.std.proofs.Common.{refl, sym, ◌∙◌, ap}
use Rattle.std.specs.Prelude.{Some, None, option_map}
use Rattle.hgs_bytes.specs.Bytes.{among}
use Rattle.hgs_index.specs.TrackedPath.{is_tracked}
use Rattle.hgs_judge.specs.declared.changesets.Changeset.{Changeset}
use Rattle.hgs_judge.specs.Trees.{row_for, rows_in_tree}
use Rattle.hgs_judge.proofs.TreeLemmas.{listed-ascend, word-same}
use Rattle.hgs_judge.proofs.trees.word.Goals as goal

pub returns-in-Some : goal.returns-in-Some
returns-in-Some c = λ s r trees is tracked.
    let path = c.args.path.now in
    let x = c.args.changeset.now in
    let files = c.in-Some.files in
    let found = c.found.ensures s.manifest trees ∙ ap (λ b. option_map (row_for b path) (rows_in_tree c.args.trees.now x.tree)) tracked ∙ ap (λ t. option_map (row_for (is_tracked path) path) (rows_in_tree t x.tree)) trees in
    let has = c.has_name.ensures (listed-ascend r.text files (sym c.in-Some.is ∙ ap (λ (y : Changeset). y.files) is)) in
    word-same s r path (record { parents = x.parents; found = c.found.result; listed = Some c.has_name.result }) x is refl found (ap Some has ∙ ap (option_map (among path)) (sym c.in-Some.is))

pub returns-in-None : goal.returns-in-None
returns-in-None c = λ s r trees is tracked.
    let path = c.args.path.now in
    let x = c.args.changeset.now in
    let found = c.found.ensures s.manifest trees ∙ ap (λ b. option_map (row_for b path) (rows_in_tree c.args.trees.now x.tree)) tracked ∙ ap (λ t. option_map (row_for (is_tracked path) path) (rows_in_tree t x.tree)) trees in
    word-same s r path (record { parents = x.parents; found = c.found.result; listed = None }) x is refl found (ap (option_map (among path)) (sym c.in-None.is))
