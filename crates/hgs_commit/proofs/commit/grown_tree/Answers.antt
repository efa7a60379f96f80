use Rattle.std.proofs.Common.{◌≡◌, ℕ, List, Ok, Err, length, sym, ◌∙◌, ap, subst}
use Rattle.std.specs.Prelude.{⊤}
use Rattle.std.specs.Bool.{MatchBool}
use Rattle.hgs_index.specs.Manifest.{AreRows, Row}
use Rattle.hgs_loading.specs.Theorems.FoundLemmas.{either}
use Rattle.hgs_loading.specs.Parent.{Files, view_parent}
use Rattle.hgs_model.specs.History.{manifest_parents_of}
use Rattle.hgs_model.specs.declared.files.NewFile.{NewFile}
use Rattle.hgs_path.specs.Fncache.{listing}
use Rattle.hgs_load.specs.Answer.{is_of_outside}
use Rattle.hgs_commit.specs.Commit.{grown_on, view_grown}
use Rattle.hgs_commit.specs.NewTree.{tree_of}
use Rattle.hgs_commit.specs.Obstacles.{Met, met_of, noting}
use Rattle.hgs_commit.specs.Tree.{ClashIn, OfTree, adding, files_in}
use Rattle.hgs_commit.specs.Trees.{OfGrown, all_files_in}
use Rattle.hgs_commit.proofs.AnswerLemmas.{alone-both}
use Rattle.hgs_commit.proofs.WholeLemmas.{clash-found, grown-fault, grown-found, on-parents, whole_tree}
use Rattle.hgs_commit.proofs.commit.grown_tree.Goals as goal

pub returns-in-Err-clause-found : goal.returns-in-Err-clause-found
returns-in-Err-clause-found g c =
    let l = c.args.loaded.now in
    let change = c.args.change.now in
    let m : Met = met_of c.args.met.now in
    let e = c.in-Err.refusal in
    let a : Files = view_parent c.args.first.now in
    let b : Files = view_parent c.args.second.now in
    let lists = listing l.fncache in
    let n : OfTree = tree_of c.new-tree.result in
    alone-both g.R.Reads.alone (g.R.Reads.seen c.args.files.now) (g.R.Reads.seen c.add_files.new.files) (g.R.Reads.start c.args.files.now) (g.R.Reads.start c.add_files.new.files)
    (λ t. AreRows a.1 × AreRows b.1)
    (λ t. MatchBool (is_of_outside e) ⊤ (adding n m (files_in lists c.len-link.result a.1 c.as_slice.result.now n.first n.second t) ≡ Err e))
    (λ t. MatchBool (is_of_outside e) ⊤ (noting m (grown_on l change a b t) ≡ Err e))
    c.in-Err.ensures.still c.in-Err.ensures.same_start
    (λ t p q. either (is_of_outside e) (adding n m (files_in lists c.len-link.result a.1 c.as_slice.result.now n.first n.second t) ≡ Err e) (noting m (grown_on l change a b t) ≡ Err e)
    (λ k. grown-fault l change a b t c.requires.order p.0 p.1 m e
    (on-parents lists (length l.changelog.entries) c.len-link.result a.1 change.files c.as_slice.result.now a.1 b.1 n m t c.len-link.ensures c.as_slice.ensures c.new-tree.ensures.first c.new-tree.ensures.second c.new-tree.ensures.rows c.new-tree.ensures.changed c.new-tree.ensures.growth c.new-tree.ensures.lines ∙ k)) q)
    c.requires.rows c.in-Err.ensures.found

pub returns-clause-found : goal.returns-clause-found
returns-clause-found g c =
    let l = c.args.loaded.now in
    let change = c.args.change.now in
    let m : Met = met_of c.args.met.now in
    let new : Met = met_of c.add_files.new.met in
    let a : Files = view_parent c.args.first.now in
    let b : Files = view_parent c.args.second.now in
    let lists = listing l.fncache in
    let n : OfTree = tree_of c.new-tree.result in
    let tree : OfTree = tree_of c.add_files.new.tree in
    let grown : OfGrown = view_grown c.in_ok-finish.field-0 in
    let is : whole_tree tree ≡ grown = (
    let rows = sym c.in_ok-finish.ensures.rows in
    let changed = sym c.in_ok-finish.ensures.changed in
    let growth = ap (λ v. v.items) (sym c.in_ok-finish.ensures.growth) in
    let lines = ap (λ v. v.items) (sym c.in_ok-finish.ensures.lines) in
    λ i. record { rows = rows i; changed = changed i; growth = growth i; lines = lines i }) in
    alone-both g.R.Reads.alone (g.R.Reads.seen c.args.files.now) (g.R.Reads.seen c.add_files.new.files) (g.R.Reads.start c.args.files.now) (g.R.Reads.start c.add_files.new.files)
    (λ t. AreRows a.1 × AreRows b.1)
    (λ t. adding n m (files_in lists c.len-link.result a.1 c.as_slice.result.now n.first n.second t) ≡ Ok (tree, new))
    (λ t. noting m (grown_on l change a b t) ≡ Ok ((grown, c.manifest_parents-manifests.result), new))
    c.in-Ok.ensures.still c.in-Ok.ensures.same_start
    (λ t p q.
    grown-found l change a b t c.requires.order p.0 p.1 m new tree c.requires.ascend
    (on-parents lists (length l.changelog.entries) c.len-link.result a.1 change.files c.as_slice.result.now a.1 b.1 n m t c.len-link.ensures c.as_slice.ensures c.new-tree.ensures.first c.new-tree.ensures.second c.new-tree.ensures.rows c.new-tree.ensures.changed c.new-tree.ensures.growth c.new-tree.ensures.lines ∙ q)
    ∙ ap (λ x. Ok ((x, manifest_parents_of a.0 b.0), new)) is
    ∙ ap (λ x. Ok ((grown, x), new)) (sym c.manifest_parents-manifests.ensures))
    c.requires.rows c.in-Ok.ensures.found

pub returns-clause-clash : goal.returns-clause-clash
returns-clause-clash g c =
    let l = c.args.loaded.now in
    let change = c.args.change.now in
    let a : Files = view_parent c.args.first.now in
    let b : Files = view_parent c.args.second.now in
    let lists = listing l.fncache in
    let n : OfTree = tree_of c.new-tree.result in
    let old = c.args.met.now.clash in
    let new = c.add_files.new.met.clash in
    alone-both g.R.Reads.alone (g.R.Reads.seen c.args.files.now) (g.R.Reads.seen c.add_files.new.files) (g.R.Reads.start c.args.files.now) (g.R.Reads.start c.add_files.new.files)
    (λ t. AreRows a.1 × AreRows b.1)
    (λ t. ClashIn lists (files_in lists c.len-link.result a.1 c.as_slice.result.now n.first n.second t) old new)
    (λ t. ClashIn lists (all_files_in lists (length l.changelog.entries) a.1 b.1 change.files t) old new)
    c.in-Ok.ensures.still c.in-Ok.ensures.same_start
    (λ t p q.
    let A : ℕ → Type 0 = λ k. ClashIn lists (files_in lists k a.1 c.as_slice.result.now n.first n.second t) old new in
    let B : List NewFile → Type 0 = λ k. ClashIn lists (files_in lists (length l.changelog.entries) a.1 k n.first n.second t) old new in
    let C : List Row → Type 0 = λ k. ClashIn lists (files_in lists (length l.changelog.entries) a.1 change.files k n.second t) old new in
    let D : List Row → Type 0 = λ k. ClashIn lists (files_in lists (length l.changelog.entries) a.1 change.files a.1 k t) old new in
    clash-found l change a b t c.requires.order p.0 p.1 old new
    (subst D c.new-tree.ensures.second (subst C c.new-tree.ensures.first (subst B c.as_slice.ensures (subst A c.len-link.ensures q)))))
    c.requires.rows c.in-Ok.ensures.clash
