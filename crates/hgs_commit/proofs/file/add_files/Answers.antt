use Rattle.std.proofs.Common.{◌≡◌, ◌∷◌, ◌+◌, ℕ, List, Bool, Option, length, Ok, Err, refl, sym, ◌∙◌, ap, subst, arith}
use Rattle.std.specs.Prelude.{⊤}
use Rattle.std.specs.Bool.{MatchBool}
use Rattle.std.specs.Option.{option_map}
use Rattle.hgs_loading.specs.Theorems.FoundLemmas.{either}
use Rattle.hgs_load.specs.Answer.{is_of_outside}
use Rattle.hgs_index.specs.Manifest.{Row, last_path}
use Rattle.hgs_model.specs.declared.files.NewFile.{NewFile}
use Rattle.hgs_path.specs.Fncache.{listing}
use Rattle.hgs_commit.specs.Files.{OfFile, can_follow, file_in, new_path, source_node, view_file}
use Rattle.hgs_commit.specs.NewTree.{tree_of}
use Rattle.hgs_commit.specs.Obstacles.{ClashBehind, Met, either_list, met_of, noting, with_all}
use Rattle.hgs_commit.specs.Tree.{ClashIn, OfTree, files_in, row_at, with_file}
use Rattle.hgs_commit.specs.Walk.{told_of_found}
use Rattle.hgs_files.specs.Tree.{Tree}
use Rattle.hgs_path.specs.declared.name.Ext.{Ext}
use Rattle.hgs_commit.proofs.AnswerLemmas.{alone-both, alone-free}
use Rattle.hgs_commit.proofs.ClashLemmas.{either-all, either-none}
use Rattle.hgs_commit.proofs.FileLemmas.{next_count, next_order}
use Rattle.hgs_commit.proofs.TreeLemmas.{given, grown-is, next, next-clash, none}
use Rattle.hgs_commit.proofs.file.add_files.Goals as goal

pub loop-file-init : goal.loop-file-init
loop-file-init g c =
    let lists = listing c.args.fncache.now in
    let link = c.args.link in
    let sources = c.args.sources.now in
    let files = c.args.new_files.now in
    let tree : OfTree = tree_of c.args.tree.now in
    let m : Met = met_of c.args.met.now in
    let start : 0 + length files ≡ length files = omega arith in
    let listed : either_list lists (listing c.empty-new_paths.result) ≡ lists = either-none lists (listing c.empty-new_paths.result) c.empty-new_paths.ensures in
    record {
      found = alone-free g.R.Reads.alone (g.R.Reads.seen c.args.files.now) (g.R.Reads.start c.args.files.now) (λ t. given lists link sources tree m files t ≡ given lists link sources tree m files t) (λ t. refl);
      clash =
          alone-free g.R.Reads.alone (g.R.Reads.seen c.args.files.now) (g.R.Reads.start c.args.files.now)
          (λ t. (clash : Option (List ℕ)) → ClashIn (either_list lists (listing c.empty-new_paths.result)) (files_in lists link sources files tree.first tree.second t) c.args.met.now.clash clash → ClashIn lists (files_in lists link sources files tree.first tree.second t) c.args.met.now.clash clash)
          (λ t clash h. (let P : (List ℕ → Ext → Bool) → Type 0 = λ l. ClashIn l (files_in lists link sources files tree.first tree.second t) c.args.met.now.clash clash in subst P listed h));
      known = c.requires.known;
      order = ap (λ l. can_follow (last_path l) files) c.requires.empty ∙ c.requires.order;
      count = ap (λ l. length l + length files) c.requires.empty ∙ start;
      few = c.requires.few;
      same_start = refl;
      still = λ alone. refl;
      later = omega arith;
      refused = omega arith;
    }

pub loop-file-preserved : goal.loop-file-preserved
loop-file-preserved g c =
    let i = c.loop-file.invariant in
    let split : c.loop-file.rest.now ≡ c.in-Some.file.now ∷ c.in-Some.behind.now = c.in-Some.ensures.cases.0 in
    let r : Row = record { path = c.in-Ok.added.path; node = c.in-Ok.added.node.0; flag = c.in-Ok.added.flag } in
    let grown = c.in_ok-add.ensures.rows in
    let rows = c.in_ok-rows.ensures.rows in
    let later = c.in-Ok.ensures.cause.later in
    let before = i.later in
    let lists = listing c.args.fncache.now in
    let link = c.args.link in
    let sources = c.args.sources.now in
    let file : NewFile = c.in-Some.file.now in
    let behind = c.in-Some.behind.now in
    let said = c.source_node-source.result.0 in
    let source_is : said ≡ source_node sources file.from = c.source_node-source.ensures in
    let tree : OfTree = tree_of c.loop-file.tree in
    let tree_next : OfTree = tree_of c.add.new.self in
    let m : Met = met_of c.loop-file.met in
    let m_next : Met = met_of c.with_new.new.met in
    let base = either_list lists (listing c.loop-file.new_paths) in
    let after = either_list lists (listing c.in_ok-new_paths.new_paths) in
    let x : OfFile = view_file c.in-Ok.added in
    let first = option_map told_of_found c.in_ok-rows.rows.first in
    let second = option_map told_of_found c.in_ok-rows.rows.second in
    let path : x.row.path ≡ file.path = c.in-Ok.ensures.path in
    let is_first : first ≡ row_at file.path tree.first = c.in_ok-rows.ensures.found.0 ∙ ap (λ p. row_at p tree.first) c.as_slice-path.ensures in
    let is_second : second ≡ row_at file.path tree.second = c.in_ok-rows.ensures.found.1 ∙ ap (λ p. row_at p tree.second) c.as_slice-path.ensures in
    let is : tree_next ≡ with_file tree x =
    grown-is tree (tree_of c.parent_files.new.self) tree_next x c.as_slice-path.result.now (c.as_slice-path.ensures ∙ sym path)
    c.in_ok-rows.ensures.first c.in_ok-rows.ensures.second c.in_ok-rows.ensures.rows c.in_ok-rows.ensures.changed (ap (λ v. v.items) c.in_ok-rows.ensures.growth) (ap (λ v. v.items) c.in_ok-rows.ensures.lines)
    c.in_ok-add.ensures.first c.in_ok-add.ensures.second c.in_ok-add.ensures.rows c.in_ok-add.ensures.changed c.in_ok-add.ensures.growth c.in_ok-add.ensures.lines in
    let noted_alike : met_of c.file_of.new.met ≡ m_next = sym c.with_new.ensures.met in
    let at_file : Tree → Type 0 = λ t. noting m (file_in lists link file said first second t) ≡ Ok (x, met_of c.file_of.new.met) in
    let entered : after ≡ with_all base (new_path x.new x.row.path) =
    ap (either_list lists) (c.in_ok-new_paths.ensures.paths ∙ ap (λ p. with_all (listing c.loop-file.new_paths) (new_path x.new p)) (c.as_slice-path.ensures ∙ sym path)) ∙ either-all lists (listing c.loop-file.new_paths) (new_path x.new x.row.path) in
    let told : ClashBehind base (new_path x.new x.row.path) c.loop-file.met.clash c.with_new.new.met.clash =
    (let P : Option (List ℕ) → Type 0 = λ o. ClashBehind base (new_path x.new x.row.path) o c.with_new.new.met.clash in
    let Q : List ℕ → Type 0 = λ p. ClashBehind base (new_path x.new p) c.file_of.new.met.clash c.with_new.new.met.clash in
    subst P c.in-Ok.ensures.clash (subst Q (c.as_slice-path.ensures ∙ sym path) c.in_ok-new_paths.ensures.clash)) in
    record {
      found =
          alone-both g.R.Reads.alone (g.R.Reads.seen c.loop-file.files) (g.R.Reads.seen c.file_of.new.files) (g.R.Reads.start c.loop-file.files) (g.R.Reads.start c.file_of.new.files)
          (λ t. given lists link sources tree m c.loop-file.rest.now t ≡ given lists link sources (tree_of c.args.tree.now) (met_of c.args.met.now) c.args.new_files.now t)
          at_file
          (λ t. given lists link sources tree_next m_next behind t ≡ given lists link sources (tree_of c.args.tree.now) (met_of c.args.met.now) c.args.new_files.now t)
          c.in-Ok.ensures.still c.in-Ok.ensures.same_start
          (λ t p q. sym (next lists link sources file behind tree first second t is_first is_second x m m_next tree_next path is (ap (λ s. noting m (file_in lists link file s first second t)) (sym source_is) ∙ q ∙ ap (λ n. Ok (x, n)) noted_alike)) ∙ ap (λ l. given lists link sources tree m l t) (sym split) ∙ p)
          i.found c.in-Ok.ensures.found;
      clash =
          alone-both g.R.Reads.alone (g.R.Reads.seen c.loop-file.files) (g.R.Reads.seen c.file_of.new.files) (g.R.Reads.start c.loop-file.files) (g.R.Reads.start c.file_of.new.files)
          (λ t. (clash : Option (List ℕ)) → ClashIn base (files_in lists link sources c.loop-file.rest.now tree.first tree.second t) c.loop-file.met.clash clash → ClashIn lists (files_in lists link sources c.args.new_files.now c.args.tree.now.first c.args.tree.now.second t) c.args.met.now.clash clash)
          at_file
          (λ t. (clash : Option (List ℕ)) → ClashIn after (files_in lists link sources behind tree_next.first tree_next.second t) c.with_new.new.met.clash clash → ClashIn lists (files_in lists link sources c.args.new_files.now c.args.tree.now.first c.args.tree.now.second t) c.args.met.now.clash clash)
          c.in-Ok.ensures.still c.in-Ok.ensures.same_start
          (λ t p q clash k. p clash (
          let P : List NewFile → Type 0 = λ l. ClashIn base (files_in lists link sources l tree.first tree.second t) c.loop-file.met.clash clash in
          subst P (sym split) (next-clash lists link sources file behind tree first second t is_first is_second base after x m (met_of c.file_of.new.met) tree_next path is (ap (λ s. noting m (file_in lists link file s first second t)) (sym source_is) ∙ q) entered c.loop-file.met.clash c.with_new.new.met.clash clash told k)
          ))
          i.clash c.in-Ok.ensures.found;
      known = c.in-Ok.ensures.known;
      order = next_order c.parent_files.new.self.rows c.add.new.self.rows r c.in-Some.file.now c.loop-file.rest.now c.in-Some.behind.now split c.in-Ok.ensures.path grown (ap (λ q. can_follow (last_path q) c.loop-file.rest.now) rows ∙ i.order);
      count = next_count c.parent_files.new.self.rows c.add.new.self.rows r c.in-Some.file.now c.loop-file.rest.now c.in-Some.behind.now (length c.args.new_files.now) split grown (ap (λ q. length q + length c.loop-file.rest.now) rows ∙ i.count);
      few = i.few;
      same_start = c.in-Ok.ensures.same_start ∙ i.same_start;
      still = λ alone. c.in-Ok.ensures.still alone ∙ i.still alone;
      later = omega (arith, later, before);
      refused = (let l = c.in-Ok.ensures.cause.refused in let k = i.refused in omega (arith, l, k));
    }

pub returns-in-Err-clause-found : goal.returns-in-Err-clause-found
returns-in-Err-clause-found g c =
    let i = c.loop-file.invariant in
    let split : c.loop-file.rest.now ≡ c.in-Some.file.now ∷ c.in-Some.behind.now = c.in-Some.ensures.cases.0 in
    let lists = listing c.args.fncache.now in
    let link = c.args.link in
    let sources = c.args.sources.now in
    let file : NewFile = c.in-Some.file.now in
    let behind = c.in-Some.behind.now in
    let said = c.source_node-source.result.0 in
    let source_is : said ≡ source_node sources file.from = c.source_node-source.ensures in
    let tree : OfTree = tree_of c.loop-file.tree in
    let m : Met = met_of c.loop-file.met in
    let e = c.in-Err.refusal in
    let first = option_map told_of_found c.in_ok-rows.rows.first in
    let second = option_map told_of_found c.in_ok-rows.rows.second in
    let is_first : first ≡ row_at file.path tree.first = c.in_ok-rows.ensures.found.0 ∙ ap (λ p. row_at p tree.first) c.as_slice-path.ensures in
    let is_second : second ≡ row_at file.path tree.second = c.in_ok-rows.ensures.found.1 ∙ ap (λ p. row_at p tree.second) c.as_slice-path.ensures in
    alone-both g.R.Reads.alone (g.R.Reads.seen c.loop-file.files) (g.R.Reads.seen c.file_of.new.files) (g.R.Reads.start c.loop-file.files) (g.R.Reads.start c.file_of.new.files)
    (λ t. given lists link sources tree m c.loop-file.rest.now t ≡ given lists link sources (tree_of c.args.tree.now) (met_of c.args.met.now) c.args.new_files.now t)
    (λ t. MatchBool (is_of_outside e) ⊤ (noting m (file_in lists link file said first second t) ≡ Err e))
    (λ t. MatchBool (is_of_outside e) ⊤ (given lists link sources (tree_of c.args.tree.now) (met_of c.args.met.now) c.args.new_files.now t ≡ Err e))
    c.in-Err.ensures.still c.in-Err.ensures.same_start
    (λ t p q. either (is_of_outside e) (noting m (file_in lists link file said first second t) ≡ Err e) (given lists link sources (tree_of c.args.tree.now) (met_of c.args.met.now) c.args.new_files.now t ≡ Err e)
    (λ k. sym p ∙ ap (λ l. given lists link sources tree m l t) split ∙ none lists link sources file behind tree first second t is_first is_second m e (ap (λ s. noting m (file_in lists link file s first second t)) (sym source_is) ∙ k)) q)
    i.found c.in-Err.ensures.found
