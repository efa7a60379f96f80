use Rattle.std.proofs.Common.{rules, ◌≡◌, ℕ, List, true, length, take, drop, min, IfOk, ap, ◌∙◌, subst, sym}
use Rattle.std.specs.List.{list_all}
use Rattle.hgs_mem.specs.Mem.{tree_of}
use Rattle.hgs_mem.specs.MemFiles.{start_of, tree_now}
use Rattle.hgs_mem.specs.declared.mem.MemFiles.{MemFiles}
use Rattle.hgs_power.specs.Disk.{File}
use Rattle.hgs_power_loss.specs.declared.names.NameChange.{NameChange}
use Rattle.hgs_power_loss.specs.Kept.{is_change}
use Rattle.hgs_power_loss.specs.Left.{tree_after_all, with_left}
use Rattle.hgs_power_loss.proofs.LeftLemmas.{known-front, known-rest, laid-back, take-most}
use Rattle.hgs_power_loss.proofs.disk.Disk.power.Goals as goal

pub change_all-requires-2 : goal.change_all-requires-2
change_all-requires-2 c =
    let s = c.args.self in
    let made : c.deref-2.result.now ≡ s.made.items = search rules in
    let pending : c.split_at.result.1.now ≡ drop s.settled s.changes.items = search rules in
    let p = is_change (length s.made.items) in
    subst (λ (fs : List File). list_all (is_change (length fs)) (take c.min.result c.split_at.result.1.now) ≡ true) (sym made)
    (subst (λ (cs : List NameChange). list_all p (take c.min.result cs) ≡ true) (sym pending) (known-front p c.min.result (drop s.settled s.changes.items) (known-rest p s.settled s.changes.items s.fits.made_names)))

pub returns-clause-tree : goal.returns-clause-tree
returns-clause-tree c =
    let s = c.args.self in
    let keep : ℕ = c.args.keep in
    let fill : ℕ = c.args.fill in
    let names : ℕ = c.args.names in
    let made = s.made.items in
    let cs = s.changes.items in
    let start = tree_now s.base in
    let first-made : c.deref.result.now ≡ made = search rules in
    let then-made : c.deref-2.result.now ≡ made = search rules in
    let settled : c.split_at.result.0.now ≡ take s.settled cs = search rules in
    let pending : c.split_at.result.1.now ≡ drop s.settled cs = search rules in
    let count : c.min.result ≡ min (length c.split_at.result.1.now) names = search rules in
    let begun : tree_of c.in_ok-left.left.files ≡ start = c.in_ok-left.ensures.tree ∙ c.files.ensures.tree in
    let put : tree_of c.put_all.new.self.files ≡ with_left keep fill s.kept.entries start = c.in_ok-put_all.ensures.tree ∙ ap (with_left keep fill s.kept.entries) begun in
    let one : tree_of c.change_all.new.self.files ≡ tree_after_all keep fill made (take s.settled cs) (with_left keep fill s.kept.entries start) =
    c.in_ok-change_all.ensures.tree
    ∙ ap (λ (fs : List File). tree_after_all keep fill fs c.split_at.result.0.now (tree_of c.put_all.new.self.files)) first-made
    ∙ ap (λ (ds : List NameChange). tree_after_all keep fill made ds (tree_of c.put_all.new.self.files)) settled
    ∙ ap (tree_after_all keep fill made (take s.settled cs)) put in
    let some : take c.min.result c.split_at.result.1.now ≡ take names (drop s.settled cs) =
    ap (λ n. take n c.split_at.result.1.now) count ∙ take-most names c.split_at.result.1.now ∙ ap (take names) pending in
    let two : tree_of c.change_all-2.new.self.files ≡ tree_after_all keep fill made (take names (drop s.settled cs)) (tree_after_all keep fill made (take s.settled cs) (with_left keep fill s.kept.entries start)) =
    c.in_ok-change_all-2.ensures.tree
    ∙ ap (λ (fs : List File). tree_after_all keep fill fs (take c.min.result c.split_at.result.1.now) (tree_of c.change_all.new.self.files)) then-made
    ∙ ap (λ (ds : List NameChange). tree_after_all keep fill made ds (tree_of c.change_all.new.self.files)) some
    ∙ ap (tree_after_all keep fill made (take names (drop s.settled cs))) one in
    subst (λ t. IfOk c.rest.result (λ (m : MemFiles). start_of m ≡ t)) (two ∙ laid-back start s.table cs s.settled s.kept made names keep fill s.fits) c.rest.ensures.tree
