use Rattle.std.proofs.Common.{rules, ◌≡◌, ◌+◌, ℕ, [], ◌∷◌, ◌++◌, List, Some, cond, length, ap, ◌∙◌, subst, sym}
use Rattle.hgs_files.specs.Tree.{same_path}
use Rattle.hgs_mem.specs.MemFiles.{tree_now}
use Rattle.hgs_power.specs.Disk.{firm}
use Rattle.hgs_power_loss.specs.declared.names.Mark.TheVariants.{Made}
use Rattle.hgs_power_loss.specs.declared.names.NameChange.TheVariants.{Stands}
use Rattle.hgs_power_loss.specs.Kept.{Fits, disk_of, noted}
use Rattle.hgs_power_loss.proofs.DiskLemmas.{fits-made, made-disk}
use Rattle.hgs_power_loss.proofs.disk.Disk.make.Goals as goal

pub invariant_of-disk : goal.invariant_of-disk
invariant_of-disk c =
    let s = c.args.self in
    let start = tree_now s.base in
    let cs = s.changes.items in
    let path = c.args.path.now in
    let n : ℕ = length s.made.items in
    let new = c.set_name.new.table in
    let is : c.len-number.result ≡ n = search rules in
    let name : c.in_ok-name.name ≡ path = search rules in
    let noted_old : (other : List ℕ) → noted new other ≡ cond (same_path c.in_ok-name.name other) (Some (Some (Made c.len-number.result))) (noted s.table other) = c.in_ok-set_name.ensures in
    let h : (other : List ℕ) → noted new other ≡ cond (same_path path other) (Some (Some (Made n))) (noted s.table other) =
    subst (λ k. (other : List ℕ) → noted new other ≡ cond (same_path path other) (Some (Some (Made k))) (noted s.table other)) is
    (subst (λ p. (other : List ℕ) → noted new other ≡ cond (same_path p other) (Some (Some (Made c.len-number.result))) (noted s.table other)) name noted_old) in
    let items : c.push.new.self.items ≡ cs ++ Stands path n ∷ [] = search rules in
    let count : length c.push-2.new.self.items ≡ n + 1 = search rules in
    let made = fits-made start s.table cs s.settled s.kept n s.fits new path h in
    record { fits = subst (λ ds. Fits start new ds s.settled s.kept (length c.push-2.new.self.items)) (sym items) (subst (λ k. Fits start new (cs ++ Stands path n ∷ []) s.settled s.kept k) (sym count) made) }

pub returns-clause-disk : goal.returns-clause-disk
returns-clause-disk c =
    let s = c.args.self in
    let start = tree_now s.base in
    let cs = s.changes.items in
    let path = c.args.path.now in
    let n : ℕ = length s.made.items in
    let is : c.len-number.result ≡ n = search rules in
    let items : c.push.new.self.items ≡ cs ++ Stands path n ∷ [] = search rules in
    let files : c.push-2.new.self.items ≡ s.made.items ++ firm [] ∷ [] = search rules in
    ap (λ ds. disk_of start ds s.settled s.kept c.push-2.new.self.items) items
    ∙ ap (λ fs. disk_of start (cs ++ Stands path n ∷ []) s.settled s.kept fs) files
    ∙ made-disk start cs s.settled s.kept s.made.items path s.fits.some_settled
