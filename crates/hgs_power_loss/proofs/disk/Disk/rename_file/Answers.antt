use Rattle.std.proofs.Common.{rules, ◌≡◌, ℕ, [], ◌∷◌, ◌++◌, List, Some, None, true, cond, length, ap, ◌∙◌, subst, sym}
use Rattle.std.specs.Option.{option_map}
use Rattle.hgs_files.specs.Tree.{same_path}
use Rattle.hgs_mem.specs.MemFiles.{tree_now}
use Rattle.hgs_power.specs.Disk.{rename_file}
use Rattle.hgs_power_loss.specs.declared.names.NameChange.TheVariants.{Moves}
use Rattle.hgs_power_loss.specs.Kept.{Fits, disk_of, first_names, is_mark, mark_of, names_after_all, noted}
use Rattle.hgs_power_loss.proofs.DiskLemmas.{fits-moves, moved-disk}
use Rattle.hgs_power_loss.proofs.disk.Disk.rename_file.Goals as goal

pub invariant_of-disk : goal.invariant_of-disk
invariant_of-disk c =
    let s = c.args.self in
    let start = tree_now s.base in
    let cs = s.changes.items in
    let from = c.args.from.now in
    let to = c.args.to.now in
    let mark = c.in-Some.mark in
    let old = s.table in
    let mid = c.set_name.new.table in
    let new = c.set_name-2.new.table in
    let one : c.in_ok-copy-3.field-0 ≡ from = search rules in
    let two : c.in_ok-copy-4.field-0 ≡ to = search rules in
    let g : (other : List ℕ) → noted mid other ≡ cond (same_path from other) (Some None) (noted old other) = subst (λ p. (other : List ℕ) → noted mid other ≡ cond (same_path p other) (Some None) (noted old other)) one c.in_ok-set_name.ensures in
    let h : (other : List ℕ) → noted new other ≡ cond (same_path to other) (Some (Some mark)) (noted mid other) = subst (λ p. (other : List ℕ) → noted new other ≡ cond (same_path p other) (Some (Some mark)) (noted mid other)) two c.in_ok-set_name-2.ensures in
    let now : names_after_all cs (first_names start) from ≡ Some (mark_of mark) = sym c.in_ok-mark.ensures.mark ∙ ap (option_map mark_of) c.in-Some.is in
    let known : is_mark start (length s.made.items) mark ≡ true = search rules in
    let items : c.push.new.self.items ≡ cs ++ Moves from to ∷ [] = search rules in
    record { fits = subst (λ ds. Fits start new ds s.settled s.kept (length s.made.items)) (sym items) (fits-moves start old cs s.settled s.kept (length s.made.items) s.fits mid new from to mark g h now known) }

pub returns : goal.returns
returns c =
    let s = c.args.self in
    let start = tree_now s.base in
    let cs = s.changes.items in
    let from = c.args.from.now in
    let to = c.args.to.now in
    let mark = c.in-Some.mark in
    let now : names_after_all cs (first_names start) from ≡ Some (mark_of mark) = sym c.in_ok-mark.ensures.mark ∙ ap (option_map mark_of) c.in-Some.is in
    let items : c.push.new.self.items ≡ cs ++ Moves from to ∷ [] = search rules in
    ap (λ ds. disk_of start ds s.settled s.kept s.made.items) items
    ∙ moved-disk start cs s.settled s.kept s.made.items from to (mark_of mark) s.fits.some_settled now
    ∙ ap (λ o. rename_file from to o (disk_of start cs s.settled s.kept s.made.items)) (sym now)
