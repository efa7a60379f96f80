use Rattle.std.proofs.Common.{rules, ◌≡◌, ℕ, [], ◌∷◌, ◌++◌, List, Option, Some, None, false, is_none, cond, length, ap, ◌∙◌, subst, sym}
use Rattle.std.specs.Option.{option_map}
use Rattle.hgs_files.specs.Tree.{same_path, with_file}
use Rattle.hgs_mem.specs.MemFiles.{tree_now}
use Rattle.hgs_power.specs.Disk.{Disk, named, remove_file}
use Rattle.hgs_power_loss.specs.declared.names.Mark.{Mark}
use Rattle.hgs_power_loss.specs.declared.names.NameChange.TheVariants.{Goes}
use Rattle.hgs_power_loss.specs.Kept.{Fits, disk_of, mark_of, noted}
use Rattle.hgs_power_loss.proofs.DiskLemmas.{fits-goes, pushed}
use Rattle.hgs_power_loss.proofs.disk.Disk.remove_file.Goals as goal

pub invariant_of-disk : goal.invariant_of-disk
invariant_of-disk c =
    let s = c.args.self in
    let start = tree_now s.base in
    let cs = s.changes.items in
    let path = c.args.path.now in
    let new = c.set_name.new.table in
    let one : c.in_ok-copy-2.field-0 ≡ path = search rules in
    let h : (other : List ℕ) → noted new other ≡ cond (same_path path other) (Some None) (noted s.table other) = subst (λ p. (other : List ℕ) → noted new other ≡ cond (same_path p other) (Some None) (noted s.table other)) one c.in_ok-set_name.ensures in
    let items : c.push.new.self.items ≡ cs ++ Goes path ∷ [] = search rules in
    record { fits = subst (λ ds. Fits start new ds s.settled s.kept (length s.made.items)) (sym items) (fits-goes start s.table cs s.settled s.kept (length s.made.items) s.fits new path h) }

-- where a file stands, its name goes
goes : (path : List ℕ) (d : Disk) (mark : Option Mark) → option_map mark_of mark ≡ d.now path → is_none mark ≡ false → named (with_file d.now path None) d ≡ remove_file path (d.now path) d
goes path d None e some = cc
goes path d (Some mark) e some = ap (λ o. remove_file path o d) e

pub returns : goal.returns
returns c =
    let s = c.args.self in
    let start = tree_now s.base in
    let cs = s.changes.items in
    let path = c.args.path.now in
    let items : c.push.new.self.items ≡ cs ++ Goes path ∷ [] = search rules in
    let some : is_none c.in_ok-mark_at.field-0 ≡ false = search rules in
    ap (λ ds. disk_of start ds s.settled s.kept s.made.items) items
    ∙ pushed start cs s.settled (Goes path) s.fits.some_settled s.kept s.made.items
    ∙ goes path (disk_of start cs s.settled s.kept s.made.items) c.in_ok-mark_at.field-0 c.in_ok-mark_at.ensures.mark some
