use Rattle.std.proofs.Common.{sym, rules}
use Rattle.hgs_path.proofs.OwnersLemmas.{first-other, second-other, no-second, no-first}
use Rattle.hgs_path.proofs.owners.Owners.other.Goals as goal

pub returns-in-Some : goal.returns-in-Some
returns-in-Some c owns h =
    first-other (owns c.args.name.now) c.args.path.now _ _ _ _ (h c.args.name.now) (sym c.in-Some.ensures.value) c.as_slice-in-Some.ensures (search rules)

pub returns-in-Some-get : goal.returns-in-Some-get
returns-in-Some-get c owns h =
    second-other (owns c.args.name.now) c.args.path.now _ _ _ _ _ _ (h c.args.name.now) (sym c.in-Some.ensures.value) c.as_slice.ensures (search rules) (sym c.in-Some-get.ensures.value) c.as_slice-in-Some-get.ensures

pub returns-in-None-get : goal.returns-in-None-get
returns-in-None-get c owns h =
    no-second (owns c.args.name.now) c.args.path.now _ _ _ _ (h c.args.name.now) (sym c.in-Some.ensures.value) c.as_slice.ensures (search rules) (sym c.in-None-get.ensures.value)

pub returns-in-None : goal.returns-in-None
returns-in-None c owns h = no-first (owns c.args.name.now) c.args.path.now _ _ (h c.args.name.now) (sym c.in-None.ensures.value)
