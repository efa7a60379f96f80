use Rattle.std.proofs.Common.{◌∙◌, sym, arith}
use Rattle.hgs_path.specs.StoreName.{is_plain, listed_name, store_name}
use Rattle.hgs_path.specs.Owners.{owns_name}
use Rattle.hgs_path.proofs.ClashLemmas.{hashed-none, hashed-some, plain-at, none-at, some-at}
use Rattle.hgs_path.proofs.fncache.Fncache.clash_at.Goals as goal

pub returns-in-Some-other : goal.returns-in-Some-other
returns-in-Some-other c =
    let f = c.args.self.now in
    let path = c.args.path.now in
    let ext = c.args.ext in
    let hashed = hashed-some (is_plain (listed_name path ext)) (store_name path ext) c.in-Some.name (sym c.in-Some.is ∙ c.in_ok-name.ensures) in
    some-at f path ext c.in-Some.name hashed.1 hashed.0 c.in-Some-other.other.now _ c.in_ok-from_slice-in-Some-other.ensures.items (c.in-Some-other.ensures (owns_name f.indexes.keys f.datas.keys) f.owners_kept)

pub returns-in-Some : goal.returns-in-Some
returns-in-Some c =
    let f = c.args.self.now in
    let path = c.args.path.now in
    let ext = c.args.ext in
    let hashed = hashed-some (is_plain (listed_name path ext)) (store_name path ext) c.in-Some.name (sym c.in-Some.is ∙ c.in_ok-name.ensures) in
    none-at f path ext c.in-Some.name hashed.1 hashed.0 (c.in-None-other.ensures (owns_name f.indexes.keys f.datas.keys) f.owners_kept)

pub returns : goal.returns
returns c =
    let path = c.args.path.now in
    let ext = c.args.ext in
    plain-at c.args.self.now path ext (λ i. let h = c.type_inv.path i in omega (arith, h)) (hashed-none (is_plain (listed_name path ext)) (store_name path ext) (sym c.in-None.is ∙ c.in_ok-name.ensures))
