use Rattle.std.proofs.Common.{◌∙◌, sym, subst}
use Rattle.std.proofs.lemmas.Result.{on_ok_weaker}
use Rattle.hgs_path.specs.StoreName.{is_plain, listed_name, store_name}
use Rattle.hgs_path.specs.Owners.{Keeps}
use Rattle.hgs_path.proofs.ClashLemmas.{hashed-none, hashed-some}
use Rattle.hgs_path.proofs.EnterLemmas.{plain-name, hashed-name}
use Rattle.hgs_path.proofs.fncache.enter_file.Goals as goal

pub returns-in-Some : goal.returns-in-Some
returns-in-Some c =
    let path = c.args.path.now in
    let ext = c.args.ext in
    let hashed = hashed-some (is_plain (listed_name path ext)) (store_name path ext) c.in-Some.name (sym c.in-Some.is ∙ c.in_ok-name.ensures) in
    on_ok_weaker c.add.result (λ f owns h. subst (λ o. Keeps o c.add.new.self) (hashed-name owns path ext c.in-Some.name hashed.1 hashed.0) (f owns h)) c.add.ensures

pub returns-in-None : goal.returns-in-None
returns-in-None c owns h =
    let path = c.args.path.now in
    let ext = c.args.ext in
    subst (λ o. Keeps o c.args.owners.now) (plain-name owns path ext (hashed-none (is_plain (listed_name path ext)) (store_name path ext) (sym c.in-None.is ∙ c.in_ok-name.ensures))) h
