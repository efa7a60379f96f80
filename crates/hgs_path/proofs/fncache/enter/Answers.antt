use Rattle.std.proofs.Common.{◌∙◌, sym, subst}
use Rattle.std.proofs.lemmas.Result.{on_ok_weaker}
use Rattle.hgs_path.specs.declared.name.Ext.TheVariants.{I}
use Rattle.hgs_path.specs.Owners.{Keeps, with_file_name}
use Rattle.hgs_path.proofs.EnterLemmas.{plain-names, both-names}
use Rattle.hgs_path.proofs.LengthLemmas.{short-plain}
use Rattle.hgs_path.proofs.fncache.enter.Goals as goal

pub returns-then-is_short : goal.returns-then-is_short
returns-then-is_short c owns h =
    subst (λ o. Keeps o c.args.owners.now) (plain-names owns c.args.path.now (short-plain c.args.path.now (sym c.is_short.ensures ∙ c.if-is_short.true))) h

pub returns : goal.returns
returns c =
    let path = c.args.path.now in
    on_ok_weaker c.enter_file-2.result (λ f owns h.
    subst (λ o. Keeps o c.enter_file-2.new.owners) (both-names owns path) (f (with_file_name owns path I) (c.in_ok-enter_file.ensures owns h)))
    c.enter_file-2.ensures
