use Rattle.std.proofs.Common.{map, sym, subst}
use Rattle.std.proofs.lemmas.List.Elements.{All-nil}
use Rattle.std.specs.List.{All, AllByRecursion}
use Rattle.hgs_journal.specs.Texts.{HasPath}
use Rattle.hgs_transaction.specs.Gathered.{Adds}
use Rattle.hgs_transaction.specs.Parts.{IsInStore}
use Rattle.hgs_transaction.specs.declared.parts.Change.TheVariants.{Replace}
use Rattle.hgs_transaction.proofs.PlanLemmas.{all-in-store, holds-parts, in-store, no-lines}
use Rattle.hgs_transaction.proofs.assemble.gather.Goals as goal

pub add_all-requires : goal.add_all-requires
add_all-requires c = record {
  in_store = subst (AllByRecursion IsInStore) (sym c.into_vec.ensures) (all-in-store c.args.parts.before c.requires.before);
  paths = subst (All HasPath) (sym c.new-gathered.ensures.journal) (All-nil HasPath);
}

pub add-requires-clause-in_store : goal.add-requires-clause-in_store
add-requires-clause-in_store c = in-store c.args.parts.publishing c.requires.publishing

pub returns : goal.returns
returns c = record {
  holds = holds-parts c.args.parts c.new-gathered.result c.add_all.new.self c.add.new.self c.replace_all.new.self c.new-gathered.ensures
      (subst (λ cs. Adds c.new-gathered.result c.add_all.new.self cs) c.into_vec.ensures c.in_ok-add_all.ensures.adds)
      c.in_ok-add.ensures.adds
      (subst (λ xs. Adds c.add.new.self c.replace_all.new.self (map (λ x. Replace x) xs)) c.into_vec-2.ensures c.in_ok-replace_all.ensures);
  paths = no-lines c.add.new.self c.replace_all.new.self c.into_vec-2.result.items c.in_ok-replace_all.ensures c.in_ok-add.ensures.paths;
}
