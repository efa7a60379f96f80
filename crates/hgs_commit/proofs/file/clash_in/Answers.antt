use Rattle.std.proofs.Common.{subst}
use Rattle.std.specs.Option.{option_map}
use Rattle.hgs_path.specs.Fncache.{IsClash, listing}
use Rattle.hgs_commit.proofs.ClashLemmas.{clash-either}
use Rattle.hgs_commit.proofs.file.clash_in.Goals as goal

pub returns-in-None : goal.returns-in-None
returns-in-None c =
    let files = listing c.args.fncache.now in
    let path = c.args.path.now in
    clash-either files (listing c.args.new_paths.now) path c.clash-in-None.result
    (subst (λ o. IsClash files path (option_map (λ p. p.items) o)) c.in-None.is c.in_ok-other.ensures) c.clash-in-None.ensures
