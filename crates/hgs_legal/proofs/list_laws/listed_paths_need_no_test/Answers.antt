use Rattle.hgs_legal.proofs.ListTests.{names-own, paths-bytes, used-bytes}
use Rattle.hgs_legal.proofs.list_laws.listed_paths_need_no_test.Goals as goal

pub returns : goal.returns
returns c = record { used = used-bytes; bytes = paths-bytes; listed = names-own }
