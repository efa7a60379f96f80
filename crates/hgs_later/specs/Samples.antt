-- A small inline revlog, and an import that has written all but what publishes it.
use Rattle.std.specs.Prelude.{ℕ, List, [], ◌∷◌, ◌++◌, codes}
use Rattle.hgs_files.specs.Tree.{Tree, after_all}
use Rattle.hgs_model.specs.declared.command.Command.TheVariants.{Import}
use Rattle.hgs_model.specs.declared.command.NewChange.{NewChange}
use Rattle.hgs_model.specs.Repo.{Repo}
use Rattle.hgs_model.specs.Samples.{after, one_line}
use Rattle.hgs_model.specs.Step.{step}
use Rattle.hgs_ops.specs.Operations.{Transaction, transaction_of}
use Rattle.hgs_ops.specs.Samples.{after_first, first_change, one_draft}
use Rattle.hgs_stands.specs.Samples.{file}

-- The filelog of a file that has `1`, `2` and `3` in three changesets, as Mercurial 6.3.2 wrote it, uncompressed: three items of 67 bytes.
abbrev pub three_items : List ℕ
three_items = (file (codes "store/data/f.i") (codes "000100010000000000000003000000020000000000000000ffffffffffffffffb8e02f6433738021a065f94175c7cd23db5f05be00000000000000000000000075310a00000000000300000000000300000002000000010000000100000000ffffffff4a1aa07735e673e20c00fae80f40dc301ee3061600000000000000000000000075320a00000000000600000000000300000002000000020000000200000001ffffffffd583d4d5db1a109615c1937508cb3ac2888bf47400000000000000000000000075330a")).1

-- two changesets on the first one, each with another text in its file
abbrev pub two_more : List NewChange
two_more =
    record first_change { parents = codes "tip" ∷ []; files = one_line (codes "a") (codes "x") ∷ [] }
    ∷ record first_change { parents = codes "tip" ∷ []; files = one_line (codes "a") (codes "y") ∷ [] }
    ∷ []

abbrev pub three_drafts : Repo
three_drafts = after one_draft (step one_draft (Import two_more))

-- the import of them, and the files when just its rename of the changelog's index and what comes behind that is to do
abbrev pub import_of_two : Transaction
import_of_two = transaction_of (after_first (codes "w")) one_draft (Import two_more) (codes "w") three_drafts

abbrev pub import_begun : Tree
import_begun = after_all (import_of_two.before ++ import_of_two.journal ∷ import_of_two.changes) (after_first (codes "w"))
