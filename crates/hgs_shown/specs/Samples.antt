-- The small repository of `hgs_stands` with an inline changelog.
use Rattle.std.specs.Prelude.{[], ◌∷◌, codes}
use Rattle.hgs_files.specs.Tree.{Tree}
use Rattle.hgs_stands.specs.Samples.{file, over, two_drafts_files}

-- Each entry of the changelog with its chunk behind it, the first with bit 16 in its header, and beside the index a data file
-- that is not looked at. The bytes are those that Mercurial wrote into two files, put into one.
abbrev pub inline_drafts_files : Tree
inline_drafts_files = over two_drafts_files (
    file (codes "store/00changelog.i") (codes "000100010000000000000037000000360000000000000000ffffffffffffffffcb9a9f314b8b07ba71012fcdbc544b5a4d82ff5b00000000000000000000000075613063386263626262343563363362393062373061643030376266333839363166363466326166300a746573740a3020300a610a0a6100000000003700000000003800000037000000010000000100000000ffffffff37bdf19219c0e69b87d6371fabfaf5c3a63794d900000000000000000000000075613533396365306331613232623065636633343439386639663563653865613536646639656362370a746573740a363020300a620a0a62")
    ∷ file (codes "store/00changelog.d") (codes "00")
    ∷ []
    )
