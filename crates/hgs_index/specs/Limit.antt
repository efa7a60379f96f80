-- The numbers of the limits.
use Rattle.std.specs.Prelude.{ℕ}
use Rattle.hgs_index.specs.declared.kinds.Which.{Which}
use Rattle.hgs_index.specs.declared.kinds.Which.TheVariants.{FileText, Tree, Changesets, Text, Data, Bookmarks, Record, Inline, Part}

-- from 1 on, in the order in which a call that is past several limits names one
abbrev pub limit_number : Which → ℕ
limit_number FileText = 1
limit_number Tree = 2
limit_number Changesets = 3
limit_number Text = 4
limit_number Data = 5
limit_number Bookmarks = 6
limit_number Record = 7
limit_number Inline = 8
limit_number Part = 9
