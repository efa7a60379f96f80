-- The lines of a header, as the code holds them.
use Rattle.std.specs.Prelude.{ℕ, List, [], Option, Some, None, option_map}
use Rattle.hgs_index.specs.ChangeText.{Header, header_lines}
use Rattle.hgs_changelog.specs.declared.header.Header.{Header as CodeHeader}

-- the lines of a text, none where there is no text
abbrev pub lines_behind : Option (List ℕ) → List (List ℕ)
lines_behind None = []
lines_behind (Some text) = header_lines text

abbrev pub view_header : CodeHeader → Header
view_header h = record { node = h.node.now; user = h.user.now; date = h.date.now; files = lines_behind (option_map (λ t. t.now) h.files) }
