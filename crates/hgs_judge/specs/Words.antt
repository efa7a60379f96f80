-- What the changesets say of one path, and what is found of it.
use Rattle.std.specs.Prelude.{◌≡◌, ◌<◌, ℕ, List, Bool, false, Option, Some, None, is_none, map}
use Rattle.std.specs.List.{AllByRecursion}
use Rattle.hgs_index.specs.Manifest.{Row}
use Rattle.hgs_index.specs.Revision.{Revision}
use Rattle.hgs_findings.specs.OnePath as findings
use Rattle.hgs_findings.specs.OnePath.{lists_word_wrongly, namings_of_words, use_of_found}
use Rattle.hgs_findings.specs.Sight as sight
use Rattle.hgs_findings.specs.Sight.{unknown, absent, at, place}
use Rattle.hgs_judge.specs.declared.words.Found.{Found}
use Rattle.hgs_judge.specs.declared.words.Found.TheVariants.{Unread, Nothing, File}
use Rattle.hgs_judge.specs.Kinds.{namings_in}
use Rattle.hgs_judge.specs.declared.words.Heard.{Heard}
use Rattle.hgs_judge.specs.declared.words.Use.{Use}
use Rattle.hgs_judge.specs.declared.words.Use.TheVariants.{Unknown, Absent, At}
use Rattle.hgs_judge.specs.declared.words.Word.{Word}

-- the use, the row and the word that the values are, at a path
abbrev pub use_in : Use → sight.Use
use_in Unknown = unknown
use_in Absent = absent
use_in (At rev flag) = at rev flag

abbrev pub row_in : List ℕ → Found → Option (Option Row)
row_in path Unread = None
row_in path Nothing = Some None
row_in path (File node flag) = Some (Some (record { path = path; node = node.0; flag = flag }))

abbrev pub word_in : List ℕ → Word → findings.Word
word_in path w = record { parents = w.parents; row = row_in path w.found; listed = w.listed }

abbrev pub words_in : List ℕ → List Word → List findings.Word
words_in path words = map (word_in path) words

abbrev pub uses_in : List Use → List sight.Use
uses_in uses = map use_in uses

-- a used revision is one of so many
abbrev pub IsAmong : ℕ → Use → Type 0
IsAmong count Unknown = Unit {0}
IsAmong count Absent = Unit {0}
IsAmong count (At rev flag) = rev < count

-- kind 9 of a changeset at the path, where its text can be read
abbrev pub where_listed : Option Bool → (Bool → Bool) → Bool
where_listed None wrong = false
where_listed (Some listed) wrong = wrong listed

abbrev pub is_listed_wrongly : List Revision → List findings.Word → findings.Word → Bool
is_listed_wrongly log all w = where_listed w.listed (lists_word_wrongly log all w)

-- kind 5 of a changeset at the path: its tree has a revision there that the filelog lacks
abbrev pub lacks_row : List Revision → Option Row → Bool
lacks_row log None = false
lacks_row log (Some row) = is_none (place log row.node)

abbrev pub lacks_found : List Revision → Option (Option Row) → Bool
lacks_found log None = false
lacks_found log (Some row) = lacks_row log row

abbrev pub lacks_file : List Revision → findings.Word → Bool
lacks_file log w = lacks_found log w.row

abbrev pub AreAmong : ℕ → List Use → Type 0
AreAmong count uses = AllByRecursion (IsAmong count) uses

abbrev pub uses_of : List Revision → List findings.Word → List sight.Use
uses_of log all = map (λ (w : findings.Word). use_of_found log w.row) all

-- what is found of what the changesets say of the path
pub record AreHeard (log : List Revision) (all : List findings.Word) (h : Heard) : Type 0 where
  pub namings : namings_in h.namings.items ≡ namings_of_words log all
  pub listed_wrongly : h.listed_wrongly.items ≡ map (is_listed_wrongly log all) all
  pub lacking : h.lacking.items ≡ map (lacks_file log) all

-- the tree of the changeset has nothing there, or it can't be read
abbrev pub IsNoRow : Option (Option Row) → Type 0
IsNoRow None = Unit {0}
IsNoRow (Some None) = Unit {0}
IsNoRow (Some (Some row)) = ⊥

abbrev pub HasNoRow : findings.Word → Type 0
HasNoRow w = IsNoRow w.row
