-- A small repository that an import made, and an index of four entries.
use Rattle.std.specs.Prelude.{ℕ, List, [], ◌∷◌, ◌++◌, codes, replicate}
use Rattle.hgs_model.specs.declared.command.Command.TheVariants.{Import}
use Rattle.hgs_model.specs.Imports.{first_alone, record_a}
use Rattle.hgs_model.specs.Repo.{Repo}
use Rattle.hgs_model.specs.Samples.{after, one_line}
use Rattle.hgs_model.specs.Step.{step}

-- a changeset of a file `a`, and on it two that change the file, which one import adds
abbrev pub imported : Repo
imported = after first_alone (step first_alone (Import (
    record record_a { parents = codes "tip" ∷ []; files = one_line (codes "a") (codes "x") ∷ [] }
    ∷ record record_a { parents = codes "tip" ∷ []; files = one_line (codes "a") (codes "y") ∷ [] }
    ∷ [])))

-- an entry with a link below 256 and nothing else
abbrev pub entry_of : ℕ → List ℕ
entry_of link = replicate 23 0 ++ link ∷ replicate 40 0

-- four of them, the last one not whole
abbrev pub some_entries : List ℕ
some_entries = entry_of 0 ++ entry_of 1 ++ entry_of 3 ++ replicate 40 0
