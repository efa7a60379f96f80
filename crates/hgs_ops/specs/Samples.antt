-- A store with nothing in it, a first commit, and commands on what it leaves.
use Rattle.std.specs.Prelude.{ℕ, zero, suc, List, [], ◌∷◌, ◌++◌, false, pos, None, Some, codes, if◌then◌else◌}
use Rattle.hgs_bytes.specs.Bytes.{same}
use Rattle.hgs_files.specs.Tree.{Tree, after_all}
use Rattle.hgs_model.specs.declared.command.Command.{Command}
use Rattle.hgs_model.specs.declared.command.Command.TheVariants.{Commit, Import, Mark, Move, Unmark}
use Rattle.hgs_model.specs.declared.command.NewChange.{NewChange}
use Rattle.hgs_model.specs.declared.phase.Phase.TheVariants.{Draft, Public}
use Rattle.hgs_model.specs.Repo.{Repo, empty_repo}
use Rattle.hgs_model.specs.Samples.{one_line}
use Rattle.hgs_model.specs.Step.{answer_at}
use Rattle.hgs_ops.specs.Operations.{operations, transaction_of}
use Rattle.hgs_ops.specs.PowerCourses.{Call}
use Rattle.hgs_ops.specs.PowerCourses.Fate.{whole}
use Rattle.hgs_stands.specs.Places.{requires_path}
use Rattle.hgs_stands.specs.Samples.{first_draft, two_drafts}

-- the text of `requires`
abbrev pub requires_text : List ℕ
requires_text = codes "dotencode" ++ 10 ∷ codes "fncache" ++ 10 ∷ codes "revlogv1" ++ 10 ∷ codes "store" ++ 10 ∷ []

-- a store that was just made: no other file stands
abbrev pub bare : Tree
bare path = if same requires_path path then Some requires_text else None

-- a commit of one file `a`
abbrev pub first_change : NewChange
first_change = record { parents = []; user = codes "test"; seconds = pos 0; offset = pos 0; phase = Draft; bookmark = None; branch = None; description = codes "a"; files = one_line (codes "a") (codes "a") ∷ [] }

-- the repository behind it
abbrev pub one_draft : Repo
one_draft = record { changesets = first_draft ∷ []; phases = 1 ∷ []; bookmarks = []; working = (Some 0, None) }

-- the tree behind it
abbrev pub after_first : List ℕ → Tree
after_first who = after_all (operations (transaction_of bare empty_repo (Commit first_change) who one_draft)) bare

-- an import of it with a bookmark, and of a second changeset with a file `b`
abbrev pub both_changes : List NewChange
both_changes =
    record first_change { bookmark = Some (codes "main") }
    ∷ record { parents = codes "tip" ∷ []; user = codes "test"; seconds = pos 60; offset = pos 0; phase = Draft; bookmark = None; branch = None; description = codes "b"; files = one_line (codes "a") (codes "a") ∷ one_line (codes "b") (codes "b") ∷ [] }
    ∷ []

abbrev pub after_both : List ℕ → Tree
after_both who = after_all (operations (transaction_of bare empty_repo (Import both_changes) who two_drafts)) bare

-- the repositories of that commit, and the call that makes it
abbrev pub first_repos : ℕ → Repo
first_repos zero = empty_repo
first_repos (suc n) = one_draft

abbrev pub first_call : List ℕ → Call
first_call who = record { who = who; command = Commit first_change; next = one_draft; answer = answer_at one_draft 0; fate = whole }

-- what is done then: a bookmark is set on the changeset, it is published, and the bookmark is deleted
abbrev pub set_here : Command
set_here = Mark (codes "here") (codes "tip")

abbrev pub publish_here : Command
publish_here = Move (codes "here") Public false

abbrev pub delete_here : Command
delete_here = Unmark (codes "here")

abbrev pub one_marked : Repo
one_marked = record one_draft { bookmarks = record { name = codes "here"; rev = 0 } ∷ [] }

abbrev pub one_public : Repo
one_public = record one_marked { phases = 0 ∷ [] }

abbrev pub one_unmarked : Repo
one_unmarked = record one_public { bookmarks = [] }

abbrev pub after_set : List ℕ → Tree
after_set who = after_all (operations (transaction_of (after_first who) one_draft set_here who one_marked)) (after_first who)

abbrev pub after_publish : List ℕ → Tree
after_publish who = after_all (operations (transaction_of (after_set who) one_marked publish_here who one_public)) (after_set who)

abbrev pub after_delete : List ℕ → Tree
after_delete who = after_all (operations (transaction_of (after_publish who) one_public delete_here who one_unmarked)) (after_publish who)
