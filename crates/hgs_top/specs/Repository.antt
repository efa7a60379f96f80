-- What a question is answered with about a repository, without files.
use Rattle.std.specs.Prelude.{ℕ, List, Option, Some, None, Result, Ok, Err, ⊤}
use Rattle.hgs_files.specs.declared.op.Op.{Op}
use Rattle.hgs_files.specs.Tree.{Tree}
use Rattle.hgs_model.specs.Names.{named}
use Rattle.hgs_model.specs.Repo.{Repo}
use Rattle.hgs_load.specs.declared.answer.ReadAnswer.TheVariants.{UnknownPath}
use Rattle.hgs_shown.specs.Answers.{IsReadable, body_at, bookmarks_text, files_text_of, heads_text, log_text, parents_text, phase_text}
use Rattle.hgs_top.specs.Outcome.{Reply, told, unknown_revision, refused}
use Rattle.hgs_top.specs.Branches.{branches_of_repo}
use Rattle.hgs_top.specs.Pages.{page_outcome}
use Rattle.hgs_revset.specs.Read.{read_set}
use Rattle.hgs_top.specs.Run.{OfTree, Replied}
use Rattle.hgs_top.specs.Sets.{set_reply_of}
use Rattle.hgs_top.specs.Words.{Question, ask_page, ask_log, ask_heads, ask_bookmarks, ask_parents, ask_files, ask_cat, ask_phase, ask_set, ask_branches, Request, to_answer, to_do, to_play, to_session, to_verify, to_generate}

-- the whole of a text
abbrev pub said : List ℕ → Reply
said text = told (record { text = text; refusal = None })

abbrev pub of_named : Option ℕ → (ℕ → Reply) → Reply
of_named None reply = unknown_revision
of_named (Some rev) reply = reply rev

abbrev pub body_reply : Option (List ℕ) → Reply
body_reply None = told (refused UnknownPath)
body_reply (Some body) = said body

-- The text of the repository that a question asks for. A name that names nothing, and a path that the changeset lacks, are said to be unknown.
abbrev pub reply_of : Repo → Question → Reply
reply_of r (ask_page page) = told (page_outcome page)
reply_of r ask_log = said (log_text r)
reply_of r ask_heads = said (heads_text r)
reply_of r ask_bookmarks = said (bookmarks_text r)
reply_of r ask_parents = said (parents_text r)
reply_of r (ask_files name) = of_named (named r name) (λ rev. said (files_text_of r rev))
reply_of r (ask_cat name path) = of_named (named r name) (λ rev. body_reply (body_at r rev path))
reply_of r (ask_phase name) = of_named (named r name) (λ rev. said (phase_text r rev))
reply_of r (ask_set text) = set_reply_of (read_set text) r
reply_of r (ask_branches steps) = said (branches_of_repo r)

-- What a run leaves in the sink over files that stand for a repository, within a reader's limits: the answer of the repository, unless the outside failed.
abbrev pub SaysOfRepository : Type 0 → Result Request ℕ → Option (List Op) → Tree → ℕ → Option (List ℕ) → Option (List ℕ) → Type 0
SaysOfRepository Faulted (Ok (to_answer question)) log start status old new = OfTree log start (λ t. (r : Repo) → IsReadable t r → Replied Faulted (reply_of r question) status old new)
SaysOfRepository Faulted (Ok (to_do job)) log start status old new = ⊤
SaysOfRepository Faulted (Ok to_play) log start status old new = ⊤
SaysOfRepository Faulted (Ok to_session) log start status old new = ⊤
SaysOfRepository Faulted (Ok (to_verify jobs)) log start status old new = ⊤
SaysOfRepository Faulted (Ok (to_generate seed count)) log start status old new = ⊤
SaysOfRepository Faulted (Err place) log start status old new = ⊤
