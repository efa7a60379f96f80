-- What `revset` replies.
use Rattle.std.specs.Prelude.{Result, Ok, Err, None, if◌then◌else◌}
use Rattle.hgs_files.specs.Tree.{Tree}
use Rattle.hgs_load.specs.declared.answer.ReadAnswer.{ReadAnswer}
use Rattle.hgs_load.specs.declared.answer.ReadAnswer.TheVariants as reads
use Rattle.hgs_load.specs.Asks.{Asks, answer, at_rest, then_asks}
use Rattle.hgs_load.specs.Open.{open_asks}
use Rattle.hgs_load.specs.View.{View}
use Rattle.hgs_members.specs.Story.{story_of}
use Rattle.hgs_model.specs.Repo.{Repo}
use Rattle.hgs_revset.specs.declared.fault.SetFault.{SetFault}
use Rattle.hgs_revset.specs.declared.fault.SetFault.TheVariants.{Bad, Memory}
use Rattle.hgs_revset.specs.Members.{Set, Story, is_known, story_of_repo}
use Rattle.hgs_revset.specs.Text.{set_text}
use Rattle.hgs_top.specs.Outcome.{Reply, told, unknown_revision, bad_set, refused}

-- the lines of its members, where each of its names names a changeset
abbrev pub set_told : Story → Set → Reply
set_told s a = if is_known s a then told (record { text = set_text s a; refusal = None }) else unknown_revision

abbrev pub set_of_load : Set → Result View ReadAnswer → Reply
set_of_load a (Err e) = told (refused e)
set_of_load a (Ok view) = set_told (story_of view) a

-- a text that is no set is refused, whatever the files hold
abbrev pub set_refused : SetFault → Reply
set_refused (Bad place) = bad_set place
set_refused Memory = told (refused reads.Memory)

abbrev pub set_reply : Result Set SetFault → Tree → Reply
set_reply (Err fault) t = set_refused fault
set_reply (Ok a) t = set_of_load a (at_rest t open_asks)

-- the same of a repository
abbrev pub set_reply_of : Result Set SetFault → Repo → Reply
set_reply_of (Err fault) r = set_refused fault
set_reply_of (Ok a) r = set_told (story_of_repo r) a

-- nothing is read where the text is no set
abbrev pub set_reads : Result Set SetFault → Asks (Result Unit ReadAnswer)
set_reads (Err fault) = answer (Ok tt)
set_reads (Ok a) = then_asks open_asks (λ view. answer (Ok tt))
