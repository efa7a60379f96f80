-- What holds of each reply.
use Rattle.std.proofs.Common.{List, Option}
use Rattle.hgs_files.specs.declared.op.Op.{Op}
use Rattle.hgs_files.specs.Tree.{Tree}
use Rattle.hgs_top.specs.Outcome.{Reply, told}
use Rattle.hgs_top.specs.Pages.{page_outcome}
use Rattle.hgs_top.specs.Run.{OfReply, reply_to}
use Rattle.hgs_top.specs.Words.{Question, ask_page, ask_log, ask_heads, ask_bookmarks, ask_parents, ask_files, ask_cat, ask_phase, ask_set, ask_branches}
use Rattle.hgs_revset.specs.Read.{read_set}
use Rattle.hgs_top.proofs.LogLemmas.{of_each}
use Rattle.hgs_top.proofs.SetLemmas.{of_each_set}

pub of_each_reply : (question : Question) (log : Option (List Op)) (start : Tree) (P Q : Reply → Type 0) → ((reply : Reply) → P reply → Q reply) → OfReply question log start P → OfReply question log start Q
of_each_reply (ask_page page) log start P Q f h = f (told (page_outcome page)) h
of_each_reply ask_log log start P Q f h = of_each log start (λ t. P (reply_to ask_log t)) (λ t. Q (reply_to ask_log t)) (λ t. f (reply_to ask_log t)) h
of_each_reply ask_heads log start P Q f h = of_each log start (λ t. P (reply_to ask_heads t)) (λ t. Q (reply_to ask_heads t)) (λ t. f (reply_to ask_heads t)) h
of_each_reply ask_bookmarks log start P Q f h = of_each log start (λ t. P (reply_to ask_bookmarks t)) (λ t. Q (reply_to ask_bookmarks t)) (λ t. f (reply_to ask_bookmarks t)) h
of_each_reply ask_parents log start P Q f h = of_each log start (λ t. P (reply_to ask_parents t)) (λ t. Q (reply_to ask_parents t)) (λ t. f (reply_to ask_parents t)) h
of_each_reply (ask_files rev) log start P Q f h = of_each log start (λ t. P (reply_to (ask_files rev) t)) (λ t. Q (reply_to (ask_files rev) t)) (λ t. f (reply_to (ask_files rev) t)) h
of_each_reply (ask_cat rev path) log start P Q f h = of_each log start (λ t. P (reply_to (ask_cat rev path) t)) (λ t. Q (reply_to (ask_cat rev path) t)) (λ t. f (reply_to (ask_cat rev path) t)) h
of_each_reply (ask_phase rev) log start P Q f h = of_each log start (λ t. P (reply_to (ask_phase rev) t)) (λ t. Q (reply_to (ask_phase rev) t)) (λ t. f (reply_to (ask_phase rev) t)) h
of_each_reply (ask_set text) log start P Q f h = of_each_set (read_set text) log start P Q f h
of_each_reply (ask_branches steps) log start P Q f h = of_each log start (λ t. P (reply_to (ask_branches steps) t)) (λ t. Q (reply_to (ask_branches steps) t)) (λ t. f (reply_to (ask_branches steps) t)) h
