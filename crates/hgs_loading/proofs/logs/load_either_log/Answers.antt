use Rattle.std.proofs.Common.{◌≡◌, List, ℕ, Ok, Err, subst}
use Rattle.std.specs.Prelude.{⊤, Result}
use Rattle.std.specs.Bool.{MatchBool}
use Rattle.hgs_load.specs.Answer.{is_of_outside}
use Rattle.hgs_load.specs.View.{log_answer}
use Rattle.hgs_load.specs.declared.answer.ReadAnswer.{ReadAnswer}
use Rattle.hgs_revlog.specs.declared.fault.Tail.TheVariants.{Refuse}
use Rattle.hgs_revlog.specs.Load.{loaded_either}
use Rattle.hgs_revlog.specs.Log.{Log}
use Rattle.hgs_loading.specs.Logs.{either_index_in}
use Rattle.hgs_loading.specs.Theorems.FoundLemmas.{alone-one}
use Rattle.hgs_loading.proofs.EitherLemmas.{given-by, log-refused}
use Rattle.hgs_loading.proofs.logs.load_either_log.Goals as goal

abbrev Bytes : Type 0
Bytes = Result (List ℕ) ReadAnswer

abbrev log_by : List ℕ → List ℕ → Result Log ReadAnswer
log_by index bytes = log_answer index (loaded_either Refuse bytes)

pub returns-in-Err-clause-found : goal.returns-in-Err-clause-found
returns-in-Err-clause-found g c =
    let index = c.args.paths.now.index in
    let e = c.in-Err.refusal in
    alone-one g.R.Reads.alone (g.R.Reads.seen c.read_either_index.new.files) (g.R.Reads.start c.read_either_index.new.files)
    (λ t. MatchBool (is_of_outside e) ⊤ ((let r : Bytes = Ok (either_index_in index t) in r) ≡ Err e)) (λ t. MatchBool (is_of_outside e) ⊤ (log_by index (either_index_in index t) ≡ Err e))
    (λ t h. log-refused (log_by index) (either_index_in index t) e h) c.in-Err.ensures.found

pub returns-in-Ok-either_log_from-clause-found : goal.returns-in-Ok-either_log_from-clause-found
returns-in-Ok-either_log_from-clause-found g c =
    let index = c.args.paths.now.index in
    let bytes = c.in-Ok.bytes.items in
    alone-one g.R.Reads.alone (g.R.Reads.seen c.read_either_index.new.files) (g.R.Reads.start c.read_either_index.new.files)
    (λ t. (let r : Bytes = Ok (either_index_in index t) in r) ≡ Ok bytes) (λ t. log_by index (either_index_in index t) ≡ Ok c.in-Ok-either_log_from.log)
    (λ t h. given-by (λ (log : Log). log) (log_by index) (either_index_in index t) bytes (let r : Result Log ReadAnswer = Ok c.in-Ok-either_log_from.log in r) h (subst (λ b. log_by index b ≡ Ok c.in-Ok-either_log_from.log) c.deref.ensures.value c.in-Ok-either_log_from.ensures.log)) c.in-Ok.ensures.found

pub returns-clause-found : goal.returns-clause-found
returns-clause-found g c =
    let index = c.args.paths.now.index in
    let bytes = c.in-Ok.bytes.items in
    let e = c.in-Err-either_log_from.refusal in
    alone-one g.R.Reads.alone (g.R.Reads.seen c.read_either_index.new.files) (g.R.Reads.start c.read_either_index.new.files)
    (λ t. (let r : Bytes = Ok (either_index_in index t) in r) ≡ Ok bytes) (λ t. MatchBool (is_of_outside e) ⊤ (log_by index (either_index_in index t) ≡ Err e))
    (λ t h. given-by (λ (log : Log). log) (log_by index) (either_index_in index t) bytes (let r : Result Log ReadAnswer = Err e in r) h (subst (λ b. MatchBool (is_of_outside e) ⊤ (log_by index b ≡ Err e)) c.deref.ensures.value c.in-Err-either_log_from.ensures.log)) c.in-Ok.ensures.found
