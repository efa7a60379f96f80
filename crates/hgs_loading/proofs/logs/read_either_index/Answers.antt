use Rattle.std.proofs.Common.{◌≡◌, List, ℕ, Ok, Err, true, false, sym, ◌∙◌, ap}
use Rattle.std.specs.Prelude.{⊤, Result}
use Rattle.std.specs.Bool.{MatchBool}
use Rattle.hgs_files.specs.Tree.{bytes_at}
use Rattle.hgs_load.specs.Answer.{is_of_outside}
use Rattle.hgs_load.specs.declared.answer.ReadAnswer.{ReadAnswer}
use Rattle.hgs_loading.specs.Logs.{either_index_in, has_more, index_in}
use Rattle.hgs_loading.specs.Theorems.FoundLemmas.{alone-both, alone-one, grows-trans}
use Rattle.hgs_loading.proofs.EitherLemmas.{all-items, not-more, refused-bytes}
use Rattle.hgs_loading.proofs.logs.read_either_index.Goals as goal

abbrev Bytes : Type 0
Bytes = Result (List ℕ) ReadAnswer

pub returns-in-Err-clause-found : goal.returns-in-Err-clause-found
returns-in-Err-clause-found g c =
    let index = c.args.index.now in
    let e = c.in-Err.refusal in
    alone-one g.R.Reads.alone (g.R.Reads.seen c.read_entries.new.files) (g.R.Reads.start c.read_entries.new.files)
    (λ t. MatchBool (is_of_outside e) ⊤ ((let r : Bytes = Ok (index_in index t) in r) ≡ Err e)) (λ t. MatchBool (is_of_outside e) ⊤ ((let r : Bytes = Ok (either_index_in index t) in r) ≡ Err e))
    (λ t h. refused-bytes (index_in index t) (either_index_in index t) e h) c.in-Err.ensures.found

pub returns-then-not-has_more-clause-found : goal.returns-then-not-has_more-clause-found
returns-then-not-has_more-clause-found g c =
    let index = c.args.index.now in
    let bytes = c.in-Ok.bytes.items in
    let less : has_more bytes ≡ false = ap has_more (sym c.deref.ensures.value) ∙ sym c.if-not-has_more.ensures in
    alone-one g.R.Reads.alone (g.R.Reads.seen c.read_entries.new.files) (g.R.Reads.start c.read_entries.new.files)
    (λ t. (let r : Bytes = Ok (index_in index t) in r) ≡ Ok bytes) (λ t. (let r : Bytes = Ok (either_index_in index t) in r) ≡ Ok bytes)
    (λ t h. not-more index t bytes less h) c.in-Ok.ensures.found

pub returns-in-Ok-read_all-clause-found : goal.returns-in-Ok-read_all-clause-found
returns-in-Ok-read_all-clause-found g c =
    let index = c.args.index.now in
    let bytes = c.in-Ok.bytes.items in
    let all = c.in-Ok-read_all.bytes.items in
    let more : has_more bytes ≡ true = ap has_more (sym c.deref.ensures.value) ∙ sym c.if-not-has_more.ensures in
    alone-both g.R.Reads.alone (g.R.Reads.seen c.read_entries.new.files) (g.R.Reads.seen c.read_all.new.files) (g.R.Reads.start c.read_entries.new.files) (g.R.Reads.start c.read_all.new.files)
    (λ t. (let r : Bytes = Ok (index_in index t) in r) ≡ Ok bytes) (λ t. (let r : Bytes = Ok (bytes_at t index) in r) ≡ Ok all) (λ t. (let r : Bytes = Ok (either_index_in index t) in r) ≡ Ok all)
    c.in-Ok-read_all.ensures.still c.in-Ok-read_all.ensures.same_start
    (λ t a b. all-items index t bytes all more a b) c.in-Ok.ensures.found c.in-Ok-read_all.ensures.found

pub returns-in-Ok-read_all-clause-seen : goal.returns-in-Ok-read_all-clause-seen
returns-in-Ok-read_all-clause-seen g c =
    grows-trans (g.R.Reads.seen c.args.files.now) (g.R.Reads.seen c.read_entries.new.files) (g.R.Reads.seen c.read_all.new.files) c.in-Ok.ensures.seen c.in-Ok-read_all.ensures.seen

pub returns-clause-found : goal.returns-clause-found
returns-clause-found g c =
    let index = c.args.index.now in
    let e = c.in-Err-read_all.refusal in
    alone-one g.R.Reads.alone (g.R.Reads.seen c.read_all.new.files) (g.R.Reads.start c.read_all.new.files)
    (λ t. MatchBool (is_of_outside e) ⊤ ((let r : Bytes = Ok (bytes_at t index) in r) ≡ Err e)) (λ t. MatchBool (is_of_outside e) ⊤ ((let r : Bytes = Ok (either_index_in index t) in r) ≡ Err e))
    (λ t h. refused-bytes (bytes_at t index) (either_index_in index t) e h) c.in-Err-read_all.ensures.found

pub returns-clause-seen : goal.returns-clause-seen
returns-clause-seen g c =
    grows-trans (g.R.Reads.seen c.args.files.now) (g.R.Reads.seen c.read_entries.new.files) (g.R.Reads.seen c.read_all.new.files) c.in-Ok.ensures.seen c.in-Err-read_all.ensures.seen
