use Rattle.std.proofs.Common.{◌≡◌, ◌<◌, ◌≤◌, ℕ, List, [], length, get_or, take, map, refl, sym, ◌∙◌, ap, arith}
use Rattle.std.specs.Prelude.{None, Some, slice_get, vec_len}
use Rattle.std.proofs.lemmas.List.{map_push}
use Rattle.std.proofs.lemmas.Option.{slice_get-get_or}
use Rattle.hgs_findings.specs.OnePath.{naming_word, use_of_found}
use Rattle.hgs_index.specs.Revision.{Revision}
use Rattle.hgs_judge.specs.declared.words.Found.TheVariants.{Unread}
use Rattle.hgs_judge.specs.declared.words.Use.{Use}
use Rattle.hgs_judge.specs.declared.words.Word.{Word}
use Rattle.hgs_judge.specs.Kinds.{naming_in, namings_in}
use Rattle.hgs_judge.specs.Read.{revisions_in}
use Rattle.hgs_judge.specs.Words.{IsAmong, is_listed_wrongly, lacks_file, use_in, uses_in, uses_of, word_in, words_in}
use Rattle.hgs_judge.proofs.Basics.{all-at, take-whole}
use Rattle.hgs_judge.proofs.WordLemmas.{own-use, said-more, uses-count}
use Rattle.hgs_judge.proofs.reading.Reading.hear.Goals as goal

abbrev no_word : Word
no_word = record { parents = (None, None); found = Unread; listed = None }

within : (uses : List Use) (log : List Revision) (words : List Word) (at n : ℕ) → uses_in uses ≡ uses_of log (words_in [] words) → at < length words → n ≡ length uses → at < n
within uses log words at n e lt is = (let c = uses-count uses log [] words e in omega (arith, c, lt, is))

pub index-requires : goal.index-requires
index-requires c = within c.in_ok-uses.uses.items (revisions_in c.args.self.now.log.entries c.args.data_bytes.now) c.args.words.now c.loop-at.at (vec_len c.in_ok-uses.uses) (c.in_ok-uses.ensures.used [] c.args.data_bytes.now c.requires) c.loop-at-test.true c.in_ok-uses.uses.ok.0

pub index-requires-in-loop-at : goal.index-requires-in-loop-at
index-requires-in-loop-at c = within c.in_ok-uses.uses.items (revisions_in c.args.self.now.log.entries c.args.data_bytes.now) c.args.words.now c.loop-at.at (vec_len c.in_ok-uses.uses) (c.in_ok-uses.ensures.used [] c.args.data_bytes.now c.requires) c.loop-at-test.true c.in_ok-uses.uses.ok.0

stands : (uses : List Use) (at : ℕ) (u : Use) → at < length uses → u ≡ get_or uses at u → slice_get uses at ≡ Some u
stands uses at u lt e = slice_get-get_or uses at u lt ∙ ap Some (sym e)

pub tell-requires-clause-own : goal.tell-requires-clause-own
tell-requires-clause-own c =
    let uses = c.in_ok-uses.uses.items in
    let at = c.loop-at.at in
    let lt : at < length uses = within uses (revisions_in c.args.self.now.log.entries c.args.data_bytes.now) c.args.words.now at (length uses) (c.in_ok-uses.ensures.used [] c.args.data_bytes.now c.requires) c.loop-at-test.true refl in
    all-at (IsAmong (length c.args.self.now.log.entries)) uses at c.index.result.now c.in_ok-uses.ensures.among (stands uses at c.index.result.now lt c.index.ensures)

pub loop-at-preserved : goal.loop-at-preserved
loop-at-preserved c =
    let log : List Revision = revisions_in c.args.self.now.log.entries c.args.data_bytes.now in
    let words : List Word = c.args.words.now in
    let uses : List Use = c.in_ok-uses.uses.items in
    let at = c.loop-at.at in
    let w : Word = get_or words at no_word in
    let here : slice_get words at ≡ Some w = slice_get-get_or words at no_word c.loop-at-test.true in
    let lt : at < length uses = within uses log words at (length uses) (c.in_ok-uses.ensures.used [] c.args.data_bytes.now c.requires) c.loop-at-test.true refl in
    let first : slice_get uses at ≡ Some c.index.result.now = stands uses at c.index.result.now lt c.index.ensures in
    let second : slice_get uses at ≡ Some c.index-in-loop-at.result.now = stands uses at c.index-in-loop-at.result.now lt c.index-in-loop-at.ensures in
    let all = c.in_ok-uses.ensures.used in
    let data_bytes = c.args.data_bytes.now in
    let seen : (path : List ℕ) → uses_in c.deref-in-loop-at.result.now ≡ uses_of log (words_in path words) = λ path. ap uses_in c.deref-in-loop-at.ensures.value ∙ all path data_bytes c.requires in
    let own : (path : List ℕ) → use_in c.index.result.now ≡ use_of_found log (word_in path w).row = λ path. own-use uses log path words at c.index.result.now w (all path data_bytes c.requires) first here in
    record {
      namings = λ path.
          said-more (naming_word log (words_in path words)) path words at no_word (namings_in c.loop-at.namings.items) (namings_in c.push.new.self.items) (naming_in c.in_ok-told.told.naming) c.loop-at-test.true
          (ap namings_in c.in_ok-push.ensures.items ∙ map_push naming_in c.loop-at.namings.items c.in_ok-told.told.naming)
          (c.loop-at.invariant.namings path)
          (c.in_ok-told.ensures.naming path (words_in path words) (seen path) (own path));
      listed = λ path.
          said-more (is_listed_wrongly log (words_in path words)) path words at no_word c.loop-at.listed_wrongly.items c.push-in-loop-at.new.self.items c.in_ok-told.told.is_listed_wrongly c.loop-at-test.true
          c.in_ok-push-2.ensures.items
          (c.loop-at.invariant.listed path)
          (c.in_ok-told.ensures.listed path (words_in path words) (seen path) (own path));
      lacking = λ path.
          said-more (lacks_file log) path words at no_word c.loop-at.lacking.items c.push-in-loop-at-2.new.self.items c.is_lacking.result c.loop-at-test.true
          c.in_ok-push-3.ensures.items
          (c.loop-at.invariant.lacking path)
          (c.is_lacking.ensures log path (own-use uses log path words at c.index-in-loop-at.result.now w (all path data_bytes c.requires) second here));
    }

pub returns : goal.returns
returns c = λ path.
    let log : List Revision = revisions_in c.args.self.now.log.entries c.args.data_bytes.now in
    let words : List Word = c.args.words.now in
    let past : length words ≤ c.loop-at.at = c.loop-at-test.false in
    let whole : take c.loop-at.at words ≡ words = take-whole words c.loop-at.at past in
    record {
      namings = c.loop-at.invariant.namings path ∙ ap (λ l. map (naming_word log (words_in path words)) (words_in path l)) whole;
      listed_wrongly = c.loop-at.invariant.listed path ∙ ap (λ l. map (is_listed_wrongly log (words_in path words)) (words_in path l)) whole;
      lacking = c.loop-at.invariant.lacking path ∙ ap (λ l. map (lacks_file log) (words_in path l)) whole;
    }
