use Rattle.std.proofs.Common.{map, sym, ◌∙◌}
use Rattle.std.specs.String.{string_bytes}
use Rattle.hgs_machine.specs.Refusals.{WereRefused}
use Rattle.hgs_top.specs.Words.{request_of_words}
use Rattle.hgs_run.proofs.Asked.{asked_for, asked_gives, asked_grows_none, asked_input, asked_keeps_yard, asked_makes_none, asked_obeys, asked_of_repository, asked_plays, asked_reads, asked_says, asked_starts, if_whole, if_whole_map, others_ask_none, others_keep_start, others_keep_yard}
use Rattle.hgs_run.proofs.run.run.Goals as goal

pub run_session-requires-clause-allows : goal.run_session-requires-clause-allows
run_session-requires-clause-allows g c κs within = c.requires.allows (asked_for (request_of_words (map string_bytes c.args.words.now)) (sym c.asks_session.ensures ∙ c.if-asks_session.true))

pub returns-then-asks_session-clause-history : goal.returns-then-asks_session-clause-history
returns-then-asks_session-clause-history g c =
    let is = sym c.asks_session.ensures ∙ c.if-asks_session.true in
    if_whole c.run_session.result.left
    (λ y. asked_makes_none (map string_bytes c.args.words.now) is (g.S.Source.left c.args.input.now) (g.Y.A.Files.log (g.Y.Yard.files c.args.yard)) (g.Y.A.Files.log (g.Y.Yard.files y)) (g.Y.A.Reads.start (g.Y.Yard.files c.args.yard)))

pub returns-then-asks_session-clause-growth : goal.returns-then-asks_session-clause-growth
returns-then-asks_session-clause-growth g c =
    let is = sym c.asks_session.ensures ∙ c.if-asks_session.true in
    if_whole c.run_session.result.left
    (λ y. asked_grows_none (map string_bytes c.args.words.now) is (g.Y.A.Files.log (g.Y.Yard.files c.args.yard)) (g.Y.A.Files.log (g.Y.Yard.files y)) (g.Y.A.Reads.start (g.Y.Yard.files c.args.yard)) c.run_session.result.status)

pub returns-then-asks_session-clause-repository : goal.returns-then-asks_session-clause-repository
returns-then-asks_session-clause-repository g c = asked_of_repository (request_of_words (map string_bytes c.args.words.now)) (sym c.asks_session.ensures ∙ c.if-asks_session.true) _ _ _ _ _ _

pub returns-then-asks_session-clause-says : goal.returns-then-asks_session-clause-says
returns-then-asks_session-clause-says g c = asked_says (request_of_words (map string_bytes c.args.words.now)) (sym c.asks_session.ensures ∙ c.if-asks_session.true) _ _ _ _ _ _

pub returns-then-asks_session-clause-orders : goal.returns-then-asks_session-clause-orders
returns-then-asks_session-clause-orders g c =
    if_whole c.run_session.result.left
    (λ y. asked_obeys (request_of_words (map string_bytes c.args.words.now)) (sym c.asks_session.ensures ∙ c.if-asks_session.true) (λ n. WereRefused n (g.Y.A.Reads.faults (g.Y.Yard.files c.args.yard)) (g.Y.A.Reads.faults (g.Y.Yard.files y)) (g.Y.A.Reads.denied (g.Y.Yard.files c.args.yard)) (g.Y.A.Reads.denied (g.Y.Yard.files y))) (g.S.Source.left c.args.input.now)
    (g.Y.A.Files.log (g.Y.Yard.files c.args.yard)) (g.Y.A.Files.log (g.Y.Yard.files y)) (g.Y.A.Reads.start (g.Y.Yard.files c.args.yard)) c.run_session.result.status (g.K.Sink.written c.args.out.now) (g.K.Sink.written c.run_session.new.out))

pub returns-then-asks_session-clause-given : goal.returns-then-asks_session-clause-given
returns-then-asks_session-clause-given g c =
    if_whole c.run_session.result.left
    (λ y. asked_gives (request_of_words (map string_bytes c.args.words.now)) (sym c.asks_session.ensures ∙ c.if-asks_session.true) (g.Y.A.Reads.given (g.Y.Yard.files c.args.yard)) (g.Y.A.Reads.given (g.Y.Yard.files y)) (g.Y.A.Reads.seen (g.Y.Yard.files c.args.yard)) (g.Y.A.Reads.start (g.Y.Yard.files c.args.yard)) (g.Y.A.Reads.seen (g.Y.Yard.files y)))

pub returns-then-asks_session-clause-same_start : goal.returns-then-asks_session-clause-same_start
returns-then-asks_session-clause-same_start g c =
    if_whole c.run_session.result.left (λ y. asked_starts (request_of_words (map string_bytes c.args.words.now)) (sym c.asks_session.ensures ∙ c.if-asks_session.true) (g.Y.A.Reads.start (g.Y.Yard.files c.args.yard)) (g.Y.A.Reads.start (g.Y.Yard.files y)))

pub returns-then-asks_session-clause-input : goal.returns-then-asks_session-clause-input
returns-then-asks_session-clause-input g c = asked_input (request_of_words (map string_bytes c.args.words.now)) (sym c.asks_session.ensures ∙ c.if-asks_session.true) _ _ _ _

pub returns-then-asks_session-clause-plays : goal.returns-then-asks_session-clause-plays
returns-then-asks_session-clause-plays g c = asked_plays (request_of_words (map string_bytes c.args.words.now)) (sym c.asks_session.ensures ∙ c.if-asks_session.true) _ _ _ _

pub returns-then-asks_session-clause-session : goal.returns-then-asks_session-clause-session
returns-then-asks_session-clause-session g c = λ asked. c.run_session.ensures.session

pub returns-then-asks_session-clause-whole : goal.returns-then-asks_session-clause-whole
returns-then-asks_session-clause-whole g c = asked_keeps_yard (request_of_words (map string_bytes c.args.words.now)) (sym c.asks_session.ensures ∙ c.if-asks_session.true) c.run_session.ensures.whole

pub returns-then-asks_session-clause-read : goal.returns-then-asks_session-clause-read
returns-then-asks_session-clause-read g c = asked_reads (request_of_words (map string_bytes c.args.words.now)) (sym c.asks_session.ensures ∙ c.if-asks_session.true) c.run_session.result.status (g.S.Source.left c.run_session.new.input) c.run_session.ensures.read

pub returns-else-asks_session-clause-same_start : goal.returns-else-asks_session-clause-same_start
returns-else-asks_session-clause-same_start g c =
    let is = sym c.asks_session.ensures ∙ c.if-asks_session.false in
    if_whole_map c.run_alone.result.left (λ y same. others_keep_start (request_of_words (map string_bytes c.args.words.now)) is same) c.run_alone.ensures.same_start

pub returns-else-asks_session-clause-session : goal.returns-else-asks_session-clause-session
returns-else-asks_session-clause-session g c = λ asked. absurd (others_ask_none (request_of_words (map string_bytes c.args.words.now)) (sym c.asks_session.ensures ∙ c.if-asks_session.false) asked)

pub returns-else-asks_session-clause-whole : goal.returns-else-asks_session-clause-whole
returns-else-asks_session-clause-whole g c = others_keep_yard (request_of_words (map string_bytes c.args.words.now)) c.run_alone.result.status (sym c.asks_session.ensures ∙ c.if-asks_session.false) c.run_alone.ensures.whole
