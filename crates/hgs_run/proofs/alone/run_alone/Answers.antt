use Rattle.std.proofs.Common.{map, sym, subst}
use Rattle.std.specs.String.{string_bytes}
use Rattle.hgs_top.specs.Given.{ReadsAsked}
use Rattle.hgs_top.specs.Words.{request_of_words}
use Rattle.hgs_machine.specs.Refusals.{WereRefused}
use Rattle.hgs_top.specs.Growth.{GrowsRepository}
use Rattle.hgs_top.specs.Histories.{MakesHistory}
use Rattle.hgs_top.specs.Orders.{Obeys}
use Rattle.hgs_run.proofs.alone.run_alone.Goals as goal

pub returns-clause-history : goal.returns-clause-history
returns-clause-history g c =
    let words = map string_bytes c.args.words.now in
    let left = g.S.Source.left c.args.input.now in
    let made = c.runs_make_histories.ensures words left (g.Y.A.Files.log c.alone-files.result.0) (g.Y.A.Files.log c.run_words-status.new.files) (g.Y.A.Reads.start c.alone-files.result.0) c.run_words-status.result (g.K.Sink.written c.args.out.now) (g.K.Sink.written c.run_words-status.new.out)
    (g.Y.A.Reads.faults c.alone-files.result.0) (g.Y.A.Reads.faults c.run_words-status.new.files) (g.Y.A.Reads.denied c.alone-files.result.0) (g.Y.A.Reads.denied c.run_words-status.new.files) c.run_words-status.ensures.orders in
    subst (λ f. MakesHistory words left (g.Y.A.Files.log (g.Y.Yard.files c.args.yard)) (g.Y.A.Files.log f) (g.Y.A.Reads.start (g.Y.Yard.files c.args.yard))) (sym c.again.ensures)
    (subst (λ f. MakesHistory words left (g.Y.A.Files.log f) (g.Y.A.Files.log c.run_words-status.new.files) (g.Y.A.Reads.start f)) c.alone-files.ensures made)

pub returns-clause-growth : goal.returns-clause-growth
returns-clause-growth g c =
    let words = map string_bytes c.args.words.now in
    let left = g.S.Source.left c.args.input.now in
    let made = c.runs_grow_repositories.ensures words left (g.Y.A.Files.log c.alone-files.result.0) (g.Y.A.Files.log c.run_words-status.new.files) (g.Y.A.Reads.start c.alone-files.result.0) c.run_words-status.result (g.K.Sink.written c.args.out.now) (g.K.Sink.written c.run_words-status.new.out)
    (g.Y.A.Reads.faults c.alone-files.result.0) (g.Y.A.Reads.faults c.run_words-status.new.files) (g.Y.A.Reads.denied c.alone-files.result.0) (g.Y.A.Reads.denied c.run_words-status.new.files) c.run_words-status.ensures.orders in
    subst (λ f. GrowsRepository words (g.Y.A.Files.log (g.Y.Yard.files c.args.yard)) (g.Y.A.Files.log f) (g.Y.A.Reads.start (g.Y.Yard.files c.args.yard)) c.run_words-status.result) (sym c.again.ensures)
    (subst (λ f. GrowsRepository words (g.Y.A.Files.log f) (g.Y.A.Files.log c.run_words-status.new.files) (g.Y.A.Reads.start f) c.run_words-status.result) c.alone-files.ensures made)

pub returns-clause-given : goal.returns-clause-given
returns-clause-given g c =
    let request = request_of_words (map string_bytes c.args.words.now) in
    let before = g.Y.Yard.files c.args.yard in
    let after = c.run_words-status.new.files in
    subst (λ f. ReadsAsked request (g.Y.A.Reads.given before) (g.Y.A.Reads.given f) (g.Y.A.Reads.seen before) (g.Y.A.Reads.start before) (g.Y.A.Reads.seen f)) (sym c.again.ensures)
    (subst (λ f. ReadsAsked request (g.Y.A.Reads.given f) (g.Y.A.Reads.given after) (g.Y.A.Reads.seen f) (g.Y.A.Reads.start f) (g.Y.A.Reads.seen after)) c.alone-files.ensures c.run_words-status.ensures.given)

pub returns-clause-orders : goal.returns-clause-orders
returns-clause-orders g c =
    let request = request_of_words (map string_bytes c.args.words.now) in
    let left = g.S.Source.left c.args.input.now in
    let before = g.Y.Yard.files c.args.yard in
    let after = c.run_words-status.new.files in
    let status = c.run_words-status.result in
    let old = g.K.Sink.written c.args.out.now in
    let new = g.K.Sink.written c.run_words-status.new.out in
    subst (λ f. Obeys (λ n. WereRefused n (g.Y.A.Reads.faults before) (g.Y.A.Reads.faults f) (g.Y.A.Reads.denied before) (g.Y.A.Reads.denied f)) request left (g.Y.A.Files.log before) (g.Y.A.Files.log f) (g.Y.A.Reads.start before) status old new) (sym c.again.ensures)
    (subst (λ f. Obeys (λ n. WereRefused n (g.Y.A.Reads.faults f) (g.Y.A.Reads.faults after) (g.Y.A.Reads.denied f) (g.Y.A.Reads.denied after)) request left (g.Y.A.Files.log f) (g.Y.A.Files.log after) (g.Y.A.Reads.start f) status old new) c.alone-files.ensures
    c.run_words-status.ensures.orders)
