use Rattle.std.proofs.Common.{List, ℕ, Ok, OnOk, ◌++◌, ◌∙◌, ap, refl, subst}
use Rattle.std.specs.Prelude.{IfErr}
use Rattle.hgs_files.specs.Streams.{IsWritten}
use Rattle.hgs_top.specs.Outcome.{listing_text, listing_of_load}
use Rattle.hgs_top.specs.Run.{IsCut, IsUnwritten}
use Rattle.hgs_top.proofs.LogLemmas.{unopened}
use Rattle.hgs_load.specs.Asks.{answer}
use Rattle.hgs_load.specs.Open.{open_asks}
use Rattle.hgs_top.proofs.GivenLemmas.{only-refused, only-first}
use Rattle.hgs_top.proofs.ListingLemmas.{listing_told, listing_lost}
use Rattle.hgs_top.proofs.listing.write_listing.Goals as goal

pub returns-in-Err-clause-told : goal.returns-in-Err-clause-told
returns-in-Err-clause-told g c = λ alone.
    let e = c.in-Err.ensures in
    unopened (λ t r. listing_of_load c.args.listing r) (g.R.Reads.seen c.args.files.now) (g.R.Reads.seen c.open.new.files) (g.R.Reads.start c.args.files.now) c.in-Err.refusal (g.K.Sink.written c.args.out.now) (λ t. refl) (e.still alone) e.answer

pub returns-in-Ok-add_listing-clause-told : goal.returns-in-Ok-add_listing-clause-told
returns-in-Ok-add_listing-clause-told g c = λ alone.
    let e = c.in-Ok.ensures in
    let old = g.K.Sink.written c.args.out.now in
    let new = g.K.Sink.written c.write_last.new.out in
    let W : List ℕ → Type 0 = λ b. OnOk c.write_last.result (IsWritten old new b) in
    let F : List ℕ → Type 0 = λ b. IfErr c.write_last.result (λ s. IsUnwritten s × IsCut old new b) in
    listing_told c.args.listing (g.R.Reads.seen c.args.files.now) (g.R.Reads.seen c.open.new.files) (g.R.Reads.start c.args.files.now) c.in-Ok.session old new c.add_listing.new.into.items c.write_last.result (e.still alone) e.answer
    (c.in-Ok-add_listing.ensures.ok ∙ ap (λ l. l ++ listing_text c.args.listing c.in-Ok.session) c.new-lines.ensures.items)
    (subst W c.deref.ensures.value c.write_last.ensures.ok) (subst F c.deref.ensures.value c.write_last.ensures.err)

pub returns-clause-told : goal.returns-clause-told
returns-clause-told g c = λ alone. listing_lost c.args.listing (g.R.Reads.seen c.args.files.now) (g.R.Reads.start c.args.files.now) (g.K.Sink.written c.args.out.now)

pub returns-in-Err-clause-given : goal.returns-in-Err-clause-given
returns-in-Err-clause-given g c = only-refused (g.R.Reads.given c.args.files.now) (g.R.Reads.given c.open.new.files) (g.R.Reads.seen c.args.files.now) (g.R.Reads.seen c.open.new.files) (g.R.Reads.start c.args.files.now) open_asks (λ view. answer (Ok tt)) c.in-Err.refusal c.in-Err.ensures.given

pub returns-in-Ok-add_listing-clause-given : goal.returns-in-Ok-add_listing-clause-given
returns-in-Ok-add_listing-clause-given g c = only-first (g.R.Reads.given c.args.files.now) (g.R.Reads.given c.open.new.files) (g.R.Reads.seen c.args.files.now) (g.R.Reads.seen c.open.new.files) (g.R.Reads.start c.args.files.now) open_asks (λ view. answer (Ok tt)) c.in-Ok.session c.in-Ok.ensures.given

pub returns-clause-given : goal.returns-clause-given
returns-clause-given g c = only-first (g.R.Reads.given c.args.files.now) (g.R.Reads.given c.open.new.files) (g.R.Reads.seen c.args.files.now) (g.R.Reads.seen c.open.new.files) (g.R.Reads.start c.args.files.now) open_asks (λ view. answer (Ok tt)) c.in-Ok.session c.in-Ok.ensures.given
