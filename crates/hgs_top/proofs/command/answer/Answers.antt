use Rattle.std.proofs.Common.{◌≡◌, List, ℕ, Option, Result, Ok, Err, OnOk, refl, sym, subst}
use Rattle.std.specs.Prelude.{IfErr}
use Rattle.std.specs.Result.{result_map_both}
use Rattle.hgs_files.specs.Streams.{IsWritten}
use Rattle.hgs_top.specs.declared.pages.Page.{Page}
use Rattle.hgs_top.specs.declared.stopped.Said.{Said}
use Rattle.hgs_top.specs.declared.stopped.Said.TheVariants.{Whole}
use Rattle.hgs_top.specs.declared.stopped.Stopped.{Stopped}
use Rattle.hgs_top.specs.declared.stopped.Stopped.TheVariants.{Refused, Unwritten}
use Rattle.hgs_top.specs.declared.words.Command.{Command}
use Rattle.hgs_top.specs.Outcome.{Outcome, told, log_outcome, listing_outcome}
use Rattle.hgs_top.specs.declared.listing.Listing.TheVariants.{Heads, Bookmarks, Parents}
use Rattle.hgs_top.specs.Branches.{branches_outcome}
use Rattle.hgs_top.specs.Pages.{page_outcome, page_text}
use Rattle.hgs_top.specs.Run.{OfReply, IsTold, IsCut, IsUnwritten, IsReplied}
use Rattle.hgs_top.specs.Words.{question_of}
use Rattle.hgs_load.specs.Theorems.AskLemmas.{grows-refl}
use Rattle.hgs_top.specs.Given.{question_reads, ReadsOnly}
use Rattle.hgs_top.proofs.GivenLemmas.{only-none}
use Rattle.hgs_top.proofs.LogLemmas.{of_each}
use Rattle.hgs_top.proofs.command.answer.Goals as goal

whole_told : (o : Outcome) (old new : Option (List ℕ)) (r : Result Unit Stopped) (w : Result Said Stopped) → w ≡ result_map_both (λ x. Whole) (λ e. e) r → IsTold o old new r → IsReplied (told o) old new w
whole_told o old new (Ok tt) w e h = let P : Result Said Stopped → Type 0 = λ q. IsReplied (told o) old new q in subst P (sym e) h
whole_told o old new (Err s) w e h = let P : Result Said Stopped → Type 0 = λ q. IsReplied (told o) old new q in subst P (sym e) h

-- a page was written, or what the sink took of it
page_told : (page : Page) (old new : Option (List ℕ)) (text : List ℕ) (r : Result Unit Stopped) → text ≡ page_text page → OnOk r (IsWritten old new text) → IfErr r (λ e. IsUnwritten e × IsCut old new text) → IsTold (page_outcome page) old new r
page_told page old new text (Ok x) e ok err = (refl, (let P : List ℕ → Type 0 = λ b. IsWritten old new b in subst P e ok))
page_told page old new text (Err (Refused x)) e ok err = absurd err.0
page_told page old new text (Err (Unwritten f)) e ok err = let P : List ℕ → Type 0 = λ b. IsCut old new b in subst P e err.1

pub returns-in-Shown-clause-told : goal.returns-in-Shown-clause-told
returns-in-Shown-clause-told g c = λ alone.
    let seen = g.R.Reads.seen c.args.files.now in
    let start = g.R.Reads.start c.args.files.now in
    let old = g.K.Sink.written c.args.out.now in
    let new = g.K.Sink.written c.write_last.new.out in
    let P : Command → Type 0 = λ k. OfReply (question_of k) seen start (λ reply. IsReplied reply old new c.whole.result) in
    subst P (sym c.in-Shown.is) (whole_told (page_outcome c.in-Shown.page) old new c.write_last.result c.whole.result c.whole.ensures (page_told c.in-Shown.page old new c.text.result.now c.write_last.result c.text.ensures c.write_last.ensures.ok c.write_last.ensures.err))

pub returns-in-Log-clause-told : goal.returns-in-Log-clause-told
returns-in-Log-clause-told g c = λ alone.
    let seen = g.R.Reads.seen c.args.files.now in
    let start = g.R.Reads.start c.args.files.now in
    let old = g.K.Sink.written c.args.out.now in
    let new = g.K.Sink.written c.write_log.new.out in
    let P : Command → Type 0 = λ k. OfReply (question_of k) seen start (λ reply. IsReplied reply old new c.whole-in-Log.result) in
    subst P (sym c.in-Log.is)
    (of_each seen start (λ t. IsTold (log_outcome t) old new c.write_log.result) (λ t. IsReplied (told (log_outcome t)) old new c.whole-in-Log.result) (λ t h. whole_told (log_outcome t) old new c.write_log.result c.whole-in-Log.result c.whole-in-Log.ensures h) (c.write_log.ensures.told alone))

pub returns-in-Heads-clause-told : goal.returns-in-Heads-clause-told
returns-in-Heads-clause-told g c = λ alone.
    let seen = g.R.Reads.seen c.args.files.now in
    let start = g.R.Reads.start c.args.files.now in
    let old = g.K.Sink.written c.args.out.now in
    let new = g.K.Sink.written c.write_listing.new.out in
    let P : Command → Type 0 = λ k. OfReply (question_of k) seen start (λ reply. IsReplied reply old new c.whole-in-Heads.result) in
    subst P (sym c.in-Heads.is)
    (of_each seen start (λ t. IsTold (listing_outcome Heads t) old new c.write_listing.result) (λ t. IsReplied (told (listing_outcome Heads t)) old new c.whole-in-Heads.result) (λ t h. whole_told (listing_outcome Heads t) old new c.write_listing.result c.whole-in-Heads.result c.whole-in-Heads.ensures h) (c.write_listing.ensures.told alone))

pub returns-in-Bookmarks-clause-told : goal.returns-in-Bookmarks-clause-told
returns-in-Bookmarks-clause-told g c = λ alone.
    let seen = g.R.Reads.seen c.args.files.now in
    let start = g.R.Reads.start c.args.files.now in
    let old = g.K.Sink.written c.args.out.now in
    let new = g.K.Sink.written c.write_listing-in-Bookmarks.new.out in
    let P : Command → Type 0 = λ k. OfReply (question_of k) seen start (λ reply. IsReplied reply old new c.whole-in-Bookmarks.result) in
    subst P (sym c.in-Bookmarks.is)
    (of_each seen start (λ t. IsTold (listing_outcome Bookmarks t) old new c.write_listing-in-Bookmarks.result) (λ t. IsReplied (told (listing_outcome Bookmarks t)) old new c.whole-in-Bookmarks.result) (λ t h. whole_told (listing_outcome Bookmarks t) old new c.write_listing-in-Bookmarks.result c.whole-in-Bookmarks.result c.whole-in-Bookmarks.ensures h) (c.write_listing-in-Bookmarks.ensures.told alone))

pub returns-in-Parents-clause-told : goal.returns-in-Parents-clause-told
returns-in-Parents-clause-told g c = λ alone.
    let seen = g.R.Reads.seen c.args.files.now in
    let start = g.R.Reads.start c.args.files.now in
    let old = g.K.Sink.written c.args.out.now in
    let new = g.K.Sink.written c.write_listing-in-Parents.new.out in
    let P : Command → Type 0 = λ k. OfReply (question_of k) seen start (λ reply. IsReplied reply old new c.whole-in-Parents.result) in
    subst P (sym c.in-Parents.is)
    (of_each seen start (λ t. IsTold (listing_outcome Parents t) old new c.write_listing-in-Parents.result) (λ t. IsReplied (told (listing_outcome Parents t)) old new c.whole-in-Parents.result) (λ t h. whole_told (listing_outcome Parents t) old new c.write_listing-in-Parents.result c.whole-in-Parents.result c.whole-in-Parents.ensures h) (c.write_listing-in-Parents.ensures.told alone))

pub returns-in-Cat-clause-told : goal.returns-in-Cat-clause-told
returns-in-Cat-clause-told g c = λ alone.
    let seen = g.R.Reads.seen c.args.files.now in
    let start = g.R.Reads.start c.args.files.now in
    let old = g.K.Sink.written c.args.out.now in
    let new = g.K.Sink.written c.write_contents-in-Cat.new.out in
    let P : Command → Type 0 = λ k. OfReply (question_of k) seen start (λ reply. IsReplied reply old new c.write_contents-in-Cat.result) in
    subst P (sym c.in-Cat.is) (c.write_contents-in-Cat.ensures.told alone)

pub returns-in-Phase-clause-told : goal.returns-in-Phase-clause-told
returns-in-Phase-clause-told g c = λ alone.
    let seen = g.R.Reads.seen c.args.files.now in
    let start = g.R.Reads.start c.args.files.now in
    let old = g.K.Sink.written c.args.out.now in
    let new = g.K.Sink.written c.write_contents-in-Phase.new.out in
    let P : Command → Type 0 = λ k. OfReply (question_of k) seen start (λ reply. IsReplied reply old new c.write_contents-in-Phase.result) in
    subst P (sym c.in-Phase.is) (c.write_contents-in-Phase.ensures.told alone)

pub returns-in-Set-clause-told : goal.returns-in-Set-clause-told
returns-in-Set-clause-told g c = λ alone.
    let seen = g.R.Reads.seen c.args.files.now in
    let start = g.R.Reads.start c.args.files.now in
    let old = g.K.Sink.written c.args.out.now in
    let new = g.K.Sink.written c.write_set.new.out in
    let P : Command → Type 0 = λ k. OfReply (question_of k) seen start (λ reply. IsReplied reply old new c.write_set.result) in
    subst P (sym c.in-Set.is) (c.write_set.ensures.told alone)

pub returns-in-Branches-clause-told : goal.returns-in-Branches-clause-told
returns-in-Branches-clause-told g c = λ alone.
    let seen = g.R.Reads.seen c.args.files.now in
    let start = g.R.Reads.start c.args.files.now in
    let old = g.K.Sink.written c.args.out.now in
    let new = g.K.Sink.written c.write_branches.new.out in
    let P : Command → Type 0 = λ k. OfReply (question_of k) seen start (λ reply. IsReplied reply old new c.whole-in-Branches.result) in
    subst P (sym c.in-Branches.is)
    (of_each seen start (λ t. IsTold (branches_outcome t) old new c.write_branches.result) (λ t. IsReplied (told (branches_outcome t)) old new c.whole-in-Branches.result) (λ t h. whole_told (branches_outcome t) old new c.write_branches.result c.whole-in-Branches.result c.whole-in-Branches.ensures h) (c.write_branches.ensures.told alone))

pub returns-in-Branches-clause-given : goal.returns-in-Branches-clause-given
returns-in-Branches-clause-given g c =
    let P : Command → Type 0 = λ k. ReadsOnly (g.R.Reads.given c.args.files.now) (g.R.Reads.given c.write_branches.new.files) (g.R.Reads.seen c.args.files.now) (g.R.Reads.start c.args.files.now) (g.R.Reads.seen c.write_branches.new.files) (question_reads (question_of k)) in
    subst P (sym c.in-Branches.is) c.write_branches.ensures.given

pub returns-in-Log-clause-given : goal.returns-in-Log-clause-given
returns-in-Log-clause-given g c =
    let P : Command → Type 0 = λ k. ReadsOnly (g.R.Reads.given c.args.files.now) (g.R.Reads.given c.write_log.new.files) (g.R.Reads.seen c.args.files.now) (g.R.Reads.start c.args.files.now) (g.R.Reads.seen c.write_log.new.files) (question_reads (question_of k)) in
    subst P (sym c.in-Log.is) c.write_log.ensures.given

pub returns-in-Heads-clause-given : goal.returns-in-Heads-clause-given
returns-in-Heads-clause-given g c =
    let P : Command → Type 0 = λ k. ReadsOnly (g.R.Reads.given c.args.files.now) (g.R.Reads.given c.write_listing.new.files) (g.R.Reads.seen c.args.files.now) (g.R.Reads.start c.args.files.now) (g.R.Reads.seen c.write_listing.new.files) (question_reads (question_of k)) in
    subst P (sym c.in-Heads.is) c.write_listing.ensures.given

pub returns-in-Bookmarks-clause-given : goal.returns-in-Bookmarks-clause-given
returns-in-Bookmarks-clause-given g c =
    let P : Command → Type 0 = λ k. ReadsOnly (g.R.Reads.given c.args.files.now) (g.R.Reads.given c.write_listing-in-Bookmarks.new.files) (g.R.Reads.seen c.args.files.now) (g.R.Reads.start c.args.files.now) (g.R.Reads.seen c.write_listing-in-Bookmarks.new.files) (question_reads (question_of k)) in
    subst P (sym c.in-Bookmarks.is) c.write_listing-in-Bookmarks.ensures.given

pub returns-in-Parents-clause-given : goal.returns-in-Parents-clause-given
returns-in-Parents-clause-given g c =
    let P : Command → Type 0 = λ k. ReadsOnly (g.R.Reads.given c.args.files.now) (g.R.Reads.given c.write_listing-in-Parents.new.files) (g.R.Reads.seen c.args.files.now) (g.R.Reads.start c.args.files.now) (g.R.Reads.seen c.write_listing-in-Parents.new.files) (question_reads (question_of k)) in
    subst P (sym c.in-Parents.is) c.write_listing-in-Parents.ensures.given

pub returns-in-Files-clause-given : goal.returns-in-Files-clause-given
returns-in-Files-clause-given g c =
    let P : Command → Type 0 = λ k. ReadsOnly (g.R.Reads.given c.args.files.now) (g.R.Reads.given c.write_contents.new.files) (g.R.Reads.seen c.args.files.now) (g.R.Reads.start c.args.files.now) (g.R.Reads.seen c.write_contents.new.files) (question_reads (question_of k)) in
    subst P (sym c.in-Files.is) c.write_contents.ensures.given

pub returns-in-Cat-clause-given : goal.returns-in-Cat-clause-given
returns-in-Cat-clause-given g c =
    let P : Command → Type 0 = λ k. ReadsOnly (g.R.Reads.given c.args.files.now) (g.R.Reads.given c.write_contents-in-Cat.new.files) (g.R.Reads.seen c.args.files.now) (g.R.Reads.start c.args.files.now) (g.R.Reads.seen c.write_contents-in-Cat.new.files) (question_reads (question_of k)) in
    subst P (sym c.in-Cat.is) c.write_contents-in-Cat.ensures.given

pub returns-in-Phase-clause-given : goal.returns-in-Phase-clause-given
returns-in-Phase-clause-given g c =
    let P : Command → Type 0 = λ k. ReadsOnly (g.R.Reads.given c.args.files.now) (g.R.Reads.given c.write_contents-in-Phase.new.files) (g.R.Reads.seen c.args.files.now) (g.R.Reads.start c.args.files.now) (g.R.Reads.seen c.write_contents-in-Phase.new.files) (question_reads (question_of k)) in
    subst P (sym c.in-Phase.is) c.write_contents-in-Phase.ensures.given

pub returns-in-Set-clause-given : goal.returns-in-Set-clause-given
returns-in-Set-clause-given g c =
    let P : Command → Type 0 = λ k. ReadsOnly (g.R.Reads.given c.args.files.now) (g.R.Reads.given c.write_set.new.files) (g.R.Reads.seen c.args.files.now) (g.R.Reads.start c.args.files.now) (g.R.Reads.seen c.write_set.new.files) (question_reads (question_of k)) in
    subst P (sym c.in-Set.is) c.write_set.ensures.given

pub returns-in-Shown-clause-given : goal.returns-in-Shown-clause-given
returns-in-Shown-clause-given g c =
    let given = g.R.Reads.given c.args.files.now in
    let seen = g.R.Reads.seen c.args.files.now in
    let start = g.R.Reads.start c.args.files.now in
    only-none given seen start (question_reads (question_of c.args.command)) (grows-refl seen)
