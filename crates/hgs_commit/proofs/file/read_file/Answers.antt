use Rattle.std.proofs.Common.{◌≡◌, Ok, Err, sym, ◌∙◌, ap, subst}
use Rattle.std.specs.Prelude.{⊤}
use Rattle.std.specs.Bool.{MatchBool}
use Rattle.std.specs.Option.{option_map}
use Rattle.hgs_path.specs.Fncache.{listing}
use Rattle.hgs_load.specs.Answer.{is_of_outside}
use Rattle.hgs_commit.specs.Files.{file_in, filelog_in, view_filelog}
use Rattle.hgs_commit.specs.Known.{IsReadOf}
use Rattle.hgs_commit.specs.Obstacles.{met_of, noting}
use Rattle.hgs_commit.specs.Walk.{told_of_found}
use Rattle.hgs_commit.proofs.AnswerLemmas.{alone-one}
use Rattle.hgs_commit.proofs.FoundLemmas.{in-orphan, in-unread}
use Rattle.hgs_commit.proofs.KnownLemmas.{knows-later, read-of}
use Rattle.hgs_commit.proofs.file.read_file.Goals as goal

pub returns-in-Err-clause-found : goal.returns-in-Err-clause-found
returns-in-Err-clause-found g c =
    let lists = listing c.args.fncache.now in
    let file = c.args.file.now in
    let source = c.args.source.now.0 in
    let first = option_map told_of_found c.args.rows.first in
    let second = option_map told_of_found c.args.rows.second in
    let e = c.in-Err.refusal in
    let m = met_of c.args.met.now in
    alone-one g.R.Reads.alone (g.R.Reads.seen c.load_filelog.new.files) (g.R.Reads.start c.load_filelog.new.files)
    (λ t. MatchBool (is_of_outside e) ⊤ (filelog_in lists c.as_slice.result.now t ≡ Err e))
    (λ t. MatchBool (is_of_outside e) ⊤ (noting m (file_in lists c.args.link file source first second t) ≡ Err e))
    (λ t h. in-unread lists c.args.link file source first second t m e (subst (λ p. MatchBool (is_of_outside e) ⊤ (filelog_in lists p t ≡ Err e)) c.as_slice.ensures h))
    c.in-Err.ensures.found

pub returns-in-Err-parents_by-clause-found : goal.returns-in-Err-parents_by-clause-found
returns-in-Err-parents_by-clause-found g c =
    let lists = listing c.args.fncache.now in
    let file = c.args.file.now in
    let source = c.args.source.now.0 in
    let first = option_map told_of_found c.args.rows.first in
    let second = option_map told_of_found c.args.rows.second in
    let f = view_filelog c.in-Ok.filelog in
    let e = c.in-Err-parents_by.refusal in
    let m = met_of c.args.met.now in
    alone-one g.R.Reads.alone (g.R.Reads.seen c.load_filelog.new.files) (g.R.Reads.start c.load_filelog.new.files)
    (λ t. filelog_in lists c.as_slice.result.now t ≡ Ok f)
    (λ t. MatchBool (is_of_outside e) ⊤ (noting m (file_in lists c.args.link file source first second t) ≡ Err e))
    (λ t is. in-orphan lists c.args.link file source first second t f (ap (λ p. filelog_in lists p t) (sym c.as_slice.ensures) ∙ is) m e c.in-Err-parents_by.ensures.parents)
    c.in-Ok.ensures.found

pub file_on-requires-clause-read : goal.file_on-requires-clause-read
file_on-requires-clause-read g c =
    let lists = listing c.args.fncache.now in
    let file = c.args.file.now in
    let f = view_filelog c.in-Ok.filelog in
    alone-one g.R.Reads.alone (g.R.Reads.seen c.load_filelog.new.files) (g.R.Reads.start c.load_filelog.new.files)
    (λ t. filelog_in lists c.as_slice.result.now t ≡ Ok f)
    (λ t. IsReadOf file.path f t)
    (λ t is. read-of lists file.path f t (ap (λ p. filelog_in lists p t) (sym c.as_slice.ensures) ∙ is))
    c.in-Ok.ensures.found

pub file_on-requires-clause-known : goal.file_on-requires-clause-known
file_on-requires-clause-known g c =
    knows-later g.R.Reads.alone (g.R.Reads.seen c.args.files.now) (g.R.Reads.seen c.load_filelog.new.files) (g.R.Reads.start c.args.files.now) (g.R.Reads.start c.load_filelog.new.files) c.args.known.now
    c.in-Ok.ensures.still c.in-Ok.ensures.same_start c.requires.known
