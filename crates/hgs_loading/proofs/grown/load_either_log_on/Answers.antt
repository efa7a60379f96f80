use Rattle.std.proofs.Common.{◌*◌, refl, sym, subst, arith}
use Rattle.hgs_bytes.specs.Answer.{Gives}
use Rattle.hgs_load.specs.Answer.{is_of_outside}
use Rattle.hgs_load.specs.View.{piece_length}
use Rattle.hgs_revlog.specs.Log.{Log}
use Rattle.hgs_loading.specs.Logs.{HasGrown, either_log_in}
use Rattle.hgs_loading.specs.Theorems.FoundLemmas.{grows-trans, told-read}
use Rattle.hgs_loading.proofs.GrownLemmas.{grown-log}
use Rattle.hgs_loading.proofs.grown.load_either_log_on.Goals as goal

pub returns-then-behind-ge-PIECE-clause-seen : goal.returns-then-behind-ge-PIECE-clause-seen
returns-then-behind-ge-PIECE-clause-seen g c =
    grows-trans (g.R.Reads.seen c.args.files.now) (g.R.Reads.seen c.read_part.new.files) (g.R.Reads.seen c.load_either_log-then-behind-ge-PIECE.new.files) c.in_ok-part.ensures.seen c.load_either_log-then-behind-ge-PIECE.ensures.seen

pub returns-clause-found : goal.returns-clause-found
returns-clause-found g c =
    let index = c.args.paths.now.index in
    let log = c.args.log in
    let can = c.if-not-can_go_on.ensures in
    let behind = c.bytes_of-behind.result.now in
    let at = c.len.ensures in
    let short = c.if-behind-ge-PIECE.false in
    told-read g.R.Reads.alone (g.R.Reads.seen c.args.files.now) (g.R.Reads.seen c.read_part.new.files) (g.R.Reads.start c.args.files.now) (g.R.Reads.start c.read_part.new.files)
    (HasGrown index log) (λ t. Gives is_of_outside (λ (l : Log). l) c.log_on.result (either_log_in index t)) index (64 * c.len.result) piece_length c.in_ok-part.part
    c.in_ok-part.ensures.still c.in_ok-part.ensures.same_start c.requires.grown c.in_ok-part.ensures.answer
    (λ t grown part.
    subst (λ a. Gives is_of_outside (λ (l : Log). l) c.log_on.result a)
    (sym (grown-log index t log (64 * c.len.result) c.in_ok-part.part behind grown (can.separate refl) (can.some refl) (can.few refl) (omega (arith, at)) part c.bytes_of-behind.ensures (omega (arith, short))))
    c.log_on.ensures.log)
