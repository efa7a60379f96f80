use Rattle.std.proofs.Common.{◌≡◌, [], ◌∷◌, ◌++◌, take, map, sym, ◌∙◌, ap}
use Rattle.std.specs.Prelude.{Some, slice_get, is_ok}
use Rattle.std.proofs.lemmas.List.{map_push}
use Rattle.std.proofs.lemmas.Option.{slice_get-get_or}
use Rattle.hgs_index.specs.TrackedPath.{is_tracked}
use Rattle.hgs_findings.specs.OnePath.{word_of}
use Rattle.hgs_findings.specs.Sight.{seen, seen_of}
use Rattle.hgs_path.specs.Check.{checked}
use Rattle.hgs_judge.specs.Changesets.{changeset_as}
use Rattle.hgs_judge.specs.Words.{word_in, words_in}
use Rattle.hgs_judge.proofs.Basics.{map-more}
use Rattle.hgs_judge.proofs.ChangesetLemmas.{mapped-at}
use Rattle.hgs_judge.proofs.trees.words.Goals as goal

pub loop-changeset-preserved : goal.loop-changeset-preserved
loop-changeset-preserved c = λ s trees is.
    let path = c.args.path.now in
    let i = c.loop-changeset.changeset-index in
    let item = c.changeset-item.result in
    let at : slice_get c.args.changesets.now i ≡ Some item = slice_get-get_or c.args.changesets.now i item c.loop-changeset-test.true ∙ ap Some (sym c.changeset-item.is) in
    let found = mapped-at changeset_as (seen s) i item (ap (λ l. slice_get l i) (sym is) ∙ at) in
    let of = mapped-at (seen_of s) s.changelog i found.0 found.1 in
    let check : c.check.result ≡ checked path = c.check.ensures in
    let tracked : c.is_ok-tracked.result ≡ is_tracked path = c.is_ok-tracked.ensures.value ∙ ap is_ok check ∙ c.tracked_without_fault.ensures path in
    ap (words_in path) c.in_ok-push.ensures.items
    ∙ map_push (word_in path) c.loop-changeset.words.items c.word.result
    ∙ ap (λ l. l ++ word_in path c.word.result ∷ []) (c.loop-changeset.invariant s trees is)
    ∙ ap (λ x. map (word_of path) (take i (seen s)) ++ x ∷ []) (c.word.ensures s of.0 trees (found.2 ∙ ap changeset_as of.2) tracked ∙ ap (word_of path) (sym of.2))
    ∙ sym (map-more (word_of path) (seen s) i found.0 found.1)
