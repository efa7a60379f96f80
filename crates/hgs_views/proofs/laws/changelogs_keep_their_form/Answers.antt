use Rattle.std.proofs.Common.{◌<◌, length, sym, ◌∙◌, arith}
use Rattle.hgs_model.specs.History.{history}
use Rattle.hgs_views.specs.Course.{IsBetween}
use Rattle.hgs_views.proofs.Basics.{prefix-trans}
use Rattle.hgs_views.proofs.CourseLemmas.{itself-between}
use Rattle.hgs_views.proofs.LoadLemmas.{below, form-at}
use Rattle.hgs_views.proofs.laws.changelogs_keep_their_form.Goals as goal

pub returns : goal.returns
returns c x first last log is some at =
    let c_first = x.published first in
    let here : IsBetween first last first = itself-between first last (prefix-trans first log last at.begins at.ends) in
    let count = c.changelog_is_whole.ensures.count (x.repo c_first) (is.repository c_first (below x first last is first here)) in
    let held : 0 < length (history (x.repo c_first).changesets).changelog = omega (arith, some, count) in
    let up = (is.rises first log here at).published in
    form-at x first last is log c_first at up held ∙ sym (form-at x first last is first c_first here (omega arith) held)
