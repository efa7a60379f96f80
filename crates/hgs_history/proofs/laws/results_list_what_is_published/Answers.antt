use Rattle.std.proofs.Common.{ℕ, List, sym, subst}
use Rattle.std.specs.Prelude.{Option}
use Rattle.hgs_script.specs.declared.result.PublishedJob.{PublishedJob}
use Rattle.hgs_session.specs.Calls.{published_of}
use Rattle.hgs_history.specs.History.{ArePublished}
use Rattle.hgs_history.proofs.laws.results_list_what_is_published.Goals as goal

pub returns : goal.returns
returns c = λ x r calls last states result makes is stands first shares lists.
    let found = c.sessions_publish_what_they_list.ensures x r calls last makes stands first shares lists in
    let h = found.0 in (
      h,
      found.1,
      found.2,
      found.3,
      subst (λ (l : List PublishedJob). ArePublished x.jobs l result.unsure h.last.published) (sym is.published)
          (subst (λ (u : Option (ℕ × ℕ)). ArePublished x.jobs (published_of calls) u h.last.published) (sym is.unsure) found.4),
    )
