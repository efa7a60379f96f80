use Rattle.std.proofs.Common.{◌≡◌, false, ap, subst}
use Rattle.hgs_findings.specs.Reading.{sight_of}
use Rattle.hgs_findings.specs.Regular.{used_paths}
use Rattle.hgs_judge.specs.Report.{findings_in}
use Rattle.hgs_load.specs.Whole.{is_above}
use Rattle.hgs_report.specs.Adds.{Adds}
use Rattle.hgs_report.specs.Parts.{AreParts, IsOfCalls}
use Rattle.hgs_report.specs.Store.{IsStoreOf}
use Rattle.hgs_stands.specs.Places.{fncache_path}
use Rattle.hgs_verify.specs.Refusal.{HaveShortTexts, PartsKeepLimits, PathsKeepLimits, most_fncache}
use Rattle.hgs_verify.specs.Report.{AddsBeside, AddsPaths, AddsSmall}
use Rattle.hgs_verify.proofs.FileLemmas.{two-looks}
use Rattle.hgs_verify.proofs.report.gather.Goals as goal

pub returns-clause-parts : goal.returns-clause-parts
returns-clause-parts g c = λ alone.
    let keys = c.args.used.keys in
    let store = c.args.store.now in
    let none = findings_in c.new-found.result.items in
    let called = findings_in c.add_calls.new.into.items in
    let read = findings_in c.add_store.new.into.items in
    let tracked = findings_in c.add_small.new.into.items in
    let used = findings_in c.add_listed.new.into.items in
    let all = findings_in c.add_paths.new.into.items in
    let one = c.in_ok-add_calls.ensures in
    let two = c.in_ok-add_small.ensures in
    let three = c.in_ok-add_listed.ensures in
    let four = c.in_ok-add_paths.ensures in
    let small = two-looks (g.R.Reads.seen c.add_calls.new.files) (g.R.Reads.seen c.add_small.new.files) (g.R.Reads.start c.add_calls.new.files) (g.R.Reads.start c.add_small.new.files)
    (λ t. Adds t (IsOfCalls t) none called) (λ t. IsStoreOf store t → AddsSmall t read tracked) (λ t. Adds t (IsOfCalls t) none called × (IsStoreOf store t → AddsSmall t read tracked))
    (two.still alone) two.same_start (λ t p q. (p, q)) (one.added alone) (two.added alone) in
    let listed = two-looks (g.R.Reads.seen c.add_small.new.files) (g.R.Reads.seen c.add_listed.new.files) (g.R.Reads.start c.add_small.new.files) (g.R.Reads.start c.add_listed.new.files)
    (λ t. Adds t (IsOfCalls t) none called × (IsStoreOf store t → AddsSmall t read tracked)) (λ t. keys ≡ used_paths (sight_of t) → AddsBeside t tracked used)
    (λ t. (Adds t (IsOfCalls t) none called × (IsStoreOf store t → AddsSmall t read tracked)) × (keys ≡ used_paths (sight_of t) → AddsBeside t tracked used))
    (three.still alone) three.same_start (λ t p q. (p, q)) small (three.added alone) in
    two-looks (g.R.Reads.seen c.add_listed.new.files) (g.R.Reads.seen c.add_paths.new.files) (g.R.Reads.start c.add_listed.new.files) (g.R.Reads.start c.add_paths.new.files)
    (λ t. (Adds t (IsOfCalls t) none called × (IsStoreOf store t → AddsSmall t read tracked)) × (keys ≡ used_paths (sight_of t) → AddsBeside t tracked used)) (λ t. IsStoreOf store t → keys ≡ used_paths (sight_of t) → AddsPaths t used all)
    (λ t. IsStoreOf store t → keys ≡ used_paths (sight_of t) → AreParts t all)
    (four.still alone) four.same_start
    (λ t p q is same.
    let s = p.0.1 is in
    let b = p.1 same in
    let w = q is same in
    record {
      called = called;
      read = read;
      rooted = s.rooted;
      marked = s.marked;
      tracked = tracked;
      named = b.named;
      used = used;
      judged = w.judged;
      calls = subst (λ l. Adds t (IsOfCalls t) l called) (ap findings_in c.new-found.ensures.items) p.0.0;
      store = c.in_ok-add_store.ensures t is;
      roots = s.roots;
      bookmarks = s.bookmarks;
      dirstate = s.dirstate;
      names = b.names;
      unused = b.unused;
      paths = w.paths;
      lists = w.lists;
    })
    listed (four.added alone)

pub returns-clause-limits : goal.returns-clause-limits
returns-clause-limits g c = λ alone.
    let keys = c.args.used.keys in
    let small = c.in_ok-add_small.ensures in
    let listed = c.in_ok-add_listed.ensures in
    let paths = c.in_ok-add_paths.ensures in
    two-looks (g.R.Reads.seen c.add_listed.new.files) (g.R.Reads.seen c.add_paths.new.files) (g.R.Reads.start c.add_listed.new.files) (g.R.Reads.start c.add_paths.new.files)
    (λ t. HaveShortTexts t × (is_above most_fncache (t fncache_path) ≡ false)) (PathsKeepLimits keys) (λ t. keys ≡ used_paths (sight_of t) → PartsKeepLimits t)
    (paths.still alone) paths.same_start (λ t p q used. record { texts = p.0; names = p.1; paths = subst (λ l. PathsKeepLimits l t) used q })
    (two-looks (g.R.Reads.seen c.add_small.new.files) (g.R.Reads.seen c.add_listed.new.files) (g.R.Reads.start c.add_small.new.files) (g.R.Reads.start c.add_listed.new.files)
    HaveShortTexts (λ t. is_above most_fncache (t fncache_path) ≡ false) (λ t. HaveShortTexts t × (is_above most_fncache (t fncache_path) ≡ false))
    (listed.still alone) listed.same_start (λ t p q. (p, q)) (small.short alone) (listed.short alone))
    (paths.limits alone)
