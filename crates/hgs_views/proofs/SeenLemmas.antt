-- What a view shows is a repository.
use Rattle.std.proofs.Common.{◌≡◌, ℕ, zero, suc, ◌<◌, ◌≤◌, List, [], ◌∷◌, ◌++◌, length, take, drop, map, Some, None, Option, Result, Ok, Err, refl, sym, ◌∙◌, ap, subst, inl, inr, arith, append-nil, length-append, true, false, Bool}
use Rattle.std.specs.Prelude.{IfSome, slice_get, slice_index, ⊤}
use Rattle.std.specs.Bool.{MatchBool}
use Rattle.std.proofs.lemmas.List.{length-take-le, take-append-drop}
use Rattle.std.proofs.lemmas.Option.{slice_get_within}
use Rattle.std.proofs.lemmas.List.{length-map}
use Rattle.hgs_bytes.specs.Bytes.{IsPrefixOf}
use Rattle.hgs_files.specs.declared.op.Op.{Op}
use Rattle.hgs_files.specs.Tree.{Tree, bytes_at}
use Rattle.hgs_index.specs.declared.entry.Entry.{Entry}
use Rattle.hgs_index.specs.Revision.{Parents, Revision}
use Rattle.hgs_model.specs.History.{history, changeset_nodes}
use Rattle.hgs_model.specs.IsRepo.{IsRepo, IsPhase, phase_at}
use Rattle.hgs_model.specs.Names.{named as model_named}
use Rattle.hgs_model.specs.Repo.{Repo, Changeset, Bookmark, all_parents}
use Rattle.hgs_revlog.specs.Held.{Agrees}
use Rattle.hgs_revlog.specs.Log.{nodes_of}
use Rattle.hgs_load.specs.declared.answer.ReadAnswer.{ReadAnswer}
use Rattle.hgs_load.specs.Answer.{is_of_outside}
use Rattle.hgs_load.specs.Asks.{Asks, MayAnswer, Answers, AddsAnswer, AddsGiven}
use Rattle.hgs_load.specs.Load.{Refreshes}
use Rattle.hgs_reader.specs.Names.{named}
use Rattle.hgs_load.specs.Open.{open_asks}
use Rattle.hgs_load.specs.Refresh.{refresh_asks}
use Rattle.hgs_load.specs.View.{View}
use Rattle.hgs_stands.specs.Places.{changelog_index, changelog_data}
use Rattle.hgs_stands.specs.Stands.{mark_of}
use Rattle.hgs_stands.specs.Theorems.FormLemmas.{apart-held}
use Rattle.hgs_shown.specs.Shown.{IsViewOf, IsViewOver, chunks_of_changelog, index_of_changelog, shown_repo}
use Rattle.hgs_views.specs.Course.{Course, IsCourse, OpensAlong}
use Rattle.hgs_views.specs.Answered.{OnlyAnswers}
use Rattle.hgs_views.specs.Seen.{Numbers, IsViewAt, AreInOrder, IsLoadedBetween, NoneFell, Given, Refreshed, seen}
use Rattle.hgs_views.proofs.Basics.{all-map, either, may-front, slice_get-front}
use Rattle.hgs_views.proofs.CourseLemmas.{itself-between}
use Rattle.hgs_views.proofs.LoadLemmas.{opened-along}
use Rattle.hgs_views.proofs.RefreshLemmas.{refreshed-along}
use Rattle.hgs_views.proofs.Below.{BeforeLaw, CountLaw, LoadLaws, NodesLaw}

-- ---- phases of a front

index-front : (xs ys : List ℕ) (i : ℕ) → i < length xs → slice_index (xs ++ ys) i ≡ slice_index xs i
index-front [] ys i lt = absurd (omega (arith, lt))
index-front (x ∷ xs) ys zero lt = refl
index-front (x ∷ xs) ys (suc i) lt = index-front xs ys i (omega (arith, lt))

phase-front : (xs ys : List ℕ) (o : Option ℕ) → IfSome o (λ i. i < length xs) → phase_at (xs ++ ys) o ≡ phase_at xs o
phase-front xs ys None lt = refl
phase-front xs ys (Some i) lt = index-front xs ys i lt

parent-low : (h : List Parents) (o : Option ℕ) (rev n : ℕ) → rev < n → ((q : ℕ) → o ≡ Some q → q < rev) → IfSome o (λ i. i < n)
parent-low h None rev n lt below = tt
parent-low h (Some q) rev n lt below = let less = below q refl in omega (arith, less, lt)

parents-front : (xs ys : List Changeset) → IsPrefixOf xs ys → IsPrefixOf (all_parents xs) (all_parents ys)
parents-front xs ys p = (map (λ (c : Changeset). c.parents) p.0, ap all_parents p.1 ∙ joined xs p.0)
  where
    joined : (xs ys : List Changeset) → all_parents (xs ++ ys) ≡ all_parents xs ++ all_parents ys
    joined [] ys = refl
    joined (x ∷ xs) ys = ap (λ l. x.parents ∷ l) (joined xs ys)

some-low : (o : Option ℕ) (m n : ℕ) → m ≤ n → IfSome o (λ i. i < m) → IfSome o (λ i. i < n)
some-low None m n le lt = tt
some-low (Some i) m n le lt = omega (arith, le, lt)

pub longer : {A : Type 0} (xs ys : List A) → IsPrefixOf xs ys → length xs ≤ length ys
longer xs ys p = let e = ap length p.1 in let l = length-append xs p.0 in omega (arith, e, l)

-- changesets of one, phases of a later one, bookmarks and working parents of earlier ones
pub mixed-repo : BeforeLaw → (b w r s : Repo) → IsRepo b → IsRepo w → IsRepo r → IsRepo s → IsPrefixOf b.changesets r.changesets → IsPrefixOf w.changesets r.changesets → IsPrefixOf r.changesets s.changesets
    → IsRepo (record { changesets = r.changesets; phases = take (length r.changesets) s.phases; bookmarks = b.bookmarks; working = w.working })
mixed-repo before_law b w r s b_is w_is is s_is b_on w_on on =
    let n = length r.changesets in
    let front = take n s.phases in
    let size : length front ≡ n = length-take-le n s.phases (let le = longer r.changesets s.changesets on in let c = s_is.phase_count in omega (arith, le, c)) in
    record {
      parents = is.parents;
      changesets = is.changesets;
      phase_count = size;
      phases = λ rev p e. one rev p e size;
      marks_ordered = b_is.marks_ordered;
      marks = all-map (λ (m : Bookmark). m.rev < length b.changesets) (λ (m : Bookmark). m.rev < length r.changesets) b.bookmarks (λ m lt. let le = longer b.changesets r.changesets b_on in omega (arith, le, lt)) b_is.marks;
      first_working = some-low w.working.0 (length w.changesets) n (longer w.changesets r.changesets w_on) w_is.first_working;
      second_working = some-low w.working.1 (length w.changesets) n (longer w.changesets r.changesets w_on) w_is.second_working;
    }
  where
    one : (rev : ℕ) (p : Parents) → slice_get (all_parents r.changesets) rev ≡ Some p → length (take (length r.changesets) s.phases) ≡ length r.changesets
        → IsPhase (take (length r.changesets) s.phases) p (slice_index (take (length r.changesets) s.phases) rev)
    one rev p e size =
        let front = take (length r.changesets) s.phases in
        let back = drop (length r.changesets) s.phases in
        let whole : front ++ back ≡ s.phases = take-append-drop (length r.changesets) s.phases in
        let h = all_parents r.changesets in
        let lt : rev < length front = (let within = slice_get_within h rev p e in let l = length-map r.changesets (λ (c : Changeset). c.parents) in omega (arith, within, l, size)) in
        let k = s_is.phases rev p (slice_get-front h (all_parents s.changesets) (parents-front r.changesets s.changesets on) rev p e) in
        let at : slice_index s.phases rev ≡ slice_index front rev = ap (λ l. slice_index l rev) (sym whole) ∙ index-front front back rev lt in
        let first_at : phase_at s.phases p.0 ≡ phase_at front p.0 = ap (λ l. phase_at l p.0) (sym whole) ∙ phase-front front back p.0 (parent-low h p.0 rev (length front) lt (λ q is_it. before_law h rev q is.parents (p, e, inl is_it))) in
        let second_at : phase_at s.phases p.1 ≡ phase_at front p.1 = ap (λ l. phase_at l p.1) (sym whole) ∙ phase-front front back p.1 (parent-low h p.1 rev (length front) lt (λ q is_it. before_law h rev q is.parents (p, e, inr is_it))) in
        record {
          most = (let m = k.most in omega (arith, m, at));
          first = (let m = k.first in omega (arith, m, at, first_at));
          second = (let m = k.second in omega (arith, m, at, second_at));
        }

-- ---- the view

pub record IsSeen (x : Course) (v : Numbers) (view : View) : Type 0 where
  pub repository : IsRepo (seen x v)
  pub is_view : IsViewOf view (x.store v.read) (seen x v)
  pub names : (name : List ℕ) → named view name ≡ model_named (seen x v) name
  pub count : length view.changelog.entries ≡ length (x.repo v.read).changesets
  pub nodes : nodes_of view.changelog.entries ≡ changeset_nodes (x.repo v.read).changesets

-- what a view shows
abbrev pub NamesLaw : Type 0
NamesLaw = (t : Tree) (marked worked r : Repo) (view : View) (name : List ℕ) → IsRepo marked → IsRepo r → IsPrefixOf marked.changesets r.changesets → IsViewOver view t marked worked r → named view name ≡ model_named (shown_repo marked worked r) name

-- older bookmarks have the same nodes in what follows
abbrev pub MarksLaw : Type 0
MarksLaw = (marked r : Repo) → IsRepo marked → IsPrefixOf marked.changesets r.changesets → map (mark_of (changeset_nodes marked.changesets)) marked.bookmarks ≡ map (mark_of (changeset_nodes r.changesets)) marked.bookmarks

-- what the view of a repository needs
pub record SeenLaws : Type 0 where
  pub names : NamesLaw
  pub marks : MarksLaw
  pub nodes : NodesLaw
  pub entries : (index data_bytes : List ℕ) (entries : List Entry) (revisions : List Revision) → Agrees index data_bytes entries revisions → length entries ≡ length revisions
  pub count : CountLaw
  pub before : BeforeLaw

pub seen-by : SeenLaws → (x : Course) (first last : List Op) (v : Numbers) (view : View) → IsCourse x first last → AreInOrder x first last v → IsViewAt x v view → IsSeen x v view
seen-by law x first last v view is o at =
    let p_low : v.rooted ≤ x.published last = o.rooted_last in
    let c_low : v.read ≤ x.published last = (let a = o.read_rooted in omega (arith, a, p_low)) in
    let w_low : v.worked ≤ x.published last = (let a = o.worked_read in omega (arith, a, c_low)) in
    let b_le : v.marked ≤ v.read = (let a = o.marked_worked in let b = o.worked_read in omega (arith, a, b)) in
    let b_low : v.marked ≤ x.published last = omega (arith, b_le, c_low) in
    let b = x.repo v.marked in
    let r = x.repo v.read in
    let b_is = is.repository v.marked b_low in
    let r_is = is.repository v.read c_low in
    let b_on = is.goes_on v.marked v.read b_le c_low in
    let repo_is : IsRepo (seen x v) = mixed-repo law.before b (x.repo v.worked) r (x.repo v.rooted) b_is (is.repository v.worked w_low) r_is (is.repository v.rooted p_low) b_on (is.goes_on v.worked v.read o.worked_read c_low) (is.goes_on v.read v.rooted o.read_rooted p_low) in
    let store = index_of_changelog (x.store v.read) in
    let chunks = chunks_of_changelog (x.store v.read) in
    let revisions = (history r.changesets).changelog in
    let marks = at.bookmarks ∙ law.marks b r b_is b_on in
    let held = apart-held (bytes_at (x.store v.read) changelog_index) (bytes_at (x.store v.read) changelog_data) revisions (is.holds v.read c_low).changelog in
    let over : IsViewOver view (x.store v.read) b (x.repo v.worked) (seen x v) = record {
      begins = record { index_front = store; data_front = chunks; held = held; index_begins = ([], sym (append-nil store)); data_begins = ([], sym (append-nil chunks)) };
      entries = at.entries;
      bookmarks = at.bookmarks;
      working = at.working;
      phases = at.phases;
    } in
    let count = law.entries store chunks view.changelog.entries revisions at.entries ∙ law.count r r_is in
    record {
      repository = repo_is;
      is_view = record { entries = at.entries; bookmarks = marks; working = at.working; phases = at.phases };
      names = λ name. law.names (x.store v.read) b (x.repo v.worked) (seen x v) view name b_is repo_is b_on over;
      count = count;
      nodes = law.nodes store chunks view.changelog.entries revisions at.entries;
    }

-- ---- results of calls

ok_is : (a b : View) → (let r : Result View ReadAnswer = Ok a in r) ≡ Ok b → b ≡ a
ok_is a b e = cc

no_ok : (e : ReadAnswer) (b : View) → (let r : Result View ReadAnswer = Err e in r) ≡ Ok b → ⊥
no_ok e b h = cc

pub given-ok : (Has : View → Type 0) (view : View) → (view_there : View) × ((let r : Result View ReadAnswer = Ok view in r) ≡ Ok view_there) × Has view_there → Has view
given-ok Has view g = subst Has (ok_is view g.0 g.1) g.2

pub given-err : (Has : View → Type 0) (e : ReadAnswer) (P : Type 0) → MatchBool (is_of_outside e) ⊤ P → (P → (view : View) × ((let r : Result View ReadAnswer = Err e in r) ≡ Ok view) × Has view) → is_of_outside e ≡ true
given-err Has e P m f = by (is_of_outside e) m refl
  where
    by : (b : Bool) → MatchBool b ⊤ P → is_of_outside e ≡ b → is_of_outside e ≡ true
    by true m is = is
    by false m is = let g = f m in absurd (no_ok e g.0 g.1)

pub opened-call : LoadLaws → (x : Course) (first last : List Op) (r : Result View ReadAnswer) → IsCourse x first last → OpensAlong x first last → Answers (λ session. session) (Some first) x.start (Some last) open_asks r → Given (λ view. (v : Numbers) × IsLoadedBetween x first last v view) r
opened-call law x first last r is opens h = by r h
  where
    view-of : (y : Result View ReadAnswer) → MayAnswer x.start first open_asks last y → (view : View) × (y ≡ Ok view) × ((v : Numbers) × IsLoadedBetween x first last v view)
    view-of y m = let o = opened-along law x first last is opens first y (itself-between first last (may-front open_asks x.start first last y m)) m in (o.1, o.2, (o.0, o.3))

    by : (r : Result View ReadAnswer) → Answers (λ session. session) (Some first) x.start (Some last) open_asks r → Given (λ view. (v : Numbers) × IsLoadedBetween x first last v view) r
    by (Ok view) h = given-ok (λ view. (v : Numbers) × IsLoadedBetween x first last v view) view (view-of (Ok view) h)
    by (Err e) h = given-err (λ view. (v : Numbers) × IsLoadedBetween x first last v view) e (MayAnswer x.start first open_asks last (Err e)) h (view-of (Err e))

pub refreshed-call : LoadLaws → (x : Course) (began ended first last : List Op) (v : Numbers) (old : View) (r : Result View ReadAnswer) → IsCourse x began last → OpensAlong x first last → IsLoadedBetween x began ended v old → IsPrefixOf ended first → Answers (λ session. session) (Some first) x.start (Some last) (refresh_asks old) r
    → Given (λ view. (w : Numbers) × IsLoadedBetween x first last w view × NoneFell v w) r
refreshed-call law x began ended first last v old r is opens loaded then h = by r h
  where
    view-of : (y : Result View ReadAnswer) → MayAnswer x.start first (refresh_asks old) last y → (view : View) × (y ≡ Ok view) × ((w : Numbers) × IsLoadedBetween x first last w view × NoneFell v w)
    view-of y m = let o = refreshed-along x began last is law ended first v old y loaded then opens m in (o.1, o.2, (o.0, o.3, o.4))

    by : (r : Result View ReadAnswer) → Answers (λ session. session) (Some first) x.start (Some last) (refresh_asks old) r → Given (λ view. (w : Numbers) × IsLoadedBetween x first last w view × NoneFell v w) r
    by (Ok view) h = given-ok (λ view. (w : Numbers) × IsLoadedBetween x first last w view × NoneFell v w) view (view-of (Ok view) h)
    by (Err e) h = given-err (λ view. (w : Numbers) × IsLoadedBetween x first last w view × NoneFell v w) e (MayAnswer x.start first (refresh_asks old) last (Err e)) h (view-of (Err e))

pub refreshed-session : LoadLaws → (x : Course) (began ended first last : List Op) (v : Numbers) (old new : View) (r : Result Unit ReadAnswer) → IsCourse x began last → OpensAlong x first last → IsLoadedBetween x began ended v old → IsPrefixOf ended first → Refreshes (Some first) x.start (Some last) (refresh_asks old) old new r
    → Refreshed (λ view. (w : Numbers) × IsLoadedBetween x first last w view × NoneFell v w) old new r
refreshed-session law x began ended first last v old new r is opens loaded then h = by r h
  where
    view-of : (y : Result View ReadAnswer) → MayAnswer x.start first (refresh_asks old) last y → (view : View) × (y ≡ Ok view) × ((w : Numbers) × IsLoadedBetween x first last w view × NoneFell v w)
    view-of y m = let o = refreshed-along x began last is law ended first v old y loaded then opens m in (o.1, o.2, (o.0, o.3, o.4))

    by : (r : Result Unit ReadAnswer) → Refreshes (Some first) x.start (Some last) (refresh_asks old) old new r → Refreshed (λ view. (w : Numbers) × IsLoadedBetween x first last w view × NoneFell v w) old new r
    by (Ok u) h = given-ok (λ view. (w : Numbers) × IsLoadedBetween x first last w view × NoneFell v w) new (view-of (Ok new) h)
    by (Err e) h = (h.0, given-err (λ view. (w : Numbers) × IsLoadedBetween x first last w view × NoneFell v w) e (MayAnswer x.start first (refresh_asks old) last (Err e)) h.1 (view-of (Err e)))

-- ---- calls that add a text

pub adds-only : (x : Course) (first from to last : List Op) (q : Asks (Result (List ℕ) ReadAnswer)) (z : Result (List ℕ) ReadAnswer) (old new : List ℕ) (r : Result Unit ReadAnswer) → OnlyAnswers x first last q z → IsPrefixOf first from → IsPrefixOf to last
    → AddsAnswer (Some from) x.start (Some to) q old new r → AddsGiven z old new r
adds-only x first from to last q z old new (Ok u) only p on h = (h.0, h.1, sym (only from to (Ok h.0) p on h.2))
adds-only x first from to last q z old new (Err e) only p on h = (h.0, either (is_of_outside e) (MayAnswer x.start from q to (Err e)) (z ≡ Err e) (λ m. sym (only from to (Err e) p on m)) h.1)
