-- The files that a commit replaces.
use Rattle.std.proofs.Common.{◌≡◌, ℕ, zero, suc, List, [], ◌∷◌, ◌++◌, Bool, true, false, ◌||◌, not, nat_lt, cond, length, map, refl, sym, ◌∙◌, ap, subst, arith}
use Rattle.std.specs.Prelude.{◌<◌, Some, None, slice_index_or}
use Rattle.std.specs.Cmp.Lexicographic.{slice_cmp}
use Rattle.std.specs.List.{AllByRecursion}
use Rattle.std.specs.Ordering.{match_ordering, nat_cmp}
use Rattle.std.specs.declared.cmp.Ordering.{Ordering}
use Rattle.std.specs.declared.cmp.Ordering.TheVariants.{Less, Equal, Greater}
use Rattle.std.proofs.lemmas.List.{length-map}
use Rattle.hgs_bytes.specs.Bytes.{IsPrefixOf, same}
use Rattle.hgs_files.specs.Tree.{Tree}
use Rattle.hgs_index.specs.declared.entry.Entry.{Entry}
use Rattle.hgs_index.specs.Node.{null_node}
use Rattle.hgs_index.specs.Revision.{Parents, parent_node}
use Rattle.hgs_marks.specs.Bookmarks.{Mark as NodeMark, bookmarks_text, with_mark as with_node}
use Rattle.hgs_marks.specs.Dirstate.{dirstate_text}
use Rattle.hgs_model.specs.History.{changeset_nodes}
use Rattle.hgs_model.specs.IsRepo.{IsRepo}
use Rattle.hgs_model.specs.Phase.{phase_number}
use Rattle.hgs_model.specs.Repo.{Bookmark, Repo, all_parents, tracked_paths}
use Rattle.hgs_model.specs.Step.{with_mark}
use Rattle.hgs_model.specs.declared.phase.Phase.{Phase}
use Rattle.hgs_ops.specs.Replaced.{dirstate_with, marks_with, new_bookmarks, new_dirstate, new_roots, roots_change, roots_of, roots_with}
use Rattle.hgs_phases.specs.Phases.{history_of}
use Rattle.hgs_load.specs.Marks.{most_bookmarks}
use Rattle.hgs_revlog.specs.Log.{nodes_of}
use Rattle.hgs_stands.specs.Stands.{Stands, mark_of as node_mark}
use Rattle.hgs_steps.specs.declared.loaded.Loaded.{Loaded}
use Rattle.hgs_steps.specs.Below.{Below}
use Rattle.hgs_steps.specs.Planned.{HoldsRepository, IsLoadedOf, IsReplacedBy, IsReplacedWhere, passes_limit}
use Rattle.hgs_steps.specs.Steps.{are_too_many, dirstate_replacing, marked, marks_replacing, phases_text, roots_replaced, roots_replacing}
use Rattle.hgs_steps.proofs.AnswerLemmas.{count-same, roots-same}
use Rattle.hgs_steps.proofs.Basics.{never}
use Rattle.hgs_steps.proofs.ViewLemmas.{room}

pub roots-where : (laws : Below) (t : Tree) (r next : Repo) (l : Loaded) (phases : List Phase) (entries : List Entry) → Stands t r → IsLoadedOf t l → HoldsRepository l r → IsRepo next → nodes_of entries ≡ changeset_nodes next.changesets → history_of entries ≡ all_parents next.changesets → map phase_number phases ≡ next.phases
    → IsReplacedWhere t (roots_change r next) (new_roots next) (roots_replaced l (phases_text phases entries))
roots-where laws t r next l phases entries s h is next_is n p numbers = by (same (roots_of r) (roots_of next)) (same (phases_text l.phases l.changelog.entries) (phases_text phases entries)) (λ i. same (before i) (after i))
  where
    before : phases_text l.phases l.changelog.entries ≡ roots_of r
    before = roots-same laws r l.phases l.changelog.entries is.nodes (is.parents ∙ sym (laws.parents r s.repository)) is.phases

    after : phases_text phases entries ≡ roots_of next
    after = roots-same laws next phases entries n (p ∙ sym (laws.parents next next_is)) numbers

    by : (x y : Bool) → y ≡ x → IsReplacedWhere t (not x) (new_roots next) (cond y None (Some (roots_replacing l (phases_text phases entries))))
    by true true e = refl
    by false false e = (refl, record { text = λ i. roots_with (after i); standing = h.standing_roots })
    by true false e = never (sym e)
    by false true e = never e

-- ---- bookmarks

node-stays : (known all : List (List ℕ)) (rev : ℕ) → IsPrefixOf known all → rev < length known → slice_index_or known rev null_node ≡ slice_index_or all rev null_node
node-stays known all rev p low = front known p.0 rev low ∙ ap (λ (nodes : List (List ℕ)). slice_index_or nodes rev null_node) (sym p.1)
  where
    front : (xs ys : List (List ℕ)) (i : ℕ) → i < length xs → slice_index_or xs i null_node ≡ slice_index_or (xs ++ ys) i null_node
    front [] ys i lt = absurd (omega (arith, lt))
    front (x ∷ xs) ys zero lt = refl
    front (x ∷ xs) ys (suc i) lt = front xs ys i (omega (arith, lt))

marks-stay : (known all : List (List ℕ)) (marks : List Bookmark) → IsPrefixOf known all → AllByRecursion (λ (m : Bookmark). m.rev < length known) marks → map (node_mark known) marks ≡ map (node_mark all) marks
marks-stay known all [] p low = refl
marks-stay known all (m ∷ marks) p low =
    let node = node-stays known all m.rev p low.0 in
    λ i. record { name = m.name; node = node i } ∷ marks-stay known all marks p low.1 i

pub marks-replaced : (laws : Below) (t : Tree) (r next : Repo) (l : Loaded) (name : List ℕ) (rev : ℕ) → Stands t r → IsLoadedOf t l → HoldsRepository l r → IsPrefixOf r.changesets next.changesets → next.bookmarks ≡ with_mark r.bookmarks name rev
    → IsReplacedBy t (new_bookmarks next) (marks_replacing l (marked l name (slice_index_or (changeset_nodes next.changesets) rev null_node)))
marks-replaced laws t r next l name rev s h is goes_on e = record { text = λ i. marks_with (bookmarks_text (marks i)); standing = h.standing_bookmarks }
  where
    known : List (List ℕ)
    known = changeset_nodes r.changesets

    all : List (List ℕ)
    all = changeset_nodes next.changesets

    low : AllByRecursion (λ (m : Bookmark). m.rev < length known) r.bookmarks
    low = subst (λ (n : ℕ). AllByRecursion (λ (m : Bookmark). m.rev < n) r.bookmarks) (room laws r s.repository) s.repository.marks

    stay : l.bookmarks ≡ map (node_mark all) r.bookmarks
    stay = is.bookmarks ∙ marks-stay known all r.bookmarks (laws.nodes_go_on r.changesets next.changesets goes_on) low

    marks : marked l name (slice_index_or all rev null_node) ≡ map (node_mark all) next.bookmarks
    marks =
        ap (λ (ms : List NodeMark). with_node ms (record { name = name; node = slice_index_or all rev null_node })) stay
        ∙ sym (laws.set all r.bookmarks name rev) ∙ ap (map (node_mark all)) (sym e)

-- how many bookmarks there are with one set does not depend on its node
count-with : (marks : List NodeMark) (name a b : List ℕ) → length (with_node marks (record { name = name; node = a })) ≡ length (with_node marks (record { name = name; node = b }))
count-with [] name a b = refl
count-with (m ∷ marks) name a b = by (slice_cmp nat_cmp name m.name) (count-with marks name a b)
  where
    by : (o : Ordering) → length (with_node marks (record { name = name; node = a })) ≡ length (with_node marks (record { name = name; node = b }))
        → length (match_ordering o (record { name = name; node = a } ∷ m ∷ marks) (record { name = name; node = a } ∷ marks) (m ∷ with_node marks (record { name = name; node = a })))
        ≡ length (match_ordering o (record { name = name; node = b } ∷ m ∷ marks) (record { name = name; node = b } ∷ marks) (m ∷ with_node marks (record { name = name; node = b })))
    by Less rec = refl
    by Equal rec = refl
    by Greater rec = ap suc rec

pub commit-limit : (laws : Below) (r next : Repo) (l : Loaded) (name node : List ℕ) (rev : ℕ) → HoldsRepository l r → next.bookmarks ≡ with_mark r.bookmarks name rev → (are_too_many l.bookmarks || are_too_many (marked l name node)) ≡ passes_limit r next
commit-limit laws r next l name node rev is e = λ i. nat_lt most_bookmarks (count-same r l is i) || nat_lt most_bookmarks (after i)
  where
    known : List (List ℕ)
    known = changeset_nodes r.changesets

    after : length (marked l name node) ≡ length next.bookmarks
    after =
        ap (λ (ms : List NodeMark). length (with_node ms (record { name = name; node = node }))) is.bookmarks
        ∙ count-with (map (node_mark known) r.bookmarks) name node (slice_index_or known rev null_node)
        ∙ ap (λ (ms : List NodeMark). length ms) (sym (laws.set known r.bookmarks name rev))
        ∙ length-map (with_mark r.bookmarks name rev) (node_mark known) ∙ ap (λ (ms : List Bookmark). length ms) (sym e)

-- ---- the dirstate

pub dirstate-replaced : (t : Tree) (next : Repo) (l : Loaded) (rev : ℕ) → IsLoadedOf t l → next.working ≡ (Some rev, None) → IsReplacedBy t (new_dirstate next) (dirstate_replacing l (slice_index_or (changeset_nodes next.changesets) rev null_node) (tracked_paths next))
dirstate-replaced t next l rev h e = record { text = λ i. dirstate_with (dirstate_text (record { p1 = first i; p2 = second i; paths = tracked_paths next })); standing = h.standing_dirstate }
  where
    first : slice_index_or (changeset_nodes next.changesets) rev null_node ≡ parent_node (changeset_nodes next.changesets) next.working.0
    first = ap (λ (w : Parents). parent_node (changeset_nodes next.changesets) w.0) (sym e)

    second : null_node ≡ parent_node (changeset_nodes next.changesets) next.working.1
    second = ap (λ (w : Parents). parent_node (changeset_nodes next.changesets) w.1) (sym e)
