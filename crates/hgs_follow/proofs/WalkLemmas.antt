-- One source after the other.
use Rattle.std.proofs.Common.{◌≡◌, ◌<◌, ◌≤◌, ℕ, zero, suc, Bool, true, false, List, [], ◌∷◌, ◌++◌, append_assoc, append-nil, length, Option, Some, None, refl, sym, ◌∙◌, ap, subst, inl, inr, arith}
use Rattle.std.specs.Prelude.{◌==◌, ◌&&◌, slice_get, IsSome}
use mathlib.Core.Path.{fun_ext}
use Rattle.std.specs.BTreeMap.{is_at, Updates}
use Rattle.std.specs.Map.{lookup}
use Rattle.std.specs.Cmp.Lexicographic.{slice_cmp}
use Rattle.std.specs.Option.{is_some}
use Rattle.std.specs.Ordering.{nat_cmp}
use Rattle.hgs_bytes.specs.Bytes.{same}
use Rattle.hgs_bytes.specs.Theorems.ByteLemmas.{same-refl}
use Rattle.hgs_index.specs.Revision.{ParentsBefore}
use Rattle.hgs_revlog.specs.Loaded.{parents_in}
use Rattle.hgs_revlog.specs.Log.{place_of}
use Rattle.hgs_follow.specs.Asked.{Asked, loaded, same_at, AllOf, Chain}
use Rattle.hgs_follow.specs.Followed.{At, Filelogs, number_of, start}
use Rattle.hgs_follow.specs.Lines.{at_line, times_listed}
use Rattle.hgs_follow.specs.Search.{asked_of, bit, has, is_marked, is_marked_in, reached_at, sources_of, view_copied, Adds, AreHeld, GoesOn, Has, IsFound, IsHeld, IsReached, IsSearch, Logs, Searched, Takes, Text}
use Rattle.hgs_follow.specs.Source.{CopySource}
use Rattle.hgs_follow.specs.declared.filelogs.CopiedFrom.{CopiedFrom}
use Rattle.hgs_follow.specs.declared.filelogs.Filelog.{Filelog}
use Rattle.hgs_follow.specs.declared.line.Line.{Line}
use Rattle.hgs_follow.specs.declared.search.Finds.{Finds}
use Rattle.hgs_follow.specs.declared.search.Reached.{Reached}
use Rattle.hgs_follow.proofs.ChainLemmas.{chain_joined, chain_one}
use Rattle.hgs_follow.proofs.GraphLemmas.{dropped, stepped, taken}
use Rattle.hgs_follow.proofs.FollowedLemmas.{followed-least}
use Rattle.hgs_follow.proofs.ListLemmas.{false_is, get_there, none_is, number_same, same_number, some_is, there_counted, unmarked_in}
use Rattle.hgs_follow.proofs.MapLemmas.{by_path, tied}

-- ---- a map with something else at a path

pub record IsSet (old new : List ℕ → Option Reached) (path : List ℕ) (r : Reached) : Type 0 where
  pub here : new path ≡ Some r
  pub others : (q : List ℕ) → same path q ≡ false → new q ≡ old q

pub is_set : (old new : Logs) (path : List ℕ) (r : Reached) → Updates (slice_cmp nat_cmp) old new path (Some r) → IsSet (reached_at old) (reached_at new) path r
is_set old new path r u = record { here = u.1; others = λ q e. u.2 q (sym (tied path q) ∙ e) }

pub same_set : (old new : List ℕ → Option Reached) (path : List ℕ) (r : Reached) → old path ≡ Some r → IsSet old new path r → old ≡ new
same_set old new path r was set = fun_ext (λ q. by_path path q (λ e. ap old (sym e) ∙ was ∙ sym set.here ∙ ap new e) (λ e. sym (set.others q e)))

pub held_set : (holds : List ℕ → Filelog → Type 0) (old new : Logs) (path : List ℕ) (r again : Reached) → AreHeld holds old → reached_at old path ≡ Some r → IsSet (reached_at old) (reached_at new) path again → again.filelog ≡ r.filelog → length again.marks.items ≡ length r.marks.items → AreHeld holds new
held_set holds old new path r again held was set filelog size q x at_q = by_path path q
    (λ e. subst (λ k. IsHeld holds k x) e (subst (IsHeld holds path) (some_is again x (sym set.here ∙ ap (reached_at new) e ∙ at_q)) (let h = held path r was in record {
      of_path = subst (holds path) (sym filelog) h.of_path;
      size = size ∙ h.size ∙ ap (λ (f : Filelog). length f.log.entries) (sym filelog);
      earlier = subst (λ (f : Filelog). ParentsBefore 0 (parents_in f.log.entries)) (sym filelog) h.earlier;
    })))
    (λ e. held q x (sym (set.others q e) ∙ at_q))

-- ---- a filelog is loaded, where it was not

pub after_load : {S : Type 0} (gives : S → Asked → S → Type 0) (holds : List ℕ → Filelog → Type 0) (a b : S) (old new : Logs) (path : List ℕ) (begin : CopySource) (left : List CopySource) (lines : List Line) (asked : List Asked) → Takes gives holds a b old new path → IsSearch begin (reached_at old) left lines asked →
    (more : List Asked) × Chain gives a more b × IsSearch begin (reached_at new) left lines (asked ++ more)
after_load gives holds a b old new path begin left lines asked (inl (state, map_is, there)) s =
    ([], state, subst (λ l. IsSearch begin (reached_at new) left lines l) (sym (append-nil asked)) (subst (λ (m : Logs). IsSearch begin (reached_at m) left lines asked) map_is s))
after_load gives holds a b old new path begin left lines asked (inr t) s = (
  loaded path t.f.log.entries ∷ [],
  chain_one gives a (loaded path t.f.log.entries) b t.gave,
  taken begin (reached_at old) (reached_at new) path t.f t.put.reached left lines asked t.absent t.put.filelog
      (λ r. ap (λ m. has m r) t.put.marks ∙ unmarked_in (length t.f.log.entries) r) t.put.here t.put.others s,
)

-- it is loaded then
pub is_loaded : {S : Type 0} (gives : S → Asked → S → Type 0) (holds : List ℕ → Filelog → Type 0) (a b : S) (old new : Logs) (path : List ℕ) → Takes gives holds a b old new path → reached_at new path ≡ None → ⊥
is_loaded gives holds a b old new path (inl (state, map_is, there)) none = false_is (sym (ap is_some (ap (λ (m : Logs). reached_at m path) map_is ∙ none)) ∙ there)
is_loaded gives holds a b old new path (inr t) none = none_is t.put.reached (sym none ∙ t.put.here)

-- ---- one source

pub goes_by : {S : Type 0} (gives : S → Asked → S → Type 0) (holds : List ℕ → Filelog → Type 0) (a b c : S) (old mid new : Logs) (source : CopySource) (r again : Reached) (rev : ℕ) (was is : Finds) → Takes gives holds a b old mid source.path → reached_at mid source.path ≡ Some r → IsHeld holds source.path r →
    IsSet (reached_at mid) (reached_at new) source.path again → again.filelog ≡ r.filelog → place_of r.filelog.log.entries source.node ≡ Some rev → rev < length r.filelog.log.entries →
    ((texts : List Text) × Chain gives b (asked_of source.path texts) c × Searched r.filelog.log.entries rev r.marks.items again.marks.items texts × Adds source.path r.filelog.log.entries texts was is) → GoesOn gives a c old new source was is
goes_by gives holds a b c old mid new source r again rev was is takes there held set filelog place low (texts, chain, searched, adds) begin asked s =
    let first = after_load gives holds a b old mid source.path begin (sources_of was.sources.items ++ source ∷ []) was.lines.items asked takes s in
    let second = stepped begin source (reached_at mid) (reached_at new) (sources_of was.sources.items) was.lines.items adds.lines (asked ++ first.0) texts rev r again (record {
      search = first.2;
      was = there;
      is = set.here;
      others = set.others;
      filelog = filelog;
      size = held.size;
      place = place;
      low = low;
      searched = searched;
      are = adds.are;
    }) in (
      first.0 ++ asked_of source.path texts,
      chain_joined gives a b c first.0 (asked_of source.path texts) first.1 chain,
      subst (λ l. IsSearch begin (reached_at new) (sources_of is.sources.items) is.lines.items l) (append_assoc asked first.0 (asked_of source.path texts))
          (subst (λ l. IsSearch begin (reached_at new) (sources_of is.sources.items) l ((asked ++ first.0) ++ asked_of source.path texts)) (sym adds.lines_are)
          (subst (λ l. IsSearch begin (reached_at new) l (was.lines.items ++ adds.lines) ((asked ++ first.0) ++ asked_of source.path texts)) (sym adds.sources_are) second)),
    )

pub goes_past : {S : Type 0} (gives : S → Asked → S → Type 0) (holds : List ℕ → Filelog → Type 0) (a b : S) (old mid new : Logs) (source : CopySource) (r : Reached) (was : Finds) → Takes gives holds a b old mid source.path → reached_at mid source.path ≡ Some r → IsSet (reached_at mid) (reached_at new) source.path r → place_of r.filelog.log.entries source.node ≡ None →
    GoesOn gives a b old new source was was
goes_past gives holds a b old mid new source r was takes there set place begin asked s =
    let first = after_load gives holds a b old mid source.path begin (sources_of was.sources.items ++ source ∷ []) was.lines.items asked takes s in (
      first.0,
      first.1,
      subst (λ m. IsSearch begin m (sources_of was.sources.items) was.lines.items (asked ++ first.0)) (same_set (reached_at mid) (reached_at new) source.path r there set)
          (dropped begin source (reached_at mid) r (sources_of was.sources.items) was.lines.items (asked ++ first.0) there place first.2),
    )

pub takes_chain : {S : Type 0} (gives : S → Asked → S → Type 0) (holds : List ℕ → Filelog → Type 0) (a b : S) (old new : Logs) (path : List ℕ) → Takes gives holds a b old new path → (asked : List Asked) × Chain gives a asked b
takes_chain gives holds a b old new path (inl (state, map_is, there)) = ([], state)
takes_chain gives holds a b old new path (inr t) = (loaded path t.f.log.entries ∷ [], chain_one gives a (loaded path t.f.log.entries) b t.gave)

-- ---- one after the other

pub record Underway {S : Type 0} (gives : S → Asked → S → Type 0) (holds : List ℕ → Filelog → Type 0) (begin : CopySource) (a b : S) (logs : Logs) (finds : Finds) : Type 0 where
  pub asked : List Asked
  pub chain : Chain gives a asked b
  pub search : IsSearch begin (reached_at logs) (sources_of finds.sources.items) finds.lines.items asked
  pub held : AreHeld holds logs

pub begins : {S : Type 0} (gives : S → Asked → S → Type 0) (holds : List ℕ → Filelog → Type 0) (begin : CopySource) (a : S) (logs : Logs) (finds : Finds) → logs.entries ≡ [] → sources_of finds.sources.items ≡ begin ∷ [] → finds.lines.items ≡ [] → Underway gives holds begin a a logs finds
begins gives holds begin a logs finds bare one none = record {
  asked = [];
  chain = refl;
  search = subst (λ l. IsSearch begin (reached_at logs) l finds.lines.items []) (sym one) (subst (λ l. IsSearch begin (reached_at logs) (begin ∷ []) l []) (sym none) (record {
    loaded = λ path. ap (λ o. bit (is_some o)) (sym (empty path));
    told = λ x. sym (ap bit (unmarked x));
    listed = λ x. refl;
    say = λ files h i l e. absurd (none_is l e);
    known = λ files h path r e. absurd (none_is r (sym (empty path) ∙ e));
    sound = λ files h x m. false_is (sym (unmarked x) ∙ m);
    meant = λ files h s rev there e. by_source files s rev there e;
    closed = λ files h b c m before. false_is (sym (unmarked b) ∙ m);
    begun = λ files h rev e. inr (0, refl);
  }));
  held = λ path r e. absurd (none_is r (sym (empty path) ∙ e));
}
  where
    empty : (path : List ℕ) → reached_at logs path ≡ None
    empty path = ap (lookup (is_at (slice_cmp nat_cmp path))) bare

    unmarked : (x : At) → is_marked (reached_at logs) x ≡ false
    unmarked x = ap (λ o. is_marked_in o x.rev) (empty x.path)

    named : (files : Filelogs) (rev : ℕ) → number_of files begin ≡ Some rev → IsReached files begin (record { path = begin.path; rev = rev })
    named files rev e = record { rev = rev; named = e; followed = start }

    by_source : (files : Filelogs) (s : CopySource) (rev : ℕ) → Has (begin ∷ []) s → number_of files s ≡ Some rev → IsReached files begin (record { path = s.path; rev = rev })
    by_source files s rev (zero, is) e =
        let same_s = some_is begin s is in
        subst (λ (x : CopySource). IsReached files begin (record { path = x.path; rev = rev })) same_s (named files rev (ap (number_of files) same_s ∙ e))
    by_source files s rev (suc i, is) e = absurd (none_is s is)

sources_more : (left : List CopiedFrom) (x : CopiedFrom) → sources_of (left ++ x ∷ []) ≡ sources_of left ++ view_copied x ∷ []
sources_more [] x = refl
sources_more (y ∷ left) x = ap (λ l. view_copied y ∷ l) (sources_more left x)

pub goes_further : {S : Type 0} (gives : S → Asked → S → Type 0) (holds : List ℕ → Filelog → Type 0) (begin : CopySource) (a b c : S) (old new : Logs) (was taken is : Finds) (x : CopiedFrom) → Underway gives holds begin a b old was → was.sources.items ≡ taken.sources.items ++ x ∷ [] → taken.lines.items ≡ was.lines.items →
    GoesOn gives b c old new (view_copied x) taken is → AreHeld holds new → Underway gives holds begin a c new is
goes_further gives holds begin a b c old new was taken is x u popped lines goes held =
    let s = subst (λ l. IsSearch begin (reached_at old) l taken.lines.items u.asked) (ap sources_of popped ∙ sources_more taken.sources.items x) (subst (λ l. IsSearch begin (reached_at old) (sources_of was.sources.items) l u.asked) (sym lines) u.search) in
    let next = goes begin u.asked s in
    record { asked = u.asked ++ next.0; chain = chain_joined gives a b c u.asked next.0 u.chain next.1; search = next.2; held = held }

-- ---- at the end

nothing_left : (s : CopySource) → Has [] s → ⊥
nothing_left s (i, e) = none_is s e

all_marked : (begin : CopySource) (logs : List ℕ → Option Reached) (lines : List Line) (asked : List Asked) → IsSearch begin logs [] lines asked → (files : Filelogs) → AllOf files asked → (a : At) → IsReached files begin a → is_marked logs a ≡ true
all_marked begin logs lines asked s files h a r =
    followed-least files (record { path = begin.path; rev = r.rev }) (is_marked logs)
    (elim (s.begun files h r.rev r.named) [ inl k ↦ k | inr w ↦ absurd (nothing_left begin w) ])
    (λ b c m before. elim (s.closed files h b c m before) [ inl k ↦ k | inr w ↦ absurd (nothing_left w.source w.there) ])
    a r.followed

pub is_found : (begin : CopySource) (logs : List ℕ → Option Reached) (lines : List Line) (asked : List Asked) → IsSearch begin logs [] lines asked → 0 < length lines → IsFound begin lines asked
is_found begin logs lines asked s some = record {
  there = λ files h. subst IsSome (sym ((s.sound files h (at_line first.0) first_marked).named)) refl;
  say = s.say;
  each = λ files h a. (
    λ r. count a ∙ ap bit (all_marked begin logs lines asked s files h a r),
    λ e. s.sound files h a (bit_on (is_marked logs a) (let c = count a in omega (arith, c, e))),
  );
  once = λ a. let c = count a in let o = bit_one (is_marked logs a) in omega (arith, c, o);
  told = λ a. sym (s.listed a);
  loaded = λ path. let c = s.loaded path in let o = bit_one (is_some (logs path)) in omega (arith, c, o);
}
  where
    count : (a : At) → times_listed a lines ≡ bit (is_marked logs a)
    count a = s.listed a ∙ s.told a

    bit_on : (b : Bool) → 0 < bit b → b ≡ true
    bit_on true k = refl
    bit_on false k = absurd (omega (arith, k))

    bit_one : (b : Bool) → bit b ≤ 1
    bit_one true = omega arith
    bit_one false = omega arith

    same_itself : (a : At) → same_at a a ≡ true
    same_itself a = ap (λ b. b && a.rev == a.rev) (same-refl a.path) ∙ same_number a.rev

    first : (x : Line) × (slice_get lines 0 ≡ Some x)
    first = get_there lines 0 some

    first_marked : is_marked logs (at_line first.0) ≡ true
    first_marked = bit_on (is_marked logs (at_line first.0)) (
        let c = count (at_line first.0) in
        let o = there_counted (λ l. same_at (at_line first.0) (at_line l)) lines 0 first.0 first.1 (same_itself (at_line first.0)) in omega (arith, c, o))

pub is_missing : (begin : CopySource) (logs : List ℕ → Option Reached) (lines : List Line) (asked : List Asked) → IsSearch begin logs [] lines asked → lines ≡ [] → (files : Filelogs) → AllOf files asked → number_of files begin ≡ None
is_missing begin logs lines asked s none files h = by (number_of files begin) refl
  where
    no_bit : (b : Bool) → 0 ≡ bit b → b ≡ true → ⊥
    no_bit true e k = omega (arith, e)
    no_bit false e k = false_is k

    by : (o : Option ℕ) → number_of files begin ≡ o → o ≡ None
    by None e = refl
    by (Some rev) e =
        let a : At = record { path = begin.path; rev = rev } in
        absurd (no_bit (is_marked logs a) (ap (times_listed a) (sym none) ∙ s.listed a ∙ s.told a)
        (elim (s.begun files h rev e) [ inl k ↦ k | inr w ↦ absurd (nothing_left begin w) ]))

pub pushed_first : (none items : List CopiedFrom) (x : CopiedFrom) → none ≡ [] → items ≡ none ++ x ∷ [] → sources_of items ≡ view_copied x ∷ []
pushed_first none items x empty is = ap sources_of (is ∙ ap (λ l. l ++ x ∷ []) empty)

-- ---- none or some

pub no_items : {A : Type 0} (xs : List A) (n : ℕ) → n ≡ length xs → (n == 0) ≡ true → xs ≡ []
no_items [] n e t = refl
no_items (x ∷ xs) n e t = absurd (let z = number_same n 0 t in omega (arith, e, z))

pub some_items : {A : Type 0} (xs : List A) (n : ℕ) → n ≡ length xs → (n == 0) ≡ false → 0 < length xs
some_items [] n e t = false_is (sym t ∙ ap (λ k. k == 0) e)
some_items (x ∷ xs) n e t = omega arith
