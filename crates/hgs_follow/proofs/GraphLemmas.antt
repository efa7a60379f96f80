-- A search through filelogs.
use Rattle.std.proofs.Common.{◌≡◌, ◌⊎◌, ◌<◌, ℕ, zero, suc, ◌+◌, Bool, true, false, cond, ◌&&◌, List, [], ◌∷◌, ◌++◌, length, map, Option, Some, None, refl, sym, ◌∙◌, ap, subst, inl, inr, arith}
use Rattle.std.specs.Prelude.{◌==◌, not, nat_lt, position, slice_get, option_to_list}
use Rattle.std.specs.List.{position_or_len, prefix_len}
use Rattle.std.specs.Option.{is_some}
use Rattle.hgs_bytes.specs.Bytes.{same}
use Rattle.hgs_bytes.specs.Theorems.ByteLemmas.{same-eq, same-refl}
use Rattle.hgs_index.specs.Ancestor.{IsAncestor, IsParent}
use Rattle.hgs_index.specs.Revision.{Parents}
use Rattle.hgs_index.specs.declared.entry.Entry.{Entry}
use Rattle.hgs_revlog.specs.Log.{nodes_of, place_of}
use Rattle.hgs_revlog.specs.Theorems.TailHeldLemmas.{place-among}
use Rattle.hgs_follow.specs.Asked.{Asked, loaded, told, loads, tells, times_loaded, times_told, AllOf, AreOf}
use Rattle.hgs_follow.specs.Followed.{At, Filelogs, FileRevision, IsBefore, parent, copied, further, number_of, parents_of, source_at}
use Rattle.hgs_follow.specs.Lines.{times_listed, IsLineOf}
use Rattle.hgs_follow.specs.Search.{asked_of, bit, has, is_marked, is_marked_in, line_with, sources_in, times_read, AreLines, Has, IsAwaited, IsReached, IsSearch, Searched, Text}
use Rattle.hgs_follow.specs.Source.{CopySource, copied_from}
use Rattle.hgs_follow.specs.declared.filelogs.Filelog.{Filelog}
use Rattle.hgs_follow.specs.declared.line.Line.{Line}
use Rattle.hgs_follow.specs.declared.search.Reached.{Reached}
use Rattle.hgs_follow.proofs.FollowedLemmas.{followed-trans, up}
use Rattle.hgs_follow.proofs.ListLemmas.{count_append, count_cons, count_push, counted_there, false_is, get_behind, get_either, get_front, get_low, get_map, get_there, length_map, lt_is, none_is, same_number, number_same, some_is, there_counted, true_or_false}
use Rattle.hgs_follow.proofs.MapLemmas.{by_path}

abbrev at : List ℕ → ℕ → At
at path rev = record { path = path; rev = rev }

-- ---- answers of filelogs

pub of_front : (files : Filelogs) (xs ys : List Asked) → AllOf files (xs ++ ys) → AllOf files xs
of_front files [] ys h = tt
of_front files (x ∷ xs) ys h = (h.0, of_front files xs ys h.1)

pub of_behind : (files : Filelogs) (xs ys : List Asked) → AllOf files (xs ++ ys) → AllOf files ys
of_behind files [] ys h = h
of_behind files (x ∷ xs) ys h = of_behind files xs ys h.1

-- a text that was read is that of its revision
text_is : (files : Filelogs) (path : List ℕ) (texts : List Text) (i : ℕ) (t : Text) → AllOf files (asked_of path texts) → slice_get texts i ≡ Some t → source_at files (at path t.rev) ≡ copied_from t.text
text_is files path [] i t h e = absurd (none_is t e)
text_is files path (x ∷ texts) zero t h e = subst (λ (y : Text). source_at files (at path y.rev) ≡ copied_from y.text) (some_is x t e) h.0
text_is files path (x ∷ texts) (suc i) t h e = text_is files path texts i t h.1 e

-- ---- the number of a node

prefix_map : {A B : Type 0} (p : B → Bool) (f : A → B) (xs : List A) → prefix_len p (map f xs) ≡ prefix_len (λ x. p (f x)) xs
prefix_map p f [] = refl
prefix_map p f (x ∷ xs) = ap (λ n. cond (p (f x)) (1 + n) 0) (prefix_map p f xs)

prefix_alike : {A : Type 0} (p q : A → Bool) → ((x : A) → p x ≡ q x) → (xs : List A) → prefix_len p xs ≡ prefix_len q xs
prefix_alike p q e [] = refl
prefix_alike p q e (x ∷ xs) = ap (λ b. cond b (1 + prefix_len p xs) 0) (e x) ∙ ap (λ n. cond (q x) (1 + n) 0) (prefix_alike p q e xs)

abbrev found : ℕ → ℕ → Option ℕ
found i n = cond (nat_lt i n) (Some i) None

position_map : {A B : Type 0} (p : B → Bool) (f : A → B) (xs : List A) → position p (map f xs) ≡ position (λ x. p (f x)) xs
position_map p f xs = ap (λ i. found i (length (map f xs))) (prefix_map (λ x. not (p x)) f xs) ∙ ap (found (position_or_len (λ x. p (f x)) xs)) (length_map f xs)

position_alike : {A : Type 0} (p q : A → Bool) → ((x : A) → p x ≡ q x) → (xs : List A) → position p xs ≡ position q xs
position_alike p q e xs = ap (λ i. found i (length xs)) (prefix_alike (λ x. not (p x)) (λ x. not (q x)) (λ x. ap not (e x)) xs)

turned : (x y : List ℕ) → same x y ≡ same y x
turned x y = by (same x y) (same y x) refl refl
  where
    by : (a b : Bool) → same x y ≡ a → same y x ≡ b → a ≡ b
    by true true e f = refl
    by false false e f = refl
    by true false e f = false_is (sym f ∙ ap (λ z. same y z) (same-eq x y e) ∙ same-refl y)
    by false true e f = sym (false_is (sym e ∙ ap (λ z. same x z) (same-eq y x f) ∙ same-refl x))

pub number_is : (files : Filelogs) (s : CopySource) (entries : List Entry) → AreOf entries files s.path → number_of files s ≡ place_of entries s.node
number_is files s entries of =
    sym (position_map (same s.node) (λ (r : FileRevision). r.node) (files s.path))
    ∙ ap (position (same s.node)) of.nodes
    ∙ position_alike (same s.node) (λ n. same n s.node) (turned s.node) (nodes_of entries)
    ∙ sym (place-among entries s.node)

-- ---- the line of a revision

row_there : (revs : List FileRevision) (entries : List Entry) (rev : ℕ) (e : Entry) → map (λ (r : FileRevision). r.node) revs ≡ nodes_of entries → slice_get entries rev ≡ Some e → (r : FileRevision) × (slice_get revs rev ≡ Some r)
row_there revs entries rev e is there =
    get_there revs rev (
    let a : length (map (λ (r : FileRevision). r.node) revs) ≡ length revs = length_map (λ (r : FileRevision). r.node) revs in
    let b : length (nodes_of entries) ≡ length entries = length_map (λ (x : Entry). x.node.0) entries in
    let c : length (map (λ (r : FileRevision). r.node) revs) ≡ length (nodes_of entries) = ap length is in
    let low = get_low entries rev e there in omega (arith, a, b, c, low))

is_line : (files : Filelogs) (path : List ℕ) (entries : List Entry) (rev : ℕ) (e : Entry) → AreOf entries files path → slice_get entries rev ≡ Some e → IsLineOf files (line_with path rev e)
is_line files path entries rev e of there =
    let row = row_there (files path) entries rev e of.nodes there in record {
      revision = row.0;
      there = row.1;
      link = some_is row.0.link e.link (sym (get_map (λ (r : FileRevision). r.link) (files path) rev row.0 row.1) ∙ ap (λ l. slice_get l rev) of.links ∙ get_map (λ (x : Entry). x.link) entries rev e there);
      node = some_is row.0.node e.node.0 (sym (get_map (λ (r : FileRevision). r.node) (files path) rev row.0 row.1) ∙ ap (λ l. slice_get l rev) of.nodes ∙ get_map (λ (x : Entry). x.node.0) entries rev e there);
    }

lines_say : (files : Filelogs) (path : List ℕ) (entries : List Entry) (texts : List Text) (lines : List Line) → AreOf entries files path → AreLines path entries texts lines → (i : ℕ) (l : Line) → slice_get lines i ≡ Some l → IsLineOf files l
lines_say files path entries [] lines of are i l there = absurd (none_is l (sym (ap (λ x. slice_get x i) are) ∙ there))
lines_say files path entries (t ∷ texts) lines of are zero l there =
    subst (IsLineOf files) (some_is (line_with path t.rev are.0) l (sym (ap (λ x. slice_get x 0) are.3) ∙ there)) (is_line files path entries t.rev are.0 of are.2)
lines_say files path entries (t ∷ texts) lines of are (suc i) l there = lines_say files path entries texts are.1 of are.4 i l (sym (ap (λ x. slice_get x (suc i)) are.3) ∙ there)

-- ---- how often

listed_told : (path : List ℕ) (entries : List Entry) (texts : List Text) (lines : List Line) (a : At) → AreLines path entries texts lines → times_listed a lines ≡ times_told a (asked_of path texts)
listed_told path entries [] lines a are = ap (times_listed a) are
listed_told path entries (t ∷ texts) lines a are =
    ap (times_listed a) are.3 ∙ count_cons (λ l. same a.path l.path && l.rev == a.rev) (line_with path t.rev are.0) are.1
    ∙ ap (λ n. cond (same a.path path && t.rev == a.rev) 1 0 + n) (listed_told path entries texts are.1 a are.4)
    ∙ sym (count_cons (tells a) (told path t.rev t.text) (asked_of path texts))

told_here : (path : List ℕ) (texts : List Text) (rev : ℕ) → times_told (at path rev) (asked_of path texts) ≡ times_read rev texts
told_here path [] rev = refl
told_here path (t ∷ texts) rev =
    count_cons (tells (at path rev)) (told path t.rev t.text) (asked_of path texts)
    ∙ ap (λ b. cond (b && t.rev == rev) 1 0 + times_told (at path rev) (asked_of path texts)) (same-refl path)
    ∙ ap (λ n. cond (t.rev == rev) 1 0 + n) (told_here path texts rev)
    ∙ sym (count_cons (λ x. x.rev == rev) t texts)

told_else : (path : List ℕ) (texts : List Text) (a : At) → same path a.path ≡ false → times_told a (asked_of path texts) ≡ 0
told_else path [] a e = refl
told_else path (t ∷ texts) a e =
    count_cons (tells a) (told path t.rev t.text) (asked_of path texts)
    ∙ ap (λ b. cond (b && t.rev == a.rev) 1 0 + times_told a (asked_of path texts)) (turned a.path path ∙ e)
    ∙ (let d = told_else path texts a e in omega (arith, d))

loaded_none : (path q : List ℕ) (texts : List Text) → times_loaded q (asked_of path texts) ≡ 0
loaded_none path q [] = refl
loaded_none path q (t ∷ texts) = count_cons (loads q) (told path t.rev t.text) (asked_of path texts) ∙ (let d = loaded_none path q texts in omega (arith, d))

-- ---- sources

source_there : (texts : List Text) (i : ℕ) (s : CopySource) → slice_get (sources_in texts) i ≡ Some s → (j : ℕ) × (t : Text) × (slice_get texts j ≡ Some t) × (copied_from t.text ≡ Some s)
source_there [] i s h = absurd (none_is s h)
source_there (t ∷ texts) i s h = by (get_either (option_to_list (copied_from t.text)) (sources_in texts) i s h) (source_there texts)
  where
    one : (o : Option CopySource) (k : ℕ) → slice_get (option_to_list o) k ≡ Some s → o ≡ Some s
    one None k e = absurd (none_is s e)
    one (Some x) zero e = e
    one (Some x) (suc k) e = absurd (none_is s e)

    by : (slice_get (option_to_list (copied_from t.text)) i ≡ Some s) ⊎ ((j : ℕ) × (slice_get (sources_in texts) j ≡ Some s)) →
        ((i : ℕ) (s : CopySource) → slice_get (sources_in texts) i ≡ Some s → (j : ℕ) × (t : Text) × (slice_get texts j ≡ Some t) × (copied_from t.text ≡ Some s)) →
        (j : ℕ) × (x : Text) × (slice_get (t ∷ texts) j ≡ Some x) × (copied_from x.text ≡ Some s)
    by (inl e) deeper = (0, t, refl, one (copied_from t.text) i e)
    by (inr e) deeper = let d = deeper e.0 s e.1 in (suc d.0, d.1, d.2, d.3)

there_source : (texts : List Text) (i : ℕ) (t : Text) (s : CopySource) → slice_get texts i ≡ Some t → copied_from t.text ≡ Some s → Has (sources_in texts) s
there_source [] i t s h e = absurd (none_is t h)
there_source (x ∷ texts) zero t s h e =
    (0, get_front (option_to_list (copied_from x.text)) (sources_in texts) 0 s (ap (λ o. slice_get (option_to_list o) 0) (ap (λ (y : Text). copied_from y.text) (some_is x t h) ∙ e)))
there_source (x ∷ texts) (suc i) t s h e =
    let d = there_source texts i t s h e in
    (length (option_to_list (copied_from x.text)) + d.0, get_behind (option_to_list (copied_from x.text)) (sources_in texts) d.0 ∙ d.1)

-- ---- one step: a filelog is loaded

pub taken : (begin : CopySource) (old new : List ℕ → Option Reached) (path : List ℕ) (f : Filelog) (reached : Reached) (left : List CopySource) (lines : List Line) (asked : List Asked) → is_some (old path) ≡ false → reached.filelog ≡ f → ((r : ℕ) → has reached.marks.items r ≡ false) → new path ≡ Some reached →
    ((q : List ℕ) → same path q ≡ false → new q ≡ old q) → IsSearch begin old left lines asked → IsSearch begin new left lines (asked ++ loaded path f.log.entries ∷ [])
taken begin old new path f reached left lines asked absent filelog bare here others s = record {
  loaded = λ q. count_push (loads q) asked (loaded path f.log.entries) ∙ by_path path q
      (λ e. ap (λ n. n + cond (same q path) 1 0) (s.loaded q ∙ ap bit (sym (ap (λ k. is_some (old k)) e) ∙ absent)) ∙ ap (λ b. 0 + cond b 1 0) (ap (λ k. same k path) (sym e) ∙ same-refl path) ∙ sym (ap (λ o. bit (is_some o)) (ap new (sym e) ∙ here)))
      (λ e. ap (λ b. times_loaded q asked + cond b 1 0) (turned q path ∙ e) ∙ (let z : times_loaded q asked + 0 ≡ times_loaded q asked = omega arith in z) ∙ s.loaded q ∙ sym (ap (λ o. bit (is_some o)) (others q e)));
  told = λ a. push_told a ∙ s.told a ∙ ap bit (sym (marked a));
  listed = λ a. s.listed a ∙ sym (push_told a);
  say = λ files h. s.say files (of_front files asked last h);
  known = λ files h q r at_q. by_path path q
      (λ e. subst (λ k. AreOf r.filelog.log.entries files k) e (subst (λ (x : Filelog). AreOf x.log.entries files path) (sym filelog ∙ ap (λ (x : Reached). x.filelog) (some_is reached r (sym here ∙ ap new e ∙ at_q))) ((of_behind files asked last h).0)))
      (λ e. s.known files (of_front files asked last h) q r (sym (others q e) ∙ at_q));
  sound = λ files h a m. s.sound files (of_front files asked last h) a (sym (marked a) ∙ m);
  meant = λ files h. s.meant files (of_front files asked last h);
  closed = λ files h b c m before. elim (s.closed files (of_front files asked last h) b c (sym (marked b) ∙ m) before) [ inl k ↦ inl (marked c ∙ k) | inr w ↦ inr w ];
  begun = λ files h rev e. elim (s.begun files (of_front files asked last h) rev e) [ inl k ↦ inl (marked (at begin.path rev) ∙ k) | inr w ↦ inr w ];
}
  where
    last : List Asked
    last = loaded path f.log.entries ∷ []

    push_told : (a : At) → times_told a (asked ++ last) ≡ times_told a asked
    push_told a = count_push (tells a) asked (loaded path f.log.entries) ∙ (let z : times_told a asked + 0 ≡ times_told a asked = omega arith in z)

    none_marked : (o : Option Reached) (rev : ℕ) → is_some o ≡ false → is_marked_in o rev ≡ false
    none_marked None rev e = refl
    none_marked (Some x) rev e = false_is (sym e)

    marked : (a : At) → is_marked new a ≡ is_marked old a
    marked a = by_path path a.path
        (λ e. ap (λ o. is_marked_in o a.rev) (ap new (sym e) ∙ here) ∙ bare a.rev ∙ sym (ap (λ k. is_marked_in (old k) a.rev) (sym e) ∙ none_marked (old path) a.rev absent))
        (λ e. ap (λ o. is_marked_in o a.rev) (others a.path e))

-- ---- one step: a source that no revision has

pub dropped : (begin source : CopySource) (logs : List ℕ → Option Reached) (r : Reached) (left : List CopySource) (lines : List Line) (asked : List Asked) → logs source.path ≡ Some r → place_of r.filelog.log.entries source.node ≡ None → IsSearch begin logs (left ++ source ∷ []) lines asked → IsSearch begin logs left lines asked
dropped begin source logs r left lines asked there none s = record {
  loaded = s.loaded;
  told = s.told;
  listed = s.listed;
  say = s.say;
  known = s.known;
  sound = s.sound;
  meant = λ files h x rev has_x e. s.meant files h x rev (has_x.0, get_front left (source ∷ []) has_x.0 x has_x.1) e;
  closed = λ files h b c m before. elim (s.closed files h b c m before) [
    | inl k ↦ inl k
    | inr w ↦ (elim (get_either left (source ∷ []) w.there.0 w.source w.there.1) [
      | inl e ↦ inr (record { source = w.source; there = (w.there.0, e); path = w.path; number = w.number })
      | inr e ↦ absurd (not_numbered files h w.source c.rev (last_is w.source e.0 e.1) w.number)
    ])
  ];
  begun = λ files h rev e. elim (s.begun files h rev e) [
    | inl k ↦ inl k
    | inr w ↦ (elim (get_either left (source ∷ []) w.0 begin w.1) [
      | inl x ↦ inr (w.0, x)
      | inr x ↦ absurd (not_numbered files h begin rev (last_is begin x.0 x.1) e)
    ])
  ];
}
  where
    last_is : (x : CopySource) (j : ℕ) → slice_get (source ∷ []) j ≡ Some x → x ≡ source
    last_is x zero e = sym (some_is source x e)
    last_is x (suc j) e = absurd (none_is x e)

    not_numbered : (files : Filelogs) → AllOf files asked → (x : CopySource) (rev : ℕ) → x ≡ source → number_of files x ≡ Some rev → ⊥
    not_numbered files h x rev same_x e = none_is rev (sym none ∙ sym (number_is files source r.filelog.log.entries (s.known files h source.path r there)) ∙ ap (number_of files) (sym same_x) ∙ e)

-- ---- one step: a filelog is searched from a source on

pub record Step (begin source : CopySource) (old new : List ℕ → Option Reached) (left : List CopySource) (lines more : List Line) (asked : List Asked) (texts : List Text) (rev : ℕ) (r again : Reached) : Type 0 where
  pub search : IsSearch begin old (left ++ source ∷ []) lines asked
  pub was : old source.path ≡ Some r
  pub is : new source.path ≡ Some again
  pub others : (q : List ℕ) → same source.path q ≡ false → new q ≡ old q
  pub filelog : again.filelog ≡ r.filelog
  pub size : length r.marks.items ≡ length r.filelog.log.entries
  pub place : place_of r.filelog.log.entries source.node ≡ Some rev
  pub low : rev < length r.filelog.log.entries
  pub searched : Searched r.filelog.log.entries rev r.marks.items again.marks.items texts
  pub are : AreLines source.path r.filelog.log.entries texts more

pub stepped : (begin source : CopySource) (old new : List ℕ → Option Reached) (left : List CopySource) (lines more : List Line) (asked : List Asked) (texts : List Text) (rev : ℕ) (r again : Reached) → Step begin source old new left lines more asked texts rev r again →
    IsSearch begin new (left ++ sources_in texts) (lines ++ more) (asked ++ asked_of source.path texts)
stepped begin source old new left lines more asked texts rev r again h = record {
  loaded = λ q. count_append (loads q) asked reads ∙ ap (λ n. times_loaded q asked + n) (loaded_none source.path q texts) ∙ (let z : times_loaded q asked + 0 ≡ times_loaded q asked = omega arith in z) ∙ s.loaded q ∙ by_path source.path q
      (λ e. ap (λ o. bit (is_some o)) (ap old (sym e) ∙ h.was) ∙ sym (ap (λ o. bit (is_some o)) (ap new (sym e) ∙ h.is)))
      (λ e. ap (λ o. bit (is_some o)) (sym (h.others q e)));
  told = λ a. count_append (tells a) asked reads ∙ ap (λ n. n + times_told a reads) (s.told a) ∙ by_path source.path a.path
      (λ e. told_same a e)
      (λ e. ap (λ n. bit (is_marked old a) + n) (told_else source.path texts a e) ∙ (let z : bit (is_marked old a) + 0 ≡ bit (is_marked old a) = omega arith in z) ∙ ap bit (sym (marked_else a e)));
  listed = λ a. count_append (λ l. same a.path l.path && l.rev == a.rev) lines more ∙ ap (λ n. n + times_listed a more) (s.listed a) ∙ ap (λ n. times_told a asked + n) (listed_told source.path r.filelog.log.entries texts more a h.are) ∙ sym (count_append (tells a) asked reads);
  say = λ files g i l there. elim (get_either lines more i l there) [
    | inl e ↦ s.say files (of_front files asked reads g) i l e
    | inr e ↦ lines_say files source.path r.filelog.log.entries texts more (s.known files (of_front files asked reads g) source.path r h.was) h.are e.0 l e.1
  ];
  known = λ files g q x at_q. by_path source.path q
      (λ e. subst (λ k. AreOf x.filelog.log.entries files k) e (subst (λ (y : Filelog). AreOf y.log.entries files source.path) (sym h.filelog ∙ ap (λ (y : Reached). y.filelog) (some_is again x (sym h.is ∙ ap new e ∙ at_q))) (s.known files (of_front files asked reads g) source.path r h.was)))
      (λ e. s.known files (of_front files asked reads g) q x (sym (h.others q e) ∙ at_q));
  sound = λ files g a m. sound_now files g a m;
  meant = λ files g x number has_x e. elim (get_either left (sources_in texts) has_x.0 x has_x.1) [
    | inl k ↦ s.meant files (of_front files asked reads g) x number (has_x.0, get_front left (source ∷ []) has_x.0 x k) e
    | inr k ↦ said files g x number (source_there texts k.0 x k.1) e
  ];
  closed = λ files g b c m before. elim (true_or_false (is_marked old b)) [
    | inl e ↦ elim (s.closed files (of_front files asked reads g) b c e before) [
      | inl k ↦ inl (kept c k)
      | inr w ↦ (elim (get_either left (source ∷ []) w.there.0 w.source w.there.1) [
        | inl k ↦ inr (record { source = w.source; there = (w.there.0, get_front left (sources_in texts) w.there.0 w.source k); path = w.path; number = w.number })
        | inr k ↦ inl (first_marked files g c (w.path ∙ ap (λ (x : CopySource). x.path) (last_is w.source k.0 k.1)) (ap (number_of files) (sym (last_is w.source k.0 k.1)) ∙ w.number))
      ])
    ]
    | inr e ↦ by_path source.path b.path
        (λ here. newly files g b c here e m before)
        (λ other. false_is (sym e ∙ sym (marked_else b other) ∙ m))
  ];
  begun = λ files g number e. elim (s.begun files (of_front files asked reads g) number e) [
    | inl k ↦ inl (kept (at begin.path number) k)
    | inr w ↦ (elim (get_either left (source ∷ []) w.0 begin w.1) [
      | inl k ↦ inr (w.0, get_front left (sources_in texts) w.0 begin k)
      | inr k ↦ inl (first_marked files g (at begin.path number) (ap (λ (x : CopySource). x.path) (last_is begin k.0 k.1)) (ap (number_of files) (sym (last_is begin k.0 k.1)) ∙ e))
    ])
  ];
}
  where
    s : IsSearch begin old (left ++ source ∷ []) lines asked
    s = h.search

    reads : List Asked
    reads = asked_of source.path texts

    last_is : (x : CopySource) (j : ℕ) → slice_get (source ∷ []) j ≡ Some x → x ≡ source
    last_is x zero e = sym (some_is source x e)
    last_is x (suc j) e = absurd (none_is x e)

    marked_else : (a : At) → same source.path a.path ≡ false → is_marked new a ≡ is_marked old a
    marked_else a e = ap (λ o. is_marked_in o a.rev) (h.others a.path e)

    marked_new : (a : At) → source.path ≡ a.path → is_marked new a ≡ has again.marks.items a.rev
    marked_new a e = ap (λ o. is_marked_in o a.rev) (ap new (sym e) ∙ h.is)

    marked_old : (a : At) → source.path ≡ a.path → is_marked old a ≡ has r.marks.items a.rev
    marked_old a e = ap (λ o. is_marked_in o a.rev) (ap old (sym e) ∙ h.was)

    kept : (a : At) → is_marked old a ≡ true → is_marked new a ≡ true
    kept a m = by_path source.path a.path
        (λ e. marked_new a e ∙ h.searched.kept a.rev (sym (marked_old a e) ∙ m))
        (λ e. marked_else a e ∙ m)

    told_same : (a : At) → source.path ≡ a.path → bit (is_marked old a) + times_told a reads ≡ bit (is_marked new a)
    told_same a e =
        let o = h.searched.once a.rev in
        let t : times_told a reads ≡ times_read a.rev texts = ap (λ k. times_told (at k a.rev) reads) (sym e) ∙ told_here source.path texts a.rev in
        let x : bit (is_marked old a) ≡ bit (has r.marks.items a.rev) = ap bit (marked_old a e) in
        let y : bit (is_marked new a) ≡ bit (has again.marks.items a.rev) = ap bit (marked_new a e) in
        omega (arith, o, t, x, y)

    numbered : (files : Filelogs) → AllOf files (asked ++ reads) → number_of files source ≡ Some rev
    numbered files g = number_is files source r.filelog.log.entries (s.known files (of_front files asked reads g) source.path r h.was) ∙ h.place

    reached : (files : Filelogs) → AllOf files (asked ++ reads) → IsReached files begin (at source.path rev)
    reached files g = s.meant files (of_front files asked reads g) source rev (length left + 0, get_behind left (source ∷ []) 0) (numbered files g)

    sound_here : (files : Filelogs) → AllOf files (asked ++ reads) → (number : ℕ) → has again.marks.items number ≡ true → IsReached files begin (at source.path number)
    sound_here files g number m = elim (h.searched.only number m) [
      | inl k ↦ s.sound files (of_front files asked reads g) (at source.path number) (marked_old (at source.path number) refl ∙ k)
      | inr a ↦ (let from = reached files g in record {
        rev = from.rev;
        named = from.named;
        followed = followed-trans files (at begin.path from.rev) (at source.path rev) (at source.path number) from.followed
            (up files source.path number rev (subst (λ (p : List Parents). IsAncestor p number rev) (sym ((s.known files (of_front files asked reads g) source.path r h.was).parents)) a));
      })
    ]

    sound_now : (files : Filelogs) → AllOf files (asked ++ reads) → (a : At) → is_marked new a ≡ true → IsReached files begin a
    sound_now files g a m = by_path source.path a.path
        (λ e. subst (λ k. IsReached files begin (at k a.rev)) e (sound_here files g a.rev (sym (marked_new a e) ∙ m)))
        (λ e. s.sound files (of_front files asked reads g) a (sym (marked_else a e) ∙ m))

    read_marked : (t : Text) (i : ℕ) → slice_get texts i ≡ Some t → has again.marks.items t.rev ≡ true
    read_marked t i e =
        let c : 0 < times_read t.rev texts = there_counted (λ x. x.rev == t.rev) texts i t e (same_number t.rev) in
        let o = h.searched.once t.rev in
        bit_on (has again.marks.items t.rev) (omega (arith, c, o))
      where
        bit_on : (b : Bool) → 0 < bit b → b ≡ true
        bit_on true k = refl
        bit_on false k = absurd (omega (arith, k))

    said : (files : Filelogs) → AllOf files (asked ++ reads) → (x : CopySource) (number : ℕ) → (j : ℕ) × (t : Text) × (slice_get texts j ≡ Some t) × (copied_from t.text ≡ Some x) → number_of files x ≡ Some number → IsReached files begin (at x.path number)
    said files g x number (j, t, at_j, says) e =
        let from = sound_here files g t.rev (read_marked t j at_j) in record {
          rev = from.rev;
          named = from.named;
          followed = further from.followed (copied x (text_is files source.path texts j t (of_behind files asked reads g) at_j ∙ says) refl e);
        }

    first_marked : (files : Filelogs) → AllOf files (asked ++ reads) → (c : At) → c.path ≡ source.path → number_of files source ≡ Some c.rev → is_marked new c ≡ true
    first_marked files g c path e =
        marked_new c (sym path) ∙ ap (has again.marks.items) (sym (some_is rev c.rev (sym (numbered files g) ∙ e))) ∙ h.searched.first (let a = h.low in let b = h.size in omega (arith, a, b))

    newly : (files : Filelogs) → AllOf files (asked ++ reads) → (b c : At) → source.path ≡ b.path → is_marked old b ≡ false → is_marked new b ≡ true → IsBefore files c b → (is_marked new c ≡ true) ⊎ IsAwaited files (left ++ sources_in texts) c
    newly files g b c here off on (parent alike is) =
        inl (marked_new c (here ∙ sym alike) ∙ h.searched.parents b.rev c.rev (sym (marked_old b here) ∙ off) (sym (marked_new b here) ∙ on)
        (subst (λ (p : List Parents). IsParent p c.rev b.rev) (ap (λ k. parents_of (files k)) (sym here) ∙ (s.known files (of_front files asked reads g) source.path r h.was).parents) is))
    newly files g b c here off on (copied x from path number) =
        let o = h.searched.once b.rev in
        let p : bit (has r.marks.items b.rev) ≡ 0 = ap bit (sym (marked_old b here) ∙ off) in
        let q : bit (has again.marks.items b.rev) ≡ 1 = ap bit (sym (marked_new b here) ∙ on) in
        let t = counted_there (λ z. z.rev == b.rev) texts (omega (arith, o, p, q)) in
        let told_is = text_is files source.path texts t.0 t.1 (of_behind files asked reads g) t.2 in
        let says : copied_from t.1.text ≡ Some x = sym told_is ∙ ap (λ n. source_at files (at source.path n)) (number_same t.1.rev b.rev t.3) ∙ ap (λ k. source_at files (at k b.rev)) here ∙ from in
        let there = there_source texts t.0 t.1 x t.2 says in
        inr (record { source = x; there = (length left + there.0, get_behind left (sources_in texts) there.0 ∙ there.1); path = path; number = number })

-- ---- a revision that is found is there

found_low : (a n i : ℕ) → found a n ≡ Some i → i < n
found_low a n i e = by (nat_lt a n) refl e
  where
    by : (b : Bool) → nat_lt a n ≡ b → cond b (Some a) None ≡ Some i → i < n
    by true t k = subst (λ x. x < n) (some_is a i k) (lt_is a n t)
    by false t k = absurd (none_is i k)

pub place_low : (entries : List Entry) (node : List ℕ) (rev : ℕ) → place_of entries node ≡ Some rev → rev < length entries
place_low entries node rev e = found_low (position_or_len (λ (x : Entry). same x.node.0 node) entries) (length entries) rev e
