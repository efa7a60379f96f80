-- Over files that hold a history, `log` writes its lines.
use Rattle.std.proofs.Common.{◌≡◌, ◌⊎◌, inl, inr, ℕ, zero, suc, ◌+◌, ◌*◌, ◌/◌, ◌<◌, ◌≤◌, List, [], ◌∷◌, ◌++◌, length, take, drop, Bool, true, false, cond, nat_lt, Option, Some, None, Result, Ok, Err, refl, sym, ◌∙◌, ap, subst, arith, append_assoc, append-nil, length-append}
use Rattle.std.specs.Prelude.{decimal, slice_get, slice_index_or, unwrap_or}
use Rattle.std.specs.List.{AllByRecursion}
use Rattle.hex.specs.Hex.{IsBytes}
use Rattle.std.specs.Option.{option_map}
use Rattle.std.proofs.Math.Seq.{drop-append_seam, take-add}
use Rattle.std.proofs.lemmas.List.{take-append-drop, take_all, length-take, length-map}
use Rattle.hgs_files.specs.Tree.{Tree, bytes_at}
use Rattle.hgs_index.specs.declared.entry.Entry.{Entry}
use Rattle.hgs_index.specs.declared.texts.ChangeFault.{ChangeFault}
use Rattle.hgs_index.specs.ChangeText.{Change, read_change}
use Rattle.hgs_index.specs.Hex.{hex}
use Rattle.hgs_index.specs.Inline.{is_inline}
use Rattle.hgs_index.specs.Node.{null_node}
use Rattle.hgs_index.specs.Revision.{Revision, nodes}
use Rattle.hgs_index.specs.Theorems.InlineLemmas.{fronts-separate}
use Rattle.hgs_index.specs.Theorems.RevisionLemmas.{length-nodes_from}
use Rattle.hgs_revlog.specs.declared.fault.RevFault.{RevFault}
use Rattle.hgs_revlog.specs.Held.{AreWithinLimits, chunk_in, revision_of, with_text, read_from, read_all}
use Rattle.hgs_revlog.specs.declared.fault.Tail.TheVariants.{Ignore, Refuse}
use Rattle.hgs_revlog.specs.Load.{loaded, loaded_either, most_revisions}
use Rattle.hgs_revlog.specs.Loaded.{AreEntries}
use Rattle.hgs_revlog.specs.Log.{Log, nodes_of}
use Rattle.hgs_revlog.specs.Text.{text_of}
use Rattle.hgs_revlog.specs.Theorems.ApartBytes.{apart-bytes}
use Rattle.hgs_revlog.specs.Theorems.HeldLemmas.{nodes_of-agrees}
use Rattle.hgs_revlog.specs.Theorems.ReadLemmas.{with_text_ok, slice_get_seam}
use Rattle.hgs_revlog.specs.Theorems.TailHeldLemmas.{held-ignored, ignored-held}
use Rattle.hgs_revlog.specs.Theorems.TailLemmas.{ignore-refuse, load_length}
use Rattle.hgs_load.specs.declared.answer.ReadAnswer.{ReadAnswer}
use Rattle.hgs_load.specs.Asks.{Asks, answer, part_of, at_rest}
use Rattle.hgs_reader.specs.Line.{changeset_asks, field, parent_text, change_fields, line_asks, line_at, line_text, line_of_entry, line_of_change, change_of_chunk, change_of_text}
use Rattle.hgs_load.specs.View.{View, changelog_index, pieces_then, piece_length, most_pieces}
use Rattle.hgs_load.specs.Open.{open_asks, log_asks, log_of, separate_log_asks}
use Rattle.hgs_load.specs.Theorems.OpenedLemmas.{opened_log}
use Rattle.hgs_top.proofs.IndexLemmas.{apart-load, asked-log, chunk-asked, either-load, inline-loads, log-in}
use Rattle.hgs_top.proofs.OpenLemmas.{opening}
use Rattle.hgs_top.specs.History.{Changeset, revisions_of, IsRead, HoldsHistory, IsReadWhole, chunks_in, index_in, line_among, lines_from, history_text, Opens}
use Rattle.hgs_top.specs.IndexLaws.{IndexLaws}
use Rattle.hgs_top.specs.Outcome.{Outcome, line_then, lines_down, lines_of_view, log_of_view, log_outcome}

-- ---- the index, piece by piece

drop_none : (n : ℕ) → drop n (let l : List ℕ = [] in l) ≡ []
drop_none zero = refl
drop_none (suc n) = refl

take_none : (n : ℕ) → take n (let l : List ℕ = [] in l) ≡ []
take_none zero = refl
take_none (suc n) = refl

part_is : (file : Option (List ℕ)) (from most : ℕ) → unwrap_or (option_map (λ bytes. take most (drop from bytes)) file) [] ≡ take most (drop from (unwrap_or file []))
part_is None from most = sym (ap (take most) (drop_none from) ∙ take_none most)
part_is (Some bytes) from most = refl

short_piece : (n : ℕ) (rest : List ℕ) → nat_lt (length (take n rest)) n ≡ true → take n rest ≡ rest
short_piece n rest h = let e = length-take n rest in take_all n rest (grind (arith, h, e))

short_rest : (n left : ℕ) (rest : List ℕ) → nat_lt (length (take n rest)) n ≡ true → take (n + left) rest ≡ rest
short_rest n left rest h = let e = length-take n rest in take_all (n + left) rest (grind (arith, h, e))

-- as many pieces as are left give a front of the file
pieces_front : {A : Type 0} (t : Tree) (path : List ℕ) (left : ℕ) (bytes rest : List ℕ) (more : List ℕ → Asks A) →
    bytes_at t path ≡ bytes ++ rest → at_rest t (pieces_then path left bytes more) ≡ at_rest t (more (bytes ++ take (left * piece_length) rest))
pieces_front t path zero bytes rest more e = ap (λ l. at_rest t (more l)) (sym (append-nil bytes))
pieces_front {A} t path (suc left) bytes rest more e =
    let piece : unwrap_or (part_of t path (length bytes) piece_length) [] ≡ take piece_length rest =
    part_is (t path) (length bytes) piece_length ∙ ap (λ l. take piece_length (drop (length bytes) l)) e ∙ ap (take piece_length) (drop-append_seam bytes rest) in
    ap (λ p. at_rest t (cond (nat_lt (length p) piece_length) (more (bytes ++ p)) (pieces_then path left (bytes ++ p) more))) piece
    ∙ by (nat_lt (length (take piece_length rest)) piece_length) refl
    (pieces_front t path left (bytes ++ take piece_length rest) (drop piece_length rest) more
    (e ∙ ap (λ l. bytes ++ l) (sym (take-append-drop piece_length rest)) ∙ sym (append_assoc bytes (take piece_length rest) (drop piece_length rest))))
    ∙ ap (λ n. at_rest t (more (bytes ++ take n rest))) (one_more left)
  where
    one_more : (n : ℕ) → piece_length + n * piece_length ≡ suc n * piece_length
    one_more n = omega arith

    by : (b : Bool) → nat_lt (length (take piece_length rest)) piece_length ≡ b
        → at_rest t (pieces_then path left (bytes ++ take piece_length rest) more) ≡ at_rest t (more (bytes ++ take piece_length rest ++ take (left * piece_length) (drop piece_length rest)))
        → at_rest t (cond b (more (bytes ++ take piece_length rest)) (pieces_then path left (bytes ++ take piece_length rest) more)) ≡ at_rest t (more (bytes ++ take (piece_length + left * piece_length) rest))
    by true h on = ap (λ l. at_rest t (more (bytes ++ l))) (short_piece piece_length rest h ∙ sym (short_rest piece_length (left * piece_length) rest h))
    by false h on = on ∙ ap (λ l. at_rest t (more l)) (append_assoc bytes (take piece_length rest) (take (left * piece_length) (drop piece_length rest)) ∙ ap (λ l. bytes ++ l) (sym (take-add piece_length (left * piece_length) rest)))

-- as much of a file as is read
abbrev front_of : List ℕ → List ℕ
front_of index = take (most_pieces * piece_length) index

pieces_read : (t : Tree) → at_rest t separate_log_asks ≡ log_of (front_of (bytes_at t changelog_index))
pieces_read t = pieces_front t changelog_index most_pieces [] (bytes_at t changelog_index) (λ index. answer (log_of index)) refl

-- ---- the lines

-- each of these lines is its changeset's, the first of which has this number
abbrev AreLines : (ℕ → Result (List ℕ) ReadAnswer) → List (List ℕ) → ℕ → List Changeset → Type 0
AreLines line known rev [] = Unit {0}
AreLines line known rev (c ∷ newer) = (line rev ≡ Ok (line_among known rev c)) × AreLines line known (suc rev) newer

-- the lines down from here, and those below
down_from : (line : ℕ → Result (List ℕ) ReadAnswer) (known : List (List ℕ)) (rev : ℕ) (history : List Changeset) → AreLines line known rev history
    → lines_down line (rev + length history) ≡ record { text = lines_from known rev history ++ (lines_down line rev).text; refusal = (lines_down line rev).refusal }
down_from line known rev [] h = ap (lines_down line) (rev_none rev)
  where
    rev_none : (n : ℕ) → n + 0 ≡ n
    rev_none n = omega arith
down_from line known rev (c ∷ newer) h =
    let below = lines_down line rev in
    let next : lines_down line (suc rev) ≡ record { text = line_among known rev c ++ below.text; refusal = below.refusal } = ap (λ l. line_then l below) h.0 in
    let on = down_from line known (suc rev) newer h.1 in
    ap (lines_down line) (count rev (length newer)) ∙ on
    ∙ ap (λ (o : Outcome). let all : Outcome = record { text = lines_from known (suc rev) newer ++ o.text; refusal = o.refusal } in all) next
    ∙ ap (λ l. let all : Outcome = record { text = l; refusal = below.refusal } in all) (sym (append_assoc (lines_from known (suc rev) newer) (line_among known rev c) below.text))
  where
    count : (a b : ℕ) → a + suc b ≡ suc a + b
    count a b = omega arith

-- what a revision's entry and text say is its line
line_is : (rev : ℕ) (e : Entry) (c : Changeset) (text : List ℕ) (known : List (List ℕ)) → c.revision ≡ revision_of e text → slice_index_or known rev null_node ≡ e.node.0
    → line_text rev e c.change ≡ line_among known rev c
line_is rev e c text known r n =
    ap (λ h. decimal rev ++ field (hex h) ++ field (parent_text e.p1) ++ field (parent_text e.p2) ++ change_fields c.change ++ 10 ∷ []) (sym n)
    ∙ ap (λ (x : Revision). decimal rev ++ field (hex (slice_index_or known rev null_node)) ++ field (parent_text x.parents.0) ++ field (parent_text x.parents.1) ++ change_fields c.change ++ 10 ∷ []) (sym r)

-- what is asked for a line, over files at rest
line_asked : (laws : IndexLaws) (t : Tree) (view : View) (rev : ℕ) (e : Entry) → loaded_either Ignore (bytes_at t changelog_index) ≡ Ok view.changelog → slice_get view.changelog.entries rev ≡ Some e
    → at_rest t (line_asks view rev) ≡ line_of_change rev e (change_of_chunk rev (text_of view.changelog.entries rev (chunk_in (chunks_in t) e)))
line_asked laws t view rev e loads at =
    let chunk = chunk_in (chunks_in t) e in
    ap (λ o. at_rest t (changeset_asks view.changelog.inline rev o (line_at view rev))) at
    ∙ chunk-asked laws t view.changelog rev e (line_at view rev) loads at
    ∙ ap (λ o. line_of_entry view rev chunk o) at

line_at_rest : (laws : IndexLaws) (t : Tree) (view : View) (rev : ℕ) (e : Entry) (c : Changeset) (text : List ℕ) (known : List (List ℕ)) → loaded_either Ignore (bytes_at t changelog_index) ≡ Ok view.changelog → slice_get view.changelog.entries rev ≡ Some e
    → text_of view.changelog.entries rev (chunk_in (chunks_in t) e) ≡ Ok text → c.revision ≡ revision_of e text → IsRead c → slice_index_or known rev null_node ≡ e.node.0
    → at_rest t (line_asks view rev) ≡ Ok (line_among known rev c)
line_at_rest laws t view rev e c text known loads at is r reads n =
    let text_is : text ≡ c.revision.text = ap (λ (x : Revision). x.text) (sym r) in
    line_asked laws t view rev e loads at
    ∙ ap (λ x. line_of_change rev e (change_of_chunk rev x)) is
    ∙ ap (λ x. line_of_change rev e (change_of_text rev (read_change x))) text_is
    ∙ ap (λ x. line_of_change rev e (change_of_text rev x)) reads
    ∙ ap (λ l. let a : Result (List ℕ) ReadAnswer = Ok l in a) (line_is rev e c text known r n)

node_seam : (before : List Entry) (e : Entry) (more : List Entry) → slice_index_or (nodes_of (before ++ e ∷ more)) (length before) null_node ≡ e.node.0
node_seam [] e more = refl
node_seam (x ∷ before) e more = node_seam before e more

-- the entries behind these give the lines of what is read of them
are_lines : (laws : IndexLaws) (t : Tree) (view : View) (before entries : List Entry) (history : List Changeset) → loaded_either Ignore (bytes_at t changelog_index) ≡ Ok view.changelog → view.changelog.entries ≡ before ++ entries
    → read_from view.changelog.entries (chunks_in t) (length before) entries ≡ Ok (revisions_of history) → AllByRecursion IsRead history
    → AreLines (λ rev. at_rest t (line_asks view rev)) (nodes_of view.changelog.entries) (length before) history
are_lines laws t view before entries [] loads is h reads = tt
are_lines laws t view before [] (c ∷ newer) loads is h reads = cc
are_lines laws t view before (e ∷ entries) (c ∷ newer) loads is h reads =
    let all = view.changelog.entries in
    let w = with_text_ok e (text_of all (length before) (chunk_in (chunks_in t) e)) (read_from all (chunks_in t) (suc (length before)) entries) (revisions_of (c ∷ newer)) h in
    let at : slice_get all (length before) ≡ Some e = ap (λ l. slice_get l (length before)) is ∙ slice_get_seam before e entries in
    let node : slice_index_or (nodes_of all) (length before) null_node ≡ e.node.0 = ap (λ l. slice_index_or (nodes_of l) (length before) null_node) is ∙ node_seam before e entries in
    let size : length (before ++ e ∷ []) ≡ suc (length before) = length-append before (e ∷ []) ∙ add_one (length before) in (
      line_at_rest laws t view (length before) e c w.0 (nodes_of all) loads at w.2 (first_is c newer (revision_of e w.0) w.1 w.4) reads.0 node,
      subst (λ n. AreLines (λ rev. at_rest t (line_asks view rev)) (nodes_of all) n newer) size
          (are_lines laws t view (before ++ e ∷ []) entries newer loads (is ∙ sym (append_assoc before (e ∷ []) entries))
          (ap (λ n. read_from all (chunks_in t) n entries) size ∙ w.3 ∙ ap (λ l. let a : Result (List Revision) RevFault = Ok l in a) (sym (rest_is c newer (revision_of e w.0) w.1 w.4))) reads.1),
    )
  where
    add_one : (n : ℕ) → n + 1 ≡ suc n
    add_one n = omega arith

    first_is : (c : Changeset) (newer : List Changeset) (r : Revision) (rest : List Revision) → revisions_of (c ∷ newer) ≡ r ∷ rest → c.revision ≡ r
    first_is c newer r rest h = cc

    rest_is : (c : Changeset) (newer : List Changeset) (r : Revision) (rest : List Revision) → revisions_of (c ∷ newer) ≡ r ∷ rest → revisions_of newer ≡ rest
    rest_is c newer r rest h = cc

-- a view whose texts are read as this history gives its lines
lines_are : (laws : IndexLaws) (t : Tree) (view : View) (history : List Changeset) → loaded_either Ignore (bytes_at t changelog_index) ≡ Ok view.changelog → read_all view.changelog.entries (chunks_in t) ≡ Ok (revisions_of history)
    → nodes_of view.changelog.entries ≡ nodes (revisions_of history) → AllByRecursion IsRead history → lines_of_view t view ≡ record { text = history_text history; refusal = None }
lines_are laws t view history loads texts nodes_are reads =
    let entries = view.changelog.entries in
    let lines = are_lines laws t view [] entries history loads refl texts reads in
    let entries_size = length-map entries (λ (e : Entry). e.node.0) in
    let nodes_size : length (nodes_of entries) ≡ 0 + length (revisions_of history) = ap length nodes_are ∙ length-nodes_from [] (revisions_of history) in
    let history_size = length-map history (λ (c : Changeset). c.revision) in
    let size : length entries ≡ 0 + length history = omega (arith, entries_size, nodes_size, history_size) in
    ap (lines_down (λ rev. at_rest t (line_asks view rev))) size
    ∙ down_from (λ rev. at_rest t (line_asks view rev)) (nodes_of entries) 0 history lines
    ∙ ap (λ l. let all : Outcome = record { text = l; refusal = None } in all) (append-nil (lines_from (nodes_of entries) 0 history) ∙ ap (λ known. lines_from known 0 history) nodes_are)

-- a view of this history, whose texts are read
pub record IsHistoryView (t : Tree) (history : List Changeset) (view : View) : Type 0 where
  pub answered : at_rest t open_asks ≡ Ok view
  pub loads : loaded_either Ignore (bytes_at t changelog_index) ≡ Ok view.changelog
  pub texts : read_all view.changelog.entries (chunks_in t) ≡ Ok (revisions_of history)
  pub nodes_are : nodes_of view.changelog.entries ≡ nodes (revisions_of history)

-- over files that hold a history a load gives a view of it
pub history-opens : (laws : IndexLaws) (t : Tree) (history : List Changeset) → HoldsHistory t history → Opens t (nodes (revisions_of history)) → AreWithinLimits (revisions_of history) (chunks_in t) → IsReadWhole t
    → (view : View) × (at_rest t open_asks ≡ Ok view) × IsHistoryView t history view
history-opens laws t history h opens within short =
    let index = bytes_at t changelog_index in
    let found = held-ignored (index_in t) (chunks_in t) (revisions_of history) h.held h.whole within in
    let nodes_are = nodes_of-agrees h.held.index_front h.held.data_front found.0.entries (revisions_of history) found.3 in
    let few : length (index_in t) / 64 ≤ 1000000 = (let a = h.whole in let b = within.few in omega (arith, a, b)) in
    let log : Log = record { inline = is_inline index; entries = found.0.entries } in
    let loads = either-load index found.0 found.1 in
    let o = opening t log (nodes (revisions_of history)) (asked-log laws t log short few loads) nodes_are opens in (
      o.0,
      o.1,
      record {
        answered = o.1;
        loads = loads ∙ ap (λ (l : Log). let r : Result Log RevFault = Ok l in r) (sym o.2);
        texts = ap (λ (l : Log). read_all l.entries (chunks_in t)) o.2 ∙ found.2;
        nodes_are = ap (λ (l : Log). nodes_of l.entries) o.2 ∙ nodes_are;
      },
    )

pub history-log : (laws : IndexLaws) (t : Tree) (history : List Changeset) → HoldsHistory t history → Opens t (nodes (revisions_of history)) → AreWithinLimits (revisions_of history) (chunks_in t) → IsReadWhole t → log_outcome t ≡ record { text = history_text history; refusal = None }
history-log laws t history h opens within short =
    let o = history-opens laws t history h opens within short in
    ap (log_of_view t) o.1 ∙ lines_are laws t o.0 history o.2.loads o.2.texts o.2.nodes_are h.read

-- ---- the other direction

-- where nothing is refused, each line was given
lines_ok : (line : ℕ → Result (List ℕ) ReadAnswer) (n : ℕ) → (lines_down line n).refusal ≡ None → (rev : ℕ) → rev < n → (l : List ℕ) × (line rev ≡ Ok l)
lines_ok line zero h rev few = absurd (omega (arith, few))
lines_ok line (suc n) h rev few = by (line n) refl h (lines_ok line n) (is_last rev n few)
  where
    is_last : (rev n : ℕ) → rev < suc n → (rev ≡ n) ⊎ (rev < n)
    is_last rev n few = pick (nat_lt rev n) refl
      where
        pick : (b : Bool) → nat_lt rev n ≡ b → (rev ≡ n) ⊎ (rev < n)
        pick true h = inr (grind (arith, h))
        pick false h = inl (grind (arith, h, few))

    by : (r : Result (List ℕ) ReadAnswer) → line n ≡ r → (line_then r (lines_down line n)).refusal ≡ None
        → ((lines_down line n).refusal ≡ None → (rev : ℕ) → rev < n → (l : List ℕ) × (line rev ≡ Ok l)) → (rev ≡ n) ⊎ (rev < n) → (l : List ℕ) × (line rev ≡ Ok l)
    by (Err e) is h on last = cc
    by (Ok l) is h on (inl same) = (l, ap line same ∙ is)
    by (Ok l) is h on (inr below) = on h rev below

change_told : (rev : ℕ) (e : Entry) (x : Result (List ℕ) RevFault) (l : List ℕ) → line_of_change rev e (change_of_chunk rev x) ≡ Ok l
    → (text : List ℕ) × (change : Change) × (x ≡ Ok text) × (read_change text ≡ Ok change)
change_told rev e (Err f) l h = cc
change_told rev e (Ok text) l h = by (read_change text) refl h
  where
    by : (r : Result Change ChangeFault) → read_change text ≡ r → line_of_change rev e (change_of_text rev r) ≡ Ok l
        → (written : List ℕ) × (change : Change) × ((let a : Result (List ℕ) RevFault = Ok text in a) ≡ Ok written) × (read_change written ≡ Ok change)
    by (Err f) is h = cc
    by (Ok c) is h = (text, c, refl, is)

-- the history that the entries behind these are, where each gives a line
history_of : (laws : IndexLaws) (t : Tree) (view : View) (before entries : List Entry) → loaded_either Ignore (bytes_at t changelog_index) ≡ Ok view.changelog → view.changelog.entries ≡ before ++ entries
    → ((rev : ℕ) → rev < length view.changelog.entries → (l : List ℕ) × (at_rest t (line_asks view rev) ≡ Ok l))
    → (history : List Changeset) × (read_from view.changelog.entries (chunks_in t) (length before) entries ≡ Ok (revisions_of history)) × AllByRecursion IsRead history
history_of laws t view before [] loads is lines = ([], refl, tt)
history_of laws t view before (e ∷ entries) loads is lines =
    let all = view.changelog.entries in
    let data_bytes = chunks_in t in
    let at : slice_get all (length before) ≡ Some e = ap (λ l. slice_get l (length before)) is ∙ slice_get_seam before e entries in
    let there : length before < length all = (let n = ap length is in let m = length-append before (e ∷ entries) in omega (arith, n, m)) in
    let line = lines (length before) there in
    let told = change_told (length before) e (text_of all (length before) (chunk_in data_bytes e)) line.0 (sym (line_asked laws t view (length before) e loads at) ∙ line.1) in
    let size : length (before ++ e ∷ []) ≡ suc (length before) = length-append before (e ∷ []) ∙ add_one (length before) in
    let on = history_of laws t view (before ++ e ∷ []) entries loads (is ∙ sym (append_assoc before (e ∷ []) entries)) lines in
    let first : Changeset = record { revision = revision_of e told.0; change = told.1 } in (
      first ∷ on.0,
      ap (λ x. with_text e x (read_from all data_bytes (suc (length before)) entries)) told.2
          ∙ ap (with_text e (Ok told.0)) (ap (λ n. read_from all data_bytes n entries) (sym size) ∙ on.1),
      (told.3, on.2),
    )
  where
    add_one : (n : ℕ) → n + 1 ≡ suc n
    add_one n = omega arith

-- an index that loads has no more entries than a revlog may have
few_entries : (index : List ℕ) (log : Log) → AreEntries log.entries → loaded Ignore index ≡ Ok log → length index / 64 ≤ most_revisions
few_entries index log are h =
    let whole = take (64 * (length index / 64)) index in
    let load : loaded Refuse whole ≡ Ok log = sym (ignore-refuse index) ∙ h in
    let count = load_length (length whole / 64) (record { inline = false; entries = [] }) log whole load in
    let few = are.few in
    let size = length-take (64 * (length index / 64)) index in
    omega (arith, count, few, size)

whole_front : (index : List ℕ) → length (front_of index) / 64 ≤ most_revisions → front_of index ≡ index
whole_front index few = let size = length-take (most_pieces * piece_length) index in take_all (most_pieces * piece_length) index (omega (arith, few, size))

-- what is asked for of the index loads, in its form
either-loads : (laws : IndexLaws) (t : Tree) (log : Log) → at_rest t log_asks ≡ Ok log → loaded_either Ignore (bytes_at t changelog_index) ≡ Ok log
either-loads laws t log h = by (is_inline (bytes_at t changelog_index)) refl
  where
    by : (b : Bool) → is_inline (bytes_at t changelog_index) ≡ b → loaded_either Ignore (bytes_at t changelog_index) ≡ Ok log
    by true e = inline-loads laws t log e h
    by false e =
        let index = bytes_at t changelog_index in
        let plain = fronts-separate (most_pieces * piece_length) index e in
        let front_load : loaded Ignore (front_of index) ≡ Ok log = log-in (loaded Ignore (front_of index)) log (sym (pieces_read t) ∙ sym (laws.rest t e) ∙ h) in
        let all : front_of index ≡ index = whole_front index (few_entries (front_of index) log (laws.entries Ignore (front_of index) log (laws.separate Ignore (front_of index) plain ∙ front_load)) front_load) in
        laws.separate Ignore index e ∙ ap (loaded Ignore) (sym all) ∙ front_load

pub log-history : (laws : IndexLaws) (t : Tree) → IsBytes (bytes_at t changelog_index) → (log_outcome t).refusal ≡ None → (history : List Changeset) × HoldsHistory t history × ((log_outcome t).text ≡ history_text history)
log-history laws t are none = by (at_rest t open_asks) refl none
  where
    by : (r : Result View ReadAnswer) → at_rest t open_asks ≡ r → (log_of_view t r).refusal ≡ None → (history : List Changeset) × HoldsHistory t history × ((log_of_view t r).text ≡ history_text history)
    by (Err e) is h = cc
    by (Ok view) is h =
        let index = bytes_at t changelog_index in
        let loads = either-loads laws t view.changelog (opened_log t view is) in
        let told = history_of laws t view [] view.changelog.entries loads refl (lines_ok (λ rev. at_rest t (line_asks view rev)) (length view.changelog.entries) h) in
        let apart : Log = record { inline = false; entries = view.changelog.entries } in
        let held = ignored-held (index_in t) (chunks_in t) apart (revisions_of told.0) (apart-bytes index are) (apart-load index view.changelog loads) told.1 in
        let nodes_are = nodes_of-agrees held.0.index_front held.0.data_front view.changelog.entries (revisions_of told.0) held.1 in (
          told.0,
          record { held = held.0; whole = held.2; read = told.2 },
          ap (λ (o : Outcome). o.text) (lines_are laws t view told.0 loads told.1 nodes_are told.2),
        )
