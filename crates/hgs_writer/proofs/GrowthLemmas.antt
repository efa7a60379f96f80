-- What is appended of a revision to a revlog is what the revlog grows by.
use Rattle.std.proofs.Common.{◌≡◌, ◌<◌, ℕ, ◌*◌, List, [], ◌∷◌, ◌++◌, Bool, true, false, ◌==◌, cond, length, refl, sym, ◌∙◌, ap, subst, arith, append-nil, length-append}
use Rattle.std.specs.Prelude.{Option, Some, None}
use Rattle.std.specs.List.{AllByRecursion}
use Rattle.std.proofs.lemmas.List.{map-append}
use Rattle.hgs_files.specs.declared.op.Op.{Op}
use Rattle.hgs_files.specs.Tree.{Tree, bytes_at}
use Rattle.hgs_index.specs.declared.entry.Header.{Header}
use Rattle.hgs_index.specs.Either.{chunk_bytes, data_more, index_more}
use Rattle.hgs_index.specs.Entry.{entry_bytes}
use Rattle.hgs_index.specs.Revision.{Revision, nodes, parent_node, with_revision_at}
use Rattle.hgs_index.specs.Revlog.{Item, chunk_of, entry_after, item_bytes, next_header}
use Rattle.hgs_index.specs.Theorems.EntryPartLemmas.{length-entry_bytes}
use Rattle.hgs_model.specs.Theorems.NodeLemmas.{node_hash-node}
use Rattle.hgs_ops.specs.Growth.{append_some, as_stored, grown, new_data, new_entries, new_items, own_header}
use Rattle.hgs_ops.specs.Theorems.GrowLemmas.{drop-front}
use Rattle.hgs_revlog.specs.Add.{next_entry}
use Rattle.hgs_revlog.specs.Log.{Log, new_header, stored_sum}
use Rattle.hgs_transaction.specs.OfTransaction.{IsOfTree}
use Rattle.hgs_transaction.specs.Parts.{change_op}
use Rattle.hgs_transaction.specs.declared.parts.Change.{Change}
use Rattle.hgs_transaction.specs.declared.parts.Change.TheVariants.{Append}
use Rattle.hgs_commit.specs.Appended.{append_some as append_to}
use Rattle.hgs_commit.specs.Texts.{OfLog, changes_of, growth_as}
use Rattle.hgs_writer.specs.Growth.{AreAppends, IsWhole, index_end}
use Rattle.hgs_writer.specs.Logs.{IsLogOf}
use Rattle.hgs_writer.specs.NewTexts.{growth_by}
use Rattle.hgs_writer.proofs.FormLemmas.{count-is, some-length}
use Rattle.hgs_writer.proofs.FreshLemmas.{drop-all}

-- ---- appends

-- nothing is appended
pub no-appends : (t : Tree) → AreAppends t [] []
no-appends t = record { are = refl; standing = tt }

pub appends-join : (t : Tree) (ops more : List Op) (xs ys : List Change) → AreAppends t ops xs → AreAppends t more ys → AreAppends t (ops ++ more) (xs ++ ys)
appends-join t ops more xs ys a b = record { are = map-append change_op xs ys ∙ (let e = a.are in let d = b.are in λ i. e i ++ d i); standing = all-join xs ys a.standing b.standing }
  where
    all-join : (us vs : List Change) → AllByRecursion (IsOfTree t) us → AllByRecursion (IsOfTree t) vs → AllByRecursion (IsOfTree t) (us ++ vs)
    all-join [] vs p q = q
    all-join (u ∷ us) vs p q = (p.0, all-join us vs p.1 q)

pub appends-some : (t : Tree) (path : List ℕ) (before : ℕ) (bytes : List ℕ) → before ≡ length (bytes_at t path) → AreAppends t (append_some path bytes) (append_to path before bytes)
appends-some t path before [] e = no-appends t
appends-some t path before (b ∷ bytes) e = record { are = refl; standing = (e, tt) }

-- ---- one revlog

no-entries : (inline : Bool) (old : List Revision) → new_entries inline old [] ≡ []
no-entries inline [] = refl
no-entries inline (r ∷ old) = refl

no-data : (inline : Bool) → new_data inline [] ≡ []
no-data true = refl
no-data false = refl

-- a revlog that stays grows by nothing
pub grown-none : (inline : Bool) (t : Tree) (index chunks : List ℕ) (old : List Revision) → grown inline t index chunks old old ≡ []
grown-none inline t index chunks old =
    let offset = length (chunk_bytes inline (bytes_at t index) (bytes_at t chunks)) in
    ap (λ (new : List Revision). append_some chunks (new_data inline (new_items offset old new)) ++ append_some index (new_entries inline old (new_items offset old new))) (drop-all old)
    ∙ (let rest = no-data inline in let entries = no-entries inline old in λ i. append_some chunks (rest i) ++ append_some index (entries i))

-- the item of one more revision
abbrev pub item_behind : ℕ → List Revision → Revision → Item
item_behind offset old r = record { entry = entry_after offset (nodes old) (as_stored r); chunk = chunk_of r.text }

one-item : (inline : Bool) (first : Option Header) (i : Item) → item_bytes (own_header inline) first i ≡ index_more inline first i
one-item true first i = refl
one-item false first i = append-nil (entry_bytes i.entry first)

pub one-entry : (inline : Bool) (offset : ℕ) (old : List Revision) (r : Revision) → new_entries inline old (new_items offset old (r ∷ [])) ≡ index_more inline (next_header old (own_header inline)) (item_behind offset old r)
one-entry inline offset [] r = append-nil _ ∙ one-item inline (Some (own_header inline)) (item_behind offset [] r)
one-entry inline offset (x ∷ old) r = append-nil _ ∙ one-item inline None (item_behind offset (x ∷ old) r)

one-chunk : (inline : Bool) (offset : ℕ) (old : List Revision) (r : Revision) → new_data inline (new_items offset old (r ∷ [])) ≡ data_more inline (chunk_of r.text)
one-chunk true offset old r = refl
one-chunk false offset old r = append-nil (chunk_of r.text)

-- one more revision
abbrev grown_by_one : Bool → Tree → List ℕ → List ℕ → List Revision → Revision → List Op
grown_by_one inline t index chunks old r =
    append_some chunks (data_more inline (chunk_of r.text))
    ++ append_some index (index_more inline (next_header old (own_header inline)) (item_behind (length (chunk_bytes inline (bytes_at t index) (bytes_at t chunks))) old r))

grown-one : (inline : Bool) (t : Tree) (index chunks : List ℕ) (old : List Revision) (r : Revision) → grown inline t index chunks old (old ++ r ∷ []) ≡ grown_by_one inline t index chunks old r
grown-one inline t index chunks old r =
    let offset = length (chunk_bytes inline (bytes_at t index) (bytes_at t chunks)) in
    ap (λ (new : List Revision). append_some chunks (new_data inline (new_items offset old new)) ++ append_some index (new_entries inline old (new_items offset old new))) (drop-front old (r ∷ []))
    ∙ ap (λ c. append_some chunks c ++ append_some index (new_entries inline old (new_items offset old (r ∷ [])))) (one-chunk inline offset old r)
    ∙ ap (λ e. append_some chunks (data_more inline (chunk_of r.text)) ++ append_some index e) (one-entry inline offset old r)

-- where there are bytes they are appended
append-bytes : (path bytes : List ℕ) → 0 < length bytes → Op.Append path bytes ∷ [] ≡ append_some path bytes
append-bytes path [] some = absurd (omega (arith, some))
append-bytes path (b ∷ bytes) some = refl

pub header-is : (log : Log) (old : List Revision) → length log.entries ≡ length old → new_header log ≡ next_header old (own_header log.inline)
header-is log [] count = ap (λ n. let h : Option Header = cond (n == 0) (Some (record { inline = log.inline; generaldelta = false })) None in h) count
header-is log (r ∷ old) count = ap (λ b. let h : Option Header = cond b (Some (record { inline = log.inline; generaldelta = false })) None in h) (some-length (length log.entries) (omega (arith, count)))

entry-some : (offset : ℕ) (old : List Revision) (r : Revision) (h : Option Header) → 0 < length (entry_bytes (entry_after offset (nodes old) (as_stored r)) h)
entry-some offset old r h =
    omega (arith, length-entry_bytes (entry_after offset (nodes old) (as_stored r)) h (node_hash-node (parent_node (nodes old) r.parents.0) (parent_node (nodes old) r.parents.1) r.text).size)

-- the bytes of the entry that is appended
pub entry-bytes : (t : Tree) (f : OfLog) (old : List Revision) (r : Revision) → IsLogOf t f old → IsWhole t f
    → entry_bytes (next_entry f.log.entries r) (new_header f.log) ≡ entry_bytes (entry_after (length (chunk_bytes f.log.inline (bytes_at t f.index) (bytes_at t f.chunks))) (nodes old) (as_stored r)) (next_header old (own_header f.log.inline))
entry-bytes t f old r is whole =
    let offset = sym whole.chunks in
    let known = is.nodes_are in
    let header = header-is f.log old (count-is t f old is) in
    λ i. entry_bytes (entry_after (offset i) (known i) (as_stored r)) (header i)

-- what is appended of a revision, where this is the revision that it is already
pub growth-grows : (t : Tree) (f : OfLog) (old : List Revision) (r : Revision) (o : Option ℕ) → IsLogOf t f old → IsWhole t f → AreAppends t (grown f.log.inline t f.index f.chunks old (with_revision_at o old r)) (changes_of (growth_by f r o))
growth-grows t f old r (Some rev) is whole = subst (λ (ops : List Op). AreAppends t ops []) (sym (grown-none f.log.inline t f.index f.chunks old)) (no-appends t)
growth-grows t f old r None is whole =
    subst (λ (ops : List Op). AreAppends t ops (changes_of (growth_by f r None))) (sym (grown-one f.log.inline t f.index f.chunks old r)) (by f.log.inline refl)
  where
    written : List ℕ
    written = entry_bytes (next_entry f.log.entries r) (new_header f.log)

    offset : Bool → ℕ
    offset b = length (chunk_bytes b (bytes_at t f.index) (bytes_at t f.chunks))

    own : Bool → List ℕ
    own b = entry_bytes (entry_after (length (chunk_bytes b (bytes_at t f.index) (bytes_at t f.chunks))) (nodes old) (as_stored r)) (next_header old (own_header b))

    same : (b : Bool) → f.log.inline ≡ b → written ≡ own b
    same b e = entry-bytes t f old r is whole ∙ ap own e

    some : (b : Bool) → 0 < length (own b)
    some b = entry-some (offset b) old r (next_header old (own_header b))

    by : (b : Bool) → f.log.inline ≡ b → AreAppends t (grown_by_one b t f.index f.chunks old r) (changes_of (Some (growth_as b f (entry_bytes (next_entry f.log.entries r) (new_header f.log)) (chunk_of r.text))))
    by true e = record {
      are = ap (λ bytes. Op.Append f.index (bytes ++ chunk_of r.text) ∷ []) (same true e) ∙ append-bytes f.index (own true ++ chunk_of r.text) (let long = some true in omega (arith, long, length-append (own true) (chunk_of r.text)));
      standing = (sym (whole.entries ∙ ap (λ b. index_end b f.log.entries) e), tt);
    }
    by false e =
        appends-join t (append_some f.chunks (chunk_of r.text)) (append_some f.index (own false)) (append_to f.chunks (stored_sum f.log.entries) (chunk_of r.text)) (Append (record { path = f.index; before = 64 * length f.log.entries; bytes = written }) ∷ [])
        (appends-some t f.chunks (stored_sum f.log.entries) (chunk_of r.text) (sym (ap (λ b. length (chunk_bytes b (bytes_at t f.index) (bytes_at t f.chunks))) (sym e) ∙ whole.chunks)))
        (record { are = ap (λ bytes. Op.Append f.index bytes ∷ []) (same false e) ∙ append-bytes f.index (own false) (some false); standing = (sym (whole.entries ∙ ap (λ b. index_end b f.log.entries) e), tt) })
