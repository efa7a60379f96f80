-- The files of a changeset, and their bodies, where the files hold them.
use Rattle.std.proofs.Common.{◌≡◌, ℕ, ◌-◌, ◌≤◌, false, cond, List, [], ◌∷◌, ◌++◌, take, length, Some, None, Result, Ok, Err, ◌∙◌, ap, subst, arith}
use Rattle.std.specs.Prelude.{nat_lt, slice_get, unwrap_or}
use Rattle.std.proofs.lemmas.Bool.Decides.{nat_tests}
use Rattle.hgs_bytes.specs.Bytes.{same, IsPrefixOf}
use Rattle.hgs_files.specs.declared.op.Op.{Op}
use Rattle.hgs_files.specs.Tree.{Tree, after_all, bytes_at}
use Rattle.hgs_index.specs.declared.kinds.Flag.{Flag}
use Rattle.hgs_index.specs.declared.kinds.Which.TheVariants.{FileText, Tree as TooMany}
use Rattle.hgs_index.specs.ChangeText.{Change}
use Rattle.hgs_index.specs.FileText.{body_of}
use Rattle.hgs_index.specs.Inline.{is_inline}
use Rattle.hgs_index.specs.Manifest.{Row, AreRows, manifest_text, read_manifest}
use Rattle.hgs_index.specs.Node.{null_node}
use Rattle.hgs_index.specs.Revision.{Revision}
use Rattle.hgs_index.specs.Revlog.{BeginsWithRevisions, HoldsRevisions}
use Rattle.hgs_index.specs.Theorems.ManifestText.{manifest_back}
use Rattle.hgs_manifest.specs.Held.{found_in}
use Rattle.hgs_path.specs.Check.{checked}
use Rattle.hgs_path.specs.StoreName.{store_name}
use Rattle.hgs_path.specs.declared.name.Ext.TheVariants.{I, D}
use Rattle.hgs_load.specs.declared.answer.ReadAnswer.{ReadAnswer}
use Rattle.hgs_load.specs.declared.answer.ReadAnswer.TheVariants.{Limit, UnknownPath}
use Rattle.hgs_load.specs.Asks.{Asks, answer, read, part_of, at_rest, then_asks, MayAnswer}
use Rattle.hgs_reader.specs.Contents.{manifest_index, manifest_data, most_files, most_file_text, rows_answer, rows_asks, tree_asks, files_text, files_asks, tracked_node, file_node, body_answer, body_asks, cat_asks}
use Rattle.hgs_reader.specs.Find.{inline_behind, separate_asks, separate_behind, text_asks}
use Rattle.hgs_reader.specs.Held.{HasSeparateText, HasText}
use Rattle.hgs_reader.specs.Line.{change_asks}
use Rattle.hgs_load.specs.View.{View, piece_length}
use Rattle.hgs_reader.specs.Theorems.HeldLemmas.{held-text}
use Rattle.hgs_load.specs.Theorems.AskLemmas.{prefix-trans}
use Rattle.hgs_load.specs.Theorems.OpenedLemmas.{rest_then}
use Rattle.hgs_load.specs.Theorems.PartLemmas.{part_is}

abbrev pub SaysSeparate : Type 0
SaysSeparate = (index data_bytes more : List ℕ) (first : Revision) (revisions : List Revision) → HoldsRevisions index data_bytes (first ∷ revisions) → is_inline (index ++ more) ≡ false

abbrev pub FrontsAre : Type 0
FrontsAre = (size : ℕ) (index : List ℕ) → is_inline index ≡ false → is_inline (take size index) ≡ false

-- an index that begins with a revision of a separate revlog is separate
pub begins-separate : SaysSeparate → (index data_bytes : List ℕ) (revisions : List Revision) (last : Revision) → BeginsWithRevisions index data_bytes revisions → slice_get revisions (length revisions - 1) ≡ Some last → is_inline index ≡ false
begins-separate says index data_bytes [] last b there = cc
begins-separate says index data_bytes (r ∷ revisions) last b there = ap is_inline b.index_begins.1 ∙ says b.index_front b.data_front b.index_begins.0 r revisions b.held

-- of a separate index the first piece says so
pub separate-at-rest : FrontsAre → (t : Tree) (index chunks node : List ℕ) → is_inline (bytes_at t index) ≡ false → at_rest t (text_asks index chunks node) ≡ at_rest t (separate_asks index chunks node)
separate-at-rest fronts t index chunks node plain =
    let first = unwrap_or (part_of t index 0 piece_length) [] in
    ap (λ b. at_rest t (cond b (inline_behind index node first) (separate_behind index chunks node first))) (ap is_inline (part_is (t index) 0 piece_length) ∙ fronts piece_length (bytes_at t index) plain)

-- the questions end on a longer list
pub may-front : {A : Type 0} (q : Asks A) (start : Tree) (from last : List Op) (y : A) → MayAnswer start from q last y → IsPrefixOf from last
may-front (answer x) start from last y m = m.0
may-front (read path at most rest) start from last y m = prefix-trans from m.0 last m.1 (may-front (rest (part_of (after_all m.0 start) path at most)) start m.0 last y m.2)

pub separate-at-moments : FrontsAre → (start : Tree) (from last : List Op) (index chunks node : List ℕ) (y : Result (List ℕ) ReadAnswer) → ((now : List Op) → IsPrefixOf from now → IsPrefixOf now last → is_inline (bytes_at (after_all now start) index) ≡ false)
    → MayAnswer start from (text_asks index chunks node) last y → MayAnswer start from (separate_asks index chunks node) last y
separate-at-moments fronts start from last index chunks node y plain m =
    let t = after_all m.0 start in
    let first = unwrap_or (part_of t index 0 piece_length) [] in
    let goes = may-front (cond (is_inline first) (inline_behind index node first) (separate_behind index chunks node first)) start m.0 last y m.2 in
    let says : is_inline first ≡ false = ap is_inline (part_is (t index) 0 piece_length) ∙ fronts piece_length (bytes_at t index) (plain m.0 m.1 goes) in
    (m.0, m.1, subst (λ b. MayAnswer start m.0 (cond b (inline_behind index node first) (separate_behind index chunks node first)) last y) says m.2)

pub separate-held : (t : Tree) (index chunks node text : List ℕ) → HasSeparateText t index chunks node text → at_rest t (separate_asks index chunks node) ≡ Ok text
separate-held t index chunks node text h =
    held-text t index chunks h.revisions h.last node h.held h.ends h.limits h.is_last ∙ ap (λ x. let a : Result (List ℕ) ReadAnswer = Ok x in a) h.text_is

pub text-held : SaysSeparate → FrontsAre → (t : Tree) (index chunks node text : List ℕ) → HasSeparateText t index chunks node text → at_rest t (text_asks index chunks node) ≡ Ok text
text-held says fronts t index chunks node text h =
    separate-at-rest fronts t index chunks node (begins-separate says (bytes_at t index) (bytes_at t chunks) h.revisions h.last h.held h.is_last)
    ∙ separate-held t index chunks node text h

-- where a revlog has a text, in either form, it is what is found
abbrev pub AreHeld : Type 0
AreHeld = (t : Tree) (index chunks node text : List ℕ) → HasText t index chunks node text → at_rest t (text_asks index chunks node) ≡ Ok text

not_above : (most n : ℕ) → n ≤ most → nat_lt most n ≡ false
not_above most n h = grind (arith, nat_tests, h)

pub tree-held : AreHeld → (t : Tree) (view : View) (rev : ℕ) (change : Change) (rows : List Row) → at_rest t (change_asks view rev) ≡ Ok change → same change.manifest null_node ≡ false → HasText t manifest_index manifest_data change.manifest (manifest_text rows) → AreRows rows
    → length rows ≤ most_files → at_rest t (tree_asks view rev) ≡ Ok rows
tree-held texts_held t view rev change rows c named h are few =
    let texts = text_asks manifest_index manifest_data change.manifest in
    let rows_of : List ℕ → Asks (Result (List Row) ReadAnswer) = λ text. answer (rows_answer (read_manifest text)) in
    rest_then t (change_asks view rev) (λ (c : Change). rows_asks c.manifest) change c
    ∙ ap (λ b. at_rest t (cond b (answer (Ok [])) (then_asks texts rows_of))) named
    ∙ rest_then t texts rows_of (manifest_text rows) (texts_held t manifest_index manifest_data change.manifest (manifest_text rows) h)
    ∙ ap rows_answer (manifest_back rows are)
    ∙ ap (λ b. cond b (Err (Limit TooMany)) (Ok rows)) (not_above most_files (length rows) few)

pub files-held : (t : Tree) (view : View) (rev : ℕ) (rows : List Row) → at_rest t (tree_asks view rev) ≡ Ok rows → at_rest t (files_asks view rev) ≡ Ok (files_text rows)
files-held t view rev rows h = rest_then t (tree_asks view rev) (λ (rows : List Row). answer (Ok (files_text rows))) rows h

pub body-held : AreHeld → (t : Tree) (view : View) (rev : ℕ) (rows : List Row) (path node text : List ℕ) (flag : Flag) → at_rest t (tree_asks view rev) ≡ Ok rows → checked path ≡ Ok tt → found_in path rows ≡ Some (node, flag)
    → HasText t (store_name path I) (store_name path D) node text → length (body_of text) ≤ most_file_text → at_rest t (cat_asks view rev path) ≡ Ok (body_of text)
body-held texts_held t view rev rows path node text flag r tracked found h few =
    let named : file_node path rows ≡ Ok node = ap (λ o. tracked_node (checked path) o) found ∙ ap (λ q. tracked_node q (Some (node, flag))) tracked in
    rest_then t (tree_asks view rev) (λ (rows : List Row). then_asks (answer (file_node path rows)) (λ node. body_asks path node)) rows r
    ∙ ap (λ (q : Result (List ℕ) ReadAnswer). at_rest t (then_asks (answer q) (λ node. body_asks path node))) named
    ∙ rest_then t (text_asks (store_name path I) (store_name path D) node) (λ text. answer (body_answer text)) text (texts_held t (store_name path I) (store_name path D) node text h)
    ∙ ap (λ b. cond b (Err (Limit FileText)) (Ok (body_of text))) (not_above most_file_text (length (body_of text)) few)

pub path-lacks : (t : Tree) (view : View) (rev : ℕ) (rows : List Row) (path : List ℕ) → at_rest t (tree_asks view rev) ≡ Ok rows → checked path ≡ Ok tt → found_in path rows ≡ None → at_rest t (cat_asks view rev path) ≡ Err UnknownPath
path-lacks t view rev rows path r tracked none =
    let named : file_node path rows ≡ Err UnknownPath = ap (λ o. tracked_node (checked path) o) none ∙ ap (λ q. tracked_node q None) tracked in
    rest_then t (tree_asks view rev) (λ (rows : List Row). then_asks (answer (file_node path rows)) (λ node. body_asks path node)) rows r
    ∙ ap (λ (q : Result (List ℕ) ReadAnswer). at_rest t (then_asks (answer q) (λ node. body_asks path node))) named
