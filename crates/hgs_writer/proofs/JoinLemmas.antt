-- What is joined of layers.
use Rattle.std.proofs.Common.{◌≡◌, ℕ, suc, ◌+◌, ◌*◌, ◌≤◌, Bool, true, false, zero, List, [], ◌∷◌, ◌++◌, length, take, drop, map, refl, sym, ◌∙◌, ap, subst, append_assoc, append-nil, arith, length-append}
use Rattle.std.specs.Prelude.{◌&&◌, codes, Option, Some, None, IfSome, unwrap_or, option_map, flat_map, is_some}
use Rattle.std.specs.List.{list_all}
use Rattle.hgs_bytes.specs.Bytes.{begins_with}
use Rattle.hgs_commit.specs.Appended.{append_some}
use Rattle.hgs_load.specs.Asks.{part_of}
use Rattle.hgs_files.specs.Tree.{Tree, bytes_at}
use Rattle.hgs_transaction.specs.declared.parts.Change.{Change}
use Rattle.hgs_transaction.specs.declared.parts.Change.TheVariants.{Append, MakeIndex, RenameIndex}
use Rattle.hgs_transaction.specs.declared.parts.Parts.{Parts}
use Rattle.hgs_transaction.specs.declared.parts.ReplacedFile.{ReplacedFile}
use Rattle.hgs_transaction.specs.declared.parts.ReplacedFile.TheVariants.{PhaseRoots, Dirstate, Bookmarks}
use Rattle.hgs_transaction.specs.declared.parts.Replacing.{Replacing}
use Rattle.hgs_commit.specs.OfCommit.{optional_replace}
use Rattle.hgs_steps.specs.declared.loaded.Standing.{Standing}
use Rattle.hgs_overlay.specs.Layers.{layer_at}
use Rattle.hgs_overlay.specs.declared.layers.Layers.{Layers}
use Rattle.hgs_stands.specs.Places.{changelog_data, changelog_index, fncache_path, manifest_data, manifest_index}
use Rattle.hgs_bytes.specs.Text.{line}
use Rattle.hgs_path.specs.declared.name.Ext.{Ext}
use Rattle.hgs_path.specs.declared.name.Ext.TheVariants.{I, D}
use Rattle.hgs_path.specs.StoreName.{store_name}
use Rattle.hgs_writer.specs.Joined.{joined_append, joined_appends, joined_filelog, joined_lines, joined_names, names_of_new, names_with, replaced_path}
use Rattle.hgs_writer.specs.Layered.{AddsAppends, ArePartsOfImport, PushesAppend, as_list, bytes_over, is_appended, is_in_place, layer_bytes, names_behind, parts_over, replaced_over, replacing_when}

-- ---- appends

pub no-appends : (xs : List Change) → AddsAppends 0 xs xs
no-appends xs = ([], sym (append-nil xs), omega arith, refl)

all-both : (xs ys : List Change) → list_all is_appended xs ≡ true → list_all is_appended ys ≡ true → list_all is_appended (xs ++ ys) ≡ true
all-both [] ys h k = k
all-both (x ∷ xs) ys h k = by (is_appended x) (λ e. all-both xs ys e k) h
  where
    by : (b : Bool) → (list_all is_appended xs ≡ true → list_all is_appended (xs ++ ys) ≡ true) → (b && list_all is_appended xs) ≡ true → (b && list_all is_appended (xs ++ ys)) ≡ true
    by true rest e = rest e
    by false rest e = e

pub more-appends : (m n : ℕ) (a b c : List Change) → AddsAppends m a b → AddsAppends n b c → AddsAppends (m + n) a c
more-appends m n a b c h k =
    (h.0 ++ k.0, k.1 ∙ ap (λ l. l ++ k.0) h.1 ∙ append_assoc a h.0 k.0, (let x = h.2 in let y = k.2 in omega (arith, x, y, length-append h.0 k.0)), all-both h.0 k.0 h.3 k.3)

pub at-most : (m n : ℕ) (a b : List Change) → m ≤ n → AddsAppends m a b → AddsAppends n a b
at-most m n a b le h = (h.0, h.1, (let x = h.2 in omega (arith, x, le)), h.3)

pub pushed-appends : (path bytes : List ℕ) (before : Option ℕ) (old new : List Change) → begins_with path (codes "store/") ≡ true → PushesAppend path bytes before old new → AddsAppends 1 old new
pushed-appends path [] before old new e h = ([], h.1 ∙ sym (append-nil old), omega arith, refl)
pushed-appends path (b ∷ bytes) None old new e h = absurd h
pushed-appends path (b ∷ bytes) (Some n) old new e h = (Append (record { path = path; before = n; bytes = b ∷ bytes }) ∷ [], h, omega arith, all-one)
  where
    all-one : (begins_with path (codes "store/") && true) ≡ true
    all-one = ap (λ x. x && true) e

-- what is pushed behind a file of this length
pub pushed-is : (t : Tree) (path bytes : List ℕ) (before : Option ℕ) (old new : List Change) → PushesAppend path bytes before old new → IfSome before (λ n. n ≡ length (bytes_at t path)) → new ≡ old ++ append_some path (length (bytes_at t path)) bytes
pushed-is t path [] before old new h is = h.1 ∙ sym (append-nil old)
pushed-is t path (b ∷ bytes) None old new h is = absurd h
pushed-is t path (b ∷ bytes) (Some n) old new h is = h ∙ ap (λ k. old ++ Append (record { path = path; before = k; bytes = b ∷ bytes }) ∷ []) is

-- ---- the new index

take-all : {A : Type 0} (xs : List A) (n : ℕ) → n ≡ length xs → take n xs ≡ xs
take-all [] n e = rw e refl
take-all (x ∷ xs) n e = rw e (ap (λ l. x ∷ l) (take-all xs (length xs) refl))

-- a file that is read to its length
pub read-whole : (o part : Option (List ℕ)) (n : ℕ) → n ≡ length (unwrap_or o []) → part ≡ option_map (λ bytes. take n (drop 0 bytes)) o → unwrap_or part [] ≡ unwrap_or o []
read-whole None part n is e = ap (λ p. unwrap_or p []) e
read-whole (Some l) part n is e = ap (λ p. unwrap_or p []) e ∙ take-all l n is

pub index-is : (t : Tree) (path : List ℕ) (l : Layers) (before : ℕ) (part : Option (List ℕ)) (read copied bytes : List ℕ) → path ≡ changelog_index → before ≡ length (bytes_at t path) → part ≡ part_of t path 0 before
    → read ≡ unwrap_or part [] → copied ≡ read → bytes ≡ copied ++ bytes_over l path → (bytes ≡ bytes_at t changelog_index ++ bytes_over l changelog_index) × (before ≡ length (bytes_at t changelog_index))
index-is t path l before part read copied bytes e is at gave copy laid = (
  laid ∙ ap (λ x. x ++ bytes_over l path) (copy ∙ gave ∙ read-whole (t path) part before is at) ∙ ap (λ p. bytes_at t p ++ bytes_over l p) e,
  is ∙ ap (λ p. length (bytes_at t p)) e,
)

-- ---- a file of a name

pub named-is : (t : Tree) (l : Layers) (path name : List ℕ) (before : Option ℕ) (old new : List Change) → path ≡ name → PushesAppend path (bytes_over l path) before old new → IfSome before (λ n. n ≡ length (bytes_at t path)) → new ≡ old ++ joined_append t (bytes_over l) name
named-is t l path name before old new e h is = pushed-is t path (bytes_over l path) before old new h is ∙ ap (λ p. old ++ append_some p (length (bytes_at t p)) (bytes_over l p)) e

pub lines-are : (t : Tree) (path lines : List ℕ) (before : ℕ) (old new : List Change) → (lines ≡ [] → ⊥) → path ≡ fncache_path → before ≡ length (bytes_at t path) → new ≡ old ++ Append (record { path = path; before = before; bytes = lines }) ∷ []
    → new ≡ old ++ append_some fncache_path (length (bytes_at t fncache_path)) lines
lines-are t path [] before old new some e is added = absurd (some refl)
lines-are t path (b ∷ lines) before old new some e is added =
    added ∙ ap (λ n. old ++ Append (record { path = path; before = n; bytes = b ∷ lines }) ∷ []) is ∙ ap (λ p. old ++ Append (record { path = p; before = length (bytes_at t p); bytes = b ∷ lines }) ∷ []) e

pub in-the-store : (path : List ℕ) (ext : Ext) → begins_with (store_name path ext) (codes "store/") ≡ true
in-the-store path ext = refl

-- ---- a filelog

names-are : (path standing index data_bytes : List ℕ) (dp ip : List ℕ) (d b : Option ℕ) (c0 c1 c2 : List Change) → PushesAppend dp data_bytes d c0 c1 → PushesAppend ip index b c1 c2 → IfSome b (λ n. n ≡ length standing) → names_behind path d b ≡ names_with path standing index data_bytes
names-are path [] [] data_bytes dp ip d b c0 c1 c2 h k is = ap (names_behind path d) k.0
names-are path (s ∷ standing) [] data_bytes dp ip d b c0 c1 c2 h k is = ap (names_behind path d) k.0
names-are path standing (i ∷ index) data_bytes dp ip d None c0 c1 c2 h k is = absurd k
names-are path (s ∷ standing) (i ∷ index) data_bytes dp ip d (Some n) c0 c1 c2 h k is = ap (λ m. names_behind path d (Some m)) is
names-are path [] (i ∷ index) [] dp ip d (Some n) c0 c1 c2 h k is = ap (λ m. names_behind path d (Some m)) is ∙ ap (λ o. names_of_new path (is_some o)) h.0
names-are path [] (i ∷ index) (c ∷ data_bytes) dp ip None (Some n) c0 c1 c2 h k is = absurd h
names-are path [] (i ∷ index) (c ∷ data_bytes) dp ip (Some m) (Some n) c0 c1 c2 h k is = ap (λ m. names_behind path (Some m) (Some m)) is

abbrev pub OneFilelog : Tree → Layers → List ℕ → List Change → List Change → List ℕ → List ℕ → Type 0
OneFilelog t l path c0 c2 l0 l2 = (c2 ≡ c0 ++ joined_filelog t (bytes_over l) path) × (l2 ≡ l0 ++ flat_map line (joined_names t (bytes_over l) path))

pub filelog-is : (t : Tree) (l : Layers) (path dp ip : List ℕ) (d b : Option ℕ) (c0 c1 c2 : List Change) (l0 l2 : List ℕ) → dp ≡ store_name path D → ip ≡ store_name path I
    → PushesAppend dp (bytes_over l dp) d c0 c1 → PushesAppend ip (bytes_over l ip) b c1 c2 → l2 ≡ l0 ++ flat_map line (names_behind path d b) → IfSome d (λ n. n ≡ length (bytes_at t dp)) → IfSome b (λ n. n ≡ length (bytes_at t ip)) → OneFilelog t l path c0 c2 l0 l2
filelog-is t l path dp ip d b c0 c1 c2 l0 l2 de ie h k lines dis iis =
    let first : c1 ≡ c0 ++ joined_append t (bytes_over l) (store_name path D) = named-is t l dp (store_name path D) d c0 c1 de h dis in
    let second : c2 ≡ c1 ++ joined_append t (bytes_over l) (store_name path I) = named-is t l ip (store_name path I) b c1 c2 ie k iis in
    let names : names_behind path d b ≡ joined_names t (bytes_over l) path =
    names-are path (bytes_at t ip) (bytes_over l ip) (bytes_over l dp) dp ip d b c0 c1 c2 h k iis
    ∙ (λ i. names_with path (bytes_at t (ie i)) (bytes_over l (ie i)) (bytes_over l (de i))) in (
      second ∙ ap (λ x. x ++ joined_append t (bytes_over l) (store_name path I)) first ∙ append_assoc c0 (joined_append t (bytes_over l) (store_name path D)) (joined_append t (bytes_over l) (store_name path I)),
      lines ∙ ap (λ n. l0 ++ flat_map line n) names,
    )

-- ---- all filelogs

lines-both : (xs ys : List (List ℕ)) → flat_map line (xs ++ ys) ≡ flat_map line xs ++ flat_map line ys
lines-both [] ys = refl
lines-both (x ∷ xs) ys = ap (λ l. line x ++ l) (lines-both xs ys) ∙ sym (append_assoc (line x) (flat_map line xs) (flat_map line ys))

-- what is joined so far, and what is left comes to the whole
abbrev pub Joining : Tree → Layers → List (List ℕ) → List (List ℕ) → List Change → List ℕ → Type 0
Joining t l paths left changes lines =
    (changes ++ flat_map (joined_filelog t (bytes_over l)) left ≡ flat_map (joined_filelog t (bytes_over l)) paths) × (lines ++ flat_map line (flat_map (joined_names t (bytes_over l)) left) ≡ joined_lines t (bytes_over l) paths)

pub joining-begins : (t : Tree) (l : Layers) (paths left : List (List ℕ)) (changes : List Change) (lines : List ℕ) → left ≡ paths → changes ≡ [] → lines ≡ [] → Joining t l paths left changes lines
joining-begins t l paths left changes lines same_paths none empty =
    ((λ i. none i ++ flat_map (joined_filelog t (bytes_over l)) (same_paths i)), (λ i. empty i ++ flat_map line (flat_map (joined_names t (bytes_over l)) (same_paths i))))

pub joining-goes : (t : Tree) (l : Layers) (paths all left : List (List ℕ)) (path : List ℕ) (c0 c2 : List Change) (l0 l2 : List ℕ) → all ≡ path ∷ left → Joining t l paths all c0 l0 → OneFilelog t l path c0 c2 l0 l2 → Joining t l paths left c2 l2
joining-goes t l paths all left path c0 c2 l0 l2 steps was one =
    let f = joined_filelog t (bytes_over l) in
    let n = joined_names t (bytes_over l) in (
      ap (λ c. c ++ flat_map f left) one.0 ∙ append_assoc c0 (f path) (flat_map f left) ∙ ap (λ x. c0 ++ flat_map f x) (sym steps) ∙ was.0,
      ap (λ c. c ++ flat_map line (flat_map n left)) one.1 ∙ append_assoc l0 (flat_map line (n path)) (flat_map line (flat_map n left)) ∙ ap (λ x. l0 ++ x) (sym (lines-both (n path) (flat_map n left))) ∙ ap (λ x. l0 ++ flat_map line (flat_map n x)) (sym steps) ∙ was.1,
    )

pub joining-ends : (t : Tree) (l : Layers) (paths left : List (List ℕ)) (changes : List Change) (lines : List ℕ) → left ≡ [] → Joining t l paths left changes lines
    → (changes ≡ flat_map (joined_filelog t (bytes_over l)) paths) × (lines ≡ joined_lines t (bytes_over l) paths)
joining-ends t l paths left changes lines none was =
    let f = joined_filelog t (bytes_over l) in
    let n = joined_names t (bytes_over l) in
    (sym (append-nil changes) ∙ ap (λ x. changes ++ flat_map f x) (sym none) ∙ was.0, sym (append-nil lines) ∙ ap (λ x. lines ++ flat_map line (flat_map n x)) (sym none) ∙ was.1)

-- so many of them are appended
abbrev pub Counted : List (List ℕ) → List (List ℕ) → List Change → Type 0
Counted paths left changes = (used : ℕ) × (used + length left ≡ length paths) × AddsAppends (2 * used) [] changes

pub counted-begins : (paths left : List (List ℕ)) (changes : List Change) → left ≡ paths → changes ≡ [] → Counted paths left changes
counted-begins paths left changes same_paths none = (0, (let e = ap (λ l. length l) same_paths in omega arith), ([], none, omega arith, refl))

pub counted-goes : (paths all left : List (List ℕ)) (path : List ℕ) (c0 c2 : List Change) → all ≡ path ∷ left → Counted paths all c0 → AddsAppends 2 c0 c2 → Counted paths left c2
counted-goes paths all left path c0 c2 steps was adds =
    (was.0 + 1, (let e = ap (λ l. length l) steps in let w = was.1 in omega arith), at-most (2 * was.0 + 2) (2 * (was.0 + 1)) [] c2 (omega arith) (more-appends (2 * was.0) 2 [] c0 c2 was.2 adds))

pub counted-ends : (paths left : List (List ℕ)) (changes : List Change) → Counted paths left changes → AddsAppends (2 * length paths) [] changes
counted-ends paths left changes was = at-most (2 * was.0) (2 * length paths) [] changes (let w = was.1 in omega arith) was.2

-- ---- the manifest and the changelog's data

pub logs-are : (t : Tree) (l : Layers) (c0 c1 c2 c3 : List Change) → c1 ≡ c0 ++ joined_append t (bytes_over l) manifest_data → c2 ≡ c1 ++ joined_append t (bytes_over l) manifest_index → c3 ≡ c2 ++ joined_append t (bytes_over l) changelog_data
    → c3 ≡ c0 ++ ((joined_append t (bytes_over l) manifest_data ++ joined_append t (bytes_over l) manifest_index) ++ joined_append t (bytes_over l) changelog_data)
logs-are t l c0 c1 c2 c3 e f g =
    let a = joined_append t (bytes_over l) manifest_data in
    let b = joined_append t (bytes_over l) manifest_index in
    let c = joined_append t (bytes_over l) changelog_data in
    g ∙ ap (λ x. x ++ c) (f ∙ ap (λ x. x ++ b) e ∙ append_assoc c0 a b) ∙ append_assoc c0 (a ++ b) c

pub appends-are : (t : Tree) (l : Layers) (paths : List (List ℕ)) (c0 c1 c2 : List Change) (lines : List ℕ) → (c0 ≡ flat_map (joined_filelog t (bytes_over l)) paths) × (lines ≡ joined_lines t (bytes_over l) paths)
    → c1 ≡ c0 ++ append_some fncache_path (length (bytes_at t fncache_path)) lines → c2 ≡ c1 ++ ((joined_append t (bytes_over l) manifest_data ++ joined_append t (bytes_over l) manifest_index) ++ joined_append t (bytes_over l) changelog_data)
    → c2 ≡ joined_appends t (bytes_over l) paths
appends-are t l paths c0 c1 c2 lines begun e f =
    let logs = joined_append t (bytes_over l) manifest_data ++ joined_append t (bytes_over l) manifest_index in
    let chunks = joined_append t (bytes_over l) changelog_data in
    let said = append_some fncache_path (length (bytes_at t fncache_path)) in
    f ∙ ap (λ x. x ++ (logs ++ chunks)) (e ∙ λ i. begun.0 i ++ said (begun.1 i)) ∙ sym (append_assoc (flat_map (joined_filelog t (bytes_over l)) paths ++ said (joined_lines t (bytes_over l) paths)) logs chunks)

-- ---- the whole

pub parts-built : (t : Tree) (s : Standing) (paths keys : List (List ℕ)) (l : Layers) (appends changes : List Change) (index : List ℕ) (before : ℕ) (after : List Replacing) → keys ≡ paths
    → changes ≡ appends ++ MakeIndex index ∷ optional_replace (replaced_over l PhaseRoots s.roots) → after ≡ as_list (replaced_over l Dirstate s.dirstate) ++ as_list (replaced_over l Bookmarks s.bookmarks)
    → appends ≡ joined_appends t (bytes_over l) keys → (index ≡ bytes_at t changelog_index ++ bytes_over l changelog_index) × (before ≡ length (bytes_at t changelog_index))
    → (p : Parts) → p.before ≡ changes → p.publishing ≡ RenameIndex before → p.after ≡ after → p ≡ parts_over t s paths l
parts-built t s paths keys l appends changes index before after same_paths made then all at p b u a =
    let roots = optional_replace (replaced_over l PhaseRoots s.roots) in
    let first = b ∙ made ∙ (λ i. all i ++ MakeIndex (at.0 i) ∷ roots) ∙ ap (λ ks. joined_appends t (bytes_over l) ks ++ MakeIndex (bytes_at t changelog_index ++ bytes_over l changelog_index) ∷ roots) same_paths in
    let second = u ∙ ap RenameIndex at.1 in
    let third = a ∙ then in
    λ i. record { before = first i; publishing = second i; after = third i }

replacing-file : (file : ReplacedFile) (standing : Option (List ℕ)) (text : List ℕ) (b : Bool) → IfSome (replacing_when file standing text b) (λ x. x.file ≡ file)
replacing-file file standing text true = refl
replacing-file file standing text false = tt

pub replaced-file : (l : Layers) (file : ReplacedFile) (standing : Option (List ℕ)) → IfSome (replaced_over l file standing) (λ x. x.file ≡ file)
replaced-file l file standing = replacing-file file standing (layer_bytes (layer_at l (replaced_path file))) (is_in_place (layer_at l (replaced_path file)))

pub shape-built : (s : Standing) (paths keys : List (List ℕ)) (l : Layers) (appends changes : List Change) (index : List ℕ) (before : ℕ) (after : List Replacing) → keys ≡ paths
    → changes ≡ appends ++ MakeIndex index ∷ optional_replace (replaced_over l PhaseRoots s.roots) → after ≡ as_list (replaced_over l Dirstate s.dirstate) ++ as_list (replaced_over l Bookmarks s.bookmarks)
    → AddsAppends (2 * length keys + 4) [] appends → (p : Parts) → p.before ≡ changes → p.publishing ≡ RenameIndex before → p.after ≡ after → ArePartsOfImport (length paths) p
shape-built s paths keys l appends changes index before after same_paths made then adds p b u a = record {
  appends = appends;
  adds = subst (λ ks. AddsAppends (2 * length ks + 4) [] appends) same_paths adds;
  index = index;
  roots = replaced_over l PhaseRoots s.roots;
  are_roots = replaced-file l PhaseRoots s.roots;
  before = b ∙ made;
  standing = before;
  publishing = u;
  dirstate = replaced_over l Dirstate s.dirstate;
  is_dirstate = replaced-file l Dirstate s.dirstate;
  bookmarks = replaced_over l Bookmarks s.bookmarks;
  are_bookmarks = replaced-file l Bookmarks s.bookmarks;
  after = a ∙ then;
}
