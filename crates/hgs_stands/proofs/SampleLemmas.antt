-- The files of the sample stand for it.
use Rattle.std.proofs.Common.{◌≡◌, ◌⊎◌, ℕ, zero, suc, ◌^◌, ◌<◌, ◌≤◌, List, [], ◌∷◌, Bool, true, false, cond, ◌&&◌, ◌||◌, length, map, refl, sym, ◌∙◌, ap, subst, inl, inr, arith}
use Rattle.std.specs.Prelude.{Option, Some, None, Ok, Err, IfSome, nat_lt, nat_le, slice_get, slice_index, codes}
use Rattle.std.specs.Fmt.{digits}
use Rattle.std.specs.List.{AllByRecursion, concat, list_all}
use Rattle.std.proofs.lemmas.Bool.Decides.{nat_tests}
use Rattle.hex.specs.Hex.{encode_with}
use Rattle.sha1.specs.Sha1.{sha1, first_words, schedule, rounds, compress, hash_after, digest_bytes}
use Rattle.hgs_bytes.specs.Bytes.{same, among}
use Rattle.hgs_files.specs.Tree.{Tree, bytes_at}
use Rattle.hgs_index.specs.declared.entry.Entry.{Entry}
use Rattle.hgs_index.specs.declared.entry.Header.{Header}
use Rattle.hgs_index.specs.ChangeText.{IsLineText}
use Rattle.hgs_index.specs.Entry.{Fits}
use Rattle.hgs_index.specs.Node.{IsNode, null_node}
use Rattle.hgs_index.specs.Revision.{Revision, Parents, ParentsBefore, nodes}
use Rattle.hgs_index.specs.Revlog.{HoldsRevisions, Stored, Item, all_different, chunk_of, chunk_text, index_bytes, items}
use Rattle.hgs_marks.specs.Bookmarks.{mark_lines, mark_then, mark_with}
use Rattle.hgs_marks.specs.Dirstate.{read_dirstate}
use Rattle.hgs_marks.specs.declared.fault.MarkFault.TheVariants.{Name}
use Rattle.hgs_model.specs.declared.phase.Phase.TheVariants.{Draft}
use Rattle.hgs_phases.specs.declared.roots.Root.{Root}
use Rattle.hgs_phases.specs.Roots.{read_roots, roots_text}
use Rattle.std.specs.Str.{is_utf8}
use Rattle.std.proofs.lemmas.Str.{IsUtf8-from_ascii, is_utf8-from_IsUtf8}
use Rattle.hgs_model.specs.History.{node_at, History, history, no_history, uses, with_changeset, manifest_with, manifest_number}
use Rattle.hgs_model.specs.IsRepo.{IsRepo, IsNextChangeset, IsPhase}
use Rattle.hgs_model.specs.Repo.{all_parents}
use Rattle.hgs_path.specs.declared.name.Ext.{Ext}
use Rattle.hgs_path.specs.declared.name.Ext.TheVariants.{I, D}
use Rattle.hgs_path.specs.Fncache.{clashes, lists}
use Rattle.hgs_path.specs.StoreName.{store_name}
use Rattle.hgs_stands.specs.Places.{bookmarks_path, dirstate_path, roots_path, changelog_index, changelog_data, manifest_index, manifest_data}
use Rattle.hgs_stands.specs.Samples.{first_draft, sample_names, second_draft, two_drafts, two_drafts_files}
use Rattle.hgs_stands.specs.Stands.{HoldsAt, ListsFilelogs, Stands, IsClean}
use Rattle.hgs_stands.specs.Theorems.Basics.{and-both, and-left, and-right, never, none-some, same-eq, some-same}
use Rattle.hgs_stands.specs.Theorems.Below.{SampleLaws}

-- ---- revlogs whose chunks are those that are written

abbrev stored_of : List Revision → List Stored
stored_of revisions = map (λ r. record { revision = r; chunk = chunk_of r.text }) revisions

abbrev plain_header : Header
plain_header = record { inline = false; generaldelta = false }

these-are : (revisions : List Revision) → map (λ s. s.revision) (stored_of revisions) ≡ revisions
these-are [] = refl
these-are (r ∷ revisions) = ap (λ l. r ∷ l) (these-are revisions)

texts-are : (laws : SampleLaws) (revisions : List Revision) → AllByRecursion (λ (s : Stored). chunk_text s.chunk ≡ Some s.revision.text) (stored_of revisions)
texts-are laws [] = tt
texts-are laws (r ∷ revisions) = (laws.chunk r.text, texts-are laws revisions)

holds : (laws : SampleLaws) (t : Tree) (index data_path : List ℕ) (revisions : List Revision) → ParentsBefore 0 (map (λ r. r.parents) revisions) → AllByRecursion (λ (i : Item). Fits i.entry None) (items (stored_of revisions))
    → all_different (nodes revisions) ≡ true → among null_node (nodes revisions) ≡ false
    → bytes_at t index ≡ index_bytes plain_header (items (stored_of revisions)) → bytes_at t data_path ≡ concat (map (λ s. s.chunk) (stored_of revisions)) → HoldsRevisions (bytes_at t index) (bytes_at t data_path) revisions
holds laws t index data_path revisions before fits different none i d = record {
  header = plain_header;
  stored = stored_of revisions;
  these = these-are revisions;
  texts = texts-are laws revisions;
  earlier = before;
  fits = fits;
  different = different;
  not_null = none;
  form = refl;
  index_is = i;
  data_is = d;
}

pub small : (a b : ℕ) → nat_lt a b ≡ true → a < b
small a b e = grind (arith, nat_tests, e)

most : (a b : ℕ) → nat_le a b ≡ true → a ≤ b
most a b e = grind (arith, nat_tests, e)

abbrev small_parent : Option ℕ → Bool
small_parent None = true
small_parent (Some p) = nat_lt p (2 ^ 31)

parent-fits : (o : Option ℕ) → small_parent o ≡ true → IfSome o (λ p. p < 2 ^ 31)
parent-fits None e = tt
parent-fits (Some p) e = small p (2 ^ 31) e

fit : (e : Entry) → nat_lt e.offset (2 ^ 48) ≡ true → nat_lt e.flags (2 ^ 16) ≡ true → nat_lt e.stored (2 ^ 31) ≡ true → nat_lt e.size (2 ^ 31) ≡ true → nat_lt e.base (2 ^ 31) ≡ true → nat_lt e.link (2 ^ 31) ≡ true
    → small_parent e.p1 ≡ true → small_parent e.p2 ≡ true → length e.node.0 ≡ 20 → Fits e None
fit e offset flags stored size base link p1 p2 node = record {
  offset = small e.offset (2 ^ 48) offset;
  flags = small e.flags (2 ^ 16) flags;
  stored = small e.stored (2 ^ 31) stored;
  size = small e.size (2 ^ 31) size;
  base = small e.base (2 ^ 31) base;
  link = small e.link (2 ^ 31) link;
  p1 = parent-fits e.p1 p1;
  p2 = parent-fits e.p2 p2;
  node = node;
  first = λ some. never (sym some);
}

-- ---- those of the sample; their nodes are computed

pub changelog-holds : (laws : SampleLaws) → HoldsAt two_drafts_files changelog_index changelog_data (history two_drafts.changesets).changelog
unfolding encode_with sha1 first_words schedule rounds compress hash_after digest_bytes digits
changelog-holds laws = laws.separate _ _ _ (holds laws two_drafts_files changelog_index changelog_data (history two_drafts.changesets).changelog (tt, tt, (small 0 1 refl, tt, tt))
    (fit _ refl refl refl refl refl refl refl refl refl, (fit _ refl refl refl refl refl refl refl refl refl, tt)) refl refl refl refl)

pub manifest-holds : (laws : SampleLaws) → HoldsAt two_drafts_files manifest_index manifest_data (history two_drafts.changesets).manifest
unfolding encode_with sha1 first_words schedule rounds compress hash_after digest_bytes digits
manifest-holds laws = laws.separate _ _ _ (holds laws two_drafts_files manifest_index manifest_data (history two_drafts.changesets).manifest (tt, tt, (small 0 1 refl, tt, tt))
    (fit _ refl refl refl refl refl refl refl refl refl, (fit _ refl refl refl refl refl refl refl refl refl, tt)) refl refl refl refl)

pub a-holds : (laws : SampleLaws) → HoldsAt two_drafts_files (store_name (codes "a") I) (store_name (codes "a") D) ((history two_drafts.changesets).filelog (codes "a"))
unfolding encode_with sha1 first_words schedule rounds compress hash_after digest_bytes digits
a-holds laws = laws.separate _ _ _ (holds laws two_drafts_files (store_name (codes "a") I) (store_name (codes "a") D) ((history two_drafts.changesets).filelog (codes "a")) (tt, tt, tt) (fit _ refl refl refl refl refl refl refl refl refl, tt) refl refl refl refl)

pub b-holds : (laws : SampleLaws) → HoldsAt two_drafts_files (store_name (codes "b") I) (store_name (codes "b") D) ((history two_drafts.changesets).filelog (codes "b"))
unfolding encode_with sha1 first_words schedule rounds compress hash_after digest_bytes digits
b-holds laws = laws.separate _ _ _ (holds laws two_drafts_files (store_name (codes "b") I) (store_name (codes "b") D) ((history two_drafts.changesets).filelog (codes "b")) (tt, tt, tt) (fit _ refl refl refl refl refl refl refl refl refl, tt) refl refl refl refl)

-- the used paths
pub used-path : (path : List ℕ) → uses two_drafts.changesets path ≡ true → (path ≡ codes "a") ⊎ (path ≡ codes "b")
used-path path e = by (same path (codes "a")) refl (same path (codes "b")) refl e
  where
    by : (a : Bool) → same path (codes "a") ≡ a → (b : Bool) → same path (codes "b") ≡ b → ((a || false) || ((a || (b || false)) || false)) ≡ true → (path ≡ codes "a") ⊎ (path ≡ codes "b")
    by true x b y h = inl (same-eq path (codes "a") x)
    by false x true y h = inr (same-eq path (codes "b") y)
    by false x false y h = never (sym h)

pub filelogs-hold : (laws : SampleLaws) (path : List ℕ) → uses two_drafts.changesets path ≡ true → HoldsAt two_drafts_files (store_name path I) (store_name path D) ((history two_drafts.changesets).filelog path)
filelogs-hold laws path used = elim (used-path path used) [
  | inl e ↦ subst (λ p. HoldsAt two_drafts_files (store_name p I) (store_name p D) ((history two_drafts.changesets).filelog p)) (sym e) (a-holds laws)
  | inr e ↦ subst (λ p. HoldsAt two_drafts_files (store_name p I) (store_name p D) ((history two_drafts.changesets).filelog p)) (sym e) (b-holds laws)
]

no-clash : (path other : List ℕ) → uses two_drafts.changesets path ≡ true → uses two_drafts.changesets other ≡ true → clashes path other ≡ false
no-clash path other p q = by (used-path path p) (used-path other q)
  where
    by : (path ≡ codes "a") ⊎ (path ≡ codes "b") → (other ≡ codes "a") ⊎ (other ≡ codes "b") → clashes path other ≡ false
    by (inl e) (inl f) = ap (λ x. clashes x other) e ∙ ap (clashes (codes "a")) f
    by (inl e) (inr f) = ap (λ x. clashes x other) e ∙ ap (clashes (codes "a")) f
    by (inr e) (inl f) = ap (λ x. clashes x other) e ∙ ap (clashes (codes "b")) f
    by (inr e) (inr f) = ap (λ x. clashes x other) e ∙ ap (clashes (codes "b")) f

pub listed-in : (path : List ℕ) (ext : Ext) → uses two_drafts.changesets path ≡ true → lists sample_names path ext ≡ true
listed-in path ext used = by (used-path path used) ext
  where
    by : (path ≡ codes "a") ⊎ (path ≡ codes "b") → (x : Ext) → lists sample_names path x ≡ true
    by (inl e) I = ap (λ p. lists sample_names p I) e
    by (inl e) D = ap (λ p. lists sample_names p D) e
    by (inr e) I = ap (λ p. lists sample_names p I) e
    by (inr e) D = ap (λ p. lists sample_names p D) e

pub names-listed : ListsFilelogs two_drafts_files two_drafts.changesets
names-listed = record {
  names = sample_names;
  text = refl;
  listed = λ path ext used has. listed-in path ext used;
  used = (inr (codes "a", I, refl, refl), (inr (codes "a", D, refl, refl), (inr (codes "b", I, refl, refl), (inr (codes "b", D, refl, refl), tt))));
}

-- ---- the repository

ascii-bytes : (bs : List ℕ) → list_all (λ b. nat_lt b 128) bs ≡ true → (i : ℕ) → slice_index bs i < 128
ascii-bytes [] h i = small 0 128 refl
ascii-bytes (b ∷ bs) h zero = small b 128 (and-left (nat_lt b 128) (list_all (λ x. nat_lt x 128) bs) h)
ascii-bytes (b ∷ bs) h (suc i) = ascii-bytes bs (and-right (nat_lt b 128) (list_all (λ x. nat_lt x 128) bs) h) i

pub ascii : (text : List ℕ) → list_all (λ b. nat_lt b 128) text ≡ true → is_utf8 text ≡ true
ascii text e = is_utf8-from_IsUtf8 text (IsUtf8-from_ascii text (ascii-bytes text e))

both-utf8 : (a b : List ℕ) → list_all (λ x. nat_lt x 128) a ≡ true → list_all (λ x. nat_lt x 128) b ≡ true → (is_utf8 a && is_utf8 b) ≡ true
both-utf8 a b e f = and-both (is_utf8 a) (is_utf8 b) (ascii a e) (ascii b f)

user-line : IsLineText (codes "test")
user-line = record { some_byte = refl; no_lf = (refl, (refl, (refl, (refl, tt)))) }

first-next : (laws : SampleLaws) → IsNextChangeset no_history first_draft
unfolding encode_with sha1 first_words schedule rounds compress hash_after digest_bytes digits
first-next laws = record {
  paths = refl;
  ordered = refl;
  texts = (refl, tt);
  prefixes = (tt, tt);
  spelled = record {
    node = refl;
    node_bytes = (laws.node (manifest_with no_history first_draft) (manifest_number no_history first_draft)).bytes;
    user = user-line;
    seconds = most _ _ refl;
    offset = most _ _ refl;
    extras = tt;
    files = (record { some_byte = refl; no_lf = (refl, tt) }, tt);
    ordered = refl;
    texts = both-utf8 _ _ refl refl;
  };
  other = refl;
}

abbrev one_history : History
one_history = with_changeset no_history first_draft

second-next : (laws : SampleLaws) → IsNextChangeset one_history second_draft
unfolding encode_with sha1 first_words schedule rounds compress hash_after digest_bytes digits
second-next laws = record {
  paths = refl;
  ordered = refl;
  texts = (refl, (refl, tt));
  prefixes = (refl, (tt, tt));
  spelled = record {
    node = refl;
    node_bytes = (laws.node (manifest_with one_history second_draft) (manifest_number one_history second_draft)).bytes;
    user = user-line;
    seconds = most _ _ refl;
    offset = most _ _ refl;
    extras = tt;
    files = (record { some_byte = refl; no_lf = (refl, tt) }, tt);
    ordered = refl;
    texts = both-utf8 _ _ refl refl;
  };
  other = refl;
}

sample-phases : (rev : ℕ) (p : Parents) → slice_get (all_parents two_drafts.changesets) rev ≡ Some p → IsPhase two_drafts.phases p (slice_index two_drafts.phases rev)
sample-phases zero p e = subst (λ q. IsPhase two_drafts.phases q 1) (some-same p (None, None) p e) (record { most = most 1 2 refl; first = most 0 1 refl; second = most 0 1 refl })
sample-phases (suc zero) p e = subst (λ q. IsPhase two_drafts.phases q 1) (some-same p (Some 0, None) p e) (record { most = most 1 2 refl; first = most 1 1 refl; second = most 0 1 refl })
sample-phases (suc (suc rev)) p e = none-some p e

sample-repo : (laws : SampleLaws) → IsRepo two_drafts
sample-repo laws = record {
  parents = (tt, tt, (small 0 1 refl, tt, tt));
  changesets = ((first-next laws), ((second-next laws), tt));
  phase_count = refl;
  phases = sample-phases;
  marks_ordered = refl;
  marks = (small 0 2 refl, tt);
  first_working = small 1 2 refl;
  second_working = tt;
}

-- ---- the whole

abbrev pub first_node : List ℕ
first_node = node_at (history two_drafts.changesets).changelog 0

pub first-bytes : (laws : SampleLaws) → IsNode first_node
first-bytes laws = laws.node (history two_drafts.changesets).changelog 0

abbrev pub sample_roots : List Root
sample_roots = record { phase = Draft; node = record { 0 = first_node } } ∷ []

roots-text : roots_text sample_roots ≡ bytes_at two_drafts_files roots_path
unfolding encode_with sha1 first_words schedule rounds compress hash_after digest_bytes digits
roots-text = refl

pub roots-read : (laws : SampleLaws) → read_roots (bytes_at two_drafts_files roots_path) ≡ Ok sample_roots
roots-read laws = ap read_roots (sym roots-text) ∙ (laws.roots sample_roots (roots_text sample_roots)).1 ((first-bytes laws, tt), inl refl)

pub lines-read : (laws : SampleLaws) → mark_lines (bytes_at two_drafts_files bookmarks_path) ≡ Ok (record { name = codes "main"; node = first_node } ∷ [])
unfolding encode_with sha1 first_words schedule rounds compress hash_after digest_bytes digits
lines-read laws =
    ap (λ o. mark_then (mark_with 1 o (codes "main")) (Ok [])) (laws.node_back first_node (first-bytes laws))
    ∙ ap (λ b. mark_then (cond b (Ok (record { name = codes "main"; node = first_node })) (Err (Name 1))) (Ok [])) (ascii (codes "main") refl)

pub dirstate-read : read_dirstate (bytes_at two_drafts_files dirstate_path) ≡ Ok (record { p1 = node_at (history two_drafts.changesets).changelog 1; p2 = null_node; paths = codes "a" ∷ codes "b" ∷ [] })
unfolding encode_with sha1 first_words schedule rounds compress hash_after digest_bytes digits
dirstate-read = refl

pub sample-stands : (laws : SampleLaws) → Stands two_drafts_files two_drafts
unfolding encode_with sha1 first_words schedule rounds compress hash_after digest_bytes digits
sample-stands laws = record {
  repository = sample-repo laws;
  requires = record { text = _; there = refl; known = refl; whole = refl };
  revlogs = record { changelog = changelog-holds laws; manifest = manifest-holds laws; filelogs = filelogs-hold laws; names = no-clash };
  fncache = names-listed;
  phases = record { roots = sample_roots; text = roots-read laws; known = refl; phases = refl };
  bookmarks = record { lines = record { name = codes "main"; node = first_node } ∷ []; text = lines-read laws; known = refl; marks = refl };
  dirstate = record { dirstate = record { p1 = node_at (history two_drafts.changesets).changelog 1; p2 = null_node; paths = codes "a" ∷ codes "b" ∷ [] }; text = dirstate-read; first = refl; second = refl; paths = λ path. refl };
  no_journal = refl;
}

pub sample-clean : (laws : SampleLaws) → IsClean two_drafts_files two_drafts
sample-clean laws = record { stands = sample-stands laws; no_locks = (refl, (refl, tt)) }
