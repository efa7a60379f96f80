-- The files of the merged repository stand for it.
use Rattle.std.proofs.Common.{◌≡◌, ◌⊎◌, ℕ, zero, suc, ◌^◌, ◌<◌, ◌≤◌, List, [], ◌∷◌, Bool, true, false, ◌&&◌, ◌||◌, length, refl, sym, ◌∙◌, ap, subst, inl, inr, arith}
use Rattle.std.specs.Prelude.{◌==◌, Option, Some, None, Ok, IfSome, nat_lt, nat_le, slice_get, slice_index, codes}
use Rattle.std.specs.Fmt.{digits}
use Rattle.std.specs.List.{list_all, list_any}
use Rattle.std.specs.Str.{is_utf8}
use Rattle.std.proofs.lemmas.Bool.Decides.{nat_tests}
use Rattle.std.proofs.lemmas.Str.{IsUtf8-from_ascii, is_utf8-from_IsUtf8}
use Rattle.hex.specs.Hex.{encode_with}
use Rattle.sha1.specs.Sha1.{sha1, first_words, schedule, rounds, compress, hash_after, digest_bytes}
use Rattle.hgs_bytes.specs.Bytes.{same}
use Rattle.hgs_bytes.specs.Text.{Lacks}
use Rattle.hgs_files.specs.Tree.{bytes_at}
use Rattle.hgs_index.specs.declared.entry.Entry.{Entry}
use Rattle.hgs_index.specs.ChangeText.{IsLineText}
use Rattle.hgs_index.specs.Entry.{Fits}
use Rattle.hgs_index.specs.Node.{null_node}
use Rattle.hgs_index.specs.Revision.{Parents}
use Rattle.hgs_marks.specs.Bookmarks.{Mark, bookmarks_text, mark_lines}
use Rattle.hgs_marks.specs.Dirstate.{read_dirstate}
use Rattle.hgs_index.specs.Theorems.EitherLemmas.{separate-holds}
use Rattle.hgs_model.specs.declared.phase.Phase.TheVariants.{Draft, Secret}
use Rattle.hgs_model.specs.History.{History, history, manifest_number, manifest_with, no_history, node_at, uses, with_changeset}
use Rattle.hgs_model.specs.IsRepo.{IsNextChangeset, IsPhase, IsRepo}
use Rattle.hgs_model.specs.Repo.{all_parents}
use Rattle.hgs_path.specs.declared.name.Ext.{Ext}
use Rattle.hgs_path.specs.declared.name.Ext.TheVariants.{I, D}
use Rattle.hgs_path.specs.Fncache.{clashes, lists}
use Rattle.hgs_path.specs.StoreName.{listed_name, store_name}
use Rattle.hgs_phases.specs.declared.roots.Root.{Root}
use Rattle.hgs_phases.specs.Roots.{IsTextOf, read_roots, roots_text}
use Rattle.hgs_stands.specs.Places.{bookmarks_path, changelog_data, changelog_index, dirstate_path, manifest_data, manifest_index, roots_path}
use Rattle.hgs_stands.specs.Stands.{HoldsAt, IsClean, ListsFilelogs, Stands}
use Rattle.hgs_built.specs.CanBeStored.{HasRoom}
use Rattle.hgs_built.specs.Samples.{beside, first, long_path, merge, merged, merged_files, renaming}
use Rattle.hgs_built.proofs.Basics.{never, none-some, some-same, and-both, and-left, and-right, same-eq}
use Rattle.hgs_built.proofs.Below.{RevisionLaws, SmallLaws}
use Rattle.hgs_built.proofs.RevlogLemmas.{holds}

-- ---- numbers and texts

small : (a b : ℕ) → nat_lt a b ≡ true → a < b
small a b e = grind (arith, nat_tests, e)

most : (a b : ℕ) → nat_le a b ≡ true → a ≤ b
most a b e = grind (arith, nat_tests, e)

abbrev small_parent : Option ℕ → Bool
small_parent None = true
small_parent (Some p) = nat_lt p (2 ^ 31)

parent-fits : (o : Option ℕ) → small_parent o ≡ true → IfSome o (λ p. p < 2 ^ 31)
parent-fits None e = tt
parent-fits (Some p) e = small p (2 ^ 31) e

fit : (e : Entry) → nat_lt e.offset (2 ^ 48) ≡ true → nat_lt e.flags (2 ^ 16) ≡ true → nat_lt e.stored (2 ^ 31) ≡ true → nat_lt e.size (2 ^ 31) ≡ true → nat_lt e.base (2 ^ 31) ≡ true → nat_lt e.link (2 ^ 31) ≡ true
    → small_parent e.p1 ≡ true → small_parent e.p2 ≡ true → length e.node.0 ≡ 20 → Fits e None
fit e offset flags stored size base link p1 p2 node = record {
  offset = small e.offset (2 ^ 48) offset;
  flags = small e.flags (2 ^ 16) flags;
  stored = small e.stored (2 ^ 31) stored;
  size = small e.size (2 ^ 31) size;
  base = small e.base (2 ^ 31) base;
  link = small e.link (2 ^ 31) link;
  p1 = parent-fits e.p1 p1;
  p2 = parent-fits e.p2 p2;
  node = node;
  first = λ some. never (sym some);
}

lacks : (xs : List ℕ) → list_any (λ b. b == 10) xs ≡ false → Lacks 10 xs
lacks [] e = tt
lacks (b ∷ xs) e = by (b == 10) refl e (lacks xs)
  where
    by : (z : Bool) → (b == 10) ≡ z → (z || list_any (λ x. x == 10) xs) ≡ false → (list_any (λ x. x == 10) xs ≡ false → Lacks 10 xs) → ((b == 10) ≡ false) × Lacks 10 xs
    by true g h rec = never h
    by false g h rec = (g, rec h)

line-text : (text : List ℕ) → (length text == 0) ≡ false → list_any (λ b. b == 10) text ≡ false → IsLineText text
line-text text e f = record { some_byte = e; no_lf = lacks text f }

ascii-bytes : (bs : List ℕ) → list_all (λ b. nat_lt b 128) bs ≡ true → (i : ℕ) → slice_index bs i < 128
ascii-bytes [] h i = small 0 128 refl
ascii-bytes (b ∷ bs) h zero = small b 128 (and-left (nat_lt b 128) (list_all (λ x. nat_lt x 128) bs) h)
ascii-bytes (b ∷ bs) h (suc i) = ascii-bytes bs (and-right (nat_lt b 128) (list_all (λ x. nat_lt x 128) bs) h) i

ascii : (text : List ℕ) → list_all (λ b. nat_lt b 128) text ≡ true → is_utf8 text ≡ true
ascii text e = is_utf8-from_IsUtf8 text (IsUtf8-from_ascii text (ascii-bytes text e))

both-utf8 : (a b : List ℕ) → list_all (λ x. nat_lt x 128) a ≡ true → list_all (λ x. nat_lt x 128) b ≡ true → (is_utf8 a && is_utf8 b) ≡ true
both-utf8 a b e f = and-both (is_utf8 a) (is_utf8 b) (ascii a e) (ascii b f)

-- ---- the repository

first-next : (laws : RevisionLaws) → IsNextChangeset no_history first
unfolding encode_with sha1 first_words schedule rounds compress hash_after digest_bytes digits
first-next laws = record {
  paths = refl;
  ordered = refl;
  texts = (refl, tt);
  prefixes = (tt, tt);
  spelled = record {
    node = refl;
    node_bytes = (laws.node (manifest_with no_history first) (manifest_number no_history first)).bytes;
    user = line-text (codes "test") refl refl;
    seconds = most _ _ refl;
    offset = most _ _ refl;
    extras = tt;
    files = (line-text (codes "a") refl refl, tt);
    ordered = refl;
    texts = both-utf8 _ _ refl refl;
  };
  other = refl;
}

abbrev one_before : History
one_before = with_changeset no_history first

renaming-next : (laws : RevisionLaws) → IsNextChangeset one_before renaming
unfolding encode_with sha1 first_words schedule rounds compress hash_after digest_bytes digits
renaming-next laws = record {
  paths = refl;
  ordered = refl;
  texts = (refl, tt);
  prefixes = (tt, tt);
  spelled = record {
    node = refl;
    node_bytes = (laws.node (manifest_with one_before renaming) (manifest_number one_before renaming)).bytes;
    user = line-text (codes "test") refl refl;
    seconds = most _ _ refl;
    offset = most _ _ refl;
    extras = tt;
    files = (line-text (codes "a") refl refl, (line-text (codes "c") refl refl, tt));
    ordered = refl;
    texts = both-utf8 _ _ refl refl;
  };
  other = refl;
}

abbrev two_before : History
two_before = with_changeset one_before renaming

beside-next : (laws : RevisionLaws) → IsNextChangeset two_before beside
unfolding encode_with sha1 first_words schedule rounds compress hash_after digest_bytes digits
beside-next laws = record {
  paths = refl;
  ordered = refl;
  texts = (refl, tt);
  prefixes = (tt, tt);
  spelled = record {
    node = refl;
    node_bytes = (laws.node (manifest_with two_before beside) (manifest_number two_before beside)).bytes;
    user = line-text (codes "test") refl refl;
    seconds = most _ _ refl;
    offset = most _ _ refl;
    extras = tt;
    files = (line-text long_path refl refl, tt);
    ordered = refl;
    texts = both-utf8 _ _ refl refl;
  };
  other = refl;
}

abbrev three_before : History
three_before = with_changeset two_before beside

merge-next : (laws : RevisionLaws) → IsNextChangeset three_before merge
unfolding encode_with sha1 first_words schedule rounds compress hash_after digest_bytes digits
merge-next laws = record {
  paths = refl;
  ordered = refl;
  texts = (refl, (refl, tt));
  prefixes = (refl, (refl, tt));
  spelled = record {
    node = refl;
    node_bytes = (laws.node (manifest_with three_before merge) (manifest_number three_before merge)).bytes;
    user = line-text (codes "test") refl refl;
    seconds = most _ _ refl;
    offset = most _ _ refl;
    extras = tt;
    files = tt;
    ordered = refl;
    texts = both-utf8 _ _ refl refl;
  };
  other = refl;
}

phases-are : (rev : ℕ) (p : Parents) → slice_get (all_parents merged.changesets) rev ≡ Some p → IsPhase merged.phases p (slice_index merged.phases rev)
phases-are zero p e = subst (λ q. IsPhase merged.phases q 0) (some-same p (None, None) p e) (record { most = most 0 2 refl; first = most 0 0 refl; second = most 0 0 refl })
phases-are (suc zero) p e = subst (λ q. IsPhase merged.phases q 1) (some-same p (Some 0, None) p e) (record { most = most 1 2 refl; first = most 0 1 refl; second = most 0 1 refl })
phases-are (suc (suc zero)) p e = subst (λ q. IsPhase merged.phases q 1) (some-same p (None, None) p e) (record { most = most 1 2 refl; first = most 0 1 refl; second = most 0 1 refl })
phases-are (suc (suc (suc zero))) p e = subst (λ q. IsPhase merged.phases q 2) (some-same p (Some 1, Some 2) p e) (record { most = most 2 2 refl; first = most 1 2 refl; second = most 1 2 refl })
phases-are (suc (suc (suc (suc rev)))) p e = none-some p e

pub merged-repo : (laws : RevisionLaws) → IsRepo merged
merged-repo laws = record {
  parents = (tt, tt, (small 0 1 refl, tt, (tt, tt, (small 1 3 refl, small 2 3 refl, tt))));
  changesets = (first-next laws, (renaming-next laws, (beside-next laws, (merge-next laws, tt))));
  phase_count = refl;
  phases = phases-are;
  marks_ordered = refl;
  marks = (small 1 4 refl, tt);
  first_working = small 3 4 refl;
  second_working = tt;
}

-- ---- its revlogs

changelog-room : HasRoom (history merged.changesets).changelog
unfolding encode_with sha1 first_words schedule rounds compress hash_after digest_bytes digits
changelog-room = record {
  different = refl;
  not_null = refl;
  room = (fit _ refl refl refl refl refl refl refl refl refl, (fit _ refl refl refl refl refl refl refl refl refl, (fit _ refl refl refl refl refl refl refl refl refl, (fit _ refl refl refl refl refl refl refl refl refl, tt))));
}

manifest-room : HasRoom (history merged.changesets).manifest
unfolding encode_with sha1 first_words schedule rounds compress hash_after digest_bytes digits
manifest-room = record {
  different = refl;
  not_null = refl;
  room = (fit _ refl refl refl refl refl refl refl refl refl, (fit _ refl refl refl refl refl refl refl refl refl, (fit _ refl refl refl refl refl refl refl refl refl, (fit _ refl refl refl refl refl refl refl refl refl, tt))));
}

a-room : HasRoom ((history merged.changesets).filelog (codes "a"))
unfolding encode_with sha1 first_words schedule rounds compress hash_after digest_bytes digits
a-room = record { different = refl; not_null = refl; room = (fit _ refl refl refl refl refl refl refl refl refl, tt) }

c-room : HasRoom ((history merged.changesets).filelog (codes "c"))
unfolding encode_with sha1 first_words schedule rounds compress hash_after digest_bytes digits
c-room = record { different = refl; not_null = refl; room = (fit _ refl refl refl refl refl refl refl refl refl, tt) }

long-room : HasRoom ((history merged.changesets).filelog long_path)
unfolding encode_with sha1 first_words schedule rounds compress hash_after digest_bytes digits
long-room = record { different = refl; not_null = refl; room = (fit _ refl refl refl refl refl refl refl refl refl, tt) }

changelog-held : (laws : RevisionLaws) → HoldsAt merged_files changelog_index changelog_data (history merged.changesets).changelog
unfolding encode_with sha1 first_words schedule rounds compress hash_after digest_bytes digits
changelog-held laws = separate-holds _ _ (history merged.changesets).changelog (holds laws (history merged.changesets).changelog changelog-room (laws.changelog_before merged (merged-repo laws)))

manifest-held : (laws : RevisionLaws) → HoldsAt merged_files manifest_index manifest_data (history merged.changesets).manifest
unfolding encode_with sha1 first_words schedule rounds compress hash_after digest_bytes digits
manifest-held laws = separate-holds _ _ (history merged.changesets).manifest (holds laws (history merged.changesets).manifest manifest-room (laws.manifest_before merged (merged-repo laws)))

a-held : (laws : RevisionLaws) → HoldsAt merged_files (store_name (codes "a") I) (store_name (codes "a") D) ((history merged.changesets).filelog (codes "a"))
unfolding encode_with sha1 first_words schedule rounds compress hash_after digest_bytes digits
a-held laws = separate-holds _ _ ((history merged.changesets).filelog (codes "a")) (holds laws ((history merged.changesets).filelog (codes "a")) a-room (laws.filelogs_before merged (codes "a") (merged-repo laws)))

c-held : (laws : RevisionLaws) → HoldsAt merged_files (store_name (codes "c") I) (store_name (codes "c") D) ((history merged.changesets).filelog (codes "c"))
unfolding encode_with sha1 first_words schedule rounds compress hash_after digest_bytes digits
c-held laws = separate-holds _ _ ((history merged.changesets).filelog (codes "c")) (holds laws ((history merged.changesets).filelog (codes "c")) c-room (laws.filelogs_before merged (codes "c") (merged-repo laws)))

long-held : (laws : RevisionLaws) → HoldsAt merged_files (store_name long_path I) (store_name long_path D) ((history merged.changesets).filelog long_path)
unfolding encode_with sha1 first_words schedule rounds compress hash_after digest_bytes digits
long-held laws = separate-holds _ _ ((history merged.changesets).filelog long_path) (holds laws ((history merged.changesets).filelog long_path) long-room (laws.filelogs_before merged long_path (merged-repo laws)))

-- the used paths
abbrev Three : List ℕ → Type 0
Three path = (path ≡ codes "a") ⊎ ((path ≡ codes "c") ⊎ (path ≡ long_path))

used-path : (path : List ℕ) → uses merged.changesets path ≡ true → Three path
used-path path e = by (same path (codes "a")) refl (same path (codes "c")) refl (same path long_path) refl e
  where
    by : (a : Bool) → same path (codes "a") ≡ a → (b : Bool) → same path (codes "c") ≡ b → (d : Bool) → same path long_path ≡ d → ((a || false) || ((b || false) || ((d || false) || ((d || (b || false)) || false)))) ≡ true → Three path
    by true x b y d z h = inl (same-eq path (codes "a") x)
    by false x true y d z h = inr (inl (same-eq path (codes "c") y))
    by false x false y true z h = inr (inr (same-eq path long_path z))
    by false x false y false z h = never (sym h)

-- a fact of the three
of-three : (P : List ℕ → Type 0) → P (codes "a") → P (codes "c") → P long_path → (path : List ℕ) → uses merged.changesets path ≡ true → P path
of-three P a c long path used = elim (used-path path used) [
  | inl e ↦ subst P (sym e) a
  | inr (inl e) ↦ subst P (sym e) c
  | inr (inr e) ↦ subst P (sym e) long
]

filelogs-held : (laws : RevisionLaws) (path : List ℕ) → uses merged.changesets path ≡ true → HoldsAt merged_files (store_name path I) (store_name path D) ((history merged.changesets).filelog path)
filelogs-held laws = of-three (λ p. HoldsAt merged_files (store_name p I) (store_name p D) ((history merged.changesets).filelog p)) (a-held laws) (c-held laws) (long-held laws)

a-apart : (other : List ℕ) → uses merged.changesets other ≡ true → clashes (codes "a") other ≡ false
unfolding encode_with sha1 first_words schedule rounds compress hash_after digest_bytes digits
a-apart = of-three (λ p. clashes (codes "a") p ≡ false) refl refl refl

c-apart : (other : List ℕ) → uses merged.changesets other ≡ true → clashes (codes "c") other ≡ false
unfolding encode_with sha1 first_words schedule rounds compress hash_after digest_bytes digits
c-apart = of-three (λ p. clashes (codes "c") p ≡ false) refl refl refl

long-apart : (other : List ℕ) → uses merged.changesets other ≡ true → clashes long_path other ≡ false
unfolding encode_with sha1 first_words schedule rounds compress hash_after digest_bytes digits
long-apart = of-three (λ p. clashes long_path p ≡ false) refl refl refl

apart : (path other : List ℕ) → uses merged.changesets path ≡ true → uses merged.changesets other ≡ true → clashes path other ≡ false
apart path other p q = of-three (λ x. clashes x other ≡ false) (a-apart other q) (c-apart other q) (long-apart other q) path p

-- ---- the list

abbrev names : List (List ℕ)
names = listed_name (codes "a") I ∷ listed_name (codes "a") D ∷ listed_name (codes "c") I ∷ listed_name (codes "c") D ∷ listed_name long_path D ∷ listed_name long_path I ∷ []

listed-in : (path : List ℕ) (ext : Ext) → uses merged.changesets path ≡ true → lists names path ext ≡ true
listed-in path I used = of-three (λ p. lists names p I ≡ true) refl refl refl path used
listed-in path D used = of-three (λ p. lists names p D ≡ true) refl refl refl path used

files-listed : ListsFilelogs merged_files merged.changesets
files-listed = record {
  names = names;
  text = refl;
  listed = λ path ext used has. listed-in path ext used;
  used = (inr (codes "a", I, refl, refl), (inr (codes "a", D, refl, refl), (inr (codes "c", I, refl, refl), (inr (codes "c", D, refl, refl), (inr (long_path, D, refl, refl), (inr (long_path, I, refl, refl), tt))))));
}

-- ---- the small files

abbrev node_of : ℕ → List ℕ
node_of rev = node_at (history merged.changesets).changelog rev

abbrev roots : List Root
roots = record { phase = Draft; node = record { 0 = node_of 2 } } ∷ record { phase = Draft; node = record { 0 = node_of 1 } } ∷ record { phase = Secret; node = record { 0 = node_of 3 } } ∷ []

roots-text : roots_text roots ≡ bytes_at merged_files roots_path
unfolding encode_with sha1 first_words schedule rounds compress hash_after digest_bytes digits
roots-text = refl

roots-read : (laws : RevisionLaws) (texts : (rs : List Root) (text : List ℕ) → IsTextOf rs text → read_roots text ≡ Ok rs) → read_roots (bytes_at merged_files roots_path) ≡ Ok roots
roots-read laws texts = ap read_roots (sym roots-text) ∙ texts roots (roots_text roots) ((laws.node (history merged.changesets).changelog 2, (laws.node (history merged.changesets).changelog 1, (laws.node (history merged.changesets).changelog 3, tt))), inl refl)

abbrev marks : List Mark
marks = record { name = codes "m"; node = node_of 1 } ∷ []

marks-text : bookmarks_text marks ≡ bytes_at merged_files bookmarks_path
unfolding encode_with sha1 first_words schedule rounds compress hash_after digest_bytes digits
marks-text = refl

marks-read : (laws : RevisionLaws) (smalls : SmallLaws) → mark_lines (bytes_at merged_files bookmarks_path) ≡ Ok marks
marks-read laws smalls = ap mark_lines (sym marks-text) ∙ smalls.lines_back marks (record { named = ascii (codes "m") refl; node = laws.node (history merged.changesets).changelog 1 }, tt)

dirstate-read : read_dirstate (bytes_at merged_files dirstate_path) ≡ Ok (record { p1 = node_of 3; p2 = null_node; paths = codes "c" ∷ long_path ∷ [] })
unfolding encode_with sha1 first_words schedule rounds compress hash_after digest_bytes digits
dirstate-read = refl

or-swap : (a b : Bool) → (a || (b || false)) ≡ (b || (a || false))
or-swap true true = refl
or-swap true false = refl
or-swap false true = refl
or-swap false false = refl

pub merged-stands : (laws : RevisionLaws) (smalls : SmallLaws) (texts : (rs : List Root) (text : List ℕ) → IsTextOf rs text → read_roots text ≡ Ok rs) → Stands merged_files merged
unfolding encode_with sha1 first_words schedule rounds compress hash_after digest_bytes digits
merged-stands laws smalls texts = record {
  repository = merged-repo laws;
  requires = record { text = _; there = refl; known = refl; whole = refl };
  revlogs = record { changelog = changelog-held laws; manifest = manifest-held laws; filelogs = filelogs-held laws; names = apart };
  fncache = files-listed;
  phases = record { roots = roots; text = roots-read laws texts; known = refl; phases = refl };
  bookmarks = record { lines = marks; text = marks-read laws smalls; known = refl; marks = refl };
  dirstate = record { dirstate = record { p1 = node_of 3; p2 = null_node; paths = codes "c" ∷ long_path ∷ [] }; text = dirstate-read; first = refl; second = refl; paths = λ path. or-swap (same path (codes "c")) (same path long_path) };
  no_journal = refl;
}

pub merged-clean : (laws : RevisionLaws) (smalls : SmallLaws) (texts : (rs : List Root) (text : List ℕ) → IsTextOf rs text → read_roots text ≡ Ok rs) → IsClean merged_files merged
merged-clean laws smalls texts = record { stands = merged-stands laws smalls texts; no_locks = (refl, (refl, tt)) }
