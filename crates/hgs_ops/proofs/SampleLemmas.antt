-- A first commit meets what the laws ask.
use Rattle.std.proofs.Common.{◌≡◌, ℕ, zero, suc, ◌^◌, ◌-◌, ◌<◌, ◌≤◌, List, [], ◌∷◌, Bool, true, false, cond, ◌||◌, length, refl, sym, ◌∙◌, ap, subst, arith}
use Rattle.std.specs.Prelude.{Some, None, Ok, nat_le, nat_lt, slice_index, unwrap_or, codes}
use Rattle.std.specs.Fmt.{digits}
use Rattle.std.specs.List.{list_all}
use Rattle.std.proofs.lemmas.Bool.Decides.{nat_tests}
use Rattle.std.proofs.lemmas.Str.{IsUtf8-from_ascii, is_utf8-from_IsUtf8}
use Rattle.hex.specs.Hex.{IsBytes, encode_with}
use Rattle.sha1.specs.Sha1.{sha1, first_words, schedule, rounds, compress, hash_after, digest_bytes}
use Rattle.hgs_bytes.specs.Bytes.{same, among}
use Rattle.hgs_bytes.specs.Theorems.ByteLemmas.{same-eq}
use Rattle.hgs_files.specs.Tree.{Tree, after_all, bytes_at}
use Rattle.hgs_index.specs.declared.kinds.Flag.TheVariants.{Plain}
use Rattle.hgs_index.specs.Either.{chunk_bytes}
use Rattle.hgs_index.specs.Inline.{chunks_apart}
use Rattle.hgs_model.specs.declared.command.Command.TheVariants.{Commit, Import}
use Rattle.hgs_model.specs.History.{history, log_with_file, no_history}
use Rattle.hgs_model.specs.Repo.{TreeFile, empty_repo}
use Rattle.hgs_model.specs.Step.{answer_at, step}
use Rattle.hgs_model.specs.Valid.{IsNewChange, IsValid}
use Rattle.hgs_path.specs.declared.name.Ext.TheVariants.{D, I}
use Rattle.hgs_path.specs.Fncache.{clashes}
use Rattle.hgs_path.specs.ListedNames.{names_of}
use Rattle.hgs_path.specs.StoreName.{store_name}
use Rattle.hgs_stands.specs.Places.{fncache_path, requires_path}
use Rattle.hgs_stands.specs.Samples.{first_draft}
use Rattle.hgs_stands.specs.Stands.{IsClean, Stands}
use Rattle.hgs_stands.specs.Theorems.EmptyLemmas.{empty-stands}
use Rattle.hgs_ops.specs.Growth.{begins_inline, growing_chunks}
use Rattle.hgs_journal.specs.Covers.{is_loose}
use Rattle.hgs_ops.specs.Laid.{AreLaid}
use Rattle.hgs_ops.specs.Operations.{operations, strays, transaction_of}
use Rattle.hgs_ops.specs.PowerCourses.{AreCalls}
use Rattle.hgs_ops.specs.PowerSteps.{power_locks}
use Rattle.hgs_ops.specs.Theorems.Beside.{ready-same}
use Rattle.hgs_power.specs.Disk.{at_rest}
use Rattle.hgs_power.specs.Theorems.Now.{log-tree}
use Rattle.hgs_ops.specs.Samples.{after_delete, after_first, after_publish, after_set, bare, delete_here, first_call, first_change, first_repos, one_draft, one_marked, one_public, one_unmarked, publish_here, requires_text, set_here}
use Rattle.hgs_ops.specs.Unhindered.{AreNewRevisions, HavePlaces, IsReady, IsUnhindered}
use Rattle.hgs_ops.specs.Theorems.Touch.{and-both, and-left, and-right, never, touched-within, untouched}
use Rattle.hgs_ops.proofs.TransactionLemmas.{transaction-leads}

small : (a b : ℕ) → nat_lt a b ≡ true → a < b
small a b e = grind (arith, nat_tests)

most : (a b : ℕ) → nat_le a b ≡ true → a ≤ b
most a b e = grind (arith, nat_tests)

pub bare-stands : Stands bare empty_repo
bare-stands = empty-stands bare (record { text = requires_text; there = refl; known = refl; whole = refl }) (refl, (refl, (refl, (refl, (refl, (refl, (refl, (refl, tt)))))))) refl

ascii-bytes : (bs : List ℕ) → list_all (λ b. nat_lt b 128) bs ≡ true → (i : ℕ) → slice_index bs i < 128
ascii-bytes [] h i = small 0 128 refl
ascii-bytes (b ∷ bs) h zero = small b 128 (and-left (nat_lt b 128) (list_all (λ x. nat_lt x 128) bs) h)
ascii-bytes (b ∷ bs) h (suc i) = ascii-bytes bs (and-right (nat_lt b 128) (list_all (λ x. nat_lt x 128) bs) h) i

pub first-valid : IsNewChange first_change
first-valid = record {
  parents = most 0 2 refl;
  names = tt;
  user_utf8 = IsUtf8-from_ascii (codes "test") (ascii-bytes (codes "test") refl);
  user_least = most 1 4 refl;
  user_most = most 4 1024 refl;
  user_line = refl;
  seconds = most 0 _ refl;
  offset = most 0 _ refl;
  bookmark = tt;
  branch = tt;
  description = IsUtf8-from_ascii (codes "a") (ascii-bytes (codes "a") refl);
  description_most = most 1 65536 refl;
  count = most 1 20000 refl;
  paths = refl;
  ordered = refl;
  apart = refl;
  sources = (tt, tt);
  bodies = (most 2 16777216 refl, tt);
}

pub first-accepted : step empty_repo (Commit first_change) ≡ Ok (one_draft, answer_at one_draft 0)
first-accepted = refl

-- ---- nothing is in the way

new-changelog : AreNewRevisions [] (history one_draft.changesets).changelog
unfolding encode_with sha1 first_words schedule rounds compress hash_after digest_bytes digits
new-changelog = record { texts = (most _ 33554432 refl, tt); different = refl; not_null = refl }

new-manifest : AreNewRevisions [] (history one_draft.changesets).manifest
unfolding encode_with sha1 first_words schedule rounds compress hash_after digest_bytes digits
new-manifest = record { texts = (most _ 33554432 refl, tt); different = refl; not_null = refl }

abbrev first_file : TreeFile
first_file = record { path = codes "a"; flag = Plain; prefix = []; body = 97 ∷ 10 ∷ [] }

new-filelog : AreNewRevisions [] ((history one_draft.changesets).filelog (codes "a"))
unfolding encode_with sha1 first_words schedule rounds compress hash_after digest_bytes digits
new-filelog = record { texts = (most _ 33554432 refl, tt); different = refl; not_null = refl }

none-new : AreNewRevisions [] []
none-new = record { texts = tt; different = refl; not_null = refl }

new-filelogs : (path : List ℕ) → AreNewRevisions [] ((history one_draft.changesets).filelog path)
new-filelogs path = by (same (codes "a") path) refl
  where
    by : (b : Bool) → same (codes "a") path ≡ b → AreNewRevisions [] ((history one_draft.changesets).filelog path)
    by true e = subst (λ q. AreNewRevisions [] ((history one_draft.changesets).filelog q)) (same-eq (codes "a") path e) new-filelog
    by false e = subst (AreNewRevisions []) (sym (ap (λ b. log_with_file no_history first_draft (cond b (Some first_file) None) []) e)) none-new

or-none : (b : Bool) → (b || false) ≡ true → b ≡ true
or-none true e = refl
or-none false e = e

-- no other file stands
no-bytes : (path : List ℕ) → same requires_path path ≡ false → bytes_at bare path ≡ []
no-bytes path e = ap (λ b. unwrap_or (cond b (Some requires_text) None) []) e

few : (path : List ℕ) → length (bytes_at bare path) < 2 ^ 64
few path = by (same requires_path path)
  where
    by : (b : Bool) → length (unwrap_or (cond b (Some requires_text) None) []) < 2 ^ 64
    by true = small 33 (2 ^ 64) refl
    by false = small 0 (2 ^ 64) refl

first-unhindered : IsUnhindered bare empty_repo one_draft
first-unhindered =
    record {
      room = record { changesets = most 1 1000000 refl; changelog = (most 0 _ refl, tt); manifest = (most 0 _ refl, tt); filelogs = λ path used. places path (same-eq path (codes "a") (or-none (same path (codes "a")) used)) };
      separate = refl;
      changelog = new-changelog;
      manifest = new-manifest;
      filelogs = new-filelogs;
      names = λ path other a b. apart path other (same-eq path (codes "a") (or-none (same path (codes "a")) a)) (same-eq other (codes "a") (or-none (same other (codes "a")) (or-none _ b)));
      listed = λ names read name path ext a b e. never (sym (ap (among name) (empty names read) ∙ a));
      free = λ path ext a b part. no-bytes (store_name path ext) refl;
    }
  where
    no-chunks : (path : List ℕ) (inline : Bool) → length (chunk_bytes inline (bytes_at bare (store_name path I)) (bytes_at bare (store_name path D))) ≤ 2 ^ 48 - 1
    no-chunks path true = subst (λ i. length (chunks_apart i) ≤ 2 ^ 48 - 1) (sym (no-bytes (store_name path I) refl)) (most 0 _ refl)
    no-chunks path false = subst (λ l. length l ≤ 2 ^ 48 - 1) (sym (no-bytes (store_name path D) refl)) (most 0 _ refl)

    places : (path : List ℕ) → path ≡ codes "a" → HavePlaces (length (growing_chunks bare path [] ((history one_draft.changesets).filelog path))) [] ((history one_draft.changesets).filelog path)
    places path e = subst (λ q. HavePlaces (length (growing_chunks bare q [] ((history one_draft.changesets).filelog q))) [] ((history one_draft.changesets).filelog q)) (sym e)
        (no-chunks (codes "a") (begins_inline ((history one_draft.changesets).filelog (codes "a"))), tt)

    apart : (path other : List ℕ) → path ≡ codes "a" → other ≡ codes "a" → clashes path other ≡ false
    apart path other e f = (λ i. clashes (e i) (f i)) ∙ refl

    empty : (names : List (List ℕ)) → names_of (bytes_at bare fncache_path) ≡ Ok names → [] ≡ names
    empty names e = cc

path-bytes : IsBytes (codes "a")
path-bytes zero = small 97 256 refl
path-bytes (suc i) = small 0 256 refl

pub first-ready : IsReady bare empty_repo (Commit first_change) one_draft
first-ready = (first-unhindered, record { paths = (path-bytes, tt); sizes = λ path named. few path })

-- as a record that is laid
pub first-laid : AreLaid bare empty_repo ((first_change, one_draft) ∷ [])
first-laid = (first-valid, (answer_at one_draft 0, first-accepted), first-ready, tt)

-- the same over its writer's locks, which hinder nothing
pub first-calls : (who : List ℕ) → AreCalls first_repos 0 (at_rest bare) (first_call who ∷ [])
first-calls who = ((first-valid, first-accepted, subst (λ (t : Tree). IsReady (after_all (power_locks who) t) empty_repo (Commit first_change) one_draft) (sym (log-tree [] bare)) locked, refl), tt)
  where
    locked : IsReady (after_all (power_locks who) bare) empty_repo (Commit first_change) one_draft
    locked = ready-same bare (after_all (power_locks who) bare) (λ path free. untouched (power_locks who) bare path (touched-within (is_loose strays) (power_locks who) path refl free)) empty_repo (Commit first_change) one_draft first-ready

-- the same as an import of one record
pub import-valid : IsValid (Import (first_change ∷ []))
import-valid = record { least = most 1 1 refl; most = most 1 10000 refl; each = (first-valid, tt) }

pub import-accepted : step empty_repo (Import (first_change ∷ [])) ≡ Ok (one_draft, answer_at one_draft 0)
import-accepted = refl

pub import-ready : IsReady bare empty_repo (Import (first_change ∷ [])) one_draft
import-ready = (first-unhindered, record { paths = (path-bytes, tt); sizes = λ path named. few path })

pub import-leads : (who : List ℕ) → IsClean (after_all (operations (transaction_of bare empty_repo (Import (first_change ∷ [])) who one_draft)) bare) one_draft
import-leads who = transaction-leads bare empty_repo one_draft (Import (first_change ∷ [])) who (answer_at one_draft 0) bare-stands import-valid import-accepted import-ready

pub first-leads : (who : List ℕ) → IsClean (after_all (operations (transaction_of bare empty_repo (Commit first_change) who one_draft)) bare) one_draft
first-leads who = transaction-leads bare empty_repo one_draft (Commit first_change) who (answer_at one_draft 0) bare-stands first-valid first-accepted first-ready

-- ---- commands on what it leaves

pub set-valid : IsValid set_here
set-valid = and-both _ _ refl (is_utf8-from_IsUtf8 (codes "here") (IsUtf8-from_ascii (codes "here") (ascii-bytes (codes "here") refl)))

pub set-accepted : step one_draft set_here ≡ Ok (one_marked, answer_at one_marked 0)
set-accepted = refl

pub publish-accepted : step one_marked publish_here ≡ Ok (one_public, answer_at one_public 0)
unfolding encode_with sha1 first_words schedule rounds compress hash_after digest_bytes digits
publish-accepted = refl

pub delete-accepted : step one_public delete_here ≡ Ok (one_unmarked, answer_at one_unmarked 0)
delete-accepted = refl

pub set-leads : (who : List ℕ) → IsClean (after_set who) one_marked
set-leads who = transaction-leads (after_first who) one_draft one_marked set_here who (answer_at one_marked 0) (first-leads who).stands set-valid set-accepted tt

pub publish-leads : (who : List ℕ) → IsClean (after_publish who) one_public
publish-leads who = transaction-leads (after_set who) one_marked one_public publish_here who (answer_at one_public 0) (set-leads who).stands tt publish-accepted tt

pub delete-leads : (who : List ℕ) → IsClean (after_delete who) one_unmarked
delete-leads who = transaction-leads (after_publish who) one_public one_unmarked delete_here who (answer_at one_unmarked 0) (publish-leads who).stands tt delete-accepted tt
