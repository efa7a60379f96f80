-- The samples are within a reader's limits.
use Rattle.std.proofs.Common.{◌≡◌, ◌⊎◌, ℕ, ◌≤◌, List, Bool, true, false, ◌||◌, refl, sym, subst, inl, inr, arith}
use Rattle.std.specs.Prelude.{codes, nat_le}
use Rattle.std.specs.Fmt.{digits}
use Rattle.std.proofs.lemmas.Bool.Decides.{nat_tests}
use Rattle.hex.specs.Hex.{encode_with}
use Rattle.sha1.specs.Sha1.{sha1, first_words, schedule, rounds, compress, hash_after, digest_bytes}
use Rattle.hgs_bytes.specs.Bytes.{same}
use Rattle.hgs_files.specs.Tree.{Tree, bytes_at}
use Rattle.hgs_index.specs.Either.{chunks_either}
use Rattle.hgs_model.specs.History.{history, uses}
use Rattle.hgs_path.specs.declared.name.Ext.TheVariants.{I, D}
use Rattle.hgs_path.specs.StoreName.{store_name}
use Rattle.hgs_revlog.specs.Held.{AreWithinLimits}
use Rattle.hgs_stands.specs.Samples.{third_begun_files, two_drafts, two_drafts_files}
use Rattle.hgs_shown.specs.Limits.{OpensWithin, ReadsWithin}
use Rattle.hgs_shown.specs.Samples.{inline_drafts_files}
use Rattle.hgs_shown.proofs.Basics.{never, same-eq}

most : (a b : ℕ) → nat_le a b ≡ true → a ≤ b
most a b e = grind (arith, nat_tests, e)

pub used-path : (path : List ℕ) → uses two_drafts.changesets path ≡ true → (path ≡ codes "a") ⊎ (path ≡ codes "b")
used-path path e = by (same path (codes "a")) refl (same path (codes "b")) refl e
  where
    by : (a : Bool) → same path (codes "a") ≡ a → (b : Bool) → same path (codes "b") ≡ b → ((a || false) || ((a || (b || false)) || false)) ≡ true → (path ≡ codes "a") ⊎ (path ≡ codes "b")
    by true x b y h = inl (same-eq path (codes "a") x)
    by false x true y h = inr (same-eq path (codes "b") y)
    by false x false y h = never (sym h)

abbrev Small : Tree → List ℕ → Type 0
Small t path = AreWithinLimits ((history two_drafts.changesets).filelog path) (chunks_either (bytes_at t (store_name path I)) (bytes_at t (store_name path D)))

filelogs : (t : Tree) → Small t (codes "a") → Small t (codes "b") → (path : List ℕ) → uses two_drafts.changesets path ≡ true → Small t path
filelogs t a b path used = elim (used-path path used) [
  | inl e ↦ subst (Small t) (sym e) a
  | inr e ↦ subst (Small t) (sym e) b
]

pub drafts-open : OpensWithin two_drafts_files two_drafts two_drafts
unfolding encode_with sha1 first_words schedule rounds compress hash_after digest_bytes digits
drafts-open = record {
  requires = most _ _ refl;
  bookmarks_text = most _ _ refl;
  bookmarks = most _ _ refl;
  dirstate = most _ _ refl;
  roots = most _ _ refl;
  inline_index = λ inline. most _ _ refl;
  changelog = record { few = most _ _ refl; texts = (most _ _ refl, (most _ _ refl, tt)); data_end = most _ _ refl };
}

pub begun-open : OpensWithin third_begun_files two_drafts two_drafts
unfolding encode_with sha1 first_words schedule rounds compress hash_after digest_bytes digits
begun-open = record {
  requires = most _ _ refl;
  bookmarks_text = most _ _ refl;
  bookmarks = most _ _ refl;
  dirstate = most _ _ refl;
  roots = most _ _ refl;
  inline_index = λ inline. most _ _ refl;
  changelog = record { few = most _ _ refl; texts = (most _ _ refl, (most _ _ refl, tt)); data_end = most _ _ refl };
}

pub inline-open : OpensWithin inline_drafts_files two_drafts two_drafts
unfolding encode_with sha1 first_words schedule rounds compress hash_after digest_bytes digits
inline-open = record {
  requires = most _ _ refl;
  bookmarks_text = most _ _ refl;
  bookmarks = most _ _ refl;
  dirstate = most _ _ refl;
  roots = most _ _ refl;
  inline_index = λ inline. most _ _ refl;
  changelog = record { few = most _ _ refl; texts = (most _ _ refl, (most _ _ refl, tt)); data_end = most _ _ refl };
}

pub drafts-read : ReadsWithin two_drafts_files two_drafts
unfolding encode_with sha1 first_words schedule rounds compress hash_after digest_bytes digits
drafts-read = record {
  manifest = record { few = most _ _ refl; texts = (most _ _ refl, (most _ _ refl, tt)); data_end = most _ _ refl };
  filelogs = filelogs two_drafts_files (record { few = most _ _ refl; texts = (most _ _ refl, tt); data_end = most _ _ refl }) (record { few = most _ _ refl; texts = (most _ _ refl, tt); data_end = most _ _ refl });
  trees = (record { files = most _ _ refl; bodies = (most _ _ refl, tt) }, (record { files = most _ _ refl; bodies = (most _ _ refl, (most _ _ refl, tt)) }, tt));
}

pub inline-read : ReadsWithin inline_drafts_files two_drafts
unfolding encode_with sha1 first_words schedule rounds compress hash_after digest_bytes digits
inline-read = record {
  manifest = record { few = most _ _ refl; texts = (most _ _ refl, (most _ _ refl, tt)); data_end = most _ _ refl };
  filelogs = filelogs inline_drafts_files (record { few = most _ _ refl; texts = (most _ _ refl, tt); data_end = most _ _ refl }) (record { few = most _ _ refl; texts = (most _ _ refl, tt); data_end = most _ _ refl });
  trees = drafts-read.trees;
}

pub begun-read : ReadsWithin third_begun_files two_drafts
unfolding encode_with sha1 first_words schedule rounds compress hash_after digest_bytes digits
begun-read = record {
  manifest = record { few = most _ _ refl; texts = (most _ _ refl, (most _ _ refl, tt)); data_end = most _ _ refl };
  filelogs = filelogs third_begun_files (record { few = most _ _ refl; texts = (most _ _ refl, tt); data_end = most _ _ refl }) (record { few = most _ _ refl; texts = (most _ _ refl, tt); data_end = most _ _ refl });
  trees = drafts-read.trees;
}
