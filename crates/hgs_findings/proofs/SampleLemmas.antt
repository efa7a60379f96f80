-- Nothing is found in the files of two drafts.
use Rattle.std.proofs.Common.{◌≡◌, ◌⊎◌, ℕ, zero, suc, ◌≤◌, List, [], ◌∷◌, Bool, true, false, cond, ◌||◌, refl, sym, subst, inl, inr, arith, Option, Some, None}
use Rattle.std.specs.Prelude.{nat_lt, nat_le, unwrap_or, codes, map}
use Rattle.std.specs.Fmt.{digits}
use Rattle.std.specs.Str.{is_utf8, chars}
use lib.Utf8.{encode}
use Rattle.std.specs.List.{list_all}
use Rattle.std.proofs.lemmas.Bool.Decides.{nat_tests}
use Rattle.hex.specs.Hex.{IsBytes, encode_with, decode_pairs}
use Rattle.sha1.specs.Sha1.{sha1, first_words, schedule, rounds, compress, hash_after, digest_bytes}
use Rattle.hgs_bytes.specs.Bytes.{same}
use Rattle.hgs_files.specs.Tree.{bytes_at}
use Rattle.hgs_index.specs.ChangeText.{split_at_blank, header_lines, when_at, number_within}
use Rattle.hgs_model.specs.History.{history, uses}
use Rattle.hgs_index.specs.Theorems.InlineLemmas.{apart-held}
use Rattle.hgs_path.specs.declared.name.Ext.{Ext}
use Rattle.hgs_path.specs.declared.name.Ext.TheVariants.{I, D}
use Rattle.hgs_path.specs.Fncache.{lists}
use Rattle.hgs_path.specs.StoreName.{store_name}
use Rattle.hgs_revlog.specs.Held.{AreWithinLimits}
use Rattle.hgs_stands.specs.Places.{changelog_data, changelog_index}
use Rattle.hgs_stands.specs.Samples.{sample_names, two_drafts, two_drafts_files}
use Rattle.hgs_stands.specs.Stands.{HoldsAt, IsClean}
use Rattle.hgs_findings.specs.Reading.{data_in, the_filelog}
use Rattle.hgs_findings.specs.Findings.{AreWithin, IsReport}
use Rattle.hgs_findings.specs.Samples.{inline_a, inline_changelog, inline_drafts}
use Rattle.hgs_findings.proofs.Basics.{same-eq, never, and-left, and-right}
use Rattle.hgs_findings.proofs.AbsentLemmas.{absent}

-- ---- bytes

small-bytes : (bs : List ℕ) → list_all (λ b. nat_lt b 256) bs ≡ true → IsBytes bs
small-bytes [] e i = omega arith
small-bytes (b ∷ bs) e zero = let lt = and-left (nat_lt b 256) (list_all (λ x. nat_lt x 256) bs) e in grind (arith, nat_tests, lt)
small-bytes (b ∷ bs) e (suc i) = small-bytes bs (and-right (nat_lt b 256) (list_all (λ x. nat_lt x 256) bs) e) i

abbrev files_of : List (List ℕ × List ℕ) → List ℕ → Option (List ℕ)
files_of [] path = None
files_of (f ∷ files) path = cond (same f.0 path) (Some f.1) (files_of files path)

each-bytes : (files : List (List ℕ × List ℕ)) (path : List ℕ) → list_all (λ f. list_all (λ x. nat_lt x 256) f.1) files ≡ true → IsBytes (unwrap_or (files_of files path) [])
each-bytes [] path e = small-bytes [] refl
each-bytes (f ∷ files) path e = by (same f.0 path) (each-bytes files path (and-right (list_all (λ x. nat_lt x 256) f.1) (list_all (λ f. list_all (λ x. nat_lt x 256) f.1) files) e))
  where
    by : (b : Bool) → IsBytes (unwrap_or (files_of files path) []) → IsBytes (unwrap_or (cond b (Some f.1) (files_of files path)) [])
    by true more = small-bytes f.1 (and-left (list_all (λ x. nat_lt x 256) f.1) (list_all (λ f. list_all (λ x. nat_lt x 256) f.1) files) e)
    by false more = more

abbrev drafts : List (List ℕ × List ℕ)
drafts = map (λ path. (path, bytes_at two_drafts_files path)) (
    codes "requires" ∷ codes "bookmarks" ∷ codes "dirstate" ∷ codes "store/phaseroots" ∷ codes "store/fncache" ∷ codes "store/00changelog.i" ∷ codes "store/00changelog.d"
    ∷ codes "store/00manifest.i" ∷ codes "store/00manifest.d" ∷ codes "store/data/a.i" ∷ codes "store/data/a.d" ∷ codes "store/data/b.i" ∷ codes "store/data/b.d" ∷ []
    )

drafts-are : (path : List ℕ) → files_of drafts path ≡ two_drafts_files path
drafts-are path = refl

pub drafts-bytes : (path : List ℕ) → IsBytes (bytes_at two_drafts_files path)
drafts-bytes path = subst (λ o. IsBytes (unwrap_or o [])) (drafts-are path) (each-bytes drafts path refl)

-- ---- limits

most : (a b : ℕ) → nat_le a b ≡ true → a ≤ b
most a b e = grind (arith, nat_tests, e)

used-path : (path : List ℕ) → uses two_drafts.changesets path ≡ true → (path ≡ codes "a") ⊎ (path ≡ codes "b")
used-path path e = by (same path (codes "a")) refl (same path (codes "b")) refl e
  where
    by : (a : Bool) → same path (codes "a") ≡ a → (b : Bool) → same path (codes "b") ≡ b → ((a || false) || ((a || (b || false)) || false)) ≡ true → (path ≡ codes "a") ⊎ (path ≡ codes "b")
    by true x b y h = inl (same-eq path (codes "a") x)
    by false x true y h = inr (same-eq path (codes "b") y)
    by false x false y h = never (sym h)

a-within : AreWithinLimits ((history two_drafts.changesets).filelog (codes "a")) (data_in two_drafts_files (the_filelog (codes "a")))
unfolding encode encode_with decode_pairs split_at_blank header_lines when_at number_within is_utf8 chars sha1 first_words schedule rounds compress hash_after digest_bytes digits
a-within = record { few = most _ _ refl; texts = (most _ _ refl, tt); data_end = most _ _ refl }

b-within : AreWithinLimits ((history two_drafts.changesets).filelog (codes "b")) (data_in two_drafts_files (the_filelog (codes "b")))
unfolding encode encode_with decode_pairs split_at_blank header_lines when_at number_within is_utf8 chars sha1 first_words schedule rounds compress hash_after digest_bytes digits
b-within = record { few = most _ _ refl; texts = (most _ _ refl, tt); data_end = most _ _ refl }

pub drafts-within : AreWithin two_drafts_files two_drafts
unfolding encode encode_with decode_pairs split_at_blank header_lines when_at number_within is_utf8 chars sha1 first_words schedule rounds compress hash_after digest_bytes digits
drafts-within = record {
  changelog = record { few = most _ _ refl; texts = (most _ _ refl, (most _ _ refl, tt)); data_end = most _ _ refl };
  manifest = record { few = most _ _ refl; texts = (most _ _ refl, (most _ _ refl, tt)); data_end = most _ _ refl };
  filelogs = λ path used. elim (used-path path used) [
    | inl e ↦ subst (λ p. AreWithinLimits ((history two_drafts.changesets).filelog p) (data_in two_drafts_files (the_filelog p))) (sym e) a-within
    | inr e ↦ subst (λ p. AreWithinLimits ((history two_drafts.changesets).filelog p) (data_in two_drafts_files (the_filelog p))) (sym e) b-within
  ];
}

-- ---- the report

pub drafts-report : IsClean two_drafts_files two_drafts → IsReport two_drafts_files [] 2 2
unfolding encode encode_with decode_pairs split_at_blank header_lines when_at number_within is_utf8 chars sha1 first_words schedule rounds compress hash_after digest_bytes digits
drafts-report clean = record {
  ordered = refl;
  found = tt;
  complete = λ path rev kind finding. absurd (absent two_drafts_files two_drafts clean drafts-within path rev kind finding);
  changeset_count = refl;
  filelog_count = refl;
}

-- ---- the changelog and a filelog inline

a-inline-held : IsClean two_drafts_files two_drafts → HoldsAt inline_drafts (store_name (codes "a") I) (store_name (codes "a") D) ((history two_drafts.changesets).filelog (codes "a"))
unfolding encode encode_with decode_pairs split_at_blank header_lines when_at number_within is_utf8 chars sha1 first_words schedule rounds compress hash_after digest_bytes digits
a-inline-held clean =
    apart-held inline_a (bytes_at two_drafts_files (codes "store/data/a.d")) (bytes_at two_drafts_files (codes "store/data/a.d")) [] ((history two_drafts.changesets).filelog (codes "a")) refl (clean.stands.revlogs.filelogs (codes "a") refl) refl

changelog-inline-held : IsClean two_drafts_files two_drafts → HoldsAt inline_drafts changelog_index changelog_data (history two_drafts.changesets).changelog
unfolding encode encode_with decode_pairs split_at_blank header_lines when_at number_within is_utf8 chars sha1 first_words schedule rounds compress hash_after digest_bytes digits
changelog-inline-held clean =
    apart-held inline_changelog [] (bytes_at two_drafts_files changelog_data) [] (history two_drafts.changesets).changelog refl clean.stands.revlogs.changelog refl

inline-clean : IsClean two_drafts_files two_drafts → IsClean inline_drafts two_drafts
unfolding encode encode_with decode_pairs split_at_blank header_lines when_at number_within is_utf8 chars sha1 first_words schedule rounds compress hash_after digest_bytes digits
inline-clean clean =
    let s = clean.stands in
    record {
      stands = record {
        repository = s.repository;
        requires = record { text = s.requires.text; there = s.requires.there; known = s.requires.known; whole = s.requires.whole };
        revlogs = record {
          changelog = changelog-inline-held clean;
          manifest = s.revlogs.manifest;
          filelogs = λ path used. elim (used-path path used) [
            | inl e ↦ subst (λ p. HoldsAt inline_drafts (store_name p I) (store_name p D) ((history two_drafts.changesets).filelog p)) (sym e) (a-inline-held clean)
            | inr e ↦ subst (λ p. HoldsAt inline_drafts (store_name p I) (store_name p D) ((history two_drafts.changesets).filelog p)) (sym e) (s.revlogs.filelogs (codes "b") refl)
          ];
          names = s.revlogs.names;
        };
        fncache = record {
          names = sample_names;
          text = refl;
          listed = λ path ext used has. listed path ext used;
          used = (inr (codes "a", I, refl, refl), (inr (codes "a", D, refl, refl), (inr (codes "b", I, refl, refl), (inr (codes "b", D, refl, refl), tt))));
        };
        phases = record { roots = s.phases.roots; text = s.phases.text; known = s.phases.known; phases = s.phases.phases };
        bookmarks = record { lines = s.bookmarks.lines; text = s.bookmarks.text; known = s.bookmarks.known; marks = s.bookmarks.marks };
        dirstate = record { dirstate = s.dirstate.dirstate; text = s.dirstate.text; first = s.dirstate.first; second = s.dirstate.second; paths = s.dirstate.paths };
        no_journal = s.no_journal;
      };
      no_locks = clean.no_locks;
    }
  where
    listed : (path : List ℕ) (ext : Ext) → uses two_drafts.changesets path ≡ true → lists sample_names path ext ≡ true
    listed path I used = elim (used-path path used) [
      | inl e ↦ subst (λ p. lists sample_names p I ≡ true) (sym e) refl
      | inr e ↦ subst (λ p. lists sample_names p I ≡ true) (sym e) refl
    ]
    listed path D used = elim (used-path path used) [
      | inl e ↦ subst (λ p. lists sample_names p D ≡ true) (sym e) refl
      | inr e ↦ subst (λ p. lists sample_names p D ≡ true) (sym e) refl
    ]

a-inline-within : AreWithinLimits ((history two_drafts.changesets).filelog (codes "a")) (data_in inline_drafts (the_filelog (codes "a")))
unfolding encode encode_with decode_pairs split_at_blank header_lines when_at number_within is_utf8 chars sha1 first_words schedule rounds compress hash_after digest_bytes digits
a-inline-within = record { few = most _ _ refl; texts = (most _ _ refl, tt); data_end = most _ _ refl }

inline-within : AreWithin inline_drafts two_drafts
unfolding encode encode_with decode_pairs split_at_blank header_lines when_at number_within is_utf8 chars sha1 first_words schedule rounds compress hash_after digest_bytes digits
inline-within = record {
  changelog = record { few = most _ _ refl; texts = (most _ _ refl, (most _ _ refl, tt)); data_end = most _ _ refl };
  manifest = drafts-within.manifest;
  filelogs = λ path used. elim (used-path path used) [
    | inl e ↦ subst (λ p. AreWithinLimits ((history two_drafts.changesets).filelog p) (data_in inline_drafts (the_filelog p))) (sym e) a-inline-within
    | inr e ↦ subst (λ p. AreWithinLimits ((history two_drafts.changesets).filelog p) (data_in inline_drafts (the_filelog p))) (sym e) b-within
  ];
}

pub inline-report : IsClean two_drafts_files two_drafts → IsReport inline_drafts [] 2 2
unfolding encode encode_with decode_pairs split_at_blank header_lines when_at number_within is_utf8 chars sha1 first_words schedule rounds compress hash_after digest_bytes digits
inline-report clean = record {
  ordered = refl;
  found = tt;
  complete = λ path rev kind finding. absurd (absent inline_drafts two_drafts (inline-clean clean) inline-within path rev kind finding);
  changeset_count = refl;
  filelog_count = refl;
}
