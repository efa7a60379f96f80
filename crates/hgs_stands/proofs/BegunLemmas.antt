-- The files of a commit that was begun on the sample.
use Rattle.std.proofs.Common.{◌≡◌, ℕ, ◌≤◌, List, [], ◌∷◌, ◌++◌, Bool, true, false, cond, ◌||◌, drop, refl, sym, ◌∙◌, ap, subst, inl, inr, arith}
use Rattle.std.specs.Prelude.{Some, codes, nat_le}
use Rattle.std.specs.Fmt.{digits}
use Rattle.std.specs.List.{AllByRecursion}
use Rattle.std.proofs.lemmas.Bool.Decides.{nat_tests}
use Rattle.hex.specs.Hex.{encode_with}
use Rattle.sha1.specs.Sha1.{sha1, first_words, schedule, rounds, compress, hash_after, digest_bytes}
use Rattle.hgs_bytes.specs.Bytes.{same, among}
use Rattle.hgs_files.specs.Tree.{Tree, bytes_at}
use Rattle.hgs_index.specs.Node.{null_node}
use Rattle.hgs_index.specs.Revision.{Revision}
use Rattle.hgs_index.specs.Either.{BeginsEither}
use Rattle.hgs_journal.specs.declared.backups.BackupLine.{BackupLine}
use Rattle.hgs_journal.specs.declared.journal.JournalLine.{JournalLine}
use Rattle.hgs_journal.specs.Covers.{Covers, backup_places, is_loose, journal_paths, own_strays}
use Rattle.hgs_journal.specs.Names.{backups_path, journal_path}
use Rattle.hgs_marks.specs.Bookmarks.{all_with}
use Rattle.hgs_model.specs.History.{history, uses}
use Rattle.hgs_path.specs.declared.name.Ext.TheVariants.{I, D}
use Rattle.hgs_path.specs.StoreName.{store_name}
use Rattle.hgs_stands.specs.Open.{IsOpen}
use Rattle.hgs_stands.specs.Places.{changelog_data, changelog_index, dirstate_path, manifest_data, manifest_index}
use Rattle.hgs_stands.specs.Samples.{File, over, sample_node, third_begun, third_begun_files, two_drafts, two_drafts_files}
use Rattle.hgs_stands.specs.Shows.{BeginsAt, Shows}
use Rattle.hgs_stands.specs.Stands.{HoldsAt}
use Rattle.hgs_stands.proofs.SampleLemmas.{a-holds, b-holds, changelog-holds, dirstate-read, lines-read, manifest-holds, roots-read, sample-stands, sample_roots, small, used-path}
use Rattle.hgs_stands.specs.Theorems.Basics.{never, same-eq}
use Rattle.hgs_stands.specs.Theorems.Below.{SampleLaws}

most : (a b : ℕ) → nat_le a b ≡ true → a ≤ b
most a b e = grind (arith, nat_tests, e)

-- ---- other files stay

elsewhere : (t : Tree) (files : List File) (path : List ℕ) → AllByRecursion (λ (f : File). same f.0 path ≡ false) files → over t files path ≡ t path
elsewhere t [] path all = refl
elsewhere t (f ∷ files) path all = subst (λ b. (cond b (Some f.1) (over t files path)) ≡ t path) (sym all.0) (elsewhere t files path all.1)

none-of : (test : List ℕ → Bool) (files : List File) (path : List ℕ) → AllByRecursion (λ (f : File). test f.0 ≡ true) files → test path ≡ false → AllByRecursion (λ (f : File). same f.0 path ≡ false) files
none-of test [] path all e = tt
none-of test (f ∷ files) path all e = (by (same f.0 path) refl, none-of test files path all.1 e)
  where
    by : (b : Bool) → same f.0 path ≡ b → same f.0 path ≡ false
    by false s = s
    by true s = never (sym all.0 ∙ ap test (same-eq f.0 path s) ∙ e)

-- ---- the journal and the list

abbrev begun_journal : List JournalLine
begun_journal =
    record { name = codes "data/b.d"; offset = 3 }
    ∷ record { name = codes "data/b.i"; offset = 64 }
    ∷ record { name = codes "00manifest.d"; offset = 131 }
    ∷ record { name = codes "00manifest.i"; offset = 128 }
    ∷ record { name = codes "00changelog.d"; offset = 111 }
    ∷ record { name = codes "00changelog.i"; offset = 128 }
    ∷ []

abbrev begun_backups : List BackupLine
begun_backups = record { plain = true; file = codes "dirstate"; backup = codes "journal.backup.dirstate" } ∷ []

abbrev is_covered : List ℕ → Bool
is_covered path = is_loose own_strays path || same path journal_path || among path (journal_paths begun_journal) || among path (backup_places begun_backups)

all-covered : AllByRecursion (λ (f : File). is_covered f.0 ≡ true) third_begun
all-covered = (refl, (refl, (refl, (refl, (refl, (refl, (refl, (refl, (refl, (refl, (refl, (refl, tt))))))))))))

begun-covers : Covers own_strays third_begun_files two_drafts_files
unfolding digits
begun-covers = record {
  journal = begun_journal;
  journal_bytes = bytes_at third_begun_files journal_path;
  journal_stands = refl;
  journal_text = record {
    each = (record { path = refl; offset = small _ _ refl }, (record { path = refl; offset = small _ _ refl }, (record { path = refl; offset = small _ _ refl }, (record { path = refl; offset = small _ _ refl }, (record { path = refl; offset = small _ _ refl }, (record { path = refl; offset = small _ _ refl }, tt))))));
    cut = [];
    no_lf = tt;
    spelled = refl;
  };
  backups = begun_backups;
  backups_bytes = bytes_at third_begun_files backups_path;
  backups_stand = refl;
  backups_text = (drop 2 (bytes_at third_begun_files backups_path), refl, (record { file = refl; new = refl; backup = refl }, codes "0", (refl, tt), (refl, tt), [], refl, refl));
  apart = refl;
  replaced = refl;
  once = refl;
  fronts = (inl (most _ _ refl, refl), (inl (most _ _ refl, refl), (inl (most _ _ refl, refl), (inl (most _ _ refl, refl), (inl (most _ _ refl, refl), (inl (most _ _ refl, refl), tt))))));
  kept = (inl (refl, bytes_at two_drafts_files dirstate_path, refl, refl), tt);
  others = λ path free. elsewhere two_drafts_files third_begun path (none-of is_covered third_begun path all-covered free);
  undone = refl;
}

pub begun-open : (laws : SampleLaws) → IsOpen own_strays third_begun_files two_drafts
begun-open laws = (two_drafts_files, begun-covers, (sample-stands laws))

-- ---- what it shows

begins : (laws : SampleLaws) (index data_path : List ℕ) (revisions : List Revision) (more more_data : List ℕ) → HoldsAt two_drafts_files index data_path revisions → bytes_at third_begun_files index ≡ bytes_at two_drafts_files index ++ more → bytes_at third_begun_files data_path ≡ bytes_at two_drafts_files data_path ++ more_data
    → BeginsAt third_begun_files index data_path revisions
begins laws index data_path revisions more more_data h i d =
    let b = laws.either_more (bytes_at two_drafts_files index) (bytes_at two_drafts_files data_path) more more_data revisions (laws.either_begins (bytes_at two_drafts_files index) (bytes_at two_drafts_files data_path) revisions h) in
    subst (λ x. BeginsEither x (bytes_at third_begun_files data_path) revisions) (sym i) (subst (λ x. BeginsEither (bytes_at two_drafts_files index ++ more) x revisions) (sym d) b)

filelogs-begin : (laws : SampleLaws) (path : List ℕ) → uses two_drafts.changesets path ≡ true → BeginsAt third_begun_files (store_name path I) (store_name path D) ((history two_drafts.changesets).filelog path)
filelogs-begin laws path used = elim (used-path path used) [
  | inl e ↦ subst (λ p. BeginsAt third_begun_files (store_name p I) (store_name p D) ((history two_drafts.changesets).filelog p)) (sym e) (begins laws (store_name (codes "a") I) (store_name (codes "a") D) ((history two_drafts.changesets).filelog (codes "a")) [] [] (a-holds laws) refl refl)
  | inr e ↦ subst (λ p. BeginsAt third_begun_files (store_name p I) (store_name p D) ((history two_drafts.changesets).filelog p)) (sym e) (begins laws (store_name (codes "b") I) (store_name (codes "b") D) ((history two_drafts.changesets).filelog (codes "b")) (drop 64 (bytes_at third_begun_files (store_name (codes "b") I))) (drop 3 (bytes_at third_begun_files (store_name (codes "b") D))) (b-holds laws) refl refl)
]

pub begun-shows : (laws : SampleLaws) → Shows third_begun_files two_drafts two_drafts two_drafts
unfolding encode_with sha1 first_words schedule rounds compress hash_after digest_bytes digits
begun-shows laws = record {
  requires = record { text = _; there = refl; known = refl; whole = refl };
  revlogs = record {
    whole = refl;
    changelog = begins laws changelog_index changelog_data (history two_drafts.changesets).changelog (drop 128 (bytes_at third_begun_files changelog_index)) (drop 111 (bytes_at third_begun_files changelog_data)) (changelog-holds laws) refl refl;
    manifest = begins laws manifest_index manifest_data (history two_drafts.changesets).manifest (drop 128 (bytes_at third_begun_files manifest_index)) (drop 131 (bytes_at third_begun_files manifest_data)) (manifest-holds laws) refl refl;
    filelogs = filelogs-begin laws;
  };
  phases = record { roots = sample_roots; text = roots-read laws; phases = refl };
  bookmarks = ap (all_with []) (lines-read laws);
  working = record { dirstate = record { p1 = sample_node 1; p2 = null_node; paths = codes "a" ∷ codes "b" ∷ [] }; text = dirstate-read; first = refl; second = refl };
}
