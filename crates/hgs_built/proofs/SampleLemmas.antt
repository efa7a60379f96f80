-- Small repositories can be stored, and the files of one are those that Mercurial wrote.
use Rattle.std.proofs.Common.{◌≡◌, ℕ, List, Bool, true, false, cond, refl, sym}
use Rattle.std.specs.Prelude.{Some, drop}
use Rattle.std.specs.Fmt.{digits}
use Rattle.hex.specs.Hex.{encode_with}
use Rattle.sha1.specs.Sha1.{sha1, first_words, schedule, rounds, compress, hash_after, digest_bytes}
use Rattle.hgs_bytes.specs.Bytes.{same}
use Rattle.hgs_bytes.specs.Text.{lines}
use Rattle.hgs_marks.specs.Dirstate.{dirstate_text}
use Rattle.hgs_model.specs.History.{history}
use Rattle.hgs_model.specs.Repo.{empty_repo}
use Rattle.hgs_stands.specs.Places.{bookmarks_path, dirstate_path, requires_path}
use Rattle.hgs_stands.specs.Requires.{needed}
use Rattle.hgs_stands.specs.Samples.{two_drafts, two_drafts_files}
use Rattle.hgs_built.specs.Built.{bookmarks_of, dirstate_in, file_or, filelog_file, own_files_of, tree_of, used_paths}
use Rattle.hgs_built.specs.CanBeStored.{CanBeStored}
use Rattle.hgs_built.proofs.Basics.{never}

pub empty-stored : CanBeStored empty_repo
empty-stored = record {
  changelog = record { different = refl; not_null = refl; room = tt };
  manifest = record { different = refl; not_null = refl; room = tt };
  filelogs = λ path used. never (sym used);
  names = λ path other used. never (sym used);
  marks = tt;
}

skip : {A : Type 0} (a b d : Bool) (x y u v z : A) → d ≡ false → cond a x (cond b y (cond d u z)) ≡ cond a x (cond b y (cond d v z))
skip a b true x y u v z e = never e
skip a b false x y u v z e = refl

pub files-same : (path : List ℕ) → same dirstate_path path ≡ false → tree_of two_drafts path ≡ two_drafts_files path
unfolding encode_with sha1 first_words schedule rounds compress hash_after digest_bytes digits
files-same path e =
    skip (same requires_path path) (same bookmarks_path path) (same dirstate_path path) (Some (lines needed)) (Some (bookmarks_of two_drafts)) (Some (dirstate_text (dirstate_in two_drafts))) (two_drafts_files dirstate_path)
    (file_or (drop 3 (own_files_of two_drafts)) (filelog_file (history two_drafts.changesets).filelog (used_paths two_drafts.changesets) path) path) e
