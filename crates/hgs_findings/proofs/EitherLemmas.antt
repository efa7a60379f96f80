-- The bytes that a revlog of either form is read as hold what it holds.
use Rattle.std.proofs.Common.{◌≡◌, ℕ, List, [], Bool, true, false, cond, length, refl, sym, subst, append-nil}
use Rattle.hgs_files.specs.Tree.{Tree, bytes_at}
use Rattle.hex.specs.Hex.{IsBytes}
use Rattle.hgs_index.specs.Either.{HoldsEither, chunk_bytes, chunks_either}
use Rattle.hgs_index.specs.Inline.{chunks_apart, entries_in, index_apart, is_inline, without_inline}
use Rattle.hgs_index.specs.Revision.{Revision}
use Rattle.hgs_index.specs.Revlog.{Holds, HoldsRevisions}
use Rattle.hgs_index.specs.Theorems.InlineLemmas.{apart-held}
use Rattle.hgs_revlog.specs.Theorems.ApartBytes.{apart-bytes}
use Rattle.hgs_findings.specs.Reading.{Log, index_in, index_path}

pub either-back : (index data_bytes : List ℕ) (revisions : List Revision) → HoldsRevisions (index_apart index) (chunks_either index data_bytes) revisions → HoldsEither index data_bytes revisions
either-back index data_bytes revisions h = by (is_inline index) refl h
  where
    by : (inline : Bool) → is_inline index ≡ inline → HoldsRevisions (cond inline (without_inline (entries_in (length index) index)) index) (chunk_bytes inline index data_bytes) revisions → Holds inline index data_bytes revisions
    by true form held =
        apart-held index data_bytes (chunks_apart index) [] revisions form
        (subst (λ b. HoldsRevisions (cond b (without_inline (entries_in (length index) index)) index) (chunks_apart index) revisions) (sym form) held) (sym (append-nil (chunks_apart index)))
    by false form held = held

pub read-bytes : (t : Tree) (log : Log) → ((path : List ℕ) → IsBytes (bytes_at t path)) → IsBytes (index_in t log)
read-bytes t log are = apart-bytes (bytes_at t (index_path log)) (are (index_path log))
