-- What laws of crates below say of the changelog's index.
use Rattle.std.specs.Prelude.{◌≡◌, ◌<◌, ◌≤◌, ◌/◌, ℕ, List, true, false, length, take, drop, slice_get, Some, Ok, Err}
use Rattle.hgs_files.specs.Tree.{Tree, bytes_at}
use Rattle.hgs_index.specs.declared.entry.Entry.{Entry}
use Rattle.hgs_index.specs.declared.kinds.Which.TheVariants.{Part}
use Rattle.hgs_index.specs.Inline.{chunks_apart, is_inline}
use Rattle.hgs_revlog.specs.declared.fault.Tail.{Tail}
use Rattle.hgs_revlog.specs.Held.{chunk_in}
use Rattle.hgs_revlog.specs.Load.{loaded, loaded_either, most_revisions}
use Rattle.hgs_revlog.specs.Loaded.{AreEntries}
use Rattle.hgs_revlog.specs.Log.{Log}
use Rattle.hgs_revlog.specs.Text.{span_in}
use Rattle.hgs_load.specs.declared.answer.ReadAnswer.TheVariants.{Limit}
use Rattle.hgs_load.specs.Asks.{at_rest}
use Rattle.hgs_load.specs.Form.{either_log_of, most_inline_index}
use Rattle.hgs_load.specs.Open.{log_asks, log_of, separate_log_asks}
use Rattle.hgs_load.specs.View.{changelog_index}

pub record IndexLaws : Type 0 where
  pub separate : (tail : Tail) (index : List ℕ) → is_inline index ≡ false → loaded_either tail index ≡ loaded tail index
  pub form : (tail : Tail) (index : List ℕ) (log : Log) → loaded_either tail index ≡ Ok log → log.inline ≡ is_inline index
  pub entries : (tail : Tail) (index : List ℕ) (log : Log) → loaded_either tail index ≡ Ok log → AreEntries log.entries
  pub places : (tail : Tail) (index : List ℕ) (log : Log) (rev : ℕ) (e : Entry) → loaded_either tail index ≡ Ok log → log.inline ≡ true → slice_get log.entries rev ≡ Some e → take e.stored (drop (span_in true rev e).from index) ≡ chunk_in (chunks_apart index) e
  pub rest : (t : Tree) → is_inline (bytes_at t changelog_index) ≡ false → at_rest t log_asks ≡ at_rest t separate_log_asks
  pub pieces : (t : Tree) → is_inline (bytes_at t changelog_index) ≡ false → length (bytes_at t changelog_index) / 64 ≤ most_revisions → at_rest t log_asks ≡ log_of (bytes_at t changelog_index)
  pub whole : (t : Tree) → is_inline (bytes_at t changelog_index) ≡ true → length (bytes_at t changelog_index) ≤ most_inline_index → at_rest t log_asks ≡ either_log_of (bytes_at t changelog_index)
  pub long : (t : Tree) → is_inline (bytes_at t changelog_index) ≡ true → most_inline_index < length (bytes_at t changelog_index) → at_rest t log_asks ≡ Err (Limit Part)
