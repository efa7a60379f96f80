-- The changelog's index in either form: what it loads as, and where its chunks stand.
use Rattle.std.proofs.Common.{◌≡◌, ℕ, ◌/◌, ◌<◌, ◌≤◌, List, length, Bool, true, false, cond, nat_lt, Some, Result, Ok, Err, refl, sym, ◌∙◌, ap, arith}
use Rattle.std.specs.Prelude.{slice_get}
use Rattle.std.proofs.lemmas.Bool.Decides.{nat_tests}
use Rattle.hgs_files.specs.Tree.{Tree, bytes_at}
use Rattle.hgs_index.specs.declared.entry.Entry.{Entry}
use Rattle.hgs_index.specs.Either.{chunk_bytes}
use Rattle.hgs_index.specs.Inline.{entries_in, index_apart, is_inline, without_inline}
use Rattle.hgs_revlog.specs.declared.fault.RevFault.{RevFault}
use Rattle.hgs_revlog.specs.declared.fault.Tail.TheVariants.{Ignore}
use Rattle.hgs_revlog.specs.Held.{chunk_in}
use Rattle.hgs_revlog.specs.Load.{in_form, loaded, loaded_either}
use Rattle.hgs_revlog.specs.Log.{Log}
use Rattle.hgs_revlog.specs.Text.{span_in}
use Rattle.hgs_revlog.specs.Theorems.BehindLemmas.{loaded-count}
use Rattle.hgs_load.specs.declared.answer.ReadAnswer.{ReadAnswer}
use Rattle.hgs_load.specs.Asks.{at_rest}
use Rattle.hgs_load.specs.Form.{most_inline_index}
use Rattle.hgs_load.specs.Open.{log_asks}
use Rattle.hgs_load.specs.View.{changelog_index, changelog_data, log_answer}
use Rattle.hgs_load.specs.Theorems.PartLemmas.{part_is}
use Rattle.hgs_reader.specs.Line.{changeset_asks}
use Rattle.hgs_top.specs.History.{IsReadWhole, chunks_in, index_in}
use Rattle.hgs_top.specs.IndexLaws.{IndexLaws}

pub log-in : (r : Result Log RevFault) (log : Log) → log_answer changelog_index r ≡ Ok log → r ≡ Ok log
log-in (Err f) log h = cc
log-in (Ok x) log h = cc

-- what loads in either form loads as the separate index that it is taken apart into
pub apart-load : (index : List ℕ) (log : Log) → loaded_either Ignore index ≡ Ok log → loaded Ignore (index_apart index) ≡ Ok (record { inline = false; entries = log.entries })
apart-load index log h = by (is_inline index) (loaded Ignore (index_apart index)) (λ l k. (loaded-count (index_apart index) l k).2) h
  where
    log_is : (x y : Log) → (let a : Result Log RevFault = Ok x in a) ≡ Ok y → x ≡ y
    log_is x y e = cc

    by : (b : Bool) (r : Result Log RevFault) → ((l : Log) → r ≡ Ok l → l.inline ≡ false) → in_form b r ≡ Ok log → r ≡ Ok (record { inline = false; entries = log.entries })
    by b (Err f) form h = cc
    by b (Ok l) form h =
        ap (λ i. let r : Result Log RevFault = Ok (record { inline = i; entries = l.entries }) in r) (form l refl)
        ∙ ap (λ (x : Log). let r : Result Log RevFault = Ok (record { inline = false; entries = x.entries }) in r) (log_is (record { inline = b; entries = l.entries }) log h)

-- and the other way round
pub either-load : (index : List ℕ) (log : Log) → loaded Ignore (index_apart index) ≡ Ok log → loaded_either Ignore index ≡ Ok (record { inline = is_inline index; entries = log.entries })
either-load index log h = ap (in_form (is_inline index)) h

module _ (laws : IndexLaws) (t : Tree) where
  abbrev index : List ℕ
  index = bytes_at t changelog_index

  few-is : (most n : ℕ) → nat_lt most n ≡ false → n ≤ most
  few-is most n h = grind (arith, nat_tests, h)

  more-is : (most n : ℕ) → nat_lt most n ≡ true → most < n
  more-is most n h = grind arith

  -- what an inline index is asked for loads
  pub inline-loads : (log : Log) → is_inline index ≡ true → at_rest t log_asks ≡ Ok log → loaded_either Ignore index ≡ Ok log
  inline-loads log inline h = by (nat_lt most_inline_index (length index)) refl
    where
      no_ok : (e : ReadAnswer) → (let a : Result Log ReadAnswer = Err e in a) ≡ Ok log → loaded_either Ignore index ≡ Ok log
      no_ok e h = cc

      by : (b : Bool) → nat_lt most_inline_index (length index) ≡ b → loaded_either Ignore index ≡ Ok log
      by true e = no_ok _ (sym (laws.long t inline (more-is most_inline_index (length index) e)) ∙ h)
      by false e = log-in (loaded_either Ignore index) log (sym (laws.whole t inline (few-is most_inline_index (length index) e)) ∙ h)

  -- an index of either form that loads is what is asked for
  pub asked-log : (log : Log) → IsReadWhole t → length (index_in t) / 64 ≤ 1000000 → loaded_either Ignore index ≡ Ok log → at_rest t log_asks ≡ Ok log
  asked-log log short few loads = by (is_inline index) refl
    where
      by : (b : Bool) → is_inline index ≡ b → at_rest t log_asks ≡ Ok log
      by true e = laws.whole t e (short e) ∙ ap (log_answer changelog_index) loads
      by false e =
          let same : index_in t ≡ index = ap (λ b. cond b (without_inline (entries_in (length index) index)) index) e in
          let size = ap length same in
          laws.pieces t e (omega (arith, few, size)) ∙ ap (log_answer changelog_index) (sym (laws.separate Ignore index e) ∙ loads)

  -- the chunk of an entry is read where it stands
  pub chunk-asked : {A : Type 0} (log : Log) (rev : ℕ) (e : Entry) (given : List ℕ → Result A ReadAnswer) → loaded_either Ignore index ≡ Ok log → slice_get log.entries rev ≡ Some e → at_rest t (changeset_asks log.inline rev (Some e) given) ≡ given (chunk_in (chunks_in t) e)
  chunk-asked {A} log rev e given loads at =
      ap (λ i. at_rest t (changeset_asks i rev (Some e) given)) (laws.form Ignore index log loads)
      ∙ by (is_inline index) refl
    where
      by : (b : Bool) → is_inline index ≡ b → at_rest t (changeset_asks b rev (Some e) given) ≡ given (chunk_in (chunk_bytes b index (bytes_at t changelog_data)) e)
      by true is =
          ap given (part_is (t changelog_index) (span_in true rev e).from e.stored)
          ∙ ap given (laws.places Ignore index log rev e loads (laws.form Ignore index log loads ∙ is) at)
      by false is = ap given (part_is (t changelog_data) e.offset e.stored)
