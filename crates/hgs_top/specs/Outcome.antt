-- What a question writes, and whether it ends in a refusal.
use Rattle.std.specs.Prelude.{ℕ, zero, suc, List, [], ◌∷◌, ◌++◌, length, slice_get, Option, Some, None, Result, Ok, Err}
use Rattle.hgs_files.specs.Tree.{Tree}
use Rattle.hgs_load.specs.declared.answer.ReadAnswer.{ReadAnswer}
use Rattle.hgs_model.specs.Phase.{phase_name}
use Rattle.hgs_model.specs.declared.phase.Phase.{Phase}
use Rattle.hgs_load.specs.Asks.{Asks, answer, at_rest}
use Rattle.hgs_reader.specs.Contents.{files_asks, cat_asks}
use Rattle.hgs_reader.specs.Heads.{heads_text}
use Rattle.hgs_reader.specs.Line.{line_asks}
use Rattle.hgs_reader.specs.Names.{named}
use Rattle.hgs_reader.specs.Shown.{marks_text, parents_text}
use Rattle.hgs_load.specs.View.{View}
use Rattle.hgs_load.specs.Open.{open_asks}
use Rattle.hgs_top.specs.declared.contents.About.{About}
use Rattle.hgs_top.specs.declared.contents.About.TheVariants.{Files, Body, AtPhase}
use Rattle.hgs_top.specs.declared.listing.Listing.{Listing}
use Rattle.hgs_top.specs.declared.listing.Listing.TheVariants.{Heads, Bookmarks, Parents}

-- the text of a question, up to its end or its first refusal, and that refusal
pub record Outcome : Type 0 where
  pub text : List ℕ
  pub refusal : Option ReadAnswer

abbrev pub refused : ReadAnswer → Outcome
refused e = record { text = []; refusal = Some e }

-- a line, and what comes after it; nothing comes after a refusal
abbrev pub line_then : Result (List ℕ) ReadAnswer → Outcome → Outcome
line_then (Ok line) rest = record { text = line ++ rest.text; refusal = rest.refusal }
line_then (Err e) rest = refused e

-- the lines of so many changesets, newest first
abbrev pub lines_down : (ℕ → Result (List ℕ) ReadAnswer) → ℕ → Outcome
lines_down line zero = record { text = []; refusal = None }
lines_down line (suc n) = line_then (line n) (lines_down line n)

abbrev pub lines_of_view : Tree → View → Outcome
lines_of_view t view = lines_down (λ rev. at_rest t (line_asks view rev)) (length view.changelog.entries)

abbrev pub log_of_view : Tree → Result View ReadAnswer → Outcome
log_of_view t (Err e) = refused e
log_of_view t (Ok view) = lines_of_view t view

-- what `log` writes over files at rest: a line for each changeset, newest first, up to the first damage
abbrev pub log_outcome : Tree → Outcome
log_outcome t = log_of_view t (at_rest t open_asks)

-- the lines of a listing
abbrev pub listing_text : Listing → View → List ℕ
listing_text Heads view = heads_text view
listing_text Bookmarks view = marks_text view
listing_text Parents view = parents_text view

abbrev pub listing_of_view : Listing → View → Outcome
listing_of_view listing view = record { text = listing_text listing view; refusal = None }

abbrev pub listing_of_load : Listing → Result View ReadAnswer → Outcome
listing_of_load listing (Err e) = refused e
listing_of_load listing (Ok view) = listing_of_view listing view

-- what a listing writes over files at rest
abbrev pub listing_outcome : Listing → Tree → Outcome
listing_outcome listing t = listing_of_load listing (at_rest t open_asks)

-- ---- a question about one changeset

-- what a question is answered with: its text, or that a name of it names no revision, or where its text is no set
pub data Reply : Type 0 where
  told : Outcome → Reply
  unknown_revision : Reply
  bad_set : ℕ → Reply

abbrev pub text_outcome : Result (List ℕ) ReadAnswer → Outcome
text_outcome (Err e) = refused e
text_outcome (Ok text) = record { text = text; refusal = None }

-- what is asked of a changeset: its files, the body of the one with this path, or its phase
pub data Subject : Type 0 where
  its_files : Subject
  its_file : List ℕ → Subject
  its_phase : Subject

abbrev pub subject_of : About → Subject
subject_of Files = its_files
subject_of (Body path) = its_file path.now
subject_of AtPhase = its_phase

abbrev pub phase_text : Option Phase → List ℕ
phase_text None = []
phase_text (Some phase) = phase_name phase ++ 10 ∷ []

abbrev pub contents_asks : View → ℕ → Subject → Asks (Result (List ℕ) ReadAnswer)
contents_asks view rev its_files = files_asks view rev
contents_asks view rev (its_file path) = cat_asks view rev path
contents_asks view rev its_phase = answer (Ok (phase_text (slice_get view.phases rev)))

abbrev pub contents_of_rev : Tree → View → Subject → Option ℕ → Reply
contents_of_rev t view subject None = unknown_revision
contents_of_rev t view subject (Some rev) = told (text_outcome (at_rest t (contents_asks view rev subject)))

abbrev pub contents_of_load : Tree → List ℕ → Subject → Result View ReadAnswer → Reply
contents_of_load t name subject (Err e) = told (refused e)
contents_of_load t name subject (Ok view) = contents_of_rev t view subject (named view name)

-- what is written of a changeset over files at rest
abbrev pub contents_reply : List ℕ → Subject → Tree → Reply
contents_reply name subject t = contents_of_load t name subject (at_rest t open_asks)
