-- What calls found, one after another.
use Rattle.std.proofs.Common.{◌≡◌, ℕ, ◌<◌, List, [], ◌++◌, length, take, Bool, true, false, refl, sym, ◌∙◌, ap, subst, arith}
use Rattle.std.specs.Prelude.{Option, Some, None, Result, Ok, Err, IfSome, ⊤, unwrap_or}
use Rattle.std.specs.Bool.{MatchBool}
use Rattle.std.specs.Option.{option_map}
use Rattle.std.proofs.lemmas.List.{length-take, take_all}
use Rattle.hgs_bytes.specs.Answer.{Gives}
use Rattle.hgs_files.specs.declared.op.Op.{Op}
use Rattle.hgs_files.specs.Tree.{Tree, after_all}
use Rattle.hgs_journal.specs.declared.backups.BackupLine.{BackupLine}
use Rattle.hgs_journal.specs.declared.journal.JournalLine.{JournalLine}
use Rattle.hgs_loading.specs.Found.{and_then}
use Rattle.hgs_load.specs.declared.answer.ReadAnswer.{ReadAnswer}
use Rattle.hgs_load.specs.Answer.{is_of_outside}
use Rattle.hgs_load.specs.Asks.{IsPart, part_of}
use Rattle.hgs_journal.specs.Names.{backups_path, journal_path}
use Rattle.hgs_recover.specs.Found.{all_kept_in, backups_in, backups_said, found_in, found_of, lengths_in, standing_in, undo_in}

-- where nobody else writes and the list of operations is told, this holds of the tree
abbrev pub Told : Bool → Option (List Op) → Tree → (Tree → Type 0) → Type 0
Told alone seen start Holds = alone ≡ true → IfSome seen (λ log. Holds (after_all log start))

told-by : (seen : Option (List Op)) (start : Tree) (P Q : Tree → Type 0) → ((t : Tree) → P t → Q t) → IfSome seen (λ log. P (after_all log start)) → IfSome seen (λ log. Q (after_all log start))
told-by None start P Q f h = tt
told-by (Some log) start P Q f h = f (after_all log start) h

told-two : (seen : Option (List Op)) (start : Tree) (P K Q : Tree → Type 0) → ((t : Tree) → P t → K t → Q t) → IfSome seen (λ log. P (after_all log start)) → IfSome seen (λ log. K (after_all log start)) → IfSome seen (λ log. Q (after_all log start))
told-two None start P K Q f h k = tt
told-two (Some log) start P K Q f h k = f (after_all log start) h k

pub told : (alone : Bool) (seen : Option (List Op)) (start : Tree) (P Q : Tree → Type 0) → ((t : Tree) → P t → Q t) → Told alone seen start P → Told alone seen start Q
told alone seen start P Q f h = λ a. told-by seen start P Q f (h a)

-- what held before, and what is found now
pub told-next : (alone : Bool) (now next : Option (List Op)) (start start_next : Tree) (P K Q : Tree → Type 0) → (alone ≡ true → next ≡ now) → start_next ≡ start → ((t : Tree) → P t → K t → Q t) → Told alone now start P → Told alone next start_next K → Told alone next start_next Q
told-next alone now next start start_next P K Q still same f h k = λ a.
    let N : Option (List Op) → Type 0 = λ s. IfSome s (λ log. P (after_all log start)) in
    let S : Tree → Type 0 = λ t. IfSome next (λ log. P (after_all log t)) in
    told-two next start_next P K Q f (subst S (sym same) (subst N (sym (still a)) (h a))) (k a)

-- ---- a file that is read whole

all-taken : (bytes : List ℕ) (most : ℕ) → length (take most bytes) < most → take most bytes ≡ bytes
all-taken bytes most f = let l = length-take most bytes in take_all most bytes (omega (arith, l, f))

whole : (t : Tree) (path : List ℕ) (most : ℕ) (part : Option (List ℕ)) → IfSome part (λ bytes. length bytes < most) → part ≡ part_of t path 0 most → t path ≡ part
whole t path most part few e = by (t path) (subst (λ p. IfSome p (λ bytes. length bytes < most)) e few) ∙ sym e
  where
    by : (file : Option (List ℕ)) → IfSome (option_map (λ bytes. take most bytes) file) (λ bytes. length bytes < most) → file ≡ option_map (λ bytes. take most bytes) file
    by None f = refl
    by (Some bytes) f = ap (λ (l : List ℕ). Some l) (sym (all-taken bytes most f))

pub few-bytes : (most : ℕ) (part : Option (List ℕ)) (bytes : List ℕ) → bytes ≡ unwrap_or part [] → length bytes < most → IfSome part (λ b. length b < most)
few-bytes most None bytes e f = tt
few-bytes most (Some b) bytes e f = subst (λ (l : List ℕ). length l < most) e f

pub whole-file : (alone : Bool) (seen : Option (List Op)) (start : Tree) (path : List ℕ) (most : ℕ) (part : Option (List ℕ)) → IfSome part (λ bytes. length bytes < most) → IsPart seen start path 0 most (Ok part) → IfSome seen (λ log. Gives is_of_outside (λ (p : Option (List ℕ)). p) (Ok part) (Ok (after_all log start path)))
whole-file alone None start path most part few h = tt
whole-file alone (Some log) start path most part few h = ap (λ (p : Option (List ℕ)). Ok p) (whole (after_all log start) path most part few h)

-- ---- lines, one after another

-- the bytes of the backups of the first lines were read, and those of the rest are left
abbrev pub KeptTo : List BackupLine → List BackupLine → List (List ℕ) → Tree → Type 0
KeptTo lines rest kept t = all_kept_in lines t ≡ and_then (all_kept_in rest t) (λ more. Ok (kept ++ more))

either : (b : Bool) (P Q : Type 0) → (P → Q) → MatchBool b ⊤ P → MatchBool b ⊤ Q
either true P Q f m = tt
either false P Q f m = f m

-- the files of the first lines are long enough, and those of the rest are left
abbrev pub LongTo : List JournalLine → List JournalLine → Tree → Type 0
LongTo lines rest t = lengths_in lines t ≡ lengths_in rest t

-- ---- one call, and the next with what it found

list-refused : (t : Tree) (path bytes text : List ℕ) (e : ReadAnswer) → path ≡ backups_path → text ≡ bytes → standing_in path t ≡ Ok bytes → MatchBool (is_of_outside e) ⊤ (backups_said text ≡ Err e) → MatchBool (is_of_outside e) ⊤ (backups_in t ≡ Err e)
list-refused t path bytes text e p same h said =
    either (is_of_outside e) (backups_said text ≡ Err e) (backups_in t ≡ Err e)
    (λ r. ap (λ g. and_then g backups_said) (subst (λ q. standing_in q t ≡ Ok bytes) p h) ∙ subst (λ b. backups_said b ≡ Err e) same r) said

pub refused-list : (alone : Bool) (seen : Option (List Op)) (start : Tree) (path bytes text : List ℕ) (e : ReadAnswer) → path ≡ backups_path → text ≡ bytes →
    Told alone seen start (λ t. standing_in path t ≡ Ok bytes) → MatchBool (is_of_outside e) ⊤ (backups_said text ≡ Err e) → Told alone seen start (λ t. MatchBool (is_of_outside e) ⊤ (backups_in t ≡ Err e))
refused-list alone seen start path bytes text e p same found said =
    told alone seen start (λ t. standing_in path t ≡ Ok bytes) (λ t. MatchBool (is_of_outside e) ⊤ (backups_in t ≡ Err e)) (λ t h. list-refused t path bytes text e p same h said) found

-- what a read gave of a file
abbrev pub IsThere : List ℕ → Option (List ℕ) → Tree → Type 0
IsThere path part t = (let r : Result (Option (List ℕ)) ReadAnswer = Ok (t path) in r) ≡ Ok part

same-part : (a b : Option (List ℕ)) → (let r : Result (Option (List ℕ)) ReadAnswer = Ok a in r) ≡ Ok b → a ≡ b
same-part a b e = cc

found-as : (t : Tree) (path : List ℕ) (part file : Option (List ℕ)) → path ≡ journal_path → part ≡ file → IsThere path part t → found_in t ≡ found_of file t
found-as t path part file p e h = ap (λ f. found_of f t) (sym (ap t p) ∙ same-part (t path) part h ∙ e)

pub nothing-found : (alone : Bool) (seen : Option (List Op)) (start : Tree) (path : List ℕ) (part : Option (List ℕ)) → path ≡ journal_path → part ≡ None → Told alone seen start (IsThere path part) → Told alone seen start (λ t. found_in t ≡ Ok None)
nothing-found alone seen start path part p e h = told alone seen start (IsThere path part) (λ t. found_in t ≡ Ok None) (λ t i. found-as t path part None p e i) h

undo-refused : (t : Tree) (path text bytes : List ℕ) (part : Option (List ℕ)) (e : ReadAnswer) → path ≡ journal_path → part ≡ Some text → bytes ≡ text → IsThere path part t → MatchBool (is_of_outside e) ⊤ (undo_in bytes t ≡ Err e) → MatchBool (is_of_outside e) ⊤ (found_in t ≡ Err e)
undo-refused t path text bytes part e p is same h k =
    either (is_of_outside e) (undo_in bytes t ≡ Err e) (found_in t ≡ Err e)
    (λ u. found-as t path part (Some text) p is h ∙ ap (λ r. and_then r (λ ops. Ok (Some ops))) (subst (λ b. undo_in b t ≡ Err e) same u)) k

pub refused-undo : (alone : Bool) (now next : Option (List Op)) (start start_next : Tree) (path text bytes : List ℕ) (part : Option (List ℕ)) (e : ReadAnswer) → (alone ≡ true → next ≡ now) → start_next ≡ start → path ≡ journal_path → part ≡ Some text → bytes ≡ text →
    Told alone now start (IsThere path part) → Told alone next start_next (λ t. MatchBool (is_of_outside e) ⊤ (undo_in bytes t ≡ Err e)) → Told alone next start_next (λ t. MatchBool (is_of_outside e) ⊤ (found_in t ≡ Err e))
refused-undo alone now next start start_next path text bytes part e still same p is b h k =
    told-next alone now next start start_next (IsThere path part) (λ t. MatchBool (is_of_outside e) ⊤ (undo_in bytes t ≡ Err e)) (λ t. MatchBool (is_of_outside e) ⊤ (found_in t ≡ Err e)) still same
    (λ t x y. undo-refused t path text bytes part e p is b x y) h k
