-- What the changesets say of a path, word by word.
use Rattle.std.proofs.Common.{◌≡◌, ℕ, ◌+◌, ◌<◌, List, [], ◌∷◌, ◌++◌, length, take, get_or, map, refl, sym, ◌∙◌, ap}
use Rattle.std.specs.Prelude.{Option, Some, None, option_map, slice_get}
use Rattle.std.proofs.lemmas.List.{length-map, map_push, take_more}
use Rattle.std.proofs.lemmas.Option.{slice_get-map}
use Rattle.hgs_index.specs.Revision.{Revision}
use Rattle.hgs_findings.specs.OnePath as findings
use Rattle.hgs_findings.specs.OnePath.{naming_word, use_of_found, use_of_word, use_of_parent}
use Rattle.hgs_findings.specs.Sight as sight
use Rattle.hgs_judge.specs.declared.words.Heard.{Heard}
use Rattle.hgs_judge.specs.declared.words.Use.{Use}
use Rattle.hgs_judge.specs.declared.words.Word.{Word}
use Rattle.hgs_judge.specs.Kinds.{naming_in}
use Rattle.hgs_judge.specs.Words.{AreHeard, use_in, uses_in, uses_of, word_in, words_in}

-- the use at a place is that of the word there
looked-up : (uses : List Use) (log : List Revision) (all : List findings.Word) (rev : ℕ) → uses_in uses ≡ uses_of log all → option_map use_in (slice_get uses rev) ≡ option_map (λ (w : findings.Word). use_of_found log w.row) (slice_get all rev)
looked-up uses log all rev e = sym (slice_get-map use_in uses rev) ∙ ap (λ l. slice_get l rev) e ∙ slice_get-map (λ (w : findings.Word). use_of_found log w.row) all rev

pub some-use : (uses : List Use) (log : List Revision) (all : List findings.Word) (rev : ℕ) (u : Use) → uses_in uses ≡ uses_of log all → slice_get uses rev ≡ Some u → use_in u ≡ use_of_parent log all (Some rev)
some-use uses log all rev u e at = by (slice_get all rev) (ap (option_map use_in) (sym at) ∙ looked-up uses log all rev e)
  where
    by : (o : Option findings.Word) → Some (use_in u) ≡ option_map (λ (w : findings.Word). use_of_found log w.row) o → use_in u ≡ use_of_word log o
    by None h = absurd (no h)
      where
        no : Some (use_in u) ≡ None → ⊥
        no g = cc
    by (Some w) h = ap (elim [ None ↦ use_in u | Some z ↦ z ]) h

pub no-use : (uses : List Use) (log : List Revision) (all : List findings.Word) (rev : ℕ) → uses_in uses ≡ uses_of log all → slice_get uses rev ≡ None → sight.unknown ≡ use_of_parent log all (Some rev)
no-use uses log all rev e at = by (slice_get all rev) (ap (option_map use_in) (sym at) ∙ looked-up uses log all rev e)
  where
    by : (o : Option findings.Word) → None ≡ option_map (λ (w : findings.Word). use_of_found log w.row) o → sight.unknown ≡ use_of_word log o
    by None h = refl
    by (Some w) h = absurd (no h)
      where
        no : None ≡ Some (use_of_found log w.row) → ⊥
        no g = cc

-- one more word
pub words-more : (path : List ℕ) (words : List Word) (i : ℕ) (d : Word) → i < length words → words_in path (take (i + 1) words) ≡ words_in path (take i words) ++ word_in path (get_or words i d) ∷ []
words-more path words i d lt = ap (words_in path) (take_more words i d lt) ∙ map_push (word_in path) (take i words) (get_or words i d)

-- what is said of each word, with one more
pub said-more : {A : Type 0} (f : findings.Word → A) (path : List ℕ) (words : List Word) (i : ℕ) (d : Word) (done new : List A) (one : A) → i < length words → new ≡ done ++ one ∷ [] → done ≡ map f (words_in path (take i words)) → one ≡ f (word_in path (get_or words i d)) → new ≡ map f (words_in path (take (i + 1) words))
said-more f path words i d done new one lt pushed before is =
    pushed
    ∙ ap (λ l. l ++ one ∷ []) before
    ∙ ap (λ x. map f (words_in path (take i words)) ++ x ∷ []) is
    ∙ sym (ap (map f) (words-more path words i d lt) ∙ map_push f (words_in path (take i words)) (word_in path (get_or words i d)))

-- each word has a use
pub uses-count : (uses : List Use) (log : List Revision) (path : List ℕ) (words : List Word) → uses_in uses ≡ uses_of log (words_in path words) → length uses ≡ length words
uses-count uses log path words e =
    sym (length-map uses use_in) ∙ ap length e ∙ length-map (words_in path words) (λ (w : findings.Word). use_of_found log w.row) ∙ length-map words (word_in path)

-- the use of a word
pub own-use : (uses : List Use) (log : List Revision) (path : List ℕ) (words : List Word) (i : ℕ) (u : Use) (w : Word) → uses_in uses ≡ uses_of log (words_in path words) → slice_get uses i ≡ Some u → slice_get words i ≡ Some w → use_in u ≡ use_of_found log (word_in path w).row
own-use uses log path words i u w e at there =
    some-same (use_in u) (use_of_found log (word_in path w).row)
    (ap (option_map use_in) (sym at) ∙ looked-up uses log (words_in path words) i e
    ∙ ap (option_map (λ (x : findings.Word). use_of_found log x.row)) (slice_get-map (word_in path) words i ∙ ap (option_map (word_in path)) there))
  where
    some-same : (x y : sight.Use) → Some x ≡ Some y → x ≡ y
    some-same x y h = ap (elim [ None ↦ x | Some z ↦ z ]) h

-- each word has a naming
pub heard-count : (log : List Revision) (words : List Word) (h : Heard) → AreHeard log (words_in [] words) h → length h.namings.items ≡ length words
heard-count log words h are =
    sym (length-map h.namings.items naming_in) ∙ ap length are.namings ∙ length-map (words_in [] words) (naming_word log (words_in [] words)) ∙ length-map words (word_in [])
