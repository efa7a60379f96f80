-- What is found of a text and of a file, step by step.
use Rattle.std.proofs.Common.{◌≡◌, ℕ, List, ◌++◌, Bool, true, length, Option, Some, None, Result, Ok, Err, refl, sym, ◌∙◌, ap, subst}
use Rattle.std.specs.Prelude.{⊤, ◌==◌}
use Rattle.std.specs.Bool.{MatchBool}
use Rattle.hgs_bytes.specs.Answer.{Gives}
use Rattle.hgs_files.specs.Tree.{Tree}
use Rattle.hgs_index.specs.Revision.{Parents, Revision}
use Rattle.hgs_loading.specs.Found.{and_then}
use Rattle.hgs_loading.specs.Theorems.FoundLemmas.{either}
use Rattle.hgs_model.specs.History.{first_of}
use Rattle.hgs_model.specs.declared.files.NewFile.{NewFile}
use Rattle.hgs_path.specs.declared.name.Ext.{Ext}
use Rattle.hgs_load.specs.Answer.{is_of_outside}
use Rattle.hgs_load.specs.declared.answer.ReadAnswer.{ReadAnswer}
use Rattle.hgs_commit.specs.Files.{OfFile, changed_in, file_in, file_on, file_with, formed, filelog_in, fresh_text, kept_file, kept_in, parents_by, place_in, row_with}
use Rattle.hgs_commit.specs.Obstacles.{Met, Obstacle, noted, noting}
use Rattle.hgs_commit.specs.Texts.{OfGrowth, OfLog, OfText, growth_with, new_text_in, new_text_of, obstacles_with, revised_in, standing_of}
use Rattle.hgs_commit.specs.Walk.{Told}
use Rattle.hgs_commit.specs.declared.growth.Revised.{Revised}
use Rattle.hgs_commit.proofs.TreeLemmas.{noted-append}

pub text-found : (f : OfLog) (r : Revision) (t : Tree) (v : Revised) (m new : Met) (growth : Option OfGrowth) (standing : Option ℕ) → standing ≡ standing_of v.became → growth ≡ growth_with f v.node v.became → new ≡ noted m (obstacles_with f v.node v.became) →
    revised_in f r t ≡ Ok v → noting m (new_text_in f r t) ≡ Ok (record { node = v.node.0; standing = standing; growth = growth }, new)
text-found f r t v m new growth standing s g n e =
    ap (λ q. noting m (and_then q (λ became. Ok (new_text_of f became)))) e
    ∙ ap (λ x. Ok (record { node = v.node.0; standing = x; growth = growth_with f v.node v.became }, noted m (obstacles_with f v.node v.became))) (sym s)
    ∙ ap (λ x. Ok (record { node = v.node.0; standing = standing; growth = x }, noted m (obstacles_with f v.node v.became))) (sym g)
    ∙ ap (λ x. Ok (record { node = v.node.0; standing = standing; growth = growth }, x)) (sym n)

-- ---- a file that is changed

abbrev pub IsPlaced : Met → Met → Result (List Obstacle) ReadAnswer → Type 0
IsPlaced m new r = (obstacles : List Obstacle) × (r ≡ Ok obstacles) × (noted m obstacles ≡ new)

placed-ok : (m new : Met) (r : Result (List Obstacle) ReadAnswer) → and_then r (λ obstacles. Ok (noted m obstacles)) ≡ Ok new → IsPlaced m new r
placed-ok m new (Err e) h = cc
placed-ok m new (Ok o) h = (o, refl, ok-is (noted m o) new h)
  where
    ok-is : (a b : Met) → (let r : Result Met ReadAnswer = Ok a in r ≡ Ok b) → a ≡ b
    ok-is a b e = cc

placed-err : (m : Met) (e : ReadAnswer) (r : Result (List Obstacle) ReadAnswer) → (let q : Result Met ReadAnswer = and_then r (λ obstacles. Ok (noted m obstacles)) in q) ≡ Err e → r ≡ Err e
placed-err m e (Err f) h = cc
placed-err m e (Ok o) h = cc

module _ (f : OfLog) (file : NewFile) (source : List ℕ) (parents : Parents) (link : ℕ) (text : List ℕ) (packed : text ≡ fresh_text file source) (t : Tree) where
  abbrev revision : List ℕ → Revision
  revision x = record { text = x; parents = parents; link = link }

  abbrev with_text : OfText × List Obstacle → List Obstacle → OfFile × List Obstacle
  with_text x obstacles = (record { row = row_with file x.0.node; changed = true; growth = x.0.growth; new = length f.log.entries == 0; inline = f.log.inline }, obstacles ++ x.1)

  abbrev from : Result Revised ReadAnswer → Result (OfFile × List Obstacle) ReadAnswer
  from r = and_then (and_then r (λ became. Ok (new_text_of f became))) (λ x. and_then (place_in f t) (λ obstacles. Ok (with_text x obstacles)))

  changed-from : (r : Result Revised ReadAnswer) → revised_in f (revision text) t ≡ r → changed_in f file source parents link t ≡ from r
  changed-from r e = ap (λ x. from (revised_in f (revision x) t)) (sym packed) ∙ ap from e

  pub changed-ok : (v : Revised) (m between new : Met) (growth : Option OfGrowth) → growth ≡ growth_with f v.node v.became → new ≡ noted between (obstacles_with f v.node v.became) → revised_in f (revision text) t ≡ Ok v → and_then (place_in f t) (λ obstacles. Ok (noted m obstacles)) ≡ Ok between →
      noting m (changed_in f file source parents link t) ≡ Ok (record { row = row_with file v.node.0; changed = true; growth = growth; new = length f.log.entries == 0; inline = f.log.inline }, new)
  changed-ok v m between new growth g n e p =
      let o = placed-ok m between (place_in f t) p in
      ap (noting m) (changed-from (Ok v) e)
      ∙ ap (λ q. noting m (and_then q (λ obstacles. Ok (with_text (new_text_of f v) obstacles)))) o.1
      ∙ ap (λ x. Ok ((with_text (new_text_of f v) o.0).0, x)) (noted-append m o.0 (obstacles_with f v.node v.became) ∙ ap (λ k. noted k (obstacles_with f v.node v.became)) o.2 ∙ sym n)
      ∙ ap (λ x. Ok (record { row = row_with file v.node.0; changed = true; growth = x; new = length f.log.entries == 0; inline = f.log.inline }, new)) (sym g)

  pub changed-unread : (m : Met) (e : ReadAnswer) → MatchBool (is_of_outside e) ⊤ (revised_in f (revision text) t ≡ Err e) → MatchBool (is_of_outside e) ⊤ (noting m (changed_in f file source parents link t) ≡ Err e)
  changed-unread m e h = either (is_of_outside e) (revised_in f (revision text) t ≡ Err e) (noting m (changed_in f file source parents link t) ≡ Err e) (λ k. ap (noting m) (changed-from (Err e) k)) h

  pub changed-misplaced : (v : Revised) (m : Met) (e : ReadAnswer) → revised_in f (revision text) t ≡ Ok v → MatchBool (is_of_outside e) ⊤ ((let q : Result Met ReadAnswer = and_then (place_in f t) (λ obstacles. Ok (noted m obstacles)) in q) ≡ Err e) →
      MatchBool (is_of_outside e) ⊤ (noting m (changed_in f file source parents link t) ≡ Err e)
  changed-misplaced v m e r h = either (is_of_outside e) _ (noting m (changed_in f file source parents link t) ≡ Err e) (λ k.
      ap (noting m) (changed-from (Ok v) r)
      ∙ ap (λ q. noting m (and_then q (λ obstacles. Ok (with_text (new_text_of f v) obstacles)))) (placed-err m e (place_in f t) k)) h

-- ---- a file on revisions of its filelog

module _ (f : OfLog) (file : NewFile) (source : List ℕ) (old : Option Told) (parents : Parents) (link : ℕ) (t : Tree) where
  on-kept : (r : Result (Option ℕ) ReadAnswer) → kept_in f parents.0 parents.1 file.body t ≡ r → file_on f file source old parents link t ≡ and_then r (λ rev. file_with f file source old parents link rev t)
  on-kept r e = ap (λ q. and_then q (λ rev. file_with f file source old parents link rev t)) e

  pub on-unread : (m : Met) (e : ReadAnswer) → MatchBool (is_of_outside e) ⊤ (kept_in f parents.0 parents.1 file.body t ≡ Err e) → MatchBool (is_of_outside e) ⊤ (noting m (file_on f file source old parents link t) ≡ Err e)
  on-unread m e h = either (is_of_outside e) (kept_in f parents.0 parents.1 file.body t ≡ Err e) (noting m (file_on f file source old parents link t) ≡ Err e) (λ k. ap (noting m) (on-kept (Err e) k)) h

  pub on-same : (m : Met) (rev : ℕ) (x : OfFile) → x ≡ kept_file f file old rev → kept_in f parents.0 parents.1 file.body t ≡ Ok (Some rev) → noting m (file_on f file source old parents link t) ≡ Ok (x, m)
  on-same m rev x is e = ap (noting m) (on-kept (Ok (Some rev)) e) ∙ ap (λ y. Ok (y, m)) (sym is)

  pub on-changed : {V : Type 0} (view : V → OfFile × Met) (m : Met) (result : Result V ReadAnswer) → kept_in f parents.0 parents.1 file.body t ≡ Ok None → Gives is_of_outside view result (noting m (changed_in (formed f (fresh_text file source)) file source parents link t)) → Gives is_of_outside view result (noting m (file_on f file source old parents link t))
  on-changed view m result e h = let P : Result (OfFile × List Obstacle) ReadAnswer → Type 0 = λ r. Gives is_of_outside view result (noting m r) in subst P (sym (on-kept (Ok None) e)) h

module _ (lists : List ℕ → Ext → Bool) (link : ℕ) (file : NewFile) (source : List ℕ) (first second : Option Told) (t : Tree) where
  in-log : (r : Result OfLog ReadAnswer) → filelog_in lists file.path t ≡ r → file_in lists link file source first second t ≡ and_then r (λ f. and_then (parents_by f first second) (λ parents. file_on f file source (first_of first second) parents link t))
  in-log r e = ap (λ q. and_then q (λ f. and_then (parents_by f first second) (λ parents. file_on f file source (first_of first second) parents link t))) e

  pub in-unread : (m : Met) (e : ReadAnswer) → MatchBool (is_of_outside e) ⊤ (filelog_in lists file.path t ≡ Err e) → MatchBool (is_of_outside e) ⊤ (noting m (file_in lists link file source first second t) ≡ Err e)
  in-unread m e h = either (is_of_outside e) (filelog_in lists file.path t ≡ Err e) (noting m (file_in lists link file source first second t) ≡ Err e) (λ k. ap (noting m) (in-log (Err e) k)) h

  module _ (f : OfLog) (is : filelog_in lists file.path t ≡ Ok f) where
    in-parents : (r : Result Parents ReadAnswer) → parents_by f first second ≡ r → file_in lists link file source first second t ≡ and_then r (λ parents. file_on f file source (first_of first second) parents link t)
    in-parents r e = in-log (Ok f) is ∙ ap (λ q. and_then q (λ parents. file_on f file source (first_of first second) parents link t)) e

    pub in-orphan : (m : Met) (e : ReadAnswer) → MatchBool (is_of_outside e) ⊤ (parents_by f first second ≡ Err e) → MatchBool (is_of_outside e) ⊤ (noting m (file_in lists link file source first second t) ≡ Err e)
    in-orphan m e h = either (is_of_outside e) (parents_by f first second ≡ Err e) (noting m (file_in lists link file source first second t) ≡ Err e) (λ k. ap (noting m) (in-parents (Err e) k)) h

    pub in-file : {V : Type 0} (view : V → OfFile × Met) (m : Met) (result : Result V ReadAnswer) (parents : Parents) → parents_by f first second ≡ Ok parents → Gives is_of_outside view result (noting m (file_on f file source (first_of first second) parents link t)) → Gives is_of_outside view result (noting m (file_in lists link file source first second t))
    in-file view m result parents e h = let P : Result (OfFile × List Obstacle) ReadAnswer → Type 0 = λ r. Gives is_of_outside view result (noting m r) in subst P (sym (in-parents (Ok parents) e)) h
