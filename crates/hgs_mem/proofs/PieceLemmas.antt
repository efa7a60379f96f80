-- Pieces of bytes.
use Rattle.std.proofs.Common.{◌≡◌, ◌≤◌, ℕ, List, [], ◌∷◌, ◌++◌, length, take, drop, sym, ◌∙◌, ap, subst, refl, arith, length-take, append-nil}
use Rattle.std.specs.Prelude.{Some, Result, Ok, Err, OnOk}
use Rattle.std.proofs.lemmas.List.{take-append-drop}
use Rattle.hgs_files.specs.declared.op.Op.{Op}
use Rattle.hgs_files.specs.declared.op.Op.TheVariants.{Append, Create}
use Rattle.hgs_files.specs.Log.{append_of_rest, Does, IsDone}
use Rattle.hgs_files.specs.Files.{GoesOn}
use Rattle.hgs_files.specs.Theorems.LogLemmas.{done-more, done-longer, create-front}
use Rattle.hgs_mem.specs.Pieces.{bytes_in, AreSmall}

-- the next piece of an append, after which something is left
pub next-piece : (path bytes front back : List ℕ) → bytes ≡ front ++ back → Does (Append path bytes ∷ []) (Append path front) (append_of_rest path back)
next-piece path bytes front back e = (append_of_rest path back, (front, back, e, refl, refl), sym (append-nil (append_of_rest path back)))

-- one more small piece
pub small-more : (most : ℕ) (ops : List Op) (op : Op) → AreSmall most ops → length (bytes_in op) ≤ most → AreSmall most (ops ++ op ∷ [])
small-more most [] op h s = (s, tt)
small-more most (o ∷ ops) op h s = (h.0, small-more most ops op h.1 s)

-- one more piece of an append
pub done-next : (path bytes rest : List ℕ) (most : ℕ) (log new : List Op) (p q back : List ℕ) → IsDone (Append path bytes ∷ []) log (Append path rest ∷ []) →
    new ≡ log ++ Append p q ∷ [] → p ≡ path → q ≡ take most rest → back ≡ drop most rest → IsDone (Append path bytes ∷ []) new (append_of_rest path back)
done-next path bytes rest most log new p q back h n s t u =
    let e : new ≡ log ++ Append path (take most rest) ∷ [] = n ∙ ap (λ x. log ++ Append x q ∷ []) s ∙ ap (λ x. log ++ Append path x ∷ []) t in
    subst (λ (l : List Op). IsDone (Append path bytes ∷ []) l (append_of_rest path back)) (sym e)
    (subst (λ (b : List ℕ). IsDone (Append path bytes ∷ []) (log ++ Append path (take most rest) ∷ []) (append_of_rest path b)) (sym u)
    (done-more (Append path bytes ∷ []) log (Append path rest ∷ []) (append_of_rest path (drop most rest)) (Append path (take most rest)) h
    (next-piece path rest (take most rest) (drop most rest) (sym (take-append-drop most rest)))))

pub none-to-do : (path back : List ℕ) → length back ≡ 0 → append_of_rest path back ≡ []
none-to-do path [] e = refl
none-to-do path (b ∷ back) e = absurd (omega (arith, e))

pub some-to-do : (path back : List ℕ) → (length back ≡ 0 → ⊥) → append_of_rest path back ≡ Append path back ∷ []
some-to-do path [] n = absurd (n refl)
some-to-do path (b ∷ back) n = refl

pub small-next : (most : ℕ) (log new : List Op) (path bytes rest : List ℕ) → AreSmall most log → new ≡ log ++ Append path bytes ∷ [] → bytes ≡ take most rest → AreSmall most new
small-next most log new path bytes rest h n e =
    let P : List Op → Type 0 = λ l. AreSmall most l in
    subst P (sym n) (small-more most log (Append path bytes) h (omega (arith, ap length e, length-take most rest)))

-- what was done of a front of the bytes was done of all of them in part
pub append-part : (path bytes : List ℕ) (n : ℕ) (done : List Op) → IsDone (Append path (take n bytes) ∷ []) done [] → (left : List Op) × IsDone (Append path bytes ∷ []) done left
append-part path bytes n done h = (
  append_of_rest path (drop n bytes),
  subst (λ (b : List ℕ). IsDone (Append path b ∷ []) done (append_of_rest path (drop n bytes))) (take-append-drop n bytes) (done-longer path (take n bytes) (drop n bytes) done h),
)

pub create-part : (path bytes : List ℕ) (n : ℕ) → (left : List Op) × IsDone (Create path bytes ∷ []) (Create path (take n bytes) ∷ []) left
create-part path bytes n = (
  append_of_rest path (drop n bytes),
  subst (λ (b : List ℕ). IsDone (Create path b ∷ []) (Create path (take n bytes) ∷ []) (append_of_rest path (drop n bytes))) (take-append-drop n bytes) (create-front path (take n bytes) (drop n bytes)),
)

-- the same of what a call left
pub append-parts : {E : Type 0} (r : Result Unit E) (old new : List Op) (path bytes part : List ℕ) (n : ℕ) → part ≡ take n bytes →
    OnOk r (GoesOn (Some old) (Some new) (λ done. IsDone (Append path part ∷ []) done [])) →
    OnOk r (GoesOn (Some old) (Some new) (λ done. (left : List Op) × IsDone (Append path bytes ∷ []) done left))
append-parts (Ok x) old new path bytes part n e h =
    (h.0, h.1, append-part path bytes n h.0 (subst (λ (b : List ℕ). IsDone (Append path b ∷ []) h.0 []) e h.2))
append-parts (Err x) old new path bytes part n e h = h

pub create-parts : {E : Type 0} (r : Result Unit E) (old new : List Op) (path bytes part : List ℕ) (n : ℕ) → part ≡ take n bytes →
    OnOk r (new ≡ old ++ Create path part ∷ []) →
    OnOk r (GoesOn (Some old) (Some new) (λ done. (left : List Op) × IsDone (Create path bytes ∷ []) done left))
create-parts (Ok x) old new path bytes part n e h =
    (Create path (take n bytes) ∷ [], ap Some (h ∙ ap (λ b. old ++ Create path b ∷ []) e), create-part path bytes n)
create-parts (Err x) old new path bytes part n e h = h
