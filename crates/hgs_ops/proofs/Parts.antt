-- What of some operations is done in parts.
use Rattle.std.proofs.Common.{◌≡◌, ◌⊎◌, ℕ, ◌<◌, List, [], ◌∷◌, ◌++◌, Bool, true, false, not, length, refl, sym, ◌∙◌, ap, subst, inl, inr, append_assoc, append-nil, arith, length-append}
use Rattle.std.specs.List.{list_all}
use Rattle.hgs_files.specs.declared.op.Op.{Op}
use Rattle.hgs_files.specs.declared.op.Op.TheVariants.{Append, Cut, Rename, Remove, Create, Sync, Settle}
use Rattle.hgs_files.specs.Log.{Does, IsDone, IsPiece, append_of_rest}
use Rattle.hgs_files.specs.Tree.{Tree, after_all, apply, bytes_at}
use Rattle.hgs_files.specs.Theorems.TreeLemmas.{bytes_at-with_file}
use Rattle.hgs_bytes.specs.Bytes.{same}
use Rattle.hgs_bytes.specs.Theorems.ByteLemmas.{same-refl}
use Rattle.hgs_ops.specs.Theorems.Touch.{all-append, and-both, and-left, and-right, or-left, or-right, touched, touched-within, touches, untouched, within}

rest-within : (ok : List ℕ → Bool) (path bytes : List ℕ) → ok path ≡ true → list_all (within ok) (append_of_rest path bytes) ≡ true
rest-within ok path [] e = refl
rest-within ok path (b ∷ bytes) e = and-both _ _ e refl

pub piece-within : (ok : List ℕ → Bool) (op piece : Op) (left : List Op) → IsPiece op piece left → within ok op ≡ true → (within ok piece ≡ true) × (list_all (within ok) left ≡ true)
piece-within ok (Append path bytes) piece left (front, back, e, f, g) w = (ap (within ok) f ∙ w, ap (list_all (within ok)) g ∙ rest-within ok path back w)
piece-within ok (Create path bytes) piece left (front, back, e, f, g) w = (ap (within ok) f ∙ w, ap (list_all (within ok)) g ∙ rest-within ok path back w)
piece-within ok (Cut path len) piece left (f, g) w = (ap (within ok) f ∙ w, ap (list_all (within ok)) g)
piece-within ok (Rename from to) piece left (f, g) w = (ap (within ok) f ∙ w, ap (list_all (within ok)) g)
piece-within ok (Remove path) piece left (f, g) w = (ap (within ok) f ∙ w, ap (list_all (within ok)) g)
piece-within ok (Sync path) piece left (f, g) w = (ap (within ok) f ∙ w, ap (list_all (within ok)) g)
piece-within ok Settle piece left (f, g) w = (ap (within ok) f ∙ w, ap (list_all (within ok)) g)

pub does-within : (ok : List ℕ → Bool) (ops left : List Op) (piece : Op) → Does ops piece left → list_all (within ok) ops ≡ true → (within ok piece ≡ true) × (list_all (within ok) left ≡ true)
does-within ok [] left piece h w = elim h [ ]
does-within ok (op ∷ ops) left piece (rest, p, e) w =
    let one = piece-within ok op piece rest p (and-left _ _ w) in
    (one.0, ap (list_all (within ok)) e ∙ all-append (within ok) rest ops one.1 (and-right (within ok op) _ w))

pub done-within : (ok : List ℕ → Bool) (ops done left : List Op) → IsDone ops done left → list_all (within ok) ops ≡ true → list_all (within ok) done ≡ true
done-within ok ops [] left h w = refl
done-within ok ops (op ∷ done) left (j, first, rest) w =
    let one = does-within ok ops j op first w in
    and-both _ _ one.0 (done-within ok j done left rest one.1)

-- what was done of two lists: a part of the first, or the first and a part of the second
pub done-split : (xs ys log left : List Op) → IsDone (xs ++ ys) log left → ((l : List Op) × IsDone xs log l) ⊎ ((a : List Op) × (b : List Op) × (log ≡ a ++ b) × IsDone xs a [] × IsDone ys b left)
done-split xs ys [] left h = inl (xs, refl)
done-split [] ys (op ∷ log) left h = inr ([], op ∷ log, refl, refl, h)
done-split (x ∷ xs) ys (op ∷ log) left (j, (rest, p, e), more) =
    elim (done-split (rest ++ xs) ys log left (subst (λ l. IsDone l log left) (e ∙ sym (append_assoc rest xs ys)) more)) [
      | inl (l, h) ↦ inl (l, (rest ++ xs, (rest, p, refl), h))
      | inr (a, b, f, h, k) ↦ inr (op ∷ a, b, ap (λ l. op ∷ l) f, (rest ++ xs, (rest, p, refl), h), k)
    ]

-- ---- the removal of one file

none-more : (more left : List Op) → IsDone [] more left → more ≡ []
none-more [] left h = refl
none-more (op ∷ more) left (j, d, k) = absurd d

pub remove-done : (path : List ℕ) (b left : List Op) → IsDone (Remove path ∷ []) b left → ((b ≡ []) × (left ≡ Remove path ∷ [])) ⊎ ((b ≡ Remove path ∷ []) × (left ≡ []))
remove-done path [] left h = inl (refl, sym h)
remove-done path (op ∷ more) left (j, (rest, (f, g), e), k) =
    let done : IsDone [] more left = subst (λ (l : List Op). IsDone l more left) (e ∙ append-nil rest ∙ g) k in
    let none : more ≡ [] = none-more more left done in
    inr ((λ i. f i ∷ none i), sym (subst (λ (l : List Op). IsDone [] l left) none done))

-- ---- files that some operations are not at

touched-not : (q : List ℕ) (op : Op) → touches q op ≡ false → within (λ p. not (same p q)) op ≡ true
touched-not q (Append path bytes) e = ap not e
touched-not q (Cut path len) e = ap not e
touched-not q (Rename from to) e = and-both _ _ (ap not (or-left _ _ e)) (ap not (or-right (same from q) _ e))
touched-not q (Remove path) e = ap not e
touched-not q (Create path bytes) e = ap not e
touched-not q (Sync path) e = refl
touched-not q Settle e = refl

pub all-not : (q : List ℕ) (ops : List Op) → touched q ops ≡ false → list_all (within (λ p. not (same p q))) ops ≡ true
all-not q [] e = refl
all-not q (op ∷ ops) e = and-both _ _ (touched-not q op (or-left _ _ e)) (all-not q ops (or-right (touches q op) _ e))

-- a part of operations at other paths leaves the file
pub part-other : (q : List ℕ) (ops done left : List Op) (u : Tree) → IsDone ops done left → touched q ops ≡ false → after_all done u q ≡ u q
part-other q ops done left u h e =
    untouched done u q (touched-within (λ p. not (same p q)) done q (done-within (λ p. not (same p q)) ops done left h (all-not q ops e)) (ap not (same-refl q)))

-- ---- an append that is not whole

-- what was appended is less than all, or nothing
abbrev pub IsLess : List ℕ → List ℕ → List Op → Type 0
IsLess path bytes done = (front : List ℕ) × ((length front < length bytes) ⊎ (front ≡ [])) × ((u : Tree) → bytes_at (after_all done u) path ≡ bytes_at u path ++ front)

nothing-left : (more : List Op) (o : Op) (l : List Op) → IsDone [] more (o ∷ l) → ⊥
nothing-left [] o l h = no h
  where
    no : [] ≡ o ∷ l → ⊥
    no e = cc
nothing-left (x ∷ more) o l (j, d, k) = d

pub append-less : (path bytes : List ℕ) (done : List Op) (o : Op) (l : List Op) → IsDone (Append path bytes ∷ []) done (o ∷ l) → IsLess path bytes done
append-less path bytes [] o l h = ([], inr refl, λ u. sym (append-nil (bytes_at u path)))
append-less path bytes (op ∷ more) o l (j, (rest, (front, back, e, f, g), k), m) = by back e (k ∙ append-nil rest ∙ g) (λ b h. append-less path b more o l h)
  where
    by : (back : List ℕ) → bytes ≡ front ++ back → j ≡ append_of_rest path back → ((b : List ℕ) → IsDone (Append path b ∷ []) more (o ∷ l) → IsLess path b more) → IsLess path bytes (op ∷ more)
    by [] e is rec = absurd (nothing-left more o l (subst (λ (x : List Op). IsDone x more (o ∷ l)) is m))
    by (b ∷ back) e is rec =
        let r = rec (b ∷ back) (subst (λ (x : List Op). IsDone x more (o ∷ l)) is m) in (
          front ++ r.0,
          inl (shorter (b ∷ back) r.0 e (more-than r.0 r.1)),
          λ u. r.2 (apply op u) ∙ ap (λ (x : Op). bytes_at (apply x u) path ++ r.0) f ∙ ap (λ x. x ++ r.0) (bytes_at-with_file u path (bytes_at u path ++ front)) ∙ append_assoc (bytes_at u path) front r.0,
        )
      where
        more-than : (x : List ℕ) → (length x < length (b ∷ back)) ⊎ (x ≡ []) → length x < length (b ∷ back)
        more-than x (inl lt) = lt
        more-than x (inr none) = let z : length x ≡ 0 = ap length none in omega (arith, z)

        shorter : (y x : List ℕ) → bytes ≡ front ++ y → length x < length y → length (front ++ x) < length bytes
        shorter y x e lt = omega (arith, lt, ap length e, length-append front x, length-append front y)
