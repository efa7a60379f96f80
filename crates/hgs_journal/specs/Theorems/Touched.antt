-- At which paths operations are, and what of them is done in parts.
use Rattle.std.proofs.Common.{◌≡◌, ◌⊎◌, ℕ, List, [], ◌∷◌, ◌++◌, Bool, true, false, ◌&&◌, ◌||◌, refl, sym, ◌∙◌, ap, subst, inl, inr, append_assoc, append-nil}
use Rattle.std.specs.Prelude.{Option, Some, None}
use Rattle.std.specs.List.{list_any, list_all}
use Rattle.hgs_bytes.specs.Bytes.{same}
use Rattle.hgs_bytes.specs.Theorems.ByteLemmas.{same-eq}
use Rattle.hgs_files.specs.declared.op.Op.{Op}
use Rattle.hgs_files.specs.declared.op.Op.TheVariants.{Append, Cut, Rename, Remove, Create, Sync, Settle}
use Rattle.hgs_files.specs.Log.{Does, IsDone, IsPiece, append_of_rest}
use Rattle.hgs_files.specs.Tree.{Tree, with_file, shortened, renamed, apply, after_all}
use Rattle.hgs_journal.specs.Theorems.TreeFacts.{bool, never, away as with_file-other}

pub or-left : (a b : Bool) → (a || b) ≡ false → a ≡ false
or-left true b e = e
or-left false b e = refl

pub or-right : (a b : Bool) → (a || b) ≡ false → b ≡ false
or-right true b e = never e
or-right false b e = e

pub or-both : (a b : Bool) → a ≡ false → b ≡ false → (a || b) ≡ false
or-both true b e f = e
or-both false b e f = f

pub and-left : (a b : Bool) → (a && b) ≡ true → a ≡ true
and-left true b e = refl
and-left false b e = e

pub and-right : (a b : Bool) → (a && b) ≡ true → b ≡ true
and-right true b e = e
and-right false b e = never (sym e)

pub and-both : (a b : Bool) → a ≡ true → b ≡ true → (a && b) ≡ true
and-both true b e f = f
and-both false b e f = e

-- ---- untouched

-- whether an operation is at this path
abbrev pub touches : List ℕ → Op → Bool
touches p (Append path bytes) = same path p
touches p (Cut path len) = same path p
touches p (Rename from to) = same from p || same to p
touches p (Remove path) = same path p
touches p (Create path bytes) = same path p
touches p (Sync path) = false
touches p Settle = false

abbrev pub touched : List ℕ → List Op → Bool
touched p ops = list_any (touches p) ops

cut-other : (t : Tree) (path : List ℕ) (len : ℕ) (p : List ℕ) (f : Option (List ℕ)) → same path p ≡ false → shortened t path len f p ≡ t p
cut-other t path len p None e = refl
cut-other t path len p (Some bytes) e = with_file-other t path p _ e

rename-other : (t : Tree) (from to p : List ℕ) (f : Option (List ℕ)) → same from p ≡ false → same to p ≡ false → renamed t from to f p ≡ t p
rename-other t from to p None e g = refl
rename-other t from to p (Some bytes) e g = with_file-other (with_file t from None) to p _ g ∙ with_file-other t from p None e

pub apply-other : (op : Op) (t : Tree) (p : List ℕ) → touches p op ≡ false → apply op t p ≡ t p
apply-other (Append path bytes) t p e = with_file-other t path p _ e
apply-other (Cut path len) t p e = cut-other t path len p (t path) e
apply-other (Rename from to) t p e = rename-other t from to p (t from) (or-left _ _ e) (or-right (same from p) _ e)
apply-other (Remove path) t p e = with_file-other t path p _ e
apply-other (Create path bytes) t p e = with_file-other t path p _ e
apply-other (Sync path) t p e = refl
apply-other Settle t p e = refl

-- a path that no operation is at keeps its file
pub untouched : (ops : List Op) (t : Tree) (p : List ℕ) → touched p ops ≡ false → after_all ops t p ≡ t p
untouched [] t p e = refl
untouched (op ∷ ops) t p e = untouched ops (apply op t) p (or-right (touches p op) _ e) ∙ apply-other op t p (or-left _ _ e)

pub touched-append : (p : List ℕ) (xs ys : List Op) → touched p xs ≡ false → touched p ys ≡ false → touched p (xs ++ ys) ≡ false
touched-append p [] ys a b = b
touched-append p (x ∷ xs) ys a b = or-both (touches p x) _ (or-left _ _ a) (touched-append p xs ys (or-right (touches p x) _ a) b)

-- whether an operation is at allowed paths only
abbrev pub within : (List ℕ → Bool) → Op → Bool
within ok (Append path bytes) = ok path
within ok (Cut path len) = ok path
within ok (Rename from to) = ok from && ok to
within ok (Remove path) = ok path
within ok (Create path bytes) = ok path
within ok (Sync path) = true
within ok Settle = true

not-allowed : (ok : List ℕ → Bool) (path p : List ℕ) → ok path ≡ true → ok p ≡ false → same path p ≡ false
not-allowed ok path p a b = elim (bool (same path p)) [
  | inl h ↦ never (sym a ∙ ap ok (same-eq path p h) ∙ b)
  | inr h ↦ h
]

touches-within : (ok : List ℕ → Bool) (op : Op) (p : List ℕ) → within ok op ≡ true → ok p ≡ false → touches p op ≡ false
touches-within ok (Append path bytes) p a b = not-allowed ok path p a b
touches-within ok (Cut path len) p a b = not-allowed ok path p a b
touches-within ok (Rename from to) p a b = or-both _ _ (not-allowed ok from p (and-left _ _ a) b) (not-allowed ok to p (and-right (ok from) _ a) b)
touches-within ok (Remove path) p a b = not-allowed ok path p a b
touches-within ok (Create path bytes) p a b = not-allowed ok path p a b
touches-within ok (Sync path) p a b = refl
touches-within ok Settle p a b = refl

-- operations at allowed paths touch no other
pub touched-within : (ok : List ℕ → Bool) (ops : List Op) (p : List ℕ) → list_all (within ok) ops ≡ true → ok p ≡ false → touched p ops ≡ false
touched-within ok [] p a b = refl
touched-within ok (op ∷ ops) p a b = or-both _ _ (touches-within ok op p (and-left _ _ a) b) (touched-within ok ops p (and-right (within ok op) _ a) b)

pub all-append : (f : Op → Bool) (xs ys : List Op) → list_all f xs ≡ true → list_all f ys ≡ true → list_all f (xs ++ ys) ≡ true
all-append f [] ys a b = b
all-append f (x ∷ xs) ys a b = and-both (f x) _ (and-left _ _ a) (all-append f xs ys (and-right (f x) _ a) b)

-- ---- parts of operations at some paths

rest-within : (ok : List ℕ → Bool) (path bytes : List ℕ) → ok path ≡ true → list_all (within ok) (append_of_rest path bytes) ≡ true
rest-within ok path [] e = refl
rest-within ok path (b ∷ bytes) e = and-both _ _ e refl

pub piece-within : (ok : List ℕ → Bool) (op piece : Op) (left : List Op) → IsPiece op piece left → within ok op ≡ true → (within ok piece ≡ true) × (list_all (within ok) left ≡ true)
piece-within ok (Append path bytes) piece left (front, back, e, f, g) w = (ap (within ok) f ∙ w, ap (list_all (within ok)) g ∙ rest-within ok path back w)
piece-within ok (Create path bytes) piece left (front, back, e, f, g) w = (ap (within ok) f ∙ w, ap (list_all (within ok)) g ∙ rest-within ok path back w)
piece-within ok (Cut path len) piece left (f, g) w = (ap (within ok) f ∙ w, ap (list_all (within ok)) g)
piece-within ok (Rename from to) piece left (f, g) w = (ap (within ok) f ∙ w, ap (list_all (within ok)) g)
piece-within ok (Remove path) piece left (f, g) w = (ap (within ok) f ∙ w, ap (list_all (within ok)) g)
piece-within ok (Sync path) piece left (f, g) w = (ap (within ok) f ∙ w, ap (list_all (within ok)) g)
piece-within ok Settle piece left (f, g) w = (ap (within ok) f ∙ w, ap (list_all (within ok)) g)

pub does-within : (ok : List ℕ → Bool) (ops left : List Op) (piece : Op) → Does ops piece left → list_all (within ok) ops ≡ true → (within ok piece ≡ true) × (list_all (within ok) left ≡ true)
does-within ok [] left piece h w = elim h [ ]
does-within ok (op ∷ ops) left piece (rest, p, e) w =
    let one = piece-within ok op piece rest p (and-left _ _ w) in
    (one.0, ap (list_all (within ok)) e ∙ all-append (within ok) rest ops one.1 (and-right (within ok op) _ w))

pub done-within : (ok : List ℕ → Bool) (ops done left : List Op) → IsDone ops done left → list_all (within ok) ops ≡ true → list_all (within ok) done ≡ true
done-within ok ops [] left h w = refl
done-within ok ops (op ∷ done) left (j, first, rest) w =
    let one = does-within ok ops j op first w in
    and-both _ _ one.0 (done-within ok j done left rest one.1)

-- what was done of two lists: a part of the first, or the first and a part of the second
pub done-split : (xs ys log left : List Op) → IsDone (xs ++ ys) log left → ((l : List Op) × IsDone xs log l) ⊎ ((a : List Op) × (b : List Op) × (log ≡ a ++ b) × IsDone xs a [] × IsDone ys b left)
done-split xs ys [] left h = inl (xs, refl)
done-split [] ys (op ∷ log) left h = inr ([], op ∷ log, refl, refl, h)
done-split (x ∷ xs) ys (op ∷ log) left (j, (rest, p, e), more) =
    elim (done-split (rest ++ xs) ys log left (subst (λ l. IsDone l log left) (e ∙ sym (append_assoc rest xs ys)) more)) [
      | inl (l, h) ↦ inl (l, (rest ++ xs, (rest, p, refl), h))
      | inr (a, b, f, h, k) ↦ inr (op ∷ a, b, ap (λ l. op ∷ l) f, (rest ++ xs, (rest, p, refl), h), k)
    ]

-- ---- the removal of one file

none-more : (more left : List Op) → IsDone [] more left → more ≡ []
none-more [] left h = refl
none-more (op ∷ more) left (j, d, k) = absurd d

pub remove-done : (path : List ℕ) (b left : List Op) → IsDone (Remove path ∷ []) b left → ((b ≡ []) × (left ≡ Remove path ∷ [])) ⊎ ((b ≡ Remove path ∷ []) × (left ≡ []))
remove-done path [] left h = inl (refl, sym h)
remove-done path (op ∷ more) left (j, (rest, (f, g), e), k) =
    let done : IsDone [] more left = subst (λ (l : List Op). IsDone l more left) (e ∙ append-nil rest ∙ g) k in
    let none : more ≡ [] = none-more more left done in
    inr ((λ i. f i ∷ none i), sym (subst (λ (l : List Op). IsDone [] l left) none done))
