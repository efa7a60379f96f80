-- Operations at one path: those that leave it, append to it, or shorten it; and parts of them.
use Rattle.std.proofs.Common.{◌≡◌, ◌⊎◌, ℕ, List, [], ◌∷◌, ◌++◌, Bool, true, false, not, refl, sym, ◌∙◌, ap, subst, inl, inr, drop, take, take-append-drop, append_assoc, append-nil}
use Rattle.std.specs.Prelude.{Option, Some, None}
use Rattle.std.specs.List.{list_all}
use Rattle.hgs_bytes.specs.Bytes.{IsPrefixOf, same}
use Rattle.hgs_bytes.specs.Theorems.ByteLemmas.{same-eq}
use Rattle.hgs_files.specs.declared.op.Op.{Op}
use Rattle.hgs_files.specs.declared.op.Op.TheVariants.{Append, Cut, Rename, Remove, Create, Sync, Settle}
use Rattle.hgs_files.specs.Log.{Does, IsPiece, append_of_rest}
use Rattle.hgs_files.specs.Tree.{Tree, after_all, apply, bytes_at, shortened, with_file}
use Rattle.hgs_files.specs.Theorems.TreeLemmas.{bytes_at-is}
use Rattle.hgs_ops.specs.Theorems.Touch.{all-append, and-both, and-left, and-right, apply-other, at, bool, bytes-same, only_appends, touches}

-- not at this path
abbrev pub still : List ℕ → Op → Bool
still p op = not (touches p op)

-- operations of which at most the last one, a rename, is at this path
pub record EndsInRename (p : List ℕ) (ops : List Op) : Type 0 where
  pub front : List Op
  pub from : List ℕ
  pub to : List ℕ
  pub is : ops ≡ front ++ Rename from to ∷ []
  pub calm : list_all (still p) front ≡ true

-- not at this path, or a cut or removal
abbrev pub shrinks : List ℕ → Op → Bool
shrinks p (Cut path len) = true
shrinks p (Remove path) = true
shrinks p op = not (touches p op)

pub not-true : (b : Bool) → not b ≡ true → b ≡ false
not-true true e = sym e
not-true false e = refl

pub still-bytes : (p : List ℕ) (op : Op) (u : Tree) → still p op ≡ true → bytes_at (apply op u) p ≡ bytes_at u p
still-bytes p op u e = bytes-same u (apply op u) p (apply-other op u p (not-true (touches p op) e))

pub all-still-bytes : (p : List ℕ) (ops : List Op) (u : Tree) → list_all (still p) ops ≡ true → bytes_at (after_all ops u) p ≡ bytes_at u p
all-still-bytes p [] u e = refl
all-still-bytes p (op ∷ ops) u e = all-still-bytes p ops (apply op u) (and-right (still p op) _ e) ∙ still-bytes p op u (and-left _ _ e)

pub prefix-same : (xs ys : List ℕ) → xs ≡ ys → IsPrefixOf xs ys
prefix-same xs ys e = ([], sym e ∙ sym (append-nil xs))

cut-shorter : (p path : List ℕ) (len : ℕ) (u : Tree) (f : Option (List ℕ)) → u path ≡ f → same path p ≡ true → IsPrefixOf (bytes_at (shortened u path len f) p) (bytes_at u p)
cut-shorter p path len u None e h = prefix-same (bytes_at u p) (bytes_at u p) refl
cut-shorter p path len u (Some bytes) e h =
    let now : bytes_at (shortened u path len (Some bytes)) p ≡ take len bytes = bytes_at-is (with_file u path (Some (take len bytes))) p (take len bytes) (at u path p (Some (take len bytes)) h) in
    let before : bytes_at u p ≡ bytes = bytes_at-is u p bytes (ap u (sym (same-eq path p h)) ∙ e) in
    (drop len bytes, before ∙ sym (take-append-drop len bytes) ∙ ap (λ l. l ++ drop len bytes) (sym now))

pub shrink-bytes : (p : List ℕ) (op : Op) (u : Tree) → shrinks p op ≡ true → IsPrefixOf (bytes_at (apply op u) p) (bytes_at u p)
shrink-bytes p (Cut path len) u e = elim (bool (same path p)) [
  | inl h ↦ cut-shorter p path len u (u path) refl h
  | inr h ↦ prefix-same _ _ (bytes-same u (apply (Cut path len) u) p (apply-other (Cut path len) u p h))
]
shrink-bytes p (Remove path) u e = elim (bool (same path p)) [
  | inl h ↦ (bytes_at u p, ap (λ l. l ++ bytes_at u p) (sym (bytes-same (λ q. None) (apply (Remove path) u) p (at u path p None h))))
  | inr h ↦ prefix-same _ _ (bytes-same u (apply (Remove path) u) p (apply-other (Remove path) u p h))
]
shrink-bytes p (Append path bytes) u e = prefix-same _ _ (still-bytes p (Append path bytes) u e)
shrink-bytes p (Create path bytes) u e = prefix-same _ _ (still-bytes p (Create path bytes) u e)
shrink-bytes p (Rename from to) u e = prefix-same _ _ (still-bytes p (Rename from to) u e)
shrink-bytes p (Sync path) u e = prefix-same _ _ refl
shrink-bytes p Settle u e = prefix-same _ _ refl

-- ---- parts of operations with a property

-- what an append or a creation of some bytes has, one of other bytes has, and the append of a creation's rest
pub record ForParts (f : Op → Bool) : Type 0 where
  pub append : (path a b : List ℕ) → f (Append path a) ≡ true → f (Append path b) ≡ true
  pub create : (path a b : List ℕ) → f (Create path a) ≡ true → (f (Create path b) ≡ true) × (f (Append path b) ≡ true)

pub still-parts : (p : List ℕ) → ForParts (still p)
still-parts p = record { append = λ path a b e. e; create = λ path a b e. (e, e) }

pub shrinks-parts : (p : List ℕ) → ForParts (shrinks p)
shrinks-parts p = record { append = λ path a b e. e; create = λ path a b e. (e, e) }

pub appends-parts : (p : List ℕ) → ForParts (only_appends p)
appends-parts p = record { append = λ path a b e. refl; create = λ path a b e. (e, refl) }

rest-of : (f : Op → Bool) (path bytes : List ℕ) → ((b : List ℕ) → f (Append path b) ≡ true) → list_all f (append_of_rest path bytes) ≡ true
rest-of f path [] e = refl
rest-of f path (b ∷ bytes) e = and-both _ _ (e (b ∷ bytes)) refl

piece-has : (f : Op → Bool) → ForParts f → (op piece : Op) (left : List Op) → IsPiece op piece left → f op ≡ true → (f piece ≡ true) × (list_all f left ≡ true)
piece-has f parts (Append path bytes) piece left (front, back, e, g, h) w = (ap f g ∙ parts.append path bytes front w, ap (list_all f) h ∙ rest-of f path back (λ b. parts.append path bytes b w))
piece-has f parts (Create path bytes) piece left (front, back, e, g, h) w = (ap f g ∙ (parts.create path bytes front w).0, ap (list_all f) h ∙ rest-of f path back (λ b. (parts.create path bytes b w).1))
piece-has f parts (Cut path len) piece left (g, h) w = (ap f g ∙ w, ap (list_all f) h)
piece-has f parts (Rename from to) piece left (g, h) w = (ap f g ∙ w, ap (list_all f) h)
piece-has f parts (Remove path) piece left (g, h) w = (ap f g ∙ w, ap (list_all f) h)
piece-has f parts (Sync path) piece left (g, h) w = (ap f g ∙ w, ap (list_all f) h)
piece-has f parts Settle piece left (g, h) w = (ap f g ∙ w, ap (list_all f) h)

pub does-has : (f : Op → Bool) → ForParts f → (ops left : List Op) (piece : Op) → Does ops piece left → list_all f ops ≡ true → (f piece ≡ true) × (list_all f left ≡ true)
does-has f parts [] left piece h w = elim h [ ]
does-has f parts (op ∷ ops) left piece (rest, p, e) w =
    let one = piece-has f parts op piece rest p (and-left _ _ w) in
    (one.0, ap (list_all f) e ∙ all-append f rest ops one.1 (and-right (f op) _ w))

renamed-does : (p : List ℕ) (front : List Op) (from to : List ℕ) (op : Op) (left : List Op) → list_all (still p) front ≡ true → Does (front ++ Rename from to ∷ []) op left → ((still p op ≡ true) × EndsInRename p left) ⊎ (left ≡ [])
renamed-does p [] from to op left calm (rest, (g, h), e) = inr (e ∙ ap (λ l. l ++ []) h)
renamed-does p (f ∷ front) from to op left calm (rest, piece, e) =
    let one = piece-has (still p) (still-parts p) f op rest piece (and-left _ _ calm) in
    inl (one.0, record { front = rest ++ front; from = from; to = to; is = e ∙ sym (append_assoc rest front (Rename from to ∷ [])); calm = all-append (still p) rest front one.1 (and-right (still p f) _ calm) })

-- one of them is not at the path, or it is the rename and nothing is left
pub ends-does : (p : List ℕ) (ops left : List Op) (op : Op) → EndsInRename p ops → Does ops op left → ((still p op ≡ true) × EndsInRename p left) ⊎ (left ≡ [])
ends-does p ops left op w does = renamed-does p w.front w.from w.to op left w.calm (subst (λ l. Does l op left) w.is does)

pub behind : (f : Op → Bool) (skipped rest : List Op) (op : Op) → list_all f (skipped ++ op ∷ rest) ≡ true → (f op ≡ true) × (list_all f rest ≡ true)
behind f [] rest op w = (and-left _ _ w, and-right (f op) _ w)
behind f (x ∷ skipped) rest op w = behind f skipped rest op (and-right (f x) _ w)
