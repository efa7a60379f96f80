-- What a list of operations leaves at a path: untouched, appended to, put and renamed, removed.
use Rattle.std.proofs.Common.{◌≡◌, ◌⊎◌, ℕ, List, [], ◌∷◌, ◌++◌, Bool, true, false, cond, ◌&&◌, ◌||◌, not, refl, sym, ◌∙◌, ap, inl, inr, append_assoc, append-nil}
use Rattle.std.specs.Prelude.{Option, Some, None, unwrap_or}
use Rattle.std.specs.List.{list_any, list_all}
use Rattle.hgs_bytes.specs.Bytes.{same}
use Rattle.hgs_bytes.specs.Theorems.ByteLemmas.{same-refl, same-eq}
use Rattle.hgs_files.specs.declared.op.Op.{Op}
use Rattle.hgs_files.specs.declared.op.Op.TheVariants.{Append, Cut, Rename, Remove, Create, Sync, Settle}
use Rattle.hgs_files.specs.Tree.{Tree, bytes_at, same_path, with_file, shortened, renamed, apply, after_all}
use Rattle.hgs_ops.specs.Growth.{appended, appends_at}
use Rattle.hgs_files.specs.Theorems.TreeLemmas.{same_path-eq, with_file-same, with_file-other, after_all-append}

pub bool : (b : Bool) → (b ≡ true) ⊎ (b ≡ false)
bool true = inl refl
bool false = inr refl

pub never : {A : Type 0} → true ≡ false → A
never e = absurd (no_case e)
  where
    no_case : true ≡ false → ⊥
    no_case h = cc

pub or-left : (a b : Bool) → (a || b) ≡ false → a ≡ false
or-left true b e = e
or-left false b e = refl

pub or-right : (a b : Bool) → (a || b) ≡ false → b ≡ false
or-right true b e = never e
or-right false b e = e

pub or-both : (a b : Bool) → a ≡ false → b ≡ false → (a || b) ≡ false
or-both true b e f = e
or-both false b e f = f

pub and-left : (a b : Bool) → (a && b) ≡ true → a ≡ true
and-left true b e = refl
and-left false b e = e

pub and-right : (a b : Bool) → (a && b) ≡ true → b ≡ true
and-right true b e = e
and-right false b e = never (sym e)

pub and-both : (a b : Bool) → a ≡ true → b ≡ true → (a && b) ≡ true
and-both true b e f = f
and-both false b e f = e

pub same-sym : (p q : List ℕ) → same p q ≡ false → same q p ≡ false
same-sym p q e = elim (bool (same q p)) [
  | inl h ↦ never (sym (same-refl p) ∙ ap (same p) (sym (same-eq q p h)) ∙ e)
  | inr h ↦ h
]

-- a tree's test of paths is that of bytes
other-path : (p q : List ℕ) → same p q ≡ false → same_path p q ≡ false
other-path p q e = elim (bool (same_path p q)) [
  | inl h ↦ never (sym (same-refl p) ∙ ap (same p) (same_path-eq p q h) ∙ e)
  | inr h ↦ h
]

pub at : (t : Tree) (p q : List ℕ) (x : Option (List ℕ)) → same p q ≡ true → with_file t p x q ≡ x
at t p q x e = ap (with_file t p x) (sym (same-eq p q e)) ∙ with_file-same t p x

pub away : (t : Tree) (p q : List ℕ) (x : Option (List ℕ)) → same p q ≡ false → with_file t p x q ≡ t q
away t p q x e = with_file-other t p q x (other-path p q e)

pub bytes-same : (t u : Tree) (p : List ℕ) → u p ≡ t p → bytes_at u p ≡ bytes_at t p
bytes-same t u p e = ap (λ f. unwrap_or f []) e

-- ---- untouched

-- whether an operation is at this path
abbrev pub touches : List ℕ → Op → Bool
touches p (Append path bytes) = same path p
touches p (Cut path len) = same path p
touches p (Rename from to) = same from p || same to p
touches p (Remove path) = same path p
touches p (Create path bytes) = same path p
touches p (Sync path) = false
touches p Settle = false

abbrev pub touched : List ℕ → List Op → Bool
touched p ops = list_any (touches p) ops

cut-other : (t : Tree) (path : List ℕ) (len : ℕ) (p : List ℕ) (f : Option (List ℕ)) → same path p ≡ false → shortened t path len f p ≡ t p
cut-other t path len p None e = refl
cut-other t path len p (Some bytes) e = away t path p _ e

rename-other : (t : Tree) (from to p : List ℕ) (f : Option (List ℕ)) → same from p ≡ false → same to p ≡ false → renamed t from to f p ≡ t p
rename-other t from to p None e g = refl
rename-other t from to p (Some bytes) e g = away (with_file t from None) to p _ g ∙ away t from p None e

pub apply-other : (op : Op) (t : Tree) (p : List ℕ) → touches p op ≡ false → apply op t p ≡ t p
apply-other (Append path bytes) t p e = away t path p _ e
apply-other (Cut path len) t p e = cut-other t path len p (t path) e
apply-other (Rename from to) t p e = rename-other t from to p (t from) (or-left _ _ e) (or-right (same from p) _ e)
apply-other (Remove path) t p e = away t path p _ e
apply-other (Create path bytes) t p e = away t path p _ e
apply-other (Sync path) t p e = refl
apply-other Settle t p e = refl

-- a path that no operation is at keeps its file
pub untouched : (ops : List Op) (t : Tree) (p : List ℕ) → touched p ops ≡ false → after_all ops t p ≡ t p
untouched [] t p e = refl
untouched (op ∷ ops) t p e = untouched ops (apply op t) p (or-right (touches p op) _ e) ∙ apply-other op t p (or-left _ _ e)

pub touched-append : (p : List ℕ) (xs ys : List Op) → touched p xs ≡ false → touched p ys ≡ false → touched p (xs ++ ys) ≡ false
touched-append p [] ys a b = b
touched-append p (x ∷ xs) ys a b = or-both (touches p x) _ (or-left _ _ a) (touched-append p xs ys (or-right (touches p x) _ a) b)

-- whether an operation is at allowed paths only
abbrev pub within : (List ℕ → Bool) → Op → Bool
within ok (Append path bytes) = ok path
within ok (Cut path len) = ok path
within ok (Rename from to) = ok from && ok to
within ok (Remove path) = ok path
within ok (Create path bytes) = ok path
within ok (Sync path) = true
within ok Settle = true

not-allowed : (ok : List ℕ → Bool) (path p : List ℕ) → ok path ≡ true → ok p ≡ false → same path p ≡ false
not-allowed ok path p a b = elim (bool (same path p)) [
  | inl h ↦ never (sym a ∙ ap ok (same-eq path p h) ∙ b)
  | inr h ↦ h
]

touches-within : (ok : List ℕ → Bool) (op : Op) (p : List ℕ) → within ok op ≡ true → ok p ≡ false → touches p op ≡ false
touches-within ok (Append path bytes) p a b = not-allowed ok path p a b
touches-within ok (Cut path len) p a b = not-allowed ok path p a b
touches-within ok (Rename from to) p a b = or-both _ _ (not-allowed ok from p (and-left _ _ a) b) (not-allowed ok to p (and-right (ok from) _ a) b)
touches-within ok (Remove path) p a b = not-allowed ok path p a b
touches-within ok (Create path bytes) p a b = not-allowed ok path p a b
touches-within ok (Sync path) p a b = refl
touches-within ok Settle p a b = refl

-- operations at allowed paths touch no other
pub touched-within : (ok : List ℕ → Bool) (ops : List Op) (p : List ℕ) → list_all (within ok) ops ≡ true → ok p ≡ false → touched p ops ≡ false
touched-within ok [] p a b = refl
touched-within ok (op ∷ ops) p a b = or-both _ _ (touches-within ok op p (and-left _ _ a) b) (touched-within ok ops p (and-right (within ok op) _ a) b)

-- ---- removed

pub removed-at : (xs ys : List Op) (p : List ℕ) (t : Tree) → touched p ys ≡ false → after_all (xs ++ Remove p ∷ ys) t p ≡ None
removed-at xs ys p t e =
    ap (λ (u : Tree). u p) (after_all-append xs (Remove p ∷ ys) t)
    ∙ untouched ys (apply (Remove p) (after_all xs t)) p e
    ∙ with_file-same (after_all xs t) p None

-- ---- put under a new name and renamed

rename-to : (t : Tree) (from to text : List ℕ) (f : Option (List ℕ)) → f ≡ Some text → renamed t from to f to ≡ Some text
rename-to t from to text f e = ap (λ z. renamed t from to z to) e ∙ with_file-same (with_file t from None) to (Some text)

pub put-renamed : (xs ys zs : List Op) (new file text : List ℕ) (t : Tree) → touched new ys ≡ false → touched file zs ≡ false
    → after_all (xs ++ (Create new text ∷ (ys ++ (Rename new file ∷ zs)))) t file ≡ Some text
put-renamed xs ys zs new file text t a b =
    let u : Tree = apply (Create new text) (after_all xs t) in
    let v : Tree = after_all ys u in
    let first : after_all (xs ++ (Create new text ∷ (ys ++ (Rename new file ∷ zs)))) t file ≡ after_all (ys ++ Rename new file ∷ zs) u file = ap (λ (w : Tree). w file) (after_all-append xs (Create new text ∷ (ys ++ Rename new file ∷ zs)) t) in
    let second : after_all (ys ++ Rename new file ∷ zs) u file ≡ after_all zs (apply (Rename new file) v) file = ap (λ (w : Tree). w file) (after_all-append ys (Rename new file ∷ zs) u) in
    first ∙ second
    ∙ untouched zs (apply (Rename new file) v) file b
    ∙ rename-to v new file text (v new) (untouched ys u new a ∙ with_file-same (after_all xs t) new (Some text))

-- ---- appended to

-- an append, or an operation at other paths
abbrev pub only_appends : List ℕ → Op → Bool
only_appends p (Append path bytes) = true
only_appends p op = not (touches p op)

not-false : (b : Bool) → not b ≡ true → b ≡ false
not-false true e = sym e
not-false false e = refl

bytes-other : (op : Op) (t : Tree) (p : List ℕ) → touches p op ≡ false → bytes_at (apply op t) p ≡ bytes_at t p
bytes-other op t p e = ap (λ f. unwrap_or f []) (apply-other op t p e)

append-bytes : (t : Tree) (path bytes p : List ℕ) (b : Bool) → same path p ≡ b → bytes_at (apply (Append path bytes) t) p ≡ bytes_at t p ++ cond b bytes []
append-bytes t path bytes p true e = ap (λ f. unwrap_or f []) (at t path p _ e) ∙ ap (λ q. bytes_at t q ++ bytes) (same-eq path p e)
append-bytes t path bytes p false e = bytes-other (Append path bytes) t p e ∙ sym (append-nil (bytes_at t p))

apply-appends : (op : Op) (t : Tree) (p : List ℕ) → only_appends p op ≡ true → bytes_at (apply op t) p ≡ bytes_at t p ++ appends_at p op
apply-appends (Append path bytes) t p e = append-bytes t path bytes p (same path p) refl
apply-appends (Cut path len) t p e = bytes-other (Cut path len) t p (not-false _ e) ∙ sym (append-nil (bytes_at t p))
apply-appends (Rename from to) t p e = bytes-other (Rename from to) t p (not-false _ e) ∙ sym (append-nil (bytes_at t p))
apply-appends (Remove path) t p e = bytes-other (Remove path) t p (not-false _ e) ∙ sym (append-nil (bytes_at t p))
apply-appends (Create path bytes) t p e = bytes-other (Create path bytes) t p (not-false _ e) ∙ sym (append-nil (bytes_at t p))
apply-appends (Sync path) t p e = sym (append-nil (bytes_at t p))
apply-appends Settle t p e = sym (append-nil (bytes_at t p))

-- a path that is only appended to has its bytes and those that are appended
pub appended-at : (ops : List Op) (t : Tree) (p : List ℕ) → list_all (only_appends p) ops ≡ true → bytes_at (after_all ops t) p ≡ bytes_at t p ++ appended p ops
appended-at [] t p e = sym (append-nil (bytes_at t p))
appended-at (op ∷ ops) t p e =
    appended-at ops (apply op t) p (and-right (only_appends p op) _ e)
    ∙ ap (λ l. l ++ appended p ops) (apply-appends op t p (and-left _ _ e))
    ∙ append_assoc (bytes_at t p) (appends_at p op) (appended p ops)

pub appended-append : (p : List ℕ) (xs ys : List Op) → appended p (xs ++ ys) ≡ appended p xs ++ appended p ys
appended-append p [] ys = refl
appended-append p (x ∷ xs) ys = ap (λ l. appends_at p x ++ l) (appended-append p xs ys) ∙ sym (append_assoc (appends_at p x) (appended p xs) (appended p ys))

appends-none : (op : Op) (p : List ℕ) → touches p op ≡ false → appends_at p op ≡ []
appends-none (Append path bytes) p e = ap (λ b. cond b bytes []) e
appends-none (Cut path len) p e = refl
appends-none (Rename from to) p e = refl
appends-none (Remove path) p e = refl
appends-none (Create path bytes) p e = refl
appends-none (Sync path) p e = refl
appends-none Settle p e = refl

pub appended-none : (ops : List Op) (p : List ℕ) → touched p ops ≡ false → appended p ops ≡ []
appended-none [] p e = refl
appended-none (op ∷ ops) p e = ap (λ l. l ++ appended p ops) (appends-none op p (or-left _ _ e)) ∙ appended-none ops p (or-right (touches p op) _ e)

pub all-append : (f : Op → Bool) (xs ys : List Op) → list_all f xs ≡ true → list_all f ys ≡ true → list_all f (xs ++ ys) ≡ true
all-append f [] ys a b = b
all-append f (x ∷ xs) ys a b = and-both (f x) _ (and-left _ _ a) (all-append f xs ys (and-right (f x) _ a) b)

pub only-untouched : (ops : List Op) (p : List ℕ) → touched p ops ≡ false → list_all (only_appends p) ops ≡ true
only-untouched [] p e = refl
only-untouched (op ∷ ops) p e = and-both _ _ (one op (or-left _ _ e)) (only-untouched ops p (or-right (touches p op) _ e))
  where
    one : (op : Op) → touches p op ≡ false → only_appends p op ≡ true
    one (Append path bytes) h = refl
    one (Cut path len) h = ap not h
    one (Rename from to) h = ap not h
    one (Remove path) h = ap not h
    one (Create path bytes) h = ap not h
    one (Sync path) h = refl
    one Settle h = refl
