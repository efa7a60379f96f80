-- What operations leave of the list of filelogs.
use Rattle.std.proofs.Common.{◌≡◌, ◌⊎◌, ℕ, List, [], ◌∷◌, ◌++◌, Bool, true, false, not, take, drop, refl, sym, ◌∙◌, ap, subst, inl, inr, append-nil}
use Rattle.std.specs.Prelude.{Option, Some, None, unwrap_or}
use Rattle.std.specs.List.{list_all}
use Rattle.std.proofs.lemmas.List.{take-append-drop}
use Rattle.hgs_bytes.specs.Bytes.{IsPrefixOf, same}
use Rattle.hgs_bytes.specs.Theorems.ByteLemmas.{same-eq}
use Rattle.hgs_files.specs.declared.op.Op.{Op}
use Rattle.hgs_files.specs.declared.op.Op.TheVariants.{Append, Cut, Rename, Remove, Create, Sync, Settle}
use Rattle.hgs_files.specs.Log.{Does, IsPiece, append_of_rest}
use Rattle.hgs_files.specs.Tree.{Tree, after_all, apply, bytes_at, renamed, shortened, with_file}
use Rattle.hgs_ops.specs.Growth.{appended}
use Rattle.hgs_ops.specs.Theorems.Touch.{all-append, and-both, and-left, and-right, appended-at, at, away, bool, only_appends}
use Rattle.hgs_stands.specs.Places.{fncache_path}

abbrev pub list_of : Tree → List ℕ
list_of t = bytes_at t fncache_path

abbrev pub is_away : List ℕ → Bool
is_away path = not (same path fncache_path)

-- an operation that gives the list of filelogs no more bytes: it puts nothing there
abbrev pub is_harmless : Op → Bool
is_harmless (Append path bytes) = is_away path
is_harmless (Cut path len) = true
is_harmless (Rename from to) = is_away to
is_harmless (Remove path) = true
is_harmless (Create path bytes) = is_away path
is_harmless (Sync path) = true
is_harmless Settle = true

abbrev pub AreHarmless : List Op → Type 0
AreHarmless ops = list_all is_harmless ops ≡ true

-- an operation that only appends to it, if it is at it
abbrev pub is_tame : Op → Bool
is_tame op = only_appends fncache_path op

abbrev pub AreTame : List Op → Type 0
AreTame ops = list_all is_tame ops ≡ true

not-same : (path : List ℕ) → is_away path ≡ true → same path fncache_path ≡ false
not-same path e = by (same path fncache_path) e
  where
    by : (b : Bool) → not b ≡ true → b ≡ false
    by true h = sym h
    by false h = refl

whole-front : (xs ys : List ℕ) → xs ≡ ys → IsPrefixOf xs ys
whole-front xs ys e = ([], sym e ∙ sym (append-nil xs))

same-list : (t u : Tree) → u fncache_path ≡ t fncache_path → IsPrefixOf (list_of u) (list_of t)
same-list t u e = whole-front (list_of u) (list_of t) (ap (λ f. unwrap_or f []) e)

no-list : (t u : Tree) → u fncache_path ≡ None → IsPrefixOf (list_of u) (list_of t)
no-list t u e = (list_of t, ap (λ (o : Option (List ℕ)). unwrap_or o [] ++ list_of t) (sym e))

-- a file is written at another path, or removed
put-away : (t : Tree) (path : List ℕ) (f : Option (List ℕ)) → is_away path ≡ true → IsPrefixOf (list_of (with_file t path f)) (list_of t)
put-away t path f e = same-list t (with_file t path f) (away t path fncache_path f (not-same path e))

removed : (t : Tree) (path : List ℕ) → IsPrefixOf (list_of (with_file t path None)) (list_of t)
removed t path = by (bool (same path fncache_path))
  where
    by : (same path fncache_path ≡ true) ⊎ (same path fncache_path ≡ false) → IsPrefixOf (list_of (with_file t path None)) (list_of t)
    by (inl e) = no-list t (with_file t path None) (at t path fncache_path None e)
    by (inr e) = same-list t (with_file t path None) (away t path fncache_path None e)

cut : (t : Tree) (path : List ℕ) (len : ℕ) (f : Option (List ℕ)) → t path ≡ f → IsPrefixOf (list_of (shortened t path len f)) (list_of t)
cut t path len None e = whole-front (list_of t) (list_of t) refl
cut t path len (Some bytes) e = by (bool (same path fncache_path))
  where
    by : (same path fncache_path ≡ true) ⊎ (same path fncache_path ≡ false) → IsPrefixOf (list_of (with_file t path (Some (take len bytes)))) (list_of t)
    by (inl h) =
        let now : list_of (with_file t path (Some (take len bytes))) ≡ take len bytes = ap (λ f. unwrap_or f []) (at t path fncache_path (Some (take len bytes)) h) in
        let before : list_of t ≡ bytes = ap (bytes_at t) (sym (same-eq path fncache_path h)) ∙ ap (λ f. unwrap_or f []) e in
        (drop len bytes, before ∙ sym (take-append-drop len bytes) ∙ ap (λ l. l ++ drop len bytes) (sym now))
    by (inr h) = same-list t (with_file t path (Some (take len bytes))) (away t path fncache_path (Some (take len bytes)) h)

moved : (t : Tree) (from to : List ℕ) (f : Option (List ℕ)) → is_away to ≡ true → IsPrefixOf (list_of (renamed t from to f)) (list_of t)
moved t from to None e = whole-front (list_of t) (list_of t) refl
moved t from to (Some bytes) e =
    let gone = removed t from in
    subst (λ (l : List ℕ). IsPrefixOf l (list_of t)) (sym (ap (λ f. unwrap_or f []) (away (with_file t from None) to fncache_path (Some bytes) (not-same to e)))) gone

-- behind a harmless operation a front of the list stands
pub harmless-front : (op : Op) (t : Tree) → is_harmless op ≡ true → IsPrefixOf (list_of (apply op t)) (list_of t)
harmless-front (Append path bytes) t e = put-away t path (Some (bytes_at t path ++ bytes)) e
harmless-front (Cut path len) t e = cut t path len (t path) refl
harmless-front (Rename from to) t e = moved t from to (t from) e
harmless-front (Remove path) t e = removed t path
harmless-front (Create path bytes) t e = put-away t path (Some bytes) e
harmless-front (Sync path) t e = whole-front (list_of t) (list_of t) refl
harmless-front Settle t e = whole-front (list_of t) (list_of t) refl

-- before tame operations too
pub tame-front : (ops : List Op) (t : Tree) → AreTame ops → IsPrefixOf (list_of t) (list_of (after_all ops t))
tame-front ops t e = (appended fncache_path ops, appended-at ops t fncache_path e)

-- ---- pieces

-- a test of operations that a piece of one meets, and an append of the rest
abbrev IsOfPieces : (Op → Bool) → Type 0
IsOfPieces test = (op piece : Op) (left : List Op) → test op ≡ true → IsPiece op piece left → (test piece ≡ true) × (list_all test left ≡ true)

rest-away : (path back : List ℕ) → is_away path ≡ true → AreHarmless (append_of_rest path back)
rest-away path [] e = refl
rest-away path (b ∷ back) e = and-both _ _ e refl

pub harmless-piece : (op piece : Op) (left : List Op) → is_harmless op ≡ true → IsPiece op piece left → (is_harmless piece ≡ true) × AreHarmless left
harmless-piece (Append path bytes) piece left e p = (ap is_harmless p.3 ∙ e, ap (list_all is_harmless) p.4 ∙ rest-away path p.1 e)
harmless-piece (Cut path len) piece left e p = (ap is_harmless p.0 ∙ e, ap (list_all is_harmless) p.1)
harmless-piece (Rename from to) piece left e p = (ap is_harmless p.0 ∙ e, ap (list_all is_harmless) p.1)
harmless-piece (Remove path) piece left e p = (ap is_harmless p.0 ∙ e, ap (list_all is_harmless) p.1)
harmless-piece (Create path bytes) piece left e p = (ap is_harmless p.3 ∙ e, ap (list_all is_harmless) p.4 ∙ rest-away path p.1 e)
harmless-piece (Sync path) piece left e p = (ap is_harmless p.0 ∙ e, ap (list_all is_harmless) p.1)
harmless-piece Settle piece left e p = (ap is_harmless p.0 ∙ e, ap (list_all is_harmless) p.1)

rest-tame : (path back : List ℕ) → AreTame (append_of_rest path back)
rest-tame path [] = refl
rest-tame path (b ∷ back) = refl

pub tame-piece : (op piece : Op) (left : List Op) → is_tame op ≡ true → IsPiece op piece left → (is_tame piece ≡ true) × AreTame left
tame-piece (Append path bytes) piece left e p = (ap is_tame p.3, ap (list_all is_tame) p.4 ∙ rest-tame path p.1)
tame-piece (Cut path len) piece left e p = (ap is_tame p.0 ∙ e, ap (list_all is_tame) p.1)
tame-piece (Rename from to) piece left e p = (ap is_tame p.0 ∙ e, ap (list_all is_tame) p.1)
tame-piece (Remove path) piece left e p = (ap is_tame p.0 ∙ e, ap (list_all is_tame) p.1)
tame-piece (Create path bytes) piece left e p = (ap is_tame p.3 ∙ e, ap (list_all is_tame) p.4 ∙ rest-tame path p.1)
tame-piece (Sync path) piece left e p = (ap is_tame p.0 ∙ e, ap (list_all is_tame) p.1)
tame-piece Settle piece left e p = (ap is_tame p.0 ∙ e, ap (list_all is_tame) p.1)

-- what is done of a list of operations, and what is left
does-test : (test : Op → Bool) → IsOfPieces test → (ops left : List Op) (op : Op) → list_all test ops ≡ true → Does ops op left → (test op ≡ true) × (list_all test left ≡ true)
does-test test pieces [] left op e d = absurd d
does-test test pieces (o ∷ ops) left op e d =
    let p = pieces o op d.0 (and-left _ _ e) d.1 in
    (p.0, ap (list_all test) d.2 ∙ all-append test d.0 ops p.1 (and-right (test o) _ e))

pub does-harmless : (ops left : List Op) (op : Op) → AreHarmless ops → Does ops op left → (is_harmless op ≡ true) × AreHarmless left
does-harmless ops left op e d = does-test is_harmless harmless-piece ops left op e d

pub does-tame : (ops left : List Op) (op : Op) → AreTame ops → Does ops op left → (is_tame op ≡ true) × AreTame left
does-tame ops left op e d = does-test is_tame tame-piece ops left op e d
