-- What a journal names, by what is appended.
use Rattle.std.proofs.Common.{◌≡◌, ◌⊎◌, List, [], ◌∷◌, ◌++◌, ℕ, Bool, true, false, cond, ◌||◌, drop, refl, sym, ◌∙◌, ap, subst, inl, inr}
use Rattle.std.specs.Prelude.{flat_map}
use Rattle.std.specs.List.{AllByRecursion}
use Rattle.hgs_bytes.specs.Bytes.{among, same}
use Rattle.hgs_bytes.specs.Text.{line}
use Rattle.hgs_bytes.specs.Theorems.ByteLemmas.{same-eq, same-refl}
use Rattle.hgs_files.specs.declared.op.Op.{Op}
use Rattle.hgs_files.specs.declared.op.Op.TheVariants.{Append, Create, Cut, Remove, Rename, Settle, Sync}
use Rattle.hgs_files.specs.Tree.{Tree}
use Rattle.hgs_index.specs.Revision.{Revision}
use Rattle.hgs_journal.specs.Names.{in_store}
use Rattle.hgs_model.specs.History.{history}
use Rattle.hgs_model.specs.Repo.{Repo}
use Rattle.hgs_path.specs.declared.name.Ext.{Ext}
use Rattle.hgs_path.specs.declared.name.Ext.TheVariants.{D, I}
use Rattle.hgs_path.specs.StoreName.{store_name}
use Rattle.hgs_stands.specs.Places.{changelog_data, fncache_path, manifest_data, manifest_index}
use Rattle.hgs_ops.specs.Growth.{append_some, appended, growth_of, new_names, new_names_of, new_paths}
use Rattle.hgs_ops.specs.Theorems.OnceLemmas.{EachPath, each-joined, named}
use Rattle.hgs_ops.specs.Theorems.Touch.{bool, never}

-- there are bytes
abbrev pub IsSome : List ℕ → Type 0
IsSome [] = ⊥
IsSome (b ∷ bytes) = Unit {0}

pub some-of-two : (xs ys : List ℕ) → IsSome (xs ++ ys) → IsSome xs ⊎ IsSome ys
some-of-two [] ys e = inr e
some-of-two (x ∷ xs) ys e = inl tt

pub some-left : (xs ys : List ℕ) → IsSome xs → IsSome (xs ++ ys)
some-left [] ys e = absurd e
some-left (x ∷ xs) ys e = tt

pub some-right : (xs ys : List ℕ) → IsSome ys → IsSome (xs ++ ys)
some-right [] ys e = e
some-right (x ∷ xs) ys e = tt

or-more : (a b : Bool) → b ≡ true → (a || b) ≡ true
or-more true b e = refl
or-more false b e = e

or-rest : (a b : Bool) → a ≡ false → (a || b) ≡ true → b ≡ true
or-rest true b e g = never e
or-rest false b e g = g

-- ---- what is named

-- a file that bytes are appended to is named
pub appended-named : (t : Tree) (ops : List Op) (p : List ℕ) → EachPath (λ q. Unit {0}) ops → IsSome (appended p ops) → among p (named t ops) ≡ true
appended-named t [] p all e = absurd e
appended-named t (Append path bytes ∷ ops) p all e = by (bool (same path p)) (λ g. appended-named t ops p all.1 g)
  where
    by : (same path p ≡ true) ⊎ (same path p ≡ false) → (IsSome (appended p ops) → among p (named t ops) ≡ true) → among p (named t (Append path bytes ∷ ops)) ≡ true
    by (inl h) rec = ap (λ z. z || among p (named t ops)) (ap (same p) all.0.0 ∙ ap (same p) (same-eq path p h) ∙ same-refl p)
    by (inr h) rec = or-more (same p (in_store (drop 6 path))) (among p (named t ops)) (rec (subst (λ z. IsSome (cond z bytes [] ++ appended p ops)) h e))
appended-named t (Rename from to ∷ ops) p all e = appended-named t ops p all e
appended-named t (Cut path len ∷ ops) p all e = absurd all
appended-named t (Remove path ∷ ops) p all e = absurd all
appended-named t (Create path bytes ∷ ops) p all e = absurd all
appended-named t (Sync path ∷ ops) p all e = absurd all
appended-named t (Settle ∷ ops) p all e = absurd all

-- and of each that is named holds what holds of each that is appended to
pub named-each : (P : List ℕ → Type 0) (t : Tree) (ops : List Op) (p : List ℕ) → EachPath P ops → among p (named t ops) ≡ true → P p
named-each P t [] p all e = never (sym e)
named-each P t (Append path bytes ∷ ops) p all e = by (bool (same p (in_store (drop 6 path)))) (λ g. named-each P t ops p all.1 g)
  where
    by : (same p (in_store (drop 6 path)) ≡ true) ⊎ (same p (in_store (drop 6 path)) ≡ false) → (among p (named t ops) ≡ true → P p) → P p
    by (inl h) rec = subst P (sym (same-eq p (in_store (drop 6 path)) h ∙ all.0.0)) all.0.1
    by (inr h) rec = rec (or-rest (same p (in_store (drop 6 path))) (among p (named t ops)) h e)
named-each P t (Rename from to ∷ ops) p all e = named-each P t ops p all e
named-each P t (Cut path len ∷ ops) p all e = absurd all
named-each P t (Remove path ∷ ops) p all e = absurd all
named-each P t (Create path bytes ∷ ops) p all e = absurd all
named-each P t (Sync path ∷ ops) p all e = absurd all
named-each P t (Settle ∷ ops) p all e = absurd all

pub named-left : (t : Tree) (xs ys : List Op) (p : List ℕ) → among p (named t xs) ≡ true → among p (named t (xs ++ ys)) ≡ true
named-left t [] ys p e = never (sym e)
named-left t (Append path bytes ∷ xs) ys p e = by (bool (same p (in_store (drop 6 path)))) (λ g. named-left t xs ys p g)
  where
    by : (same p (in_store (drop 6 path)) ≡ true) ⊎ (same p (in_store (drop 6 path)) ≡ false) → (among p (named t xs) ≡ true → among p (named t (xs ++ ys)) ≡ true) → among p (named t ((Append path bytes ∷ xs) ++ ys)) ≡ true
    by (inl h) rec = ap (λ z. z || among p (named t (xs ++ ys))) h
    by (inr h) rec = or-more (same p (in_store (drop 6 path))) _ (rec (or-rest (same p (in_store (drop 6 path))) (among p (named t xs)) h e))
named-left t (Rename from to ∷ xs) ys p e = named-left t xs ys p e
named-left t (Cut path len ∷ xs) ys p e = named-left t xs ys p e
named-left t (Remove path ∷ xs) ys p e = named-left t xs ys p e
named-left t (Create path bytes ∷ xs) ys p e = named-left t xs ys p e
named-left t (Sync path ∷ xs) ys p e = named-left t xs ys p e
named-left t (Settle ∷ xs) ys p e = named-left t xs ys p e

pub named-right : (t : Tree) (xs ys : List Op) (p : List ℕ) → among p (named t ys) ≡ true → among p (named t (xs ++ ys)) ≡ true
named-right t [] ys p e = e
named-right t (Append path bytes ∷ xs) ys p e = or-more (same p (in_store (drop 6 path))) _ (named-right t xs ys p e)
named-right t (Rename from to ∷ xs) ys p e = named-right t xs ys p e
named-right t (Cut path len ∷ xs) ys p e = named-right t xs ys p e
named-right t (Remove path ∷ xs) ys p e = named-right t xs ys p e
named-right t (Create path bytes ∷ xs) ys p e = named-right t xs ys p e
named-right t (Sync path ∷ xs) ys p e = named-right t xs ys p e
named-right t (Settle ∷ xs) ys p e = named-right t xs ys p e

-- ---- a growth, by the bytes of each file

some-where : (P : List ℕ → Type 0) (path bytes : List ℕ) → in_store (drop 6 path) ≡ path → (IsSome bytes → P path) → EachPath P (append_some path bytes)
some-where P path [] e f = tt
some-where P path (b ∷ bytes) e f = ((e, f tt), tt)

pub growth_of-each : (P : List ℕ → Type 0) (bytes : List ℕ → List ℕ) (r next : Repo) → ((q : List ℕ) (ext : Ext) → among q (new_paths r next) ≡ true → IsSome (bytes (store_name q ext)) → P (store_name q ext))
    → (IsSome (flat_map line (new_names (history r.changesets).filelog (history next.changesets).filelog (new_paths r next))) → P fncache_path) → (IsSome (bytes manifest_data) → P manifest_data) → (IsSome (bytes manifest_index) → P manifest_index) → (IsSome (bytes changelog_data) → P changelog_data)
    → EachPath P (growth_of bytes r next)
growth_of-each P bytes r next files names data_path index chunks =
    each-joined P (stores (new_paths r next) ++ list ++ both) _
    (each-joined P (stores (new_paths r next) ++ list) both
    (each-joined P (stores (new_paths r next)) list (stores-each (new_paths r next) (λ q e. e)) (some-where P fncache_path _ refl names))
    (each-joined P (append_some manifest_data (bytes manifest_data)) _ (some-where P manifest_data _ refl data_path) (some-where P manifest_index _ refl index)))
    (some-where P changelog_data _ refl chunks)
  where
    stores : List (List ℕ) → List Op
    stores paths = flat_map (λ path. append_some (store_name path D) (bytes (store_name path D)) ++ append_some (store_name path I) (bytes (store_name path I))) paths

    list : List Op
    list = append_some fncache_path (flat_map line (new_names (history r.changesets).filelog (history next.changesets).filelog (new_paths r next)))

    both : List Op
    both = append_some manifest_data (bytes manifest_data) ++ append_some manifest_index (bytes manifest_index)

    stores-each : (paths : List (List ℕ)) → ((q : List ℕ) → among q paths ≡ true → among q (new_paths r next) ≡ true) → EachPath P (stores paths)
    stores-each [] sub = tt
    stores-each (q ∷ paths) sub =
        let e = sub q (ap (λ z. z || among q paths) (same-refl q)) in
        each-joined P (append_some (store_name q D) (bytes (store_name q D)) ++ append_some (store_name q I) (bytes (store_name q I))) (stores paths)
        (each-joined P (append_some (store_name q D) (bytes (store_name q D))) _ (some-where P (store_name q D) _ refl (files q D e)) (some-where P (store_name q I) _ refl (files q I e)))
        (stores-each paths (λ x g. sub x (or-more (same x q) (among x paths) g)))

-- ---- new lines

some-line : (x ys : List ℕ) → IsSome (line x ++ ys)
some-line [] ys = tt
some-line (b ∷ x) ys = tt

more-lines : (xs ys : List (List ℕ)) → IsSome (flat_map line ys) → IsSome (flat_map line (xs ++ ys))
more-lines [] ys e = e
more-lines (x ∷ xs) ys e = some-line x (flat_map line (xs ++ ys))

-- a line is added where a filelog of these paths has no revision yet, and only there
pub line-path : (old new : List ℕ → List Revision) (ps : List (List ℕ)) → IsSome (flat_map line (new_names old new ps)) → (q : List ℕ) × (among q ps ≡ true) × (old q ≡ [])
line-path old new [] e = absurd e
line-path old new (q ∷ ps) e = by (old q) refl e (λ g. line-path old new ps g)
  where
    by : (log : List Revision) → old q ≡ log → IsSome (flat_map line (new_names_of q log (new q) ++ new_names old new ps)) → (IsSome (flat_map line (new_names old new ps)) → (x : List ℕ) × (among x ps ≡ true) × (old x ≡ [])) → (x : List ℕ) × (among x (q ∷ ps) ≡ true) × (old x ≡ [])
    by [] none g rec = (q, ap (λ z. z || among q ps) (same-refl q), none)
    by (r ∷ log) some g rec =
        let x = rec g in
        (x.0, or-more (same x.0 q) (among x.0 ps) x.1, x.2)

pub path-line : (old new : List ℕ → List Revision) (ps : List (List ℕ)) (q : List ℕ) → among q ps ≡ true → old q ≡ [] → IsSome (flat_map line (new_names old new ps))
path-line old new [] q e none = never (sym e)
path-line old new (o ∷ ps) q e none = by (bool (same q o)) (λ g. path-line old new ps q g none)
  where
    first : (log : List Revision) → log ≡ [] → IsSome (flat_map line (new_names_of o log (new o) ++ new_names old new ps))
    first [] e = some-line _ _
    first (r ∷ log) e = cc

    by : (same q o ≡ true) ⊎ (same q o ≡ false) → (among q ps ≡ true → IsSome (flat_map line (new_names old new ps))) → IsSome (flat_map line (new_names old new (o ∷ ps)))
    by (inl h) rec = first (old o) (ap old (sym (same-eq q o h)) ∙ none)
    by (inr h) rec = more-lines (new_names_of o (old o) (new o)) (new_names old new ps) (rec (or-rest (same q o) (among q ps) h e))

-- ---- lists

pub all-of : (P : List ℕ → Type 0) (ps : List (List ℕ)) → ((q : List ℕ) → among q ps ≡ true → P q) → AllByRecursion P ps
all-of P [] each = tt
all-of P (q ∷ ps) each = (each q (ap (λ z. z || among q ps) (same-refl q)), all-of P ps (λ x g. each x (or-more (same x q) (among x ps) g)))

pub one-of-all : (P : List ℕ → Type 0) (ps : List (List ℕ)) (q : List ℕ) → AllByRecursion P ps → among q ps ≡ true → P q
one-of-all P [] q all e = never (sym e)
one-of-all P (o ∷ ps) q all e = by (bool (same q o)) (λ g. one-of-all P ps q all.1 g)
  where
    by : (same q o ≡ true) ⊎ (same q o ≡ false) → (among q ps ≡ true → P q) → P q
    by (inl h) rec = subst P (sym (same-eq q o h)) all.0
    by (inr h) rec = rec (or-rest (same q o) (among q ps) h e)
