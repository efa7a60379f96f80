-- A stop in a piece leaves a piece, or leaves the journal.
use Rattle.std.proofs.Common.{◌≡◌, ◌⊎◌, ℕ, List, [], ◌∷◌, ◌++◌, map, refl, sym, ◌∙◌, ap, subst, inl, inr, append_assoc, append-nil}
use Rattle.hgs_files.specs.declared.op.Op.{Op}
use Rattle.hgs_files.specs.declared.op.Op.TheVariants.{Append, Cut, Rename, Remove, Create, Sync, Settle}
use Rattle.hgs_files.specs.Log.{Does, IsDone, IsPiece, append_of_rest}
use Rattle.hgs_files.specs.Stop.{IsStopped}
use Rattle.hgs_files.specs.Tree.{Tree}
use Rattle.hgs_journal.specs.Names.{journal_path}
use Rattle.hgs_model.specs.Repo.{Repo}
use Rattle.hgs_ops.specs.Operations.{lock_path, removals, strays, wlock_path}
use Rattle.hgs_legal.specs.LegalLog.{IsTurn, Turn, lock_removals, through_publishing, through_removal}
use Rattle.hgs_legal.specs.Pieces.{AreSome, Early, Front, HasBegun, LeavesJournal, Piece, Refusal, before, behind, given_up, once, refused, twice, was_undone, whole_list, within}
use Rattle.hgs_legal.specs.Theorems.StopLemmas.{does-piece, piece-piece}

-- ---- stops in lists

-- in one list, or in the next behind it
stopped-apart : (a b d : List Op) → IsStopped (a ++ b) d → IsStopped a d ⊎ ((e : List Op) × IsStopped b e × (d ≡ a ++ e))
stopped-apart [] b d h = inr (d, h, refl)
stopped-apart (op ∷ a) b d (inl none) = inl (inl none)
stopped-apart (op ∷ a) b d (inr (inl part)) = inl (inr (inl part))
stopped-apart (op ∷ a) b d (inr (inr more)) = elim (stopped-apart a b more.0 more.1) [
  | inl h ↦ inl (inr (inr (more.0, h, more.2)))
  | inr h ↦ inr (h.0, h.1, more.2 ∙ ap (λ l. op ∷ l) h.2)
]

nothing-some : (all : List Op) → AreSome all []
nothing-some [] = refl
nothing-some (op ∷ all) = inl (nothing-some all)

some-behind : (p : List ℕ) (paths : List (List ℕ)) (more d : List Op) → ((m : List Op) → IsStopped more m → AreSome (map (λ q. Remove q) paths) m) → IsStopped (Remove p ∷ more) d → AreSome (map (λ q. Remove q) (p ∷ paths)) d
some-behind p paths more d rest (inl none) = subst (AreSome (map (λ q. Remove q) (p ∷ paths))) (sym none) (nothing-some (map (λ q. Remove q) (p ∷ paths)))
some-behind p paths more d rest (inr (inl part)) = inr ([], part.3 ∙ ap (λ o. o ∷ []) part.2.0, nothing-some (map (λ q. Remove q) paths))
some-behind p paths more d rest (inr (inr m)) = inr (m.0, m.2, rest m.0 m.1)

some-stopped : (paths : List (List ℕ)) (c d : List Op) → AreSome (map (λ p. Remove p) paths) c → IsStopped c d → AreSome (map (λ p. Remove p) paths) d
some-stopped [] c d some h = subst (λ l. IsStopped l d) some h
some-stopped (p ∷ paths) c d (inl some) h = inl (some-stopped paths c d some h)
some-stopped (p ∷ paths) c d (inr (more, e, some)) h = some-behind p paths more d (λ m s. some-stopped paths more m some s) (subst (λ l. IsStopped l d) e h)

-- ---- what is done of a list, stopped

-- something is left behind an append of something
rest-some : (path front back : List ℕ) (o : Op) (left : List Op) → append_of_rest path back ≡ o ∷ left → (p : Op) × (more : List Op) × (append_of_rest path (front ++ back) ≡ p ∷ more)
rest-some path [] back o left e = (o, left, e)
rest-some path (b ∷ front) back o left e = (Append path (b ∷ front ++ back), [], refl)

no-more : {A : Type 0} (o : Op) (left : List Op) → [] ≡ o ∷ left → A
no-more o left e = absurd (let no_case : ⊥ = cc in no_case)

-- where something is left of an operation behind a piece, it is left behind a piece of that
piece-left : (o op part : Op) (p : Op) (left rest : List Op) (h : IsPiece o op (p ∷ left)) (k : IsPiece op part rest) → (q : Op) × (more : List Op) × IsPiece o part (q ∷ more)
piece-left (Append path bytes) op part p left rest h k =
    let q = subst (λ (x : Op). IsPiece x part rest) h.3 k in
    let some = rest-some path q.1 h.1 p left (sym h.4) in
    (some.0, some.1, (q.0, q.1 ++ h.1, h.2 ∙ ap (λ f. f ++ h.1) q.2 ∙ append_assoc q.0 q.1 h.1, q.3, sym some.2))
piece-left (Create path bytes) op part p left rest h k =
    let q = subst (λ (x : Op). IsPiece x part rest) h.3 k in
    let some = rest-some path q.1 h.1 p left (sym h.4) in
    (some.0, some.1, (q.0, q.1 ++ h.1, h.2 ∙ ap (λ f. f ++ h.1) q.2 ∙ append_assoc q.0 q.1 h.1, q.3, sym some.2))
piece-left (Cut path len) op part p left rest h k = no-more p left (sym h.1)
piece-left (Rename from to) op part p left rest h k = no-more p left (sym h.1)
piece-left (Remove path) op part p left rest h k = no-more p left (sym h.1)
piece-left (Sync path) op part p left rest h k = no-more p left (sym h.1)
piece-left Settle op part p left rest h k = no-more p left (sym h.1)

does-left : (ops : List Op) (op part p : Op) (left rest : List Op) → Does ops op (p ∷ left) → IsPiece op part rest → (q : Op) × (more : List Op) × Does ops part (q ∷ more)
does-left [] op part p left rest h k = elim h [ ]
does-left (o ∷ []) op part p left rest h k =
    let same : h.0 ≡ p ∷ left = sym (append-nil h.0) ∙ sym h.2 in
    let q = piece-left o op part p left rest (subst (IsPiece o op) same h.1) k in
    (q.0, q.1, (q.0 ∷ q.1, q.2, sym (append-nil (q.0 ∷ q.1))))
does-left (o ∷ next ∷ ops) op part p left rest h k =
    let q = piece-piece o op part h.0 rest h.1 k in
    by q.0 q.1
  where
    by : (l : List Op) → IsPiece o part l → (q : Op) × (more : List Op) × Does (o ∷ next ∷ ops) part (q ∷ more)
    by [] is = (next, ops, ([], is, refl))
    by (x ∷ l) is = (x, l ++ next ∷ ops, (x ∷ l, is, refl))

-- something is to do, where something is done or left
some-first : (ops log : List Op) (o : Op) (rest : List Op) → IsDone ops log (o ∷ rest) → (p : Op) × (left : List Op) × (ops ≡ p ∷ left)
some-first [] [] o rest h = no-more o rest h
some-first [] (op ∷ log) o rest h = elim h.1 [ ]
some-first (p ∷ ops) log o rest h = (p, ops, refl)

-- stopped where something was left, something is left
pub stopped-left : (ops log d : List Op) (o : Op) (rest : List Op) → IsDone ops log (o ∷ rest) → IsStopped log d → (p : Op) × (left : List Op) × IsDone ops d (p ∷ left)
stopped-left ops [] d o rest h stopped = (o, rest, subst (λ l. IsDone ops l (o ∷ rest)) (sym stopped) h)
stopped-left ops (op ∷ log) d o rest h (inl none) =
    let some = some-first ops (op ∷ log) o rest h in
    (some.0, some.1, subst (λ l. IsDone ops l (some.0 ∷ some.1)) (sym none) some.2)
stopped-left ops (op ∷ log) d o rest h (inr (inl part)) =
    let mid = some-first h.0 log o rest h.2 in
    let q = does-left ops op part.0 mid.0 mid.1 part.1 (subst (Does ops op) mid.2 h.1) part.2 in
    (q.0, q.1, subst (λ l. IsDone ops l (q.0 ∷ q.1)) (sym part.3) (q.0 ∷ q.1, q.2, refl))
stopped-left ops (op ∷ log) d o rest h (inr (inr more)) =
    let q = stopped-left h.0 log more.0 o rest h.2 more.1 in
    (q.0, q.1, subst (λ l. IsDone ops l (q.0 ∷ q.1)) (sym more.2) (h.0, h.1, q.2))

-- stopped, some front of it is done
pub stopped-done : (ops log d left : List Op) → IsDone ops log left → IsStopped log d → (rest : List Op) × IsDone ops d rest
stopped-done ops [] d left h stopped = (left, subst (λ l. IsDone ops l left) (sym stopped) h)
stopped-done ops (op ∷ log) d left h (inl none) = (ops, subst (λ l. IsDone ops l ops) (sym none) refl)
stopped-done ops (op ∷ log) d left h (inr (inl part)) =
    let q = does-piece ops h.0 part.1 op part.0 h.1 part.2 in
    (q.0, subst (λ l. IsDone ops l q.0) (sym part.3) (q.0, q.1, refl))
stopped-done ops (op ∷ log) d left h (inr (inr more)) =
    let q = stopped-done h.0 log more.0 left h.2 more.1 in
    (q.0, subst (λ l. IsDone ops l q.0) (sym more.2) (h.0, h.1, q.1))

-- ---- what a stop leaves

early : (t : Tree) (r next : Repo) (d : List Op) → Early t r d → Front t r next d
early t r next d (inl none) = inl none
early t r next d (inr (inl piece)) = inr (inl piece)
early t r next d (inr (inr left)) = inr (inr (inr left))

first-in : (front back : List Op) (o : Op) → (op : Op) × (left : List Op) × (front ++ o ∷ back ≡ op ∷ left)
first-in [] back o = (o, back, refl)
first-in (x ∷ front) back o = (x, front ++ o ∷ back, refl)

module _ (t : Tree) (r : Repo) (x : Turn) (it : IsTurn t r x) where
  -- before the journal
  prepared-front : (d left : List Op) → IsDone x.ops.before d left → (d ≡ []) ⊎ Piece t r d r
  prepared-front [] left h = inl refl
  prepared-front (op ∷ d) left h = inr (subst (λ l. Piece t r l r) (append-nil (op ∷ d)) (given_up x [] op left d it h (nothing-some removals)))

  -- from the journal on, through the publishing operation
  working-front : (start : Op) (prepared d left : List Op) → IsDone x.ops.before (start ∷ prepared) [] → IsDone (through_publishing x.ops) d left → Piece t r ((start ∷ prepared) ++ d) r ⊎ LeavesJournal t r ((start ∷ prepared) ++ d)
  working-front start prepared [] left all h =
      inl (subst (λ l. Piece t r l r) (append-nil (start ∷ prepared) ∙ sym (append-nil (start ∷ prepared))) (given_up x [] start [] prepared it all (nothing-some removals)))
  working-front start prepared (op ∷ d) (o ∷ left) all h =
      let begun : HasBegun t r x ((start ∷ prepared) ++ op ∷ d) (o ∷ left) = record { it = it; start = start; prepared = prepared; all_prepared = all; first = op; more = d; done = h; whole = refl } in
      inr (subst (LeavesJournal t r) (append-nil ((start ∷ prepared) ++ op ∷ d)) (before x ((start ∷ prepared) ++ op ∷ d) [] o left begun (nothing-some lock_removals)))
  working-front start prepared (op ∷ d) [] all h =
      let log = (start ∷ prepared) ++ op ∷ d in
      let begun : HasBegun t r x log [] = record { it = it; start = start; prepared = prepared; all_prepared = all; first = op; more = d; done = h; whole = refl } in
      let some = first-in x.ops.renames [] (Remove journal_path) in
      inr (subst (LeavesJournal t r) (append-nil (log ++ []) ∙ append-nil log) (behind x log [] [] some.0 some.1 begun some.2 (nothing-some lock_removals)))

begun-front : (t : Tree) (r : Repo) (x : Turn) (a left d : List Op) → HasBegun t r x a left → IsStopped a d → Early t r d
begun-front t r x a left d b h = by (stopped-apart (b.start ∷ b.prepared) (b.first ∷ b.more) d (subst (λ l. IsStopped l d) b.whole h))
  where
    by : IsStopped (b.start ∷ b.prepared) d ⊎ ((e : List Op) × IsStopped (b.first ∷ b.more) e × (d ≡ (b.start ∷ b.prepared) ++ e)) → Early t r d
    by (inl s) = (let q = stopped-done x.ops.before (b.start ∷ b.prepared) d [] b.all_prepared s in elim (prepared-front t r x b.it d q.0 q.1) [
      | inl none ↦ inl none
      | inr piece ↦ inr (inl piece)
    ])
    by (inr (e, s, whole)) = (let q = stopped-done (through_publishing x.ops) (b.first ∷ b.more) e left b.done s in elim (working-front t r x b.it b.start b.prepared e q.0 b.all_prepared q.1) [
      | inl piece ↦ inr (inl (subst (λ l. Piece t r l r) (sym whole) piece))
      | inr left_open ↦ inr (inr (subst (LeavesJournal t r) (sym whole) left_open))
    ])

-- the journal is left behind a part of what undoes it
undo-front : (t : Tree) (r : Repo) (x : Turn) (a : List Op) (op : Op) (left d rest : List Op) → HasBegun t r x a (op ∷ left) → IsDone x.ops.undo d rest → Piece t r (a ++ d) r ⊎ LeavesJournal t r (a ++ d)
undo-front t r x a op left [] rest b h = inr (subst (LeavesJournal t r) refl (before x a [] op left b (nothing-some lock_removals)))
undo-front t r x a op left (u ∷ d) [] b h = inl (subst (λ l. Piece t r l r) (append-nil (a ++ u ∷ d)) (was_undone x a [] op left u d b h (nothing-some removals)))
undo-front t r x a op left (u ∷ d) (o ∷ rest) b h = inr (subst (LeavesJournal t r) (append-nil (a ++ u ∷ d)) (within x a [] op left o rest u d b h (nothing-some lock_removals)))

-- and behind a part of what follows publication
finish-front : (t : Tree) (r : Repo) (x : Turn) (a d rest : List Op) → HasBegun t r x a [] → IsDone (through_removal x.ops) d rest → Piece t r (a ++ d) x.next ⊎ LeavesJournal t r (a ++ d)
finish-front t r x a [] rest b h =
    let some = first-in x.ops.renames [] (Remove journal_path) in
    inr (subst (LeavesJournal t r) (append-nil (a ++ [])) (behind x a [] [] some.0 some.1 b some.2 (nothing-some lock_removals)))
finish-front t r x a (o ∷ d) [] b h = inl (subst (λ l. Piece t r l x.next) (append-nil (a ++ o ∷ d)) (whole_list x a [] o d b h (nothing-some removals)))
finish-front t r x a (o ∷ d) (p ∷ rest) b h = inr (subst (LeavesJournal t r) (append-nil (a ++ o ∷ d)) (behind x a (o ∷ d) [] p rest b h (nothing-some lock_removals)))

-- ---- the locks of a writer that is refused

once-front : (t : Tree) (r : Repo) (who : List ℕ) (d left : List Op) → IsDone (Create wlock_path who ∷ []) d left → (d ≡ []) ⊎ Piece t r d r
once-front t r who [] left h = inl refl
once-front t r who (op ∷ d) left h = inr (subst (λ l. Piece t r l r) (append-nil (op ∷ d)) (refused ((op ∷ d) ++ []) (once who [] op d left h (nothing-some (Remove wlock_path ∷ [])))))

twice-front : (t : Tree) (r : Repo) (who other : List ℕ) (o : Op) (first d left : List Op) → IsDone (Create wlock_path who ∷ []) (o ∷ first) [] → IsDone (Create lock_path other ∷ []) d left → Piece t r ((o ∷ first) ++ d) r
twice-front t r who other o first [] left a h =
    subst (λ l. Piece t r l r) refl (refused ((o ∷ first) ++ []) (once who [] o first [] a (nothing-some (Remove wlock_path ∷ []))))
twice-front t r who other o first (op ∷ d) left a h =
    let log = (o ∷ first) ++ op ∷ d in
    subst (λ l. Piece t r l r) (append-nil log) (refused (log ++ []) (twice who other [] o first op d left a h (nothing-some lock_removals)))

refusal-front : (t : Tree) (r : Repo) (a d : List Op) → Refusal a → IsStopped a d → (d ≡ []) ⊎ Piece t r d r
refusal-front t r _ d (once who c op more left h some) stopped = elim (stopped-apart (op ∷ more) c d stopped) [
  | inl s ↦ let q = stopped-done (Create wlock_path who ∷ []) (op ∷ more) d left h s in once-front t r who d q.0 q.1
  | inr s ↦ inr (subst (λ l. Piece t r l r) (sym s.2) (refused ((op ∷ more) ++ s.0) (once who s.0 op more left h (some-stopped (wlock_path ∷ []) c s.0 some s.1))))
]
refusal-front t r _ d (twice who other c o first op more left a h some) stopped = elim (stopped-apart ((o ∷ first) ++ (op ∷ more)) c d stopped) [
  | inl s ↦ elim (stopped-apart (o ∷ first) (op ∷ more) d s) [
    | inl k ↦ let q = stopped-done (Create wlock_path who ∷ []) (o ∷ first) d [] a k in once-front t r who d q.0 q.1
    | inr k ↦ let q = stopped-done (Create lock_path other ∷ []) (op ∷ more) k.0 left h k.1 in inr (subst (λ l. Piece t r l r) (sym k.2) (twice-front t r who other o first k.0 q.0 a q.1))
  ]
  | inr s ↦ inr (subst (λ l. Piece t r l r) (sym s.2) (refused ((o ∷ first) ++ (op ∷ more) ++ s.0) (twice who other s.0 o first op more left a h (some-stopped (lock_path ∷ wlock_path ∷ []) c s.0 some s.1))))
]

-- ---- pieces

abbrev all_paths : List (List ℕ)
all_paths = strays ++ lock_path ∷ wlock_path ∷ []

-- a stop in the removal of the journal, or behind it
journal-removed : (c d : List Op) → IsStopped (Remove journal_path ∷ c) d → (d ≡ []) ⊎ ((e : List Op) × IsStopped c e × (d ≡ Remove journal_path ∷ e))
journal-removed c d (inl none) = inl none
journal-removed c d (inr (inl part)) = inr ([], none-done c, part.3 ∙ ap (λ o. o ∷ []) part.2.0)
  where
    none-done : (l : List Op) → IsStopped l []
    none-done [] = refl
    none-done (o ∷ l) = inl refl
journal-removed c d (inr (inr more)) = inr (more.0, more.1, more.2)

whole-front : (t : Tree) (r : Repo) (x : Turn) (a c : List Op) (o : Op) (b d : List Op) → HasBegun t r x a [] → IsDone (through_removal x.ops) (o ∷ b) [] → AreSome removals c → IsStopped ((a ++ (o ∷ b)) ++ c) d → Front t r x.next d
whole-front t r x a c o b d begun h some stopped = elim (stopped-apart (a ++ (o ∷ b)) c d stopped) [
  | inl s ↦ elim (stopped-apart a (o ∷ b) d s) [
    | inl k ↦ early t r x.next d (begun-front t r x a [] d begun k)
    | inr k ↦ let q = stopped-done (through_removal x.ops) (o ∷ b) k.0 [] h k.1 in elim (finish-front t r x a k.0 q.0 begun q.1) [
      | inl piece ↦ inr (inr (inl (subst (λ l. Piece t r l x.next) (sym k.2) piece)))
      | inr left ↦ inr (inr (inr (subst (LeavesJournal t r) (sym k.2) left)))
    ]
  ]
  | inr s ↦ inr (inr (inl (subst (λ l. Piece t r l x.next) (sym s.2) (whole_list x a s.0 o b begun h (some-stopped all_paths c s.0 some s.1)))))
]

undone-front : (t : Tree) (r : Repo) (x : Turn) (a c : List Op) (op : Op) (left : List Op) (o : Op) (b d : List Op) → HasBegun t r x a (op ∷ left) → IsDone x.ops.undo (o ∷ b) [] → AreSome removals c → IsStopped ((a ++ (o ∷ b)) ++ c) d → Early t r d
undone-front t r x a c op left o b d begun h some stopped = elim (stopped-apart (a ++ (o ∷ b)) c d stopped) [
  | inl s ↦ elim (stopped-apart a (o ∷ b) d s) [
    | inl k ↦ begun-front t r x a (op ∷ left) d begun k
    | inr k ↦ let q = stopped-done x.ops.undo (o ∷ b) k.0 [] h k.1 in elim (undo-front t r x a op left k.0 q.0 begun q.1) [
      | inl piece ↦ inr (inl (subst (λ l. Piece t r l r) (sym k.2) piece))
      | inr left_open ↦ inr (inr (subst (LeavesJournal t r) (sym k.2) left_open))
    ]
  ]
  | inr s ↦ inr (inl (subst (λ l. Piece t r l r) (sym s.2) (was_undone x a s.0 op left o b begun h (some-stopped all_paths c s.0 some s.1))))
]

given-front : (t : Tree) (r : Repo) (x : Turn) (c : List Op) (op : Op) (left more d : List Op) → IsTurn t r x → IsDone x.ops.before (op ∷ more) left → AreSome removals c → IsStopped ((op ∷ more) ++ c) d → (d ≡ []) ⊎ Piece t r d r
given-front t r x c op left more d it h some stopped = elim (stopped-apart (op ∷ more) c d stopped) [
  | inl s ↦ let q = stopped-done x.ops.before (op ∷ more) d left h s in prepared-front t r x it d q.0 q.1
  | inr s ↦ inr (subst (λ l. Piece t r l r) (sym s.2) (given_up x s.0 op left more it h (some-stopped all_paths c s.0 some s.1)))
]

soon : (t : Tree) (r next : Repo) (d : List Op) → (d ≡ []) ⊎ Piece t r d r → Front t r next d
soon t r next d (inl none) = inl none
soon t r next d (inr piece) = inr (inl piece)

pub piece-front : (t : Tree) (r next : Repo) (log d : List Op) → Piece t r log next → IsStopped log d → Front t r next d
piece-front t r _ _ d (whole_list x a c o b begun h some) stopped = whole-front t r x a c o b d begun h some stopped
piece-front t r _ _ d (was_undone x a c op left o b begun h some) stopped = early t r r d (undone-front t r x a c op left o b d begun h some stopped)
piece-front t r _ _ d (given_up x c op left more it h some) stopped = soon t r r d (given-front t r x c op left more d it h some stopped)
piece-front t r _ _ d (refused a h) stopped = soon t r r d (refusal-front t r a d h stopped)

-- ---- a piece that leaves its journal

breaks-front : (t : Tree) (r : Repo) (x : Turn) (a c : List Op) (op : Op) (left d : List Op) → HasBegun t r x a (op ∷ left) → AreSome lock_removals c → IsStopped (a ++ c) d → Early t r d
breaks-front t r x a c op left d begun some stopped = elim (stopped-apart a c d stopped) [
  | inl s ↦ begun-front t r x a (op ∷ left) d begun s
  | inr s ↦ inr (inr (subst (LeavesJournal t r) (sym s.2) (before x a s.0 op left begun (some-stopped (lock_path ∷ wlock_path ∷ []) c s.0 some s.1))))
]

breaks-undo-front : (t : Tree) (r : Repo) (x : Turn) (a c : List Op) (op : Op) (left : List Op) (o : Op) (rest : List Op) (u : Op) (b d : List Op) → HasBegun t r x a (op ∷ left) → IsDone x.ops.undo (u ∷ b) (o ∷ rest) → AreSome lock_removals c → IsStopped ((a ++ (u ∷ b)) ++ c) d → Early t r d
breaks-undo-front t r x a c op left o rest u b d begun h some stopped = elim (stopped-apart (a ++ (u ∷ b)) c d stopped) [
  | inl s ↦ elim (stopped-apart a (u ∷ b) d s) [
    | inl k ↦ begun-front t r x a (op ∷ left) d begun k
    | inr k ↦ let q = stopped-done x.ops.undo (u ∷ b) k.0 (o ∷ rest) h k.1 in elim (undo-front t r x a op left k.0 q.0 begun q.1) [
      | inl piece ↦ inr (inl (subst (λ l. Piece t r l r) (sym k.2) piece))
      | inr left_open ↦ inr (inr (subst (LeavesJournal t r) (sym k.2) left_open))
    ]
  ]
  | inr s ↦ inr (inr (subst (LeavesJournal t r) (sym s.2) (within x a s.0 op left o rest u b begun h (some-stopped (lock_path ∷ wlock_path ∷ []) c s.0 some s.1))))
]

-- behind publication something is left to do
behind-front : (t : Tree) (r : Repo) (x : Turn) (a b : List Op) (o : Op) (rest d : List Op) → HasBegun t r x a [] → IsDone (through_removal x.ops) b (o ∷ rest) → IsStopped b d → LeavesJournal t r (a ++ d)
behind-front t r x a b o rest d begun h stopped =
    let q = stopped-left (through_removal x.ops) b d o rest h stopped in
    subst (LeavesJournal t r) (append-nil (a ++ d)) (behind x a d [] q.0 q.1 begun q.2 (nothing-some lock_removals))

breaks-behind-front : (t : Tree) (r : Repo) (x : Turn) (a b c : List Op) (o : Op) (rest d : List Op) → HasBegun t r x a [] → IsDone (through_removal x.ops) b (o ∷ rest) → AreSome lock_removals c → IsStopped ((a ++ b) ++ c) d → Early t r d
breaks-behind-front t r x a b c o rest d begun h some stopped = elim (stopped-apart (a ++ b) c d stopped) [
  | inl s ↦ elim (stopped-apart a b d s) [
    | inl k ↦ begun-front t r x a [] d begun k
    | inr k ↦ inr (inr (subst (LeavesJournal t r) (sym k.2) (behind-front t r x a b o rest k.0 begun h k.1)))
  ]
  | inr s ↦ inr (inr (subst (LeavesJournal t r) (sym s.2) (behind x a b s.0 o rest begun h (some-stopped (lock_path ∷ wlock_path ∷ []) c s.0 some s.1))))
]

pub leaves-front : (t : Tree) (r : Repo) (log d : List Op) → LeavesJournal t r log → IsStopped log d → Early t r d
leaves-front t r _ d (before x a c op left begun some) stopped = breaks-front t r x a c op left d begun some stopped
leaves-front t r _ d (within x a c op left o rest u b begun h some) stopped = breaks-undo-front t r x a c op left o rest u b d begun h some stopped
leaves-front t r _ d (behind x a b c o rest begun h some) stopped = breaks-behind-front t r x a b c o rest d begun h some stopped
