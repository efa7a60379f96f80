-- Operations that are done in parts.
use Rattle.std.proofs.Common.{◌≡◌, ℕ, suc, zero, ◌+◌, ◌-◌, ◌<◌, ◌≤◌, List, [], ◌∷◌, ◌++◌, length, take, drop, refl, sym, ◌∙◌, ap, subst, arith, append_assoc, append-nil}
use Rattle.std.proofs.lemmas.List.{take-append-drop, drop-drop}
use Rattle.hgs_files.specs.declared.op.Op.{Op}
use Rattle.hgs_files.specs.declared.op.Op.TheVariants.{Append, Cut, Rename, Remove, Create, Sync, Settle}
use Rattle.hgs_files.specs.Log.{IsDone, append_of_rest}
use Rattle.hgs_machine.specs.SoFar.{Leaves}
use Rattle.hgs_machine.specs.declared.machine.Reply.TheVariants.{Done, Failed}
use Rattle.hgs_mem.specs.Pieces.{create_of_front}
use Rattle.hgs_world.specs.Parts.{DoesPart, DoesRest, HasDone, op_length}

-- what was done, and then some of what was left
pub done_on : (ops a mid b left : List Op) → IsDone ops a mid → IsDone mid b left → IsDone ops (a ++ b) left
done_on ops [] mid b left e d = subst (λ (l : List Op). IsDone l b left) (sym e) d
done_on ops (op ∷ a) mid b left h d = (h.0, h.1, done_on h.0 a mid b left h.2 d)

nothing_done : (done : List Op) → IsDone [] done [] → done ≡ []
nothing_done [] h = refl
nothing_done (op ∷ done) h = elim h.1 [ ]

-- where the front of an append was done, that of all its bytes was, with the rest left
pub done_of_more : (path front back : List ℕ) (done : List Op) → IsDone (append_of_rest path front) done [] → IsDone (append_of_rest path (front ++ back)) done (append_of_rest path back)
done_of_more path [] back [] h = refl
done_of_more path [] back (op ∷ done) h = elim h.1 [ ]
done_of_more path (b ∷ front) back [] h = cc
done_of_more path (b ∷ front) back (op ∷ done) h =
    let first = h.1.1 in
    let rest : h.0 ≡ append_of_rest path first.1 = h.1.2 ∙ append-nil h.1.0 ∙ first.4 in
    let later = done_of_more path first.1 back done (subst (λ l. IsDone l done []) rest h.2) in
    (append_of_rest path (first.1 ++ back), (append_of_rest path (first.1 ++ back), (first.0, first.1 ++ back, ap (λ l. l ++ back) first.2 ∙ append_assoc first.0 first.1 back, first.3, refl), sym (append-nil (append_of_rest path (first.1 ++ back)))), later)

-- the same of a creation
done_of_creation : (path front back : List ℕ) (done : List Op) → IsDone (Create path front ∷ []) done [] → IsDone (Create path (front ++ back) ∷ []) done (append_of_rest path back)
done_of_creation path front back [] h = cc
done_of_creation path front back (op ∷ done) h =
    let first = h.1.1 in
    let rest : h.0 ≡ append_of_rest path first.1 = h.1.2 ∙ append-nil h.1.0 ∙ first.4 in
    let later = done_of_more path first.1 back done (subst (λ l. IsDone l done []) rest h.2) in
    (append_of_rest path (first.1 ++ back), (append_of_rest path (first.1 ++ back), (first.0, first.1 ++ back, ap (λ l. l ++ back) first.2 ∙ append_assoc first.0 first.1 back, first.3, refl), sym (append-nil (append_of_rest path (first.1 ++ back)))), later)

some_rest : (path bytes : List ℕ) → 0 < length bytes → append_of_rest path bytes ≡ Append path bytes ∷ []
some_rest path [] h = absurd (omega arith)
some_rest path (b ∷ bytes) h = refl

some_front : (path bytes : List ℕ) → 0 < length bytes → create_of_front path bytes ≡ Create path bytes ∷ []
some_front path [] h = absurd (omega arith)
some_front path (b ∷ bytes) h = refl

-- ---- the rest of an operation, and what a part leaves

pub rest_leaves : (op : Op) (part : ℕ) (begun done : List Op) → HasDone op part begun → DoesRest op part done → Leaves op Done (begun ++ done)
rest_leaves op zero begun done h d = subst (λ l. Leaves op Done (l ++ done)) (sym h) d
rest_leaves (Append path bytes) (suc n) begun done h d = done_on (Append path bytes ∷ []) begun (append_of_rest path (drop (suc n) bytes)) done [] h.1 d
rest_leaves (Create path bytes) (suc n) begun done h d = done_on (Create path bytes ∷ []) begun (append_of_rest path (drop (suc n) bytes)) done [] h.1 d
rest_leaves (Cut path len) (suc n) begun done h d = elim h [ ]
rest_leaves (Rename from to) (suc n) begun done h d = elim h [ ]
rest_leaves (Remove path) (suc n) begun done h d = elim h [ ]
rest_leaves (Sync path) (suc n) begun done h d = elim h [ ]
rest_leaves Settle (suc n) begun done h d = elim h [ ]

-- a front of an append, or nothing of it
front_of_append : (path bytes : List ℕ) (done left : List Op) → IsDone (append_of_rest path bytes) done left → (rest : List Op) × IsDone (Append path bytes ∷ []) done rest
front_of_append path [] [] left h = (Append path [] ∷ [], refl)
front_of_append path [] (op ∷ done) left h = elim h.1 [ ]
front_of_append path (b ∷ bytes) done left h = (left, h)

front_of_creation : (path front back : List ℕ) (done : List Op) → IsDone (create_of_front path front) done [] → (rest : List Op) × IsDone (Create path (front ++ back) ∷ []) done rest
front_of_creation path [] back [] h = (Create path back ∷ [], refl)
front_of_creation path [] back (op ∷ done) h = elim h.1 [ ]
front_of_creation path (b ∷ front) back done h = (append_of_rest path back, done_of_creation path (b ∷ front) back done h)

no_part : (begun done : List Op) → begun ≡ [] → done ≡ [] → begun ++ done ≡ []
no_part begun done e f = cc

pub part_leaves : (op : Op) (part count : ℕ) (begun done : List Op) → HasDone op part begun → DoesPart op part count done → Leaves op Failed (begun ++ done)
part_leaves (Append path bytes) zero count begun done h d =
    let joined = subst (λ l. IsDone (append_of_rest path l) done (append_of_rest path (drop count bytes))) (take-append-drop count bytes) (done_of_more path (take count bytes) (drop count bytes) done d) in
    subst (λ l. Leaves (Append path bytes) Failed (l ++ done)) (sym h) (front_of_append path bytes done (append_of_rest path (drop count bytes)) joined)
part_leaves (Append path bytes) (suc n) count begun done h d =
    let rest = drop (suc n) bytes in
    let joined = subst (λ l. IsDone (append_of_rest path l) done (append_of_rest path (drop count rest))) (take-append-drop count rest) (done_of_more path (take count rest) (drop count rest) done d) in
    (append_of_rest path (drop count rest), done_on (Append path bytes ∷ []) begun (append_of_rest path rest) done (append_of_rest path (drop count rest)) h.1 joined)
part_leaves (Create path bytes) zero count begun done h d =
    let joined = front_of_creation path (take count bytes) (drop count bytes) done d in
    let whole = subst (λ l. IsDone (Create path l ∷ []) done joined.0) (take-append-drop count bytes) joined.1 in
    subst (λ l. Leaves (Create path bytes) Failed (l ++ done)) (sym h) (joined.0, whole)
part_leaves (Create path bytes) (suc n) count begun done h d =
    let rest = drop (suc n) bytes in
    let joined = subst (λ l. IsDone (append_of_rest path l) done (append_of_rest path (drop count rest))) (take-append-drop count rest) (done_of_more path (take count rest) (drop count rest) done d) in
    (append_of_rest path (drop count rest), done_on (Create path bytes ∷ []) begun (append_of_rest path rest) done (append_of_rest path (drop count rest)) h.1 joined)
part_leaves (Cut path len) zero count begun done h d = no_part begun done h d
part_leaves (Rename from to) zero count begun done h d = no_part begun done h d
part_leaves (Remove path) zero count begun done h d = no_part begun done h d
part_leaves (Sync path) zero count begun done h d = no_part begun done h d
part_leaves Settle zero count begun done h d = no_part begun done h d
part_leaves (Cut path len) (suc n) count begun done h d = elim h [ ]
part_leaves (Rename from to) (suc n) count begun done h d = elim h [ ]
part_leaves (Remove path) (suc n) count begun done h d = elim h [ ]
part_leaves (Sync path) (suc n) count begun done h d = elim h [ ]
part_leaves Settle (suc n) count begun done h d = elim h [ ]

-- ---- so many more bytes

last_of : (k : ℕ) → 0 < k → (m : ℕ) × (suc m ≡ k)
last_of zero h = absurd (omega arith)
last_of (suc m) h = (m, refl)

append_further : (path bytes : List ℕ) (k : ℕ) (done : List Op) → 0 < k → k < length bytes → IsDone (Append path bytes ∷ []) done (append_of_rest path (drop k bytes)) → HasDone (Append path bytes) k done
append_further path bytes k done some less h =
    let m = last_of k some in
    subst (λ n. HasDone (Append path bytes) n done) m.1
    (subst (λ n. n < length bytes) (sym m.1) less, subst (λ n. IsDone (Append path bytes ∷ []) done (append_of_rest path (drop n bytes))) (sym m.1) h)

create_further : (path bytes : List ℕ) (k : ℕ) (done : List Op) → 0 < k → k < length bytes → IsDone (Create path bytes ∷ []) done (append_of_rest path (drop k bytes)) → HasDone (Create path bytes) k done
create_further path bytes k done some less h =
    let m = last_of k some in
    subst (λ n. HasDone (Create path bytes) n done) m.1
    (subst (λ n. n < length bytes) (sym m.1) less, subst (λ n. IsDone (Create path bytes ∷ []) done (append_of_rest path (drop n bytes))) (sym m.1) h)

-- a part of what is left
part_of_rest : (path bytes : List ℕ) (part count : ℕ) (done : List Op) → IsDone (append_of_rest path (take count (drop part bytes))) done []
    → IsDone (append_of_rest path (drop part bytes)) done (append_of_rest path (drop (part + count) bytes))
part_of_rest path bytes part count done d =
    let rest = drop part bytes in
    let joined = subst (λ l. IsDone (append_of_rest path l) done (append_of_rest path (drop count rest))) (take-append-drop count rest) (done_of_more path (take count rest) (drop count rest) done d) in
    subst (λ l. IsDone (append_of_rest path rest) done (append_of_rest path l)) (drop-drop count part bytes) joined

length_take_some : (n : ℕ) (l : List ℕ) → 0 < n → 0 < length l → 0 < length (take n l)
length_take_some zero l h k = absurd (omega arith)
length_take_some (suc n) [] h k = absurd (omega arith)
length_take_some (suc n) (x ∷ l) h k = grind arith

pub part_further : (op : Op) (part count : ℕ) (begun done : List Op) → 1 ≤ count → count < op_length op - part → HasDone op part begun → DoesPart op part count done → HasDone op (part + count) (begun ++ done)
part_further (Append path bytes) zero count begun done some less h d =
    let more = part_of_rest path bytes 0 count done d in
    let few : 0 < length bytes = omega arith in
    let whole = subst (λ l. IsDone l done (append_of_rest path (drop (0 + count) bytes))) (some_rest path bytes few) more in
    subst (λ l. HasDone (Append path bytes) (0 + count) (l ++ done)) (sym h) (append_further path bytes (0 + count) done (omega arith) (omega arith) whole)
part_further (Append path bytes) (suc n) count begun done some less h d =
    append_further path bytes (suc n + count) (begun ++ done) (omega arith) (omega arith)
    (done_on (Append path bytes ∷ []) begun (append_of_rest path (drop (suc n) bytes)) done (append_of_rest path (drop (suc n + count) bytes)) h.1 (part_of_rest path bytes (suc n) count done d))
part_further (Create path bytes) zero count begun done some less h d =
    let few : 0 < length bytes = omega arith in
    let front = subst (λ l. IsDone l done []) (some_front path (take count bytes) (length_take_some count bytes (omega arith) few)) d in
    let joined = subst (λ l. IsDone (Create path l ∷ []) done (append_of_rest path (drop count bytes))) (take-append-drop count bytes) (done_of_creation path (take count bytes) (drop count bytes) done front) in
    let whole = subst (λ k. IsDone (Create path bytes ∷ []) done (append_of_rest path (drop k bytes))) (omega arith) joined in
    subst (λ l. HasDone (Create path bytes) (0 + count) (l ++ done)) (sym h) (create_further path bytes (0 + count) done (omega arith) (omega arith) whole)
part_further (Create path bytes) (suc n) count begun done some less h d =
    create_further path bytes (suc n + count) (begun ++ done) (omega arith) (omega arith)
    (done_on (Create path bytes ∷ []) begun (append_of_rest path (drop (suc n) bytes)) done (append_of_rest path (drop (suc n + count) bytes)) h.1 (part_of_rest path bytes (suc n) count done d))
part_further (Cut path len) part count begun done some less h d = absurd (omega arith)
part_further (Rename from to) part count begun done some less h d = absurd (omega arith)
part_further (Remove path) part count begun done some less h d = absurd (omega arith)
part_further (Sync path) part count begun done some less h d = absurd (omega arith)
part_further Settle part count begun done some less h d = absurd (omega arith)
