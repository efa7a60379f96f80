-- Questions that have one answer, at whatever moments their reads stand.
use Rattle.std.proofs.Common.{◌≡◌, ℕ, zero, suc, ◌+◌, ◌*◌, ◌/◌, ◌<◌, ◌≤◌, List, [], ◌++◌, length, take, drop, Bool, true, false, cond, ◌||◌, nat_lt, Option, Some, None, Result, Ok, Err, refl, sym, ◌∙◌, ap, subst, arith, append_assoc, length-append}
use Rattle.std.specs.Prelude.{unwrap_or, nat_le, slice_get}
use Rattle.std.specs.Option.{option_map}
use Rattle.std.proofs.lemmas.Bool.Decides.{nat_tests}
use Rattle.std.proofs.Math.Seq.{drop-append_seam, take-append_seam}
use Rattle.std.proofs.lemmas.List.{take-append-drop, length-take}
use Rattle.hgs_bytes.specs.Bytes.{IsPrefixOf}
use Rattle.hgs_files.specs.declared.op.Op.{Op}
use Rattle.hgs_files.specs.Tree.{Tree, bytes_at, after_all}
use Rattle.hgs_index.specs.declared.entry.Entry.{Entry}
use Rattle.hgs_revlog.specs.Log.{Log}
use Rattle.hgs_revlog.specs.Text.{text_of}
use Rattle.hgs_load.specs.declared.answer.ReadAnswer.{ReadAnswer}
use Rattle.hgs_load.specs.Asks.{Asks, answer, read, part_of, at_rest, then_asks, MayAnswer}
use Rattle.hgs_reader.specs.Find.{has_node, is_last_of, bytes_until, text_at_asks, text_answer}
use Rattle.hgs_reader.specs.Line.{changeset_asks, chunk_asks}
use Rattle.hgs_load.specs.View.{changelog_data, piece_length}
use Rattle.hgs_views.specs.Course.{IsBetween}
use Rattle.hgs_views.proofs.Below.{TextLaws}
use Rattle.hgs_views.proofs.Basics.{prefix-refl, prefix-trans, part_is, may-front}
use Rattle.hgs_views.proofs.LoadLemmas.{front-of-longer}
use Rattle.hgs_views.proofs.MomentLemmas.{between-later}

-- ---- one question after another

-- an answer may also come of a longer list
pub later-end : {A : Type 0} (start : Tree) (q : Asks A) (from to last : List Op) (y : A) → IsPrefixOf to last → MayAnswer start from q to y → MayAnswer start from q last y
later-end start (answer z) from to last y on m = (prefix-trans from to last m.0 on, m.1)
later-end start (read path at most rest) from to last y on m = (m.0, m.1, later-end start (rest (part_of (after_all m.0 start) path at most)) m.0 to last y on m.2)

-- what comes behind the answer of the first question
abbrev pub Behind : {A B : Type 0} → Tree → (A → Asks (Result B ReadAnswer)) → List Op → List Op → Result B ReadAnswer → Result A ReadAnswer → Type 0
Behind start more now last y (Ok a) = MayAnswer start now (more a) last y
Behind start more now last y (Err e) = y ≡ Err e

pub split : {A B : Type 0} (start : Tree) (q : Asks (Result A ReadAnswer)) (more : A → Asks (Result B ReadAnswer)) (from last : List Op) (y : Result B ReadAnswer) → MayAnswer start from (then_asks q more) last y
    → (now : List Op) × IsBetween from last now × (r : Result A ReadAnswer) × MayAnswer start from q now r × Behind start more now last y r
split start (answer (Ok a)) more from last y m = (from, record { begins = prefix-refl from; ends = may-front (more a) start from last y m }, Ok a, (prefix-refl from, refl), m)
split start (answer (Err e)) more from last y m = (from, record { begins = prefix-refl from; ends = m.0 }, Err e, (prefix-refl from, refl), m.1)
split start (read path at most rest) more from last y m =
    let s = split start (rest (part_of (after_all m.0 start) path at most)) more m.0 last y m.2 in
    (s.0, record { begins = prefix-trans from m.0 s.0 m.1 s.1.begins; ends = s.1.ends }, s.2, (m.0, m.1, s.3), s.4)

-- reads from this list on to the last one give no other answer
abbrev pub Only : {A : Type 0} → Tree → List Op → List Op → Asks A → A → Type 0
Only {A} start from last q z = (y : A) → MayAnswer start from q last y → y ≡ z

pub only-given : {A : Type 0} (start : Tree) (from last : List Op) (z : A) → Only start from last (answer z) z
only-given start from last z y m = m.1

pub only-then : {A B : Type 0} (start : Tree) (q : Asks (Result A ReadAnswer)) (more : A → Asks (Result B ReadAnswer)) (a : A) (z : Result B ReadAnswer) (from last : List Op) → Only start from last q (Ok a) → ((now : List Op) → IsBetween from last now → Only start now last (more a) z)
    → Only start from last (then_asks q more) z
only-then start q more a z from last first_only next_only y m =
    let s = split start q more from last y m in
    let is : s.2 ≡ Ok a = first_only s.2 (later-end start q from s.0 last s.2 s.1.ends s.3) in
    next_only s.0 s.1 y (subst (Behind start more s.0 last y) is s.4)

pub only-refused : {A B : Type 0} (start : Tree) (q : Asks (Result A ReadAnswer)) (more : A → Asks (Result B ReadAnswer)) (e : ReadAnswer) (from last : List Op) → Only start from last q (Err e) → Only start from last (then_asks q more) (Err e)
only-refused start q more e from last first_only y m =
    let s = split start q more from last y m in
    let is : s.2 ≡ Err e = first_only s.2 (later-end start q from s.0 last s.2 s.1.ends s.3) in
    subst (Behind start more s.0 last y) is s.4

-- ---- one read

pub only-chunk : {A : Type 0} (start : Tree) (path : List ℕ) (o : Option Entry) (given : List ℕ → Result A ReadAnswer) (z : Result A ReadAnswer) (from last : List Op) → ((now : List Op) → IsBetween from last now → at_rest (after_all now start) (chunk_asks path o given) ≡ z)
    → Only start from last (chunk_asks path o given) z
only-chunk start path None given z from last each y m = m.1 ∙ each from (record { begins = prefix-refl from; ends = m.0 })
only-chunk start path (Some e) given z from last each y m = m.2.1 ∙ each m.0 (record { begins = m.1; ends = m.2.0 })

-- in the data file, or in an inline index
pub only-changeset : {A : Type 0} (start : Tree) (inline : Bool) (rev : ℕ) (o : Option Entry) (given : List ℕ → Result A ReadAnswer) (z : Result A ReadAnswer) (from last : List Op) → ((now : List Op) → IsBetween from last now → at_rest (after_all now start) (changeset_asks inline rev o given) ≡ z)
    → Only start from last (changeset_asks inline rev o given) z
only-changeset start false rev o given z from last each y m = only-chunk start changelog_data o given z from last each y m
only-changeset start true rev None given z from last each y m = m.1 ∙ each from (record { begins = prefix-refl from; ends = m.0 })
only-changeset start true rev (Some e) given z from last each y m = m.2.1 ∙ each m.0 (record { begins = m.1; ends = m.2.0 })

pub only-text : (start : Tree) (index chunks : List ℕ) (log : Log) (o : Option ℕ) (z : Result (List ℕ) ReadAnswer) (from last : List Op) → ((now : List Op) → IsBetween from last now → at_rest (after_all now start) (text_at_asks index chunks log o) ≡ z)
    → Only start from last (text_at_asks index chunks log o) z
only-text start index chunks log None z from last each y m = m.1 ∙ each from (record { begins = prefix-refl from; ends = m.0 })
only-text start index chunks log (Some rev) z from last each y m = only-chunk start chunks (slice_get log.entries rev) (λ chunk. text_answer index (text_of log.entries rev chunk)) z from last each y m

-- only the file of chunks is read
pub chunk-same : {A : Type 0} (t u : Tree) (path : List ℕ) (o : Option Entry) (given : List ℕ → Result A ReadAnswer) → t path ≡ u path → at_rest t (chunk_asks path o given) ≡ at_rest u (chunk_asks path o given)
chunk-same t u path None given e = refl
chunk-same t u path (Some x) given e = ap (λ file. given (unwrap_or (option_map (λ bytes. take x.stored (drop x.offset bytes)) file) [])) e

pub text-same : (t u : Tree) (index chunks : List ℕ) (log : Log) (o : Option ℕ) → t chunks ≡ u chunks → at_rest t (text_at_asks index chunks log o) ≡ at_rest u (text_at_asks index chunks log o)
text-same t u index chunks log None e = refl
text-same t u index chunks log (Some rev) e = chunk-same t u chunks (slice_get log.entries rev) (λ chunk. text_answer index (text_of log.entries rev chunk)) e

-- ---- an index, piece by piece up to a node

-- what is asked once this piece was read behind these bytes
abbrev asked : List ℕ → List ℕ → ℕ → List ℕ → List ℕ → Asks (Result (List ℕ) ReadAnswer)
asked index node left bytes p = cond (is_last_of node p) (answer (Ok (bytes ++ p))) (bytes_until index node left (bytes ++ p))

pub until-same : (t u : Tree) (index node : List ℕ) (left : ℕ) (bytes : List ℕ) → t index ≡ u index → at_rest t (bytes_until index node left bytes) ≡ at_rest u (bytes_until index node left bytes)
until-same t u index node zero bytes e = refl
until-same t u index node (suc left) bytes e =
    ap (λ file. at_rest t (asked index node left bytes (unwrap_or (option_map (λ b. take piece_length (drop (length bytes) b)) file) []))) e
    ∙ by (unwrap_or (part_of u index (length bytes) piece_length) []) (is_last_of node (unwrap_or (part_of u index (length bytes) piece_length) [])) (λ p. until-same t u index node left (bytes ++ p) e)
  where
    by : (p : List ℕ) (b : Bool) → ((p : List ℕ) → at_rest t (bytes_until index node left (bytes ++ p)) ≡ at_rest u (bytes_until index node left (bytes ++ p))) → at_rest t (cond b (answer (Ok (bytes ++ p))) (bytes_until index node left (bytes ++ p))) ≡ at_rest u (cond b (answer (Ok (bytes ++ p))) (bytes_until index node left (bytes ++ p)))
    by p true more = refl
    by p false more = more p

long_piece : (n : ℕ) → nat_lt n 65536 ≡ false → n ≤ 65536 → n ≡ 65536
long_piece n h le = grind (arith, nat_tests, h, le)

either_false : (a b : Bool) → (a || b) ≡ false → (a ≡ false) × (b ≡ false)
either_false true b h = cc
either_false false b h = (refl, h)

true_false : (b : Bool) → b ≡ true → b ≡ false → ⊥
true_false true e f = cc
true_false false e f = cc

above_is : (a b : ℕ) → nat_le a b ≡ false → b < a
above_is a b h = grind (arith, nat_tests, h)

most_is : (a b : ℕ) → nat_le a b ≡ true → a ≤ b
most_is a b h = grind (arith, nat_tests, h)

module _ (law : TextLaws) (start : Tree) (index node front : List ℕ) (k : ℕ) (before : has_node node k front ≡ false) (there : has_node node (suc k) front ≡ true) (fits : 64 * suc k ≤ length front) (last : List Op) where
  -- entries of the front
  in-front : (n : ℕ) (bytes : List ℕ) → IsPrefixOf front bytes → 64 * n ≤ length front → has_node node n front ≡ has_node node n bytes
  in-front n bytes p le = ap (has_node node n) (sym (ap (take (length front)) p.1 ∙ take-append_seam front p.0)) ∙ law.front node n (length front) bytes le

  -- a whole piece without the node ends before it
  goes-on : (a : ℕ) (bytes rest all : List ℕ) → length bytes ≡ 64 * a → has_node node a front ≡ false → IsPrefixOf bytes front → IsPrefixOf front all → all ≡ bytes ++ rest → is_last_of node (take piece_length rest) ≡ false
      → (length (take piece_length rest) ≡ 65536) × IsPrefixOf (bytes ++ take piece_length rest) front × (has_node node (a + 1024) front ≡ false)
  goes-on a bytes rest all size none p q e last_not =
      let piece = take piece_length rest in
      let parts = either_false (nat_lt (length piece) piece_length) (has_node node (length piece / 64) piece) last_not in
      let few = length-take piece_length rest in
      let full : length piece ≡ 65536 = long_piece (length piece) parts.0 (omega (arith, few)) in
      let a_low : 64 * a ≤ length front = (let l = ap length p.1 in let m = length-append bytes p.0 in omega (arith, l, m, size)) in
      let count : length piece / 64 ≡ 1024 = omega (arith, full) in
      let piece_none : has_node node 1024 piece ≡ false = ap (λ n. has_node node n piece) (sym count) ∙ parts.1 in
      let rest_none : has_node node 1024 rest ≡ false = sym (law.front node 1024 piece_length rest (omega arith)) ∙ piece_none in
      let rest_is : drop (64 * a) all ≡ rest = ap (λ n. drop n all) (sym size) ∙ ap (drop (length bytes)) e ∙ drop-append_seam bytes rest in
      let all_none : has_node node (a + 1024) all ≡ false = law.behind node a 1024 (a + 1024) all false refl (sym (in-front a all q a_low) ∙ none) (ap (has_node node 1024) rest_is ∙ rest_none) in
      let low : a + 1024 ≤ k = lower (nat_le (a + 1024) k) refl all_none in
      let inside : 64 * (a + 1024) ≤ length front = omega (arith, low, fits) in
      let joined : IsPrefixOf (bytes ++ piece) all = (drop piece_length rest, e ∙ ap (λ l. bytes ++ l) (sym (take-append-drop piece_length rest)) ∙ sym (append_assoc bytes piece (drop piece_length rest))) in
      let both = length-append bytes piece in
      (full, front-of-longer (bytes ++ piece) front all joined q (omega (arith, both, full, size, inside)), in-front (a + 1024) all q inside ∙ all_none)
    where
      lower : (b : Bool) → nat_le (a + 1024) k ≡ b → has_node node (a + 1024) all ≡ false → a + 1024 ≤ k
      lower true b none = most_is (a + 1024) k b
      lower false b none =
          let gt = above_is (a + 1024) k b in
          absurd (true_false (has_node node (a + 1024) all) (law.more node (suc k) (a + 1024) all (omega (arith, gt)) (sym (in-front (suc k) all q fits) ∙ there)) none)

  piece-at : (t : Tree) (bytes rest : List ℕ) → bytes_at t index ≡ bytes ++ rest → unwrap_or (part_of t index (length bytes) piece_length) [] ≡ take piece_length rest
  piece-at t bytes rest e = part_is (t index) (length bytes) piece_length ∙ ap (λ l. take piece_length (drop (length bytes) l)) e ∙ ap (take piece_length) (drop-append_seam bytes rest)

  pub until-one : (left a : ℕ) (bytes : List ℕ) (from : List Op) (r : Result (List ℕ) ReadAnswer) → length bytes ≡ 64 * a → IsPrefixOf bytes front → has_node node a front ≡ false
      → ((now : List Op) → IsBetween from last now → IsPrefixOf front (bytes_at (after_all now start) index)) → MayAnswer start from (bytes_until index node left bytes) last r
      → (now : List Op) × IsBetween from last now × (r ≡ at_rest (after_all now start) (bytes_until index node left bytes))
  until-one zero a bytes from r size p none stands m = (from, record { begins = prefix-refl from; ends = m.0 }, m.1)
  until-one (suc left) a bytes from r size p none stands m =
      let log = m.0 in
      let t = after_all log start in
      let part = part_of t index (length bytes) piece_length in
      let here : IsBetween from last log = record { begins = m.1; ends = may-front (asked index node left bytes (unwrap_or part [])) start log last r m.2 } in
      let q = stands log here in
      let kept = prefix-trans bytes front (bytes_at t index) p q in
      let piece = piece-at t bytes kept.0 kept.1 in
      by log here q kept.0 kept.1 (subst (λ p. MayAnswer start log (asked index node left bytes p) last r) piece m.2) (is_last_of node (take piece_length kept.0)) refl
      (λ size p none. until-one left (a + 1024) (bytes ++ take piece_length kept.0) log r size p none (λ now at. stands now (between-later from last log now here at)))
    where
      Result_at : List Op → Type 0
      Result_at now = r ≡ at_rest (after_all now start) (bytes_until index node (suc left) bytes)

      by : (log : List Op) → IsBetween from last log → IsPrefixOf front (bytes_at (after_all log start) index) → (rest : List ℕ) → bytes_at (after_all log start) index ≡ bytes ++ rest → MayAnswer start log (asked index node left bytes (take piece_length rest)) last r
          → (b : Bool) → is_last_of node (take piece_length rest) ≡ b
          → (length (bytes ++ take piece_length rest) ≡ 64 * (a + 1024) → IsPrefixOf (bytes ++ take piece_length rest) front → has_node node (a + 1024) front ≡ false → MayAnswer start log (bytes_until index node left (bytes ++ take piece_length rest)) last r
          → (now : List Op) × IsBetween log last now × (r ≡ at_rest (after_all now start) (bytes_until index node left (bytes ++ take piece_length rest))))
          → (now : List Op) × IsBetween from last now × (r ≡ at_rest (after_all now start) (bytes_until index node (suc left) bytes))
      by log here q rest e m true l next =
          let piece = take piece_length rest in
          let m1 = subst (λ b. MayAnswer start log (cond b (answer (Ok (bytes ++ piece))) (bytes_until index node left (bytes ++ piece))) last r) l m in
          (log, here, m1.1 ∙ sym (ap (λ p. at_rest (after_all log start) (asked index node left bytes p)) (piece-at (after_all log start) bytes rest e) ∙ ap (λ b. at_rest (after_all log start) (cond b (answer (Ok (bytes ++ piece))) (bytes_until index node left (bytes ++ piece)))) l))
      by log here q rest e m false l next =
          let piece = take piece_length rest in
          let m1 = subst (λ b. MayAnswer start log (cond b (answer (Ok (bytes ++ piece))) (bytes_until index node left (bytes ++ piece))) last r) l m in
          let g = goes-on a bytes rest (bytes_at (after_all log start) index) size none p q e l in
          let both = length-append bytes piece in
          let full = g.0 in
          let n = next (omega (arith, both, full, size)) g.1 g.2 m1 in
          let at = between-later from last log n.0 here n.1 in
          let u = after_all n.0 start in
          let kept = prefix-trans (bytes ++ piece) front (bytes_at u index) g.1 (stands n.0 at) in
          let split_there : bytes_at u index ≡ bytes ++ (piece ++ kept.0) = kept.1 ∙ append_assoc bytes piece kept.0 in
          let same_piece : unwrap_or (part_of u index (length bytes) piece_length) [] ≡ piece = piece-at u bytes (piece ++ kept.0) split_there ∙ ap (λ w. take w (piece ++ kept.0)) (sym full) ∙ take-append_seam piece kept.0 in
          (n.0, at, n.2 ∙ sym (ap (λ p. at_rest u (asked index node left bytes p)) same_piece ∙ ap (λ b. at_rest u (cond b (answer (Ok (bytes ++ piece))) (bytes_until index node left (bytes ++ piece)))) l))
