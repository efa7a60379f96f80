-- The parents of a file's revision and the revision that is kept are those of the repository.
use Rattle.std.proofs.Common.{◌≡◌, ℕ, zero, suc, List, [], ◌∷◌, Bool, true, false, ◌==◌, cond, length, map, nat_lt, not, refl, sym, ◌∙◌, ap, subst, arith, length-append}
use Rattle.std.proofs.lemmas.Bool.Decides.{nat_tests}
use Rattle.std.specs.Prelude.{◌<◌, Option, Some, None, IfSome, Result, Ok, Err, option_map, slice_get, slice_index_or}
use Rattle.std.specs.List.{AllByRecursion}
use Rattle.hgs_bytes.specs.Bytes.{same}
use Rattle.hgs_bytes.specs.Theorems.ByteLemmas.{same-eq}
use Rattle.hgs_files.specs.Tree.{Tree}
use Rattle.hgs_index.specs.declared.entry.Entry.{Entry}
use Rattle.hgs_index.specs.FileText.{body_of, prefix_of}
use Rattle.hgs_index.specs.Revision.{Parents, Revision}
use Rattle.hgs_index.specs.Revlog.{chunk_text}
use Rattle.hgs_index.specs.Theorems.FileTextLemmas.{unpacked-joins}
use Rattle.hgs_loading.specs.Found.{and_then}
use Rattle.hgs_loading.specs.Logs.{chunk_in_form}
use Rattle.hgs_manifest.specs.Held.{found_in}
use Rattle.hgs_model.specs.History.{History, Placed, file_parents, file_parents_of, kept_of, node_at, placed_at, placed_file, row_of, text_at}
use Rattle.hgs_model.specs.Step.{copy_block, fresh_prefix, placed_node}
use Rattle.hgs_model.specs.Theorems.CountLemmas.{IsSound}
use Rattle.hgs_model.specs.Theorems.ListLemmas.{found-has}
use Rattle.hgs_load.specs.declared.answer.ReadAnswer.{ReadAnswer}
use Rattle.hgs_revlog.specs.declared.fault.RevFault.{RevFault}
use Rattle.hgs_revlog.specs.declared.fault.RevFault.TheVariants as faults
use Rattle.hgs_revlog.specs.Held.{chunk_in}
use Rattle.hgs_revlog.specs.Loaded.{parents_in as entry_parents}
use Rattle.hgs_revlog.specs.Log.{place_of}
use Rattle.hgs_revlog.specs.Text.{entry_text, fitting_text, node_with, text_at as text_with, text_of}
use Rattle.hgs_commit.specs.Files.{fresh_block, is_shorter, kept_by, kept_in, known_rev, node_in, parents_by, rev_of_node, source_node, told_node}
use Rattle.hgs_commit.specs.Texts.{OfLog}
use Rattle.hgs_commit.specs.Walk.{Told}
use Rattle.hgs_writer.specs.Files.{files_at, told_at}
use Rattle.hgs_writer.specs.Logs.{IsLogOf, held_chunks}
use Rattle.hgs_writer.proofs.TextLemmas.{entry-of, place-of, text-of-chunk}

-- ---- the row of a path

told-in : (logs : List ℕ → List Revision) (path : List ℕ) (files : List Placed) → found_in path (map (row_of logs) files) ≡ option_map (λ (p : Placed). let told : Told = (node_at (logs p.path) p.rev, p.flag) in told) (placed_file files path)
told-in logs path [] = refl
told-in logs path (p ∷ files) = by (same p.path path) (told-in logs path files)
  where
    told : Placed → Told
    told q = (node_at (logs q.path) q.rev, q.flag)

    by : (b : Bool) → found_in path (map (row_of logs) files) ≡ option_map (λ (q : Placed). let x : Told = (node_at (logs q.path) q.rev, q.flag) in x) (placed_file files path)
        → cond b (Some (node_at (logs p.path) p.rev, p.flag)) (found_in path (map (row_of logs) files)) ≡ option_map (λ (q : Placed). let x : Told = (node_at (logs q.path) q.rev, q.flag) in x) (cond b (Some p) (placed_file files path))
    by true rec = refl
    by false rec = rec

pub told-of : (h : History) (o : Option ℕ) (path : List ℕ) → found_in path (files_at h o).1 ≡ told_at h o path
told-of h o path = told-in h.filelog path (placed_at h o)

-- ---- the parents

BelowCounts : History → List Placed → Type 0
BelowCounts h files = AllByRecursion (λ (p : Placed). p.rev < length (h.filelog p.path)) files

below-counts : (h : History) (o : Option ℕ) → IsSound h → BelowCounts h (placed_at h o)
unfolding BelowCounts
below-counts h None s = tt
below-counts h (Some rev) s = at h.placed rev s.files
  where
    at : (xs : List (List Placed)) (i : ℕ) → AllByRecursion (λ files. AllByRecursion (λ (p : Placed). p.rev < length (h.filelog p.path)) files) xs → AllByRecursion (λ (p : Placed). p.rev < length (h.filelog p.path)) (slice_index_or xs i [])
    at [] i all = tt
    at (x ∷ xs) zero all = all.0
    at (x ∷ xs) (suc i) all = at xs i all.1

-- the file of a path has a revision of the path's filelog
pub placed-below : (h : History) (o : Option ℕ) (path : List ℕ) (p : Placed) → IsSound h → placed_file (placed_at h o) path ≡ Some p → (p.rev < length (h.filelog path)) × (p.path ≡ path)
unfolding BelowCounts
placed-below h o path p s found =
    let has = found-has (λ (q : Placed). q.rev < length (h.filelog q.path)) (λ (q : Placed). same q.path path) (placed_at h o) p (below-counts h o s) found in
    let at = same-eq p.path path has.1 in
    (subst (λ q. p.rev < length (h.filelog q)) at has.0, at)

rev-of : (t : Tree) (h : History) (f : OfLog) (o : Option ℕ) (path : List ℕ) → IsSound h → IsLogOf t f (h.filelog path) → rev_of_node f.index f.log.entries (node_in (told_at h o path)) ≡ Ok (option_map (λ (p : Placed). p.rev) (placed_file (placed_at h o) path))
rev-of t h f o path s is = by (placed_file (placed_at h o) path) refl
  where
    by : (x : Option Placed) → placed_file (placed_at h o) path ≡ x
        → rev_of_node f.index f.log.entries (node_in (option_map (λ (p : Placed). let told : Told = (node_at (h.filelog p.path) p.rev, p.flag) in told) x)) ≡ Ok (option_map (λ (p : Placed). p.rev) x)
    by None e = refl
    by (Some p) e =
        let at = placed-below h o path p s e in
        ap (known_rev f.index) (ap (λ q. place_of f.log.entries (node_at (h.filelog q) p.rev)) at.1 ∙ place-of t f (h.filelog path) p.rev is at.0)

pub parents-of : (t : Tree) (h : History) (f : OfLog) (parents : Parents) (path : List ℕ) → IsSound h → IsLogOf t f (h.filelog path) → parents_by f (told_at h parents.0 path) (told_at h parents.1 path) ≡ Ok (file_parents h parents path)
parents-of t h f parents path s is =
    let first = option_map (λ (p : Placed). p.rev) (placed_file (placed_at h parents.0) path) in
    let second = option_map (λ (p : Placed). p.rev) (placed_file (placed_at h parents.1) path) in
    ap (λ (x : Result (Option ℕ) ReadAnswer). and_then x (λ a. and_then (rev_of_node f.index f.log.entries (node_in (told_at h parents.1 path))) (λ b. Ok (file_parents_of (entry_parents f.log.entries) a b)))) (rev-of t h f parents.0 path s is)
    ∙ ap (λ (x : Result (Option ℕ) ReadAnswer). and_then x (λ b. Ok (file_parents_of (entry_parents f.log.entries) first b))) (rev-of t h f parents.1 path s is)
    ∙ ap (λ (ps : List Parents). Ok (file_parents_of ps first second)) is.parents_are

-- ---- the block of a copy

-- the node that a row has is that of its file
source-told : (h : History) (o : Option ℕ) (path : List ℕ) → IsSound h → told_node (told_at h o path) ≡ placed_node (h.filelog path) (placed_file (placed_at h o) path)
source-told h o path s = by (placed_file (placed_at h o) path) refl
  where
    by : (x : Option Placed) → placed_file (placed_at h o) path ≡ x → told_node (option_map (λ (p : Placed). let told : Told = (node_at (h.filelog p.path) p.rev, p.flag) in told) x) ≡ placed_node (h.filelog path) x
    by None e = refl
    by (Some p) e = ap (λ q. node_at (h.filelog q) p.rev) (placed-below h o path p s e).1

-- what stands before the body of a file that is not kept is that of the repository
pub fresh-block : (h : History) (parents : Parents) (from : Option (List ℕ)) (body : List ℕ) → IsSound h → fresh_block from (source_node (files_at h parents.0).1 from) body ≡ fresh_prefix h parents from body
fresh-block h parents None body s = refl
fresh-block h parents (Some path) body s = ap (copy_block path) (ap told_node (told-of h parents.0 path) ∙ source-told h parents.0 path s)

-- ---- the revision that is kept

-- a text that is read is as long as its entry says
fitting-size : (entries : List Entry) (rev : ℕ) (e : Entry) (chunk : Option (List ℕ)) (text : List ℕ) → fitting_text entries rev e chunk ≡ Ok text → length text ≡ e.size
fitting-size entries rev e None text h = cc
fitting-size entries rev e (Some x) text h = by (length x == e.size) (same (node_with entries e x) e.node.0) refl h
  where
    by : (a b : Bool) → (length x == e.size) ≡ a → (let r : Result (List ℕ) RevFault = cond (not a) (Err (faults.Length rev)) (cond (not b) (Err (faults.Hash rev)) (Ok x)) in r) ≡ Ok text → length text ≡ e.size
    by true true same_size g = ap length (sym (ok-text g)) ∙ size same_size
      where
        ok-text : (let r : Result (List ℕ) RevFault = Ok x in r) ≡ Ok text → x ≡ text
        ok-text k = cc

        size : (length x == e.size) ≡ true → length x ≡ e.size
        size k = grind (arith, nat_tests, k)
    by true false same_size g = cc
    by false b same_size g = cc

entry-size : (entries : List Entry) (rev : ℕ) (chunk : List ℕ) (e : Entry) (text : List ℕ) → entry_text entries rev chunk e ≡ Ok text → length text ≡ e.size
entry-size entries rev chunk e text h = by (e.flags == 0) (e.base == rev) (nat_lt (length chunk) e.stored) h
  where
    by : (a b c : Bool) → (let r : Result (List ℕ) RevFault = cond (not a) (Err (faults.Flagged rev)) (cond (not b) (Err (faults.Delta rev)) (cond c (Err (faults.Short rev)) (fitting_text entries rev e (chunk_text chunk)))) in r) ≡ Ok text → length text ≡ e.size
    by true true false g = fitting-size entries rev e (chunk_text chunk) text g
    by true true true g = cc
    by true false c g = cc
    by false b c g = cc

-- a text that is shorter than a body does not have it
no-body : (text body : List ℕ) → length text < length body → same (body_of text) body ≡ false
no-body text body short = by (same (body_of text) body) refl
  where
    by : (b : Bool) → same (body_of text) body ≡ b → b ≡ false
    by false e = refl
    by true e = absurd (omega (arith, short, ap length (same-eq (body_of text) body e), ap length (unpacked-joins text), length-append (prefix_of text) (body_of text)))

pub kept-is : (t : Tree) (f : OfLog) (revisions : List Revision) (a b : Option ℕ) (body : List ℕ) → IsLogOf t f revisions → IfSome a (λ rev. rev < length revisions) → kept_in f a b body t ≡ Ok (kept_of revisions a b body)
kept-is t f revisions None b body is low = refl
kept-is t f revisions (Some rev) (Some other) body is low = refl
kept-is t f revisions (Some rev) None body is low = ap (λ (o : Option Entry). read (is_shorter o body)) e.1 ∙ by (nat_lt e.0.size (length body)) refl
  where
    e : (x : Entry) × (slice_get f.log.entries rev ≡ Some x) × (text_of f.log.entries rev (chunk_in (held_chunks t f) x) ≡ Ok (text_at revisions rev))
    e = entry-of t f revisions rev is low

    read : Bool → Result (Option ℕ) ReadAnswer
    read z = cond z (Ok None) (kept_by f rev body (text_of f.log.entries rev (chunk_in_form f.index f.chunks f.log rev t)))

    size : length (text_at revisions rev) ≡ e.0.size
    size = entry-size f.log.entries rev (chunk_in (held_chunks t f) e.0) e.0 (text_at revisions rev) (ap (text_with f.log.entries rev (chunk_in (held_chunks t f) e.0)) (sym e.1) ∙ e.2)

    shorter : nat_lt e.0.size (length body) ≡ true → length (text_at revisions rev) < length body
    shorter h = omega (arith, size, less h)
      where
        less : nat_lt e.0.size (length body) ≡ true → e.0.size < length body
        less k = grind (arith, nat_tests, k)

    by : (z : Bool) → nat_lt e.0.size (length body) ≡ z → read z ≡ Ok (kept_of revisions (Some rev) None body)
    by true h = ap (λ (z : Bool). Ok (cond z (Some rev) None)) (sym (no-body (text_at revisions rev) body (shorter h)))
    by false h = ap (kept_by f rev body) (text-of-chunk t f revisions rev is low)
