-- Files that were read whole.
use Rattle.std.proofs.Common.{◌++◌, append_assoc, ◌≡◌, ℕ, zero, suc, ◌<◌, ◌≤◌, List, [], ◌∷◌, true, false, cond, length, take, drop, refl, sym, ◌∙◌, ap, subst, arith}
use Rattle.std.specs.Prelude.{Option, Some, None, IfSome, option_map, unwrap_or}
use Rattle.std.proofs.lemmas.List.{length-take}
use Rattle.hgs_files.specs.declared.op.Op.{Op}
use Rattle.hgs_files.specs.Reads.{Grows}
use Rattle.hgs_files.specs.Tree.{Tree, after_all, bytes_at}
use Rattle.hgs_index.specs.Either.{chunk_bytes, chunks_either}
use Rattle.hgs_index.specs.Inline.{chunks_apart, entries_in, index_apart, is_inline, without_inline}
use Rattle.hgs_path.specs.declared.name.Ext.TheVariants.{I, D}
use Rattle.hgs_path.specs.StoreName.{store_name}
use Rattle.hgs_findings.specs.Reading.{data_in, index_in, the_filelog}
use Rattle.hgs_load.specs.Asks.{part_of}
use Rattle.hgs_verify.specs.declared.revlog.Parts.{Parts}
use Rattle.hgs_verify.specs.Parts.{AreBytes}

pub take-whole : (xs : List ℕ) (i : ℕ) → length xs ≤ i → take i xs ≡ xs
take-whole [] zero h = refl
take-whole [] (suc i) h = refl
take-whole (x ∷ xs) zero h = absurd (omega (arith, h))
take-whole (x ∷ xs) (suc i) h = ap (λ l. x ∷ l) (take-whole xs i (omega (arith, h)))

-- what is shorter than may be is all of it
whole-file : (file part : Option (List ℕ)) (most : ℕ) → part ≡ option_map (λ b. take most (drop 0 b)) file → length (unwrap_or part []) < most → part ≡ file
whole-file None part most e lt = e
whole-file (Some b) part most e lt =
    let n : length (take most b) < most = subst (λ (o : Option (List ℕ)). length (unwrap_or o []) < most) e lt in
    e ∙ ap Some (take-whole b most (let l = length-take most b in omega (arith, l, n)))

pub file-read : (seen : Option (List Op)) (start : Tree) (path : List ℕ) (part : Option (List ℕ)) (most : ℕ) → IfSome seen (λ log. part ≡ part_of (after_all log start) path 0 most) → length (unwrap_or part []) < most → IfSome seen (λ log. part ≡ after_all log start path)
file-read None start path part most e lt = tt
file-read (Some log) start path part most e lt = whole-file (after_all log start path) part most e lt

-- a fact of two files that were read of one tree
pub both-are : (before seen : Option (List Op)) (first start : Tree) (index chunks : List ℕ) (a b : Option (List ℕ)) (P : List ℕ → List ℕ → Type 0) → seen ≡ before → start ≡ first → IfSome before (λ log. a ≡ after_all log first index) → IfSome seen (λ log. b ≡ after_all log start chunks)
    → P (unwrap_or a []) (unwrap_or b []) → IfSome seen (λ log. P (bytes_at (after_all log start) index) (bytes_at (after_all log start) chunks))
both-are before seen first start index chunks a b P same_log same_start left right fact =
    by seen (subst (λ o. IfSome o (λ log. a ≡ after_all log start index)) (sym same_log) (subst (λ t. IfSome before (λ log. a ≡ after_all log t index)) (sym same_start) left)) right
  where
    by : (o : Option (List Op)) → IfSome o (λ log. a ≡ after_all log start index) → IfSome o (λ log. b ≡ after_all log start chunks) → IfSome o (λ log. P (bytes_at (after_all log start) index) (bytes_at (after_all log start) chunks))
    by None p q = tt
    by (Some log) p q = subst (λ x. P (unwrap_or x []) (unwrap_or (after_all log start chunks) [])) p (subst (λ x. P (unwrap_or a []) (unwrap_or x [])) q fact)

pub if-then : (seen : Option (List Op)) (P Q : List Op → Type 0) → ((log : List Op) → P log → Q log) → IfSome seen P → IfSome seen Q
if-then None P Q f p = tt
if-then (Some log) P Q f p = f log p

-- facts of two looks at one tree
pub two-looks : (before seen : Option (List Op)) (first start : Tree) (P Q R : Tree → Type 0) → seen ≡ before → start ≡ first → ((t : Tree) → P t → Q t → R t) → IfSome before (λ log. P (after_all log first)) → IfSome seen (λ log. Q (after_all log start)) → IfSome seen (λ log. R (after_all log start))
two-looks before seen first start P Q R same_log same_start f left right =
    by seen (subst (λ o. IfSome o (λ log. P (after_all log start))) (sym same_log) (subst (λ t. IfSome before (λ log. P (after_all log t))) (sym same_start) left)) right
  where
    by : (o : Option (List Op)) → IfSome o (λ log. P (after_all log start)) → IfSome o (λ log. Q (after_all log start)) → IfSome o (λ log. R (after_all log start))
    by None p q = tt
    by (Some log) p q = f (after_all log start) p q

pub grows-on : (a b c : Option (List Op)) → Grows a b → Grows b c → Grows a c
grows-on None b c p q = by b p q
  where
    by : (o : Option (List Op)) → o ≡ None → Grows o c → c ≡ None
    by None e r = r
    by (Some log) e r = absurd (no_log e)
      where
        no_log : Some log ≡ None → ⊥
        no_log h = cc
grows-on (Some log) b c p q = by b p.1 q
  where
    by : (o : Option (List Op)) → o ≡ Some (log ++ p.0) → Grows o c → (more : List Op) × (c ≡ Some (log ++ more))
    by None e r = absurd (no_log e)
      where
        no_log : None ≡ Some (log ++ p.0) → ⊥
        no_log h = cc
    by (Some longer) e r = (p.0 ++ r.0, r.1 ∙ ap Some (ap (λ l. l ++ r.0) (some-same longer (log ++ p.0) e) ∙ append_assoc log p.0 r.0))
      where
        some-same : (x y : List Op) → Some x ≡ Some y → x ≡ y
        some-same x y h = ap (elim [ None ↦ x | Some z ↦ z ]) h

-- ---- revlogs

-- an index that says that it is inline, taken apart, and one that does not, as it stands
pub taken-apart : (index other data_bytes : List ℕ) (p : Parts) → index ≡ other → is_inline index ≡ true → AreBytes p (index_apart index) (chunks_apart index) → AreBytes p (index_apart other) (chunks_either other data_bytes)
taken-apart index other data_bytes p same form are =
    (are.0 ∙ ap index_apart same, are.1 ∙ ap chunks_apart same ∙ sym (ap (λ b. chunk_bytes b other data_bytes) (ap is_inline (sym same) ∙ form)))

pub as-it-stands : (index data_bytes : List ℕ) (p : Parts) → is_inline index ≡ false → AreBytes p index data_bytes → AreBytes p (index_apart index) (chunks_either index data_bytes)
as-it-stands index data_bytes p form are =
    (are.0 ∙ sym (ap (λ b. cond b (without_inline (entries_in (length index) index)) index) form), are.1 ∙ sym (ap (λ b. chunk_bytes b index data_bytes) form))

-- a filelog that was read in either form
pub filelog-read : (t : Tree) (path index chunks : List ℕ) (p : Parts) → index ≡ store_name path I → chunks ≡ store_name path D → AreBytes p (index_apart (bytes_at t index)) (chunks_either (bytes_at t index) (bytes_at t chunks))
    → AreBytes p (index_in t (the_filelog path)) (data_in t (the_filelog path))
filelog-read t path index chunks p i d are =
    subst (λ x. AreBytes p (index_apart (bytes_at t x)) (chunks_either (bytes_at t x) (bytes_at t (store_name path D)))) i
    (subst (λ x. AreBytes p (index_apart (bytes_at t index)) (chunks_either (bytes_at t index) (bytes_at t x))) d are)
