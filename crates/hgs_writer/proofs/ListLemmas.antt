-- Lists of operations, and what is done of them.
use Rattle.std.proofs.Common.{◌≡◌, ℕ, ◌+◌, ◌<◌, List, [], ◌∷◌, ◌++◌, length, take, drop, refl, ◌∙◌, ap, inl, inr, arith}
use Rattle.std.proofs.Math.Seq.{drop-append_seam, take-append-add, take-append_seam}
use Rattle.hgs_files.specs.declared.op.Op.{Op}
use Rattle.hgs_files.specs.Log.{IsDone}
use Rattle.hgs_files.specs.Theorems.LogLemmas.{done-append, done-behind}
use Rattle.hgs_legal.specs.Pieces as legal
use Rattle.hgs_machine.specs.Course.{AreSome, between}

-- ---- parts of a list

pub slice : (a b c : List Op) (i j : ℕ) → i ≡ length a → j ≡ length a + length b → between i j (a ++ (b ++ c)) ≡ b
slice a b c i j at_i at_j =
    let taken : take j (a ++ (b ++ c)) ≡ a ++ b = ap (λ n. take n (a ++ (b ++ c))) at_j ∙ take-append-add a (b ++ c) (length b) ∙ ap (λ l. a ++ l) (take-append_seam b c) in
    ap (λ l. drop i l) taken ∙ ap (λ n. drop n (a ++ b)) at_i ∙ drop-append_seam a b

pub front : (a b : List Op) (i : ℕ) → i ≡ length a → take i (a ++ b) ≡ a
front a b i at_i = ap (λ n. take n (a ++ b)) at_i ∙ take-append_seam a b

-- a list with something in it begins with something
pub first-of : (front back : List Op) (o : Op) → (op : Op) × (left : List Op) × (front ++ o ∷ back ≡ op ∷ left)
first-of [] back o = (o, back, refl)
first-of (x ∷ front) back o = (x, front ++ o ∷ back, refl)

-- ---- what is done

pub done-both : (ops log next more left : List Op) → IsDone ops log [] → IsDone next more left → IsDone (ops ++ next) (log ++ more) left
done-both ops log next more left h k = done-append (ops ++ next) log next more left (done-behind ops next log [] h) k

-- where less is left, something is done
pub some-done : (ops log left : List Op) → IsDone ops log left → length left < length ops → (op : Op) × (more : List Op) × (log ≡ op ∷ more)
some-done ops [] left h less = absurd (let same : length ops ≡ length left = ap length h in omega (arith, same, less))
some-done ops (op ∷ more) left h less = (op, more, refl)

-- ---- some of a list

pub same-some : (all log : List Op) → AreSome all log → legal.AreSome all log
same-some [] log h = h
same-some (op ∷ all) log (inl h) = inl (same-some all log h)
same-some (op ∷ all) log (inr h) = inr (h.0, h.1, same-some all h.0 h.2)

-- all of a list
pub all-some : (all log : List Op) → log ≡ all → legal.AreSome all log
all-some [] log e = e
all-some (op ∷ all) log e = inr (all, e, all-some all all refl)
