-- What is done of an import in parts is, its new index of the changelog aside, what is done of a commit's operations.
use Rattle.std.proofs.Common.{◌≡◌, ◌⊎◌, ℕ, List, [], ◌∷◌, ◌++◌, false, not, refl, sym, ◌∙◌, ap, subst, inl, inr, append-nil}
use Rattle.std.specs.Prelude.{Some}
use Rattle.hgs_bytes.specs.Bytes.{same}
use Rattle.hgs_bytes.specs.Theorems.ByteLemmas.{same-refl}
use Rattle.hgs_files.specs.declared.op.Op.{Op}
use Rattle.hgs_files.specs.declared.op.Op.TheVariants.{Append, Cut, Rename, Remove, Create, Sync, Settle}
use Rattle.hgs_files.specs.Log.{IsDone}
use Rattle.hgs_files.specs.Tree.{Tree, after_all, apply, bytes_at}
use Rattle.hgs_files.specs.Theorems.LogLemmas.{after-done, done-append, done-behind, piece-whole}
use Rattle.hgs_files.specs.Theorems.StopLemmas.{IsInPart, done-in-part}
use Rattle.hgs_files.specs.Theorems.TreeLemmas.{after_all-append, with_file-same}
use Rattle.hgs_stands.specs.Places.{changelog_index}
use Rattle.hgs_ops.specs.Operations.{new_changelog_path}
use Rattle.hgs_ops.proofs.Parts.{all-not, done-split, done-within}
use Rattle.hgs_ops.specs.Theorems.ImportTree.{Agree, agree-all, agree-new, agree-published, agree-refl, reads, reads_any}
use Rattle.hgs_ops.specs.Theorems.Touch.{bytes-same, or-both, or-left, or-right, touched, touched-within, touches, untouched}

-- What was done comes to what was done of these operations, the new index aside.
pub record ComesTo (ops : List Op) (u : Tree) (done : List Op) : Type 0 where
  pub other : List Op
  pub rest : List Op
  pub is_done : IsDone ops other rest
  pub agree : Agree (after_all done u) (after_all other u)

pub comes-self : (ops : List Op) (u : Tree) (done left : List Op) → IsDone ops done left → ComesTo ops u done
comes-self ops u done left h = record { other = done; rest = left; is_done = h; agree = agree-refl (after_all done u) }

-- all of a list
pub all-done : (ops : List Op) → IsDone ops ops []
all-done [] = refl
all-done (op ∷ ops) = (ops, ([], piece-whole op, refl), all-done ops)

-- an operation reads no file that it is not at
reads-touches : (p : List ℕ) (op : Op) → touches p op ≡ false → reads p op ≡ false
reads-touches p (Append path bytes) e = e
reads-touches p (Cut path len) e = e
reads-touches p (Rename from to) e = or-left _ _ e
reads-touches p (Remove path) e = refl
reads-touches p (Create path bytes) e = refl
reads-touches p (Sync path) e = refl
reads-touches p Settle e = refl

reads-touched : (p : List ℕ) (ops : List Op) → touched p ops ≡ false → reads_any p ops ≡ false
reads-touched p [] e = refl
reads-touched p (op ∷ ops) e = or-both _ _ (reads-touches p op (or-left _ _ e)) (reads-touched p ops (or-right (touches p op) _ e))

part-touched : (p : List ℕ) (ops done left : List Op) → IsDone ops done left → touched p ops ≡ false → touched p done ≡ false
part-touched p ops done left h e = touched-within (λ q. not (same q p)) done p (done-within (λ q. not (same q p)) ops done left h (all-not p ops e)) (ap not (same-refl p))

part-agree : (ops done left : List Op) (u v : Tree) → IsDone ops done left → touched new_changelog_path ops ≡ false → Agree u v → Agree (after_all done u) (after_all done v)
part-agree ops done left u v h e a = agree-all done u v (reads-touched new_changelog_path done (part-touched new_changelog_path ops done left h e)) a

-- of one rename nothing is done, or all of it
pub nothing-of : (done left : List Op) → IsDone [] done left → done ≡ []
nothing-of [] left h = refl
nothing-of (x ∷ done) left (j, d, k) = absurd d

pub rename-all : (from to : List ℕ) (done left : List Op) → IsDone (Rename from to ∷ []) done left → (done ≡ []) ⊎ (done ≡ Rename from to ∷ [])
rename-all from to [] left h = inl refl
rename-all from to (op ∷ more) left (j, (rest, (f, g), e), k) =
    let none = nothing-of more left (subst (λ (x : List Op). IsDone x more left) (e ∙ append-nil rest ∙ g) k) in
    inr (λ i. f i ∷ none i)

-- what is done of the new index's creation is at no other path
part-made : (text : List ℕ) (done left : List Op) (u : Tree) → IsDone (Create new_changelog_path text ∷ []) done left → Agree (after_all done u) u
part-made text done left u h = by (done-in-part (Create new_changelog_path text) done left h)
  where
    by : IsInPart (Create new_changelog_path text) done → Agree (after_all done u) u
    by (inl e) = subst (λ (d : List Op). Agree (after_all d u) u) (sym e) (agree-refl u)
    by (inr (piece, rest, (front, back, e, f, g), leaves)) = subst (λ (v : Tree). Agree v u) (sym (leaves u ∙ ap (λ op. apply op u) f)) (agree-new u u (Some front) (agree-refl u))

-- ---- up to the publishing operation

module _ (u : Tree) (a b : List Op) (text : List ℕ) (first : touched new_changelog_path a ≡ false) (second : touched new_changelog_path b ≡ false) where
  abbrev made : Op
  made = Create new_changelog_path text

  -- all of it, and what it comes to
  pub whole-agree : Agree (after_all (a ++ made ∷ b) u) (after_all (a ++ b) u)
  whole-agree =
      subst (λ (v : Tree). Agree v (after_all (a ++ b) u)) (sym (after_all-append a (made ∷ b) u)) (subst (Agree (after_all (made ∷ b) (after_all a u))) (sym (after_all-append a b u))
      (agree-all b (apply made (after_all a u)) (after_all a u) (reads-touched new_changelog_path b second) (agree-new (after_all a u) (after_all a u) (Some text) (agree-refl (after_all a u)))))

  pub whole-made : after_all (a ++ made ∷ b) u new_changelog_path ≡ Some text
  whole-made = ap (λ (v : Tree). v new_changelog_path) (after_all-append a (made ∷ b) u) ∙ untouched b (apply made (after_all a u)) new_changelog_path second ∙ with_file-same (after_all a u) new_changelog_path (Some text)

  pub before-comes : (done left : List Op) → IsDone (a ++ made ∷ b) done left → ComesTo (a ++ b) u done
  before-comes done left h = elim (done-split a (made ∷ b) done left h) [
    | inl (l, k) ↦ record { other = done; rest = l ++ b; is_done = done-behind a b done l k; agree = agree-refl (after_all done u) }
    | inr (x, y, e, k, m) ↦ subst (ComesTo (a ++ b) u) (sym e) (behind x y k (done-split (made ∷ []) b y left m))
  ]
    where
      behind : (x y : List Op) → IsDone a x [] → ((l : List Op) × IsDone (made ∷ []) y l) ⊎ ((v : List Op) × (w : List Op) × (y ≡ v ++ w) × IsDone (made ∷ []) v [] × IsDone b w left) → ComesTo (a ++ b) u (x ++ y)
      behind x y k (inl (l, m)) = record {
        other = x;
        rest = b;
        is_done = done-behind a b x [] k;
        agree = subst (λ (v : Tree). Agree v (after_all x u)) (sym (after_all-append x y u)) (part-made text y l (after_all x u) m);
      }
      behind x y k (inr (v, w, e, m, n)) = record {
        other = x ++ w;
        rest = left;
        is_done = done-append (a ++ b) x b w left (done-behind a b x [] k) n;
        agree = subst (λ (z : Tree). Agree z (after_all (x ++ w) u)) (sym (ap (λ l. after_all (x ++ l) u) e ∙ after_all-append x (v ++ w) u ∙ after_all-append v w (after_all x u)))
            (subst (Agree (after_all w (after_all v (after_all x u)))) (sym (after_all-append x w u))
            (part-agree b w left (after_all v (after_all x u)) (after_all x u) n second (part-made text v [] (after_all x u) m)));
      }

-- ---- the whole

module _ (u : Tree) (a b c : List Op) (entry : List ℕ) (first : touched new_changelog_path a ≡ false) (second : touched new_changelog_path b ≡ false) (third : touched new_changelog_path c ≡ false)
    (still : touched changelog_index (a ++ b) ≡ false) where
  abbrev text : List ℕ
  text = bytes_at u changelog_index ++ entry

  abbrev real : List Op
  real = a ++ Create new_changelog_path text ∷ b

  abbrev rename : Op
  rename = Rename new_changelog_path changelog_index

  abbrev append : Op
  append = Append changelog_index entry

  published : Agree (apply rename (after_all real u)) (apply append (after_all (a ++ b) u))
  published =
      agree-published (after_all real u) (after_all (a ++ b) u) entry
      (whole-made u a b text first second ∙ ap (λ l. Some (l ++ entry)) (sym (bytes-same u (after_all (a ++ b) u) changelog_index (untouched (a ++ b) u changelog_index still))))
      (whole-agree u a b text first second)

  pub import-comes : (done left : List Op) → IsDone (real ++ rename ∷ c) done left → ComesTo ((a ++ b) ++ append ∷ c) u done
  import-comes done left h = elim (done-split real (rename ∷ c) done left h) [
    | inl (l, k) ↦ part (before-comes u a b text first second done l k)
    | inr (x, y, e, k, m) ↦ subst (ComesTo ((a ++ b) ++ append ∷ c) u) (sym e) (behind x y (after-done real x [] u k) (done-split (rename ∷ []) c y left m))
  ]
    where
      part : ComesTo (a ++ b) u done → ComesTo ((a ++ b) ++ append ∷ c) u done
      part d = record { other = d.other; rest = d.rest ++ append ∷ c; is_done = done-behind (a ++ b) (append ∷ c) d.other d.rest d.is_done; agree = d.agree }

      all_before : IsDone ((a ++ b) ++ append ∷ c) (a ++ b) (append ∷ c)
      all_before = done-behind (a ++ b) (append ∷ c) (a ++ b) [] (all-done (a ++ b))

      -- the tree behind the parts of the rest
      tree-of : (x y : List Op) → after_all x u ≡ after_all real u → after_all (x ++ y) u ≡ after_all y (after_all real u)
      tree-of x y e = after_all-append x y u ∙ ap (after_all y) e

      with-append : (w more : List Op) → IsDone c w more → IsDone ((a ++ b) ++ append ∷ c) ((a ++ b) ++ append ∷ w) more
      with-append w more n = done-append ((a ++ b) ++ append ∷ c) (a ++ b) (append ∷ c) (append ∷ w) more all_before (c, ([], piece-whole append, refl), n)

      behind : (x y : List Op) → after_all x u ≡ after_all real u → ((l : List Op) × IsDone (rename ∷ []) y l) ⊎ ((v : List Op) × (w : List Op) × (y ≡ v ++ w) × IsDone (rename ∷ []) v [] × IsDone c w left) → ComesTo ((a ++ b) ++ append ∷ c) u (x ++ y)
      behind x y e (inl (l, m)) = elim (rename-all new_changelog_path changelog_index y l m) [
        | inl none ↦ record {
          other = a ++ b;
          rest = append ∷ c;
          is_done = all_before;
          agree = subst (λ (v : Tree). Agree v (after_all (a ++ b) u)) (sym (tree-of x y e ∙ ap (λ d. after_all d (after_all real u)) none)) (whole-agree u a b text first second);
        }
        | inr all ↦ record {
          other = (a ++ b) ++ append ∷ [];
          rest = c;
          is_done = with-append [] c refl;
          agree = subst (λ (v : Tree). Agree v (after_all ((a ++ b) ++ append ∷ []) u)) (sym (tree-of x y e ∙ ap (λ d. after_all d (after_all real u)) all))
              (subst (Agree (apply rename (after_all real u))) (sym (after_all-append (a ++ b) (append ∷ []) u)) published);
        }
      ]
      behind x y e (inr (v, w, f, m, n)) = record {
        other = (a ++ b) ++ append ∷ w;
        rest = left;
        is_done = with-append w left n;
        agree = subst (λ (z : Tree). Agree z (after_all ((a ++ b) ++ append ∷ w) u))
            (sym (tree-of x y e ∙ ap (λ d. after_all d (after_all real u)) f ∙ after_all-append v w (after_all real u) ∙ ap (after_all w) (after-done (rename ∷ []) v [] (after_all real u) m)))
            (subst (Agree (after_all w (apply rename (after_all real u)))) (sym (after_all-append (a ++ b) (append ∷ w) u)) (part-agree c w left (apply rename (after_all real u)) (apply append (after_all (a ++ b) u)) n third published));
      }
