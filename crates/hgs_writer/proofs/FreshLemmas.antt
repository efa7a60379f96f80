-- A list of revisions with one more, whose node is new, has no node twice.
use Rattle.std.proofs.Common.{◌≡◌, ◌≤◌, List, [], ◌∷◌, ◌++◌, ℕ, Bool, true, false, length, drop, not, refl, sym, ◌∙◌, ap, subst, arith}
use Rattle.std.specs.Prelude.{nat_lt}
use Rattle.std.specs.List.{AllByRecursion}
use Rattle.std.proofs.lemmas.Bool.Decides.{nat_tests}
use Rattle.hgs_bytes.specs.Bytes.{among, same}
use Rattle.hgs_files.specs.Tree.{Tree}
use Rattle.hgs_index.specs.Node.{null_node}
use Rattle.hgs_index.specs.Revision.{Revision, node_after, nodes}
use Rattle.hgs_index.specs.Revlog.{Holds, all_different}
use Rattle.hgs_index.specs.Theorems.RevisionLemmas.{nodes_from-append}
use Rattle.hgs_ops.specs.Unhindered.{AreNewRevisions}
use Rattle.hgs_ops.specs.Theorems.GrowLemmas.{drop-front}
use Rattle.hgs_ops.specs.Theorems.Touch.{and-both, and-left, and-right, or-both, or-left, or-right, same-sym}
use Rattle.hgs_revlog.specs.Load.{most_text}
use Rattle.hgs_commit.specs.Texts.{OfLog}
use Rattle.hgs_writer.specs.Logs.{IsLogOf}

not-true : (b : Bool) → not b ≡ true → b ≡ false
not-true true e = sym e
not-true false e = refl

among-last : (x y : List ℕ) (xs : List (List ℕ)) → among x xs ≡ false → same x y ≡ false → among x (xs ++ y ∷ []) ≡ false
among-last x y [] none other = or-both (same x y) false other refl
among-last x y (z ∷ xs) none other = or-both (same x z) (among x (xs ++ y ∷ [])) (or-left _ _ none) (among-last x y xs (or-right (same x z) _ none) other)

different-last : (xs : List (List ℕ)) (y : List ℕ) → all_different xs ≡ true → among y xs ≡ false → all_different (xs ++ y ∷ []) ≡ true
different-last [] y d none = refl
different-last (x ∷ xs) y d none =
    and-both _ _ (ap not (among-last x y xs (not-true _ (and-left _ _ d)) (same-sym y x (or-left _ _ none))))
    (different-last xs y (and-right (not (among x xs)) _ d) (or-right (same y x) _ none))

pub drop-all : {A : Type 0} (xs : List A) → drop (length xs) xs ≡ []
drop-all [] = refl
drop-all (x ∷ xs) = drop-all xs

-- where no revision is new
pub fresh-held : (inline : Bool) (index data_bytes : List ℕ) (revisions : List Revision) → Holds inline index data_bytes revisions → AreNewRevisions revisions revisions
fresh-held inline index data_bytes revisions h = record {
  texts = subst (AllByRecursion (λ (x : Revision). length x.text ≤ most_text)) (sym (drop-all revisions)) tt;
  different = h.different;
  not_null = h.not_null;
}

no-null : (t : Tree) (f : OfLog) (revisions : List Revision) → IsLogOf t f revisions → among null_node (nodes revisions) ≡ false
no-null t f revisions is = ap (among null_node) (sym is.nodes_are) ∙ is.entries.not_null

pub fresh-same : (t : Tree) (f : OfLog) (revisions : List Revision) → IsLogOf t f revisions → AreNewRevisions revisions revisions
fresh-same t f revisions is = record {
  texts = subst (AllByRecursion (λ (x : Revision). length x.text ≤ most_text)) (sym (drop-all revisions)) tt;
  different = is.different;
  not_null = no-null t f revisions is;
}

small : (n : ℕ) → nat_lt most_text n ≡ false → n ≤ most_text
small n e = grind (arith, nat_tests)

-- where this one is
pub fresh-push : (t : Tree) (f : OfLog) (revisions : List Revision) (r : Revision) → IsLogOf t f revisions → nat_lt most_text (length r.text) ≡ false → among (node_after (nodes revisions) r) (nodes revisions) ≡ false
    → same null_node (node_after (nodes revisions) r) ≡ false → AreNewRevisions revisions (revisions ++ r ∷ [])
fresh-push t f revisions r is fits other some = record {
  texts = subst (AllByRecursion (λ (x : Revision). length x.text ≤ most_text)) (sym (drop-front revisions (r ∷ []))) (small (length r.text) fits, tt);
  different = ap all_different with_it ∙ different-last (nodes revisions) (node_after (nodes revisions) r) is.different other;
  not_null = ap (among null_node) with_it ∙ among-last null_node (node_after (nodes revisions) r) (nodes revisions) (no-null t f revisions is) some;
}
  where
    with_it : nodes (revisions ++ r ∷ []) ≡ nodes revisions ++ node_after (nodes revisions) r ∷ []
    with_it = nodes_from-append [] revisions (r ∷ [])
