-- The entries of a map as bookmarks.
use Rattle.std.proofs.Common.{◌≡◌, ℕ, Bool, true, false, List, [], ◌∷◌, map, Option, Some, None, refl, sym, ◌∙◌, ap, cond}
use Rattle.std.specs.Prelude.{Vec, is_some, option_map}
use Rattle.std.specs.declared.cmp.Ordering.{Ordering}
use Rattle.std.specs.declared.cmp.Ordering.TheVariants.{Less, Equal, Greater}
use Rattle.std.specs.Ordering.{nat_cmp, is_eq, match_ordering}
use Rattle.std.specs.Cmp.Lexicographic.{slice_cmp, texts_ties}
use Rattle.std.specs.BTreeMap.{insert_entry}
use Rattle.std.specs.Map.{lookup, remove_entry}
use Rattle.hgs_bytes.specs.Theorems.ByteLemmas.{same-eq}
use Rattle.hgs_index.specs.declared.node.Node.{Node}
use Rattle.hgs_marks.specs.Bookmarks.{Mark, node_of, with_mark, without}
use Rattle.hgs_marks.specs.Held.{mark_in}

found-step : (t : Bool) (n : Node) (o : Option Node) (rest : Option (List ℕ)) → option_map (λ m. m.0) o ≡ rest → option_map (λ m. m.0) (cond t (Some n) o) ≡ cond t (Some n.0) rest
found-step true n o rest e = refl
found-step false n o rest e = e

pub found : {Y : Type 0} (name : List ℕ) (es : List (Vec ℕ Y × Node)) → option_map (λ n. n.0) (lookup (λ k. is_eq (slice_cmp nat_cmp name k.items)) es) ≡ node_of name (map mark_in es)
found name [] = refl
found name (e ∷ es) =
    found-step (is_eq (slice_cmp nat_cmp name e.0.items)) e.1 (lookup (λ k. is_eq (slice_cmp nat_cmp name k.items)) es) (node_of name (map mark_in es)) (found name es)
    ∙ ap (λ b. cond b (Some e.1.0) (node_of name (map mark_in es))) (sym (texts_ties name e.0.items))

placed-step : {Y : Type 0} (o : Ordering) (es put : List (Vec ℕ Y × Node)) (e : Vec ℕ Y × Node) (k : Vec ℕ Y) (v : Node) (rest : List Mark) → slice_cmp nat_cmp k.items e.0.items ≡ o → map mark_in put ≡ rest →
    map mark_in (match_ordering o ((k, v) ∷ e ∷ es) ((e.0, v) ∷ es) (e ∷ put)) ≡ match_ordering o (mark_in (k, v) ∷ mark_in e ∷ map mark_in es) (mark_in (k, v) ∷ map mark_in es) (mark_in e ∷ rest)
placed-step Less es put e k v rest is h = refl
placed-step Equal es put e k v rest is h =
    let name : k.items ≡ e.0.items = same-eq k.items e.0.items (texts_ties k.items e.0.items ∙ ap is_eq is) in
    ap (λ n. record { name = n; node = v.0 } ∷ map mark_in es) (sym name)
placed-step Greater es put e k v rest is h = ap (λ l. mark_in e ∷ l) h

pub placed : {Y : Type 0} (es : List (Vec ℕ Y × Node)) (k : Vec ℕ Y) (v : Node) → map mark_in (insert_entry (λ x y. slice_cmp nat_cmp x.items y.items) es k v) ≡ with_mark (map mark_in es) (mark_in (k, v))
placed [] k v = refl
placed (e ∷ es) k v =
    placed-step (slice_cmp nat_cmp k.items e.0.items) es (insert_entry (λ x y. slice_cmp nat_cmp x.items y.items) es k v) e k v (with_mark (map mark_in es) (mark_in (k, v))) refl (placed es k v)

removed-step : {Y : Type 0} (t : Bool) (es left : List (Vec ℕ Y × Node)) (e : Vec ℕ Y × Node) (rest : List Mark) → map mark_in left ≡ rest → map mark_in (cond t es (e ∷ left)) ≡ cond t (map mark_in es) (mark_in e ∷ rest)
removed-step true es left e rest h = refl
removed-step false es left e rest h = ap (λ l. mark_in e ∷ l) h

pub removed : {Y : Type 0} (name : List ℕ) (es : List (Vec ℕ Y × Node)) → map mark_in (remove_entry (λ k. is_eq (slice_cmp nat_cmp name k.items)) es) ≡ without name (map mark_in es)
removed name [] = refl
removed name (e ∷ es) =
    removed-step (is_eq (slice_cmp nat_cmp name e.0.items)) es (remove_entry (λ k. is_eq (slice_cmp nat_cmp name k.items)) es) e (without name (map mark_in es)) (removed name es)
    ∙ ap (λ b. cond b (map mark_in es) (mark_in e ∷ without name (map mark_in es))) (sym (texts_ties name e.0.items))

-- ---- what stands

some_alike : (o : Option Node) → is_some o ≡ is_some (option_map (λ n. n.0) o)
some_alike None = refl
some_alike (Some n) = refl

pub stood : {Y : Type 0} (name : List ℕ) (es : List (Vec ℕ Y × Node)) → is_some (lookup (λ k. is_eq (slice_cmp nat_cmp name k.items)) es) ≡ is_some (node_of name (map mark_in es))
stood name es = some_alike (lookup (λ k. is_eq (slice_cmp nat_cmp name k.items)) es) ∙ ap is_some (found name es)
