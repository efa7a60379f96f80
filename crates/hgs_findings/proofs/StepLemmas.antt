-- One more changeset: what the history makes of it is what the files have.
use Rattle.std.proofs.Common.{◌≡◌, ◌⊎◌, ℕ, zero, suc, ◌<◌, ◌≤◌, List, [], ◌∷◌, ◌++◌, Bool, true, false, cond, length, take, map, refl, sym, ◌∙◌, ap, subst, inl, inr, arith}
use Rattle.std.specs.Prelude.{Option, Some, None, IfSome, option_map, unwrap_or, is_some, slice_get, ◌==◌, find, max}
use Rattle.std.specs.List.{AllByRecursion}
use Rattle.std.proofs.lemmas.List.{map-append, length-map, length-take-le}
use Rattle.std.proofs.lemmas.List.Quantifiers.{position-Some}
use Rattle.hgs_bytes.specs.Bytes.{same}
use Rattle.hgs_index.specs.declared.kinds.Flag.{Flag}
use Rattle.hgs_index.specs.Ancestor.{is_ancestor}
use Rattle.hgs_index.specs.FileText.{body_of, prefix_of}
use Rattle.hgs_index.specs.Theorems.FileTextLemmas.{unpacked-joins}
use Rattle.hgs_index.specs.Manifest.{Row}
use Rattle.hgs_index.specs.Node.{null_node}
use Rattle.hgs_index.specs.Revision.{Parents, Revision, nodes, standing, with_revision, with_revision_at, number_of}
use Rattle.hgs_model.specs.Repo.{Changeset, TreeFile, file_text}
use Rattle.hgs_model.specs.History.{History, placed_at, placed_file, text_at, node_at, parents_in, file_parents, file_parents_of, kept, kept_of, file_revision, rev_of_file, log_with_file}
use Rattle.hgs_model.specs.Theorems.CountLemmas.{IsSound, IsBelow, AreTwoBelow}
use Rattle.hgs_stands.specs.Theorems.ListedLemmas.{length-nodes}
use Rattle.hgs_findings.specs.Built.{above, IsOld, IsNew}
use Rattle.hgs_findings.specs.Namings.{Rule, Naming, FollowsRules}
use Rattle.hgs_findings.specs.Sight.{Sight, Seen, Use, unknown, absent, at, place, use_of_place, use_of_row, use_in, use_of, use_at, kept_or_made, rule_with, file_rule, naming_of, file_naming, manifest_rule, manifest_naming, tree_file, changeset_with}
use Rattle.hgs_findings.proofs.Basics.{same-eq, none-some, some-same, there}
use Rattle.hgs_findings.proofs.NamingLemmas.{above-push, made-step, kept-step}
use Rattle.hgs_findings.proofs.LogLemmas.{IsLog, again, fresh, one-more}
use Rattle.hgs_findings.proofs.SightLemmas.{IsRead, placed_seen, use_placed, parent-use, rev_of, told-placed, file-parents-front, text-take, kept-front, placed-some, manifest_number_of}

-- ---- one more revision of a list

pub text-got : (log : List Revision) (v : ℕ) (r : Revision) → slice_get log v ≡ Some r → r.text ≡ text_at log v
text-got [] v r e = none-some r e
text-got (x ∷ log) zero r e = ap (λ (y : Revision). y.text) (sym (some-same x x r e))
text-got (x ∷ log) (suc v) r e = text-got log v r e

pub record IsStep (log : List Revision) (front : List (Option Naming)) (n : Naming) (r : Revision) : Type 0 where
  pub number : number_of (take (above front) log) r.text r.parents ≡ n.rev
  pub list : with_revision (take (above front) log) r ≡ take (above (front ++ Some n ∷ [])) log

pub log-step : (log : List Revision) → IsLog log → (front : List (Option Naming)) (n : Naming) (r : Revision) → IsOld log front n r.parents ⊎ IsNew log front n r.parents → above front ≤ length log → r.text ≡ text_at log n.rev → r.link ≡ length front → IsStep log front n r
log-step log is front n r (inl old) le text link =
    let same_text : r.text ≡ old.r.text = text ∙ sym (text-got log n.rev old.r old.there) in
    let found : standing (take (above front) log) r.text r.parents ≡ Some n.rev = ap (λ t. standing (take (above front) log) t r.parents) same_text ∙ again log is (above front) n.rev old.r r.parents old.below le old.there old.parents in
    let count : above front ≡ above (front ++ Some n ∷ []) = omega (arith, above-push front n, old.below) in
    record {
      number = ap (λ o. unwrap_or o (length (take (above front) log))) found;
      list = ap (λ o. with_revision_at o (take (above front) log) r) found ∙ ap (λ k. take k log) count;
    }
log-step log is front n r (inr new) le text link =
    let at_above : slice_get log (above front) ≡ Some new.r = ap (slice_get log) (sym new.is) ∙ new.there in
    let same_text : r.text ≡ new.r.text = text ∙ sym (text-got log n.rev new.r new.there) in
    let same_link : r.link ≡ new.r.link = link ∙ sym new.link in
    let same_parents : r.parents ≡ new.r.parents = sym new.parents in
    let one : r ≡ new.r = λ i. record { text = same_text i; parents = same_parents i; link = same_link i } in
    let found : standing (take (above front) log) r.text r.parents ≡ None = ap (λ (x : Revision). standing (take (above front) log) x.text x.parents) one ∙ fresh log is (above front) new.r at_above in
    let count : suc (above front) ≡ above (front ++ Some n ∷ []) = omega (arith, above-push front n, new.is) in
    record {
      number = ap (λ o. unwrap_or o (length (take (above front) log))) found ∙ length-take-le (above front) log le ∙ sym new.is;
      list = ap (λ o. with_revision_at o (take (above front) log) r) found ∙ ap (λ x. take (above front) log ++ x ∷ []) one ∙ one-more log (above front) new.r at_above ∙ ap (λ k. take k log) count;
    }

-- ---- the numbers that are named are of revisions

pub place-below : (log : List Revision) (node : List ℕ) (v : ℕ) → place log node ≡ Some v → v < length log
place-below log node v e = let p = position-Some (same node) (nodes log) v null_node e in omega (arith, p.0, length-nodes log)

pub place-node : (log : List Revision) (node : List ℕ) (v : ℕ) → place log node ≡ Some v → node_at log v ≡ node
place-node log node v e = let p = position-Some (same node) (nodes log) v null_node e in sym (same-eq node (node_at log v) p.1)

abbrev IsUseBelow : ℕ → Use → Type 0
IsUseBelow n unknown = Unit {0}
IsUseBelow n absent = Unit {0}
IsUseBelow n (at rev flag) = rev < n

use-below : (log : List Revision) (path : List ℕ) (rows : Option (List Row)) → IsUseBelow (length log) (use_in log path rows)
use-below log path None = tt
use-below log path (Some rows) = of_row (find (λ (r : Row). same r.path path) rows)
  where
    of_place : (flag : Flag) (node : List ℕ) (o : Option ℕ) → place log node ≡ o → IsUseBelow (length log) (use_of_place flag o)
    of_place flag node None e = tt
    of_place flag node (Some v) e = place-below log node v e

    of_row : (o : Option Row) → IsUseBelow (length log) (use_of_row log o)
    of_row None = tt
    of_row (Some row) = of_place row.flag row.node (place log row.node) refl

pub file-inside : (s : Sight) (path : List ℕ) (all xs : List Seen) → above (map (file_naming s path all) xs) ≤ length (s.filelog path)
file-inside s path all [] = omega arith
file-inside s path all (c ∷ xs) = by (use_of s path c) (use-below (s.filelog path) path c.rows) (file_rule (s.filelog path) (use_at s path all c.revision.parents.0) (use_at s path all c.revision.parents.1)) (file-inside s path all xs)
  where
    by : (u : Use) → IsUseBelow (length (s.filelog path)) u → (rule : ℕ → Rule) → above (map (file_naming s path all) xs) ≤ length (s.filelog path) → above (naming_of u rule ∷ map (file_naming s path all) xs) ≤ length (s.filelog path)
    by unknown b rule rec = rec
    by absent b rule rec = rec
    by (at rev flag) b rule rec = omega (arith, b, rec)

pub manifest-inside : (s : Sight) (all xs : List Seen) → AllByRecursion (IsRead s) xs → above (map (manifest_naming all) xs) ≤ length s.manifest
manifest-inside s all [] is = omega arith
manifest-inside s all (c ∷ xs) is =
    subst (λ o. above (option_map (λ m. record { rev = m; rule = manifest_rule all c.revision.parents }) o ∷ map (manifest_naming all) xs) ≤ length s.manifest) (sym is.0.manifest)
    (omega (arith, place-below s.manifest is.0.v.manifest is.0.m is.0.placed, manifest-inside s all xs is.1))

two-below : (log : List Parents) (a b : Option ℕ) (n : ℕ) → IsBelow a n → IsBelow b n → AreTwoBelow (file_parents_of log a b) n
two-below log None b n p q = record { first = q; second = tt }
two-below log (Some a) None n p q = record { first = p; second = tt }
two-below log (Some a) (Some b) n p q = by (a == b) (is_ancestor log a b) (is_ancestor log b a)
  where
    by : (x y z : Bool) → AreTwoBelow (cond x (Some a, None) (cond y (Some b, None) (cond z (Some a, None) (Some a, Some b)))) n
    by true y z = record { first = p; second = tt }
    by false true z = record { first = q; second = tt }
    by false false true = record { first = p; second = tt }
    by false false false = record { first = p; second = q }

-- ---- after the first changesets

pub record IsReplayed (s : Sight) (all front : List Seen) (h : History) : Type 0 where
  pub changelog : h.changelog ≡ take (length front) s.changelog
  pub manifest : h.manifest ≡ take (above (map (manifest_naming all) front)) s.manifest
  pub filelogs : (path : List ℕ) → h.filelog path ≡ take (above (map (file_naming s path all) front)) (s.filelog path)
  pub placed : h.placed ≡ map (placed_seen s) front
  pub manifest_of : h.manifest_of ≡ map manifest_number_of front
  pub sound : IsSound h

-- ---- a file of the next changeset

-- What the history makes of a file: the revision that its row names.
pub record IsFileStep (s : Sight) (all front : List Seen) (c : Seen) (h : History) (d : Changeset) (path : List ℕ) (f : TreeFile) (v : ℕ) : Type 0 where
  pub number : rev_of_file h d f ≡ v
  pub list : log_with_file h d (Some f) (h.filelog path) ≡ take (above (map (file_naming s path all) (front ++ c ∷ []))) (s.filelog path)
  pub below : v < above (map (file_naming s path all) (front ++ c ∷ []))
  pub prefix : IfSome (kept h d.parents f.path f.body) (λ rev. f.prefix ≡ prefix_of (text_at (h.filelog f.path) rev))
  pub rule : file_rule (s.filelog path) (use_at s path all c.revision.parents.0) (use_at s path all c.revision.parents.1) v ≡ kept_or_made (kept h d.parents f.path f.body) (file_parents h d.parents f.path)

module _ (s : Sight) (all front more : List Seen) (c : Seen) (whole : all ≡ front ++ c ∷ more) (before : AllByRecursion (IsRead s) front) (is : IsRead s c) (h : History) (state : IsReplayed s all front h)
    (first : IfSome c.revision.parents.0 (λ q. q < length front)) (second : IfSome c.revision.parents.1 (λ q. q < length front)) where
  abbrev pub next : Changeset
  next = changeset_with s c.revision.parents is.v is.rows

  pub parent-uses : (path : List ℕ) (o : Option ℕ) → IfSome o (λ q. q < length front) → use_at s path all o ≡ use_placed (placed_file (placed_at h o) path)
  parent-uses path o lt = ap (λ l. use_at s path l o) whole ∙ parent-use s h path front (c ∷ more) o lt before state.placed

  -- a row that is found by its path, with the number of its revision
  module _ (row : Row) (found : find (λ (r : Row). same r.path row.path) is.rows ≡ Some row) (v : ℕ) (placed : place (s.filelog row.path) row.node ≡ Some v) (log : IsLog (s.filelog row.path))
      (rules : FollowsRules (s.filelog row.path) (map (file_naming s row.path all) all)) where
    abbrev count : ℕ
    count = above (map (file_naming s row.path all) front)

    abbrev a : Option ℕ
    a = rev_of (placed_file (placed_at h c.revision.parents.0) row.path)

    abbrev b : Option ℕ
    b = rev_of (placed_file (placed_at h c.revision.parents.1) row.path)

    abbrev p : Parents
    p = file_parents_of (parents_in (s.filelog row.path)) a b

    fits : count ≤ length (s.filelog row.path)
    fits = file-inside s row.path all front

    log_is : h.filelog row.path ≡ take count (s.filelog row.path)
    log_is = state.filelogs row.path

    shorter : length (h.filelog row.path) ≡ count
    shorter = ap length log_is ∙ length-take-le count (s.filelog row.path) fits

    a-below : IsBelow a count
    a-below = subst (IsBelow a) shorter (placed-some h c.revision.parents.0 row.path state.sound)

    b-below : IsBelow b count
    b-below = subst (IsBelow b) shorter (placed-some h c.revision.parents.1 row.path state.sound)

    parents_are : file_parents h c.revision.parents row.path ≡ p
    parents_are = ap (λ l. file_parents_of (parents_in l) a b) log_is ∙ file-parents-front (s.filelog row.path) count a b a-below b-below

    p-below : AreTwoBelow p count
    p-below = two-below (parents_in (s.filelog row.path)) a b count a-below b-below

    rule_is : file_rule (s.filelog row.path) (use_at s row.path all c.revision.parents.0) (use_at s row.path all c.revision.parents.1) v ≡ rule_with (s.filelog row.path) p v
    rule_is =
        ap (λ u. file_rule (s.filelog row.path) u (use_at s row.path all c.revision.parents.1) v) (parent-uses row.path c.revision.parents.0 first)
        ∙ ap (λ u. file_rule (s.filelog row.path) (use_placed (placed_file (placed_at h c.revision.parents.0) row.path)) u v) (parent-uses row.path c.revision.parents.1 second)
        ∙ told-placed (placed_file (placed_at h c.revision.parents.0) row.path) (placed_file (placed_at h c.revision.parents.1) row.path) (λ x y. rule_with (s.filelog row.path) (file_parents_of (parents_in (s.filelog row.path)) x y) v)

    abbrev n : Naming
    n = record { rev = v; rule = rule_with (s.filelog row.path) p v }

    own-use : use_of s row.path c ≡ at v row.flag
    own-use = ap (use_in (s.filelog row.path) row.path) is.rows_are ∙ ap (use_of_row (s.filelog row.path)) found ∙ ap (use_of_place row.flag) placed

    naming_is : file_naming s row.path all c ≡ Some n
    naming_is = ap (λ u. naming_of u (file_rule (s.filelog row.path) (use_at s row.path all c.revision.parents.0) (use_at s row.path all c.revision.parents.1))) own-use ∙ ap (λ r. Some (record { rev = v; rule = r })) rule_is

    namings_are : map (file_naming s row.path all) all ≡ map (file_naming s row.path all) front ++ Some n ∷ map (file_naming s row.path all) more
    namings_are = ap (map (file_naming s row.path all)) whole ∙ map-append (file_naming s row.path all) front (c ∷ more) ∙ ap (λ x. map (file_naming s row.path all) front ++ x ∷ map (file_naming s row.path all) more) naming_is

    with_it : map (file_naming s row.path all) (front ++ c ∷ []) ≡ map (file_naming s row.path all) front ++ Some n ∷ []
    with_it = map-append (file_naming s row.path all) front (c ∷ []) ∙ ap (λ x. map (file_naming s row.path all) front ++ x ∷ []) naming_is

    abbrev f : TreeFile
    f = tree_file s row

    number_is : unwrap_or (place (s.filelog row.path) row.node) 0 ≡ v
    number_is = ap (λ o. unwrap_or o 0) placed

    body_is : f.body ≡ body_of (text_at (s.filelog row.path) v)
    body_is = ap (λ k. body_of (text_at (s.filelog row.path) k)) number_is

    text_is : file_text f ≡ text_at (s.filelog row.path) v
    text_is = unpacked-joins (text_at (s.filelog row.path) (unwrap_or (place (s.filelog row.path) row.node) 0)) ∙ ap (text_at (s.filelog row.path)) number_is

    kept_is : kept h c.revision.parents row.path f.body ≡ kept_of (s.filelog row.path) p.0 p.1 (body_of (text_at (s.filelog row.path) v))
    kept_is =
        ap (λ (q : Parents). kept_of (h.filelog row.path) q.0 q.1 f.body) parents_are ∙ ap (λ l. kept_of l p.0 p.1 f.body) log_is
        ∙ kept-front (s.filelog row.path) count p.0 p.1 f.body p-below.first ∙ ap (kept_of (s.filelog row.path) p.0 p.1) body_is

    count-then : above (map (file_naming s row.path all) (front ++ c ∷ [])) ≡ max count (suc v)
    count-then = ap above with_it ∙ above-push (map (file_naming s row.path all) front) n

    links_are : length h.placed ≡ length (map (file_naming s row.path all) front)
    links_are = ap length state.placed ∙ length-map front (placed_seen s) ∙ sym (length-map front (file_naming s row.path all))

    here : (r : Revision) × (slice_get (s.filelog row.path) v ≡ Some r) × (r.text ≡ text_at (s.filelog row.path) v)
    here = there (s.filelog row.path) v (place-below (s.filelog row.path) row.node v placed)

    kept-less : (x y : Option ℕ) (body : List ℕ) (k : ℕ) → IsBelow x count → kept_of (s.filelog row.path) x y body ≡ Some k → k < count
    kept-less None y body k lt e = none-some k e
    kept-less (Some x) (Some y) body k lt e = none-some k e
    kept-less (Some x) None body k lt e = by (same (body_of (text_at (s.filelog row.path) x)) body) e
      where
        by : (z : Bool) → cond z (Some x) None ≡ Some k → k < count
        by true t = subst (λ j. j < count) (some-same 0 x k t) lt
        by false t = none-some k t

    rules-same : file_rule (s.filelog row.path) (use_at s row.path all c.revision.parents.0) (use_at s row.path all c.revision.parents.1) v ≡ kept_or_made (kept h c.revision.parents row.path f.body) (file_parents h c.revision.parents row.path)
    rules-same = rule_is ∙ ap (λ o. kept_or_made o p) (sym kept_is) ∙ ap (kept_or_made (kept h c.revision.parents row.path f.body)) (sym parents_are)

    pub file-step : IsFileStep s all front c h next row.path f v
    file-step = by (kept_of (s.filelog row.path) p.0 p.1 (body_of (text_at (s.filelog row.path) v))) refl
      where
        by : (o : Option ℕ) → kept_of (s.filelog row.path) p.0 p.1 (body_of (text_at (s.filelog row.path) v)) ≡ o → IsFileStep s all front c h next row.path f v
        by (Some k) e =
            let kept_some : kept h c.revision.parents row.path f.body ≡ Some k = kept_is ∙ e in
            let is_v : k ≡ v = kept-step (s.filelog row.path) (map (file_naming s row.path all) all) rules (map (file_naming s row.path all) front) (map (file_naming s row.path all) more) n k here.0 here.1 namings_are (ap (λ o. kept_or_made o p) e) in
            let less : k < count = kept-less p.0 p.1 (body_of (text_at (s.filelog row.path) v)) k p-below.first e in
            let same_count : count ≡ above (map (file_naming s row.path all) (front ++ c ∷ [])) = omega (arith, count-then, is_v, less) in
            let prefix : f.prefix ≡ prefix_of (text_at (h.filelog row.path) k) =
            ap (λ j. prefix_of (text_at (s.filelog row.path) j)) (number_is ∙ sym is_v) ∙ ap prefix_of (sym (ap (λ l. text_at l k) log_is ∙ text-take (s.filelog row.path) count k less)) in
            record {
              number = ap (λ o. unwrap_or o (number_of (h.filelog row.path) (file_text f) (file_parents h c.revision.parents row.path))) kept_some ∙ is_v;
              list = ap (λ o. cond (is_some o) (h.filelog row.path) (with_revision (h.filelog row.path) (file_revision h next f))) kept_some ∙ log_is ∙ ap (λ j. take j (s.filelog row.path)) same_count;
              below = omega (arith, is_v, less, same_count);
              prefix = subst (λ o. IfSome o (λ rev. f.prefix ≡ prefix_of (text_at (h.filelog row.path) rev))) (sym kept_some) prefix;
              rule = rules-same;
            }
        by None e =
            let kept_none : kept h c.revision.parents row.path f.body ≡ None = kept_is ∙ e in
            let inside : (rev : ℕ) → rev < above (map (file_naming s row.path all) all) → rev < length (s.filelog row.path) = λ rev lt. omega (arith, lt, file-inside s row.path all all) in
            let made = made-step (s.filelog row.path) (map (file_naming s row.path all) all) rules inside (map (file_naming s row.path all) front) (map (file_naming s row.path all) more) n p namings_are (ap (λ o. kept_or_made o p) e) in
            let step = log-step (s.filelog row.path) log (map (file_naming s row.path all) front) n (file_revision h next f)
            (subst (λ (q : Parents). IsOld (s.filelog row.path) (map (file_naming s row.path all) front) n q ⊎ IsNew (s.filelog row.path) (map (file_naming s row.path all) front) n q) (sym parents_are) made) fits text_is links_are in
            record {
              number = ap (λ o. unwrap_or o (number_of (h.filelog row.path) (file_text f) (file_parents h c.revision.parents row.path))) kept_none ∙ ap (λ l. number_of l (file_text f) (file_parents h c.revision.parents row.path)) log_is ∙ step.number;
              list = ap (λ o. cond (is_some o) (h.filelog row.path) (with_revision (h.filelog row.path) (file_revision h next f))) kept_none ∙ ap (λ l. with_revision l (file_revision h next f)) log_is ∙ step.list ∙ ap (λ l. take (above l) (s.filelog row.path)) (sym with_it);
              below = omega (arith, count-then);
              prefix = subst (λ o. IfSome o (λ rev. f.prefix ≡ prefix_of (text_at (h.filelog row.path) rev))) (sym kept_none) tt;
              rule = rules-same;
            }
