-- The parts of a commit's step put into a tree what the commit lays.
use Rattle.std.proofs.Common.{◌≡◌, List, [], ◌∷◌, ◌++◌, Bool, true, false, length, map, flat_map, refl, sym, ◌∙◌, ap, arith, append-nil, append_assoc}
use Rattle.std.specs.Prelude.{is_some, if◌then◌else◌}
use Rattle.std.specs.List.{list_all}
use Rattle.std.proofs.lemmas.List.{length-map, map-append}
use Rattle.hgs_files.specs.declared.op.Op.{Op}
use Rattle.hgs_files.specs.declared.op.Op.TheVariants as ops
use Rattle.hgs_files.specs.Tree.{Tree}
use Rattle.hgs_model.specs.Repo.{Repo}
use Rattle.hgs_model.specs.declared.command.Command.TheVariants.{Commit}
use Rattle.hgs_model.specs.declared.command.NewChange.{NewChange}
use Rattle.hgs_ops.specs.Growth.{growth, new_changelog_entry}
use Rattle.hgs_ops.specs.Laid.{laid, put_whole}
use Rattle.hgs_ops.specs.Operations.{roots_renamed}
use Rattle.hgs_ops.specs.Replaced.{Replacement, new_bookmarks, new_dirstate, new_rename, new_roots, only_if, roots_change}
use Rattle.hgs_ops.specs.Theorems.CommitLemmas.{growth-appends}
use Rattle.hgs_ops.specs.Theorems.CommitTree.{is_append}
use Rattle.hgs_stands.specs.Places.{changelog_index}
use Rattle.hgs_transaction.specs.OfTransaction.{ArePartsOf}
use Rattle.hgs_transaction.specs.Parts.{change_op, replacement_of, replacings_of}
use Rattle.hgs_transaction.specs.declared.parts.Change.{Change}
use Rattle.hgs_transaction.specs.declared.parts.Change.TheVariants.{Append, MakeIndex, RenameIndex, Replace}
use Rattle.hgs_transaction.specs.declared.parts.Parts.{Parts}
use Rattle.hgs_transaction.specs.declared.parts.Replacing.{Replacing}
use Rattle.hgs_writer.specs.Joined.{laying, lays}
use Rattle.hgs_writer.proofs.Basics.{never}
use Rattle.hgs_writer.proofs.PartsLemmas.{none-replaced, replacings-back, replacings-join}

-- ---- lists

first-is : {B : Type 0} (x y : B) (xs ys : List B) → x ∷ xs ≡ y ∷ ys → x ≡ y
first-is x y xs ys e = cc

behind-is : {B : Type 0} (x y : B) (xs ys : List B) → x ∷ xs ≡ y ∷ ys → xs ≡ ys
behind-is x y xs ys e = cc

pub split-map : {A B : Type 0} (f : A → B) (zs : List A) (xs ys : List B) → map f zs ≡ xs ++ ys → (cs : List A) × (ds : List A) × (zs ≡ cs ++ ds) × (map f cs ≡ xs) × (map f ds ≡ ys)
split-map f zs [] ys e = ([], zs, refl, refl, e)
split-map f [] (x ∷ xs) ys e = cc
split-map f (z ∷ zs) (x ∷ xs) ys e =
    let rest = split-map f zs xs ys (behind-is (f z) x (map f zs) (xs ++ ys) e) in
    let same = first-is (f z) x (map f zs) (xs ++ ys) e in
    (z ∷ rest.0, rest.1, ap (λ l. z ∷ l) rest.2, (let more = rest.3 in λ i. same i ∷ more i), rest.4)

pub laying-join : (xs ys : List Change) → flat_map laying (xs ++ ys) ≡ flat_map laying xs ++ flat_map laying ys
laying-join [] ys = refl
laying-join (Append a ∷ xs) ys = ap (λ l. ops.Append a.path a.bytes ∷ l) (laying-join xs ys)
laying-join (Replace x ∷ xs) ys = ap (λ l. put_whole (replacement_of x) ∷ l) (laying-join xs ys)
laying-join (MakeIndex bytes ∷ xs) ys = laying-join xs ys
laying-join (RenameIndex before ∷ xs) ys = laying-join xs ys

-- appends put what they append
appends-laid : (xs : List Change) → list_all is_append (map change_op xs) ≡ true → flat_map laying xs ≡ map change_op xs
appends-laid [] e = refl
appends-laid (Append a ∷ xs) e = ap (λ l. ops.Append a.path a.bytes ∷ l) (appends-laid xs e)
appends-laid (Replace x ∷ xs) e = never (sym e)
appends-laid (MakeIndex bytes ∷ xs) e = never (sym e)
appends-laid (RenameIndex before ∷ xs) e = never (sym e)

-- files that are replaced behind the publishing operation are put whole
pub replaced-laid : (zs : List Replacing) → flat_map laying (map (λ x. Replace x) zs) ≡ map put_whole (map replacement_of zs)
replaced-laid [] = refl
replaced-laid (z ∷ zs) = ap (λ l. put_whole (replacement_of z) ∷ l) (replaced-laid zs)

-- ---- what is replaced

abbrev Tails : Bool → Bool → Replacement → Replacement → Replacement → List Change → List Replacing → Type 0
Tails rc bk a b c ys zs = (flat_map laying ys ≡ map put_whole (only_if rc a)) × (map replacement_of zs ≡ b ∷ only_if bk c)

counted : (bk : Bool) (a b c : Replacement) (zs : List Replacing) → length (map (λ (x : Replacing). new_rename (replacement_of x)) zs) ≡ length (new_rename b ∷ only_if bk (new_rename c)) → length (map replacement_of zs) ≡ length (a ∷ b ∷ only_if bk c) → ⊥
counted true a b c zs e g = omega (arith, e, g, length-map zs (λ (x : Replacing). new_rename (replacement_of x)), length-map zs replacement_of)
counted false a b c zs e g = omega (arith, e, g, length-map zs (λ (x : Replacing). new_rename (replacement_of x)), length-map zs replacement_of)

tails : (rc bk : Bool) (a b c : Replacement) (ys : List Change) (zs : List Replacing) → map change_op ys ≡ (if rc then new_rename a ∷ [] else []) → map (λ (x : Replacing). new_rename (replacement_of x)) zs ≡ new_rename b ∷ only_if bk (new_rename c)
    → map replacement_of (replacings_of ys) ++ map replacement_of zs ≡ only_if rc a ++ b ∷ only_if bk c → Tails rc bk a b c ys zs
tails false bk a b c [] zs e f g = (refl, g)
tails false bk a b c (y ∷ ys) zs e f g = cc
tails true bk a b c [] zs e f g = cc
tails true bk a b c (Append x ∷ ys) zs e f g = cc
tails true bk a b c (MakeIndex bytes ∷ ys) zs e f g = cc
tails true bk a b c (Replace x ∷ []) zs e f g = ((λ i. put_whole (first (replacement_of x) (map replacement_of zs) g i) ∷ []), rest (replacement_of x) (map replacement_of zs) g)
  where
    first : (y : Replacement) (l : List Replacement) → y ∷ l ≡ a ∷ b ∷ only_if bk c → y ≡ a
    first y l h = cc

    rest : (y : Replacement) (l : List Replacement) → y ∷ l ≡ a ∷ b ∷ only_if bk c → l ≡ b ∷ only_if bk c
    rest y l h = cc
tails true bk a b c (RenameIndex n ∷ []) zs e f g = absurd (counted bk a b c zs (ap length f) (ap length g))
tails true bk a b c (Replace x ∷ y ∷ ys) zs e f g = cc
tails true bk a b c (RenameIndex n ∷ y ∷ ys) zs e f g = cc

-- ---- a commit

module _ (t : Tree) (r next : Repo) (n : NewChange) (p : Parts) (are : ArePartsOf t r (Commit n) next p) where
  abbrev entry : Op
  entry = ops.Append changelog_index (new_changelog_entry t r next)

  publishing-laid : (c : Change) → change_op c ≡ entry → (laying c ≡ entry ∷ []) × (replacings_of (c ∷ []) ≡ [])
  publishing-laid (Append a) e = ((λ i. e i ∷ []), refl)
  publishing-laid (Replace x) e = cc
  publishing-laid (MakeIndex bytes) e = cc
  publishing-laid (RenameIndex before) e = cc

  module _ (xs ys : List Change) (is : p.before ≡ xs ++ ys) (grows : map change_op xs ≡ growth t r next) (roots : map change_op ys ≡ roots_renamed r next) where
    plain : list_all is_append (map change_op xs) ≡ true
    plain = ap (list_all is_append) grows ∙ growth-appends t r next

    published : (laying p.publishing ≡ entry ∷ []) × (replacings_of (p.publishing ∷ []) ≡ [])
    published = publishing-laid p.publishing are.publish

    abbrev after : List Change
    after = map (λ x. Replace x) p.after

    replaced : map replacement_of (replacings_of ys) ++ map replacement_of p.after ≡ only_if (roots_change r next) (new_roots next) ++ new_dirstate next ∷ only_if (is_some n.bookmark) (new_bookmarks next)
    replaced =
        sym (map-append replacement_of (replacings_of ys) p.after)
        ∙ ap (map replacement_of) (sym (
        (λ i. replacings_of (is i ++ (p.publishing ∷ after)))
        ∙ replacings-join (xs ++ ys) (p.publishing ∷ after)
        ∙ (λ i. replacings-join xs ys i ++ replacings-join (p.publishing ∷ []) after i)
        ∙ (λ i. (none-replaced xs plain i ++ replacings_of ys) ++ (published.1 i ++ replacings-back p.after i))))
        ∙ are.replaced

    both : Tails (roots_change r next) (is_some n.bookmark) (new_roots next) (new_dirstate next) (new_bookmarks next) ys p.after
    both = tails (roots_change r next) (is_some n.bookmark) (new_roots next) (new_dirstate next) (new_bookmarks next) ys p.after roots are.after replaced

    laid-parts : lays p ≡ laid t r n next
    laid-parts =
        (λ i. flat_map laying (is i ++ (p.publishing ∷ after)))
        ∙ laying-join (xs ++ ys) (p.publishing ∷ after)
        ∙ (λ i. laying-join xs ys i ++ laying-join (p.publishing ∷ []) after i)
        ∙ (λ i. ((appends-laid xs plain ∙ grows) i ++ both.0 i) ++ ((append-nil (laying p.publishing) ∙ published.0) i ++ (replaced-laid p.after ∙ ap (map put_whole) both.1) i))
        ∙ append_assoc (growth t r next) (map put_whole (only_if (roots_change r next) (new_roots next))) (entry ∷ map put_whole (new_dirstate next ∷ only_if (is_some n.bookmark) (new_bookmarks next)))

  pub parts-lay : lays p ≡ laid t r n next
  parts-lay = let s = split-map change_op p.before (growth t r next) (roots_renamed r next) are.before in laid-parts s.0 s.1 s.2 s.3 s.4
