-- The parts of a commit's transaction, put together from its appends and the files that it replaces.
use Rattle.std.proofs.Common.{◌≡◌, List, [], ◌∷◌, ◌++◌, Bool, true, false, map, refl, sym, ◌∙◌, ap}
use Rattle.std.specs.Prelude.{Option, Some, None}
use Rattle.std.specs.List.{AllByRecursion, list_all}
use Rattle.std.proofs.lemmas.List.{map-append}
use Rattle.hgs_files.specs.declared.op.Op.{Op}
use Rattle.hgs_files.specs.Tree.{Tree}
use Rattle.hgs_ops.specs.Replaced.{Replacement, new_rename, only_if}
use Rattle.hgs_ops.specs.Theorems.CommitTree.{is_append}
use Rattle.hgs_transaction.specs.OfTransaction.{IsOfTree}
use Rattle.hgs_transaction.specs.Parts.{change_op, replacement_of, replacings_of}
use Rattle.hgs_transaction.specs.declared.parts.Appending.{Appending}
use Rattle.hgs_transaction.specs.declared.parts.Change.{Change}
use Rattle.hgs_transaction.specs.declared.parts.Change.TheVariants.{Append, MakeIndex, RenameIndex, Replace}
use Rattle.hgs_transaction.specs.declared.parts.Replacing.{Replacing}
use Rattle.hgs_steps.specs.Planned.{IsReplacedBy, IsReplacedWhere}
use Rattle.hgs_commit.specs.OfCommit.{optional_replace}
use Rattle.hgs_writer.specs.Growth.{AreAppends}
use Rattle.hgs_writer.proofs.Basics.{never}

-- ---- lists of changes

pub replacings-join : (xs ys : List Change) → replacings_of (xs ++ ys) ≡ replacings_of xs ++ replacings_of ys
replacings-join [] ys = refl
replacings-join (Append a ∷ xs) ys = replacings-join xs ys
replacings-join (Replace x ∷ xs) ys = ap (λ l. x ∷ l) (replacings-join xs ys)
replacings-join (MakeIndex bytes ∷ xs) ys = replacings-join xs ys
replacings-join (RenameIndex before ∷ xs) ys = replacings-join xs ys

pub replacings-back : (xs : List Replacing) → replacings_of (map (λ x. Replace x) xs) ≡ xs
replacings-back [] = refl
replacings-back (x ∷ xs) = ap (λ l. x ∷ l) (replacings-back xs)

-- changes that are appends replace nothing
pub none-replaced : (xs : List Change) → list_all is_append (map change_op xs) ≡ true → replacings_of xs ≡ []
none-replaced [] e = refl
none-replaced (Append a ∷ xs) e = none-replaced xs e
none-replaced (Replace x ∷ xs) e = never (sym e)
none-replaced (MakeIndex bytes ∷ xs) e = never (sym e)
none-replaced (RenameIndex before ∷ xs) e = never (sym e)

all-join : {A : Type 0} (P : A → Type 0) (xs ys : List A) → AllByRecursion P xs → AllByRecursion P ys → AllByRecursion P (xs ++ ys)
all-join P [] ys p q = q
all-join P (x ∷ xs) ys p q = (p.0, all-join P xs ys p.1 q)

-- ---- the files that are replaced

-- the file is replaced before the publishing operation where this holds
pub record IsReplacedFirst (t : Tree) (b : Bool) (replacement : Replacement) (o : Option Replacing) : Type 0 where
  pub ops : map change_op (optional_replace o) ≡ only_if b (new_rename replacement)
  pub files : map replacement_of (replacings_of (optional_replace o)) ≡ only_if b replacement
  pub standing : AllByRecursion (IsOfTree t) (optional_replace o)

pub replaced-first : (t : Tree) (b : Bool) (replacement : Replacement) (o : Option Replacing) → IsReplacedWhere t b replacement o → IsReplacedFirst t b replacement o
replaced-first t b replacement None e = record {
  ops = ap (λ z. only_if z (new_rename replacement)) (sym e);
  files = ap (λ z. only_if z replacement) (sym e);
  standing = tt;
}
replaced-first t b replacement (Some x) e = record {
  ops = (let text = e.1.text in λ i. new_rename (text i) ∷ []) ∙ ap (λ z. only_if z (new_rename replacement)) (sym e.0);
  files = (let text = e.1.text in λ i. text i ∷ []) ∙ ap (λ z. only_if z replacement) (sym e.0);
  standing = (e.1.standing, tt);
}

-- these files are replaced behind it, in this order
pub record AreReplaced (t : Tree) (replacements : List Replacement) (xs : List Replacing) : Type 0 where
  pub files : map replacement_of xs ≡ replacements
  pub standing : AllByRecursion (IsOfTree t) (map (λ (x : Replacing). Replace x) xs)

pub one-replaced : (t : Tree) (a : Replacement) (x : Replacing) → IsReplacedBy t a x → AreReplaced t (a ∷ []) (x ∷ [])
one-replaced t a x is = record { files = (let text = is.text in λ i. text i ∷ []); standing = (is.standing, tt) }

pub two-replaced : (t : Tree) (a b : Replacement) (x y : Replacing) → IsReplacedBy t a x → IsReplacedBy t b y → AreReplaced t (a ∷ b ∷ []) (x ∷ y ∷ [])
two-replaced t a b x y is also = record { files = (let one = is.text in let two = also.text in λ i. one i ∷ two i ∷ []); standing = (is.standing, (also.standing, tt)) }

renamed : (xs : List Replacing) → map (λ (x : Replacing). new_rename (replacement_of x)) xs ≡ map new_rename (map replacement_of xs)
renamed [] = refl
renamed (x ∷ xs) = ap (λ l. new_rename (replacement_of x) ∷ l) (renamed xs)

pub map-only : {A B : Type 0} (f : A → B) (b : Bool) (x : A) → map f (only_if b x) ≡ only_if b (f x)
map-only f true x = refl
map-only f false x = refl

-- ---- all parts

module _ (t : Tree) (ops : List Op) (appends : List Change) (are : AreAppends t ops appends) (plain : list_all is_append ops ≡ true) (b : Bool) (roots : Replacement) (o : Option Replacing) (first : IsReplacedFirst t b roots o) (entry : Appending) (is : IsOfTree t (Append entry)) (later : List Replacement) (xs : List Replacing) (behind : AreReplaced t later xs) where
  pub before-are : map change_op (appends ++ optional_replace o) ≡ ops ++ only_if b (new_rename roots)
  before-are = map-append change_op appends (optional_replace o) ∙ (let e = are.are in let f = first.ops in λ i. e i ++ f i)

  pub renames-are : map (λ (x : Replacing). new_rename (replacement_of x)) xs ≡ map new_rename later
  renames-are = renamed xs ∙ ap (map new_rename) behind.files

  pub replaced-are : map replacement_of (replacings_of ((appends ++ optional_replace o) ++ Append entry ∷ map (λ (x : Replacing). Replace x) xs)) ≡ only_if b roots ++ later
  replaced-are =
      ap (map replacement_of) (replacings-join (appends ++ optional_replace o) (Append entry ∷ map (λ (x : Replacing). Replace x) xs))
      ∙ ap (λ l. map replacement_of (l ++ replacings_of (map (λ (x : Replacing). Replace x) xs))) (replacings-join appends (optional_replace o) ∙ ap (λ l. l ++ replacings_of (optional_replace o)) (none-replaced appends (ap (list_all is_append) are.are ∙ plain)))
      ∙ ap (λ l. map replacement_of (replacings_of (optional_replace o) ++ l)) (replacings-back xs)
      ∙ map-append replacement_of (replacings_of (optional_replace o)) xs ∙ (let e = first.files in let f = behind.files in λ i. e i ++ f i)

  pub standing-are : AllByRecursion (IsOfTree t) ((appends ++ optional_replace o) ++ Append entry ∷ map (λ (x : Replacing). Replace x) xs)
  standing-are = all-join (IsOfTree t) (appends ++ optional_replace o) (Append entry ∷ map (λ (x : Replacing). Replace x) xs) (all-join (IsOfTree t) appends (optional_replace o) are.standing first.standing) (is, behind.standing)
