-- Truth values, options, lists, equal bytes and their order.
use Rattle.hgs_revlog.specs.Held.{AreWithinLimits}
use Rattle.hgs_index.specs.Revlog.{BeginsWithRevisions}
use Rattle.hgs_index.specs.Revision.{Revision}
use Rattle.std.proofs.Common.{◌≡◌, ◌⊎◌, ℕ, List, [], ◌∷◌, Bool, true, false, ◌&&◌, refl, sym, ap, inl, inr, length, arith, length-append}
use Rattle.std.specs.Prelude.{Some, None}
use Rattle.std.specs.List.{AllByRecursion}
use Rattle.std.specs.Cmp.Lexicographic.{bytes_decides, slice_cmp, nat_list_cmp_total}
use Rattle.std.specs.Ordering.{nat_cmp, is_lt}
use Rattle.std.specs.declared.cmp.Ordering.{Ordering}
use Rattle.std.specs.declared.cmp.Ordering.TheVariants.{Less, Equal, Greater}
use Rattle.hgs_bytes.specs.Bytes.{same, is_below}

pub never : {A : Type 0} → true ≡ false → A
never e = absurd (no_case e)
  where
    no_case : true ≡ false → ⊥
    no_case h = cc

pub and-left : (a b : Bool) → (a && b) ≡ true → a ≡ true
and-left true b e = refl
and-left false b e = e

pub and-right : (a b : Bool) → (a && b) ≡ true → b ≡ true
and-right true b e = e
and-right false b e = never (sym e)

pub and-both : (a b : Bool) → a ≡ true → b ≡ true → (a && b) ≡ true
and-both true b e f = f
and-both false b e f = e

pub some-same : {A : Type 0} (d x y : A) → Some x ≡ Some y → x ≡ y
some-same d x y e = ap (elim [ None ↦ d | Some z ↦ z ]) e

pub none-some : {A B : Type 0} (x : A) → None ≡ Some x → B
none-some x e = absurd (no e)
  where
    no : None ≡ Some x → ⊥
    no h = cc

pub same-refl : (x : List ℕ) → same x x ≡ true
same-refl x = (bytes_decides x x).1 refl

pub same-eq : (x y : List ℕ) → same x y ≡ true → x ≡ y
same-eq x y e = (bytes_decides x y).0 e

pub bool : (b : Bool) → (b ≡ true) ⊎ (b ≡ false)
bool true = inl refl
bool false = inr refl

pub all-map : {A : Type 0} (P Q : A → Type 0) (xs : List A) → ((x : A) → P x → Q x) → AllByRecursion P xs → AllByRecursion Q xs
all-map P Q [] f all = tt
all-map P Q (x ∷ xs) f all = (f x all.0, all-map P Q xs f all.1)

pub below-trans : (x y z : List ℕ) → is_below x y ≡ true → is_below y z ≡ true → is_below x z ≡ true
below-trans x y z a b = ap is_lt (nat_list_cmp_total.trans x y z (below-less (slice_cmp nat_cmp x y) a) (below-less (slice_cmp nat_cmp y z) b))
  where
    below-less : (o : Ordering) → is_lt o ≡ true → o ≡ Less
    below-less Less e = refl
    below-less Equal e = never (sym e)
    below-less Greater e = never (sym e)

-- what is within the limits with all bytes is within them with those of its front
pub front-limits : (index data_bytes : List ℕ) (revisions : List Revision) (begins : BeginsWithRevisions index data_bytes revisions) → AreWithinLimits revisions data_bytes → AreWithinLimits revisions begins.data_front
front-limits index data_bytes revisions begins within = record {
  few = within.few;
  texts = within.texts;
  data_end = (let room = within.data_end in let parts = ap length begins.data_begins.1 in let sum = length-append begins.data_front begins.data_begins.0 in omega (arith, room, parts, sum));
}
