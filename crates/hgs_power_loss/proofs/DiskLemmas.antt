-- What changes of names and of files do to the disk that is kept.
use Rattle.std.proofs.Common.{◌≡◌, ℕ, zero, suc, ◌+◌, ◌<◌, ◌≤◌, Bool, true, false, cond, ◌&&◌, nat_lt, is_some, List, [], ◌∷◌, ◌++◌, length, take, drop, set, get_or, refl, sym, ◌∙◌, ap, subst, inl, inr, arith, Option, Some, None, unwrap_or}
use Rattle.std.specs.BTreeMap.{BTreeMap, IsOrdered}
use Rattle.std.specs.List.{list_all, slice_get}
use Rattle.std.specs.Cmp.Lexicographic.{slice_cmp}
use Rattle.std.specs.Option.{option_map}
use Rattle.std.specs.Ordering.{nat_cmp}
use Rattle.std.proofs.lemmas.List.{take-append-le, drop-append-le, length-set}
use Rattle.std.proofs.lemmas.Bool.Decides.{nat_tests}
use Rattle.hgs_bytes.specs.Bytes.{same}
use Rattle.hgs_bytes.specs.Theorems.ByteLemmas.{same-eq, same-refl}
use Rattle.hgs_files.specs.declared.op.Op.{Op}
use Rattle.hgs_files.specs.Tree.{Tree, bytes_at, renamed, same_path, with_file}
use Rattle.hgs_files.specs.Theorems.TreeLemmas.{same_path-eq, same_path-refl}
use Rattle.hgs_journal.specs.Theorems.TreeFacts.{bool, never}
use Rattle.hgs_power.specs.Disk.{Disk, File, Names, changed, firm, made, made_as, named, run, step, stood, with_mark}
use Rattle.hgs_power.specs.Theorems.Tables.{mark-at, mark-away, some-inj, some-not}
use Rattle.hgs_power_loss.specs.declared.names.Mark.{Mark}
use Rattle.hgs_power_loss.specs.declared.names.Mark.TheVariants.{Stood, Made}
use Rattle.hgs_power_loss.specs.declared.names.NameChange.{NameChange}
use Rattle.hgs_power_loss.specs.declared.names.NameChange.TheVariants.{Stands, Moves, Goes}
use Rattle.hgs_power_loss.specs.Kept.{Fits, disk_of, file_of, first_names, found_or, is_change, is_mark, mark_of, name_after, names_after_all, names_before, noted, stood_file, table_over}

-- ---- names

pub after-one-more : (cs : List NameChange) (c : NameChange) (names : Names) → names_after_all (cs ++ c ∷ []) names ≡ name_after c (names_after_all cs names)
after-one-more [] c names = refl
after-one-more (d ∷ cs) c names = after-one-more cs c (name_after d names)

before-one-more : (cs : List NameChange) (c : NameChange) (names : Names) (since : List Names) → names_before (cs ++ c ∷ []) names since ≡ names_after_all cs names ∷ names_before cs names since
before-one-more [] c names since = refl
before-one-more (d ∷ cs) c names since = before-one-more cs c (name_after d names) (names ∷ since)

pub after-rest : (n : ℕ) (cs : List NameChange) (names : Names) → names_after_all (drop n cs) (names_after_all (take n cs) names) ≡ names_after_all cs names
after-rest zero cs names = refl
after-rest (suc n) [] names = refl
after-rest (suc n) (c ∷ cs) names = after-rest n cs (name_after c names)

-- a change more is pending
module _ (start : Tree) (cs : List NameChange) (settled : ℕ) (c : NameChange) (some : settled ≤ length cs) where
  since-pushed : names_before (drop settled (cs ++ c ∷ [])) (names_after_all (take settled (cs ++ c ∷ [])) (first_names start)) []
      ≡ names_after_all cs (first_names start) ∷ names_before (drop settled cs) (names_after_all (take settled cs) (first_names start)) []
  since-pushed =
      ap (λ ds. names_before (drop settled (cs ++ c ∷ [])) (names_after_all ds (first_names start)) []) (take-append-le settled cs (c ∷ []) some)
      ∙ ap (λ ds. names_before ds (names_after_all (take settled cs) (first_names start)) []) (drop-append-le settled cs (c ∷ []) some)
      ∙ before-one-more (drop settled cs) c (names_after_all (take settled cs) (first_names start)) []
      ∙ ap (λ names. names ∷ names_before (drop settled cs) (names_after_all (take settled cs) (first_names start)) []) (after-rest settled cs (first_names start))

  pub pushed : (kept : BTreeMap (List ℕ) File) (made : List File) → disk_of start (cs ++ c ∷ []) settled kept made ≡ named (name_after c (names_after_all cs (first_names start))) (disk_of start cs settled kept made)
  pushed kept made = λ i. record {
    now = after-one-more cs c (first_names start) i;
    since = since-pushed i;
    files = file_of start kept made;
    made = length made;
  }

-- ---- the table

found-cond : (b : Bool) (mark : Option Mark) (x : Option (Option Mark)) (y : Option (List ℕ)) → found_or (cond b (Some mark) x) y ≡ cond b (option_map mark_of mark) (found_or x y)
found-cond true mark x y = refl
found-cond false mark x y = refl

pub table-set : (old new : BTreeMap (List ℕ) (Option Mark)) (path : List ℕ) (mark : Option Mark) → ((other : List ℕ) → noted new other ≡ cond (same_path path other) (Some mark) (noted old other)) → (names : Names) → table_over new names ≡ with_file (table_over old names) path (option_map mark_of mark)
table-set old new path mark h names = λ i q. (ap (λ x. found_or x (names q)) (h q) ∙ found-cond (same_path path q) mark (noted old q) (names q)) i

-- what held of all marks holds, where it holds of the new one
pub marks-set : (P : Mark → Type 0) (old new : BTreeMap (List ℕ) (Option Mark)) (path : List ℕ) (mark : Option Mark) → ((other : List ℕ) → noted new other ≡ cond (same_path path other) (Some mark) (noted old other)) → ((m : Mark) → mark ≡ Some m → P m) → ((q : List ℕ) (m : Mark) → noted old q ≡ Some (Some m) → P m) → (q : List ℕ) (m : Mark) → noted new q ≡ Some (Some m) → P m
marks-set P old new path mark h here all q m e = by-path (same_path path q) (sym (h q) ∙ e)
  where
    by-path : (b : Bool) → cond b (Some mark) (noted old q) ≡ Some (Some m) → P m
    by-path true is = here m cc
    by-path false is = all q m is

-- ---- files

pub one-changed : (new files : List ℕ → File) (mark : List ℕ) (f : File) → new mark ≡ f → ((other : List ℕ) → (mark ≡ other → ⊥) → new other ≡ files other) → new ≡ with_mark files mark f
one-changed new files mark f here away = λ i other. at-each other (same mark other) refl i
  where
    at-each : (other : List ℕ) (b : Bool) → same mark other ≡ b → new other ≡ with_mark files mark f other
    at-each other true e = ap new (sym (same-eq mark other e)) ∙ here ∙ sym (mark-at files mark f) ∙ ap (with_mark files mark f) (same-eq mark other e)
    at-each other false e = away other (λ is. never (sym (same-refl mark) ∙ ap (same mark) is ∙ e)) ∙ sym (mark-away files mark other f e)

apart-path : (p q : List ℕ) → (stood p ≡ stood q → ⊥) → same_path p q ≡ false
apart-path p q h = elim (bool (same_path p q)) [
  | inl e ↦ absurd (h (ap stood (same_path-eq p q e)))
  | inr e ↦ e
]

-- a file that stood at the start is changed
module _ (start : Tree) (old new : BTreeMap (List ℕ) File) (made : List File) (path : List ℕ) (f : File) (h : (q : List ℕ) → stood_file new q ≡ cond (same_path path q) (Some f) (stood_file old q)) where
  stood-away : (other : List ℕ) → (stood path ≡ other → ⊥) → file_of start new made other ≡ file_of start old made other
  stood-away [] ne = refl
  stood-away (zero ∷ q) ne = ap (λ x. unwrap_or x (firm (bytes_at start q))) (h q ∙ ap (λ b. cond b (Some f) (stood_file old q)) (apart-path path q ne))
  stood-away (suc zero ∷ []) ne = refl
  stood-away (suc zero ∷ n ∷ []) ne = refl
  stood-away (suc zero ∷ n ∷ m ∷ q) ne = refl
  stood-away (suc (suc k) ∷ q) ne = refl

  pub stood-changed : file_of start new made ≡ with_mark (file_of start old made) (stood path) f
  stood-changed = one-changed (file_of start new made) (file_of start old made) (stood path) f (ap (λ x. unwrap_or x (firm (bytes_at start path))) (h path ∙ ap (λ b. cond b (Some f) (stood_file old path)) (same_path-refl path))) stood-away

-- a file that was made is changed, or one is made
module _ (start : Tree) (kept : BTreeMap (List ℕ) File) (old new : List File) (n : ℕ) (f : File) (here : slice_get new n ≡ Some f) (away : (k : ℕ) → (n ≡ k → ⊥) → slice_get new k ≡ slice_get old k) where
  made-away : (other : List ℕ) → (made_as n ≡ other → ⊥) → file_of start kept new other ≡ file_of start kept old other
  made-away [] ne = refl
  made-away (zero ∷ q) ne = refl
  made-away (suc zero ∷ []) ne = refl
  made-away (suc zero ∷ k ∷ []) ne = ap (λ x. unwrap_or x (firm (bytes_at start (k ∷ [])))) (away k (λ e. ne (ap made_as e)))
  made-away (suc zero ∷ k ∷ m ∷ q) ne = refl
  made-away (suc (suc k) ∷ q) ne = refl

  pub made-changed : file_of start kept new ≡ with_mark (file_of start kept old) (made_as n) f
  made-changed = one-changed (file_of start kept new) (file_of start kept old) (made_as n) f (ap (λ x. unwrap_or x (firm (bytes_at start (n ∷ [])))) here) made-away

pub get-set : {A : Type 0} (xs : List A) (n : ℕ) (x : A) → n < length xs → slice_get (set xs n x) n ≡ Some x
get-set [] n x lt = absurd (omega (arith, lt))
get-set (y ∷ xs) zero x lt = refl
get-set (y ∷ xs) (suc n) x lt = get-set xs n x (omega (arith, lt))

pub get-set-away : {A : Type 0} (xs : List A) (n : ℕ) (x : A) (k : ℕ) → (n ≡ k → ⊥) → slice_get (set xs n x) k ≡ slice_get xs k
get-set-away [] n x k ne = refl
get-set-away (y ∷ xs) zero x zero ne = absurd (ne refl)
get-set-away (y ∷ xs) zero x (suc k) ne = refl
get-set-away (y ∷ xs) (suc n) x zero ne = refl
get-set-away (y ∷ xs) (suc n) x (suc k) ne = get-set-away xs n x k (λ e. ne (ap suc e))

pub get-pushed : {A : Type 0} (xs : List A) (x : A) → slice_get (xs ++ x ∷ []) (length xs) ≡ Some x
get-pushed [] x = refl
get-pushed (y ∷ xs) x = get-pushed xs x

pub get-pushed-away : {A : Type 0} (xs : List A) (x : A) (k : ℕ) → (length xs ≡ k → ⊥) → slice_get (xs ++ x ∷ []) k ≡ slice_get xs k
get-pushed-away [] x zero ne = absurd (ne refl)
get-pushed-away [] x (suc k) ne = refl
get-pushed-away (y ∷ xs) x zero ne = refl
get-pushed-away (y ∷ xs) x (suc k) ne = get-pushed-away xs x k (λ e. ne (ap suc e))

pub got : {A : Type 0} (xs : List A) (n : ℕ) (x : A) → n < length xs → x ≡ get_or xs n x → slice_get xs n ≡ Some x
got [] n x lt e = absurd (omega (arith, lt))
got (y ∷ xs) zero x lt e = ap Some (sym e)
got (y ∷ xs) (suc n) x lt e = got xs n x (omega (arith, lt)) e

pub length-one-more : {A : Type 0} (xs : List A) (x : A) → length (xs ++ x ∷ []) ≡ suc (length xs)
length-one-more [] x = refl
length-one-more (y ∷ xs) x = ap suc (length-one-more xs x)

-- ---- the disk

-- a file that stood at the start is changed
pub stood-disk : (start : Tree) (cs : List NameChange) (settled : ℕ) (old new : BTreeMap (List ℕ) File) (made : List File) (path : List ℕ) (change : File → File)
    → ((q : List ℕ) → stood_file new q ≡ cond (same_path path q) (Some (change (unwrap_or (stood_file old path) (firm (bytes_at start path))))) (stood_file old q))
    → disk_of start cs settled new made ≡ changed change (stood path) (disk_of start cs settled old made)
stood-disk start cs settled old new made path change h = λ i. record {
  now = names_after_all cs (first_names start);
  since = names_before (drop settled cs) (names_after_all (take settled cs) (first_names start)) [];
  files = stood-changed start old new made path (change (file_of start old made (stood path))) h i;
  made = length made;
}

-- a file that was made is changed
pub made-file-disk : (start : Tree) (cs : List NameChange) (settled : ℕ) (kept : BTreeMap (List ℕ) File) (old : List File) (n : ℕ) (f : File) (change : File → File)
    → n < length old → f ≡ get_or old n f → disk_of start cs settled kept (set old n (change f)) ≡ changed change (made_as n) (disk_of start cs settled kept old)
made-file-disk start cs settled kept old n f change lt is =
    let here : file_of start kept old (made_as n) ≡ f = ap (λ x. unwrap_or x (firm (bytes_at start (n ∷ [])))) (got old n f lt is) in
    (λ i. record {
      now = names_after_all cs (first_names start);
      since = names_before (drop settled cs) (names_after_all (take settled cs) (first_names start)) [];
      files = made-changed start kept old (set old n (change f)) n (change f) (get-set old n (change f) lt) (get-set-away old n (change f)) i;
      made = length-set old n (change f) i;
    })
    ∙ ap (λ g. record {
      now = names_after_all cs (first_names start);
      since = names_before (drop settled cs) (names_after_all (take settled cs) (first_names start)) [];
      files = with_mark (file_of start kept old) (made_as n) (change g);
      made = length old;
    }) (sym here)

-- a file is made
pub made-disk : (start : Tree) (cs : List NameChange) (settled : ℕ) (kept : BTreeMap (List ℕ) File) (old : List File) (path : List ℕ) → settled ≤ length cs
    → disk_of start (cs ++ Stands path (length old) ∷ []) settled kept (old ++ firm [] ∷ []) ≡ made path (disk_of start cs settled kept old)
made-disk start cs settled kept old path some =
    pushed start cs settled (Stands path (length old)) some kept (old ++ firm [] ∷ [])
    ∙ (λ i. record {
      now = with_file (names_after_all cs (first_names start)) path (Some (made_as (length old)));
      since = names_after_all cs (first_names start) ∷ names_before (drop settled cs) (names_after_all (take settled cs) (first_names start)) [];
      files = made-changed start kept old (old ++ firm [] ∷ []) (length old) (firm []) (get-pushed old (firm [])) (get-pushed-away old (firm [])) i;
      made = length-one-more old (firm []) i;
    })

-- a file gets another name
pub moved-disk : (start : Tree) (cs : List NameChange) (settled : ℕ) (kept : BTreeMap (List ℕ) File) (made : List File) (from to mark : List ℕ) → settled ≤ length cs → names_after_all cs (first_names start) from ≡ Some mark
    → disk_of start (cs ++ Moves from to ∷ []) settled kept made ≡ named (renamed (names_after_all cs (first_names start)) from to (Some mark)) (disk_of start cs settled kept made)
moved-disk start cs settled kept made from to mark some is =
    pushed start cs settled (Moves from to) some kept made
    ∙ ap (λ o. named (renamed (names_after_all cs (first_names start)) from to o) (disk_of start cs settled kept made)) is

-- ---- what fits together

less-more : (n made : ℕ) → nat_lt n made ≡ true → nat_lt n (made + 1) ≡ true
less-more n made e = grind (arith, nat_tests)

mark-more : (start : Tree) (made : ℕ) (mark : Mark) → is_mark start made mark ≡ true → is_mark start (made + 1) mark ≡ true
mark-more start made (Stood path) e = e
mark-more start made (Made n) e = less-more n made e

change-more : (made : ℕ) (c : NameChange) → is_change made c ≡ true → is_change (made + 1) c ≡ true
change-more made (Stands path n) e = less-more n made e
change-more made (Moves from to) e = refl
change-more made (Goes path) e = refl

both : (b c : Bool) → b ≡ true → c ≡ true → (b && c) ≡ true
both true c e f = f
both false c e f = cc

first-of : (b c : Bool) → (b && c) ≡ true → (b ≡ true) × (c ≡ true)
first-of true c e = (refl, e)
first-of false c e = cc

changes-more : (made : ℕ) (cs : List NameChange) → list_all (is_change made) cs ≡ true → list_all (is_change (made + 1)) cs ≡ true
changes-more made [] e = refl
changes-more made (c ∷ cs) e =
    let two = first-of (is_change made c) (list_all (is_change made) cs) e in
    both (is_change (made + 1) c) (list_all (is_change (made + 1)) cs) (change-more made c two.0) (changes-more made cs two.1)

all-one-more : {A : Type 0} (p : A → Bool) (xs : List A) (x : A) → list_all p xs ≡ true → p x ≡ true → list_all p (xs ++ x ∷ []) ≡ true
all-one-more p [] x e f = both (p x) true f refl
all-one-more p (y ∷ xs) x e f =
    let two = first-of (p y) (list_all p xs) e in
    both (p y) (list_all p (xs ++ x ∷ [])) two.0 (all-one-more p xs x two.1 f)

module _ (start : Tree) (old : BTreeMap (List ℕ) (Option Mark)) (cs : List NameChange) (settled : ℕ) (kept : BTreeMap (List ℕ) File) (made : ℕ) (fits : Fits start old cs settled kept made) where
  pub fits-kept : (new : BTreeMap (List ℕ) File) (path : List ℕ) (f : File) → ((q : List ℕ) → stood_file new q ≡ cond (same_path path q) (Some f) (stood_file kept q)) → IsOrdered (slice_cmp nat_cmp) new → is_some (start path) ≡ true → Fits start old cs settled new made
  fits-kept new path f h ordered stands = record {
    table_now = fits.table_now;
    marks = fits.marks;
    made_names = fits.made_names;
    some_settled = fits.some_settled;
    stand = λ q g e. by-path q g (same_path path q) refl (sym (h q) ∙ e);
    ordered = ordered;
  }
    where
      by-path : (q : List ℕ) (g : File) (b : Bool) → same_path path q ≡ b → cond (same_path path q) (Some f) (stood_file kept q) ≡ Some g → is_some (start q) ≡ true
      by-path q g true is e = ap (λ p. is_some (start p)) (sym (same_path-eq path q is)) ∙ stands
      by-path q g false is e = fits.stand q g (ap (λ b. cond b (Some f) (stood_file kept q)) (sym is) ∙ e)

  pub fits-made : (new : BTreeMap (List ℕ) (Option Mark)) (path : List ℕ) → ((other : List ℕ) → noted new other ≡ cond (same_path path other) (Some (Some (Made made))) (noted old other)) → Fits start new (cs ++ Stands path made ∷ []) settled kept (made + 1)
  fits-made new path h = record {
    table_now = table-set old new path (Some (Made made)) h (first_names start) ∙ ap (λ t. with_file t path (Some (made_as made))) fits.table_now ∙ sym (after-one-more cs (Stands path made) (first_names start));
    marks = marks-set (λ m. is_mark start (made + 1) m ≡ true) old new path (Some (Made made)) h (λ m e. subst (λ x. is_mark start (made + 1) x ≡ true) (some-inj e) (grind (arith, nat_tests))) (λ q m e. mark-more start made m (fits.marks q m e));
    made_names = all-one-more (is_change (made + 1)) cs (Stands path made) (changes-more made cs fits.made_names) (grind (arith, nat_tests));
    some_settled = omega (arith, fits.some_settled, length-one-more cs (Stands path made));
    stand = fits.stand;
    ordered = fits.ordered;
  }

  pub fits-goes : (new : BTreeMap (List ℕ) (Option Mark)) (path : List ℕ) → ((other : List ℕ) → noted new other ≡ cond (same_path path other) (Some None) (noted old other)) → Fits start new (cs ++ Goes path ∷ []) settled kept made
  fits-goes new path h = record {
    table_now = table-set old new path None h (first_names start) ∙ ap (λ t. with_file t path None) fits.table_now ∙ sym (after-one-more cs (Goes path) (first_names start));
    marks = marks-set (λ m. is_mark start made m ≡ true) old new path None h (λ m e. some-not (sym e)) fits.marks;
    made_names = all-one-more (is_change made) cs (Goes path) fits.made_names refl;
    some_settled = omega (arith, fits.some_settled, length-one-more cs (Goes path));
    stand = fits.stand;
    ordered = fits.ordered;
  }

  pub fits-moves : (mid new : BTreeMap (List ℕ) (Option Mark)) (from to : List ℕ) (mark : Mark)
      → ((other : List ℕ) → noted mid other ≡ cond (same_path from other) (Some None) (noted old other))
      → ((other : List ℕ) → noted new other ≡ cond (same_path to other) (Some (Some mark)) (noted mid other))
      → names_after_all cs (first_names start) from ≡ Some (mark_of mark) → is_mark start made mark ≡ true → Fits start new (cs ++ Moves from to ∷ []) settled kept made
  fits-moves mid new from to mark g h is known = record {
    table_now =
        table-set mid new to (Some mark) h (first_names start)
        ∙ ap (λ t. with_file t to (Some (mark_of mark))) (table-set old mid from None g (first_names start) ∙ ap (λ t. with_file t from None) fits.table_now)
        ∙ ap (renamed (names_after_all cs (first_names start)) from to) (sym is)
        ∙ sym (after-one-more cs (Moves from to) (first_names start));
    marks = marks-set (λ m. is_mark start made m ≡ true) mid new to (Some mark) h (λ m e. subst (λ x. is_mark start made x ≡ true) (some-inj e) known)
        (marks-set (λ m. is_mark start made m ≡ true) old mid from None g (λ m e. some-not (sym e)) fits.marks);
    made_names = all-one-more (is_change made) cs (Moves from to) fits.made_names refl;
    some_settled = omega (arith, fits.some_settled, length-one-more cs (Moves from to));
    stand = fits.stand;
    ordered = fits.ordered;
  }

-- ---- logs

pub run-rest : (ops : List Op) (i next : ℕ) (op : Op) (d : Disk) → next ≡ suc i → i < length ops → op ≡ get_or ops i op → run (drop next ops) (step op d) ≡ run (drop i ops) d
run-rest ops i next op d one lt is = ap (λ n. run (drop n ops) (step op d)) one ∙ by-index ops i lt is
  where
    by-index : (os : List Op) (k : ℕ) → k < length os → op ≡ get_or os k op → run (drop (suc k) os) (step op d) ≡ run (drop k os) d
    by-index [] k less e = absurd (omega (arith, less))
    by-index (o ∷ os) zero less e = ap (λ p. run os (step p d)) e
    by-index (o ∷ os) (suc k) less e = by-index os k (omega (arith, less)) e

pub run-done : (ops : List Op) (i : ℕ) (d : Disk) → length ops ≤ i → run (drop i ops) d ≡ d
run-done [] zero d le = refl
run-done [] (suc i) d le = refl
run-done (o ∷ ops) zero d le = absurd (omega (arith, le))
run-done (o ∷ ops) (suc i) d le = run-done ops i d (omega (arith, le))
