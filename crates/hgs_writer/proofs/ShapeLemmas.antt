-- The shape of an import's parts is that of parts that can be put together and carried out.
use Rattle.std.proofs.Common.{◌≡◌, ℕ, suc, ◌+◌, ◌*◌, ◌≤◌, ◌<◌, ◌^◌, Bool, true, false, cond, List, [], ◌∷◌, ◌++◌, length, map, refl, sym, ◌∙◌, ap, subst, append_assoc, append-nil, true≢false, arith, length-append}
use Rattle.std.specs.Prelude.{◌&&◌, codes, Option, Some, None, IfSome, Result, Ok, Err, IfOk, flat_map}
use Rattle.std.specs.List.{AllByRecursion, filter_map, list_all, list_any}
use Rattle.hgs_bytes.specs.Bytes.{begins_with, is_below, same}
use Rattle.hgs_commit.specs.OfCommit.{optional_replace}
use Rattle.hgs_files.specs.Tree.{Tree}
use Rattle.hgs_machine.specs.Sound.{AreMadeFirst, AreOnce, AreSound, IsPublished}
use Rattle.hgs_model.specs.History.{in_order, inserted}
use Rattle.hgs_model.specs.Valid.{AreNewChanges, IsNewChange, new_paths}
use Rattle.hgs_model.specs.declared.command.NewChange.{NewChange}
use Rattle.hgs_model.specs.declared.files.NewFile.{NewFile}
use Rattle.hgs_steps.specs.Steps.{CanBeAssembled}
use Rattle.hgs_steps.specs.declared.step.Step.{Step}
use Rattle.hgs_commit.specs.declared.fault.CommitFault.{CommitFault}
use Rattle.hgs_transaction.specs.declared.parts.Change.{Change}
use Rattle.hgs_transaction.specs.declared.parts.Change.TheVariants.{Append, MakeIndex, RenameIndex, Replace}
use Rattle.hgs_transaction.specs.declared.parts.Parts.{Parts}
use Rattle.hgs_transaction.specs.declared.parts.ReplacedFile.{ReplacedFile}
use Rattle.hgs_transaction.specs.declared.parts.ReplacedFile.TheVariants.{PhaseRoots, Dirstate, Bookmarks}
use Rattle.hgs_transaction.specs.declared.parts.Replacing.{Replacing}
use Rattle.hgs_transaction.specs.Parts.{all_changes, file_name, is_in_store, replacing_of, replacings_of}
use Rattle.hgs_writer.specs.Joined.{joined_paths}
use Rattle.hgs_writer.specs.Layered.{AddsAppends, ArePartsOfImport, as_list, is_appended}

-- ---- how many paths

inserted-most : (x : List ℕ) (ys : List (List ℕ)) → length (inserted x ys) ≤ suc (length ys)
inserted-most x [] = omega arith
inserted-most x (y ∷ ys) = by (inserted-most x ys) (same x y) (is_below x y)
  where
    by : length (inserted x ys) ≤ suc (length ys) → (a b : Bool) → length (cond a (y ∷ ys) (cond b (x ∷ y ∷ ys) (y ∷ inserted x ys))) ≤ suc (length (y ∷ ys))
    by rec true b = omega arith
    by rec false true = omega arith
    by rec false false = omega (arith, rec)

order-most : (xs : List (List ℕ)) → length (in_order xs) ≤ length xs
order-most [] = omega arith
order-most (x ∷ xs) = omega (arith, inserted-most x (in_order xs), order-most xs)

files-count : (files : List NewFile) → length (new_paths files) ≡ length files
files-count [] = refl
files-count (f ∷ files) = ap suc (files-count files)

paths-most : (changes : List NewChange) → AllByRecursion IsNewChange changes → length (flat_map (λ (n : NewChange). new_paths n.files) changes) ≤ 20000 * length changes
paths-most [] h = omega arith
paths-most (n ∷ changes) h =
    omega (arith, length-append (new_paths n.files) (flat_map (λ (m : NewChange). new_paths m.files) changes), files-count n.files, (h.0).count, paths-most changes h.1)

pub joined-most : (changes : List NewChange) → AreNewChanges changes → length (joined_paths changes) ≤ 200000000
joined-most changes valid = omega (arith, order-most (flat_map (λ (n : NewChange). new_paths n.files) changes), paths-most changes valid.each, valid.most)

-- ---- put together

both : (a b : Bool) → a ≡ true → b ≡ true → (a && b) ≡ true
both true b e f = f
both false b e f = e

one-of : (a b : Bool) → (a && b) ≡ true → a ≡ true
one-of true b e = refl
one-of false b e = e

other-of : (a b : Bool) → (a && b) ≡ true → b ≡ true
other-of true b e = e
other-of false b e = absurd (true≢false (sym e))

appended-in : (x : Change) → is_appended x ≡ true → is_in_store x ≡ true
appended-in (Append a) e = e
appended-in (Replace x) e = refl
appended-in (MakeIndex bytes) e = refl
appended-in (RenameIndex before) e = refl

appends-in : (xs rest : List Change) → list_all is_appended xs ≡ true → list_all is_in_store rest ≡ true → list_all is_in_store (xs ++ rest) ≡ true
appends-in [] rest h k = k
appends-in (x ∷ xs) rest h k =
    both (is_in_store x) (list_all is_in_store (xs ++ rest)) (appended-in x (one-of (is_appended x) (list_all is_appended xs) h)) (appends-in xs rest (other-of (is_appended x) (list_all is_appended xs) h) k)

roots-in : (bytes : List ℕ) (roots : Option Replacing) → list_all is_in_store (MakeIndex bytes ∷ optional_replace roots) ≡ true
roots-in bytes None = refl
roots-in bytes (Some x) = refl

roots-length : (roots : Option Replacing) → length (optional_replace roots) ≤ 1
roots-length None = omega arith
roots-length (Some x) = omega arith

list-length : (o : Option Replacing) → length (as_list o) ≤ 1
list-length None = omega arith
list-length (Some x) = omega arith

pub import-assembled : (count : ℕ) (p : Parts) → ArePartsOfImport count p → count ≤ 200000000 → CanBeAssembled p
import-assembled count p are few =
    let adds = are.adds in
    let appends : are.appends ≡ adds.0 = adds.1 in
    record {
      before = ap (list_all is_in_store) (are.before ∙ ap (λ l. l ++ MakeIndex are.index ∷ optional_replace are.roots) appends) ∙ appends-in adds.0 (MakeIndex are.index ∷ optional_replace are.roots) adds.3 (roots-in are.index are.roots);
      publishing = ap is_in_store are.publishing;
      few = (
          let before = ap (λ l. length l) are.before in
          let after = ap (λ l. length l) are.after in
          let long = ap (λ l. length l) appends in
          omega (arith, before, after, long, adds.2, few, length-append are.appends (MakeIndex are.index ∷ optional_replace are.roots), roots-length are.roots, length-append (as_list are.dirstate) (as_list are.bookmarks), list-length are.dirstate, list-length are.bookmarks));
    }

-- ---- carried out

appends-replace : (xs rest : List Change) → list_all is_appended xs ≡ true → replacings_of (xs ++ rest) ≡ replacings_of rest
appends-replace [] rest h = refl
appends-replace (Append a ∷ xs) rest h = appends-replace xs rest (other-of (is_appended (Append a)) (list_all is_appended xs) h)
appends-replace (Replace x ∷ xs) rest h = absurd (true≢false (sym h))
appends-replace (MakeIndex bytes ∷ xs) rest h = absurd (true≢false (sym h))
appends-replace (RenameIndex before ∷ xs) rest h = absurd (true≢false (sym h))

appends-made : (xs rest : List Change) → list_all is_appended xs ≡ true → AreMadeFirst false rest → AreMadeFirst false (xs ++ rest)
appends-made [] rest h k = k
appends-made (Append a ∷ xs) rest h k = appends-made xs rest (other-of (is_appended (Append a)) (list_all is_appended xs) h) k
appends-made (Replace x ∷ xs) rest h k = absurd (true≢false (sym h))
appends-made (MakeIndex bytes ∷ xs) rest h k = absurd (true≢false (sym h))
appends-made (RenameIndex before ∷ xs) rest h k = absurd (true≢false (sym h))

replaces-made : (files : List Replacing) → AreMadeFirst false (map (λ x. Replace x) files)
replaces-made [] = tt
replaces-made (x ∷ files) = replaces-made files

roots-made : (roots : Option Replacing) (rest : List Change) → AreMadeFirst true rest → AreMadeFirst true (optional_replace roots ++ rest)
roots-made None rest h = h
roots-made (Some x) rest h = h

replaces-all : (files : List Replacing) → replacings_of (map (λ x. Replace x) files) ≡ files
replaces-all [] = refl
replaces-all (x ∷ files) = ap (λ l. x ∷ l) (replaces-all files)

roots-replace : (roots : Option Replacing) (rest : List Change) → replacings_of (optional_replace roots ++ rest) ≡ as_list roots ++ replacings_of rest
roots-replace None rest = refl
roots-replace (Some x) rest = refl

apart : (x y : Replacing) (f g : ReplacedFile) → x.file ≡ f → y.file ≡ g → same (file_name f) (file_name g) ≡ false → same (file_name x.file) (file_name y.file) ≡ false
apart x y f g e h d = ap (λ a. same (file_name a) (file_name y.file)) e ∙ ap (λ b. same (file_name f) (file_name b)) h ∙ d

once-all : (roots dirstate bookmarks : Option Replacing) → IfSome roots (λ x. x.file ≡ PhaseRoots) → IfSome dirstate (λ x. x.file ≡ Dirstate) → IfSome bookmarks (λ x. x.file ≡ Bookmarks) → AreOnce (as_list roots ++ (as_list dirstate ++ as_list bookmarks))
once-all None None None r d b = tt
once-all None None (Some z) r d b = (refl, tt)
once-all None (Some y) None r d b = (refl, tt)
once-all None (Some y) (Some z) r d b = (rw (apart y z Dirstate Bookmarks d b refl) refl, (refl, tt))
once-all (Some x) None None r d b = (refl, tt)
once-all (Some x) None (Some z) r d b = (rw (apart x z PhaseRoots Bookmarks r b refl) refl, (refl, tt))
once-all (Some x) (Some y) None r d b = (rw (apart x y PhaseRoots Dirstate r d refl) refl, (refl, tt))
once-all (Some x) (Some y) (Some z) r d b = (rw (apart x y PhaseRoots Dirstate r d refl) (rw (apart x z PhaseRoots Bookmarks r b refl) refl), (rw (apart y z Dirstate Bookmarks d b refl) refl, (refl, tt)))

pub import-carried : (count : ℕ) (p : Parts) → ArePartsOfImport count p → (t : Tree) → AreSound t p
import-carried count p are t =
    let adds = are.adds in
    let behind : List Change = RenameIndex are.standing ∷ map (λ x. Replace x) (as_list are.dirstate ++ as_list are.bookmarks) in
    let all : all_changes p ≡ adds.0 ++ (MakeIndex are.index ∷ (optional_replace are.roots ++ behind)) =
    (λ i. are.before i ++ are.publishing i ∷ map (λ x. Replace x) (are.after i))
    ∙ append_assoc are.appends (MakeIndex are.index ∷ optional_replace are.roots) behind
    ∙ ap (λ l. l ++ (MakeIndex are.index ∷ (optional_replace are.roots ++ behind))) adds.1 in
    record {
      once = subst AreOnce (sym (
          ap replacings_of all
          ∙ appends-replace adds.0 (MakeIndex are.index ∷ (optional_replace are.roots ++ behind)) adds.3
          ∙ roots-replace are.roots behind
          ∙ ap (λ l. as_list are.roots ++ l) (replaces-all (as_list are.dirstate ++ as_list are.bookmarks))))
          (once-all are.roots are.dirstate are.bookmarks are.are_roots are.is_dirstate are.are_bookmarks);
      made = subst (AreMadeFirst false) (sym all) (appends-made adds.0 (MakeIndex are.index ∷ (optional_replace are.roots ++ behind)) adds.3 (roots-made are.roots behind (refl, replaces-made (as_list are.dirstate ++ as_list are.bookmarks))));
      publishing = subst (IsPublished t p) (sym are.publishing) tt;
    }

-- ---- answers

pub assembled-answer : (changes : List NewChange) (r : Result Step CommitFault) → AreNewChanges changes → IfOk r (λ step. ArePartsOfImport (length (joined_paths changes)) step.parts) → IfOk r (λ step. CanBeAssembled step.parts)
assembled-answer changes (Ok step) valid are = import-assembled (length (joined_paths changes)) step.parts are (joined-most changes valid)
assembled-answer changes (Err fault) valid are = tt

pub carried-answer : (changes : List NewChange) (r : Result Step CommitFault) → IfOk r (λ step. ArePartsOfImport (length (joined_paths changes)) step.parts) → IfOk r (λ step. (t : Tree) → AreSound t step.parts)
carried-answer changes (Ok step) are = import-carried (length (joined_paths changes)) step.parts are
carried-answer changes (Err fault) are = tt
