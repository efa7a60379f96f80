-- An index that loads has no more bytes than its entries.
use Rattle.std.proofs.Common.{◌≡◌, ℕ, zero, suc, ◌+◌, ◌-◌, ◌*◌, ◌/◌, ◌==◌, ◌≤◌, ◌<◌, ◌&&◌, ◌⊎◌, inl, inr, min, List, [], ◌∷◌, ◌++◌, length, take, drop, Bool, true, false, cond, Result, Ok, Err, refl, sym, ◌∙◌, ap, arith, length-append}
use Rattle.std.specs.Prelude.{nat_le}
use Rattle.std.proofs.lemmas.Bool.Decides.{nat_tests}
use Rattle.hgs_index.specs.Inline.{entries_in, is_inline, without_inline}
use Rattle.std.proofs.lemmas.List.{take_all, length-take, length-drop}
use Rattle.hgs_files.specs.Tree.{Tree, bytes_at}
use Rattle.hgs_index.specs.declared.entry.Entry as index_entry
use Rattle.hgs_revlog.specs.declared.fault.RevFault.{RevFault}
use Rattle.hgs_revlog.specs.declared.fault.RevFault.TheVariants.{Tail}
use Rattle.hgs_revlog.specs.declared.fault.Tail.TheVariants.{Refuse}
use Rattle.hgs_revlog.specs.Load.{after, entry_behind, in_form, load_from, loaded, loaded_either}
use Rattle.hgs_revlog.specs.Log.{Log, with_entry}
use Rattle.hgs_load.specs.View.{log_answer}
use Rattle.hgs_loading.specs.Logs.{either_index_in, either_log_in, has_more, most_index, index_in}

ok_is : (x y : Log) → (let a : Result Log RevFault = Ok x in a) ≡ Ok y → x ≡ y
ok_is x y e = cc

no_ok : (f : RevFault) (x : Log) → (let a : Result Log RevFault = Err f in a) ≡ Ok x → ⊥
no_ok f x e = cc

none-left : (n : ℕ) → (n == 0) ≡ true → n ≡ 0
none-left n h = grind (arith, nat_tests, h)

at-end : (log out : Log) (n : ℕ) (b : Bool) → (n == 0) ≡ b → (let a : Result Log RevFault = cond b (Ok log) (Err (Tail (length log.entries))) in a) ≡ Ok out → n + 64 * length log.entries ≡ 64 * length out.entries
at-end log out n true e h =
    let z = none-left n e in
    let s : length log.entries ≡ length out.entries = ap (λ (l : Log). length l.entries) (ok_is log out h) in
    omega (arith, z, s)
at-end log out n false e h = absurd (no_ok (Tail (length log.entries)) out h)

one-less : (n m : ℕ) → suc n ≡ m / 64 → n ≡ (m - 64) / 64
one-less n m e = omega (arith, e)

one-more : (n m d k l o : ℕ) → suc n ≡ m / 64 → d ≡ m - 64 → l ≡ k + 1 → d + 64 * l ≡ 64 * o → m + 64 * k ≡ 64 * o
one-more n m d k l o e f g h = omega (arith, e, f, g, h)

pub load-length : (n : ℕ) (log out : Log) (bytes : List ℕ) → n ≡ length bytes / 64 → load_from Refuse n log bytes ≡ Ok out → length bytes + 64 * length log.entries ≡ 64 * length out.entries
load-length zero log out bytes e h = at-end log out (length bytes) (length bytes == 0) refl h
load-length (suc n) log out bytes e h =
    by (entry_behind log.entries (take 64 bytes)) (λ x k. load-length n (with_entry log x) out (drop 64 bytes) (one-less n (length bytes) e ∙ ap (λ m. m / 64) (sym (length-drop 64 bytes))) k) h
  where
    by : (r : Result index_entry.Entry RevFault) → ((x : index_entry.Entry) → load_from Refuse n (with_entry log x) (drop 64 bytes) ≡ Ok out → length (drop 64 bytes) + 64 * length (log.entries ++ x ∷ []) ≡ 64 * length out.entries)
        → after r (λ x. load_from Refuse n (with_entry log x) (drop 64 bytes)) ≡ Ok out → length bytes + 64 * length log.entries ≡ 64 * length out.entries
    by (Err f) more k = absurd (no_ok f out k)
    by (Ok x) more k =
        one-more n (length bytes) (length (drop 64 bytes)) (length log.entries) (length (log.entries ++ x ∷ [])) (length out.entries) e (length-drop 64 bytes) (length-append log.entries (x ∷ [])) (more x k)

answered : (index : List ℕ) (log : Log) (r : Result Log RevFault) → log_answer index r ≡ Ok log → r ≡ Ok log
answered index log (Ok x) h = cc
answered index log (Err f) h = cc

least : (m n k : ℕ) → n ≡ min most_index m → n + 0 ≡ 64 * k → k ≤ 1000000 → m ≤ most_index
least m n k e f few = omega (arith, e, f, few)

pub all-of-it : (index : List ℕ) (t : Tree) → length (bytes_at t index) ≤ most_index → index_in index t ≡ bytes_at t index
all-of-it index t few = take_all most_index (bytes_at t index) few

few-bytes : (n : ℕ) → n / 64 ≤ 1000000 → n ≤ most_index
few-bytes n h = omega (arith, h)

pub short-index : (index : List ℕ) (t : Tree) → length (bytes_at t index) / 64 ≤ 1000000 → index_in index t ≡ bytes_at t index
short-index index t few = all-of-it index t (few-bytes (length (bytes_at t index)) few)

-- An index of either form that loads is all that was read.
pub whole-either : (index : List ℕ) (t : Tree) (log : Log) → ((l : Log) → loaded Refuse (index_in index t) ≡ Ok l → length l.entries ≤ 1000000) → either_log_in index t ≡ Ok log → loaded_either Refuse (bytes_at t index) ≡ Ok log
whole-either index t log few h = ap (λ b. loaded_either Refuse b) (sym (by (has_more (index_in index t)) refl)) ∙ loads
  where
    loads : loaded_either Refuse (either_index_in index t) ≡ Ok log
    loads = answered index log (loaded_either Refuse (either_index_in index t)) h

    some-more : (a b : Bool) → (a && b) ≡ false → (a ≡ false) ⊎ (b ≡ false)
    some-more true b e = inr e
    some-more false b e = inl refl

    short : nat_le most_index (length (index_in index t)) ≡ false → index_in index t ≡ bytes_at t index
    short e = take_all most_index (bytes_at t index) (omega (arith, length-take most_index (bytes_at t index), above most_index (length (index_in index t)) e))
      where
        above : (a b : ℕ) → nat_le a b ≡ false → b < a
        above a b k = grind (arith, nat_tests, k)

    -- the entries of a separate index, which are not that many
    plain : is_inline (index_in index t) ≡ false → has_more (index_in index t) ≡ false → index_in index t ≡ bytes_at t index
    plain e less = separate (loaded Refuse (index_in index t)) refl
        (sym (ap (λ b. in_form b (loaded Refuse (cond b (without_inline (entries_in (length (index_in index t)) (index_in index t))) (index_in index t)))) e) ∙ ap (λ b. loaded_either Refuse b) (sym (ap (λ b. cond b (bytes_at t index) (index_in index t)) less)) ∙ loads)
      where
        separate : (r : Result Log RevFault) → loaded Refuse (index_in index t) ≡ r → in_form false r ≡ Ok log → index_in index t ≡ bytes_at t index
        separate (Err f) k o = absurd (no_ok f log o)
        separate (Ok l) k o =
            let size = load-length (length (index_in index t) / 64) (record { inline = false; entries = [] }) l (index_in index t) refl k in
            all-of-it index t (least (length (bytes_at t index)) (length (index_in index t)) (length l.entries) (length-take most_index (bytes_at t index)) size (few l k))

    by : (b : Bool) → has_more (index_in index t) ≡ b → either_index_in index t ≡ bytes_at t index
    by true e = ap (λ b. cond b (bytes_at t index) (index_in index t)) e
    by false e = ap (λ b. cond b (bytes_at t index) (index_in index t)) e ∙ elim (some-more (nat_le most_index (length (index_in index t))) (is_inline (index_in index t)) e) [ inl a ↦ short a | inr a ↦ plain a e ]
