-- The states of a run behind the fronts of its log, and the places where a transaction is published.
use Rattle.std.proofs.Common.{◌≡◌, ℕ, suc, ◌<◌, ◌≤◌, List, [], ◌∷◌, ◌++◌, Bool, true, false, cond, refl, ◌∙◌, ap, subst, arith}
use Rattle.std.specs.Prelude.{nat_le}
use Rattle.std.proofs.lemmas.Bool.Decides.{nat_tests}
use Rattle.hgs_files.specs.declared.op.Op.{Op}
use Rattle.hgs_legal.specs.LegalLog.{Goes, Run, State}
use Rattle.hgs_legal.specs.Numbers.{n_of}
use Rattle.hgs_headline.specs.WritersLog.{files_with, state_behind}

no-op : (o : Op) (l : List Op) → ◌≡◌ {A = List Op} [] (o ∷ l) → ⊥
no-op o l e = cc

same-head : (o p : Op) (l m : List Op) → o ∷ l ≡ p ∷ m → o ≡ p
same-head o p l m e = cc

same-rest : (o p : Op) (l m : List Op) → o ∷ l ≡ p ∷ m → l ≡ m
same-rest o p l m e = cc

-- a front leads to the state behind it, and the rest goes on from there
pub split : (s : State) (log : List Op) (s' : State) (run : Run s log s') (front rest : List Op) → log ≡ front ++ rest → Run s front (state_behind s log s' run front) × Run (state_behind s log s' run front) rest s'
split s [] s' run [] rest e = (refl, subst (λ (l : List Op). Run s l s') e run)
split s [] s' run (o ∷ front) rest e = absurd (no-op o (front ++ rest) e)
split s (op ∷ log) s' run [] rest e = (refl, subst (λ (l : List Op). Run s l s') e run)
split s (op ∷ log) s' run (o ∷ front) rest e =
    let more = split run.0 log s' run.2 front rest (same-rest op o log (front ++ rest) e) in
    ((run.0, subst (λ (p : Op). Goes s p run.0) (same-head op o log (front ++ rest) e) run.1, more.0), more.1)

-- from the state behind a front to that behind a longer one
pub between : (s : State) (log : List Op) (s' : State) (run : Run s log s') (front mid rest : List Op) → log ≡ (front ++ mid) ++ rest → Run (state_behind s log s' run front) mid (state_behind s log s' run (front ++ mid))
between s [] s' run [] mid rest e = (split s [] s' run mid rest e).0
between s [] s' run (o ∷ front) mid rest e = absurd (no-op o ((front ++ mid) ++ rest) e)
between s (op ∷ log) s' run [] mid rest e = (split s (op ∷ log) s' run mid rest e).0
between s (op ∷ log) s' run (o ∷ front) mid rest e = between run.0 log s' run.2 front mid rest (same-rest op o log ((front ++ mid) ++ rest) e)

pub begins : (s : State) (log : List Op) (s' : State) (run : Run s log s') → state_behind s log s' run [] ≡ s
begins s [] s' run = refl
begins s (op ∷ log) s' run = refl

pub ends : (s : State) (log : List Op) (s' : State) (run : Run s log s') → state_behind s log s' run log ≡ s'
ends s [] s' run = run
ends s (op ∷ log) s' run = ends run.0 log s' run.2

-- ---- where a transaction is published

is-le : (i n : ℕ) → i ≤ n → nat_le i n ≡ true
is-le i n e = grind (arith, nat_tests, e)

not-le : (i n : ℕ) → n < i → nat_le i n ≡ false
not-le i n e = grind (arith, nat_tests, e)

least : (n m : ℕ) → nat_le n m ≡ true → n ≤ m
least n m e = grind (arith, nat_tests, e)

more_than : (n m : ℕ) → nat_le n m ≡ false → m < n
more_than n m e = grind (arith, nat_tests, e)

-- as many are published already
pub files-here : (s : State) (log : List Op) (s' : State) (run : Run s log s') (i : ℕ) → i ≤ n_of s → files_with s log s' run i ≡ s.files
files-here s [] s' run i le = refl
files-here s (op ∷ log) s' run i le = ap (λ b. cond b s.files (files_with run.0 log s' run.2 i)) (is-le i (n_of s) le)

-- The operation of this front behind which so many are published for the first time.
pub record Reaches (s : State) (log : List Op) (s' : State) (run : Run s log s') (front : List Op) (i : ℕ) : Type 0 where
  pub before : List Op
  pub op : Op
  pub behind : List Op
  pub was : State
  pub now : State
  pub to : Run s before was
  pub goes : Goes was op now
  pub on : Run now behind (state_behind s log s' run front)
  pub fewer : n_of was < i
  pub count : n_of now ≡ i
  pub files : files_with s log s' run i ≡ now.files

module _ (one : (s : State) (op : Op) (s' : State) → Goes s op s' → n_of s' ≤ suc (n_of s)) where
  pub reaches : (s : State) (log : List Op) (s' : State) (run : Run s log s') (front rest : List Op) (i : ℕ) → log ≡ front ++ rest → n_of s < i → i ≤ n_of (state_behind s log s' run front) → Reaches s log s' run front i
  reaches s [] s' run front rest i e lt le = absurd (omega (arith, lt, le))
  reaches s (op ∷ log) s' run [] rest i e lt le = absurd (omega (arith, lt, le))
  reaches s (op ∷ log) s' run (o ∷ front) rest i e lt le = by (nat_le i (n_of run.0)) refl (λ more. reaches run.0 log s' run.2 front rest i (same-rest op o log (front ++ rest) e) more le)
    where
      on : log ≡ front ++ rest
      on = same-rest op o log (front ++ rest) e

      further : files_with s (op ∷ log) s' run i ≡ files_with run.0 log s' run.2 i
      further = ap (λ b. cond b s.files (files_with run.0 log s' run.2 i)) (not-le i (n_of s) lt)

      by : (b : Bool) → nat_le i (n_of run.0) ≡ b → (n_of run.0 < i → Reaches run.0 log s' run.2 front i) → Reaches s (op ∷ log) s' run (o ∷ front) i
      by true h next =
          let up = one s op run.0 run.1 in
          let here = least i (n_of run.0) h in
          record {
            before = [];
            op = op;
            behind = front;
            was = s;
            now = run.0;
            to = refl;
            goes = run.1;
            on = (split run.0 log s' run.2 front rest on).0;
            fewer = lt;
            count = omega (arith, lt, up, here);
            files = further ∙ files-here run.0 log s' run.2 i here;
          }
      by false h next =
          let p = next (more_than i (n_of run.0) h) in
          record {
            before = op ∷ p.before;
            op = p.op;
            behind = p.behind;
            was = p.was;
            now = p.now;
            to = (run.0, run.1, p.to);
            goes = p.goes;
            on = p.on;
            fewer = p.fewer;
            count = p.count;
            files = further ∙ p.files;
          }
