-- Parts of a course, and courses that join.
use Rattle.std.proofs.Common.{◌≡◌, ◌⊎◌, ℕ, ◌+◌, ◌-◌, ◌<◌, ◌≤◌, List, [], ◌∷◌, ◌++◌, length, take, refl, sym, ◌∙◌, ap, subst, inl, inr, arith, append-nil, length-append, Bool, true, false}
use Rattle.std.specs.Prelude.{nat_le}
use Rattle.std.proofs.lemmas.Bool.Decides.{nat_tests}
use Rattle.std.proofs.Math.Seq.{take-append-add, take-append_seam}
use Rattle.hgs_bytes.specs.Bytes.{IsPrefixOf}
use Rattle.hgs_files.specs.declared.op.Op.{Op}
use Rattle.hgs_files.specs.Tree.{Tree, after_all}
use Rattle.hgs_model.specs.Repo.{Repo}
use Rattle.hgs_stands.specs.Shows.{Shows}
use Rattle.hgs_stands.specs.Stands.{Stands}
use Rattle.hgs_views.specs.Course.{Course, IsBetween, IsOrdered, Rises, IsCourse, KeepsFronts, IsStep, still, tree_after}
use Rattle.hgs_views.proofs.Below.{ShowsLaw}
use Rattle.hgs_views.proofs.Basics.{prefix-refl, prefix-antisym}
use Rattle.hgs_views.proofs.MomentLemmas.{between-later}

pub itself-between : (first last : List Op) → IsPrefixOf first last → IsBetween first last first
itself-between first last on = record { begins = prefix-refl first; ends = on }

-- from a later list on it is a course too
pub course-later : (x : Course) (began first last : List Op) → IsBetween began last first → IsCourse x began last → IsCourse x first last
course-later x began first last at is = record {
  repository = is.repository;
  goes_on = is.goes_on;
  holds = is.holds;
  ordered = λ log there. is.ordered log (between-later began last first log at there);
  rises = λ log more there next. is.rises log more (between-later began last first log at there) next;
  shows = λ log there. is.shows log (between-later began last first log at there);
  stays = λ log i there le. is.stays log i (between-later began last first log at there) le;
}

-- ---- joined

longer-front : {A : Type 0} (a b c : List A) → IsPrefixOf a c → IsPrefixOf b c → length a ≤ length b → IsPrefixOf a b
longer-front a b c p q le =
    let sum : length b ≡ length a + (length b - length a) = omega (arith, le) in
    (take (length b - length a) p.0, sym (take-append_seam b q.0) ∙ ap (take (length b)) (sym q.1 ∙ p.1) ∙ ap (λ n. take n (a ++ p.0)) sum ∙ take-append-add a p.0 (length b - length a))

either-front : {A : Type 0} (a b c : List A) → IsPrefixOf a c → IsPrefixOf b c → IsPrefixOf a b ⊎ IsPrefixOf b a
either-front a b c p q = by (nat_le (length a) (length b)) refl
  where
    least : (n m : ℕ) → nat_le n m ≡ true → n ≤ m
    least n m e = grind (arith, nat_tests, e)

    more : (n m : ℕ) → nat_le n m ≡ false → m ≤ n
    more n m e = grind (arith, nat_tests, e)

    by : (b1 : Bool) → nat_le (length a) (length b) ≡ b1 → IsPrefixOf a b ⊎ IsPrefixOf b a
    by true e = inl (longer-front a b c p q (least (length a) (length b) e))
    by false e = inr (longer-front b a c q p (more (length a) (length b) e))

module _ (x : Course) (first mid last : List Op) (a : IsCourse x first mid) (b : IsCourse x mid last) (on : IsPrefixOf first mid) (to : IsPrefixOf mid last) where
  side : (log : List Op) → IsBetween first last log → IsBetween first mid log ⊎ IsBetween mid last log
  side log at = elim (either-front log mid last at.ends to) [
    | inl p ↦ inl (record { begins = at.begins; ends = p })
    | inr p ↦ inr (record { begins = p; ends = at.ends })
  ]

  rises-both : (log more : List Op) → IsBetween first mid log ⊎ IsBetween mid last log → IsBetween first mid more ⊎ IsBetween mid last more → IsPrefixOf log more → IsBetween first last log → IsBetween log last more → Rises x log more
  rises-both log more (inl l) (inl m) p at next = a.rises log more l (record { begins = p; ends = m.ends })
  rises-both log more (inl l) (inr m) p at next =
      let low = a.rises log mid l (record { begins = l.ends; ends = prefix-refl mid }) in
      let up = b.rises mid more (record { begins = prefix-refl mid; ends = to }) m in
      record {
        marked = (let h = low.marked in let k = up.marked in omega (arith, h, k));
        worked = (let h = low.worked in let k = up.worked in omega (arith, h, k));
        published = (let h = low.published in let k = up.published in omega (arith, h, k));
      }
  rises-both log more (inr l) m p at next = b.rises log more l next

  pub joined : IsCourse x first last
  joined = record {
    repository = b.repository;
    goes_on = b.goes_on;
    holds = b.holds;
    ordered = λ log at. elim (side log at) [
      | inl l ↦ a.ordered log l
      | inr l ↦ b.ordered log l
    ];
    rises = λ log more at next. rises-both log more (side log at) (side more (between-later first last log more at next)) next.begins at next;
    shows = λ log at. elim (side log at) [
      | inl l ↦ a.shows log l
      | inr l ↦ b.shows log l
    ];
    stays = λ log i at le. elim (side log at) [
      | inl l ↦ a.stays log i l le
      | inr l ↦ b.stays log i l le
    ];
  }

-- ---- one more operation

none-left : {A : Type 0} (xs : List A) → length xs ≡ 0 → xs ≡ []
none-left [] e = refl
none-left (x ∷ xs) e = absurd (omega (arith, e))

-- a front of a list and one more is a front of the list, or all
front-or-all : {A : Type 0} (log front : List A) (op : A) → IsPrefixOf front (log ++ op ∷ []) → IsPrefixOf front log ⊎ (front ≡ log ++ op ∷ [])
front-or-all log front op p = by (nat_le (length front) (length log)) refl
  where
    least : (n m : ℕ) → nat_le n m ≡ true → n ≤ m
    least n m e = grind (arith, nat_tests, e)

    more : (n m : ℕ) → nat_le n m ≡ false → m < n
    more n m e = grind (arith, nat_tests, e)

    by : (b : Bool) → nat_le (length front) (length log) ≡ b → IsPrefixOf front log ⊎ (front ≡ log ++ op ∷ [])
    by true e = inl (longer-front front log (log ++ op ∷ []) p (op ∷ [], refl) (least (length front) (length log) e))
    by false e =
        let gt = more (length front) (length log) e in
        let l = ap length p.1 in
        let m = length-append front p.0 in
        let k = length-append log (op ∷ []) in
        inr (sym (p.1 ∙ ap (λ r. front ++ r) (none-left p.0 (omega (arith, gt, l, m, k))) ∙ append-nil front))

module _ (x : Course) (first log : List Op) (op : Op) (a : IsCourse x first log) (s : IsStep x log (log ++ op ∷ [])) (on : IsPrefixOf first log) where
  here : (now : List Op) → IsBetween first (log ++ op ∷ []) now → IsBetween first log now ⊎ (now ≡ log ++ op ∷ [])
  here now at = elim (front-or-all log now op at.ends) [
    | inl p ↦ inl (record { begins = at.begins; ends = p })
    | inr e ↦ inr e
  ]

  rises-step : (now more : List Op) → IsBetween first log now ⊎ (now ≡ log ++ op ∷ []) → IsBetween first log more ⊎ (more ≡ log ++ op ∷ []) → IsBetween now (log ++ op ∷ []) more → Rises x now more
  rises-step now more (inl l) (inl m) next = a.rises now more l (record { begins = next.begins; ends = m.ends })
  rises-step now more (inl l) (inr e) next =
      let low = a.rises now log l (record { begins = l.ends; ends = prefix-refl log }) in
      let up = s.rises in
      subst (Rises x now) (sym e) (record {
        marked = (let h = low.marked in let k = up.marked in omega (arith, h, k));
        worked = (let h = low.worked in let k = up.worked in omega (arith, h, k));
        published = (let h = low.published in let k = up.published in omega (arith, h, k));
      })
  rises-step now more (inr e) m next =
      let same : now ≡ more = prefix-antisym more now (subst (IsPrefixOf more) (sym e) next.ends) next.begins in
      subst (Rises x now) same (record { marked = omega arith; worked = omega arith; published = omega arith })

  pub stepped : IsCourse x first (log ++ op ∷ [])
  stepped = record {
    repository = s.repository;
    goes_on = s.goes_on;
    holds = s.holds;
    ordered = λ now at. elim (here now at) [
      | inl l ↦ a.ordered now l
      | inr e ↦ subst (IsOrdered x) (sym e) s.ordered
    ];
    rises = λ now more at next. rises-step now more (here now at) (here more (between-later first (log ++ op ∷ []) now more at next)) next;
    shows = λ now at. elim (here now at) [
      | inl l ↦ a.shows now l
      | inr e ↦ subst (λ l. Shows (tree_after x l) (x.repo (x.marked l)) (x.repo (x.worked l)) (x.repo (x.published l))) (sym e) s.shows
    ];
    stays = λ now i at le. elim (here now at) [
      | inl l ↦ a.stays now i l le
      | inr e ↦ subst (λ l. KeepsFronts (x.store i) (tree_after x l) (x.repo i).changesets) (sym e) (s.stays i (subst (λ l. i ≤ x.published l) e le))
    ];
  }

-- ---- files at rest

pub nothing-between : (log : List Op) → IsBetween [] [] log → log ≡ []
nothing-between log at = empty log (let e = ap length at.ends.1 in let l = length-append log at.ends.0 in omega (arith, e, l))
  where
    empty : (log : List Op) → length log ≡ 0 → log ≡ []
    empty [] e = refl
    empty (op ∷ log) e = absurd (omega (arith, e))

pub rest-course : ShowsLaw → (t : Tree) (r : Repo) → Stands t r → IsCourse (still t r) [] []
rest-course shows_law t r s = record {
  repository = λ i le. s.repository;
  goes_on = λ i j le top. prefix-refl r.changesets;
  holds = λ i le. s.revlogs;
  ordered = λ log at. record { marked = omega arith; worked = omega arith };
  rises = λ log more at next. record { marked = omega arith; worked = omega arith; published = omega arith };
  shows = λ log at. shows_law (after_all log t) r (subst (λ l. Stands (after_all l t) r) (sym (nothing-between log at)) s);
  stays = λ log i at le. subst (λ l. KeepsFronts t (after_all l t) r.changesets) (sym (nothing-between log at)) (record {
    changelog = prefix-refl _;
    changelog_chunks = prefix-refl _;
    manifest = prefix-refl _;
    manifest_chunks = prefix-refl _;
    filelogs = λ path ext used. prefix-refl _;
  });
}
