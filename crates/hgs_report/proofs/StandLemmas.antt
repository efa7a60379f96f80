-- Files that stand, and that were to be gone.
use Rattle.std.proofs.Common.{◌≡◌, ◌⊎◌, ℕ, List, [], ◌∷◌, ◌++◌, Bool, true, false, cond, not, ◌||◌, map, length, append_assoc, refl, sym, ◌∙◌, ap, inl, inr}
use Rattle.std.specs.Prelude.{Option, None, codes, is_some, filter, flat_map, ◌==◌}
use Rattle.std.specs.List.{list_any}
use Rattle.std.specs.Cmp.Lexicographic.{bytes_decides}
use Rattle.hgs_bytes.specs.Bytes.{same, among}
use Rattle.hgs_files.specs.Tree.{Tree, bytes_at}
use Rattle.hgs_journal.specs.Names.{journal_path}
use Rattle.hgs_path.specs.ListedNames.{listed_file}
use Rattle.hgs_findings.specs.Findings as findings
use Rattle.hgs_findings.specs.Findings.{Finding, IsFinding, is_finding, is_name_used, names_in}
use Rattle.hgs_findings.specs.Reading.{sight_of}
use Rattle.hgs_report.specs.Adds.{Adds}
use Rattle.hgs_report.specs.Lines.{file_if}
use Rattle.hgs_report.specs.Names.{IsOfUnused, standing, unused_in}
use Rattle.hgs_report.specs.Parts.{IsOfCalls, journal, lock}
use Rattle.hgs_report.proofs.EachLemmas.{never, either, in-front, in-back, split-any}
use Rattle.hgs_report.proofs.PartLemmas.{same-itself}
use Rattle.hgs_report.proofs.StoreLemmas.{list-added, moved}
use Rattle.hgs_report.proofs.TextLemmas.{file-is, is-file}

or-nothing : (a : Bool) → (a || false) ≡ true → a ≡ true
or-nothing true e = refl
or-nothing false e = e

abbrev of_journal : Tree → List Finding
of_journal t = file_if (is_some (t journal_path)) journal_path 1

abbrev of_wlock : Tree → List Finding
of_wlock t = file_if (is_some (t (codes "wlock"))) (codes "wlock") 2

abbrev of_store_lock : Tree → List Finding
of_store_lock t = file_if (is_some (t (codes "store/lock"))) (codes "store/lock") 2

pub calls-added : (t : Tree) (a b c d : List Finding) → b ≡ a ++ file_if (is_some (t journal_path)) journal_path 1 → c ≡ b ++ file_if (is_some (t (codes "wlock"))) (codes "wlock") 2 → d ≡ c ++ file_if (is_some (t (codes "store/lock"))) (codes "store/lock") 2 → Adds t (IsOfCalls t) a d
calls-added t a b c d one two three = list-added t (IsOfCalls t) a d ((of_journal t) ++ ((of_wlock t) ++ (of_store_lock t))) joined are all
  where
    joined : d ≡ a ++ ((of_journal t) ++ ((of_wlock t) ++ (of_store_lock t)))
    joined = three ∙ ap (λ l. l ++ (of_store_lock t)) (two ∙ ap (λ l. l ++ (of_wlock t)) one) ∙ append_assoc (a ++ (of_journal t)) (of_wlock t) (of_store_lock t) ∙ append_assoc a (of_journal t) ((of_wlock t) ++ (of_store_lock t))

    locked : (file : List ℕ) (rev : Option ℕ) (k : ℕ) → (list_any (is_finding file rev k) (of_wlock t) ≡ true) ⊎ (list_any (is_finding file rev k) (of_store_lock t) ≡ true) → IsFinding t file rev k
    locked file rev k (inl h) = let o = file-is (is_some (t (codes "wlock"))) (codes "wlock") 2 file rev k h in moved t (codes "wlock") None 2 file rev k o.1 (findings.lock (codes "wlock") refl o.0)
    locked file rev k (inr h) = let o = file-is (is_some (t (codes "store/lock"))) (codes "store/lock") 2 file rev k h in moved t (codes "store/lock") None 2 file rev k o.1 (findings.lock (codes "store/lock") refl o.0)

    by : (file : List ℕ) (rev : Option ℕ) (k : ℕ) → (list_any (is_finding file rev k) (of_journal t) ≡ true) ⊎ (list_any (is_finding file rev k) ((of_wlock t) ++ (of_store_lock t)) ≡ true) → IsFinding t file rev k
    by file rev k (inl h) = let o = file-is (is_some (t journal_path)) journal_path 1 file rev k h in moved t journal_path None 1 file rev k o.1 (findings.journal o.0)
    by file rev k (inr h) = locked file rev k (split-any (is_finding file rev k) (of_wlock t) (of_store_lock t) h)

    are : (file : List ℕ) (rev : Option ℕ) (k : ℕ) → list_any (is_finding file rev k) ((of_journal t) ++ ((of_wlock t) ++ (of_store_lock t))) ≡ true → IsFinding t file rev k
    are file rev k h = by file rev k (split-any (is_finding file rev k) (of_journal t) ((of_wlock t) ++ (of_store_lock t)) h)

    of_lock : (path : List ℕ) → (same path (codes "wlock") ≡ true) ⊎ ((same path (codes "store/lock") || false) ≡ true) → is_some (t path) ≡ true → list_any (is_finding path None 2) ((of_wlock t) ++ (of_store_lock t)) ≡ true
    of_lock path (inl e) s =
        let is = (bytes_decides path (codes "wlock")).0 e in
        ap (λ x. list_any (is_finding x None 2) ((of_wlock t) ++ (of_store_lock t))) is ∙ in-front (is_finding (codes "wlock") None 2) (of_wlock t) (of_store_lock t) (is-file (is_some (t (codes "wlock"))) (codes "wlock") 2 (ap (λ x. is_some (t x)) (sym is) ∙ s))
    of_lock path (inr e) s =
        let is = (bytes_decides path (codes "store/lock")).0 (or-nothing (same path (codes "store/lock")) e) in
        ap (λ x. list_any (is_finding x None 2) ((of_wlock t) ++ (of_store_lock t))) is ∙ in-back (is_finding (codes "store/lock") None 2) (of_wlock t) (of_store_lock t) (is-file (is_some (t (codes "store/lock"))) (codes "store/lock") 2 (ap (λ x. is_some (t x)) (sym is) ∙ s))

    all : (file : List ℕ) (rev : Option ℕ) (k : ℕ) → IsOfCalls t file rev k → list_any (is_finding file rev k) ((of_journal t) ++ ((of_wlock t) ++ (of_store_lock t))) ≡ true
    all _ _ _ (journal s) = in-front (is_finding journal_path None 1) (of_journal t) ((of_wlock t) ++ (of_store_lock t)) (is-file (is_some (t journal_path)) journal_path 1 s)
    all _ _ _ (lock path l s) = in-back (is_finding path None 2) (of_journal t) ((of_wlock t) ++ (of_store_lock t)) (of_lock path (either (same path (codes "wlock")) (same path (codes "store/lock") || false) l) s)

-- ---- unused files

abbrev of_file : Tree → List ℕ → List Finding
of_file t file = file_if (not (length (bytes_at t file) == 0)) file 12

not-so : (b : Bool) → not b ≡ true → b ≡ false
not-so true e = never (sym e)
not-so false e = refl

module _ (t : Tree) where
  names-are : (names : List (List ℕ)) → ((name : List ℕ) → among name names ≡ true → among name (names_in t) ≡ true) → (file : List ℕ) (rev : Option ℕ) (k : ℕ)
      → list_any (is_finding file rev k) (flat_map (of_file t) (map listed_file (filter (λ name. not (is_name_used (sight_of t) name)) names))) ≡ true → IsFinding t file rev k
  names-are [] sub file rev k h = never (sym h)
  names-are (x ∷ names) sub file rev k h = by (is_name_used (sight_of t) x) refl h (names-are names (λ name e. sub name (or-true (same name x) (among name names) e)) file rev k)
    where
      or-true : (a b : Bool) → b ≡ true → (a || b) ≡ true
      or-true true b e = refl
      or-true false b e = e

      there : among x (names_in t) ≡ true
      there = sub x (ap (λ b. b || among x names) (same-itself x))

      of_first : is_name_used (sight_of t) x ≡ false → list_any (is_finding file rev k) (of_file t (listed_file x)) ≡ true → IsFinding t file rev k
      of_first un e =
          let o = file-is (not (length (bytes_at t (listed_file x)) == 0)) (listed_file x) 12 file rev k e in
          moved t (listed_file x) None 12 file rev k o.1 (findings.not_used x there (not-so (length (bytes_at t (listed_file x)) == 0) o.0) un)

      by : (b : Bool) → is_name_used (sight_of t) x ≡ b → list_any (is_finding file rev k) (flat_map (of_file t) (map listed_file (cond (not b) (x ∷ filter (λ name. not (is_name_used (sight_of t) name)) names) (filter (λ name. not (is_name_used (sight_of t) name)) names)))) ≡ true
          → (list_any (is_finding file rev k) (flat_map (of_file t) (map listed_file (filter (λ name. not (is_name_used (sight_of t) name)) names))) ≡ true → IsFinding t file rev k) → IsFinding t file rev k
      by true s g rec = rec g
      by false s g rec = pick (split-any (is_finding file rev k) (of_file t (listed_file x)) (flat_map (of_file t) (map listed_file (filter (λ name. not (is_name_used (sight_of t) name)) names))) g)
        where
          pick : (list_any (is_finding file rev k) (of_file t (listed_file x)) ≡ true) ⊎ (list_any (is_finding file rev k) (flat_map (of_file t) (map listed_file (filter (λ name. not (is_name_used (sight_of t) name)) names))) ≡ true) → IsFinding t file rev k
          pick (inl e) = of_first s e
          pick (inr e) = rec e

  file-there : (files : List (List ℕ)) (file : List ℕ) → among file files ≡ true → not (length (bytes_at t file) == 0) ≡ true → list_any (is_finding file None 12) (flat_map (of_file t) files) ≡ true
  file-there [] file e h = never (sym e)
  file-there (x ∷ files) file e h = by (same file x) refl e (λ g. file-there files file g h)
    where
      by : (b : Bool) → same file x ≡ b → (b || among file files) ≡ true → (among file files ≡ true → list_any (is_finding file None 12) (flat_map (of_file t) files) ≡ true) → list_any (is_finding file None 12) (of_file t x ++ flat_map (of_file t) files) ≡ true
      by true s g rec =
          in-front (is_finding file None 12) (of_file t x) (flat_map (of_file t) files)
          (ap (λ y. list_any (is_finding file None 12) (of_file t y)) (sym ((bytes_decides file x).0 s)) ∙ is-file (not (length (bytes_at t file) == 0)) file 12 h)
      by false s g rec = in-back (is_finding file None 12) (of_file t x) (flat_map (of_file t) files) (rec g)

  pub unused-added : (old new : List Finding) → new ≡ old ++ flat_map (λ file. file_if (not (length (bytes_at t file) == 0)) file 12) (unused_in t) → Adds t (IsOfUnused t) old new
  unused-added old new e = list-added t (IsOfUnused t) old new (flat_map (of_file t) (unused_in t)) e (names-are (names_in t) (λ name h. h)) all
    where
      all : (file : List ℕ) (rev : Option ℕ) (k : ℕ) → IsOfUnused t file rev k → list_any (is_finding file rev k) (flat_map (of_file t) (unused_in t)) ≡ true
      all _ _ _ (standing file a h) = file-there (unused_in t) file a (ap not h)
