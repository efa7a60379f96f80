-- No limit is passed where a report is given.
use Rattle.std.proofs.Common.{◌≡◌, ◌||◌, ◌++◌, ℕ, Bool, true, false, cond, List, [], ◌∷◌, refl, sym, ◌∙◌, ap, subst}
use Rattle.std.specs.Prelude.{Option, Some, None, IfSome, Result, Ok, Err, unwrap_or}
use Rattle.std.specs.Cmp.Lexicographic.{bytes_decides}
use Rattle.hgs_bytes.specs.Bytes.{among, same}
use Rattle.hgs_files.specs.declared.op.Op.{Op}
use Rattle.hgs_files.specs.Tree.{Tree, after_all, bytes_at}
use Rattle.hgs_findings.specs.Reading.{index_in, the_changelog, the_filelog, the_manifest}
use Rattle.hgs_index.specs.declared.kinds.Which.TheVariants.{Part}
use Rattle.hgs_judge.specs.Read.{KeepsLimits}
use Rattle.hgs_load.specs.declared.answer.ReadAnswer.{ReadAnswer}
use Rattle.hgs_load.specs.declared.answer.ReadAnswer.TheVariants.{Limit}
use Rattle.hgs_load.specs.Form.{most_inline_index}
use Rattle.hgs_load.specs.Open.{most_bookmarks_text, most_dirstate, most_roots}
use Rattle.hgs_load.specs.Whole.{is_above, within}
use Rattle.hgs_stands.specs.Places.{bookmarks_path, changelog_index, dirstate_path, fncache_path, manifest_index, roots_path}
use Rattle.hgs_verify.specs.declared.task.Task.{Task}
use Rattle.hgs_verify.specs.Parts.{HaveShortLogs, is_long_inline}
use Rattle.hgs_verify.specs.Refusal.{LogsKeepLimits, PartsKeepLimits, PassesNone, PathsKeepLimits, long_index, long_log, long_text, most_fncache}
use Rattle.hgs_verify.specs.Task.{IsReadOf}

never : {A : Type 0} → true ≡ false → A
never e = absurd (no_case e)
  where
    no_case : true ≡ false → ⊥
    no_case h = cc

-- ---- files that are short enough

not-above : (most : ℕ) (o v : Option (List ℕ)) → within most Ok o ≡ Ok v → is_above most o ≡ false
not-above most o v h = by (is_above most o) refl h
  where
    by : (b : Bool) → is_above most o ≡ b → (let r : Result (Option (List ℕ)) ReadAnswer = cond b (Err (Limit Part)) (Ok o) in r) ≡ Ok v → is_above most o ≡ false
    by false a k = a
    by true a k = absurd (clash k)
      where
        clash : (let r : Result (Option (List ℕ)) ReadAnswer = Err (Limit Part) in r) ≡ Ok v → ⊥
        clash m = cc

-- a file that was read whole is not longer than may be
pub text-short : (seen : Option (List Op)) (start : Tree) (most : ℕ) (path place : List ℕ) (text : Option (List ℕ)) → path ≡ place → IfSome seen (λ log. within most Ok (after_all log start path) ≡ Ok text) → IfSome seen (λ log. is_above most (after_all log start place) ≡ false)
text-short None start most path place text e h = tt
text-short (Some log) start most path place text e h = not-above most (after_all log start place) text (ap (λ p. within most Ok (after_all log start p)) (sym e) ∙ h)

-- ---- filelogs

-- none of no paths, of some after others, and of one before others
pub no-paths : (t : Tree) → PathsKeepLimits [] t
no-paths t path h = never (sym h)

pub both-paths : (t : Tree) (xs ys : List (List ℕ)) → PathsKeepLimits xs t → PathsKeepLimits ys t → PathsKeepLimits (xs ++ ys) t
both-paths t [] ys p q = q
both-paths t (x ∷ xs) ys p q = λ path h. by (both-paths t xs ys (λ other there. p other (later (same other x) (among other xs) there)) q) path (same path x) refl h
  where
    later : (a b : Bool) → b ≡ true → (a || b) ≡ true
    later true b e = refl
    later false b e = e

    by : PathsKeepLimits (xs ++ ys) t → (path : List ℕ) (b : Bool) → same path x ≡ b → (b || among path (xs ++ ys)) ≡ true → KeepsLimits (index_in t (the_filelog path))
    by rest path true s h = p path (ap (λ b. b || among path xs) s)
    by rest path false s h = rest path h

pub one-path : (t : Tree) (task : Task) (paths : List (List ℕ)) → IsReadOf task t → KeepsLimits (unwrap_or task.parts.index []) → PathsKeepLimits paths t → PathsKeepLimits (task.path ∷ paths) t
one-path t task paths read keeps more = λ path h. by path (same path task.path) refl h
  where
    by : (path : List ℕ) (b : Bool) → same path task.path ≡ b → (b || among path paths) ≡ true → KeepsLimits (index_in t (the_filelog path))
    by path true s h = subst (λ p. KeepsLimits (index_in t (the_filelog p))) (sym ((bytes_decides path task.path).0 s)) (subst KeepsLimits read.0 keeps)
    by path false s h = more path h

-- the paths that are left are those that come next
pub paths-left : (t : Tree) (tasks left all : List (List ℕ)) → tasks ++ left ≡ all → PathsKeepLimits (tasks ++ left) t → PathsKeepLimits all t
paths-left t tasks left all e p = subst (λ l. PathsKeepLimits l t) e p

-- ---- the whole

either-short : (a b : Bool) → a ≡ false → b ≡ false → (a || b) ≡ false
either-short false b p q = q
either-short true b p q = never p

pub passes-none : (t : Tree) → HaveShortLogs t → LogsKeepLimits t → PartsKeepLimits t → PassesNone t
passes-none t short logs parts which (long_text h is) = never (sym h ∙ texts)
  where
    texts : (is_above most_roots (t roots_path) || is_above most_bookmarks_text (t bookmarks_path) || is_above most_dirstate (t dirstate_path) || is_above most_fncache (t fncache_path)) ≡ false
    texts =
        either-short (is_above most_roots (t roots_path) || is_above most_bookmarks_text (t bookmarks_path) || is_above most_dirstate (t dirstate_path)) (is_above most_fncache (t fncache_path))
        (either-short (is_above most_roots (t roots_path) || is_above most_bookmarks_text (t bookmarks_path)) (is_above most_dirstate (t dirstate_path))
        (either-short (is_above most_roots (t roots_path)) (is_above most_bookmarks_text (t bookmarks_path)) parts.texts.roots parts.texts.bookmarks) parts.texts.dirstate)
        parts.names
passes-none t short logs parts which (long_log h is) = never (sym h ∙ either-short (is_long_inline most_inline_index (bytes_at t changelog_index)) (is_long_inline most_inline_index (bytes_at t manifest_index)) short.changelog short.manifest)
passes-none t short logs parts which (long_index the_changelog r h) = logs.0 which h
passes-none t short logs parts which (long_index the_manifest r h) = logs.1 which h
passes-none t short logs parts which (long_index (the_filelog path) r h) = parts.paths path r which h
