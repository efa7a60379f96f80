use Rattle.std.proofs.Common.{rules, ℕ, zero, suc, ◌<◌, ◌≤◌, ◌^◌, ◌≡◌, ◌++◌, List, [], ◌∷◌, true, length, refl, sym, subst, arith}
use Rattle.std.specs.Prelude.{codes, decimal, IfSome}
use Rattle.std.specs.List.{AllByRecursion, list_all}
use Rattle.std.proofs.lemmas.Fmt.{length-decimal-le, IsAscii-decimal}
use Rattle.std.proofs.lemmas.Str.{IsUtf8-from_ascii, IsAscii-append}
use Rattle.hgs_bytes.specs.Text.{Lacks}
use Rattle.hgs_index.specs.TrackedPath.{is_tracked}
use Rattle.hgs_model.specs.declared.files.NewFile.{NewFile}
use Rattle.hgs_model.specs.Valid.{IsNewChange, is_source, new_paths}
use Rattle.hgs_gen.specs.Generated.{generated, files_after, parents_of}
use Rattle.hgs_gen.proofs.PathLemmas.{IsGood, no_directory}
use Rattle.hgs_gen.proofs.ChangeLemmas.{files-good, files-ascend, files-few, number-lacks, IsFile}
use Rattle.hgs_gen.proofs.laws.generated_changes_are_valid.Goals as goal

parents-few : (made : ℕ) → length (parents_of made) ≤ 2
parents-few zero = omega arith
parents-few (suc n) = omega arith

parents-lack : (made : ℕ) → made < 20000 → AllByRecursion (Lacks 10) (parents_of made)
parents-lack zero few = tt
parents-lack (suc n) few = (number-lacks n (omega (arith, few)), tt)

tracked : (files : List NewFile) → AllByRecursion IsFile files → list_all is_tracked (new_paths files) ≡ true
tracked [] all = refl
tracked (f ∷ files) all = rw (all.0.path.tracked, tracked files all.1)

all-good : (files : List NewFile) → AllByRecursion IsFile files → AllByRecursion IsGood (new_paths files)
all-good [] all = tt
all-good (f ∷ files) all = (all.0.path, all-good files all.1)

no-sources : (files : List NewFile) → AllByRecursion IsFile files → AllByRecursion (λ (f : NewFile). IfSome f.from (λ path. is_source path ≡ true)) files
no-sources [] all = tt
no-sources (f ∷ files) all = (subst (λ o. IfSome o (λ path. is_source path ≡ true)) (sym all.0.source) tt, no-sources files all.1)

all-short : (files : List NewFile) → AllByRecursion IsFile files → AllByRecursion (λ (f : NewFile). length f.body ≤ 16777216) files
all-short [] all = tt
all-short (f ∷ files) all = let short = all.0.short in (omega (arith, short), all-short files all.1)

valid : (seed made : ℕ) → seed < 2 ^ 64 → made < 20000 → IsNewChange (generated seed made)
valid seed made a b =
    let files = files-good seed (suc made) a (omega (arith, b)) in
    let small : made < 2 ^ 64 = omega (arith, b) in
    let digits = length-decimal-le 20 made (omega arith) (omega (arith, b)) small in
    record {
      parents = parents-few made;
      names = parents-lack made b;
      user_utf8 = IsUtf8-from_ascii (codes "gen") (search rules);
      user_least = omega arith;
      user_most = omega arith;
      user_line = refl;
      seconds = search (rules, b);
      offset = search rules;
      bookmark = tt;
      branch = tt;
      description = IsUtf8-from_ascii (codes "c" ++ decimal made) (IsAscii-append (codes "c") (decimal made) (search rules) (IsAscii-decimal made small));
      description_most = omega (arith, digits);
      count = let few = files-few seed (suc made) in omega (arith, few, b);
      paths = tracked (files_after seed (suc made)) files;
      ordered = files-ascend seed (suc made);
      apart = no_directory (new_paths (files_after seed (suc made))) (all-good (files_after seed (suc made)) files);
      sources = no-sources (files_after seed (suc made)) files;
      bodies = all-short (files_after seed (suc made)) files;
    }

pub returns : goal.returns
returns c = valid
