-- What is no job.
use Rattle.std.proofs.Common.{◌≡◌, ℕ, false, List, [], ◌∷◌, ◌++◌, Some, sym, ◌∙◌, ap, codes}
use Rattle.hgs_bytes.specs.Bytes.{same}
use Rattle.hgs_bytes.specs.Text.{Lacks, split}
use Rattle.hgs_bytes.specs.Theorems.TextLemmas.{split_over}
use Rattle.hgs_input.specs.Read.{number_up_to}
use Rattle.hgs_script.specs.declared.job.Job.{Job}
use Rattle.hgs_script.specs.Read.{most_workers, job_of}
use Rattle.hgs_schedule.specs.Theorems.LineLemmas.{unlike}
use Rattle.hgs_schedule.specs.Theorems.ReadLemmas.{some_is, none_some}

pub lacks_behind : (byte : ℕ) (xs ys : List ℕ) → Lacks byte (xs ++ ys) → Lacks byte ys
lacks_behind byte [] ys h = h
lacks_behind byte (x ∷ xs) ys h = lacks_behind byte xs ys h.1

-- words that say a job are not those of a commit
pub no_commit : (said : List ℕ) (job : Job) → job_of said ≡ Some job → same said (codes "commit") ≡ false
no_commit said job says = unlike said (codes "commit") (λ is. none_some job (ap job_of (sym is) ∙ says))

-- a line that begins with a number is not the last
pub no_end : (word said : List ℕ) (worker : ℕ) → Lacks 32 word → number_up_to most_workers word ≡ Some worker → same (word ++ 32 ∷ said) (codes "end session") ≡ false
no_end word said worker lacks number = unlike (word ++ 32 ∷ said) (codes "end session") (λ is. none_some worker (ap (number_up_to most_workers) (word_is is) ∙ number))
  where
    word_is : word ++ 32 ∷ said ≡ codes "end session" → codes "end" ≡ word
    word_is is = ap (λ (p : List ℕ × List ℕ). p.0) (some_is (codes "end", codes "session") (word, said) (sym (ap (split 32) is) ∙ split_over 32 word said lacks))
