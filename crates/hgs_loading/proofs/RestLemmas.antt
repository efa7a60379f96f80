-- What was read at the place of a span.
use Rattle.std.proofs.Common.{◌≡◌, ℕ, List, [], Option, Some, Result, Ok, sym, ◌∙◌, ap}
use Rattle.std.specs.Prelude.{unwrap_or}
use Rattle.hgs_files.specs.Tree.{Tree, bytes_at}
use Rattle.hgs_index.specs.declared.kinds.Span.{Span}
use Rattle.hgs_load.specs.declared.answer.ReadAnswer.{ReadAnswer}
use Rattle.hgs_load.specs.Asks.{part_of}
use Rattle.hgs_reader.specs.Find.{chunk_placed}
use Rattle.hgs_loading.proofs.PartLemmas.{part-bytes}

-- It is what stands there.
pub placed-found : (t : Tree) (file : List ℕ) (o : Option Span) (span : Span) (part : Option (List ℕ)) (bytes : List ℕ) → o ≡ Some span → bytes ≡ unwrap_or part [] → part ≡ part_of t file span.from span.len → (let g : Result (List ℕ) ReadAnswer = Ok (chunk_placed (bytes_at t file) o) in g) ≡ Ok bytes
placed-found t file o span part bytes s b p = ap (λ q. let g : Result (List ℕ) ReadAnswer = Ok (chunk_placed (bytes_at t file) q) in g) s ∙ ap (λ l. Ok l) (sym (part-bytes (t file) span.from span.len) ∙ ap (λ o. unwrap_or o []) (sym p) ∙ sym b)
