-- A filelog without revisions, in the form in which it begins.
use Rattle.std.proofs.Common.{◌≡◌, ◌⊎◌, ◌<◌, ℕ, ◌*◌, Bool, true, false, cond, ◌==◌, nat_le, inl, inr, List, [], ◌∷◌, ◌++◌, length, refl, sym, ◌∙◌, ap, subst, arith}
use Rattle.std.specs.Prelude.{Result, Ok, slice_get}
use Rattle.std.proofs.lemmas.Bool.Decides.{nat_tests}
use Rattle.std.proofs.lemmas.List.{length-map}
use Rattle.hgs_files.specs.Tree.{Tree, bytes_at}
use Rattle.hgs_index.specs.declared.entry.Entry.{Entry}
use Rattle.hgs_index.specs.Either.{chunk_bytes}
use Rattle.hgs_index.specs.Inline.{chunks_apart}
use Rattle.hgs_index.specs.Revision.{Revision, with_revision}
use Rattle.hgs_loading.specs.Found.{and_then}
use Rattle.hgs_loading.specs.Logs.{data_in}
use Rattle.hgs_load.specs.declared.answer.ReadAnswer.{ReadAnswer}
use Rattle.hgs_model.specs.Theorems.ListedLemmas.{length-nodes}
use Rattle.hgs_model.specs.Theorems.ListLemmas.{none-some}
use Rattle.hgs_ops.specs.Growth.{grows_inline}
use Rattle.hgs_revlog.specs.Held.{read_all}
use Rattle.hgs_revlog.specs.Log.{stored_sum}
use Rattle.hgs_commit.specs.Files.{formed, place_in, standing_at}
use Rattle.hgs_commit.specs.Obstacles.{Obstacle}
use Rattle.hgs_commit.specs.Texts.{OfLog}
use Rattle.hgs_writer.specs.Growth.{IsWhole, index_end}
use Rattle.hgs_writer.specs.Logs.{IsLogOf, held_chunks}

pub count-is : (t : Tree) (f : OfLog) (revisions : List Revision) → IsLogOf t f revisions → length f.log.entries ≡ length revisions
count-is t f revisions is = omega (arith, length-map f.log.entries (λ (x : Entry). x.node.0), ap length is.nodes_are, length-nodes revisions)

pub some-length : (n : ℕ) → 0 < n → (n == 0) ≡ false
some-length n some = grind (arith, nat_tests)

pub no-entries : (entries : List Entry) → length entries ≡ 0 → entries ≡ []
no-entries [] e = refl
no-entries (x ∷ entries) e = absurd (omega (arith, e))

pub some-or-none : (revisions : List Revision) → (revisions ≡ []) ⊎ (0 < length revisions)
some-or-none [] = inl refl
some-or-none (r ∷ revisions) = inr (omega arith)

-- ---- the form that a first text says

-- a filelog with revisions keeps its form
pub formed-same : (f : OfLog) (text : List ℕ) → 0 < length f.log.entries → formed f text ≡ f
formed-same f text some = ap made (some-length (length f.log.entries) some)
  where
    made : Bool → OfLog
    made b = record { index = f.index; chunks = f.chunks; log = record { inline = cond b (nat_le (length text) 4096) f.log.inline; entries = f.log.entries } }

-- in either form it has the revisions that it has
pub formed-log : (t : Tree) (f : OfLog) (revisions : List Revision) (text : List ℕ) → IsLogOf t f revisions → IsLogOf t (formed f text) revisions
formed-log t f [] text is = record {
  entries = is.entries;
  form = tt;
  texts = ap (λ (es : List Entry). read_all es (held_chunks t (formed f text))) none;
  places = λ rev e there. none-some e (ap (λ (es : List Entry). slice_get es rev) (sym none) ∙ there);
  nodes_are = is.nodes_are;
  different = is.different;
  parents_are = is.parents_are;
}
  where
    none : f.log.entries ≡ []
    none = no-entries f.log.entries (count-is t f [] is)
formed-log t f (r ∷ revisions) text is = subst (λ (g : OfLog). IsLogOf t g (r ∷ revisions)) (sym (formed-same f text (omega (arith, count-is t f (r ∷ revisions) is)))) is

-- it is the form in which the filelog grows
pub form-grows : (t : Tree) (f : OfLog) (revisions : List Revision) (r : Revision) (text : List ℕ) → IsLogOf t f revisions → text ≡ r.text → (formed f text).log.inline ≡ grows_inline (bytes_at t f.index) revisions (with_revision revisions r)
form-grows t f [] r text is e = ap (λ n. cond (n == 0) (nat_le (length text) 4096) f.log.inline) (count-is t f [] is) ∙ ap (λ (l : List ℕ). nat_le (length l) 4096) e
form-grows t f (x ∷ revisions) r text is e = ap (λ b. cond b (nat_le (length text) 4096) f.log.inline) (some-length (length f.log.entries) (omega (arith, count-is t f (x ∷ revisions) is))) ∙ is.form

-- and what holds of any obstacles and of its place in its own form holds of its place in that form
pub place-formed : (P : Result (List Obstacle) ReadAnswer → Type 0) (t : Tree) (f : OfLog) (text : List ℕ) → ((obstacles : List Obstacle) → P (Ok obstacles)) → P (place_in f t) → P (place_in (formed f text) t)
place-formed P t f text any own = by (length f.log.entries == 0) own
  where
    free : Bool → List Obstacle
    free inline = standing_at f.index t ++ cond inline [] (standing_at f.chunks t)

    ends : Bool → Result (List Obstacle) ReadAnswer
    ends inline = and_then (cond inline (Ok tt) (data_in f.index f.chunks f.log t)) (λ x. Ok [])

    by : (b : Bool) → P (cond b (Ok (free f.log.inline)) (ends f.log.inline)) → P (cond b (Ok (free (cond b (nat_le (length text) 4096) f.log.inline))) (ends (cond b (nat_le (length text) 4096) f.log.inline)))
    by true own = any (free (nat_le (length text) 4096))
    by false own = own

-- ---- lengths

end-none : (b : Bool) (entries : List Entry) → length entries ≡ 0 → index_end b entries ≡ 0
end-none b [] e = by b
  where
    by : (b : Bool) → index_end b [] ≡ 0
    by true = refl
    by false = refl
end-none b (x ∷ entries) e = absurd (omega (arith, e))

sum-none : (entries : List Entry) → length entries ≡ 0 → stored_sum entries ≡ 0
sum-none [] e = refl
sum-none (x ∷ entries) e = absurd (omega (arith, e))

no-chunks : (b : Bool) (index data_bytes : List ℕ) → index ≡ [] → (b ≡ false → data_bytes ≡ []) → chunk_bytes b index data_bytes ≡ []
no-chunks true index data_bytes empty plain = ap chunks_apart empty
no-chunks false index data_bytes empty plain = plain refl

-- a revlog without entries whose files have no bytes, of an inline one its index
pub whole-empty : (t : Tree) (f : OfLog) → length f.log.entries ≡ 0 → bytes_at t f.index ≡ [] → (f.log.inline ≡ false → bytes_at t f.chunks ≡ []) → IsWhole t f
whole-empty t f none index chunks = record {
  entries = ap length index ∙ sym (end-none f.log.inline f.log.entries none);
  chunks = ap length (no-chunks f.log.inline (bytes_at t f.index) (bytes_at t f.chunks) index chunks) ∙ sym (sum-none f.log.entries none);
}

-- the chunks of a whole revlog in the form in which it grows
pub whole-chunks : (t : Tree) (f : OfLog) (inline : Bool) → f.log.inline ≡ inline → IsWhole t f → length (chunk_bytes inline (bytes_at t f.index) (bytes_at t f.chunks)) ≡ stored_sum f.log.entries
whole-chunks t f inline is whole = ap (λ b. length (chunk_bytes b (bytes_at t f.index) (bytes_at t f.chunks))) (sym is) ∙ whole.chunks

-- one that has revisions grows in its own form
pub form-stays : (t : Tree) (f : OfLog) (revisions all : List Revision) → 0 < length revisions → IsLogOf t f revisions → f.log.inline ≡ grows_inline (bytes_at t f.index) revisions all
form-stays t f [] all some is = absurd (omega (arith, some))
form-stays t f (r ∷ revisions) all some is = is.form

-- the two files of a separate revlog
pub separate-chunks : (t : Tree) (f : OfLog) → f.log.inline ≡ false → IsWhole t f → length (bytes_at t f.chunks) ≡ stored_sum f.log.entries
separate-chunks t f separate whole = ap (λ b. length (chunk_bytes b (bytes_at t f.index) (bytes_at t f.chunks))) (sym separate) ∙ whole.chunks

pub separate-entries : (t : Tree) (f : OfLog) → f.log.inline ≡ false → IsWhole t f → length (bytes_at t f.index) ≡ 64 * length f.log.entries
separate-entries t f separate whole = whole.entries ∙ ap (λ b. index_end b f.log.entries) separate
