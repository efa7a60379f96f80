-- The nodes and the texts of a revlog that was loaded.
use Rattle.std.proofs.Common.{◌≡◌, ℕ, zero, suc, List, [], ◌∷◌, length, sym, ◌∙◌, ap}
use Rattle.std.specs.Prelude.{◌<◌, Option, Some, None, Ok, slice_get, slice_index_or}
use Rattle.hgs_files.specs.Tree.{Tree}
use Rattle.hgs_index.specs.declared.entry.Entry.{Entry}
use Rattle.hgs_index.specs.Node.{null_node}
use Rattle.hgs_index.specs.Revision.{Revision, parent_node}
use Rattle.hgs_loading.specs.Logs.{chunk_in_form, text_in_form}
use Rattle.hgs_model.specs.History.{node_at, text_at}
use Rattle.hgs_model.specs.Theorems.ListedLemmas.{there}
use Rattle.hgs_reader.specs.Find.{text_answer}
use Rattle.hgs_reader.specs.Theorems.EntryLemmas.{entry-there}
use Rattle.hgs_revlog.specs.Held.{chunk_in}
use Rattle.hgs_revlog.specs.Log.{nodes_of, place_of}
use Rattle.hgs_revlog.specs.Text.{text_of}
use Rattle.hgs_commit.specs.Texts.{OfLog}
use Rattle.hgs_writer.specs.Logs.{IsLogOf, held_chunks}

pub entry-node : (entries : List Entry) (rev : ℕ) (e : Entry) → slice_get entries rev ≡ Some e → slice_index_or (nodes_of entries) rev null_node ≡ e.node.0
entry-node [] rev e h = absurd (no h)
  where
    no : None ≡ Some e → ⊥
    no x = cc
entry-node (x ∷ entries) zero e h = ap (λ (o : Option Entry). elim o [ None ↦ null_node | Some z ↦ z.node.0 ]) h
entry-node (x ∷ entries) (suc rev) e h = entry-node entries rev e h

-- the entry of a revision, whose chunk is read as its text
pub entry-of : (t : Tree) (f : OfLog) (revisions : List Revision) (rev : ℕ) → IsLogOf t f revisions → rev < length revisions
    → (e : Entry) × (slice_get f.log.entries rev ≡ Some e) × (text_of f.log.entries rev (chunk_in (held_chunks t f) e) ≡ Ok (text_at revisions rev))
entry-of t f revisions rev is lt =
    let r = there revisions rev lt in
    let e = entry-there f.log.entries (held_chunks t f) revisions rev r.0 is.texts r.1 in
    (e.0, e.1, e.2 ∙ ap (λ text. Ok text) r.2)

pub node-of : (t : Tree) (f : OfLog) (revisions : List Revision) (rev : ℕ) → IsLogOf t f revisions → parent_node (nodes_of f.log.entries) (Some rev) ≡ node_at revisions rev
node-of t f revisions rev is = ap (λ (known : List (List ℕ)). slice_index_or known rev null_node) is.nodes_are

-- a revision is found by its node
pub place-of : (t : Tree) (f : OfLog) (revisions : List Revision) (rev : ℕ) → IsLogOf t f revisions → rev < length revisions → place_of f.log.entries (node_at revisions rev) ≡ Some rev
place-of t f revisions rev is lt =
    let e = entry-of t f revisions rev is lt in
    ap (place_of f.log.entries) (sym (node-of t f revisions rev is) ∙ entry-node f.log.entries rev e.0 e.1) ∙ is.entries.own rev e.0 e.1

-- and its text is in the chunk that is read
pub text-of-chunk : (t : Tree) (f : OfLog) (revisions : List Revision) (rev : ℕ) → IsLogOf t f revisions → rev < length revisions → text_of f.log.entries rev (chunk_in_form f.index f.chunks f.log rev t) ≡ Ok (text_at revisions rev)
text-of-chunk t f revisions rev is lt =
    let e = entry-of t f revisions rev is lt in
    ap (text_of f.log.entries rev) (is.places rev e.0 e.1) ∙ e.2

pub text-in : (t : Tree) (f : OfLog) (revisions : List Revision) (rev : ℕ) → IsLogOf t f revisions → rev < length revisions → text_in_form f.index f.chunks f.log rev t ≡ Ok (text_at revisions rev)
text-in t f revisions rev is lt = ap (text_answer f.index) (text-of-chunk t f revisions rev is lt)
