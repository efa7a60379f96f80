-- The entry that is appended of a new text is read behind those of its revlog as the next one.
use Rattle.std.proofs.Common.{◌≡◌, ℕ, List, [], ◌∷◌, ◌++◌, Bool, true, false, cond, length, refl, sym, ◌∙◌, ap}
use Rattle.std.specs.Prelude.{◌<◌, ◌^◌, Option, Some, None, IfSome, Result, Ok, Err}
use Rattle.std.specs.Option.{option_map}
use Rattle.hgs_bytes.specs.Bytes.{same}
use Rattle.hgs_files.specs.Tree.{Tree}
use Rattle.hgs_index.specs.declared.entry.Entry.{Entry}
use Rattle.hgs_index.specs.declared.node.Node.{Node}
use Rattle.hgs_index.specs.Node.{null_node}
use Rattle.hgs_index.specs.Revision.{Revision}
use Rattle.hgs_loading.specs.Found.{and_then}
use Rattle.hgs_loading.specs.Logs.{chunk_in_form}
use Rattle.hgs_load.specs.declared.answer.ReadAnswer.{ReadAnswer}
use Rattle.hgs_revlog.specs.Add.{added, next_entry}
use Rattle.hgs_revlog.specs.Load.{after, entry_behind}
use Rattle.hgs_revlog.specs.Log.{Log, place_of, with_entry}
use Rattle.hgs_revlog.specs.declared.add.Added.{Added}
use Rattle.hgs_revlog.specs.declared.add.Added.TheVariants.{New, Old}
use Rattle.hgs_revlog.specs.declared.fault.RevFault.{RevFault}
use Rattle.hgs_revlog.specs.declared.fault.RevFault.TheVariants.{Collision, Limit}
use Rattle.hgs_commit.specs.declared.growth.Became.TheVariants.{New as NewRevision}
use Rattle.hgs_commit.specs.Commit.{entries_with, with_parsed}
use Rattle.hgs_commit.specs.Obstacles.{Obstacle}
use Rattle.hgs_commit.specs.Revised.{revised}
use Rattle.hgs_commit.specs.Texts.{OfGrowth, OfLog, OfText, growth_as, growth_of, new_text_in, new_text_of, revlog_answer}
use Rattle.hgs_writer.specs.StepsBelow.{StepsBelow}
use Rattle.hgs_writer.proofs.Basics.{ok-is}

-- what is appended is that of a new revision, whose node is not the null node
record IsNew (f : OfLog) (r : Revision) (a : Result Added RevFault) (x : OfText) (g : OfGrowth) : Type 0 where
  entry : List ℕ
  chunk : List ℕ
  node : Node
  added_is : a ≡ Ok (New entry chunk node)
  some_node : same null_node (next_entry f.log.entries r).node.0 ≡ false
  growth : g ≡ growth_of f entry chunk
  node_is : x.node ≡ (next_entry f.log.entries r).node.0

none-grown : {B : Type 0} (x : OfText × List Obstacle) (y : OfText × List Obstacle) (g : OfGrowth) → y ≡ x → y.0.growth ≡ None → x.0.growth ≡ Some g → B
none-grown x y g e none some = absurd (no (sym none ∙ ap (λ (z : OfText × List Obstacle). z.0.growth) e ∙ some))
  where
    no : ◌≡◌ {A = Option OfGrowth} None (Some g) → ⊥
    no h = cc

some-is : (x y : OfGrowth) → Some x ≡ Some y → x ≡ y
some-is x y e = cc

abbrev text_by : OfLog → Revision → Result Added RevFault → Result (OfText × List Obstacle) ReadAnswer
text_by f r a = and_then (revlog_answer f.index (revised f.log r a)) (λ became. Ok (new_text_of f became))

is-new : (f : OfLog) (r : Revision) (a : Result Added RevFault) (x : OfText × List Obstacle) (g : OfGrowth) → text_by f r a ≡ Ok x → x.0.growth ≡ Some g → IsNew f r a x.0 g
is-new f r (Ok (Old rev)) x g e some = none-grown x (record { node = (next_entry f.log.entries r).node.0; standing = Some rev; growth = None }, []) g (ok-is {E = ReadAnswer} _ x e) refl some
is-new f r (Ok (New entry chunk node)) x g e some = by (same null_node (next_entry f.log.entries r).node.0) refl (ap (λ (z : OfText × List Obstacle). z.0.growth) is ∙ some)
  where
    made : OfText × List Obstacle
    made = new_text_of f (record { node = (next_entry f.log.entries r).node; became = NewRevision entry chunk })

    is : made ≡ x
    is = ok-is {E = ReadAnswer} made x e

    by : (b : Bool) → same null_node (next_entry f.log.entries r).node.0 ≡ b → cond b None (Some (growth_of f entry chunk)) ≡ Some g → IsNew f r (Ok (New entry chunk node)) x.0 g
    by true n h = absurd (no h)
      where
        no : ◌≡◌ {A = Option OfGrowth} None (Some g) → ⊥
        no k = cc
    by false n h = record { entry = entry; chunk = chunk; node = node; added_is = refl; some_node = n; growth = sym (some-is (growth_of f entry chunk) g h); node_is = sym (ap (λ (z : OfText × List Obstacle). z.0.node) is) }
is-new f r (Err (Collision rev)) x g e some = none-grown x _ g (ok-is {E = ReadAnswer} _ x e) refl some
is-new f r (Err (Limit which)) x g e some = none-grown x _ g (ok-is {E = ReadAnswer} _ x e) refl some
is-new f r (Err fault) x g e some = cc

-- ---- the entry behind the others

entries-after : (log : Log) (e : Entry) (a : Result Entry RevFault) → after a (λ x. Ok (with_entry log x)) ≡ Ok (with_entry log e) → with_parsed log.entries a ≡ log.entries ++ e ∷ []
entries-after log e (Ok x) h = ap (λ (y : Log). y.entries) (ok-is {E = RevFault} (with_entry log x) (with_entry log e) h)
entries-after log e (Err fault) h = cc

pub record IsPushed (f : OfLog) (r : Revision) (x : OfText) (g : OfGrowth) : Type 0 where
  pub entries : entries_with f.log.entries g.entry.bytes ≡ f.log.entries ++ next_entry f.log.entries r ∷ []
  pub node : x.node ≡ (next_entry f.log.entries r).node.0

pub pushed-of : (laws : StepsBelow) (t : Tree) (f : OfLog) (r : Revision) (x : OfText × List Obstacle) (g : OfGrowth) → f.log.inline ≡ false → IfSome r.parents.0 (λ p. p < length f.log.entries) → IfSome r.parents.1 (λ p. p < length f.log.entries) → r.link < 2 ^ 31
    → new_text_in f r t ≡ Ok x → x.0.growth ≡ Some g → IsPushed f r x.0 g
pushed-of laws t f r x g separate first second link e some =
    let standing = option_map (λ rev. chunk_in_form f.index f.chunks f.log rev t) (place_of f.log.entries (next_entry f.log.entries r).node.0) in
    let is = is-new f r (added f.log r standing) x g e some in
    let node = laws.named f.log r standing is.entry is.chunk is.node is.added_is in
    let push = laws.taken f.log r standing is.entry is.chunk is.node separate first second link (ap (λ (n : Node). same null_node n.0) node ∙ is.some_node) is.added_is in
    record {
      entries = ap (λ (y : OfGrowth). entries_with f.log.entries y.entry.bytes) is.growth ∙ ap (λ b. entries_with f.log.entries (growth_as b f is.entry is.chunk).entry.bytes) separate ∙ entries-after f.log (next_entry f.log.entries r) (entry_behind f.log.entries is.entry) push;
      node = is.node_is;
    }
