-- Entries of revisions that are read, and the one that ends an index.
use Rattle.std.proofs.Common.{◌≡◌, ℕ, suc, ◌+◌, ◌*◌, ◌/◌, ◌≤◌, List, [], true, false, length, Some, Ok, sym, ◌∙◌, ap, arith}
use Rattle.std.specs.Prelude.{slice_get}
use Rattle.hgs_index.specs.declared.entry.Entry.{Entry}
use Rattle.hgs_index.specs.declared.node.Node.{Node}
use Rattle.hgs_index.specs.Revision.{Revision}
use Rattle.hgs_revlog.specs.declared.fault.Tail.TheVariants.{Until}
use Rattle.hgs_revlog.specs.Held.{chunk_in, read_all}
use Rattle.hgs_revlog.specs.Load.{loaded}
use Rattle.hgs_revlog.specs.Log.{Log}
use Rattle.hgs_revlog.specs.Text.{text_of}
use Rattle.hgs_revlog.specs.Theorems.TailLemmas.{until-refuse}
use Rattle.hgs_reader.specs.Find.{has_node}
use Rattle.hgs_reader.specs.Theorems.HeldLemmas.{ending, read_there}

pub entry-there : (entries : List Entry) (data_bytes : List ℕ) (revisions : List Revision) (rev : ℕ) (r : Revision) → read_all entries data_bytes ≡ Ok revisions → slice_get revisions rev ≡ Some r → (e : Entry) × (slice_get entries rev ≡ Some e) × (text_of entries rev (chunk_in data_bytes e) ≡ Ok r.text)
entry-there entries data_bytes revisions rev r texts at =
    let there = read_there entries entries data_bytes 0 rev revisions r texts at in
    let from_first : 0 + rev ≡ rev = omega arith in
    (there.0, there.1, ap (λ n. text_of entries n (chunk_in data_bytes there.0)) (sym from_first) ∙ there.2)

pub node-last : (index : List ℕ) (log : Log) (node : Node) → loaded (Until node) index ≡ Ok log → (k : ℕ) × (has_node node.0 k index ≡ false) × (has_node node.0 (suc k) index ≡ true) × (64 * suc k ≤ length index)
node-last index log node loads =
    let r = until-refuse index log node loads in
    let e = ending node (length index / 64) (record { inline = false; entries = [] }) log index loads in
    (e.0, e.2, e.3, (let l = e.1 in let fits = r.2 in omega (arith, l, fits)))
