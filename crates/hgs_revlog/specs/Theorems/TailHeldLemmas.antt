-- What each way to take the end of an index finds of the revisions that the bytes hold.
use Rattle.std.proofs.Common.{◌≡◌, ℕ, zero, suc, ◌+◌, ◌-◌, ◌*◌, ◌/◌, Bool, cond, not, ◌&&◌, List, [], ◌∷◌, length, take, drop, map, Some, None, Ok, Err, refl, sym, ◌∙◌, ap, arith, length-append}
use Rattle.std.specs.Prelude.{position, slice_get, nat_lt}
use Rattle.std.specs.List.{position_or_len}
use Rattle.std.proofs.lemmas.List.{take-append-drop, length-take}
use Rattle.hex.specs.Hex.{IsBytes}
use Rattle.hgs_bytes.specs.Bytes.{same}
use Rattle.hgs_index.specs.declared.entry.Entry.{Entry}
use Rattle.hgs_index.specs.declared.node.Node.{Node}
use Rattle.hgs_index.specs.Revision.{Revision, nodes, same_parents}
use Rattle.hgs_index.specs.Revlog.{BeginsWithRevisions}
use Rattle.hgs_index.specs.Theorems.RevlogLemmas.{length-held}
use Rattle.hgs_revlog.specs.declared.add.Added.TheVariants.{Old}
use Rattle.hgs_revlog.specs.declared.fault.RevFault.TheVariants.{Collision}
use Rattle.hgs_revlog.specs.declared.fault.Tail.TheVariants.{Ignore, Refuse, Until}
use Rattle.hgs_revlog.specs.Log.{Log, nodes_of, place_of}
use Rattle.hgs_revlog.specs.Load.{loaded}
use Rattle.hgs_revlog.specs.Text.{text_of}
use Rattle.hgs_revlog.specs.Add.{added, added_at, matched, next_entry, parents_of}
use Rattle.hgs_revlog.specs.Held.{AreWithinLimits, Agrees, EndsFirstAt, chunk_in, revision_of, read_from, read_all}
use Rattle.hgs_revlog.specs.Theorems.HeldLemmas.{length-agrees, nodes_of-agrees}
use Rattle.hgs_revlog.specs.Theorems.ReadLemmas.{loaded-front, bytes_take, with_text_ok}
use Rattle.hgs_revlog.specs.Theorems.StandingLemmas.{held-loaded, first_of}
use Rattle.hgs_revlog.specs.Theorems.TailLemmas.{ignore-refuse, until-refuse, refuse-until}

-- the front of an index that loads, whose texts read
begins_from : (n : ℕ) (index data_bytes : List ℕ) (log : Log) (revisions : List Revision) → IsBytes index → loaded Refuse (take n index) ≡ Ok log → read_all log.entries data_bytes ≡ Ok revisions
    → (begins : BeginsWithRevisions index data_bytes revisions) × Agrees begins.index_front begins.data_front log.entries revisions × (begins.index_front ≡ take n index)
begins_from n index data_bytes log revisions are load read =
    let h = loaded-front (take n index) data_bytes log revisions (bytes_take n index are) load read in
    (record { index_front = take n index; data_front = h.used; held = h.agrees.held; index_begins = (drop n index, sym (take-append-drop n index)); data_begins = (h.left, h.split) }, h.agrees, refl)

pub ignored-held : (index data_bytes : List ℕ) (log : Log) (revisions : List Revision) → IsBytes index → loaded Ignore index ≡ Ok log → read_all log.entries data_bytes ≡ Ok revisions
    → (begins : BeginsWithRevisions index data_bytes revisions) × Agrees begins.index_front begins.data_front log.entries revisions × (length revisions ≡ length index / 64)
ignored-held index data_bytes log revisions are load read =
    let b = begins_from (64 * (length index / 64)) index data_bytes log revisions are (sym (ignore-refuse index) ∙ load) read in
    let whole = length-held b.0.index_front b.0.data_front revisions b.0.held in
    let front = ap length b.2 in
    let len = length-take (64 * (length index / 64)) index in
    (b.0, b.1, omega (arith, whole, front, len))

-- the limits of all the bytes are those of a front of them
pub limits-front : (index data_bytes : List ℕ) (revisions : List Revision) (b : BeginsWithRevisions index data_bytes revisions) → AreWithinLimits revisions data_bytes → AreWithinLimits revisions b.data_front
limits-front index data_bytes revisions b limits =
    let d = ap length b.data_begins.1 in
    record { few = limits.few; texts = limits.texts; data_end = (let room = limits.data_end in omega (arith, room, d, length-append b.data_front b.data_begins.0)) }

-- what a front of the bytes gives
front_loaded : (index data_bytes : List ℕ) (revisions : List Revision) (b : BeginsWithRevisions index data_bytes revisions) → AreWithinLimits revisions b.data_front
    → (log : Log) × (loaded Refuse b.index_front ≡ Ok log) × (read_all log.entries data_bytes ≡ Ok revisions) × Agrees b.index_front b.data_front log.entries revisions
front_loaded index data_bytes revisions b limits =
    let h = held-loaded b.index_front b.data_front b.data_begins.0 revisions b.held limits in
    (h.0, h.1, ap (read_all h.0.entries) b.data_begins.1 ∙ h.2, h.3)

pub front-ignored : (index data_bytes : List ℕ) (revisions : List Revision) → (begins : BeginsWithRevisions index data_bytes revisions) → length revisions ≡ length index / 64 → AreWithinLimits revisions begins.data_front
    → (log : Log) × (loaded Ignore index ≡ Ok log) × (read_all log.entries data_bytes ≡ Ok revisions) × Agrees begins.index_front begins.data_front log.entries revisions
front-ignored index data_bytes revisions b all limits =
    let h = front_loaded index data_bytes revisions b limits in
    let len = length-held b.index_front b.data_front revisions b.held in
    let front : take (64 * (length index / 64)) index ≡ b.index_front =
    ap (take (64 * (length index / 64))) b.index_begins.1 ∙ first_of b.index_front b.index_begins.0 (64 * (length index / 64)) (omega (arith, len, all)) in
    (h.0, ignore-refuse index ∙ ap (loaded Refuse) front ∙ h.1, h.2, h.3)

pub held-ignored : (index data_bytes : List ℕ) (revisions : List Revision) → (begins : BeginsWithRevisions index data_bytes revisions) → length revisions ≡ length index / 64 → AreWithinLimits revisions data_bytes
    → (log : Log) × (loaded Ignore index ≡ Ok log) × (read_all log.entries data_bytes ≡ Ok revisions) × Agrees begins.index_front begins.data_front log.entries revisions
held-ignored index data_bytes revisions b all limits = front-ignored index data_bytes revisions b all (limits-front index data_bytes revisions b limits)

-- the first place in a list of values is that of what they come from
pub position_map : {A B : Type 0} (f : A → B) (p : B → Bool) (xs : List A) → position p (map f xs) ≡ position (λ x. p (f x)) xs
position_map {A = A} f p xs = ap (λ n. cond (nat_lt n (length (map f xs))) (Some n) None) (places xs) ∙ ap (λ len. cond (nat_lt (position_or_len (λ x. p (f x)) xs) len) (Some (position_or_len (λ x. p (f x)) xs)) None) (lengths xs)
  where
    lengths : (xs : List A) → length (map f xs) ≡ length xs
    lengths [] = refl
    lengths (x ∷ xs) = ap suc (lengths xs)

    places : (xs : List A) → position_or_len p (map f xs) ≡ position_or_len (λ x. p (f x)) xs
    places [] = refl
    places (x ∷ xs) = ap (λ n. cond (not (p (f x))) (1 + n) 0) (places xs)

pub place-among : (entries : List Entry) (node : List ℕ) → place_of entries node ≡ position (λ n. same n node) (nodes_of entries)
place-among entries node = sym (position_map (λ (e : Entry). e.node.0) (λ n. same n node) entries)

place-ends : (index data_bytes : List ℕ) (entries : List Entry) (revisions : List Revision) (node : List ℕ) → Agrees index data_bytes entries revisions → place_of entries node ≡ position (λ n. same n node) (nodes revisions)
place-ends index data_bytes entries revisions node h = sym (position_map (λ (e : Entry). e.node.0) (λ n. same n node) entries) ∙ ap (position (λ n. same n node)) (nodes_of-agrees index data_bytes entries revisions h)

pub until-held : (index data_bytes : List ℕ) (log : Log) (revisions : List Revision) (node : Node) → IsBytes index → loaded (Until node) index ≡ Ok log → read_all log.entries data_bytes ≡ Ok revisions
    → (begins : BeginsWithRevisions index data_bytes revisions) × Agrees begins.index_front begins.data_front log.entries revisions × EndsFirstAt node.0 revisions
until-held index data_bytes log revisions node are load read =
    let u = until-refuse index log node load in
    let b = begins_from (64 * length log.entries) index data_bytes log revisions are u.0 read in
    let len = length-agrees b.0.index_front b.0.data_front log.entries revisions b.1 in
    (b.0, b.1, sym (place-ends b.0.index_front b.0.data_front log.entries revisions node.0 b.1) ∙ u.1 ∙ ap (λ n. Some (n - 1)) len)

pub front-until : (index data_bytes : List ℕ) (revisions : List Revision) (node : Node) → (begins : BeginsWithRevisions index data_bytes revisions) → EndsFirstAt node.0 revisions → AreWithinLimits revisions begins.data_front
    → (log : Log) × (loaded (Until node) index ≡ Ok log) × (read_all log.entries data_bytes ≡ Ok revisions) × Agrees begins.index_front begins.data_front log.entries revisions
front-until index data_bytes revisions node b ends limits =
    let h = front_loaded index data_bytes revisions b limits in
    let len = length-agrees b.index_front b.data_front h.0.entries revisions h.3 in
    let last = place-ends b.index_front b.data_front h.0.entries revisions node.0 h.3 ∙ ends ∙ ap (λ n. Some (n - 1)) (sym len) in
    (h.0, ap (loaded (Until node)) b.index_begins.1 ∙ refuse-until b.index_front b.index_begins.0 h.0 node h.1 last, h.2, h.3)

pub held-until : (index data_bytes : List ℕ) (revisions : List Revision) (node : Node) → (begins : BeginsWithRevisions index data_bytes revisions) → EndsFirstAt node.0 revisions → AreWithinLimits revisions data_bytes
    → (log : Log) × (loaded (Until node) index ≡ Ok log) × (read_all log.entries data_bytes ≡ Ok revisions) × Agrees begins.index_front begins.data_front log.entries revisions
held-until index data_bytes revisions node b ends limits = front-until index data_bytes revisions node b ends (limits-front index data_bytes revisions b limits)

-- ---- a revision that stands

entry_is : (x y : Entry) → Some x ≡ Some y → x ≡ y
entry_is x y h = cc

revision_is : (x y : Revision) → Some x ≡ Some y → x ≡ y
revision_is x y h = cc

read_at : (all entries : List Entry) (data_bytes : List ℕ) (first rev : ℕ) (revisions : List Revision) (e : Entry) (r : Revision) → read_from all data_bytes first entries ≡ Ok revisions
    → slice_get entries rev ≡ Some e → slice_get revisions rev ≡ Some r → (text_of all (first + rev) (chunk_in data_bytes e) ≡ Ok r.text) × (r.parents ≡ (e.p1, e.p2))
read_at all [] data_bytes first rev revisions e r read at found = cc
read_at all (x ∷ entries) data_bytes first zero revisions e r read at found =
    let w = with_text_ok x (text_of all first (chunk_in data_bytes x)) (read_from all data_bytes (suc first) entries) revisions read in
    let same_entry : x ≡ e = entry_is x e at in
    let same_revision : revision_of x w.0 ≡ r = revision_is (revision_of x w.0) r (ap (λ rs. slice_get rs 0) (sym w.4) ∙ found) in
    let here : first + 0 ≡ first = omega arith in (
      ap (λ n. text_of all n (chunk_in data_bytes e)) here ∙ ap (λ y. text_of all first (chunk_in data_bytes y)) (sym same_entry) ∙ w.2 ∙ ap (λ y. Ok y.text) same_revision,
      ap (λ y. y.parents) (sym same_revision) ∙ ap (λ y. (y.p1, y.p2)) same_entry,
    )
read_at all (x ∷ entries) data_bytes first (suc rev) revisions e r read at found =
    let w = with_text_ok x (text_of all first (chunk_in data_bytes x)) (read_from all data_bytes (suc first) entries) revisions read in
    let next = read_at all entries data_bytes (suc first) rev w.1 e r w.3 at (ap (λ rs. slice_get rs (suc rev)) (sym w.4) ∙ found) in
    let there : first + suc rev ≡ suc first + rev = omega arith in
    (ap (λ n. text_of all n (chunk_in data_bytes e)) there ∙ next.0, next.1)

-- Of a revision whose node stands it is said whether it is the one that stands.
pub standing-added : (log : Log) (r : Revision) (data_bytes : List ℕ) (revisions : List Revision) (rev : ℕ) (e : Entry) (s : Revision) → read_all log.entries data_bytes ≡ Ok revisions
    → place_of log.entries (next_entry log.entries r).node.0 ≡ Some rev → slice_get log.entries rev ≡ Some e → slice_get revisions rev ≡ Some s
    → added log r (Some (chunk_in data_bytes e)) ≡ cond (same r.text s.text && same_parents r.parents s.parents) (Ok (Old rev)) (Err (Collision rev))
standing-added log r data_bytes revisions rev e s read place at found =
    let t = read_at log.entries log.entries data_bytes 0 rev revisions e s read at found in
    let here : 0 + rev ≡ rev = omega arith in
    ap (added_at log r (Some (chunk_in data_bytes e))) place
    ∙ ap (matched log r.text r.parents rev) (ap (λ n. text_of log.entries n (chunk_in data_bytes e)) (sym here) ∙ t.0)
    ∙ ap (λ p. cond (same r.text s.text && same_parents r.parents p) (Ok (Old rev)) (Err (Collision rev))) (ap parents_of at ∙ sym t.1)
