-- What is written of one more revision.
use Rattle.std.proofs.Common.{◌≡◌, ℕ, ◌+◌, ◌^◌, ◌<◌, ◌≤◌, Bool, true, false, cond, List, [], ◌∷◌, ◌++◌, length, Option, Some, None, IsSome, Bor, refl, ◌∙◌, subst, arith}
use Rattle.std.specs.Option.{option_copied}
use Rattle.std.specs.Prelude.{◌==◌, IfSome, slice_get, unwrap_or, option_and_then}
use Rattle.hgs_index.specs.declared.entry.Entry.{Entry}
use Rattle.hgs_index.specs.declared.entry.Header.{Header}
use Rattle.hgs_index.specs.Entry.{Fits}
use Rattle.hgs_index.specs.Node.{node_hash, smaller, larger}
use Rattle.sha1.specs.Sha1.{sha1, digest_bytes}
use Rattle.hgs_index.specs.Revlog.{chunk_of}
use Rattle.hgs_revlog.specs.Log.{Log, new_header, stored_sum}
use Rattle.hgs_revlog.specs.Add.{IsChunkOf}
use Rattle.hgs_revlog.specs.Load.{most_revisions, most_data}

pub length-chunk_of : (text : List ℕ) → length (chunk_of text) ≤ length text + 1
length-chunk_of [] = omega arith
length-chunk_of (b ∷ text) = by (b == 0)
  where
    by : (z : Bool) → length (cond z (b ∷ text) (117 ∷ b ∷ text)) ≤ length (b ∷ text) + 1
    by true = omega arith
    by false = omega arith

-- a parent is a number that has a spelling
parent_fits : (p : Option ℕ) (n : ℕ) → IfSome p (λ rev. rev < n) → n ≤ most_revisions → IfSome p (λ rev. rev < 2 ^ 31)
parent_fits None n h few = tt
parent_fits (Some rev) n h few = omega arith

header_first : (log : Log) → IsSome (new_header log) → stored_sum log.entries ≡ 0
header_first log h = by log.entries refl h
  where
    by : (es : List Entry) → log.entries ≡ es → IsSome {T = Header} (cond (length es == 0) (Some (record { inline = log.inline; generaldelta = false })) None) → stored_sum es ≡ 0
    by [] e h = refl
    by (x ∷ es) e h =
        let no : (length (x ∷ es) == 0) ≡ false = grind arith in
        let none : IsSome {T = Header} None = subst (λ b. IsSome {T = Header} (cond b (Some (record { inline = log.inline; generaldelta = false })) None)) no h in
        absurd (let f : IsSome {T = Header} None → ⊥ = λ x. cc in f none)

-- the entry of a revision behind those of a log has a spelling
pub next_fits : (log : Log) (e : Entry) → e.offset ≡ stored_sum log.entries → e.offset ≤ most_data → e.flags ≡ 0 → e.stored < 2 ^ 31 → e.size < 2 ^ 31 → e.base ≤ most_revisions → e.link < 2 ^ 31
    → IfSome e.p1 (λ rev. rev < length log.entries) → IfSome e.p2 (λ rev. rev < length log.entries) → length log.entries ≤ most_revisions → length e.node.0 ≡ 20 → Fits e (new_header log)
next_fits log e offset room flags stored size base link p1 p2 few node = record {
  offset = omega arith;
  flags = omega arith;
  stored = stored;
  size = size;
  base = omega arith;
  link = link;
  p1 = parent_fits e.p1 (length log.entries) p1 few;
  p2 = parent_fits e.p2 (length log.entries) p2 few;
  node = node;
  first = λ h. offset ∙ header_first log h;
}

length-sha1 : (message : List ℕ) → length (sha1 message) ≡ 20
unfolding sha1 digest_bytes
length-sha1 message = refl

-- a node has 20 bytes
pub length-node_hash : (p1 p2 text : List ℕ) → length (node_hash p1 p2 text) ≡ 20
length-node_hash p1 p2 text = length-sha1 (smaller p1 p2 ++ larger p1 p2 ++ text)

-- the chunk that is given fits into the entry that stands
pub chunk_within : (entries : List Entry) (place : Option ℕ) (rev : ℕ) (standing : Option (List ℕ)) → place ≡ Some rev → IsChunkOf (option_and_then (slice_get entries) place) standing
    → IfSome (slice_get entries rev) (λ e. length (unwrap_or standing []) ≤ e.stored)
chunk_within entries place rev standing is h =
    by (slice_get entries rev) standing (subst (λ p. IsChunkOf (option_and_then (slice_get entries) p) standing) is h)
  where
    by : (e : Option Entry) (chunk : Option (List ℕ)) → IsChunkOf e chunk → IfSome e (λ e. length (unwrap_or chunk []) ≤ e.stored)
    by None chunk h = tt
    by (Some e) None h = absurd h
    by (Some e) (Some chunk) h = h

-- the bytes of a chunk that may be given, none where it is not
pub copied_or : (chunk : Option (Bor (List ℕ))) (none : Bor (List ℕ)) → none.now ≡ [] → (unwrap_or chunk none).now ≡ unwrap_or (option_copied chunk) []
copied_or None none h = h
copied_or (Some chunk) none h = refl
