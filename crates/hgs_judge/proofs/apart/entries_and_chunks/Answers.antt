use Rattle.std.proofs.Common.{◌≡◌, ◌-◌, length, ◌++◌, take, drop, sym, ◌∙◌, ap, append_assoc, append-nil}
use Rattle.hgs_index.specs.Inline.{chunks_in, entries_in}
use Rattle.hgs_judge.proofs.ApartLemmas.{left, taken}
use Rattle.hgs_judge.proofs.apart.entries_and_chunks.Goals as goal

pub loop-entry-init : goal.loop-entry-init
loop-entry-init c = (ap (λ l. l ++ entries_in (length c.args.index.now) c.args.index.now) c.new-entries.ensures.items, ap (λ l. l ++ chunks_in (length c.args.index.now) c.args.index.now) c.new-chunks.ensures.items)

pub loop-entry-smaller : goal.loop-entry-smaller
loop-entry-smaller c = (taken c.loop-entry.rest.now c.in-Some.entry.now c.in-Some.behind.now (sym c.in-Some.ensures)).shorter

pub loop-entry-preserved : goal.loop-entry-preserved
loop-entry-preserved c =
    let rest = c.loop-entry.rest.now in
    let behind = c.in-Some.behind.now in
    let t = taken rest c.in-Some.entry.now behind (sym c.in-Some.ensures) in
    let size : c.saturating_sub-stored.result ≡ (length rest - length behind) - 64 = c.saturating_sub-stored.ensures ∙ ap (λ n. n - 64) c.saturating_sub.ensures in
    let chunk : c.front.result.now ≡ take ((length rest - length behind) - 64) (drop 64 rest) = c.front.ensures ∙ ap (take c.saturating_sub-stored.result) c.past.ensures ∙ ap (λ n. take n (drop 64 rest)) size in (
      ap (λ l. l ++ entries_in (length behind) behind) c.in_ok-extend_from_slice.ensures.items
          ∙ append_assoc c.loop-entry.entries.items c.in-Some.entry.now (entries_in (length behind) behind)
          ∙ ap (λ l. c.loop-entry.entries.items ++ l) (sym t.entries) ∙ c.loop-entry.invariant.0,
      ap (λ l. l ++ chunks_in (length behind) behind) (c.in_ok-extend_from_slice-2.ensures.items ∙ ap (λ l. c.loop-entry.chunks.items ++ l) chunk)
          ∙ append_assoc c.loop-entry.chunks.items (take ((length rest - length behind) - 64) (drop 64 rest)) (chunks_in (length behind) behind)
          ∙ ap (λ l. c.loop-entry.chunks.items ++ l) (sym t.chunks) ∙ c.loop-entry.invariant.1,
    )

pub returns-clause-entries : goal.returns-clause-entries
returns-clause-entries c =
    c.in_ok-extend_from_slice-3.ensures.items ∙ ap (λ l. c.loop-entry.entries.items ++ l) (c.front-2.ensures ∙ sym (left c.loop-entry.rest.now (sym c.in_default.ensures)).entries) ∙ c.loop-entry.invariant.0

pub returns-clause-chunks : goal.returns-clause-chunks
returns-clause-chunks c =
    sym (append-nil c.loop-entry.chunks.items) ∙ ap (λ l. c.loop-entry.chunks.items ++ l) (sym (left c.loop-entry.rest.now (sym c.in_default.ensures)).chunks) ∙ c.loop-entry.invariant.1
