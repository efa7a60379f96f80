-- The text of roots, one after another.
use Rattle.std.proofs.Common.{◌≡◌, ℕ, zero, suc, ◌+◌, List, [], ◌∷◌, ◌++◌, drop, Some, refl, sym, ◌∙◌, ap, append_assoc, arith}
use Rattle.std.specs.Prelude.{slice_get}
use Rattle.hgs_index.specs.declared.entry.Entry.{Entry}
use Rattle.hgs_model.specs.declared.phase.Phase.{Phase}
use Rattle.hgs_phases.specs.declared.roots.Root.{Root}
use Rattle.hgs_phases.specs.Printed.{root_at, roots_in}
use Rattle.hgs_phases.specs.Roots.{root_text, roots_text}
use Rattle.hgs_phases.specs.Theorems.PhaseLemmas.{some_is}

pub text_append : (rs ss : List Root) → roots_text (rs ++ ss) ≡ roots_text rs ++ roots_text ss
text_append [] ss = refl
text_append (r ∷ rs) ss = ap (λ t. root_text r ++ t) (text_append rs ss) ∙ sym (append_assoc (root_text r) (roots_text rs) (roots_text ss))

next_entry : (entries : List Entry) (i : ℕ) (e : Entry) → slice_get entries i ≡ Some e → drop i entries ≡ e ∷ drop (suc i) entries
next_entry [] i e h = cc
next_entry (x ∷ entries) zero e h = ap (λ q. q ∷ entries) (some_is x e h)
next_entry (x ∷ entries) (suc i) e h = next_entry entries i e h

pub one_more : (phase : Phase) (phases : List Phase) (entries : List Entry) (i : ℕ) (e : Entry) (old mid new : List ℕ) → slice_get entries i ≡ Some e → new ≡ mid ++ roots_text (root_at phase phases i e) →
    mid ++ roots_text (roots_in phase phases i (drop i entries)) ≡ old ++ roots_text (roots_in phase phases 0 entries) → new ++ roots_text (roots_in phase phases (i + 1) (drop (i + 1) entries)) ≡ old ++ roots_text (roots_in phase phases 0 entries)
one_more phase phases entries i e old mid new there is inv =
    let n : i + 1 ≡ suc i = omega arith in
    let behind = roots_text (roots_in phase phases (i + 1) (drop (suc i) entries)) in
    ap (λ k. new ++ roots_text (roots_in phase phases (i + 1) (drop k entries))) n
    ∙ ap (λ t. t ++ roots_text (roots_in phase phases (i + 1) (drop (suc i) entries))) is
    ∙ append_assoc mid (roots_text (root_at phase phases i e)) (roots_text (roots_in phase phases (i + 1) (drop (suc i) entries)))
    ∙ ap (λ t. mid ++ t) (sym (text_append (root_at phase phases i e) (roots_in phase phases (i + 1) (drop (suc i) entries))))
    ∙ ap (λ es. mid ++ roots_text (roots_in phase phases i es)) (sym (next_entry entries i e there)) ∙ inv
