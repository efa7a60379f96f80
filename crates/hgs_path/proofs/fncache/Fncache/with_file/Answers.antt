use Rattle.std.proofs.Common.{◌∙◌, ap, sym, refl, subst}
use Rattle.hgs_path.specs.Fncache.{listed_in, listing, with_file}
use Rattle.hgs_path.specs.Owners.{Keeps, owns_name, with_path}
use Rattle.hgs_path.proofs.EnterLemmas.{index-owns, data-owns}
use Rattle.hgs_path.specs.Theorems.FncacheLemmas.{index-added, data-added}
use Rattle.hgs_path.proofs.fncache.Fncache.with_file.Goals as goal
use Rattle.hgs_path.proofs.fncache.Fncache.with_file.Goals.{in-I+in_ok-insert-in-I, in-D+in_ok-insert-in-D}

pub invariant_of-result : goal.invariant_of-result
invariant_of-result c =
    let ks = c.args.self.indexes.keys in
    let ds = c.args.self.datas.keys in
    let owns = owns_name ks ds in
    let kept = subst (λ p. Keeps (with_path owns p) c.enter.new.owners) c.deref.ensures.value (c.in_ok-enter.ensures owns c.args.self.owners_kept) in
    record {
      owners_kept = elim c.match-ext.branch [
        | in-I+in_ok-insert-in-I w ↦
            let keys = sym w.in_ok-insert-in-I.ensures.keys ∙ ap (λ s. s.keys) (sym w.indexes-is) in
            subst (λ o. Keeps o c.enter.new.owners) (index-owns _ (λ a b. refl) ks ds c.args.path ∙ (λ i. owns_name (keys i) (sym w.datas-is i).keys)) kept
        | in-D+in_ok-insert-in-D w ↦
            let keys = sym w.in_ok-insert-in-D.ensures.keys ∙ ap (λ s. s.keys) (sym w.datas-is) in
            subst (λ o. Keeps o c.enter.new.owners) (data-owns _ (λ a b. refl) ks ds c.args.path ∙ (λ i. owns_name (sym w.indexes-is i).keys (keys i))) kept
      ];
    }

pub returns : goal.returns
returns c =
    let ks = c.args.self.indexes.keys in
    let ds = c.args.self.datas.keys in
    elim c.match-ext.branch [
      | in-I+in_ok-insert-in-I w ↦
          let keys = ap (λ s. s.keys) w.indexes-is ∙ w.in_ok-insert-in-I.ensures.keys in
          (λ i. listed_in (keys i) (w.datas-is i).keys) ∙ index-added ks ds c.args.path _ (λ a b. refl) ∙ ap (with_file (listing c.args.self) c.args.path.items) (sym w.in-I.is)
      | in-D+in_ok-insert-in-D w ↦
          let keys = ap (λ s. s.keys) w.datas-is ∙ w.in_ok-insert-in-D.ensures.keys in
          (λ i. listed_in (w.indexes-is i).keys (keys i)) ∙ data-added ks ds c.args.path _ (λ a b. refl) ∙ ap (with_file (listing c.args.self) c.args.path.items) (sym w.in-D.is)
    ]
