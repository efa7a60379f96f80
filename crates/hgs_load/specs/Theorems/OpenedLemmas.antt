-- One question after another over files at rest, and what a loaded view has of them.
use Rattle.std.proofs.Common.{◌≡◌, List, Result, Ok, Err, refl, ◌∙◌, ap, sym}
use Rattle.hgs_files.specs.Tree.{Tree}
use Rattle.hgs_marks.specs.Bookmarks.{Mark}
use Rattle.hgs_phases.specs.declared.roots.Root.{Root}
use Rattle.hgs_revlog.specs.Log.{Log}
use Rattle.hgs_load.specs.declared.answer.ReadAnswer.{ReadAnswer}
use Rattle.hgs_load.specs.Asks.{Asks, answer, read, part_of, at_rest, then_asks}
use Rattle.hgs_load.specs.Marks.{Nodes, Working, working_answer}
use Rattle.hgs_load.specs.Open.{requires_asks, bookmarks_asks, dirstate_asks, log_asks, roots_asks, view_with, view_of, open_asks}
use Rattle.hgs_load.specs.View.{View}

no_ok : {A : Type 0} (x : A) (e : ReadAnswer) → (let a : Result A ReadAnswer = Err e in a) ≡ Ok x → ⊥
no_ok x e h = cc

ok_is : {A : Type 0} (x y : A) → (let a : Result A ReadAnswer = Ok x in a) ≡ Ok y → x ≡ y
ok_is x y e = cc

err_is : {A : Type 0} (e f : ReadAnswer) → (let a : Result A ReadAnswer = Err e in a) ≡ Err f → e ≡ f
err_is e f h = cc

-- the first question is answered, and the next one is asked with its answer
pub rest_then : {A B : Type 0} (t : Tree) (q : Asks (Result A ReadAnswer)) (more : A → Asks (Result B ReadAnswer)) (x : A) → at_rest t q ≡ Ok x → at_rest t (then_asks q more) ≡ at_rest t (more x)
rest_then t (answer (Ok y)) more x h = ap (λ z. at_rest t (more z)) (ok_is y x h)
rest_then t (answer (Err e)) more x h = absurd (no_ok x e h)
rest_then t (read path from most rest) more x h = rest_then t (rest (part_of t path from most)) more x h

-- the first question is refused
pub rest_refused : {A B : Type 0} (t : Tree) (q : Asks (Result A ReadAnswer)) (more : A → Asks (Result B ReadAnswer)) (e : ReadAnswer) → at_rest t q ≡ Err e → at_rest t (then_asks q more) ≡ Err e
rest_refused t (answer (Ok y)) more e h = absurd (no_ok y e (sym h))
rest_refused t (answer (Err f)) more e h = ap (λ g. Err g) (err_is f e h)
rest_refused t (read path from most rest) more e h = rest_refused t (rest (part_of t path from most)) more e h

-- both questions were answered
pub rest_both : {A B : Type 0} (t : Tree) (q : Asks (Result A ReadAnswer)) (more : A → Asks (Result B ReadAnswer)) (y : B) → at_rest t (then_asks q more) ≡ Ok y → (x : A) × (at_rest t q ≡ Ok x) × (at_rest t (more x) ≡ Ok y)
rest_both t (answer (Ok x)) more y h = (x, refl, h)
rest_both t (answer (Err e)) more y h = absurd (no_ok y e h)
rest_both t (read path from most rest) more y h = rest_both t (rest (part_of t path from most)) more y h

its_log : (marks : List Mark) (log : Log) (roots : List Root) (working : Result Working ReadAnswer) (view : View) → view_with marks log roots working ≡ Ok view → log ≡ view.changelog
its_log marks log roots (Err e) view h = absurd (no_ok view e h)
its_log marks log roots (Ok w) view h = ap (λ (v : View). v.changelog) (ok_is _ view h)

abbrev behind_log : List Mark → Nodes → Log → Asks (Result View ReadAnswer)
behind_log marks nodes log = then_asks roots_asks (λ roots. answer (view_of marks nodes log roots))

abbrev behind_dirstate : List Mark → Nodes → Asks (Result View ReadAnswer)
behind_dirstate marks nodes = then_asks log_asks (behind_log marks nodes)

abbrev behind_bookmarks : List Mark → Asks (Result View ReadAnswer)
behind_bookmarks marks = then_asks dirstate_asks (behind_dirstate marks)

-- the history of a loaded view is that of its index
pub opened_log : (t : Tree) (view : View) → at_rest t open_asks ≡ Ok view → at_rest t log_asks ≡ Ok view.changelog
opened_log t view h =
    let a = rest_both t requires_asks (λ x. then_asks bookmarks_asks behind_bookmarks) view h in
    let b = rest_both t bookmarks_asks behind_bookmarks view a.2 in
    let c = rest_both t dirstate_asks (behind_dirstate b.0) view b.2 in
    let d = rest_both t log_asks (behind_log b.0 c.0) view c.2 in
    let e = rest_both t roots_asks (λ roots. answer (view_of b.0 c.0 d.0 roots)) view d.2 in
    d.1 ∙ ap (λ l. Ok l) (its_log b.0 d.0 e.0 (working_answer d.0.entries c.0) view e.2)
