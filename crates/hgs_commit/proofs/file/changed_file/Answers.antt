use Rattle.std.proofs.Common.{◌≡◌, ℕ, List, Bool, true, Ok, Err, ◌∙◌, ap, subst, sym}
use Rattle.std.specs.Prelude.{⊤, ◌==◌}
use Rattle.std.specs.Bool.{MatchBool}
use Rattle.std.specs.Option.{option_map}
use Rattle.hgs_index.specs.Revision.{Revision}
use Rattle.hgs_loading.specs.Found.{and_then}
use Rattle.hgs_load.specs.Answer.{is_of_outside}
use Rattle.hgs_commit.specs.Files.{OfFile, changed_in, formed, fresh_text, place_in, view_filelog}
use Rattle.hgs_commit.specs.Obstacles.{Met, met_of, noted, noting}
use Rattle.hgs_commit.specs.Texts.{OfLog, revised_in, view_growth}
use Rattle.hgs_commit.proofs.AnswerLemmas.{alone-both, alone-one}
use Rattle.hgs_commit.proofs.FoundLemmas.{changed-misplaced, changed-ok, changed-unread}
use Rattle.hgs_commit.proofs.file.changed_file.Goals as goal

pub returns-in-Err-clause-found : goal.returns-in-Err-clause-found
returns-in-Err-clause-found g c =
    let f : OfLog = view_filelog c.formed-filelog.result in
    let file = c.args.file.now in
    let text = c.deref-2.result.now in
    let source = c.args.source.now.0 in
    let whole : List ℕ = fresh_text file source in
    let g_log : OfLog = formed (view_filelog c.args.filelog) whole in
    let is : f ≡ g_log = c.formed-filelog.ensures.filelog ∙ ap (formed (view_filelog c.args.filelog)) (c.deref.ensures.value ∙ c.in_ok-text.ensures) in
    let r : Revision = record { text = text; parents = c.args.parents; link = c.args.link } in
    let m : Met = met_of c.args.met.now in
    let e = c.in-Err.refusal in
    let packed : text ≡ whole = c.deref-2.ensures.value ∙ c.in_ok-text.ensures in
    alone-one g.R.Reads.alone (g.R.Reads.seen c.revise_in.new.files) (g.R.Reads.start c.revise_in.new.files)
    (λ t. MatchBool (is_of_outside e) ⊤ (revised_in f r t ≡ Err e))
    (λ t. MatchBool (is_of_outside e) ⊤ (noting m (changed_in g_log file source c.args.parents c.args.link t) ≡ Err e))
    (λ t h. subst (λ (z : OfLog). MatchBool (is_of_outside e) ⊤ (noting m (changed_in z file source c.args.parents c.args.link t) ≡ Err e)) is (changed-unread f file source c.args.parents c.args.link text packed t m e h))
    c.in-Err.ensures.found

pub returns-in-Err-test_place-clause-found : goal.returns-in-Err-test_place-clause-found
returns-in-Err-test_place-clause-found g c =
    let f : OfLog = view_filelog c.formed-filelog.result in
    let file = c.args.file.now in
    let text = c.deref-2.result.now in
    let source = c.args.source.now.0 in
    let whole : List ℕ = fresh_text file source in
    let g_log : OfLog = formed (view_filelog c.args.filelog) whole in
    let is : f ≡ g_log = c.formed-filelog.ensures.filelog ∙ ap (formed (view_filelog c.args.filelog)) (c.deref.ensures.value ∙ c.in_ok-text.ensures) in
    let r : Revision = record { text = text; parents = c.args.parents; link = c.args.link } in
    let v = c.in-Ok.revised in
    let m : Met = met_of c.args.met.now in
    let e = c.in-Err-test_place.refusal in
    let packed : text ≡ whole = c.deref-2.ensures.value ∙ c.in_ok-text.ensures in
    alone-both g.R.Reads.alone (g.R.Reads.seen c.revise_in.new.files) (g.R.Reads.seen c.test_place.new.files) (g.R.Reads.start c.revise_in.new.files) (g.R.Reads.start c.test_place.new.files)
    (λ t. revised_in f r t ≡ Ok v)
    (λ t. MatchBool (is_of_outside e) ⊤ (and_then (place_in f t) (λ obstacles. Ok (noted m obstacles)) ≡ Err e))
    (λ t. MatchBool (is_of_outside e) ⊤ (noting m (changed_in g_log file source c.args.parents c.args.link t) ≡ Err e))
    c.in-Err-test_place.ensures.still c.in-Err-test_place.ensures.same_start
    (λ t a b. subst (λ (z : OfLog). MatchBool (is_of_outside e) ⊤ (noting m (changed_in z file source c.args.parents c.args.link t) ≡ Err e)) is (changed-misplaced f file source c.args.parents c.args.link text packed t v m e a b))
    c.in-Ok.ensures.found c.in-Err-test_place.ensures.found

pub returns-clause-found : goal.returns-clause-found
returns-clause-found g c =
    let f : OfLog = view_filelog c.formed-filelog.result in
    let file = c.args.file.now in
    let text = c.deref-2.result.now in
    let source = c.args.source.now.0 in
    let whole : List ℕ = fresh_text file source in
    let g_log : OfLog = formed (view_filelog c.args.filelog) whole in
    let is : f ≡ g_log = c.formed-filelog.ensures.filelog ∙ ap (formed (view_filelog c.args.filelog)) (c.deref.ensures.value ∙ c.in_ok-text.ensures) in
    let r : Revision = record { text = text; parents = c.args.parents; link = c.args.link } in
    let v = c.in-Ok.revised in
    let m : Met = met_of c.args.met.now in
    let growth = option_map view_growth c.in_ok-growth.growth in
    let packed : text ≡ whole = c.deref-2.ensures.value ∙ c.in_ok-text.ensures in
    let file_with : List ℕ → ℕ → Bool → OfFile = λ path n inline. record { row = record { path = path; node = v.node.0; flag = file.flag }; changed = true; growth = growth; new = n == 0; inline = inline } in
    alone-both g.R.Reads.alone (g.R.Reads.seen c.revise_in.new.files) (g.R.Reads.seen c.test_place.new.files) (g.R.Reads.start c.revise_in.new.files) (g.R.Reads.start c.test_place.new.files)
    (λ t. revised_in f r t ≡ Ok v)
    (λ t. and_then (place_in f t) (λ obstacles. Ok (noted m obstacles)) ≡ Ok (met_of c.test_place.new.met))
    (λ t. noting m (changed_in g_log file source c.args.parents c.args.link t) ≡ Ok (file_with c.in_ok-path.path c.len-listed.result c.is_inline-inline.result, met_of c.growth_in.new.met))
    c.in-Ok-test_place.ensures.still c.in-Ok-test_place.ensures.same_start
    (λ t a b.
    ap (λ (z : OfLog). noting m (changed_in z file source c.args.parents c.args.link t)) (sym is)
    ∙ changed-ok f file source c.args.parents c.args.link text packed t v m (met_of c.test_place.new.met) (met_of c.growth_in.new.met) growth c.in_ok-growth.ensures.growth c.in_ok-growth.ensures.met a b
    ∙ ap (λ n. Ok (file_with file.path n f.log.inline, met_of c.growth_in.new.met)) (sym c.len-listed.ensures)
    ∙ ap (λ o. Ok (file_with file.path c.len-listed.result o, met_of c.growth_in.new.met)) (sym c.is_inline-inline.ensures)
    ∙ ap (λ p. Ok (file_with p c.len-listed.result c.is_inline-inline.result, met_of c.growth_in.new.met)) (sym c.in_ok-path.ensures))
    c.in-Ok.ensures.found c.in-Ok-test_place.ensures.found
