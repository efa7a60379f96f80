use Rattle.std.proofs.Common.{◌≡◌, length, ◌∙◌, ap, arith}
use Rattle.hgs_legal.specs.Numbers.{n_of, repo_at}
use Rattle.hgs_headline.specs.WritersLog.{state_after}
use Rattle.hgs_load.specs.Asks.{answer}
use Rattle.hgs_load.specs.Theorems.AskLemmas.{prefix-refl}
use Rattle.hgs_world.specs.Questions.{line_of}
use Rattle.hgs_world.specs.Texts.{loaded_line}
use Rattle.hgs_played.proofs.Viewing.{Beside, last_views, loads, reads}
use Rattle.hgs_played.proofs.laws.no_load_of_a_play_is_refused.Goals as goal

pub returns : goal.returns
returns c = record {
  views = λ s b h number r view is within see. last_views l h within s b see is.start number r view;
  loads = λ s b h number r is within see there.
      let a = loads l h within s b see is.start number r is.whole there in
      let order = c.numbers_of_loads.ensures.order h h.log h.log a.0 a.1 a.3 in
      let began = c.numbers_of_loads.ensures.began h h.log h.log a.0 a.1 a.3 in
      let read : a.0.read ≡ n_of (state_after h h.log) = omega (arith, order.2, order.3, began.2) in
      let last : n_of (state_after h h.log) ≡ n_of h.last = ap n_of (c.legal_logs_are_writers_logs.ensures.ends h) in
      let shown = c.views_beside_writers.ensures.shown h h.log h.log a.0 a.1 (prefix-refl h.log) a.3 in
      (a.0, a.1, a.2, a.3, ap (λ y. line_of (answer y)) a.2 ∙ ap loaded_line (shown.2 ∙ ap (λ n. length (repo_at h.last n).changesets) (read ∙ last)));
  reads = λ s b h number r question y is within see there under_way ends. reads l h within s b see is.start number r question y is.whole there under_way ends;
}
  where
    l : Beside
    l = record { opened = c.loads_beside_writers.ensures.opened; refreshed = c.loads_beside_writers.ensures.refreshed }
