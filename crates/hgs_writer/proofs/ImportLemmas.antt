-- What an import comes to.
use Rattle.std.proofs.Common.{◌≡◌, ℕ, Bool, true, false, List, [], ◌∷◌, ◌++◌, refl, sym, ◌∙◌, ap, subst}
use Rattle.std.specs.Prelude.{Option, Some, None, Result, Ok, Err, IfOk, ⊤}
use Rattle.std.specs.Bool.{MatchBool}
use Rattle.hgs_commit.specs.Commit.{is_free}
use Rattle.hgs_commit.specs.declared.fault.CommitFault.{CommitFault}
use Rattle.hgs_files.specs.Tree.{Tree, after_all}
use Rattle.hgs_model.specs.declared.command.NewChange.{NewChange}
use Rattle.hgs_overlay.specs.declared.layers.Layers.{Layers}
use Rattle.hgs_overlay.specs.Layers.{covered, laid_ops, layer_at}
use Rattle.hgs_steps.specs.declared.loaded.Loaded.{Loaded}
use Rattle.hgs_steps.specs.declared.loaded.Standing.{Standing}
use Rattle.hgs_steps.specs.declared.step.Step.{Step}
use Rattle.hgs_writer.specs.declared.import.Last.{Last}
use Rattle.hgs_writer.specs.Joined.{all_laid, are_put, joined_paths}
use Rattle.hgs_writer.specs.Layered.{AreLayersOf, IsLast, IsOr, Lays, LaysAll, is_in_place, last_of, layer_bytes, parts_over}
use Rattle.hgs_writer.specs.Records.{AnswersLast, ArePlanned, AreRefused, ImportComesTo}
use Rattle.hgs_writer.proofs.JoinedLemmas.{parts-are}

pub free-top : (b : Bool) (X : Type 0) → b ≡ true → MatchBool b ⊤ X
free-top true X e = tt
free-top false X e = absurd (no e)
  where
    no : false ≡ true → ⊥
    no h = cc

empty-layers : (l : Layers) → laid_ops l ≡ [] → ((path : List ℕ) → layer_at l path ≡ None) → AreLayersOf l []
empty-layers l ops at = record {
  tree = λ t. ap (λ o. after_all o t) ops;
  put = λ p. ap is_in_place (at p);
  behind = λ p none. ap layer_bytes (at p);
}

answers-last : (s : Step) (steps : List Step) (last : Last) (step : Step) → IsLast (last_of s) steps last → step.rev ≡ last.rev → step.node ≡ last.node → AnswersLast (s ∷ steps) step
answers-last s [] last step h rev node = (rev ∙ ap (λ (x : Last). x.rev) h, node ∙ ap (λ (x : Last). x.node) h)
answers-last s (x ∷ steps) last step h rev node = answers-last x steps last step h rev node

pub import-joined : ((l : Layers) (t : Tree) (path : List ℕ) → after_all (laid_ops l) t path ≡ covered (layer_at l path) (t path)) → (t : Tree) (l : Loaded) (s : Standing) (changes : List NewChange) (old new : Layers) (last : Last) (step : Step)
    → laid_ops old ≡ [] → ((path : List ℕ) → layer_at old path ≡ None) → s ≡ l.standing → LaysAll (after_all (laid_ops old) t) l changes old new (Ok last) → step.parts ≡ parts_over t s (joined_paths changes) new → step.rev ≡ last.rev → step.node ≡ last.node
    → ImportComesTo t l changes (Ok step)
import-joined covers t l s changes old new last step none at standing laid parts rev node =
    let first = laid.0 in
    let steps = laid.1 in
    record {
      steps = first ∷ steps;
      planned = subst (λ o. ArePlanned (after_all o t) l changes (first ∷ steps)) none laid.2;
      parts = parts ∙ ap (λ x. parts_over t x (joined_paths changes) new) standing ∙ parts-are covers t l.standing (joined_paths changes) new (first ∷ steps) (laid.3.layers [] (empty-layers old none at));
      answer = answers-last first steps last step laid.4 rev node;
    }

pub import-refused : (t : Tree) (l : Loaded) (changes : List NewChange) (old new : Layers) (fault : CommitFault) → laid_ops old ≡ [] → LaysAll (after_all (laid_ops old) t) l changes old new (Err fault) → ImportComesTo t l changes (Err fault)
import-refused t l changes old new fault none h = subst (λ o. MatchBool (is_free fault) ⊤ (AreRefused (after_all o t) l changes fault)) none h

pub import-is : ((l : Layers) (t : Tree) (path : List ℕ) → after_all (laid_ops l) t path ≡ covered (layer_at l path) (t path)) → (t : Tree) (l : Loaded) (s : Standing) (changes : List NewChange) (old new given : Layers) (last : Last) (result : Result Step CommitFault)
    → laid_ops old ≡ [] → ((path : List ℕ) → layer_at old path ≡ None) → s ≡ l.standing → given ≡ new → LaysAll (after_all (laid_ops old) t) l changes old new (Ok last) → IsOr (λ step. step.parts ≡ parts_over t s (joined_paths changes) given) result
    → IfOk result (λ step. step.rev ≡ last.rev) → IfOk result (λ step. step.node ≡ last.node) → ImportComesTo t l changes result
import-is covers t l s changes old new given last (Ok step) none at standing same_layers laid parts rev node =
    import-joined covers t l s changes old new last step none at standing laid (parts ∙ ap (parts_over t s (joined_paths changes)) same_layers) rev node
import-is covers t l s changes old new given last (Err fault) none at standing same_layers laid free rev node = free-top (is_free fault) (AreRefused t l changes fault) free
