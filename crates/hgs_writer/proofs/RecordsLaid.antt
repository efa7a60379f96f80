-- Records that are planned and laid, one after another.
use Rattle.std.proofs.Common.{inl, inr, ◌≡◌, ℕ, Bool, true, false, List, [], ◌∷◌, ◌++◌, refl, sym, ◌∙◌, ap, subst}
use Rattle.std.specs.Prelude.{◌⊎◌, Option, Some, None, IfSome, Result, Ok, Err, IfOk, ⊤}
use Rattle.std.specs.Bool.{MatchBool}
use Rattle.hgs_bytes.specs.Answer.{Gives}
use Rattle.hgs_commit.specs.Commit.{AtRest, Steps, is_free}
use Rattle.hgs_commit.specs.OfCommit.{ArePartsOfCommit}
use Rattle.hgs_commit.specs.declared.fault.CommitFault.{CommitFault}
use Rattle.hgs_commit.specs.declared.fault.CommitFault.TheVariants.{Unread}
use Rattle.hgs_files.specs.declared.op.Op.{Op}
use Rattle.hgs_files.specs.Tree.{Tree, after_all}
use Rattle.hgs_load.specs.Answer.{is_of_outside}
use Rattle.hgs_load.specs.declared.answer.ReadAnswer.{ReadAnswer}
use Rattle.hgs_loading.specs.Store.{Loaded as Read, loaded_in}
use Rattle.hgs_model.specs.declared.command.NewChange.{NewChange}
use Rattle.hgs_overlay.specs.declared.layers.Layers.{Layers}
use Rattle.hgs_overlay.specs.Layers.{laid_ops, layer_at}
use Rattle.hgs_overlay.specs.Overlay.{seen_over}
use Rattle.hgs_steps.specs.Planned.{IsLoadedOf}
use Rattle.hgs_steps.specs.declared.loaded.Loaded.{Loaded}
use Rattle.hgs_steps.specs.declared.step.Step.{Step}
use Rattle.hgs_writer.specs.declared.import.Last.{Last}
use Rattle.hgs_writer.specs.Joined.{all_laid, lays}
use Rattle.hgs_writer.specs.Layered.{IsLast, Lays, LaysAll, LaysMore, LaysNext, LaysRecord, last_of}
use Rattle.hgs_writer.specs.Planning.{IsLoadedFrom}
use Rattle.hgs_writer.specs.Records.{AreMore, ArePlanned, AreRefused, CommitComesTo, IsRecordOn, IsRefusedAmong, IsRefusedOn, is_refused, is_unloaded}
use Rattle.hgs_writer.proofs.LaysLemmas.{lays-from, lays-none, lays-then}
use Rattle.hgs_writer.proofs.OverLemmas.{found-over, match-top}
use Rattle.hgs_writer.proofs.PlanLemmas.{at-rest}

-- what the operations of layers tell
abbrev pub Tells : Type 0
Tells = (l m : Layers) → laid_ops l ≡ laid_ops m → (path : List ℕ) → layer_at l path ≡ layer_at m path

match-map : (b : Bool) (X Y : Type 0) → (X → Y) → MatchBool b ⊤ X → MatchBool b ⊤ Y
match-map true X Y f x = tt
match-map false X Y f x = f x

pub rest-same : (alone : Bool) (now later : Option (List Op)) (start last : Tree) (Q : Tree → Type 0) → later ≡ now → last ≡ start → AtRest alone now start Q → AtRest alone later last Q
rest-same alone now later start last Q seen same h = subst (λ u. AtRest alone later u Q) (sym same) (subst (λ o. AtRest alone o start Q) (sym seen) h)

-- ---- one record

pub record-refused : (alone : Bool) (seen now : Option (List Op)) (old mid final : Layers) (start : Tree) (l : Loaded) (n : NewChange) (fault : CommitFault) → (alone ≡ true → now ≡ seen) → (alone ≡ true → seen_over alone now (laid_ops mid) ≡ seen_over alone seen (laid_ops old))
    → AtRest alone (seen_over alone now (laid_ops mid)) start (λ t. Steps l n t (Err fault)) → AtRest alone now start (λ t. LaysRecord (after_all (laid_ops old) t) l n old final (Err fault))
record-refused alone seen now old mid final start l n fault same still found =
    at-rest alone now start (λ t. Steps l n (after_all (laid_ops old) t) (Err fault) × (laid_ops mid ≡ laid_ops old)) (λ t. LaysRecord (after_all (laid_ops old) t) l n old final (Err fault))
    (λ t h. match-top (is_free fault) (CommitComesTo (after_all (laid_ops old) t) l n (Err fault)) (h.0, tt))
    (found-over alone seen now (laid_ops old) (laid_ops mid) start (λ t. Steps l n t (Err fault)) same still found)

pub record-laid : (alone : Bool) (seen now later : Option (List Op)) (old mid final : Layers) (start begin : Tree) (l : Loaded) (n : NewChange) (step : Step) (last : Last) → Tells → (alone ≡ true → now ≡ seen) → (alone ≡ true → seen_over alone now (laid_ops mid) ≡ seen_over alone seen (laid_ops old))
    → AtRest alone (seen_over alone now (laid_ops mid)) start (λ t. Steps l n t (Ok step)) → ArePartsOfCommit l.changelog step.parts → Lays mid final (lays step.parts) → last ≡ last_of step → later ≡ now → begin ≡ start
    → AtRest alone later begin (λ t. LaysRecord (after_all (laid_ops old) t) l n old final (Ok last))
record-laid alone seen now later old mid final start begin l n step last tells same still found parts laid is same_seen same_start =
    rest-same alone now later start begin (λ t. LaysRecord (after_all (laid_ops old) t) l n old final (Ok last)) same_seen same_start
    (at-rest alone now start (λ t. Steps l n (after_all (laid_ops old) t) (Ok step) × (laid_ops mid ≡ laid_ops old)) (λ t. LaysRecord (after_all (laid_ops old) t) l n old final (Ok last))
    (λ t h. (step, (h.0, parts), lays-from old mid final (lays step.parts) (sym h.1) (tells old mid (sym h.1)) laid, is))
    (found-over alone seen now (laid_ops old) (laid_ops mid) start (λ t. Steps l n t (Ok step)) same still found))

-- ---- a record of what is loaded

pub next-unread : (T : Tree) (n : NewChange) (old final : Layers) (e : ReadAnswer) → MatchBool (is_of_outside e) ⊤ (loaded_in T ≡ Err e) → LaysNext T n old final (Err (Unread e))
next-unread T n old final e h = match-map (is_of_outside e) (loaded_in T ≡ Err e) (IsRefusedOn T n (Unread e)) (λ is. is_unloaded e is) h

pub next-laid : (t : Tree) (read : Read) (l : Loaded) (n : NewChange) (old mid final : Layers) (result : Result Last CommitFault) → Tells → ((u : Tree) → loaded_in u ≡ Ok read → IsLoadedOf u l)
    → (loaded_in (after_all (laid_ops old) t) ≡ Ok read) × (laid_ops mid ≡ laid_ops old) → LaysRecord (after_all (laid_ops mid) t) l n mid final result → LaysNext (after_all (laid_ops old) t) n old final result
next-laid t read l n old mid final (Ok last) tells is_loaded h k =
    (k.0, record { loaded = l; is_loaded = is_loaded (after_all (laid_ops old) t) h.0; comes = subst (λ o. CommitComesTo (after_all o t) l n (Ok k.0)) h.1 k.1 }, lays-from old mid final (lays k.0.parts) (sym h.1) (tells old mid (sym h.1)) k.2, k.3)
next-laid t read l n old mid final (Err fault) tells is_loaded h k =
    match-map (is_free fault) (CommitComesTo (after_all (laid_ops mid) t) l n (Err fault)) (IsRefusedOn (after_all (laid_ops old) t) n fault)
    (λ comes. is_refused l fault (is_loaded (after_all (laid_ops old) t) h.0) (subst (λ o. CommitComesTo (after_all o t) l n (Err fault)) h.1 comes)) k

-- ---- more of them

-- whatever the others come to, all come to
abbrev pub Goes : Tree → List NewChange → Last → List NewChange → Last → Layers → Layers → Type 0
Goes t changes first rest last old now = (final : Layers) (result : Result Last CommitFault) → LaysMore (after_all (laid_ops now) t) rest last now final result → LaysMore (after_all (laid_ops old) t) changes first old final result

pub goes-begin : (t : Tree) (changes : List NewChange) (first : Last) (old : Layers) → Goes t changes first changes first old old
goes-begin t changes first old final result h = h

one-more : (t : Tree) (n : NewChange) (behind : List NewChange) (last next : Last) (now new final : Layers) (result : Result Last CommitFault) → LaysNext (after_all (laid_ops now) t) n now new (Ok next)
    → LaysMore (after_all (laid_ops new) t) behind next new final result → LaysMore (after_all (laid_ops now) t) (n ∷ behind) last now final result
one-more t n behind last next now new final (Ok x) h k =
    let s = h.0 in
    (s ∷ k.0, (h.1, subst (λ u. AreMore u behind k.0) (h.2.tree t) k.1), lays-then now new final (lays s.parts) (all_laid k.0) h.2 k.2, subst (λ y. IsLast y k.0 x) h.3 k.3)
one-more t n behind last next now new final (Err fault) h k =
    match-map (is_free fault) (IsRefusedAmong (after_all (laid_ops new) t) behind fault) (IsRefusedAmong (after_all (laid_ops now) t) (n ∷ behind) fault)
    (λ among. inr (h.0, h.1, subst (λ u. IsRefusedAmong u behind fault) (h.2.tree t) among)) k

pub goes-on : (t : Tree) (changes rest behind : List NewChange) (n : NewChange) (first last next : Last) (old now new : Layers) → rest ≡ n ∷ behind → Goes t changes first rest last old now → LaysNext (after_all (laid_ops now) t) n now new (Ok next) → Goes t changes first behind next old new
goes-on t changes rest behind n first last next old now new is goes h final result k =
    goes final result (subst (λ r. LaysMore (after_all (laid_ops now) t) r last now final result) (sym is) (one-more t n behind last next now new final result h k))

pub goes-out : (t : Tree) (changes rest behind : List NewChange) (n : NewChange) (first last : Last) (old now new : Layers) (fault : CommitFault) → rest ≡ n ∷ behind → Goes t changes first rest last old now → LaysNext (after_all (laid_ops now) t) n now new (Err fault) → LaysMore (after_all (laid_ops old) t) changes first old new (Err fault)
goes-out t changes rest behind n first last old now new fault is goes h =
    goes new (Err fault) (subst (λ r. LaysMore (after_all (laid_ops now) t) r last now new (Err fault)) (sym is) (match-map (is_free fault) (IsRefusedOn (after_all (laid_ops now) t) n fault) (IsRefusedAmong (after_all (laid_ops now) t) (n ∷ behind) fault) (λ r. inl r) h))

pub goes-end : (t : Tree) (changes rest : List NewChange) (first last : Last) (old now : Layers) → rest ≡ [] → Goes t changes first rest last old now → LaysMore (after_all (laid_ops old) t) changes first old now (Ok last)
goes-end t changes rest first last old now is goes =
    goes now (Ok last) (subst (λ r. LaysMore (after_all (laid_ops now) t) r last now now (Ok last)) (sym is) ([], tt, lays-none now now refl (λ path. refl), refl))

-- ---- all of them

pub all-laid : (t : Tree) (l : Loaded) (changes behind : List NewChange) (n : NewChange) (last : Last) (old mid final : Layers) (result : Result Last CommitFault) → changes ≡ n ∷ behind
    → LaysRecord (after_all (laid_ops old) t) l n old mid (Ok last) → LaysMore (after_all (laid_ops mid) t) behind last mid final result → LaysAll (after_all (laid_ops old) t) l changes old final result
all-laid t l changes behind n last old mid final (Ok x) is h k =
    let s = h.0 in
    (s, k.0, subst (λ r. ArePlanned (after_all (laid_ops old) t) l r (s ∷ k.0)) (sym is) (h.1, subst (λ u. AreMore u behind k.0) (h.2.tree t) k.1), lays-then old mid final (lays s.parts) (all_laid k.0) h.2 k.2, subst (λ y. IsLast y k.0 x) h.3 k.3)
all-laid t l changes behind n last old mid final (Err fault) is h k =
    match-map (is_free fault) (IsRefusedAmong (after_all (laid_ops mid) t) behind fault) (AreRefused (after_all (laid_ops old) t) l changes fault)
    (λ among. subst (λ r. AreRefused (after_all (laid_ops old) t) l r fault) (sym is) (inr (h.0, h.1, subst (λ u. IsRefusedAmong u behind fault) (h.2.tree t) among))) k

pub first-refused : (t : Tree) (l : Loaded) (changes behind : List NewChange) (n : NewChange) (old final : Layers) (fault : CommitFault) → changes ≡ n ∷ behind → LaysRecord (after_all (laid_ops old) t) l n old final (Err fault) → LaysAll (after_all (laid_ops old) t) l changes old final (Err fault)
first-refused t l changes behind n old final fault is h =
    match-map (is_free fault) (CommitComesTo (after_all (laid_ops old) t) l n (Err fault)) (AreRefused (after_all (laid_ops old) t) l changes fault)
    (λ comes. subst (λ r. AreRefused (after_all (laid_ops old) t) l r fault) (sym is) (inl comes)) h
