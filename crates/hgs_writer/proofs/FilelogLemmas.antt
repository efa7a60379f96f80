-- The filelog that is loaded of a path is the list of its revisions.
use Rattle.std.proofs.Common.{◌≡◌, ℕ, List, [], Bool, true, false, cond, inl, inr, refl, sym, ◌∙◌, ap, subst}
use Rattle.std.specs.Prelude.{Result, Ok}
use Rattle.hgs_files.specs.Tree.{Tree, bytes_at}
use Rattle.hgs_index.specs.Revision.{Revision}
use Rattle.hgs_loading.specs.Found.{and_then}
use Rattle.hgs_loading.specs.Logs.{either_log_in}
use Rattle.hgs_model.specs.History.{history, uses}
use Rattle.hgs_model.specs.Repo.{Repo}
use Rattle.hgs_model.specs.Theorems.ListLemmas.{none-some}
use Rattle.hgs_path.specs.declared.fncache.FncacheFault.{FncacheFault}
use Rattle.hgs_path.specs.declared.name.Ext.{Ext}
use Rattle.hgs_path.specs.declared.name.Ext.TheVariants.{I}
use Rattle.hgs_path.specs.Fncache.{as_files, listing, lists}
use Rattle.hgs_path.specs.StoreName.{listed_name, store_name}
use Rattle.hgs_load.specs.declared.answer.ReadAnswer.{ReadAnswer}
use Rattle.hgs_revlog.specs.declared.fault.RevFault.{RevFault}
use Rattle.hgs_revlog.specs.declared.fault.Tail.TheVariants.{Refuse}
use Rattle.hgs_revlog.specs.Load.{loaded_either}
use Rattle.hgs_revlog.specs.Log.{Log}
use Rattle.hgs_stands.specs.Stands.{IsUsedName, Stands}
use Rattle.hgs_stands.specs.Theorems.FilesLemmas.{name-used}
use Rattle.hgs_steps.specs.Planned.{IsLoadedOf}
use Rattle.hgs_steps.specs.declared.loaded.Loaded.{Loaded}
use Rattle.hgs_commit.specs.Files.{empty_log, filelog_in, filelog_with}
use Rattle.hgs_commit.specs.Texts.{OfLog}
use Rattle.hgs_writer.specs.CommitsBelow.{Below}
use Rattle.hgs_writer.specs.Logs.{IsLogOf}
use Rattle.hgs_writer.proofs.Basics.{both, never, ok-is}
use Rattle.hgs_writer.proofs.LogLemmas.{log-of}

-- the list that was loaded has the names of the tree's
pub listing-is : (t : Tree) (r : Repo) (l : Loaded) (s : Stands t r) → IsLoadedOf t l → listing l.fncache ≡ lists s.fncache.names
listing-is t r l s h = ok-is {E = FncacheFault} (listing l.fncache) (lists s.fncache.names) (sym h.fncache ∙ ap as_files s.fncache.text)

empty-log-of : (laws : Below) (t : Tree) (path : List ℕ) → IsLogOf t (filelog_with path empty_log) []
empty-log-of laws t path = record { entries = laws.empty; form = tt; texts = refl; places = λ rev e there. none-some e there; nodes_are = refl; different = refl; parents_are = refl }

-- an index without bytes has no entries
loaded-nothing : (log : Log) (bytes : List ℕ) → bytes ≡ [] → loaded_either Refuse bytes ≡ Ok log → empty_log ≡ log
loaded-nothing log bytes none e = ok-is {E = RevFault} empty_log log (ap (loaded_either Refuse) (sym none) ∙ e)

pub filelog-of : (laws : Below) (t : Tree) (r : Repo) (l : Loaded) (path : List ℕ) (f : OfLog) → Stands t r → IsLoadedOf t l → filelog_in (listing l.fncache) path t ≡ Ok f → IsLogOf t f ((history r.changesets).filelog path)
filelog-of laws t r l path f s h e = by (uses r.changesets path) (lists s.fncache.names path I) refl refl (ap (λ (list : List ℕ → Ext → Bool). filelog_in list path t) (sym (listing-is t r l s h)) ∙ e)
  where
    revisions : List Revision
    revisions = (history r.changesets).filelog path

    answer : Bool → Result OfLog ReadAnswer
    answer b = cond b (and_then (either_log_in (store_name path I) t) (λ log. Ok (filelog_with path log))) (Ok (filelog_with path empty_log))

    -- a name without a used path has a file without bytes
    no-bytes : uses r.changesets path ≡ false → IsUsedName t r.changesets (listed_name path I) → bytes_at t (store_name path I) ≡ []
    no-bytes unused (inl none) = ap (bytes_at t) (sym (laws.file path I)) ∙ none
    no-bytes unused (inr there) = never (sym there.2 ∙ ap (uses r.changesets) (laws.names there.0 path there.1 I there.3) ∙ unused)

    by : (used listed : Bool) → uses r.changesets path ≡ used → lists s.fncache.names path I ≡ listed → answer (lists s.fncache.names path I) ≡ Ok f → IsLogOf t f revisions
    by true true used listed g =
        let a = both (either_log_in (store_name path I) t) (λ log. Ok (filelog_with path log)) f (ap answer (sym listed) ∙ g) in
        subst (λ (x : OfLog). IsLogOf t x revisions) (ok-is {E = ReadAnswer} (filelog_with path a.0) f a.2)
        (log-of laws t (filelog_with path a.0) revisions (s.revlogs.filelogs path used) (laws.whole (store_name path I) t a.0 a.1))
    by true false used listed g = never (sym (s.fncache.listed path I used refl) ∙ listed)
    by false true unused listed g =
        let a = both (either_log_in (store_name path I) t) (λ log. Ok (filelog_with path log)) f (ap answer (sym listed) ∙ g) in
        let none = no-bytes unused (name-used t r s.fncache.names (listed_name path I) s s.fncache.text listed) in
        let empty = loaded-nothing a.0 (bytes_at t (store_name path I)) none (laws.whole (store_name path I) t a.0 a.1) in
        subst (λ (x : OfLog). IsLogOf t x revisions) (ap (filelog_with path) empty ∙ ok-is {E = ReadAnswer} (filelog_with path a.0) f a.2)
        (subst (IsLogOf t (filelog_with path empty_log)) (sym (laws.unused r.changesets path unused)) (empty-log-of laws t path))
    by false false unused listed g =
        subst (λ (x : OfLog). IsLogOf t x revisions) (ok-is {E = ReadAnswer} (filelog_with path empty_log) f (ap answer (sym listed) ∙ g))
        (subst (IsLogOf t (filelog_with path empty_log)) (sym (laws.unused r.changesets path unused)) (empty-log-of laws t path))
