-- What is known of files stays known of those to which a record appends nothing.
use Rattle.std.proofs.Common.{◌≡◌, ℕ, List, [], ◌∷◌, ◌++◌, Bool, true, false, Option, map, take, refl, sym, ◌∙◌, ap, subst, append_assoc}
use Rattle.std.specs.Prelude.{◌||◌, flat_map, codes, IfSome, Ok, None, unwrap_or, slice_get, if◌then◌else◌}
use Rattle.std.specs.Option.{option_map}
use Rattle.std.specs.List.{AllByRecursion, list_any}
use Rattle.hgs_bytes.specs.Bytes.{same}
use Rattle.hgs_files.specs.declared.op.Op.{Op}
use Rattle.hgs_files.specs.Tree.{Tree, after_all, bytes_at}
use Rattle.hgs_commit.specs.Commit.{AtRest}
use Rattle.hgs_commit.specs.Files.{filelog_with, kept_at, kept_by, is_shorter}
use Rattle.hgs_commit.specs.Known.{AreKept, AreUntouched, IsKept, is_touched}
use Rattle.hgs_commit.specs.OfCommit.{ArePartsOfCommit, IsEntryBehind}
use Rattle.hgs_commit.specs.declared.known.Known.{Known}
use Rattle.hgs_commit.specs.declared.known.KnownFile.{KnownFile}
use Rattle.hgs_journal.specs.Theorems.Touched.{or-both, or-left, or-right, touched, touched-append, untouched}
use Rattle.hgs_load.specs.View.{log_answer}
use Rattle.hgs_loading.specs.Logs.{chunk_file, either_log_in, has_more, most_index}
use Rattle.hgs_overlay.specs.declared.layers.Layers.{Layers}
use Rattle.hgs_overlay.specs.Layers.{laid_ops}
use Rattle.hgs_overlay.specs.Overlay.{seen_over}
use Rattle.hgs_path.specs.declared.name.Ext.{Ext}
use Rattle.hgs_path.specs.declared.name.Ext.TheVariants.{I, D}
use Rattle.hgs_path.specs.StoreName.{store_name}
use Rattle.hgs_reader.specs.Find.{chunk_placed}
use Rattle.hgs_reader.specs.declared.find.RevlogPaths.{RevlogPaths}
use Rattle.hgs_revlog.specs.Load.{loaded_either}
use Rattle.hgs_revlog.specs.Log.{Log}
use Rattle.hgs_revlog.specs.Text.{span_in, text_of}
use Rattle.hgs_revlog.specs.declared.fault.Tail.TheVariants.{Refuse}
use Rattle.hgs_transaction.specs.declared.parts.Change.{Change}
use Rattle.hgs_transaction.specs.declared.parts.Change.TheVariants.{Append, MakeIndex, RenameIndex, Replace}
use Rattle.hgs_transaction.specs.declared.parts.Parts.{Parts}
use Rattle.hgs_transaction.specs.declared.parts.ReplacedFile.{ReplacedFile}
use Rattle.hgs_transaction.specs.declared.parts.ReplacedFile.TheVariants.{PhaseRoots, Dirstate, Bookmarks}
use Rattle.hgs_transaction.specs.declared.parts.Replacing.{Replacing}
use Rattle.hgs_writer.specs.Joined.{laying, lays, replaced_path}
use Rattle.hgs_writer.specs.Layered.{Lays}
use Rattle.hgs_writer.proofs.OverLemmas.{found-over, under-layers}
use Rattle.hgs_writer.proofs.PlanLemmas.{at-rest}
use Rattle.hgs_writer.proofs.RecordsLaid.{rest-same}

-- the files of filelogs have names of their own
abbrev pub OwnNames : Type 0
OwnNames = (path : List ℕ) (ext : Ext) → (rest : List ℕ) × (store_name path ext ≡ codes "store/d" ++ rest)

-- ---- operations at other paths

-- appends to a path
abbrev appends_at : List ℕ → Change → Bool
appends_at path (Append a) = same a.path path
appends_at path (Replace x) = false
appends_at path (MakeIndex bytes) = false
appends_at path (RenameIndex before) = false

or-none : (b : Bool) → b ≡ false → (b || false) ≡ false
or-none true e = e
or-none false e = refl

flat-append : (xs ys : List Change) → flat_map laying (xs ++ ys) ≡ flat_map laying xs ++ flat_map laying ys
flat-append [] ys = refl
flat-append (x ∷ xs) ys = ap (λ l. laying x ++ l) (flat-append xs ys) ∙ sym (append_assoc (laying x) (flat_map laying xs) (flat_map laying ys))

module _ (path rest : List ℕ) (is : path ≡ codes "store/d" ++ rest) where
  other-replaced : (file : ReplacedFile) → same (replaced_path file) path ≡ false
  other-replaced PhaseRoots = ap (same (replaced_path PhaseRoots)) is
  other-replaced Dirstate = ap (same (replaced_path Dirstate)) is
  other-replaced Bookmarks = ap (same (replaced_path Bookmarks)) is

  replaced-clear : (x : Replacing) → touched path (laying (Replace x)) ≡ false
  replaced-clear x = or-none (same (replaced_path x.file) path) (other-replaced x.file)

  all-replaced : (xs : List Replacing) → touched path (flat_map laying (map (λ x. Replace x) xs)) ≡ false
  all-replaced [] = refl
  all-replaced (x ∷ xs) = touched-append path (laying (Replace x)) (flat_map laying (map (λ y. Replace y) xs)) (replaced-clear x) (all-replaced xs)

  one-clear : (c : Change) → appends_at path c ≡ false → touched path (laying c) ≡ false
  one-clear (Append a) e = or-none (same a.path path) e
  one-clear (Replace x) e = replaced-clear x
  one-clear (MakeIndex bytes) e = refl
  one-clear (RenameIndex before) e = refl

  all-clear : (cs : List Change) → list_any (appends_at path) cs ≡ false → touched path (flat_map laying cs) ≡ false
  all-clear [] e = refl
  all-clear (c ∷ cs) e = touched-append path (laying c) (flat_map laying cs) (one-clear c (or-left (appends_at path c) _ e)) (all-clear cs (or-right (appends_at path c) _ e))

  published-clear : (log : Log) (c : Change) → IsEntryBehind log c → touched path (laying c) ≡ false
  published-clear log (Append a) e = or-none (same a.path path) (ap (λ p. same p path) e.0 ∙ ap (same (codes "store/00changelog.i")) is)
  published-clear log (Replace x) e = absurd e
  published-clear log (MakeIndex bytes) e = absurd e
  published-clear log (RenameIndex before) e = absurd e

  parts-clear : (log : Log) (p : Parts) → ArePartsOfCommit log p → list_any (appends_at path) p.before ≡ false → touched path (lays p) ≡ false
  parts-clear log p are e =
      let behind = flat_map laying (map (λ x. Replace x) p.after) in
      ap (touched path) (flat-append p.before (p.publishing ∷ map (λ x. Replace x) p.after))
      ∙ touched-append path (flat_map laying p.before) (laying p.publishing ++ behind) (all-clear p.before e) (touched-append path (laying p.publishing) behind (published-clear log p.publishing are.publishing) (all-replaced p.after))

  same-bytes : (log : Log) (p : Parts) (t : Tree) → ArePartsOfCommit log p → list_any (appends_at path) p.before ≡ false → bytes_at (after_all (lays p) t) path ≡ bytes_at t path
  same-bytes log p t are e = ap (λ (o : Option (List ℕ)). unwrap_or o []) (untouched (lays p) t path (parts-clear log p are e))

-- ---- a file that is known

split-any : (paths : RevlogPaths) (cs : List Change) → is_touched cs paths ≡ false → (list_any (appends_at paths.index) cs ≡ false) × (list_any (appends_at paths.chunks) cs ≡ false)
split-any paths [] e = (refl, refl)
split-any paths (Append a ∷ cs) e =
    let one = or-left (same a.path paths.index || same a.path paths.chunks) _ e in
    let more = split-any paths cs (or-right (same a.path paths.index || same a.path paths.chunks) _ e) in
    (or-both (same a.path paths.index) _ (or-left (same a.path paths.index) _ one) more.0, or-both (same a.path paths.chunks) _ (or-right (same a.path paths.index) _ one) more.1)
split-any paths (Replace x ∷ cs) e = split-any paths cs e
split-any paths (MakeIndex bytes ∷ cs) e = split-any paths cs e
split-any paths (RenameIndex before ∷ cs) e = split-any paths cs e

-- in a tree whose filelog has the same bytes
module _ (t u : Tree) (path : List ℕ) (index : bytes_at u (store_name path I) ≡ bytes_at t (store_name path I)) (chunks : bytes_at u (store_name path D) ≡ bytes_at t (store_name path D)) where
  same-log : either_log_in (store_name path I) u ≡ either_log_in (store_name path I) t
  same-log = ap (λ b. log_answer (store_name path I) (loaded_either Refuse (if has_more (take most_index b) then b else take most_index b))) index

  in-file : (inline : Bool) → bytes_at u (chunk_file inline (store_name path I) (store_name path D)) ≡ bytes_at t (chunk_file inline (store_name path I) (store_name path D))
  in-file true = index
  in-file false = chunks

  same-kept : (log : Log) (rev : ℕ) (body : List ℕ) → kept_at (filelog_with path log) rev body u ≡ kept_at (filelog_with path log) rev body t
  same-kept log rev body = ap (λ b. if is_shorter (slice_get log.entries rev) body then Ok None else kept_by (filelog_with path log) rev body (text_of log.entries rev (chunk_placed b (option_map (span_in log.inline rev) (slice_get log.entries rev))))) (in-file log.inline)

kept-there : (k : KnownFile) (t u : Tree) → bytes_at u (store_name k.file.now.path I) ≡ bytes_at t (store_name k.file.now.path I) → bytes_at u (store_name k.file.now.path D) ≡ bytes_at t (store_name k.file.now.path D) → IsKept t k → IsKept u k
kept-there k t u index chunks is = record {
  index = is.index;
  chunks = is.chunks;
  log = is.log;
  is_log = same-log t u k.file.now.path index chunks ∙ is.is_log;
  inline = is.inline;
  rev = is.rev;
  place = is.place;
  kept = same-kept t u k.file.now.path index chunks is.log is.rev k.file.now.body ∙ is.kept;
}

module _ (own : OwnNames) (log : Log) (p : Parts) (t : Tree) (are : ArePartsOfCommit log p) where
  stays : (path name : List ℕ) (ext : Ext) → name ≡ store_name path ext → list_any (appends_at name) p.before ≡ false → bytes_at (after_all (lays p) t) (store_name path ext) ≡ bytes_at t (store_name path ext)
  stays path name ext is e = same-bytes (store_name path ext) (own path ext).0 (own path ext).1 log p t are (ap (λ n. list_any (appends_at n) p.before) (sym is) ∙ e)

  file-stays : (k : KnownFile) → IsKept t k × (is_touched p.before k.paths ≡ false) → IsKept (after_all (lays p) t) k
  file-stays k h =
      let clear = split-any k.paths p.before h.1 in
      kept-there k t (after_all (lays p) t) (stays k.file.now.path k.paths.index I h.0.index clear.0) (stays k.file.now.path k.paths.chunks D h.0.chunks clear.1) h.0

  files-stay : (ks : List KnownFile) → AllByRecursion (λ (k : KnownFile). IsKept t k × (is_touched p.before k.paths ≡ false)) ks → AllByRecursion (IsKept (after_all (lays p) t)) ks
  files-stay [] h = tt
  files-stay (k ∷ ks) h = (file-stays k h.0, files-stay ks h.1)

  pub known-stays : (k : Known) → AreUntouched t p.before k → AreKept (after_all (lays p) t) k
  known-stays k h = (files-stay k.before.items h.0, subst (AllByRecursion (IsKept (after_all (lays p) t))) (sym h.1) tt)

-- ---- files under layers

-- it stays where only is read
pub known-still : (alone : Bool) (seen now : Option (List Op)) (old mid : Layers) (start later : Tree) (k : Known) → (alone ≡ true → now ≡ seen) → (alone ≡ true → seen_over alone now (laid_ops mid) ≡ seen_over alone seen (laid_ops old)) → later ≡ start
    → AtRest alone seen start (λ t. AreKept (after_all (laid_ops old) t) k) → AtRest alone now later (λ t. AreKept (after_all (laid_ops mid) t) k)
known-still alone seen now old mid start later k same still same_start h =
    rest-same alone now now start later (λ t. AreKept (after_all (laid_ops mid) t) k) refl same_start
    (at-rest alone now start (λ t. AreKept (after_all (laid_ops old) t) k × (laid_ops mid ≡ laid_ops old)) (λ t. AreKept (after_all (laid_ops mid) t) k)
    (λ t both. subst (λ o. AreKept (after_all o t) k) (sym both.1) both.0)
    (found-over alone seen now (laid_ops old) (laid_ops mid) start (λ t. AreKept t k) same still
    (λ is. subst (λ o. IfSome o (λ log. AreKept (after_all log start) k)) (sym (still is)) (under-layers alone seen (laid_ops old) start (λ t. AreKept t k) h is))))

-- what is known behind a record
pub record-known : (own : OwnNames) (alone : Bool) (seen now later : Option (List Op)) (old mid final : Layers) (start begin : Tree) (log : Log) (p : Parts) (k next : Known) → (alone ≡ true → now ≡ seen) → (alone ≡ true → seen_over alone now (laid_ops mid) ≡ seen_over alone seen (laid_ops old))
    → AtRest alone (seen_over alone now (laid_ops mid)) start (λ t. AreKept t k) → ArePartsOfCommit log p → ((t : Tree) → AreKept t k → AreUntouched t p.before next) → Lays mid final (lays p) → later ≡ now → begin ≡ start
    → AtRest alone later begin (λ t. AreKept (after_all (laid_ops final) t) next)
record-known own alone seen now later old mid final start begin log p k next same still known are turned laid same_seen same_start =
    rest-same alone now later start begin (λ t. AreKept (after_all (laid_ops final) t) next) same_seen same_start
    (at-rest alone now start (λ t. AreKept (after_all (laid_ops old) t) k × (laid_ops mid ≡ laid_ops old)) (λ t. AreKept (after_all (laid_ops final) t) next)
    (λ t h. subst (λ u. AreKept u next) (sym (laid.tree t)) (known-stays own log p (after_all (laid_ops mid) t) are next (turned (after_all (laid_ops mid) t) (subst (λ o. AreKept (after_all o t) k) (sym h.1) h.0))))
    (found-over alone seen now (laid_ops old) (laid_ops mid) start (λ t. AreKept t k) same still known))
