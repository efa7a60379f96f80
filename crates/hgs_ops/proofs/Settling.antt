-- What a tree shows between the publishing operation and the removal of the journal.
use Rattle.std.proofs.Common.{◌≡◌, ◌⊎◌, ℕ, suc, List, [], ◌∷◌, ◌++◌, Bool, true, false, cond, length, refl, sym, ◌∙◌, ap, subst, inl, inr, arith}
use Rattle.std.specs.Prelude.{◌/◌, Ok, codes, is_some, map}
use Rattle.hgs_bytes.specs.Bytes.{same, among}
use Rattle.hgs_files.specs.declared.op.Op.{Op}
use Rattle.hgs_files.specs.declared.op.Op.TheVariants.{Rename, Remove}
use Rattle.hgs_files.specs.Log.{IsDone}
use Rattle.hgs_files.specs.Tree.{Tree, after_all, apply, bytes_at}
use Rattle.hgs_index.specs.Revision.{Revision}
use Rattle.hgs_index.specs.Either.{BeginsEither}
use Rattle.hgs_index.specs.Inline.{index_apart}
use Rattle.hgs_journal.specs.Covers.{is_loose}
use Rattle.hgs_journal.specs.Names.{journal_path, new_name, place, new_journal_path}
use Rattle.hgs_marks.specs.Bookmarks.{read_bookmarks}
use Rattle.hgs_marks.specs.Dirstate.{read_dirstate}
use Rattle.hgs_model.specs.History.{changeset_nodes}
use Rattle.hgs_model.specs.declared.command.NewChange.{NewChange}
use Rattle.hgs_model.specs.declared.command.Command.{Command}
use Rattle.hgs_model.specs.declared.command.Command.TheVariants.{Commit, Import, Move, Mark, Unmark}
use Rattle.hgs_model.specs.Repo.{Repo}
use Rattle.hgs_model.specs.Step.{sets_bookmark}
use Rattle.hgs_path.specs.declared.name.Ext.{Ext}
use Rattle.hgs_path.specs.declared.name.Ext.TheVariants.{I, D}
use Rattle.hgs_path.specs.StoreName.{store_name}
use Rattle.hgs_phases.specs.Roots.{read_roots}
use Rattle.hgs_stands.specs.Places.{bookmarks_path, changelog_data, changelog_index, dirstate_path, manifest_data, manifest_index, requires_path, roots_path}
use Rattle.hgs_stands.specs.Shows.{BeginsAt, Shows, ShowsWorking}
use Rattle.hgs_stands.specs.Stands.{Stands, mark_of}
use Rattle.hgs_stands.specs.Theorems.ShowsLemmas.{stands-shows}
use Rattle.hgs_ops.specs.Operations.{Transaction, new_changelog_path, strays, transaction_of}
use Rattle.hgs_ops.specs.Replaced.{only_if, new_rename, new_roots}
use Rattle.hgs_ops.specs.Theorems.CommitTree.{is_quiet}
use Rattle.hgs_ops.proofs.Parts.{remove-done}
use Rattle.hgs_ops.specs.Theorems.Apart.{among-part, fixed, stores-fixed}
use Rattle.hgs_ops.specs.Theorems.Touch.{bytes-same, touched, touched-within, untouched}
use Rattle.hgs_ops.proofs.TransactionLemmas.{before-loose, commit-quiet, import-quiet}
use Rattle.hgs_ops.specs.Shown.{lacks_bookmarks, lacks_dirstate}

-- where the operations behind the publishing one write
abbrev settled_paths : List (List ℕ)
settled_paths = dirstate_path ∷ bookmarks_path ∷ place true (new_name (codes "dirstate")) ∷ place true (new_name (codes "bookmarks")) ∷ journal_path ∷ []

abbrev is_settled : List ℕ → Bool
is_settled p = among p settled_paths

module _ (t u v : Tree) (r next : Repo) (s : Stands t r) (n : Stands v next) (agree : (p : List ℕ) → is_settled p ≡ false → u p ≡ v p) where
  text : (p : List ℕ) → is_settled p ≡ false → bytes_at u p ≡ bytes_at v p
  text p e = bytes-same v u p (agree p e)

  begins : (index chunks : List ℕ) (revisions : List Revision) → is_settled index ≡ false → is_settled chunks ≡ false → BeginsAt v index chunks revisions → BeginsAt u index chunks revisions
  begins index chunks revisions a b h = subst (λ x. BeginsEither x (bytes_at u chunks) revisions) (sym (text index a)) (subst (λ y. BeginsEither (bytes_at v index) y revisions) (sym (text chunks b)) h)

  store-unsettled : (path : List ℕ) (ext : Ext) → is_settled (store_name path ext) ≡ false
  store-unsettled path ext = among-part settled_paths fixed (store_name path ext) refl (stores-fixed path ext)

  pub settled-shows : (b w : Bool) → u bookmarks_path ≡ cond b (t bookmarks_path) (v bookmarks_path) → u dirstate_path ≡ cond w (t dirstate_path) (v dirstate_path) → Shows u (cond b r next) (cond w r next) next
  settled-shows b w eb ew = record {
    requires = record { text = n.requires.text; there = agree requires_path refl ∙ n.requires.there; known = n.requires.known; whole = n.requires.whole };
    revlogs = record {
      whole = shown.revlogs.whole ∙ ap (λ l. length (index_apart l) / 64) (sym (text changelog_index refl));
      changelog = begins changelog_index changelog_data _ refl refl shown.revlogs.changelog;
      manifest = begins manifest_index manifest_data _ refl refl shown.revlogs.manifest;
      filelogs = λ path used. begins (store_name path I) (store_name path D) _ (store-unsettled path I) (store-unsettled path D) (shown.revlogs.filelogs path used);
    };
    phases = record { roots = shown.phases.roots; text = ap read_roots (text roots_path refl) ∙ shown.phases.text; phases = shown.phases.phases };
    bookmarks = by-marks b eb;
    working = by-working w ew;
  }
    where
      shown : Shows v next next next
      shown = stands-shows v next n

      old : Shows t r r r
      old = stands-shows t r s

      by-marks : (b : Bool) → u bookmarks_path ≡ cond b (t bookmarks_path) (v bookmarks_path) → read_bookmarks (bytes_at u bookmarks_path) ≡ Ok (map (mark_of (changeset_nodes (cond b r next).changesets)) (cond b r next).bookmarks)
      by-marks true e = ap read_bookmarks (bytes-same t u bookmarks_path e) ∙ old.bookmarks
      by-marks false e = ap read_bookmarks (bytes-same v u bookmarks_path e) ∙ shown.bookmarks

      by-working : (w : Bool) → u dirstate_path ≡ cond w (t dirstate_path) (v dirstate_path) → ShowsWorking u (cond w r next)
      by-working true e = record { dirstate = old.working.dirstate; text = ap read_dirstate (bytes-same t u dirstate_path e) ∙ old.working.text; first = old.working.first; second = old.working.second }
      by-working false e = record { dirstate = shown.working.dirstate; text = ap read_dirstate (bytes-same v u dirstate_path e) ∙ shown.working.text; first = shown.working.first; second = shown.working.second }

-- ---- the places between

-- what is left of operations that are never done in part is the list without those done
first-left : (from to : List ℕ) (ops log left : List Op) → IsDone (Rename from to ∷ ops) log left → ((log ≡ []) × (left ≡ Rename from to ∷ ops)) ⊎ ((more : List Op) × (log ≡ Rename from to ∷ more) × IsDone ops more left)
first-left from to ops [] left h = inl (refl, sym h)
first-left from to ops (op ∷ more) left (j, (rest, (f, g), e), k) =
    inr (more, ap (λ o. o ∷ more) f, subst (λ (l : List Op). IsDone l more left) (e ∙ ap (λ l. l ++ ops) g) k)

abbrev to_dirstate : Op
to_dirstate = Rename (place true (new_name (codes "dirstate"))) dirstate_path

abbrev to_bookmarks : Op
to_bookmarks = Rename (place true (new_name (codes "bookmarks"))) bookmarks_path

abbrev end : List Op
end = Remove journal_path ∷ []

nothing : (op : Op) (ops : List Op) → op ∷ ops ≡ [] → ⊥
nothing op ops e = let n : suc (length ops) ≡ 0 = ap length e in omega (arith, n)

module _ (t : Tree) (r next : Repo) (s : Stands t r) where
  -- what is shown when this was done of a list and that is left
  abbrev Shown : Tree → List Op → List Op → Type 0
  Shown base log left = Shows (after_all log base) (cond (lacks_bookmarks left) r next) (cond (lacks_dirstate left) r next) next

  -- the removal alone is left
  end-shown : (u : Tree) → Stands (after_all end u) next → Shown u [] end
  end-shown u n = settled-shows t u (after_all end u) r next s n (λ p e. sym (untouched end u p (touched-within is_settled end p refl e))) false false (sym (untouched end u bookmarks_path refl)) (sym (untouched end u dirstate_path refl))

  end-left : (base : Tree) (log : List Op) (o : Op) (l : List Op) → Stands (after_all end base) next → IsDone end log (o ∷ l) → Shown base log (o ∷ l)
  end-left base log o l n h = elim (remove-done journal_path log (o ∷ l) h) [
    | inl (e, f) ↦ subst (λ (left : List Op). Shown base log left) (sym f) (subst (λ (done : List Op). Shown base done end) (sym e) (end-shown base n))
    | inr (e, f) ↦ absurd (nothing o l f)
  ]

  marks-left : (base : Tree) (log : List Op) (o : Op) (l : List Op) → base bookmarks_path ≡ t bookmarks_path → Stands (after_all (to_bookmarks ∷ end) base) next → IsDone (to_bookmarks ∷ end) log (o ∷ l) → Shown base log (o ∷ l)
  marks-left base log o l b n h = elim (first-left (place true (new_name (codes "bookmarks"))) bookmarks_path end log (o ∷ l) h) [
    | inl (e, f) ↦ subst (λ (left : List Op). Shown base log left) (sym f) (subst (λ (done : List Op). Shown base done (to_bookmarks ∷ end)) (sym e)
        (settled-shows t base (after_all (to_bookmarks ∷ end) base) r next s n (λ p e. sym (untouched (to_bookmarks ∷ end) base p (touched-within is_settled (to_bookmarks ∷ end) p refl e))) true false b (sym (untouched (to_bookmarks ∷ end) base dirstate_path refl))))
    | inr (more, e, k) ↦ subst (λ (done : List Op). Shown base done (o ∷ l)) (sym e) (end-left (apply to_bookmarks base) more o l n k)
  ]

  dirstate-left : (bk : Bool) (base : Tree) (log : List Op) (o : Op) (l : List Op) → base bookmarks_path ≡ t bookmarks_path → base dirstate_path ≡ t dirstate_path → Stands (after_all ((to_dirstate ∷ only_if bk to_bookmarks) ++ end) base) next → IsDone ((to_dirstate ∷ only_if bk to_bookmarks) ++ end) log (o ∷ l) → Shown base log (o ∷ l)
  dirstate-left true base log o l b d n h = elim (first-left (place true (new_name (codes "dirstate"))) dirstate_path (to_bookmarks ∷ end) log (o ∷ l) h) [
    | inl (e, f) ↦ subst (λ (left : List Op). Shown base log left) (sym f) (subst (λ (done : List Op). Shown base done (to_dirstate ∷ to_bookmarks ∷ end)) (sym e)
        (settled-shows t base (after_all (to_dirstate ∷ to_bookmarks ∷ end) base) r next s n (λ p e. sym (untouched (to_dirstate ∷ to_bookmarks ∷ end) base p (touched-within is_settled (to_dirstate ∷ to_bookmarks ∷ end) p refl e))) true true b d))
    | inr (more, e, k) ↦ subst (λ (done : List Op). Shown base done (o ∷ l)) (sym e) (marks-left (apply to_dirstate base) more o l (untouched (to_dirstate ∷ []) base bookmarks_path refl ∙ b) n k)
  ]
  dirstate-left false base log o l b d n h = elim (first-left (place true (new_name (codes "dirstate"))) dirstate_path end log (o ∷ l) h) [
    | inl (e, f) ↦ subst (λ (left : List Op). Shown base log left) (sym f) (subst (λ (done : List Op). Shown base done (to_dirstate ∷ end)) (sym e)
        (settled-shows t base (after_all (to_dirstate ∷ end) base) r next s n (λ p e. sym (untouched (to_dirstate ∷ end) base p (touched-within is_settled (to_dirstate ∷ end) p refl e))) true true b d))
    | inr (more, e, k) ↦ subst (λ (done : List Op). Shown base done (o ∷ l)) (sym e) (end-left (apply to_dirstate base) more o l n k)
  ]

  abbrev to_publishing : Transaction → List Op
  to_publishing x = x.changes ++ x.publish ∷ []

  abbrev through_removal : Transaction → List Op
  through_removal x = x.renames ++ Remove journal_path ∷ []

  abbrev published_tree : Transaction → Tree
  published_tree x = after_all (to_publishing x) (apply x.journal (after_all x.before t))

  -- a commit or an import has not come to these files when it is published
  commit-old : (n : NewChange) (who q : List ℕ) → is_quiet q ≡ true → is_loose strays q ≡ false → touched q (new_rename (new_roots next) ∷ []) ≡ false → same changelog_index q ≡ false → touched q (Rename new_journal_path journal_path ∷ []) ≡ false → published_tree (transaction_of t r (Commit n) who next) q ≡ t q
  commit-old n who q quiet free a b c =
      untouched (to_publishing (transaction_of t r (Commit n) who next)) (apply (transaction_of t r (Commit n) who next).journal (after_all (transaction_of t r (Commit n) who next).before t)) q (commit-quiet t r next n who q quiet a b)
      ∙ untouched ((transaction_of t r (Commit n) who next).journal ∷ []) (after_all (transaction_of t r (Commit n) who next).before t) q c
      ∙ untouched (transaction_of t r (Commit n) who next).before t q (touched-within (is_loose strays) (transaction_of t r (Commit n) who next).before q (before-loose t r next (Commit n) who) free)

  import-old : (changes : List NewChange) (who q : List ℕ) → is_quiet q ≡ true → is_loose strays q ≡ false → touched q (new_rename (new_roots next) ∷ []) ≡ false → same new_changelog_path q ≡ false → same changelog_index q ≡ false → touched q (Rename new_journal_path journal_path ∷ []) ≡ false → published_tree (transaction_of t r (Import changes) who next) q ≡ t q
  import-old changes who q quiet free a b c d =
      untouched (to_publishing (transaction_of t r (Import changes) who next)) (apply (transaction_of t r (Import changes) who next).journal (after_all (transaction_of t r (Import changes) who next).before t)) q (import-quiet t r next changes who q quiet a b c)
      ∙ untouched ((transaction_of t r (Import changes) who next).journal ∷ []) (after_all (transaction_of t r (Import changes) who next).before t) q d
      ∙ untouched (transaction_of t r (Import changes) who next).before t q (touched-within (is_loose strays) (transaction_of t r (Import changes) who next).before q (before-loose t r next (Import changes) who) free)

  pub settling : (command : Command) (who : List ℕ) → Stands (after_all (through_removal (transaction_of t r command who next)) (published_tree (transaction_of t r command who next))) next → (log : List Op) (o : Op) (l : List Op) → IsDone (through_removal (transaction_of t r command who next)) log (o ∷ l) → Shown (published_tree (transaction_of t r command who next)) log (o ∷ l)
  settling (Commit n) who stands log o l h = dirstate-left (is_some n.bookmark) (published_tree (transaction_of t r (Commit n) who next)) log o l (commit-old n who bookmarks_path refl refl refl refl refl) (commit-old n who dirstate_path refl refl refl refl refl) stands h
  settling (Import changes) who stands log o l h = dirstate-left (sets_bookmark changes) (published_tree (transaction_of t r (Import changes) who next)) log o l (import-old changes who bookmarks_path refl refl refl refl refl refl) (import-old changes who dirstate_path refl refl refl refl refl refl) stands h
  settling (Move rev phase force) who stands log o l h = end-left (published_tree (transaction_of t r (Move rev phase force) who next)) log o l stands h
  settling (Mark name rev) who stands log o l h = end-left (published_tree (transaction_of t r (Mark name rev) who next)) log o l stands h
  settling (Unmark name) who stands log o l h = end-left (published_tree (transaction_of t r (Unmark name) who next)) log o l stands h
