-- A transaction that is published by the rename of a file that goes on from one of its journal is one.
use Rattle.std.proofs.Common.{◌≡◌, ◌⊎◌, ℕ, List, [], ◌∷◌, ◌++◌, Bool, true, false, cond, not, ◌&&◌, ◌||◌, map, refl, sym, ◌∙◌, ap, subst, inl, inr}
use Rattle.std.specs.List.{AllByRecursion, list_all}
use Rattle.hgs_bytes.specs.Bytes.{same, among}
use Rattle.hgs_bytes.specs.Theorems.ByteLemmas.{same-eq, same-refl}
use Rattle.hgs_files.specs.declared.op.Op.{Op}
use Rattle.hgs_files.specs.declared.op.Op.TheVariants.{Create, Rename, Settle, Sync}
use Rattle.hgs_files.specs.Tree.{Tree, bytes_at, same_path, touches}
use Rattle.hgs_journal.specs.declared.backups.BackupLine.{BackupLine}
use Rattle.hgs_journal.specs.Covers.{HasOwnStrays, is_loose, journal_paths}
use Rattle.hgs_journal.specs.Names.{is_replaced, journal_path, new_journal_path}
use Rattle.hgs_journal.specs.Theorems.TreeFacts.{apart, bool, never, other-path, same-sym}
use Rattle.hgs_journal.specs.Theorems.Touched.{and-both, or-left, or-right}
use Rattle.hgs_power.specs.Keeps.{IsFree}
use Rattle.hgs_power.specs.Plan.{IsReplacing, MayWorkAll, firm_after, firm_step, put_all}
use Rattle.hgs_power.specs.Shape.{IsAmong, IsOnward, New, Onward, Shape, line_of, new_of, onward_steps, place_of, puts_of, rename_of, sync_of}
use Rattle.hgs_power.specs.Transaction.{IsTransaction, Steps, firm_at_rest, firm_when_named}
use Rattle.hgs_power.specs.Theorems.FirmAfter.{firm-append, firm-synced, firm-untouched, may-append, syncs-keep}
use Rattle.hgs_power.specs.Theorems.HeldChanges.{any-none}
use Rattle.hgs_power.specs.Theorems.Shapes.{NewsFirm, appends-keep, appends-may, line-bound, list-from, new-loose, news-named, puts-firm, renames-keep, renames-lines, renames-may, shape-plan, syncs-may}

module _ (strays : List (List ℕ)) (own : HasOwnStrays strays) (stray : is_loose strays new_journal_path ≡ true) (u : Tree) (s : Shape) (x : Onward) (h : IsOnward strays u s x) where
  abbrev list : List BackupLine
  list = map (line_of u) s.files

  abbrev steps : Steps
  steps = onward_steps u s x

  abbrev made : Op
  made = Create x.from (bytes_at u x.to ++ x.more)

  free : IsFree strays list x.from
  free = (h.loose, h.unread)

  -- the name under which the file is put is that of no new text, of no replaced file and of no file of the journal
  from-new : (y : New) → among (new_of y) (map new_of s.files) ≡ true → same x.from (new_of y) ≡ false
  from-new y e = same-sym (new_of y) x.from (apart (λ p. among p (map new_of s.files)) (new_of y) x.from e h.unput)

  from-file : (y : New) → among (place_of y) (map place_of s.files) ≡ true → same x.from (place_of y) ≡ false
  from-file y e = same-sym (place_of y) x.from (apart (λ p. among p (map place_of s.files)) (place_of y) x.from e h.unnamed)

  from-line : (p : List ℕ) → among p (journal_paths s.journal) ≡ true → same x.from p ≡ false
  from-line p e = apart (is_loose strays) x.from p h.loose (line-bound strays own stray u s h.shape p e)

  -- ---- new texts stay firm

  made-keeps : (was : List ℕ → Bool) → NewsFirm s.files was → NewsFirm s.files (firm_step made was)
  made-keeps was n y one e = ap (λ b. cond b false (was (new_of y))) (from-new y e) ∙ n y one e

  sync-keeps : (was : List ℕ → Bool) → NewsFirm s.files was → NewsFirm s.files (firm_step (Sync x.from) was)
  sync-keeps was n y one e = syncs-keep (x.from ∷ []) was (new_of y) (n y one e)

  to-new : (y : New) → is_replaced y.plain y.file ≡ true → same x.to (new_of y) ≡ false
  to-new y one = same-sym (new_of y) x.to (apart (is_loose strays) (new_of y) x.to (new-loose strays own stray y one) (line-bound strays own stray u s h.shape x.to h.named))

  rename-keeps : (was : List ℕ → Bool) → NewsFirm s.files was → NewsFirm s.files (firm_step (Rename x.from x.to) was)
  rename-keeps was n y one e = ap (λ b. cond b (was x.from && was x.to) (was (new_of y))) (to-new y one) ∙ n y one e

  -- ---- one after another

  abbrev named : List ℕ → Bool
  named = firm_when_named strays steps

  abbrev appended : List ℕ → Bool
  appended = firm_after s.appends named

  abbrev put : List ℕ → Bool
  put = firm_step made appended

  abbrev synced : List ℕ → Bool
  synced = firm_after (map sync_of s.syncs) put

  abbrev whole : List ℕ → Bool
  whole = firm_step (Sync x.from) synced

  abbrev renamed : List ℕ → Bool
  renamed = firm_after (map rename_of s.first) whole

  abbrev published : List ℕ → Bool
  published = firm_step (Rename x.from x.to) renamed

  news-appended : NewsFirm s.files appended
  news-appended = appends-keep strays own stray u s h.shape s.appends named h.shape.appended (news-named strays own stray u s h.shape)

  news-synced : NewsFirm s.files synced
  news-synced y one e = syncs-keep s.syncs put (new_of y) (made-keeps appended news-appended y one e)

  news-whole : NewsFirm s.files whole
  news-whole = sync-keeps synced news-synced

  news-renamed : NewsFirm s.files renamed
  news-renamed = renames-keep strays own stray u s h.shape s.first whole h.shape.first news-whole

  news-published : NewsFirm s.files published
  news-published = rename-keeps renamed news-renamed

  changes-after : firm_after steps.changes named ≡ published
  changes-after =
      firm-append s.appends (made ∷ (map sync_of s.syncs ++ (Sync x.from ∷ (map rename_of s.first ++ (Rename x.from x.to ∷ []))))) named
      ∙ firm-append (map sync_of s.syncs) (Sync x.from ∷ (map rename_of s.first ++ (Rename x.from x.to ∷ []))) put
      ∙ firm-append (map rename_of s.first) (Rename x.from x.to ∷ []) whole

  before : MayWorkAll strays s.journal list named (s.appends ++ (made ∷ (map sync_of s.syncs ++ (Sync x.from ∷ map rename_of s.first))))
  before =
      may-append strays s.journal list s.appends (made ∷ (map sync_of s.syncs ++ (Sync x.from ∷ map rename_of s.first))) named (appends-may strays own stray u s h.shape s.appends named h.shape.appended) (
        free,
        may-append strays s.journal list (map sync_of s.syncs) (Sync x.from ∷ map rename_of s.first) put (syncs-may strays own stray u s h.shape s.syncs put)
            (tt, renames-may strays own stray u s h.shape s.first whole h.shape.first news-whole),
      )

  -- ---- what comes to the file in between

  not-false : (b : Bool) → b ≡ false → not b ≡ true
  not-false true e = sym e
  not-false false e = refl

  syncs-off : (paths : List (List ℕ)) → among x.from paths ≡ false → list_all (λ op. not (touches op x.from)) (map sync_of paths) ≡ true
  syncs-off [] e = refl
  syncs-off (p ∷ paths) e =
      and-both _ _ (not-false (same_path p x.from) (other-path p x.from (same-sym x.from p (or-left (same x.from p) (among x.from paths) e))))
      (syncs-off paths (or-right (same x.from p) (among x.from paths) e))

  renames-off : (files : List New) → AllByRecursion (IsAmong s.files) files → list_all (λ op. not (touches op x.from)) (map rename_of files) ≡ true
  renames-off [] all = refl
  renames-off (y ∷ files) all = and-both _ _ (off (same_path (new_of y) x.from) (same_path (place_of y) x.from)
      (other-path (new_of y) x.from (same-sym x.from (new_of y) (from-new y all.0.2))) (other-path (place_of y) x.from (same-sym x.from (place_of y) (from-file y all.0.1)))) (renames-off files all.1)
    where
      off : (a b : Bool) → a ≡ false → b ≡ false → not (cond a true b) ≡ true
      off true b e f = sym e
      off false b e f = not-false b f

  replacing : IsReplacing strays s.journal list named u steps.changes
  replacing = record {
    first = s.appends;
    second = map sync_of s.syncs;
    third = map rename_of s.first;
    from = x.from;
    to = x.to;
    more = x.more;
    spelled = refl;
    before = before;
    apart = syncs-off s.syncs h.unsynced;
    apart_too = renames-off s.first h.shape.first;
    free = free;
    named = h.named;
  }

  -- ---- each file of the journal is firm at the end

  -- a file of the journal is firm when the journal gets its name
  line-named : (p : List ℕ) → among p (journal_paths s.journal) ≡ true → named p ≡ true
  line-named p e =
      let puts = puts_of u s.files s.journal in
      ap (λ (f : List ℕ → Bool). f p) (firm-append (put_all puts) (Rename new_journal_path journal_path ∷ Settle ∷ []) (firm_at_rest strays))
      ∙ ap (λ b. cond b (firm_after (put_all puts) (firm_at_rest strays) new_journal_path && firm_after (put_all puts) (firm_at_rest strays) journal_path) (firm_after (put_all puts) (firm_at_rest strays) p))
      (same-sym p journal_path (or-right (is_loose strays p) (same p journal_path) (any-none (λ path. is_loose strays path || same path journal_path) (journal_paths s.journal) p h.shape.apart e)))
      ∙ puts-firm puts (firm_at_rest strays) p (inr (not-false (is_loose strays p) (line-bound strays own stray u s h.shape p e)))

  -- the file that goes on is firm, and so was the one whose place it takes
  to-published : published x.to ≡ true
  to-published =
      ap (λ b. cond b (renamed x.from && renamed x.to) (renamed x.to)) (same-refl x.to)
      ∙ and-both (renamed x.from) (renamed x.to)
      (firm-untouched (map rename_of s.first) whole x.from (renames-off s.first h.shape.first) ∙ ap (λ b. cond b true (synced x.from)) (same-refl x.from))
      (renames-lines strays own stray u s h.shape s.first whole x.to h.shape.first h.named
      ∙ syncs-keep (x.from ∷ []) synced x.to (syncs-keep s.syncs put x.to
      (ap (λ b. cond b false (appended x.to)) (from-line x.to h.named) ∙ firm-untouched s.appends named x.to h.still ∙ line-named x.to h.named)))

  line-published : (p : List ℕ) → among p (journal_paths s.journal) ≡ true → published p ≡ true
  line-published p e = by (bool (same p x.to))
    where
      by : (same p x.to ≡ true) ⊎ (same p x.to ≡ false) → published p ≡ true
      by (inl k) = ap published (same-eq p x.to k) ∙ to-published
      by (inr k) = ap (λ b. cond b (renamed x.from && renamed x.to) (renamed p)) (same-sym p x.to k) ∙ renames-lines strays own stray u s h.shape s.first whole p h.shape.first e
          ∙ syncs-keep (x.from ∷ []) synced p (firm-synced s.syncs put p (its (h.synced p e)))
        where
          its : (same p x.to ≡ true) ⊎ (among p s.syncs ≡ true) → among p s.syncs ≡ true
          its (inl i) = never (sym i ∙ k)
          its (inr i) = i

  line-last : (p : List ℕ) → among p (journal_paths s.journal) ≡ true → firm_after steps.renames published p ≡ true
  line-last p e = renames-lines strays own stray u s h.shape s.second published p h.shape.second e ∙ line-published p e

  -- a transaction of this shape is one
  pub onward-transaction : IsTransaction strays steps u
  onward-transaction = record {
    locks = h.shape.locks;
    plan = shape-plan strays own stray u s h.shape;
    changes = inr replacing;
    renames = subst (λ (f : List ℕ → Bool). MayWorkAll strays s.journal list f steps.renames) (sym changes-after) (renames-may strays own stray u s h.shape s.second published h.shape.second news-published);
    synced = subst (λ (f : List ℕ → Bool). list_all (firm_after steps.renames f) (journal_paths s.journal) ≡ true) (sym changes-after) (list-from (firm_after steps.renames published) (journal_paths s.journal) line-last);
    removals = h.shape.removals;
  }
