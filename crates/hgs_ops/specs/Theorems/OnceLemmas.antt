-- A journal names each file once.
use Rattle.std.proofs.Common.{◌≡◌, ℕ, zero, suc, List, [], ◌∷◌, ◌++◌, Bool, true, false, ◌||◌, not, length, drop, refl, sym, ◌∙◌, ap}
use Rattle.std.specs.Prelude.{flat_map, codes}
use Rattle.std.specs.List.{AllByRecursion}
use Rattle.hgs_bytes.specs.Bytes.{same, among}
use Rattle.hgs_bytes.specs.Text.{ascends}
use Rattle.hgs_bytes.specs.Theorems.ByteLemmas.{same-refl}
use Rattle.hgs_files.specs.declared.op.Op.{Op}
use Rattle.hgs_files.specs.declared.op.Op.TheVariants.{Append, Cut, Rename, Remove, Create, Sync, Settle}
use Rattle.hgs_files.specs.Tree.{Tree}
use Rattle.hgs_index.specs.Revision.{Revision}
use Rattle.hgs_journal.specs.Covers.{journal_paths, no_repeat}
use Rattle.hgs_journal.specs.Names.{in_store}
use Rattle.hgs_model.specs.declared.command.Command.{Command}
use Rattle.hgs_model.specs.declared.command.Command.TheVariants.{Commit, Import, Move, Mark, Unmark}
use Rattle.hgs_model.specs.History.{history, uses}
use Rattle.hgs_model.specs.Repo.{Changeset, Repo, tree_paths}
use Rattle.hgs_model.specs.Theorems.ListLemmas.{ascends-tail}
use Rattle.hgs_model.specs.Theorems.NewChangesetLemmas.{in_order-ordered}
use Rattle.hgs_path.specs.declared.name.Ext.{Ext}
use Rattle.hgs_stands.specs.Places.{changelog_data, changelog_index, fncache_path, manifest_data, manifest_index, roots_path}
use Rattle.hgs_path.specs.declared.name.Ext.TheVariants.{I, D}
use Rattle.hgs_path.specs.StoreName.{store_name}
use Rattle.hgs_stands.specs.Theorems.ApartLemmas.{kinds-apart}
use Rattle.hgs_ops.specs.Growth.{append_some, filelog_growth, filelogs_grow, growth, grown, new_changelog_entry, new_paths}
use Rattle.hgs_ops.specs.Replaced.{roots_change, roots_of}
use Rattle.hgs_ops.specs.Unhindered.{IsReady, IsUnhindered}
use Rattle.hgs_ops.specs.Theorems.Apart.{fixed, stores-fixed}
use Rattle.hgs_ops.specs.Theorems.CommitLemmas.{part_data, part_files, part_lines, part_manifest}
use Rattle.hgs_ops.specs.Theorems.CommitTree.{first_of}
use Rattle.hgs_ops.specs.Theorems.StandsCommit.{among-in_order, not-fixed, others-from}
use Rattle.hgs_ops.specs.Operations.{journal_lines, journal_of}
use Rattle.hgs_ops.specs.Theorems.FileGrowth.{AreOthers, form, filelogs-touched, grown-touched, head-others, not-these, touched-some}
use Rattle.hgs_ops.specs.Theorems.Touch.{and-both, and-left, and-right, or-both, or-left, or-right, same-sym, touched}

-- the paths that a journal of these operations names
abbrev pub named : Tree → List Op → List (List ℕ)
named t ops = journal_paths (journal_lines t ops)

-- each append is to a path in the store of which this holds, and the others are renames
abbrev pub EachPath : (List ℕ → Type 0) → List Op → Type 0
EachPath P [] = Unit {0}
EachPath P (Append path bytes ∷ ops) = ((in_store (drop 6 path) ≡ path) × P path) × EachPath P ops
EachPath P (Rename from to ∷ ops) = EachPath P ops
EachPath P (_ ∷ ops) = ⊥

pub each-turned : (P Q : List ℕ → Type 0) (ops : List Op) → ((p : List ℕ) → P p → Q p) → EachPath P ops → EachPath Q ops
each-turned P Q [] f all = tt
each-turned P Q (Append path bytes ∷ ops) f all = ((all.0.0, f path all.0.1), each-turned P Q ops f all.1)
each-turned P Q (Rename from to ∷ ops) f all = each-turned P Q ops f all
each-turned P Q (Cut path len ∷ ops) f all = absurd all
each-turned P Q (Remove path ∷ ops) f all = absurd all
each-turned P Q (Create path bytes ∷ ops) f all = absurd all
each-turned P Q (Sync path ∷ ops) f all = absurd all
each-turned P Q (Settle ∷ ops) f all = absurd all

pub each-joined : (P : List ℕ → Type 0) (xs ys : List Op) → EachPath P xs → EachPath P ys → EachPath P (xs ++ ys)
each-joined P [] ys a b = b
each-joined P (Append path bytes ∷ xs) ys a b = (a.0, each-joined P xs ys a.1 b)
each-joined P (Rename from to ∷ xs) ys a b = each-joined P xs ys a b
each-joined P (Cut path len ∷ xs) ys a b = absurd a
each-joined P (Remove path ∷ xs) ys a b = absurd a
each-joined P (Create path bytes ∷ xs) ys a b = absurd a
each-joined P (Sync path ∷ xs) ys a b = absurd a
each-joined P (Settle ∷ xs) ys a b = absurd a

-- what no operation is at the journal does not name
unnamed : (t : Tree) (P : List ℕ → Type 0) (ops : List Op) (p : List ℕ) → EachPath P ops → touched p ops ≡ false → among p (named t ops) ≡ false
unnamed t P [] p all e = refl
unnamed t P (Append path bytes ∷ ops) p all e = or-both _ _ (ap (same p) all.0.0 ∙ same-sym path p (or-left _ _ e)) (unnamed t P ops p all.1 (or-right (same path p) _ e))
unnamed t P (Rename from to ∷ ops) p all e = unnamed t P ops p all (or-right (same from p || same to p) _ e)
unnamed t P (Cut path len ∷ ops) p all e = absurd all
unnamed t P (Remove path ∷ ops) p all e = absurd all
unnamed t P (Create path bytes ∷ ops) p all e = absurd all
unnamed t P (Sync path ∷ ops) p all e = absurd all
unnamed t P (Settle ∷ ops) p all e = absurd all

among-two : (t : Tree) (p : List ℕ) (xs ys : List Op) → among p (named t xs) ≡ false → among p (named t ys) ≡ false → among p (named t (xs ++ ys)) ≡ false
among-two t p [] ys a b = b
among-two t p (Append path bytes ∷ xs) ys a b = or-both _ _ (or-left _ _ a) (among-two t p xs ys (or-right (same p (in_store (drop 6 path))) _ a) b)
among-two t p (Rename from to ∷ xs) ys a b = among-two t p xs ys a b
among-two t p (Cut path len ∷ xs) ys a b = among-two t p xs ys a b
among-two t p (Remove path ∷ xs) ys a b = among-two t p xs ys a b
among-two t p (Create path bytes ∷ xs) ys a b = among-two t p xs ys a b
among-two t p (Sync path ∷ xs) ys a b = among-two t p xs ys a b
among-two t p (Settle ∷ xs) ys a b = among-two t p xs ys a b

not-true : (b : Bool) → not b ≡ true → b ≡ false
not-true true e = sym e
not-true false e = refl

-- two lists of which the second is at no path that the first appends to
pub once-joined : (t : Tree) (P : List ℕ → Type 0) (xs ys : List Op) → no_repeat (named t xs) ≡ true → no_repeat (named t ys) ≡ true → EachPath (λ p. touched p ys ≡ false) xs → EachPath P ys → no_repeat (named t (xs ++ ys)) ≡ true
once-joined t P [] ys a b away all = b
once-joined t P (Append path bytes ∷ xs) ys a b away all =
    and-both _ _ (ap not (among-two t (in_store (drop 6 path)) xs ys (not-true _ (and-left _ _ a)) (unnamed t P ys (in_store (drop 6 path)) all (ap (λ q. touched q ys) away.0.0 ∙ away.0.1))))
    (once-joined t P xs ys (and-right _ _ a) b away.1 all)
once-joined t P (Rename from to ∷ xs) ys a b away all = once-joined t P xs ys a b away all
once-joined t P (Cut path len ∷ xs) ys a b away all = absurd away
once-joined t P (Remove path ∷ xs) ys a b away all = absurd away
once-joined t P (Create path bytes ∷ xs) ys a b away all = absurd away
once-joined t P (Sync path ∷ xs) ys a b away all = absurd away
once-joined t P (Settle ∷ xs) ys a b away all = absurd away

-- ---- the parts of the growth

pub some-each : (P : List ℕ → Type 0) (path bytes : List ℕ) → in_store (drop 6 path) ≡ path → P path → EachPath P (append_some path bytes)
some-each P path [] e p = tt
some-each P path (b ∷ bytes) e p = ((e, p), tt)

pub some-once : (t : Tree) (path bytes : List ℕ) → no_repeat (named t (append_some path bytes)) ≡ true
some-once t path [] = refl
some-once t path (b ∷ bytes) = refl

pub grown-each : (f : Bool) (P : List ℕ → Type 0) (t : Tree) (index data_path : List ℕ) (old all : List Revision) → in_store (drop 6 index) ≡ index → in_store (drop 6 data_path) ≡ data_path → P index → P data_path → EachPath P (grown f t index data_path old all)
grown-each form P t index data_path old all e f p q = each-joined P (append_some data_path _) (append_some index _) (some-each P data_path _ f q) (some-each P index _ e p)

pub grown-once : (f : Bool) (t : Tree) (index data_path : List ℕ) (old all : List Revision) → in_store (drop 6 index) ≡ index → in_store (drop 6 data_path) ≡ data_path → same index data_path ≡ false → no_repeat (named t (grown f t index data_path old all)) ≡ true
grown-once form t index data_path old all e f apart =
    once-joined t (λ p. Unit {0}) (append_some data_path _) (append_some index _) (some-once t data_path _) (some-once t index _) (some-each (λ p. touched p (append_some index _) ≡ false) data_path _ f (touched-some data_path index _ apart)) (some-each (λ p. Unit {0}) index _ e tt)

pub filelogs-each : (P : List ℕ → Type 0) (t : Tree) (old new : List ℕ → List Revision) (paths : List (List ℕ)) → AllByRecursion (λ q. P (store_name q I) × P (store_name q D)) paths → EachPath P (filelogs_grow t old new paths)
filelogs-each P t old new [] all = tt
filelogs-each P t old new (q ∷ paths) all = each-joined P (filelog_growth t q (old q) (new q)) (filelogs_grow t old new paths) (grown-each (form t old new q) P t (store_name q I) (store_name q D) (old q) (new q) refl refl all.0.0 all.0.1) (filelogs-each P t old new paths all.1)

-- each path is apart from those behind it
abbrev pub AreAllOthers : List (List ℕ) → Type 0
AreAllOthers [] = Unit {0}
AreAllOthers (q ∷ paths) = AreOthers q paths × AreAllOthers paths

units : (paths : List (List ℕ)) → AllByRecursion (λ q. Unit {0} × Unit {0}) paths
units [] = tt
units (q ∷ paths) = ((tt, tt), units paths)

pub filelogs-once : (t : Tree) (old new : List ℕ → List Revision) (paths : List (List ℕ)) → AreAllOthers paths → ascends paths ≡ true → no_repeat (named t (filelogs_grow t old new paths)) ≡ true
filelogs-once t old new [] others a = refl
filelogs-once t old new (q ∷ paths) others a =
    let away = not-these q paths others.0 (head-others q paths a) in
    once-joined t (λ p. Unit {0}) (filelog_growth t q (old q) (new q)) (filelogs_grow t old new paths)
    (grown-once (form t old new q) t (store_name q I) (store_name q D) (old q) (new q) refl refl (kinds-apart q q)) (filelogs-once t old new paths others.1 (ascends-tail q paths a))
    (grown-each (form t old new q) (λ p. touched p (filelogs_grow t old new paths) ≡ false) t (store_name q I) (store_name q D) (old q) (new q) refl refl
    (filelogs-touched t old new paths (store_name q I) away.0) (filelogs-touched t old new paths (store_name q D) away.1))
    (filelogs-each (λ p. Unit {0}) t old new paths (units paths))

-- ---- the paths of the new changesets

among-joined : (p : List ℕ) (xs ys : List (List ℕ)) → among p (xs ++ ys) ≡ (among p xs || among p ys)
among-joined p [] ys = refl
among-joined p (x ∷ xs) ys = by (same p x) (among-joined p xs ys)
  where
    by : (b : Bool) → among p (xs ++ ys) ≡ (among p xs || among p ys) → (b || among p (xs ++ ys)) ≡ ((b || among p xs) || among p ys)
    by true e = refl
    by false e = e

among-trees : (p : List ℕ) (changesets : List Changeset) → among p (flat_map (λ c. tree_paths c.tree) changesets) ≡ uses changesets p
among-trees p [] = refl
among-trees p (c ∷ changesets) = among-joined p (tree_paths c.tree) (flat_map (λ x. tree_paths x.tree) changesets) ∙ ap (λ b. among p (tree_paths c.tree) || b) (among-trees p changesets)

uses-dropped : (n : ℕ) (changesets : List Changeset) (p : List ℕ) → uses (drop n changesets) p ≡ true → uses changesets p ≡ true
uses-dropped zero changesets p e = e
uses-dropped (suc n) [] p e = e
uses-dropped (suc n) (c ∷ changesets) p e = by (among p (tree_paths c.tree)) (uses-dropped n changesets p e)
  where
    by : (b : Bool) → uses changesets p ≡ true → (b || uses changesets p) ≡ true
    by true h = refl
    by false h = h

pub new-used : (r next : Repo) (p : List ℕ) → among p (new_paths r next) ≡ true → uses next.changesets p ≡ true
new-used r next p e =
    uses-dropped (length r.changesets) next.changesets p (sym (among-trees p (drop (length r.changesets) next.changesets)) ∙ sym (among-in_order p (flat_map (λ c. tree_paths c.tree) (drop (length r.changesets) next.changesets))) ∙ e)

all-others : (t : Tree) (r next : Repo) (un : IsUnhindered t r next) (ps : List (List ℕ)) → ((p : List ℕ) → among p ps ≡ true → among p (new_paths r next) ≡ true) → AreAllOthers ps
all-others t r next un [] sub = tt
all-others t r next un (q ∷ ps) sub =
    (others-from q ps (λ o a. un.names o q (sub o (more (same o q) (among o ps) a)) (new-used r next q (sub q (ap (λ b. b || among q ps) (same-refl q))))), all-others t r next un ps (λ p a. sub p (more (same p q) (among p ps) a)))
  where
    more : (a b : Bool) → b ≡ true → (a || b) ≡ true
    more true b e = refl
    more false b e = e

-- ---- the whole journal of a commit

away-store : (p : List ℕ) → among p fixed ≡ true → (q : List ℕ) (ext : Ext) → same p (store_name q ext) ≡ false
away-store p e q ext = same-sym (store_name q ext) p (not-fixed (store_name q ext) p e (stores-fixed q ext))

-- what holds of these paths holds of all that the growth appends to
pub record Everywhere (P : List ℕ → Type 0) : Type 0 where
  pub stores : (q : List ℕ) (ext : Ext) → P (store_name q ext)
  pub list : P fncache_path
  pub index : P manifest_index
  pub chunks : P manifest_data

all-stores : (P : List ℕ → Type 0) (paths : List (List ℕ)) → ((q : List ℕ) (ext : Ext) → P (store_name q ext)) → AllByRecursion (λ q. P (store_name q I) × P (store_name q D)) paths
all-stores P [] each = tt
all-stores P (q ∷ paths) each = ((each q I, each q D), all-stores P paths each)

module _ (t : Tree) (r next : Repo) (un : IsUnhindered t r next) where
  abbrev fl : List Op
  fl = part_files t r next

  abbrev fn : List Op
  fn = append_some fncache_path (part_lines r next)

  abbrev mf : List Op
  mf = part_manifest t r next

  abbrev cl : List Op
  cl = append_some changelog_data (part_data t r next)

  fl-each : (P : List ℕ → Type 0) → ((q : List ℕ) (ext : Ext) → P (store_name q ext)) → EachPath P fl
  fl-each P each = filelogs-each P t (history r.changesets).filelog (history next.changesets).filelog (new_paths r next) (all-stores P (new_paths r next) each)

  two-each : (P : List ℕ → Type 0) → ((q : List ℕ) (ext : Ext) → P (store_name q ext)) → P fncache_path → EachPath P (fl ++ fn)
  two-each P each a = each-joined P fl fn (fl-each P each) (some-each P fncache_path (part_lines r next) refl a)

  mf-each : (P : List ℕ → Type 0) → P manifest_index → P manifest_data → EachPath P mf
  mf-each P a b = grown-each false P t manifest_index manifest_data (history r.changesets).manifest (history next.changesets).manifest refl refl a b

  three-each : (P : List ℕ → Type 0) → Everywhere P → EachPath P (fl ++ fn ++ mf)
  three-each P e = each-joined P (fl ++ fn) mf (two-each P e.stores e.list) (mf-each P e.index e.chunks)

  pub growth-each : (P : List ℕ → Type 0) → Everywhere P → P changelog_data → EachPath P (growth t r next)
  growth-each P e a = each-joined P (fl ++ fn ++ mf) cl (three-each P e) (some-each P changelog_data (part_data t r next) refl a)

  growth-once : no_repeat (named t (growth t r next)) ≡ true
  growth-once =
      once-joined t (λ p. Unit {0}) (fl ++ fn ++ mf) cl
      (once-joined t (λ p. Unit {0}) (fl ++ fn) mf
      (once-joined t (λ p. Unit {0}) fl fn
      (filelogs-once t (history r.changesets).filelog (history next.changesets).filelog (new_paths r next) (all-others t r next un (new_paths r next) (λ p a. a)) (in_order-ordered (flat_map (λ c. tree_paths c.tree) (drop (length r.changesets) next.changesets))))
      (some-once t fncache_path (part_lines r next))
      (fl-each (λ p. touched p fn ≡ false) (λ q ext. touched-some (store_name q ext) fncache_path (part_lines r next) (away-store fncache_path refl q ext)))
      (some-each (λ p. Unit {0}) fncache_path (part_lines r next) refl tt))
      (grown-once false t manifest_index manifest_data (history r.changesets).manifest (history next.changesets).manifest refl refl refl)
      (two-each (λ p. touched p mf ≡ false) (λ q ext. mf-away (store_name q ext) (away-store manifest_index refl q ext) (away-store manifest_data refl q ext)) (mf-away fncache_path refl refl))
      (mf-each (λ p. Unit {0}) tt tt))
      (some-once t changelog_data (part_data t r next))
      (three-each (λ p. touched p cl ≡ false) (record {
        stores = λ q ext. touched-some (store_name q ext) changelog_data (part_data t r next) (away-store changelog_data refl q ext);
        list = touched-some fncache_path changelog_data (part_data t r next) refl;
        index = touched-some manifest_index changelog_data (part_data t r next) refl;
        chunks = touched-some manifest_data changelog_data (part_data t r next) refl;
      }))
      (some-each (λ p. Unit {0}) changelog_data (part_data t r next) refl tt)
    where
      mf-away : (p : List ℕ) → same manifest_index p ≡ false → same manifest_data p ≡ false → touched p mf ≡ false
      mf-away p a b = grown-touched false t manifest_index manifest_data p (history r.changesets).manifest (history next.changesets).manifest a b

  -- the growth, the rename of the roots, and the publishing append
  commit-once : (rc : Bool) (roots entry : List ℕ) → no_repeat (named t ((growth t r next ++ first_of rc roots) ++ Append changelog_index entry ∷ [])) ≡ true
  commit-once rc roots entry =
      once-joined t (λ p. Unit {0}) (growth t r next ++ first_of rc roots) (Append changelog_index entry ∷ [])
      (once-joined t (λ p. Unit {0}) (growth t r next) (first_of rc roots) growth-once (first-once rc) (first-away rc) (first-each rc))
      refl
      (each-joined (λ p. touched p (Append changelog_index entry ∷ []) ≡ false) (growth t r next) (first_of rc roots)
      (growth-each (λ p. touched p (Append changelog_index entry ∷ []) ≡ false) (record { stores = λ q ext. or-both _ _ (away-store changelog_index refl q ext) refl; list = refl; index = refl; chunks = refl }) refl)
      (first-any rc))
      ((refl, tt), tt)
    where
      first-once : (b : Bool) → no_repeat (named t (first_of b roots)) ≡ true
      first-once true = refl
      first-once false = refl

      first-each : (b : Bool) → EachPath (λ p. Unit {0}) (first_of b roots)
      first-each true = tt
      first-each false = tt

      first-any : (b : Bool) → EachPath (λ p. touched p (Append changelog_index entry ∷ []) ≡ false) (first_of b roots)
      first-any true = tt
      first-any false = tt

      first-away : (b : Bool) → EachPath (λ p. touched p (first_of b roots) ≡ false) (growth t r next)
      first-away true = growth-each (λ p. touched p (first_of true roots) ≡ false) (record {
        stores = λ q ext. or-both _ _ (or-both _ _ (away-store (codes "store/journal.new.phaseroots") refl q ext) (away-store roots_path refl q ext)) refl;
        list = refl;
        index = refl;
        chunks = refl;
      }) refl
      first-away false = growth-each (λ p. touched p (first_of false roots) ≡ false) (record { stores = λ q ext. refl; list = refl; index = refl; chunks = refl }) refl

-- the journal of a command names each file once
pub journal-once : (t : Tree) (r next : Repo) (command : Command) → IsReady t r command next → no_repeat (journal_paths (journal_of t r command next)) ≡ true
journal-once t r next (Commit n) ready = commit-once t r next ready.0 (roots_change r next) (roots_of next) (new_changelog_entry t r next)
journal-once t r next (Import changes) ready = commit-once t r next ready.0 (roots_change r next) (roots_of next) (new_changelog_entry t r next)
journal-once t r next (Move rev phase force) ready = refl
journal-once t r next (Mark name rev) ready = refl
journal-once t r next (Unmark name) ready = refl
