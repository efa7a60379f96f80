-- An import is its first record's commit and then an import of the others: what it writes to the revlogs, and what hinders it.
use Rattle.std.proofs.Common.{◌≡◌, ℕ, List, [], ◌∷◌, ◌++◌, Bool, true, false, cond, ◌||◌, refl, sym, ◌∙◌, ap, subst, inl, inr, append-nil, append_assoc, ◌<◌, length, arith, length-append}
use Rattle.std.proofs.lemmas.List.{append_cancel_left}
use Rattle.std.specs.Prelude.{Ok, is_some, flat_map, ◌^◌}
use Rattle.hgs_bytes.specs.Bytes.{among, same}
use Rattle.hgs_bytes.specs.Theorems.ByteLemmas.{same-eq, same-refl}
use Rattle.hgs_files.specs.declared.op.Op.TheVariants.{Append}
use Rattle.hgs_files.specs.Tree.{Tree, after_all, bytes_at}
use Rattle.hgs_model.specs.declared.command.Command.TheVariants.{Commit, Import}
use Rattle.hgs_model.specs.declared.command.NewChange.{NewChange}
use Rattle.hgs_model.specs.Repo.{Repo}
use Rattle.hgs_model.specs.Step.{Answer, step, sets_bookmark}
use Rattle.hgs_model.specs.Valid.{IsNewChange, IsValid}
use Rattle.hgs_path.specs.StoreName.{store_name}
use Rattle.hgs_stands.specs.Places.{changelog_data, changelog_index, manifest_data, manifest_index, fncache_path}
use Rattle.hgs_stands.specs.Stands.{Stands}
use Rattle.hgs_bytes.specs.Text.{line}
use Rattle.hgs_model.specs.History.{history}
use Rattle.hgs_path.specs.declared.name.Ext.{Ext}
use Rattle.hgs_path.specs.declared.name.Ext.TheVariants.{I, D}
use Rattle.hex.specs.Hex.{IsBytes}
use Rattle.hgs_ops.specs.Theorems.OnceLemmas.{EachPath, each-joined, growth-each}
use Rattle.hgs_ops.specs.Theorems.SizeLemmas.{IsSome, all-of, appended-named, growth_of-each, line-path, named-each, named-left, named-right, one-of-all, path-line, some-left, some-of-two, some-right}
use Rattle.hgs_ops.specs.Theorems.ImportTree.{import-leaves}
use Rattle.hgs_journal.specs.Texts.{journal_text}
use Rattle.hgs_model.specs.Theorems.ImportLemmas.{commit-gone, import-gone}
use Rattle.hgs_model.specs.Theorems.NewChangesetLemmas.{commit-keeps, import-keeps}
use Rattle.hgs_ops.specs.Growth.{appended, appends_at, growth, IsRevlogFile, new_changelog_entry, append_some, growth_of, new_names, new_paths}
use Rattle.hgs_ops.specs.Operations.{appending, operations, roots_renamed, transaction_of, backups_of, journal_of}
use Rattle.hgs_ops.specs.Replaced.{new_bookmarks, new_dirstate, new_rename, new_roots, roots_change, roots_of}
use Rattle.hgs_ops.specs.Unhindered.{IsUnhindered, CanBeJournalled, IsReady}
use Rattle.hgs_ops.specs.Theorems.Apart.{among-part, fixed, stores-fixed}
use Rattle.hgs_ops.specs.Theorems.CommitLemmas.{commit-leads, growth-index, growth-appends, growth-quiet}
use Rattle.hgs_ops.specs.Theorems.CommitTree.{is_quiet, quiet, CommitLeaves, commit-leaves}
use Rattle.hgs_ops.specs.Theorems.SplitLemmas.{changelog-data-same, changelog-index-same, files-same, manifest-data-same, manifest-index-same, unhindered-two, both-facts, in-one}
use Rattle.hgs_ops.specs.Theorems.StandsCommit.{GrowthFacts, growth-told, paths-used, store-published, file-old, fncache-grows}
use Rattle.hgs_ops.specs.Theorems.Touch.{appended-append, bool, never, appended-none}

-- ---- a commit, and an import

-- what is known of an accepted commit, and what its operations leave
commit-facts : (t : Tree) (r next : Repo) (n : NewChange) (answer : Answer) → Stands t r → IsNewChange n → step r (Commit n) ≡ Ok (next, answer) → IsUnhindered t r next → GrowthFacts t r next
commit-facts t r next n answer s good e un = record { stands = s; repository = commit-keeps r n next answer s.repository good e; goes_on = (commit-gone r n (next, answer) good e).changesets; un = un }

pub commit-left : (t : Tree) (r next : Repo) (n : NewChange) (who : List ℕ)
    → CommitLeaves t (after_all (operations (transaction_of t r (Commit n) who next)) t) (roots_change r next) (is_some n.bookmark) (roots_of next) (new_dirstate next).text (new_bookmarks next).text (growth t r next) (Append changelog_index (new_changelog_entry t r next))
commit-left t r next n who =
    commit-leaves t who (roots_change r next) (is_some n.bookmark) (roots_of next) (new_dirstate next).text (new_bookmarks next).text
    (backups_of t r (Commit n) next) (journal_text (journal_of t r (Commit n) next)) (growth t r next) changelog_index (new_changelog_entry t r next)
    refl (growth-appends t r next) (growth-quiet t r next)

-- and of an import
pub import-facts : (t : Tree) (r next : Repo) (changes : List NewChange) (answer : Answer) → Stands t r → IsValid (Import changes) → step r (Import changes) ≡ Ok (next, answer) → IsUnhindered t r next → GrowthFacts t r next
import-facts t r next changes answer s good e un = record { stands = s; repository = import-keeps r changes next answer s.repository good.each e; goes_on = (import-gone r changes (next, answer) good.each e).changesets; un = un }

pub import-left : (t : Tree) (r next : Repo) (changes : List NewChange) (who : List ℕ)
    → CommitLeaves t (after_all (operations (transaction_of t r (Import changes) who next)) t) (roots_change r next) (sets_bookmark changes) (roots_of next) (new_dirstate next).text (new_bookmarks next).text (growth t r next) (Append changelog_index (new_changelog_entry t r next))
import-left t r next changes who =
    import-leaves t who (roots_change r next) (sets_bookmark changes) (roots_of next) (new_dirstate next).text (new_bookmarks next).text
    (backups_of t r (Import changes) next) (journal_text (journal_of t r (Import changes) next)) (growth t r next) (new_changelog_entry t r next)
    (growth-index t r next) (growth-appends t r next) (growth-quiet t r next)

-- ---- the files of revlogs

-- one of four paths
one-of : (P : List ℕ → Type 0) (a b c d path : List ℕ) → P a → P b → P c → P d → among path (a ∷ b ∷ c ∷ d ∷ []) ≡ true → P path
one-of P a b c d path pa pb pc pd e = elim (bool (same path a)) [
  | inl x ↦ subst P (sym (same-eq path a x)) pa
  | inr x ↦ elim (bool (same path b)) [
    | inl y ↦ subst P (sym (same-eq path b y)) pb
    | inr y ↦ elim (bool (same path c)) [
      | inl z ↦ subst P (sym (same-eq path c z)) pc
      | inr z ↦ elim (bool (same path d)) [
        | inl w ↦ subst P (sym (same-eq path d w)) pd
        | inr w ↦ never (sym e ∙ (λ i. x i || (y i || (z i || (w i || false)))))
      ]
    ]
  ]
]

-- the files of revlogs are none of the small ones
loud : (r : Repo) (path : List ℕ) → IsRevlogFile r path → is_quiet path ≡ false
loud r path (inl e) = one-of (λ p. is_quiet p ≡ false) changelog_index changelog_data manifest_index manifest_data path refl refl refl refl e
loud r path (inr (q, ext, used, is)) = subst (λ p. is_quiet p ≡ false) is (among-part quiet fixed (store_name q ext) refl (stores-fixed q ext))

-- what is appended up to the publishing operation, and with it
renamed-none : (p : List ℕ) (next : Repo) (b : Bool) → appended p (cond b (new_rename (new_roots next) ∷ []) []) ≡ []
renamed-none p next true = refl
renamed-none p next false = refl

pub parts-appended : (t : Tree) (r next : Repo) (p : List ℕ) → appended p (appending t r next) ≡ appended p (growth t r next) ++ appends_at p (Append changelog_index (new_changelog_entry t r next))
parts-appended t r next p =
    appended-append p (growth t r next ++ roots_renamed r next) (Append changelog_index (new_changelog_entry t r next) ∷ [])
    ∙ (λ i. appended-append p (growth t r next) (roots_renamed r next) i ++ append-nil (appends_at p (Append changelog_index (new_changelog_entry t r next))) i)
    ∙ ap (λ l. (appended p (growth t r next) ++ l) ++ appends_at p (Append changelog_index (new_changelog_entry t r next))) (renamed-none p next (roots_change r next))
    ∙ ap (λ l. l ++ appends_at p (Append changelog_index (new_changelog_entry t r next))) (append-nil (appended p (growth t r next)))

appending-bytes : (t : Tree) (r next : Repo) (p : List ℕ) → bytes_at t p ++ appended p (appending t r next) ≡ (bytes_at t p ++ appended p (growth t r next)) ++ appends_at p (Append changelog_index (new_changelog_entry t r next))
appending-bytes t r next p = ap (λ l. bytes_at t p ++ l) (parts-appended t r next p) ∙ sym (append_assoc (bytes_at t p) (appended p (growth t r next)) (appends_at p (Append changelog_index (new_changelog_entry t r next))))

-- but for the changelog's index that is the growth, and there the new entries
pub only-growth : (t : Tree) (r next : Repo) (p : List ℕ) → same changelog_index p ≡ false → appended p (appending t r next) ≡ appended p (growth t r next)
only-growth t r next p e = parts-appended t r next p ∙ ap (λ b. appended p (growth t r next) ++ cond b (new_changelog_entry t r next) []) e ∙ append-nil (appended p (growth t r next))

pub only-entry : (t : Tree) (r next : Repo) → appended changelog_index (appending t r next) ≡ new_changelog_entry t r next
only-entry t r next = parts-appended t r next changelog_index ∙ ap (λ l. l ++ new_changelog_entry t r next) (appended-none (growth t r next) changelog_index (growth-index t r next))

-- the growth is that of the bytes at its own files
pub growth_of-same : (f g : List ℕ → List ℕ) (r next : Repo) → ((q : List ℕ) (ext : Ext) → among q (new_paths r next) ≡ true → f (store_name q ext) ≡ g (store_name q ext)) → f manifest_data ≡ g manifest_data → f manifest_index ≡ g manifest_index → f changelog_data ≡ g changelog_data
    → growth_of f r next ≡ growth_of g r next
growth_of-same f g r next files d m c =
    λ i. rest (new_paths r next) (λ q e. e) i ++ append_some fncache_path (flat_map line (new_names (history r.changesets).filelog (history next.changesets).filelog (new_paths r next))) ++ (append_some manifest_data (d i) ++ append_some manifest_index (m i)) ++ append_some changelog_data (c i)
  where
    more : (z w : Bool) → w ≡ true → (z || w) ≡ true
    more true w e = refl
    more false w e = e

    rest : (paths : List (List ℕ)) → ((q : List ℕ) → among q paths ≡ true → among q (new_paths r next) ≡ true)
        → flat_map (λ q. append_some (store_name q D) (f (store_name q D)) ++ append_some (store_name q I) (f (store_name q I))) paths ≡ flat_map (λ q. append_some (store_name q D) (g (store_name q D)) ++ append_some (store_name q I) (g (store_name q I))) paths
    rest [] sub = refl
    rest (q ∷ paths) sub =
        let e = sub q (ap (λ z. z || among q paths) (same-refl q)) in
        λ i. (append_some (store_name q D) (files q D e i) ++ append_some (store_name q I) (files q I e i)) ++ rest paths (λ x h. sub x (more (same x q) (among x paths) h)) i

-- an import of one record writes what its commit does
pub one-writes : (t : Tree) (r next : Repo) (n : NewChange) (who path : List ℕ) → IsRevlogFile next path
    → bytes_at (after_all (operations (transaction_of t r (Import (n ∷ [])) who next)) t) path ≡ bytes_at (after_all (operations (transaction_of t r (Commit n) who next)) t) path
one-writes t r next n who path is = (import-left t r next (n ∷ []) who).bytes path (loud next path is) ∙ sym ((commit-left t r next n who).bytes path (loud next path is))

any-growth : (t : Tree) (r next : Repo) → IsUnhindered t r next → EachPath (λ q. Unit {0}) (growth t r next)
any-growth t r next un = growth-each t r next un (λ q. Unit {0}) (record { stores = λ q ext. tt; list = tt; index = tt; chunks = tt }) tt

module _ (t : Tree) (r mid next : Repo) (n : NewChange) (changes : List NewChange) (who : List ℕ) (one last : Answer) (s : Stands t r) (good : IsNewChange n) (these : IsValid (Import changes))
    (e : step r (Commit n) ≡ Ok (mid, one)) (g : step mid (Import changes) ≡ Ok (next, last)) (a : IsUnhindered t r mid) (b : IsUnhindered (after_all (operations (transaction_of t r (Commit n) who mid)) t) mid next) where
  abbrev between : Tree
  between = after_all (operations (transaction_of t r (Commit n) who mid)) t

  first-facts : GrowthFacts t r mid
  first-facts = commit-facts t r mid n one s good e a

  second-facts : GrowthFacts between mid next
  second-facts = import-facts between mid next changes last (commit-leads t r mid n who one s good e a).stands these g b

  pub steps-unhindered : IsUnhindered t r next
  steps-unhindered = unhindered-two t r mid next first-facts between (roots_change r mid) (is_some n.bookmark) (new_dirstate mid).text (new_bookmarks mid).text (commit-left t r mid n who) second-facts

  pub steps-write : (path : List ℕ) → IsRevlogFile next path
      → bytes_at (after_all (operations (transaction_of t r (Import (n ∷ changes)) who next)) t) path ≡ bytes_at (after_all (operations (transaction_of between mid (Import changes) who next)) between) path
  steps-write path (inl one-of-them) =
      one-of (λ p. bytes_at (after_all (operations (transaction_of t r (Import (n ∷ changes)) who next)) t) p ≡ bytes_at (after_all (operations (transaction_of between mid (Import changes) who next)) between) p)
      changelog_index changelog_data manifest_index manifest_data path
      (changelog-index-same t r mid next first-facts between (roots_change r mid) (is_some n.bookmark) (new_dirstate mid).text (new_bookmarks mid).text (commit-left t r mid n who) second-facts _ _ _ _ _ (import-left between mid next changes who) _ _ _ _ _ (import-left t r next (n ∷ changes) who))
      (changelog-data-same t r mid next first-facts between (roots_change r mid) (is_some n.bookmark) (new_dirstate mid).text (new_bookmarks mid).text (commit-left t r mid n who) second-facts _ _ _ _ _ (import-left between mid next changes who) _ _ _ _ _ (import-left t r next (n ∷ changes) who))
      (manifest-index-same t r mid next first-facts between (roots_change r mid) (is_some n.bookmark) (new_dirstate mid).text (new_bookmarks mid).text (commit-left t r mid n who) second-facts _ _ _ _ _ (import-left between mid next changes who) _ _ _ _ _ (import-left t r next (n ∷ changes) who))
      (manifest-data-same t r mid next first-facts between (roots_change r mid) (is_some n.bookmark) (new_dirstate mid).text (new_bookmarks mid).text (commit-left t r mid n who) second-facts _ _ _ _ _ (import-left between mid next changes who) _ _ _ _ _ (import-left t r next (n ∷ changes) who))
      one-of-them
  steps-write path (inr (q, ext, used, is)) =
      subst (λ p. bytes_at (after_all (operations (transaction_of t r (Import (n ∷ changes)) who next)) t) p ≡ bytes_at (after_all (operations (transaction_of between mid (Import changes) who next)) between) p) is
      (files-same t r mid next first-facts between (roots_change r mid) (is_some n.bookmark) (new_dirstate mid).text (new_bookmarks mid).text (commit-left t r mid n who) second-facts _ _ _ _ _ (import-left between mid next changes who) _ _ _ _ _ (import-left t r next (n ∷ changes) who) q ext used)

  -- so of each of these files an import appends what the first commit does and then what the import of the others does
  pub steps-append : (path : List ℕ) → IsRevlogFile next path → appended path (appending t r next) ≡ appended path (appending t r mid) ++ appended path (appending between mid next)
  steps-append path is =
      append_cancel_left (bytes_at t path) (appended path (appending t r next)) (appended path (appending t r mid) ++ appended path (appending between mid next))
      (appending-bytes t r next path ∙ sym ((import-left t r next (n ∷ changes) who).bytes path (loud next path is)) ∙ steps-write path is ∙ (import-left between mid next changes who).bytes path (loud next path is) ∙ sym (appending-bytes between mid next path)
      ∙ ap (λ l. l ++ appended path (appending between mid next)) ((commit-left t r mid n who).bytes path (loud next path is) ∙ sym (appending-bytes t r mid path)) ∙ append_assoc (bytes_at t path) (appended path (appending t r mid)) (appended path (appending between mid next)))

  grows-so : (path : List ℕ) → IsRevlogFile next path → same changelog_index path ≡ false → appended path (growth t r next) ≡ appended path (growth t r mid) ++ appended path (growth between mid next)
  grows-so path is e = sym (only-growth t r next path e) ∙ steps-append path is ∙ (λ i. only-growth t r mid path e i ++ only-growth between mid next path e i)

  -- and its growth is that of both
  pub steps-grow : growth t r next ≡ growth_of (λ path. appended path (growth t r mid) ++ appended path (growth between mid next)) r next
  steps-grow =
      let facts = both-facts t r mid next first-facts between (roots_change r mid) (is_some n.bookmark) (new_dirstate mid).text (new_bookmarks mid).text (commit-left t r mid n who) second-facts in
      growth-told t r next facts _ _ _ _ _ (import-left t r next (n ∷ changes) who)
      ∙ growth_of-same (λ path. appended path (growth t r next)) (λ path. appended path (growth t r mid) ++ appended path (growth between mid next)) r next
      (λ q ext e. grows-so (store_name q ext) (inr (q, ext, paths-used t r next facts _ _ _ _ _ (import-left t r next (n ∷ changes) who) q e, refl)) (store-published t r next facts _ _ _ _ _ (import-left t r next (n ∷ changes) who) q ext))
      (grows-so manifest_data (inl refl) refl) (grows-so manifest_index (inl refl) refl) (grows-so changelog_data (inl refl) refl)

  pub steps-enter : new_changelog_entry t r next ≡ new_changelog_entry t r mid ++ new_changelog_entry between mid next
  steps-enter = sym (only-entry t r next) ∙ steps-append changelog_index (inl refl) ∙ (λ i. only-entry t r mid i ++ only-entry between mid next i)

  -- ---- what its journal names

  module _ (one_can : CanBeJournalled t r (Commit n) mid) (others_can : CanBeJournalled between mid (Import changes) next) where
    abbrev Short : List ℕ → Type 0
    Short p = length (bytes_at t p) < 2 ^ 64

    shorter : (p : List ℕ) → is_quiet p ≡ false → length (bytes_at between p) < 2 ^ 64 → Short p
    shorter p small le =
        omega (arith, le, ap length ((commit-left t r mid n who).bytes p small), length-append (bytes_at t p ++ appended p (growth t r mid)) (appends_at p (Append changelog_index (new_changelog_entry t r mid))), length-append (bytes_at t p) (appended p (growth t r mid)))

    -- a file that the first commit appends to, or the import of the others
    short-of : (p : List ℕ) → is_quiet p ≡ false → IsSome (appended p (growth t r mid) ++ appended p (growth between mid next)) → Short p
    short-of p small some = elim (some-of-two (appended p (growth t r mid)) (appended p (growth between mid next)) some) [
      | inl x ↦ one_can.sizes p (named-left t (growth t r mid ++ roots_renamed r mid) _ p (named-left t (growth t r mid) (roots_renamed r mid) p (appended-named t (growth t r mid) p (any-growth t r mid a) x)))
      | inr x ↦ shorter p small (others_can.sizes p (named-left between (growth between mid next ++ roots_renamed mid next) _ p (named-left between (growth between mid next) (roots_renamed mid next) p (appended-named between (growth between mid next) p (any-growth between mid next b) x))))
    ]

    short-list : IsSome (flat_map line (new_names (history r.changesets).filelog (history next.changesets).filelog (new_paths r next))) → Short fncache_path
    short-list some =
        let q = line-path (history r.changesets).filelog (history next.changesets).filelog (new_paths r next) some in
        short-of fncache_path refl (elim (in-one t r mid next first-facts between (roots_change r mid) (is_some n.bookmark) (new_dirstate mid).text (new_bookmarks mid).text (commit-left t r mid n who) second-facts q.0 q.1) [
          | inl g ↦ some-left (appended fncache_path (growth t r mid)) (appended fncache_path (growth between mid next))
              (subst IsSome (sym (fncache-grows t r mid first-facts between (roots_change r mid) (is_some n.bookmark) (new_dirstate mid).text (new_bookmarks mid).text (commit-left t r mid n who)))
              (path-line (history r.changesets).filelog (history mid.changesets).filelog (new_paths r mid) q.0 g q.2))
          | inr g ↦ some-right (appended fncache_path (growth t r mid)) (appended fncache_path (growth between mid next))
              (subst IsSome (sym (fncache-grows between mid next second-facts _ _ _ _ _ (import-left between mid next changes who)))
              (path-line (history mid.changesets).filelog (history next.changesets).filelog (new_paths mid next) q.0 g.1 (file-old t r mid first-facts between (roots_change r mid) (is_some n.bookmark) (new_dirstate mid).text (new_bookmarks mid).text (commit-left t r mid n who) q.0 g.0 ∙ q.2)))
        ])

    short-each : EachPath Short (appending t r next)
    short-each =
        each-joined Short (growth t r next ++ roots_renamed r next) (Append changelog_index (new_changelog_entry t r next) ∷ [])
        (each-joined Short (growth t r next) (roots_renamed r next)
        (subst (EachPath Short) (sym steps-grow)
        (growth_of-each Short (λ path. appended path (growth t r mid) ++ appended path (growth between mid next)) r next (λ q ext e some. short-of (store_name q ext) (among-part quiet fixed (store_name q ext) refl (stores-fixed q ext)) some) short-list
        (short-of manifest_data refl) (short-of manifest_index refl) (short-of changelog_data refl)))
        (renamed-each (roots_change r next)))
        ((refl, one_can.sizes changelog_index (named-right t (growth t r mid ++ roots_renamed r mid) (Append changelog_index (new_changelog_entry t r mid) ∷ []) changelog_index refl)), tt)
      where
        renamed-each : (x : Bool) → EachPath Short (cond x (new_rename (new_roots next) ∷ []) [])
        renamed-each true = tt
        renamed-each false = tt

    pub steps-journalled : CanBeJournalled t r (Import (n ∷ changes)) next
    steps-journalled = record {
      paths = all-of IsBytes (new_paths r next) (λ q e. elim (in-one t r mid next first-facts between (roots_change r mid) (is_some n.bookmark) (new_dirstate mid).text (new_bookmarks mid).text (commit-left t r mid n who) second-facts q e) [
        | inl g ↦ one-of-all IsBytes (new_paths r mid) q one_can.paths g
        | inr g ↦ one-of-all IsBytes (new_paths mid next) q others_can.paths g.1
      ]);
      sizes = λ p e. named-each Short t (appending t r next) p short-each e;
    }

-- an import is ready where its first record's commit is, and the import of the others is in the tree that this leaves
pub steps-ready : (t : Tree) (r mid next : Repo) (n : NewChange) (changes : List NewChange) (who : List ℕ) (one last : Answer) → Stands t r → IsNewChange n → IsValid (Import changes) → step r (Commit n) ≡ Ok (mid, one) → step mid (Import changes) ≡ Ok (next, last)
    → IsReady t r (Commit n) mid → IsReady (after_all (operations (transaction_of t r (Commit n) who mid)) t) mid (Import changes) next → IsReady t r (Import (n ∷ changes)) next
steps-ready t r mid next n changes who one last s good these e g a b =
    (steps-unhindered t r mid next n changes who one last s good these e g a.0 b.0, steps-journalled t r mid next n changes who one last s good these e g a.0 b.0 a.1 b.1)
