-- The files of a revlog hold its revisions, and the revisions that files hold have room.
use Rattle.std.proofs.Common.{◌≡◌, ◌⊎◌, ℕ, ◌+◌, ◌<◌, ◌≤◌, List, [], ◌∷◌, ◌++◌, Bool, true, false, cond, length, map, refl, sym, ◌∙◌, ap, subst, inl, inr, arith}
use Rattle.std.specs.Prelude.{◌==◌, ◌^◌, Some, None, unwrap_or}
use Rattle.hgs_bytes.specs.Bytes.{among}
use Rattle.std.specs.List.{AllByRecursion}
use Rattle.hgs_files.specs.Tree.{bytes_at}
use Rattle.hgs_index.specs.Entry.{Fits}
use Rattle.hgs_index.specs.Revision.{ParentsBefore, Revision, node_after}
use Rattle.hgs_index.specs.Revlog.{Holds, HoldsRevisions, Item, Stored, chunk_of, chunk_text, items_from}
use Rattle.hgs_index.specs.Theorems.EitherLemmas.{separate-holds}
use Rattle.hgs_model.specs.History.{history, parents_in, uses}
use Rattle.hgs_model.specs.IsRepo.{IsRepo}
use Rattle.hgs_model.specs.Repo.{Repo}
use Rattle.hgs_path.specs.declared.name.Ext.TheVariants.{I, D}
use Rattle.hgs_path.specs.Fncache.{clashes}
use Rattle.hgs_path.specs.StoreName.{store_name}
use Rattle.hgs_stands.specs.Stands.{HoldsAt, HoldsChangesets}
use Rattle.hgs_built.specs.Built.{data_of, index_of, own_header, stored_whole, tree_of, used_paths}
use Rattle.hgs_built.specs.CanBeStored.{CanBeStored, HasRoom}
use Rattle.hgs_built.proofs.Basics.{never, none-some, some-same, bool}
use Rattle.hgs_built.proofs.Below.{NameLaws, RevisionLaws}
use Rattle.hgs_built.proofs.PathLemmas.{among-used, data-there, index-there, store-file}

-- ---- one revlog

these-are : (revisions : List Revision) → map (λ s. s.revision) (stored_whole revisions) ≡ revisions
these-are [] = refl
these-are (r ∷ revisions) = ap (λ l. r ∷ l) (these-are revisions)

texts-are : (laws : RevisionLaws) (revisions : List Revision) → AllByRecursion (λ (s : Stored). chunk_text s.chunk ≡ Some s.revision.text) (stored_whole revisions)
texts-are laws [] = tt
texts-are laws (r ∷ revisions) = (laws.chunk r.text, texts-are laws revisions)

pub holds : (laws : RevisionLaws) (revisions : List Revision) → HasRoom revisions → ParentsBefore 0 (parents_in revisions) → HoldsRevisions (index_of revisions) (data_of revisions) revisions
holds laws revisions has before = record {
  header = own_header;
  stored = stored_whole revisions;
  these = these-are revisions;
  texts = texts-are laws revisions;
  earlier = before;
  fits = has.room;
  different = has.different;
  not_null = has.not_null;
  form = refl;
  index_is = refl;
  data_is = refl;
}

-- ---- those of a repository

filelog-holds : (laws : RevisionLaws) (names : NameLaws) (r : Repo) → IsRepo r → CanBeStored r → (p : List ℕ) → uses r.changesets p ≡ true → HoldsAt (tree_of r) (store_name p I) (store_name p D) ((history r.changesets).filelog p)
filelog-holds laws names r is can p used = separate-holds _ _ ((history r.changesets).filelog p)
    (subst (λ x. HoldsRevisions x (bytes_at (tree_of r) (store_name p D)) ((history r.changesets).filelog p)) (sym index)
    (subst (λ x. HoldsRevisions (index_of ((history r.changesets).filelog p)) x ((history r.changesets).filelog p)) (sym chunks) (holds laws ((history r.changesets).filelog p) (can.filelogs p used) (laws.filelogs_before r p is))))
  where
    there : among p (used_paths r.changesets) ≡ true
    there = among-used p r.changesets ∙ used

    apart : (o : List ℕ) → among o (used_paths r.changesets) ≡ true → clashes o p ≡ false
    apart o e = can.names o p (sym (among-used o r.changesets) ∙ e) used

    index : bytes_at (tree_of r) (store_name p I) ≡ index_of ((history r.changesets).filelog p)
    index = ap (λ o. unwrap_or o []) (store-file names r p I ∙ index-there names (history r.changesets).filelog p (used_paths r.changesets) there apart)

    chunks : bytes_at (tree_of r) (store_name p D) ≡ data_of ((history r.changesets).filelog p)
    chunks = ap (λ o. unwrap_or o []) (store-file names r p D ∙ data-there names (history r.changesets).filelog p (used_paths r.changesets) there apart)

pub changesets-held : (laws : RevisionLaws) (names : NameLaws) (r : Repo) → IsRepo r → CanBeStored r → HoldsChangesets (tree_of r) r.changesets
changesets-held laws names r is can = record {
  changelog = separate-holds _ _ (history r.changesets).changelog (holds laws (history r.changesets).changelog can.changelog (laws.changelog_before r is));
  manifest = separate-holds _ _ (history r.changesets).manifest (holds laws (history r.changesets).manifest can.manifest (laws.manifest_before r is));
  filelogs = filelog-holds laws names r is can;
  names = can.names;
}

-- ---- what is held has room

chunk-least : (chunk text : List ℕ) → chunk_text chunk ≡ Some text → length (chunk_of text) ≤ length chunk
chunk-least [] text e = subst (λ x. length (chunk_of x) ≤ 0) (some-same [] [] text e) (omega arith)
chunk-least (b ∷ chunk) text e = by (bool (b == 0)) (bool (b == 117))
  where
    own : (x : List ℕ) → length (chunk_of x) ≤ 1 + length x
    own [] = omega arith
    own (c ∷ x) = one (c == 0)
      where
        one : (z : Bool) → length (cond z (c ∷ x) (117 ∷ c ∷ x)) ≤ 1 + length (c ∷ x)
        one true = omega arith
        one false = omega arith

    by : ((b == 0) ≡ true) ⊎ ((b == 0) ≡ false) → ((b == 117) ≡ true) ⊎ ((b == 117) ≡ false) → length (chunk_of text) ≤ length (b ∷ chunk)
    by (inl z) u = subst (λ x. length (chunk_of x) ≤ length (b ∷ chunk)) (some-same [] (b ∷ chunk) text (sym (ap (λ y. cond y (Some (b ∷ chunk)) (cond (b == 117) (Some chunk) None)) z) ∙ e))
        (subst (λ y. length (cond y (b ∷ chunk) (117 ∷ b ∷ chunk)) ≤ length (b ∷ chunk)) (sym z) (omega arith))
    by (inr z) (inl u) =
        let at : chunk ≡ text = some-same [] chunk text (sym (ap (λ y. cond y (Some (b ∷ chunk)) (cond (b == 117) (Some chunk) None)) z ∙ ap (λ y. cond y (Some chunk) None) u) ∙ e) in
        subst (λ x. length (chunk_of x) ≤ length (b ∷ chunk)) at (let le = own chunk in omega (arith, le))
    by (inr z) (inr u) = none-some text (sym (ap (λ y. cond y (Some (b ∷ chunk)) (cond (b == 117) (Some chunk) None)) z ∙ ap (λ y. cond y (Some chunk) None) u) ∙ e)

room-from : (stored : List Stored) (offset other : ℕ) (known : List (List ℕ)) → other ≤ offset → AllByRecursion (λ (s : Stored). chunk_text s.chunk ≡ Some s.revision.text) stored → AllByRecursion (λ (i : Item). Fits i.entry None) (items_from offset known stored)
    → AllByRecursion (λ (i : Item). Fits i.entry None) (items_from other known (stored_whole (map (λ (s : Stored). s.revision) stored)))
room-from [] offset other known le texts fits = tt
room-from (s ∷ stored) offset other known le texts fits =
    let least = chunk-least s.chunk s.revision.text texts.0 in (
      record {
        offset = below other offset (2 ^ 48) le fits.0.offset;
        flags = fits.0.flags;
        stored = below (length (chunk_of s.revision.text)) (length s.chunk) (2 ^ 31) least fits.0.stored;
        size = fits.0.size;
        base = fits.0.base;
        link = fits.0.link;
        p1 = fits.0.p1;
        p2 = fits.0.p2;
        node = fits.0.node;
        first = λ some. never (sym some);
      },
      room-from stored (offset + length s.chunk) (other + length (chunk_of s.revision.text)) (known ++ node_after known s.revision ∷ []) (omega (arith, le, least)) texts.1 fits.1,
    )
  where
    below : (a b n : ℕ) → a ≤ b → b < n → a < n
    below a b n x y = omega (arith, x, y)

pub held-room : (inline : Bool) (index data_bytes : List ℕ) (revisions : List Revision) → Holds inline index data_bytes revisions → HasRoom revisions
held-room inline index data_bytes revisions h = record {
  different = h.different;
  not_null = h.not_null;
  room = subst (λ l. AllByRecursion (λ (i : Item). Fits i.entry None) (items_from 0 [] (stored_whole l))) h.these (room-from h.stored 0 0 [] (omega arith) h.texts h.fits);
}
