-- The manifest and the changeset of a commit are those of the repository's next changeset.
use Rattle.std.proofs.Common.{◌≡◌, ℕ, List, [], ◌∷◌, ◌++◌, false, length, refl, sym, ◌∙◌, ap, subst, arith}
use Rattle.std.specs.Prelude.{◌≤◌, Ok}
use Rattle.std.proofs.lemmas.List.{length-map}
use Rattle.hgs_files.specs.Tree.{Tree, bytes_at}
use Rattle.hgs_index.specs.ChangeText.{change_text}
use Rattle.hgs_index.specs.Manifest.{manifest_text}
use Rattle.hgs_index.specs.Revision.{Parents, Revision, number_of, standing as standing_in, with_revision}
use Rattle.hgs_index.specs.declared.entry.Entry.{Entry}
use Rattle.hgs_loading.specs.Found.{and_then}
use Rattle.hgs_model.specs.History.{History, changeset_revision, history, manifest_number, manifest_revision, manifest_with, node_at}
use Rattle.hgs_model.specs.Repo.{Changeset, Repo}
use Rattle.hgs_model.specs.Step.{new_changeset}
use Rattle.hgs_model.specs.declared.command.NewChange.{NewChange}
use Rattle.hgs_model.specs.Theorems.CountLemmas.{length-placed}
use Rattle.hgs_model.specs.Theorems.HeldLemmas.{count}
use Rattle.hgs_model.specs.Theorems.ListedLemmas.{length-nodes}
use Rattle.hgs_ops.specs.Unhindered.{AreNewRevisions}
use Rattle.hgs_load.specs.declared.answer.ReadAnswer.{ReadAnswer}
use Rattle.hgs_revlog.specs.Load.{most_revisions}
use Rattle.hgs_revlog.specs.Log.{stored_sum}
use Rattle.hgs_stands.specs.Stands.{Stands}
use Rattle.hgs_steps.specs.declared.loaded.Loaded.{Loaded}
use Rattle.hgs_commit.specs.Changeset.{change_of, changeset_in, manifest_in, of_changelog, of_manifest}
use Rattle.hgs_commit.specs.Commit.{OfTexts, texts_in}
use Rattle.hgs_commit.specs.Obstacles.{Obstacle}
use Rattle.hgs_commit.specs.Texts.{OfText}
use Rattle.hgs_commit.specs.Trees.{OfGrown}
use Rattle.hgs_writer.specs.Free.{HasRoomFor}
use Rattle.hgs_writer.specs.Logs.{IsLogOf}
use Rattle.hgs_writer.specs.NewTexts.{growth_by}
use Rattle.hgs_writer.specs.Trees.{AreTextsOf, IsTreeOf}
use Rattle.hgs_writer.proofs.Basics.{both, ok-is}
use Rattle.hgs_writer.proofs.NewTextLemmas.{text-free, text-of}

-- the changelog has as many entries as there are changesets
pub counted : (t : Tree) (r : Repo) (l : Loaded) → Stands t r → IsLogOf t (of_changelog l.changelog) (history r.changesets).changelog → length l.changelog.entries ≡ length (history r.changesets).placed
counted t r l s changelog =
    omega (arith, length-map l.changelog.entries (λ (x : Entry). x.node.0), ap length changelog.nodes_are, length-nodes (history r.changesets).changelog, count r.changesets s.repository.changesets, length-placed r.changesets)

pub none-left : {A : Type 0} (xs ys : List A) → xs ++ ys ≡ [] → xs ≡ []
none-left [] ys e = refl
none-left {A} (x ∷ xs) ys e = absurd (no e)
  where
    no : ◌≡◌ {A = List A} (x ∷ xs ++ ys) [] → ⊥
    no h = cc

pub none-right : {A : Type 0} (xs ys : List A) → xs ++ ys ≡ [] → ys ≡ []
none-right [] ys e = e
none-right {A} (x ∷ xs) ys e = absurd (no e)
  where
    no : ◌≡◌ {A = List A} (x ∷ xs ++ ys) [] → ⊥
    no h = cc

module _ (t : Tree) (r : Repo) (l : Loaded) (s : Stands t r) (changelog : IsLogOf t (of_changelog l.changelog) (history r.changesets).changelog) (manifest : IsLogOf t (of_manifest l.manifest) (history r.changesets).manifest) (n : NewChange) (parents : Parents) (x : OfGrown) (manifests : Parents) (is : IsTreeOf (history r.changesets) (new_changeset (history r.changesets) parents n) (x, manifests)) where
  abbrev h : History
  h = history r.changesets

  abbrev c : Changeset
  c = new_changeset h parents n

  abbrev link : ℕ
  link = length l.changelog.entries

  abbrev manifest-asked : Revision
  manifest-asked = record { text = manifest_text x.rows; parents = manifests; link = link }

  manifest-is : manifest-asked ≡ manifest_revision h c
  manifest-is =
      let rows = is.rows in
      let ps = is.parents in
      let linked = counted t r l s changelog in
      λ i. record { text = manifest_text (rows i); parents = ps i; link = linked i }

  changeset-is : (node : List ℕ) → node ≡ node_at (manifest_with h c) (manifest_number h c) → (let z : Revision = record { text = change_text (change_of n node x.changed); parents = parents; link = link } in z) ≡ changeset_revision h c
  changeset-is node e =
      let changed = is.changed in
      let linked = counted t r l s changelog in
      λ i. record { text = change_text (change_of n (e i) (changed i)); parents = parents; link = linked i }

  pub texts-are : (y : OfTexts × List Obstacle) → texts_in l n parents x manifests t ≡ Ok y → AreTextsOf l h c y
  texts-are y e =
      let a = both (manifest_in l.manifest x.rows manifests link t) (λ m. and_then (changeset_in l.changelog n parents m.0.node x.changed t) (λ z. Ok (record { filelogs = x.growth; lines = x.lines; manifest = m.0.growth; changeset = z.0 }, m.1 ++ z.1))) y e in
      let b = both (changeset_in l.changelog n parents a.0.0.node x.changed t) (λ z. Ok (record { filelogs = x.growth; lines = x.lines; manifest = a.0.0.growth; changeset = z.0 }, a.0.1 ++ z.1)) y a.2 in
      let m = text-of t (of_manifest l.manifest) h.manifest manifest-asked manifest in
      let m_is : m.0 ≡ a.0 = ok-is {E = ReadAnswer} m.0 a.0 (sym m.1 ∙ a.1) in
      let node : a.0.0.node ≡ node_at (manifest_with h c) (manifest_number h c) = ap (λ (z : OfText × List Obstacle). z.0.node) (sym m_is) ∙ m.2.node ∙ ap (λ (z : Revision). node_at (with_revision h.manifest z) (number_of h.manifest z.text z.parents)) manifest-is in
      let asked : Revision = record { text = change_text (change_of n a.0.0.node x.changed); parents = parents; link = link } in
      let same_asked : asked ≡ changeset_revision h c = changeset-is a.0.0.node node in
      let z = text-of t (of_changelog l.changelog) h.changelog asked changelog in
      let z_is : z.0 ≡ b.0 = ok-is {E = ReadAnswer} z.0 b.0 (sym z.1 ∙ b.1) in
      let made : OfTexts × List Obstacle = (record { filelogs = x.growth; lines = x.lines; manifest = a.0.0.growth; changeset = b.0.0 }, a.0.1 ++ b.0.1) in
      let made_is : made ≡ y = ok-is {E = ReadAnswer} made y b.2 in
      let plain : y.1 ≡ [] → a.0.1 ++ b.0.1 ≡ [] = λ none. ap (λ (w : OfTexts × List Obstacle). w.1) made_is ∙ none in
      record {
        node = ap (λ (w : OfTexts × List Obstacle). w.0.changeset.node) (sym made_is) ∙ ap (λ (w : OfText × List Obstacle). w.0.node) (sym z_is) ∙ z.2.node ∙ ap (λ (w : Revision). node_at (with_revision h.changelog w) (number_of h.changelog w.text w.parents)) same_asked;
        standing = ap (λ (w : OfTexts × List Obstacle). w.0.changeset.standing) (sym made_is) ∙ ap (λ (w : OfText × List Obstacle). w.0.standing) (sym z_is) ∙ z.2.standing ∙ ap (λ (w : Revision). standing_in h.changelog w.text w.parents) same_asked;
        changeset = λ none. ap (λ (w : OfTexts × List Obstacle). w.0.changeset.growth) (sym made_is) ∙ ap (λ (w : OfText × List Obstacle). w.0.growth) (sym z_is)
            ∙ z.2.growth (ap (λ (w : OfText × List Obstacle). w.1) z_is ∙ none-right a.0.1 b.0.1 (plain none)) ∙ ap (λ (w : Revision). growth_by (of_changelog l.changelog) w (standing_in h.changelog w.text w.parents)) same_asked;
        manifest = λ none. ap (λ (w : OfTexts × List Obstacle). w.0.manifest) (sym made_is) ∙ ap (λ (w : OfText × List Obstacle). w.0.growth) (sym m_is)
            ∙ m.2.growth (ap (λ (w : OfText × List Obstacle). w.1) m_is ∙ none-left a.0.1 b.0.1 (plain none)) ∙ ap (λ (w : Revision). growth_by (of_manifest l.manifest) w (standing_in h.manifest w.text w.parents)) manifest-is;
        changesets_fresh = λ none. subst (λ (w : Revision). AreNewRevisions h.changelog (with_revision h.changelog w)) same_asked (z.2.fresh (ap (λ (w : OfText × List Obstacle). w.1) z_is ∙ none-right a.0.1 b.0.1 (plain none)));
        changesets_few = λ none. subst (λ (w : Revision). length (with_revision h.changelog w) ≤ most_revisions) same_asked (z.2.few (ap (λ (w : OfText × List Obstacle). w.1) z_is ∙ none-right a.0.1 b.0.1 (plain none)));
        manifests_fresh = λ none. subst (λ (w : Revision). AreNewRevisions h.manifest (with_revision h.manifest w)) manifest-is (m.2.fresh (ap (λ (w : OfText × List Obstacle). w.1) m_is ∙ none-left a.0.1 b.0.1 (plain none)));
      }

  -- with room for both nothing keeps them from being written
  pub texts-free : length (bytes_at t (of_manifest l.manifest).chunks) ≡ stored_sum l.manifest.entries → length (bytes_at t (of_changelog l.changelog).chunks) ≡ stored_sum l.changelog.entries → HasRoomFor false t (of_manifest l.manifest).index (of_manifest l.manifest).chunks h.manifest (manifest_with h c)
      → HasRoomFor false t (of_changelog l.changelog).index (of_changelog l.changelog).chunks h.changelog (with_revision h.changelog (changeset_revision h c)) → (y : OfTexts × List Obstacle) → texts_in l n parents x manifests t ≡ Ok y → y.1 ≡ []
  texts-free manifest_whole changelog_whole manifest_room changelog_room y e =
      let a = both (manifest_in l.manifest x.rows manifests link t) (λ m. and_then (changeset_in l.changelog n parents m.0.node x.changed t) (λ z. Ok (record { filelogs = x.growth; lines = x.lines; manifest = m.0.growth; changeset = z.0 }, m.1 ++ z.1))) y e in
      let b = both (changeset_in l.changelog n parents a.0.0.node x.changed t) (λ z. Ok (record { filelogs = x.growth; lines = x.lines; manifest = a.0.0.growth; changeset = z.0 }, a.0.1 ++ z.1)) y a.2 in
      let m = text-of t (of_manifest l.manifest) h.manifest manifest-asked manifest in
      let m_is : m.0 ≡ a.0 = ok-is {E = ReadAnswer} m.0 a.0 (sym m.1 ∙ a.1) in
      let node : a.0.0.node ≡ node_at (manifest_with h c) (manifest_number h c) = ap (λ (z : OfText × List Obstacle). z.0.node) (sym m_is) ∙ m.2.node ∙ ap (λ (z : Revision). node_at (with_revision h.manifest z) (number_of h.manifest z.text z.parents)) manifest-is in
      let asked : Revision = record { text = change_text (change_of n a.0.0.node x.changed); parents = parents; link = link } in
      let same_asked : asked ≡ changeset_revision h c = changeset-is a.0.0.node node in
      let first = text-free t (of_manifest l.manifest) h.manifest manifest-asked manifest false manifest_whole (subst (λ (z : Revision). HasRoomFor false t (of_manifest l.manifest).index (of_manifest l.manifest).chunks h.manifest (with_revision h.manifest z)) (sym manifest-is) manifest_room) a.0 a.1 in
      let second = text-free t (of_changelog l.changelog) h.changelog asked changelog false changelog_whole (subst (λ (z : Revision). HasRoomFor false t (of_changelog l.changelog).index (of_changelog l.changelog).chunks h.changelog (with_revision h.changelog z)) (sym same_asked) changelog_room) b.0 b.1 in
      let made : OfTexts × List Obstacle = (record { filelogs = x.growth; lines = x.lines; manifest = a.0.0.growth; changeset = b.0.0 }, a.0.1 ++ b.0.1) in
      ap (λ (w : OfTexts × List Obstacle). w.1) (sym (ok-is {E = ReadAnswer} made y b.2)) ∙ λ i. first i ++ second i
