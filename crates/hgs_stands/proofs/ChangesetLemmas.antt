-- Revisions determine the changesets.
use Rattle.std.proofs.Common.{◌≡◌, ℕ, ◌<◌, List, [], ◌∷◌, Bool, true, length, refl, sym, ◌∙◌, ap, subst}
use Rattle.std.specs.Prelude.{Result, Ok, Err, slice_get}
use Rattle.std.specs.List.{AllByRecursion, AllZip}
use Rattle.hgs_index.specs.declared.texts.ChangeFault.{ChangeFault}
use Rattle.hgs_index.specs.declared.texts.ManifestFault.{ManifestFault}
use Rattle.hgs_index.specs.ChangeText.{Change, IsChange, change_text, read_change}
use Rattle.hgs_index.specs.FileText.{unpacked}
use Rattle.hgs_index.specs.Manifest.{Row, AreRows, manifest_text, read_manifest}
use Rattle.hgs_index.specs.Revision.{Revision, nodes}
use Rattle.hgs_index.specs.Revlog.{all_different}
use Rattle.hgs_model.specs.Held.{IsHeld, IsPlacedIn}
use Rattle.hgs_model.specs.Repo.{TreeFile, Changeset, file_text}
use Rattle.hgs_model.specs.History.{History, node_at, text_at}
use Rattle.hgs_stands.specs.Theorems.Below.{HistoryLaws, TextLaws}
use Rattle.hgs_stands.specs.Theorems.Basics.{some-same}

-- ---- texts have one value

change-same : (texts : TextLaws) (a b : Change) → IsChange a → IsChange b → change_text a ≡ change_text b → a ≡ b
change-same texts a b x y e = ok-same (sym (texts.change a x) ∙ ap read_change e ∙ texts.change b y)
  where
    ok-same : ◌≡◌ {A = Result Change ChangeFault} (Ok a) (Ok b) → a ≡ b
    ok-same h = ap (λ o. elim o [ Ok z ↦ z | Err w ↦ a ]) h

rows-same : (texts : TextLaws) (a b : List Row) → AreRows a → AreRows b → manifest_text a ≡ manifest_text b → a ≡ b
rows-same texts a b x y e = ok-same (sym (texts.rows a x) ∙ ap read_manifest e ∙ texts.rows b y)
  where
    ok-same : ◌≡◌ {A = Result (List Row) ManifestFault} (Ok a) (Ok b) → a ≡ b
    ok-same h = ap (λ o. elim o [ Ok z ↦ z | Err w ↦ a ]) h

-- ---- files

abbrev Unpacks : TreeFile → Type 0
Unpacks f = unpacked (file_text f) ≡ (f.prefix, f.body)

-- filelogs that are the same where both use a path
pub record SameLogs (logs others : List ℕ → List Revision) (used used_there : List ℕ → Bool) : Type 0 where
  pub same_log : (path : List ℕ) → used path ≡ true → used_there path ≡ true → logs path ≡ others path
  pub different : (path : List ℕ) → used path ≡ true → all_different (nodes (logs path)) ≡ true

-- two files of one row are one file
file-same : (laws : HistoryLaws) (logs others : List ℕ → List Revision) (used used_there : List ℕ → Bool) → SameLogs logs others used used_there → (f g : TreeFile) (row : Row) → used f.path ≡ true → used_there g.path ≡ true → Unpacks f → Unpacks g
    → IsPlacedIn logs f row → IsPlacedIn others g row → f ≡ g
file-same laws logs others used used_there s f g row uf ug pf pg p q =
    let rows : record { path = f.path; node = node_at (logs f.path) p.rev; flag = f.flag } ≡ record { path = g.path; node = node_at (others g.path) q.rev; flag = g.flag } = sym p.row_is ∙ q.row_is in
    let path : f.path ≡ g.path = ap (λ (x : Row). x.path) rows in
    let log : logs f.path ≡ others g.path = s.same_log f.path uf (ap used_there path ∙ ug) ∙ ap others path in
    let node : node_at (logs f.path) p.rev ≡ node_at (logs f.path) q.rev = ap (λ (x : Row). x.node) rows ∙ ap (λ l. node_at l q.rev) (sym log) in
    let rev : p.rev ≡ q.rev = laws.one (logs f.path) p.rev q.rev (s.different f.path uf) p.below (subst (λ l. q.rev < length l) (sym log) q.below) node in
    let text : file_text f ≡ file_text g = sym p.text ∙ ap (text_at (logs f.path)) rev ∙ ap (λ l. text_at l q.rev) log ∙ q.text in
    let parts : (f.prefix, f.body) ≡ (g.prefix, g.body) = sym pf ∙ ap unpacked text ∙ pg in
    λ i. record { path = path i; flag = (rows i).flag; prefix = (parts i).0; body = (parts i).1 }

files-same : (laws : HistoryLaws) (logs others : List ℕ → List Revision) (used used_there : List ℕ → Bool) → SameLogs logs others used used_there → (xs ys : List TreeFile) (rows : List Row)
    → AllByRecursion (λ (f : TreeFile). used f.path ≡ true) xs → AllByRecursion (λ (f : TreeFile). used_there f.path ≡ true) ys → AllByRecursion Unpacks xs → AllByRecursion Unpacks ys
    → AllZip (IsPlacedIn logs) xs rows → AllZip (IsPlacedIn others) ys rows → xs ≡ ys
files-same laws logs others used used_there s [] [] [] ux uy px py a b = refl
files-same laws logs others used used_there s [] (y ∷ ys) [] ux uy px py a b = absurd b
files-same laws logs others used used_there s (x ∷ xs) ys [] ux uy px py a b = absurd a
files-same laws logs others used used_there s [] ys (row ∷ rows) ux uy px py a b = absurd a
files-same laws logs others used used_there s (x ∷ xs) [] (row ∷ rows) ux uy px py a b = absurd b
files-same laws logs others used used_there s (x ∷ xs) (y ∷ ys) (row ∷ rows) ux uy px py a b =
    λ i. file-same laws logs others used used_there s x y row ux.0 uy.0 px.0 py.0 a.0 b.0 i ∷ files-same laws logs others used used_there s xs ys rows ux.1 uy.1 px.1 py.1 a.1 b.1 i

-- ---- changesets

-- the same revisions at one place are of one changeset
pub changeset-same : (texts : TextLaws) (laws : HistoryLaws) (g h j k : History) (rev : ℕ) (c d : Changeset) (used used_there : List ℕ → Bool) → SameLogs h.filelog k.filelog used used_there → h.changelog ≡ k.changelog → h.manifest ≡ k.manifest → all_different (nodes h.manifest) ≡ true
    → AllByRecursion (λ (f : TreeFile). used f.path ≡ true) c.tree → AllByRecursion (λ (f : TreeFile). used_there f.path ≡ true) d.tree → IsHeld g h rev c → IsHeld j k rev d → c ≡ d
changeset-same texts laws g h j k rev c d used used_there s changelog manifest different uc ud a b =
    let revision : a.revision ≡ b.revision = some-same a.revision a.revision b.revision (sym a.there ∙ ap (λ l. slice_get l rev) changelog ∙ b.there) in
    let change : a.change ≡ b.change = change-same texts a.change b.change a.in_form b.in_form (sym a.text_is ∙ ap (λ (x : Revision). x.text) revision ∙ b.text_is) in
    let parents : c.parents ≡ d.parents = sym a.parents_are ∙ ap (λ (x : Revision). x.parents) revision ∙ b.parents_are in
    let node : node_at h.manifest a.manifest_rev ≡ node_at h.manifest b.manifest_rev = sym a.node_is ∙ ap (λ (x : Change). x.manifest) change ∙ b.node_is ∙ ap (λ l. node_at l b.manifest_rev) (sym manifest) in
    let number : a.manifest_rev ≡ b.manifest_rev = laws.one h.manifest a.manifest_rev b.manifest_rev different a.below (subst (λ l. b.manifest_rev < length l) (sym manifest) b.below) node in
    let rows : a.rows ≡ b.rows = rows-same texts a.rows b.rows a.ascend b.ascend (sym a.manifest_text_is ∙ ap (text_at h.manifest) number ∙ ap (λ l. text_at l b.manifest_rev) manifest ∙ b.manifest_text_is) in
    let tree : c.tree ≡ d.tree = files-same laws h.filelog k.filelog used used_there s c.tree d.tree a.rows uc ud a.unpacks b.unpacks a.files (subst (AllZip (IsPlacedIn k.filelog) d.tree) (sym rows) b.files) in
    let user : c.user ≡ d.user = sym a.tells.user ∙ ap (λ (x : Change). x.user) change ∙ b.tells.user in
    let seconds : c.seconds ≡ d.seconds = sym a.tells.seconds ∙ ap (λ (x : Change). x.seconds) change ∙ b.tells.seconds in
    let offset : c.offset ≡ d.offset = sym a.tells.offset ∙ ap (λ (x : Change). x.offset) change ∙ b.tells.offset in
    let extras : c.extras ≡ d.extras = sym a.tells.extras ∙ ap (λ (x : Change). x.extras) change ∙ b.tells.extras in
    let description : c.description ≡ d.description = sym a.tells.description ∙ ap (λ (x : Change). x.description) change ∙ b.tells.description in
    λ i. record { parents = parents i; tree = tree i; user = user i; seconds = seconds i; offset = offset i; extras = extras i; description = description i }
