-- What is known of files.
use Rattle.std.proofs.Common.{◌≡◌, ℕ, zero, suc, take, List, [], ◌∷◌, ◌++◌, Bool, true, false, length, Option, Some, None, Result, Ok, Err, refl, sym, ◌∙◌, ap, subst, arith}
use Rattle.std.specs.Prelude.{◌&&◌, IfSome, OnOk, is_none, slice_get, if◌then◌else◌}
use Rattle.std.proofs.lemmas.List.Quantifiers.{position-Some}
use Rattle.std.specs.List.{AllByRecursion}
use Rattle.std.specs.Option.{option_to_list}
use Rattle.hgs_bytes.specs.Bytes.{same}
use Rattle.hgs_files.specs.declared.op.Op.{Op}
use Rattle.hgs_files.specs.Tree.{Tree, after_all}
use Rattle.hgs_index.specs.FileText.{body_of}
use Rattle.hgs_index.specs.Node.{null_node}
use Rattle.hgs_index.specs.declared.entry.Entry.{Entry}
use Rattle.hgs_index.specs.Revision.{parent_node}
use Rattle.hgs_load.specs.declared.answer.ReadAnswer.{ReadAnswer}
use Rattle.hgs_loading.specs.Found.{and_then}
use Rattle.hgs_loading.specs.Logs.{chunk_in_form, either_log_in}
use Rattle.hgs_model.specs.History.{file_parents_of, first_of}
use Rattle.hgs_model.specs.declared.files.NewFile.{NewFile}
use Rattle.hgs_path.specs.declared.name.Ext.{Ext}
use Rattle.hgs_path.specs.declared.name.Ext.TheVariants.{I}
use Rattle.hgs_path.specs.StoreName.{store_name}
use Rattle.hgs_revlog.specs.Loaded.{parents_in}
use Rattle.hgs_revlog.specs.Log.{Log, nodes_of, place_of}
use Rattle.hgs_revlog.specs.Text.{text_of}
use Rattle.hgs_revlog.specs.Theorems.TailHeldLemmas.{place-among}
use Rattle.hgs_revlog.specs.declared.fault.RevFault.{RevFault}
use Rattle.hgs_commit.specs.Files.{OfFile, empty_log, file_in, filelog_in, filelog_with, is_shorter, kept_at, kept_by, kept_in, known_rev, node_in, parents_by, rev_of_node}
use Rattle.hgs_commit.specs.Known.{AreKept, IsKept, IsReadOf, KnowsAt, has_node, is_recalled, recalled_file}
use Rattle.hgs_commit.specs.Obstacles.{Met, noting}
use Rattle.hgs_commit.specs.Texts.{OfLog}
use Rattle.hgs_commit.specs.Walk.{Told}
use Rattle.hgs_commit.specs.declared.known.Known.{Known}
use Rattle.hgs_commit.specs.declared.known.KnownFile.{KnownFile}
use Rattle.hgs_commit.proofs.AnswerLemmas.{alone-one}
use Rattle.hgs_commit.proofs.FoundLemmas.{in-file, on-same}
use Rattle.hgs_commit.proofs.RowLemmas.{same-eq}

-- ---- lists

pub all-back : {A : Type 0} (P : A → Type 0) (xs ys : List A) (o : Option A) → xs ≡ ys ++ option_to_list o → AllByRecursion P xs → AllByRecursion P ys
all-back P xs ys o is h = front ys (option_to_list o) (subst (AllByRecursion P) is h)
  where
    front : (ys zs : List _) → AllByRecursion P (ys ++ zs) → AllByRecursion P ys
    front [] zs h = tt
    front (y ∷ ys) zs h = (h.0, front ys zs h.1)

pub all-last : {A : Type 0} (P : A → Type 0) (xs ys : List A) (x : A) → xs ≡ ys ++ x ∷ [] → AllByRecursion P xs → P x
all-last P xs ys x is h = last ys (subst (AllByRecursion P) is h)
  where
    last : (ys : List _) → AllByRecursion P (ys ++ x ∷ []) → P x
    last [] h = h.0
    last (y ∷ ys) h = last ys h.1

pub all-pushed : {A : Type 0} (P : A → Type 0) (xs : List A) (x : A) → AllByRecursion P xs → P x → AllByRecursion P (xs ++ x ∷ [])
all-pushed P [] x h p = (p, tt)
all-pushed P (y ∷ xs) x h p = (h.0, all-pushed P xs x h.1 p)

pub none-left : {A : Type 0} (ys : List A) → length ys ≡ 0 → ys ≡ []
none-left [] n = refl
none-left (y ∷ ys) n = absurd (omega (arith, n))

pub all-taken : {A : Type 0} (P : A → Type 0) (n : ℕ) (xs : List A) → AllByRecursion P xs → AllByRecursion P (take n xs)
all-taken P zero xs h = tt
all-taken P (suc n) [] h = tt
all-taken P (suc n) (x ∷ xs) h = (h.0, all-taken P n xs h.1)

-- ---- where nobody else writes

pub on-ok : {A E : Type 0} (r : Result A E) (X : Type 0) → X → OnOk r X
on-ok (Ok a) X x = x
on-ok (Err e) X x = tt

-- what is known stays where the files do
pub knows-later : (alone : Bool) (seen next : Option (List Op)) (start later : Tree) (k : Known) → (alone ≡ true → next ≡ seen) → later ≡ start → KnowsAt alone seen start k → KnowsAt alone next later k
knows-later alone seen next start later k still same h is =
    subst (λ u. IfSome next (λ log. AreKept (after_all log u) k)) (sym same) (subst (λ o. IfSome o (λ log. AreKept (after_all log start) k)) (sym (still is)) (h is))

-- what follows of what is known
pub knows-more : (alone : Bool) (seen : Option (List Op)) (start : Tree) (k : Known) (S : Tree → Type 0) → ((t : Tree) → AreKept t k → S t) → KnowsAt alone seen start k → alone ≡ true → IfSome seen (λ log. S (after_all log start))
knows-more alone seen start k S f h = alone-one alone seen start (λ t. AreKept t k) S f h

-- ---- a file that is kept

both : (a b : Bool) → a && b ≡ true → (a ≡ true) × (b ≡ true)
both true b e = (refl, e)
both false b e = cc

node-is : (o : Option (List ℕ)) (node : List ℕ) → has_node o node ≡ true → o ≡ Some node
node-is None node e = cc
node-is (Some other) node e = ap (λ x. Some x) (same-eq other node e)

none-is : {A : Type 0} (o : Option A) → is_none o ≡ true → o ≡ None
none-is None e = refl
none-is (Some x) e = cc

some-is : (a b : ℕ) → (let r : Result (Option ℕ) ReadAnswer = Ok (Some a) in r ≡ Ok (Some b)) → a ≡ b
some-is a b e = cc

ok-log : (a b : OfLog) → (let r : Result OfLog ReadAnswer = Ok a in r ≡ Ok b) → a ≡ b
ok-log a b e = cc

-- the node of the revision that has it
node-at : (entries : List Entry) (node : List ℕ) (rev : ℕ) → place_of entries node ≡ Some rev → parent_node (nodes_of entries) (Some rev) ≡ node
node-at entries node rev place =
    let found = position-Some (λ n. same n node) (nodes_of entries) rev null_node (sym (place-among entries node) ∙ place) in
    same-eq (parent_node (nodes_of entries) (Some rev)) node found.1

-- what is kept is the revision of the one parent
kept-by : (f : OfLog) (a rev : ℕ) (body : List ℕ) (text : Result (List ℕ) RevFault) → kept_by f a body text ≡ Ok (Some rev) → a ≡ rev
kept-by f a rev body (Ok text) e = by (same (body_of text) body) e
  where
    by : (b : Bool) → (let r : Result (Option ℕ) ReadAnswer = Ok (if b then Some a else None) in r ≡ Ok (Some rev)) → a ≡ rev
    by true e = some-is a rev e
    by false e = cc
kept-by f a rev body (Err fault) e = cc

kept-at : (f : OfLog) (a rev : ℕ) (body : List ℕ) (t : Tree) → kept_at f a body t ≡ Ok (Some rev) → a ≡ rev
kept-at f a rev body t e = by (is_shorter (slice_get f.log.entries a) body) e
  where
    by : (b : Bool) → (if b then Ok None else kept_by f a body (text_of f.log.entries a (chunk_in_form f.index f.chunks f.log a t))) ≡ Ok (Some rev) → a ≡ rev
    by true e = cc
    by false e = kept-by f a rev body (text_of f.log.entries a (chunk_in_form f.index f.chunks f.log a t)) e

pub kept-alone : (f : OfLog) (a b : Option ℕ) (rev : ℕ) (body : List ℕ) (t : Tree) → kept_in f a b body t ≡ Ok (Some rev) → kept_at f rev body t ≡ Ok (Some rev)
kept-alone f None b rev body t e = cc
kept-alone f (Some a) None rev body t e = subst (λ k. kept_at f k body t ≡ Ok (Some rev)) (kept-at f a rev body t e) e
kept-alone f (Some a) (Some b) rev body t e = cc

-- the filelog that was read of a path
pub read-of : (lists : List ℕ → Ext → Bool) (path : List ℕ) (f : OfLog) (t : Tree) → filelog_in lists path t ≡ Ok f → IsReadOf path f t
read-of lists path f t e = by (lists path I) e
  where
    listed : (r : Result Log ReadAnswer) → either_log_in (store_name path I) t ≡ r → and_then r (λ log. Ok (filelog_with path log)) ≡ Ok f → IsReadOf path f t
    listed (Ok log) is e =
        let same_log : filelog_with path log ≡ f = ok-log (filelog_with path log) f e in
        record { index = ap (λ (x : OfLog). x.index) (sym same_log); chunks = ap (λ (x : OfLog). x.chunks) (sym same_log); entries = λ node rev place. is ∙ ap (λ (x : OfLog). Ok x.log) same_log }
    listed (Err e) is h = cc

    by : (b : Bool) → (if b then and_then (either_log_in (store_name path I) t) (λ log. Ok (filelog_with path log)) else Ok (filelog_with path empty_log)) ≡ Ok f → IsReadOf path f t
    by true e = listed (either_log_in (store_name path I) t) refl e
    by false e =
        let same_log : filelog_with path empty_log ≡ f = ok-log (filelog_with path empty_log) f e in
        record {
          index = ap (λ (x : OfLog). x.index) (sym same_log);
          chunks = ap (λ (x : OfLog). x.chunks) (sym same_log);
          entries = λ node rev place. absurd (nowhere node rev (ap (λ (x : OfLog). place_of x.log.entries node) same_log ∙ place));
        }
      where
        nowhere : (node : List ℕ) (rev : ℕ) → place_of [] node ≡ Some rev → ⊥
        nowhere node rev h = cc

-- what is known of a file whose revision is kept
pub is-kept : (k : KnownFile) (f : OfLog) (t : Tree) (rev : ℕ) → k.paths.index ≡ f.index → k.paths.chunks ≡ f.chunks → k.inline ≡ f.log.inline → place_of f.log.entries k.node.0 ≡ Some rev → IsReadOf k.file.now.path f t → kept_at f rev k.file.now.body t ≡ Ok (Some rev) → IsKept t k
is-kept k f t rev index chunks inline place read kept = record {
  index = index ∙ read.index;
  chunks = chunks ∙ read.chunks;
  log = f.log;
  is_log = read.entries k.node.0 rev place;
  inline = inline;
  rev = rev;
  place = place;
  kept = subst (λ (x : OfLog). kept_at x rev k.file.now.body t ≡ Ok (Some rev)) (λ i. record { index = read.index i; chunks = read.chunks i; log = f.log }) kept;
}

-- ---- a file that is known

module _ (lists : List ℕ → Ext → Bool) (link : ℕ) (file : NewFile) (source : List ℕ) (first second : Option Told) (t : Tree) (k : KnownFile) (is : IsKept t k) (recalls : is_recalled lists file first second k ≡ true) (at : same k.file.now.path file.path ≡ true) where
  abbrev log : OfLog
  log = filelog_with file.path is.log

  path : k.file.now.path ≡ file.path
  path = same-eq k.file.now.path file.path at

  parts : (is_none second ≡ true) × (has_node (node_in first) k.node.0 && (same k.file.now.body file.body && lists file.path I) ≡ true)
  parts = both (is_none second) _ recalls

  named : (has_node (node_in first) k.node.0 ≡ true) × (same k.file.now.body file.body && lists file.path I ≡ true)
  named = both (has_node (node_in first) k.node.0) _ parts.1

  rest : (same k.file.now.body file.body ≡ true) × (lists file.path I ≡ true)
  rest = both (same k.file.now.body file.body) _ named.1

  filelog : filelog_in lists file.path t ≡ Ok log
  filelog =
      ap (λ b. if b then and_then (either_log_in (store_name file.path I) t) (λ x. Ok (filelog_with file.path x)) else Ok (filelog_with file.path empty_log)) rest.1
      ∙ ap (λ r. and_then r (λ x. Ok (filelog_with file.path x))) (ap (λ p. either_log_in (store_name p I) t) (sym path) ∙ is.is_log)

  parents : parents_by log first second ≡ Ok (Some is.rev, None)
  parents =
      ap (λ o. and_then (rev_of_node log.index log.log.entries o) (λ a. and_then (rev_of_node log.index log.log.entries (node_in second)) (λ b. Ok (file_parents_of (parents_in log.log.entries) a b)))) (node-is (node_in first) k.node.0 named.0)
      ∙ ap (λ o. and_then (known_rev log.index o) (λ a. and_then (rev_of_node log.index log.log.entries (node_in second)) (λ b. Ok (file_parents_of (parents_in log.log.entries) a b)))) is.place
      ∙ ap (λ o. and_then (rev_of_node log.index log.log.entries (node_in o)) (λ b. Ok (file_parents_of (parents_in log.log.entries) (Some is.rev) b))) (none-is second parts.0)

  kept : kept_in log (Some is.rev) None file.body t ≡ Ok (Some is.rev)
  kept = ap (λ p. kept_at (filelog_with p is.log) is.rev file.body t) (sym path) ∙ ap (λ b. kept_at (filelog_with k.file.now.path is.log) is.rev b t) (sym (same-eq k.file.now.body file.body rest.0)) ∙ is.kept

  pub recalled-found : (x : OfFile) (m : Met) → x ≡ recalled_file file (first_of first second) k.node.0 k.inline → noting m (file_in lists link file source first second t) ≡ Ok (x, m)
  recalled-found x m e =
      in-file lists link file source first second t log filelog (λ (u : Unit {0}). (x, m)) m (Ok tt) (Some is.rev, None) parents
      (on-same log file source (first_of first second) (Some is.rev, None) link t m is.rev x
      (e ∙ ap (λ n. recalled_file file (first_of first second) n k.inline) (sym (node-at is.log.entries k.node.0 is.rev is.place)) ∙ ap (recalled_file file (first_of first second) (parent_node (nodes_of is.log.entries) (Some is.rev))) is.inline) kept)
