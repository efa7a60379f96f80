-- What is read is the changeset of a record, which the bytes are.
use Rattle.std.proofs.Common.{◌≡◌, ℕ, zero, suc, ◌≤◌, Bool, true, false, ◌&&◌, ◌||◌, List, [], ◌∷◌, ◌++◌, length, Option, Some, None, Result, Ok, Err, ℤ, refl, sym, ◌∙◌, ap, subst, arith, append_assoc, codes, unsigned_abs}
use Rattle.std.specs.Prelude.{◌==◌, not, nat_le, decimal, flat_map, unwrap_or, is_some, if◌then◌else◌, IfSome, IsUtf8}
use Rattle.std.specs.List.{AllByRecursion, list_any, list_all}
use Rattle.std.specs.Fmt.{signed_decimal}
use Rattle.std.specs.Str.{is_utf8}
use Rattle.std.proofs.lemmas.Bool.{leb-true}
use Rattle.std.proofs.lemmas.List.{append-nil, nil_from_length, length_push}
use Rattle.std.proofs.lemmas.Str.{IsUtf8-from_is_utf8}
use Rattle.hgs_bytes.specs.Bytes.{same}
use Rattle.hgs_bytes.specs.Text.{Lacks, line, split}
use Rattle.hgs_bytes.specs.Theorems.ByteLemmas.{same-eq}
use Rattle.hgs_bytes.specs.Theorems.TextLemmas.{split_parts, number_is}
use Rattle.hgs_index.specs.Theorems.HeaderText.{line_then}
use Rattle.hgs_index.specs.Theorems.NumberText.{number_found}
use Rattle.hgs_index.specs.Theorems.RevlogLemmas.{all-append}
use Rattle.hgs_index.specs.ChangeText.{When, date_text, most_seconds, most_offset, number_within, when_of, when_behind, when_parts, offset_and_extras, when_at}
use Rattle.hgs_index.specs.MarkName.{is_mark_name}
use Rattle.hgs_index.specs.TrackedPath.{is_tracked}
use Rattle.hgs_model.specs.declared.command.NewChange.{NewChange}
use Rattle.hgs_model.specs.declared.files.NewFile.{NewFile}
use Rattle.hgs_model.specs.declared.phase.Phase.{Phase}
use Rattle.hgs_model.specs.declared.phase.Phase.TheVariants.{Public, Draft, Secret}
use Rattle.hgs_model.specs.Phase.{phase_name, phase_named}
use Rattle.hgs_model.specs.Valid.{is_branch_name, is_source, new_paths, IsNewChange}
use Rattle.hgs_input.specs.declared.fault.InputFault.{InputFault}
use Rattle.hgs_input.specs.declared.fault.InputFault.TheVariants.{Limit}
use Rattle.hgs_index.specs.declared.kinds.Which.TheVariants.{Record}
use Rattle.hgs_input.specs.Record.{most_input, parent_text, phase_text, bookmark_text, branch_text, description_text, file_text, Wording, record_text, IsRecord}
use Rattle.hgs_input.specs.Front.{IsRecordBefore}
use Rattle.hgs_input.specs.Read.{Rest, ◌>>=◌, place, bad_at, required, optional, counted, behind, and_then, where_true, word_of, parent_of, is_user, most_user, user_of, date_of, phase_of, bookmark_of, branch_of, branch_from, number_up_to, most_description, length_of, more, parents_from, text_at, description_from, next_file, files_from, nothing_behind, Head, head_from, change_with, record_from, looked_at, start_of, read_record}
use Rattle.hgs_input.specs.View.{IsTree}
use Rattle.hgs_input.proofs.WholeLemmas.{record_then, looked-length, looked-whole}
use Rattle.hgs_input.proofs.FoundLemmas.{bound, ok_is, some_is, contradiction, and_then_some, where_some, both, not_true, LineFound, required_found, optional_some, optional_none, counted_found, behind_some, number_found as count_found, FileFound, file_found, file_none, tree_with, paths-push}

-- what stands before the rest of an input, and the same input behind it
pub record Before (r : Rest) (text : List ℕ) (rest : Rest) : Type 0 where
  pub is : r.bytes ≡ text ++ rest.bytes
  pub whole : rest.whole ≡ r.whole

pub before_line : (r : Rest) (text : List ℕ) (rest : Rest) → LineFound r text rest → Before r (line text) rest
before_line r text rest f = record { is = f.is ∙ sym (line_then text rest.bytes); whole = f.whole }

pub before_both : (r mid rest : Rest) (a b : List ℕ) → Before r a mid → Before mid b rest → Before r (a ++ b) rest
before_both r mid rest a b f g = record { is = f.is ∙ ap (λ t. a ++ t) g.is ∙ sym (append_assoc a b rest.bytes); whole = g.whole ∙ f.whole }

before_none : (r rest : Rest) → r ≡ rest → Before r [] rest
before_none r rest e = record { is = ap (λ (q : Rest). q.bytes) e; whole = ap (λ (q : Rest). q.whole) (sym e) }

pub before_same : (r rest : Rest) (a b : List ℕ) → a ≡ b → Before r a rest → Before r b rest
before_same r rest a b e f = record { is = f.is ∙ ap (λ t. t ++ rest.bytes) e; whole = f.whole }

-- ---- words and names

lacks_behind : (byte : ℕ) (xs ys : List ℕ) → Lacks byte (xs ++ ys) → Lacks byte ys
lacks_behind byte [] ys h = h
lacks_behind byte (x ∷ xs) ys h = lacks_behind byte xs ys h.1

pub word_found : (word : List ℕ) (r : Rest) (p : Unit × Rest) → required (word_of word) r ≡ Ok p → Before r (line word) p.1
word_found word r p e =
    let f = required_found (word_of word) r p e in
    let w = where_some (same f.text word) tt p.0 f.says in
    before_same r p.1 (line f.text) (line word) (ap line (same-eq f.text word w.0)) (before_line r f.text p.1 f.found)

-- parents that are read behind others
pub record ParentsFound (names : List (List ℕ)) (n : ℕ) (r : Rest) (all : List (List ℕ)) (rest : Rest) : Type 0 where
  pub new : List (List ℕ)
  pub is : all ≡ names ++ new
  pub before : Before r (flat_map parent_text new) rest
  pub few : length new ≤ n
  pub names_lack : AllByRecursion (Lacks 10) new

no_more : (names : List (List ℕ)) (n : ℕ) (r : Rest) (p : List (List ℕ) × Rest) → (names, r) ≡ p → ParentsFound names n r p.0 p.1
no_more names n r p e =
    let P : List (List ℕ) × Rest → Type 0 = λ q. ParentsFound names n r q.0 q.1 in
    subst P e (record { new = []; is = sym (append-nil names); before = before_none r r refl; few = omega arith; names_lack = tt })

pub parents_found : (n : ℕ) (names : List (List ℕ)) (r : Rest) (p : List (List ℕ) × Rest) → parents_from n names r ≡ Ok p → ParentsFound names n r p.0 p.1
parents_found zero names r p e = no_more names zero r p (ok_is (names, r) p e)
parents_found (suc n) names r p e =
    let b = bound (optional parent_of r) (λ q. more names q.0 q.1 (λ all rest. parents_from n all rest)) p e in
    by b.value.0 b.value.1 b.is b.gives (λ x. parents_found n (names ++ x ∷ []))
  where
    by : (o : Option (List ℕ)) (mid : Rest) → optional parent_of r ≡ Ok (o, mid) → more names o mid (λ all rest. parents_from n all rest) ≡ Ok p →
        ((x : List ℕ) (r : Rest) (p : List (List ℕ) × Rest) → parents_from n (names ++ x ∷ []) r ≡ Ok p → ParentsFound (names ++ x ∷ []) n r p.0 p.1) → ParentsFound names (suc n) r p.0 p.1
    by None mid k e next = no_more names (suc n) r p (ap (λ q. (names, q)) (optional_none parent_of r mid k) ∙ ok_is (names, mid) p e)
    by (Some x) mid k e next =
        let f = optional_some parent_of r x mid k in
        let text = behind_some (codes "parent ") f.text x f.says in
        let g = next x mid p e in
        let few = g.few in
        record {
          new = x ∷ g.new;
          is = g.is ∙ append_assoc names (x ∷ []) g.new;
          before = before_both r mid p.1 (parent_text x) (flat_map parent_text g.new) (before_same r mid (line f.text) (parent_text x) (ap line text) (before_line r f.text mid f.found)) g.before;
          few = omega (arith, few);
          names_lack = (lacks_behind 10 (codes "parent ") x (subst (Lacks 10) text f.found.lacks), g.names_lack);
        }

-- ---- user and date

no_nul_no_lf : (user : List ℕ) → list_any (λ b. b == 0) user ≡ false → Lacks 10 user → list_any (λ b. b == 0 || b == 10) user ≡ false
no_nul_no_lf [] h l = refl
no_nul_no_lf (b ∷ user) h l = by (b == 0) (b == 10) (list_any (λ b. b == 0) user) h l.0 (λ k. no_nul_no_lf user k l.1)
  where
    by : (s t u : Bool) → (s || u) ≡ false → t ≡ false → (u ≡ false → list_any (λ b. b == 0 || b == 10) user ≡ false) → ((s || t) || list_any (λ b. b == 0 || b == 10) user) ≡ false
    by true t u a b more = cc
    by false true u a b more = cc
    by false false u a b more = more a

pub record UserFound (r : Rest) (user : List ℕ) (rest : Rest) : Type 0 where
  pub before : Before r (line (codes "user " ++ user)) rest
  pub utf8 : IsUtf8 user
  pub least : 1 ≤ length user
  pub most : length user ≤ 1024
  pub in_line : list_any (λ b. b == 0 || b == 10) user ≡ false

pub user_found : (r : Rest) (p : List ℕ × Rest) → required user_of r ≡ Ok p → UserFound r p.0 p.1
user_found r p e =
    let f = required_found user_of r p e in
    let a = and_then_some (behind (codes "user ") f.text) (λ user. where_true (is_user user) user) p.0 f.says in
    let w = where_some (is_user a.value) a.value p.0 a.gives in
    let text : f.text ≡ codes "user " ++ p.0 = behind_some (codes "user ") f.text a.value a.is ∙ ap (λ t. codes "user " ++ t) w.1 in
    let is : is_user p.0 ≡ true = ap is_user (sym w.1) ∙ w.0 in
    let x = both (nat_le 1 (length p.0) && nat_le (length p.0) most_user && not (list_any (λ b. b == 0) p.0)) (is_utf8 p.0) is in
    let y = both (nat_le 1 (length p.0) && nat_le (length p.0) most_user) (not (list_any (λ b. b == 0) p.0)) x.0 in
    let z = both (nat_le 1 (length p.0)) (nat_le (length p.0) most_user) y.0 in
    record {
      before = before_same r p.1 (line f.text) (line (codes "user " ++ p.0)) (ap line text) (before_line r f.text p.1 f.found);
      utf8 = IsUtf8-from_is_utf8 p.0 x.1;
      least = leb-true 1 (length p.0) z.0;
      most = leb-true (length p.0) most_user z.1;
      in_line = no_nul_no_lf p.0 (not_true (list_any (λ b. b == 0) p.0) y.1) (lacks_behind 10 (codes "user ") p.0 (subst (Lacks 10) text f.found.lacks));
    }

-- seconds and offset as they are written, within their bounds
pub record DateSaid (text : List ℕ) (w : When) : Type 0 where
  pub is : text ≡ date_text w.seconds w.offset []
  pub seconds : unsigned_abs w.seconds ≤ most_seconds
  pub offset : unsigned_abs w.offset ≤ most_offset

numbers_said : (a b : List ℕ) (s o : Option ℤ) (extras : List ℕ) (w : When) → number_within most_seconds a ≡ s → number_within most_offset b ≡ o → when_of s o extras ≡ Some w → DateSaid (a ++ 32 ∷ b) w
numbers_said a b None o extras w f g e = cc
numbers_said a b (Some s) None extras w f g e = cc
numbers_said a b (Some s) (Some o) extras w f g e =
    let x = number_found most_seconds a s f in
    let y = number_found most_offset b o g in
    let made : When = record { seconds = s; offset = o; extras = extras } in
    subst (DateSaid (a ++ 32 ∷ b)) (some_is made w e) (record {
      is = ap (λ t. t ++ 32 ∷ b) x.0 ∙ ap (λ t. signed_decimal s ++ 32 ∷ t) (y.0 ∙ sym (append-nil (signed_decimal o)));
      seconds = x.1;
      offset = y.1;
    })

extras_are : (s o : Option ℤ) (extras : List ℕ) (w : When) → when_of s o extras ≡ Some w → extras ≡ w.extras
extras_are None o extras w e = cc
extras_are (Some s) None extras w e = cc
extras_are (Some s) (Some o) extras w e = let made : When = record { seconds = s; offset = o; extras = extras } in ap (λ (v : When). v.extras) (some_is made w e)

date_said : (text : List ℕ) (w : When) → when_at text ≡ Some w → (length w.extras == 0) ≡ true → DateSaid text w
unfolding when_at
date_said text w e none = first (split 32 text) refl e
  where
    second : (p : List ℕ × List ℕ) (z : Option (List ℕ × List ℕ)) → split 32 p.1 ≡ z → when_behind (number_within most_seconds p.0) (offset_and_extras p.1 z) ≡ Some w → DateSaid (p.0 ++ 32 ∷ p.1) w
    second p None h k = numbers_said p.0 p.1 (number_within most_seconds p.0) (number_within most_offset p.1) [] w refl refl k
    second p (Some q) h k = by (length q.1 == 0) refl k
      where
        by : (t : Bool) → (length q.1 == 0) ≡ t → when_behind (number_within most_seconds p.0) (if t then None else Some q) ≡ Some w → DateSaid (p.0 ++ 32 ∷ p.1) w
        by true a k = cc
        by false a k =
            let extras = extras_are (number_within most_seconds p.0) (number_within most_offset q.0) q.1 w k in
            let yes : (length q.1 == 0) ≡ true = ap (λ x. length x == 0) extras ∙ none in
            absurd (contradiction (length q.1 == 0) a yes)

    first : (s : Option (List ℕ × List ℕ)) → split 32 text ≡ s → when_parts s ≡ Some w → DateSaid text w
    first None h k = cc
    first (Some p) h k = subst (λ t. DateSaid t w) (sym (split_parts 32 text p h).0) (second p (split 32 p.1) refl k)

pub record DateFound (r : Rest) (w : When) (rest : Rest) : Type 0 where
  pub before : Before r (line (codes "date " ++ date_text w.seconds w.offset [])) rest
  pub seconds : unsigned_abs w.seconds ≤ most_seconds
  pub offset : unsigned_abs w.offset ≤ most_offset

pub date_line_found : (r : Rest) (p : When × Rest) → required date_of r ≡ Ok p → DateFound r p.0 p.1
date_line_found r p e =
    let f = required_found date_of r p e in
    let a = and_then_some (behind (codes "date ") f.text) (λ text. and_then (when_at text) (λ w. where_true (length w.extras == 0) w)) p.0 f.says in
    let b = and_then_some (when_at a.value) (λ w. where_true (length w.extras == 0) w) p.0 a.gives in
    let w = where_some (length b.value.extras == 0) b.value p.0 b.gives in
    let said = subst (DateSaid a.value) w.1 (date_said a.value b.value b.is w.0) in
    let text : f.text ≡ codes "date " ++ date_text p.0.seconds p.0.offset [] = behind_some (codes "date ") f.text a.value a.is ∙ ap (λ t. codes "date " ++ t) said.is in
    record {
      before = before_same r p.1 (line f.text) (line (codes "date " ++ date_text p.0.seconds p.0.offset [])) (ap line text) (before_line r f.text p.1 f.found);
      seconds = said.seconds;
      offset = said.offset;
    }

-- ---- phase and bookmark

phase_said : (name : List ℕ) (phase : Phase) → phase_named name ≡ Some phase → name ≡ phase_name phase
phase_said name phase e = by (same name (phase_name Public)) (same name (phase_name Draft)) refl refl e
  where
    named : (p : Phase) → same name (phase_name p) ≡ true → p ≡ phase → name ≡ phase_name phase
    named p h k = same-eq name (phase_name p) h ∙ ap phase_name k

    by : (s t : Bool) → same name (phase_name Public) ≡ s → same name (phase_name Draft) ≡ t → (if s then Some Public else if t then Some Draft else where_true (same name (phase_name Secret)) Secret) ≡ Some phase → name ≡ phase_name phase
    by true t a b e = named Public a (some_is Public phase e)
    by false true a b e = named Draft b (some_is Draft phase e)
    by false false a b e = let w = where_some (same name (phase_name Secret)) Secret phase e in named Secret w.0 w.1

pub phase_found : (r : Rest) (o : Option Phase) (rest : Rest) → optional phase_of r ≡ Ok (o, rest) → Before r (phase_text (is_some o) (unwrap_or o Draft)) rest
phase_found r None rest e = before_none r rest (optional_none phase_of r rest e)
phase_found r (Some phase) rest e =
    let f = optional_some phase_of r phase rest e in
    let a = and_then_some (behind (codes "phase ") f.text) phase_named phase f.says in
    let text : f.text ≡ codes "phase " ++ phase_name phase = behind_some (codes "phase ") f.text a.value a.is ∙ ap (λ t. codes "phase " ++ t) (phase_said a.value phase a.gives) in
    before_same r rest (line f.text) (phase_text true phase) (ap line text) (before_line r f.text rest f.found)

pub record BookmarkFound (r : Rest) (o : Option (List ℕ)) (rest : Rest) : Type 0 where
  pub before : Before r (bookmark_text o) rest
  pub valid : IfSome o (λ name. is_mark_name name ≡ true)

pub bookmark_found : (r : Rest) (o : Option (List ℕ)) (rest : Rest) → optional bookmark_of r ≡ Ok (o, rest) → BookmarkFound r o rest
bookmark_found r None rest e = record { before = before_none r rest (optional_none bookmark_of r rest e); valid = tt }
bookmark_found r (Some name) rest e =
    let f = optional_some bookmark_of r name rest e in
    let a = and_then_some (behind (codes "bookmark ") f.text) (λ name. where_true (is_mark_name name) name) name f.says in
    let w = where_some (is_mark_name a.value) a.value name a.gives in
    let text : f.text ≡ codes "bookmark " ++ name = behind_some (codes "bookmark ") f.text a.value a.is ∙ ap (λ t. codes "bookmark " ++ t) w.1 in
    record { before = before_same r rest (line f.text) (bookmark_text (Some name)) (ap line text) (before_line r f.text rest f.found); valid = ap is_mark_name (sym w.1) ∙ w.0 }

-- the line of a branch, where there is one, and whether it is that of `default`
pub record BranchFound (r : Rest) (o : Option (List ℕ)) (rest : Rest) : Type 0 where
  pub default : Bool
  pub before : Before r (branch_text default o) rest
  pub valid : IfSome o (λ name. is_branch_name name ≡ true)

branch_said : (r : Rest) (name : List ℕ) (o : Option (List ℕ)) (rest : Rest) → Before r (line (codes "branch " ++ name)) rest
    → (if same name (codes "default") then Some None else where_true (is_branch_name name) (Some name)) ≡ Some o → BranchFound r o rest
branch_said r name o rest before e = by (same name (codes "default")) refl e
  where
    by : (t : Bool) → same name (codes "default") ≡ t → (if t then Some None else where_true (is_branch_name name) (Some name)) ≡ Some o → BranchFound r o rest
    by true a k =
        let none : BranchFound r None rest = record { default = true; before = before_same r rest _ _ (ap (λ n. line (codes "branch " ++ n)) (same-eq name (codes "default") a)) before; valid = tt } in
        subst (λ o. BranchFound r o rest) (some_is None o k) none
    by false a k =
        let w = where_some (is_branch_name name) (Some name) o k in
        let named : BranchFound r (Some name) rest = record { default = false; before = before; valid = w.0 } in
        subst (λ o. BranchFound r o rest) w.1 named

pub branch_found : (r : Rest) (p : Option (List ℕ) × Rest) → branch_from r ≡ Ok p → BranchFound r p.0 p.1
branch_found r p e =
    let b = bound (optional branch_of r) (λ b. Ok (unwrap_or b.0 None, b.1)) p e in
    let P : Option (List ℕ) × Rest → Type 0 = λ q. BranchFound r q.0 q.1 in
    subst P (ok_is (unwrap_or b.value.0 None, b.value.1) p b.gives) (by b.value.0 b.value.1 b.is)
  where
    by : (o : Option (Option (List ℕ))) (rest : Rest) → optional branch_of r ≡ Ok (o, rest) → BranchFound r (unwrap_or o None) rest
    by None rest k = record { default = false; before = before_none r rest (optional_none branch_of r rest k); valid = tt }
    by (Some o) rest k =
        let f = optional_some branch_of r o rest k in
        let a = and_then_some (behind (codes "branch ") f.text) (λ name. if same name (codes "default") then Some None else where_true (is_branch_name name) (Some name)) o f.says in
        branch_said r a.value o rest (before_same r rest (line f.text) _ (ap line (behind_some (codes "branch ") f.text a.value a.is)) (before_line r f.text rest f.found)) a.gives

-- ---- the description

pub record DescriptionFound (r : Rest) (text : List ℕ) (rest : Rest) : Type 0 where
  pub before : Before r (description_text text) rest
  pub utf8 : IsUtf8 text
  pub most : length text ≤ 65536

length_said : (text : List ℕ) (n : ℕ) → length_of text ≡ Some n → (text ≡ codes "desc " ++ decimal n) × (n ≤ most_description)
length_said text n e =
    let a = and_then_some (behind (codes "desc ") text) (λ t. and_then (number_up_to most_description t) (λ n. where_true (nat_le n most_description) n)) n e in
    let b = and_then_some (number_up_to most_description a.value) (λ n. where_true (nat_le n most_description) n) n a.gives in
    let w = where_some (nat_le b.value most_description) b.value n b.gives in
    let small = leb-true b.value most_description w.0 in
    let same_number = w.1 in
    let digits = count_found most_description a.value b.value (omega arith) b.is small in
    (behind_some (codes "desc ") text a.value a.is ∙ ap (λ t. codes "desc " ++ t) (digits ∙ ap decimal w.1), omega (arith, small, same_number))

text_said : (at : ℕ) (text : List ℕ) (r : Rest) (p : List ℕ × Rest) → text_at at text r ≡ Ok p → ((text, r) ≡ p) × (is_utf8 text ≡ true)
text_said at text r p e = by (is_utf8 text) refl e
  where
    by : (t : Bool) → is_utf8 text ≡ t → (if t then Ok (text, r) else Err (bad_at at)) ≡ Ok p → ((text, r) ≡ p) × (is_utf8 text ≡ true)
    by true h k = (ok_is (text, r) p k, h)
    by false h k = cc

pub description_found : (r : Rest) (p : List ℕ × Rest) → description_from r ≡ Ok p → DescriptionFound r p.0 p.1
description_found r p e =
    let a = bound (required length_of r) (λ n. counted n.0 n.1 >>= λ text. text_at (place n.1) text.0 text.1) p e in
    let n = a.value in
    let b = bound (counted n.0 n.1) (λ text. text_at (place n.1) text.0 text.1) p a.gives in
    let t = b.value in
    let f = required_found length_of r n a.is in
    let said = length_said f.text n.0 f.says in
    let body = counted_found n.0 n.1 t b.is in
    let last = text_said (place n.1) t.0 t.1 p b.gives in
    let text : f.text ≡ codes "desc " ++ decimal (length t.0) = said.0 ∙ ap (λ k. codes "desc " ++ decimal k) (sym body.size) in
    let first : Before r (line (codes "desc " ++ decimal (length t.0))) n.1 = before_same r n.1 (line f.text) _ (ap line text) (before_line r f.text n.1 f.found) in
    let second : Before n.1 (line t.0) t.1 = record { is = body.is ∙ sym (line_then t.0 t.1.bytes); whole = body.whole } in
    let size = body.size in
    let small = said.1 in
    let P : List ℕ × Rest → Type 0 = λ q. DescriptionFound r q.0 q.1 in
    subst P last.0 (record {
      before = before_both r n.1 t.1 (line (codes "desc " ++ decimal (length t.0))) (line t.0) first second;
      utf8 = IsUtf8-from_is_utf8 t.0 last.1;
      most = omega (arith, size, small);
    })

-- ---- the files

-- files that a record can have
pub record AreFiles (files : List NewFile) : Type 0 where
  pub few : length files ≤ 20000
  pub tracked : list_all is_tracked (new_paths files) ≡ true
  pub tree : IsTree files
  pub sources : AllByRecursion (λ (f : NewFile). IfSome f.from (λ path. is_source path ≡ true)) files
  pub small : AllByRecursion (λ (f : NewFile). length f.body ≤ 16777216) files

all_tracked : (paths : List (List ℕ)) (path : List ℕ) → list_all is_tracked paths ≡ true → is_tracked path ≡ true → list_all is_tracked (paths ++ path ∷ []) ≡ true
all_tracked [] path h k = ap (λ b. b && true) k
all_tracked (p ∷ paths) path h k =
    let b = both (is_tracked p) (list_all is_tracked paths) h in
    ap (λ t. t && list_all is_tracked (paths ++ path ∷ [])) b.0 ∙ all_tracked paths path b.1 k

no_files : AreFiles []
no_files = record { few = omega arith; tracked = refl; tree = record { ordered = refl; apart = refl }; sources = tt; small = tt }

files_with : (files : List NewFile) (r : Rest) (f : NewFile) (rest : Rest) → AreFiles files → FileFound files r f rest → AreFiles (files ++ f ∷ [])
files_with files r f rest h g =
    let few = g.few in
    let count = length_push files f in
    record {
      few = omega (arith, few, count);
      tracked = ap (list_all is_tracked) (paths-push files f) ∙ all_tracked (new_paths files) f.path h.tracked g.tracked;
      tree = tree_with files f g.fits;
      sources = all-append (λ (f : NewFile). IfSome f.from (λ path. is_source path ≡ true)) files (f ∷ []) h.sources (g.source, tt);
      small = all-append (λ (f : NewFile). length f.body ≤ 16777216) files (f ∷ []) h.small (g.small, tt);
    }

-- files that are read behind others
pub record FilesFound (files : List NewFile) (r : Rest) (all : List NewFile) (rest : Rest) : Type 0 where
  pub new : List NewFile
  pub is : all ≡ files ++ new
  pub before : Before r (flat_map file_text new) rest
  pub are : AreFiles all

pub files_found : (n : ℕ) (files : List NewFile) (r : Rest) (p : List NewFile × Rest) → AreFiles files → files_from n files r ≡ Ok p → FilesFound files r p.0 p.1
files_found zero files r p h e = cc
files_found (suc n) files r p h e =
    let b = bound (next_file files r) (λ q. more files q.0 q.1 (λ all rest. files_from n all rest)) p e in
    by b.value.0 b.value.1 b.is b.gives (λ f. files_found n (files ++ f ∷ []))
  where
    by : (o : Option NewFile) (mid : Rest) → next_file files r ≡ Ok (o, mid) → more files o mid (λ all rest. files_from n all rest) ≡ Ok p →
        ((f : NewFile) (r : Rest) (p : List NewFile × Rest) → AreFiles (files ++ f ∷ []) → files_from n (files ++ f ∷ []) r ≡ Ok p → FilesFound (files ++ f ∷ []) r p.0 p.1) → FilesFound files r p.0 p.1
    by None mid k e next =
        let P : List NewFile × Rest → Type 0 = λ q. FilesFound files r q.0 q.1 in
        subst P (ok_is (files, mid) p e) (record { new = []; is = sym (append-nil files); before = before_none r mid (file_none files r mid k); are = h })
    by (Some f) mid k e next =
        let found = file_found files r mid f k in
        let g = next f mid p (files_with files r f mid h found) e in
        record {
          new = f ∷ g.new;
          is = g.is ∙ append_assoc files (f ∷ []) g.new;
          before = before_both r mid p.1 (file_text f) (flat_map file_text g.new) (record { is = found.is; whole = found.whole }) g.before;
          are = g.are;
        }

-- ---- the end

pub none_behind : (r : Rest) → nothing_behind r ≡ Ok tt → (r.bytes ≡ []) × (r.whole ≤ most_input)
none_behind r e = by (length r.bytes == 0) (nat_le r.whole most_input) refl refl e
  where
    by : (s t : Bool) → (length r.bytes == 0) ≡ s → nat_le r.whole most_input ≡ t → ◌≡◌ {A = Result (Unit {0}) InputFault} (if s then (if t then Ok tt else Err (Limit Record)) else Err (bad_at (place r))) (Ok tt) → (r.bytes ≡ []) × (r.whole ≤ most_input)
    by true true a b k = (nil_from_length r.bytes (number_is (length r.bytes) 0 a), leb-true r.whole most_input b)
    by true false a b k = cc
    by false t a b k = cc

-- ---- the whole

-- what a head says, up to its texts
abbrev head_text : Bool → Head → List ℕ
head_text default h =
    line (codes "commit") ++ (flat_map parent_text h.parents ++ (line (codes "user " ++ h.user) ++ (line (codes "date " ++ date_text h.date.seconds h.date.offset [])
    ++ (phase_text (is_some h.phase) (unwrap_or h.phase Draft) ++ (bookmark_text h.bookmark ++ branch_text default h.branch)))))

pub record HeadFound (r : Rest) (h : Head) (rest : Rest) : Type 0 where
  pub default : Bool
  pub before : Before r (head_text default h) rest
  pub parents : length h.parents ≤ 2
  pub names : AllByRecursion (Lacks 10) h.parents
  pub user_utf8 : IsUtf8 h.user
  pub user_least : 1 ≤ length h.user
  pub user_most : length h.user ≤ 1024
  pub user_line : list_any (λ b. b == 0 || b == 10) h.user ≡ false
  pub seconds : unsigned_abs h.date.seconds ≤ most_seconds
  pub offset : unsigned_abs h.date.offset ≤ most_offset
  pub bookmark : IfSome h.bookmark (λ name. is_mark_name name ≡ true)
  pub branch : IfSome h.branch (λ name. is_branch_name name ≡ true)

-- the parts of a head, one after another
record HeadParts (r : Rest) (h : Head) (rest : Rest) : Type 0 where
  pub r1 : Rest
  pub r2 : Rest
  pub r3 : Rest
  pub r4 : Rest
  pub r5 : Rest
  pub r6 : Rest
  pub begin : required (word_of (codes "commit")) r ≡ Ok (tt, r1)
  pub parents : parents_from 2 [] r1 ≡ Ok (h.parents, r2)
  pub user : required user_of r2 ≡ Ok (h.user, r3)
  pub date : required date_of r3 ≡ Ok (h.date, r4)
  pub phase : optional phase_of r4 ≡ Ok (h.phase, r5)
  pub bookmark : optional bookmark_of r5 ≡ Ok (h.bookmark, r6)
  pub branch : branch_from r6 ≡ Ok (h.branch, rest)

head_parts : (r : Rest) (p : Head × Rest) → head_from r ≡ Ok p → HeadParts r p.0 p.1
head_parts r p e =
    let a = bound (required (word_of (codes "commit")) r) _ p e in
    let b = bound (parents_from 2 [] a.value.1) _ p a.gives in
    let c = bound (required user_of b.value.1) _ p b.gives in
    let d = bound (required date_of c.value.1) _ p c.gives in
    let f = bound (optional phase_of d.value.1) _ p d.gives in
    let g = bound (optional bookmark_of f.value.1) _ p f.gives in
    let i = bound (branch_from g.value.1) _ p g.gives in
    let made : Head = record { parents = b.value.0; user = c.value.0; date = d.value.0; phase = f.value.0; bookmark = g.value.0; branch = i.value.0 } in
    let P : Head × Rest → Type 0 = λ q. HeadParts r q.0 q.1 in
    subst P (ok_is (made, i.value.1) p i.gives) (record {
      r1 = a.value.1;
      r2 = b.value.1;
      r3 = c.value.1;
      r4 = d.value.1;
      r5 = f.value.1;
      r6 = g.value.1;
      begin = a.is;
      parents = b.is;
      user = c.is;
      date = d.is;
      phase = f.is;
      bookmark = g.is;
      branch = i.is;
    })

pub head_found : (r : Rest) (p : Head × Rest) → head_from r ≡ Ok p → HeadFound r p.0 p.1
head_found r p e =
    let h = p.0 in
    let k = head_parts r p e in
    let parents = parents_found 2 [] k.r1 (h.parents, k.r2) k.parents in
    let user = user_found k.r2 (h.user, k.r3) k.user in
    let date = date_line_found k.r3 (h.date, k.r4) k.date in
    let phase = phase_found k.r4 h.phase k.r5 k.phase in
    let bookmark = bookmark_found k.r5 h.bookmark k.r6 k.bookmark in
    let branch = branch_found k.r6 (h.branch, p.1) k.branch in
    let from_bookmark = before_both k.r5 k.r6 p.1 _ _ bookmark.before branch.before in
    let from_phase = before_both k.r4 k.r5 p.1 _ _ phase from_bookmark in
    let from_date = before_both k.r3 k.r4 p.1 _ _ date.before from_phase in
    let from_user = before_both k.r2 k.r3 p.1 _ _ user.before from_date in
    let names : Before k.r1 (flat_map parent_text h.parents) k.r2 = before_same k.r1 k.r2 _ _ (ap (flat_map parent_text) (sym parents.is)) parents.before in
    let from_parents = before_both k.r1 k.r2 p.1 _ _ names from_user in
    let few = parents.few in
    let count = ap length parents.is in
    record {
      default = branch.default;
      before = before_both r k.r1 p.1 _ _ (word_found (codes "commit") r (tt, k.r1) k.begin) from_parents;
      parents = omega (arith, few, count);
      names = subst (AllByRecursion (Lacks 10)) (sym parents.is) parents.names_lack;
      user_utf8 = user.utf8;
      user_least = user.least;
      user_most = user.most;
      user_line = user.in_line;
      seconds = date.seconds;
      offset = date.offset;
      bookmark = bookmark.valid;
      branch = branch.valid;
    }

-- the text of a head and what follows, as the text of a record with something behind it
head_then : (default : Bool) (h : Head) (d : List ℕ) (files : List NewFile) (behind : List ℕ) →
    head_text default h ++ (description_text d ++ (flat_map file_text files ++ (line (codes "end") ++ behind))) ≡ record_text (record { draft = is_some h.phase; default = default }) (change_with h d files) ++ behind
head_then default h d files behind =
    let rest = description_text d ++ (flat_map file_text files ++ (line (codes "end") ++ behind)) in
    let marks = bookmark_text h.bookmark ++ branch_text default h.branch in
    let phase = phase_text (is_some h.phase) (unwrap_or h.phase Draft) in
    let date = line (codes "date " ++ date_text h.date.seconds h.date.offset []) in
    let user = line (codes "user " ++ h.user) in
    let names = flat_map parent_text h.parents in
    append_assoc (line (codes "commit")) (names ++ (user ++ (date ++ (phase ++ marks)))) rest
    ∙ ap (λ t. line (codes "commit") ++ t) (append_assoc names (user ++ (date ++ (phase ++ marks))) rest
    ∙ ap (λ t. names ++ t) (append_assoc user (date ++ (phase ++ marks)) rest
    ∙ ap (λ t. user ++ t) (append_assoc date (phase ++ marks) rest
    ∙ ap (λ t. date ++ t) (append_assoc phase marks rest
    ∙ ap (λ t. phase ++ t) (append_assoc (bookmark_text h.bookmark) (branch_text default h.branch) rest)))))
    ∙ sym (record_then (record { draft = is_some h.phase; default = default }) (change_with h d files) behind)

-- the parts of a record, one after another
record RecordParts (r : Rest) (c : NewChange) (rest : Rest) : Type 0 where
  pub head : Head
  pub description : List ℕ
  pub files : List NewFile
  pub r1 : Rest
  pub r2 : Rest
  pub r3 : Rest
  pub head_is : head_from r ≡ Ok (head, r1)
  pub description_is : description_from r1 ≡ Ok (description, r2)
  pub files_are : files_from (length r2.bytes) [] r2 ≡ Ok (files, r3)
  pub end_is : required (word_of (codes "end")) r3 ≡ Ok (tt, rest)
  pub change : change_with head description files ≡ c

record_parts : (r : Rest) (p : NewChange × Rest) → record_from r ≡ Ok p → RecordParts r p.0 p.1
record_parts r p e =
    let a = bound (head_from r) _ p e in
    let b = bound (description_from a.value.1) _ p a.gives in
    let d = bound (files_from (length b.value.1.bytes) [] b.value.1) _ p b.gives in
    let f = bound (required (word_of (codes "end")) d.value.1) _ p d.gives in
    let made = change_with a.value.0 b.value.0 d.value.0 in
    let P : NewChange × Rest → Type 0 = λ q. RecordParts r q.0 q.1 in
    subst P (ok_is (made, f.value.1) p f.gives) (record {
      head = a.value.0;
      description = b.value.0;
      files = d.value.0;
      r1 = a.value.1;
      r2 = b.value.1;
      r3 = d.value.1;
      head_is = a.is;
      description_is = b.is;
      files_are = d.is;
      end_is = f.is;
      change = refl;
    })

pub record_before : (r : Rest) (p : NewChange × Rest) → record_from r ≡ Ok p → IsRecordBefore r p.0 p.1
record_before r p e =
    let k = record_parts r p e in
    let h = k.head in
    let head = head_found r (h, k.r1) k.head_is in
    let description = description_found k.r1 (k.description, k.r2) k.description_is in
    let files = files_found (length k.r2.bytes) [] k.r2 (k.files, k.r3) no_files k.files_are in
    let tail = word_found (codes "end") k.r3 (tt, p.1) k.end_is in
    let texts : Before k.r2 (flat_map file_text k.files) k.r3 = before_same k.r2 k.r3 _ _ (ap (flat_map file_text) (sym files.is)) files.before in
    let says : Wording = record { draft = is_some h.phase; default = head.default } in
    let is : r.bytes ≡ record_text says (change_with h k.description k.files) ++ p.1.bytes =
    head.before.is ∙ ap (λ t. head_text head.default h ++ t) (description.before.is ∙ ap (λ t. description_text k.description ++ t) (texts.is ∙ ap (λ t. flat_map file_text k.files ++ t) tail.is))
    ∙ head_then head.default h k.description k.files p.1.bytes in
    let valid : IsNewChange (change_with h k.description k.files) = record {
      parents = head.parents;
      names = head.names;
      user_utf8 = head.user_utf8;
      user_least = head.user_least;
      user_most = head.user_most;
      user_line = head.user_line;
      seconds = head.seconds;
      offset = head.offset;
      bookmark = head.bookmark;
      branch = head.branch;
      description = description.utf8;
      description_most = description.most;
      count = files.are.few;
      paths = files.are.tracked;
      ordered = files.are.tree.ordered;
      apart = files.are.tree.apart;
      sources = files.are.sources;
      bodies = files.are.small;
    } in
    let whole : p.1.whole ≡ r.whole = tail.whole ∙ texts.whole ∙ description.before.whole ∙ head.before.whole in
    subst (λ (c : NewChange). IsRecordBefore r c p.1) k.change (record { says = says; text = is; valid = valid; whole = whole })

pub record_found : (bytes : List ℕ) (c : NewChange) → read_record bytes ≡ Ok c → IsRecord bytes c
record_found bytes c e =
    let a = bound (record_from (start_of bytes)) _ c e in
    let b = bound (nothing_behind a.value.1) (λ _. Ok a.value.0) c a.gives in
    let found = record_before (start_of bytes) a.value a.is in
    let none = none_behind a.value.1 b.is in
    let is : looked_at bytes ≡ record_text found.says a.value.0 = found.text ∙ ap (λ t. record_text found.says a.value.0 ++ t) none.0 ∙ append-nil (record_text found.says a.value.0) in
    let room : length (looked_at bytes) ≤ most_input = subst (λ n. n ≤ most_input) found.whole none.1 in
    let few = looked-length bytes room in
    let whole : IsRecord (looked_at bytes) a.value.0 = record { says = found.says; text = is; valid = found.valid; size = room } in
    subst (λ (d : NewChange). IsRecord bytes d) (ok_is a.value.0 c b.gives) (subst (λ b. IsRecord b a.value.0) (looked-whole bytes (omega (arith, few))) whole)
