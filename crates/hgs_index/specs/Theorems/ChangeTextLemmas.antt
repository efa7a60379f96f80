-- Changesets and their texts.
use Rattle.std.proofs.Common.{◌≡◌, ℕ, ◌<◌, ◌≤◌, ◌^◌, Bool, true, false, cond, List, [], ◌∷◌, ◌++◌, length, Option, Some, None, Ok, Err, ℤ, refl, sym, ◌∙◌, ap, subst, arith, unsigned_abs, ◌&&◌, append_assoc, lit<, true≢false}
use Rattle.std.specs.Prelude.{◌==◌}
use Rattle.std.specs.List.{AllByRecursion}
use Rattle.std.specs.Fmt.{signed_decimal}
use Rattle.std.specs.Str.{is_utf8}
use Rattle.std.proofs.lemmas.Bool.{false_from_ne_true}
use Rattle.std.proofs.lemmas.List.{append-nil}
use Rattle.hgs_bytes.specs.Text.{split, line, lines, Lacks, ascends}
use Rattle.hgs_bytes.specs.Theorems.TextLemmas.{split_over, split_parts, lacks-append, number_is}
use Rattle.hgs_index.specs.declared.texts.ChangeFault.TheVariants.{Files, Utf8}
use Rattle.hgs_index.specs.Hex.{hex, node_at}
use Rattle.hgs_index.specs.ChangeText.{Change, When, IsChange, IsLineText, change_text, date_text, extras_text, most_seconds, most_offset, number_within, when_at, when_of, when_parts, when_behind, offset_and_extras, split_at_blank, header_lines, header_of, change_with, change_of, change_parts, read_change}
use Rattle.hgs_index.specs.Theorems.HexText.{hex_lacks, node_back, node_found}
use Rattle.hgs_index.specs.Theorems.NumberText.{number_lacks, number_back, number_found}
use Rattle.hgs_index.specs.Theorems.HeaderText.{split_lacks, header_back, blank_back, blank_parts, blank_alone, NoBlank, AllLack, joined_lines, lines_lack, lines_some, line_then, no_blank_behind}

-- ---- what is printed is read again

near_seconds : (z : ℤ) → unsigned_abs z ≤ most_seconds → unsigned_abs z < 2 ^ 62
near_seconds z h = omega (arith, h)

near_offset : (z : ℤ) → unsigned_abs z ≤ most_offset → unsigned_abs z < 2 ^ 62
near_offset z h = omega (arith, h)

pub some_bytes : (b : ℕ) (xs : List ℕ) → (length (b ∷ xs) == 0) ≡ false
some_bytes b xs = false_from_ne_true (length (b ∷ xs) == 0) (λ t. let e = number_is (length (b ∷ xs)) 0 t in absurd (omega (arith, e)))

zone_back : (offset : ℤ) (extras : List ℕ) → unsigned_abs offset ≤ most_offset →
    offset_and_extras (signed_decimal offset ++ extras_text extras) (split 32 (signed_decimal offset ++ extras_text extras)) ≡ Some (signed_decimal offset, extras)
zone_back offset [] h =
    let all = append-nil (signed_decimal offset) in
    ap (λ t. offset_and_extras t (split 32 t)) all
    ∙ ap (offset_and_extras (signed_decimal offset)) (split_lacks 32 (signed_decimal offset) (number_lacks 32 offset (lit< tt) (near_offset offset h)))
zone_back offset (b ∷ extras) h =
    ap (offset_and_extras (signed_decimal offset ++ 32 ∷ b ∷ extras)) (split_over 32 (signed_decimal offset) (b ∷ extras) (number_lacks 32 offset (lit< tt) (near_offset offset h)))
    ∙ ap (λ t. cond t None (Some (signed_decimal offset, b ∷ extras))) (some_bytes b extras)

date_back : (seconds offset : ℤ) (extras : List ℕ) → unsigned_abs seconds ≤ most_seconds → unsigned_abs offset ≤ most_offset →
    when_at (date_text seconds offset extras) ≡ Some (record { seconds = seconds; offset = offset; extras = extras })
unfolding when_at
date_back seconds offset extras h k =
    let rest = signed_decimal offset ++ extras_text extras in
    ap when_parts (split_over 32 (signed_decimal seconds) rest (number_lacks 32 seconds (lit< tt) (near_seconds seconds h)))
    ∙ ap (when_behind (number_within most_seconds (signed_decimal seconds))) (zone_back offset extras k)
    ∙ ap (λ s. when_of s (number_within most_offset (signed_decimal offset)) extras) (number_back most_seconds seconds (lit< tt) h)
    ∙ ap (λ o. when_of (Some seconds) o extras) (number_back most_offset offset (lit< tt) k)

extras_lack : (extras : List ℕ) → Lacks 10 extras → Lacks 10 (extras_text extras)
extras_lack [] l = tt
extras_lack (b ∷ extras) l = (refl, l)

never_empty : (xs ys : List ℕ) → (length (xs ++ 32 ∷ ys) == 0) ≡ false
never_empty [] ys = some_bytes 32 ys
never_empty (x ∷ xs) ys = some_bytes x (xs ++ 32 ∷ ys)

date_lacks : (seconds offset : ℤ) (extras : List ℕ) → unsigned_abs seconds ≤ most_seconds → unsigned_abs offset ≤ most_offset → Lacks 10 extras → Lacks 10 (date_text seconds offset extras)
date_lacks seconds offset extras h k l =
    lacks-append 10 (signed_decimal seconds) (32 ∷ (signed_decimal offset ++ extras_text extras)) (number_lacks 10 seconds (lit< tt) (near_seconds seconds h))
    (refl, lacks-append 10 (signed_decimal offset) (extras_text extras) (number_lacks 10 offset (lit< tt) (near_offset offset k)) (extras_lack extras l))

date_some : (seconds offset : ℤ) (extras : List ℕ) → (length (date_text seconds offset extras) == 0) ≡ false
date_some seconds offset extras = never_empty (signed_decimal seconds) (signed_decimal offset ++ extras_text extras)

-- the lines of a change's header, from the user on
other_lines : Change → List (List ℕ)
other_lines c = c.user ∷ date_text c.seconds c.offset c.extras ∷ c.files

text_lines : (c : Change) → change_text c ≡ hex c.manifest ++ 10 ∷ (lines (other_lines c) ++ 10 ∷ c.description)
unfolding other_lines
text_lines c =
    let date = date_text c.seconds c.offset c.extras in
    let last = 10 ∷ c.description in
    append_assoc (hex c.manifest) (10 ∷ []) (line c.user ++ (line date ++ (lines c.files ++ last)))
    ∙ ap (λ l. hex c.manifest ++ 10 ∷ l) (ap (λ l. line c.user ++ l) (sym (append_assoc (line date) (lines c.files) last)) ∙ sym (append_assoc (line c.user) (line date ++ lines c.files) last))

other_are : (c : Change) → IsChange c → AllByRecursion IsLineText (other_lines c)
unfolding other_lines
other_are c h = (h.user, (record { some_byte = date_some c.seconds c.offset c.extras; no_lf = date_lacks c.seconds c.offset c.extras h.seconds h.offset h.extras }, h.files))

pub change_back : (c : Change) → IsChange c → read_change (change_text c) ≡ Ok c
unfolding other_lines
change_back c h =
    ap read_change (text_lines c)
    ∙ ap change_parts (blank_back (hex c.manifest) (other_lines c) c.description (hex_lacks c.manifest) (other_are c h))
    ∙ ap (λ ls. change_of (header_of ls) c.description) (header_back (hex c.manifest) (other_lines c) (hex_lacks c.manifest) (other_are c h))
    ∙ ap (λ n. change_with n (when_at (date_text c.seconds c.offset c.extras)) c.user c.files c.description) (node_back c.manifest h.node h.node_bytes)
    ∙ ap (λ w. change_with (Some c.manifest) w c.user c.files c.description) (date_back c.seconds c.offset c.extras h.seconds h.offset)
    ∙ rw (h.ordered, h.texts)

-- ---- what is read is the text of its changeset

some_is : {A : Type 0} (x y : A) → Some x ≡ Some y → x ≡ y
some_is x y e = cc

zone-some : (r : List ℕ × List ℕ) (t : Bool) (q : List ℕ × List ℕ) → (length r.1 == 0) ≡ t → cond t None (Some r) ≡ Some q → r.0 ++ 32 ∷ r.1 ≡ q.0 ++ extras_text q.1
zone-some r true q t e = cc
zone-some (o, []) false q t e = absurd (true≢false t)
zone-some (o, b ∷ extras) false q t e = ap (λ (w : List ℕ × List ℕ). w.0 ++ extras_text w.1) (some_is (o, b ∷ extras) q e)

zone-step : (rest : List ℕ) (s : Option (List ℕ × List ℕ)) (q : List ℕ × List ℕ) → split 32 rest ≡ s → offset_and_extras rest s ≡ Some q → rest ≡ q.0 ++ extras_text q.1
zone-step rest None q s e = sym (append-nil rest) ∙ ap (λ (w : List ℕ × List ℕ). w.0 ++ extras_text w.1) (some_is (rest, []) q e)
zone-step rest (Some r) q s e = (split_parts 32 rest r s).0 ∙ zone-some r (length r.1 == 0) q refl e

-- the text of a date that is within the bounds
record IsDateText (text : List ℕ) (w : When) : Type 0 where
  pub text_is : text ≡ date_text w.seconds w.offset w.extras
  pub seconds_near : unsigned_abs w.seconds ≤ most_seconds
  pub offset_near : unsigned_abs w.offset ≤ most_offset

of-step : (a b : List ℕ) (s o : Option ℤ) (extras : List ℕ) (w : When) → number_within most_seconds a ≡ s → number_within most_offset b ≡ o → when_of s o extras ≡ Some w → IsDateText (a ++ 32 ∷ (b ++ extras_text extras)) w
of-step a b None o extras w f g e = cc
of-step a b (Some s) None extras w f g e = cc
of-step a b (Some s) (Some o) extras w f g e =
    let x = number_found most_seconds a s f in
    let y = number_found most_offset b o g in
    let made : When = record { seconds = s; offset = o; extras = extras } in
    let P : When → Type 0 = λ v. IsDateText (a ++ 32 ∷ (b ++ extras_text extras)) v in
    subst P (some_is made w e) (record {
      text_is = ap (λ l. l ++ 32 ∷ (b ++ extras_text extras)) x.0 ∙ ap (λ l. signed_decimal s ++ 32 ∷ (l ++ extras_text extras)) y.0;
      seconds_near = x.1;
      offset_near = y.1;
    })

behind-step : (a rest : List ℕ) (q : Option (List ℕ × List ℕ)) (w : When) → offset_and_extras rest (split 32 rest) ≡ q → when_behind (number_within most_seconds a) q ≡ Some w → IsDateText (a ++ 32 ∷ rest) w
behind-step a rest None w z e = cc
behind-step a rest (Some q) w z e =
    let P : List ℕ → Type 0 = λ l. IsDateText (a ++ 32 ∷ l) w in
    subst P (sym (zone-step rest (split 32 rest) q refl z)) (of-step a q.0 (number_within most_seconds a) (number_within most_offset q.0) q.1 w refl refl e)

date-step : (text : List ℕ) (s : Option (List ℕ × List ℕ)) (w : When) → split 32 text ≡ s → when_parts s ≡ Some w → IsDateText text w
date-step text None w s e = cc
date-step text (Some p) w s e =
    let P : List ℕ → Type 0 = λ l. IsDateText l w in
    subst P (sym (split_parts 32 text p s).0) (behind-step p.0 p.1 (offset_and_extras p.1 (split 32 p.1)) w refl e)

date_found : (text : List ℕ) (w : When) → when_at text ≡ Some w → IsDateText text w
unfolding when_at
date_found text w e = date-step text (split 32 text) w refl e

lack_behind : (xs ys : List ℕ) → Lacks 10 (xs ++ ys) → Lacks 10 ys
lack_behind [] ys h = h
lack_behind (x ∷ xs) ys h = lack_behind xs ys h.1

extras_free : (extras : List ℕ) → Lacks 10 (extras_text extras) → Lacks 10 extras
extras_free [] h = tt
extras_free (b ∷ extras) h = h.1

-- what a changeset that was read came from
record CameFrom (o : Option (List ℕ)) (w : Option When) (user : List ℕ) (files : List (List ℕ)) (description : List ℕ) (c : Change) : Type 0 where
  pub node_is : o ≡ Some c.manifest
  pub when_is : w ≡ Some (record { seconds = c.seconds; offset = c.offset; extras = c.extras })
  pub user_is : user ≡ c.user
  pub files_are : files ≡ c.files
  pub description_is : description ≡ c.description
  pub ordered : ascends c.files ≡ true
  pub texts : (is_utf8 c.user && is_utf8 c.description) ≡ true

with-step : (a b : Bool) (x c : Change) → cond a (cond b (Ok x) (Err Utf8)) (Err Files) ≡ Ok c → (a ≡ true) × (b ≡ true) × (x ≡ c)
with-step true true x c e = (refl, refl, (let k : x ≡ c = cc in k))
with-step true false x c e = cc
with-step false b x c e = cc

with_found : (o : Option (List ℕ)) (w : Option When) (user : List ℕ) (files : List (List ℕ)) (description : List ℕ) (c : Change) → change_with o w user files description ≡ Ok c → CameFrom o w user files description c
with_found None w user files description c e = cc
with_found (Some node) None user files description c e = cc
with_found (Some node) (Some w) user files description c e =
    let made : Change = record { manifest = node; user = user; seconds = w.seconds; offset = w.offset; extras = w.extras; files = files; description = description } in
    let s = with-step (ascends files) (is_utf8 user && is_utf8 description) made c e in
    let P : Change → Type 0 = λ x. CameFrom (Some node) (Some w) user files description x in
    subst P s.2 (record { node_is = refl; when_is = refl; user_is = refl; files_are = refl; description_is = refl; ordered = s.0; texts = s.1 })

record IsTextOf (text : List ℕ) (c : Change) : Type 0 where
  pub text_is : text ≡ change_text c
  pub good : IsChange c

made_of : (n user date description : List ℕ) (files : List (List ℕ)) (c : Change) → CameFrom (node_at n) (when_at date) user files description c → Lacks 10 date → IsLineText user → AllByRecursion IsLineText files →
    IsTextOf (n ++ 10 ∷ (lines (user ∷ date ∷ files) ++ 10 ∷ description)) c
unfolding other_lines
made_of n user date description files c f l u fs =
    let digits = node_found n c.manifest f.node_is in
    let d = date_found date (record { seconds = c.seconds; offset = c.offset; extras = c.extras }) f.when_is in
    let L : List ℕ → Type 0 = λ t. Lacks 10 t in
    let U : List ℕ → Type 0 = λ t. IsLineText t in
    let F : List (List ℕ) → Type 0 = λ t. AllByRecursion IsLineText t in
    let behind_space = lack_behind (signed_decimal c.seconds) (32 ∷ (signed_decimal c.offset ++ extras_text c.extras)) (subst L d.text_is l) in
    record {
      text_is =
          ap (λ t. t ++ 10 ∷ (lines (user ∷ date ∷ files) ++ 10 ∷ description)) digits.text
          ∙ ap (λ t. hex c.manifest ++ 10 ∷ (lines (t ∷ date ∷ files) ++ 10 ∷ description)) f.user_is
          ∙ ap (λ t. hex c.manifest ++ 10 ∷ (lines (c.user ∷ t ∷ files) ++ 10 ∷ description)) d.text_is
          ∙ ap (λ t. hex c.manifest ++ 10 ∷ (lines (c.user ∷ date_text c.seconds c.offset c.extras ∷ t) ++ 10 ∷ description)) f.files_are
          ∙ ap (λ t. hex c.manifest ++ 10 ∷ (lines (other_lines c) ++ 10 ∷ t)) f.description_is
          ∙ sym (text_lines c);
      good = record {
        node = digits.len;
        node_bytes = digits.bytes;
        user = subst U f.user_is u;
        seconds = d.seconds_near;
        offset = d.offset_near;
        extras = extras_free c.extras (lack_behind (signed_decimal c.offset) (extras_text c.extras) behind_space.1);
        files = subst F f.files_are fs;
        ordered = f.ordered;
        texts = f.texts;
      };
    }

header-step : (header description : List ℕ) (ls : List (List ℕ)) (c : Change) → header_lines header ≡ ls → change_of (header_of ls) description ≡ Ok c → NoBlank (header ++ 10 ∷ []) → IsTextOf (header ++ 10 ∷ 10 ∷ description) c
header-step header description [] c h e b = cc
header-step header description (x ∷ []) c h e b = cc
header-step header description (x ∷ y ∷ []) c h e b = cc
header-step header description (n ∷ user ∷ date ∷ files) c h e b =
    let rest : List (List ℕ) = user ∷ date ∷ files in
    let f = with_found (node_at n) (when_at date) user files description c e in
    let together : header ++ 10 ∷ [] ≡ n ++ 10 ∷ lines rest = sym (joined_lines header) ∙ ap lines h ∙ line_then n (lines rest) in
    let B : List ℕ → Type 0 = λ t. NoBlank t in
    let A : List (List ℕ) → Type 0 = λ t. AllLack t in
    let free = subst A h (lines_lack header) in
    let some = lines_some rest (no_blank_behind n (lines rest) (subst B together b)) free.1 in
    let T : List ℕ → Type 0 = λ t. IsTextOf t c in
    let whole : n ++ 10 ∷ (lines rest ++ 10 ∷ description) ≡ header ++ 10 ∷ 10 ∷ description =
    sym (append_assoc n (10 ∷ lines rest) (10 ∷ description)) ∙ ap (λ t. t ++ 10 ∷ description) (sym together) ∙ append_assoc header (10 ∷ []) (10 ∷ description) in
    subst T whole (made_of n user date description files c f free.1.1.0 some.0 some.1.1)

blank-step : (text : List ℕ) (s : Option (List ℕ × List ℕ)) (c : Change) → split_at_blank text ≡ s → change_parts s ≡ Ok c → IsTextOf text c
blank-step text None c s e = cc
blank-step text (Some p) c s e =
    let T : List ℕ → Type 0 = λ t. IsTextOf t c in
    subst T (sym (blank_parts text p s)) (header-step p.0 p.1 (header_lines p.0) c refl e (blank_alone text p s))

pub change_found : (text : List ℕ) (c : Change) → read_change text ≡ Ok c → (text ≡ change_text c) × IsChange c
change_found text c e = let f = blank-step text (split_at_blank text) c refl e in (f.text_is, f.good)
