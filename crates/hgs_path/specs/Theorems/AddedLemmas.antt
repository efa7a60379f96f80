-- A line that is appended to the list.
use Rattle.std.proofs.Common.{◌≡◌, ℕ, ◌+◌, Bool, true, false, cond, ◌&&◌, ◌||◌, not, List, [], ◌∷◌, ◌++◌, Result, Ok, Err, refl, sym, ap, ◌∙◌, append_assoc}
use Rattle.std.specs.Prelude.{◌==◌, codes, nat_le, length, is_ok}
use Rattle.std.specs.List.{AllByRecursion, list_any, onto_first}
use Rattle.hgs_bytes.specs.Bytes.{same, among, begins_with}
use Rattle.hgs_bytes.specs.Path.{components, is_line_byte}
use Rattle.hgs_bytes.specs.Text.{Lacks, onto, lines_of, line}
use Rattle.hgs_bytes.specs.Theorems.TextLemmas.{split_over, lines_split, lacks-append}
use Rattle.hgs_index.specs.TrackedPath.{is_forbidden, is_tracked}
use Rattle.hgs_path.specs.declared.name.Ext.{Ext}
use Rattle.hgs_path.specs.declared.name.Ext.TheVariants.{I, D}
use Rattle.hgs_path.specs.declared.fncache.FncacheFault.{FncacheFault}
use Rattle.hgs_path.specs.declared.fncache.FncacheFault.TheVariants.{Line}
use Rattle.hgs_path.specs.Check.{checked}
use Rattle.hgs_path.specs.StoreName.{ext_text, joined, ends_in, map_front, marked_directory, listed_name}
use Rattle.hgs_path.specs.Fncache.{lists, as_files, files_of, with_file}
use Rattle.hgs_path.specs.ListedNames.{is_listed, with_name, names_from, names_of}
use Rattle.hgs_path.specs.Theorems.CheckLemmas.{checked-tracked}
use Rattle.hgs_path.specs.Theorems.FncacheLemmas.{ends-appended, with-one}
use Rattle.hgs_path.specs.Theorems.PartLemmas.{listed-front}

-- ---- a tracked path has no LF

and-parts : (a b : Bool) → (a && b) ≡ true → (a ≡ true) × (b ≡ true)
and-parts true b h = (refl, h)
and-parts false b h = cc

or-none : (a b : Bool) → (a || b) ≡ false → (a ≡ false) × (b ≡ false)
or-none true b h = cc
or-none false b h = (refl, h)

not-false : (b : Bool) → not b ≡ true → b ≡ false
not-false true h = cc
not-false false h = refl

none-lack : (xs : List ℕ) → list_any is_line_byte xs ≡ false → Lacks 10 xs
none-lack [] h = tt
none-lack (x ∷ xs) h =
    let both = or-none (is_line_byte x) (list_any is_line_byte xs) h in
    ((or-none (x == 0) (x == 10) (or-none (x == 0 || x == 10) (x == 13) both.0).0).1, none-lack xs both.1)

checked-lack : (path : List ℕ) → checked path ≡ Ok tt → Lacks 10 path
checked-lack path h =
    let tracked : is_tracked path ≡ true = sym (checked-tracked path) ∙ ap is_ok h in
    let bytes = and-parts _ (not (list_any is_forbidden (components path))) tracked in
    none-lack path (not-false _ (and-parts (nat_le 1 (length path) && nat_le (length path) 1024) (not (list_any is_line_byte path)) bytes.0).1)

-- ---- nor has a name of its files

onto-lack : (x : ℕ) (parts : List (List ℕ)) → (x == 10) ≡ false → AllByRecursion (Lacks 10) parts → AllByRecursion (Lacks 10) (onto_first x parts)
onto-lack x [] s h = ((s, tt), tt)
onto-lack x (part ∷ parts) s h = ((s, h.0), h.1)

part-step : (t : Bool) (x : ℕ) (parts : List (List ℕ)) → (x == 10) ≡ false → AllByRecursion (Lacks 10) parts → AllByRecursion (Lacks 10) (cond t ([] ∷ parts) (onto_first x parts))
part-step true x parts s h = (tt, h)
part-step false x parts s h = onto-lack x parts s h

parts-lack : (xs : List ℕ) → Lacks 10 xs → AllByRecursion (Lacks 10) (components xs)
parts-lack [] h = (tt, tt)
parts-lack (x ∷ xs) h = part-step (x == 47) x (components xs) h.0 (parts-lack xs h.1)

by-end : (t : Bool) (d : List ℕ) → Lacks 10 d → Lacks 10 (cond t (d ++ codes ".hg") d)
by-end true d h = lacks-append 10 d (codes ".hg") h (refl, (refl, (refl, tt)))
by-end false d h = h

marked-lack : (d : List ℕ) → Lacks 10 d → Lacks 10 (marked_directory d)
marked-lack d h = by-end (ends_in d (codes ".hg") || ends_in d (codes ".i") || ends_in d (codes ".d")) d h

joined-lack : (parts : List (List ℕ)) → AllByRecursion (Lacks 10) parts → Lacks 10 (joined (map_front marked_directory parts))
joined-lack [] h = tt
joined-lack (part ∷ []) h = h.0
joined-lack (part ∷ next ∷ []) h = lacks-append 10 (marked_directory part) (47 ∷ next) (marked-lack part h.0) (refl, h.1.0)
joined-lack (part ∷ next ∷ last ∷ parts) h = lacks-append 10 (marked_directory part) (47 ∷ joined (map_front marked_directory (next ∷ last ∷ parts))) (marked-lack part h.0) (refl, joined-lack (next ∷ last ∷ parts) h.1)

ext-lack : (ext : Ext) → Lacks 10 (ext_text ext)
ext-lack I = (refl, (refl, tt))
ext-lack D = (refl, (refl, tt))

name-lack : (path : List ℕ) (ext : Ext) → Lacks 10 path → Lacks 10 (listed_name path ext)
name-lack path ext h =
    joined-lack (components (codes "data/" ++ path ++ ext_text ext)) (parts-lack (codes "data/" ++ path ++ ext_text ext) (lacks-append 10 (codes "data/") (path ++ ext_text ext) (refl, (refl, (refl, (refl, (refl, tt))))) (lacks-append 10 path (ext_text ext) h (ext-lack ext))))

-- ---- a name may stand in the list

-- the last part has this end
abbrev Ends : List ℕ → List (List ℕ) → Type 0
Ends end [] = ⊥
Ends end (part ∷ []) = (front : List ℕ) × (part ≡ front ++ end)
Ends end (part ∷ next ∷ parts) = Ends end (next ∷ parts)

ends-more : (end : List ℕ) (parts : List (List ℕ)) → Ends end parts → Ends end ([] ∷ parts)
ends-more end [] h = absurd h
ends-more end (part ∷ parts) h = h

ends-onto : (end : List ℕ) (x : ℕ) (parts : List (List ℕ)) → Ends end parts → Ends end (onto_first x parts)
ends-onto end x [] h = absurd h
ends-onto end x (part ∷ []) h = (x ∷ h.0, ap (λ l. x ∷ l) h.1)
ends-onto end x (part ∷ next ∷ parts) h = h

end-step : (t : Bool) (end : List ℕ) (x : ℕ) (parts : List (List ℕ)) → Ends end parts → Ends end (cond t ([] ∷ parts) (onto_first x parts))
end-step true end x parts h = ends-more end parts h
end-step false end x parts h = ends-onto end x parts h

ext-ends : (ext : Ext) → Ends (ext_text ext) (components (ext_text ext))
ext-ends I = ([], refl)
ext-ends D = ([], refl)

parts-end : (path : List ℕ) (ext : Ext) → Ends (ext_text ext) (components (path ++ ext_text ext))
parts-end [] ext = ext-ends ext
parts-end (x ∷ xs) ext = end-step (x == 47) (ext_text ext) x (components (xs ++ ext_text ext)) (parts-end xs ext)

joined-end : (end : List ℕ) (parts : List (List ℕ)) → Ends end parts → (front : List ℕ) × (joined (map_front marked_directory parts) ≡ front ++ end)
joined-end end [] h = absurd h
joined-end end (part ∷ []) h = h
joined-end end (part ∷ next ∷ []) h = (marked_directory part ++ 47 ∷ h.0, ap (λ l. marked_directory part ++ 47 ∷ l) h.1 ∙ sym (append_assoc (marked_directory part) (47 ∷ h.0) end))
joined-end end (part ∷ next ∷ last ∷ parts) h =
    let rest = joined-end end (next ∷ last ∷ parts) h in
    (marked_directory part ++ 47 ∷ rest.0, ap (λ l. marked_directory part ++ 47 ∷ l) rest.1 ∙ sym (append_assoc (marked_directory part) (47 ∷ rest.0) end))

ends-with : (path : List ℕ) (ext : Ext) → ends_in (listed_name path ext) (ext_text ext) ≡ true
ends-with path ext =
    let end = joined-end (ext_text ext) (components (path ++ ext_text ext)) (parts-end path ext) in
    ap (λ l. ends_in l (ext_text ext)) (listed-front path ext ∙ ap (λ l. codes "data/" ++ l) end.1) ∙ ends-appended (codes "data/" ++ end.0) (ext_text ext)

begins : (path : List ℕ) (ext : Ext) → begins_with (listed_name path ext) (codes "data/") ≡ true
begins path ext = ap (λ l. begins_with l (codes "data/")) (listed-front path ext)

both-hold : (a b c : Bool) → a ≡ true → b ≡ true → (a && (b || c)) ≡ true
both-hold true true c h k = refl
both-hold true false c h k = cc
both-hold false b c h k = cc

either-holds : (a b c : Bool) → a ≡ true → c ≡ true → (a && (b || c)) ≡ true
either-holds true true c h k = refl
either-holds true false c h k = k
either-holds false b c h k = cc

pub name-listed : (path : List ℕ) (ext : Ext) → is_listed (listed_name path ext) ≡ true
name-listed path I = both-hold (begins_with (listed_name path I) (codes "data/")) (ends_in (listed_name path I) (codes ".i")) (ends_in (listed_name path I) (codes ".d")) (begins path I) (ends-with path I)
name-listed path D = either-holds (begins_with (listed_name path D) (codes "data/")) (ends_in (listed_name path D) (codes ".i")) (ends_in (listed_name path D) (codes ".d")) (begins path D) (ends-with path D)

-- ---- a line behind whole lines

abbrev Whole : List (List ℕ × Bool) → Type 0
Whole ls = AllByRecursion (λ (l : List ℕ × Bool). l.1 ≡ true) ls

onto-more : (b : ℕ) (ls more : List (List ℕ × Bool)) → Whole (onto b ls) → Whole ls × (onto b (ls ++ more) ≡ onto b ls ++ more)
onto-more b [] more h = let e : false ≡ true = h.0 in cc
onto-more b (l ∷ ls) more h = (h, refl)

line-step : (t : Bool) (b : ℕ) (bs more : List ℕ) → (Whole (lines_of bs) → lines_of (bs ++ more) ≡ lines_of bs ++ lines_of more) → Whole (cond t (([], true) ∷ lines_of bs) (onto b (lines_of bs)))
    → cond t (([], true) ∷ lines_of (bs ++ more)) (onto b (lines_of (bs ++ more))) ≡ cond t (([], true) ∷ lines_of bs) (onto b (lines_of bs)) ++ lines_of more
line-step true b bs more f h = ap (λ ls. ([], true) ∷ ls) (f h.1)
line-step false b bs more f h = let on = onto-more b (lines_of bs) (lines_of more) h in ap (onto b) (f on.0) ∙ on.1

lines-more : (text more : List ℕ) → Whole (lines_of text) → lines_of (text ++ more) ≡ lines_of text ++ lines_of more
lines-more [] more h = refl
lines-more (b ∷ bs) more h = line-step (b == 10) b bs more (lines-more bs more) h

whole-step : (w s : Bool) (name : List ℕ) (fault : FncacheFault) (ls : List (List ℕ × Bool)) (r : Result (List (List ℕ)) FncacheFault) (names : List (List ℕ)) → ((found : List (List ℕ)) → r ≡ Ok found → Whole ls) → cond (w && s) (with_name name r) (Err fault) ≡ Ok names → (w ≡ true) × Whole ls
whole-step true true name fault ls (Ok found) names f h = (refl, f found refl)
whole-step true true name fault ls (Err e) names f h = cc
whole-step true false name fault ls r names f h = cc
whole-step false s name fault ls r names f h = cc

whole : (n : ℕ) (ls : List (List ℕ × Bool)) (names : List (List ℕ)) → names_from n ls ≡ Ok names → Whole ls
whole n [] names h = tt
whole n (l ∷ ls) names h = whole-step l.1 (is_listed l.0) l.0 (Line n) ls (names_from (n + 1) ls) names (λ found e. whole (n + 1) ls found e) h

-- ---- one more name

abbrev with_last : List ℕ → Result (List (List ℕ)) FncacheFault → Result (List (List ℕ)) FncacheFault
with_last name (Ok names) = Ok (names ++ name ∷ [])
with_last name (Err e) = Err e

last-step : (t : Bool) (first name : List ℕ) (fault : FncacheFault) (r : Result (List (List ℕ)) FncacheFault) → cond t (with_name first (with_last name r)) (Err fault) ≡ with_last name (cond t (with_name first r) (Err fault))
last-step true first name fault (Ok names) = refl
last-step true first name fault (Err e) = refl
last-step false first name fault r = refl

names-more : (n : ℕ) (ls : List (List ℕ × Bool)) (name : List ℕ) → is_listed name ≡ true → names_from n (ls ++ (name, true) ∷ []) ≡ with_last name (names_from n ls)
names-more n [] name h = ap (λ t. cond t (with_name name (names_from (n + 1) [])) (Err (Line n))) h
names-more n (l ∷ ls) name h = ap (λ r. cond (l.1 && is_listed l.0) (with_name l.0 r) (Err (Line n))) (names-more (n + 1) ls name h) ∙ last-step (l.1 && is_listed l.0) l.0 name (Line n) (names_from (n + 1) ls)

one-line : (name : List ℕ) → Lacks 10 name → lines_of (line name) ≡ (name, true) ∷ []
one-line name h = lines_split (line name) (name, []) (split_over 10 name [] h)

pub name-added : (path : List ℕ) (ext : Ext) (text : List ℕ) (names : List (List ℕ)) → checked path ≡ Ok tt → names_of text ≡ Ok names → names_of (text ++ line (listed_name path ext)) ≡ Ok (names ++ listed_name path ext ∷ [])
name-added path ext text names h is =
    let name = listed_name path ext in
    ap (names_from 1) (lines-more text (line name) (whole 1 (lines_of text) names is) ∙ ap (λ ls. lines_of text ++ ls) (one-line name (name-lack path ext (checked-lack path h))))
    ∙ names-more 1 (lines_of text) name (name-listed path ext)
    ∙ ap (with_last name) is

-- ---- one more file

among-last : (x y : List ℕ) (ys : List (List ℕ)) → among x (ys ++ y ∷ []) ≡ (among x ys || same x y)
among-last x y [] = by (same x y)
  where
    by : (b : Bool) → (b || false) ≡ b
    by true = refl
    by false = refl
among-last x y (z ∷ zs) = ap (λ b. same x z || b) (among-last x y zs) ∙ by (same x z) (among x zs) (same x y)
  where
    by : (a b c : Bool) → (a || (b || c)) ≡ ((a || b) || c)
    by true b c = refl
    by false b c = refl

lists-last : (names : List (List ℕ)) (path : List ℕ) (ext : Ext) → lists (names ++ listed_name path ext ∷ []) ≡ with_file (lists names) path ext
lists-last names path ext = λ i q x. (among-last (listed_name q x) (listed_name path ext) names ∙ sym (with-one (lists names) path ext q x)) i

abbrev with_in : List ℕ → Ext → Result (List ℕ → Ext → Bool) FncacheFault → Result (List ℕ → Ext → Bool) FncacheFault
with_in path ext (Ok files) = Ok (with_file files path ext)
with_in path ext (Err e) = Err e

by-names : (r s : Result (List (List ℕ)) FncacheFault) (path : List ℕ) (ext : Ext) (files : List ℕ → Ext → Bool) → ((names : List (List ℕ)) → r ≡ Ok names → s ≡ Ok (names ++ listed_name path ext ∷ [])) → as_files r ≡ Ok files → as_files s ≡ Ok (with_file files path ext)
by-names (Ok names) s path ext files f h = ap as_files (f names refl) ∙ ap Ok (lists-last names path ext) ∙ ap (with_in path ext) h
by-names (Err e) s path ext files f h = cc

pub file-added : (path : List ℕ) (ext : Ext) (text : List ℕ) (files : List ℕ → Ext → Bool) → checked path ≡ Ok tt → files_of text ≡ Ok files → files_of (text ++ line (listed_name path ext)) ≡ Ok (with_file files path ext)
file-added path ext text files h = by-names (names_of text) (names_of (text ++ line (listed_name path ext))) path ext files (λ names is. name-added path ext text names h is)
