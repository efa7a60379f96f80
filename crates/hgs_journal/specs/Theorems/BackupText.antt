-- Texts of lists of backups, and the lines that are read of them.
use Rattle.std.proofs.Common.{◌≡◌, ℕ, ◌+◌, ◌&&◌, Bool, true, false, cond, List, [], ◌∷◌, ◌++◌, take, drop, Option, Some, None, Result, Ok, Err, refl, sym, ◌∙◌, ap, subst, append_assoc, take-append-drop}
use Rattle.std.specs.Prelude.{codes, flat_map}
use Rattle.std.specs.List.{AllByRecursion}
use Rattle.hgs_bytes.specs.Bytes.{same, begins_with}
use Rattle.hgs_bytes.specs.Text.{Line as TextLine, Lacks, lines_of, split}
use Rattle.hgs_bytes.specs.Theorems.ByteLemmas.{same-eq}
use Rattle.hgs_bytes.specs.Theorems.TextLemmas.{lacks-append, lines_split, split_over, split_parts, unlines, unlines-lines_of, LinesLack, lines_lack}
use Rattle.hgs_files.specs.Path.{is_store_path}
use Rattle.hgs_journal.specs.declared.fault.JournalFault.{JournalFault}
use Rattle.hgs_journal.specs.declared.fault.JournalFault.TheVariants.{Version}
use Rattle.hgs_journal.specs.declared.backups.BackupLine.{BackupLine}
use Rattle.hgs_journal.specs.Names.{place, new_name}
use Rattle.hgs_journal.specs.Texts.{location, backup_line, backups_text, version_line, is_backup, IsBackupLine, AreBackupLines, IsBackupsText}
use Rattle.hgs_journal.specs.Read.{line_then, plain_of, is_backup_line, placed_line, fields, three_of_four, line_of_three, backup_line_of, backups_from, read_backups}
use Rattle.hgs_journal.specs.Theorems.FieldLemmas.{one_field, two_fields, three_fields, four_fields, five_fields}
use Rattle.hgs_journal.specs.Theorems.LackLemmas.{LacksBoth, both-true, name-lacks, split-lacks, split-none, lacks-back}

-- a line without its LF
abbrev pub item : BackupLine → List ℕ → List ℕ
item l cache = location l.plain ++ 0 ∷ (l.file ++ 0 ∷ (l.backup ++ 0 ∷ cache))

-- ---- a text is read as the lines that it was written of

location-lacks : (plain : Bool) → LacksBoth (location plain)
location-lacks true = ((refl, (refl, (refl, (refl, (refl, tt))))), (refl, (refl, (refl, (refl, (refl, tt))))))
location-lacks false = (tt, tt)

backup-lacks : (plain : Bool) (backup : List ℕ) → is_backup plain backup ≡ true → LacksBoth backup
backup-lacks plain [] h = (tt, tt)
backup-lacks plain (b ∷ backup) h = name-lacks plain (b ∷ backup) h

item-lacks : (l : BackupLine) (cache : List ℕ) → IsBackupLine l → Lacks 10 cache → Lacks 10 (item l cache)
item-lacks l cache g h =
    lacks-append 10 (location l.plain) _ (location-lacks l.plain).1 (
      refl,
      lacks-append 10 l.file _ (name-lacks l.plain l.file g.file).1
          (refl, lacks-append 10 l.backup (0 ∷ cache) (backup-lacks l.plain l.backup g.backup).1 (refl, h)),
    )

plain-back : (plain : Bool) → plain_of (location plain) ≡ Some plain
plain-back true = refl
plain-back false = refl

good-test : (l : BackupLine) → IsBackupLine l → is_backup_line l.plain l.file l.backup ≡ true
good-test l g = ap (λ b. b && is_store_path (place l.plain (new_name l.file)) && is_backup l.plain l.backup) g.file ∙ ap (λ b. b && is_backup l.plain l.backup) g.new ∙ g.backup

item-back : (l : BackupLine) (cache : List ℕ) → IsBackupLine l → Lacks 0 cache → backup_line_of (item l cache) ≡ Some l
item-back l cache g h =
    let third = l.backup ++ 0 ∷ cache in
    let second = l.file ++ 0 ∷ third in
    ap line_of_three (four_fields (item l cache) (location l.plain, second) (l.file, third) (l.backup, cache)
    (split_over 0 (location l.plain) second (location-lacks l.plain).0)
    (split_over 0 l.file third (name-lacks l.plain l.file g.file).0)
    (split_over 0 l.backup cache (backup-lacks l.plain l.backup g.backup).0)
    (split-lacks 0 cache h))
    ∙ ap (λ p. placed_line p l.file l.backup) (plain-back l.plain)
    ∙ ap (λ b. cond b (Some l) None) (good-test l g)

lines-back : (n : ℕ) (text : List ℕ) (lines : List BackupLine) → AreBackupLines text lines → backups_from n (lines_of text) ≡ Ok lines
lines-back n text [] e = ap (λ t. backups_from n (lines_of t)) e
lines-back n text (l ∷ ls) a =
    let cache = a.1 in
    let rest = a.4 in
    ap (λ t. backups_from n (lines_of t)) (a.5 ∙ append_assoc (item l cache) (10 ∷ []) rest)
    ∙ ap (backups_from n) (lines_split (item l cache ++ 10 ∷ rest) (item l cache, rest) (split_over 10 (item l cache) rest (item-lacks l cache a.0 a.3)))
    ∙ ap (λ o. line_then (n + 1) o (backups_from (n + 1) (lines_of rest))) (item-back l cache a.0 a.2)
    ∙ ap (line_then (n + 1) (Some l)) (lines-back (n + 1) rest ls a.6)

pub backups-back : (text : List ℕ) (lines : List BackupLine) → IsBackupsText text lines → read_backups text ≡ Ok lines
backups-back text lines t = ap read_backups t.1 ∙ lines-back 1 t.0 lines t.2

written-lines : (lines : List BackupLine) → AllByRecursion IsBackupLine lines → AreBackupLines (flat_map (λ l. backup_line l (codes "0")) lines) lines
written-lines [] each = refl
written-lines (l ∷ ls) each = (each.0, codes "0", (refl, tt), (refl, tt), flat_map (λ l. backup_line l (codes "0")) ls, refl, written-lines ls each.1)

pub written-back : (lines : List BackupLine) → AllByRecursion IsBackupLine lines → read_backups (backups_text lines) ≡ Ok lines
written-back lines each = backups-back (backups_text lines) lines (flat_map (λ l. backup_line l (codes "0")) lines, refl, written-lines lines each)

-- ---- a text that is read was written so

-- a line is spelled with some last field
pub record IsItem (text : List ℕ) (l : BackupLine) : Type 0 where
  pub cache : List ℕ
  pub no_nul : Lacks 0 cache
  pub spelled : text ≡ item l cache
  pub good : IsBackupLine l

same_line : (x y : BackupLine) → Some x ≡ Some y → x ≡ y
same_line x y e = cc

if-item : (b : Bool) (plain : Bool) (file backup cache text : List ℕ) (l : BackupLine) → is_backup_line plain file backup ≡ b → Lacks 0 cache
    → text ≡ location plain ++ 0 ∷ (file ++ 0 ∷ (backup ++ 0 ∷ cache)) → cond b (Some (record { plain = plain; file = file; backup = backup })) None ≡ Some l → IsItem text l
if-item true plain file backup cache text l good lacks e h =
    let two = both-true (is_store_path (place plain file) && is_store_path (place plain (new_name file))) (is_backup plain backup) good in
    let paths = both-true (is_store_path (place plain file)) (is_store_path (place plain (new_name file))) two.0 in
    subst (IsItem text) (same_line _ l h) (record { cache = cache; no_nul = lacks; spelled = e; good = record { file = paths.0; new = paths.1; backup = two.1 } })
if-item false plain file backup cache text l good lacks e h = cc

located : (a b : Bool) (first : List ℕ) (plain : Bool) → same first (location false) ≡ a → same first (location true) ≡ b → cond a (Some false) (cond b (Some true) None) ≡ Some plain → first ≡ location plain
located true b first plain x y h = subst (λ p. first ≡ location p) (is false plain h) (same-eq first (location false) x)
  where
    is : (p q : Bool) → Some p ≡ Some q → p ≡ q
    is p q e = cc
located false true first plain x y h = subst (λ p. first ≡ location p) (is true plain h) (same-eq first (location true) y)
  where
    is : (p q : Bool) → Some p ≡ Some q → p ≡ q
    is p q e = cc
located false false first plain x y h = cc

plain-found : (first : List ℕ) (plain : Bool) → plain_of first ≡ Some plain → first ≡ location plain
plain-found first plain h = located (same first (location false)) (same first (location true)) first plain refl refl h

placed-found : (o : Option Bool) (first file backup cache text : List ℕ) (l : BackupLine) → plain_of first ≡ o → Lacks 0 cache → text ≡ first ++ 0 ∷ (file ++ 0 ∷ (backup ++ 0 ∷ cache))
    → placed_line o file backup ≡ Some l → IsItem text l
placed-found None first file backup cache text l p lacks e h = cc
placed-found (Some plain) first file backup cache text l p lacks e h =
    if-item (is_backup_line plain file backup) plain file backup cache text l refl lacks (e ∙ ap (λ f. f ++ 0 ∷ (file ++ 0 ∷ (backup ++ 0 ∷ cache))) (plain-found first plain p)) h

none-item : (text : List ℕ) (l : BackupLine) → three_of_four (fields text) ≡ None → backup_line_of text ≡ Some l → IsItem text l
none-item text l none h = never (sym (ap line_of_three none) ∙ h)
  where
    never : {A : Type 0} → (let o : Option BackupLine = None in o) ≡ Some l → A
    never e = cc

fourth : (text : List ℕ) (p q r : List ℕ × List ℕ) (o : Option (List ℕ × List ℕ)) (l : BackupLine) → split 0 text ≡ Some p → split 0 p.1 ≡ Some q → split 0 q.1 ≡ Some r → split 0 r.1 ≡ o
    → backup_line_of text ≡ Some l → IsItem text l
fourth text p q r (Some s) l e f g d h = none-item text l (five_fields text p q r s e f g d) h
fourth text p q r None l e f g d h =
    placed-found (plain_of p.0) p.0 q.0 r.0 r.1 text l refl (split-none 0 r.1 d)
    ((split_parts 0 text p e).0 ∙ ap (λ t. p.0 ++ 0 ∷ t) ((split_parts 0 p.1 q f).0 ∙ ap (λ t. q.0 ++ 0 ∷ t) (split_parts 0 q.1 r g).0))
    (sym (ap line_of_three (four_fields text p q r e f g d)) ∙ h)

third : (text : List ℕ) (p q : List ℕ × List ℕ) (o : Option (List ℕ × List ℕ)) (l : BackupLine) → split 0 text ≡ Some p → split 0 p.1 ≡ Some q → split 0 q.1 ≡ o → backup_line_of text ≡ Some l → IsItem text l
third text p q None l e f g h = none-item text l (three_fields text p q e f g) h
third text p q (Some r) l e f g h = fourth text p q r (split 0 r.1) l e f g refl h

second : (text : List ℕ) (p : List ℕ × List ℕ) (o : Option (List ℕ × List ℕ)) (l : BackupLine) → split 0 text ≡ Some p → split 0 p.1 ≡ o → backup_line_of text ≡ Some l → IsItem text l
second text p None l e f h = none-item text l (two_fields text p e f) h
second text p (Some q) l e f h = third text p q (split 0 q.1) l e f refl h

first : (text : List ℕ) (o : Option (List ℕ × List ℕ)) (l : BackupLine) → split 0 text ≡ o → backup_line_of text ≡ Some l → IsItem text l
first text None l e h = none-item text l (one_field text e) h
first text (Some p) l e h = second text p (split 0 p.1) l e refl h

ok_is : (x y : List BackupLine) → (let a : Result (List BackupLine) JournalFault = Ok x in a) ≡ Ok y → x ≡ y
ok_is x y e = cc

-- the last field has no LF, where the whole line has none
cache-lacks : (text : List ℕ) (l : BackupLine) (is : IsItem text l) → Lacks 10 text → Lacks 10 is.cache
cache-lacks text l is h =
    let whole = subst (Lacks 10) is.spelled h in
    let behind = lacks-back 10 (location l.plain) (0 ∷ (l.file ++ 0 ∷ (l.backup ++ 0 ∷ is.cache))) whole in
    let more = lacks-back 10 l.file (0 ∷ (l.backup ++ 0 ∷ is.cache)) behind.1 in
    (lacks-back 10 l.backup (0 ∷ is.cache) more.1).1

one-more : (l : BackupLine) (text : List ℕ) (ls : List TextLine) (lines : List BackupLine) → IsItem text l → Lacks 10 text → AreBackupLines (unlines ls) lines → AreBackupLines (unlines ((text, true) ∷ ls)) (l ∷ lines)
unfolding unlines
one-more l text ls lines is lack behind =
    (is.good, is.cache, is.no_nul, cache-lacks text l is lack, unlines ls, ap (λ t. t ++ 10 ∷ unlines ls) is.spelled ∙ sym (append_assoc (item l is.cache) (10 ∷ []) (unlines ls)), behind)

then-found : (n : ℕ) (text : List ℕ) (ls : List TextLine) (lines : List BackupLine) (o : Option BackupLine) (x : Result (List BackupLine) JournalFault) → backup_line_of text ≡ o → Lacks 10 text → line_then n o x ≡ Ok lines
    → ((more : List BackupLine) → x ≡ Ok more → AreBackupLines (unlines ls) more) → AreBackupLines (unlines ((text, true) ∷ ls)) lines
then-found n text ls lines None x e lack h behind = cc
then-found n text ls lines (Some l) (Err f) e lack h behind = cc
then-found n text ls lines (Some l) (Ok more) e lack h behind =
    subst (AreBackupLines (unlines ((text, true) ∷ ls))) (ok_is (l ∷ more) lines h) (one-more l text ls more (first text (split 0 text) l refl e) lack (behind more refl))

none-left : AreBackupLines (unlines []) []
unfolding unlines
none-left = refl

lines-found : (n : ℕ) (ls : List TextLine) (lines : List BackupLine) → LinesLack ls → backups_from n ls ≡ Ok lines → AreBackupLines (unlines ls) lines
lines-found n [] lines lack h = subst (AreBackupLines (unlines [])) (ok_is [] lines h) none-left
lines-found n ((text, true) ∷ ls) lines lack h =
    then-found (n + 1) text ls lines (backup_line_of text) (backups_from (n + 1) ls) refl lack.0 h (λ more e. lines-found (n + 1) ls more lack.1 e)
lines-found n ((text, false) ∷ ls) lines lack h = cc

version-found : (b : Bool) (text : List ℕ) (lines : List BackupLine) → begins_with text version_line ≡ b → cond b (backups_from 1 (lines_of (drop 2 text))) (Err Version) ≡ Ok lines → IsBackupsText text lines
version-found true text lines e h = (
  drop 2 text,
  sym (take-append-drop 2 text) ∙ ap (λ t. t ++ drop 2 text) (sym (same-eq version_line (take 2 text) e)),
  subst (λ t. AreBackupLines t lines) (unlines-lines_of (drop 2 text)) (lines-found 1 (lines_of (drop 2 text)) lines (lines_lack (drop 2 text)) h),
)
version-found false text lines e h = cc

pub backups-found : (text : List ℕ) (lines : List BackupLine) → read_backups text ≡ Ok lines → IsBackupsText text lines
backups-found text lines h = version-found (begins_with text version_line) text lines refl h
