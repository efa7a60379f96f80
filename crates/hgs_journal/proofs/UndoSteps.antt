-- The undo list, operation by operation.
use Rattle.std.proofs.Common.{◌≡◌, ℕ, List, [], ◌∷◌, ◌++◌, length, map, reverse, refl, sym, ◌∙◌, ap, subst, arith, append_assoc, length-append}
use Rattle.std.specs.List.{All}
use Rattle.std.proofs.lemmas.List.{reverse-append, get_or_append_left}
use Rattle.hgs_files.specs.declared.op.Op.{Op}
use Rattle.hgs_files.specs.declared.op.Op.TheVariants.{Rename, Remove, Create}
use Rattle.hgs_journal.specs.declared.journal.JournalLine.{JournalLine}
use Rattle.hgs_journal.specs.declared.backups.BackupLine.{BackupLine}
use Rattle.hgs_journal.specs.Names.{place, new_name, journal_path}
use Rattle.hgs_journal.specs.Undo.{undo_line, undo_with, undo_backup, undo_backups, undo_list}

-- one more line from the end
pub one_undone : (done new whole : List Op) (all rest : List JournalLine) (l : JournalLine) (op : Op) → done ++ map undo_line (reverse all) ≡ whole → all ≡ rest ++ l ∷ [] → op ≡ undo_line l → new ≡ done ++ op ∷ []
    → new ++ map undo_line (reverse rest) ≡ whole
one_undone done new whole all rest l op inv last is more =
    ap (λ ops. ops ++ map undo_line (reverse rest)) (more ∙ ap (λ o. done ++ o ∷ []) is)
    ∙ append_assoc done (undo_line l ∷ []) (map undo_line (reverse rest))
    ∙ ap (λ ls. done ++ map undo_line ls) (sym (reverse-append rest (l ∷ [])))
    ∙ ap (λ ls. done ++ map undo_line (reverse ls)) (sym last)
    ∙ inv

pub all_front : {X : Type 0} (P : X → Type 0) (all rest : List X) (l : X) → All P all → all ≡ rest ++ l ∷ [] → All P rest
all_front P all rest l h last =
    let h' : All P (rest ++ l ∷ []) = subst (All P) last h in
    λ k d lt. subst P (get_or_append_left rest (l ∷ []) d k lt) (h' k d (omega (arith, lt, length-append rest (l ∷ []))))

-- ---- a line of the backups

pub none_kept : (l : BackupLine) (kept backup : List ℕ) → length backup ≡ 0 → undo_with l backup kept ≡ Remove (place l.plain l.file) ∷ []
none_kept l kept [] e = refl
none_kept l kept (b ∷ backup) e = absurd (omega arith)

some_kept : (l : BackupLine) (kept backup : List ℕ) → (length backup ≡ 0 → ⊥) → undo_with l backup kept
    ≡ Create (place l.plain (new_name l.file)) kept ∷ Rename (place l.plain (new_name l.file)) (place l.plain l.file) ∷ []
some_kept l kept [] e = absurd (e refl)
some_kept l kept (b ∷ backup) e = refl

pub both_ops : (l : BackupLine) (kept bytes path from to : List ℕ) (old mid new : List Op) → (length l.backup ≡ 0 → ⊥) → mid ≡ old ++ Create path bytes ∷ [] → new ≡ mid ++ Rename from to ∷ []
    → bytes ≡ kept → path ≡ place l.plain (new_name l.file) → from ≡ path → to ≡ place l.plain l.file → new ≡ old ++ undo_backup l kept
both_ops l kept bytes path from to old mid new some first second b p f t =
    second ∙ ap (λ ops. ops ++ Rename from to ∷ []) first ∙ append_assoc old (Create path bytes ∷ []) (Rename from to ∷ [])
    ∙ ap (λ x. old ++ Create path x ∷ Rename from to ∷ []) b
    ∙ ap (λ x. old ++ Create path kept ∷ Rename x to ∷ []) f
    ∙ ap (λ x. old ++ Create x kept ∷ Rename x to ∷ []) p
    ∙ ap (λ x. old ++ Create (place l.plain (new_name l.file)) kept ∷ Rename (place l.plain (new_name l.file)) x ∷ []) t
    ∙ ap (λ ops. old ++ ops) (sym (some_kept l kept l.backup some))

-- ---- the whole list

pub whole_list : (journal : List JournalLine) (backups : List BackupLine) (kept : List (List ℕ)) (path : List ℕ) (lines both all : List Op) → lines ≡ map undo_line (reverse journal) → both ≡ lines ++ undo_backups backups kept
    → path ≡ journal_path → all ≡ both ++ Remove path ∷ [] → all ≡ undo_list journal backups kept
whole_list journal backups kept path lines both all first second p third =
    third ∙ ap (λ ops. ops ++ Remove path ∷ []) (second ∙ ap (λ ops. ops ++ undo_backups backups kept) first)
    ∙ ap (λ x. (map undo_line (reverse journal) ++ undo_backups backups kept) ++ Remove x ∷ []) p
