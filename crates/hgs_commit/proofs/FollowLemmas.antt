-- Tracked paths in order are those of rows.
use Rattle.std.proofs.Common.{◌≡◌, ℕ, List, [], ◌∷◌, Bool, true, false, ◌&&◌, ◌||◌, not, ◌==◌, length, nat_le, refl, ◌∙◌, ap, arith}
use Rattle.std.specs.List.{list_all, list_any}
use Rattle.hgs_bytes.specs.Bytes.{is_below}
use Rattle.hgs_bytes.specs.Path.{components, is_line_byte}
use Rattle.hgs_bytes.specs.Text.{ascends}
use Rattle.hgs_index.specs.TrackedPath.{is_forbidden, is_tracked}
use Rattle.hgs_manifest.specs.Held.{is_row_path, is_without}
use Rattle.hgs_model.specs.declared.files.NewFile.{NewFile}
use Rattle.hgs_model.specs.Valid.{new_paths}
use Rattle.hgs_commit.specs.Files.{can_follow}

both : (a b : Bool) → a && b ≡ true → (a ≡ true) × (b ≡ true)
both true b e = (refl, e)
both false b e = cc

neither : (a b : Bool) → a || b ≡ false → (a ≡ false) × (b ≡ false)
neither true b e = cc
neither false b e = (refl, e)

is_true : (a : Bool) → not a ≡ true → a ≡ false
is_true true e = cc
is_true false e = refl

without : (byte : ℕ) (path : List ℕ) → ((b : ℕ) → is_line_byte b ≡ false → b == byte ≡ false) → list_any is_line_byte path ≡ false → list_any (λ b. b == byte) path ≡ false
without byte [] one h = refl
without byte (b ∷ path) one h =
    let n = neither (is_line_byte b) (list_any is_line_byte path) h in
    ap (λ q. q || list_any (λ c. c == byte) path) (one b n.0) ∙ without byte path one n.1

not_nul : (b : ℕ) → is_line_byte b ≡ false → b == 0 ≡ false
not_nul b h = (neither (b == 0) (b == 10) (neither (b == 0 || b == 10) (b == 13) h).0).0

not_lf : (b : ℕ) → is_line_byte b ≡ false → b == 10 ≡ false
not_lf b h = (neither (b == 0) (b == 10) (neither (b == 0 || b == 10) (b == 13) h).0).1

longer : (path : List ℕ) → nat_le 1 (length path) ≡ true → not (length path == 0) ≡ true
longer [] h = cc
longer (b ∷ path) h = grind arith

row : (path : List ℕ) → is_tracked path ≡ true → is_row_path path ≡ true
row path h =
    let a = both (nat_le 1 (length path) && nat_le (length path) 1024 && not (list_any is_line_byte path)) (not (list_any is_forbidden (components path))) h in
    let b = both (nat_le 1 (length path) && nat_le (length path) 1024) (not (list_any is_line_byte path)) a.0 in
    let c = both (nat_le 1 (length path)) (nat_le (length path) 1024) b.0 in
    let free = is_true (list_any is_line_byte path) b.1 in
    ap (λ q. q && is_without 0 path && is_without 10 path) (longer path c.0)
    ∙ ap (λ q. not q && is_without 10 path) (without 0 path not_nul free)
    ∙ ap (λ q. not q) (without 10 path not_lf free)

below_first : (path : List ℕ) → is_tracked path ≡ true → is_below [] path ≡ true
below_first [] h = cc
below_first (b ∷ path) h = refl

behind : (f : NewFile) (files : List NewFile) → list_all is_tracked (new_paths files) ≡ true → ascends (f.path ∷ new_paths files) ≡ true → can_follow f.path files ≡ true
behind f [] t a = refl
behind f (g ∷ files) t a =
    let ts = both (is_tracked g.path) (list_all is_tracked (new_paths files)) t in
    let up = both (is_below f.path g.path) (ascends (g.path ∷ new_paths files)) a in
    ap (λ q. q && is_below f.path g.path && can_follow g.path files) (row g.path ts.0)
    ∙ ap (λ q. q && can_follow g.path files) up.0
    ∙ behind g files ts.1 up.1

pub follow : (files : List NewFile) → list_all is_tracked (new_paths files) ≡ true → ascends (new_paths files) ≡ true → can_follow [] files ≡ true
follow [] t a = refl
follow (f ∷ files) t a =
    let ts = both (is_tracked f.path) (list_all is_tracked (new_paths files)) t in
    ap (λ q. q && is_below [] f.path && can_follow f.path files) (row f.path ts.0)
    ∙ ap (λ q. q && can_follow f.path files) (below_first f.path ts.0)
    ∙ behind f files ts.1 a
