-- The lines of a text: only the last may lack its LF.
use Rattle.std.proofs.Common.{◌≡◌, ℕ, Bool, true, false, cond, List, [], ◌∷◌, refl}
use Rattle.std.specs.Prelude.{◌==◌}
use Rattle.hgs_bytes.specs.Text.{Line as TextLine, lines_of, onto}

abbrev pub OnlyLastLacks : List TextLine → Type 0
OnlyLastLacks [] = Unit {0}
OnlyLastLacks (p ∷ []) = Unit {0}
OnlyLastLacks (p ∷ q ∷ ps) = (p.1 ≡ true) × OnlyLastLacks (q ∷ ps)

onto-last : (b : ℕ) (ps : List TextLine) → OnlyLastLacks ps → OnlyLastLacks (onto b ps)
onto-last b [] h = tt
onto-last b (p ∷ []) h = tt
onto-last b (p ∷ q ∷ ps) h = h

ended-last : (ps : List TextLine) → OnlyLastLacks ps → OnlyLastLacks (([], true) ∷ ps)
ended-last [] h = tt
ended-last (p ∷ ps) h = (refl, h)

step-last : (t : Bool) (b : ℕ) (ps : List TextLine) → OnlyLastLacks ps → OnlyLastLacks (cond t (([], true) ∷ ps) (onto b ps))
step-last true b ps h = ended-last ps h
step-last false b ps h = onto-last b ps h

pub lines-last : (xs : List ℕ) → OnlyLastLacks (lines_of xs)
lines-last [] = tt
lines-last (b ∷ bytes) = step-last (b == 10) b (lines_of bytes) (lines-last bytes)

pub behind-last : (p : TextLine) (ps : List TextLine) → OnlyLastLacks (p ∷ ps) → OnlyLastLacks ps
behind-last p [] h = tt
behind-last p (q ∷ ps) h = h.1

-- a line that lacks its LF is the last
pub none-behind : (text : List ℕ) (ps : List TextLine) → OnlyLastLacks ((text, false) ∷ ps) → ps ≡ []
none-behind text [] h = refl
none-behind text (q ∷ ps) h = never h.0
  where
    never : {A : Type 0} → false ≡ true → A
    never e = cc
