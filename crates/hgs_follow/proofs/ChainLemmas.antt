-- What was asked, one after the other.
use Rattle.std.proofs.Common.{◌≡◌, List, [], ◌∷◌, ◌++◌, refl, subst, sym}
use Rattle.std.specs.Prelude.{Result, Ok, Err, IfErr}
use Rattle.std.specs.Result.{IsErrAnd}
use Rattle.hgs_follow.specs.Asked.{Asked, Asking, Chain}
use Rattle.hgs_follow.specs.Stops.{StopsAt}
use Rattle.hgs_follow.specs.declared.filelogs.Stop.{Stop}
use Rattle.hgs_follow.specs.declared.filelogs.Stop.TheVariants.{Refused, Missing, Memory}

pub chain_joined : {S : Type 0} (one : S → Asked → S → Type 0) (a b c : S) (xs ys : List Asked) → Chain one a xs b → Chain one b ys c → Chain one a (xs ++ ys) c
chain_joined one a b c [] ys h k = subst (λ s. Chain one s ys c) (sym h) k
chain_joined one a b c (x ∷ xs) ys h k = (h.0, h.1, chain_joined one h.0 b c xs ys h.2 k)

pub chain_one : {S : Type 0} (one : S → Asked → S → Type 0) (a : S) (x : Asked) (b : S) → one a x b → Chain one a (x ∷ []) b
chain_one one a x b h = (b, h, refl)

pub stops_further : {S E : Type 0} (gives : S → Asked → S → Type 0) (refuses : S → Asking → E → S → Type 0) (a b c : S) (xs : List Asked) (stop : Stop E) → Chain gives a xs b → StopsAt gives refuses b stop c → StopsAt gives refuses a stop c
stops_further gives refuses a b c xs (Refused e) h k = (xs ++ k.0, k.1, k.2, chain_joined gives a b k.1 xs k.0 h k.3, k.4)
stops_further gives refuses a b c xs Missing h k = absurd k
stops_further gives refuses a b c xs Memory h k = (xs ++ k.0, chain_joined gives a b c xs k.0 h k.1)

pub err_is : {T E : Type 0} (P : E → Type 0) (r : Result T E) (x : E) → IsErrAnd r (λ e. e ≡ x) → P x → IfErr r P
err_is P (Ok v) x h p = absurd h
err_is P (Err e) x h p = subst P (sym h) p

-- what stopped a part stops the whole
pub stopped_in : {S E T : Type 0} (gives : S → Asked → S → Type 0) (refuses : S → Asking → E → S → Type 0) (a b c : S) (xs : List Asked) (stop : Stop E) (r : Result T (Stop E)) → Chain gives a xs b → StopsAt gives refuses b stop c → IsErrAnd r (λ e. e ≡ stop) →
    IfErr r (λ s. StopsAt gives refuses a s c)
stopped_in gives refuses a b c xs stop r h k e = err_is (λ s. StopsAt gives refuses a s c) r stop e (stops_further gives refuses a b c xs stop h k)

pub stopped_behind : {S E : Type 0} (gives : S → Asked → S → Type 0) (refuses : S → Asking → E → S → Type 0) (a b c : S) (xs : List Asked) (r : Result Unit (Stop E)) → Chain gives a xs b → IfErr r (λ s. StopsAt gives refuses b s c) → IfErr r (λ s. StopsAt gives refuses a s c)
stopped_behind gives refuses a b c xs (Ok v) h k = tt
stopped_behind gives refuses a b c xs (Err e) h k = stops_further gives refuses a b c xs e h k
