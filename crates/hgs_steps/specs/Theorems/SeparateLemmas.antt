-- An index that loads in the form that it says, by the separate one that it is taken apart into.
use Rattle.std.proofs.Common.{◌≡◌, ℕ, List, Result, Ok, Err, refl, sym, ap}
use Rattle.hgs_index.specs.Inline.{index_apart, is_inline}
use Rattle.hgs_revlog.specs.declared.fault.RevFault.{RevFault}
use Rattle.hgs_revlog.specs.declared.fault.Tail.{Tail}
use Rattle.hgs_revlog.specs.Load.{in_form, loaded, loaded_either}
use Rattle.hgs_revlog.specs.Log.{Log}

-- it loads as the one that it is taken apart into
pub record IsLoadedApart (tail : Tail) (index : List ℕ) (log : Log) : Type 0 where
  pub apart : Log
  pub loads : loaded tail (index_apart index) ≡ Ok apart
  pub entries : apart.entries ≡ log.entries
  pub form : log.inline ≡ is_inline index

log-is : (x y : Log) → (let a : Result Log RevFault = Ok x in a) ≡ Ok y → x ≡ y
log-is x y k = cc

pub apart-loaded : (tail : Tail) (index : List ℕ) (log : Log) → loaded_either tail index ≡ Ok log → IsLoadedApart tail index log
apart-loaded tail index log e = by (loaded tail (index_apart index)) refl e
  where
    by : (r : Result Log RevFault) → loaded tail (index_apart index) ≡ r → in_form (is_inline index) r ≡ Ok log → IsLoadedApart tail index log
    by (Err f) loads h = cc
    by (Ok apart) loads h =
        let is = log-is (record { inline = is_inline index; entries = apart.entries }) log h in
        record { apart = apart; loads = loads; entries = ap (λ (l : Log). l.entries) is; form = sym (ap (λ (l : Log). l.inline) is) }
