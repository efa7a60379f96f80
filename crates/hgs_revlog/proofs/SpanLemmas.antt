-- For callers: bytes that were read at the span of a revision.
use Rattle.std.proofs.Common.{◌≡◌, ℕ, ◌≤◌, Option, Some, None, ap, subst, sym}
use Rattle.std.specs.Prelude.{IfSome}
use Rattle.std.specs.Option.{option_map}
use Rattle.hgs_index.specs.declared.entry.Entry.{Entry}
use Rattle.hgs_index.specs.declared.kinds.Span.{Span}
use Rattle.hgs_revlog.specs.Text.{span_of}

-- bytes that are no more than the span of an entry are no more than its stored length, as `text` asks for
pub span-within : (o : Option Entry) (s : Span) (n : ℕ) → option_map span_of o ≡ Some s → n ≤ s.len → IfSome o (λ e. n ≤ e.stored)
span-within None s n h le = tt
span-within (Some e) s n h le = subst (λ m. n ≤ m) (ap (λ x. x.len) (sym (is (span_of e) s h))) le
  where
    is : (x y : Span) → Some x ≡ Some y → x ≡ y
    is x y h = cc
