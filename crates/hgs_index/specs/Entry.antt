-- The 64 bytes of an index entry.
use Rattle.std.specs.Prelude.{◌≡◌, ℕ, ◌+◌, ◌-◌, ◌*◌, ◌/◌, ◌%◌, ◌^◌, ◌<◌, Bool, true, false, ◌&&◌, ◌||◌, not, ◌==◌, nat_lt, nat_le, List, [], ◌∷◌, ◌++◌, length, take, drop, replicate, Option, Some, None, Result, Ok, Err, IfSome, IsSome, if◌then◌else◌}
use Rattle.std.specs.List.{list_any}
use Rattle.std.specs.Int.{w16, w32, w64, from_be_bytes, to_be_bytes}
use Rattle.hgs_index.specs.declared.entry.Entry.{Entry}
use Rattle.hgs_index.specs.declared.entry.Header.{Header}
use Rattle.hgs_index.specs.declared.entry.EntryFault.{EntryFault}
use Rattle.hgs_index.specs.declared.entry.EntryFault.TheVariants.{Version, HeaderFlags, Negative, Padding}

-- ---- writing

abbrev pub bit : Bool → ℕ
bit false = 0
bit true = 1

-- the offset, or in revision 0 the header in the place of its first four bytes
abbrev pub head_bytes : ℕ → Option Header → List ℕ
head_bytes offset None = drop 2 (to_be_bytes w64 offset)
head_bytes offset (Some h) = 0 ∷ (bit h.inline + 2 * bit h.generaldelta) ∷ 0 ∷ 1 ∷ 0 ∷ 0 ∷ []

-- no parent is -1
abbrev pub parent_number : Option ℕ → ℕ
parent_number None = 2 ^ 32 - 1
parent_number (Some p) = p

abbrev pub entry_bytes : Entry → Option Header → List ℕ
entry_bytes e h =
    head_bytes e.offset h ++ (to_be_bytes w16 e.flags ++ (to_be_bytes w32 e.stored ++ (to_be_bytes w32 e.size ++ (to_be_bytes w32 e.base ++ (to_be_bytes w32 e.link
    ++ (to_be_bytes w32 (parent_number e.p1) ++ (to_be_bytes w32 (parent_number e.p2) ++ (e.node.0 ++ replicate 12 0))))))))

-- ---- reading

abbrev pub part : ℕ → ℕ → List ℕ → List ℕ
part at n bytes = take n (drop at bytes)

abbrev pub number_at : ℕ → List ℕ → ℕ
number_at at bytes = from_be_bytes w32 (part at 4 bytes)

abbrev pub is_negative : ℕ → Bool
is_negative n = nat_le 0x8000_0000 n

abbrev pub is_no_parent : ℕ → Bool
is_no_parent n = nat_le 0x8000_0000 n && nat_lt n 0xffff_ffff

abbrev pub parent_of : ℕ → Option ℕ
parent_of n = if n == 0xffff_ffff then None else Some n

abbrev pub is_nonzero : List ℕ → Bool
is_nonzero bytes = list_any (λ b. not (b == 0)) bytes

abbrev pub has_negative : List ℕ → Bool
has_negative bytes =
    is_negative (number_at 8 bytes) || is_negative (number_at 12 bytes) || is_negative (number_at 16 bytes) || is_negative (number_at 20 bytes)
    || is_no_parent (number_at 24 bytes) || is_no_parent (number_at 28 bytes)

abbrev pub has_padding : List ℕ → ℕ → Bool
has_padding bytes rev = is_nonzero (part 52 12 bytes) || (rev == 0 && is_nonzero (part 4 2 bytes))

abbrev pub offset_of : List ℕ → ℕ → ℕ
offset_of bytes rev = if rev == 0 then 0 else from_be_bytes w64 (0 ∷ 0 ∷ take 6 bytes)

abbrev pub fields_of : List ℕ → ℕ → Entry
fields_of bytes rev =
    record {
      offset = offset_of bytes rev;
      flags = from_be_bytes w16 (part 6 2 bytes);
      stored = number_at 8 bytes;
      size = number_at 12 bytes;
      base = number_at 16 bytes;
      link = number_at 20 bytes;
      p1 = parent_of (number_at 24 bytes);
      p2 = parent_of (number_at 28 bytes);
      node = record { 0 = part 32 20 bytes };
    }

-- of the header's high bits only 16, inline data, and 17, generaldelta, may be set
abbrev pub has_bad_header : ℕ → Bool
has_bad_header flags = nat_le 4 flags

-- the low two of the header's high bits: 16, inline data, and 17, generaldelta
abbrev pub header_of : ℕ → Header
header_of flags = record { inline = flags % 2 == 1; generaldelta = flags / 2 % 2 == 1 }

-- the header that an index begins with, or its first fault
abbrev pub header_at : List ℕ → Result Header EntryFault
header_at bytes =
    if not (from_be_bytes w16 (part 2 2 bytes) == 1) then Err Version
    else if has_bad_header (from_be_bytes w16 (part 0 2 bytes)) then Err HeaderFlags
    else Ok (header_of (from_be_bytes w16 (part 0 2 bytes)))

-- the header that stands in the entry of revision 0, none in a later one
abbrev pub header_within : List ℕ → ℕ → Option Header
header_within bytes rev = if rev == 0 then Some (header_of (from_be_bytes w16 (part 0 2 bytes))) else None

-- the entry, or the first fault
abbrev pub entry_at : List ℕ → ℕ → Result Entry EntryFault
entry_at bytes rev =
    if rev == 0 && not (from_be_bytes w16 (part 2 2 bytes) == 1) then Err Version
    else if rev == 0 && has_bad_header (from_be_bytes w16 (part 0 2 bytes)) then Err HeaderFlags
    else if has_negative bytes then Err Negative
    else if has_padding bytes rev then Err Padding
    else Ok (fields_of bytes rev)

-- what has a spelling
pub record Fits (e : Entry) (h : Option Header) : Type 0 where
  pub offset : e.offset < 2 ^ 48
  pub flags : e.flags < 2 ^ 16
  pub stored : e.stored < 2 ^ 31
  pub size : e.size < 2 ^ 31
  pub base : e.base < 2 ^ 31
  pub link : e.link < 2 ^ 31
  pub p1 : IfSome e.p1 (λ p. p < 2 ^ 31)
  pub p2 : IfSome e.p2 (λ p. p < 2 ^ 31)
  pub node : length e.node.0 ≡ 20
  pub first : IsSome h → e.offset ≡ 0
