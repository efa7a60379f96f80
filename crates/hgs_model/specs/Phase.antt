-- Phases as numbers and as names.
use Rattle.std.specs.Prelude.{ℕ, List, Option, Some, None, codes, if◌then◌else◌}
use Rattle.hgs_bytes.specs.Bytes.{same}
use Rattle.hgs_model.specs.declared.phase.Phase.{Phase}
use Rattle.hgs_model.specs.declared.phase.Phase.TheVariants.{Public, Draft, Secret}

abbrev pub phase_number : Phase → ℕ
phase_number Public = 0
phase_number Draft = 1
phase_number Secret = 2

abbrev pub phase_name : Phase → List ℕ
phase_name Public = codes "public"
phase_name Draft = codes "draft"
phase_name Secret = codes "secret"

-- the phase with this name
abbrev pub phase_named : List ℕ → Option Phase
phase_named name =
    if same name (phase_name Public) then Some Public
    else if same name (phase_name Draft) then Some Draft
    else if same name (phase_name Secret) then Some Secret
    else None

-- the one with the greater number
abbrev pub greater : Phase → Phase → Phase
greater Public q = q
greater Draft Secret = Secret
greater Draft Draft = Draft
greater Draft Public = Draft
greater Secret q = Secret

-- the one with the lesser number
abbrev pub lesser : Phase → Phase → Phase
lesser Public q = Public
lesser Draft Public = Public
lesser Draft Draft = Draft
lesser Draft Secret = Draft
lesser Secret q = q
