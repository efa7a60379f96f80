-- What the first changesets say of a revision, and what is wrong with it once all have been looked at.
use Rattle.std.specs.Prelude.{◌≡◌, ◌==◌, ◌||◌, not, ℕ, List, [], ◌∷◌, Bool, true, false, length, Option, Some, None, is_none, map, max, slice_get, if◌then◌else◌}
use Rattle.std.specs.Option.{option_or}
use Rattle.hgs_index.specs.Revision.{Parents, same_parents}
use Rattle.hgs_findings.specs.Namings.{keeps, makes, untold, first_use, is_unneeded, is_misplaced, is_after, given, in_order, is_wrongly_made}
use Rattle.hgs_findings.specs.Namings as findings
use Rattle.hgs_judge.specs.declared.kinds.Kinds.{Kinds}
use Rattle.hgs_judge.specs.declared.kinds.Naming.{Naming}
use Rattle.hgs_judge.specs.declared.kinds.Rule.{Rule}
use Rattle.hgs_judge.specs.declared.kinds.Rule.TheVariants.{Keeps, Makes, Untold}
use Rattle.hgs_judge.specs.declared.kinds.Standing.{Standing}

-- the rule and the naming that the values are
abbrev pub rule_in : Rule → findings.Rule
rule_in (Keeps kept) = keeps kept
rule_in (Makes parents) = makes parents
rule_in Untold = untold

abbrev pub naming_in : Option Naming → Option findings.Naming
naming_in None = None
naming_in (Some n) = Some (record { rev = n.rev; rule = rule_in n.rule })

abbrev pub namings_in : List (Option Naming) → List (Option findings.Naming)
namings_in namings = map naming_in namings

abbrev pub is_some_given : List Parents → Bool
is_some_given [] = false
is_some_given (p ∷ more) = true

-- what these changesets say of a revision with these parents
abbrev pub standing : List (Option findings.Naming) → ℕ → Parents → Standing
standing namings rev parents = record {
  first = first_use 0 namings rev;
  is_given = is_some_given (given namings rev);
  is_wrong = is_wrongly_made namings rev parents;
}

-- whether a rule for a revision with these parents is broken by it: the first time that parents are given their order counts
abbrev pub breaks : Bool → ℕ → Parents → findings.Rule → Bool
breaks is_given rev parents (keeps kept) = not (kept == rev)
breaks is_given rev parents (makes p) = if is_given then not (same_parents p parents) else not (in_order p parents)
breaks is_given rev parents untold = false

abbrev pub gives : findings.Rule → Bool
gives (keeps kept) = false
gives (makes p) = true
gives untold = false

-- the standing with one more changeset, which names this revision
abbrev pub with_naming : Standing → ℕ → ℕ → Parents → findings.Rule → Standing
with_naming s changeset rev parents rule = record {
  first = option_or s.first (Some changeset);
  is_given = s.is_given || gives rule;
  is_wrong = s.is_wrong || breaks s.is_given rev parents rule;
}

-- the standing of each revision
pub record AreStandings (namings : List (Option findings.Naming)) (parents : List Parents) (standings : List Standing) : Type 0 where
  pub count : length standings ≡ length parents
  pub each : (rev : ℕ) (p : Parents) → slice_get parents rev ≡ Some p → slice_get standings rev ≡ Some (standing namings rev p)

-- what is wrong with a revision of these parents and this link
abbrev pub kinds_of : List (Option findings.Naming) → ℕ → Parents → ℕ → Kinds
kinds_of namings rev parents link = record {
  is_unneeded = is_unneeded namings rev;
  is_misplaced = is_misplaced namings rev link;
  is_wrongly_made = is_wrongly_made namings rev parents;
}

pub record AreKinds (namings : List (Option findings.Naming)) (parents : List Parents) (links : List ℕ) (kinds : List Kinds) : Type 0 where
  pub count : length kinds ≡ length parents
  pub each : (rev : ℕ) (p : Parents) (link : ℕ) → slice_get parents rev ≡ Some p → slice_get links rev ≡ Some link → slice_get kinds rev ≡ Some (kinds_of namings rev p link)

-- the later of two changesets, each of which may be missing
abbrev pub later : Option ℕ → Option ℕ → Option ℕ
later None b = b
later (Some a) None = Some a
later (Some a) (Some b) = Some (max a b)

abbrev pub is_misplaced_by : Option ℕ → ℕ → Option ℕ → Bool
is_misplaced_by None link latest = false
is_misplaced_by (Some first) link latest = not (link == first) || is_after first latest

-- what is wrong with a revision of this standing, behind others of which the last to be used is first used there
abbrev pub kinds_by : Standing → ℕ → Option ℕ → Kinds
kinds_by s link latest = record {
  is_unneeded = is_none s.first;
  is_misplaced = is_misplaced_by s.first link latest;
  is_wrongly_made = s.is_wrong;
}
