-- What is met is told.
use Rattle.std.proofs.Common.{◌≡◌, List, [], ◌∷◌, ℕ, Bool, true, false, cond, nat_lt, refl, sym, ◌∙◌, ap}
use Rattle.std.specs.Prelude.{Option, Some, None, Result, Ok, is_some}
use Rattle.hgs_index.specs.Limit.{limit_number}
use Rattle.hgs_index.specs.declared.kinds.Which.{Which}
use Rattle.hgs_model.specs.History.{first_of}
use Rattle.hgs_steps.specs.declared.fault.PlanFault.{PlanFault}
use Rattle.hgs_commit.specs.Commit.{refusal_with}
use Rattle.hgs_commit.specs.Obstacles.{Met, Obstacle, collides, least_limit, noted, noted_one, nothing_met, passes, stands}
use Rattle.hgs_commit.specs.declared.hindrance.Collided.{Collided}
use Rattle.hgs_writer.proofs.Basics.{never}

-- nothing is told
pub record IsNothing (m : Met) : Type 0 where
  pub limit : m.limit ≡ None
  pub in_the_way : m.in_the_way ≡ None
  pub collision : m.collision ≡ None

some-limit : (which : Which) (o : Option Which) → is_some (least_limit which o) ≡ true
some-limit which None = refl
some-limit which (Some other) = by (nat_lt (limit_number which) (limit_number other))
  where
    by : (b : Bool) → is_some (cond b (Some which) (Some other)) ≡ true
    by true = refl
    by false = refl

some-first : {A : Type 0} (o : Option A) (x : A) → is_some (first_of o (Some x)) ≡ true
some-first None x = refl
some-first (Some y) x = refl

not-nothing : {A B : Type 0} (o : Option A) → is_some o ≡ true → o ≡ None → B
not-nothing o some none = never (sym some ∙ ap is_some none)

-- nothing is told of one more only where nothing was told, and it is not there
one-told : {A : Type 0} (m : Met) (o : Obstacle) → IsNothing (noted_one m o) → A
one-told m (passes which) none = not-nothing (least_limit which m.limit) (some-limit which m.limit) none.limit
one-told m (stands path) none = not-nothing (first_of m.in_the_way (Some path)) (some-first m.in_the_way path) none.in_the_way
one-told m (collides path rev) none = not-nothing (first_of m.collision (Some (record { path = path; rev = rev }))) (some-first m.collision (record { path = path; rev = rev })) none.collision

-- where nothing is told of these, nothing was told before, and they are none
pub record WereNone (m : Met) (obstacles : List Obstacle) : Type 0 where
  pub before : IsNothing m
  pub none : obstacles ≡ []

pub none-told : (m : Met) (obstacles : List Obstacle) → IsNothing (noted m obstacles) → WereNone m obstacles
none-told m [] none = record { before = none; none = refl }
none-told m (o ∷ obstacles) none = one-told m o (none-told (noted_one m o) obstacles none).before

abbrev refusal : Option Which → Option (List ℕ) → Option (List ℕ) → Option Collided → Result (Unit {0}) PlanFault
refusal limit other way collision = refusal_with (record { limit = limit; in_the_way = way; collision = collision }) other

pub met-none : (m : Met) (clash : Option (List ℕ)) → refusal_with m clash ≡ Ok tt → IsNothing m × (clash ≡ None)
met-none m clash e = by m.limit clash m.in_the_way m.collision refl refl refl refl e
  where
    by : (limit : Option Which) (other : Option (List ℕ)) (way : Option (List ℕ)) (collision : Option Collided) → m.limit ≡ limit → clash ≡ other → m.in_the_way ≡ way → m.collision ≡ collision → refusal limit other way collision ≡ Ok tt → IsNothing m × (clash ≡ None)
    by None None None None a b c d f = (record { limit = a; in_the_way = c; collision = d }, b)
    by (Some which) other way collision a b c d f = cc
    by None (Some other) way collision a b c d f = cc
    by None None (Some way) collision a b c d f = cc
    by None None None (Some collision) a b c d f = cc

pub all-none : (a b c d e : List Obstacle) (clash : Option (List ℕ)) → refusal_with (noted (noted (noted (noted (noted nothing_met a) b) c) d) e) clash ≡ Ok tt → (a ≡ []) × (b ≡ []) × (c ≡ []) × (d ≡ []) × (e ≡ []) × (clash ≡ None)
all-none a b c d e clash free =
    let told = met-none (noted (noted (noted (noted (noted nothing_met a) b) c) d) e) clash free in
    let fifth = none-told (noted (noted (noted (noted nothing_met a) b) c) d) e told.0 in
    let fourth = none-told (noted (noted (noted nothing_met a) b) c) d fifth.before in
    let third = none-told (noted (noted nothing_met a) b) c fourth.before in
    let second = none-told (noted nothing_met a) b third.before in
    let first = none-told nothing_met a second.before in
    (first.none, second.none, third.none, fourth.none, fifth.none, told.1)
