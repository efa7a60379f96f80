-- A schedule that is played, event after event.
use Rattle.std.proofs.Common.{◌≡◌, ◌⊎◌, inl, inr, ℕ, List, [], ◌∷◌, ◌++◌, length, Option, Some, None, Err, refl, sym, ◌∙◌, ap, arith, append-nil, append_assoc}
use Rattle.std.specs.Prelude.{replicate, false}
use Rattle.hgs_files.specs.Streams.{IsWritten}
use Rattle.hgs_files.specs.declared.streams.IoFault.{IoFault}
use Rattle.hgs_files.specs.declared.streams.IoFault.TheVariants.{Failed, Memory}
use Rattle.hgs_input.specs.declared.fault.InputFault.TheVariants as input_faults
use Rattle.hgs_schedule.specs.declared.event.Event.{Event}
use Rattle.hgs_schedule.specs.declared.event.Schedule.{Schedule}
use Rattle.hgs_top.specs.Play.{EndsPlay, GaveSchedule, WritesPlay}
use Rattle.hgs_top.specs.Run.{EndsLine, IsCut, memory_line, status_of_sink}
use Rattle.hgs_top.proofs.Written.{adds_on, cut_on, nothing}
use Rattle.hgs_world.specs.Plays.{Plays, PlaysTo}
use Rattle.hgs_world.specs.Questions.{no_sight}
use Rattle.hgs_world.specs.Start.{new_tree}
use Rattle.hgs_world.specs.World.{Scene, Happens, IsFirst}
use Rattle.hgs_world.specs.Theorems.PlaysLemmas.{plays-more}
use Rattle.hgs_world.specs.Book.{no_commands}

-- the events before these happened and left this scene, and what they write was written
abbrev pub HasPlayed : Schedule → List Event → Scene → Option (List ℕ) → Option (List ℕ) → Type 0
HasPlayed s left now old new = (done : List Event) × (s.events ≡ done ++ left) × (text : List ℕ) × (first : Scene) × IsFirst s.readers first × Plays done first now text × IsWritten old new text

pub begun : (s : Schedule) (first : Scene) (out : Option (List ℕ)) → IsFirst s.readers first → HasPlayed s s.events first out out
begun s first out h = ([], refl, [], first, h, (refl, refl), nothing out)

pub next : (s : Schedule) (event : Event) (left : List Event) (mid now : Scene) (old between new : Option (List ℕ)) (more : List ℕ) → HasPlayed s (event ∷ left) mid old between
    → Happens event mid now more → IsWritten between new more → HasPlayed s left now old new
next s event left mid now old between new more h k w =
    (h.0 ++ event ∷ [], h.1 ∙ sym (append_assoc h.0 (event ∷ []) left), h.2 ++ more, h.3, h.4, plays-more h.0 event h.3 mid now h.2 more h.5 k, adds_on old between new h.2 more (h.2 ++ more) h.6 w refl)

plays_to : (s : Schedule) (left : List Event) (now : Scene) (old new : Option (List ℕ)) (h : HasPlayed s left now old new) → PlaysTo s left h.2
plays_to s left now old new h = record { done = h.0; whole = h.1; first = h.3; last = now; is_first = h.4; plays = h.5 }

pub all_played : (s : Schedule) (left : List Event) (now : Scene) (old new : Option (List ℕ)) → HasPlayed s left now old new → left ≡ [] → WritesPlay s 0 old new
all_played s left now old new h e = (left, h.2, plays_to s left now old new h, inl (refl, e, h.6))

pub no_memory : (s : Schedule) (left : List Event) (now : Scene) (old between new : Option (List ℕ)) (status : ℕ) → HasPlayed s left now old between → EndsLine memory_line 30 status between new → WritesPlay s status old new
no_memory s left now old between new status h e = (left, h.2, plays_to s left now old between h, by e)
  where
    said : (status ≡ 30) → IsWritten between new memory_line → EndsPlay left h.2 status old new
    said is w = inr (inl (is, adds_on old between new h.2 memory_line (h.2 ++ memory_line) h.6 w refl))

    cut : ((status ≡ 19) ⊎ (status ≡ 30)) → IsCut between new memory_line → EndsPlay left h.2 status old new
    cut is w = inr (inr (is, inr (cut_on old between new h.2 memory_line [] (h.2 ++ memory_line) h.6 w (ap (λ l. h.2 ++ l) (append-nil memory_line)))))

    by : EndsLine memory_line 30 status between new → EndsPlay left h.2 status old new
    by (inl x) = said x.0 x.1
    by (inr (inl x)) = said x.0 x.1
    by (inr (inr (is, inl w))) = cut is w
    by (inr (inr (is, inr w))) = cut is w

of_sink : (fault : IoFault) (status : ℕ) → status ≡ status_of_sink fault → (status ≡ 19) ⊎ (status ≡ 30)
of_sink Failed status e = inl e
of_sink Memory status e = inr e

pub not_taken : (s : Schedule) (event : Event) (left : List Event) (mid now : Scene) (old between new : Option (List ℕ)) (more : List ℕ) (fault : IoFault) (status : ℕ) → HasPlayed s (event ∷ left) mid old between
    → Happens event mid now more → IsCut between new more → status ≡ status_of_sink fault → WritesPlay s status old new
not_taken s event left mid now old between new more fault status h k w e = (
  left,
  h.2 ++ more,
  record { done = h.0 ++ event ∷ []; whole = h.1 ∙ sym (append_assoc h.0 (event ∷ []) left); first = h.3; last = now; is_first = h.4; plays = plays-more h.0 event h.3 mid now h.2 more h.5 k },
  inr (inr (of_sink fault status e, inl (cut_on old between new h.2 more [] (h.2 ++ more) h.6 w (ap (λ l. h.2 ++ l) (append-nil more))))),
)

-- how a repository in memory begins
abbrev first_scene : ℕ → Scene
first_scene readers = record { start = new_tree; log = []; writer = None; readers = replicate readers no_sight; book = no_commands; spent = false }

pub no_world : (s : Schedule) (status : ℕ) (old new : Option (List ℕ)) → EndsLine memory_line 30 status old new → WritesPlay s status old new
no_world s status old new e =
    let is_first : IsFirst s.readers (first_scene s.readers) = record { start = λ path. refl; log = refl; writer = refl; readers_are = refl; book = refl; unspent = refl } in
    no_memory s s.events (first_scene s.readers) old old new status (begun s (first_scene s.readers) old is_first) e

-- ---- the input

pub no_memory_for_it : (left : Option (List ℕ)) → GaveSchedule left (Err input_faults.Memory)
no_memory_for_it None = tt
no_memory_for_it (Some bytes) = tt

pub nothing-left : {X : Type 0} (l : List X) → length l ≡ 0 → l ≡ []
nothing-left [] h = refl
nothing-left (x ∷ xs) h = absurd (omega arith)
