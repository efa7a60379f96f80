-- A printed set reads as itself.
use Rattle.std.proofs.Common.{◌≡◌, ◌<◌, ◌≤◌, ℕ, zero, suc, ◌+◌, ◌-◌, Bool, true, false, ◌||◌, List, [], ◌∷◌, ◌++◌, length, take, Some, refl, sym, ◌∙◌, ap, subst, append_assoc, append-nil, length-append, arith}
use Rattle.std.specs.Prelude.{◌==◌, ◌&&◌, nat_lt, nat_le, replicate, slice_get, Ok, Err, if◌then◌else◌, codes}
use Rattle.std.proofs.lemmas.Bool.Decides.{nat_tests}
use Rattle.hgs_model.specs.declared.phase.Phase.TheVariants as phases
use Rattle.hgs_revset.specs.declared.fault.SetFault.TheVariants.{Bad}
use Rattle.hgs_revset.specs.declared.grammar.Frame.{Frame}
use Rattle.hgs_revset.specs.declared.read.Mode.TheVariants.{Between, Quote}
use Rattle.hgs_revset.specs.declared.step.At.{At}
use Rattle.hgs_revset.specs.declared.step.At.TheVariants.{Wanted, Bound, First, Upwards, Whole, Named, Closed}
use Rattle.hgs_revset.specs.declared.step.Call.{Call}
use Rattle.hgs_revset.specs.declared.step.Call.TheVariants as calls
use Rattle.hgs_revset.specs.declared.step.Step.{Step}
use Rattle.hgs_revset.specs.declared.step.Step.TheVariants as steps
use Rattle.hgs_revset.specs.Grammar.{Parse, call_steps, closed_by, deepest, first_at, may_close, opened, stands, start, take_close_of, take_name, with_set}
use Rattle.hgs_revset.specs.Members.{Set, Name, Marked, All, InPhase, Not, Ancestors, Descendants, Heads, Roots, And, Or}
use Rattle.hgs_revset.specs.Postfix.{postfix, top_of}
use Rattle.hgs_revset.specs.Printed.{printed, depth_of, has_quote, IsPrintable}
use Rattle.hgs_revset.specs.Stored.{after_postfix}
use Rattle.hgs_revset.specs.Read.{at_mode, between, finish, limited, longest, onward, read_set, read_steps, set_from, steps_of_text, take_bytes, take_first}

-- ---- where the reader stands

-- a level with nothing pending but what these say
abbrev standing : List Step → List Frame → At → Bool → Bool → ℕ → ℕ → Parse
standing ss fs at has_or has_and base depth = record { steps = ss; frames = fs; level = record { at = at; has_or = has_or; has_and = has_and; base = base }; depth = depth }

abbrev fresh : List Step → List Frame → ℕ → Parse
fresh ss fs d = standing ss fs Wanted false false d d

-- what may be closed, and which steps it has then
record Closable (ss : List Step) (fs : List Frame) (p : Parse) : Type 0 where
  closes : may_close p.level.at ≡ true
  frames : p.frames ≡ fs
  ended : (with_set p).steps ≡ ss

-- the text is read up to the rest
record Passed (place : ℕ) (text rest : List ℕ) (from : Parse) (ss : List Step) (fs : List Frame) : Type 0 where
  end : ℕ
  parse : Parse
  stands-there : stands parse.level.at ≡ true
  frames : parse.frames ≡ fs
  ended : (with_set parse).steps ≡ ss
  same : take_bytes place text (at_mode Between [] from) ≡ take_bytes end rest (at_mode Between [] parse)

stands-closes : (at : At) → stands at ≡ true → may_close at ≡ true
stands-closes Wanted h = h
stands-closes Bound h = h
stands-closes First h = refl
stands-closes Upwards h = refl
stands-closes Whole h = refl
stands-closes Named h = h
stands-closes Closed h = refl

nothing-more : (d : ℕ) → d - d ≡ 0
nothing-more d = omega arith

ended-plain : (ss : List Step) (d : ℕ) → ((ss ++ replicate (d - d) steps.Not) ++ []) ++ [] ≡ ss
ended-plain ss d = append-nil ((ss ++ replicate (d - d) steps.Not) ++ []) ∙ append-nil (ss ++ replicate (d - d) steps.Not) ∙ ap (λ k. ss ++ replicate k steps.Not) (nothing-more d) ∙ append-nil ss

-- ---- brackets

abbrev far : ℕ → ℕ → ℕ
far place zero = place
far place (suc k) = far (place + 1) k

below-deepest : (d : ℕ) → d < 64 → nat_lt d deepest ≡ true
below-deepest d lt = grind (arith, nat_tests)

opens : (place wrong end : ℕ) (text rest : List ℕ) (call : Call) (p : Parse) → p.depth < 64 →
    take_bytes place text (at_mode Between [] p) ≡ onward (between (if nat_lt p.depth deepest then Ok (opened call p) else Err (Bad wrong))) (take_bytes end rest) →
    take_bytes place text (at_mode Between [] p) ≡ take_bytes end rest (at_mode Between [] (opened call p))
opens place wrong end text rest call p lt same = same ∙ ap (λ b. onward (between (if b then Ok (opened call p) else Err (Bad wrong))) (take_bytes end rest)) (below-deepest p.depth lt)

frame-count : (fs : List Frame) (f : Frame) → length fs ≡ length (fs ++ f ∷ []) - 1
frame-count fs f = let n = length-append fs (f ∷ []) in omega (arith, n)

frame-there : (fs : List Frame) (f : Frame) → slice_get (fs ++ f ∷ []) (length fs) ≡ Some f
frame-there [] f = refl
frame-there (x ∷ fs) f = frame-there fs f

frames-before : (fs : List Frame) (f : Frame) → take (length fs) (fs ++ f ∷ []) ≡ fs
frames-before [] f = refl
frames-before (x ∷ fs) f = ap (λ zs. x ∷ zs) (frames-before fs f)

frame-last : (fs : List Frame) (f : Frame) → slice_get (fs ++ f ∷ []) (length (fs ++ f ∷ []) - 1) ≡ Some f
frame-last fs f = subst (λ k. slice_get (fs ++ f ∷ []) k ≡ Some f) (frame-count fs f) (frame-there fs f)

frames-front : (fs : List Frame) (f : Frame) → take (length (fs ++ f ∷ []) - 1) (fs ++ f ∷ []) ≡ fs
frames-front fs f = subst (λ k. take k (fs ++ f ∷ []) ≡ fs) (frame-count fs f) (frames-before fs f)

-- a `)` behind what may be closed
closing : (place : ℕ) (rest : List ℕ) (ss : List Step) (fs : List Frame) (call : Call) (has_or has_and : Bool) (base depth : ℕ) (p : Parse) →
    Closable ss (fs ++ record { call = call; level = record { at = Wanted; has_or = has_or; has_and = has_and; base = base }; depth = depth } ∷ []) p →
    take_bytes place (41 ∷ rest) (at_mode Between [] p) ≡ take_bytes (place + 1) rest (at_mode Between [] (standing (ss ++ call_steps call) fs First has_or has_and base depth))
closing place rest ss fs call has_or has_and base depth p c =
    let f : Frame = record { call = call; level = record { at = Wanted; has_or = has_or; has_and = has_and; base = base }; depth = depth } in
    let last : slice_get p.frames (length p.frames - 1) ≡ Some f = ap (λ xs. slice_get xs (length xs - 1)) c.frames ∙ frame-last fs f in
    let front : take (length p.frames - 1) p.frames ≡ fs = ap (λ xs. take (length xs - 1) xs) c.frames ∙ frames-front fs f in
    ap (λ o. onward (between (take_close_of o place p)) (take_bytes (place + 1) rest)) last
    ∙ ap (λ b. onward (between (if b then Ok (closed_by f p) else Err (Bad place))) (take_bytes (place + 1) rest)) c.closes
    ∙ ap (λ xs. take_bytes (place + 1) rest (at_mode Between [] (standing (xs ++ call_steps call) (take (length p.frames - 1) p.frames) First has_or has_and base depth))) c.ended
    ∙ ap (λ xs. take_bytes (place + 1) rest (at_mode Between [] (standing (ss ++ call_steps call) xs First has_or has_and base depth))) front

-- ---- names

no-quote : (b : ℕ) (more : Bool) → ((b == 34) || more) ≡ false → (b == 34) ≡ false
no-quote b more h = by (b == 34) h
  where
    by : (t : Bool) → (t || more) ≡ false → t ≡ false
    by true k = k
    by false k = refl

no-quotes : (b : ℕ) (more : Bool) → ((b == 34) || more) ≡ false → more ≡ false
no-quotes b more h = by (b == 34) h
  where
    by : (t : Bool) → (t || more) ≡ false → more ≡ false
    by true k = absurd (no k)
      where
        no : true ≡ false → ⊥
        no e = cc
    by false k = k

record Quoted (place from : ℕ) (n word rest : List ℕ) (p : Parse) : Type 0 where
  end : ℕ
  same : take_bytes place (n ++ 34 ∷ rest) (at_mode (Quote from) word p) ≡ onward (between (take_name from (word ++ n) p)) (take_bytes end rest)

quote-read : (place from : ℕ) (n word rest : List ℕ) (p : Parse) → has_quote n ≡ false → Quoted place from n word rest p
quote-read place from [] word rest p h = record { end = place + 1; same = ap (λ w. onward (between (take_name from w p)) (take_bytes (place + 1) rest)) (sym (append-nil word)) }
quote-read place from (b ∷ n) word rest p h =
    let more = quote-read (place + 1) from n (word ++ b ∷ []) rest p (no-quotes b (has_quote n) h) in
    record {
      end = more.end;
      same =
          ap (λ t. onward (if t then between (take_name from word p) else Ok (at_mode (Quote from) (word ++ b ∷ []) p)) (take_bytes (place + 1) (n ++ 34 ∷ rest))) (no-quote b (has_quote n) h)
          ∙ more.same ∙ ap (λ w. onward (between (take_name from w p)) (take_bytes more.end rest)) (append_assoc word (b ∷ []) n);
    }

seam : (xs : List ℕ) (rest : List ℕ) (x : ℕ) → (xs ++ x ∷ []) ++ rest ≡ xs ++ x ∷ rest
seam xs rest x = append_assoc xs (x ∷ []) rest

-- ---- sets

abbrev frame_of : Call → Bool → Bool → ℕ → ℕ → Frame
frame_of call has_or has_and base depth = record { call = call; level = record { at = Wanted; has_or = has_or; has_and = has_and; base = base }; depth = depth }

record Reached (place : ℕ) (text rest : List ℕ) (from to : Parse) : Type 0 where
  end : ℕ
  same : take_bytes place text (at_mode Between [] from) ≡ take_bytes end rest (at_mode Between [] to)

-- an argument and its `)`
argument : (place next : ℕ) (text body rest : List ℕ) (from : Parse) (call : Call) (has_or has_and : Bool) (base depth : ℕ) (ss more : List Step) (fs : List Frame) →
    take_bytes place text (at_mode Between [] from) ≡ take_bytes next (body ++ 41 ∷ rest) (at_mode Between [] (fresh ss (fs ++ frame_of call has_or has_and base depth ∷ []) (depth + 1))) →
    Passed next (body ++ 41 ∷ rest) (41 ∷ rest) (fresh ss (fs ++ frame_of call has_or has_and base depth ∷ []) (depth + 1)) more (fs ++ frame_of call has_or has_and base depth ∷ []) →
    Reached place text rest from (standing (more ++ call_steps call) fs First has_or has_and base depth)
argument place next text body rest from call has_or has_and base depth ss more fs opening inner = record {
  end = inner.end + 1;
  same = opening ∙ inner.same ∙ closing inner.end rest more fs call has_or has_and base depth inner.parse (record { closes = stands-closes inner.parse.level.at inner.stands-there; frames = inner.frames; ended = inner.ended });
}

unary : (place next : ℕ) (text body rest : List ℕ) (call : Call) (d : ℕ) (ss more : List Step) (fs : List Frame) →
    take_bytes place text (at_mode Between [] (fresh ss fs d)) ≡ take_bytes next (body ++ 41 ∷ rest) (at_mode Between [] (fresh ss (fs ++ frame_of call false false d d ∷ []) (d + 1))) →
    Passed next (body ++ 41 ∷ rest) (41 ∷ rest) (fresh ss (fs ++ frame_of call false false d d ∷ []) (d + 1)) (ss ++ more) (fs ++ frame_of call false false d d ∷ []) →
    Passed place text rest (fresh ss fs d) (ss ++ (more ++ call_steps call)) fs
unary place next text body rest call d ss more fs opening inner =
    let r = argument place next text body rest (fresh ss fs d) call false false d d ss (ss ++ more) fs opening inner in
    record {
      end = r.end;
      parse = standing ((ss ++ more) ++ call_steps call) fs First false false d d;
      stands-there = refl;
      frames = refl;
      ended = ended-plain ((ss ++ more) ++ call_steps call) d ∙ append_assoc ss more (call_steps call);
      same = r.same;
    }

-- a function of nothing
nullary : (place next : ℕ) (text rest : List ℕ) (call : Call) (d : ℕ) (ss : List Step) (fs : List Frame) → first_at call ≡ Closed → d < 64 →
    take_bytes place text (at_mode Between [] (fresh ss fs d)) ≡ take_bytes next (41 ∷ rest) (at_mode Between [] (opened call (fresh ss fs d))) →
    Passed place text rest (fresh ss fs d) (ss ++ call_steps call) fs
nullary place next text rest call d ss fs at lt opening = record {
  end = next + 1;
  parse = standing (ss ++ call_steps call) fs First false false d d;
  stands-there = refl;
  frames = refl;
  ended = ended-plain (ss ++ call_steps call) d;
  same = opening ∙ closing next rest ss fs call false false d d (opened call (fresh ss fs d)) (record { closes = ap may_close at; frames = refl; ended = ended-plain ss (d + 1) });
}

one-more : (d : ℕ) → d + 1 - d ≡ 1
one-more d = omega arith

negated-ended : (ss more : List Step) (d : ℕ) → ((((ss ++ more) ++ []) ++ replicate (d + 1 - d) steps.Not) ++ []) ++ [] ≡ ss ++ (more ++ steps.Not ∷ [])
negated-ended ss more d =
    append-nil (((((ss ++ more) ++ []) ++ replicate (d + 1 - d) steps.Not)) ++ []) ∙ append-nil (((ss ++ more) ++ []) ++ replicate (d + 1 - d) steps.Not)
    ∙ ap (λ k. ((ss ++ more) ++ []) ++ replicate k steps.Not) (one-more d) ∙ ap (λ xs. xs ++ steps.Not ∷ []) (append-nil (ss ++ more)) ∙ append_assoc ss more (steps.Not ∷ [])

plain-end : (xs : List Step) (d : ℕ) → (xs ++ replicate (d - d) steps.Not) ++ [] ≡ xs
plain-end xs d = append-nil (xs ++ replicate (d - d) steps.Not) ∙ ap (λ k. xs ++ replicate k steps.Not) (nothing-more d) ∙ append-nil xs

-- the steps of two operands that stand
both-ended : (ss first second : List Step) (step : Step) → (ss ++ first) ++ second ++ step ∷ [] ≡ ss ++ (first ++ second ++ step ∷ [])
both-ended ss first second step =
    ap (λ xs. xs ++ step ∷ []) (append_assoc ss first second) ∙ append_assoc ss (first ++ second) (step ∷ [])

and-ended : (ss first second : List Step) (d : ℕ) →
    ((((((((ss ++ first) ++ []) ++ replicate (d - d) steps.Not) ++ []) ++ second) ++ []) ++ replicate (d - d) steps.Not) ++ steps.And ∷ []) ++ [] ≡ ss ++ (first ++ second ++ steps.And ∷ [])
and-ended ss first second d =
    append-nil ((((((((ss ++ first) ++ []) ++ replicate (d - d) steps.Not) ++ []) ++ second) ++ []) ++ replicate (d - d) steps.Not) ++ steps.And ∷ [])
    ∙ ap (λ xs. (((xs ++ second) ++ []) ++ replicate (d - d) steps.Not) ++ steps.And ∷ []) (plain-end ((ss ++ first) ++ []) d ∙ append-nil (ss ++ first))
    ∙ ap (λ xs. (xs ++ replicate (d - d) steps.Not) ++ steps.And ∷ []) (append-nil ((ss ++ first) ++ second))
    ∙ ap (λ k. (((ss ++ first) ++ second) ++ replicate k steps.Not) ++ steps.And ∷ []) (nothing-more d)
    ∙ ap (λ xs. xs ++ steps.And ∷ []) (append-nil ((ss ++ first) ++ second))
    ∙ both-ended ss first second steps.And

or-ended : (ss first second : List Step) (d : ℕ) →
    (((((((((ss ++ first) ++ []) ++ replicate (d - d) steps.Not) ++ []) ++ []) ++ second) ++ []) ++ replicate (d - d) steps.Not) ++ []) ++ steps.Or ∷ [] ≡ ss ++ (first ++ second ++ steps.Or ∷ [])
or-ended ss first second d =
    ap (λ xs. ((((xs ++ second) ++ []) ++ replicate (d - d) steps.Not) ++ []) ++ steps.Or ∷ []) (ended-plain ((ss ++ first) ++ []) d ∙ append-nil (ss ++ first))
    ∙ ap (λ xs. xs ++ steps.Or ∷ []) (plain-end (((ss ++ first) ++ second) ++ []) d ∙ append-nil ((ss ++ first) ++ second))
    ∙ both-ended ss first second steps.Or

reads : (a : Set) (place : ℕ) (rest : List ℕ) (ss : List Step) (fs : List Frame) (d : ℕ) → IsPrintable a → d + depth_of a ≤ 64 → Passed place (printed a ++ rest) rest (fresh ss fs d) (ss ++ postfix a) fs
reads (Name n) place rest ss fs d ok low =
    let q = quote-read (place + 1) place n [] rest (fresh ss fs d) ok in
    record {
      end = q.end;
      parse = standing (ss ++ steps.Name n ∷ []) fs First false false d d;
      stands-there = refl;
      frames = refl;
      ended = ended-plain (ss ++ steps.Name n ∷ []) d;
      same = ap (λ t. take_bytes place (34 ∷ t) (at_mode Between [] (fresh ss fs d))) (seam n rest 34) ∙ q.same;
    }
reads (Marked n) place rest ss fs d ok low =
    let lt : d < 64 = omega (arith, low) in
    let p = opened calls.Bookmark (fresh ss fs d) in
    let q = quote-read (far place 10) (far place 9) n [] (41 ∷ rest) p ok in
    let text : printed (Marked n) ++ rest ≡ codes "bookmark(" ++ 34 ∷ n ++ 34 ∷ 41 ∷ rest = ap (λ t. codes "bookmark(" ++ 34 ∷ t) (append_assoc (n ++ 34 ∷ []) (41 ∷ []) rest ∙ append_assoc n (34 ∷ []) (41 ∷ rest)) in
    record {
      end = q.end + 1;
      parse = standing ((ss ++ steps.Marked n ∷ []) ++ []) fs First false false d d;
      stands-there = refl;
      frames = refl;
      ended = ended-plain ((ss ++ steps.Marked n ∷ []) ++ []) d ∙ append-nil (ss ++ steps.Marked n ∷ []);
      same =
          ap (λ t. take_bytes place t (at_mode Between [] (fresh ss fs d))) text
          ∙ opens place (far place 8) (far place 9) (codes "bookmark(" ++ 34 ∷ n ++ 34 ∷ 41 ∷ rest) (34 ∷ n ++ 34 ∷ 41 ∷ rest) calls.Bookmark (fresh ss fs d) lt refl
          ∙ q.same
          ∙ closing q.end rest (ss ++ steps.Marked n ∷ []) fs calls.Bookmark false false d d (standing (ss ++ steps.Marked n ∷ []) p.frames Closed false false (d + 1) (d + 1)) (record { closes = refl; frames = refl; ended = ended-plain (ss ++ steps.Marked n ∷ []) (d + 1) });
    }
reads All place rest ss fs d ok low =
    let lt : d < 64 = omega (arith, low) in
    nullary place (far place 4) (codes "all()" ++ rest) rest calls.All d ss fs refl lt (opens place (far place 3) (far place 4) (codes "all()" ++ rest) (41 ∷ rest) calls.All (fresh ss fs d) lt refl)
reads (InPhase phases.Public) place rest ss fs d ok low =
    let lt : d < 64 = omega (arith, low) in
    nullary place (far place 7) (codes "public()" ++ rest) rest calls.Public d ss fs refl lt (opens place (far place 6) (far place 7) (codes "public()" ++ rest) (41 ∷ rest) calls.Public (fresh ss fs d) lt refl)
reads (InPhase phases.Draft) place rest ss fs d ok low =
    let lt : d < 64 = omega (arith, low) in
    nullary place (far place 6) (codes "draft()" ++ rest) rest calls.Draft d ss fs refl lt (opens place (far place 5) (far place 6) (codes "draft()" ++ rest) (41 ∷ rest) calls.Draft (fresh ss fs d) lt refl)
reads (InPhase phases.Secret) place rest ss fs d ok low =
    let lt : d < 64 = omega (arith, low) in
    nullary place (far place 7) (codes "secret()" ++ rest) rest calls.Secret d ss fs refl lt (opens place (far place 6) (far place 7) (codes "secret()" ++ rest) (41 ∷ rest) calls.Secret (fresh ss fs d) lt refl)
reads (Ancestors a) place rest ss fs d ok low =
    let lt : d < 64 = omega (arith, low) in
    let body = printed a ++ 41 ∷ rest in
    subst (λ t. Passed place (codes "ancestors(" ++ t) rest (fresh ss fs d) (ss ++ (postfix a ++ steps.Ancestors ∷ [])) fs) (sym (seam (printed a) rest 41))
    (unary place (far place 10) (codes "ancestors(" ++ body) (printed a) rest calls.Ancestors d ss (postfix a) fs (opens place (far place 9) (far place 10) (codes "ancestors(" ++ body) body calls.Ancestors (fresh ss fs d) lt refl)
    (reads a (far place 10) (41 ∷ rest) ss (fs ++ frame_of calls.Ancestors false false d d ∷ []) (d + 1) ok (omega (arith, low))))
reads (Descendants a) place rest ss fs d ok low =
    let lt : d < 64 = omega (arith, low) in
    let body = printed a ++ 41 ∷ rest in
    subst (λ t. Passed place (codes "descendants(" ++ t) rest (fresh ss fs d) (ss ++ (postfix a ++ steps.Descendants ∷ [])) fs) (sym (seam (printed a) rest 41))
    (unary place (far place 12) (codes "descendants(" ++ body) (printed a) rest calls.Descendants d ss (postfix a) fs (opens place (far place 11) (far place 12) (codes "descendants(" ++ body) body calls.Descendants (fresh ss fs d) lt refl)
    (reads a (far place 12) (41 ∷ rest) ss (fs ++ frame_of calls.Descendants false false d d ∷ []) (d + 1) ok (omega (arith, low))))
reads (Heads a) place rest ss fs d ok low =
    let lt : d < 64 = omega (arith, low) in
    let body = printed a ++ 41 ∷ rest in
    subst (λ t. Passed place (codes "heads(" ++ t) rest (fresh ss fs d) (ss ++ (postfix a ++ steps.Heads ∷ [])) fs) (sym (seam (printed a) rest 41))
    (unary place (far place 6) (codes "heads(" ++ body) (printed a) rest calls.Heads d ss (postfix a) fs (opens place (far place 5) (far place 6) (codes "heads(" ++ body) body calls.Heads (fresh ss fs d) lt refl)
    (reads a (far place 6) (41 ∷ rest) ss (fs ++ frame_of calls.Heads false false d d ∷ []) (d + 1) ok (omega (arith, low))))
reads (Roots a) place rest ss fs d ok low =
    let lt : d < 64 = omega (arith, low) in
    let body = printed a ++ 41 ∷ rest in
    subst (λ t. Passed place (codes "roots(" ++ t) rest (fresh ss fs d) (ss ++ (postfix a ++ steps.Roots ∷ [])) fs) (sym (seam (printed a) rest 41))
    (unary place (far place 6) (codes "roots(" ++ body) (printed a) rest calls.Roots d ss (postfix a) fs (opens place (far place 5) (far place 6) (codes "roots(" ++ body) body calls.Roots (fresh ss fs d) lt refl)
    (reads a (far place 6) (41 ∷ rest) ss (fs ++ frame_of calls.Roots false false d d ∷ []) (d + 1) ok (omega (arith, low))))
reads (Not a) place rest ss fs d ok low =
    let lt : d < 64 = omega (arith, low) in
    let next : d + 1 < 64 = omega (arith, low) in
    let body = printed a ++ 41 ∷ rest in
    let q = standing ss fs Wanted false false d (d + 1) in
    let f = frame_of calls.Group false false d (d + 1) in
    let opening : take_bytes place (codes "not(" ++ body) (at_mode Between [] (fresh ss fs d)) ≡ take_bytes (far place 4) body (at_mode Between [] (fresh ss (fs ++ f ∷ []) (d + 1 + 1))) =
    ap (λ b. onward (onward (if b then Ok q else Err (Bad place)) (take_first (far place 3) 40)) (take_bytes (far place 4) body)) (below-deepest d lt)
    ∙ ap (λ b. onward (between (if b then Ok (opened calls.Group q) else Err (Bad (far place 3)))) (take_bytes (far place 4) body)) (below-deepest (d + 1) next) in
    let r = argument place (far place 4) (codes "not(" ++ body) (printed a) rest (fresh ss fs d) calls.Group false false d (d + 1) ss (ss ++ postfix a) fs opening
    (reads a (far place 4) (41 ∷ rest) ss (fs ++ f ∷ []) (d + 1 + 1) ok (omega (arith, low))) in
    record {
      end = r.end;
      parse = standing ((ss ++ postfix a) ++ []) fs First false false d (d + 1);
      stands-there = refl;
      frames = refl;
      ended = negated-ended ss (postfix a) d;
      same = ap (λ t. take_bytes place (codes "not(" ++ t) (at_mode Between [] (fresh ss fs d))) (seam (printed a) rest 41) ∙ r.same;
    }
reads (And a b) place rest ss fs d ok low =
    let lt : d < 64 = omega (arith, low) in
    let body = printed b ++ 41 ∷ rest in
    let tail = codes "and(" ++ body in
    let text : printed (And a b) ++ rest ≡ 40 ∷ printed a ++ 41 ∷ tail =
    ap (λ t. 40 ∷ t) (append_assoc (printed a ++ codes ")and(" ++ printed b) (41 ∷ []) rest ∙ append_assoc (printed a ++ codes ")and(") (printed b) (41 ∷ rest) ∙ append_assoc (printed a) (codes ")and(") body) in
    let r = argument place (place + 1) (40 ∷ printed a ++ 41 ∷ tail) (printed a) tail (fresh ss fs d) calls.Group false false d d ss (ss ++ postfix a) fs
    (opens place place (place + 1) (40 ∷ printed a ++ 41 ∷ tail) (printed a ++ 41 ∷ tail) calls.Group (fresh ss fs d) lt refl)
    (reads a (place + 1) (41 ∷ tail) ss (fs ++ frame_of calls.Group false false d d ∷ []) (d + 1) ok.0 (omega (arith, low))) in
    let ss2 = (((ss ++ postfix a) ++ []) ++ replicate (d - d) steps.Not) ++ [] in
    let q = standing ss2 fs Wanted false true d d in
    let f = frame_of calls.Group false true d d in
    let from = standing ((ss ++ postfix a) ++ []) fs First false false d d in
    let opening : take_bytes r.end tail (at_mode Between [] from) ≡ take_bytes (far r.end 4) body (at_mode Between [] (fresh ss2 (fs ++ f ∷ []) (d + 1))) =
    ap (λ x. onward (between (if x then Ok (opened calls.Group q) else Err (Bad (far r.end 3)))) (take_bytes (far r.end 4) body)) (below-deepest d lt) in
    let t = argument r.end (far r.end 4) tail (printed b) rest from calls.Group false true d d ss2 (ss2 ++ postfix b) fs opening
    (reads b (far r.end 4) (41 ∷ rest) ss2 (fs ++ f ∷ []) (d + 1) ok.1 (omega (arith, low))) in
    record {
      end = t.end;
      parse = standing ((ss2 ++ postfix b) ++ []) fs First false true d d;
      stands-there = refl;
      frames = refl;
      ended = and-ended ss (postfix a) (postfix b) d;
      same = ap (λ x. take_bytes place x (at_mode Between [] (fresh ss fs d))) text ∙ r.same ∙ t.same;
    }
reads (Or a b) place rest ss fs d ok low =
    let lt : d < 64 = omega (arith, low) in
    let body = printed b ++ 41 ∷ rest in
    let tail = codes "or(" ++ body in
    let text : printed (Or a b) ++ rest ≡ 40 ∷ printed a ++ 41 ∷ tail =
    ap (λ t. 40 ∷ t) (append_assoc (printed a ++ codes ")or(" ++ printed b) (41 ∷ []) rest ∙ append_assoc (printed a ++ codes ")or(") (printed b) (41 ∷ rest) ∙ append_assoc (printed a) (codes ")or(") body) in
    let r = argument place (place + 1) (40 ∷ printed a ++ 41 ∷ tail) (printed a) tail (fresh ss fs d) calls.Group false false d d ss (ss ++ postfix a) fs
    (opens place place (place + 1) (40 ∷ printed a ++ 41 ∷ tail) (printed a ++ 41 ∷ tail) calls.Group (fresh ss fs d) lt refl)
    (reads a (place + 1) (41 ∷ tail) ss (fs ++ frame_of calls.Group false false d d ∷ []) (d + 1) ok.0 (omega (arith, low))) in
    let ss2 = ((((ss ++ postfix a) ++ []) ++ replicate (d - d) steps.Not) ++ []) ++ [] in
    let q = standing ss2 fs Wanted true false d d in
    let f = frame_of calls.Group true false d d in
    let from = standing ((ss ++ postfix a) ++ []) fs First false false d d in
    let opening : take_bytes r.end tail (at_mode Between [] from) ≡ take_bytes (far r.end 3) body (at_mode Between [] (fresh ss2 (fs ++ f ∷ []) (d + 1))) =
    ap (λ x. onward (between (if x then Ok (opened calls.Group q) else Err (Bad (far r.end 2)))) (take_bytes (far r.end 3) body)) (below-deepest d lt) in
    let t = argument r.end (far r.end 3) tail (printed b) rest from calls.Group true false d d ss2 (ss2 ++ postfix b) fs opening
    (reads b (far r.end 3) (41 ∷ rest) ss2 (fs ++ f ∷ []) (d + 1) ok.1 (omega (arith, low))) in
    record {
      end = t.end;
      parse = standing ((ss2 ++ postfix b) ++ []) fs First true false d d;
      stands-there = refl;
      frames = refl;
      ended = or-ended ss (postfix a) (postfix b) d;
      same = ap (λ x. take_bytes place x (at_mode Between [] (fresh ss fs d))) text ∙ r.same ∙ t.same;
    }

-- ---- the whole text

short-enough : (n : ℕ) → n ≤ 4096 → nat_le n longest ≡ true
short-enough n le = grind (arith, nat_tests)

no-frames : (p : Parse) → p.frames ≡ [] → (length p.frames == 0) ≡ true
no-frames p e = ap (λ (xs : List Frame). length xs == 0) e

steps_read : (a : Set) → IsPrintable a → depth_of a ≤ 64 → length (printed a) ≤ 4096 → read_steps (printed a) ≡ Ok (postfix a)
steps_read a ok low short =
    let r = reads a 0 [] [] [] 0 ok (omega (arith, low)) in
    let n = length (printed a) in
    let steps-are : steps_of_text (printed a) ≡ Ok (postfix a) =
    ap (λ x. onward x (finish n)) (ap (λ t. take_bytes 0 t (at_mode Between [] start)) (sym (append-nil (printed a))) ∙ r.same)
    ∙ ap (λ b. if b && stands r.parse.level.at then Ok (with_set r.parse).steps else Err (Bad n)) (no-frames r.parse r.frames)
    ∙ ap (λ b. if b then Ok (with_set r.parse).steps else Err (Bad n)) r.stands-there
    ∙ ap (λ (xs : List Step). Ok xs) r.ended in
    ap (limited n) steps-are ∙ ap (λ b. if b then Ok (postfix a) else Err (Bad longest)) (short-enough n short)

pub printed_then_read : (a : Set) → IsPrintable a → depth_of a ≤ 64 → length (printed a) ≤ 4096 → read_set (printed a) ≡ Ok a
printed_then_read a ok low short = ap set_from (steps_read a ok low short) ∙ ap (λ sets. Ok (top_of sets)) (after_postfix a [])
