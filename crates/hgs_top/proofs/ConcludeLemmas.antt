-- A question that was told and concluded was answered.
use Rattle.std.proofs.Common.{◌≡◌, ℕ, zero, suc, List, [], ◌++◌, length, take, Option, Some, Result, Ok, Err, refl, sym, ◌∙◌, ap, subst, arith, append-nil, inl, inr}
use Rattle.std.specs.Prelude.{◌⊎◌}
use Rattle.std.proofs.lemmas.List.{take_all}
use Rattle.hgs_files.specs.declared.streams.IoFault.{IoFault}
use Rattle.hgs_files.specs.declared.streams.IoFault.TheVariants as io_faults
use Rattle.hgs_files.specs.Streams.{IsWritten}
use Rattle.hgs_load.specs.declared.answer.ReadAnswer.{ReadAnswer}
use Rattle.hgs_load.specs.declared.answer.ReadAnswer.TheVariants.{Damaged, Fault, Limit, UnknownPath, NotARepository, Requirement, Memory}
use Rattle.hgs_load.specs.Answer.{status_of, refusal_line}
use Rattle.hgs_top.specs.declared.stopped.Stopped.{Stopped}
use Rattle.hgs_top.specs.declared.stopped.Stopped.TheVariants.{Refused, Unwritten}
use Rattle.hgs_top.specs.declared.stopped.Said.{Said}
use Rattle.hgs_top.specs.declared.stopped.Said.TheVariants.{Whole, UnknownRevision, BadSet}
use Rattle.hgs_top.specs.Outcome.{Outcome, Reply, told, unknown_revision, bad_set}
use Rattle.hgs_top.specs.Run.{IsReplied, IsCut, Answered, Ends, EndsLine, Concludes, Replied, bad_set_line, fault_line, memory_line, unknown_line, status_of_ending, ending_of, status_of_sink}
use Rattle.hgs_top.proofs.Written.{adds_on, cut_on, cut_more, nothing}

-- a run that has no memory for its line says so
pub no_memory : (line : List ℕ) (wanted status : ℕ) (old new : Option (List ℕ)) → EndsLine memory_line 30 status old new → EndsLine line wanted status old new
no_memory line wanted status old new (inl l) = inr (inl l)
no_memory line wanted status old new (inr (inl l)) = inr (inl l)
no_memory line wanted status old new (inr (inr (s, inl f))) = inr (inr (s, inr f))
no_memory line wanted status old new (inr (inr (s, inr f))) = inr (inr (s, inr f))

-- of a text some was written, and then the run ended with a line
module _ (Faulted : Type 0) (text ending : List ℕ) (wanted : ℕ) (first old new : Option (List ℕ)) (status : ℕ) where
  -- a front of the text, and what is cut behind it
  cut_behind : (n : ℕ) (line : List ℕ) → IsWritten first old (take n text) → IsCut old new line → IsCut first new (take n text ++ line)
  cut_behind n line w f = cut_on first old new (take n text) line [] (take n text ++ line) w f (ap (λ l. take n text ++ l) (append-nil line))

  -- all of the text, and its ending
  end_whole : IsWritten first old text → EndsLine ending wanted status old new → Ends Faulted text ending wanted status first new
  end_whole w (inl l) = inl (l.0, adds_on first old new text ending (text ++ ending) w l.1 refl)
  end_whole w (inr l) = by l
    where
      all : IsWritten first old (take (length text) text)
      all = let P : List ℕ → Type 0 = λ b. IsWritten first old b in subst P (sym (take_all (length text) text (omega arith))) w

      by : ((status ≡ 30) × IsWritten old new memory_line) ⊎ (((status ≡ 19) ⊎ (status ≡ 30)) × (IsCut old new ending ⊎ IsCut old new memory_line)) → Ends Faulted text ending wanted status first new
      by (inl m) = inr (inr (inl (m.0, (length text, adds_on first old new (take (length text) text) memory_line (take (length text) text ++ memory_line) all m.1 refl))))
      by (inr (s, inl f)) = inr (inr (inr (s, inl (cut_on first old new text ending [] (text ++ ending) w f (ap (λ l. text ++ l) (append-nil ending))))))
      by (inr (s, inr f)) = inr (inr (inr (s, inr (inr (length text, cut_behind (length text) memory_line all f)))))

  -- a front of it, and the line of the files
  end_fault : Faulted → (n : ℕ) → IsWritten first old (take n text) → EndsLine fault_line 16 status old new → Ends Faulted text ending wanted status first new
  end_fault faulted n w (inl l) = inr (inl (l.0, faulted, (n, adds_on first old new (take n text) fault_line (take n text ++ fault_line) w l.1 refl)))
  end_fault faulted n w (inr (inl l)) = inr (inr (inl (l.0, (n, adds_on first old new (take n text) memory_line (take n text ++ memory_line) w l.1 refl))))
  end_fault faulted n w (inr (inr (s, inl f))) = inr (inr (inr (s, inr (inl (faulted, (n, cut_behind n fault_line w f))))))
  end_fault faulted n w (inr (inr (s, inr f))) = inr (inr (inr (s, inr (inr (n, cut_behind n memory_line w f)))))

  -- a front of it, and the line of want of memory
  end_memory : (n : ℕ) → IsWritten first old (take n text) → EndsLine memory_line 30 status old new → Ends Faulted text ending wanted status first new
  end_memory n w (inl l) = inr (inr (inl (l.0, (n, adds_on first old new (take n text) memory_line (take n text ++ memory_line) w l.1 refl))))
  end_memory n w (inr (inl l)) = inr (inr (inl (l.0, (n, adds_on first old new (take n text) memory_line (take n text ++ memory_line) w l.1 refl))))
  end_memory n w (inr (inr (s, inl f))) = inr (inr (inr (s, inr (inr (n, cut_behind n memory_line w f)))))
  end_memory n w (inr (inr (s, inr f))) = inr (inr (inr (s, inr (inr (n, cut_behind n memory_line w f)))))

sink_status : (f : IoFault) (status : ℕ) → status ≡ status_of_sink f → (status ≡ 19) ⊎ (status ≡ 30)
sink_status io_faults.Failed status e = inl e
sink_status io_faults.Memory status e = inr e

-- the refusal is the repository's
of_inside : (Faulted : Type 0) (o : Outcome) (first old new : Option (List ℕ)) (status : ℕ) (e : ReadAnswer) → o.refusal ≡ Some e → IsWritten first old o.text → EndsLine (refusal_line e) (status_of e) status old new → Answered Faulted o status first new
of_inside Faulted o first old new status e r w l =
    let P : Option ReadAnswer → Type 0 = λ q. EndsLine (ending_of q) (status_of_ending q) status old new in
    end_whole Faulted o.text (ending_of o.refusal) (status_of_ending o.refusal) first old new status w (subst P (sym r) l)

module _ (Faulted : Type 0) (o : Outcome) (first old new : Option (List ℕ)) (status : ℕ) where
  concluded : (r : Result Said Stopped) → (r ≡ Err (Refused Fault) → Faulted) → IsReplied (told o) first old r → Concludes r old new status → Answered Faulted o status first new
  concluded (Ok UnknownRevision) cause h c = absurd h
  concluded (Ok (BadSet place)) cause h c = absurd h
  concluded (Ok Whole) cause h c =
      let P : Option (List ℕ) → Type 0 = λ n. IsWritten first n (o.text ++ ending_of o.refusal) in
      let Q : List ℕ → Type 0 = λ b. IsWritten first old b in
      inl (c.0 ∙ sym (ap status_of_ending h.0), subst P (sym c.1) (subst Q (sym (ap (λ q. o.text ++ ending_of q) h.0 ∙ append-nil o.text)) h.1))
  concluded (Err (Refused (Damaged d))) cause h c = of_inside Faulted o first old new status (Damaged d) h.0 h.1 c
  concluded (Err (Refused Fault)) cause h c = end_fault Faulted o.text (ending_of o.refusal) (status_of_ending o.refusal) first old new status (cause refl) h.0 h.1 c
  concluded (Err (Refused (Limit w))) cause h c = of_inside Faulted o first old new status (Limit w) h.0 h.1 c
  concluded (Err (Refused UnknownPath)) cause h c = of_inside Faulted o first old new status UnknownPath h.0 h.1 c
  concluded (Err (Refused NotARepository)) cause h c = of_inside Faulted o first old new status NotARepository h.0 h.1 c
  concluded (Err (Refused (Requirement w))) cause h c = of_inside Faulted o first old new status (Requirement w) h.0 h.1 c
  concluded (Err (Refused Memory)) cause h c = end_memory Faulted o.text (ending_of o.refusal) (status_of_ending o.refusal) first old new status h.0 h.1 c
  concluded (Err (Unwritten f)) cause h c =
      let P : Option (List ℕ) → Type 0 = λ n. IsCut first n (o.text ++ ending_of o.refusal) in
      inr (inr (inr (sink_status f status c.0, inl (subst P (sym c.1) (cut_more first old o.text (ending_of o.refusal) h)))))

-- nothing was written before
stays : (first old : Option (List ℕ)) (n : ℕ) → old ≡ first → IsWritten first old (take n (let l : List ℕ = [] in l))
stays first old zero e = let P : Option (List ℕ) → Type 0 = λ o. IsWritten first o [] in subst P (sym e) (nothing first)
stays first old (suc n) e = let P : Option (List ℕ) → Type 0 = λ o. IsWritten first o [] in subst P (sym e) (nothing first)

pub replied : (Faulted : Type 0) (reply : Reply) (first old new : Option (List ℕ)) (status : ℕ) (r : Result Said Stopped) → (r ≡ Err (Refused Fault) → Faulted) → IsReplied reply first old r → Concludes r old new status → Replied Faulted reply status first new
replied Faulted (told o) first old new status r cause h c = concluded Faulted o first old new status r cause h c
replied Faulted unknown_revision first old new status (Ok Whole) cause h c = absurd h
replied Faulted unknown_revision first old new status (Ok UnknownRevision) cause h c = end_whole Faulted [] unknown_line 12 first old new status (stays first old 0 h) c
replied Faulted unknown_revision first old new status (Err (Refused (Damaged d))) cause h c = absurd h
replied Faulted unknown_revision first old new status (Err (Refused Fault)) cause h c = end_fault Faulted [] unknown_line 12 first old new status (cause refl) 0 (stays first old 0 h) c
replied Faulted unknown_revision first old new status (Err (Refused (Limit w))) cause h c = absurd h
replied Faulted unknown_revision first old new status (Err (Refused UnknownPath)) cause h c = absurd h
replied Faulted unknown_revision first old new status (Err (Refused NotARepository)) cause h c = absurd h
replied Faulted unknown_revision first old new status (Err (Refused (Requirement w))) cause h c = absurd h
replied Faulted unknown_revision first old new status (Err (Refused Memory)) cause h c = end_memory Faulted [] unknown_line 12 first old new status 0 (stays first old 0 h) c
replied Faulted unknown_revision first old new status (Err (Unwritten f)) cause h c = absurd h
replied Faulted unknown_revision first old new status (Ok (BadSet place)) cause h c = absurd h
replied Faulted (bad_set place) first old new status (Ok Whole) cause h c = absurd h
replied Faulted (bad_set place) first old new status (Ok UnknownRevision) cause h c = absurd h
replied Faulted (bad_set place) first old new status (Ok (BadSet at)) cause h c =
    let P : ℕ → Type 0 = λ p. EndsLine (bad_set_line p) 33 status old new in
    end_whole Faulted [] (bad_set_line place) 33 first old new status (stays first old 0 h.1) (subst P h.0 c)
replied Faulted (bad_set place) first old new status (Err (Refused (Damaged d))) cause h c = absurd h
replied Faulted (bad_set place) first old new status (Err (Refused Fault)) cause h c = end_fault Faulted [] (bad_set_line place) 33 first old new status (cause refl) 0 (stays first old 0 h) c
replied Faulted (bad_set place) first old new status (Err (Refused (Limit w))) cause h c = absurd h
replied Faulted (bad_set place) first old new status (Err (Refused UnknownPath)) cause h c = absurd h
replied Faulted (bad_set place) first old new status (Err (Refused NotARepository)) cause h c = absurd h
replied Faulted (bad_set place) first old new status (Err (Refused (Requirement w))) cause h c = absurd h
replied Faulted (bad_set place) first old new status (Err (Refused Memory)) cause h c = end_memory Faulted [] (bad_set_line place) 33 first old new status 0 (stays first old 0 h) c
replied Faulted (bad_set place) first old new status (Err (Unwritten f)) cause h c = absurd h
