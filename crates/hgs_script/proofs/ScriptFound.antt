-- What is read is a script, which the bytes are.
use Rattle.std.proofs.Common.{◌≡◌, inl, inr, ℕ, zero, suc, ◌≤◌, Bool, true, false, List, [], ◌∷◌, ◌++◌, length, Option, Some, None, Ok, refl, sym, ◌∙◌, ap, subst, arith, append_assoc, codes}
use Rattle.std.specs.Prelude.{replicate, if◌then◌else◌}
use Rattle.std.specs.List.{concat}
use Rattle.std.proofs.lemmas.List.{append-nil}
use Rattle.hgs_bytes.specs.Bytes.{same}
use Rattle.hgs_bytes.specs.Text.{Lacks, line}
use Rattle.hgs_bytes.specs.Theorems.ByteLemmas.{same-eq}
use Rattle.hgs_bytes.specs.Theorems.TextLemmas.{lacks_front, split_parts}
use Rattle.hgs_model.specs.declared.command.Command.TheVariants.{Commit}
use Rattle.hgs_input.specs.Record.{most_input, record_text}
use Rattle.hgs_input.specs.Read.{Rest, ◌>>=◌, place, next_line, required_at, required, record_from, looked_at, start_of}
use Rattle.hgs_script.specs.declared.job.Job.{Job}
use Rattle.hgs_script.specs.declared.job.Job.TheVariants.{Change}
use Rattle.hgs_script.specs.declared.script.Script.{Script}
use Rattle.hgs_script.specs.Read.{Task, workers_of, call_of, job_of, job_at, task_at, next_task, jobs_from, script_from, read_script}
use Rattle.hgs_script.specs.Script.{IsTaskText, IsWorker, AreTaskTexts, IsScript, HaveRoom, jobs_of_each}
use Rattle.hgs_script.proofs.TaskLemmas.{each_none, with_next, MayFollow, may_follow, room_with}
use Rattle.hgs_script.proofs.ReadLemmas.{TaskFound, task_found, onward}
use Rattle.hgs_script.proofs.LineLemmas.{lacks_behind}
use Rattle.hgs_schedule.specs.Theorems.LineLemmas.{Before, before_both, LineFound, line_found, form_found}
use Rattle.hgs_schedule.specs.Theorems.ReadLemmas.{bound, ok_is, required_is, RecordsStand}
use Rattle.hgs_schedule.specs.Theorems.WholeLemmas.{alone, none_behind, alone_is, nil_is, looked-whole, looked-length}

-- ---- one job

-- what is read as a job behind others, or as the end
abbrev Found : ℕ → List Task → Rest → Option Task → Rest → Type 0
Found n done r None rest = Before r (line (codes "end session")) rest
Found n done r (Some task) rest = (text : List ℕ) × IsTaskText n text task × Before r text rest × MayFollow n done task.0

-- the parts of a line that says a job
record Words (n : ℕ) (done : List Task) (words said : List ℕ) (worker : ℕ) : Type 0 where
  word : List ℕ
  is : words ≡ word ++ 32 ∷ said
  names : IsWorker n word worker
  lacks : Lacks 10 said
  may : MayFollow n done worker

words_found : (n at : ℕ) (done : List Task) (words : List ℕ) (r : Rest) (task : Task) (rest : Rest) → Lacks 10 words → (h : TaskFound at (jobs_of_each 0 n done) words r task rest) → Words n done words h.said task.0
words_found n at done words r task rest lacks h =
    let call = h.call in
    let p = call.parts in
    let parts = split_parts 32 words p call.split in
    let all : Lacks 10 (p.0 ++ 32 ∷ p.1) = subst (Lacks 10) parts.0 lacks in
    let may = may_follow n done task.0 call.room in
    record {
      word = p.0;
      is = parts.0 ∙ ap (λ s. p.0 ++ 32 ∷ s) call.said;
      names = record { plain = (parts.1, lacks_front 10 p.0 (32 ∷ p.1) all); number = call.number; there = may.there };
      lacks = subst (Lacks 10) call.said (lacks_behind 10 p.0 (32 ∷ p.1) all).1;
      may = may;
    }

job_found : RecordsStand → (n at : ℕ) (done : List Task) (words said : List ℕ) (r mid : Rest) (task : Task) (rest : Rest) → LineFound r words mid → Words n done words said task.0 → job_at at said mid ≡ Ok (task.1, rest) → Found n done r (Some task) rest
job_found stand n at done words said r mid task rest found w e = by (same said (codes "commit")) refl e
  where
    by : (t : Bool) → same said (codes "commit") ≡ t → (if t then (record_from mid >>= λ c. Ok (Change (Commit c.0), c.1)) else required_at at (job_of said) mid) ≡ Ok (task.1, rest) → Found n done r (Some task) rest
    by true h k =
        let x = bound (record_from mid) (λ c. Ok (Change (Commit c.0), c.1)) (task.1, rest) k in
        let same_pair = ok_is {A = Job × Rest} (Change (Commit x.value.0), x.value.1) (task.1, rest) x.gives in
        let s = stand mid x.value.1 x.value.0 x.is in
        let text = record_text s.says x.value.0 in
        let is : words ≡ w.word ++ 32 ∷ codes "commit" = w.is ∙ ap (λ b. w.word ++ 32 ∷ b) (same-eq said (codes "commit") h) in
        let mid_rest : Before mid text rest = subst (Before mid text) (ap (λ (q : Job × Rest). q.1) same_pair) (record { is = s.text; whole = s.whole }) in (
          line (w.word ++ 32 ∷ codes "commit") ++ text,
          inr (record { word = w.word; says = s.says; change = x.value.0; is = refl; worker = w.names; valid = s.valid; commits = ap (λ (q : Job × Rest). q.0) same_pair }),
          before_both r mid rest (line (w.word ++ 32 ∷ codes "commit")) text (subst (λ l. Before r (line l) mid) is found.before) mid_rest,
          w.may,
        )
    by false h k =
        let x = required_is at (job_of said) mid (task.1, rest) k in (
          line (w.word ++ 32 ∷ said),
          inl (record { word = w.word; said = said; is = refl; worker = w.names; lacks = w.lacks; says = x.0 }),
          subst (λ q. Before r (line (w.word ++ 32 ∷ said)) q) (sym x.1) (subst (λ l. Before r (line l) mid) w.is found.before),
          w.may,
        )

said_found : RecordsStand → (n at : ℕ) (done : List Task) (words : List ℕ) (r mid : Rest) (p : Option Task × Rest) → LineFound r words mid → task_at at (jobs_of_each 0 n done) words mid ≡ Ok p → Found n done r p.0 p.1
said_found stand n at done words r mid p found e = by (same words (codes "end session")) refl e
  where
    workers : List (List Job)
    workers = jobs_of_each 0 n done

    by : (t : Bool) → same words (codes "end session") ≡ t →
        (if t then Ok (None, mid) else (required_at at (call_of workers words) mid >>= λ call. job_at at call.0.1 call.1 >>= λ job. Ok (Some (call.0.0, job.0), job.1))) ≡ Ok p → Found n done r p.0 p.1
    by true h k =
        let Goal : Option Task × Rest → Type 0 = λ q. Found n done r q.0 q.1 in
        subst Goal (ok_is {A = Option Task × Rest} (None, mid) p k) (subst (λ l. Before r (line l) mid) (same-eq words (codes "end session") h) found.before)
    by false h k =
        let t = task_found at workers words mid p k in
        let f = t.2 in
        subst (λ o. Found n done r o p.1) (sym t.1) (job_found stand n at done words f.said r mid t.0 p.1 found (words_found n at done words mid t.0 p.1 found.lacks f) f.job)

next_found : RecordsStand → (n : ℕ) (done : List Task) (r : Rest) (p : Option Task × Rest) → next_task (jobs_of_each 0 n done) r ≡ Ok p → Found n done r p.0 p.1
next_found stand n done r p e =
    let b = bound (next_line r) (λ l. task_at (place r) (jobs_of_each 0 n done) l.0 l.1) p e in
    said_found stand n (place r) done b.value.0 r b.value.1 p (line_found r b.value b.is) b.gives

-- ---- all jobs

-- jobs that are read behind others, and the last line
record TasksFound (n : ℕ) (done : List Task) (r : Rest) (all : List (List Job)) (rest : Rest) : Type 0 where
  new : List Task
  texts : List (List ℕ)
  is : all ≡ jobs_of_each 0 n (done ++ new)
  are : AreTaskTexts n texts new
  room : HaveRoom (done ++ new)
  before : Before r (concat texts ++ line (codes "end session")) rest

tasks_found : RecordsStand → (n k : ℕ) (done : List Task) (r : Rest) (p : List (List Job) × Rest) → HaveRoom done → jobs_from k (jobs_of_each 0 n done) r ≡ Ok p → TasksFound n done r p.0 p.1
tasks_found stand n zero done r p room e = cc
tasks_found stand n (suc k) done r p room e =
    let b = bound (next_task (jobs_of_each 0 n done) r) (onward k (jobs_of_each 0 n done)) p e in
    by b.value.0 b.value.1 (next_found stand n done r b.value b.is) b.gives (λ task. tasks_found stand n k (done ++ task ∷ []))
  where
    by : (o : Option Task) (mid : Rest) → Found n done r o mid → onward k (jobs_of_each 0 n done) (o, mid) ≡ Ok p →
        ((task : Task) (r : Rest) (p : List (List Job) × Rest) → HaveRoom (done ++ task ∷ []) → jobs_from k (jobs_of_each 0 n (done ++ task ∷ [])) r ≡ Ok p → TasksFound n (done ++ task ∷ []) r p.0 p.1) → TasksFound n done r p.0 p.1
    by None mid found g next =
        let P : List (List Job) × Rest → Type 0 = λ q. TasksFound n done r q.0 q.1 in
        subst P (ok_is {A = List (List Job) × Rest} (jobs_of_each 0 n done, mid) p g)
        (record { new = []; texts = []; is = ap (jobs_of_each 0 n) (sym (append-nil done)); are = tt; room = subst HaveRoom (sym (append-nil done)) room; before = found })
    by (Some task) mid found g next =
        let may = found.3 in
        let more = next task mid p (room_with done task room may.room) (ap (λ w. jobs_from k w mid) (sym (with_next n done task may.there)) ∙ g) in
        let text = found.0 in
        let last = line (codes "end session") in
        let both = before_both r mid p.1 text (concat more.texts ++ last) found.2 more.before in
        let assoc = append_assoc done (task ∷ []) more.new in
        record {
          new = task ∷ more.new;
          texts = text ∷ more.texts;
          is = more.is ∙ ap (jobs_of_each 0 n) assoc;
          are = (found.1, more.are);
          room = subst HaveRoom assoc more.room;
          before = subst (λ t. Before r t p.1) (sym (append_assoc text (concat more.texts) last)) both;
        }

-- ---- the whole

pub script_found : RecordsStand → (bytes : List ℕ) (s : Script) → read_script bytes ≡ Ok s → IsScript bytes s
script_found stand bytes s e =
    let r = start_of bytes in
    let a = bound (script_from r) alone s e in
    let b = bound (required workers_of r) (λ n. jobs_from (length n.1.bytes) (replicate n.0 []) n.1 >>= λ all. Ok (record { workers = all.0 }, all.1)) a.value a.is in
    let n = b.value in
    let c = bound (jobs_from (length n.1.bytes) (replicate n.0 []) n.1) (λ all. Ok (record { workers = all.0 }, all.1)) a.value b.gives in
    let all = c.value in
    let made : Script = record { workers = all.0 } in
    let same = ok_is {A = Script × Rest} (made, all.1) a.value c.gives in
    let first = form_found workers_of r n b.is in
    let rest = tasks_found stand n.0 (length n.1.bytes) [] n.1 all (λ worker. omega arith) (ap (λ w. jobs_from (length n.1.bytes) w n.1) (sym (each_none 0 n.0)) ∙ c.is) in
    let given : alone (made, all.1) ≡ Ok s = ap alone same ∙ a.gives in
    let none = none_behind all.1 made s given in
    let done : made ≡ s = alone_is made all.1 s given in
    let before = before_both r n.1 all.1 (line first.said) (concat rest.texts ++ line (codes "end session")) first.found.before rest.before in
    let whole : all.1.whole ≡ length (looked_at bytes) = before.whole in
    let room = none.room in
    let few = looked-length bytes (subst (λ k. k ≤ most_input) whole room) in
    let text = line first.said ++ (concat rest.texts ++ line (codes "end session")) in
    let is : bytes ≡ text = sym (looked-whole bytes few) ∙ before.is ∙ ap (λ t. text ++ t) (nil_is all.1.bytes none.none) ∙ append-nil text in
    subst (IsScript bytes) done (record {
      first = first.said;
      texts = rest.texts;
      count = n.0;
      tasks = rest.new;
      is = is;
      lacks = first.found.lacks;
      counted = first.says;
      are = rest.are;
      room = rest.room;
      workers = rest.is;
      size = few;
    })
