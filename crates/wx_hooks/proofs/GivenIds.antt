-- Which ids were given, and what is held of the job of an id.
use Rattle.std.proofs.Common.{◌≡◌, ℕ, ◌<◌, ◌≤◌, ◌+◌, Bool, true, false, cond, List, [], ◌∷◌, ◌++◌, arith, refl, ap, sym, subst, ◌∙◌}
use Rattle.std.specs.Prelude.{Option, None, Some, is_some, ◌||◌}
use Rattle.std.proofs.lemmas.Bool.{eqb-true, or_right, or_parts}
use Rattle.std.specs.List.{find}
use Rattle.std.proofs.Math.Bool.{or-false}
use Rattle.wx_command.specs.declared.command.Command.{Command}
use Rattle.wx_control.specs.declared.id.Id.{Id}
use Rattle.wx_journal.specs.declared.entry.Entry.{Entry}
use Rattle.wx_journal.specs.Acts.{JournalAct as Act}
use Rattle.wx_journal.specs.declared.entry.Act.TheVariants.{Create, Ask, Change, Quit, QuitGracefully}
use Rattle.wx_journal.specs.Names.{above, next_job, creates, was_made}
use Rattle.wx_machine.specs.History.{same, creation}
use Rattle.wx_machine.specs.Jobs.{is_seen, is_given, is_there, next_created}
use Rattle.wx_machine.proofs.Owners.{self, same-is}
use Rattle.wx_journal.proofs.CountLaws.{unmade}
use Rattle.wx_machine.proofs.JobSets.{seen_made}
use Rattle.wx_hooks.specs.declared.handler.Todo.{Todo}
use Rattle.wx_hooks.specs.declared.handler.Todo.TheVariants as todo
use Rattle.wx_hooks.specs.declared.held.Held.{Held}
use Rattle.wx_hooks.specs.Handled.{with_job}
use Rattle.wx_hooks.specs.HeldJobs.{IsHandle, AreShown, is_of}
use Rattle.wx_hooks.specs.Todo.{IsNew, AreTodo, is_creation, held_by, created_under, first_of, held_under}
use Rattle.wx_hooks.proofs.HandlerLemmas.{next_grows}
use Rattle.wx_hooks.proofs.HeldLemmas.{there_some, there_none, handle_some}

-- ---- a new id

created_or : (n m : ℕ) (job id : Id) (t : Bool) (b : Bool) → same job id ≡ b → above n job ≤ m → (t ≡ true → id.0 < m) → (b || t) ≡ true → id.0 < m
created_or n m job id t true is le more e = let its : job.0 ≡ id.0 = eqb-true job.0 id.0 is in omega (arith, its, le)
created_or n m job id t false is le more e = more e

creates_below : (n : ℕ) (id : Id) (acts : List Act) → creates id acts ≡ true → id.0 < next_created n acts
creates_below n id [] e = absurd cc
creates_below n id (Create job command ∷ acts) e = created_or n (next_created (above n job) acts) job id (creates id acts) (same job id) refl (next_grows (above n job) acts) (creates_below (above n job) id acts) e
creates_below n id (Ask job ask ∷ acts) e = creates_below n id acts e
creates_below n id (Change change ∷ acts) e = creates_below n id acts e
creates_below n id (Quit ∷ acts) e = creates_below n id acts e
creates_below n id (QuitGracefully signal grace ∷ acts) e = creates_below n id acts e

not_created : (n : ℕ) (id : Id) (acts : List Act) → next_created n acts ≤ id.0 → creates id acts ≡ false
not_created n id acts le = by_created (creates id acts) refl
  where
    by_created : (b : Bool) → creates id acts ≡ b → b ≡ false
    by_created true e = absurd (omega (arith, le, creates_below n id acts e))
    by_created false e = refl

pub fresh_id : (p : List Entry) (acts : List Act) (id : Id) → next_created (next_job p) acts ≤ id.0 → is_given p acts id ≡ false
fresh_id p acts id le = rw (not_created (next_job p) id acts le, unmade id p (omega (arith, le, next_grows (next_job p) acts))) refl

-- ---- what is held under an id

-- of the jobs that these acts create
record IsCreated (id : Id) (acts : List Act) (found : Option Held) : Type 0 where
  there : is_some found ≡ creates id acts
  its : (h : Held) → found ≡ Some h → h.handle.id ≡ id
  runs : (h : Held) → found ≡ Some h → creation id acts ≡ Some h.handle.command

by_first : (id job : Id) (command : Command) (acts : List Act) (held : Held) (rest : List Todo) (b : Bool) → same job id ≡ b → IsNew held job command → IsCreated id acts (created_under id rest) → IsCreated id (Create job command ∷ acts) (held_by (cond b (Some (todo.Create held)) (find (is_creation id) rest)))
by_first id job command acts held rest true is new more = record {
  there = rw is refl;
  its = λ h e. (let one : held ≡ h = cc in ap (λ (x : Held). x.handle.id) (sym one) ∙ new.handle_id ∙ same-is job id is);
  runs = λ h e. (let one : held ≡ h = cc in rw is (ap (λ (c : Command). Some c) (sym new.handle_command) ∙ ap (λ (x : Held). Some x.handle.command) one));
}
by_first id job command acts held rest false is new more = record { there = rw is more.there; its = more.its; runs = λ h e. rw is (more.runs h e) }

created_is : (id : Id) (acts : List Act) (rest : List Todo) → AreTodo acts rest → IsCreated id acts (created_under id rest)
created_is id [] [] t = record { there = refl; its = λ h e. cc; runs = λ h e. cc }
created_is id [] (x ∷ rest) t = absurd t
created_is id (Create job command ∷ acts) [] t = absurd t
created_is id (Create job command ∷ acts) (todo.Create held ∷ rest) t =
    subst (λ (i : Id). IsCreated id (Create job command ∷ acts) (held_by (cond (same i id) (Some (todo.Create held)) (find (is_creation id) rest)))) (sym t.0.handle_id)
    (by_first id job command acts held rest (same job id) refl t.0 (created_is id acts rest t.1))
created_is id (Create job command ∷ acts) (todo.Ask j a done ∷ rest) t = absurd t
created_is id (Create job command ∷ acts) (todo.Change c ∷ rest) t = absurd t
created_is id (Ask job ask ∷ acts) [] t = absurd t
created_is id (Ask job ask ∷ acts) (todo.Create held ∷ rest) t = absurd t
created_is id (Ask job ask ∷ acts) (todo.Ask j a done ∷ rest) t = let h = created_is id acts rest t.2 in record { there = h.there; its = h.its; runs = h.runs }
created_is id (Ask job ask ∷ acts) (todo.Change c ∷ rest) t = absurd t
created_is id (Change change ∷ acts) [] t = absurd t
created_is id (Change change ∷ acts) (todo.Create held ∷ rest) t = absurd t
created_is id (Change change ∷ acts) (todo.Ask j a done ∷ rest) t = absurd t
created_is id (Change change ∷ acts) (todo.Change c ∷ rest) t = let h = created_is id acts rest t.1 in record { there = h.there; its = h.its; runs = h.runs }
created_is id (Quit ∷ acts) rest t = let h = created_is id acts rest t in record { there = h.there; its = h.its; runs = h.runs }
created_is id (QuitGracefully signal grace ∷ acts) rest t = let h = created_is id acts rest t in record { there = h.there; its = h.its; runs = h.runs }

-- of those, and of the jobs that a handler sees
pub record IsUnder (p : List Entry) (acts : List Act) (id : Id) (found : Option Held) : Type 0 where
  pub there : is_some found ≡ is_there p acts id
  pub its : (h : Held) → found ≡ Some h → h.handle.id ≡ id
  pub seen : (h : Held) → found ≡ Some h → is_seen id p ≡ true → IsHandle p id h.handle
  pub created : (h : Held) → found ≡ Some h → is_seen id p ≡ false → creation id acts ≡ Some h.handle.command

under_by : (p : List Entry) (acts : List Act) (id : Id) (held : List Held) (rest : List Todo) (o : Option Held) → find (is_of id) held ≡ o → AreShown p held → AreTodo acts rest → IsUnder p acts id (first_of o (created_under id rest))
under_by p acts id held rest (Some h) is shown t =
    let here : is_seen id p ≡ true = sym (there_some p id held h shown (sym is)) in
    let handle : IsHandle p id h.handle = handle_some p id held h shown (sym is) in
    record {
      there = sym (ap (λ b. creates id acts || b) here ∙ or_right (creates id acts) true refl);
      its = λ x e. (let one : h ≡ x = cc in ap (λ (y : Held). y.handle.id) (sym one) ∙ handle.names);
      seen = λ x e s. (let one : h ≡ x = cc in subst (λ (y : Held). IsHandle p id y.handle) one handle);
      created = λ x e s. (let both : true ≡ false = sym here ∙ s in absurd cc);
    }
under_by p acts id held rest None is shown t =
    let none : is_seen id p ≡ false = sym (there_none p id held shown (sym is)) in
    let h = created_is id acts rest t in
    record {
      there = h.there ∙ sym (ap (λ b. creates id acts || b) none ∙ or-false (creates id acts));
      its = h.its;
      seen = λ x e s. (let both : true ≡ false = sym s ∙ none in absurd cc);
      created = λ x e s. h.runs x e;
    }

pub under_is : (p : List Entry) (acts : List Act) (id : Id) (held : List Held) (rest : List Todo) → AreShown p held → AreTodo acts rest → IsUnder p acts id (held_under id held rest)
under_is p acts id held rest shown t = under_by p acts id held rest (find (is_of id) held) refl shown t

-- what is found is the job that is there
pub record IsThere (p : List Entry) (acts : List Act) (id : Id) (h : Held) : Type 0 where
  pub there : is_there p acts id ≡ true
  pub its : h.handle.id ≡ id
  pub seen : is_seen id p ≡ true → IsHandle p id h.handle
  pub created : is_seen id p ≡ false → creation id acts ≡ Some h.handle.command
  pub no_more : (command : Command) → with_job p id command acts ≡ acts

pub found_is : (p : List Entry) (acts : List Act) (id : Id) (held : List Held) (rest : List Todo) (h : Held) → AreShown p held → AreTodo acts rest → Some h ≡ held_under id held rest → IsThere p acts id h
found_is p acts id held rest h shown t is =
    let under = under_is p acts id held rest shown t in
    let there : is_there p acts id ≡ true = sym under.there ∙ ap (λ (o : Option Held). is_some o) (sym is) in
    record { there = there; its = under.its h (sym is); seen = under.seen h (sym is); created = under.created h (sym is); no_more = λ command. rw there refl }

-- and where none is found, none is there
pub none_is : (p : List Entry) (acts : List Act) (id : Id) (held : List Held) (rest : List Todo) → AreShown p held → AreTodo acts rest → None ≡ held_under id held rest → is_there p acts id ≡ false
none_is p acts id held rest shown t is = sym (under_is p acts id held rest shown t).there ∙ ap (λ (o : Option Held). is_some o) (sym is)

-- what is to be done first for this id is the creation of its job, if anything
pub creation_found : (id : Id) (held : Held) (rest : List Todo) → Some (todo.Create held) ≡ find (is_creation id) rest → Some held ≡ created_under id rest
creation_found id held rest is = ap held_by is

-- ---- one that is there was given

there_or : (c s m : Bool) → (s ≡ true → m ≡ true) → (c || s) ≡ true → (c || m) ≡ true
there_or true s m h e = refl
there_or false s m h e = h e

pub there_given : (p : List Entry) (acts : List Act) (id : Id) → is_there p acts id ≡ true → is_given p acts id ≡ true
there_given p acts id e = there_or (creates id acts) (is_seen id p) (was_made id p) (seen_made p id) e

-- and so was one that was made
pub was_given : (p : List Entry) (acts : List Act) (id : Id) → was_made id p ≡ true → is_given p acts id ≡ true
was_given p acts id made = or_right (creates id acts) (was_made id p) made

neither_given : (c s m : Bool) → (c || s) ≡ false → m ≡ false → (c || m) ≡ false
neither_given true s m e f = absurd cc
neither_given false s m e f = f

pub not_given : (p : List Entry) (acts : List Act) (id : Id) → is_there p acts id ≡ false → was_made id p ≡ false → is_given p acts id ≡ false
not_given p acts id e f = neither_given (creates id acts) (is_seen id p) (was_made id p) e f

pub not_creates : (p : List Entry) (acts : List Act) (id : Id) → is_there p acts id ≡ false → creates id acts ≡ false
not_creates p acts id e = (or_parts (creates id acts) (is_seen id p) e).0

-- so it is created behind the acts
pub job_added : (p : List Entry) (acts : List Act) (id : Id) (command : Command) → is_there p acts id ≡ false → with_job p id command acts ≡ acts ++ Create id command ∷ []
job_added p acts id command e = rw e refl

pub not_unseen : (p : List Entry) (acts : List Act) (id : Id) → is_there p acts id ≡ false → is_seen id p ≡ false
not_unseen p acts id e = (or_parts (creates id acts) (is_seen id p) e).1

-- a job that is created last, under an id under which none was
pub creation_last : (id : Id) (acts : List Act) (command : Command) → creates id acts ≡ false → creation id (acts ++ Create id command ∷ []) ≡ Some command
creation_last id [] command e = rw (self id) refl
creation_last id (Create job other ∷ acts) command e = let parts = or_parts (same job id) (creates id acts) e in rw (parts.0) (creation_last id acts command parts.1)
creation_last id (Ask job ask ∷ acts) command e = creation_last id acts command e
creation_last id (Change change ∷ acts) command e = creation_last id acts command e
creation_last id (Quit ∷ acts) command e = creation_last id acts command e
creation_last id (QuitGracefully signal grace ∷ acts) command e = creation_last id acts command e
