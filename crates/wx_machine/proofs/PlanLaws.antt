-- What the plans of a run let come, and what they name.
use Rattle.std.proofs.Common.{◌≡◌, ℕ, ◌+◌, Bool, true, false, cond, List, [], ◌∷◌, arith, refl, ap, sym, subst, ◌∙◌, eq-eqb}
use Rattle.std.specs.Prelude.{◌==◌, ◌||◌, T, Option, None, Some}
use Rattle.std.proofs.lemmas.Bool.{or_right}
use Rattle.wx_command.specs.declared.command.Command.{Command}
use Rattle.wx_config.specs.Changes.{changed}
use Rattle.wx_config.specs.declared.change.Change.{Change as AChange}
use Rattle.wx_config.specs.declared.change.Change.TheVariants.{Signal as SignalChange, Pathset, FileWatcher, FollowSymlinks, KeyboardEvents, Throttle, Filterer, OnError, OnAction}
use Rattle.wx_config.specs.declared.config.Config.{Config}
use Rattle.wx_control.specs.declared.id.Id.{Id}
use Rattle.wx_control.specs.declared.ask.Ask.{Ask as AnAsk}
use Rattle.wx_control.specs.declared.control.Control.{Control}
use Rattle.wx_control.specs.declared.level.Level.{Level}
use Rattle.wx_control.specs.Asks.{sends_of}
use Rattle.wx_journal.specs.Acts.{JournalAct as Act}
use Rattle.wx_journal.specs.declared.entry.Act.TheVariants.{Create, Ask, Change, Quit, QuitGracefully}
use Rattle.wx_journal.specs.declared.entry.Entry.{Entry}
use Rattle.wx_journal.specs.declared.entry.Entry.TheVariants.{Word as Said, Made, Asked, Changed, GraceOver, Spawn, Signal, Dropped, Gone}
use Rattle.wx_journal.specs.Sorts.{Subject, OfRun, OfTurn, OfEvents, OfSettings, OfFiles, sort}
use Rattle.wx_journal.specs.declared.entry.Word.TheVariants.{Ignored}
use Rattle.wx_journal.specs.Names.{Names, NamesItsOwn, creates, is_created, ticket_count}
use Rattle.wx_machine.specs.History.{same, lives, child}
use Rattle.wx_machine.specs.Table.{Plan, Done, adds, asks, step_plan, ask_second, ask_plan, drop_plan, end_plan}
use Rattle.wx_machine.specs.Case.{PlanAdmits, is_planned, next}
use Rattle.wx_machine.specs.TicketLaws.{is_of, AllWait, IsPlaced}
use Rattle.wx_machine.proofs.Owners.{same-is, either}
use Rattle.wx_machine.proofs.Functions.{begun_none}
use Rattle.wx_machine.proofs.JobSets.{may_dead, lawful_made}
use Rattle.wx_machine.proofs.Always.{Always, always_now, always_next, always_also}
use Rattle.wx_machine.proofs.Sound.{IsOwn, Fits, own_fit, own_runs, IsSound, Sound, sound_step, sound_ask, sound_end}
use Rattle.wx_machine.specs.Afterwards.{IsAtLevel}
use Rattle.wx_machine.proofs.AfterwardsLemmas.{AreAtLevel, sends_first, sends_second}
use Rattle.wx_machine.proofs.Places.{placed_silent, placed_dropped}
use Rattle.wx_machine.proofs.Moves.{placed_made, placed_gone}
use Rattle.wx_machine.proofs.Placing.{Placing}
use Rattle.wx_machine.proofs.PlacedPlans.{placed_step, placed_asks, placed_ask}
use Rattle.wx_machine.specs.Jobs.{AreLawful, change_plan, act_plan, jobs, first_end, end}
use Rattle.wx_machine.specs.Start.{Start}
use Rattle.wx_machine.specs.Settings.{changes, later, pending, first_changed, settings, revision}
use Rattle.wx_machine.proofs.Lawful.{IsOfPlan, IsOfEnd, IsFree, LetsGo, InOrder, Revises, IsLawful, Lawful}

pub lawful_now : (p : List Entry) (k : Plan) (e : Entry) → PlanAdmits p k e → Lawful p k → IsLawful p e (next k e)
lawful_now p k e d l = always_now IsLawful p k e d l.each

pub placed_now : (p : List Entry) (k : Plan) (e : Entry) → PlanAdmits p k e → Lawful p k → IsPlaced (e ∷ p)
placed_now p k e d l = always_now Placing p k e d l.placed

pub lawful_next : (p : List Entry) (k : Plan) (e : Entry) → PlanAdmits p k e → Lawful p k → Lawful (e ∷ p) (next k e)
lawful_next p k e d l = record { each = always_next IsLawful p k e d l.each; placed = always_next Placing p k e d l.placed }

-- ---- the plans of a job

order_fit : (id : Id) (e : Entry) (p : List Entry) → Fits id p e → InOrder p e
order_fit id (Made job) p s = absurd s
order_fit id (_) p s = tt

-- what is the job's own is of a plan
own_planned : (id : Id) (p : List Entry) (subject : Subject) → IsOwn id p subject → T (is_planned subject)
own_planned id p OfRun s = absurd s
own_planned id p OfTurn s = absurd s
own_planned id p OfEvents s = absurd s
own_planned id p OfSettings s = absurd s
own_planned id p OfFiles s = absurd s
own_planned id p (_) s = tt

pub plan_fit : (id : Id) (e : Entry) (p : List Entry) → Fits id p e → IsOfPlan e
plan_fit id (Said word) p s = s
plan_fit id (e) p s = own_planned id p (sort e).subject (own_fit id e p s)

free_fit : (id : Id) (e : Entry) (k : Plan) (p : List Entry) → IsSound id p e k → IsFree p e
free_fit id (Spawn c job tag what answer) k p s = rw s.fits.0 (s.alive, s.fits.1)
free_fit id (Gone job) k p s = rw s.fits.0 s.fits.1
free_fit id (GraceOver job) k p s = rw s.fits.0 (s.fits.1, s.fits.2)
free_fit id (Signal c number answer) k p s = (id, s.fits.0, s.fits.1)
free_fit id (Asked t job level control) k p s = s.fits.2
free_fit id (e) k p s = own_runs id p (sort e).subject (own_fit id e p s.fits)

go_fit : (id : Id) (e : Entry) (k : Plan) (p : List Entry) → IsSound id p e k → LetsGo p e k
go_fit id (Dropped c) k p s = (id, s.fits, s.closes)
go_fit id (_) k p s = tt

lawful_fit : (id : Id) (p : List Entry) (e : Entry) (k : Plan) → NamesItsOwn p → IsSound id p e k → IsLawful p e k
lawful_fit id p e k own s = record { names = s.names own; in_order = order_fit id e p s.fits; free = free_fit id e k p s; of_plan = plan_fit id e p s.fits; lets_go = go_fit id e k p s }

each_sound : (id : Id) (p : List Entry) (k : Plan) → NamesItsOwn p → Sound id p k → Always IsLawful p k
each_sound id p k own s = always_also NamesItsOwn (IsSound id) IsLawful (λ q e j own s. let l = lawful_fit id q e j own s in (l, (l.names, own))) p k own s

pub lawful_step : (id : Id) (command : Command) (p : List Entry) → NamesItsOwn p → IsPlaced p → Lawful p (step_plan id command p)
lawful_step id command p own h = record { each = each_sound id p (step_plan id command p) own (sound_step false id command p); placed = placed_step false id command p h }

pub lawful_ask : (id : Id) (ask : AnAsk) (p : List Entry) → NamesItsOwn p → IsPlaced p → lives id p ≡ true → Lawful p (ask_plan id (sends_of ask) Done)
lawful_ask id ask p own h alive = record { each = each_sound id p (ask_plan id (sends_of ask) Done) own (sound_ask id ask p alive); placed = placed_ask id ask p alive h }

-- ---- the plan of acts

each_asked : (id : Id) (level : Level) (first : Control) (second : Option Control) (k : Plan) (p : List Entry) → IsAtLevel level first → AreAtLevel level second → Always IsLawful (Asked (ticket_count p) id level first ∷ p) k → ((c : Control) → Always IsLawful (Asked (ticket_count p + 1) id level c ∷ Asked (ticket_count p) id level first ∷ p) k)
    → Always IsLawful p (asks id level first (ask_second id level second k))
each_asked id level first None k p at also one two = λ a. (record { names = refl; in_order = tt; free = at; of_plan = tt; lets_go = tt }, one)
each_asked id level first (Some c) k p at also one two = λ a. (
  record { names = refl; in_order = tt; free = at; of_plan = tt; lets_go = tt },
  λ b. (record { names = refl; in_order = tt; free = also; of_plan = tt; lets_go = tt }, two c),
)

each_acts : (there : Id → Bool) (r : ℕ) (acts : List Act) (p : List Entry) → ((id : Id) → creates id acts ≡ true → is_created id p ≡ true) → AreLawful p acts → Always IsLawful p (act_plan there r acts)
each_acts there r [] p h l = tt
each_acts there r (Create id command ∷ acts) p h l = λ a. (
  record { names = h id (rw (eq-eqb id.0 id.0 refl) refl); in_order = l.0; free = tt; of_plan = tt; lets_go = tt },
  each_acts (λ job. same id job || there job) r acts (Made id ∷ p) (λ job e. h job (or_right (id.0 == job.0) (creates job acts) e)) (lawful_made p id acts l.1),
)
each_acts there r (Ask id ask ∷ acts) p h l =
    either (Always IsLawful p) (there id) _ _
    (each_asked id (sends_of ask).level (sends_of ask).first (sends_of ask).second (act_plan there r acts) p (sends_first ask) (sends_second ask) (each_acts there r acts _ h l) (λ second. each_acts there r acts _ h l))
    (λ a. (record { names = tt; in_order = tt; free = tt; of_plan = tt; lets_go = tt }, each_acts there r acts _ h l))
each_acts there r (Change change ∷ acts) p h l = λ a. (record { names = tt; in_order = tt; free = tt; of_plan = tt; lets_go = tt }, each_acts there (r + 1) acts (Changed (r + 1) ∷ p) h l)
each_acts there r (Quit ∷ acts) p h l = each_acts there r acts p h l
each_acts there r (QuitGracefully signal grace ∷ acts) p h l = each_acts there r acts p h l

-- tickets stay placed, where what comes behind the asks keeps that
placed_asked : (id : Id) (level : Level) (first : Control) (second : Option Control) (k : Plan) (p : List Entry) → IsPlaced p → ((q : List Entry) → ((job : Id) → lives job q ≡ lives job p) → ((acts : List Act) → AreLawful p acts → AreLawful q acts) → IsPlaced q → Always Placing q k)
    → Always Placing p (asks id level first (ask_second id level second k))
placed_asked id level first None k p h rest = placed_asks id level first k p h (λ one. rest _ (λ job. refl) (λ acts l. l) one)
placed_asked id level first (Some c) k p h rest = placed_asks id level first (asks id level c k) p h (λ one. placed_asks id level c k (Asked (ticket_count p) id level first ∷ p) one (λ two. rest _ (λ job. refl) (λ acts l. l) two))

-- a job that is made lives, and so do those that lived
lives_made : (b there living : Bool) → (b || there) ≡ true → (there ≡ true → living ≡ true) → (b || living) ≡ true
lives_made true there living e h = refl
lives_made false there living e h = h e

-- a job that is made has no function that is begun: none lives under its id
new_waits : (id : Id) (p : List Entry) → lives id p ≡ false → AllWait is_of p (Made id)
new_waits id p dead i mine f is =
    let one : id ≡ i = same-is id i mine in
    let none : None ≡ Some f = sym (begun_none id p dead) ∙ rw one is in absurd cc

placed_acts : (there : Id → Bool) (r : ℕ) (acts : List Act) (p : List Entry) → ((id : Id) → there id ≡ true → lives id p ≡ true) → AreLawful p acts → IsPlaced p → Always Placing p (act_plan there r acts)
placed_acts there r [] p living l h = tt
placed_acts there r (Create id command ∷ acts) p living l h =
    let made = placed_made id p (new_waits id p (may_dead p id l.0)) h in
    λ a. (made, placed_acts (λ job. same id job || there job) r acts (Made id ∷ p) (λ job e. lives_made (same id job) (there job) (lives job p) e (living job)) (lawful_made p id acts l.1) made)
placed_acts there r (Ask id ask ∷ acts) p living l h =
    let said = placed_silent (Said Ignored) p tt h in
    either (Always Placing p) (there id) _ _
    (placed_asked id (sends_of ask).level (sends_of ask).first (sends_of ask).second (act_plan there r acts) p h (λ q same_lives same_lawful asked. placed_acts there r acts q (λ job e. same_lives job ∙ living job e) (same_lawful acts l) asked))
    (λ a. (said, placed_acts there r acts (Said Ignored ∷ p) living l said))
placed_acts there r (Change change ∷ acts) p living l h = let told = placed_silent (Changed (r + 1)) p tt h in λ a. (told, placed_acts there (r + 1) acts (Changed (r + 1) ∷ p) living l told)
placed_acts there r (Quit ∷ acts) p living l h = placed_acts there r acts p living l h
placed_acts there r (QuitGracefully signal grace ∷ acts) p living l h = placed_acts there r acts p living l h

pub lawful_acts : (r : ℕ) (acts : List Act) (p : List Entry) → ((id : Id) → creates id acts ≡ true → is_created id p ≡ true) → AreLawful p acts → IsPlaced p → Lawful p (act_plan (λ id. lives id p) r acts)
lawful_acts r acts p h l placed = record { each = each_acts (λ id. lives id p) r acts p h l; placed = placed_acts (λ id. lives id p) r acts p (λ id e. e) l placed }

pub lawful_change : (r : ℕ) (p : List Entry) → IsPlaced p → Lawful p (change_plan r Done)
lawful_change r p placed = record { each = λ a. (record { names = tt; in_order = tt; free = tt; of_plan = tt; lets_go = tt }, tt); placed = λ a. (placed_silent (Changed (r + 1)) p tt placed, tt) }

-- ---- the changes in plans

-- a change raises the revision by one
pub raised : (change : AChange) (c : Config) → (changed change c).change_signal ≡ c.change_signal + 1
raised SignalChange c = refl
raised (Pathset paths) c = refl
raised (FileWatcher watcher) c = refl
raised (FollowSymlinks on) c = refl
raised (KeyboardEvents on) c = refl
raised (Throttle throttle) c = refl
raised (Filterer n) c = refl
raised (OnError n) c = refl
raised (OnAction n) c = refl

-- the plan of a job tells none
unchanged_fit : (s : Start) (id : Id) (e : Entry) (k : Plan) (p : List Entry) → Fits id p e → Revises s p e k
unchanged_fit s id (Changed named) k p f = absurd f
unchanged_fit s id (_) k p f = tt

unchanged_sound : (s : Start) (id : Id) (p : List Entry) (k : Plan) → Sound id p k → Always (Revises s) p k
unchanged_sound s id p k sound = always_also (λ q. Unit {0}) (IsSound id) (Revises s) (λ q e j u h. (unchanged_fit s id e j q h.fits, tt)) p k tt sound

pub revised_step : (s : Start) (id : Id) (command : Command) (p : List Entry) → Always (Revises s) p (step_plan id command p)
revised_step s id command p = unchanged_sound s id p (step_plan id command p) (sound_step false id command p)

pub revised_ask : (s : Start) (id : Id) (ask : AnAsk) (p : List Entry) → lives id p ≡ true → Always (Revises s) p (ask_plan id (sends_of ask) Done)
revised_ask s id ask p alive = unchanged_sound s id p (ask_plan id (sends_of ask) Done) (sound_ask id ask p alive)

-- the first change that waits is told under the next revision
pub revises_first : (s : Start) (p : List Entry) (change : AChange) (rest : List AChange) (k : Plan) → pending p ≡ change ∷ rest → Revises s p (Changed (revision s p + 1)) k
revises_first s p change rest k wait =
    let stands : revision s (Changed (revision s p + 1) ∷ p) ≡ revision s p + 1 = ap (λ (cs : List AChange). (first_changed cs (settings s p)).change_signal) wait ∙ raised change (settings s p) in
    (rw wait (omega arith), stands, refl)

pub revised_change : (s : Start) (p : List Entry) (change : AChange) → pending p ≡ change ∷ [] → Always (Revises s) p (change_plan (revision s p) Done)
revised_change s p change wait = λ a. (revises_first s p change [] Done wait, tt)

revised_asked : (s : Start) (id : Id) (level : Level) (first : Control) (second : Option Control) (k : Plan) (p : List Entry) → Always (Revises s) (Asked (ticket_count p) id level first ∷ p) k → ((c : Control) → Always (Revises s) (Asked (ticket_count p + 1) id level c ∷ Asked (ticket_count p) id level first ∷ p) k) → Always (Revises s) p (asks id level first (ask_second id level second k))
revised_asked s id level first None k p one two = λ a. (tt, one)
revised_asked s id level first (Some c) k p one two = λ a. (tt, λ b. (tt, two c))

pub revised_acts : (s : Start) (there : Id → Bool) (r : ℕ) (acts : List Act) (p : List Entry) → r ≡ revision s p → pending p ≡ changes acts → Always (Revises s) p (act_plan there r acts)
revised_acts s there r [] p is wait = tt
revised_acts s there r (Create id command ∷ acts) p is wait = λ a. (tt, revised_acts s (λ job. same id job || there job) r acts (Made id ∷ p) is wait)
revised_acts s there r (Ask id ask ∷ acts) p is wait =
    either (Always (Revises s) p) (there id) _ _
    (revised_asked s id (sends_of ask).level (sends_of ask).first (sends_of ask).second (act_plan there r acts) p (revised_acts s there r acts _ is wait) (λ second. revised_acts s there r acts _ is wait))
    (λ a. (tt, revised_acts s there r acts (Said Ignored ∷ p) is wait))
revised_acts s there r (Change change ∷ acts) p is wait =
    rw is (λ a. (
      revises_first s p change (changes acts) (act_plan there (revision s p + 1) acts) wait,
      revised_acts s there (revision s p + 1) acts (Changed (revision s p + 1) ∷ p) (sym (revises_first s p change (changes acts) Done wait).1) (ap later wait),
    ))
revised_acts s there r (Quit ∷ acts) p is wait = revised_acts s there r acts p is wait
revised_acts s there r (QuitGracefully signal grace ∷ acts) p is wait = revised_acts s there r acts p is wait

-- ---- the end

of_drop : (p : List Entry) (id : Id) (b : Bool) (running : Option ℕ) (e : Entry) → PlanAdmits p (cond b (drop_plan running (adds (Gone id) Done)) Done) e → IsOfEnd e
of_drop p id true None e d = subst IsOfEnd (sym d.1) tt
of_drop p id true (Some c) e d = subst IsOfEnd (sym d.1) tt
of_drop p id false running e d = absurd d

of_first_end : (ids : List Id) (p : List Entry) (e : Entry) → PlanAdmits p (first_end ids p) e → IsOfEnd e
of_first_end [] p e d = absurd d
of_first_end (id ∷ ids) p e d = of_drop p id (lives id p) (child id p) e d

pub of_end : (p : List Entry) (e : Entry) → PlanAdmits p (end p) e → IsOfEnd e
of_end p e d = of_first_end (jobs p) p e d

pub end_is_plan : (e : Entry) → IsOfEnd e → IsOfPlan e
end_is_plan (Dropped c) o = tt
end_is_plan (Gone id) o = tt
end_is_plan (_) o = absurd o

pub end_placed : (e : Entry) (p : List Entry) → IsOfEnd e → IsPlaced p → IsPlaced (e ∷ p)
end_placed (Dropped c) p o h = placed_dropped c p h
end_placed (Gone id) p o h = placed_gone id p h
end_placed (_) p o h = absurd o

pub end_in_order : (e : Entry) (p : List Entry) → IsOfEnd e → InOrder p e
end_in_order (Made job) p o = absurd o
end_in_order (_) p o = tt

names_first_end : (ids : List Id) (p : List Entry) (e : Entry) → NamesItsOwn p → PlanAdmits p (first_end ids p) e → Names p e
names_first_end [] p e own d = absurd d
names_first_end (id ∷ ids) p e own d = (always_now (IsSound id) p (end_plan id p) e d (sound_end id p)).names own

pub names_end : (p : List Entry) (e : Entry) → NamesItsOwn p → PlanAdmits p (end p) e → Names p e
names_end p e own d = names_first_end (jobs p) p e own d
