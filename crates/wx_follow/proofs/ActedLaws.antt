-- What hooks that follow a script ask for, act by act.
use Rattle.std.proofs.Common.{◌≡◌, ℕ, Bool, true, false, cond, ◌||◌, List, [], ◌∷◌, ◌++◌, Result, Ok, Err, refl, ap, sym, subst, ◌∙◌}
use mathlib.Core.Bool.{or-false}
use Rattle.std.specs.Prelude.{Option, None, Some, OnOk, ◌==◌, ◌&&◌, not}
use Rattle.std.specs.List.{find, list_any}
use Rattle.std.proofs.lemmas.Bool.{eqb-true, or_right, true_from_ne_false}
use Rattle.std.proofs.Math.Bool.{and-false, or_assoc}
use Rattle.wx_command.specs.declared.command.Command.{Command}
use Rattle.wx_config.specs.declared.change.Change.{Change as AChange}
use Rattle.wx_control.specs.declared.ask.Ask.{Ask as AnAsk}
use Rattle.wx_control.specs.declared.id.Id.{Id}
use Rattle.wx_control.specs.declared.job.Job.{Job}
use Rattle.wx_journal.specs.Acts.{JournalAct as Act}
use Rattle.wx_journal.specs.declared.entry.Act.TheVariants.{Create, Ask as Asks, Change, Quit, QuitGracefully}
use Rattle.wx_journal.specs.declared.entry.Entry.{Entry}
use Rattle.wx_journal.specs.Names.{creates, was_made}
use Rattle.wx_machine.specs.History.{same}
use Rattle.wx_machine.specs.Quits.{is_quit, with_this_quit}
use Rattle.wx_machine.specs.Last.{without_last}
use Rattle.wx_machine.specs.Jobs.{is_seen, is_given, is_there}
use Rattle.wx_machine.proofs.Owners.{same-is}
use Rattle.wx_hooks.specs.Handled.{with_job}
use Rattle.wx_script.specs.Acted.{is_made, AreMade, with_ask, with_get}

-- what holds after a call that went well
pub ok_then : {T E : Type 0} {A B : Type 0} (r : Result T E) → OnOk r A → (A → B) → OnOk r B
ok_then (Ok x) h f = f h
ok_then (Err e) h f = tt

-- ---- which jobs were created

creates_ask : (id : Id) (acts : List Act) (job : Id) (ask : AnAsk) → creates id (acts ++ Asks job ask ∷ []) ≡ creates id acts
creates_ask id [] job ask = refl
creates_ask id (Create other command ∷ acts) job ask = ap (λ b. other.0 == id.0 || b) (creates_ask id acts job ask)
creates_ask id (_ ∷ acts) job ask = creates_ask id acts job ask

creates_change : (id : Id) (acts : List Act) (change : AChange) → creates id (acts ++ Change change ∷ []) ≡ creates id acts
creates_change id [] change = refl
creates_change id (Create other command ∷ acts) change = ap (λ b. other.0 == id.0 || b) (creates_change id acts change)
creates_change id (_ ∷ acts) change = creates_change id acts change

creates_quit : (id : Id) (quit : Act) (acts : List Act) → is_quit quit ≡ true → creates id (acts ++ quit ∷ []) ≡ creates id acts
creates_quit id Quit [] is = refl
creates_quit id (QuitGracefully signal grace) [] is = refl
creates_quit id (_) [] is = absurd cc
creates_quit id quit (Create other command ∷ acts) is = ap (λ b. other.0 == id.0 || b) (creates_quit id quit acts is)
creates_quit id quit (_ ∷ acts) is = creates_quit id quit acts is

creates_more : (id : Id) (acts : List Act) (job : Id) (command : Command) → creates id (acts ++ Create job command ∷ []) ≡ (creates id acts || same job id)
creates_more id [] job command = or-false (same job id)
creates_more id (Create other what ∷ acts) job command = ap (λ b. other.0 == id.0 || b) (creates_more id acts job command) ∙ sym (or_assoc (other.0 == id.0) (creates id acts) (same job id))
creates_more id (_ ∷ acts) job command = creates_more id acts job command

any_more : (id : Id) (made : List Job) (job : Job) → list_any (is_made id) (made ++ job ∷ []) ≡ (list_any (is_made id) made || is_made id job)
any_more id [] job = or-false (is_made id job)
any_more id (other ∷ made) job = ap (λ b. is_made id other || b) (any_more id made job) ∙ sym (or_assoc (is_made id other) (list_any (is_made id) made) (is_made id job))

-- where acts create the same jobs
made_same : (p : List Entry) (made : List Job) (acts acts' : List Act) → ((id : Id) → creates id acts' ≡ creates id acts) → AreMade p made acts → AreMade p made acts'
made_same p made acts acts' same_jobs is = λ id. is id ∙ sym (ap (λ b. b || is_seen id p) (same_jobs id))

pub made_ask : (p : List Entry) (made : List Job) (acts : List Act) (job : Id) (ask : AnAsk) → AreMade p made acts → AreMade p made (acts ++ Asks job ask ∷ [])
made_ask p made acts job ask is = made_same p made acts (acts ++ Asks job ask ∷ []) (λ id. creates_ask id acts job ask) is

creates_one : (id : Id) (b : Bool) (act : Act) → is_quit act ≡ b → creates id (cond b [] (act ∷ [])) ≡ creates id (act ∷ [])
creates_one id true (Create job command) is = absurd cc
creates_one id true (Asks job ask) is = absurd cc
creates_one id true (Change change) is = absurd cc
creates_one id true Quit is = refl
creates_one id true (QuitGracefully signal grace) is = refl
creates_one id false act is = refl

creates_left : (id : Id) (acts : List Act) → creates id (without_last is_quit acts) ≡ creates id acts
creates_left id [] = refl
creates_left id (act ∷ []) = creates_one id (is_quit act) act refl
creates_left id (Create other command ∷ next ∷ acts) = ap (λ b. other.0 == id.0 || b) (creates_left id (next ∷ acts))
creates_left id (Asks job ask ∷ next ∷ acts) = creates_left id (next ∷ acts)
creates_left id (Change change ∷ next ∷ acts) = creates_left id (next ∷ acts)
creates_left id (Quit ∷ next ∷ acts) = creates_left id (next ∷ acts)
creates_left id (QuitGracefully signal grace ∷ next ∷ acts) = creates_left id (next ∷ acts)

pub made_change : (p : List Entry) (made : List Job) (acts : List Act) (change : AChange) → AreMade p made acts → AreMade p made (acts ++ Change change ∷ [])
made_change p made acts change is = made_same p made acts (acts ++ Change change ∷ []) (λ id. creates_change id acts change) is

pub made_quit : (p : List Entry) (made : List Job) (quit : Act) (acts : List Act) → is_quit quit ≡ true → AreMade p made acts → AreMade p made (with_this_quit quit acts)
made_quit p made quit acts quits is = made_same p made acts (with_this_quit quit acts) (λ id. creates_quit id quit (without_last is_quit acts) quits ∙ creates_left id acts) is

or_swap : (a b c : Bool) → ((a || b) || c) ≡ ((a || c) || b)
or_swap true b c = refl
or_swap false true true = refl
or_swap false true false = refl
or_swap false false true = refl
or_swap false false false = refl

-- a handle more
any_with : (p : List Entry) (made : List Job) (acts : List Act) (job : Job) (id other : Id) → job.id ≡ id → AreMade p made acts → (list_any (is_made other) (made ++ job ∷ []) || is_seen other p) ≡ (is_there p acts other || same id other)
any_with p made acts job id other its is =
    ap (λ b. b || is_seen other p) (any_more other made job) ∙ or_swap (list_any (is_made other) made) (is_made other job) (is_seen other p) ∙ ap (λ b. b || is_made other job) (is other) ∙ ap (λ (j : Id). is_there p acts other || same j other) its

pub made_create : (p : List Entry) (made : List Job) (acts : List Act) (job : Job) (id : Id) (command : Command) → job.id ≡ id → AreMade p made acts → AreMade p (made ++ job ∷ []) (acts ++ Create id command ∷ [])
made_create p made acts job id command its is = λ other.
    any_with p made acts job id other its is ∙ or_swap (creates other acts) (is_seen other p) (same id other) ∙ sym (ap (λ b. b || is_seen other p) (creates_more other acts id command))

-- a handle on a job that was there
there_too : (there mine : Bool) → (mine ≡ true → there ≡ true) → (there || mine) ≡ there
there_too true mine h = refl
there_too false true h = sym (h refl)
there_too false false h = refl

made_there : (p : List Entry) (made : List Job) (acts : List Act) (job : Job) (id : Id) → job.id ≡ id → is_there p acts id ≡ true → AreMade p made acts → AreMade p (made ++ job ∷ []) acts
made_there p made acts job id its there is = λ other.
    any_with p made acts job id other its is ∙ there_too (is_there p acts other) (same id other) (λ mine. subst (λ (i : Id). is_there p acts i ≡ true) (same-is id other mine) there)

-- what was asked for is what the script says
record IsGot (p : List Entry) (made : List Job) (acts acts' : List Act) (id : Id) (command : Command) (job : Job) : Type 0 where
  done : acts' ≡ with_get p acts id command
  are : AreMade p (made ++ job ∷ []) acts'

given_made : (created seen was : Bool) → (created || seen) ≡ false → (created || was) ≡ true → was ≡ true
given_made true seen was e f = absurd cc
given_made false seen was e f = f

got_by : (p : List Entry) (made : List Job) (acts : List Act) (id : Id) (command : Command) (job : Job) (b : Bool) → is_there p acts id ≡ b → job.id ≡ id → is_given p acts id ≡ true → AreMade p made acts → IsGot p made acts (cond b acts (acts ++ Create id command ∷ [])) id command job
got_by p made acts id command job true there its given is = record { done = rw (there, and-false (was_made id p)) refl; are = made_there p made acts job id its there is }
got_by p made acts id command job false there its given is = record { done = rw (there, given_made (creates id acts) (is_seen id p) (was_made id p) there given) refl; are = made_create p made acts job id command its is }

pub got : (p : List Entry) (made : List Job) (acts : List Act) (id : Id) (command : Command) (job : Job) → job.id ≡ id → (is_given p acts id ≡ false → ⊥) → AreMade p made acts → (with_job p id command acts ≡ with_get p acts id command) × AreMade p (made ++ job ∷ []) (with_job p id command acts)
got p made acts id command job its given is = let g = got_by p made acts id command job (is_there p acts id) refl its (true_from_ne_false (is_given p acts id) given) is in (g.done, g.are)

-- of none that was given nothing is asked for
ungiven : (created was seen : Bool) → (created || was) ≡ false → (was && not (created || seen)) ≡ false
ungiven true was seen e = absurd cc
ungiven false true seen e = absurd cc
ungiven false false seen e = refl

pub got_none : (p : List Entry) (acts : List Act) (id : Id) (command : Command) → is_given p acts id ≡ false → acts ≡ with_get p acts id command
got_none p acts id command e = rw (ungiven (creates id acts) (was_made id p) (is_seen id p) e) refl

-- ---- of which job something is asked

found_or : (id : Id) (b : Bool) (job first : Job) (rest : Option Job) (others : Bool) → is_made id first ≡ b → Some job ≡ cond b (Some first) rest → (Some job ≡ rest → (others ≡ true) × (job.id ≡ id)) → ((b || others) ≡ true) × (job.id ≡ id)
found_or id true job first rest others mine found more =
    let its : job ≡ first = cc in
    let is : first.id.0 ≡ id.0 = eqb-true _ _ mine in
    (refl, ap (λ (j : Job). j.id) its ∙ ap (λ (n : ℕ). record { 0 = n }) is)
found_or id false job first rest others mine found more = more found

found_made : (id : Id) (made : List Job) (job : Job) → Some job ≡ find (is_made id) made → (list_any (is_made id) made ≡ true) × (job.id ≡ id)
found_made id [] job found = absurd cc
found_made id (first ∷ made) job found = found_or id (is_made id first) job first (find (is_made id) made) (list_any (is_made id) made) refl found (found_made id made job)

none_or : (b : Bool) (first : Job) (rest : Option Job) (others : Bool) → None ≡ cond b (Some first) rest → (None ≡ rest → others ≡ false) → (b || others) ≡ false
none_or true first rest others found more = absurd cc
none_or false first rest others found more = more found

none_made : (id : Id) (made : List Job) → None ≡ find (is_made id) made → list_any (is_made id) made ≡ false
none_made id [] found = refl
none_made id (first ∷ made) found = none_or (is_made id first) first (find (is_made id) made) (list_any (is_made id) made) found (none_made id made)

there_then : (p : List Entry) (done : List Act) (id job : Id) (ask : AnAsk) → job ≡ id → is_there p done id ≡ true → done ++ Asks job ask ∷ [] ≡ with_ask p done id ask
there_then p done id job ask its there = rw (there, its) refl

-- of one that was created in this call, or was got
first_true : (a b c : Bool) → a ≡ true → (a || b) ≡ c → c ≡ true
first_true true b c e f = sym f
first_true false b c e f = absurd cc

pub ask_made : (p : List Entry) (done : List Act) (made : List Job) (job : Job) (id : Id) (ask : AnAsk) → AreMade p made done → Some job ≡ find (is_made id) made → done ++ Asks job.id ask ∷ [] ≡ with_ask p done id ask
ask_made p done made job id ask is found =
    let f = found_made id made job found in
    there_then p done id job.id ask f.1 (first_true (list_any (is_made id) made) (is_seen id p) (is_there p done id) f.0 (is id))

-- of one that was there
pub ask_held : (p : List Entry) (done : List Act) (job : Job) (id : Id) (ask : AnAsk) → is_seen id p ≡ true → job.id ≡ id → done ++ Asks job.id ask ∷ [] ≡ with_ask p done id ask
ask_held p done job id ask there its = there_then p done id job.id ask its (ap (λ b. creates id done || b) there ∙ or_right (creates id done) true refl)

-- of none
pub ask_none : (p : List Entry) (done : List Act) (made : List Job) (id : Id) (ask : AnAsk) → AreMade p made done → None ≡ find (is_made id) made → is_seen id p ≡ false → done ≡ with_ask p done id ask
ask_none p done made id ask are found there =
    let none : is_there p done id ≡ false = sym (are id) ∙ ap (λ b. b || is_seen id p) (none_made id made found) ∙ there in
    rw none refl

-- ---- one more act is done
