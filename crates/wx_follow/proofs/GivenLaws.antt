-- One turn more is given.
use Rattle.std.proofs.Common.{◌≡◌, ℕ, Bool, false, ◌||◌, zero, suc, ◌+◌, ◌<◌, ◌≤◌, min, Option, None, Some, Result, Ok, inl, inr, ◌⊎◌, List, [], ◌∷◌, length, drop, get_or, slice_get, refl, sym, ap, ◌∙◌, arith, ℤ}
use Rattle.std.proofs.lemmas.Bool.{cases_lt, or_parts}
use Rattle.std.proofs.lemmas.List.{get_or_past}
use Rattle.wx_events.specs.declared.process.ProcessEnd.{ProcessEnd}
use Rattle.wx_events.specs.declared.process.ProcessEnd.TheVariants.{Success}
use Rattle.wx_command.specs.declared.spawnable.Spawnable.{Spawnable}
use Rattle.wx_control.specs.declared.id.Id.{Id}
use Rattle.wx_journal.specs.declared.child.HostFault.{HostFault}
use Rattle.wx_journal.specs.declared.child.SpawnTag.{SpawnTag}
use Rattle.wx_journal.specs.declared.entry.Entry.{Entry}
use Rattle.wx_journal.specs.declared.entry.Entry.TheVariants.{Turn as Turned, Spawn, Signal, Kill, Wait, Make}
use Rattle.wx_journal.specs.declared.entry.TurnKind.TheVariants.{Last}
use Rattle.wx_watch.specs.declared.notify_fault.NotifyFault.{NotifyFault}
use Rattle.wx_watch.specs.declared.watched.Watcher.{Watcher}
use Rattle.wx_mem_tree.specs.declared.entry.MemEntry.{MemEntry}
use Rattle.wx_follow.specs.Edits.{FollowsEdits}
use Rattle.wx_script.specs.declared.script.TreeEdit.{TreeEdit}
use Rattle.wx_script.specs.declared.script.ScriptTurn.{ScriptTurn}
use Rattle.wx_script.specs.declared.script.ScriptTurn.TheVariants.{Turn, Fault}
use Rattle.wx_script.specs.declared.answers.Answers.{Answers}
use Rattle.wx_script.specs.declared.answers.Used.{Used}
use Rattle.wx_script.specs.Answered.{answers_of, Answered, answered_by}
use Rattle.wx_script.specs.HostCalls.{Spawns, Signals, Kills, Waits, Makes, reply, UsesAnswers}
use Rattle.wx_script.specs.Turns.{entry_of, entry_or_last, given, newest, turns_of, FollowsGiven}

-- the next of the turns that are left, and those after it
next_turn : (turns : List ScriptTurn) (k : ℕ) (x : ScriptTurn) (rest : List ScriptTurn) → x ∷ rest ≡ drop k turns → slice_get turns k ≡ Some x
next_turn [] zero x rest e = cc
next_turn [] (suc k) x rest e = cc
next_turn (y ∷ turns) zero x rest e = cc
next_turn (y ∷ turns) (suc k) x rest e = next_turn turns k x rest e

rest_after : (turns : List ScriptTurn) (k : ℕ) (x : ScriptTurn) (rest : List ScriptTurn) → x ∷ rest ≡ drop k turns → rest ≡ drop (suc k) turns
rest_after [] zero x rest e = cc
rest_after [] (suc k) x rest e = cc
rest_after (y ∷ turns) zero x rest e = cc
rest_after (y ∷ turns) (suc k) x rest e = rest_after turns k x rest e

-- where none is left
no_turn : (turns : List ScriptTurn) (k : ℕ) → [] ≡ drop k turns → slice_get turns k ≡ None
no_turn [] k e = refl
no_turn (y ∷ turns) zero e = cc
no_turn (y ∷ turns) (suc k) e = no_turn turns k e

pub rest_none : (turns : List ScriptTurn) (k : ℕ) → [] ≡ drop k turns → [] ≡ drop (suc k) turns
rest_none [] zero e = refl
rest_none [] (suc k) e = refl
rest_none (y ∷ turns) zero e = cc
rest_none (y ∷ turns) (suc k) e = rest_none turns k e

-- a turn of a script is one of the turns that were told
pub turns_more : (x : ScriptTurn) (told : List Entry) → entry_of x ∷ turns_of told ≡ turns_of (entry_of x ∷ told)
turns_more (Turn t) told = refl
turns_more (Fault code) told = refl

pub rest_more : (turns : List ScriptTurn) (told : List Entry) (x : ScriptTurn) (rest : List ScriptTurn) → x ∷ rest ≡ drop (length (turns_of told)) turns → rest ≡ drop (length (turns_of (entry_of x ∷ told))) turns
rest_more turns told x rest left = rw (← turns_more x told) (rest_after turns (length (turns_of told)) x rest left)

-- one more entry is given
more : (turns : List ScriptTurn) (last : ℕ) (past : List Entry) (e : Entry) → e ≡ given turns last (length past) → past ≡ newest (given turns last) (length past) → e ∷ past ≡ newest (given turns last) (suc (length past))
more turns last past e is so_far = λ i. is i ∷ so_far i

pub follows_more : (turns : List ScriptTurn) (last : ℕ) (told : List Entry) (x : ScriptTurn) (rest : List ScriptTurn) → x ∷ rest ≡ drop (length (turns_of told)) turns → FollowsGiven turns last told → FollowsGiven turns last (entry_of x ∷ told)
follows_more turns last told x rest left so_far = rw (← turns_more x told) (more turns last (turns_of told) (entry_of x) (ap (entry_or_last last) (sym (next_turn turns (length (turns_of told)) x rest left))) so_far)

pub follows_last : (turns : List ScriptTurn) (last : ℕ) (told : List Entry) → [] ≡ drop (length (turns_of told)) turns → FollowsGiven turns last told → FollowsGiven turns last (Turned (record { at = last; kind = Last }) ∷ told)
follows_last turns last told left so_far = more turns last (turns_of told) (Turned (record { at = last; kind = Last })) (ap (entry_or_last last) (sym (no_turn turns (length (turns_of told)) left))) so_far

-- ---- an answer more, and a turn more

-- the line of the next call
pub next_line : {Line : Type 0} (lines : List Line) (k : ℕ) (usual : Line) → get_or lines (min k (length lines)) usual ≡ get_or lines k usual
next_line lines k usual = go (cases_lt k (length lines))
  where
    go : (k < length lines) ⊎ (length lines ≤ k) → get_or lines (min k (length lines)) usual ≡ get_or lines k usual
    go (inl within) = let same : min k (length lines) ≡ k = omega (arith, within) in ap (λ (i : ℕ). get_or lines i usual) same
    go (inr past) = let all : min k (length lines) ≡ length lines = omega (arith, past) in ap (λ (i : ℕ). get_or lines i usual) all ∙ get_or_past lines (length lines) usual (omega arith) ∙ sym (get_or_past lines k usual past)

-- a call more of this kind is answered by the next line
pub answered_more : {Answer : Type 0} (pick : Entry → Option Answer) (usual : Answer) (lines : List Answer) (used used' : ℕ) (p : List Entry) (e : Entry) (answer : Answer)
    → pick e ≡ Some answer → answer ≡ get_or lines used usual → used' ≡ min (used + 1) (length lines) → Answered (answered_by pick usual) lines used p → Answered (answered_by pick usual) lines used' (e ∷ p)
answered_more pick usual lines used used' p e answer picked is next (answers, uses) =
    (rw picked (λ i. (is ∙ ap (λ (k : ℕ). get_or lines k usual) uses ∙ next_line lines (length (answers_of (answered_by pick usual) p)) usual) i ∷ answers i), rw picked (omega (arith, next, uses)))

-- an entry that is no call on the host uses none of its answers
pub turn_over : (short : Bool) (answers : Answers) (used : Used) (p : List Entry) (x : ScriptTurn) → UsesAnswers short answers used p → UsesAnswers short answers used (entry_of x ∷ p)
turn_over short answers used p (Turn t) all = all
turn_over short answers used p (Fault code) all = all

pub perhaps_short : (short more : Bool) (answers : Answers) (used : Used) (p : List Entry) → UsesAnswers short answers used p → UsesAnswers (short || more) answers used p
perhaps_short short more answers used p all so = all (or_parts short more so).0

-- ---- changes of the tree

-- a turn of a script is asked for
pub edits_turn : (short : Bool) (edits : List (List TreeEdit)) (told : List Entry) (x : ScriptTurn) (es : List MemEntry) → FollowsEdits short edits (suc (length (turns_of told))) es → FollowsEdits short edits (length (turns_of (entry_of x ∷ told))) es
edits_turn short edits told x es so_far = rw (← turns_more x told) so_far

pub lines_turn : (edits : List (List TreeEdit)) (told : List Entry) (x : ScriptTurn) (changed changed' : ℕ) → changed ≡ min (length (turns_of told)) (length edits) → changed' ≡ min (changed + 1) (length edits) → changed' ≡ min (length (turns_of (entry_of x ∷ told))) (length edits)
lines_turn edits told x changed changed' is next = rw (← turns_more x told) (omega (arith, is, next))

-- a call of a kind uses one of its answers, and none of another
pub spawn_more : (short : Bool) (answers : Answers) (used : Used) (n : ℕ) (p : List Entry) (child : ℕ) (job : Id) (tag : SpawnTag) (what : Spawnable) (answer : Result (Unit {0}) HostFault)
    → answer ≡ get_or answers.spawns used.spawns (Ok tt) → n ≡ min (used.spawns + 1) (length answers.spawns) → UsesAnswers short answers used p → UsesAnswers short answers (record used { spawns = n }) (Spawn child job tag what answer ∷ p)
spawn_more short answers used n p child job tag what answer is next all so Spawns = answered_more (λ e. reply e Spawns) (Ok tt) answers.spawns used.spawns n p (Spawn child job tag what answer) answer refl is next (all so Spawns)
spawn_more short answers used n p child job tag what answer is next all so k = all so k

pub signal_more : (short : Bool) (answers : Answers) (used : Used) (n : ℕ) (p : List Entry) (child : ℕ) (number : ℤ) (answer : Result (Unit {0}) HostFault)
    → answer ≡ get_or answers.signals used.signals (Ok tt) → n ≡ min (used.signals + 1) (length answers.signals) → UsesAnswers short answers used p → UsesAnswers short answers (record used { signals = n }) (Signal child number answer ∷ p)
signal_more short answers used n p child number answer is next all so Signals = answered_more (λ e. reply e Signals) (Ok tt) answers.signals used.signals n p (Signal child number answer) answer refl is next (all so Signals)
signal_more short answers used n p child number answer is next all so k = all so k

pub kill_more : (short : Bool) (answers : Answers) (used : Used) (n : ℕ) (p : List Entry) (child : ℕ) (answer : Result (Unit {0}) HostFault)
    → answer ≡ get_or answers.kills used.kills (Ok tt) → n ≡ min (used.kills + 1) (length answers.kills) → UsesAnswers short answers used p → UsesAnswers short answers (record used { kills = n }) (Kill child answer ∷ p)
kill_more short answers used n p child answer is next all so Kills = answered_more (λ e. reply e Kills) (Ok tt) answers.kills used.kills n p (Kill child answer) answer refl is next (all so Kills)
kill_more short answers used n p child answer is next all so k = all so k

pub wait_more : (short : Bool) (answers : Answers) (used : Used) (n : ℕ) (p : List Entry) (child : ℕ) (answer : Result ProcessEnd HostFault)
    → answer ≡ get_or answers.waits used.waits (Ok Success) → n ≡ min (used.waits + 1) (length answers.waits) → UsesAnswers short answers used p → UsesAnswers short answers (record used { waits = n }) (Wait child answer ∷ p)
wait_more short answers used n p child answer is next all so Waits = answered_more (λ e. reply e Waits) (Ok Success) answers.waits used.waits n p (Wait child answer) answer refl is next (all so Waits)
wait_more short answers used n p child answer is next all so k = all so k

pub make_more : (short : Bool) (answers : Answers) (used : Used) (n : ℕ) (p : List Entry) (back : ℕ) (kind : Watcher) (follow : Bool) (answer : Result (Unit {0}) NotifyFault)
    → (short ≡ false → answer ≡ get_or answers.makes used.makes (Ok tt)) → n ≡ min (used.makes + 1) (length answers.makes) → UsesAnswers short answers used p → UsesAnswers short answers (record used { makes = n }) (Make back kind follow answer ∷ p)
make_more short answers used n p back kind follow answer is next all so Makes = answered_more (λ e. reply e Makes) (Ok tt) answers.makes used.makes n p (Make back kind follow answer) answer refl (is so) next (all so Makes)
make_more short answers used n p back kind follow answer is next all so k = all so k
