-- What a turn of a signal or of the keyboard owes.
use Rattle.std.proofs.Common.{◌≡◌, ℕ, Bool, true, false, cond, List, [], ◌∷◌, length, refl, ap, sym, ◌∙◌, arith}
use Rattle.std.proofs.lemmas.Bool.{eqb-true}
use Rattle.std.specs.Prelude.{Result, Ok, Err, OnOk, OnErr, ◌&&◌, ◌==◌, not}
use Rattle.wx_events.specs.declared.event.Event.{Event}
use Rattle.wx_events.specs.declared.priority.Priority.{Priority}
use Rattle.wx_events.specs.declared.process.Signal.{Signal as ASignal}
use Rattle.wx_config.specs.declared.config.Config.{Config}
use Rattle.wx_keys.specs.Keys.{signal_event, hears_signal, key_events}
use Rattle.wx_journal.specs.declared.entry.Entry.{Entry}
use Rattle.wx_journal.specs.declared.entry.TurnKind.TheVariants.{Signal, Keys}
use Rattle.wx_journal.specs.declared.entry.Word.{Word}
use Rattle.wx_journal.specs.declared.entry.Word.TheVariants.{Idle, Ignored}
use Rattle.wx_journal.specs.Written.{Written}
use Rattle.wx_machine.specs.Start.{Start}
use Rattle.wx_machine.specs.Keyboard.{keyboard, hears_keys}
use Rattle.wx_machine.specs.Answer.{NoneIsToGo}
use Rattle.wx_machine.specs.Due.{Offers, Agenda, Open, Comes, says, offers, signal_turn, keys_open, before, is_quitting, agenda}
use Rattle.wx_worker.specs.declared.worker_state.Worker.{Worker}
use Rattle.wx_worker.specs.Serves.{Grows, IsServed}
use Rattle.wx_worker.specs.Stands.{Stands, AtTurn, end_room}
use Rattle.wx_machine.proofs.SettleLaws.{served_open}
use Rattle.wx_worker.proofs.ArriveLemmas.{grows_none}
use Rattle.wx_worker.proofs.TurnLaws.{with_turn, at_turn, at_any_turn}

-- the worker stands for the journal, this is due, and the end wasn't asked for
pub record OwesNow (s : Start) (w : Worker) (p : List Entry) (k : Agenda) : Type 0 where
  pub stands : Stands s w p
  pub due : agenda s p ≡ k
  pub going : is_quitting p ≡ false

-- ---- a signal

abbrev pub offered_as : Event × Priority → Agenda
offered_as x = Comes (Offers x.0 x.1) Open

abbrev by_signal : (signal : ASignal) (heard : Bool) → Agenda
by_signal signal heard = cond heard (offered_as (signal_event signal)) (says Ignored)

pub signal_owes : (s : Start) (w : Worker) (at : ℕ) (signal : ASignal) (p : List Entry) (heard : Bool) → AtTurn s w at (Signal signal) p → hears_signal w.config.signal_job_control signal ≡ heard → OwesNow s w p (cond heard (offered_as (signal_event signal)) (says Ignored))
signal_owes s w at signal p heard a is =
    let t = at_turn s w at (Signal signal) p tt a in
    record { stands = t.stands; due = t.due ∙ ap (λ (c : Config). signal_turn c.signal_job_control signal) (sym t.stands.config_kept) ∙ ap (by_signal signal) is; going = t.going }

-- ---- the keyboard

-- keys are heard before the turn, by what the worker kept then
heard_is : (s : Start) (w : Worker) (at : ℕ) (bytes : List ℕ) (p : List Entry) → AtTurn s w at (Keys bytes) p → hears_keys s (before p) ≡ (w.config.keyboard_events && not w.ended)
heard_is s w at bytes p a =
    ap (λ (q : List Entry). hears_keys s (before q)) a.last ∙ sym (ap (λ (c : Config). c.keyboard_events && not w.ended) a.stands.config_kept ∙ ap (λ (b : Bool). keyboard s a.before && not b) a.stands.ended_kept)

abbrev by_keys : (bytes : List ℕ) (heard : Bool) → Agenda
by_keys bytes heard = cond heard (keys_open (key_events bytes)) (says Ignored)

pub keys_owe : (s : Start) (w w' : Worker) (at : ℕ) (bytes : List ℕ) (p : List Entry) (heard : Bool) → AtTurn s w at (Keys bytes) p → w' ≡ with_turn (Keys bytes) w → (w.config.keyboard_events && not w.ended) ≡ heard → OwesNow s w' p (cond heard (keys_open (key_events bytes)) (says Ignored))
keys_owe s w w' at bytes p heard a kept is =
    let t = at_any_turn s w at (Keys bytes) p tt a in
    record { stands = rw kept t.stands; due = t.due ∙ ap (by_keys bytes) (heard_is s w at bytes p a ∙ is); going = t.going }

-- the worker that keeps the read stands for the turn, before any entry behind it
pub read_kept : (s : Start) (w w' : Worker) (at : ℕ) (bytes : List ℕ) (j : Written) → AtTurn s w at (Keys bytes) j.past → w' ≡ with_turn (Keys bytes) w → Grows s w j w' j
read_kept s w w' at bytes j a kept =
    let t = at_any_turn s w at (Keys bytes) j.past tt a in
    grows_none s w w' j j (rw kept t.stands) refl (ap end_room kept) (λ room. omega (arith, room, ap end_room kept))

pub keys_some : (events : List Event) (empty : Bool) → (length events == 0) ≡ empty → keys_open events ≡ cond empty (says Idle) (offers events)
keys_some [] true e = refl
keys_some [] false e = cc
keys_some (event ∷ events) true e = let none : length (event ∷ events) ≡ 0 = eqb-true _ _ e in absurd (omega arith)
keys_some (event ∷ events) false e = refl

-- memory may be wanted here
pub none_of_keys : (events : List Event) → NoneIsToGo (keys_open events)
none_of_keys [] = tt
none_of_keys (event ∷ events) = tt

pub none_of_offers : (events : List Event) → NoneIsToGo (offers events)
none_of_offers [] = tt
none_of_offers (event ∷ events) = tt

pub word_cut : {X E : Type 0} (s : Start) (word : Word) (p p' : List Entry) (result : Result X E) → agenda s p ≡ says word → OnErr result (p' ≡ p) → OnErr result (NoneIsToGo (agenda s p'))
word_cut s word p p' (Ok u) due err = tt
word_cut s word p p' (Err e) due err = rw (err, due) tt

-- where nothing is owed the turn is served
pub open_serves : {X E : Type 0} (s : Start) (p : List Entry) (result : Result X E) → OnOk result (agenda s p ≡ Open) → OnOk result (IsServed s p)
open_serves s p (Ok u) done = served_open s p done
open_serves s p (Err e) done = tt
