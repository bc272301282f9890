-- An event is offered to the queue, or listed as sent, or a word is said.
use Rattle.std.proofs.Common.{◌≡◌, ℕ, ◌+◌, ◌<◌, ◌≤◌, Bool, true, false, List, [], ◌∷◌, length, arith, refl, ap, sym, subst, ◌∙◌}
use Rattle.std.specs.Prelude.{Option, None, Result, Ok, Err, OnOk, OnErr}
use Rattle.wx_events.specs.declared.event.Event.{Event}
use Rattle.wx_events.specs.declared.priority.Priority.{Priority}
use Rattle.prio_channel.specs.Channel.{Channel}
use Rattle.prio_channel.proofs.BagLaws.{same-length}
use Rattle.std.proofs.lemmas.Bool.{eqb-true}
use Rattle.wx_journal.specs.declared.entry.Entry.{Entry}
use Rattle.wx_journal.specs.declared.entry.Entry.TheVariants.{Sent, Offer, Word as Said, Changed}
use Rattle.wx_journal.specs.declared.entry.Named.{Named}
use Rattle.wx_journal.specs.declared.entry.Word.{Word}
use Rattle.wx_journal.specs.declared.entry.Offered.{Offered}
use Rattle.wx_journal.specs.declared.entry.Offered.TheVariants.{Queued, Full, Closed}
use Rattle.wx_journal.specs.Names.{event_count, NamesItem}
use Rattle.wx_journal.specs.Told.{tell_if, is_world}
use Rattle.wx_journal.specs.Written.{Written}
use Rattle.wx_worker.specs.declared.worker_state.Worker.{Worker}
use Rattle.wx_machine.specs.Start.{Start}
use Rattle.wx_config.specs.declared.change.Change.{Change}
use Rattle.wx_config.specs.declared.config.Config.{Config}
use Rattle.wx_machine.specs.Settings.{pending, first_changed, settings}
use Rattle.wx_machine.specs.Journal.{closed, bag, offered}
use Rattle.wx_machine.specs.Due.{Point, Sends, Offers, Says, Agenda, Open, Comes, rest, is_quitting, settle, agenda, Due}
use Rattle.wx_machine.proofs.SettleLaws.{served_open, settle_calm, settle_over}
use Rattle.wx_machine.specs.Kept.{StaysQuiet, More}
use Rattle.wx_machine.specs.Leads.{Leads, FollowsAlone, Then}
use Rattle.wx_machine.specs.Turns.{StaysInTurn}
use Rattle.wx_worker.specs.Calls.{offer_of}
use Rattle.wx_worker.specs.Serves.{AddsAlone, Grows, OwesRest, Settles}
use Rattle.wx_worker.proofs.ServesLaws.{adds, adds_none, adds_then}
use Rattle.wx_machine.proofs.AllJobs.{turns_over}
use Rattle.wx_worker.specs.Stands.{Stands, IsOffered, end_room}
use Rattle.wx_worker.proofs.StandsLemmas.{same_size, stands_behind, offered_is, stands_offered, stands_sent}

-- a worker goes on to this one, over one entry
pub record StepsOver (s : Start) (w : Worker) (p p' : List Entry) : Type 0 where
  pub stands : Stands s w p'
  pub follows : FollowsAlone s p p'
  pub quiet : StaysQuiet p p'
  pub turns : StaysInTurn p p'

pub steps_add : (s : Start) (w : Worker) (p p' : List Entry) → StepsOver s w p p' → AddsAlone s p p'
steps_add s w p p' d = adds s p p' d.follows d.quiet d.turns

-- so it grows, where the room for the end is left
pub grows : (s : Start) (w w' : Worker) (j j' : Written) → StepsOver s w' j.past j'.past → end_room w' ≡ end_room w → end_room w ≤ j'.spare → Grows s w j w' j'
grows s w w' j j' d same room = record { stands = d.stands; adds = steps_add s w' j.past j'.past d; end_kept = same; room = λ r. omega (arith, same, room) }

-- what holds whatever is answered holds where the answer is an error
pub on_err : {T E P : Type 0} (result : Result T E) → P → OnErr result P
on_err (Ok x) h = tt
on_err (Err e) h = h

-- one behind another
pub grows_then : (s : Start) (w w' w'' : Worker) (j j' j'' : Written) → Grows s w j w' j' → Grows s w' j' w'' j'' → Grows s w j w'' j''
grows_then s w w' w'' j j' j'' a b = record { stands = b.stands; adds = adds_then s j.past j'.past j''.past a.adds b.adds; end_kept = b.end_kept ∙ a.end_kept; room = λ r. b.room (a.room r) }

-- where no entry was added
pub grows_none : (s : Start) (w w' : Worker) (j j' : Written) → Stands s w' j'.past → j'.past ≡ j.past → end_room w' ≡ end_room w → (end_room w ≤ j.spare → end_room w' ≤ j'.spare) → Grows s w j w' j'
grows_none s w w' j j' stands same end room = record { stands = stands; adds = rw same (adds_none s j.past); end_kept = end; room = room }

-- what stood behind an offer, an event that is listed as sent, or a word is owed
pub offered_then : (s : Start) (p p' : List Entry) (name : ℕ) (event : Event) (priority : Priority) (result : Offered) → p' ≡ Offer name None result event priority ∷ p → OwesRest s (Offers event priority) p p'
offered_then s p p' name event priority result grown more due =
    rw grown (ap (λ (k : Agenda). settle (Offer name None result event priority ∷ p) (rest (Offer name None result event priority) k)) due ∙ settle_over (Offer name None result event priority ∷ p) p more refl)

pub sent_then : (s : Start) (p p' : List Entry) (name : ℕ) (event : Event) (priority : Priority) (other : Event) (ranked : Priority) → p' ≡ Sent name event priority ∷ p → OwesRest s (Sends other ranked) p p'
sent_then s p p' name event priority other ranked grown more due =
    rw grown (ap (λ (k : Agenda). settle (Sent name event priority ∷ p) (rest (Sent name event priority) k)) due ∙ settle_over (Sent name event priority ∷ p) p more refl)

pub said_then : (s : Start) (p p' : List Entry) (word : Word) → p' ≡ Said word ∷ p → OwesRest s (Says word) p p'
said_then s p p' word grown more due = rw grown (ap (λ (k : Agenda). settle (Said word ∷ p) (rest (Said word) k)) due ∙ settle_over (Said word ∷ p) p more refl)

-- where nothing stood behind it, and the end wasn't asked for, the turn is served
pub settles_open : {X E : Type 0} (s : Start) (x : Point) (p p' : List Entry) (result : Result X E) → is_quitting p ≡ false → agenda s p ≡ Comes x Open → OnOk result (OwesRest s x p p') → OnErr result (p' ≡ p) → Settles result s p p'
settles_open s x p p' (Ok u) going due done err = record { done = served_open s p' (done Open due ∙ settle_calm p Open going); err = tt }
settles_open s x p p' (Err e) going due done err = record { done = tt; err = err }

pub said_rest : {X E : Type 0} (s : Start) (p p' : List Entry) (word : Word) (result : Result X E) → OnOk result (p' ≡ Said word ∷ p) → OnOk result (OwesRest s (Says word) p p')
said_rest s p p' word (Ok u) said = said_then s p p' word said
said_rest s p p' word (Err e) said = tt

pub says_due : (s : Start) (p : List Entry) (word : Word) (more : Agenda) → agenda s p ≡ Comes (Says word) more → Due s p (Said word)
says_due s p word more due = rw due (tt, refl)

-- a word is said, which is no call on the world
pub said_done : (s : Start) (w : Worker) (p p' : List Entry) (word : Word) → Stands s w p → Due s p (Said word) → is_world p (Said word) ≡ false → p' ≡ Said word ∷ p → StepsOver s w p p'
said_done s w p p' word stands due alone grown = rw grown (record {
  stands = stands_behind s w (Said word) p refl tt stands;
  follows = λ world hooks p₀ world₀ hooks₀ l. subst (λ (told : Bool). Leads s p₀ world₀ hooks₀ (Said word ∷ p) (tell_if told (Said word) world) hooks) alone (Then (Said word) p world hooks l due);
  quiet = λ p₀ a. More _ p a refl;
  turns = turns_over _ _ refl;
})

-- what a queue took is what is due to be said of it
pub offer_result : (s : Start) (w : Worker) (p : List Entry) (event : Event) (priority : Priority) (new : Channel Named) (result : Offered) → Stands s w p → IsOffered w.queue (record { name = w.named; event = event }, priority) new result → result ≡ offered s p
offer_result s w p event priority new result stands is = offered_is s w p _ new result stands (subst (λ (n : ℕ). IsOffered w.queue (record { name = n; event = event }, priority) new result) stands.named_kept is)

pub offer_done : (s : Start) (w : Worker) (p p' : List Entry) (item : Option ℕ) (event : Event) (priority : Priority) (new : Channel Named) (result : Offered) → Stands s w p → Due s p (offer_of s p item event priority) → NamesItem p item
    → IsOffered w.queue (record { name = w.named; event = event }, priority) new result → new.size ≡ w.queue.size → new.closed ≡ w.queue.closed → p' ≡ Offer w.named item result event priority ∷ p
    → StepsOver s (record w { queue = new; named = w.named + 1 }) p p'
offer_done s w p p' item event priority new result stands due named is size closed grown =
    let name : w.named ≡ event_count p = stands.named_kept in
    let is' : IsOffered w.queue (record { name = event_count p; event = event }, priority) new result = subst (λ (n : ℕ). IsOffered w.queue (record { name = n; event = event }, priority) new result) name is in
    let d : Due s p (Offer (event_count p) item result event priority) = subst (λ (r : Offered). Due s p (Offer (event_count p) item r event priority)) (sym (offer_result s w p event priority new result stands is)) due in
    let P : ℕ → Type 0 = λ n. StepsOver s (record w { queue = new; named = w.named + 1 }) p (Offer n item result event priority ∷ p) in
    rw grown (subst P (sym name) (record {
      stands = stands_offered s w p item event priority new result stands named is' size closed;
      follows = λ world hooks p₀ world₀ hooks₀ l. Then (Offer (event_count p) item result event priority) p world hooks l d;
      quiet = λ p₀ a. More _ p a refl;
      turns = turns_over _ _ refl;
    }))

-- its entry is the one that was due
pub offer_named : (s : Start) (w : Worker) (p p' : List Entry) (item : Option ℕ) (event : Event) (priority : Priority) (new : Channel Named) (result : Offered) → Stands s w p
    → IsOffered w.queue (record { name = w.named; event = event }, priority) new result → p' ≡ Offer w.named item result event priority ∷ p → p' ≡ offer_of s p item event priority ∷ p
offer_named s w p p' item event priority new result stands is grown =
    grown ∙ ap (λ (n : ℕ). Offer n item result event priority ∷ p) stands.named_kept ∙ ap (λ (r : Offered). Offer (event_count p) item r event priority ∷ p) (offer_result s w p event priority new result stands is)

-- where an offer is owed, that of no item is due
pub offers_due : (s : Start) (p : List Entry) (event : Event) (priority : Priority) (more : Agenda) → agenda s p ≡ Comes (Offers event priority) more → Due s p (offer_of s p None event priority)
offers_due s p event priority more due = rw due (tt, refl)

pub offered_rest : {X E : Type 0} (s : Start) (p p' : List Entry) (event : Event) (priority : Priority) (result : Result X E) → OnOk result (p' ≡ offer_of s p None event priority ∷ p) → OnOk result (OwesRest s (Offers event priority) p p')
offered_rest s p p' event priority (Ok u) grown = offered_then s p p' _ event priority _ grown
offered_rest s p p' event priority (Err e) grown = tt

-- no offer asks for the end
pub offered_quits : {X E : Type 0} (s : Start) (p p' : List Entry) (event : Event) (priority : Priority) (result : Result X E) → OnOk result (p' ≡ offer_of s p None event priority ∷ p) → OnErr result (p' ≡ p) → is_quitting p' ≡ is_quitting p
offered_quits s p p' event priority (Ok u) grown err = rw grown refl
offered_quits s p p' event priority (Err e) grown err = rw err refl

-- no change sets the size of the queue
size_first : (changes : List Change) (c : Config) → (first_changed changes c).event_channel_size ≡ c.event_channel_size
size_first [] c = refl
size_first (change ∷ changes) c = same_size change c

size_stays : (s : Start) (p : List Entry) → (settings s p).event_channel_size ≡ s.config.event_channel_size
size_stays s [] = refl
size_stays s (Changed named ∷ p) = size_first (pending p) (settings s p) ∙ size_stays s p
size_stays s (_ ∷ p) = size_stays s p

pub send_done : (s : Start) (w : Worker) (p p' : List Entry) (event : Event) (priority : Priority) (more : Agenda) (new : Channel Named) (result : Offered) → Stands s w p → agenda s p ≡ Comes (Sends event priority) more
    → length (bag p) < s.config.event_channel_size → closed p ≡ false → IsOffered w.queue (record { name = w.named; event = event }, priority) new result → new.size ≡ w.queue.size → new.closed ≡ w.queue.closed → p' ≡ Sent w.named event priority ∷ p
    → StepsOver s (record w { queue = new; named = w.named + 1 }) p p'
send_done s w p p' event priority more new Queued stands due fits takes is size same_closed grown =
    let name : w.named ≡ event_count p = stands.named_kept in
    let is' : IsOffered w.queue (record { name = event_count p; event = event }, priority) new Queued = subst (λ (n : ℕ). IsOffered w.queue (record { name = n; event = event }, priority) new Queued) name is in
    let d : Due s p (Sent (event_count p) event priority) = rw due (tt, refl) in
    let P : ℕ → Type 0 = λ n. StepsOver s (record w { queue = new; named = w.named + 1 }) p (Sent n event priority ∷ p) in
    rw grown (subst P (sym name) (record {
      stands = stands_sent s w p event priority new stands is'.0 size same_closed;
      follows = λ world hooks p₀ world₀ hooks₀ l. Then (Sent (event_count p) event priority) p world hooks l d;
      quiet = λ p₀ a. More _ p a refl;
      turns = turns_over _ _ refl;
    }))
send_done s w p p' event priority more new Full stands due fits takes is size same_closed grown =
    let n : length w.queue.items ≡ length (bag p) = same-length w.queue.items (bag p) stands.queue_kept in
    let full : length w.queue.items ≡ w.queue.size = eqb-true _ _ is.1 in
    let size_is = size_stays s p in
    absurd (omega (arith, stands.size_kept))
send_done s w p p' event priority more new Closed stands due fits takes is size same_closed grown = let both : true ≡ false = sym is.1 ∙ stands.closed_kept ∙ takes in absurd cc
