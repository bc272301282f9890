-- What a journal says. It is a list of entries, the newest first, so each definition goes by the newest entry.
use Rattle.std.specs.Prelude.{ℕ, ◌+◌, Bool, true, false, not, ◌&&◌, ◌||◌, ◌==◌, nat_le, if◌then◌else◌, Option, None, Some, Result, Ok, Err, List, [], ◌∷◌, ◌++◌, length}
use Rattle.std.specs.List.{filter, list_any}
use Rattle.wx_events.specs.declared.event.Event.{Event}
use Rattle.wx_events.specs.declared.priority.Priority.{Priority}
use Rattle.wx_events.specs.Priority.{is_urgent}
use Rattle.wx_journal.specs.Names.{moment, count}
use Rattle.wx_journal.specs.Told.{is_turn}
use Rattle.wx_journal.specs.declared.entry.Entry.{Entry}
use Rattle.wx_journal.specs.declared.entry.Entry.TheVariants.{Sent, Turn as Turned, TurnFault, Offer, Take, Filter, Show, Hand, Dir, Make}
use Rattle.wx_journal.specs.declared.entry.Named.{Named}
use Rattle.wx_journal.specs.declared.entry.Offered.{Offered}
use Rattle.wx_journal.specs.declared.entry.Offered.TheVariants.{Queued, Full, Closed}
use Rattle.wx_error.specs.declared.runtime.RuntimeError.{RuntimeError}
use Rattle.wx_error.specs.declared.runtime.RuntimeError.TheVariants.{Exit}
use Rattle.wx_error.specs.declared.error.CriticalError.{CriticalError}
use Rattle.wx_error.specs.declared.error.CriticalError.TheVariants.{Exit as CriticalExit, Elevated}
use Rattle.wx_journal.specs.declared.wish.Wish.{Wish}
use Rattle.wx_journal.specs.declared.wish.Wish.TheVariants.{Nothing, Elevate, Critical}
use Rattle.wx_machine.specs.Start.{Start}
use Rattle.wx_machine.specs.Settings.{settings}
use Rattle.wx_machine.specs.Files.{init_error}
use Rattle.wx_machine.specs.Told.{is_last}

-- the event of this name, with its priority
abbrev pub listed : ℕ → List Entry → Option (Event × Priority)
listed name [] = None
listed name (Sent n event priority ∷ p) = if n == name then Some (event, priority) else listed name p
listed name (Offer n item result event priority ∷ p) = if n == name then Some (event, priority) else listed name p
listed name (_ ∷ p) = listed name p

-- whether the event of this name is urgent
abbrev pub is_urgent_in : Option (Event × Priority) → Bool
is_urgent_in None = false
is_urgent_in (Some x) = is_urgent x.1

abbrev pub is_urgent_named : ℕ → List Entry → Bool
is_urgent_named name p = is_urgent_in (listed name p)

-- an event passes unseen where it is urgent, and where it has no tags
abbrev pub is_unseen : Event → Priority → Bool
is_unseen event priority = is_urgent priority || length event.tags == 0

abbrev pub is_unseen_in : Option (Event × Priority) → Bool
is_unseen_in None = false
is_unseen_in (Some x) = is_unseen x.0 x.1

abbrev pub passes_unseen : ℕ → List Entry → Bool
passes_unseen name p = is_unseen_in (listed name p)

-- what a filter answers: whether it let an event pass, and whether it asked for the end
abbrev pub Verdict : Type 0
Verdict = Result Bool RuntimeError

abbrev pub lets_pass : Verdict → Bool
lets_pass (Ok passes) = passes
lets_pass (Err error) = false

abbrev pub is_exit : Verdict → Bool
is_exit (Err Exit) = true
is_exit (_) = false

-- an error handler asked for the end without an error
abbrev pub is_close : Wish → Bool
is_close (Critical CriticalExit) = true
is_close (_) = false

-- the queue is closed: a filter or an error handler asked for the end
abbrev pub closed : List Entry → Bool
closed [] = false
closed (Filter n name answer ∷ p) = is_exit answer || closed p
closed (Show n error wish ∷ p) = is_close wish || closed p
closed (Dir n path answer ∷ p) = is_exit answer || closed p
closed (_ ∷ p) = closed p

-- the error that a wish ends the run with, of an error that was shown: an exit only closes the queue
abbrev pub ending : RuntimeError → Wish → Option CriticalError
ending error Nothing = None
ending error Elevate = Some (Elevated error None)
ending error (Critical CriticalExit) = None
ending error (Critical wished) = Some wished

-- the error that the newest entry ends the run with
abbrev pub wished : List Entry → Option CriticalError
wished [] = None
wished (Show n error wish ∷ p) = ending error wish
wished (Make back watcher follow answer ∷ p) = init_error watcher answer
wished (_ ∷ p) = None

-- the item of this name, and the items without it
abbrev pub named : ℕ → List (Named × Priority) → Option (Named × Priority)
named name [] = None
named name (x ∷ xs) = if x.0.name == name then Some x else named name xs

abbrev pub without : ℕ → List (Named × Priority) → List (Named × Priority)
without name [] = []
without name (x ∷ xs) = if x.0.name == name then xs else x ∷ without name xs

-- the bag: the events that were sent or queued, and not taken
abbrev pub bag : List Entry → List (Named × Priority)
bag [] = []
bag (Sent name event priority ∷ p) = bag p ++ (record { name = name; event = event }, priority) ∷ []
bag (Offer name item Queued event priority ∷ p) = bag p ++ (record { name = name; event = event }, priority) ∷ []
bag (Take name ∷ p) = without name (bag p)
bag (_ ∷ p) = bag p

-- an offer finds the queue full where it isn't closed and the bag has as many events as the size
abbrev pub offered : Start → List Entry → Offered
offered s p = if closed p then Closed else (if length (bag p) == (settings s p).event_channel_size then Full else Queued)

-- an event that joins, where this is so
abbrev pub one_if : Bool → ℕ → Option ℕ
one_if so name = if so then Some name else None

-- The event that an entry behind these lets join the window, where it lets one: one that passes unseen joins when it is
-- taken, and any other when the filter lets it pass.
abbrev pub joins : List Entry → Entry → Option ℕ
joins p (Take name) = one_if (passes_unseen name p) name
joins p (Filter n name answer) = one_if (lets_pass answer) name
joins p (_) = None

-- names, and one behind them where there is one
abbrev pub and_one : List ℕ → Option ℕ → List ℕ
and_one names None = names
and_one names (Some name) = names ++ name ∷ []

-- the events that passed, in the order in which they did
abbrev pub passed : List Entry → List ℕ
passed [] = []
passed (e ∷ p) = and_one (passed p) (joins p e)

-- the batches, in order
abbrev pub batches : List Entry → List (List ℕ)
batches [] = []
batches (Hand n names acts ∷ p) = batches p ++ names ∷ []
batches (_ ∷ p) = batches p

-- names without those of a batch
abbrev pub is_among : ℕ → List ℕ → Bool
is_among name names = list_any (λ other. other == name) names

abbrev pub unhanded : List ℕ → List ℕ → List ℕ
unhanded batch names = filter (λ name. not (is_among name batch)) names

-- the window: the events that passed, without those of the batches
abbrev pub window : List Entry → List ℕ
window [] = []
window (Hand n names acts ∷ p) = unhanded names (window p)
window (e ∷ p) = and_one (window p) (joins p e)

-- the moment at which a window began: the one before, or now where an event joins an empty window
abbrev pub begun : Option ℕ → List ℕ → ℕ → ℕ → ℕ
begun None window now before = before
begun (Some name) window now before = if length window == 0 then now else before

-- the moment of the turn in which the window's first event joined it
abbrev pub first : List Entry → ℕ
first [] = 0
first (e ∷ p) = begun (joins p e) (window p) (moment p) (first p)

-- the throttle is over: the window isn't empty, and its first event joined it at least the throttle ago
abbrev pub is_over_of : ℕ → List ℕ → ℕ → ℕ → Bool
is_over_of throttle window first at = not (length window == 0) && nat_le (first + throttle) at

abbrev pub is_over : Start → List Entry → ℕ → Bool
is_over s p at = is_over_of (settings s p).throttle (window p) (first p) at

-- a turn but a last one, or the fault of a turn
abbrev pub is_early : Entry → Bool
is_early (Turned t) = not (is_last t.kind)
is_early (e) = is_turn e

-- how many turns were asked for, and how many of them were no last ones
abbrev pub turn_count : List Entry → ℕ
turn_count p = count is_turn p

abbrev pub early_count : List Entry → ℕ
early_count p = count is_early p

-- the code of the turn that failed
abbrev pub turn_fault : List Entry → Option ℕ
turn_fault [] = None
turn_fault (TurnFault code ∷ p) = Some code
turn_fault (_ ∷ p) = turn_fault p
