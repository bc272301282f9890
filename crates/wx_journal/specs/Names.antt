-- Moments and names in a journal. It is a list of entries, the newest first, so each definition goes by the newest entry.
use Rattle.std.specs.Prelude.{◌≡◌, ℕ, ◌+◌, ◌<◌, max, Bool, true, false, ◌==◌, ◌||◌, if◌then◌else◌, Option, None, Some, List, [], ◌∷◌}
use Rattle.std.specs.List.{AllByRecursion, list_any}
use Rattle.wx_control.specs.declared.id.Id.{Id}
use Rattle.wx_journal.specs.Acts.{JournalAct as Act}
use Rattle.wx_journal.specs.declared.entry.Act.TheVariants.{Create, Ask, Change, Quit, QuitGracefully}
use Rattle.wx_journal.specs.declared.entry.Entry.{Entry}
use Rattle.wx_journal.specs.declared.entry.Entry.TheVariants.{Turn as Turned, Offer, Take, Filter, Hand, Made, Pick, Heard, Brought, LetGo}
use Rattle.wx_journal.specs.Sorts.{Naming, NoName, NewEvent, NewTicket, NewChild, NewBack, NewItem, Subject, OfChild, OfTicket, sort}

-- the moment of the last turn, 0 before the first
abbrev pub moment : List Entry → ℕ
moment [] = 0
moment (Turned t ∷ p) = t.at
moment (_ ∷ p) = moment p

abbrev pub is_new_event : Naming → Bool
is_new_event (NewEvent name) = true
is_new_event (_) = false

abbrev pub is_new_ticket : Naming → Bool
is_new_ticket (NewTicket ticket) = true
is_new_ticket (_) = false

abbrev pub is_new_child : Naming → Bool
is_new_child (NewChild child) = true
is_new_child (_) = false

abbrev pub is_new_back : Naming → Bool
is_new_back (NewBack back) = true
is_new_back (_) = false

abbrev pub is_new_item : Naming → Bool
is_new_item (NewItem item) = true
is_new_item (_) = false

-- the entries that name an event, a ticket, a child, a backend or a brought item
abbrev pub names_event : Entry → Bool
names_event e = is_new_event (sort e).naming

abbrev pub names_ticket : Entry → Bool
names_ticket e = is_new_ticket (sort e).naming

abbrev pub names_child : Entry → Bool
names_child e = is_new_child (sort e).naming

abbrev pub names_back : Entry → Bool
names_back e = is_new_back (sort e).naming

abbrev pub names_item : Entry → Bool
names_item e = is_new_item (sort e).naming

-- how many entries are of a kind
abbrev pub count : (Entry → Bool) → List Entry → ℕ
count kind [] = 0
count kind (e ∷ p) = if kind e then count kind p + 1 else count kind p

-- how many events, tickets, children, backends and brought items have a name: names are given in order, from 0
abbrev pub event_count : List Entry → ℕ
event_count p = count names_event p

abbrev pub ticket_count : List Entry → ℕ
ticket_count p = count names_ticket p

abbrev pub child_count : List Entry → ℕ
child_count p = count names_child p

abbrev pub back_count : List Entry → ℕ
back_count p = count names_back p

abbrev pub item_count : List Entry → ℕ
item_count p = count names_item p

-- the least number that is above one and above that of a job
abbrev pub above : ℕ → Id → ℕ
above n id = max n (id.0 + 1)

-- the id of the next new job, which is above each that was made
abbrev pub next_job : List Entry → ℕ
next_job [] = 0
next_job (Made id ∷ p) = above (next_job p) id
next_job (_ ∷ p) = next_job p

-- The id of a job that is made or created is new: it is the next one.
abbrev pub IsNextJob : ℕ → Id → Type 0
IsNextJob next id = id.0 ≡ next

-- a job of this id was made
abbrev pub makes : Id → Entry → Bool
makes id (Made job) = job.0 == id.0
makes id (_) = false

abbrev pub was_made : Id → List Entry → Bool
was_made id p = list_any (makes id) p

-- a job of this name is created by one of these acts, and by those of an entry of this journal
abbrev pub creates : Id → List Act → Bool
creates id [] = false
creates id (Create job command ∷ acts) = job.0 == id.0 || creates id acts
creates id (Ask job ask ∷ acts) = creates id acts
creates id (Change change ∷ acts) = creates id acts
creates id (Quit ∷ acts) = creates id acts
creates id (QuitGracefully signal grace ∷ acts) = creates id acts

abbrev pub is_created : Id → List Entry → Bool
is_created id [] = false
is_created id (Hand n names acts ∷ p) = creates id acts || is_created id p
is_created id (_ ∷ p) = is_created id p

-- an item that an offer names has a name
abbrev pub NamesItem : List Entry → Option ℕ → Type 0
NamesItem p None = Unit {0}
NamesItem p (Some item) = item < item_count p

-- a name that is given is the next, and a child or a ticket that is spoken of has one
abbrev pub IsNamed : List Entry → Naming → Subject → Type 0
IsNamed p (NewEvent name) subject = name ≡ event_count p
IsNamed p (NewTicket ticket) subject = ticket ≡ ticket_count p
IsNamed p (NewChild child) subject = child ≡ child_count p
IsNamed p (NewBack back) subject = back ≡ back_count p
IsNamed p (NewItem item) subject = item ≡ item_count p
IsNamed p NoName (OfChild child) = child < child_count p
IsNamed p NoName (OfTicket ticket) = ticket < ticket_count p
IsNamed p NoName (_) = Unit {0}

-- what an entry behind these may name: the next name where it names something, and else only what has a name
abbrev pub Names : List Entry → Entry → Type 0
Names p (Offer name item result event priority) = (name ≡ event_count p) × NamesItem p item
Names p (Take name) = name < event_count p
Names p (Filter n name answer) = name < event_count p
Names p (Hand n names acts) = AllByRecursion (λ name. name < event_count p) names
Names p (Made job) = is_created job p ≡ true
Names p (Pick job ticket) = ticket < ticket_count p
Names p (Heard item) = item < item_count p
Names p (Brought item back answer) = (item ≡ item_count p) × (back < back_count p)
Names p (LetGo item cause) = item < item_count p
Names p e = IsNamed p (sort e).naming (sort e).subject

-- a journal names only what its own entries made
abbrev pub NamesItsOwn : List Entry → Type 0
NamesItsOwn [] = Unit {0}
NamesItsOwn (e ∷ p) = Names p e × NamesItsOwn p
