-- The turns of a world with handles, by their marks and by what the queue gave.
use Rattle.std.specs.Prelude.{ℕ, ◌==◌, ◌&&◌, Bool, true, false, suc, if◌then◌else◌, Option, None, Some, List, [], ◌∷◌}
use Rattle.wx_journal.specs.declared.entry.Entry.{Entry}
use Rattle.wx_journal.specs.declared.entry.Entry.TheVariants.{Turn as Turned}
use Rattle.wx_journal.specs.declared.entry.TurnKind.{TurnKind}
use Rattle.wx_journal.specs.declared.entry.TurnKind.TheVariants as turn
use Rattle.wx_machine.specs.Told.{is_last}
use Rattle.wx_queue.specs.declared.parcel.Sent.{Sent}
use Rattle.wx_pass.specs.declared.item.Item.{Item}
use Rattle.wx_pass.specs.declared.item.Item.TheVariants.{Ask, Keys}
use Rattle.wx_handles.specs.declared.mark.Mark.{Mark}
use Rattle.wx_handles.specs.declared.mark.Plain.{Plain}
use Rattle.wx_handles.specs.declared.mark.Plain.TheVariants.{Ended, Work, Job, Listen, File, Last}
use Rattle.wx_live.specs.Drawn.{Drawn, with_answer, with_moment}

abbrev pub plain_kind : Plain → TurnKind
plain_kind (Ended child) = turn.Ended child
plain_kind Work = turn.Work
plain_kind (Job id) = turn.Job id
plain_kind Listen = turn.Listen
plain_kind File = turn.File
plain_kind Last = turn.Last

abbrev pub item_kind : Item → TurnKind
item_kind (Ask id ask) = turn.Ask id ask
item_kind (Keys bytes) = turn.Keys bytes

-- the kind of a turn, where these were given, the newest first
abbrev pub kind_of : Option Plain → List (Sent Item) → TurnKind
kind_of (Some plain) given = plain_kind plain
kind_of None [] = turn.Last
kind_of None (s ∷ given) = item_kind s.item

-- those given before this turn
abbrev pub given_before : Option Plain → List (Sent Item) → List (Sent Item)
given_before (Some plain) given = given
given_before None [] = []
given_before None (s ∷ given) = given

abbrev pub turn_at : ℕ → TurnKind → Entry
turn_at at kind = Turned (record { at = at; kind = kind })

-- the turns, the newest first, by their marks and by what was given, the newest first too
abbrev pub turns_by : List Mark → List (Sent Item) → List Entry
turns_by [] given = []
turns_by (m ∷ marks) given = turn_at m.at (kind_of m.plain given) ∷ turns_by marks (given_before m.plain given)

-- how many of the turns are items of the queue
abbrev pub one_item : Option Plain → ℕ → ℕ
one_item (Some plain) n = n
one_item None n = suc n

abbrev pub item_count : List Mark → ℕ
item_count [] = 0
item_count (m ∷ marks) = one_item m.plain (item_count marks)

-- what was drawn for a turn of this kind, before its moment
abbrev pub kind_drawn : TurnKind → Drawn → Drawn
kind_drawn (turn.Ended child) d = with_answer (Some child) d
kind_drawn turn.Work d = with_answer None d
kind_drawn (turn.Job id) d = with_answer None d
kind_drawn turn.Listen d = with_answer None d
kind_drawn turn.File d = with_answer None d
kind_drawn (_) d = d

abbrev pub entry_drawn : Entry → Drawn → Drawn
entry_drawn (Turned t) d = with_moment t.at (kind_drawn t.kind d)
entry_drawn (_) d = d

-- what was drawn for these turns, the newest first
abbrev pub drawn_by : List Entry → Drawn → Drawn
drawn_by [] d = d
drawn_by (e ∷ es) d = entry_drawn e (drawn_by es d)

abbrev pub kind_item : TurnKind → List Item → List Item
kind_item (turn.Ask id ask) items = Ask id ask ∷ items
kind_item (turn.Keys bytes) items = Keys bytes ∷ items
kind_item (_) items = items

abbrev pub entry_item : Entry → List Item → List Item
entry_item (Turned t) items = kind_item t.kind items
entry_item (_) items = items

-- a turn that is an item of the queue
abbrev pub is_item : TurnKind → Bool
is_item (turn.Ask id ask) = true
is_item (turn.Keys bytes) = true
is_item (_) = false

-- the items among these turns
abbrev pub items_in : List Entry → List Item
items_in [] = []
items_in (e ∷ es) = entry_item e (items_in es)

-- what the queue gave, without who sent it
abbrev pub items_of : List (Sent Item) → List Item
items_of [] = []
items_of (s ∷ given) = s.item ∷ items_of given

abbrev pub one_given : Entry → ℕ → ℕ
one_given (Turned t) n = if is_last t.kind then n else suc n
one_given (_) n = n

-- how many of these turns are not the last
abbrev pub count_given : List Entry → ℕ
count_given [] = 0
count_given (e ∷ es) = one_given e (count_given es)

abbrev pub is_behind : ℕ → Entry → ℕ → Bool
is_behind turns (Turned t) n = if is_last t.kind then n == turns else true
is_behind turns (_) n = true

-- each last one of these turns stands behind so many that are not the last
abbrev pub are_behind : ℕ → List Entry → Bool
are_behind turns [] = true
are_behind turns (e ∷ es) = is_behind turns e (count_given es) && are_behind turns es

-- a turn that such a world gives: an item of the queue, the end of a child, one of the round, or the last
abbrev pub is_own_kind : TurnKind → Bool
is_own_kind (turn.Arrive event priority) = false
is_own_kind (turn.Signal signal) = false
is_own_kind (turn.Change change) = false
is_own_kind (_) = true

abbrev pub is_own : Entry → Bool
is_own (Turned t) = is_own_kind t.kind
is_own (_) = false
