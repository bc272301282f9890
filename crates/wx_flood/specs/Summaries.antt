-- What a summary of a run says.
use Rattle.std.specs.Prelude.{ℕ, ◌+◌, Ok, List, [], ◌∷◌, ◌++◌, length, codes, decimal}
use Rattle.wx_journal.specs.declared.entry.Entry.{Entry}
use Rattle.wx_journal.specs.declared.entry.Entry.TheVariants.{Turn, Offer, Hand, Spawn, Wait, Dropped, Raise}
use Rattle.wx_journal.specs.declared.entry.Offered.TheVariants.{Queued, Full}
use Rattle.wx_machine.specs.Journal.{window}
use Rattle.wx_flood.specs.declared.counting.Counts.{Counts}

-- nothing was counted
abbrev pub none : Counts
none = record { turns = 0; queued = 0; full = 0; batches = 0; handed = 0; spawned = 0; reaped = 0; dropped = 0; raised = 0 }

-- with one entry more
abbrev pub counted : Counts → Entry → Counts
counted c (Turn turn) = record c { turns = c.turns + 1 }
counted c (Offer name item Queued event priority) = record c { queued = c.queued + 1 }
counted c (Offer name item Full event priority) = record c { full = c.full + 1 }
counted c (Hand n names acts) = record c { batches = c.batches + 1; handed = c.handed + length names }
counted c (Spawn child job tag what (Ok u)) = record c { spawned = c.spawned + 1 }
counted c (Wait child (Ok end)) = record c { reaped = c.reaped + 1 }
counted c (Dropped child) = record c { dropped = c.dropped + 1 }
counted c (Raise ticket) = record c { raised = c.raised + 1 }
counted c (_) = c

abbrev pub counts_of : List Entry → Counts
counts_of [] = none
counts_of (e ∷ p) = counted (counts_of p) e

-- a count by its name
abbrev pub count_line : List ℕ × ℕ → List ℕ
count_line row = row.0 ++ 32 ∷ decimal row.1 ++ 10 ∷ []

-- the counts of a run, in order: turns, offers that were queued and that found the queue full, batches and the events in them, children that
-- were spawned, reaped and let go, tickets that were raised, and events that passed and were not handed
abbrev pub rows : Counts → ℕ → List (List ℕ × ℕ)
rows c lost =
    (codes "turns", c.turns) ∷ (codes "queued", c.queued) ∷ (codes "full", c.full) ∷ (codes "batches", c.batches) ∷ (codes "handed", c.handed) ∷
    (codes "spawned", c.spawned) ∷ (codes "reaped", c.reaped) ∷ (codes "dropped", c.dropped) ∷ (codes "raised", c.raised) ∷ (codes "lost", lost) ∷ []

-- a text with a line for each of these behind it
abbrev pub with_lines : List ℕ → List (List ℕ × ℕ) → List ℕ
with_lines text [] = text
with_lines text (row ∷ rows) = with_lines (text ++ count_line row) rows

-- a line for each count, and the end line of a run that ended with Ok
abbrev pub summary : List Entry → List ℕ
summary journal = with_lines [] (rows (counts_of journal) (length (window journal))) ++ codes "end ok\n"
