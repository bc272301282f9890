-- What is made of an item that is heard, and what keeps watches once it was told that.
use Rattle.std.specs.Prelude.{◌≡◌, ℕ, Bool, if◌then◌else◌, Option, None, Some, Result, Ok, Err, List, [], ◌∷◌}
use Rattle.wx_notify.specs.declared.notify.Notify.{Notify}
use Rattle.wx_watch.specs.declared.notify_fault.NotifyFault.{NotifyFault}
use Rattle.wx_lane.specs.declared.topology.Topology.{Topology}
use Rattle.wx_lane.specs.declared.topology.Topology.TheVariants.{Create, Remove, Rename, Ambiguous, Rescan}
use Rattle.wx_lane.specs.Messages.{topology_messages}
use Rattle.wx_lane.specs.Public.{named}
use Rattle.wx_lane.specs.declared.lane.LaneItem.{LaneItem}
use Rattle.wx_recursor.specs.Calls.{created, removed, renamed, rescanned, unsure}
use Rattle.wx_recursor.specs.States.{RecursorState}
use Rattle.wx_journal.specs.declared.entry.Entry.{Entry}
use Rattle.wx_journal.specs.declared.entry.Entry.TheVariants.{Heard}
use Rattle.wx_machine.specs.Start.{Start}
use Rattle.wx_machine.specs.Files.{Source, fault_of, is_live, item_fault, item_named, source}
use Rattle.wx_machine.specs.Due.{rest_entry}
use Rattle.wx_scan.specs.declared.backend.Backend.{Ghosts}
use Rattle.wx_holding.specs.Holding.{state_of}
use Rattle.wx_fs.specs.declared.recursor.Recursor.{Recursor}
use Rattle.wx_file_turns.specs.declared.hearing.Hearing.{Hearing}

-- what was brought says this of the tree, where its backend is live
abbrev pub messages_of : Bool → Result Notify NotifyFault → List Topology
messages_of live (Ok n) = if live then topology_messages n else []
messages_of live (Err fault) = []

abbrev pub hearing_of : Bool → LaneItem → Hearing
hearing_of live i = record { name = i.name; messages = messages_of live i.item; fault = fault_of i.item }

-- what an item of the lane says of the tree, where its backend is live by the journal
abbrev pub item_messages : Source → Option LaneItem → List Topology
item_messages x None = []
item_messages x (Some i) = messages_of (is_live x i.back) i.item

-- what an entry tells of the tree: what the item says that is heard, and else nothing
abbrev pub messages_by : Start → List Entry → Entry → List Topology
messages_by s p (Heard item) = item_messages (source s p) (item_named item (source s p).lane)
messages_by s p (_) = []

-- an item is to be heard next; this is what it says of the tree, and the fault that it is, where it is one
pub record IsToHear (s : Start) (h : Hearing) (p : List Entry) : Type 0 where
  pub next : rest_entry s p ≡ Heard h.name
  pub messages : h.messages ≡ item_messages (source s p) (item_named h.name (source s p).lane)
  pub fault : h.fault ≡ item_fault (item_named h.name (source s p).lane)

-- ---- what keeps watches, once it was told

-- one message, whose paths are seen from this folder
abbrev pub told_of : List ℕ → Topology → RecursorState → RecursorState
told_of folder (Create path) s = created (named folder path) s
told_of folder (Remove path) s = removed (named folder path) s
told_of folder (Rename from to) s = renamed (named folder from) (named folder to) s
told_of folder (Ambiguous path) s = unsure (named folder path) s
told_of folder Rescan s = rescanned s

-- these messages, in order
abbrev pub told_all : List ℕ → List Topology → RecursorState → RecursorState
told_all folder [] s = s
told_all folder (m ∷ ms) s = told_all folder ms (told_of folder m s)

-- it keeps watches as it did, over the same backend: for the same roots, by the same filter, with links followed or not as before
pub record StaysWatching {B : Type 0} {G : Ghosts B} (r r' : Recursor B G) : Type 0 where
  pub back_kept : r'.back ≡ r.back
  pub kind_kept : r'.kind ≡ r.kind
  pub follow_kept : r'.follow ≡ r.follow
  pub folder_kept : r'.cwd ≡ r.cwd
  pub spent_kept : r'.spent ≡ r.spent
  pub place_kept : (state_of r'.held).backend ≡ (state_of r.held).backend
  pub roots_kept : (state_of r'.held).roots ≡ (state_of r.held).roots
  pub filter_kept : (state_of r'.held).filter ≡ (state_of r.held).filter
