-- What a world with handles is seen as.
use Rattle.std.specs.Prelude.{◌≡◌, ◌+◌, ℕ, false, true, None, Some, List, [], min, reverse}
use Rattle.std.specs.List.{list_all}
use Rattle.atomic_table.specs.Seated.{TableId}
use Rattle.wx_scan.specs.Looked.{Looked}
use Rattle.wx_journal.specs.declared.entry.Entry.{Entry}
use Rattle.wx_machine.specs.Seen.{Seen}
use Rattle.wx_queue.specs.Ends.{TakingEnd}
use Rattle.wx_queue.specs.declared.parcel.Sent.{Sent}
use Rattle.wx_pass.specs.declared.item.Item.{Item}
use Rattle.wx_live.specs.Drawn.{Drawn}
use Rattle.wx_handles.specs.Marked.{Marked}
use Rattle.wx_handles.specs.Rounds.{are_rounds}
use Rattle.wx_handles.specs.Turns.{are_behind, count_given, drawn_by, is_own, items_in, items_of, turns_by}

-- What no call of `World` changes: how many turns it gives, how many jobs are in its round, what its outside had drawn, which queue it has,
-- and how many handles it made.
pub record Based : Type 0 where
  pub turns : ℕ
  pub jobs : ℕ
  pub drew : Drawn
  pub queue : TableId
  pub made : ℕ

-- its own part, beside its outside
pub record Own : Type 0 where
  pub base : Based
  pub turns : List Entry
  pub left : ℕ
  pub room : ℕ

abbrev pub own : ℕ → ℕ → Drawn → Marked → TakingEnd Item → ℕ → Own
own turns jobs drew marks items left = record {
  base = record { turns = turns; jobs = jobs; drew = drew; queue = items.queue; made = items.made };
  turns = turns_by marks.past (reverse items.given);
  left = left;
  room = min marks.spare items.room;
}

-- what is said of files: its tree changes when it will
abbrev pub unsettled : Looked → Looked
unsettled l = record l { shape = None; exact = false }

-- what its outside is seen as, with a plan and turns of its own, in the room that both have
abbrev pub threaded : {Fixed : Type 0} → Own → Seen Fixed → Seen Based
threaded o a = record {
  plan = o.base;
  shown = a.shown;
  spare = min o.room a.spare;
  progress = record { turns = Some o.turns; left = o.left; moment = a.progress.moment; turn_faults = 0; maker_faults = 0 };
  place = a.place;
  looked = unsettled a.looked;
}

-- one handle more was made
abbrev pub with_handle : Seen Based → Seen Based
with_handle s = record s { plan = record s.plan { made = s.plan.made + 1 } }

-- a new world that gives so many turns, has so many jobs in its round, stands on an outside that had drawn this, and made one handle
pub record Begins {Fixed : Type 0} (count ids : ℕ) (drawn : Drawn) (a : Seen Fixed) (b : Seen Based) : Type 0 where
  pub turns : b.plan.turns ≡ count
  pub jobs : b.plan.jobs ≡ ids
  pub drew : b.plan.drew ≡ drawn
  pub made : b.plan.made ≡ 1
  pub shown : b.shown ≡ a.shown
  pub given : b.progress.turns ≡ Some []
  pub left : b.progress.left ≡ count
  pub moment : b.progress.moment ≡ a.progress.moment
  pub place : b.place ≡ a.place

-- What turns say: of what was drawn since a world began, of what its queue gave, and of its round. All lists have the newest first. The
-- items among the turns are those that the queue gave; the others that are no ends and not the last are rounds; and the last turns come
-- when all others were given. No turn failed, and there are none of other kinds.
pub record TurnsTell (base : Based) (turns : List Entry) (left : ℕ) (drawn : Drawn) (given : List (Sent Item)) : Type 0 where
  pub draws : drawn ≡ drawn_by turns base.drew
  pub items : items_in turns ≡ items_of given
  pub rounds : are_rounds base.jobs turns ≡ true
  pub counts : left + count_given turns ≡ base.turns
  pub last : are_behind base.turns turns ≡ true
  pub own : list_all is_own turns ≡ true

-- A world was taken apart, into an outside, of which this was drawn, and its queue.
pub record Parted {Fixed : Type 0} (b : Seen Based) (a : Seen Fixed) (drawn : Drawn) (items : TakingEnd Item) : Type 0 where
  pub shown : a.shown ≡ b.shown
  pub place : a.place ≡ b.place
  pub queue : items.queue ≡ b.plan.queue
  pub made : items.made ≡ b.plan.made
  pub told : (turns : List Entry) × (b.progress.turns ≡ Some turns) × TurnsTell b.plan turns b.progress.left drawn (reverse items.given)
