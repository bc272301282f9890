-- What a handler keeps while its acts grow.
use Rattle.std.proofs.Common.{◌≡◌, ◌≢◌, ℕ, ◌+◌, ◌-◌, ◌^◌, ◌<◌, ◌≤◌, Bool, true, false, cond, List, [], ◌∷◌, ◌++◌, length, inl, inr, refl, ap, sym, subst, ◌∙◌, arith, length-append}
use Rattle.std.specs.Prelude.{◌&&◌, not, Option, None, Some, is_none, min, vec_len, vec_capacity}
use Rattle.std.proofs.lemmas.Bool.{or_parts}
use Rattle.std.proofs.lemmas.List.{append-nil}
use Rattle.wx_events.specs.declared.event.Event.{Event}
use Rattle.wx_config.specs.Changes.{last_revision}
use Rattle.wx_config.specs.declared.change.Change.{Change as AChange}
use Rattle.wx_machine.specs.Settings.{changes}
use Rattle.wx_command.specs.declared.command.Command.{Command}
use Rattle.wx_control.specs.declared.id.Id.{Id}
use Rattle.wx_control.specs.declared.ask.Ask.{Ask as AnAsk}
use Rattle.wx_control.specs.Flags.{Flag}
use Rattle.wx_journal.specs.Names.{above, next_job, creates, was_made}
use Rattle.wx_machine.specs.History.{same}
use Rattle.wx_machine.proofs.JobSets.{made_below}
use Rattle.wx_journal.specs.declared.entry.Entry.{Entry}
use Rattle.wx_journal.specs.Acts.{JournalAct as Act}
use Rattle.wx_journal.specs.declared.entry.Act.TheVariants.{Create, Ask, Change, Quit, QuitGracefully}
use Rattle.wx_hooks.specs.declared.handler.Second.{Second}
use Rattle.wx_hooks.specs.declared.handler.Todo.{Todo}
use Rattle.wx_hooks.specs.declared.handler.Todo.TheVariants as todo
use Rattle.wx_hooks.specs.declared.held.Held.{Held}
use Rattle.wx_hooks.specs.Handled.{asks_of}
use Rattle.wx_machine.specs.Quits.{is_quit, with_this_quit}
use Rattle.wx_machine.specs.Jobs.{is_seen, is_free, but, AreLawfulBy, free_behind, is_there, next_created}
use Rattle.wx_machine.specs.Last.{last_added, without_last}
use Rattle.wx_hooks.specs.KeptHandler.{HasSecondRoom, HasQuitRoom, AreTwice, StaysTwice, AddsTwice, QuitsTwice, IsKept, IsRevisionKept, quit_room}
use Rattle.wx_hooks.proofs.QuitLemmas.{room_for_quit}
use Rattle.wx_hooks.specs.Todo.{IsNew, AreTodo}

-- ---- acts behind others

next_append : (n : ℕ) (acts more : List Act) → next_created n (acts ++ more) ≡ next_created (next_created n acts) more
next_append n [] more = refl
next_append n (Create job other ∷ acts) more = next_append (above n job) acts more
next_append n (Ask job ask ∷ acts) more = next_append n acts more
next_append n (Change change ∷ acts) more = next_append n acts more
next_append n (Quit ∷ acts) more = next_append n acts more
next_append n (QuitGracefully signal grace ∷ acts) more = next_append n acts more

pub asks_append : (acts more : List Act) → asks_of (acts ++ more) ≡ asks_of acts ++ asks_of more
asks_append [] more = refl
asks_append (Create job other ∷ acts) more = asks_append acts more
asks_append (Ask job first ∷ acts) more = ap (λ asks. (job, first) ∷ asks) (asks_append acts more)
asks_append (Change change ∷ acts) more = asks_append acts more
asks_append (Quit ∷ acts) more = asks_append acts more
asks_append (QuitGracefully signal grace ∷ acts) more = asks_append acts more

pub changes_append : (acts more : List Act) → changes (acts ++ more) ≡ changes acts ++ changes more
changes_append [] more = refl
changes_append (Create job other ∷ acts) more = changes_append acts more
changes_append (Ask job first ∷ acts) more = changes_append acts more
changes_append (Change change ∷ acts) more = ap (λ rest. change ∷ rest) (changes_append acts more)
changes_append (Quit ∷ acts) more = changes_append acts more
changes_append (QuitGracefully signal grace ∷ acts) more = changes_append acts more

pub next_grows : (n : ℕ) (acts : List Act) → n ≤ next_created n acts
next_grows n [] = omega arith
next_grows n (Create job other ∷ acts) = omega (arith, next_grows (above n job) acts)
next_grows n (Ask job first ∷ acts) = next_grows n acts
next_grows n (Change change ∷ acts) = next_grows n acts
next_grows n (Quit ∷ acts) = next_grows n acts
next_grows n (QuitGracefully signal grace ∷ acts) = next_grows n acts

-- ---- lawful acts stay lawful

lawful_append : (free : Id → Bool) (n : ℕ) (acts more : List Act) → AreLawfulBy free n acts → AreLawfulBy (free_behind free acts) (next_created n acts) more → AreLawfulBy free n (acts ++ more)
lawful_append free n [] more l m = m
lawful_append free n (Create job other ∷ acts) more l m = (l.0, lawful_append (but job free) (above n job) acts more l.1 m)
lawful_append free n (Ask job first ∷ acts) more l m = lawful_append free n acts more l m
lawful_append free n (Change change ∷ acts) more l m = lawful_append free n acts more l m
lawful_append free n (Quit ∷ acts) more l m = lawful_append free n acts more l m
lawful_append free n (QuitGracefully signal grace ∷ acts) more l m = lawful_append free n acts more l m

-- an id under which these acts create none is as free as before
still_free : (free : Id → Bool) (acts : List Act) (id : Id) → creates id acts ≡ false → free id ≡ true → free_behind free acts id ≡ true
still_free free [] id other is = is
still_free free (Create job command ∷ acts) id other is =
    let parts = or_parts (same job id) (creates id acts) other in
    still_free (but job free) acts id parts.1 (rw (parts.0, is) refl)
still_free free (Ask job ask ∷ acts) id other is = still_free free acts id other is
still_free free (Change change ∷ acts) id other is = still_free free acts id other is
still_free free (Quit ∷ acts) id other is = still_free free acts id other is
still_free free (QuitGracefully signal grace ∷ acts) id other is = still_free free acts id other is

-- ---- what has to be done

todo_append : (acts : List Act) (rest : List Todo) (more : List Act) (others : List Todo) → AreTodo acts rest → AreTodo more others → AreTodo (acts ++ more) (rest ++ others)
todo_append [] [] more others t m = m
todo_append [] (x ∷ rest) more others t m = absurd t
todo_append (Create job other ∷ acts) [] more others t m = absurd t
todo_append (Create job other ∷ acts) (todo.Create h ∷ rest) more others t m = (t.0, todo_append acts rest more others t.1 m)
todo_append (Create job other ∷ acts) (todo.Ask j a done ∷ rest) more others t m = absurd t
todo_append (Create job other ∷ acts) (todo.Change c ∷ rest) more others t m = absurd t
todo_append (Ask job first ∷ acts) [] more others t m = absurd t
todo_append (Ask job first ∷ acts) (todo.Create h ∷ rest) more others t m = absurd t
todo_append (Ask job first ∷ acts) (todo.Ask j a done ∷ rest) more others t m = (t.0, t.1, todo_append acts rest more others t.2 m)
todo_append (Ask job first ∷ acts) (todo.Change c ∷ rest) more others t m = absurd t
todo_append (Change change ∷ acts) [] more others t m = absurd t
todo_append (Change change ∷ acts) (todo.Create h ∷ rest) more others t m = absurd t
todo_append (Change change ∷ acts) (todo.Ask j a done ∷ rest) more others t m = absurd t
todo_append (Change change ∷ acts) (todo.Change c ∷ rest) more others t m = (t.0, todo_append acts rest more others t.1 m)
todo_append (Quit ∷ acts) rest more others t m = todo_append acts rest more others t m
todo_append (QuitGracefully signal grace ∷ acts) rest more others t m = todo_append acts rest more others t m

-- ---- what stands a second time

pub twice_stays : (names : List ℕ) (acts : List Act) (n : ℕ) (old new : Option Second) → AreTwice names acts n old → StaysTwice old new → AreTwice names acts n new
twice_stays names acts n None None t s = t
twice_stays names acts n None (Some new) t s = absurd s
twice_stays names acts n (Some old) None t s = absurd s
twice_stays names acts n (Some old) (Some new) t s =
    let names_before : old.names.items ≡ names = t.same_names old refl in
    let acts_before : old.acts.items ≡ acts = t.same_acts old refl in
    let room_before : vec_len old.acts + n ≤ vec_capacity old.acts = t.room old refl in
    record {
      same_names = λ twice is. cc;
      same_acts = λ twice is. cc;
      room = λ twice is. let same_len : vec_len twice.acts ≡ vec_len new.acts = cc in let same_room : vec_capacity twice.acts ≡ vec_capacity new.acts = cc in omega (arith, s.2, s.3);
    }

pub twice_adds : (names : List ℕ) (acts : List Act) (m n : ℕ) (act : Act) (old new : Option Second) → AreTwice names acts m old → HasSecondRoom (n + 1) old → AddsTwice act old new → AreTwice names (acts ++ act ∷ []) n new
twice_adds names acts m n act None None t room a = record { same_names = λ twice is. cc; same_acts = λ twice is. cc; room = λ twice is. cc }
twice_adds names acts m n act None (Some new) t room a = absurd a
twice_adds names acts m n act (Some old) None t room a = absurd a
twice_adds names acts m n act (Some old) (Some new) t room a =
    let names_before : old.names.items ≡ names = t.same_names old refl in
    let acts_before : old.acts.items ≡ acts = t.same_acts old refl in
    let room_before : vec_len old.acts + (n + 1) ≤ vec_capacity old.acts = room old refl in
    record {
      same_names = λ twice is. cc;
      same_acts = λ twice is. cc;
      room = λ twice is. let same_len : vec_len twice.acts ≡ vec_len new.acts = cc in let same_room : vec_capacity twice.acts ≡ vec_capacity new.acts = cc in omega (arith, a.2, a.3);
    }

-- it still does
pub still_added : (act : Act) (a b : Option Second) → AddsTwice act a b → is_none b ≡ is_none a
still_added act None None h = refl
still_added act (Some x) (Some y) h = refl
still_added act None (Some y) h = absurd h
still_added act (Some x) None h = absurd h

pub still_there : (a b : Option Second) → StaysTwice a b → is_none b ≡ is_none a
still_there None None h = refl
still_there (Some x) (Some y) h = refl
still_there None (Some y) h = absurd h
still_there (Some x) None h = absurd h

-- ---- what a handler keeps

-- where only room was taken
pub kept_room : (past : List Entry) (shown : List Held) (names : List ℕ) (events : List Event) (ids : ℕ) (acts : List Act) (room : ℕ) (second : Option Second) (rest : List Todo) (acts' : List Act) (room' : ℕ) (second' : Option Second) (rest' : List Todo) → IsKept past shown names events ids acts room second rest → acts' ≡ acts → room ≤ room' → StaysTwice second second' → rest' ≡ rest → IsKept past shown names events ids acts' room' second' rest'
kept_room past shown names events ids acts room second rest acts' room' second' rest' k acts_is more stays rest_is =
    rw (acts_is, rest_is) (record {
      shown = k.shown;
      are_events = k.are_events;
      next = k.next;
      lawful = k.lawful;
      todo = k.todo;
      room = omega (arith, k.room, more);
      twice = twice_stays names acts (quit_room acts) second second' k.twice stays;
    })

-- where an id is left not all were given
pub ids_left : (next ids : ℕ) → ids ≡ min next (2 ^ 32 - 1) → ids < 2 ^ 32 - 1 → 2 ^ 32 - 1 ≤ next → ⊥
ids_left next ids is left spent = omega arith

pub kept_create : (past : List Entry) (shown : List Held) (names : List ℕ) (events : List Event) (ids : ℕ) (acts : List Act) (room : ℕ) (second mid second' : Option Second) (rest : List Todo) (id : Id) (command : Command) (held : Held) (ids' : ℕ) (acts' : List Act) (room' : ℕ) (rest' : List Todo) → IsKept past shown names events ids acts room second rest → id.0 ≡ ids → ids < 2 ^ 32 - 1 → ids' ≡ ids + 1 → IsNew held id command → length acts + 2 ≤ room' → StaysTwice second mid → HasSecondRoom 2 mid → AddsTwice (Create id command) mid second' → acts' ≡ acts ++ Create id command ∷ [] → rest' ≡ rest ++ todo.Create held ∷ [] → IsKept past shown names events ids' acts' room' second' rest'
kept_create past shown names events ids acts room second mid second' rest id command held ids' acts' room' rest' k is left more new here stays free adds acts_is rest_is =
    let e : next_created (next_job past) (acts ++ Create id command ∷ []) ≡ above (next_created (next_job past) acts) id = next_append (next_job past) acts (Create id command ∷ []) in
    let next : ids ≡ min (next_created (next_job past) acts) (2 ^ 32 - 1) = k.next in
    rw (acts_is, rest_is) (record {
      shown = k.shown;
      are_events = k.are_events;
      next = rw e (omega arith);
      lawful = lawful_append (is_free past) (next_job past) acts (Create id command ∷ []) k.lawful (inl (omega arith), tt);
      todo = todo_append acts rest (Create id command ∷ []) (todo.Create held ∷ []) k.todo (new, tt);
      room = rw (last_added is_quit acts (Create id command)) (omega (arith, length-append acts (Create id command ∷ [])));
      twice = rw (last_added is_quit acts (Create id command)) (twice_adds names acts (quit_room acts) 1 (Create id command) mid second' (twice_stays names acts (quit_room acts) second mid k.twice stays) free adds);
    })

-- an id of a job that was made, and is neither seen nor created, is free
again_free : (made seen : Bool) → made ≡ true → seen ≡ false → (made && not seen) ≡ true
again_free true false e f = refl
again_free true true e f = absurd cc
again_free false seen e f = absurd cc

-- a job was created again
pub kept_again : (past : List Entry) (shown : List Held) (names : List ℕ) (events : List Event) (ids : ℕ) (acts : List Act) (room : ℕ) (second mid second' : Option Second) (rest : List Todo) (id : Id) (command : Command) (held : Held) (acts' : List Act) (room' : ℕ) (rest' : List Todo) → IsKept past shown names events ids acts room second rest → was_made id past ≡ true → is_there past acts id ≡ false → IsNew held id command → length acts + 2 ≤ room' → StaysTwice second mid → HasSecondRoom 2 mid → AddsTwice (Create id command) mid second' → acts' ≡ acts ++ Create id command ∷ [] → rest' ≡ rest ++ todo.Create held ∷ [] → IsKept past shown names events ids acts' room' second' rest'
kept_again past shown names events ids acts room second mid second' rest id command held acts' room' rest' k made other new here stays free adds acts_is rest_is =
    let parts = or_parts (creates id acts) (is_seen id past) other in
    let e : next_created (next_job past) (acts ++ Create id command ∷ []) ≡ above (next_created (next_job past) acts) id = next_append (next_job past) acts (Create id command ∷ []) in
    let below : id.0 < next_job past = made_below id past made in
    let same_next : above (next_created (next_job past) acts) id ≡ next_created (next_job past) acts = omega (arith, below, next_grows (next_job past) acts) in
    rw (acts_is, rest_is) (record {
      shown = k.shown;
      are_events = k.are_events;
      next = rw (e, same_next) k.next;
      lawful = lawful_append (is_free past) (next_job past) acts (Create id command ∷ []) k.lawful (inr (still_free (is_free past) acts id parts.0 (again_free (was_made id past) (is_seen id past) made parts.1)), tt);
      todo = todo_append acts rest (Create id command ∷ []) (todo.Create held ∷ []) k.todo (new, tt);
      room = rw (last_added is_quit acts (Create id command)) (omega (arith, length-append acts (Create id command ∷ [])));
      twice = rw (last_added is_quit acts (Create id command)) (twice_adds names acts (quit_room acts) 1 (Create id command) mid second' (twice_stays names acts (quit_room acts) second mid k.twice stays) free adds);
    })

pub kept_ask : (past : List Entry) (shown : List Held) (names : List ℕ) (events : List Event) (ids : ℕ) (acts : List Act) (room : ℕ) (second mid second' : Option Second) (rest : List Todo) (id : Id) (ask : AnAsk) (done : Flag) (acts' : List Act) (room' : ℕ) (rest' : List Todo) → IsKept past shown names events ids acts room second rest → length acts + 2 ≤ room' → StaysTwice second mid → HasSecondRoom 2 mid → AddsTwice (Ask id ask) mid second' → acts' ≡ acts ++ Ask id ask ∷ [] → rest' ≡ rest ++ todo.Ask id ask done ∷ [] → IsKept past shown names events ids acts' room' second' rest'
kept_ask past shown names events ids acts room second mid second' rest id ask done acts' room' rest' k here stays free adds acts_is rest_is = rw (acts_is, rest_is) (record {
  shown = k.shown;
  are_events = k.are_events;
  next = rw (next_append (next_job past) acts (Ask id ask ∷ [])) k.next;
  lawful = lawful_append (is_free past) (next_job past) acts (Ask id ask ∷ []) k.lawful tt;
  todo = todo_append acts rest (Ask id ask ∷ []) (todo.Ask id ask done ∷ []) k.todo (refl, refl, tt);
  room = rw (last_added is_quit acts (Ask id ask)) (omega (arith, length-append acts (Ask id ask ∷ [])));
  twice = rw (last_added is_quit acts (Ask id ask)) (twice_adds names acts (quit_room acts) 1 (Ask id ask) mid second' (twice_stays names acts (quit_room acts) second mid k.twice stays) free adds);
})

pub kept_change : (past : List Entry) (shown : List Held) (names : List ℕ) (events : List Event) (ids : ℕ) (acts : List Act) (room : ℕ) (second mid second' : Option Second) (rest : List Todo) (change : AChange) (acts' : List Act) (room' : ℕ) (rest' : List Todo) → IsKept past shown names events ids acts room second rest → length acts + 2 ≤ room' → StaysTwice second mid → HasSecondRoom 2 mid → AddsTwice (Change change) mid second' → acts' ≡ acts ++ Change change ∷ [] → rest' ≡ rest ++ todo.Change change ∷ [] → IsKept past shown names events ids acts' room' second' rest'
kept_change past shown names events ids acts room second mid second' rest change acts' room' rest' k here stays free adds acts_is rest_is = rw (acts_is, rest_is) (record {
  shown = k.shown;
  are_events = k.are_events;
  next = rw (next_append (next_job past) acts (Change change ∷ [])) k.next;
  lawful = lawful_append (is_free past) (next_job past) acts (Change change ∷ []) k.lawful tt;
  todo = todo_append acts rest (Change change ∷ []) (todo.Change change ∷ []) k.todo (refl, tt);
  room = rw (last_added is_quit acts (Change change)) (omega (arith, length-append acts (Change change ∷ [])));
  twice = rw (last_added is_quit acts (Change change)) (twice_adds names acts (quit_room acts) 1 (Change change) mid second' (twice_stays names acts (quit_room acts) second mid k.twice stays) free adds);
})

-- the revision behind the acts, where acts were added that change so many settings
pub revision_then : (revision : ℕ) (acts more acts' : List Act) (kept kept' : ℕ) → IsRevisionKept revision acts kept → acts' ≡ acts ++ more → kept' ≡ kept + length (changes more) → kept' ≤ last_revision → IsRevisionKept revision acts' kept'
revision_then revision acts more acts' kept kept' k is now fits =
    let all : length (changes (acts ++ more)) ≡ length (changes acts) + length (changes more) = ap (λ (cs : List AChange). length cs) (changes_append acts more) ∙ length-append (changes acts) (changes more) in
    let before = k.counted in rw is (record { counted = omega arith; fits = fits })

-- where they are the same
pub revision_same : (revision : ℕ) (acts acts' : List Act) (kept : ℕ) → IsRevisionKept revision acts kept → acts' ≡ acts → IsRevisionKept revision acts' kept
revision_same revision acts acts' kept k is = rw is k

-- it is the last one exactly where it can't be raised
pub revision_spent : (revision : ℕ) (acts : List Act) (kept : ℕ) → IsRevisionKept revision acts kept → kept ≡ last_revision → last_revision ≤ revision + length (changes acts)
revision_spent revision acts kept k is = let before = k.counted in omega arith

pub revision_left : (revision : ℕ) (acts : List Act) (kept : ℕ) → IsRevisionKept revision acts kept → kept ≢ last_revision → last_revision ≤ revision + length (changes acts) → ⊥
revision_left revision acts kept k other spent = let before = k.counted in let below = k.fits in other (omega arith)

-- without a quit that stands last the acts create the same, are lawful, and leave the same to do
next_one : (n : ℕ) (b : Bool) (act : Act) → is_quit act ≡ b → next_created n (cond b [] (act ∷ [])) ≡ next_created n (act ∷ [])
next_one n true (Create job other) is = absurd cc
next_one n true (Ask job ask) is = absurd cc
next_one n true (Change change) is = absurd cc
next_one n true Quit is = refl
next_one n true (QuitGracefully signal grace) is = refl
next_one n false act is = refl

next_left : (n : ℕ) (acts : List Act) → next_created n (without_last is_quit acts) ≡ next_created n acts
next_left n [] = refl
next_left n (act ∷ []) = next_one n (is_quit act) act refl
next_left n (Create job other ∷ next ∷ acts) = next_left (above n job) (next ∷ acts)
next_left n (Ask job ask ∷ next ∷ acts) = next_left n (next ∷ acts)
next_left n (Change change ∷ next ∷ acts) = next_left n (next ∷ acts)
next_left n (Quit ∷ next ∷ acts) = next_left n (next ∷ acts)
next_left n (QuitGracefully signal grace ∷ next ∷ acts) = next_left n (next ∷ acts)

changes_one : (b : Bool) (act : Act) → is_quit act ≡ b → changes (cond b [] (act ∷ [])) ≡ changes (act ∷ [])
changes_one true (Create job other) is = absurd cc
changes_one true (Ask job ask) is = absurd cc
changes_one true (Change change) is = absurd cc
changes_one true Quit is = refl
changes_one true (QuitGracefully signal grace) is = refl
changes_one false act is = refl

changes_left : (acts : List Act) → changes (without_last is_quit acts) ≡ changes acts
changes_left [] = refl
changes_left (act ∷ []) = changes_one (is_quit act) act refl
changes_left (Create job other ∷ next ∷ acts) = changes_left (next ∷ acts)
changes_left (Ask job ask ∷ next ∷ acts) = changes_left (next ∷ acts)
changes_left (Change change ∷ next ∷ acts) = ap (λ (rest : List AChange). change ∷ rest) (changes_left (next ∷ acts))
changes_left (Quit ∷ next ∷ acts) = changes_left (next ∷ acts)
changes_left (QuitGracefully signal grace ∷ next ∷ acts) = changes_left (next ∷ acts)

-- a quit creates nothing, is lawful, changes nothing and leaves nothing to do
next_quit : (n : ℕ) (quit : Act) → is_quit quit ≡ true → next_created n (quit ∷ []) ≡ n
next_quit n Quit is = refl
next_quit n (QuitGracefully signal grace) is = refl
next_quit n (_) is = absurd cc

lawful_quit : (free : Id → Bool) (n : ℕ) (quit : Act) → is_quit quit ≡ true → AreLawfulBy free n (quit ∷ [])
lawful_quit free n Quit is = tt
lawful_quit free n (QuitGracefully signal grace) is = tt
lawful_quit free n (_) is = absurd cc

changes_quit : (quit : Act) → is_quit quit ≡ true → changes (quit ∷ []) ≡ []
changes_quit Quit is = refl
changes_quit (QuitGracefully signal grace) is = refl
changes_quit (_) is = absurd cc

todo_quit : (quit : Act) → is_quit quit ≡ true → AreTodo (quit ∷ []) []
todo_quit Quit is = tt
todo_quit (QuitGracefully signal grace) is = tt
todo_quit (_) is = absurd cc

pub revision_quit : (quit : Act) (revision : ℕ) (acts acts' : List Act) (kept : ℕ) → is_quit quit ≡ true → IsRevisionKept revision acts kept → acts' ≡ with_this_quit quit acts → IsRevisionKept revision acts' kept
revision_quit quit revision acts acts' kept quits k is =
    let left = changes_append (without_last is_quit acts) (quit ∷ []) ∙ ap (λ (cs : List AChange). changes (without_last is_quit acts) ++ cs) (changes_quit quit quits) ∙ append-nil (changes (without_last is_quit acts)) ∙ changes_left acts in
    rw is (record { counted = k.counted ∙ ap (λ (cs : List AChange). revision + length cs) (sym left); fits = k.fits })

lawful_one : (free : Id → Bool) (n : ℕ) (b : Bool) (act : Act) → AreLawfulBy free n (act ∷ []) → AreLawfulBy free n (cond b [] (act ∷ []))
lawful_one free n true act l = tt
lawful_one free n false act l = l

lawful_left : (free : Id → Bool) (n : ℕ) (acts : List Act) → AreLawfulBy free n acts → AreLawfulBy free n (without_last is_quit acts)
lawful_left free n [] l = tt
lawful_left free n (act ∷ []) l = lawful_one free n (is_quit act) act l
lawful_left free n (Create job other ∷ next ∷ acts) l = (l.0, lawful_left (but job free) (above n job) (next ∷ acts) l.1)
lawful_left free n (Ask job ask ∷ next ∷ acts) l = lawful_left free n (next ∷ acts) l
lawful_left free n (Change change ∷ next ∷ acts) l = lawful_left free n (next ∷ acts) l
lawful_left free n (Quit ∷ next ∷ acts) l = lawful_left free n (next ∷ acts) l
lawful_left free n (QuitGracefully signal grace ∷ next ∷ acts) l = lawful_left free n (next ∷ acts) l

todo_one : (b : Bool) (act : Act) (rest : List Todo) → is_quit act ≡ b → AreTodo (act ∷ []) rest → AreTodo (cond b [] (act ∷ [])) rest
todo_one true (Create job other) rest is t = absurd cc
todo_one true (Ask job ask) rest is t = absurd cc
todo_one true (Change change) rest is t = absurd cc
todo_one true Quit rest is t = t
todo_one true (QuitGracefully signal grace) rest is t = t
todo_one false act rest is t = t

todo_left : (acts : List Act) (rest : List Todo) → AreTodo acts rest → AreTodo (without_last is_quit acts) rest
todo_left [] rest t = t
todo_left (act ∷ []) rest t = todo_one (is_quit act) act rest refl t
todo_left (Create job other ∷ next ∷ acts) [] t = absurd t
todo_left (Create job other ∷ next ∷ acts) (todo.Create h ∷ rest) t = (t.0, todo_left (next ∷ acts) rest t.1)
todo_left (Create job other ∷ next ∷ acts) (todo.Ask j a done ∷ rest) t = absurd t
todo_left (Create job other ∷ next ∷ acts) (todo.Change c ∷ rest) t = absurd t
todo_left (Ask job first ∷ next ∷ acts) [] t = absurd t
todo_left (Ask job first ∷ next ∷ acts) (todo.Create h ∷ rest) t = absurd t
todo_left (Ask job first ∷ next ∷ acts) (todo.Ask j a done ∷ rest) t = (t.0, t.1, todo_left (next ∷ acts) rest t.2)
todo_left (Ask job first ∷ next ∷ acts) (todo.Change c ∷ rest) t = absurd t
todo_left (Change change ∷ next ∷ acts) [] t = absurd t
todo_left (Change change ∷ next ∷ acts) (todo.Create h ∷ rest) t = absurd t
todo_left (Change change ∷ next ∷ acts) (todo.Ask j a done ∷ rest) t = absurd t
todo_left (Change change ∷ next ∷ acts) (todo.Change c ∷ rest) t = (t.0, todo_left (next ∷ acts) rest t.1)
todo_left (Quit ∷ next ∷ acts) rest t = todo_left (next ∷ acts) rest t
todo_left (QuitGracefully signal grace ∷ next ∷ acts) rest t = todo_left (next ∷ acts) rest t

-- what stands a second time has room for a quit, and the quit is put there too
pub quit_room_twice : (names : List ℕ) (acts : List Act) (second : Option Second) → AreTwice names acts (quit_room acts) second → HasQuitRoom second
quit_room_twice names acts second t twice is = subst (λ (xs : List Act). vec_len twice.acts + quit_room xs ≤ vec_capacity twice.acts) (sym (t.same_acts twice is)) (t.room twice is)

twice_quit : (quit : Act) (names : List ℕ) (acts : List Act) (m : ℕ) (second second' : Option Second) → AreTwice names acts m second → QuitsTwice quit second second' → AreTwice names (with_this_quit quit acts) 0 second'
twice_quit quit names acts m None None t a = record { same_names = λ twice is. cc; same_acts = λ twice is. cc; room = λ twice is. cc }
twice_quit quit names acts m None (Some new) t a = absurd a
twice_quit quit names acts m (Some old) None t a = absurd a
twice_quit quit names acts m (Some old) (Some new) t a =
    let names_before : old.names.items ≡ names = t.same_names old refl in
    let acts_before : old.acts.items ≡ acts = t.same_acts old refl in
    let acts_after : new.acts.items ≡ with_this_quit quit acts = a.1 ∙ ap (with_this_quit quit) acts_before in
    record {
      same_names = λ twice is. cc;
      same_acts = λ twice is. (let same : twice.acts.items ≡ new.acts.items = cc in same ∙ acts_after);
      room = λ twice is. (let same_len : vec_len twice.acts ≡ vec_len new.acts = cc in let same_room : vec_capacity twice.acts ≡ vec_capacity new.acts = cc in omega (arith, a.2));
    }

pub kept_quit : (quit : Act) (past : List Entry) (shown : List Held) (names : List ℕ) (events : List Event) (ids : ℕ) (acts : List Act) (room : ℕ) (second second' : Option Second) (rest : List Todo) (acts' : List Act) (room' : ℕ) → is_quit quit ≡ true → IsKept past shown names events ids acts room second rest → QuitsTwice quit second second' → acts' ≡ with_this_quit quit acts → room' ≡ room → IsKept past shown names events ids acts' room' second' rest
kept_quit quit past shown names events ids acts room second second' rest acts' room' is k quits acts_is room_is =
    rw (acts_is, room_is) (record {
      shown = k.shown;
      are_events = k.are_events;
      next = rw (next_append (next_job past) (without_last is_quit acts) (quit ∷ []), next_quit _ quit is, next_left (next_job past) acts) k.next;
      lawful = lawful_append (is_free past) (next_job past) (without_last is_quit acts) (quit ∷ []) (lawful_left (is_free past) (next_job past) acts k.lawful) (lawful_quit _ _ quit is);
      todo = subst (AreTodo (with_this_quit quit acts)) (append-nil rest) (todo_append (without_last is_quit acts) rest (quit ∷ []) [] (todo_left acts rest k.todo) (todo_quit quit is));
      room = rw (last_added is_quit (without_last is_quit acts) quit, is) (omega (arith, k.room, room_for_quit acts, length-append (without_last is_quit acts) (quit ∷ [])));
      twice = rw (last_added is_quit (without_last is_quit acts) quit, is) (twice_quit quit names acts (quit_room acts) second second' k.twice quits);
    })
