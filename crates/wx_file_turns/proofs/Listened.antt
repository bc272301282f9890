-- A backend is asked what it brings.
use Rattle.std.proofs.Common.{◌≡◌, ◌<◌, ◌≤◌, ◌+◌, ℕ, Bool, true, false, List, [], ◌∷◌, arith, refl, ap, sym, ◌∙◌, subst}
use Rattle.std.specs.Prelude.{not, ◌&&◌, Option, None, Some, Result, Ok, Err, OnErr, OnOk}
use Rattle.wx_scan.specs.declared.backend.Backend.{Ghosts}
use Rattle.wx_scan.specs.Backings.{Backing}
use Rattle.wx_tree.specs.Trees.{Tree}
use Rattle.wx_notify.specs.declared.notify.Notify.{Notify}
use Rattle.wx_watch.specs.declared.notify_fault.NotifyFault.{NotifyFault}
use Rattle.wx_lane.specs.Lanes.{LaneState, is_full, put_item}
use Rattle.wx_tree.specs.declared.root.Root.{Root}
use Rattle.wx_recursor.specs.Calls.{has_work}
use Rattle.wx_recursor.specs.Rebuilds.{installed, lent}
use Rattle.wx_recursor.specs.States.{RecursorState}
use Rattle.wx_holding.specs.Holding.{state_of}
use Rattle.wx_fs.specs.Kept.{kept_roots}
use Rattle.wx_config.specs.declared.config.Config.{Config}
use Rattle.wx_journal.specs.declared.entry.Entry.{Entry}
use Rattle.wx_journal.specs.declared.entry.Entry.TheVariants.{Turn as Turned, Word as Said, Make, Brought, LetGo}
use Rattle.wx_journal.specs.declared.entry.LetGoCause.TheVariants.{Full}
use Rattle.wx_journal.specs.declared.entry.TurnKind.TheVariants.{Listen}
use Rattle.wx_journal.specs.declared.entry.Word.TheVariants.{Ignored, Quiet}
use Rattle.wx_journal.specs.Names.{item_count}
use Rattle.wx_journal.specs.Told.{begins_listening, tell, tell_if}
use Rattle.wx_journal.specs.Written.{Written}
use Rattle.wx_machine.specs.Start.{Start}
use Rattle.wx_machine.specs.Progress.{Progress}
use Rattle.wx_machine.specs.Seen.{Seen}
use Rattle.wx_machine.specs.Kept.{More}
use Rattle.wx_machine.specs.Leads.{Leads, Then}
use Rattle.wx_machine.specs.Steps.{step_count, work_count}
use Rattle.wx_machine.specs.Files.{finds_full, source}
use Rattle.wx_machine.specs.Answer.{NoneIsToGo}
use Rattle.wx_machine.specs.Due.{Agenda, Breaks, Comes, LetsGo, Listens, Open, Point, after_brought, agenda, is_quitting, listen_turn, listened, says, settle, Due}
use Rattle.wx_machine.proofs.AllJobs.{turns_over}
use Rattle.wx_machine.proofs.SettleLaws.{settle_calm}
use Rattle.wx_machine.proofs.Stepping.{brought_then, full_due, full_over, listens_due, unheard_over}
use Rattle.wx_hooks.specs.Given.{GivesNext}
use Rattle.wx_worker.specs.declared.worker_state.Worker.{Worker}
use Rattle.wx_worker.specs.Stands.{Owes, Stands, AtTurn, end_room}
use Rattle.wx_worker.proofs.StandsLemmas.{stands_behind, tasks_silent}
use Rattle.wx_worker.proofs.TurnLaws.{at_turn}
use Rattle.wx_file_turns.specs.declared.files.Files.{Files}
use Rattle.wx_file_turns.specs.declared.files.Watching.{Watching}
use Rattle.wx_file_turns.specs.declared.intake.Intake.{Intake}
use Rattle.wx_file_turns.specs.Intake.{brought, listed}
use Rattle.wx_file_turns.specs.Serves.{ends_unmade, AttendsAlone, CountsOnward, GrowsAlone, OnlyWatched, ServesWatch}
use Rattle.wx_file_turns.specs.Standing.{FilesStand, IntakeStands, SameRoots, StandsBy, WatchesBy, any_works, owed, owing, revision_of, works}
use Rattle.wx_file_turns.proofs.Intakes.{intake_brought, intake_full}
use Rattle.wx_file_turns.proofs.Named.{current_named}
use Rattle.wx_file_turns.proofs.Onward.{alone_then, looked_on, serves_adds, unmade_same, watched_none}
use Rattle.wx_file_turns.proofs.Standing.{files_none, files_still, intake_still}
use Rattle.wx_file_turns.proofs.TurnLemmas.{ignored_open}

-- the backend of this name stands, and is to be asked what it brings, which gets the next name of an item
pub record IsListening (s : Start) (w : Worker) (item back : ℕ) (p : List Entry) : Type 0 where
  pub stands : Stands s w p
  pub due : agenda s p ≡ Comes (Listens back) Open
  pub going : is_quitting p ≡ false
  pub current : (source s p).current ≡ Some back
  pub begins : begins_listening p ≡ true
  pub next : item ≡ item_count p

-- once room was taken
pub may_listen : (s : Start) (w : Worker) (item back : ℕ) (p q : List Entry) → q ≡ p → Owes s w p (Comes (Listens back) Open) → is_quitting p ≡ false → (source s p).current ≡ Some back → begins_listening p ≡ true → item ≡ item_count q → IsListening s w item back q
may_listen s w item back p q same owes going current begins next = record { stands = rw same owes.stands; due = rw same owes.due; going = rw same going; current = rw same current; begins = rw same begins; next = next }

-- ---- what is due behind it

-- nothing was brought
quiet_over : (s : Start) (p : List Entry) (back : ℕ) → agenda s p ≡ Comes (Listens back) Open → is_quitting p ≡ false → agenda s (Said Quiet ∷ p) ≡ Open
quiet_over s p back due going = unheard_over s p Open back due ∙ settle_calm (Said Quiet ∷ p) Open going

-- something was, for which there is room or isn't
brought_over : (s : Start) (p : List Entry) (item back : ℕ) (answer : Result Notify NotifyFault) (full : Bool) → agenda s p ≡ Comes (Listens back) Open → is_quitting p ≡ false → finds_full s p answer ≡ full → agenda s (Brought item back answer ∷ p) ≡ after_brought full item Open
brought_over s p item back answer full due going is =
    brought_then s p Open back item back answer due ∙ ap (λ (b : Bool). settle (Brought item back answer ∷ p) (after_brought b item Open)) is ∙ settle_calm (Brought item back answer ∷ p) (after_brought full item Open) going

let_go_over : (s : Start) (p : List Entry) (item : ℕ) → agenda s p ≡ Comes (LetsGo item) Open → is_quitting p ≡ false → agenda s (LetGo item Full ∷ p) ≡ Open
let_go_over s p item due going = full_over s p Open item item Full due ∙ settle_calm (LetGo item Full ∷ p) Open going

brought_none : (full : Bool) (item : ℕ) → NoneIsToGo (after_brought full item Open)
brought_none true item = tt
brought_none false item = tt

-- ---- the worker stands on

brought_stands : (s : Start) (w : Worker) (item back : ℕ) (p : List Entry) (answer : Result Notify NotifyFault) → IsListening s w item back p → Stands s w (Brought item back answer ∷ p)
brought_stands s w item back p answer h =
    let stands = h.stands in
    record {
      own = ((h.next, current_named s p back stands.own h.current), stands.own);
      config_kept = stands.config_kept;
      queue_kept = stands.queue_kept;
      size_kept = stands.size_kept;
      closed_kept = stands.closed_kept;
      named_kept = stands.named_kept;
      names_kept = stands.names_kept;
      events_kept = stands.events_kept;
      first_kept = stands.first_kept;
      jobs_kept = stands.jobs_kept;
      tasks_kept = tasks_silent (Brought item back answer) p w.jobs refl stands.tasks_kept;
      idle_kept = stands.idle_kept;
      graceful_kept = stands.graceful_kept;
      ended_kept = stands.ended_kept;
    }

full_stands : (s : Start) (w : Worker) (item : ℕ) (p : List Entry) → item < item_count p → Stands s w p → Stands s w (LetGo item Full ∷ p)
full_stands s w item p named stands = record {
  own = (named, stands.own);
  config_kept = stands.config_kept;
  queue_kept = stands.queue_kept;
  size_kept = stands.size_kept;
  closed_kept = stands.closed_kept;
  named_kept = stands.named_kept;
  names_kept = stands.names_kept;
  events_kept = stands.events_kept;
  first_kept = stands.first_kept;
  jobs_kept = stands.jobs_kept;
  tasks_kept = tasks_silent (LetGo item Full) p w.jobs refl stands.tasks_kept;
  idle_kept = stands.idle_kept;
  graceful_kept = stands.graceful_kept;
  ended_kept = stands.ended_kept;
}

-- ---- what is listed

pub listed_room : (lane : LaneState) (copied answer : Result Notify NotifyFault) (room : Bool) (item back : ℕ) (p q : List Entry) → copied ≡ answer → room ≡ not (is_full lane copied) → room ≡ true → q ≡ Brought item back answer ∷ p → q ≡ listed (is_full lane answer) item back answer p
listed_room lane copied answer room item back p q same is some grown = grown ∙ by_room (is_full lane answer) (sym some ∙ is ∙ ap (λ (a : Result Notify NotifyFault). not (is_full lane a)) same)
  where
    by_room : (full : Bool) → true ≡ not full → Brought item back answer ∷ p ≡ listed full item back answer p
    by_room true e = absurd cc
    by_room false e = refl

pub listed_let_go : (lane : LaneState) (copied answer : Result Notify NotifyFault) (room : Bool) (item back : ℕ) (p q q' : List Entry) → copied ≡ answer → room ≡ not (is_full lane copied) → room ≡ false → q ≡ Brought item back answer ∷ p → q' ≡ LetGo item Full ∷ q → q' ≡ listed (is_full lane answer) item back answer p
listed_let_go lane copied answer room item back p q q' same is none grown gone = gone ∙ ap (λ (r : List Entry). LetGo item Full ∷ r) grown ∙ by_room (is_full lane answer) (sym none ∙ is ∙ ap (λ (a : Result Notify NotifyFault). not (is_full lane a)) same)
  where
    by_room : (full : Bool) → false ≡ not full → LetGo item Full ∷ Brought item back answer ∷ p ≡ listed full item back answer p
    by_room true e = refl
    by_room false e = absurd cc

pub brought_put : (i : Intake) (lane : LaneState) (item back : ℕ) (copied answer : Result Notify NotifyFault) → copied ≡ answer → lane ≡ put_item item back copied i.lane → record i { lane = lane } ≡ brought item back answer i
brought_put i lane item back copied answer same put = ap (λ (l : LaneState). record i { lane = l }) (put ∙ ap (λ (a : Result Notify NotifyFault). put_item item back a i.lane) same)

-- ---- what is served

module _ {Plan B : Type 0} (backing : B → Backing) (fits : B → Tree → Type 0) (s : Start) (w : Worker) (item back : ℕ) where
  asked_only : (result : Option (Result Notify NotifyFault)) (old new : B) (a b : Seen Plan) → GivesNext backing fits item back result old new a b → OnlyWatched a b
  asked_only result old new a b gives = record {
    plan_kept = gives.plan_kept;
    progress_kept = gives.progress_kept ∙ sym (ap (λ (x : Progress). record a.progress { maker_faults = x.maker_faults }) gives.progress_kept);
    host_faults = gives.host_faults;
    place_kept = gives.place_kept;
    looked_kept = looked_on a.looked b.looked gives.looked;
  }

  -- nothing was brought
  serves_quiet : (result : Option (Result Notify NotifyFault)) (old new : B) (p : List Entry) (a b : Seen Plan) (hooks : Option (List Entry)) → result ≡ None → IsListening s w item back p → GivesNext backing fits item back result old new a b → ServesWatch s p a hooks (Said Quiet ∷ p) b hooks
  serves_quiet result old new p a b hooks is h gives =
      let due : Due s p (Said Quiet) = listens_due s p Open back None h.due in
      let told : tell_if (begins_listening p) (Said Quiet) a.shown.told ≡ b.shown.told =
      ap (λ (world : Bool). tell_if world (Said Quiet) a.shown.told) h.begins ∙ sym (gives.told ∙ ap (λ (o : Option (Result Notify NotifyFault)). tell (listened item back o) a.shown.told) is) in
      record {
        follows = λ p₀ world₀ hooks₀ l. subst (λ (world : Option (List Entry)). Leads s p₀ world₀ hooks₀ (Said Quiet ∷ p) world hooks) told (Then (Said Quiet) p a.shown.told hooks l due);
        turns = turns_over (Said Quiet) p refl;
        counts = rw gives.host_faults (λ p₀ n₀ c. record { later = c.later; rose = c.rose });
        unmade = unmade_same p (Said Quiet ∷ p) a.progress.maker_faults b.progress.maker_faults refl (ap (λ (x : Progress). x.maker_faults) gives.progress_kept);
        steady = asked_only result old new a b gives;
        settings_kept = refl;
        quits_kept = refl;
      }

  pub quiet_alone : (result : Option (Result Notify NotifyFault)) (old new : B) (j j' : Written) (a b : Seen Plan) → result ≡ None → IsListening s w item back j.past → GivesNext backing fits item back result old new a b → j'.past ≡ Said Quiet ∷ j.past → end_room w ≤ j'.spare → 1 + end_room w ≤ a.spare → AttendsAlone s w j a j' b
  quiet_alone result old new j j' a b is h gives grown room host =
      let used = gives.room in
      record {
        stands = rw grown (stands_behind s w (Said Quiet) j.past refl tt h.stands);
        serves = λ hooks. rw grown (serves_quiet result old new j.past a b hooks is h gives);
        quiet = rw grown (λ p₀ q. More (Said Quiet) j.past q refl);
        room = λ r. record { in_journal = room; in_host = omega (arith, host, used) };
      }

  -- something was
  serves_brought : (result : Option (Result Notify NotifyFault)) (answer : Result Notify NotifyFault) (old new : B) (p : List Entry) (a b : Seen Plan) (hooks : Option (List Entry)) → result ≡ Some answer → IsListening s w item back p → GivesNext backing fits item back result old new a b → ServesWatch s p a hooks (Brought item back answer ∷ p) b hooks
  serves_brought result answer old new p a b hooks is h gives =
      let due : Due s p (Brought item back answer) = subst (λ (n : ℕ). Due s p (Brought n back answer)) (sym h.next) (listens_due s p Open back (Some answer) h.due) in
      let told : tell (Brought item back answer) a.shown.told ≡ b.shown.told = sym (gives.told ∙ ap (λ (o : Option (Result Notify NotifyFault)). tell (listened item back o) a.shown.told) is) in
      record {
        follows = λ p₀ world₀ hooks₀ l. subst (λ (world : Option (List Entry)). Leads s p₀ world₀ hooks₀ (Brought item back answer ∷ p) world hooks) told (Then (Brought item back answer) p a.shown.told hooks l due);
        turns = turns_over (Brought item back answer) p refl;
        counts = rw gives.host_faults (λ p₀ n₀ c. record { later = c.later; rose = c.rose });
        unmade = unmade_same p (Brought item back answer ∷ p) a.progress.maker_faults b.progress.maker_faults refl (ap (λ (x : Progress). x.maker_faults) gives.progress_kept);
        steady = asked_only result old new a b gives;
        settings_kept = refl;
        quits_kept = refl;
      }

  brought_alone : (result : Option (Result Notify NotifyFault)) (answer : Result Notify NotifyFault) (old new : B) (j j' : Written) (a b : Seen Plan) → result ≡ Some answer → IsListening s w item back j.past → GivesNext backing fits item back result old new a b → j'.past ≡ Brought item back answer ∷ j.past → end_room w ≤ j'.spare → 1 + end_room w ≤ a.spare → AttendsAlone s w j a j' b
  brought_alone result answer old new j j' a b is h gives grown room host =
      let used = gives.room in
      record {
        stands = rw grown (brought_stands s w item back j.past answer h);
        serves = λ hooks. rw grown (serves_brought result answer old new j.past a b hooks is h gives);
        quiet = rw grown (λ p₀ q. More (Brought item back answer) j.past q refl);
        room = λ r. record { in_journal = room; in_host = omega (arith, host, used) };
      }

  -- and is let go
  full_alone : (j j' : Written) (a : Seen Plan) → Stands s w j.past → item < item_count j.past → agenda s j.past ≡ Comes (LetsGo item) Open → j'.past ≡ LetGo item Full ∷ j.past → end_room w ≤ j'.spare → AttendsAlone s w j a j' a
  full_alone j j' a stands named due grown room = record {
    stands = rw grown (full_stands s w item j.past named stands);
    serves = λ hooks. rw grown (record {
      follows = λ p₀ world₀ hooks₀ l. Then (LetGo item Full) j.past a.shown.told hooks l (full_due s j.past Open item due);
      turns = turns_over (LetGo item Full) j.past refl;
      counts = λ p₀ n₀ c. record { later = c.later; rose = c.rose };
      unmade = unmade_same j.past (LetGo item Full ∷ j.past) a.progress.maker_faults a.progress.maker_faults refl refl;
      steady = watched_none;
      settings_kept = refl;
      quits_kept = refl;
    });
    quiet = rw grown (λ p₀ q. More (LetGo item Full) j.past q refl);
    room = λ r. record { in_journal = room; in_host = r.in_host };
  }

  listed_alone : (full : Bool) (result : Option (Result Notify NotifyFault)) (answer : Result Notify NotifyFault) (old new : B) (j j' : Written) (a b : Seen Plan) → finds_full s j.past answer ≡ full → result ≡ Some answer → IsListening s w item back j.past → GivesNext backing fits item back result old new a b → j'.past ≡ listed full item back answer j.past → end_room w ≤ j'.spare → 1 + end_room w ≤ a.spare → AttendsAlone s w j a j' b
  listed_alone true result answer old new j j' a b full is h gives grown room host =
      let mid : Written = record { past = Brought item back answer ∷ j.past; spare = j'.spare } in
      let next = h.next in
      alone_then s w j mid j' a b b (brought_alone result answer old new j mid a b is h gives refl room host) (full_alone mid j' b (brought_stands s w item back j.past answer h) (omega (arith, next)) (brought_over s j.past item back answer true h.due h.going full) grown room)
  listed_alone false result answer old new j j' a b full is h gives grown room host = brought_alone result answer old new j j' a b is h gives grown room host

  -- what was brought was listed
  pub bring_alone : {X E : Type 0} (went : Result X E) (result : Option (Result Notify NotifyFault)) (answer : Result Notify NotifyFault) (lane : LaneState) (old new : B) (j j' : Written) (a b : Seen Plan) → lane ≡ record { items = (source s j.past).lane; size = s.config.event_channel_size } → result ≡ Some answer → IsListening s w item back j.past → GivesNext backing fits item back result old new a b → OnOk went (j'.past ≡ listed (is_full lane answer) item back answer j.past) → OnErr went (j'.past ≡ Brought item back answer ∷ j.past) → end_room w ≤ j'.spare → 1 + end_room w ≤ a.spare → AttendsAlone s w j a j' b
  bring_alone (Ok x) result answer lane old new j j' a b kept is h gives listed cut room host = listed_alone (is_full lane answer) result answer old new j j' a b (sym (ap (λ (l : LaneState). is_full l answer) kept)) is h gives listed room host
  bring_alone (Err e) result answer lane old new j j' a b kept is h gives listed cut room host = brought_alone result answer old new j j' a b is h gives cut room host

-- ---- what is owed, and known of what is watched

-- what was applied, and which backend stands, is as it was, and so are steps and work; no backend couldn't be made; and no event is to
-- be shown, and no window is to be handed
pub record HasListened (s : Start) (p p' : List Entry) : Type 0 where
  pub applied_kept : (source s p').applied ≡ (source s p).applied
  pub current_kept : (source s p').current ≡ (source s p).current
  pub steps_kept : step_count p' ≡ step_count p
  pub work_kept : work_count p' ≡ work_count p
  pub made : ends_unmade p' ≡ false
  pub none : NoneIsToGo (agenda s p')

-- where a point is to come the newest entry is no backend that couldn't be made
pub none_unmade : (s : Start) (p : List Entry) (x : Point) (more : Agenda) → agenda s p ≡ Comes x more → ends_unmade p ≡ false
none_unmade s [] x more due = refl
none_unmade s (Make back watcher links (Ok done) ∷ p) x more due = refl
none_unmade s (Make back watcher links (Err fault) ∷ p) x more due = let broken : Breaks ≡ Comes x more = due in absurd cc
none_unmade s (_ ∷ p) x more due = refl

-- nothing was listed
pub none_listened : (s : Start) (w : Worker) (back : ℕ) (p q : List Entry) → q ≡ p → Owes s w p (Comes (Listens back) Open) → HasListened s p q
none_listened s w back p q same owes = rw same (record { applied_kept = refl; current_kept = refl; steps_kept = refl; work_kept = refl; made = none_unmade s p (Listens back) Open owes.due; none = subst NoneIsToGo (sym owes.due) tt })

-- something was, once room was taken
pub listened_from : (s : Start) (p q p' : List Entry) → q ≡ p → HasListened s q p' → HasListened s p p'
listened_from s p q p' same h = subst (λ (r : List Entry). HasListened s r p') same h

pub listened_quiet : (s : Start) (w : Worker) (item back : ℕ) (p p' : List Entry) → IsListening s w item back p → p' ≡ Said Quiet ∷ p → HasListened s p p' × (agenda s p' ≡ Open)
listened_quiet s w item back p p' h grown =
    let over = quiet_over s p back h.due h.going in
    rw grown (record { applied_kept = refl; current_kept = refl; steps_kept = refl; work_kept = refl; made = refl; none = subst NoneIsToGo (sym over) tt }, over)

listened_brought : (s : Start) (w : Worker) (item back : ℕ) (p p' : List Entry) (answer : Result Notify NotifyFault) → IsListening s w item back p → p' ≡ Brought item back answer ∷ p → HasListened s p p'
listened_brought s w item back p p' answer h grown =
    let over = brought_over s p item back answer (finds_full s p answer) h.due h.going refl in
    rw grown (record { applied_kept = refl; current_kept = refl; steps_kept = refl; work_kept = refl; made = refl; none = subst NoneIsToGo (sym over) (brought_none (finds_full s p answer) item) })

listened_full : (s : Start) (w : Worker) (item back : ℕ) (p p' : List Entry) (answer : Result Notify NotifyFault) (full : Bool) → IsListening s w item back p → finds_full s p answer ≡ full → p' ≡ listed full item back answer p → HasListened s p p' × (agenda s p' ≡ Open)
listened_full s w item back p p' answer true h is grown =
    let over = let_go_over s (Brought item back answer ∷ p) item (brought_over s p item back answer true h.due h.going is) h.going in
    rw grown (record { applied_kept = refl; current_kept = refl; steps_kept = refl; work_kept = refl; made = refl; none = subst NoneIsToGo (sym over) tt }, over)
listened_full s w item back p p' answer false h is grown = (listened_brought s w item back p p' answer h grown, ap (agenda s) grown ∙ brought_over s p item back answer false h.due h.going is)

pub listened_bring : {X E : Type 0} (s : Start) (w : Worker) (item back : ℕ) (p p' : List Entry) (went : Result X E) (answer : Result Notify NotifyFault) (lane : LaneState) → lane ≡ record { items = (source s p).lane; size = s.config.event_channel_size } → IsListening s w item back p → OnOk went (p' ≡ listed (is_full lane answer) item back answer p) → OnErr went (p' ≡ Brought item back answer ∷ p) → HasListened s p p' × OnOk went (agenda s p' ≡ Open)
listened_bring s w item back p p' (Ok x) answer lane kept h listed cut = listened_full s w item back p p' answer (is_full lane answer) h (sym (ap (λ (l : LaneState). is_full l answer) kept)) listed
listened_bring s w item back p p' (Err e) answer lane kept h listed cut = (listened_brought s w item back p p' answer h cut, tt)

pub listened_onward : {Plan : Type 0} (s : Start) (p p' : List Entry) (a b : Seen Plan) → HasListened s p p' → a.looked.looks ≤ b.looked.looks → CountsOnward p a p' b
listened_onward s p p' a b h looks = let same = h.work_kept in record { steps_kept = h.steps_kept; work_more = omega (arith, same); looks_more = looks }

-- want of memory may cut the run there
pub ok_cut : {X E : Type 0} (result : Result X E) {cut : Type 0} → cut → OnErr result cut
ok_cut (Ok x) h = tt
ok_cut (Err e) h = h

-- ---- what waits

-- once room was taken
pub intake_same : (s : Start) (i : Intake) (p q : List Entry) → q ≡ p → IntakeStands s i p → IntakeStands s i q
intake_same s i p q same h = rw same h

pub quiet_intake : (s : Start) (i : Intake) (p p' : List Entry) → IntakeStands s i p → p' ≡ Said Quiet ∷ p → IntakeStands s i p'
quiet_intake s i p p' h grown = intake_still s i p p' (ap (source s) grown) h

full_intake : (s : Start) (i : Intake) (p p' : List Entry) (item back : ℕ) (answer : Result Notify NotifyFault) (full : Bool) → IntakeStands s i p → p' ≡ listed full item back answer p → IntakeStands s (brought item back answer i) p'
full_intake s i p p' item back answer true h grown = rw grown (intake_full s (brought item back answer i) (Brought item back answer ∷ p) item (intake_brought s i p item back answer h))
full_intake s i p p' item back answer false h grown = rw grown (intake_brought s i p item back answer h)

pub bring_intake : {X E : Type 0} (s : Start) (i k : Intake) (p p' : List Entry) (item back : ℕ) (answer : Result Notify NotifyFault) (went : Result X E) → IntakeStands s i p → OnOk went (p' ≡ listed (is_full i.lane answer) item back answer p) → OnOk went (k ≡ brought item back answer i) → OnOk went (IntakeStands s k p')
bring_intake s i k p p' item back answer (Ok x) h grown is = rw is (full_intake s i p p' item back answer (is_full i.lane answer) h grown)
bring_intake s i k p p' item back answer (Err e) h grown is = tt

-- ---- the backend was lent, and is back

pub record IsBack {B : Type 0} {G : Ghosts B} (w v : Watching B G) : Type 0 where
  pub state : state_of v.recursor.held ≡ installed (lent (state_of w.recursor.held))
  pub others : (v.back ≡ w.back) × (v.recursor.kind ≡ w.recursor.kind) × (v.recursor.follow ≡ w.recursor.follow) × (v.recursor.cwd ≡ w.recursor.cwd) × (v.recursor.spent ≡ w.recursor.spent)

pub watches_asked : {B : Type 0} {G : Ghosts B} (folder : List ℕ) (c : Config) (back : ℕ) (w v : Watching B G) (new : B) → IsBack w v → v.recursor.back ≡ Some new → WatchesBy folder c back w → WatchesBy folder c back v
watches_asked folder c back w v new is there h = record {
  named = is.others.0 ∙ h.named;
  unspent = is.others.4 ∙ h.unspent;
  has_backend = rw there refl;
  installed = ap (λ (x : RecursorState). x.backend) is.state;
  kind_kept = is.others.1 ∙ h.kind_kept;
  follow_kept = is.others.2 ∙ h.follow_kept;
  folder_kept = is.others.3 ∙ h.folder_kept;
  roots_kept = subst (λ (rs : List Root). SameRoots rs (kept_roots folder c.pathset)) (sym (ap (λ (x : RecursorState). x.roots) is.state)) h.roots_kept;
  filter_kept = ap (λ (x : RecursorState). x.filter) is.state ∙ h.filter_kept;
}

pub works_asked : {B : Type 0} {G : Ghosts B} (w v : Watching B G) → IsBack w v → works v ≡ works w
works_asked w v is = ap (λ (b : Bool). not b && has_work (state_of v.recursor.held).queue (state_of v.recursor.held).sweep_due) is.others.4 ∙ ap (λ (x : RecursorState). not w.recursor.spent && has_work x.queue x.sweep_due) is.state

-- ---- the turn

-- what stands does so by settings that were applied
pub record HasStood {B : Type 0} {G : Ghosts B} (folder : List ℕ) (o : Option Config) (current : Option ℕ) (w : Watching B G) : Type 0 where
  pub config : Config
  pub applied_now : o ≡ Some config
  pub current_is : current ≡ Some w.back
  pub watches : WatchesBy folder config w.back w

stood : {B : Type 0} {G : Ghosts B} (folder : List ℕ) (o : Option Config) (current : Option ℕ) (w : Watching B G) → StandsBy folder o current (Some w) → HasStood folder o current w
stood folder None None w h = absurd h
stood folder None (Some back) w h = absurd h
stood folder (Some c) None w h = absurd h
stood folder (Some c) (Some back) w h = record { config = c; applied_now = refl; current_is = ap Some (sym h.named); watches = subst (λ (n : ℕ). WatchesBy folder c n w) (sym h.named) h }

pub files_stood : {B : Type 0} {G : Ghosts B} (s : Start) (f : Files B G) (w : Watching B G) (p : List Entry) → FilesStand s f p → f.source ≡ Some w → HasStood s.folder (source s p).applied (source s p).current w
files_stood s f w p h is = stood s.folder (source s p).applied (source s p).current w (subst (StandsBy s.folder (source s p).applied (source s p).current) is h.source_kept)

begins : (at : ℕ) (q p : List Entry) → p ≡ Turned (record { at = at; kind = Listen }) ∷ q → begins_listening p ≡ true
begins at q p is = ap begins_listening is

pub turn_listens : {B : Type 0} {G : Ghosts B} (s : Start) (w : Worker) (f : Files B G) (v : Watching B G) (at : ℕ) (p : List Entry) → AtTurn s w at Listen p → FilesStand s f p → f.source ≡ Some v → IsListening s w (item_count p) v.back p
turn_listens s w f v at p turn files is =
    let h = at_turn s w at Listen p tt turn in
    let stood = files_stood s f v p files is in
    record { stands = h.stands; due = h.due ∙ ap listen_turn stood.current_is; going = h.going; current = stood.current_is; begins = begins at turn.before p turn.last; next = refl }

pub turn_ignores : {B : Type 0} {G : Ghosts B} (s : Start) (w : Worker) (f : Files B G) (at : ℕ) (p : List Entry) → AtTurn s w at Listen p → FilesStand s f p → f.source ≡ None → Stands s w p × (agenda s p ≡ says Ignored) × (is_quitting p ≡ false)
turn_ignores s w f at p turn files gone = let h = at_turn s w at Listen p tt turn in (h.stands, h.due ∙ ap listen_turn (files_none s f p files gone), h.going)

-- it is ignored where none stands
pub ignored_either : {X E : Type 0} (s : Start) (w : Worker) (at : ℕ) (p p' : List Entry) (result : Result X E) → AtTurn s w at Listen p → agenda s p ≡ says Ignored → is_quitting p ≡ false → OnOk result (p' ≡ Said Ignored ∷ p) → OnErr result (p' ≡ p) → HasListened s p p' × (source s p' ≡ source s p) × OnOk result (agenda s p' ≡ Open)
ignored_either s w at p p' (Ok x) turn owes going said err =
    let over = ignored_open s p (Said Ignored ∷ p) owes going refl in
    rw said (record { applied_kept = refl; current_kept = refl; steps_kept = refl; work_kept = refl; made = refl; none = subst NoneIsToGo (sym over) tt }, refl, over)
ignored_either s w at p p' (Err e) turn owes going said err = rw err (record { applied_kept = refl; current_kept = refl; steps_kept = refl; work_kept = refl; made = ap ends_unmade turn.last; none = subst NoneIsToGo (sym owes) tt }, refl, tt)

pub grown_alone : {Plan : Type 0} (s : Start) (w : Worker) (j j' : Written) (a : Seen Plan) → GrowsAlone s w j j' → AttendsAlone s w j a j' a
grown_alone s w j j' a h = record {
  stands = h.grows.stands;
  serves = λ hooks. serves_adds s j.past j'.past a hooks h.grows.adds h.settings_kept h.quits_kept h.unmade_kept;
  quiet = h.grows.adds.quiet;
  room = λ r. record { in_journal = h.grows.room r.in_journal; in_host = r.in_host };
}

pub files_ignored : {B X E : Type 0} {G : Ghosts B} (s : Start) (f : Files B G) (p p' : List Entry) (result : Result X E) → FilesStand s f p → source s p' ≡ source s p → OnOk result (FilesStand s f p')
files_ignored s f p p' (Ok x) h same = files_still s f p p' same h
files_ignored s f p p' (Err e) h same = tt

-- and else what is kept stands on
stands_on : {B : Type 0} {G : Ghosts B} (folder : List ℕ) (o o' : Option Config) (current current' : Option ℕ) (w v : Watching B G) → HasStood folder o current w → o' ≡ o → current' ≡ current → ((c : Config) (back : ℕ) → WatchesBy folder c back w → WatchesBy folder c back v) → StandsBy folder o' current' (Some v)
stands_on folder o o' current current' w v h same same_back on = rw (same, same_back, h.applied_now, h.current_is) (on h.config w.back h.watches)

pub files_listened : {B X E : Type 0} {G : Ghosts B} (s : Start) (f : Files B G) (w v : Watching B G) (i : Intake) (p p' : List Entry) (result : Result X E) → FilesStand s f p → f.source ≡ Some w → ((source s p').applied ≡ (source s p).applied) × ((source s p').current ≡ (source s p).current) → ((folder : List ℕ) (c : Config) (back : ℕ) → WatchesBy folder c back w → WatchesBy folder c back v) → OnOk result (IntakeStands s i p')
    → OnOk result (FilesStand s (record f { source = Some v; intake = i }) p')
files_listened s f w v i p p' (Ok x) h is kept on intake = record {
  absolute = h.absolute;
  folder_kept = h.folder_kept;
  revision_kept = h.revision_kept ∙ sym (ap revision_of kept.0);
  source_kept = stands_on s.folder (source s p).applied (source s p').applied (source s p).current (source s p').current w v (files_stood s f w p h is) kept.0 kept.1 (on s.folder);
  intake_kept = intake;
}
files_listened s f w v i p p' (Err e) h is kept on intake = tt

pub owing_kept : {B : Type 0} {G : Ghosts B} (f : Files B G) (w v : Watching B G) → f.source ≡ Some w → works v ≡ works w → owed (works v) ≤ owing f
owing_kept {B} {G} f w v is same = let kept : owed (works v) ≡ owing f = ap owed same ∙ sym (ap (λ (o : Option (Watching B G)). owed (any_works o)) is) in omega (arith, kept)
