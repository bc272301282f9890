-- What waits says nothing of the tree, and turns go on, where nothing fails.
use Rattle.wx_scan.specs.declared.backend.Backend.{Ghosts}
use Rattle.std.proofs.Common.{◌≡◌, ℕ, Bool, true, false, cond, List, [], ◌∷◌, ◌++◌, length, inl, inr, refl, ap, sym, subst, ◌∙◌}
use Rattle.std.specs.Prelude.{not, ◌&&◌, ◌==◌, Option, None, Some, Result, Ok, Err, IsErrAnd, OnErr, OnOk, drop}
use Rattle.wx_notify.specs.declared.notify.Notify.{Notify}
use Rattle.wx_watch.specs.declared.notify_fault.NotifyFault.{NotifyFault}
use Rattle.wx_config.specs.declared.config.Config.{Config}
use Rattle.wx_tree.specs.Paths.{Path}
use Rattle.wx_tree.specs.Trees.{Tree}
use Rattle.wx_scan.specs.Backings.{Backing, BringsNoChange, IsExact}
use Rattle.wx_scan.specs.Looked.{Looked, Rose}
use Rattle.wx_scan.specs.Told.{IsNamed}
use Rattle.wx_lane.specs.declared.lane.LaneItem.{LaneItem}
use Rattle.wx_lane.specs.declared.topology.Topology.{Topology}
use Rattle.wx_lane.specs.Lanes.{LaneState, fenced, has_changes as item_has_changes, hear, hear_first, is_full, is_unheard, is_waiting, put_item}
use Rattle.wx_lane.specs.Messages.{has_message, topology_messages}
use Rattle.wx_lane.specs.Public.{event_is_public}
use Rattle.wx_recursor.specs.States.{RecursorState}
use Rattle.wx_recursor.specs.Rebuilds.{installed, lent}
use Rattle.wx_recursor.specs.declared.answers.BackendPlace.{BackendPlace}
use Rattle.wx_recursor.specs.declared.answers.BackendPlace.TheVariants.{Installed}
use Rattle.wx_recursor.specs.declared.known.Known.{Known}
use Rattle.wx_holding.specs.Backed.{AreRegistered, AreWatched}
use Rattle.wx_holding.specs.Calm.{StandsBy}
use Rattle.wx_holding.specs.Holding.{state_of}
use Rattle.wx_holding.proofs.StandingBy.{all_spell, reads_registered}
use Rattle.wx_fs.specs.Settling.{BackendStands}
use Rattle.wx_hooks.specs.Given.{GivesNext, IsAnswered, unheard}
use Rattle.wx_machine.specs.Seen.{Seen}
use Rattle.wx_journal.specs.declared.entry.Entry.{Entry}
use Rattle.wx_journal.specs.declared.entry.Entry.TheVariants.{Applied, Brought, LetGo, Turn as Turned}
use Rattle.wx_journal.specs.declared.entry.LetGoCause.TheVariants.{Full}
use Rattle.wx_journal.specs.declared.entry.Turn.{Turn}
use Rattle.wx_machine.specs.Start.{Start}
use Rattle.wx_machine.specs.Settings.{settings}
use Rattle.wx_machine.specs.Files.{is_deaf}
use Rattle.wx_machine.specs.Steps.{step_count}
use Rattle.wx_machine.specs.Steady.{StaysLooked}
use Rattle.wx_machine.specs.Added.{Same, More}
use Rattle.wx_file_turns.specs.Calm.{AreCalm, Foresees, IsCalmTurn}
use Rattle.wx_file_turns.specs.FewSteps.{AddsBeside, FewSteps, IsBeside, TurnShowsAbsent, earlier_roots}
use Rattle.wx_file_turns.specs.Walking.{AreHarmless, IsHarmless, IsWalking}
use Rattle.wx_file_turns.specs.declared.files.Files.{Files}
use Rattle.wx_file_turns.specs.declared.files.Watching.{Watching}
use Rattle.wx_file_turns.specs.declared.hearing.Hearing.{Hearing}
use Rattle.wx_file_turns.specs.declared.intake.Intake.{Intake}
use Rattle.wx_file_turns.specs.declared.resting.Next.{Next}
use Rattle.wx_file_turns.specs.declared.resting.Next.TheVariants as next
use Rattle.wx_file_turns.specs.Hearing.{hearing_of, messages_of}
use Rattle.wx_file_turns.specs.Intake.{brought, heard, is_live_by, left, listed, stepped}
use Rattle.wx_file_turns.specs.Resting.{next_asked, next_event, next_fenced, next_of}
use Rattle.wx_file_turns.specs.Settling.{AnyOf, AreSettling, GoesOnSettling, GoesOnWalking, IsJustApplied, Walked, Walks}
use Rattle.wx_lane.proofs.MessageLemmas.{tells_where_messages}
use Rattle.wx_file_turns.proofs.Journals.{Adds, beside_no_step, calm_before, few_over, few_still, no_rise_then}
use Rattle.wx_file_turns.proofs.Walks.{any_walked, stands_at, walks_beside}

-- ---- what waits says nothing of the tree

harmless_end : (items : List LaneItem) (i : LaneItem) → AreHarmless items → IsHarmless i.item → AreHarmless (items ++ i ∷ [])
harmless_end [] i h is = (is, tt)
harmless_end (j ∷ items) i h is = (h.0, harmless_end items i h.1 is)

put_by : (dropped : Bool) (lane : LaneState) (i : LaneItem) → AreHarmless lane.items → IsHarmless i.item → AreHarmless (cond dropped lane (record lane { items = lane.items ++ i ∷ [] })).items
put_by true lane i h is = h
put_by false lane i h is = harmless_end lane.items i h is

pub put_harmless : (name back : ℕ) (item : Result Notify NotifyFault) (lane : LaneState) → AreHarmless lane.items → IsHarmless item → AreHarmless (put_item name back item lane).items
put_harmless name back item lane h is = put_by (is_full lane item && not (item_has_changes item)) lane (record { name = name; back = back; item = item; heard = false; full = is_full lane item }) h is

heard_first : (waits : Bool) (i : LaneItem) (items : List LaneItem) → IsHarmless i.item → AreHarmless items → AreHarmless (cond waits (record i { heard = true } ∷ []) [] ++ items)
heard_first true i items is h = (is, h)
heard_first false i items is h = h

hear_by : (name : ℕ) (named : Bool) (i : LaneItem) (items : List LaneItem) → IsHarmless i.item → AreHarmless items → AreHarmless (hear name items) → AreHarmless (cond named (hear_first (i ∷ items)) (i ∷ hear name items))
hear_by name true i items is h later = heard_first (is_waiting i) i items is h
hear_by name false i items is h later = (is, later)

pub hear_harmless : (name : ℕ) (items : List LaneItem) → AreHarmless items → AreHarmless (hear name items)
hear_harmless name [] h = tt
hear_harmless name (i ∷ items) h = hear_by name (i.name == name) i items h.0 h.1 (hear_harmless name items h.1)

first_left : (items : List LaneItem) → AreHarmless items → AreHarmless (drop 1 items)
first_left [] h = tt
first_left (i ∷ items) h = h.1

pub left_harmless : (i i' : Intake) → i' ≡ left i → AreHarmless i.lane.items → AreHarmless i'.lane.items
left_harmless i i' is h = rw is (first_left i.lane.items h)

pub heard_harmless : {X E : Type 0} (result : Result X E) (name : ℕ) (i i' : Intake) → OnOk result (i' ≡ heard name i) → AreHarmless i.lane.items → OnOk result (AreHarmless i'.lane.items)
heard_harmless (Ok x) name i i' is h = rw is (hear_harmless name i.lane.items h)
heard_harmless (Err e) name i i' is h = tt

pub same_lane : (i i' : Intake) → i'.lane ≡ i.lane → AreHarmless i.lane.items → AreHarmless i'.lane.items
same_lane i i' is h = rw is h

stepped_lane : (fenced : Bool) (items : ℕ) (i : Intake) → AreHarmless i.lane.items → AreHarmless (cond fenced i (record i { fence = items })).lane.items
stepped_lane true items i h = h
stepped_lane false items i h = h

pub stepped_harmless : (items : ℕ) (i i' : Intake) → i' ≡ stepped items i → AreHarmless i.lane.items → AreHarmless i'.lane.items
stepped_harmless items i i' is h = rw is (stepped_lane i.fenced items i h)

-- such an item is heard without a message
none_said : (live : Bool) (item : Result Notify NotifyFault) → IsHarmless item → messages_of live item ≡ []
none_said true (Ok n) is = is
none_said false (Ok n) is = refl
none_said live (Err fault) is = refl

abbrev IsSilent : Next → Type 0
IsSilent (next.Hear h) = h.messages ≡ []
IsSilent (_) = Unit {0}

silent_by : (b : Bool) (x y : Next) → IsSilent x → IsSilent y → IsSilent (cond b x y)
silent_by true x y h k = h
silent_by false x y h k = k

event_silent : {B : Type 0} {G : Ghosts B} (w : Watching B G) (live : Bool) (item : ℕ) (n : Notify) → IsSilent (next_event w live item n)
event_silent w live item n = silent_by (not live) _ _ tt (silent_by (not (event_is_public w.recursor.cwd (state_of w.recursor.held).roots n)) _ _ tt tt)

of_silent : {B : Type 0} {G : Ghosts B} (w : Watching B G) (live : Bool) (i : LaneItem) (item : Result Notify NotifyFault) → IsHarmless i.item → IsSilent (next_of w live i item)
of_silent w live i (Ok n) is = event_silent w live i.name n
of_silent w live i (Err fault) is = none_said live i.item is

item_silent : {B : Type 0} {G : Ghosts B} (w : Watching B G) (live deaf : Bool) (i : LaneItem) → IsHarmless i.item → IsSilent (cond deaf (next.Hear (hearing_of live i)) (next_of w live i i.item))
item_silent w live true i is = none_said live i.item is
item_silent w live false i is = of_silent w live i i.item is

fenced_by : {B : Type 0} {G : Ghosts B} (w : Watching B G) (since revision below : ℕ) (items : List LaneItem) → AreHarmless items → IsSilent (next_fenced w since revision (fenced below items))
fenced_by w since revision below [] h = tt
fenced_by w since revision below (i ∷ items) h = by (is_unheard below i) (fenced_by w since revision below items h.1)
  where
    by : (unheard : Bool) → IsSilent (next_fenced w since revision (fenced below items)) → IsSilent (next_fenced w since revision (cond unheard (Some i) (fenced below items)))
    by true later = none_said (is_live_by w since i.back) i.item h.0
    by false later = later

asked_silent : {B : Type 0} {G : Ghosts B} (w : Watching B G) (i : Intake) (items : List LaneItem) (asks : Option ℕ) → items ≡ i.lane.items → AreHarmless items → IsSilent (next_asked w i asks)
asked_silent w i [] None same h = rw (sym same) tt
asked_silent w i (x ∷ items) None same h = rw (sym same) (item_silent w (is_live_by w i.since x.back) (is_deaf x) x h.0)
asked_silent w i items (Some revision) same h = rw (sym same) (fenced_by w i.since revision i.fence items h)

-- what is heard next says nothing
pub next_silent : {B : Type 0} {G : Ghosts B} (w : Watching B G) (i : Intake) (asks : Option ℕ) (found : Next) (h : Hearing) → found ≡ next_asked w i asks → found ≡ next.Hear h → AreHarmless i.lane.items → h.messages ≡ []
next_silent w i asks found h is heard harmless = subst IsSilent (sym is ∙ heard) (asked_silent w i i.lane.items asks refl harmless)

-- ---- a backend is asked what it brings

silent_messages : (ms : List Topology) → has_message ms ≡ false → ms ≡ []
silent_messages [] none = refl
silent_messages (m ∷ ms) none = absurd cc

unchanged : (item : Result Notify NotifyFault) → BringsNoChange (Some item) → IsHarmless item
unchanged (Ok n) none = silent_messages (topology_messages n) (sym (tells_where_messages n) ∙ none)
unchanged (Err fault) none = tt

-- what is answered says nothing of the tree
answer_harmless : (found : Option (Result Notify NotifyFault)) (result : Option (Result Notify NotifyFault)) (answer : Result Notify NotifyFault) → IsAnswered found result → BringsNoChange found → result ≡ Some answer → IsHarmless answer
answer_harmless None result answer answered none is = absurd (let no : None ≡ Some answer = sym answered ∙ is in cc)
answer_harmless (Some item) result answer (inl same) none is = let e : item ≡ answer = (let f : Some item ≡ Some answer = sym same ∙ is in cc) in subst IsHarmless e (unchanged item none)
answer_harmless (Some item) result answer (inr short) none is = let e : unheard ≡ answer = (let f : Some unheard ≡ Some answer = sym short ∙ is in cc) in subst IsHarmless e tt

lent_back : (u : RecursorState) → u.backend ≡ Installed → installed (lent u) ≡ u
lent_back u is = ap (λ (x : BackendPlace). record u { backend = x }) (sym is)

module _ {B : Type 0} (backing : B → Backing) (fits : B → Tree → Type 0) where
  -- an exact backend that was asked still stands, and brought nothing that says anything of the tree
  asked_stands : {Plan : Type 0} (t : Tree) (ks : List Known) (item back : ℕ) (result : Option (Result Notify NotifyFault)) (old new : B) (a b : Seen Plan) → StandsBy t ks (backing old) (fits old t) → (gives : GivesNext backing fits item back result old new a b) → a.looked.tree ≡ Some t → (Rose a.looked.faults b.looked.faults → ⊥) → StandsBy t ks (backing new) (fits new t) × BringsNoChange gives.next
  asked_stands t ks item back result old new a b h gives tree calm =
      let exact : IsExact (backing old) a.looked b.looked t = record { exact = h.exact; told = tree; no_fault = calm } in
      let still = gives.fits_still t exact (all_spell t (backing old).registrations (reads_registered t ks (backing old).registrations h.registered h.readable)) h.seen in (
        record {
          exact = gives.brings.exact ∙ h.exact;
          watched = subst (AreWatched ks) (sym gives.brings.registrations) h.watched;
          registered = subst (AreRegistered ks) (sym gives.brings.registrations) h.registered;
          readable = h.readable;
          seen = still.0;
        },
        still.1,
      )

  stood : (t : Tree) (ks : List Known) (o : Option B) (old : B) → o ≡ Some old → BackendStands backing fits t ks o → StandsBy t ks (backing old) (fits old t)
  stood t ks o old is h = rw is at h

module _ {B : Type 0} {G : Ghosts B} (backing : B → Backing) (fits : B → Tree → Type 0) where
  -- what keeps watches goes on, where its backend was asked
  pub asked_walks : {Plan : Type 0} (t : Tree) (ok : ℕ → Path → Bool) (s : Start) (p : List Entry) (w v : Watching B G) (item back : ℕ) (result : Option (Result Notify NotifyFault)) (old new : B) (a b : Seen Plan) → Walks backing fits t ok s p w → (state_of w.recursor.held).backend ≡ Installed → w.recursor.back ≡ Some old → v.recursor.back ≡ Some new → GivesNext backing fits item back result old new a b
      → state_of v.recursor.held ≡ installed (lent (state_of w.recursor.held)) → v.recursor.follow ≡ w.recursor.follow → v.recursor.cwd ≡ w.recursor.cwd → a.looked.tree ≡ Some t → (Rose a.looked.faults b.looked.faults → ⊥) → Walks backing fits t ok s p v
  asked_walks t ok s p w v item back result old new a b h place before after gives state links folder tree calm =
      let same : state_of v.recursor.held ≡ state_of w.recursor.held = state ∙ lent_back (state_of w.recursor.held) place in
      let stands = (asked_stands backing fits t (state_of w.recursor.held).registrations item back result old new a b (stood backing fits t (state_of w.recursor.held).registrations w.recursor.back old before h.sound.stands) gives tree calm).0 in
      record {
        sound = record { links = links ∙ h.sound.links; folder = folder ∙ h.sound.folder; stands = stands_at backing fits t (state_of w.recursor.held).registrations (state_of v.recursor.held).registrations (Some new) v.recursor.back (ap (λ (u : RecursorState). u.registrations) same) after stands };
        walking = subst (λ (u : RecursorState). IsWalking t ok s p u) (sym same) h.walking;
      }

  -- and what was brought says nothing of the tree
  pub asked_harmless : {Plan : Type 0} (t : Tree) (ok : ℕ → Path → Bool) (s : Start) (p : List Entry) (w : Watching B G) (item back : ℕ) (result : Option (Result Notify NotifyFault)) (answer : Result Notify NotifyFault) (old new : B) (a b : Seen Plan) → Walks backing fits t ok s p w → w.recursor.back ≡ Some old → GivesNext backing fits item back result old new a b → a.looked.tree ≡ Some t → (Rose a.looked.faults b.looked.faults → ⊥) → result ≡ Some answer → IsHarmless answer
  asked_harmless t ok s p w item back result answer old new a b h before gives tree calm is =
      answer_harmless gives.next result answer gives.answered (asked_stands backing fits t (state_of w.recursor.held).registrations item back result old new a b (stood backing fits t (state_of w.recursor.held).registrations w.recursor.back old before h.sound.stands) gives tree calm).1 is

-- the tree that is known is told behind room that was taken, and no look failed since
pub told_since : {Plan : Type 0} (t : Tree) (ok : ℕ → Path → Bool) (s : Start) (p : List Entry) (a m b : Seen Plan) → StaysLooked a.looked m.looked → IsCalmTurn t ok s p a.looked b.looked → (m.looked.tree ≡ Some t) × (Rose m.looked.faults b.looked.faults → ⊥)
told_since t ok s p a m b room calm = (room.tree_kept t calm.stays.foresees.shape ∙ calm.tree, no_rise_then a.looked.faults m.looked.faults b.looked.faults room.faults_kept calm.stays.no_fault)

-- ---- turns

-- behind a turn nothing was shown in it yet
pub turn_shows : (s : Start) (t : Tree) (p before : List Entry) (turn : Turn) → p ≡ Turned turn ∷ before → TurnShowsAbsent s t p
turn_shows s t p before turn last = rw last (λ other. absurd cc)

-- one entry on top
pub beside_one : (e : Entry) (p p' : List Entry) → IsBeside e → p' ≡ e ∷ p → AddsBeside p p'
beside_one e p p' is grown = rw grown (More e p Same is)

pub beside_none : (p p' : List Entry) → p' ≡ p → AddsBeside p p'
beside_none p p' same = rw same Same

-- what was brought is listed, and let go where there is no room for it
pub beside_listed : (full : Bool) (item back : ℕ) (answer : Result Notify NotifyFault) (p p' : List Entry) → p' ≡ listed full item back answer p → AddsBeside p p'
beside_listed true item back answer p p' grown = rw grown (More (LetGo item Full) (Brought item back answer ∷ p) (More (Brought item back answer) p Same (record { none_applied = refl; none_done = refl })) (record { none_applied = refl; none_done = refl }))
beside_listed false item back answer p p' grown = rw grown (More (Brought item back answer) p Same (record { none_applied = refl; none_done = refl }))

-- what is tested isn't empty
pub none_empty : {A : Type 0} (xs : List A) (tested : Bool) → xs ≡ [] → tested ≡ false → tested ≡ (length xs == 0) → ⊥
none_empty {A} xs tested none isnt tells = let is : false ≡ true = sym isnt ∙ tells ∙ ap (λ (ys : List A). length ys == 0) none in cc

-- what holds where it went well holds where it didn't
pub ok_never : {X E : Type 0} (result : Result X E) (P : E → Type 0) (Q : Type 0) → IsErrAnd result P → OnOk result Q
ok_never (Ok x) P Q is = absurd is
ok_never (Err e) P Q is = tt

-- a word is said, where there was room
pub said_beside : {X E : Type 0} (result : Result X E) (e : Entry) (p p' : List Entry) → IsBeside e → OnOk result (p' ≡ e ∷ p) → OnErr result (p' ≡ p) → AddsBeside p p'
said_beside (Ok x) e p p' is done err = beside_one e p p' is done
said_beside (Err x) e p p' is done err = beside_none p p' err

pub bring_beside : {X E : Type 0} (result : Result X E) (full : Bool) (item back : ℕ) (answer : Result Notify NotifyFault) (p q p' : List Entry) → q ≡ p → OnOk result (p' ≡ listed full item back answer q) → OnErr result (p' ≡ Brought item back answer ∷ q) → AddsBeside p p'
bring_beside (Ok x) full item back answer p q p' same done cut = beside_listed full item back answer p p' (rw same at done)
bring_beside (Err e) full item back answer p q p' same done cut = beside_listed false item back answer p p' (rw same at cut)

pub bring_harmless : {X E : Type 0} (result : Result X E) (item back : ℕ) (answer : Result Notify NotifyFault) (i i' : Intake) (P : Type 0) → OnOk result (i' ≡ brought item back answer i) → AreHarmless i.lane.items → IsHarmless answer → P → OnOk result (AreHarmless i'.lane.items × P)
bring_harmless (Ok x) item back answer i i' P is h said rest = (rw is (put_harmless item back answer i.lane h said), rest)
bring_harmless (Err e) item back answer i i' P is h said rest = tt

-- settings are applied
pub just_applied : (s : Start) (ok : ℕ → Path → Bool) (p p' q : List Entry) (c : Config) (revision : ℕ) → q ≡ Applied revision ∷ p → Adds q p' → c ≡ settings s p → AreCalm ok s p' → IsJustApplied s c q
just_applied s ok p p' q c revision grown adds is calm =
    let before : AreCalm ok s (Applied revision ∷ p) = rw grown at (calm_before ok s q p' adds calm) in
    rw (grown, is) (record { links = before.0; newest = refl; none_yet = refl })

pub applied_few : (s : Start) (t : Tree) (p q p' : List Entry) (revision : ℕ) → q ≡ Applied revision ∷ p → Adds q p' → step_count p' ≡ step_count q → FewSteps s t p → FewSteps s t p'
applied_few s t p q p' revision grown adds same few = few_still s t q p' adds same (rw grown (λ step. absurd cc, few))

module _ {B : Type 0} {G : Ghosts B} (backing : B → Backing) (fits : B → Tree → Type 0) (s : Start) where
  -- entries came that are neither settings that are applied nor steps
  pub walking_by : {X E : Type 0} (result : Result X E) (w v : Watching B G) (i i' : Intake) (p p' : List Entry) (a b : Looked) → AddsBeside p p' → ((t : Tree) (ok : ℕ → Path → Bool) → IsCalmTurn t ok s p' a b → AreHarmless i.lane.items → Walks backing fits t ok s p w → OnOk result (AreHarmless i'.lane.items × Walks backing fits t ok s p v)) → GoesOnWalking backing fits result s w i p a v i' p' b
  walking_by (Ok x) w v i i' p p' a b beside on = λ t ok calm few shows h walks. let k = on t ok calm h walks in (few_over s t p p' (beside_no_step p p' beside) few, (k.0, walks_beside backing fits t ok s p p' v v beside refl k.1))
  walking_by (Err e) w v i i' p p' a b beside on = λ t ok calm few shows h walks. (few_over s t p p' (beside_no_step p p' beside) few, tt)

  -- it didn't go well
  pub walking_left : {X E : Type 0} (result : Result X E) (P : E → Type 0) (w v : Watching B G) (i i' : Intake) (p p' : List Entry) (a b : Looked) → IsErrAnd result P → AddsBeside p p' → GoesOnWalking backing fits result s w i p a v i' p' b
  walking_left {X} {E} (Ok x) P w v i i' p p' a b is beside = absurd is
  walking_left {X} {E} (Err e) P w v i i' p p' a b is beside = walking_by {X = X} {E = E} (Err e) w v i i' p p' a b beside (λ t ok calm h walks. tt)

  -- and what keeps watches stays as it is
  pub walking_same : {X E : Type 0} (result : Result X E) (w v : Watching B G) (i i' : Intake) (p p' : List Entry) (a b : Looked) → AddsBeside p p' → (AreHarmless i.lane.items → OnOk result (v ≡ w)) → (AreHarmless i.lane.items → OnOk result (AreHarmless i'.lane.items)) → GoesOnWalking backing fits result s w i p a v i' p' b
  walking_same {X} {E} (Ok x) w v i i' p p' a b beside same harmless = walking_by {X = X} {E = E} (Ok x) w v i i' p p' a b beside (λ t ok calm h walks. (harmless h, rw (same h) walks))
  walking_same {X} {E} (Err e) w v i i' p p' a b beside same harmless = walking_by {X = X} {E = E} (Err e) w v i i' p p' a b beside (λ t ok calm h walks. tt)

  -- the same where it went well
  pub walking_well : (w v : Watching B G) (i i' : Intake) (p p' : List Entry) (a b : Looked) → AddsBeside p p' → v ≡ w → (AreHarmless i.lane.items → AreHarmless i'.lane.items) → GoesOnWalking {X = Unit {0}} {E = Unit {0}} backing fits (Ok tt) s w i p a v i' p' b
  walking_well w v i i' p p' a b beside same harmless = walking_same {X = Unit {0}} {E = Unit {0}} (Ok tt) w v i i' p p' a b beside (λ h. same) harmless

  -- and where what keeps watches goes on
  pub quiet_walking : (w v : Watching B G) (i : Intake) (p p' : List Entry) (a b : Looked) → AddsBeside p p' → ((t : Tree) (ok : ℕ → Path → Bool) → IsCalmTurn t ok s p' a b → Walks backing fits t ok s p w → Walks backing fits t ok s p v) → GoesOnWalking {X = Unit {0}} {E = Unit {0}} backing fits (Ok tt) s w i p a v i p' b
  quiet_walking w v i p p' a b beside on = walking_by {X = Unit {0}} {E = Unit {0}} (Ok tt) w v i i p p' a b beside (λ t ok calm h walks. (h, on t ok calm walks))

  -- the same of all that is kept, where a backend stands
  pub settling_by : {X E : Type 0} (result : Result X E) (f g : Files B G) (w v : Watching B G) (i' : Intake) (p p' : List Entry) (a b : Looked) → ((t : Tree) → TurnShowsAbsent s t p) → f.source ≡ Some w → g ≡ record f { source = Some v; intake = i' } → GoesOnWalking backing fits result s w f.intake p a v i' p' b → GoesOnSettling backing fits result s f p a g p' b
  settling_by (Ok x) f g w v i' p p' a b shows is new on = λ t ok calm h. let k = on t ok calm h.few (shows t) h.harmless (subst (AnyOf (λ x. Walks backing fits t ok s p x)) is h.walks) in (k.0, rw new (record { few = k.0; harmless = k.1.0; walks = k.1.1 }))
  settling_by (Err e) f g w v i' p p' a b shows is new on = λ t ok calm h. let k = on t ok calm h.few (shows t) h.harmless (subst (AnyOf (λ x. Walks backing fits t ok s p x)) is h.walks) in (k.0, tt)

  any_beside : (t : Tree) (ok : ℕ → Path → Bool) (p p' : List Entry) (o : Option (Watching B G)) → AddsBeside p p' → AnyOf (λ w. Walks backing fits t ok s p w) o → AnyOf (λ w. Walks backing fits t ok s p' w) o
  any_beside t ok p p' None beside h = tt
  any_beside t ok p p' (Some w) beside h = walks_beside backing fits t ok s p p' w w beside refl h

  pub settling_over : (t : Tree) (ok : ℕ → Path → Bool) (f : Files B G) (p p' : List Entry) → AddsBeside p p' → AreSettling backing fits t ok s p f → AreSettling backing fits t ok s p' f
  settling_over t ok f p p' beside h = record { few = few_over s t p p' (beside_no_step p p' beside) h.few; harmless = h.harmless; walks = any_beside t ok p p' f.source beside h.walks }

  -- and where what is kept stays as it is
  pub settling_beside : {X E : Type 0} (result : Result X E) (f : Files B G) (p p' : List Entry) (a b : Looked) → AddsBeside p p' → GoesOnSettling backing fits result s f p a f p' b
  settling_beside (Ok x) f p p' a b beside = λ t ok calm h. let k = settling_over t ok f p p' beside h in (k.few, k)
  settling_beside (Err e) f p p' a b beside = λ t ok calm h. ((settling_over t ok f p p' beside h).few, tt)

  pub settling_well : (f : Files B G) (p p' : List Entry) (a b : Looked) → AddsBeside p p' → GoesOnSettling {X = Unit {0}} {E = Unit {0}} backing fits (Ok tt) s f p a f p' b
  settling_well f p p' a b beside = settling_beside {X = Unit {0}} {E = Unit {0}} (Ok tt) f p p' a b beside

  pub walked_before : (t : Tree) (ok : ℕ → Path → Bool) (p q : List Entry) (revision : ℕ) (o : Option (Watching B G)) → q ≡ Applied revision ∷ p → AnyOf (λ w. Walks backing fits t ok s p w) o → AnyOf (λ w. Walked backing fits t ok s (earlier_roots s q) w) o
  walked_before t ok p q revision o grown h = rw grown (any_walked backing fits t ok s p o h)

  -- settings were applied
  pub applied_settles : {X E : Type 0} (result : Result X E) (f g : Files B G) (p q p' : List Entry) (c : Config) (a b : Looked) → c ≡ settings s p → q ≡ Applied c.change_signal ∷ p → Adds q p' → step_count p' ≡ step_count q → (AreHarmless f.intake.lane.items → AreHarmless g.intake.lane.items)
      → ((t : Tree) (ok : ℕ → Path → Bool) → IsNamed t → Foresees t a → IsJustApplied s c q → AnyOf (λ w. Walked backing fits t ok s (earlier_roots s q) w) f.source → OnOk result (AnyOf (λ w. Walks backing fits t ok s p' w) g.source)) → GoesOnSettling backing fits result s f p a g p' b
  applied_settles (Ok x) f g p q p' c a b is grown adds same harmless on = λ t ok calm h.
      let few = applied_few s t p q p' c.change_signal grown adds same h.few in
      (few, record { few = few; harmless = harmless h.harmless; walks = on t ok calm.stays.named calm.stays.foresees (just_applied s ok p p' q c c.change_signal grown adds is calm.stays.calm) (walked_before t ok p q c.change_signal f.source grown h.walks) })
  applied_settles (Err e) f g p q p' c a b is grown adds same harmless on = λ t ok calm h. (applied_few s t p q p' c.change_signal grown adds same h.few, tt)

  -- and no path is to be watched
  pub applied_none : (f g : Files B G) (p q : List Entry) (c : Config) (a b : Looked) → c ≡ settings s p → q ≡ Applied c.change_signal ∷ p → (AreHarmless f.intake.lane.items → AreHarmless g.intake.lane.items) → g.source ≡ None → GoesOnSettling {X = Unit {0}} {E = Unit {0}} backing fits (Ok tt) s f p a g q b
  applied_none f g p q c a b is grown harmless none = applied_settles {X = Unit {0}} {E = Unit {0}} (Ok tt) f g p q q c a b is grown Same refl harmless (λ t ok named foresees just walked. rw none tt)

  -- there was no memory before
  pub unapplied_settles : {X E : Type 0} (result : Result X E) (P : E → Type 0) (f g : Files B G) (p p' : List Entry) (a b : Looked) → IsErrAnd result P → p' ≡ p → GoesOnSettling backing fits result s f p a g p' b
  unapplied_settles (Ok x) P f g p p' a b is same = absurd is
  unapplied_settles (Err e) P f g p p' a b is same = λ t ok calm h. (rw same h.few, tt)
