-- What each part of a step makes, by the answers that it got.
use Rattle.std.proofs.Common.{◌≡◌, Bool, false, List, [], ◌∷◌, length, drop, arith, refl, ap, sym, ◌∙◌, subst}
use Rattle.std.specs.Prelude.{Option, None}
use Rattle.wx_watch.specs.declared.notify_fault.NotifyFault.{NotifyFault}
use Rattle.wx_tree.specs.Paths.{Path}
use Rattle.wx_tree.specs.declared.root.Root.{Root}
use Rattle.wx_recursor.specs.States.{Evidence, RecursorState}
use Rattle.wx_recursor.specs.Guarding.{guarded_at}
use Rattle.wx_recursor.specs.Holding.{keep_retry, lose, show}
use Rattle.wx_recursor.specs.Steps.{acted, acted_item, probed, released, scanned, stepped_at, swept, told, tried, visited}
use Rattle.wx_recursor.specs.declared.answers.Found.{Found}
use Rattle.wx_recursor.specs.declared.answers.Found.TheVariants.{Barred, Entries, Fault, Here, Missing, Refused, Rejected}
use Rattle.wx_recursor.specs.declared.answers.GuardFound.{GuardFound}
use Rattle.wx_recursor.specs.declared.answers.GuardFound.TheVariants.{At, Faulty, Nowhere}
use Rattle.wx_recursor.specs.declared.answers.Look.TheVariants.{Absent}
use Rattle.wx_recursor.specs.declared.answers.Watched.TheVariants.{Kept}
use Rattle.wx_recursor.specs.declared.errors.ScanFault.TheVariants.{Io, NotFound}
use Rattle.wx_recursor.specs.declared.errors.ShownError.{ShownError}
use Rattle.wx_recursor.specs.declared.errors.ShownError.TheVariants.{PathScan}
use Rattle.wx_recursor.specs.declared.work.Item.{Item}
use Rattle.wx_recursor.specs.declared.work.Item.TheVariants.{Candidate, Guard, Scan, Visit}
use Rattle.wx_recursor.specs.declared.work.Work.{Work}
use Rattle.wx_recursor.specs.declared.work.Work.TheVariants.{Plain, Probe}
use Rattle.wx_holding.specs.Effects.{Guards, Releases, Tries, Visits}
use Rattle.wx_holding.proofs.CalmActs.{found_free}
use Rattle.wx_step.specs.Asking.{FirstAsksBelow, ItemAsksBelow, WorkAsksBelow}
use Rattle.wx_step.specs.Stepped.{Acts, ActsItem, Firsts, Hands, Steps}

-- no call was made
pub no_evidence : Evidence
no_evidence = record { found = Missing; guard_found = Nowhere; watched = Kept Absent; undone = None; root_is_safe = false; releases = [] }

-- what isn't looked at doesn't count

search_released : (r : Root) (g : GuardFound) (us : List (Option NotifyFault)) (e : Evidence) (s : RecursorState) → guarded_at r g (record e { releases = us }) s ≡ guarded_at r g e s
search_released r Nowhere us e s = refl
search_released r (At p i) us e s = refl
search_released r (Faulty p c) us e s = refl

visited_found : (r : Root) (f h : Found) (e : Evidence) (s : RecursorState) → visited r f (record e { found = h }) s ≡ visited r f e s
visited_found r Missing h e s = found_free r e.guard_found h e (lose r r.path (show (PathScan r.path NotFound) s))
visited_found r Barred h e s = found_free r e.guard_found h e (lose r r.path s)
visited_found r Rejected h e s = refl
visited_found r (Fault p c) h e s = found_free r e.guard_found h e (keep_retry r r.path (show (PathScan p (Io c)) s))
visited_found r (Refused c) h e s = refl
visited_found r (Here i) h e s = refl
visited_found r (Entries cs) h e s = refl

visited_released : (r : Root) (f : Found) (us : List (Option NotifyFault)) (e : Evidence) (s : RecursorState) → visited r f (record e { releases = us }) s ≡ visited r f e s
visited_released r Missing us e s = search_released r e.guard_found us e (lose r r.path (show (PathScan r.path NotFound) s))
visited_released r Barred us e s = search_released r e.guard_found us e (lose r r.path s)
visited_released r Rejected us e s = refl
visited_released r (Fault p c) us e s = search_released r e.guard_found us e (keep_retry r r.path (show (PathScan p (Io c)) s))
visited_released r (Refused c) us e s = refl
visited_released r (Here i) us e s = refl
visited_released r (Entries cs) us e s = refl

tried_found : (r : Root) (p : Path) (f h : Found) (e : Evidence) (s : RecursorState) → tried r p f (record e { found = h }) s ≡ tried r p f e s
tried_found r p Missing h e s = refl
tried_found r p Barred h e s = refl
tried_found r p Rejected h e s = refl
tried_found r p (Fault q c) h e s = refl
tried_found r p (Refused c) h e s = refl
tried_found r p (Here i) h e s = refl
tried_found r p (Entries cs) h e s = refl

tried_released : (r : Root) (p : Path) (f : Found) (us : List (Option NotifyFault)) (e : Evidence) (s : RecursorState) → tried r p f (record e { releases = us }) s ≡ tried r p f e s
tried_released r p Missing us e s = refl
tried_released r p Barred us e s = refl
tried_released r p Rejected us e s = refl
tried_released r p (Fault q c) us e s = refl
tried_released r p (Refused c) us e s = refl
tried_released r p (Here i) us e s = refl
tried_released r p (Entries cs) us e s = refl

item_released : (i : Item) (us : List (Option NotifyFault)) (e : Evidence) (s : RecursorState) → acted_item i (record e { releases = us }) s ≡ acted_item i e s
item_released (Guard r) us e s = search_released r e.guard_found us e s
item_released (Visit r) us e s = visited_released r e.found us e s
item_released (Scan r p) us e s = refl
item_released (Candidate r p) us e s = tried_released r p e.found us e s

pub first_released : (q : List Work) (us : List (Option NotifyFault)) (e : Evidence) (s : RecursorState) → stepped_at q (record e { releases = us }) s ≡ stepped_at q e s
first_released [] us e s = refl
first_released (Plain i ∷ q) us e s = item_released i us e (record s { queue = q })
first_released (Probe p owners ∷ q) us e s = refl

-- items

pub acts_guard : (i : Item) (r : Root) (s t : RecursorState) → i ≡ Guard r → Guards r s t → ActsItem i s t
acts_guard i r s t is (e, h) = subst (λ x. ActsItem x s t) (sym is) (e, h)

pub acts_visit : (i : Item) (r : Root) (f : Found) (s t : RecursorState) → i ≡ Visit r → Visits r f s t → ActsItem i s t
acts_visit i r f s t is (e, h) = subst (λ x. ActsItem x s t) (sym is) (record e { found = f }, h ∙ sym (visited_found r f f e s))

pub acts_scan : (i : Item) (r : Root) (p : Path) (f : Found) (s t : RecursorState) → i ≡ Scan r p → t ≡ scanned r p f s → ActsItem i s t
acts_scan i r p f s t is h = subst (λ x. ActsItem x s t) (sym is) (record no_evidence { found = f }, h)

pub acts_try : (i : Item) (r : Root) (p : Path) (f : Found) (s t : RecursorState) → i ≡ Candidate r p → Tries r p f s t → ActsItem i s t
acts_try i r p f s t is (e, h) = subst (λ x. ActsItem x s t) (sym is) (record e { found = f }, h ∙ sym (tried_found r p f f e s))

pub acts_plain : (w : Work) (i : Item) (s t : RecursorState) → w ≡ Plain i → ActsItem i s t → Acts w s t
acts_plain w i s t is (e, h) = subst (λ x. Acts x s t) (sym is) (e, h)

pub acts_probe : (w : Work) (p : Path) (owners : List Root) (f : Found) (s t : RecursorState) → w ≡ Probe p owners → t ≡ probed p owners f s → Acts w s t
acts_probe w p owners f s t is h = subst (λ x. Acts x s t) (sym is) (record no_evidence { found = f }, h)

-- the first of the queue, or the sweep

pub firsts_work : (q : List Work) (w : Work) (s u t : RecursorState) → s.queue ≡ w ∷ q → u ≡ record s { queue = q } → Acts w u t → Firsts s t
firsts_work q w s u t is e (ev, h) = (ev, h ∙ ap (acted w ev) e ∙ ap (λ x. stepped_at x ev s) (sym is))

pub firsts_sweep : (s t : RecursorState) → s.queue ≡ [] → t ≡ swept s → Firsts s t
firsts_sweep s t e h = (no_evidence, h ∙ ap (λ x. stepped_at x no_evidence s) (sym e))

pub drop_self : (q r : List Work) → q ≡ r → r ≡ drop 1 q → q ≡ []
drop_self [] r e f = refl
drop_self (x ∷ q) r e f = (let g : length (x ∷ q) ≡ length q = ap length (e ∙ f) in absurd (omega arith))

-- the step

pub steps_from : (s u t : RecursorState) → Firsts s u → Releases u t → Steps s t
steps_from s u t (e, h) (us, k) = (record e { releases = us }, k ∙ ap (released us) (h ∙ sym (first_released s.queue us e s)))

-- below which paths it asks

pub first_asks : (under : List Path) (q r : List Work) (w : Work) → q ≡ w ∷ r → FirstAsksBelow under q → WorkAsksBelow under w
first_asks under q r w e h = subst (FirstAsksBelow under) e h

pub item_asks : (under : List Path) (w : Work) (i : Item) → w ≡ Plain i → WorkAsksBelow under w → ItemAsksBelow under i
item_asks under w i e h = subst (WorkAsksBelow under) e h

pub candidate_asks : (under : List Path) (i : Item) (r : Root) (p : Path) → i ≡ Candidate r p → ItemAsksBelow under i → ItemAsksBelow under (Candidate r p)
candidate_asks under i r p e h = subst (ItemAsksBelow under) e h

-- what it hands out

pub hands_from : (s u t : RecursorState) (errors : List ShownError) (asks : Bool) → Steps s u → t ≡ told u → errors ≡ u.shown → asks ≡ u.asks_rebuild → Hands s t errors asks
hands_from s u t errors asks (e, h) f g k = record { evidence = e; state = f ∙ ap told h; shown = g ∙ ap (λ (x : RecursorState). x.shown) h; rebuild = k ∙ ap (λ (x : RecursorState). x.asks_rebuild) h }
