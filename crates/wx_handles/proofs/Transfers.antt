-- What calls on an outside leave of the world that stands on it.
use Rattle.std.proofs.Common.{◌≡◌, ℕ, Bool, false, not, ◌+◌, ◌≤◌, min, Option, Some, Result, refl, sym, ap, subst, ◌∙◌, arith}
use Rattle.wx_notify.specs.declared.notify.Notify.{Notify}
use Rattle.wx_watch.specs.declared.notify_fault.NotifyFault.{NotifyFault}
use Rattle.wx_watch.specs.declared.watched.Watcher.{Watcher}
use Rattle.wx_tree.specs.Trees.{Tree}
use Rattle.wx_scan.specs.Backings.{AllSpellPaths, Backing, Brings, BringsNoChange, IsExact, failed_by, is_memory}
use Rattle.wx_scan.specs.Looked.{Looked, OnlyLooks}
use Rattle.wx_poller.specs.Polled.{Fits, backing_of}
use Rattle.wx_poller.specs.declared.poller.Poller.{Poller}
use Rattle.wx_paced.specs.declared.paced.PacedPoller.{PacedPoller}
use Rattle.wx_journal.specs.declared.entry.Entry.{Entry}
use Rattle.wx_journal.specs.Told.{tell}
use Rattle.wx_machine.specs.Progress.{Progress}
use Rattle.wx_machine.specs.Seen.{Seen}
use Rattle.wx_machine.specs.Steady.{StaysLooked}
use Rattle.wx_hooks.specs.Given.{GivesBackend, GivesNext}
use Rattle.wx_live.specs.Lives.{Notes}
use Rattle.wx_handles.specs.Threaded.{Own, threaded, unsettled}

-- where it is in its turns, by the moment of its outside
abbrev at_moment : Own → ℕ → Progress
at_moment o m = record { turns = Some o.turns; left = o.left; moment = m; turn_faults = 0; maker_faults = 0 }

looked_stays : (a b : Looked) → StaysLooked a b → StaysLooked (unsettled a) (unsettled b)
looked_stays a b s = record {
  looks_kept = s.looks_kept;
  faults_kept = s.faults_kept;
  exact_kept = λ x. x;
  shape_kept = λ t x. x;
  tree_kept = λ t x. cc;
}

room_stays : (r a b : ℕ) → a ≤ b + 1 → min r a ≤ min r b + 1
room_stays r a b h = omega arith

pub backend_threaded : {Fixed B : Type 0} (o : Own) (backing : B → Backing) (fits : B → Tree → Type 0) (back : ℕ) (kind : Watcher) (follow : Bool) (result : Result B NotifyFault) (a b : Seen Fixed) → failed_by (λ k. not (is_memory k)) result ≡ false → GivesBackend backing fits back kind follow result a b → GivesBackend backing fits back kind follow result (threaded o a) (threaded o b)
backend_threaded {Fixed} {B} o backing fits back kind follow result a b h g = record {
  told = g.told;
  maker_faults = record { later = omega arith; rose = λ x. cc };
  progress_kept = ap (at_moment o) (ap (λ (p : Progress). p.moment) g.progress_kept);
  host_faults = g.host_faults;
  room = room_stays o.room a.spare b.spare g.room;
  plan_kept = refl;
  place_kept = g.place_kept;
  looked = looked_stays a.looked b.looked g.looked;
  empty = g.empty;
  exact = λ x. cc;
}

pub next_threaded : {Fixed B : Type 0} (o : Own) (backing : B → Backing) (fits : B → Tree → Type 0) (item back : ℕ) (result : Option (Result Notify NotifyFault)) (old new : B) (a b : Seen Fixed) → GivesNext backing fits item back result old new a b → GivesNext backing fits item back result old new (threaded o a) (threaded o b)
next_threaded {Fixed} {B} o backing fits item back result old new a b g = record {
  next = g.next;
  answered = g.answered;
  brings = g.brings;
  told = g.told;
  host_faults = g.host_faults;
  progress_kept = ap (λ (p : Progress). at_moment o p.moment) g.progress_kept;
  room = room_stays o.room a.spare b.spare g.room;
  plan_kept = refl;
  place_kept = g.place_kept;
  looked = record {
    same = record { tree = g.looked.same.tree; stamps = g.looked.same.stamps; shape = refl; exact = refl };
    looks = g.looked.looks;
    faults = g.looked.faults;
  };
  fits_still = λ t x s k. g.fits_still t (record { exact = x.exact; told = x.told; no_fault = x.no_fault }) s k;
}

-- what a backend brings goes by its poller
pub next_by_poller : {Plan : Type 0} (item back : ℕ) (result : Option (Result Notify NotifyFault)) (old asked new : PacedPoller) (a b : Seen Plan) → asked.poller ≡ old.poller → GivesNext (λ (x : PacedPoller). backing_of x.poller) (λ (x : PacedPoller). Fits x.poller) item back result asked new a b → GivesNext (λ (x : PacedPoller). backing_of x.poller) (λ (x : PacedPoller). Fits x.poller) item back result old new a b
next_by_poller {Plan} item back result old asked new a b e g = record {
  next = g.next;
  answered = g.answered;
  brings = subst (λ (p : Poller). Brings g.next (backing_of p) (backing_of new.poller)) e g.brings;
  told = g.told;
  host_faults = g.host_faults;
  progress_kept = g.progress_kept;
  room = g.room;
  plan_kept = g.plan_kept;
  place_kept = g.place_kept;
  looked = g.looked;
  fits_still = subst (λ (p : Poller). (t : Tree) → IsExact (backing_of p) a.looked b.looked t → AllSpellPaths t (backing_of p).registrations → Fits p t → Fits new.poller t × BringsNoChange g.next) e g.fits_still;
}

-- ---- what was heard

-- An outside was looked at, and then told this: it is known by both of its meanings what was looked at.
pub record Heard {Fixed : Type 0} (e : Entry) (a c : Seen Fixed) (l m : Looked) : Type 0 where
  pub told : c.shown.told ≡ tell e a.shown.told
  pub host_faults : c.shown.faults ≡ a.shown.faults
  pub progress_kept : c.progress ≡ a.progress
  pub room : a.spare ≤ c.spare + 1
  pub plan_kept : c.plan ≡ a.plan
  pub place_kept : c.place ≡ a.place
  pub looked : OnlyLooks a.looked c.looked
  pub before : a.looked ≡ l
  pub after : c.looked ≡ m

pub heard_after : {Fixed : Type 0} (e : Entry) (a b c : Seen Fixed) (l m : Looked) → a ≡ record a { looked = l } → b ≡ record a { looked = m } → OnlyLooks l m → Notes e b c → Heard e a c l m
heard_after {Fixed} e a b c l m p q o n =
    let before : a.looked ≡ l = ap (λ (x : Seen Fixed). x.looked) p in
    let after : c.looked ≡ m = n.looked_kept ∙ ap (λ (x : Seen Fixed). x.looked) q in
    record {
      told = n.told ∙ ap (λ (x : Seen Fixed). tell e x.shown.told) q;
      host_faults = n.faults_kept ∙ ap (λ (x : Seen Fixed). x.shown.faults) q;
      progress_kept = n.progress_kept ∙ ap (λ (x : Seen Fixed). x.progress) q;
      room = let k : b.spare ≡ a.spare = ap (λ (x : Seen Fixed). x.spare) q in let r = n.room in omega arith;
      plan_kept = n.plan_kept ∙ ap (λ (x : Seen Fixed). x.plan) q;
      place_kept = n.place_kept ∙ ap (λ (x : Seen Fixed). x.place) q;
      looked = subst (λ (x : Looked). OnlyLooks x c.looked) (sym before) (subst (λ (x : Looked). OnlyLooks l x) (sym after) o);
      before = before;
      after = after;
    }

pub exact_heard : (b : Backing) (la lc l m : Looked) (t : Tree) → la ≡ l → lc ≡ m → IsExact b la lc t → IsExact b l m t
exact_heard b la lc l m t p q x = subst (λ (z : Looked). IsExact b l z t) q (subst (λ (z : Looked). IsExact b z lc t) p x)
