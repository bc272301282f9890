use Rattle.std.proofs.Common.{rules, None, Some, refl}
use Rattle.wx_poller.specs.Polled.{backing_of}
use Rattle.wx_handles.proofs.Transfers.{exact_heard, heard_after}
use Rattle.wx_handles.proofs.backends.heard.Goals as goal

pub returns-in_default-clause-gives : goal.returns-in_default-clause-gives
returns-in_default-clause-gives g c =
    let h = heard_after _ (g.L.Outside.seen c.args.live.now) (g.L.Outside.seen c.next.new.scan) (g.L.Outside.seen c.note.new.self) (g.L.Looks.looked c.args.live.now) (g.L.Looks.looked c.next.new.scan) (g.met.L.Live.only_looks c.args.live.now c.args.live.now refl) (g.met.L.Live.only_looks c.args.live.now c.next.new.scan c.in_default.ensures.rest) c.in_default.ensures.looked c.note.ensures in
    record {
      next = None;
      answered = refl;
      brings = c.in_default.ensures.brings;
      told = h.told;
      host_faults = h.host_faults;
      progress_kept = h.progress_kept;
      room = h.room;
      plan_kept = h.plan_kept;
      place_kept = h.place_kept;
      looked = h.looked;
      fits_still = λ t x s k. c.in_default.ensures.fits t (exact_heard (backing_of c.args.back.now.poller) _ _ _ _ t h.before h.after x) s k;
    }

pub returns-clause-gives : goal.returns-clause-gives
returns-clause-gives g c =
    let h = heard_after _ (g.L.Outside.seen c.args.live.now) (g.L.Outside.seen c.next.new.scan) (g.L.Outside.seen c.note-2.new.self) (g.L.Looks.looked c.args.live.now) (g.L.Looks.looked c.next.new.scan) (g.met.L.Live.only_looks c.args.live.now c.args.live.now refl) (g.met.L.Live.only_looks c.args.live.now c.next.new.scan c.in-Some.ensures.rest) c.in-Some.ensures.looked c.note-2.ensures in
    record {
      next = Some c.in-Some.next;
      answered = search rules;
      brings = c.in-Some.ensures.brings;
      told = rw c.given_and_told-given.ensures.twice at h.told;
      host_faults = h.host_faults;
      progress_kept = h.progress_kept;
      room = h.room;
      plan_kept = h.plan_kept;
      place_kept = h.place_kept;
      looked = h.looked;
      fits_still = λ t x s k. c.in-Some.ensures.fits t (exact_heard (backing_of c.args.back.now.poller) _ _ _ _ t h.before h.after x) s k;
    }
