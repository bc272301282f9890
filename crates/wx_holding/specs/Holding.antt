-- What is held, as the plain state of the definitions.
use Rattle.wx_holding.specs.declared.held.Held.{Held}
use Rattle.wx_recursor.specs.States.{RecursorState}

abbrev pub state_of : Held → RecursorState
state_of h = record {
  roots = h.roots.items;
  filter = h.filter;
  queue = h.queue.items;
  sweep_due = h.sweep_due;
  owners = h.owners;
  known = h.known;
  guards = h.guards.items;
  registrations = h.registrations;
  waiting = h.waiting;
  retries = h.retries.items;
  failed = h.failed.items;
  skipped = h.skipped.items;
  stopped = h.stopped;
  excluded = h.excluded.items;
  tombstones = h.tombstones.items;
  lost = h.lost.items;
  deferred = h.deferred;
  asks_rebuild = h.asks_rebuild;
  shown = h.shown.items;
  backend = h.backend;
}
