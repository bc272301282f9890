-- The events that a handler shows are those of its names.
use Rattle.std.proofs.Common.{◌≡◌, ℕ, List, [], ◌∷◌, refl, ap}
use Rattle.wx_events.specs.declared.event.Event.{Event}
use Rattle.wx_journal.specs.declared.entry.Entry.{Entry}
use Rattle.wx_hooks.specs.Handled.{AreEvents, lookup}
use Rattle.wx_live_action.specs.LiveActs.{batch}

pub batch_is : (p : List Entry) (names : List ℕ) (events : List Event) → AreEvents (lookup p) names events → batch p names ≡ events
batch_is p [] [] are = refl
batch_is p [] (event ∷ events) are = absurd are
batch_is p (name ∷ names) [] are = absurd are
batch_is p (name ∷ names) (event ∷ events) are = rw are.0.1 (ap (λ (es : List Event). event ∷ es) (batch_is p names events are.1))
