-- What a step or a replay hands out is what its parts made.
use Rattle.std.proofs.Common.{◌≡◌, Bool, List, [], ap, sym, ◌∙◌}
use Rattle.std.specs.Prelude.{map}
use Rattle.wx_error.specs.declared.runtime.RuntimeError.{RuntimeError}
use Rattle.wx_watch.specs.declared.watched.Watcher.{Watcher}
use Rattle.wx_recursor.specs.Calls.{has_work}
use Rattle.wx_recursor.specs.Rebuilds.{replayed}
use Rattle.wx_recursor.specs.States.{Evidence, RecursorState}
use Rattle.wx_recursor.specs.Steps.{stepped, told}
use Rattle.wx_recursor.specs.Written.{handed_error}
use Rattle.wx_recursor.specs.declared.answers.Watched.{Watched}
use Rattle.wx_recursor.specs.declared.errors.ShownError.{ShownError}
use Rattle.wx_recursor.proofs.SoundSteps.{sweep_rests}
use Rattle.wx_step.specs.Stepped.{Hands}
use Rattle.wx_step.proofs.Caused.{step_caused}
use Rattle.wx_rebuild.specs.Replays.{Replays}
use Rattle.wx_rebuild.proofs.AskedLemmas.{replay_asks}
use Rattle.wx_fs.specs.Told.{HandsOut, TellsReplay, TellsStep}

step_told : (kind : Watcher) (e : Evidence) (s t : RecursorState) (errors : List RuntimeError) (rebuild : Bool) → HandsOut kind (stepped e s) t errors rebuild → TellsStep kind s t errors rebuild
step_told kind e s t errors rebuild h = record {
  evidence = e;
  hands = h;
  causes = λ asks. step_caused e s (sym h.asked ∙ asks);
  swept = λ empty. ap (λ (x : RecursorState). has_work x.queue x.sweep_due) h.state ∙ sweep_rests e s empty;
}

pub tells_step : (kind : Watcher) (s t : RecursorState) (shown : List ShownError) (errors : List RuntimeError) (rebuild : Bool) → Hands s t shown rebuild → errors ≡ map (handed_error kind) shown → TellsStep kind s t errors rebuild
tells_step kind s t shown errors rebuild h e =
    step_told kind h.evidence s t errors rebuild (record { state = h.state; shown = e ∙ ap (map (handed_error kind)) h.shown; asked = h.rebuild })

-- where what is left of what was shown is nothing
replay_told : (kind : Watcher) (ws : List Watched) (s u : RecursorState) (left shown : List ShownError) (errors : List RuntimeError) → u ≡ replayed ws s → left ≡ [] → shown ≡ u.shown → errors ≡ map (handed_error kind) shown → HandsOut kind (replayed ws s) (record (told u) { shown = left }) errors u.asks_rebuild
replay_told kind ws s u left shown errors h none g e = record {
  state = ap (λ (x : List ShownError). record (told u) { shown = x }) none ∙ ap told h;
  shown = e ∙ ap (map (handed_error kind)) (g ∙ ap (λ (x : RecursorState). x.shown) h);
  asked = ap (λ (x : RecursorState). x.asks_rebuild) h;
}

pub tells_replay : (kind : Watcher) (s u : RecursorState) (left shown : List ShownError) (errors : List RuntimeError) → Replays s u → left ≡ [] → shown ≡ u.shown → errors ≡ map (handed_error kind) shown → TellsReplay kind s (record (told u) { shown = left }) errors u.asks_rebuild
tells_replay kind s u left shown errors (ws, each, h) none g e = record {
  answers = ws;
  each = each;
  hands = replay_told kind ws s u left shown errors h none g e;
  causes = λ asks. replay_asks ws s (sym (ap (λ (x : RecursorState). x.asks_rebuild) h) ∙ asks);
}
