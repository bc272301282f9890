-- What is made of the state, part by part, before a replay.
use Rattle.std.proofs.Common.{◌≡◌, [], ap, ◌∙◌}
use Rattle.wx_recursor.specs.Rebuilds.{guards_to_replay, known_to_replay, prepared, replays, upheld}
use Rattle.wx_recursor.specs.States.{RecursorState}
use Rattle.wx_recursor.specs.declared.answers.BackendPlace.TheVariants.{Dropped}

-- where the first list doesn't have an identity, the second decides
pub prepared_from : (s a b d t : RecursorState) → a ≡ record s { known = known_to_replay s; guards = guards_to_replay s } → b ≡ record a { registrations = []; waiting = replays a a.known a.guards } → d ≡ record b { excluded = []; lost = []; backend = Dropped } → t ≡ upheld d → t ≡ prepared s
prepared_from s a b d t e f g h =
    h ∙ ap upheld (g ∙ ap {A = RecursorState} (λ x. record x { excluded = []; lost = []; backend = Dropped }) (f ∙ ap {A = RecursorState} (λ x. record x { registrations = []; waiting = replays x x.known x.guards }) e))
