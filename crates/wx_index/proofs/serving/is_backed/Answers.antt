use Rattle.std.proofs.Common.{sym, ◌∙◌}
use Rattle.wx_recursor.proofs.SoundLemmas.{has_left}
use Rattle.wx_index.proofs.KnownLemmas.{has_after}
use Rattle.wx_index.proofs.serving.is_backed.Goals as goal

pub returns-then-has_identity : goal.returns-then-has_identity
returns-then-has_identity c = sym (has_left c.args.identity.now c.args.registrations.now c.args.waiting.now (sym c.has_identity.ensures ∙ c.if-has_identity.true))

pub returns : goal.returns
returns c = c.has_identity-2.ensures ∙ sym (has_after c.args.identity.now c.args.registrations.now c.args.waiting.now (sym c.has_identity.ensures ∙ c.if-has_identity.false))
