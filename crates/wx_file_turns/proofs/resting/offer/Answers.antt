use Rattle.wx_file_turns.proofs.Rests.{item_is_named}
use Rattle.wx_file_turns.proofs.Steps.{rest_due}
use Rattle.wx_file_turns.proofs.resting.offer.Goals as goal

pub offer-requires : goal.offer-requires
offer-requires g c = (c.requires.0.stands, (rest_due g.start c.args.journal.now.past _ c.requires.0.due c.requires.1.0, item_is_named g.start c.args.journal.now.past c.args.item c.requires.0.stands.own c.requires.1.1))
