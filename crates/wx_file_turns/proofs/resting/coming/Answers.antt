use Rattle.std.proofs.Common.{◌≡◌, rules}
use Rattle.std.specs.Prelude.{Some, slice_get}
use Rattle.wx_file_turns.proofs.Nexts.{first_drafted}
use Rattle.wx_file_turns.proofs.resting.coming.Goals as goal

pub returns-in-Some-first : goal.returns-in-Some-first
returns-in-Some-first g c =
    let there : slice_get c.args.intake.now.lane.items 0 ≡ Some c.in-Some-first.item.now = search rules in
    first_drafted c.args.watching.now c.args.intake.now c.in-Some-first.item.now c.is_live-live.result c.next_item.result c.in_default.is there c.is_live-live.ensures c.next_item.ensures
