use Rattle.std.proofs.Common.{rules, refl, reverse}
use Rattle.wx_handles.specs.Turns.{turns_by}
use Rattle.wx_handles.proofs.Turned.{items_by_marks, own_by_marks}
use Rattle.wx_handles.proofs.world.ThreadWorld.into_parts.Goals as goal

pub returns : goal.returns
returns g c = record {
  shown = search rules;
  place = search rules;
  queue = search rules;
  made = search rules;
  told = (
    turns_by c.args.self.marks.past (reverse c.args.self.items.given),
    refl,
    record {
      draws = c.args.self.drew;
      items = items_by_marks c.args.self.marks.past c.args.self.items.given c.args.self.paired;
      rounds = c.args.self.rounds;
      counts = c.args.self.counted;
      last = c.args.self.last;
      own = own_by_marks c.args.self.marks.past (reverse c.args.self.items.given);
    },
  );
}
