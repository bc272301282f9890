use Rattle.std.proofs.Common.{◌*◌, ◌≤◌, length}
use Rattle.std.specs.Map.{values_of}
use Rattle.wx_machine.specs.Steady.{IsSteady}
use Rattle.wx_hooks.specs.HeldJobs.{AreUnderIds}
use Rattle.wx_hooks.proofs.EndLemmas.{Ending}
use Rattle.wx_hooks.proofs.job_list.JobList.end_all.Given as goal

abbrev pub invariant-loop-held : goal.invariant-loop-held
invariant-loop-held g l = record {
  ending : Ending l.initial.journal.past (g.W.Outside.seen l.initial.host).shown.told (values_of l.self-inside.items.entries) l.journal.past (g.W.Outside.seen l.host).shown.told;
  under : AreUnderIds l.self-inside.items.entries;
  journal_room : 2 * length (values_of l.self-inside.items.entries) ≤ l.journal.spare;
  host_room : 2 * length (values_of l.self-inside.items.entries) ≤ (g.W.Outside.seen l.host).spare;
  faults : (g.W.Outside.seen l.initial.host).shown.faults ≤ (g.W.Outside.seen l.host).shown.faults;
  kept : IsSteady (g.W.Outside.seen l.initial.host) (g.W.Outside.seen l.host);
}

abbrev pub decreases-loop-held : goal.decreases-loop-held
decreases-loop-held g l = length (values_of l.self-inside.items.entries)
