-- What the end of all jobs does to a journal, and what it tells.
use Rattle.std.specs.Prelude.{◌≡◌, Option, List, []}
use Rattle.wx_journal.specs.declared.entry.Entry.{Entry}
use Rattle.wx_journal.specs.Told.{is_world}
use Rattle.wx_machine.specs.Seen.{Seen}
use Rattle.wx_machine.specs.Faults.{CountsOn}
use Rattle.wx_machine.specs.Steady.{IsSteady}
use Rattle.wx_machine.specs.Start.{Start}
use Rattle.wx_machine.specs.Due.{agenda, Ends}
use Rattle.wx_machine.specs.Leads.{Follows}
use Rattle.wx_machine.specs.Answer.{Dying}
use Rattle.wx_machine.specs.Jobs.{jobs}
use Rattle.wx_machine.specs.Told.{TellsOn}

-- The end of all jobs: the entries on top are those of the end, each told by the world alone, and no job lives. Where the end was
-- due each was due. The world's plan, its place, where it is in its turns, and what is known of its files stay, and each fault raised
-- its count.
pub record EndsJobs {Plan : Type 0} (s : Start) (p : List Entry) (a : Seen Plan) (p' : List Entry) (b : Seen Plan) : Type 0 where
  pub dying : Dying p p'
  pub none : jobs p' ≡ []
  pub told : TellsOn is_world p a.shown.told p' b.shown.told
  pub follows : agenda s p ≡ Ends → (hooks : Option (List Entry)) → Follows s p a.shown.told hooks p' b.shown.told hooks
  pub kept : IsSteady a b
  pub faults : CountsOn p a.shown.faults p' b.shown.faults
