use Rattle.std.proofs.Common.{◌≡◌, ◌≤◌, ◌+◌, None}
use Rattle.std.specs.Prelude.{codes}
use Rattle.wx_journal.specs.Names.{moment}
use Rattle.wx_machine.specs.Journal.{turn_count, early_count, turn_fault}
use Rattle.wx_machine.specs.Due.{agenda, Open}
use Rattle.wx_machine.specs.Faults.{CountsOn}
use Rattle.wx_machine.specs.RunLaws.{MomentsRise}
use Rattle.wx_machine.specs.Kept.{KeepsOn}
use Rattle.wx_machine.specs.Leads.{Follows}
use Rattle.wx_worker.specs.Stands.{Stands, HasEndRoom}
use Rattle.wx_file_turns.specs.Serves.{PaysOn}
use Rattle.wx_file_turns.specs.Standing.{FilesStand, owing}
use Rattle.wx_engine.specs.Run.{TellsTurns}
use Rattle.wx_engine.proofs.SettleLemmas.{SettlesSince}
use Rattle.wx_engine.proofs.running.serve_turns.Given as goal

abbrev pub ghost-serve : goal.ghost-serve
ghost-serve g a = g.start

abbrev pub invariant-turns : goal.invariant-turns
invariant-turns g l = record {
  about : l.about ≡ codes "turn";
  stands : Stands g.start l.state l.journal.past;
  room : HasEndRoom l.state l.journal.spare (g.W.Outside.seen l.world).spare;
  open_is : agenda g.start l.journal.past ≡ Open;
  fault : turn_fault l.journal.past ≡ None;
  now : moment l.journal.past ≤ (g.W.Outside.seen l.world).progress.moment;
  rise : MomentsRise l.journal.past;
  follows : Follows g.start l.fn.journal.past (g.W.Outside.seen l.fn.world).shown.told (g.H.JobHooks.seen l.fn.hooks).told l.journal.past (g.W.Outside.seen l.world).shown.told (g.H.JobHooks.seen l.hooks).told;
  turns : TellsTurns l.fn.journal.past (g.W.Outside.seen l.fn.world).progress.turns l.journal.past (g.W.Outside.seen l.world).progress.turns;
  count : turn_count l.journal.past + (g.W.Outside.seen l.world).progress.left ≤ turn_count l.fn.journal.past + (g.W.Outside.seen l.fn.world).progress.left;
  early : early_count l.journal.past + (g.W.Outside.seen l.world).progress.left ≤ early_count l.fn.journal.past + (g.W.Outside.seen l.fn.world).progress.left;
  faults : (g.W.Outside.seen l.fn.world).progress.turn_faults ≤ (g.W.Outside.seen l.world).progress.turn_faults;
  makers : (g.W.Outside.seen l.fn.world).progress.maker_faults ≤ (g.W.Outside.seen l.world).progress.maker_faults;
  files : FilesStand g.start l.files l.journal.past;
  scan_faults : (g.W.Outside.seen l.fn.world).looked.faults ≤ (g.W.Outside.seen l.world).looked.faults;
  settles : SettlesSince (λ b. g.W.Back.Backend.backing b) (λ b. g.W.Back.Backend.fits b) g.start l.fn.journal.past l.fn.files (g.W.Outside.seen l.fn.world).looked l.journal.past l.files (g.W.Outside.seen l.world).looked;
  paid : PaysOn l.fn.journal.past (g.W.Outside.seen l.fn.world) (owing l.fn.files) l.journal.past (g.W.Outside.seen l.world) (owing l.files);
  host_faults : CountsOn l.fn.journal.past (g.W.Outside.seen l.fn.world).shown.faults l.journal.past (g.W.Outside.seen l.world).shown.faults;
  keeps : KeepsOn (λ h. g.H.JobHooks.seen h) (λ plan. g.H.JobHooks.rule plan) (λ h. g.H.JobHooks.stands h) l.fn.hooks l.fn.journal.past l.hooks l.journal.past;
  world_plan : (g.W.Outside.seen l.world).plan ≡ (g.W.Outside.seen l.fn.world).plan;
  world_place : (g.W.Outside.seen l.world).place ≡ (g.W.Outside.seen l.fn.world).place;
}

abbrev pub decreases-turns : goal.decreases-turns
decreases-turns g l = (g.W.Outside.seen l.world).progress.left
