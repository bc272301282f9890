use Rattle.std.proofs.Common.{◌≡◌, ◌∷◌, List, length, suc, arith, ap, subst}
use Rattle.std.specs.Prelude.{None}
use Rattle.std.specs.List.{AllByRecursion}
use Rattle.std.specs.Map.{values_of}
use Rattle.wx_machine.proofs.Sound.{leads_counted}
use Rattle.wx_machine.proofs.SteadyLemmas.{steady_none, steady_then}
use Rattle.wx_machine.proofs.FaultLaws.{counts_end}
use Rattle.wx_hooks.specs.declared.held.Held.{Held}
use Rattle.wx_hooks.specs.HeldJobs.{AreUnderIds}
use Rattle.wx_hooks.specs.JobsStand.{HeldStands}
use Rattle.wx_hooks.proofs.ByIdLemmas.{emptied}
use Rattle.wx_hooks.proofs.EndLemmas.{Ending, ending_starts, ending_goes, ending_ends}
use Rattle.wx_hooks.proofs.job_list.JobList.end_all.Goals as goal

pub loop-held-init : goal.loop-held-init
loop-held-init g c = record {
  ending = ending_starts c.args.journal.now.past (g.W.Outside.seen c.args.host.now).shown.told (values_of c.self.inside.items.entries) c.requires.1.1.0 (rw c.self.view_is c.requires.1.0);
  under = c.self.invariant;
  journal_room = let room = c.requires.1.1.1.0 in omega (arith, ap length c.self.view_is, room);
  host_room = let room = c.requires.1.1.1.1 in omega (arith, ap length c.self.view_is, room);
  faults = omega arith;
  kept = steady_none;
}

pub end-requires : goal.end-requires
end-requires g c =
    let i = c.loop-held.invariant in
    let is : values_of c.loop-held.self-inside.items.entries ≡ c.in-Some.held ∷ values_of c.pop_first.new.self.entries = ap values_of c.in-Some.ensures.removal in
    let many : length (values_of c.loop-held.self-inside.items.entries) ≡ suc (length (values_of c.pop_first.new.self.entries)) = ap length is in
    let stand = subst (λ (hs : List Held). AllByRecursion (HeldStands c.loop-held.journal.past) hs) is i.ending.tasks_stand in
    record { stands = stand.0.task_stands; room = record { in_journal = omega (arith, many, i.journal_room); in_host = omega (arith, many, i.host_room) } }

pub loop-held-preserved : goal.loop-held-preserved
loop-held-preserved g c =
    let i = c.loop-held.invariant in
    let h = c.in-Some.held in
    let rest = values_of c.pop_first.new.self.entries in
    let q = c.args.journal.now.past in
    let told = (g.W.Outside.seen c.args.host.now).shown.told in
    let p = c.loop-held.journal.past in
    let told' = (g.W.Outside.seen c.loop-held.host).shown.told in
    let is : values_of c.loop-held.self-inside.items.entries ≡ h ∷ rest = ap values_of c.in-Some.ensures.removal in
    let many : length (values_of c.loop-held.self-inside.items.entries) ≡ suc (length rest) = ap length is in
    record {
      ending = ending_goes g.start q told h rest p c.end.new.journal.past told' (g.W.Outside.seen c.end.new.host).shown.told _ _ (subst (λ (hs : List Held). Ending q told hs p told') is i.ending) (c.end.ensures.leaves.others i.ending.own) (λ hooks. (c.end.ensures.leads hooks).led);
      under = (subst AreUnderIds c.in-Some.ensures.removal i.under).1;
      journal_room = omega (arith, many, i.journal_room, c.end.ensures.spends.in_journal);
      host_room = omega (arith, many, i.host_room, c.end.ensures.spends.in_host);
      faults = omega (arith, i.faults, (leads_counted _ _ _ _ _ _ _ _ _ _ (c.end.ensures.leads None).led).later);
      kept = steady_then i.kept c.end.ensures.spends.steady;
    }

pub returns : goal.returns
returns g c =
    let i = c.loop-held.invariant in
    let none = emptied c.loop-held.self-inside.items.entries c.pop_first.new.self.entries c.in_default.ensures.unchanged c.in_default.ensures.variant.1 in
    record {
      ends = record {
        dying = i.ending.done.dying;
        none = ending_ends _ _ _ _ _ (ap values_of none.0) i.ending;
        told = i.ending.done.world_told;
        follows = λ due hooks. i.ending.done.follows g.start due hooks;
        kept = i.kept;
        faults = counts_end _ _ _ _ i.ending.done.dying i.faults;
      };
      left = ap values_of none.1;
    }
