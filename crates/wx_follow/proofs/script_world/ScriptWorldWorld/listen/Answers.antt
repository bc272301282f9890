use Rattle.std.proofs.Common.{rules, Some}
use Rattle.wx_follow.proofs.script_world.ScriptWorldWorld.listen.Goals as goal

pub returns : goal.returns
returns c = record {
  next = Some c.in-Some.next;
  answered = search rules;
  brings = search rules;
  told = search rules;
  host_faults = search rules;
  progress_kept = search rules;
  room = search rules;
  plan_kept = search rules;
  place_kept = search rules;
  looked = search rules;
  fits_still = λ t x s k. c.in-Some.ensures.fits t (record { exact = x.exact; told = x.told; no_fault = x.no_fault }) s k;
}
