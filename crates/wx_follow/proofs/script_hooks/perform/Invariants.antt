use Rattle.std.proofs.Common.{◌≡◌, drop, []}
use Rattle.wx_script.specs.Acted.{AreMade, performed}
use Rattle.wx_follow.proofs.script_hooks.perform.Given as goal

abbrev pub invariant-loop-act : goal.invariant-loop-act
invariant-loop-act l = record {
  same : l.handler ≡ record l.fn.handler { acts = l.handler.acts };
  made : AreMade l.fn.handler.past l.made.items l.handler.acts;
  left : performed l.fn.handler.past l.handler.acts (drop l.act-index l.acts) ≡ performed l.fn.handler.past [] l.acts;
}
