use Rattle.std.proofs.Common.{refl}
use Rattle.wx_follow.proofs.ActedLaws.{ok_then, made_quit, made_change}
use Rattle.wx_follow.proofs.script_hooks.perform_act.Goals as goal

pub returns-in-Quit-clause-made : goal.returns-in-Quit-clause-made
returns-in-Quit-clause-made c = rw c.quit.ensures (made_quit c.args.handler.now.past c.args.made.now.items _ c.args.handler.now.acts refl c.requires.made)

pub returns-in-QuitGracefully-clause-done : goal.returns-in-QuitGracefully-clause-done
returns-in-QuitGracefully-clause-done c = rw c.in-QuitGracefully.is c.quit_gracefully.ensures

pub returns-in-QuitGracefully-clause-made : goal.returns-in-QuitGracefully-clause-made
returns-in-QuitGracefully-clause-made c = rw c.quit_gracefully.ensures (made_quit c.args.handler.now.past c.args.made.now.items _ c.args.handler.now.acts refl c.requires.made)

pub returns-in-Ask-clause-done : goal.returns-in-Ask-clause-done
returns-in-Ask-clause-done c = rw c.in-Ask.is c.ask_or_not.ensures.done

pub returns-in-Change-clause-done : goal.returns-in-Change-clause-done
returns-in-Change-clause-done c = rw c.in-Change.is c.change.ensures.done

pub returns-in-Change-clause-made : goal.returns-in-Change-clause-made
returns-in-Change-clause-made c = ok_then c.change.result c.change.ensures.done (λ e. rw e (made_change c.args.handler.now.past c.args.made.now.items c.args.handler.now.acts _ c.requires.made))
