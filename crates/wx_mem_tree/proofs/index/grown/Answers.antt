use Rattle.std.proofs.Common.{◌++◌, ◌∷◌, [], subst}
use Rattle.std.proofs.lemmas.Option.{same_Some}
use Rattle.wx_mem_tree.specs.Indexed.{AreFound}
use Rattle.wx_mem_tree.proofs.index.grown.Goals as goal

pub returns-in-Ok : goal.returns-in-Ok
returns-in-Ok c = λ es e is same none len x some. subst (AreFound (es ++ e ∷ [])) (same_Some c.in-Ok.index x some) (c.in-Ok.ensures es e (is c.in-Some.index c.in-Some.is) same none len)
