use Rattle.std.proofs.Common.{◌∷◌, subst, sym}
use Rattle.std.proofs.lemmas.Bool.{ltb-false}
use Rattle.wx_journal.specs.declared.entry.Entry.{Entry as AnEntry}
use Rattle.wx_journal.specs.Counted.{AreAllMade}
use Rattle.wx_journal.proofs.CountLaws.{gaps_made}
use Rattle.wx_journal.proofs.journal.has_gaps.Goals as goal

pub returns-else-before : goal.returns-else-before
returns-else-before c = λ p is all none. subst (λ (e : AnEntry). AreAllMade (e ∷ p)) (sym c.in-Made.is) (gaps_made p c.in-Made.id c.args.before c.args.next is all c.if-before.false (ltb-false c.args.next c.in-Made.id.0 none))
