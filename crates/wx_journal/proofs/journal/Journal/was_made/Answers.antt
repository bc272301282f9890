use Rattle.std.proofs.Common.{ap, sym, ◌∙◌, arith, List, reverse}
use Rattle.std.specs.List.{list_any}
use Rattle.wx_journal.specs.declared.entry.Entry.{Entry as AnEntry}
use Rattle.wx_journal.specs.Names.{makes}
use Rattle.wx_journal.proofs.CountLaws.{unmade, any_reverse}
use Rattle.wx_journal.proofs.journal.Journal.was_made.Goals as goal

pub returns-then-self-id : goal.returns-then-self-id
returns-then-self-id c = rw (← c.self.view_is) (sym (unmade c.args.id (reverse c.self.inside.entries.items) (omega (arith, c.self.invariant.0.job_kept, c.if-self-id.true))))

pub returns-else-not-self : goal.returns-else-not-self
returns-else-not-self c =
    rw (← c.self.view_is)
    (c.any_makes.ensures ∙ ap (λ (entries : List AnEntry). list_any (makes c.args.id) entries) c.as_slice.ensures.value ∙ sym (any_reverse (makes c.args.id) c.self.inside.entries.items))
