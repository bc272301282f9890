-- Under which ids the jobs of a run were made.
use Rattle.std.proofs.Common.{List, [], ◌∷◌, inl, inr, arith}
use Rattle.std.specs.Prelude.{◌⊎◌}
use Rattle.wx_control.specs.declared.id.Id.{Id}
use Rattle.wx_journal.specs.declared.entry.Entry.{Entry}
use Rattle.wx_journal.specs.declared.entry.Entry.TheVariants.{Made}
use Rattle.wx_journal.specs.Names.{next_job}
use Rattle.wx_machine.specs.Start.{Start}
use Rattle.wx_machine.specs.Jobs.{is_free, MayCreate}
use Rattle.wx_machine.specs.Due.{IsRun}
use Rattle.wx_machine.specs.RunLaws.{IsNewId, IsMadeAgain, AreMadeByRule}
use Rattle.wx_journal.proofs.CountLaws.{unmade}
use Rattle.wx_machine.proofs.JobSets.{all_made, free_unseen, free_made, unseen_dead}
use Rattle.wx_machine.proofs.Lawful.{InOrder}
use Rattle.wx_machine.proofs.Orderly.{IsOrderly}
use Rattle.wx_machine.proofs.RunLaws.{orderly}

made_so : (s : Start) (p : List Entry) (id : Id) → IsOrderly s p → MayCreate (is_free p) (next_job p) id → IsNewId p id ⊎ IsMadeAgain p id
made_so s p id o (inl is) = inl (record { new = unmade id p (omega (arith, is)); least = λ other lt. all_made p o.in_order other (omega (arith, lt, is)) })
made_so s p id o (inr free) =
    let unseen = free_unseen p id free in
    let gone = unseen_dead p id unseen in
    inr (record { before = free_made p id free; unseen = unseen; gone = gone; idle = o.idle id gone })

made_on : (s : Start) (p : List Entry) (e : Entry) → IsOrderly s p → InOrder p e → AreMadeByRule p → AreMadeByRule (e ∷ p)
made_on s p (Made id) o may h = (made_so s p id o may, h)
made_on s p (_) o may h = h

-- each job is made under the next id, or again
pub run_makes_by_rule : (s : Start) (p : List Entry) → IsRun s p → AreMadeByRule p
run_makes_by_rule s [] r = tt
run_makes_by_rule s (e ∷ p) r = made_on s p e (orderly s p r.1) (orderly s (e ∷ p) r).in_order.0 (run_makes_by_rule s p r.1)
