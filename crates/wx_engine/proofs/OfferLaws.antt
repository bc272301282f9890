-- What the offers of a run say, proved.
use Rattle.std.proofs.Common.{inl, inr, List, [], ◌∷◌}
use Rattle.wx_journal.specs.declared.entry.Entry.{Entry}
use Rattle.wx_journal.specs.declared.entry.Entry.TheVariants.{Offer, Dropped, Gone}
use Rattle.wx_machine.specs.Start.{Start}
use Rattle.wx_machine.specs.Due.{agenda, IsRun}
use Rattle.wx_machine.specs.Answer.{Dying, Alive, Dies}
use Rattle.wx_machine.proofs.Lawful.{IsOfEnd}
use Rattle.wx_machine.proofs.PlanLaws.{of_end}
use Rattle.wx_machine.proofs.RunLaws.{admitted, orderly}
use Rattle.wx_engine.specs.Offers.{AreOffered}
use Rattle.wx_engine.specs.Run.{Ran}

run_offers : (s : Start) (p : List Entry) → IsRun s p → AreOffered s p
run_offers s [] r = tt
run_offers s (Offer name item result event priority ∷ p) r = ((admitted s p (agenda s p) (Offer name item result event priority) (λ i. i) (λ i. i) r.0 (orderly s p r.1).fit).2, run_offers s p r.1)
run_offers s (_ ∷ p) r = run_offers s p r.1

-- the end brings no offer
end_offers : (s : Start) (e : Entry) (p : List Entry) → IsOfEnd e → AreOffered s p → AreOffered s (e ∷ p)
end_offers s (Dropped c) p o offers = offers
end_offers s (Gone job) p o offers = offers
end_offers s (_) p o offers = absurd o

dying_offers : (s : Start) (q p : List Entry) → Dying q p → AreOffered s q → AreOffered s p
dying_offers s q p l offers = elim l as (λ p _. AreOffered s p) [
  | Alive ↦ offers
  | Dies e p (l → h) d ↦ end_offers s e p (of_end p e d) h
]

pub ran_offers : (s : Start) (p : List Entry) → Ran s p → AreOffered s p
ran_offers s p (inl complete) = run_offers s p complete.run
ran_offers s p (inr broken) = dying_offers s broken.before p broken.dying (run_offers s broken.before broken.run)
