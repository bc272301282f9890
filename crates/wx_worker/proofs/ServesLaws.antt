-- What leads on serves.
use Rattle.std.proofs.Common.{Option, None, List, arith}
use Rattle.wx_journal.specs.declared.entry.Entry.{Entry}
use Rattle.wx_machine.specs.Kept.{StaysQuiet}
use Rattle.wx_machine.specs.Start.{Start}
use Rattle.wx_machine.specs.Leads.{FollowsHooks, FollowsAlone}
use Rattle.wx_machine.specs.Turns.{StaysInTurn}
use Rattle.wx_machine.proofs.FaultLaws.{counts_hooks}
use Rattle.wx_worker.specs.Serves.{AddsAlone, AddsHand}

pub adds_none : (s : Start) (p : List Entry) → AddsAlone s p p
adds_none s p = record { follows = λ world hooks p₀ world₀ hooks₀ l. l; quiet = λ p₀ q. q; turns = λ p₀ t. t; counts = λ n p₀ n₀ c. c }

pub adds_then : (s : Start) (p q r : List Entry) → AddsAlone s p q → AddsAlone s q r → AddsAlone s p r
adds_then s p q r a b = record {
  follows = λ world hooks p₀ world₀ hooks₀ l. b.follows world hooks p₀ world₀ hooks₀ (a.follows world hooks p₀ world₀ hooks₀ l);
  quiet = λ p₀ h. b.quiet p₀ (a.quiet p₀ h);
  turns = λ p₀ t. b.turns p₀ (a.turns p₀ t);
  counts = λ n p₀ n₀ c. b.counts n p₀ n₀ (a.counts n p₀ n₀ c);
}

pub adds : (s : Start) (p p' : List Entry) → FollowsAlone s p p' → StaysQuiet p p' → StaysInTurn p p' → AddsAlone s p p'
adds s p p' follows quiet turns = record { follows = follows; quiet = quiet; turns = turns; counts = λ n. counts_hooks s p p' None None n n (λ world. follows world None) (omega arith) }

pub adds_hand : (s : Start) (p p' : List Entry) (hooks hooks' : Option (List Entry)) → FollowsHooks s p hooks p' hooks' → StaysInTurn p p' → AddsHand s p hooks p' hooks'
adds_hand s p p' hooks hooks' follows turns = record { follows = follows; turns = turns; counts = λ n. counts_hooks s p p' hooks hooks' n n follows (omega arith) }
