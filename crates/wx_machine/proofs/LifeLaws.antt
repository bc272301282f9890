-- In the life of a job each child is reaped before the next spawn.
use Rattle.std.proofs.Common.{◌≡◌, ℕ, true, false, List, [], ◌∷◌, Option, Some, Ok, Err, refl, sym, ◌∙◌}
use Rattle.wx_command.specs.declared.command.Command.{Command}
use Rattle.wx_control.specs.declared.id.Id.{Id}
use Rattle.wx_control.specs.Asks.{sends_of}
use Rattle.wx_journal.specs.declared.entry.Entry.{Entry}
use Rattle.wx_journal.specs.declared.entry.Entry.TheVariants.{Made, Spawn, Wait, Dropped, Gone}
use Rattle.wx_machine.specs.History.{child, unless, owner}
use Rattle.wx_machine.specs.Table.{step_by, send_plan, end_plan}
use Rattle.wx_machine.specs.JobLaws.{unreaped, IsReaping, NamesChildren, is_owner, is_about, Lived, LifeBegins, LifeGoesOn, LifeAsks, LifeSteps, LifeGivesUp, LifeEnds}
use Rattle.wx_machine.proofs.Owners.{self, child_owner, unreaped_owner}
use Rattle.wx_machine.proofs.Frame.{not_child}
use Rattle.wx_machine.proofs.StepLaws.{StepLeft, step_of, send_of, end_of, left_done, left_gave}

-- a child of another is none of this job
not_owned : (id : Id) (o : Option Id) → is_owner id o ≡ false → o ≡ Some id → ⊥
not_owned id o other is = let mine : is_owner id o ≡ true = rw is (self id) in (let both : true ≡ false = sym mine ∙ other in cc)

same_unreaped : (id : Id) (c : ℕ) (p : List Entry) → NamesChildren p → is_owner id (owner c p) ≡ false → unless c (unreaped id p) ≡ unreaped id p
same_unreaped id c p own other = (not_child (unreaped id p) c (λ e. not_owned id (owner c p) other (unreaped_owner id c p own e))).1

same_child : (id : Id) (c : ℕ) (p : List Entry) → NamesChildren p → is_owner id (owner c p) ≡ false → unless c (child id p) ≡ child id p
same_child id c p own other = (not_child (child id p) c (λ e. not_owned id (owner c p) other (child_owner id c p own e))).1

other_reaping : (id : Id) (e : Entry) (p : List Entry) → NamesChildren (e ∷ p) → is_about id p e ≡ false → IsReaping id p → IsReaping id (e ∷ p)
other_reaping id (Made job) p own other r = record { each = λ e. r.each; last = λ alive. rw other (r.last (rw other at alive)); none = λ dead. rw other (r.none (rw other at dead)) }
other_reaping id (Spawn c job tag what (Ok done)) p own other r = record { each = (λ e. (let both : true ≡ false = sym e ∙ other in absurd cc), r.each); last = λ alive. rw other (r.last alive); none = λ dead. rw other (r.none dead) }
other_reaping id (Spawn c job tag what (Err fault)) p own other r = record { each = (λ e. (let both : true ≡ false = sym e ∙ other in absurd cc), r.each); last = r.last; none = r.none }
other_reaping id (Wait c (Ok status)) p own other r = record { each = r.each; last = λ alive. same_unreaped id c p own other ∙ r.last alive ∙ sym (same_child id c p own other); none = λ dead. same_child id c p own other ∙ r.none dead }
other_reaping id (Dropped c) p own other r = record { each = r.each; last = λ alive. r.last alive ∙ sym (same_child id c p own other); none = λ dead. same_child id c p own other ∙ r.none dead }
other_reaping id (Gone job) p own other r = record { each = r.each; last = λ alive. r.last (rw other at alive); none = λ dead. r.none (rw other at dead) }
other_reaping id (_) p own other r = record { each = r.each; last = r.last; none = r.none }

record IsGood (id : Id) (p : List Entry) : Type 0 where
  children : NamesChildren p
  reaping : IsReaping id p

-- what a call leaves of it
good_left : (id : Id) (p p' : List Entry) → StepLeft id p p' → IsGood id p → IsGood id p'
good_left id p p' left h = record { children = left.children h.children; reaping = left.leaves.reaped h.reaping }

life : (id : Id) (command : Command) (p : List Entry) → Lived id command p → IsGood id p
life id command p l = elim l as (λ p _. IsGood id p) [
  | LifeBegins p named ↦ record { children = named; reaping = record { each = λ e. (let both : true ≡ false = sym (self id) ∙ e in absurd cc); last = λ alive. rw (self id) refl; none = λ dead. rw (self id) refl } }
  | LifeGoesOn e p (l → h) named other ↦ record { children = named; reaping = other_reaping id e p named other h.reaping }
  | LifeAsks ask p p' host hooks host' hooks' n n' (l → h) way ↦ good_left id p p' (left_done id (send_plan id (sends_of ask) p) p host hooks n p' host' hooks' n' (send_of id ask p) way) h
  | LifeSteps closed p p' host hooks host' hooks' n n' (l → h) way ↦ good_left id p p' (left_done id (step_by closed id command p) p host hooks n p' host' hooks' n' (step_of closed id command p) way) h
  | LifeGivesUp closed rest p p' host hooks host' hooks' n n' (l → h) way cut ↦ good_left id p p' (left_gave id (step_by closed id command p) p host hooks n rest p' host' hooks' n' (step_of closed id command p) cut way) h
  | LifeEnds p p' host hooks host' hooks' n n' (l → h) way ↦ good_left id p p' (left_done id (end_plan id p) p host hooks n p' host' hooks' n' (end_of id p) way) h
]

pub children_are_reaped : (id : Id) (command : Command) (p : List Entry) → Lived id command p → IsReaping id p
children_are_reaped id command p l = (life id command p l).reaping

-- the life of a job alone, whose journal has no other entries: it begins there, and every whole step goes on with it
pub lived_alone : (id : Id) (command : Command) → Lived id command (Made id ∷ [])
lived_alone id command = LifeBegins [] tt
