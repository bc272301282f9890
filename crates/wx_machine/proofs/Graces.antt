-- A grace stands only while a child runs.
use Rattle.std.proofs.Common.{◌≡◌, ◌≢◌, ℕ, Bool, true, false, cond, List, [], ◌∷◌, Option, Some, None, Ok}
use Rattle.std.specs.Prelude.{◌==◌}
use Rattle.wx_words.specs.OptionLaws.{refused}
use Rattle.wx_journal.specs.declared.entry.Entry.{Entry}
use Rattle.wx_journal.specs.declared.entry.Entry.TheVariants.{Made, GraceOver, Spawn, Signal, Gone}
use Rattle.wx_journal.specs.Names.{moment}
use Rattle.wx_machine.specs.declared.grace.Grace.{Grace}
use Rattle.wx_machine.specs.History.{same, child, is_child, ended_child, still_running, is_ended, grace, picked_last, begins_by}
use Rattle.wx_machine.specs.TicketLaws.{GracesNeedChildren}

over_needs : (b : Bool) (o : Option Grace) (g : Grace) (c : Option ℕ) → ((o ≡ Some g) → c ≢ None) → cond b None o ≡ Some g → c ≢ None
over_needs b o g c needs e = needs (refused b o g e).1

-- where the child has ended no grace stands, and where another has, that of the job runs on
ended_needs : (over running : Option ℕ) (o : Option Grace) (g : Grace) → (o ≡ Some g → running ≢ None) → cond (is_ended over running) None o ≡ Some g → still_running over running ≢ None
ended_needs None running o g needs e = needs e
ended_needs (Some d) None o g needs e = needs e
ended_needs (Some d) (Some x) o g needs e = by_test (x == d) e
  where
    by_test : (b : Bool) → cond b None o ≡ Some g → cond b None (Some x) ≢ None
    by_test true h is = cc
    by_test false h is = cc

pub graces_need_children : (p : List Entry) → GracesNeedChildren p
graces_need_children [] id g e = cc
graces_need_children (Made job ∷ p) id g e = by_test (same job id) e (λ h. graces_need_children p id g h)
  where
    by_test : (b : Bool) → cond b None (grace id p) ≡ Some g → (grace id p ≡ Some g → child id p ≢ None) → cond b None (child id p) ≢ None
    by_test true h needs = cc
    by_test false h needs = needs h
graces_need_children (GraceOver job ∷ p) id g e = over_needs (same job id) (grace id p) g (child id p) (λ h. graces_need_children p id g h) e
graces_need_children (Gone job ∷ p) id g e = over_needs (same job id) (grace id p) g (child id p) (λ h. graces_need_children p id g h) e
graces_need_children (Spawn c job tag what (Ok done) ∷ p) id g e = by_test (same job id) (graces_need_children p id g e)
  where
    by_test : (b : Bool) → child id p ≢ None → cond b (Some c) (child id p) ≢ None
    by_test true runs is = cc
    by_test false runs is = runs is
graces_need_children (Signal c number (Ok done) ∷ p) id g e = by_child (child id p) (begins_by (picked_last id p) (moment p) (grace id p)) (λ h. graces_need_children p id g h) e
  where
    by_child : (o : Option ℕ) (begun : Option Grace) → (grace id p ≡ Some g → o ≢ None) → cond (is_child c o) begun (grace id p) ≡ Some g → o ≢ None
    by_child None begun needs h is = needs h is
    by_child (Some x) begun needs h is = cc
graces_need_children (e ∷ p) id g is = ended_needs (ended_child e) (child id p) (grace id p) g (λ h. graces_need_children p id g h) is
