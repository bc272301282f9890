-- What entries leave of the job that was created.
use Rattle.std.proofs.Common.{◌≡◌, Option, List, ◌∷◌, false}
use Rattle.wx_control.specs.declared.id.Id.{Id}
use Rattle.wx_journal.specs.declared.entry.Entry.{Entry}
use Rattle.wx_journal.specs.declared.entry.Entry.TheVariants.{Hand}
use Rattle.wx_journal.specs.Told.{is_hand}
use Rattle.wx_live_action.specs.LiveActs.{job_of}

-- what hands no batch creates none
pub job_over : (job : Option Id) (p : List Entry) (e : Entry) → is_hand e ≡ false → job ≡ job_of p → job ≡ job_of (e ∷ p)
job_over job p (Hand n names acts) other is = absurd cc
job_over job p (_) other is = is
