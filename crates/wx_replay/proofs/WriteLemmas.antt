-- What writing one text comes to.
use Rattle.std.proofs.Common.{ℕ, Option, List, refl, subst}
use Rattle.std.specs.Io.KnownBytes.{Appends}
use Rattle.wx_journal.specs.Told.{Rose}
use Rattle.wx_bytes.specs.Causes.{AddsFront}
use Rattle.wx_replay.specs.Writes.{IsWritten, IsUnwritten, IsJust, Writes}
use Rattle.wx_replay.specs.declared.status.Status.{Status}
use Rattle.wx_replay.specs.declared.status.Status.TheVariants.{Done, Critical, NoScript, WriteFault}

-- where a text was written, it isn't so that nothing was
never_both : (status : Status) → IsWritten status → IsUnwritten status → ⊥
never_both Done written none = none
never_both Critical written none = none
never_both NoScript written none = none
never_both (_) written none = absurd written

module _ {K : Type 0} (held : K → Option (List ℕ)) (faults : K → ℕ) (old new : K) (text : List ℕ) (status : Status) (written : IsWritten status) where
  pub wrote_all : Appends (held old) (held new) text → Writes (IsJust text status) held faults old new status
  wrote_all adds = record {
    whole = λ w. (text, (refl, refl), adds);
    part = λ e. absurd (subst IsWritten e written);
    fault = λ e. absurd (subst IsWritten e written);
    nothing = λ none. absurd (never_both status written none);
  }

  pub wrote_part : AddsFront (held old) (held new) text → Rose (faults old) (faults new) → Writes (IsJust text status) held faults old new WriteFault
  wrote_part adds rose = record {
    whole = λ w. absurd w;
    part = λ e. (text, status, written, (refl, refl), adds);
    fault = λ e. rose;
    nothing = λ none. absurd none;
  }
