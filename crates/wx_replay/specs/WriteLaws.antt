-- What is written of one text that is due.
use Rattle.std.proofs.Common.{ℕ, Option, List}
use Rattle.wx_replay.specs.Writes.{IsJust, Writes}
use Rattle.wx_replay.specs.declared.status.Status.{Status}

-- where a text is due, it does no harm that just this text was to be written
pub writes_due : {K : Type 0} (due : List ℕ → Status → Type 0) (held : K → Option (List ℕ)) (faults : K → ℕ) (old new : K) (text : List ℕ) (status ended : Status) → due text status → Writes (IsJust text status) held faults old new ended → Writes due held faults old new ended
writes_due due held faults old new text status ended is written = record {
  whole = λ e. let w = written.whole e in (w.0, only w.0 ended w.1, w.2);
  part = λ e. let w = written.part e in (w.0, w.1, w.2, only w.0 w.1 w.3, w.4);
  fault = written.fault;
  nothing = written.nothing;
}
  where
    only : (other : List ℕ) (said : Status) → IsJust text status other said → due other said
    only other said same = rw (same.0, same.1) is
