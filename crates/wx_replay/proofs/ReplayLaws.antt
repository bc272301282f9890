-- What is due for the bytes that were read.
use Rattle.std.proofs.Common.{ℕ, ◌≡◌, ◌<◌, ◌≤◌, Option, None, Some, Result, Ok, Err, IfOk, List, length, codes, refl, ap, sym, subst, arith}
use Rattle.wx_bytes.specs.Causes.{IsWhole, IsLonger}
use Rattle.wx_replay.specs.Replays.{Replays, ReplaysRead, ReplaysKnown}
use Rattle.wx_replay.specs.declared.status.Status.{Status}
use Rattle.wx_replay.specs.declared.status.Status.TheVariants.{NoScript}

-- too many bytes are due the text that says so
long_replays : (limit : ℕ) (bytes : List ℕ) → limit < length bytes → Replays limit bytes (codes "too long\n") NoScript
long_replays limit bytes longer = record { too_long = λ _. (refl, refl); script = λ few. absurd (omega arith) }

-- and so they are where it is known of a source that it has too many
pub long_due : (limit : ℕ) (known : Option (List ℕ)) → IsLonger known limit → ReplaysKnown limit known (codes "too long\n") NoScript
long_due limit None longer = tt
long_due limit (Some bytes) longer = long_replays limit bytes longer

-- what was read whole, and is within the limit, is due what is due for it
read_replays : (limit : ℕ) (bytes read text : List ℕ) (status : Status) → bytes ≡ read → length read ≤ limit → ReplaysRead read text status → Replays limit bytes text status
read_replays limit bytes read text status is within due = record {
  too_long = λ longer. absurd (omega (arith, longer, within, ap (λ (xs : List ℕ). length xs) is));
  script = λ few. subst (λ (xs : List ℕ). ReplaysRead xs text status) (sym is) due;
}

pub read_due : (limit : ℕ) (known : Option (List ℕ)) (read text : List ℕ) (status : Status) → IsWhole known read → length read ≤ limit → ReplaysRead read text status → ReplaysKnown limit known text status
read_due limit None read text status is within due = tt
read_due limit (Some bytes) read text status is within due = read_replays limit bytes read text status is within due

-- what holds where it went well may be said more weakly
pub ok_weaker : {T E : Type 0} (P Q : T → Type 0) → ((x : T) → P x → Q x) → (r : Result T E) → IfOk r P → IfOk r Q
ok_weaker P Q weaker (Ok x) p = weaker x p
ok_weaker P Q weaker (Err e) p = tt
