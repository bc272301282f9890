-- What is read of a source, and what a handle sends of it.
use Rattle.std.specs.Prelude.{ℕ, ◌≡◌, ◌≤◌, ◌⊎◌, ◌==◌, ◌||◌, Bool, true, false, Option, Result, Ok, Err, List, [], ◌∷◌, ◌++◌, length}
use Rattle.std.specs.List.{list_any}
use Rattle.std.specs.Io.KnownBytes.{Consumes, IsAtEnd}
use Rattle.wx_text.specs.declared.list.Memory.{Memory}
use Rattle.wx_journal.specs.Told.{Rose}
use Rattle.wx_queue.specs.Ends.{sent_item}
use Rattle.wx_queue.specs.declared.parcel.Sent.{Sent}
use Rattle.wx_pass.specs.Asked.{Handle}
use Rattle.wx_pass.specs.declared.item.Item.{Item}
use Rattle.wx_pass.specs.declared.item.Item.TheVariants.{Keys}

-- The bytes were read one read behind the other, and each read was sent by the handle of this number, or dropped. It had sent this before.
pub data Sends (number : ℕ) (before : List (Sent Item)) : List ℕ → List (Sent Item) → Type 0 where
  Begun : Sends number before [] before
  Went : {read : List ℕ} {sent : List (Sent Item)} (bytes : List ℕ) → Sends number before read sent → Sends number before (read ++ bytes) (sent ++ sent_item number (length sent) (Keys bytes) ∷ [])
  Dropped : {read : List ℕ} {sent : List (Sent Item)} (bytes : List ℕ) → Sends number before read sent → Sends number before (read ++ bytes) sent

-- a q, whose code is 113, is among these bytes
abbrev pub has_q : List ℕ → Bool
has_q bytes = list_any (λ b. b == 113) bytes

-- a q is among the last ten of these bytes
pub record HasLateQ (bytes : List ℕ) : Type 0 where
  pub front : List ℕ
  pub last : List ℕ
  pub joined : bytes ≡ front ++ last
  pub few : length last ≤ 10
  pub key : has_q last ≡ true

-- the source is at its end, where it tells its bytes, or a read failed, or a q was read late
abbrev pub IsOver : {S : Type 0} → (S → Option (List ℕ)) → (S → ℕ) → S → S → List ℕ → Type 0
IsOver left faults a b read = IsAtEnd (left b) ⊎ Rose (faults a) (faults b) ⊎ HasLateQ read

-- Bytes were read of the source, and of these the handle sent each read or dropped it. Where reading is over, there is a cause.
pub record HasRead {S : Type 0} (left : S → Option (List ℕ)) (faults : S → ℕ) (a b : S) (x y : Handle) (over : Bool) : Type 0 where
  pub read : List ℕ
  pub consumed : Consumes (left a) (left b) read
  pub sent : Sends x.pass.number x.pass.sent read y.pass.sent
  pub number_kept : y.pass.number ≡ x.pass.number
  pub queue_kept : y.pass.queue ≡ x.pass.queue
  pub later : faults a ≤ faults b
  pub cause : over ≡ true → IsOver left faults a b read

-- whether reading is over, by the answer about one read, and by that about all
abbrev pub ends : Result Bool Memory → Bool
ends (Ok over) = over
ends (Err want) = false

abbrev pub is_end : Result (Unit {0}) Memory → Bool
is_end (Ok u) = true
is_end (Err want) = false

-- an empty read, or one with a q
abbrev pub is_stop : List ℕ → Bool
is_stop bytes = length bytes == 0 || has_q bytes

-- One read was sent, or dropped. Where reading is over, it was such a read.
pub record HasSent (bytes : List ℕ) (x y : Handle) (result : Result Bool Memory) : Type 0 where
  pub sent : Sends x.pass.number x.pass.sent bytes y.pass.sent
  pub number_kept : y.pass.number ≡ x.pass.number
  pub queue_kept : y.pass.queue ≡ x.pass.queue
  pub cause : ends result ≡ true → is_stop bytes ≡ true
