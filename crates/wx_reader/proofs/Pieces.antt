-- One read behind the other.
use Rattle.std.proofs.Common.{◌≡◌, ℕ, ◌≤◌, Bool, true, false, ◌||◌, ◌==◌, ◌⊎◌, Option, Result, Ok, List, [], ◌∷◌, ◌++◌, length, refl, sym, ap, subst, ◌∙◌, append_assoc, append-nil, arith, inl, inr}
use Rattle.std.specs.Io.KnownBytes.{Consumes, IsAtEnd, Keeps}
use Rattle.std.proofs.lemmas.Bool.{eqb-true}
use Rattle.std.proofs.KnownBytes.{Consumes-kept, Consumes-nil, Consumes-trans}
use Rattle.wx_text.specs.declared.list.Memory.{Memory}
use Rattle.wx_journal.specs.Told.{Rose}
use Rattle.wx_queue.specs.Ends.{sent_item}
use Rattle.wx_queue.specs.declared.parcel.Sent.{Sent}
use Rattle.wx_pass.specs.Asked.{Handle}
use Rattle.wx_pass.specs.declared.item.Item.{Item}
use Rattle.wx_pass.specs.declared.item.Item.TheVariants.{Keys}
use Rattle.wx_reader.specs.Reads.{HasLateQ, HasRead, HasSent, IsOver, Sends, ends, has_q, is_stop}
use Rattle.wx_reader.specs.Reads.Sends.{Begun, Went, Dropped}

-- a read was sent
pub was_sent : (bytes : List ℕ) (x y : Handle) → y.pass.sent ≡ x.pass.sent ++ sent_item x.pass.number (length x.pass.sent) (Keys bytes) ∷ [] → y.pass.number ≡ x.pass.number → y.pass.queue ≡ x.pass.queue
    → (over : Bool) → over ≡ is_stop bytes → HasSent bytes x y (Ok over)
was_sent bytes x y is number queue over stop = record {
  sent = subst (λ (sent : List (Sent Item)). Sends x.pass.number x.pass.sent bytes sent) (sym is) (Went bytes Begun);
  number_kept = number;
  queue_kept = queue;
  cause = λ e. sym stop ∙ e;
}

-- or dropped
pub was_dropped : (bytes : List ℕ) (x y : Handle) (result : Result Bool Memory) → y.pass.sent ≡ x.pass.sent → y.pass.number ≡ x.pass.number → y.pass.queue ≡ x.pass.queue
    → (ends result ≡ true → is_stop bytes ≡ true) → HasSent bytes x y result
was_dropped bytes x y result is number queue stop = record {
  sent = subst (λ (sent : List (Sent Item)). Sends x.pass.number x.pass.sent bytes sent) (sym is) (Dropped bytes Begun);
  number_kept = number;
  queue_kept = queue;
  cause = stop;
}

-- an empty read is one behind which reading is over
pub empty_stops : (bytes : List ℕ) → (length bytes == 0) ≡ true → is_stop bytes ≡ true
empty_stops bytes is = ap (λ (b : Bool). b || has_q bytes) is

sends_on : (n : ℕ) (s t u : List (Sent Item)) (old more : List ℕ) → Sends n s old t → Sends n t more u → Sends n s (old ++ more) u
sends_on n s t _ old _ first Begun = subst (λ (r : List ℕ). Sends n s r t) (sym (append-nil old)) first
sends_on n s t _ old _ first (Went {read} {sent} bytes before) =
    subst (λ (r : List ℕ). Sends n s r (sent ++ sent_item n (length sent) (Keys bytes) ∷ [])) (append_assoc old read bytes) (Went bytes (sends_on n s t sent old read first before))
sends_on n s t _ old _ first (Dropped {read} {sent} bytes before) = subst (λ (r : List ℕ). Sends n s r sent) (append_assoc old read bytes) (Dropped bytes (sends_on n s t sent old read first before))

late_more : (read more : List ℕ) → HasLateQ more → HasLateQ (read ++ more)
late_more read more q = record {
  front = read ++ q.front;
  last = q.last;
  joined = ap (λ (r : List ℕ). read ++ r) q.joined ∙ sym (append_assoc read q.front q.last);
  few = q.few;
  key = q.key;
}

or_cases : (a b : Bool) → (a || b) ≡ true → (a ≡ true) ⊎ (b ≡ true)
or_cases true b x = inl refl
or_cases false b x = inr x

none_is : (bytes : List ℕ) → (length bytes == 0) ≡ true → length bytes ≡ 0
none_is bytes is = eqb-true (length bytes) 0 is

module _ {S : Type 0} (left : S → Option (List ℕ)) (faults : S → ℕ) where
  over_by : (a b : S) (bytes : List ℕ) → length bytes ≤ 10 → (length bytes ≡ 0 → IsAtEnd (left b)) → (length bytes == 0) ≡ true ⊎ (has_q bytes ≡ true) → IsOver left faults a b bytes
  over_by a b bytes few end (inl none) = inl (end (none_is bytes none))
  over_by a b bytes few end (inr key) = inr (inr (record { front = []; last = bytes; joined = refl; few = few; key = key }))

  -- a read that was given to be sent
  pub read_one : (a b : S) (x y : Handle) (bytes : List ℕ) (result : Result Bool Memory) → HasSent bytes x y result → Consumes (left a) (left b) bytes → length bytes ≤ 10 → (length bytes ≡ 0 → IsAtEnd (left b)) → faults a ≤ faults b
      → HasRead left faults a b x y (ends result)
  read_one a b x y bytes result was consumed few end later = record {
    read = bytes;
    consumed = consumed;
    sent = was.sent;
    number_kept = was.number_kept;
    queue_kept = was.queue_kept;
    later = later;
    cause = λ e. over_by a b bytes few end (or_cases (length bytes == 0) (has_q bytes) (was.cause e));
  }

  -- a read that failed
  pub read_none : (a b : S) (x : Handle) → Keeps (left a) (left b) → faults a ≤ faults b → Rose (faults a) (faults b) → HasRead left faults a b x x true
  read_none a b x kept later rose = record {
    read = [];
    consumed = Consumes-kept (left a) (left a) (left b) [] (Consumes-nil (left a)) kept;
    sent = Begun;
    number_kept = refl;
    queue_kept = refl;
    later = later;
    cause = λ e. inr (inl rose);
  }

  pub nothing_read : (a : S) (x : Handle) → HasRead left faults a a x x false
  nothing_read a x = record {
    read = [];
    consumed = Consumes-nil (left a);
    sent = Begun;
    number_kept = refl;
    queue_kept = refl;
    later = omega arith;
    cause = λ e. absurd cc;
  }

  over_more : (a b c : S) (read more : List ℕ) → faults a ≤ faults b → IsOver left faults b c more → IsOver left faults a c (read ++ more)
  over_more a b c read more later (inl end) = inl end
  over_more a b c read more later (inr (inl rose)) = inr (inl (omega (arith, later, rose)))
  over_more a b c read more later (inr (inr q)) = inr (inr (late_more read more q))

  pub read_more : (a b c : S) (x y z : Handle) (ended over : Bool) → HasRead left faults a b x y false → HasRead left faults b c y z ended → ended ≡ over → HasRead left faults a c x z over
  read_more a b c x y z ended over first more same = record {
    read = first.read ++ more.read;
    consumed = Consumes-trans (left a) (left b) (left c) first.read more.read first.consumed more.consumed;
    sent = sends_on x.pass.number x.pass.sent y.pass.sent z.pass.sent first.read more.read first.sent (subst (λ (n : ℕ). Sends n y.pass.sent more.read z.pass.sent) first.number_kept more.sent);
    number_kept = more.number_kept ∙ first.number_kept;
    queue_kept = more.queue_kept ∙ first.queue_kept;
    later = omega (arith, first.later, more.later);
    cause = λ e. over_more a b c first.read more.read first.later (more.cause (same ∙ e));
  }
