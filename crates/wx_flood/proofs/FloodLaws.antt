-- What holds of the script of a flood.
use Rattle.std.proofs.Common.{◌≡◌, ℕ, zero, suc, ◌+◌, ◌*◌, ◌<◌, ◌≤◌, true, false, List, [], ◌∷◌, ◌++◌, length, refl, arith, inl, inr, lit<, add-one, ap, ◌∙◌}
use Rattle.std.specs.Prelude.{◌==◌, ◌^◌, nat_le, nat_lt}
use Rattle.std.proofs.Math.Nat.{le-add_right}
use Rattle.std.proofs.lemmas.Bool.{cases_Bool}
use Rattle.std.proofs.lemmas.Bool.Decides.{nat_tests}
use Rattle.std.proofs.lemmas.Nat.{mod_below}
use Rattle.wx_events.specs.declared.priority.Priority.TheVariants.{Urgent}
use Rattle.wx_journal.specs.declared.entry.TurnKind.{TurnKind}
use Rattle.wx_journal.specs.declared.entry.TurnKind.TheVariants.{Arrive, Work, Job, Ended}
use Rattle.wx_machine.specs.Told.{is_last}
use Rattle.wx_script.specs.Follows.{IsScript}
use Rattle.wx_script.specs.Scripts.{start}
use Rattle.wx_script.specs.declared.lines.Line.TheVariants.{Size, Send, Turn as Turned, Acts}
use Rattle.wx_script.specs.declared.script.Script.{Script}
use Rattle.wx_script.specs.declared.script.ScriptAct.{ScriptAct}
use Rattle.wx_script.proofs.ScriptLaws.{start_lawful, accepts_lawful}
use Rattle.wx_flood.specs.Draws.{next, number}
use Rattle.wx_flood.specs.Floods.{priority_of, ask_of, event_of, creating, asking, given, works, begun, comes, stepped, flooded, flood_script}
use Rattle.wx_flood.specs.declared.script.Flood.{Flood}

-- ---- what a step makes of a script

abbrev pub with_acts : List ScriptAct → Script → Script
with_acts acts s = record s { actions = s.actions ++ acts ∷ [] }

-- what holds behind a turn at this moment, and of a script with a line of acts before it, holds of the script with what comes
module _ (P Q : Script → Type 0) (at : ℕ) (give : (s : Script) (kind : TurnKind) → is_last kind ≡ false → P s → Q (given at kind s)) (act : (s : Script) (acts : List ScriptAct) → P s → P (with_acts acts s)) where
  works_so : (f : Flood) → P f.script → Q (works at f).script
  works_so f is =
      let created = creating (length f.script.actions) in
      let asked = asking (number 4 (next f.state)) (ask_of (number 4 (next (next f.state)))) in
      elim (cases_Bool (nat_lt (length f.script.actions) 4)) [
        | inl a ↦ rw a (give (with_acts created f.script) Work refl (act f.script created is))
        | inr a ↦ rw a (give (with_acts asked f.script) Work refl (act f.script asked is))
      ]

  pub comes_so : (choice : ℕ) (f : Flood) → P f.script → Q (comes choice at f).script
  comes_so choice f is =
      let arrived = give f.script (Arrive (event_of (number 1000 (next (next f.state)))) (priority_of (number 4 (next f.state)))) refl is in
      let stepped_on = give f.script (Job (record { 0 = number 4 (next f.state) })) refl is in
      let ended = give f.script (Ended (number 64 (next f.state))) refl is in
      elim (cases_Bool (nat_lt choice 3)) [
        | inl a ↦ rw a arrived
        | inr a ↦ elim (cases_Bool (nat_lt choice 5)) [
          | inl b ↦ rw (a, b) (works_so f is)
          | inr b ↦ elim (cases_Bool (nat_lt choice 7)) [
            | inl c ↦ rw (a, b, c) stepped_on
            | inr c ↦ rw (a, b, c) ended
          ]
        ]
      ]

-- what holds of the script of no step, and stays so behind a turn and behind a line of acts, holds of each flood's script
module _ (P : Script → Type 0) (give : (at : ℕ) (s : Script) (kind : TurnKind) → is_last kind ≡ false → P s → P (given at kind s)) (act : (s : Script) (acts : List ScriptAct) → P s → P (with_acts acts s)) (begin : (steps : ℕ) → P (begun steps)) where
  stays : (n : ℕ) (f : Flood) → P f.script → P (flooded n f).script
  stays zero f is = is
  stays (suc n) f is =
      let g = flooded n f in
      let at = g.script.last + number 20000000 (next g.state) in
      comes_so P P at (give at) act (number 8 (next (next g.state))) (record g { state = next (next g.state) }) (stays n f is)

  pub holds_of : (steps seed : ℕ) → P (flood_script steps seed)
  holds_of steps seed = stays steps (record { state = seed; script = begun steps }) (begin steps)

-- ---- its moments

stepped_last : (f : Flood) → (stepped f).script.last ≡ f.script.last + number 20000000 (next f.state)
stepped_last f =
    let at = f.script.last + number 20000000 (next f.state) in
    comes_so (λ s. Unit {0}) (λ s. s.last ≡ at) at (λ s kind come is. refl) (λ s acts is. tt) (number 8 (next (next f.state))) (record f { state = next (next f.state) }) tt

little_more : (before after more n : ℕ) → before ≤ n * 20000000 → more < 20000000 → after ≡ before + more → after ≤ suc n * 20000000
little_more before after more n so_far few is = omega (arith, so_far, few, is)

-- each step is less than 20,000,000 later than the one before it
pub last_within : (n : ℕ) (f : Flood) → f.script.last ≡ 0 → (flooded n f).script.last ≤ n * 20000000
last_within zero f first = omega (arith, first)
last_within (suc n) f first =
    little_more (flooded n f).script.last (stepped (flooded n f)).script.last (number 20000000 (next (flooded n f).state)) n
    (last_within n f first) (mod_below _ 20000000 (lit< tt)) (stepped_last (flooded n f))

-- ---- it is a script

given_lawful : (s : Script) (at : ℕ) (kind : TurnKind) → is_last kind ≡ false → IsScript s → s.last ≤ at → IsScript (given at kind s)
given_lawful s at kind come is le =
    let later : nat_le s.last at ≡ true = grind (arith, nat_tests, le) in
    accepts_lawful s (given at kind s) (Turned (record { at = at; kind = kind })) is come (rw later refl)

stepped_lawful : (f : Flood) → IsScript f.script → IsScript (stepped f).script
stepped_lawful f is =
    let at = f.script.last + number 20000000 (next f.state) in
    comes_so (λ s. IsScript s × (s.last ≤ at)) IsScript at
    (λ s kind come both. given_lawful s at kind come both.0 both.1)
    (λ s acts both. (accepts_lawful s (with_acts acts s) (Acts acts) both.0 tt refl, both.1))
    (number 8 (next (next f.state))) (record f { state = next (next f.state) }) (is, le-add_right f.script.last (number 20000000 (next f.state)))

flooded_lawful : (n : ℕ) (f : Flood) → IsScript f.script → IsScript (flooded n f).script
flooded_lawful zero f is = is
flooded_lawful (suc n) f is = stepped_lawful (flooded n f) (flooded_lawful n f is)

begun_lawful : (steps : ℕ) → IsScript (begun steps)
begun_lawful steps =
    let sized = accepts_lawful start (record start { size = 64 }) (Size 64) start_lawful tt refl in
    let sent = accepts_lawful (record start { size = 64 }) (record start { size = 64; sends = (record { tags = [] }, Urgent) ∷ [] }) (Send (record { tags = [] }) Urgent) sized tt refl in
    elim (cases_Bool (steps == 0)) [ inl a ↦ rw a sized | inr a ↦ rw a sent ]

-- so many steps make one
pub lawful : (n steps seed : ℕ) (f : Flood) → f ≡ flooded n (record { state = seed; script = begun steps }) → IsScript f.script
lawful n steps seed f is = rw is (flooded_lawful n (record { state = seed; script = begun steps }) (begun_lawful steps))

-- ---- the steps one after another

pub one_more : (n : ℕ) (first f g : Flood) → f ≡ flooded n first → g ≡ stepped f → g ≡ flooded (n + 1) first
one_more n first f g so_far is = rw (add-one n) (is ∙ ap stepped so_far)

pub room_for_more : (n steps seed : ℕ) (f : Flood) → f ≡ flooded n (record { state = seed; script = begun steps }) → n < steps → steps ≤ 100000 → f.script.last + 20000000 < 2 ^ 64
room_for_more n steps seed f is more most =
    let within = last_within n (record { state = seed; script = begun steps }) refl in
    rw is (few (flooded n (record { state = seed; script = begun steps })).script.last within)
  where
    few : (last : ℕ) → last ≤ n * 20000000 → last + 20000000 < 2 ^ 64
    few last within = omega (arith, within, more, most)

pub script_is : (n steps seed : ℕ) (f : Flood) → f ≡ flooded n (record { state = seed; script = begun steps }) → n ≡ steps → f.script ≡ flood_script steps seed
script_is n steps seed f is all = ap (λ (g : Flood). g.script) is ∙ ap (λ (k : ℕ). (flooded k (record { state = seed; script = begun steps })).script) all
