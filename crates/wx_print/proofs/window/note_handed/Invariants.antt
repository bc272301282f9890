use Rattle.std.proofs.Common.{◌≡◌, ℕ, take}
use Rattle.std.specs.Prelude.{if◌then◌else◌}
use Rattle.wx_machine.specs.Journal.{is_among}
use Rattle.wx_print.specs.Window.{handed_at}
use Rattle.wx_print.proofs.window.note_handed.Given as goal

abbrev pub invariant-loop-name : goal.invariant-loop-name
invariant-loop-name l = (name : ℕ) → handed_at l.handed name ≡ (if is_among name (take l.name-index l.batch) then l.passed else handed_at l.initial.handed name)
