-- A run of the script of a flood ends with Ok, or for want of memory.
use Rattle.std.proofs.Common.{◌≡◌, ℕ, false, List, [], ◌∷◌, ◌++◌, refl}
use Rattle.std.specs.List.{list_any}
use Rattle.wx_journal.specs.declared.entry.Entry.{Entry}
use Rattle.wx_journal.specs.declared.entry.Turn.{Turn as Timed}
use Rattle.wx_journal.specs.Lines.{Answer}
use Rattle.wx_script.specs.declared.script.Script.{Script}
use Rattle.wx_script.specs.declared.script.ScriptTurn.{ScriptTurn}
use Rattle.wx_script.specs.declared.script.ScriptTurn.TheVariants.{Turn, Fault}
use Rattle.wx_engine.specs.Completes.{IsOkOrMemory}
use Rattle.wx_flood.specs.Floods.{flood_script}
use Rattle.wx_flood.proofs.FloodLaws.{holds_of}
use Rattle.wx_replay.specs.Runs.{IsRunOf, IsSmooth, fails_turn}
use Rattle.wx_replay.specs.RunLaws.{ends_well}

-- a turn more doesn't fail
more : (turns : List ScriptTurn) (t : Timed) → list_any fails_turn turns ≡ false → list_any fails_turn (turns ++ Turn t ∷ []) ≡ false
more [] t h = refl
more (Turn u ∷ turns) t h = more turns t h
more (Fault code ∷ turns) t h = absurd cc

-- nothing fails, and nothing is wished of an error
smooth : (steps seed : ℕ) → IsSmooth (flood_script steps seed)
smooth steps seed = holds_of IsSmooth
    (λ at s kind come is. record { turns = more s.turns (record { at = at; kind = kind }) is.turns; errors = is.errors; makes = is.makes })
    (λ s acts is. record { turns = is.turns; errors = is.errors; makes = is.makes })
    (λ n. record { turns = refl; errors = refl; makes = refl })
    steps seed

pub flood_ends : (steps seed : ℕ) (s : Script) (p : List Entry) (a : Answer) → s ≡ flood_script steps seed → IsRunOf s p a → IsOkOrMemory a
flood_ends steps seed s p a is run = ends_well s p a (rw is (smooth steps seed)) run
