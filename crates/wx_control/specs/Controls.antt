-- Controls as words.
use Rattle.std.proofs.Common.{refl}
use Rattle.std.specs.Prelude.{ℕ, List, [], ◌∷◌, codes}
use Rattle.wx_words.specs.Spellings.{Spelling}
use Rattle.wx_words.specs.Choices.{Row, row, Behind, fields}
use Rattle.wx_words.specs.ChoiceLaws.{MadeAgain, SpeltSo, choice}
use Rattle.wx_words.specs.Parts.{line, nothing, both, as_line, number, u32}
use Rattle.wx_events.specs.Ends.{signal}
use Rattle.wx_control.specs.declared.control.Control.{Control}
use Rattle.wx_control.specs.declared.control.Control.TheVariants.{Start, Stop, GracefulStop, TryRestart, TryGracefulRestart, ContinueTryGracefulRestart, Signal, Delete, NextEnding, SyncFunc, AsyncFunc, SetSyncSpawnHook, UnsetSpawnHook, SetSyncErrorHandler, UnsetErrorHandler, SetSpawnFn, SetSpawnChildFn, ClearSpawnFn}

-- each first word of a control, and what stands behind it
abbrev pub control_rows : List (Row line Control)
control_rows =
    row (codes "start") nothing (λ u. Start)
    ∷ row (codes "stop") nothing (λ u. Stop)
    ∷ row (codes "gracefulstop") (both signal (as_line number)) (λ p. GracefulStop p.0 p.1)
    ∷ row (codes "tryrestart") nothing (λ u. TryRestart)
    ∷ row (codes "trygracefulrestart") (both signal (as_line number)) (λ p. TryGracefulRestart p.0 p.1)
    ∷ row (codes "continue") nothing (λ u. ContinueTryGracefulRestart)
    ∷ row (codes "signal") signal Signal
    ∷ row (codes "delete") nothing (λ u. Delete)
    ∷ row (codes "nextending") nothing (λ u. NextEnding)
    ∷ row (codes "run") u32 SyncFunc
    ∷ row (codes "runasync") u32 AsyncFunc
    ∷ row (codes "sethook") u32 SetSyncSpawnHook
    ∷ row (codes "unsethook") nothing (λ u. UnsetSpawnHook)
    ∷ row (codes "seterror") u32 SetSyncErrorHandler
    ∷ row (codes "unseterror") nothing (λ u. UnsetErrorHandler)
    ∷ row (codes "setspawn") u32 SetSpawnFn
    ∷ row (codes "setchild") u32 SetSpawnChildFn
    ∷ row (codes "clearspawn") nothing (λ u. ClearSpawnFn)
    ∷ []

abbrev pub control_word : Control → List ℕ
control_word Start = codes "start"
control_word Stop = codes "stop"
control_word (GracefulStop _ _) = codes "gracefulstop"
control_word TryRestart = codes "tryrestart"
control_word (TryGracefulRestart _ _) = codes "trygracefulrestart"
control_word ContinueTryGracefulRestart = codes "continue"
control_word (Signal _) = codes "signal"
control_word Delete = codes "delete"
control_word NextEnding = codes "nextending"
control_word (SyncFunc _) = codes "run"
control_word (AsyncFunc _) = codes "runasync"
control_word (SetSyncSpawnHook _) = codes "sethook"
control_word UnsetSpawnHook = codes "unsethook"
control_word (SetSyncErrorHandler _) = codes "seterror"
control_word UnsetErrorHandler = codes "unseterror"
control_word (SetSpawnFn _) = codes "setspawn"
control_word (SetSpawnChildFn _) = codes "setchild"
control_word ClearSpawnFn = codes "clearspawn"

abbrev pub control_behind : Control → Behind line
control_behind (GracefulStop s grace) = fields (both signal (as_line number)) (s, grace)
control_behind (TryGracefulRestart s grace) = fields (both signal (as_line number)) (s, grace)
control_behind (Signal s) = fields signal s
control_behind (SyncFunc n) = fields u32 n
control_behind (AsyncFunc n) = fields u32 n
control_behind (SetSyncSpawnHook n) = fields u32 n
control_behind (SetSyncErrorHandler n) = fields u32 n
control_behind (SetSpawnFn n) = fields u32 n
control_behind (SetSpawnChildFn n) = fields u32 n
control_behind _ = fields nothing tt

pub control_again : MadeAgain control_rows control_word control_behind
control_again Start = (_, refl, refl)
control_again x = (_, refl, refl)

pub control_so : SpeltSo control_rows control_word control_behind
control_so = search

unfoldable pub control : Spelling line Control
control = choice control_rows control_word control_behind control_again control_so refl
