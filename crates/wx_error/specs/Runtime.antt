-- The errors that a run may go on after, as words.
use Rattle.std.proofs.Common.{refl}
use Rattle.std.specs.Prelude.{ℕ, List, [], ◌∷◌, codes}
use Rattle.wx_words.specs.Spellings.{Spelling}
use Rattle.wx_words.specs.Choices.{Row, row, Behind, fields}
use Rattle.wx_words.specs.ChoiceLaws.{MadeAgain, SpeltSo, choice}
use Rattle.wx_words.specs.Parts.{line, nothing, both, text, u32, HasWords, keyword}
use Rattle.wx_events.specs.Ends.{signal}
use Rattle.wx_events.specs.Events.{ranked}
use Rattle.wx_watch.specs.SourceErrors.{fs_error, keyboard_error}
use Rattle.wx_watch.specs.Watched.{watcher}
use Rattle.wx_watch.specs.declared.source_errors.FsWatcherError.{FsWatcherError}
use Rattle.wx_watch.specs.declared.watched.Watcher.{Watcher}
use Rattle.wx_error.specs.declared.runtime.TrySendFault.{TrySendFault}
use Rattle.wx_error.specs.declared.runtime.TrySendFault.TheVariants.{Full, Closed}
use Rattle.wx_error.specs.declared.runtime.RuntimeError.{RuntimeError}
use Rattle.wx_error.specs.declared.runtime.RuntimeError.TheVariants.{Exit, External, IoError, FsWatcher, KeyboardWatcher, InternalSupervisor, EventChannelSend, EventChannelTrySend, Handler, HandlerLockHeld, Process, ProcessDeadOnArrival, UnsupportedSignal, NoCommands, CommandShellEmptyCommand, CommandShellEmptyShell, Filterer, Memory}

-- why an event wasn't sent at once
abbrev pub try_send_fault_word : TrySendFault → List ℕ
try_send_fault_word Full = codes "full"
try_send_fault_word Closed = codes "closed"

abbrev pub try_send_faults : List TrySendFault
try_send_faults = Full ∷ Closed ∷ []

pub try_send_fault_found : HasWords try_send_fault_word try_send_faults
try_send_fault_found Full = refl
try_send_fault_found x = refl

unfoldable pub try_send_fault : Spelling line TrySendFault
try_send_fault = keyword try_send_fault_word try_send_faults try_send_fault_found refl

abbrev pub make_fs_watcher : Watcher × FsWatcherError → RuntimeError
make_fs_watcher p = FsWatcher p.0 p.1

-- each first word of an error, and what stands behind it
abbrev pub runtime_rows : List (Row line RuntimeError)
runtime_rows =
    row (codes "exit") nothing (λ u. Exit)
    ∷ row (codes "external") text External
    ∷ row (codes "io") (both text u32) (λ p. IoError p.0 p.1)
    ∷ row (codes "fswatcher") (both watcher fs_error) make_fs_watcher
    ∷ row (codes "keyboard") keyboard_error KeyboardWatcher
    ∷ row (codes "internal") text InternalSupervisor
    ∷ row (codes "send") (both text ranked) (λ p. EventChannelSend p.0 p.1.1 p.1.0)
    ∷ row (codes "trysend") (both text (both try_send_fault ranked)) (λ p. EventChannelTrySend p.0 p.1.0 p.1.1.1 p.1.1.0)
    ∷ row (codes "handler") (both text text) (λ p. Handler p.0 p.1)
    ∷ row (codes "lockheld") text HandlerLockHeld
    ∷ row (codes "process") u32 Process
    ∷ row (codes "deadonarrival") nothing (λ u. ProcessDeadOnArrival)
    ∷ row (codes "unsupported") signal UnsupportedSignal
    ∷ row (codes "nocommands") nothing (λ u. NoCommands)
    ∷ row (codes "emptycommand") nothing (λ u. CommandShellEmptyCommand)
    ∷ row (codes "emptyshell") nothing (λ u. CommandShellEmptyShell)
    ∷ row (codes "filterer") (both text text) (λ p. Filterer p.0 p.1)
    ∷ row (codes "memory") nothing (λ u. Memory)
    ∷ []

abbrev pub runtime_word : RuntimeError → List ℕ
runtime_word Exit = codes "exit"
runtime_word (External _) = codes "external"
runtime_word (IoError _ _) = codes "io"
runtime_word (FsWatcher _ _) = codes "fswatcher"
runtime_word (KeyboardWatcher _) = codes "keyboard"
runtime_word (InternalSupervisor _) = codes "internal"
runtime_word (EventChannelSend _ _ _) = codes "send"
runtime_word (EventChannelTrySend _ _ _ _) = codes "trysend"
runtime_word (Handler _ _) = codes "handler"
runtime_word (HandlerLockHeld _) = codes "lockheld"
runtime_word (Process _) = codes "process"
runtime_word ProcessDeadOnArrival = codes "deadonarrival"
runtime_word (UnsupportedSignal _) = codes "unsupported"
runtime_word NoCommands = codes "nocommands"
runtime_word CommandShellEmptyCommand = codes "emptycommand"
runtime_word CommandShellEmptyShell = codes "emptyshell"
runtime_word (Filterer _ _) = codes "filterer"
runtime_word Memory = codes "memory"

abbrev pub runtime_behind : RuntimeError → Behind line
runtime_behind (External t) = fields text t
runtime_behind (IoError about err) = fields (both text u32) (about, err)
runtime_behind (FsWatcher kind err) = fields (both watcher fs_error) (kind, err)
runtime_behind (KeyboardWatcher err) = fields keyboard_error err
runtime_behind (InternalSupervisor t) = fields text t
runtime_behind (EventChannelSend ctx e p) = fields (both text ranked) (ctx, (p, e))
runtime_behind (EventChannelTrySend ctx fault e p) = fields (both text (both try_send_fault ranked)) (ctx, (fault, (p, e)))
runtime_behind (Handler ctx err) = fields (both text text) (ctx, err)
runtime_behind (HandlerLockHeld t) = fields text t
runtime_behind (Process code) = fields u32 code
runtime_behind (UnsupportedSignal s) = fields signal s
runtime_behind (Filterer kind err) = fields (both text text) (kind, err)
runtime_behind _ = fields nothing tt

pub runtime_again : MadeAgain runtime_rows runtime_word runtime_behind
runtime_again Exit = (_, refl, refl)
runtime_again x = (_, refl, refl)

pub runtime_so : SpeltSo runtime_rows runtime_word runtime_behind
runtime_so = search

unfoldable pub runtime : Spelling line RuntimeError
runtime = choice runtime_rows runtime_word runtime_behind runtime_again runtime_so refl
