-- The errors of the sources of events, as words.
use Rattle.std.proofs.Common.{refl}
use Rattle.std.specs.Prelude.{ℕ, List, [], ◌∷◌, codes}
use Rattle.wx_words.specs.Spellings.{Spelling}
use Rattle.wx_words.specs.Choices.{Row, row, Behind, fields}
use Rattle.wx_words.specs.ChoiceLaws.{MadeAgain, SpeltSo, choice}
use Rattle.wx_words.specs.Parts.{line, both, text, HasWords, keyword}
use Rattle.wx_watch.specs.NotifyFaults.{notify_fault}
use Rattle.wx_watch.specs.ScanFaults.{scan_fault}
use Rattle.wx_watch.specs.declared.source_errors.FsWatcherError.{FsWatcherError}
use Rattle.wx_watch.specs.declared.source_errors.FsWatcherError.TheVariants.{Create, TooManyWatches, TooManyHandles, Event, PathAdd, PathScan, PathRemove}
use Rattle.wx_watch.specs.declared.source_errors.KeyboardWatcherError.{KeyboardWatcherError}
use Rattle.wx_watch.specs.declared.source_errors.KeyboardWatcherError.TheVariants.{StdinShutdown}

-- each first word of an error of the watching of files, and what stands behind it
abbrev pub fs_rows : List (Row line FsWatcherError)
fs_rows =
    row (codes "create") notify_fault Create
    ∷ row (codes "toomanywatches") notify_fault TooManyWatches
    ∷ row (codes "toomanyhandles") notify_fault TooManyHandles
    ∷ row (codes "event") notify_fault Event
    ∷ row (codes "pathadd") (both text notify_fault) (λ p. PathAdd p.0 p.1)
    ∷ row (codes "pathscan") (both text scan_fault) (λ p. PathScan p.0 p.1)
    ∷ row (codes "pathremove") (both text notify_fault) (λ p. PathRemove p.0 p.1)
    ∷ []

abbrev pub fs_word : FsWatcherError → List ℕ
fs_word (Create _) = codes "create"
fs_word (TooManyWatches _) = codes "toomanywatches"
fs_word (TooManyHandles _) = codes "toomanyhandles"
fs_word (Event _) = codes "event"
fs_word (PathAdd _ _) = codes "pathadd"
fs_word (PathScan _ _) = codes "pathscan"
fs_word (PathRemove _ _) = codes "pathremove"

abbrev pub fs_behind : FsWatcherError → Behind line
fs_behind (Create fault) = fields notify_fault fault
fs_behind (TooManyWatches fault) = fields notify_fault fault
fs_behind (TooManyHandles fault) = fields notify_fault fault
fs_behind (Event fault) = fields notify_fault fault
fs_behind (PathAdd path err) = fields (both text notify_fault) (path, err)
fs_behind (PathScan path err) = fields (both text scan_fault) (path, err)
fs_behind (PathRemove path err) = fields (both text notify_fault) (path, err)

pub fs_again : MadeAgain fs_rows fs_word fs_behind
fs_again (Create fault) = (_, refl, refl)
fs_again x = (_, refl, refl)

pub fs_so : SpeltSo fs_rows fs_word fs_behind
fs_so = search

unfoldable pub fs_error : Spelling line FsWatcherError
fs_error = choice fs_rows fs_word fs_behind fs_again fs_so refl

-- ---- keys

abbrev pub keyboard_error_word : KeyboardWatcherError → List ℕ
keyboard_error_word StdinShutdown = codes "stdinshutdown"

abbrev pub keyboard_errors : List KeyboardWatcherError
keyboard_errors = StdinShutdown ∷ []

pub keyboard_error_found : HasWords keyboard_error_word keyboard_errors
keyboard_error_found StdinShutdown = refl

unfoldable pub keyboard_error : Spelling line KeyboardWatcherError
keyboard_error = keyword keyboard_error_word keyboard_errors keyboard_error_found refl
