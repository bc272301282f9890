-- What a backend that watches files brings, as words.
use Rattle.std.proofs.Common.{refl}
use Rattle.std.specs.Prelude.{ℕ, Bool, true, false, Option, List, [], ◌∷◌, codes}
use Rattle.wx_words.specs.Spellings.{Spelling}
use Rattle.wx_words.specs.Parts.{line, HasWords, both, keyword, list_of, renamed, text}
use Rattle.wx_events.specs.Events.{file_type_never_none}
use Rattle.wx_events.specs.FileTypes.{file_type}
use Rattle.wx_events.specs.Kinds.{kind}
use Rattle.wx_events.specs.OrNone.{or_none}
use Rattle.wx_events.specs.declared.file_type.FileType.{FileType}
use Rattle.wx_events.specs.declared.kind.FileEventKind.{FileEventKind}
use Rattle.wx_notify.specs.Processes.{process}
use Rattle.wx_notify.specs.declared.notify.Notify.{Notify}
use Rattle.wx_notify.specs.declared.notify.NotifyPath.{NotifyPath}

-- what a path leads to: none where this isn't known
abbrev pub known_type : Spelling line (Option FileType)
known_type = or_none file_type file_type_never_none

-- a path, and what it leads to
abbrev pub make_path : List ℕ × Option FileType → NotifyPath
make_path p = record { path = p.0; file_type = p.1 }

unfoldable pub notify_path : Spelling line NotifyPath
notify_path = renamed (both text known_type) make_path (λ p. (p.path, p.file_type)) (λ p. refl) (λ p. refl)

-- whether all is to be looked at again
abbrev pub rescan_word : Bool → List ℕ
rescan_word true = codes "rescan"
rescan_word false = codes "-"

abbrev pub rescans : List Bool
rescans = true ∷ false ∷ []

pub rescan_found : HasWords rescan_word rescans
rescan_found true = refl
rescan_found false = refl

abbrev pub rescan : Spelling line Bool
rescan = keyword rescan_word rescans rescan_found refl

-- what happened, the paths, whether all is to be looked at again, and the process
abbrev pub Parts : Type 0
Parts = FileEventKind × (List NotifyPath × (Bool × Option ℕ))

abbrev pub make_notify : Parts → Notify
make_notify p = record { kind = p.0; paths = p.1.0; rescan = p.1.1.0; process = p.1.1.1 }

abbrev pub parts_of : Notify → Parts
parts_of n = (n.kind, (n.paths, (n.rescan, n.process)))

unfoldable pub notify : Spelling line Notify
notify = renamed (both kind (both (list_of notify_path) (both rescan process))) make_notify parts_of (λ n. refl) (λ p. refl)
