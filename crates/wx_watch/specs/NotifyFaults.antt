-- The faults of backends that watch files, as words.
use Rattle.std.proofs.Common.{refl}
use Rattle.std.specs.Prelude.{ℕ, List, [], ◌∷◌, codes}
use Rattle.wx_words.specs.Spellings.{Spelling}
use Rattle.wx_words.specs.Choices.{Row, row, Behind, fields}
use Rattle.wx_words.specs.ChoiceLaws.{MadeAgain, SpeltSo, choice}
use Rattle.wx_words.specs.Parts.{line, nothing, both, renamed, list_of, text, u32}
use Rattle.wx_watch.specs.declared.notify_fault.NotifyFault.{NotifyFault}
use Rattle.wx_watch.specs.declared.notify_fault.NotifyFaultKind.{NotifyFaultKind}
use Rattle.wx_watch.specs.declared.notify_fault.NotifyFaultKind.TheVariants.{Generic, Io, PathNotFound, WatchNotFound, InvalidConfig, MaxFilesWatch, Memory}

-- each first word of what failed, and what stands behind it
abbrev pub fault_kind_rows : List (Row line NotifyFaultKind)
fault_kind_rows =
    row (codes "generic") text Generic
    ∷ row (codes "io") u32 Io
    ∷ row (codes "nopath") nothing (λ u. PathNotFound)
    ∷ row (codes "nowatch") nothing (λ u. WatchNotFound)
    ∷ row (codes "badconfig") nothing (λ u. InvalidConfig)
    ∷ row (codes "maxwatches") nothing (λ u. MaxFilesWatch)
    ∷ row (codes "memory") nothing (λ u. Memory)
    ∷ []

abbrev pub fault_kind_word : NotifyFaultKind → List ℕ
fault_kind_word (Generic _) = codes "generic"
fault_kind_word (Io _) = codes "io"
fault_kind_word PathNotFound = codes "nopath"
fault_kind_word WatchNotFound = codes "nowatch"
fault_kind_word InvalidConfig = codes "badconfig"
fault_kind_word MaxFilesWatch = codes "maxwatches"
fault_kind_word Memory = codes "memory"

abbrev pub fault_kind_behind : NotifyFaultKind → Behind line
fault_kind_behind (Generic t) = fields text t
fault_kind_behind (Io code) = fields u32 code
fault_kind_behind _ = fields nothing tt

pub fault_kind_again : MadeAgain fault_kind_rows fault_kind_word fault_kind_behind
fault_kind_again Memory = (_, refl, refl)
fault_kind_again x = (_, refl, refl)

pub fault_kind_so : SpeltSo fault_kind_rows fault_kind_word fault_kind_behind
fault_kind_so = search

unfoldable pub fault_kind : Spelling line NotifyFaultKind
fault_kind = choice fault_kind_rows fault_kind_word fault_kind_behind fault_kind_again fault_kind_so refl

-- a fault is what failed, and then the paths that it is about
abbrev pub make_fault : NotifyFaultKind × List (List ℕ) → NotifyFault
make_fault p = record { kind = p.0; paths = p.1 }

unfoldable pub notify_fault : Spelling line NotifyFault
notify_fault = renamed (both fault_kind (list_of text)) make_fault (λ fault. (fault.kind, fault.paths)) (λ fault. refl) (λ p. refl)
