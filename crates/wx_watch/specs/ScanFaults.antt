-- The faults of looks at paths, and what was and is found there, as words.
use Rattle.std.proofs.Common.{refl}
use Rattle.std.specs.Prelude.{ℕ, List, [], ◌∷◌, codes}
use Rattle.wx_words.specs.Spellings.{Spelling}
use Rattle.wx_words.specs.Choices.{Row, row, Behind, fields}
use Rattle.wx_words.specs.ChoiceLaws.{MadeAgain, SpeltSo, choice}
use Rattle.wx_words.specs.Parts.{line, nothing, both, text, u32}
use Rattle.wx_watch.specs.declared.scan_fault.Identity.{Identity}
use Rattle.wx_watch.specs.declared.scan_fault.EntryKind.{EntryKind}
use Rattle.wx_watch.specs.declared.scan_fault.ScanFault.{ScanFault}

-- as what a path was known
abbrev pub identity_rows : List (Row line Identity)
identity_rows = row (codes "dir") text Identity.Directory ∷ row (codes "lexical") text Identity.Lexical ∷ []

abbrev pub identity_word : Identity → List ℕ
identity_word (Identity.Directory _) = codes "dir"
identity_word (Identity.Lexical _) = codes "lexical"

abbrev pub identity_behind : Identity → Behind line
identity_behind (Identity.Directory path) = fields text path
identity_behind (Identity.Lexical path) = fields text path

pub identity_again : MadeAgain identity_rows identity_word identity_behind
identity_again (Identity.Directory path) = (_, refl, refl)
identity_again x = (_, refl, refl)

pub identity_so : SpeltSo identity_rows identity_word identity_behind
identity_so = search

unfoldable pub identity : Spelling line Identity
identity = choice identity_rows identity_word identity_behind identity_again identity_so refl

-- what is found at a path
abbrev pub entry_kind_rows : List (Row line EntryKind)
entry_kind_rows =
    row (codes "dir") text EntryKind.Directory
    ∷ row (codes "link") nothing (λ u. EntryKind.NonFollowedSymlink)
    ∷ row (codes "other") nothing (λ u. EntryKind.Other)
    ∷ []

abbrev pub entry_kind_word : EntryKind → List ℕ
entry_kind_word (EntryKind.Directory _) = codes "dir"
entry_kind_word EntryKind.NonFollowedSymlink = codes "link"
entry_kind_word EntryKind.Other = codes "other"

abbrev pub entry_kind_behind : EntryKind → Behind line
entry_kind_behind (EntryKind.Directory path) = fields text path
entry_kind_behind EntryKind.NonFollowedSymlink = fields nothing tt
entry_kind_behind EntryKind.Other = fields nothing tt

pub entry_kind_again : MadeAgain entry_kind_rows entry_kind_word entry_kind_behind
entry_kind_again EntryKind.Other = (_, refl, refl)
entry_kind_again x = (_, refl, refl)

pub entry_kind_so : SpeltSo entry_kind_rows entry_kind_word entry_kind_behind
entry_kind_so = search

unfoldable pub entry_kind : Spelling line EntryKind
entry_kind = choice entry_kind_rows entry_kind_word entry_kind_behind entry_kind_again entry_kind_so refl

-- each first word of a fault, and what stands behind it
abbrev pub scan_rows : List (Row line ScanFault)
scan_rows =
    row (codes "notfound") nothing (λ u. ScanFault.NotFound)
    ∷ row (codes "io") u32 ScanFault.Io
    ∷ row (codes "changed") (both identity entry_kind) (λ p. ScanFault.Changed p.0 p.1)
    ∷ []

abbrev pub scan_word : ScanFault → List ℕ
scan_word ScanFault.NotFound = codes "notfound"
scan_word (ScanFault.Io _) = codes "io"
scan_word (ScanFault.Changed _ _) = codes "changed"

abbrev pub scan_behind : ScanFault → Behind line
scan_behind ScanFault.NotFound = fields nothing tt
scan_behind (ScanFault.Io code) = fields u32 code
scan_behind (ScanFault.Changed was now) = fields (both identity entry_kind) (was, now)

pub scan_again : MadeAgain scan_rows scan_word scan_behind
scan_again ScanFault.NotFound = (_, refl, refl)
scan_again x = (_, refl, refl)

pub scan_so : SpeltSo scan_rows scan_word scan_behind
scan_so = search

unfoldable pub scan_fault : Spelling line ScanFault
scan_fault = choice scan_rows scan_word scan_behind scan_again scan_so refl
