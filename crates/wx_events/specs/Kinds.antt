-- What happened to a file, as a word of parts with dots between them.
use Rattle.std.proofs.Common.{refl}
use Rattle.std.specs.Prelude.{ℕ, List, [], ◌∷◌, codes}
use Rattle.wx_words.specs.Spellings.{Spelling}
use Rattle.wx_words.specs.Choices.{Row, row, Behind, fields}
use Rattle.wx_words.specs.ChoiceLaws.{MadeAgain, SpeltSo, choice, some_words}
use Rattle.wx_words.specs.Parts.{line, part, one_word, nothing, keyword, HasWords}
use Rattle.wx_events.specs.declared.kind.AccessMode.{AccessMode}
use Rattle.wx_events.specs.declared.kind.AccessKind.{AccessKind}
use Rattle.wx_events.specs.declared.kind.CreateKind.{CreateKind}
use Rattle.wx_events.specs.declared.kind.DataChange.{DataChange}
use Rattle.wx_events.specs.declared.kind.MetadataKind.{MetadataKind}
use Rattle.wx_events.specs.declared.kind.RenameMode.{RenameMode}
use Rattle.wx_events.specs.declared.kind.ModifyKind.{ModifyKind}
use Rattle.wx_events.specs.declared.kind.RemoveKind.{RemoveKind}
use Rattle.wx_events.specs.declared.kind.FileEventKind.{FileEventKind}

-- ---- accesses

-- for what it was opened
abbrev pub mode_word : AccessMode → List ℕ
mode_word AccessMode.Any = codes "any"
mode_word AccessMode.Execute = codes "execute"
mode_word AccessMode.Read = codes "read"
mode_word AccessMode.Write = codes "write"
mode_word AccessMode.Other = codes "other"

abbrev pub modes : List AccessMode
modes = AccessMode.Any ∷ AccessMode.Execute ∷ AccessMode.Read ∷ AccessMode.Write ∷ AccessMode.Other ∷ []

pub mode_found : HasWords mode_word modes
mode_found AccessMode.Any = refl
mode_found x = refl

abbrev pub mode_parts : Spelling part AccessMode
mode_parts = keyword mode_word modes mode_found refl

-- how it was looked at: each part behind `access`, and what stands behind that
abbrev pub access_rows : List (Row part AccessKind)
access_rows =
    row (codes "any") nothing (λ u. AccessKind.Any)
    ∷ row (codes "read") nothing (λ u. AccessKind.Read)
    ∷ row (codes "open") mode_parts AccessKind.Open
    ∷ row (codes "close") mode_parts AccessKind.Close
    ∷ row (codes "other") nothing (λ u. AccessKind.Other)
    ∷ []

abbrev pub access_word : AccessKind → List ℕ
access_word AccessKind.Any = codes "any"
access_word AccessKind.Read = codes "read"
access_word (AccessKind.Open _) = codes "open"
access_word (AccessKind.Close _) = codes "close"
access_word AccessKind.Other = codes "other"

abbrev pub access_behind : AccessKind → Behind part
access_behind (AccessKind.Open mode) = fields mode_parts mode
access_behind (AccessKind.Close mode) = fields mode_parts mode
access_behind _ = fields nothing tt

pub access_again : MadeAgain access_rows access_word access_behind
access_again AccessKind.Any = (_, refl, refl)
access_again x = (_, refl, refl)

pub access_so : SpeltSo access_rows access_word access_behind
access_so = search

abbrev pub access_parts : Spelling part AccessKind
access_parts = choice access_rows access_word access_behind access_again access_so refl

-- ---- creations and removals

abbrev pub created_word : CreateKind → List ℕ
created_word CreateKind.Any = codes "any"
created_word CreateKind.File = codes "file"
created_word CreateKind.Folder = codes "folder"
created_word CreateKind.Other = codes "other"

abbrev pub creations : List CreateKind
creations = CreateKind.Any ∷ CreateKind.File ∷ CreateKind.Folder ∷ CreateKind.Other ∷ []

pub created_found : HasWords created_word creations
created_found CreateKind.Any = refl
created_found x = refl

abbrev pub created_parts : Spelling part CreateKind
created_parts = keyword created_word creations created_found refl

abbrev pub removed_word : RemoveKind → List ℕ
removed_word RemoveKind.Any = codes "any"
removed_word RemoveKind.File = codes "file"
removed_word RemoveKind.Folder = codes "folder"
removed_word RemoveKind.Other = codes "other"

abbrev pub removals : List RemoveKind
removals = RemoveKind.Any ∷ RemoveKind.File ∷ RemoveKind.Folder ∷ RemoveKind.Other ∷ []

pub removed_found : HasWords removed_word removals
removed_found RemoveKind.Any = refl
removed_found x = refl

abbrev pub removed_parts : Spelling part RemoveKind
removed_parts = keyword removed_word removals removed_found refl

-- ---- modifications

abbrev pub data_word : DataChange → List ℕ
data_word DataChange.Any = codes "any"
data_word DataChange.Size = codes "size"
data_word DataChange.Content = codes "content"
data_word DataChange.Other = codes "other"

abbrev pub data_changes : List DataChange
data_changes = DataChange.Any ∷ DataChange.Size ∷ DataChange.Content ∷ DataChange.Other ∷ []

pub data_found : HasWords data_word data_changes
data_found DataChange.Any = refl
data_found x = refl

abbrev pub data_parts : Spelling part DataChange
data_parts = keyword data_word data_changes data_found refl

abbrev pub metadata_word : MetadataKind → List ℕ
metadata_word MetadataKind.Any = codes "any"
metadata_word MetadataKind.AccessTime = codes "atime"
metadata_word MetadataKind.WriteTime = codes "mtime"
metadata_word MetadataKind.Permissions = codes "perm"
metadata_word MetadataKind.Ownership = codes "owner"
metadata_word MetadataKind.Extended = codes "extended"
metadata_word MetadataKind.Other = codes "other"

abbrev pub metadata_changes : List MetadataKind
metadata_changes =
    MetadataKind.Any
    ∷ MetadataKind.AccessTime
    ∷ MetadataKind.WriteTime
    ∷ MetadataKind.Permissions
    ∷ MetadataKind.Ownership
    ∷ MetadataKind.Extended
    ∷ MetadataKind.Other
    ∷ []

pub metadata_found : HasWords metadata_word metadata_changes
metadata_found MetadataKind.Any = refl
metadata_found x = refl

abbrev pub metadata_parts : Spelling part MetadataKind
metadata_parts = keyword metadata_word metadata_changes metadata_found refl

-- which names of a renamed file are told
abbrev pub name_word : RenameMode → List ℕ
name_word RenameMode.Any = codes "any"
name_word RenameMode.To = codes "to"
name_word RenameMode.From = codes "from"
name_word RenameMode.Both = codes "both"
name_word RenameMode.Other = codes "other"

abbrev pub name_changes : List RenameMode
name_changes = RenameMode.Any ∷ RenameMode.To ∷ RenameMode.From ∷ RenameMode.Both ∷ RenameMode.Other ∷ []

pub name_found : HasWords name_word name_changes
name_found RenameMode.Any = refl
name_found x = refl

abbrev pub name_parts : Spelling part RenameMode
name_parts = keyword name_word name_changes name_found refl

-- what was modified: each part behind `modify`, and what stands behind that
abbrev pub modify_rows : List (Row part ModifyKind)
modify_rows =
    row (codes "any") nothing (λ u. ModifyKind.Any)
    ∷ row (codes "data") data_parts ModifyKind.Data
    ∷ row (codes "meta") metadata_parts ModifyKind.Metadata
    ∷ row (codes "name") name_parts ModifyKind.Name
    ∷ row (codes "other") nothing (λ u. ModifyKind.Other)
    ∷ []

abbrev pub modify_word : ModifyKind → List ℕ
modify_word ModifyKind.Any = codes "any"
modify_word (ModifyKind.Data _) = codes "data"
modify_word (ModifyKind.Metadata _) = codes "meta"
modify_word (ModifyKind.Name _) = codes "name"
modify_word ModifyKind.Other = codes "other"

abbrev pub modify_behind : ModifyKind → Behind part
modify_behind (ModifyKind.Data change) = fields data_parts change
modify_behind (ModifyKind.Metadata change) = fields metadata_parts change
modify_behind (ModifyKind.Name change) = fields name_parts change
modify_behind _ = fields nothing tt

pub modify_again : MadeAgain modify_rows modify_word modify_behind
modify_again ModifyKind.Any = (_, refl, refl)
modify_again x = (_, refl, refl)

pub modify_so : SpeltSo modify_rows modify_word modify_behind
modify_so = search

abbrev pub modify_parts : Spelling part ModifyKind
modify_parts = choice modify_rows modify_word modify_behind modify_again modify_so refl

-- ---- kinds

-- each first part of a kind, and what stands behind it
abbrev pub kind_rows : List (Row part FileEventKind)
kind_rows =
    row (codes "any") nothing (λ u. FileEventKind.Any)
    ∷ row (codes "access") access_parts FileEventKind.Access
    ∷ row (codes "create") created_parts FileEventKind.Create
    ∷ row (codes "modify") modify_parts FileEventKind.Modify
    ∷ row (codes "remove") removed_parts FileEventKind.Remove
    ∷ row (codes "other") nothing (λ u. FileEventKind.Other)
    ∷ []

abbrev pub kind_word : FileEventKind → List ℕ
kind_word FileEventKind.Any = codes "any"
kind_word (FileEventKind.Access _) = codes "access"
kind_word (FileEventKind.Create _) = codes "create"
kind_word (FileEventKind.Modify _) = codes "modify"
kind_word (FileEventKind.Remove _) = codes "remove"
kind_word FileEventKind.Other = codes "other"

abbrev pub kind_behind : FileEventKind → Behind part
kind_behind (FileEventKind.Access kind) = fields access_parts kind
kind_behind (FileEventKind.Create kind) = fields created_parts kind
kind_behind (FileEventKind.Modify kind) = fields modify_parts kind
kind_behind (FileEventKind.Remove kind) = fields removed_parts kind
kind_behind _ = fields nothing tt

pub kind_again : MadeAgain kind_rows kind_word kind_behind
kind_again FileEventKind.Any = (_, refl, refl)
kind_again x = (_, refl, refl)

pub kind_so : SpeltSo kind_rows kind_word kind_behind
kind_so = search

abbrev pub kind_parts : Spelling part FileEventKind
kind_parts = choice kind_rows kind_word kind_behind kind_again kind_so refl

unfoldable pub kind : Spelling line FileEventKind
kind = one_word kind_parts (λ x. some_words _ _)
