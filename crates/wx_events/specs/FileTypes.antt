-- What a path leads to, as a word.
use Rattle.std.proofs.Common.{refl}
use Rattle.std.specs.Prelude.{ℕ, List, [], ◌∷◌, codes}
use Rattle.wx_words.specs.Spellings.{Spelling}
use Rattle.wx_words.specs.Parts.{line, HasWords, keyword}
use Rattle.wx_events.specs.declared.file_type.FileType.{FileType}
use Rattle.wx_events.specs.declared.file_type.FileType.TheVariants.{File, Dir, Symlink, Other}

abbrev pub file_type_word : FileType → List ℕ
file_type_word File = codes "file"
file_type_word Dir = codes "dir"
file_type_word Symlink = codes "symlink"
file_type_word Other = codes "other"

abbrev pub file_types : List FileType
file_types = File ∷ Dir ∷ Symlink ∷ Other ∷ []

pub file_type_found : HasWords file_type_word file_types
file_type_found File = refl
file_type_found x = refl

unfoldable pub file_type : Spelling line FileType
file_type = keyword file_type_word file_types file_type_found refl
