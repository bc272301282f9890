-- A program and its arguments as words: how many texts there are, which is one at least, and then these.
use Rattle.std.proofs.Common.{◌≡◌, ℕ, Option, None, Some, List, [], ◌∷◌, refl, ap}
use Rattle.wx_words.specs.Spellings.{Spelling}
use Rattle.wx_words.specs.Parts.{line, partly, list_of, text}
use Rattle.wx_command.specs.declared.argv.Argv.{Argv}

abbrev pub texts_of : Argv → List (List ℕ)
texts_of a = a.prog ∷ a.args

abbrev pub argv_from : List (List ℕ) → Option Argv
argv_from [] = None
argv_from (prog ∷ args) = Some (record { prog = prog; args = args })

pub same_texts : (texts : List (List ℕ)) (a : Argv) → argv_from texts ≡ Some a → texts_of a ≡ texts
same_texts [] a e = absurd cc
same_texts (prog ∷ args) a e = let same : a ≡ record { prog = prog; args = args } = cc in ap texts_of same

abbrev pub argv : Spelling line Argv
argv = partly (list_of text) argv_from texts_of (λ a. refl) same_texts
