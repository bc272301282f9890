-- Names of jobs as words.
use Rattle.std.proofs.Common.{refl}
use Rattle.std.specs.Prelude.{ℕ}
use Rattle.wx_words.specs.Spellings.{Spelling}
use Rattle.wx_words.specs.Parts.{line, renamed, u32}
use Rattle.wx_control.specs.declared.id.Id.{Id}

-- a name is its number
abbrev pub make_id : ℕ → Id
make_id n = record { 0 = n }

unfoldable pub id : Spelling line Id
id = renamed u32 make_id (λ id. id.0) (λ id. refl) (λ n. refl)
