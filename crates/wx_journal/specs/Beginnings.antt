-- What a run begins with, as words: each setting behind its name.
use Rattle.std.proofs.Common.{refl}
use Rattle.std.specs.Prelude.{ℕ, Bool, List, codes}
use Rattle.wx_words.specs.Spellings.{Spelling}
use Rattle.wx_words.specs.Parts.{line, both, named, renamed, list_of, as_line, number, u32, text}
use Rattle.wx_words.specs.Switches.{switch}
use Rattle.wx_watch.specs.Watched.{watcher, watched}
use Rattle.wx_watch.specs.declared.watched.Watcher.{Watcher}
use Rattle.wx_watch.specs.declared.watched.WatchedPath.{WatchedPath}
use Rattle.wx_journal.specs.declared.beginning.Beginning.{Beginning}

abbrev pub Limits : Type 0
Limits = ℕ × (ℕ × ℕ)

abbrev pub limits : Spelling line Limits
limits = both (named (codes "throttle") refl (as_line number)) (both (named (codes "size") refl u32) (named (codes "errors") refl u32))

abbrev pub Switches : Type 0
Switches = Bool × (Bool × Bool)

abbrev pub switches : Spelling line Switches
switches = both (named (codes "keyboard") refl switch) (both (named (codes "follow") refl switch) (named (codes "jobsignals") refl switch))

abbrev pub Watch : Type 0
Watch = Watcher × (List ℕ × List WatchedPath)

abbrev pub watch : Spelling line Watch
watch = both (named (codes "watcher") refl watcher) (both (named (codes "cwd") refl text) (named (codes "paths") refl (list_of watched)))

abbrev pub make_beginning : Limits × (Switches × Watch) → Beginning
make_beginning p = record {
  throttle = p.0.0;
  size = p.0.1.0;
  errors = p.0.1.1;
  keyboard = p.1.0.0;
  follow = p.1.0.1.0;
  jobsignals = p.1.0.1.1;
  watcher = p.1.1.0;
  cwd = p.1.1.1.0;
  paths = p.1.1.1.1;
}

-- the fields in the order of the line
abbrev pub listed : Beginning → Limits × (Switches × Watch)
listed b = ((b.throttle, (b.size, b.errors)), ((b.keyboard, (b.follow, b.jobsignals)), (b.watcher, (b.cwd, b.paths))))

unfoldable pub beginning : Spelling line Beginning
beginning = renamed (both limits (both switches watch)) make_beginning listed (λ b. refl) (λ p. refl)
