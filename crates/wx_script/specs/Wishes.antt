-- The acts of a script, as words: a new job has no id.
use Rattle.std.proofs.Common.{◌≡◌, refl, Result, Ok, Err}
use Rattle.std.specs.Prelude.{codes}
use Rattle.wx_words.specs.Spellings.{Spelling}
use Rattle.wx_words.specs.Results.{AreApart, result_of}
use Rattle.wx_words.specs.ToEnd.{HasWord}
use Rattle.wx_words.specs.Parts.{line, nothing, both, named, renamed}
use Rattle.wx_command.specs.Commands.{command}
use Rattle.wx_command.specs.declared.command.Command.{Command}
use Rattle.wx_control.specs.Ids.{id}
use Rattle.wx_control.specs.declared.id.Id.{Id}
use Rattle.wx_words.specs.ChoiceLaws.{some_words}
use Rattle.wx_journal.specs.Acts.{act_of, act_has_word}
use Rattle.wx_journal.specs.declared.entry.Act.{Act}
use Rattle.wx_script.specs.declared.script.Wanted.{Wanted}
use Rattle.wx_script.specs.declared.script.Wanted.TheVariants.{New}
use Rattle.wx_script.specs.declared.script.ScriptAct.{ScriptAct}
use Rattle.wx_script.specs.declared.script.ScriptAct.TheVariants.{One, GetOrCreate}

pub only_new : (w : Wanted) → New ≡ w
only_new New = refl

abbrev pub wanted : Spelling line Wanted
wanted = renamed nothing (λ u. New) (λ w. tt) only_new (λ u. refl)

-- the job of an id, which is made again where it isn't there, with what it then runs
abbrev pub gotten : Spelling line (Id × Command)
gotten = named (codes "getcreate") refl (both id command)

-- no other act begins with this word
pub gotten_apart : AreApart (act_of wanted) gotten
unfolding act_of
gotten_apart x rest = refl

abbrev pub act_by : Result (Act Wanted) (Id × Command) → ScriptAct
act_by (Ok act) = One act
act_by (Err got) = GetOrCreate got.0 got.1

abbrev pub by_act : ScriptAct → Result (Act Wanted) (Id × Command)
by_act (One act) = Ok act
by_act (GetOrCreate job order) = Err (job, order)

pub same_act : (x : ScriptAct) → act_by (by_act x) ≡ x
same_act (One act) = refl
same_act (GetOrCreate job order) = refl

pub same_got : (x : Result (Act Wanted) (Id × Command)) → by_act (act_by x) ≡ x
same_got (Ok act) = refl
same_got (Err got) = refl

-- the acts of a script
unfoldable pub script_act : Spelling line ScriptAct
script_act = renamed (result_of (act_of wanted) gotten gotten_apart) act_by by_act same_act same_got

pub script_act_has_word : HasWord script_act
unfolding script_act
script_act_has_word (One act) e = act_has_word wanted act e
script_act_has_word (GetOrCreate job order) e = some_words _ _ e
