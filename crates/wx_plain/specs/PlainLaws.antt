-- What entries leave of what plain hooks promise, and what a whole run with them comes to.
use Rattle.std.proofs.Common.{◌≡◌, ℕ, Bool, true, false, Result, List, [], ◌∷◌, refl}
use Rattle.wx_text.specs.declared.list.Memory.{Memory}
use Rattle.wx_command.specs.declared.command.Command.{Command}
use Rattle.wx_command.specs.declared.spawnable.Spawnable.{Spawnable}
use Rattle.wx_command.specs.Spawnables.{spawnable_of}
use Rattle.wx_control.specs.declared.id.Id.{Id}
use Rattle.wx_journal.specs.declared.entry.Entry.{Entry}
use Rattle.wx_journal.specs.declared.entry.Entry.TheVariants.{Filter, Show, Hand, Poll, Hook, Dir}
use Rattle.wx_journal.specs.Names.{NamesItsOwn}
use Rattle.wx_journal.specs.Told.{is_hand, is_hooks, Obeys, Same, More}
use Rattle.wx_machine.specs.History.{RunsOnly}
use Rattle.wx_patterns.specs.declared.pattern.Pattern.{Pattern}
use Rattle.wx_plain.specs.Plain.{LeavesGiven, IsPlain, ArePlain}

-- a spawn hook that was given what its job was created to run, and left just that, did as usual
pub leaves_given : (base : List (List ℕ)) (patterns : List Pattern) (chosen : List Entry → Entry → Type 0) (p : List Entry) (job : Id) (n : ℕ) (left : Result Spawnable Memory) (what : Command) → RunsOnly job what p → LeavesGiven (spawnable_of what) (Hook job n left) → IsPlain base patterns chosen p (Hook job n left)
leaves_given base patterns chosen p job n left what runs leaves = λ created so. rw (runs created so) leaves

-- an entry that is no call on hooks hands no batch
no_hand : (e : Entry) → is_hooks e ≡ false → is_hand e ≡ false
no_hand (Hand n names acts) other = absurd cc
no_hand (_) other = refl

-- so what chooses acts stands for it too
pub stands_over : {A : Type 0} (stands : A → List Entry → Type 0) → ((x : A) (p : List Entry) (e : Entry) → NamesItsOwn p → is_hand e ≡ false → stands x p → stands x (e ∷ p))
    → (x : A) (p : List Entry) (e : Entry) → NamesItsOwn p → is_hooks e ≡ false → stands x p → stands x (e ∷ p)
stands_over stands over x p e own other so_far = over x p e own (no_hand e other) so_far

-- an entry that is no call on hooks is plain
other_plain : (base : List (List ℕ)) (patterns : List Pattern) (chosen : List Entry → Entry → Type 0) (p : List Entry) (e : Entry) → is_hooks e ≡ false → IsPlain base patterns chosen p e
other_plain base patterns chosen p (Filter n name answer) other = absurd cc
other_plain base patterns chosen p (Dir n path answer) other = absurd cc
other_plain base patterns chosen p (Show n error wish) other = absurd cc
other_plain base patterns chosen p (Hand n names acts) other = absurd cc
other_plain base patterns chosen p (Poll job n ready) other = absurd cc
other_plain base patterns chosen p (Hook job n left) other = absurd cc
other_plain base patterns chosen p (_) other = tt

-- where each call on the hooks passes their rule, each entry of the journal is plain: a batch is handed as what chooses acts may
pub obeys_plain : (base : List (List ℕ)) (patterns : List Pattern) (chosen : List Entry → Entry → Type 0) (p : List Entry) → Obeys (λ q e. IsPlain base patterns chosen q e) [] p → ArePlain base patterns chosen p
obeys_plain base patterns chosen _ Same = tt
obeys_plain base patterns chosen _ (More e p before passes) = (now (is_hooks e) refl, obeys_plain base patterns chosen p before)
  where
    now : (b : Bool) → is_hooks e ≡ b → IsPlain base patterns chosen p e
    now true is = passes is
    now false is = other_plain base patterns chosen p e is
