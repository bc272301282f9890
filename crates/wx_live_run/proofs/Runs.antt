-- What both sides come to together.
use Rattle.std.proofs.Common.{◌≡◌, ℕ, Bool, true, Option, Some, Result, Ok, Err, IfOk, List, [], ◌++◌, refl, sym, ap, subst, ◌∙◌}
use Rattle.std.specs.List.{list_all}
use Rattle.wx_text.specs.declared.list.Memory.{Memory}
use Rattle.wx_command.specs.declared.command.Command.{Command}
use Rattle.wx_journal.specs.declared.entry.Entry.{Entry}
use Rattle.wx_journal.specs.Lines.{Answer}
use Rattle.wx_journal.specs.Written.{Written}
use Rattle.wx_journal.specs.Told.{anywhere, is_turn, is_world, tells}
use Rattle.wx_machine.specs.Seen.{Seen, Shown}
use Rattle.wx_queue.specs.Ends.{TakingEnd}
use Rattle.wx_queue.specs.declared.parcel.Sent.{Sent}
use Rattle.wx_pass.specs.Asked.{Handle}
use Rattle.wx_pass.specs.declared.item.Item.{Item}
use Rattle.wx_live.specs.Drawn.{Drawn}
use Rattle.wx_live.specs.Lives.{OnlyDraws}
use Rattle.wx_reader.specs.Reads.{HasRead, Sends, is_end}
use Rattle.wx_handles.specs.Rounds.{are_rounds}
use Rattle.wx_handles.specs.Threaded.{Based, Begins, Parted}
use Rattle.wx_handles.specs.Turns.{are_behind, drawn_by, items_in}
use Rattle.wx_replay.specs.declared.running.Ran.{Ran}
use Rattle.wx_live_run.specs.LiveRuns.{IsLiveRun, fits_live, keys_of}
use Rattle.wx_live_run.specs.Sides.{IsRunSide}
use Rattle.wx_live_run.specs.Subsequences.{IsSubsequence}
use Rattle.wx_live_run.proofs.Heard.{back_is, back_keys, given_keys, given_part, is_keys, keys_among, keys_back}
use Rattle.wx_live_run.proofs.Listed.{fits_by_items, keys_by_items, listed, those_are}

-- A world with handles was made over an outside of which this was drawn, served the run, and was taken apart; and the one handle sent what was
-- read. What the queue gave is a front of that.
pub live_run : {S Fixed : Type 0} (turns : ℕ) (ignores : List (List ℕ)) (command : Command) (folder : List ℕ) (left : S → Option (List ℕ)) (faults : S → ℕ) (a b : S) (x y : Handle) (drawn drawn' : Drawn) (l l' : Seen Fixed) (w w' : Seen Based) (items : TakingEnd Item) (journal : List Entry) (answer : Answer)
    → ((path : List ℕ) → drawn.folder ≡ Some path → folder ≡ path)
    → Begins turns 1 drawn l w
    → w'.plan ≡ w.plan
    → IsRunSide folder ignores command w w' journal answer
    → Parted w' l' drawn' items
    → x.pass.number ≡ 0
    → x.pass.sent ≡ []
    → HasRead left faults a b x y true
    → (rest : List (Sent Item)) × (y.pass.sent ≡ items.given ++ rest)
    → IsLiveRun turns ignores command left faults a b l.shown.told l'.shown.told drawn drawn' journal answer
live_run {S} {Fixed} turns ignores command folder left faults a b x y drawn drawn' l l' w w' items journal answer folder_is begins plan side parted number none read given =
    let those : List Entry = parted.told.0 in
    let tell = parted.told.2 in
    let mine = listed 1 turns drawn journal in
    let same : those ≡ mine.those = those_are 1 turns drawn journal those mine (sym parted.told.1 ∙ side.turns ∙ ap (tells (anywhere is_turn) journal) begins.given) in
    let jobs : w'.plan.jobs ≡ 1 = ap (λ (p : Based). p.jobs) plan ∙ begins.jobs in
    let count : w'.plan.turns ≡ turns = ap (λ (p : Based). p.turns) plan ∙ begins.turns in
    let drew : w'.plan.drew ≡ drawn = ap (λ (p : Based). p.drew) plan ∙ begins.drew in
    let sends : Sends 0 [] read.read y.pass.sent = subst (λ (n : ℕ). Sends n [] read.read y.pass.sent) number (subst (λ (s : List (Sent Item)). Sends x.pass.number s read.read y.pass.sent) none read.sent) in
    let keys : list_all is_keys (items_in those) ≡ true = ap (list_all is_keys) tell.items ∙ back_keys items.given (given_keys 0 read.read y.pass.sent items.given given.0 sends given.1) in
    let heard : keys_of journal ≡ keys_among items.given = mine.keys ∙ ap keys_of (sym same) ∙ keys_by_items those ∙ ap keys_back tell.items ∙ back_is items.given in
    record {
      folder = folder;
      folder_is = folder_is;
      ready = side.ready;
      answers = side.answers;
      acts = side.acts;
      told_is = ap (λ (s : Shown). s.told) parted.shown ∙ side.told ∙ ap (λ (s : Shown). tells is_world journal s.told) begins.shown;
      drawn_is = tell.draws ∙ ap (drawn_by those) drew ∙ ap (λ (es : List Entry). drawn_by es drawn) same ∙ sym mine.draws;
      kinds = mine.fits ∙ ap (list_all fits_live) (sym same) ∙ fits_by_items those tell.own keys;
      rounds = mine.rounds ∙ ap (are_rounds 1) (sym same) ∙ subst (λ (n : ℕ). are_rounds n those ≡ true) jobs tell.rounds;
      last = mine.behind ∙ ap (are_behind turns) (sym same) ∙ subst (λ (n : ℕ). are_behind n those ≡ true) count tell.last;
      keys = record {
        read = read.read;
        consumed = read.consumed;
        heard = subst (λ (k : List ℕ). IsSubsequence k read.read) (sym heard) (given_part 0 read.read y.pass.sent items.given given.0 sends given.1);
        over = read.cause refl;
      };
    }

-- where no side failed, and the outside was asked for its folder before
pub live_left : {S Fixed : Type 0} (turns : ℕ) (ignores : List (List ℕ)) (command : Command) (folder : List ℕ) (left : S → Option (List ℕ)) (faults : S → ℕ) (a b : S) (x y : Handle) (had drawn drawn' : Drawn) (at : ℕ) (k l l' : Seen Fixed) (w w' : Seen Based) (items : TakingEnd Item) (journal : Written) (heard : Result (Unit {0}) Memory) (ran : Result Answer Memory) (r : Result Ran Memory)
    → ((path : List ℕ) → had.folder ≡ Some path → folder ≡ path)
    → OnlyDraws at k l
    → drawn ≡ had
    → Begins turns 1 drawn l w
    → w'.plan ≡ w.plan
    → IfOk ran (λ answer. IsRunSide folder ignores command w w' journal.past answer)
    → Parted w' l' drawn' items
    → x.pass.number ≡ 0
    → x.pass.sent ≡ []
    → HasRead left faults a b x y (is_end heard)
    → (rest : List (Sent Item)) × (y.pass.sent ≡ items.given ++ rest)
    → IfOk r (λ o. (is_end heard ≡ true) × (ran ≡ Ok o.answer) × (o.journal ≡ journal))
    → IfOk r (λ o. IsLiveRun turns ignores command left faults a b k.shown.told l'.shown.told had drawn' o.journal.past o.answer)
live_left turns ignores command folder left faults a b x y had drawn drawn' at k l l' w w' items journal heard ran (Ok o) folder_is draws same begins plan side parted number none read given is =
    let mine = subst (λ (r : Result Answer Memory). IfOk r (λ answer. IsRunSide folder ignores command w w' journal.past answer)) is.1 side in
    let all = subst (λ (over : Bool). HasRead left faults a b x y over) is.0 read in
    let so = live_run turns ignores command folder left faults a b x y drawn drawn' l l' w w' items journal.past o.answer (λ path e. folder_is path (sym (ap (λ (d : Drawn). d.folder) same) ∙ e)) begins plan mine parted number none all given in
    let here = subst (λ (j : Written). IsLiveRun turns ignores command left faults a b l.shown.told l'.shown.told drawn drawn' j.past o.answer) (sym is.2) so in
    let told = subst (λ (s : Shown). IsLiveRun turns ignores command left faults a b s.told l'.shown.told drawn drawn' o.journal.past o.answer) draws.shown_kept here in
    subst (λ (d : Drawn). IsLiveRun turns ignores command left faults a b k.shown.told l'.shown.told d drawn' o.journal.past o.answer) same told
live_left turns ignores command folder left faults a b x y had drawn drawn' at k l l' w w' items journal heard ran (Err want) folder_is draws same begins plan side parted number none read given is = tt
