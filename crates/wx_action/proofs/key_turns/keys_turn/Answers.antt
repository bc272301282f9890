use Rattle.std.proofs.Common.{true, false, rules, ap, sym, ◌∙◌}
use Rattle.wx_keys.specs.Keys.{key_events}
use Rattle.wx_journal.specs.declared.entry.Word.TheVariants.{Idle, Ignored}
use Rattle.wx_machine.specs.Due.{Says, Open, keys_open}
use Rattle.wx_worker.proofs.ArriveLemmas.{settles_open, on_err, grows_then}
use Rattle.wx_worker.proofs.KeyLemmas.{keys_owe, keys_some, read_kept, word_cut, none_of_keys, open_serves}
use Rattle.wx_action.proofs.key_turns.keys_turn.Goals as goal

pub ignored-requires : goal.ignored-requires
ignored-requires g c =
    let owes = keys_owe g.start c.args.worker.now c.keep_read.new.self c.requires.0 c.args.bytes c.args.journal.now.past false c.requires.1 (rw c.as_slice.ensures at c.keep_read.ensures) (sym c.hears_keys-heard.ensures ∙ c.if-not-heard.true) in
    (Open, record { stands = owes.stands; due = owes.due })

pub returns-then-not-heard : goal.returns-then-not-heard
returns-then-not-heard g c =
    let kept = rw c.as_slice.ensures at c.keep_read.ensures in
    let owes = keys_owe g.start c.args.worker.now c.keep_read.new.self c.requires.0 c.args.bytes c.args.journal.now.past false c.requires.1 kept (sym c.hears_keys-heard.ensures ∙ c.if-not-heard.true) in
    record {
      grows = grows_then g.start _ _ _ _ _ _ (read_kept g.start c.args.worker.now c.keep_read.new.self c.requires.0 c.args.bytes c.args.journal.now c.requires.1 kept) c.ignored.ensures.grows;
      done = (settles_open g.start (Says Ignored) c.args.journal.now.past c.ignored.new.journal.past c.ignored.result owes.going owes.due c.ignored.ensures.done c.ignored.ensures.err).done;
      cut = word_cut g.start Ignored c.args.journal.now.past c.ignored.new.journal.past c.ignored.result owes.due c.ignored.ensures.err;
    }

pub returns-in_err-events : goal.returns-in_err-events
returns-in_err-events g c =
    let kept = rw c.as_slice.ensures at c.keep_read.ensures in
    let owes = keys_owe g.start c.args.worker.now c.keep_read.new.self c.requires.0 c.args.bytes c.args.journal.now.past true c.requires.1 kept (sym c.hears_keys-heard.ensures ∙ c.if-not-heard.false) in
    record {
      grows = read_kept g.start c.args.worker.now c.keep_read.new.self c.requires.0 c.args.bytes c.args.journal.now c.requires.1 kept;
      done = search rules;
      cut = on_err c.from_residual.result (rw owes.due (none_of_keys (key_events c.args.bytes)));
    }

pub say-requires : goal.say-requires
say-requires g c =
    let kept = rw c.as_slice.ensures at c.keep_read.ensures in
    let owes = keys_owe g.start c.args.worker.now c.keep_read.new.self c.requires.0 c.args.bytes c.args.journal.now.past true c.requires.1 kept (sym c.hears_keys-heard.ensures ∙ c.if-not-heard.false) in
    let events_are = c.in_ok-events.ensures ∙ ap key_events c.as_slice-2.ensures in
    (Open, record { stands = owes.stands; due = owes.due ∙ ap keys_open (sym events_are) ∙ keys_some _ true (sym c.is_empty.ensures ∙ c.if-is_empty.true) })

pub returns-then-is_empty : goal.returns-then-is_empty
returns-then-is_empty g c =
    let kept = rw c.as_slice.ensures at c.keep_read.ensures in
    let owes = keys_owe g.start c.args.worker.now c.keep_read.new.self c.requires.0 c.args.bytes c.args.journal.now.past true c.requires.1 kept (sym c.hears_keys-heard.ensures ∙ c.if-not-heard.false) in
    let events_are = c.in_ok-events.ensures ∙ ap key_events c.as_slice-2.ensures in
    let due = owes.due ∙ ap keys_open (sym events_are) ∙ keys_some _ true (sym c.is_empty.ensures ∙ c.if-is_empty.true) in
    record {
      grows = grows_then g.start _ _ _ _ _ _ (read_kept g.start c.args.worker.now c.keep_read.new.self c.requires.0 c.args.bytes c.args.journal.now c.requires.1 kept) c.say.ensures.grows;
      done = (settles_open g.start (Says Idle) c.args.journal.now.past c.say.new.journal.past c.say.result owes.going due c.say.ensures.done c.say.ensures.err).done;
      cut = word_cut g.start Idle c.args.journal.now.past c.say.new.journal.past c.say.result due c.say.ensures.err;
    }

pub arrive_keys-requires : goal.arrive_keys-requires
arrive_keys-requires g c =
    let kept = rw c.as_slice.ensures at c.keep_read.ensures in
    let owes = keys_owe g.start c.args.worker.now c.keep_read.new.self c.requires.0 c.args.bytes c.args.journal.now.past true c.requires.1 kept (sym c.hears_keys-heard.ensures ∙ c.if-not-heard.false) in
    let events_are = c.in_ok-events.ensures ∙ ap key_events c.as_slice-2.ensures in
    (record { stands = owes.stands; due = owes.due ∙ ap keys_open (sym events_are) ∙ keys_some _ false (sym c.is_empty.ensures ∙ c.if-is_empty.false) }, owes.going)

pub returns : goal.returns
returns g c =
    let kept = rw c.as_slice.ensures at c.keep_read.ensures in
    record {
      grows = grows_then g.start _ _ _ _ _ _ (read_kept g.start c.args.worker.now c.keep_read.new.self c.requires.0 c.args.bytes c.args.journal.now c.requires.1 kept) c.arrive_keys.ensures.grows;
      done = open_serves g.start c.arrive_keys.new.journal.past c.arrive_keys.result c.arrive_keys.ensures.done;
      cut = c.arrive_keys.ensures.cut;
    }
