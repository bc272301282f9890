use Rattle.std.proofs.Common.{◌≡◌, ◌||◌, min, length, drop, rules, sym, ◌∙◌}
use Rattle.wx_script.specs.declared.script.ScriptTurn.TheVariants.{Turn}
use Rattle.wx_script.specs.HostCalls.{UsesAnswers}
use Rattle.wx_script.specs.Turns.{FollowsGiven, turns_of}
use Rattle.wx_hooks.specs.Given.{TurnsTree}
use Rattle.wx_follow.specs.Edits.{FollowsEdits, IsAhead, files_of}
use Rattle.wx_follow.proofs.GivenLaws.{rest_more, rest_none, follows_more, follows_last, turn_over, perhaps_short, edits_turn, lines_turn}
use Rattle.wx_follow.proofs.EditLaws.{ahead_turn, edits_more, turned_tree}
use Rattle.wx_follow.proofs.script_world.ScriptWorldWorld.turn.Goals.{After-push-2}
use Rattle.wx_follow.proofs.script_world.ScriptWorldWorld.turn.Goals as goal

-- ---- a last turn was told

pub invariant_of-self-clause-follows : goal.invariant_of-self-clause-follows
invariant_of-self-clause-follows c = rw (c.push.ensures.past, c.last_turn.ensures) (follows_last c.args.self.now.turns c.args.self.now.last c.args.self.now.told.past (sym c.in_default.ensures.none ∙ c.args.self.now.rest) c.args.self.now.follows)

pub invariant_of-self-clause-rest : goal.invariant_of-self-clause-rest
invariant_of-self-clause-rest c = rw (c.push.ensures.past, c.in_default.ensures.same) (rest_none c.args.self.now.turns (length (turns_of c.args.self.now.told.past)) (sym c.in_default.ensures.none ∙ c.args.self.now.rest))

pub invariant_of-self-clause-answered : goal.invariant_of-self-clause-answered
invariant_of-self-clause-answered c = rw (c.push.ensures.past, c.either-self.ensures) (turn_over (c.args.self.now.is_short || c.change_next-short.result) c.args.self.now.answers c.args.self.now.used c.args.self.now.told.past (Turn c.last_turn.result) (perhaps_short c.args.self.now.is_short c.change_next-short.result c.args.self.now.answers c.args.self.now.used c.args.self.now.told.past c.args.self.now.answered))

pub invariant_of-self-clause-edited : goal.invariant_of-self-clause-edited
invariant_of-self-clause-edited c = rw (c.push.ensures.past, c.either-self.ensures) (edits_more c.args.self.now.is_short c.change_next-short.result c.args.self.now.edits (length (turns_of c.args.self.now.told.past)) c.args.self.now.changed c.args.self.now.ahead.entries.items c.args.self.now.tree.entries.items c.change_next-short.new.tree.entries.items c.args.self.now.lines c.args.self.now.some c.change_next-short.ensures.made c.args.self.now.first c.args.self.now.edited)

pub invariant_of-self-clause-lines : goal.invariant_of-self-clause-lines
invariant_of-self-clause-lines c = rw c.push.ensures.past (lines_turn c.args.self.now.edits c.args.self.now.told.past (Turn c.last_turn.result) c.args.self.now.changed c.passed-self.result c.args.self.now.lines c.passed-self.ensures)

pub invariant_of-self-clause-first : goal.invariant_of-self-clause-first
invariant_of-self-clause-first c = rw c.push.ensures.past tt

-- ---- a turn of the script was told, or its fault

follows : (c : After-push-2) → FollowsGiven c.args.self.now.turns c.args.self.now.last c.push-2.new.self.past
follows c = rw (c.push-2.ensures.past, c.entry_of.ensures, c.in-Some.ensures.twice) (follows_more c.args.self.now.turns c.args.self.now.last c.args.self.now.told.past _ _ (sym c.in-Some.ensures.some ∙ c.args.self.now.rest) c.args.self.now.follows)

rest : (c : After-push-2) → c.next.new.self ≡ drop (length (turns_of c.push-2.new.self.past)) c.args.self.now.turns
rest c = rw (c.push-2.ensures.past, c.entry_of.ensures, c.in-Some.ensures.twice) (rest_more c.args.self.now.turns c.args.self.now.told.past _ _ (sym c.in-Some.ensures.some ∙ c.args.self.now.rest))

answered : (c : After-push-2) → UsesAnswers c.either-self.result c.args.self.now.answers c.args.self.now.used c.push-2.new.self.past
answered c = rw (c.push-2.ensures.past, c.entry_of.ensures, c.either-self.ensures) (turn_over (c.args.self.now.is_short || c.change_next-short.result) c.args.self.now.answers c.args.self.now.used c.args.self.now.told.past c.in-Some.told (perhaps_short c.args.self.now.is_short c.change_next-short.result c.args.self.now.answers c.args.self.now.used c.args.self.now.told.past c.args.self.now.answered))

edited : (c : After-push-2) → FollowsEdits c.either-self.result c.args.self.now.edits (length (turns_of c.push-2.new.self.past)) c.change_next-short.new.tree.entries.items
edited c = rw (c.push-2.ensures.past, c.entry_of.ensures, c.either-self.ensures) (edits_turn (c.args.self.now.is_short || c.change_next-short.result) c.args.self.now.edits c.args.self.now.told.past c.in-Some.told c.change_next-short.new.tree.entries.items (edits_more c.args.self.now.is_short c.change_next-short.result c.args.self.now.edits (length (turns_of c.args.self.now.told.past)) c.args.self.now.changed c.args.self.now.ahead.entries.items c.args.self.now.tree.entries.items c.change_next-short.new.tree.entries.items c.args.self.now.lines c.args.self.now.some c.change_next-short.ensures.made c.args.self.now.first c.args.self.now.edited))

lines : (c : After-push-2) → c.passed-self.result ≡ min (length (turns_of c.push-2.new.self.past)) (length c.args.self.now.edits)
lines c = rw (c.push-2.ensures.past, c.entry_of.ensures) (lines_turn c.args.self.now.edits c.args.self.now.told.past c.in-Some.told c.args.self.now.changed c.passed-self.result c.args.self.now.lines c.passed-self.ensures)

first : (c : After-push-2) → IsAhead c.args.self.now.edits (length (turns_of c.push-2.new.self.past)) c.change_next-short.new.ahead.entries.items
first c = rw (c.push-2.ensures.past, c.entry_of.ensures) (ahead_turn c.args.self.now.edits c.args.self.now.told.past c.in-Some.told c.change_next-short.new.ahead.entries.items)

-- ---- the goals

pub invariant_of-self-in-Turn-clause-follows : goal.invariant_of-self-in-Turn-clause-follows
invariant_of-self-in-Turn-clause-follows c = follows (goal.at.invariant_of-self-in-Turn-clause-follows c).After-push-2

pub invariant_of-self-in-Fault-clause-follows : goal.invariant_of-self-in-Fault-clause-follows
invariant_of-self-in-Fault-clause-follows c = follows (goal.at.invariant_of-self-in-Fault-clause-follows c).After-push-2

pub invariant_of-self-in-Turn-clause-rest : goal.invariant_of-self-in-Turn-clause-rest
invariant_of-self-in-Turn-clause-rest c = rest (goal.at.invariant_of-self-in-Turn-clause-rest c).After-push-2

pub invariant_of-self-in-Fault-clause-rest : goal.invariant_of-self-in-Fault-clause-rest
invariant_of-self-in-Fault-clause-rest c = rest (goal.at.invariant_of-self-in-Fault-clause-rest c).After-push-2

pub invariant_of-self-in-Turn-clause-answered : goal.invariant_of-self-in-Turn-clause-answered
invariant_of-self-in-Turn-clause-answered c = answered (goal.at.invariant_of-self-in-Turn-clause-answered c).After-push-2

pub invariant_of-self-in-Fault-clause-answered : goal.invariant_of-self-in-Fault-clause-answered
invariant_of-self-in-Fault-clause-answered c = answered (goal.at.invariant_of-self-in-Fault-clause-answered c).After-push-2

pub invariant_of-self-in-Turn-clause-edited : goal.invariant_of-self-in-Turn-clause-edited
invariant_of-self-in-Turn-clause-edited c = edited (goal.at.invariant_of-self-in-Turn-clause-edited c).After-push-2

pub invariant_of-self-in-Fault-clause-edited : goal.invariant_of-self-in-Fault-clause-edited
invariant_of-self-in-Fault-clause-edited c = edited (goal.at.invariant_of-self-in-Fault-clause-edited c).After-push-2

pub invariant_of-self-in-Turn-clause-lines : goal.invariant_of-self-in-Turn-clause-lines
invariant_of-self-in-Turn-clause-lines c = lines (goal.at.invariant_of-self-in-Turn-clause-lines c).After-push-2

pub invariant_of-self-in-Fault-clause-lines : goal.invariant_of-self-in-Fault-clause-lines
invariant_of-self-in-Fault-clause-lines c = lines (goal.at.invariant_of-self-in-Fault-clause-lines c).After-push-2

pub invariant_of-self-in-Turn-clause-first : goal.invariant_of-self-in-Turn-clause-first
invariant_of-self-in-Turn-clause-first c = first (goal.at.invariant_of-self-in-Turn-clause-first c).After-push-2

pub invariant_of-self-in-Fault-clause-first : goal.invariant_of-self-in-Fault-clause-first
invariant_of-self-in-Fault-clause-first c = first (goal.at.invariant_of-self-in-Fault-clause-first c).After-push-2

-- ---- what was seen of files

pub returns-in_default-clause-gives : goal.returns-in_default-clause-gives
returns-in_default-clause-gives c = record {
  told = search rules;
  turns = search rules;
  moment = search rules;
  faults = search rules;
  maker_faults = search rules;
  host_faults = search rules;
  room = search rules;
  plan_kept = search rules;
  place_kept = search rules;
  looked = turned_tree c.args.self.now.edits c.args.self.now.told.past c.push.new.self.past (Turn c.last_turn.result) c.args.self.now.changed c.change_next-short.result c.args.self.now.ahead.entries.items c.args.self.now.tree.entries.items c.change_next-short.new.ahead.entries.items
      c.change_next-short.new.tree.entries.items c.args.self.now.failing_watches _ _ _ _ c.push.ensures.past c.args.self.now.lines c.args.self.now.some c.change_next-short.ensures.made c.change_next-short.ensures.counts.0 c.change_next-short.ensures.counts.1;
}

seen_turn : (c : After-push-2) → TurnsTree
    (files_of c.args.self.now.edits (length (turns_of c.args.self.now.told.past)) c.args.self.now.ahead.entries.items c.args.self.now.failing_watches c.args.self.now.tree.entries.items c.args.self.now.tree.looks c.args.self.now.tree.faults)
    (files_of c.args.self.now.edits (length (turns_of c.push-2.new.self.past)) c.change_next-short.new.ahead.entries.items c.args.self.now.failing_watches c.change_next-short.new.tree.entries.items c.change_next-short.new.tree.looks c.change_next-short.new.tree.faults)
seen_turn c = turned_tree c.args.self.now.edits c.args.self.now.told.past c.push-2.new.self.past c.in-Some.told c.args.self.now.changed c.change_next-short.result c.args.self.now.ahead.entries.items c.args.self.now.tree.entries.items c.change_next-short.new.ahead.entries.items
    c.change_next-short.new.tree.entries.items c.args.self.now.failing_watches _ _ _ _ (rw (← c.entry_of.ensures) c.push-2.ensures.past) c.args.self.now.lines c.args.self.now.some c.change_next-short.ensures.made c.change_next-short.ensures.counts.0 c.change_next-short.ensures.counts.1

pub returns-in-Turn-clause-gives : goal.returns-in-Turn-clause-gives
returns-in-Turn-clause-gives c = record {
  told = search rules;
  turns = search rules;
  moment = search rules;
  faults = search rules;
  maker_faults = search rules;
  host_faults = search rules;
  room = search rules;
  plan_kept = search rules;
  place_kept = search rules;
  looked = seen_turn (goal.at.returns-in-Turn-clause-gives c).After-push-2;
}

pub returns-in-Fault-clause-gives : goal.returns-in-Fault-clause-gives
returns-in-Fault-clause-gives c = record {
  told = search rules;
  turns = search rules;
  moment = search rules;
  faults = search rules;
  maker_faults = search rules;
  host_faults = search rules;
  room = search rules;
  plan_kept = search rules;
  place_kept = search rules;
  looked = seen_turn (goal.at.returns-in-Fault-clause-gives c).After-push-2;
}
