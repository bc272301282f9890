use Rattle.std.proofs.Common.{◌≡◌, [], false}
use Rattle.wx_holding.specs.Holding.{state_of}
use Rattle.wx_recursor.specs.Steps.{told}
use Rattle.wx_fs.proofs.Keeping.{replay_kept, restless, unspent_keeps}
use Rattle.wx_fs.proofs.Telling.{tells_replay}
use Rattle.wx_fs.proofs.recursor.Recursor.replay_backend_snapshot.Goals as goal

pub invariant_of-self-2 : goal.invariant_of-self-2
invariant_of-self-2 g c =
    let s = state_of c.args.self.now.held in
    let u = state_of c.replay.new.held in
    let left = c.replace-shown.new.dest.items in
    let none : left ≡ [] = cc in
    let shown : c.replace-shown.result.items ≡ u.shown = cc in
    let kind = c.args.self.now.kind in
    let errors = c.in_ok-errors.errors in
    let t = record (told u) { shown = left } in
    let tells = tells_replay kind s u left c.replace-shown.result.items errors c.in_ok-replay-in-Some.ensures.state none shown c.in_ok-errors.ensures in
    record { keeps = unspent_keeps s t c.args.self.now.spent false c.if-self.false c.args.self.now.keeps (replay_kept kind s t errors u.asks_rebuild tells); rests = restless t false }

pub returns-clause-state : goal.returns-clause-state
returns-clause-state g c =
    let u = state_of c.replay.new.held in
    let left = c.replace-shown.new.dest.items in
    let none : left ≡ [] = cc in
    let shown : c.replace-shown.result.items ≡ u.shown = cc in
    tells_replay c.args.self.now.kind (state_of c.args.self.now.held) u left c.replace-shown.result.items c.in_ok-errors.errors c.in_ok-replay-in-Some.ensures.state none shown c.in_ok-errors.ensures
