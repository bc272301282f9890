use Rattle.std.proofs.Common.{◌≡◌, ap, sym, ◌∙◌, rules}
use Rattle.std.specs.Prelude.{is_some}
use Rattle.wx_machine.specs.Table.{waiters}
use Rattle.wx_machine.proofs.SteadyLemmas.{steady_then}
use Rattle.wx_job.specs.declared.task.JobTask.{JobTask}
use Rattle.wx_job.specs.Prepared.{fresh_or}
use Rattle.wx_job.specs.Stands.{kit_of}
use Rattle.wx_job.proofs.DoneLemmas.{done_behind, ok_of, fresh_same}
use Rattle.wx_job.proofs.Sets.{steps}
use Rattle.wx_job.proofs.task.JobTask.restart.Goals as goal

pub returns-clause-served : goal.returns-clause-served
returns-clause-served g c = record { stood = search (rules, steps); keeps = search (rules, steps); uses = record { steady = steady_then c.reap.ensures.served.uses.steady (steady_then c.raise_parked.ensures.spends.steady c.start.ensures.served.uses.steady); now = search (rules, steps); in_journal = search (rules, steps); in_host = search (rules, steps); in_hooks = search (rules, steps) } }

pub returns-clause-done : goal.returns-clause-done
returns-clause-done g c =
    let reaped = c.reap.ensures.waited.fields in
    let raised = c.raise_parked.ensures.fields in
    let reaps = ok_of c.reap.result (sym c.is_err.ensures.value ∙ c.if-is_err.false) c.reap.ensures.ok in
    let parked : c.reap.new.self.parked.tickets ≡ c.args.self.now.parked.tickets = ap (λ (k : JobTask). k.parked.tickets) reaped in
    let plan = fresh_same (is_some c.args.what) c.args.self.now.id (kit_of c.raise_parked.new.self) (kit_of c.args.self.now) c.args.ticket
    (ap (λ (k : JobTask). k.command) raised ∙ ap (λ (k : JobTask). k.command) reaped) (ap (λ (k : JobTask). k.handler) raised ∙ ap (λ (k : JobTask). k.handler) reaped)
    (ap (λ (k : JobTask). k.tag) raised ∙ ap (λ (k : JobTask). k.tag) reaped) (ap (λ (k : JobTask). k.hook) raised ∙ ap (λ (k : JobTask). k.hook) reaped) in
    let id : c.raise_parked.new.self.id ≡ c.args.self.now.id = ap (λ (k : JobTask). k.id) raised ∙ ap (λ (k : JobTask). k.id) reaped in
    done_behind c.start.result c.start.new.self (is_some c.args.what) _ (fresh_or (is_some c.args.what) c.args.self.now.id (kit_of c.args.self.now) c.args.ticket) _ _ _ _ _ _ _ _ _
    (λ k₀ p₀ a₀ hooks₀ r. c.raise_parked.ensures.follows (fresh_or (is_some c.args.what) c.args.self.now.id (kit_of c.args.self.now) c.args.ticket) k₀ p₀ a₀ hooks₀ (g.K.JobHooks.seen c.reap.new.hooks).told (rw parked (reaps (waiters c.args.self.now.parked.tickets (fresh_or (is_some c.args.what) c.args.self.now.id (kit_of c.args.self.now) c.args.ticket)) k₀ p₀ a₀ hooks₀ r)))
    (rw (← plan, ← id) c.start.ensures.done)
