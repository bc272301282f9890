use Rattle.std.proofs.Common.{rules, ◌≡◌, ap, ◌∙◌}
use Rattle.std.specs.List.{filter}
use Rattle.std.specs.Map.{values_of}
use Rattle.std.proofs.lemmas.Map.Entries.{filter_from_retain_pairs}
use Rattle.wx_hooks.specs.HeldJobs.{is_here}
use Rattle.wx_hooks.proofs.ByIdLemmas.{filtered_values, under_filtered}
use Rattle.wx_hooks.proofs.job_list.JobList.leave_gone.Goals as goal

pub invariant_of-self : goal.invariant_of-self
invariant_of-self c =
    let es = c.self.inside.items.entries in
    let is : c.retain.new.self.entries ≡ filter (λ e. is_here e.1) es = filter_from_retain_pairs _ (λ f. Unit {0}) (λ e. is_here e.1) (λ f k h b w d i q. search rules) _ _ _ tt c.retain.ensures.filtered in
    rw is (under_filtered (λ e. is_here e.1) es c.self.invariant)

pub returns-clause-here : goal.returns-clause-here
returns-clause-here c =
    let es = c.self.inside.items.entries in
    let is : c.retain.new.self.entries ≡ filter (λ e. is_here e.1) es = filter_from_retain_pairs _ (λ f. Unit {0}) (λ e. is_here e.1) (λ f k h b w d i q. search rules) _ _ _ tt c.retain.ensures.filtered in
    ap values_of is ∙ filtered_values es ∙ ap (filter is_here) c.self.view_is
