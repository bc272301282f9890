use Rattle.std.proofs.Common.{◌≡◌, Some, true, false, is_some, refl, ap, sym, ◌∙◌}
use Rattle.std.specs.Prelude.{None, option_map}
use Rattle.std.specs.Option.{option_copied_mut}
use Rattle.std.specs.List.{find}
use Rattle.std.specs.Map.{values_of}
use Rattle.wx_hooks.specs.HeldJobs.{is_of, task_of, with_task}
use Rattle.wx_hooks.proofs.ByIdLemmas.{found_by_id, written}
use Rattle.wx_hooks.proofs.job_list.JobList.task_mut.Goals as goal

pub unreachable-requires : goal.unreachable-requires
unreachable-requires c =
    let none : find (is_of c.args.id) c.args.self.now ≡ None = ap (find (is_of c.args.id)) (sym c.self.view_is) ∙ sym (found_by_id c.args.id c.self.inside.items.entries c.self.invariant) ∙ sym c.get_mut.ensures.value ∙ ap option_copied_mut c.in_default.is in
    let both : true ≡ false = sym c.requires.held ∙ ap is_some none in cc

pub invariant_of-self-lent : goal.invariant_of-self-lent
invariant_of-self-lent c w =
    let es = c.self.inside.items.entries in
    let h = c.in-Some.held.now in
    let found : find (is_of c.args.id) (values_of es) ≡ Some h = sym (found_by_id c.args.id es c.self.invariant) ∙ sym c.get_mut.ensures.value ∙ ap option_copied_mut c.in-Some.is in
    rw (c.get_mut.follows.holds (record h { task = w })).0 (written c.args.id es h w c.self.invariant found).1

pub returns : goal.returns
returns c =
    let es = c.self.inside.items.entries in
    let h = c.in-Some.held.now in
    let found : find (is_of c.args.id) (values_of es) ≡ Some h = sym (found_by_id c.args.id es c.self.invariant) ∙ sym c.get_mut.ensures.value ∙ ap option_copied_mut c.in-Some.is in (
      (refl, λ w. ap values_of (c.get_mut.follows.holds (record h { task = w })).0 ∙ (written c.args.id es h w c.self.invariant found).0 ∙ ap (λ hs. with_task c.args.id hs w) c.self.view_is),
      record { lends = tt; task = ap (option_map task_of) (ap (find (is_of c.args.id)) (sym c.self.view_is) ∙ found) },
    )
