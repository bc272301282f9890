use Rattle.std.proofs.Common.{ap, sym, ◌∙◌, subst, map}
use Rattle.wx_tree.specs.Places.{place}
use Rattle.wx_scan.specs.Told.{SpellsPath}
use Rattle.wx_holding.proofs.StillLooks.{entries_found}
use Rattle.wx_holding.proofs.looking.list.Goals as goal

pub returns-in-Ok-clause-told : goal.returns-in-Ok-clause-told
returns-in-Ok-clause-told g c t still named readable directory =
    let spells : SpellsPath t c.args.path.now c.in_ok-spelled.spelled = subst (λ bytes. SpellsPath t c.args.path.now bytes) (sym c.in_ok-spelled.ensures.spelled) readable in
    let listed = c.in-Ok.ensures.told t c.args.path.now still.told spells still.no_fault in
    entries_found t c.args.path.now c.in-Ok.paths c.in_ok-places-in-Ok.field-0 named readable directory (c.in_ok-places-in-Ok.ensures ∙ ap (map place) c.as_slice.ensures) listed
