use Rattle.std.proofs.Common.{refl, ap, subst, sym, ◌∙◌}
use Rattle.wx_scan.specs.Backings.{AllSpellPaths}
use Rattle.wx_poller.specs.Fitting.{shown}
use Rattle.wx_poller.proofs.poller.Poller.poll.Goals as goal

pub returns-in-Err-clause-looked : goal.returns-in-Err-clause-looked
returns-in-Err-clause-looked g c = c.list_all.ensures.looked

pub returns-in-Err-clause-rest : goal.returns-in-Err-clause-rest
returns-in-Err-clause-rest g c = c.list_all.ensures.rest

pub returns-in-Err-clause-place : goal.returns-in-Err-clause-place
returns-in-Err-clause-place g c = c.list_all.ensures.place

pub returns-in-Err-clause-polls : goal.returns-in-Err-clause-polls
returns-in-Err-clause-polls g c = record { follow = refl; registered = refl; brought = refl; faults = refl }

pub returns-in-Err-clause-unpolled : goal.returns-in-Err-clause-unpolled
returns-in-Err-clause-unpolled g c = (refl, refl)

pub returns-in-Err-clause-told : goal.returns-in-Err-clause-told
returns-in-Err-clause-told g c = λ t x n s. c.in-Err.ensures.told t x n (subst (AllSpellPaths t) (sym c.as_slice.ensures.value) s)

pub returns-in-Err-changes-clause-looked : goal.returns-in-Err-changes-clause-looked
returns-in-Err-changes-clause-looked g c = c.list_all.ensures.looked

pub returns-in-Err-changes-clause-rest : goal.returns-in-Err-changes-clause-rest
returns-in-Err-changes-clause-rest g c = c.list_all.ensures.rest

pub returns-in-Err-changes-clause-place : goal.returns-in-Err-changes-clause-place
returns-in-Err-changes-clause-place g c = c.list_all.ensures.place

pub returns-in-Err-changes-clause-polls : goal.returns-in-Err-changes-clause-polls
returns-in-Err-changes-clause-polls g c = record { follow = refl; registered = refl; brought = refl; faults = refl }

pub returns-in-Err-changes-clause-unpolled : goal.returns-in-Err-changes-clause-unpolled
returns-in-Err-changes-clause-unpolled g c = (refl, refl)

pub returns-in-Err-changes-clause-told : goal.returns-in-Err-changes-clause-told
returns-in-Err-changes-clause-told g c = λ t x n s. refl

pub returns-in-Ok-changes-clause-looked : goal.returns-in-Ok-changes-clause-looked
returns-in-Ok-changes-clause-looked g c = c.list_all.ensures.looked

pub returns-in-Ok-changes-clause-rest : goal.returns-in-Ok-changes-clause-rest
returns-in-Ok-changes-clause-rest g c = c.list_all.ensures.rest

pub returns-in-Ok-changes-clause-place : goal.returns-in-Ok-changes-clause-place
returns-in-Ok-changes-clause-place g c = c.list_all.ensures.place

pub returns-in-Ok-changes-clause-polls : goal.returns-in-Ok-changes-clause-polls
returns-in-Ok-changes-clause-polls g c = record { follow = refl; registered = refl; brought = refl; faults = refl }

pub returns-in-Ok-changes-clause-changes : goal.returns-in-Ok-changes-clause-changes
returns-in-Ok-changes-clause-changes g c = c.of.ensures ∙ c.in-Ok-changes.ensures.changes

pub returns-in-Ok-changes-clause-maps : goal.returns-in-Ok-changes-clause-maps
returns-in-Ok-changes-clause-maps g c = c.in-Ok-changes.ensures.maps

pub returns-in-Ok-changes-clause-told : goal.returns-in-Ok-changes-clause-told
returns-in-Ok-changes-clause-told g c = λ t x n s p. c.in-Ok.ensures.told t x n (subst (AllSpellPaths t) (sym c.as_slice.ensures.value) s) p ∙ ap (λ ks. shown t ks p) c.as_slice.ensures.value
