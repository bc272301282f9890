use Rattle.std.proofs.Common.{rules, [], arith, refl, ap, sym, ◌∙◌}
use Rattle.wx_machine.proofs.EndLaws.{dying_keeps, dying_turns}
use Rattle.wx_machine.proofs.FaultLaws.{counted_from}
use Rattle.wx_machine.proofs.AllJobs.{same_turns}
use Rattle.wx_machine.specs.Kept.{Same, Still, Past}
use Rattle.wx_machine.proofs.KeptLemmas.{promised}
use Rattle.wx_machine.specs.Leads.{Here}
use Rattle.std.specs.Prelude.{None}
use Rattle.wx_machine.proofs.NoFiles.{begin_adds_none, dying_adds_none, source_kept}
use Rattle.wx_machine.proofs.PaidLaws.{paid_first, paid_kept}
use Rattle.wx_machine.proofs.RunLaws.{orderly}
use Rattle.wx_machine.proofs.BatchLaws.{run_led, run_is_batched, run_has_batches}
use Rattle.wx_engine.proofs.MainLaws.{leads_world, leads_hooks, dying_hooks, answered_ran, ran_is_batched, ran_has_batches}
use Rattle.wx_engine.proofs.BeginLemmas.{begun_run}
use Rattle.wx_engine.proofs.RunLemmas.{stopped, caused_by, broken, wants, calm_stops, calm_begun}
use Rattle.wx_file_turns.proofs.Journals.{few_first}
use Rattle.wx_engine.proofs.SettleLemmas.{begun_few, ended_calm, ended_few, first_settles}
use Rattle.wx_engine.proofs.WatchLemmas.{few_steps}
use Rattle.wx_engine.proofs.running.run.Goals as goal

pub returns-in_err-about-clause-answers : goal.returns-in_err-about-clause-answers
returns-in_err-about-clause-answers g c = wants g.start c.args.journal.now.past c.from_residual.result c.from_residual.ensures.1 (rw c.requires.1.1.1.1 (broken g.start [] tt refl tt))

pub returns-in_err-about-clause-lists : goal.returns-in_err-about-clause-lists
returns-in_err-about-clause-lists g c = rw c.requires.1.1.1.1 (record { world_told = refl; hooks_told = refl; turns_told = refl; count = omega arith; early = omega arith; host_faults = counted_from [] _ [] _ (λ p n before. before); steps = few_steps [] _ _ (paid_first _) })

pub returns-in_err-about-clause-laws : goal.returns-in_err-about-clause-laws
returns-in_err-about-clause-laws g c = rw c.requires.1.1.1.1 (record { batched = refl; batches = tt; calm = tt; rise = tt })

pub returns-in_err-about-clause-promised : goal.returns-in_err-about-clause-promised
returns-in_err-about-clause-promised g c = rw c.requires.1.1.1.1 (promised (λ h. g.H.JobHooks.seen h) (λ plan. g.H.JobHooks.rule plan) (λ h. g.H.JobHooks.stands h) c.args.hooks.now [] c.args.hooks.now [] (λ h. g.met.H.JobHooks.stands_other h) tt Still)

-- ---- the beginning alone

pub returns-in_err-state-clause-answers : goal.returns-in_err-state-clause-answers
returns-in_err-state-clause-answers g c = wants g.start c.begin.new.journal.past c.from_residual-in_err-state.result c.from_residual-in_err-state.ensures.1 (broken g.start c.begin.new.journal.past (begun_run g.start _ _ c.requires.1.1.1.1 c.begin.ensures.adds) c.begin.ensures.none c.in_err-state.ensures.cut)

pub returns-in_err-state-clause-lists : goal.returns-in_err-state-clause-lists
returns-in_err-state-clause-lists g c =
    let adds = rw c.requires.1.1.1.1 at c.begin.ensures.adds in
    let same = adds.turns [] (same_turns []) in
    record {
      world_told = leads_world g.start _ _ _ _ _ (adds.follows (g.W.Outside.seen c.args.world.now).shown.told (g.H.JobHooks.seen c.args.hooks.now).told [] _ _ Here);
      hooks_told = leads_hooks g.start _ _ _ _ _ (adds.follows (g.W.Outside.seen c.args.world.now).shown.told (g.H.JobHooks.seen c.args.hooks.now).told [] _ _ Here);
      turns_told = sym (same.told (g.W.Outside.seen c.args.world.now).progress.turns);
      count = omega (arith, same.count);
      early = omega (arith, same.early);
      host_faults = counted_from [] _ _ _ (adds.counts _);
      steps = few_steps c.begin.new.journal.past _ _ (paid_kept _ [] c.begin.new.journal.past _ _ 0 (begin_adds_none g.start c.begin.new.journal.past None None None None (adds.follows None None) adds.turns) (omega arith) (paid_first _));
    }

pub returns-in_err-state-clause-laws : goal.returns-in_err-state-clause-laws
returns-in_err-state-clause-laws g c =
    let run = begun_run g.start _ _ c.requires.1.1.1.1 c.begin.ensures.adds in
    record { batched = run_is_batched g.start _ run; batches = run_has_batches g.start _ run; calm = calm_begun g.start _ run c.in_err-state.ensures.cut; rise = ((rw c.requires.1.1.1.1 at c.begin.ensures.adds).turns [] (same_turns [])).rise tt }

pub returns-in_err-state-clause-promised : goal.returns-in_err-state-clause-promised
returns-in_err-state-clause-promised g c =
    promised (λ h. g.H.JobHooks.seen h) (λ plan. g.H.JobHooks.rule plan) (λ h. g.H.JobHooks.stands h) c.args.hooks.now [] c.args.hooks.now c.begin.new.journal.past (λ h. g.met.H.JobHooks.stands_other h) (orderly g.start _ (begun_run g.start _ _ c.requires.1.1.1.1 c.begin.ensures.adds)).own
    (Past _ _ _ Still ((rw c.requires.1.1.1.1 at c.begin.ensures.adds).quiet [] Same))

-- ---- with the turns and the end

pub serve_turns-answer-requires : goal.serve_turns-answer-requires
serve_turns-answer-requires g c = λ κs lives.
    let adds = rw c.requires.1.1.1.1 at c.begin.ensures.adds in
    let same = adds.turns [] (same_turns []) in (
      lives.0,
      (
        lives.1.0,
        (
          lives.1.1,
          (
            record {
              rests = record {
                stands = c.in_ok-state.ensures.stands;
                room = record { in_journal = omega (arith, c.in_ok-state.ensures.room); in_host = omega (arith, c.in_ok-state.ensures.room) };
                rise = same.rise tt;
              };
              run = begun_run g.start _ _ c.requires.1.1.1.1 c.begin.ensures.adds;
              files = (rw c.requires.1.1.1.0 at c.in_ok-about.ensures.stands) _ (source_kept g.start [] _ (begin_adds_none g.start _ None None None None (adds.follows None None) adds.turns));
              open_is = c.in_ok-state.ensures.open;
              fault = same.fault;
              now = omega (arith, same.now);
            },
            search rules,
          ),
        ),
      ),
    )

pub returns-clause-answers : goal.returns-clause-answers
returns-clause-answers g c =
    stopped g.start c.serve_turns-answer.new.journal.past c.end_jobs.new.journal.past c.serve_turns-answer.result (run_led g.start _ _ _ _ _ _ c.serve_turns-answer.ensures.serves.follows (begun_run g.start _ _ c.requires.1.1.1.1 c.begin.ensures.adds)) c.serve_turns-answer.ensures.stops c.end_jobs.ensures.dying c.end_jobs.ensures.none

pub returns-clause-cause : goal.returns-clause-cause
returns-clause-cause g c =
    caused_by g.start c.serve_turns-answer.new.journal.past c.end_jobs.new.journal.past c.serve_turns-answer.result _ _ _ (sym c.end_jobs.ensures.kept.progress_kept) (run_led g.start _ _ _ _ _ _ c.serve_turns-answer.ensures.serves.follows (begun_run g.start _ _ c.requires.1.1.1.1 c.begin.ensures.adds)) c.end_jobs.ensures.dying c.end_jobs.ensures.none (returns-clause-answers g c) c.serve_turns-answer.ensures.cause

pub returns-clause-lists : goal.returns-clause-lists
returns-clause-lists g c =
    let adds = rw c.requires.1.1.1.1 at c.begin.ensures.adds in
    let served = c.serve_turns-answer.ensures.serves in
    let ended = dying_turns g.start _ _ c.end_jobs.ensures.dying in
    let begun = adds.turns [] (same_turns []) in
    let before = (g.W.Outside.seen c.args.world.now).progress.turns in
    let leads = served.follows [] _ _ (adds.follows (g.W.Outside.seen c.args.world.now).shown.told (g.H.JobHooks.seen c.args.hooks.now).told [] _ _ Here) in
    record {
      world_told = c.end_jobs.ensures.told (g.W.Outside.seen c.args.world.now).shown.told (leads_world g.start _ _ _ _ _ leads);
      hooks_told = leads_hooks g.start _ _ _ _ _ leads ∙ sym (dying_hooks c.serve_turns-answer.new.journal.past c.end_jobs.new.journal.past (g.H.JobHooks.seen c.args.hooks.now).told c.end_jobs.ensures.dying);
      turns_told = ap (λ k. k.turns) c.end_jobs.ensures.kept.progress_kept ∙ served.turns before (sym (begun.told before)) ∙ sym (ended.told before);
      count = omega (arith, begun.count, served.count, ended.count);
      early = omega (arith, begun.early, served.early, ended.early);
      host_faults = counted_from [] _ _ _ (λ p n k. c.end_jobs.ensures.faults p n (served.counts p n (adds.counts _ p n k)));
      steps = few_steps c.end_jobs.new.journal.past _ _ (paid_kept _ c.serve_turns-answer.new.journal.past c.end_jobs.new.journal.past _ _ 0 (dying_adds_none _ _ c.end_jobs.ensures.dying) c.end_jobs.ensures.kept.looked_kept.looks_kept (c.serve_turns-answer.ensures.paid _ (rw c.in_ok-about.ensures.owing (paid_kept _ [] c.begin.new.journal.past _ _ 0 (begin_adds_none g.start c.begin.new.journal.past None None None None (adds.follows None None) adds.turns) (omega arith) (paid_first _)))));
    }

pub returns-clause-laws : goal.returns-clause-laws
returns-clause-laws g c =
    let run = run_led g.start _ _ _ _ _ _ c.serve_turns-answer.ensures.serves.follows (begun_run g.start _ _ c.requires.1.1.1.1 c.begin.ensures.adds) in
    let ran = answered_ran g.start _ c.serve_turns-answer.result (returns-clause-answers g c) in
    record {
      batched = ran_is_batched g.start _ ran;
      batches = ran_has_batches g.start _ ran;
      calm = (dying_keeps g.start _ _ c.end_jobs.ensures.dying).calm (calm_stops g.start _ c.serve_turns-answer.result run c.serve_turns-answer.ensures.stops);
      rise = (dying_turns g.start _ _ c.end_jobs.ensures.dying).rise c.serve_turns-answer.ensures.rests.rise;
    }

pub returns-clause-promised : goal.returns-clause-promised
returns-clause-promised g c =
    let ended = dying_keeps g.start c.serve_turns-answer.new.journal.past c.end_jobs.new.journal.past c.end_jobs.ensures.dying in
    promised (λ h. g.H.JobHooks.seen h) (λ plan. g.H.JobHooks.rule plan) (λ h. g.H.JobHooks.stands h) c.args.hooks.now [] c.serve_turns-answer.new.hooks c.end_jobs.new.journal.past (λ h. g.met.H.JobHooks.stands_other h) (ended.own c.serve_turns-answer.ensures.rests.stands.own)
    (Past _ _ _ (c.serve_turns-answer.ensures.keeps _ _ (Past _ _ _ Still ((rw c.requires.1.1.1.1 at c.begin.ensures.adds).quiet [] Same))) (ended.quiet _ Same))

-- ---- where nothing fails

pub returns-in_err-about-clause-settles : goal.returns-in_err-about-clause-settles
returns-in_err-about-clause-settles g c = λ t ok calm. rw c.requires.1.1.1.1 (few_first g.start t)

pub returns-in_err-state-clause-settles : goal.returns-in_err-state-clause-settles
returns-in_err-state-clause-settles g c = λ t ok calm.
    let adds = rw c.requires.1.1.1.1 at c.begin.ensures.adds in
    begun_few g.start t c.begin.new.journal.past (begin_adds_none g.start _ None None None None (adds.follows None None) adds.turns)

pub returns-clause-settles : goal.returns-clause-settles
returns-clause-settles g c = λ t ok calm.
    let adds = rw c.requires.1.1.1.1 at c.begin.ensures.adds in
    let begun = begun_few g.start t c.begin.new.journal.past (begin_adds_none g.start _ None None None None (adds.follows None None) adds.turns) in
    let given = c.in_ok-about.ensures.given in
    let ended = dying_adds_none _ _ c.end_jobs.ensures.dying in
    ended_few g.start t _ _ ended (c.serve_turns-answer.ensures.settles t ok (ended_calm t ok g.start _ _ _ _ _ ended c.end_jobs.ensures.kept.looked_kept calm) (first_settles _ _ g.start t ok _ _ _ begun given.0 given.1))
