-- What one step after another leaves of the outside.
use Rattle.std.proofs.Common.{◌∙◌, refl, arith}
use Rattle.wx_scan.specs.Looked.{Looked}
use Rattle.wx_machine.specs.Seen.{Seen}
use Rattle.wx_machine.specs.Steady.{IsSteady, OnlyRoom, StaysLooked}

pub looked_none : {a : Looked} → StaysLooked a a
looked_none = record { looks_kept = omega arith; faults_kept = omega arith; exact_kept = λ h. h; shape_kept = λ t h. h; tree_kept = λ t h. refl }

pub looked_then : {a b c : Looked} → StaysLooked a b → StaysLooked b c → StaysLooked a c
looked_then h g = record {
  looks_kept = omega (arith, h.looks_kept, g.looks_kept);
  faults_kept = omega (arith, h.faults_kept, g.faults_kept);
  exact_kept = λ e. g.exact_kept (h.exact_kept e);
  shape_kept = λ t e. g.shape_kept t (h.shape_kept t e);
  tree_kept = λ t e. g.tree_kept t (h.shape_kept t e) ∙ h.tree_kept t e;
}

pub steady_none : {Fixed : Type 0} {a : Seen Fixed} → IsSteady a a
steady_none = record { plan_kept = refl; progress_kept = refl; place_kept = refl; looked_kept = looked_none }

pub steady_then : {Fixed : Type 0} {a b c : Seen Fixed} → IsSteady a b → IsSteady b c → IsSteady a c
steady_then h g = record { plan_kept = g.plan_kept ∙ h.plan_kept; progress_kept = g.progress_kept ∙ h.progress_kept; place_kept = g.place_kept ∙ h.place_kept; looked_kept = looked_then h.looked_kept g.looked_kept }

pub only_none : {Fixed : Type 0} {a : Seen Fixed} → OnlyRoom a a
only_none = record { steady = steady_none; shown = refl; kept = omega arith }

pub only_then : {Fixed : Type 0} {a b c : Seen Fixed} → OnlyRoom a b → OnlyRoom b c → OnlyRoom a c
only_then h g = record { steady = steady_then h.steady g.steady; shown = g.shown ∙ h.shown; kept = omega (arith, h.kept, g.kept) }
