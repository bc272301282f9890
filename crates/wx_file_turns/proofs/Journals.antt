-- What entries leave of how few steps there are, and of what is known of them.
use Rattle.std.proofs.Common.{◌≡◌, ℕ, ◌+◌, ◌≤◌, Bool, true, false, List, [], ◌∷◌, length, arith, refl, sym, ◌∙◌, inl, inr}
use Rattle.std.specs.Prelude.{Option}
use Rattle.wx_tree.specs.Paths.{Path}
use Rattle.wx_tree.specs.Trees.{Tree}
use Rattle.wx_scan.specs.Looked.{Rose}
use Rattle.wx_fs.specs.Kept.{kept_roots}
use Rattle.wx_journal.specs.declared.entry.Entry.{Entry}
use Rattle.wx_journal.specs.declared.entry.Entry.TheVariants.{Applied, Word as Said}
use Rattle.wx_journal.specs.declared.entry.Word.TheVariants.{Stepped}
use Rattle.wx_journal.specs.Names.{count}
use Rattle.wx_machine.specs.Start.{Start}
use Rattle.wx_machine.specs.Settings.{settings}
use Rattle.wx_machine.specs.Steps.{brings_work, is_step, step_count, work_count}
use Rattle.wx_machine.specs.Files.{AddsNoFiles, is_about_files}
use Rattle.wx_machine.specs.Added.{Added, Each, Same, More}
use Rattle.wx_machine.specs.Leads.{Follows, Here, Leads, Then}
use Rattle.wx_machine.proofs.PaidLaws.{no_step}
use Rattle.wx_file_turns.specs.Calm.{AreCalm}
use Rattle.wx_file_turns.specs.FewSteps.{AddsBeside, FewSteps, IsBeside, IsFewMore, SamePlace, ShowsAbsent, TurnShowsAbsent, earlier_roots, is_applied, newest_roots, steps_since}

-- ---- entries on top

-- the longer journal is the shorter one with entries on top
abbrev pub Adds : List Entry → List Entry → Type 0
Adds p p' = Added (λ q e. Unit {0}) p p'

pub adds_then : {P : List Entry → Entry → Type 0} (p q r : List Entry) → Added P p q → Added P q r → Added P p r
adds_then p q _ a Same = a
adds_then p q _ a (More e r b is) = More e r (adds_then p q r a b) is

pub adds_any : {P : List Entry → Entry → Type 0} (p q : List Entry) → Added P p q → Adds p q
adds_any p _ Same = Same
adds_any p _ (More e q a is) = More e q (adds_any p q a) tt

leads_adds : (s : Start) (p : List Entry) (w h : Option (List Entry)) (q : List Entry) (v k : Option (List Entry)) → Leads s p w h q v k → Adds p q
leads_adds s p w h _ _ _ Here = Same
leads_adds s p w h _ _ _ (Then e q v k more due) = More e q (leads_adds s p w h q v k more) tt

pub follows_adds : (s : Start) (p q : List Entry) (w h v k : Option (List Entry)) → Follows s p w h q v k → Adds p q
follows_adds s p q w h v k on = leads_adds s p w h q v k (on p w h Here)

-- where it holds of each entry of the longer one it does of those of the shorter
pub each_before : (P : List Entry → Entry → Type 0) (p q : List Entry) → Adds p q → Each P q → Each P p
each_before P p _ Same all = all
each_before P p _ (More e q a is) all = each_before P p q a all.1

pub calm_before : (ok : ℕ → Path → Bool) (s : Start) (p q : List Entry) → Adds p q → AreCalm ok s q → AreCalm ok s p
calm_before ok s p q a all = each_before _ p q a all

-- ---- counts

count_kept : (kind : Entry → Bool) (e : Entry) (p : List Entry) (is : Bool) → kind e ≡ is → count kind p ≤ count kind (e ∷ p)
count_kept kind e p true is = rw is (omega arith)
count_kept kind e p false is = rw is (omega arith)

pub count_more : (kind : Entry → Bool) (p q : List Entry) → Adds p q → count kind p ≤ count kind q
count_more kind p _ Same = omega arith
count_more kind p _ (More e q a is) =
    let first = count_more kind p q a in
    let then = count_kept kind e q (kind e) refl in
    omega (arith, first, then)

count_none : (kind : Entry → Bool) (e : Entry) (p : List Entry) (n : ℕ) (is : Bool) → kind e ≡ is → n ≤ count kind p → count kind (e ∷ p) ≡ n → (kind e ≡ false) × (count kind p ≡ n)
count_none kind e p n true is less same = let more : count kind p + 1 ≡ n = rw is at same in absurd (omega (arith, less, more))
count_none kind e p n false is less same = (is, rw is at same)

-- where as many are of a kind as before none that came is
pub none_of : (kind : Entry → Bool) (p q : List Entry) → Adds p q → count kind q ≡ count kind p → Added (λ r e. kind e ≡ false) p q
none_of kind p _ Same same = Same
none_of kind p _ (More e q a is) same =
    let h = count_none kind e q (count kind p) (kind e) refl (count_more kind p q a) same in
    More e q (none_of kind p q a h.1) h.0

-- ---- steps

-- none of these entries is a step
abbrev pub AddsNoStep : List Entry → List Entry → Type 0
AddsNoStep p q = Added (λ r e. is_step e ≡ false) p q

pub few_over : (s : Start) (t : Tree) (p q : List Entry) → AddsNoStep p q → FewSteps s t p → FewSteps s t q
few_over s t p _ Same few = few
few_over s t p _ (More e q a is) few = (λ step. absurd (let no : false ≡ true = sym is ∙ step in cc), few_over s t p q a few)

-- as many steps as before
pub few_still : (s : Start) (t : Tree) (p q : List Entry) → Adds p q → step_count q ≡ step_count p → FewSteps s t p → FewSteps s t q
few_still s t p q a same few = few_over s t p q (none_of is_step p q a same) few

-- one step more
pub few_more : (s : Start) (t : Tree) (p : List Entry) → FewSteps s t p → IsFewMore s t p → FewSteps s t (Said Stepped ∷ p)
few_more s t p few more = (λ step. more, few)

pub few_first : (s : Start) (t : Tree) → FewSteps s t []
few_first s t = tt

-- ---- what was applied, and the steps since

pub place_one : (s : Start) (e : Entry) (p : List Entry) → IsBeside e → SamePlace s p (e ∷ p)
place_one s e p h = record { newest = rw h.none_applied refl; earlier = rw h.none_applied refl; steps = rw (h.none_applied, h.none_done) refl }

pub place_then : (s : Start) (p q r : List Entry) → SamePlace s p q → SamePlace s q r → SamePlace s p r
place_then s p q r a b = record { newest = b.newest ∙ a.newest; earlier = b.earlier ∙ a.earlier; steps = b.steps ∙ a.steps }

pub place_over : (s : Start) (p q : List Entry) → AddsBeside p q → SamePlace s p q
place_over s p _ Same = record { newest = refl; earlier = refl; steps = refl }
place_over s p _ (More e q a is) = place_then s p q (e ∷ q) (place_over s p q a) (place_one s e q is)

applied_works : (e : Entry) → brings_work e ≡ false → is_applied e ≡ false
applied_works (Applied revision) is = absurd cc
applied_works (_) is = refl

-- where there are as many steps as before, and entries that bring work
pub beside_of : (p q : List Entry) → Adds p q → step_count q ≡ step_count p → work_count q ≡ work_count p → AddsBeside p q
beside_of p _ Same steps work = Same
beside_of p _ (More e q a is) steps work =
    let h = count_none is_step e q (step_count p) (is_step e) refl (count_more is_step p q a) steps in
    let k = count_none brings_work e q (work_count p) (brings_work e) refl (count_more brings_work p q a) work in
    More e q (beside_of p q a h.1 k.1) (record { none_applied = applied_works e k.0; none_done = h.0 })

pub place_kept : (s : Start) (p q : List Entry) → Adds p q → step_count q ≡ step_count p → work_count q ≡ work_count p → SamePlace s p q
place_kept s p q a steps work = place_over s p q (beside_of p q a steps work)

beside_files : (e : Entry) → is_about_files e ≡ false → is_applied e ≡ false
beside_files (Applied revision) other = absurd cc
beside_files (_) other = refl

-- entries about nothing that is watched
pub beside : (p q : List Entry) → AddsNoFiles p q → AddsBeside p q
beside p _ Same = Same
beside p _ (More e q a other) = More e q (beside p q a) (record { none_applied = beside_files e other; none_done = no_step e other })

pub beside_no_step : (p q : List Entry) → AddsBeside p q → AddsNoStep p q
beside_no_step p _ Same = Same
beside_no_step p _ (More e q a is) = More e q (beside_no_step p q a) is.none_done

-- settings were applied
pub record IsAppliedNow (s : Start) (p q : List Entry) : Type 0 where
  pub newest : newest_roots s q ≡ kept_roots s.folder (settings s p).pathset
  pub earlier : earlier_roots s q ≡ length (newest_roots s p) + earlier_roots s p
  pub none_yet : steps_since q ≡ 0

pub applied_now : (s : Start) (revision : ℕ) (p : List Entry) → IsAppliedNow s p (Applied revision ∷ p)
applied_now s revision p = record { newest = refl; earlier = refl; none_yet = refl }

-- ---- what a turn showed

-- entries more, none of them a turn, each error of which is that of an absent root
pub shows_over : (s : Start) (t : Tree) (p q : List Entry) → Added (λ r e. ShowsAbsent s t r e) p q → TurnShowsAbsent s t p → TurnShowsAbsent s t q
shows_over s t p _ Same h = h
shows_over s t p _ (More e q a is) h = λ other. (is, shows_over s t p q a h)

-- ---- counts of faults

pub no_rise_first : (a b c : ℕ) → b ≤ c → (Rose a c → ⊥) → Rose a b → ⊥
no_rise_first a b c then none (inl less) = none (inl (omega (arith, then, less)))
no_rise_first a b c then none (inr full) = none (inr (omega (arith, then, full)))

pub no_rise_then : (a b c : ℕ) → a ≤ b → (Rose a c → ⊥) → Rose b c → ⊥
no_rise_then a b c first none (inl less) = none (inl (omega (arith, first, less)))
no_rise_then a b c first none (inr full) = none (inr full)
