-- Looks one after the other are looks.
use Rattle.std.proofs.Common.{◌≡◌, ◌≤◌, ℕ, Bool, arith, ◌∙◌, inl, inr}
use Rattle.std.specs.Prelude.{◌⊎◌}
use Rattle.wx_tree.specs.Trees.{Tree}
use Rattle.wx_scan.specs.Looked.{Looked, LooksOnce, OnlyLooks, Rose}
use Rattle.wx_poller.specs.Fitting.{IsTold}

pub one_look : (failed : Bool) (a b : Looked) → LooksOnce failed a b → OnlyLooks a b
one_look failed a b h = record { same = h.same; looks = h.looks; faults = h.faults }

pub rose_before : (a b c : Looked) → OnlyLooks b c → Rose a.faults b.faults → Rose a.faults c.faults
rose_before a b c h (inl r) = inl (omega (arith, h.faults, r))
rose_before a b c h (inr r) = inr (omega (arith, h.faults, r))

pub rose_after : (a b c : Looked) → OnlyLooks a b → Rose b.faults c.faults → Rose a.faults c.faults
rose_after a b c h (inl r) = inl (omega (arith, h.faults, r))
rose_after a b c h (inr r) = inr r

-- where the looks are told, the first are, and the later ones
pub told_before : (t : Tree) (follow : Bool) (a b c : Looked) → OnlyLooks b c → IsTold t follow a c → IsTold t follow a b
told_before t follow a b c h k = record { no_links = k.no_links; told = k.told; no_fault = λ r. k.no_fault (rose_before a b c h r) }

pub told_after : (t : Tree) (follow : Bool) (a b c : Looked) → OnlyLooks a b → IsTold t follow a c → IsTold t follow b c
told_after t follow a b c h k = record { no_links = k.no_links; told = h.same.tree ∙ k.told; no_fault = λ r. k.no_fault (rose_after a b c h r) }
