use Rattle.std.proofs.Common.{◌≡◌, ◌≤◌, ◌+◌, Bool, true, drop, length}
use Rattle.wx_tree.specs.Paths.{Path}
use Rattle.wx_recursor.specs.Seen.{passes}
use Rattle.wx_step.proofs.judging.check_dirs.Given as goal

abbrev pub invariant-loop-level : goal.invariant-loop-level
invariant-loop-level g l =
    record {
      under : g.D.DirCheck.under l.dirs ≡ g.D.DirCheck.under l.fn.dirs;
      place : g.D.DirCheck.place l.dirs ≡ g.D.DirCheck.place l.fn.dirs;
      kept : (b : g.D.DirCheck.Base) → g.D.DirCheck.kept b l.fn.dirs → g.D.DirCheck.kept b l.dirs;
      agrees : (ok : Path → Bool) → g.D.DirCheck.agrees ok l.dirs → g.D.DirCheck.agrees ok l.fn.dirs;
      judged : (ok : Path → Bool) → g.D.DirCheck.agrees ok l.dirs → passes ok l.fn.root (drop l.level l.fn.path) ≡ true;
      identity : l.identity ≡ l.fn.identity;
      within : 1 ≤ l.level → l.level + length l.fn.root.path ≤ length l.fn.path;
    }

abbrev pub decreases-loop-level : goal.decreases-loop-level
decreases-loop-level g l = l.level
