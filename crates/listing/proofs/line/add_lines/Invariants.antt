use Rattle.std.proofs.Common.{◌≡◌, ◌++◌, drop, string_bytes}
use Rattle.listing.specs.Lines.{lines}
use Rattle.listing.proofs.line.add_lines.Given as goal

abbrev pub invariant-loop-place : goal.invariant-loop-place
invariant-loop-place g l = string_bytes l.out ++ lines g.R.Listed.line l.place (drop l.place l.rows) ≡ string_bytes l.initial.out ++ lines g.R.Listed.line 0 l.rows
