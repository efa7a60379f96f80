use Rattle.std.proofs.Common.{◌≡◌, take}
use Rattle.hgs_follow.specs.Lines.{lines_text}
use Rattle.hgs_follow.proofs.text.text_of.Given as goal

abbrev pub invariant-loop-place : goal.invariant-loop-place
invariant-loop-place l = l.text.items ≡ lines_text (take l.place l.lines)
