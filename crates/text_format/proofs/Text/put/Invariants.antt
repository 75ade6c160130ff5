-- The invariant of `Text::put`: what is copied so far, from the text's place on.
use mathlib.Core.Path.{◌≡◌}
use lib.ListN.{length, take}
use lib.Seq.{sets}
use Rattle.text_format.proofs.Text.put.Given as goal

abbrev pub invariant-loop-i : goal.invariant-loop-i
invariant-loop-i l = (l.self.at ≡ l.initial.self.at)
    × (l.self.buf.ghost_name ≡ l.initial.self.buf.ghost_name)
    × (length l.self.buf.now ≡ length l.initial.self.buf.now)
    × (l.self.buf.now ≡ sets l.initial.self.buf.now l.initial.self.at (take l.i l.s))
