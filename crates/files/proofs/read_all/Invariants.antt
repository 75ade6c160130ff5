-- `read_all`: what was read so far lies at the front of the buffer, whose length stays, and is what the reader lost. The measure is the buffer's rest.
use Rattle.std.proofs.Common.{◌≡◌, ◌-◌, ◌≤◌, length, take}
use Rattle.std.specs.Io.KnownBytes.{Consumes}
use Rattle.files.proofs.read_all.Given as goal

abbrev pub invariant-loop-bytes : goal.invariant-loop-bytes
invariant-loop-bytes g l =
    (length l.buf ≡ length l.initial.buf) × (l.bytes ≤ length l.buf) × Consumes (g.F.Read.remaining l.initial.file) (g.F.Read.remaining l.file) (take l.bytes l.buf)

abbrev pub decreases-loop-bytes : goal.decreases-loop-bytes
decreases-loop-bytes g l = length l.initial.buf - l.bytes
