-- `cut_needed`.
use mathlib.Core.Path.{◌≡◌}
use Prim.Native.Nat.{◌≤◌, ◌<◌}
use Rattle.std.proofs.Common.{rules}
use lib.IntN.{ℤ, pos}
use lib.Signed.{le_z, ◌<ℤ◌}
use mathlib.Core.Bool.{false}
use Rattle.cut_needs.proofs.Reliefs.{kept, is-steep, too_much, no_more}
use Rattle.cut_needs.proofs.cut_needed.Goals as goal

-- a figure as the machine keeps it, where it is above 0
rises : (z : ℤ) → kept z ≡ z → le_z (kept z) (pos 0) ≡ false → pos 0 <ℤ z
rises z same e = is-steep z (rw same at e)

pub returns-then-lt : goal.returns-then-lt
returns-then-lt c =
    let over : kept c.args.over.0 ≡ c.args.over.0 = search rules in
    let slope : kept c.args.slope.0 ≡ c.args.slope.0 = search rules in
    let more : c.args.most.0 < c.div_ceil.result = search rules in
    too_much c.args.over.0 c.args.slope.0 c.requires (rises c.args.slope.0 slope c.if-slope-le0.false) over slope c.div_ceil.result c.div_ceil.ensures c.args.most.0 more

pub returns : goal.returns
returns c =
    let over : kept c.args.over.0 ≡ c.args.over.0 = search rules in
    let slope : kept c.args.slope.0 ≡ c.args.slope.0 = search rules in
    let most : c.div_ceil.result ≤ c.args.most.0 = search rules in
    no_more c.args.over.0 c.args.slope.0 c.requires (rises c.args.slope.0 slope c.if-slope-le0.false) over slope c.div_ceil.result c.div_ceil.ensures c.args.most.0 most
