-- `CountedFile::of`: the checks up to the length say that the counts are the file's.
use native.Mathlib.Omega.{arith}
use Rattle.layouts.specs.GridFile.{grid_form_in}
use Rattle.layouts.proofs.FormLaws.{header-least}
use Rattle.grid_rules.proofs.Passing.{sized, counted-by}
use Rattle.grid_checks.proofs.counted.CountedFile.of.Goals as goal

pub form_in-form-requires : goal.form_in-form-requires
form_in-form-requires c = omega (arith, (sized _ c.requires).header-there, header-least (grid_form_in c.args.bytes.now))

pub nodes_in-requires : goal.nodes_in-requires
nodes_in-requires c = rw c.form_in-form.ensures (sized _ c.requires).header-there

pub constraints_in-requires : goal.constraints_in-requires
constraints_in-requires c = omega (arith, (sized _ c.requires).header-there, header-least (grid_form_in c.args.bytes.now))

pub invariant_of-size : goal.invariant_of-size
invariant_of-size c =
    let counted = counted-by _ _ _ _ _ c.form_in-form.ensures c.grid_header_bits.ensures c.nodes_in.ensures c.constraints_in.ensures (sized _ c.requires) in
    record { good = (counted.short, counted.good) }

pub invariant_of-result : goal.invariant_of-result
invariant_of-result c =
    record {
      counted = counted-by _ _ _ _ _ c.form_in-form.ensures c.grid_header_bits.ensures c.nodes_in.ensures c.constraints_in.ensures (sized _ c.requires);
    }
