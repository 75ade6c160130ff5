-- A contract's bits, one number, with the holder's ten cleared.
use Rattle.std.specs.Prelude.{ℕ, ◌+◌, ◌*◌, ◌/◌, ◌%◌, ◌^◌}
use Rattle.layouts.specs.declared.forms.Form.{Form}
use Rattle.layouts.specs.Forms.{end_width}

abbrev pub cleared_number : Form → ℕ → ℕ
cleared_number f v = let w = end_width f in v / 2 ^ (30 + (w + w)) % 2 ^ 2 * 2 ^ (30 + (w + w)) + v / 2 ^ 0 % 2 ^ (20 + (w + w))
