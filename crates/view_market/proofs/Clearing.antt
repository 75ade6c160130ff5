-- The bytes of a contract without its holder, from the contract's bits.
use mathlib.Core.Path.{◌≡◌, refl, ◌∙◌}
use Prim.Native.Nat.{ℕ}
use native.Mathlib.Omega.{arith}
use Rattle.layouts.specs.declared.forms.Form.{Form}
use Rattle.layouts.specs.Forms.{end_width}
use Rattle.layouts.specs.Inner.{contract_for}
use Rattle.book_rules.specs.Inner.{contract_bytes, bits_bytes}
use Rattle.book_rules.proofs.Bytes.{contract-number}
use Rattle.view_rules.specs.Views.{anonymous}
use Rattle.view_rules.proofs.Numbers.{with_holder, with_holder_lem}
use Rattle.view_market.specs.Inner.{cleared_number}

-- nothing in the holder's place
cleared_is : (f : Form) (v : ℕ) → cleared_number f v ≡ with_holder f v 0
cleared_is f v = omega arith

pub cleared_bytes : (f : Form) (v : ℕ) → contract_bytes f (anonymous (contract_for (end_width f) v)) ≡ bits_bytes f (cleared_number f v)
unfolding anonymous
cleared_bytes f v = contract-number f (anonymous (contract_for (end_width f) v)) _ _ (cleared_number f v) refl refl (cleared_is f v ∙ with_holder_lem f v 0)
