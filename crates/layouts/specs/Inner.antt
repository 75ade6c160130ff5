-- What inner functions and proofs say: a writer's answer as a lent figure takes it, contracts that a book's fields can hold, and a contract as one number.
use Rattle.std.specs.Prelude.{ℕ, ◌+◌, ◌/◌, ◌%◌, ◌^◌, Ok, Err}
use Rattle.tariff.specs.declared.contracts.Contract.{Contract}
use Rattle.layouts.specs.Writing.{WriteAnswer}
use Rattle.layouts.specs.BookFile.{contract}

-- a lent figure that takes the length
abbrev pub length_after : WriteAnswer → ℕ → ℕ
length_after (Ok n) entry = n
length_after (Err r) entry = entry

-- the contract whose bits are v, with ends of w bits
abbrev pub contract_for : ℕ → ℕ → Contract
contract_for w v =
    contract (v / 2 ^ (31 + (w + w)) % 2 ^ 1) (v / 2 ^ (30 + (w + w)) % 2 ^ 1) (v / 2 ^ (20 + (w + w)) % 2 ^ 10)
    (v / 2 ^ (20 + w) % 2 ^ w) (v / 2 ^ 20 % 2 ^ w) (v / 2 ^ 0 % 2 ^ 20)
