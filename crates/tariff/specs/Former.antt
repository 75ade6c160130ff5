-- Lists of checks that were in force before a request of document 02, by numbers alone: for what the requests say of inputs "read before".
use Rattle.std.specs.Prelude.{Bool, cond, List, [], ◌∷◌, ℕ, eqb}
use Rattle.tariff.specs.Refusals.{Check, number_of}

pub record FormerCheck : Type 0 where
  pub fails : Bool
  pub number : ℕ

abbrev pub formerly : Bool → ℕ → FormerCheck
formerly fails number = record { fails = fails; number = number }

-- the number of the first that holds, 0 for none
unfoldable pub former_first : List FormerCheck → ℕ
former_first [] = 0
former_first (c ∷ cs) = cond c.fails c.number (former_first cs)

-- a check of today by its number alone
abbrev pub by_number : Check → FormerCheck
by_number c = formerly c.fails (number_of c.refusal)

-- those that are not numbered r, in their order
unfoldable pub without : ℕ → List FormerCheck → List FormerCheck
without r [] = []
without r (c ∷ cs) = cond (eqb c.number r) (without r cs) (c ∷ without r cs)
