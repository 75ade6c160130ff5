-- Document 01, "The hour statement", and document 02, paper 8: its lines. Lines end in one line feed; figures are those of text_format/specs.
use Rattle.std.specs.Prelude.{cond, List, [], ◌∷◌, ◌++◌, ℕ, suc, ◌+◌, ◌*◌, length, ℤ}
use Rattle.text_format.specs.Ascii.{ascii}
use Rattle.text_format.specs.Decimal.{decimal, decimal_z}
use Rattle.tariff.specs.declared.contracts.Kind.{Kind}
use Rattle.tariff.specs.declared.contracts.Kind.TheVariants.{Obligation, Option}
use Rattle.tariff.specs.declared.contracts.Period.{Period}
use Rattle.tariff.specs.declared.contracts.Contract.{Contract}
use Rattle.tariff.specs.Units.{Factors, max_contracts}
use Rattle.tariff.specs.ContractRules.{same_period}
use Rattle.tariff.specs.Settlement.{amount, priced_count, cents, whole_cents, parts}
use Rattle.hour_rules.specs.SettleHour.{cents_sum, hour_total}

-- "The first line is the fixed text"
abbrev pub heading : List ℕ
heading = ascii "contract,holder,kind,cents,priced\n"

abbrev pub kind_word : Kind → List ℕ
kind_word Obligation = ascii "OBL"
kind_word Option = ascii "OPT"

-- of contract i: "its number, holder, OBL or OPT, cents", and "a fifth field, `priced`"
unfoldable pub contract_line : ℕ → Contract → ℤ → ℕ → List ℕ
contract_line i c z n =
    decimal i ++ ascii "," ++ decimal c.holder ++ ascii "," ++ kind_word c.kind ++ ascii "," ++ decimal_z z ++ ascii "," ++ decimal n ++ ascii "\n"

-- "one line for each contract of the hour's period": none for the other period's
unfoldable pub line_of : Period → ℕ → Contract → ℤ → ℕ → List ℕ
line_of t i c z n = cond (same_period c.period t) (contract_line i c z n) []

-- "`sum` with the rounded cents added"
unfoldable pub sum_line : ℤ → List ℕ
sum_line sum = ascii "sum," ++ decimal_z sum ++ ascii "\n"

-- "`exact` with whole cents and parts"
unfoldable pub exact_line : ℤ → ℕ → List ℕ
exact_line whole part = ascii "exact," ++ decimal_z whole ++ ascii "," ++ decimal part ++ ascii "\n"

module _ (f : Factors) (p : List ℕ) (t : Period) where
  -- the lines of contracts that are numbered from i on, in the book's order; `priced` is "the size of that set"
  unfoldable pub contract_lines : ℕ → List Contract → List ℕ
  contract_lines i [] = []
  contract_lines i (c ∷ cs) = line_of t i c (cents (amount f p c)) (priced_count f p c) ++ contract_lines (suc i) cs

  unfoldable pub lines : List Contract → List ℕ
  lines book =
      heading ++ contract_lines 0 book ++ sum_line (cents_sum f p t book) ++ exact_line (whole_cents (hour_total f p t book)) (parts (hour_total f p t book))

-- the longest lines of a contract, of the sum and of the exact total, and with the heading the longest statement
abbrev pub longest_line : ℕ
longest_line = length (ascii "999,1023,OBL,-64000000000,64\n")

abbrev pub longest_sum : ℕ
longest_sum = length (ascii "sum,-64000000000000\n")

abbrev pub longest_exact : ℕ
longest_exact = length (ascii "exact,-64000000000000,99999999\n")

abbrev pub longest_statement : ℕ
longest_statement = length heading + longest_line * max_contracts + longest_sum + longest_exact
