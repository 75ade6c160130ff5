-- The one line of a refusal: "On a refusal the only line is `refused`, then grid, book or prices, then the number, commas between" (document 01, "The hour
-- statement"). The feasibility report has it too.
use Rattle.std.specs.Prelude.{List, ◌++◌, ℕ}
use Rattle.text_format.specs.Ascii.{ascii}
use Rattle.text_format.specs.Decimal.{decimal}
use Rattle.tariff.specs.declared.refusals.Refusal.{Refusal}
use Rattle.tariff.specs.Refusals.{number_of}

unfoldable pub refused_line_of : List ℕ → Refusal → List ℕ
refused_line_of file r = ascii "refused," ++ file ++ ascii "," ++ decimal (number_of r) ++ ascii "\n"
