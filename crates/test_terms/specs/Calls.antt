-- The call of a test by what is asked.
use Rattle.std.specs.Prelude.{List, ℕ, ℤ}
use Rattle.test_rules.specs.TestBook.{TestCall, test_call}
use Rattle.test_terms.specs.declared.Asked.{Asked}

abbrev pub asked_test : Asked → List ℕ → List ℤ → List ℕ → TestCall
asked_test a limits factors book = test_call a.nodes a.constraints a.process a.period limits factors book
