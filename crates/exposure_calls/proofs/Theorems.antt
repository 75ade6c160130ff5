-- THE THEOREMS over what the test, the shortfall, the exposure and their C functions promise; the statements are in specs/, the proofs in Shortfall and Exposure.

-- demand 3, of two entries' answers
pub use Rattle.exposure_calls.proofs.Shortfall.{shortfall-calls}
-- what the exposure's figures and prices are
pub use Rattle.exposure_calls.proofs.Exposure.{exposure_calls_lem}
