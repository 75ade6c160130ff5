-- What the code's three ways promise, over plain variables.
use mathlib.Core.Path.{◌≡◌, ap}
use mathlib.Core.List.{List, []}
use Prim.Native.Nat.{ℕ, ◌≤◌, ◌<◌}
use native.Mathlib.Omega.{arith}
use borrow.Author.Tests.{lt-ltb, le-ltb}
use lib.ListN.{length}
use Rattle.text_format.specs.Inner.{Put}
use Rattle.text_format.proofs.Putting.{put_front}
use Rattle.tariff.specs.declared.refusals.Refusal.TheVariants.{ShortTable}
use Rattle.std.specs.Prelude.{Ok, Err}
use Rattle.tariff.specs.Refusals.{passed}
use Rattle.tariff.specs.Checks.{short_table}
use Rattle.tariff.proofs.Checks.{first-refuses, last-passes}
use Rattle.text_refusals.specs.Sentences.{meaning}
use Rattle.text_refusals.specs.RefusalText.{text_call, text_checks, text_checked, WritesText}
use Rattle.text_refusals.specs.Inner.{numbers}
use Rattle.text_refusals.proofs.Theorems.{beyond}

module _ (n : ℕ) (place : List ℕ) where
  fits : length (meaning n) ≤ length place → text_checked (text_call n place) ≡ passed
  unfolding text_checks
  fits h = last-passes (short_table (length place) (length (meaning n))) (le-ltb (length place) (length (meaning n)) h)

  pub put_whole : (exit : List ℕ) (bytes : ℕ) → length (meaning n) ≤ length place → Put place 0 (meaning n) exit bytes
      → WritesText (text_call n place) (Ok bytes) exit
  put_whole exit bytes h p = let f = put_front p in record { length-given = rw (fits h, f.1); bytes-written = rw (fits h) f.0 }

  pub none-put : numbers ≤ n → WritesText (text_call n place) (Ok 0) place
  none-put h =
      let none = beyond n h in
      let told = fits (omega (arith, ap length none)) in
      record { length-given = rw (told, none); bytes-written = rw (told, none) }

  short : length place < length (meaning n) → text_checked (text_call n place) ≡ Err ShortTable
  unfolding text_checks
  short h = first-refuses (short_table (length place) (length (meaning n))) [] (lt-ltb (length place) (length (meaning n)) h)

  pub too_short : length place < length (meaning n) → WritesText (text_call n place) (Err ShortTable) place
  too_short h = record { length-given = rw (short h); bytes-written = rw (short h) }
