-- A text that was written fits into the place lent for it.
use mathlib.Core.Path.{◌≡◌}
use mathlib.Core.List.{List, [], ◌∷◌}
use Prim.Native.Nat.{ℕ, ◌≤◌}
use native.Mathlib.Omega.{arith}
use lib.ListN.{length}
use lib.IntN.{pos}
use Rattle.lists.proofs.Fronts.{front-room}
use Rattle.tariff.specs.Refusals.{Checked, passed}
use Rattle.std.specs.Prelude.{Ok}
use Rattle.tariff.specs.Refusals.{cells_after}
use Rattle.tariff.proofs.Answers.{given-told}
use Rattle.layouts.specs.Writing.{Writes}

pub written-fits : {checked : Checked} {text entry exit : List ℕ} {n : ℕ} → Writes checked text entry (Ok n) exit → n ≤ length exit
written-fits {checked} {text} {entry} {exit} {n} h =
    let told = given-told checked (pos (length text) ∷ []) (pos n ∷ []) h.length-given in
    let q : pos n ∷ [] ≡ pos (length text) ∷ [] = told.1 in
    let m : n ≡ length text = cc in
    let after : exit ≡ cells_after passed text entry = rw told.0 at h.bytes-written in
    rw after (front-room text entry n (omega arith))
