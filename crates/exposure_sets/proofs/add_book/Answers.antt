-- `add_book`: the contracts below i are added.
use mathlib.Core.Path.{◌≡◌, ap₂, ◌∙◌, subst}
use mathlib.Core.List.{List}
use Prim.Native.Nat.{ℕ, ◌*◌, ◌^◌}
use native.Mathlib.Omega.{arith}
use lib.ListN.{length}
use Rattle.tariff.specs.declared.contracts.Contract.{Contract}
use Rattle.tariff.specs.ContractRules.{InRange}
use Rattle.tariff.specs.Inner.{max_released}
use Rattle.layouts.specs.declared.forms.Form.{Form}
use Rattle.layouts.specs.BookFile.{contract_count_in, contract_in}
use Rattle.book_rules.proofs.Accepted.{book-accepted}
use Rattle.exposure_sets.specs.Inner.{AddedSmall, fixed_in, option_in}
use Rattle.exposure_sets.proofs.Laws.{upto_start, upto_next, upto_end}
use Rattle.exposure_sets.proofs.add_book.Invariants.{options, fixed}
use Rattle.exposure_sets.proofs.add_book.Goals as goal

pub of-contracts-requires : goal.of-contracts-requires
of-contracts-requires c =
    let own = book-accepted c.args.listing.tested.grid.factors.nodes c.args.listing.tested.book.now c.args.listing.tested.accepted in
    (omega (arith, own.size), omega (arith, own.size))

pub loop-i-init : goal.loop-i-init
loop-i-init c =
    (upto_start max_released _ _ _ c.requires.small.0, upto_start (max_released * 10) _ _ _ c.requires.small.1)

pub add_contract-requires-clause-ends : goal.add_contract-requires-clause-ends
add_contract-requires-clause-ends c =
    let t = c.args.listing.tested in
    let l = c.loop-i in
    let kept = c.of-contracts.ensures in
    let read = c.at-c.ensures ∙ ap₂ (λ (f : Form) (s : List ℕ). contract_in f s l.i) kept.1 kept.0 in
    let own : InRange t.grid.factors.nodes c.at-c.result =
    rw read ((book-accepted t.grid.factors.nodes t.book.now t.accepted).each l.i (omega (arith, kept.2, c.len-i-end.ensures.0))) in
    (own, omega (arith, c.requires.room, l.invariant.0.length-kept))

pub loop-i-preserved : goal.loop-i-preserved
loop-i-preserved c =
    let a = c.args in
    let t = a.listing.tested in
    let l = c.loop-i in
    let e = c.add_contract.ensures in
    let kept = c.of-contracts.ensures in
    let k = t.grid.factors.constraints in
    let fs = t.grid.factors.cells.now in
    let count = length a.listing.over.now in
    let read = c.at-c.ensures ∙ ap₂ (λ (f : Form) (s : List ℕ). contract_in f s l.i) kept.1 kept.0 in
    let fixed-part = subst (λ (d : Contract). AddedSmall max_released count (fixed_in k fs a.listing.over.now t.period d) l.row c.add_contract.new.row) read e.0 in
    let option-part = subst (λ (d : Contract). AddedSmall (max_released * 10) (2 ^ count) (option_in k fs a.listing.over.now count t.period d) l.costs
    c.add_contract.new.costs) read e.1 in (
      upto_next max_released count _ a.row.now l.i l.row _ l.invariant.0 fixed-part,
      upto_next (max_released * 10) (2 ^ count) _ a.costs.now l.i l.costs _ l.invariant.1 option-part,
    )

pub returns-clause-added : goal.returns-clause-added
returns-clause-added c =
    let a = c.args in
    let t = a.listing.tested in
    let l = c.loop-i in
    let last : l.i ≡ contract_count_in t.book.now = omega (arith, c.of-contracts.ensures.2, c.len-i-end.ensures.0) in
    upto_end max_released (length a.listing.over.now) (fixed t.grid.factors.constraints t.grid.factors.cells.now a.listing.over.now t.period t.book.now) a.row.now l.i _ l.row
    last (book-accepted t.grid.factors.nodes t.book.now t.accepted).few l.invariant.0

pub returns-clause-added_2 : goal.returns-clause-added_2
returns-clause-added_2 c =
    let a = c.args in
    let t = a.listing.tested in
    let l = c.loop-i in
    let count = length a.listing.over.now in
    let last : l.i ≡ contract_count_in t.book.now = omega (arith, c.of-contracts.ensures.2, c.len-i-end.ensures.0) in
    upto_end (max_released * 10) (2 ^ count) (options t.grid.factors.constraints t.grid.factors.cells.now a.listing.over.now count t.period t.book.now) a.costs.now
    l.i _ l.costs last (book-accepted t.grid.factors.nodes t.book.now t.accepted).few l.invariant.1
