-- `collect_keys`: the keys of the contracts below i.
use mathlib.Core.Path.{refl, sym, ap, ap₂, ◌∙◌, subst}
use mathlib.Core.Bool.{cond}
use mathlib.Core.List.{List}
use Prim.Native.Nat.{ℕ, ◌<◌}
use native.Mathlib.Omega.{arith}
use lib.Dec.{ltb}
use lib.ListN.{length, length-set}
use Rattle.std.specs.Prelude.{Some, None}
use Rattle.tariff.specs.declared.contracts.Contract.{Contract}
use Rattle.tariff.specs.ContractRules.{InRange}
use Rattle.layouts.specs.declared.forms.Form.{Form}
use Rattle.layouts.specs.BookFile.{contract_count_in, contract_in, contract_at}
use Rattle.book_rules.proofs.Accepted.{book-accepted}
use Rattle.cut_rules.specs.Inner.{cut_key, keys_to}
use Rattle.cut_keys.specs.Inner.{own_cut_by}
use Rattle.cut_keys.proofs.Collecting.{key_stored, none_stored}
use Rattle.cut_keys.proofs.collect_keys.Goals.{in-Some, in_default}
use Rattle.cut_keys.proofs.collect_keys.Goals as goal

pub of-contracts-requires : goal.of-contracts-requires
of-contracts-requires c =
    let t = c.args.excesses.test in
    let own = book-accepted t.grid.factors.nodes t.book.now t.accepted in
    (omega (arith, own.size), omega (arith, own.size))

pub loop-i-init : goal.loop-i-init
unfolding keys_to
loop-i-init c = (omega arith, c.requires, refl)

pub key_of-requires : goal.key_of-requires
key_of-requires c =
    let t = c.args.excesses.test in
    let l = c.loop-i in
    let ok = book-accepted t.grid.factors.nodes t.book.now t.accepted in
    let below : l.i < contract_count_in t.book.now = omega (arith, c.len-i-end.ensures.0, c.of-contracts.ensures.2) in
    let read = c.at.ensures ∙ ap₂ (λ (form : Form) (book : List ℕ). contract_in form book l.i) c.of-contracts.ensures.1 c.of-contracts.ensures.0 in
    (subst (λ (x : Contract). InRange t.grid.factors.nodes x) (sym read) (ok.each l.i below), omega (arith, ok.few, below))

pub bounds-keys-count : goal.bounds-keys-count
bounds-keys-count c =
    let t = c.args.excesses.test in
    let ok = book-accepted t.grid.factors.nodes t.book.now t.accepted in
    omega (arith, ok.few, c.len-i-end.ensures.0, c.of-contracts.ensures.2, c.loop-i.invariant.0, c.loop-i.invariant.1)

pub loop-i-preserved : goal.loop-i-preserved
loop-i-preserved c =
    let t = c.args.excesses.test in
    let l = c.loop-i in
    let cut_of : ℕ → ℕ = λ j. own_cut_by c.args.excesses (contract_at t.book.now j) in
    let read = c.at.ensures ∙ ap₂ (λ (form : Form) (book : List ℕ). contract_in form book l.i) c.of-contracts.ensures.1 c.of-contracts.ensures.0 in
    let is = c.key_of.ensures ∙ ap (λ (x : Contract). cond (ltb 0 (own_cut_by c.args.excesses x)) (Some (cut_key (own_cut_by c.args.excesses x) l.i)) None) read in
    elim c.match-key_of.branch [
      | in-Some w ↦
          let ok = book-accepted t.grid.factors.nodes t.book.now t.accepted in
          let room : l.count < length l.keys = omega (arith, ok.few, c.len-i-end.ensures.0, c.of-contracts.ensures.2, l.invariant.0, l.invariant.1) in
          rw (w.keys-is, w.count-is) (
            omega (arith, l.invariant.0),
            simp length-set l.invariant.1,
            key_stored cut_of l.i l.count l.keys l.invariant.2 c.key_of.result is w.in-Some.key w.in-Some.is room,
          )
      | in_default w ↦ rw (w.keys-is, w.count-is) (omega (arith, l.invariant.0), l.invariant.1, none_stored cut_of l.i l.count l.keys l.invariant.2 c.key_of.result is w.in_default.is)
    ]

pub returns-clause-upper_bound : goal.returns-clause-upper_bound
returns-clause-upper_bound c =
    let t = c.args.excesses.test in
    let few = (book-accepted t.grid.factors.nodes t.book.now t.accepted).few in
    (omega (arith, few, c.len-i-end.ensures.0, c.of-contracts.ensures.2, c.loop-i.invariant.0), c.loop-i.invariant.1)
