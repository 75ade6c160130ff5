-- `rent`: the rents of the constraints passed, added.
use Rattle.std.proofs.Common.{rules, refl, ap, ap₂, ℕ, pos, arith, length, take, ◌∷◌, [], ◌*◌, ◌∙◌, length-append}
use Rattle.tariff.specs.Processes.{percent}
use Rattle.std.proofs.lemmas.Slice.Zip.{zip_turn}
use Rattle.integers.specs.Sums.{sum_to}
use Rattle.exposure_figures.specs.Inner.{rent_in, rent_of}
use Rattle.exposure_figures.proofs.Figures.{sum_more, limit_is, price_is, pair-small}
use Rattle.exposure_figures.proofs.rent.Goals as goal

pub loop-limit-init : goal.loop-limit-init
unfolding sum_to
loop-limit-init c = (refl, record { parts-small = omega arith; whole-sized = omega arith })

pub rent_at-requires : goal.rent_at-requires
rent_at-requires c =
    let a = c.args in
    let l = c.loop-limit in
    let turn = zip_turn (take a.constraints a.limits.now) (take a.constraints a.prices.now) l.yielded _ l.limit-iterator c.next.new.self c.next.result
    (search rules) (search rules) l.yielded_by (c.in-Some.limit, c.in-Some.price) c.in-Some.is c.next.ensures.steps in
    pair-small a.constraints a.limits.now a.prices.now c.requires.1 c.requires.2 (length l.yielded) c.in-Some.limit.now c.in-Some.price.now turn

pub loop-limit-preserved : goal.loop-limit-preserved
loop-limit-preserved c =
    let a = c.args in
    let l = c.loop-limit in
    let r = c.rent_at in
    let p = c.add-total.ensures in
    let turn = zip_turn (take a.constraints a.limits.now) (take a.constraints a.prices.now) l.yielded _ l.limit-iterator c.next.new.self c.next.result
    (search rules) (search rules) l.yielded_by (c.in-Some.limit, c.in-Some.price) c.in-Some.is c.next.ensures.steps in
    let limit = limit_is a.constraints a.limits.now a.prices.now c.requires.1 c.requires.2 (length l.yielded) c.in-Some.limit.now c.in-Some.price.now turn in
    let price = price_is a.constraints a.limits.now a.prices.now c.requires.1 c.requires.2 (length l.yielded) c.in-Some.limit.now c.in-Some.price.now turn in
    let rent = r.ensures.0 ∙ ap₂ (λ (x y : ℕ). x * percent a.process * 1000 * y) limit price in
    rw (length-append l.yielded ((c.in-Some.limit, c.in-Some.price) ∷ [])) (
      sum_more (length l.yielded) (λ (j : ℕ). pos (rent_in a.limits.now a.process a.prices.now j)) (rent_of l.total) r.result (rent_of c.add-total.result)
          l.invariant.0 (ap pos rent) p.0,
      record { parts-small = p.1; whole-sized = omega (arith, p.2, l.invariant.1.whole-sized) },
    )
