-- THE THEOREMS of reordering and relief in the running tiers (document 02, paper 14); the statements are in specs/, the proofs in
-- Awards.antt and OnTheWay.antt.
use Rattle.order_rules.proofs.Theorems.{reordering}
use Rattle.tier_reordering.specs.Awards.{AwardsHeld}
use Rattle.tier_reordering.specs.OnTheWay.{OnTheWay}
use Rattle.tier_reordering.proofs.Awards.{cells_same, alike_next, raised-reached, raised-no_21, option_21, adds-alike, still_draws_21}
use Rattle.tier_reordering.proofs.OnTheWay as O

pub awards-held : AwardsHeld
awards-held =
    record {
      held_reordered = λ g t s r cells other h l p. cells_same g t s r cells other h l p;
      held_verdict = λ g process t s r. reordering.reorder_keeps_overloads g process t s.awards r.awards;
      next-award_alike = alike_next;
      adding-alike = adds-alike;
      limits-raised_reached = raised-reached;
      limits-raised_add_no_21 = λ low high process t held c r over. raised-no_21 low high process t held c r over;
      option_held_keeps_21 = λ g process t held more c o over. option_21 g process t held more c o over;
      option_held_adding_draws_21 = still_draws_21;
    }

pub on_the_way : OnTheWay
on_the_way = O.on_the_way
