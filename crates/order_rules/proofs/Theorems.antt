-- THE THEOREMS of reordering and relief (document 02, paper 14) by the tariff's rules; the statements are in specs/, the proofs in Perms, Figures and Reliefs.
use Rattle.tariff.specs.ContractRules.{of_period}
use Rattle.tariff.specs.Settlement.{amount, exact_total}
use Rattle.tariff.proofs.WorstNumber.{worst-by}
use Rattle.test_rules.proofs.Figures.{same_test}
use Rattle.order_rules.specs.Reordering.{Reordering}
use Rattle.order_rules.specs.Relief.{Relief}
use Rattle.order_rules.proofs.Perms.{of_period-perm, period-sum_perm}
use Rattle.order_rules.proofs.Figures.{flows-perm}
use Rattle.order_rules.proofs.Reliefs.{raised-adds_none, raised-passes, option_flows, option_overloads, option_passes}

pub reordering : Reordering
unfolding exact_total
reordering =
    record {
      reorder_keeps_flows = λ f t cs ds h. flows-perm f (of_period t cs) (of_period t ds) (of_period-perm t cs ds h);
      reorder_keeps_overloads = λ g process t cs ds h.
          same_test g process (of_period t cs) (of_period t ds) (flows-perm g.factors (of_period t cs) (of_period t ds) (of_period-perm t cs ds h)).flows-same;
      reorder_keeps_exact_total = λ f p t cs ds h. period-sum_perm t (amount f p) cs ds h;
      reorder_keeps_worst = λ g process t cs ds h. worst-by g process (of_period t cs) (of_period t ds) (λ p. period-sum_perm t (amount g.factors p) cs ds h);
    }

pub relief : Relief
relief =
    record {
      raised-limit_adds_no_overload = λ low high process t cs r. raised-adds_none low high r process (of_period t cs);
      raised-limit_keeps_pass = λ low high process t cs r. raised-passes low high r process (of_period t cs);
      option_lowers_no_flow = λ f t cs more o k. option_flows t cs more o f k;
      option_clears_no_overload = λ g process t cs more o. option_overloads t cs more o g process;
      option_keeps_fail = λ g process t cs more o fails p. fails (option_passes t cs more o g process p);
      passed_before_option = λ g process t cs more o. option_passes t cs more o g process;
    }
