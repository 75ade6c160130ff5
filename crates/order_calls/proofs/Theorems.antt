-- THE THEOREMS of reordering and relief (document 02, paper 14) in what the entries answer; the statements are in specs/, the proofs in Values, Answers, ForC
-- and Acceptance, and over the tariff's rules alone in order_rules.
use Rattle.order_calls.specs.Values.{ReorderedValues}
use Rattle.order_calls.specs.Entries.{Entries}
use Rattle.order_calls.specs.ForC.{EntriesForC}
use Rattle.order_calls.proofs.Values.{verdict_kept, totals-kept, cells-move}
use Rattle.order_calls.proofs.Answers.{test-same, test-option, test-raised, carried_same, flows-same, settle_same, settled_move}
use Rattle.order_calls.proofs.ForC.{test-same_for_c, option_for_c, raised-for_c, flows-for_c, totals-for_c, move_for_c}
use Rattle.order_calls.proofs.Acceptance.{same_width, reads_back}

pub reordered_values : ReorderedValues
reordered_values =
    record {
      reorder_keeps_verdict = verdict_kept;
      reorder_keeps_totals = totals-kept;
      reorder_moves_cents = λ f p t cs ds h. cells-move f p t cs ds;
    }

pub entries : Entries
entries =
    record {
      test-reordered = λ q s a b h l p. test-same q s a b h l p;
      flows-reordered = flows-same;
      carried_reordered = carried_same;
      settle_reordered = λ q s a b cents cents₂ sets sets₂ h l p. settle_same q s a b cents cents₂ sets sets₂ h l p;
      settled_cells_move = settled_move;
      test-limits_raised = λ q limits a b h l up. test-raised q limits a b h l up;
      test-option_added = λ q s a b h l o. test-option q s a b h l o;
      reordered_is_accepted = same_width;
      reordered_in_either_width = λ n s ds f ok p fits. reads_back n s ds ok p f fits;
    }

pub entries_for_c : EntriesForC
entries_for_c =
    record {
      crr_test_reordered = test-same_for_c;
      crr_test_limits_raised = raised-for_c;
      crr_test_option_added = option_for_c;
      crr_flows_reordered = flows-for_c;
      crr_settle_reordered = totals-for_c;
      crr_settled_cells_move = move_for_c;
    }
