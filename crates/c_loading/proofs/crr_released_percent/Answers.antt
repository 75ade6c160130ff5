-- `crr_released_percent`.
use mathlib.Core.Path.{refl, ◌∙◌}
use Rattle.tariff.specs.Processes.{process_of, percent}
use Rattle.answer_laws.proofs.ForC.{one_number, one_cell}
use Rattle.test_loading.specs.ReleasedPercent.{percent_checked, percent_outcome}
use Rattle.c_loading.proofs.crr_released_percent.Goals as goal

pub returns : goal.returns
returns c =
    let p = c.args.process in
    let m = percent (process_of p) in
    let told = c.released_percent.ensures.percent-given in
    record {
      refusal-number = c.answer_cell.ensures.number ∙ one_number percent_outcome (λ n. refl) (λ r. refl) (percent_checked p) m _ told;
      percent-given = c.answer_cell.ensures.cell ∙ one_cell percent_outcome (λ n. refl) (λ r. refl) (percent_checked p) m _ c.args.percent.now told;
    }
