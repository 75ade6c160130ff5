-- Document 01, "Process 0 is annual, 1 is Tier LT, 2 is monthly", and the released shares (001, 8.3 from its revision 23 on; 003, 36.4.1).
use Rattle.std.specs.Prelude.{ℕ, zero, suc}
use Rattle.tariff.specs.declared.processes.Process.{Process}
use Rattle.tariff.specs.declared.processes.Process.TheVariants.{Annual, TierLt, Monthly}

-- the process of a number from 0 to 2
abbrev pub process_of : ℕ → Process
process_of zero = Annual
process_of (suc zero) = TierLt
process_of (suc (suc n)) = Monthly

-- the released share in percent: annual by 001, revision 23 ("Process 0 now releases 65"), the others by 003, 36.4.1
abbrev pub percent : Process → ℕ
percent Annual = 65
percent TierLt = 60
percent Monthly = 100
