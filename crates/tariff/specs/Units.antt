-- Document 01, "Units": the ranges of figures and counts, and the tables that figures are looked up in.
use Rattle.std.specs.Prelude.{List, ℕ, ◌+◌, ◌*◌, get_or, take, ℤ, pos}

-- quantity, in thousandths of a MW: 1 to this
abbrev pub max_quantity : ℕ
max_quantity = 1000000

-- shift factor (the PTDF of 002), in hundred-thousandths: minus this to this
abbrev pub max_factor : ℕ
max_factor = 100000

-- limit, in thousandths of a MW: 0 to this
abbrev pub max_limit : ℕ
max_limit = 100000000

-- shadow price, in cents per MWh: 0 to this
abbrev pub max_price : ℕ
max_price = 500000

-- 1 to 4,000 nodes (document 02, request 9; a narrow grid's file has at most 200), 0 to 64 constraints, 0 to 1,000 contracts, holders 0 to 1,023
abbrev pub max_nodes : ℕ
max_nodes = 4000

abbrev pub max_narrow_nodes : ℕ
max_narrow_nodes = 200

abbrev pub max_constraints : ℕ
max_constraints = 64

abbrev pub max_contracts : ℕ
max_contracts = 1000

abbrev pub max_holder : ℕ
max_holder = 1023

-- document 02, paper 13: "1 to 256 Scheduling Coordinators", "balances run from -10^9 to 10^9 cents and demands from 0 to 10^9 units"
abbrev pub max_coordinators : ℕ
max_coordinators = 256

abbrev pub max_balance : ℕ
max_balance = 1000000000

abbrev pub max_demand : ℕ
max_demand = 1000000000

-- document 02, paper 5: "1 to 16 load-serving entities", "up to 1,000 rows", "customers moved (to 1,000,000), thousandths of a MW per customer (to 10,000)",
-- "loads reach 10^12 thousandths"
abbrev pub max_entities : ℕ
max_entities = 16

abbrev pub max_rows : ℕ
max_rows = 1000

abbrev pub max_customers : ℕ
max_customers = 1000000

abbrev pub max_rate : ℕ
max_rate = 10000

abbrev pub max_load : ℕ
max_load = 1000000000000

-- document 02, paper 7: "a hub is 1 to 32 nodes, each weighted 1 to 100,000, together 100,000"
abbrev pub max_hub_nodes : ℕ
max_hub_nodes = 32

abbrev pub hub_weight : ℕ
hub_weight = 100000

-- "Exact amount: 10^-8 cents": so many parts in a cent
abbrev pub per_cent : ℕ
per_cent = 100000000

-- The shift factors of a grid, its nodes and constraints numbered from 0: all of node 0, then node 1 and so on.
pub record Factors : Type 0 where
  pub nodes : ℕ
  pub constraints : ℕ
  pub cells : List ℤ

-- of a table, as many cells as the counts say
abbrev pub factors_of : ℕ → ℕ → List ℤ → Factors
factors_of n k table = record { nodes = n; constraints = k; cells = take (n * k) table }

-- of node n on constraint k
abbrev pub factor : Factors → ℕ → ℕ → ℤ
factor f n k = get_or f.cells (n * f.constraints + k) (pos 0)

-- A grid: its factors, and a limit for each constraint.
pub record Grid : Type 0 where
  pub factors : Factors
  pub limits : List ℕ

abbrev pub grid_of : ℕ → ℕ → List ℕ → List ℤ → Grid
grid_of n k limits table = record { factors = factors_of n k table; limits = take k limits }

-- the limit, and the shadow price, of constraint k
abbrev pub limit : List ℕ → ℕ → ℕ
limit ls k = get_or ls k 0

abbrev pub price : List ℕ → ℕ → ℕ
price ps k = get_or ps k 0

-- a contract's flow on a constraint
abbrev pub max_flow : ℕ
max_flow = 2 * max_factor * max_quantity
