-- What a function is lent: the cells of a slice, or the one figure behind a reference, as a contract names them.
use Rattle.std.specs.Prelude.{List, ◌++◌, length, drop}
use Rattle.std.specs.Borrow.{MutBor}
use denote.Triple.Both.{Both}

-- a slice or a figure that may be written
abbrev pub Lent : Type 0 → Type 0
Lent X = Both (MutBor X) (MutBor X)

-- at entry
abbrev pub before : {X E : Type 0} → Both (MutBor X) E → X
before x = x.entry.now

-- at exit
abbrev pub after : {X E : Type 0} → Both E (MutBor X) → X
after x = x.exit.now

-- values from the front, the rest as at entry
abbrev pub overwrite : {A : Type 0} → List A → List A → List A
overwrite values entry = values ++ drop (length values) entry
