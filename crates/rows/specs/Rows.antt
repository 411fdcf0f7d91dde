-- What a refusal tells, and the first that stands in an ordered table.
use Rattle.std.specs.Prelude.{ℕ, Bool, cond, List, [], ◌∷◌, map, Some, None, Option, Result}
use Rattle.std.specs.Option.{option_map}
use Rattle.std.specs.Result.{result_err}

-- what a refusal tells: its number, and the values that it names
pub record Reason : Type 0 where
  pub number : ℕ
  pub values : List ℕ

-- a refusal that names no value
abbrev pub numbered : ℕ → Reason
numbered n = record { number = n; values = [] }

-- a row of a table of refusals: whether its cause holds, and the reason that it is then
abbrev pub Row : Type 0
Row = Bool × Reason

-- what stands in the first row whose cause holds
abbrev pub first_row : {A : Type 0} → List (Bool × A) → Option A
first_row [] = None
first_row (row ∷ rows) = cond row.0 (Some row.1) (first_row rows)

-- rows of errors, by the reason that each tells
abbrev pub reasons_of : {E : Type 0} → (E → Reason) → List (Bool × E) → List Row
reasons_of reason_of rows = map (λ row. (row.0, reason_of row.1)) rows

-- the reason of the error of a result, if it is one
abbrev pub reason_by : {T E : Type 0} → (E → Reason) → Result T E → Option Reason
reason_by reason_of r = option_map reason_of (result_err r)
