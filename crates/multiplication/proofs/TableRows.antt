-- The rows of tables.
--   no-rows   all rows are zero where one vector without coefficients but 0 stands everywhere
use mathlib.Core.Path.{◌≡◌, refl}
use mathlib.Core.List.{List, []}
use Prim.Native.Nat.{ℕ, zero, suc}
use lib.ListN.{get_or, replicate}
use Rattle.coordinates.specs.Vectors.{coordinate}
use Rattle.coordinates.specs.declared.Coordinates.{Coordinates}
use Rattle.multiplication.specs.Rows.{NoRows}
use Rattle.multiplication.specs.declared.rows.Tables.{Tables}

-- The tables with these rows.
abbrev pub tables : List (List Coordinates) → Tables
tables rows = record { rows = rows }

pub no-rows : (a b : ℕ) (z : Coordinates) → ((k : ℕ) → coordinate z k ≡ 0) → NoRows (tables (replicate a (replicate b z)))
no-rows a b z none i s k = go a i
  where
    empty : coordinate (get_or [] s (record { c = [] })) k ≡ 0
    empty = refl

    in_row : (b s : ℕ) → coordinate (get_or (replicate b z) s (record { c = [] })) k ≡ 0
    in_row zero s = refl
    in_row (suc b) zero = none k
    in_row (suc b) (suc s) = in_row b s

    go : (a i : ℕ) → coordinate (get_or (get_or (replicate a (replicate b z)) i []) s (record { c = [] })) k ≡ 0
    go zero i = empty
    go (suc a) zero = in_row b s
    go (suc a) (suc i) = go a i
