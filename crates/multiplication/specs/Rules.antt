-- Inner contracts. The row that the code makes for x_i·B_s, if it is no leading monomial.
--   PassesBy           an exponent is not 0, and a difference is none of the ranks
--   SomePasses         so it is for some variable that divides a monomial
--   Unlisted n l i s   x_i·B_s is not in the list
--   Through n l i s    for some x_j that divides B_s, x_i·B_s / x_j is not in the list, and B_s / x_j is in it
--   ProductRow         r is x_j times the row of x_i·B_s / x_j, for such an x_j
--   MadeBy             how the row of x_i·B_s is made
--   MadeRow            the row that the code makes for x_i·B_s, if it is no leading monomial
use Rattle.std.specs.Prelude.{ℕ, ◌-◌, ◌≤◌, ◌<◌, ◌≡◌, List, length, get_or, None}
use Rattle.monomial.specs.Rows.{Row, exponent, product}
use Rattle.monomial.specs.Quotients.{quotient, variable}
use Rattle.staircase.specs.Listed.{listed, listed_at, PlaceAt, Place}
use Rattle.monomial.specs.declared.Monomial.{Monomial}
use Rattle.coordinates.specs.Vectors.{coordinate, indicator, Below}
use Rattle.coordinates.specs.declared.Coordinates.{Coordinates}
use Rattle.multiplication.specs.Rows.{table_row, Multiplied}
use Rattle.multiplication.specs.declared.rows.Tables.{Tables}
use Rattle.multiplication.specs.Passes.{Detour}

-- An exponent e is not 0, and w less x is none of the ranks.
pub record PassesBy (ranks : List ℕ) (e w x : ℕ) : Type 0 where
  pub divisor : 0 < e
  pub outside : (k : ℕ) → k < length ranks → ¬ (get_or ranks k 0 ≡ w - x)

-- For some x_j that divides m, w less its rank is none of the ranks; the rank of no x_j that divides m is above w.
pub record SomePasses (n : ℕ) (m : Row n) (ranks variables : List ℕ) (w : ℕ) : Type 0 where
  pub least : (j : ℕ) → j < n → 0 < exponent n m j → get_or variables j 0 ≤ w
  pub some : (j : ℕ) × (j < n) × PassesBy ranks (exponent n m j) w (get_or variables j 0)

module _ (n : ℕ) (l : List Monomial) (i s : ℕ) where
  -- x_i·B_s is not in the list.
  abbrev pub Unlisted : Type 0
  Unlisted = (k : ℕ) → k < length l → ¬ (listed_at n l k ≡ product n (variable n i) (listed_at n l s))

  -- For some x_j that divides B_s, x_i·B_s / x_j is not in the list, and B_s / x_j is in it.
  pub record Through : Type 0 where
    pub some : (j : ℕ) × (j < n) × Detour n l (listed_at n l s) i j
    pub inside : (j : ℕ) → Detour n l (listed_at n l s) i j → ¬ Place n (listed n l) (quotient n (listed_at n l s) (variable n j)) None

module _ (p n : ℕ) where
  -- r is x_j times the row of x_i·B_s / x_j, for such an x_j.
  pub record ProductRow (l : List Monomial) (t : Tables) (i s : ℕ) (r : Coordinates) : Type 0 where
    pub by : ℕ
    pub at : ℕ
    pub within : by < n
    pub passes : Detour n l (listed_at n l s) i by
    pub place : PlaceAt n (listed n l) (quotient n (listed_at n l s) (variable n by)) at
    pub multiplied : Multiplied p t by (table_row t i at) (length l) r

  module _ (l : List Monomial) (t : Tables) (i s : ℕ) (r : Coordinates) where
    -- How the row of x_i·B_s is made, if it is no leading monomial.
    pub data MadeBy : Type 0 where
      by_unit : (k : ℕ) → k < length l → listed_at n l k ≡ product n (variable n i) (listed_at n l s) → ((j : ℕ) → coordinate r j ≡ indicator j k) → MadeBy
      by_product : ProductRow l t i s r → MadeBy

    -- The row that the code makes for x_i·B_s, if it is no leading monomial.
    pub record MadeRow : Type 0 where
      pub below : Below p r
      pub made : MadeBy
