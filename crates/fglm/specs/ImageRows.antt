-- Inner contracts. The row of a monomial, from the rows of the standard monomials found before.
--   no_image, image_at l s   the row of the standard monomial at place s; no_image stands past the end
--   OneRow n l r             r is one at the place of 1 in the list l, and zero elsewhere
--   DivisorsFound n l m      m over any of its variables is in the list l
--   ImageInput               what the row of m asks of the rows, the ranks and the tables
--   ImageRule                the row of m is that of 1, or comes from that of a standard monomial
--   ImageRow                 so it is, its entries are below p, and zero past those of the list l
use Rattle.std.specs.Prelude.{◌≡◌, List, [], ℕ, ◌≤◌, ◌<◌, length, get_or, None}
use Rattle.lists.specs.Lists.{◌∈◌, Each}
use Rattle.residue.specs.Field.{modulo}
use Rattle.monomial.specs.Rows.{Row, one, product}
use Rattle.monomial.specs.Quotients.{variable}
use Rattle.monomial.specs.Represented.{row}
use Rattle.monomial.specs.Ranks.{RanksOf}
use Rattle.monomial.specs.declared.Monomial.{Monomial}
use Rattle.groebner.specs.MultiplicationRows.{times_variable}
use Rattle.lines.specs.Sizes.{most_standard}
use Rattle.staircase.specs.Listed.{listed, listed_at, PlaceAt, Place}
use Rattle.coordinates.specs.Vectors.{coordinate, indicator, Below, coordinates_of}
use Rattle.coordinates.specs.declared.Coordinates.{Coordinates}
use Rattle.multiplication.specs.Rows.{cell_of, AllBelow}
use Rattle.multiplication.specs.declared.rows.Tables.{Tables}

-- What stands past the end of a list of rows.
abbrev pub no_image : Coordinates
no_image = record { c = [] }

-- The row of the standard monomial at place s.
abbrev pub image_at : List Coordinates → ℕ → Coordinates
image_at l s = get_or l s no_image

-- r is one at the place of 1 in the list, and zero elsewhere; zero where 1 is not in it.
pub data OneRow (n : ℕ) (l : List Monomial) (r : Coordinates) : Type 0 where
  one_at : (k : ℕ) → PlaceAt n (listed n l) (one n) k → ((j : ℕ) → coordinate r j ≡ indicator j k) → OneRow n l r
  no_one : Place n (listed n l) (one n) None → ((j : ℕ) → coordinate r j ≡ 0) → OneRow n l r

-- m over any of its variables is in the list.
abbrev pub DivisorsFound : (n : ℕ) → List Monomial → Row n → Type 0
DivisorsFound n l m = (i : ℕ) → i < n → (b : Row n) → m ≡ product n (variable n i) b → b ∈ listed n l

-- What the row of m asks: rows with entries below p and ranks, as many as standard monomials, and m over any of its variables among these.
pub record ImageInput (p n : ℕ) (m : Monomial) (t : Tables) (images : List Coordinates) (ranks : List ℕ) (standard l : List Monomial) : Type 0 where
  pub few : length l ≤ most_standard
  pub below : AllBelow p t
  pub standard_few : length standard ≤ most_standard
  pub images_size : length images ≡ length standard
  pub images_below : Each (Below p) images
  pub ranked : RanksOf n (listed n standard) (length standard) ranks
  pub divisors : DivisorsFound n standard (row n m)

module _ (p n : ℕ) (m : Monomial) (found : List Coordinates) (standard : List Monomial) (t : Tables) (l : List Monomial) (r : Coordinates) where
  -- r is the row of 1, or that of x_i times a standard monomial by the rows of the tables.
  pub data ImageRule : Type 0 where
    of_one : row n m ≡ one n → OneRow n l r → ImageRule
    of_product : (i s : ℕ) → i < n → s < length standard → row n m ≡ product n (variable n i) (listed_at n standard s)
        → ((h : 1 < p) (k : ℕ) → k < length l → coordinates_of p h r k ≡ times_variable (modulo p h) (length l) (cell_of p h t) i (coordinates_of p h (image_at found s)) k) → ImageRule

  -- Its entries are below p, and zero past those of the list l.
  pub record ImageRow : Type 0 where
    pub below : Below p r
    pub zeros : (k : ℕ) → length l ≤ k → coordinate r k ≡ 0
    pub rule : ImageRule
