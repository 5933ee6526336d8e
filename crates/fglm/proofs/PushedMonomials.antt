-- A list of monomials with one more.
--   pushed-count                 how many they are
--   pushed-listed                their rows of exponents
--   pushed-before, pushed-last   these one by one
use mathlib.Core.Path.{◌≡◌, sym, ◌∙◌, ap}
use mathlib.Core.List.{List, [], ◌∷◌, ◌++◌}
use Prim.Native.Nat.{ℕ, suc, ◌<◌}
use native.Mathlib.Omega.{arith}
use lib.ListN.{length, get_or, length-append, get_or-append}
use lib.Seq.{get_or_at}
use Rattle.monomial.specs.Rows.{one}
use Rattle.monomial.specs.Represented.{row}
use Rattle.monomial.specs.declared.Monomial.{Monomial}
use Rattle.staircase.specs.Listed.{listed, listed_at}
use Rattle.staircase.proofs.ArrayRows.{rows-length}
use Rattle.staircase.proofs.RowsInTurn.{rows-push}

module _ (l : List Monomial) (m : Monomial) where
  pub pushed-count : length (l ++ (m ∷ [])) ≡ suc (length l)
  pushed-count = omega (arith, length-append l (m ∷ []))

  module _ (n : ℕ) where
    pub pushed-listed : listed n (l ++ (m ∷ [])) ≡ listed n l ++ (row n m ∷ [])
    pushed-listed = rows-push n l m

    pub pushed-before : (j : ℕ) → j < length l → listed_at n (l ++ (m ∷ [])) j ≡ listed_at n l j
    pushed-before j h = ap (λ C. get_or C j (one n)) pushed-listed ∙ get_or-append (listed n l) (row n m ∷ []) (one n) j (omega (arith, h, rows-length n l))

    pub pushed-last : (j : ℕ) → j ≡ length l → listed_at n (l ++ (m ∷ [])) j ≡ row n m
    pushed-last j e = ap (λ C. get_or C j (one n)) pushed-listed ∙ get_or_at (listed n l) (row n m) [] (one n) j (rows-length n l ∙ sym e)
