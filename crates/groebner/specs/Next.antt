-- Inner contracts. The next monomial in lex, for every ranking of the variables, and all monomials in turn (document 01, "The walk" and refusal 14).
--   with_exponent n v e m   m with the exponent e of variable v
--   raise n v m             the exponent of variable v raised by one
--   clear n s m             the exponents of the variables of the list s set to 0
--   RanksOnce n s           s ranks the n variables, greatest first: each stands in it once
--   carried n v s m         m with the exponents of the variables of s set to 0, and that of v raised by one
--   next n s excluded m     raise the exponent of the last variable of s; while the outcome is excluded, set it to 0 and raise the one before
--   collect, irreducibles   all monomials that are not excluded, from m on and from 1 on, if they are at most that many
use Rattle.std.specs.Prelude.{Bool, ℕ, zero, suc, ◌<◌}
use Rattle.std.proofs.Math.Bool.{true, false}
use mathlib.Core.List.{List, [], ◌∷◌, ◌++◌}
use Rattle.std.proofs.Math.Option.{Option, none, some}
use Rattle.monomial.specs.Rows.{Row, one, exponent}
use Rattle.groebner.specs.Conversions.{Lists}

-- m with the exponent e of variable v.
unfoldable pub with_exponent : (n v e : ℕ) → Row n → Row n
with_exponent zero v e m = tt
with_exponent (suc n) zero e m = (e, m.1)
with_exponent (suc n) (suc v) e m = (m.0, with_exponent n v e m.1)

-- The exponent of variable v raised by one.
unfoldable pub raise : (n v : ℕ) → Row n → Row n
unfolding with_exponent exponent
raise n v m = with_exponent n v (suc (exponent n m v)) m

-- The exponents of the variables of the list set to 0.
unfoldable pub clear : (n : ℕ) → List ℕ → Row n → Row n
unfolding with_exponent
clear n [] m = m
clear n (v ∷ s) m = with_exponent n v 0 (clear n s m)

-- s ranks the n variables, greatest first: each stands in it once.
abbrev pub RanksOnce : ℕ → List ℕ → Type 0
RanksOnce n s = Lists (λ v. v < n) s

-- The exponents of the variables of s set to 0, and that of v raised by one.
unfoldable pub carried : (n v : ℕ) → List ℕ → Row n → Row n
unfolding raise clear
carried n v s m = raise n v (clear n s m)

-- Raise the exponent of the last variable of s; while the outcome is excluded, set it to 0 and raise the one before.
unfoldable pub next : (n : ℕ) → List ℕ → (Row n → Bool) → Row n → Option (Row n)
unfolding carried
next n [] excluded m = none
next n (v ∷ s) excluded m = elim (next n s excluded m) [
  | none ↦ let r = carried n v s m in elim (excluded r) [ true ↦ none | false ↦ some r ]
  | some r ↦ some r
]

module _ (n : ℕ) (next : (Row n → Bool) → Row n → Option (Row n)) (excluded : Row n → Bool) where
  -- From m on, at most that many, behind the smaller ones.
  unfoldable pub collect : ℕ → List (Row n) → Row n → Option (List (Row n))
  collect zero l m = none
  collect (suc most) l m = elim (next excluded m) [ none ↦ some (l ++ (m ∷ [])) | some r ↦ collect most (l ++ (m ∷ [])) r ]

  -- All monomials that are not excluded, if they are at most that many.
  unfoldable pub irreducibles : ℕ → Option (List (Row n))
  unfolding collect one
  irreducibles most = elim (excluded (one n)) [ true ↦ some [] | false ↦ collect most [] (one n) ]
