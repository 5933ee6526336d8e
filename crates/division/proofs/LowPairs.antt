-- After checks 12 to 14 the least common multiple of two leading monomials has degree at most n + 31.
--   low-pairs    none has more than the largest degree
use Prim.Native.Nat.{ℕ, ◌<◌}
use native.Mathlib.Omega.{arith}
use Rattle.residue.specs.Field.{modulo}
use Rattle.monomial.specs.Ordering.{monomials}
use Rattle.groebner.specs.Standard.{ZeroDimensional}
use Rattle.lines.specs.declared.StoredBasis.{StoredBasis}
use Rattle.staircase.specs.StoredLines.{stored_lines}
use Rattle.staircase.specs.Sound.{Sound}
use Rattle.staircase.specs.Conditions.{Divided, Large}
use Rattle.staircase.proofs.ClearLines.{divided-clear}
use Rattle.staircase.proofs.LcmDegree.{lcm-degree}
use Rattle.division.specs.Clearing.{line_at}
use Rattle.division.specs.PairRemainders.{LowPairs}
use Rattle.division.proofs.BasisSystem.{line-in, line-lead-at}

module _ (b : StoredBasis) (sound : Sound b) (h : 1 < b.p)
    (undivided : (k : ℕ) → ¬ Divided (modulo b.p h) (monomials b.n) (stored_lines b h) k)
    (finite : ZeroDimensional b.n (stored_lines b h)) (small : ¬ Large b.n (stored_lines b h)) where
  pub low-pairs : LowPairs b
  low-pairs i j li lj =
      let clear = (divided-clear (modulo b.p h) (monomials b.n) (stored_lines b h)).0 undivided in
      let d = lcm-degree (modulo b.p h) b.n (stored_lines b h) clear finite small (line_at b h i) (line_at b h j) (line-in b h i li) (line-in b h j lj) in
      omega (arith, rw (line-lead-at b h i, line-lead-at b h j) at d, sound.variables)
