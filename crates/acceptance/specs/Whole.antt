-- Believed. Checks 12 to 15 on the whole basis, in their order (document 01, "Refused texts"), for lines G with grevlex.
--   Whole p h n G o       o is the outcome of checks 12 to 15
use Rattle.std.specs.Prelude.{ℕ, ◌<◌, List}
use Rattle.residue.specs.Field.{ZMod, modulo}
use Rattle.monomial.specs.Rows.{Row}
use Rattle.monomial.specs.Ordering.{monomials, Grevlex}
use Rattle.answer.specs.Outcomes.{Judged, refuse◌at_smallest◌else◌, refuse◌at_0_if◌else◌}
use Rattle.groebner.specs.Lines.{Line}
use Rattle.groebner.specs.Standard.{ZeroDimensional}
use Rattle.staircase.specs.Conditions.{Large, Divided, Failing}

-- 12 to 15, and then `later`.
abbrev pub Whole : {A : Type 0} (p : ℕ) (h : 1 < p) (n : ℕ) → List (Line (ZMod p) (Row n)) → (Judged A → Type 0) → Judged A → Type 0
Whole p h n G later =
    refuse 12 at_smallest Divided (modulo p h) (monomials n) G else
    refuse 13 at_0_if ¬ ZeroDimensional n G else
    refuse 14 at_0_if Large n G else
    refuse 15 at_smallest Failing (modulo p h) (monomials n) G (Grevlex n) else
    later
