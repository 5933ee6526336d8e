-- Lex over a list of variables, from the first of them on.
--   lex-tie          at equal exponents of the first variable, the other variables decide
--   lex-decided      exponents of the first variable that differ decide
--   backwards-cons   the first variable of xi, .., x1
--   ranking-cons     the first variable of a ranking from place i on
use mathlib.Core.Path.{◌≡◌, refl, sym, ◌∙◌, ap}
use mathlib.Core.List.{List, ◌∷◌}
use Prim.Native.Nat.{ℕ, suc, ◌+◌, ◌-◌, ◌<◌, ◌≤◌}
use native.Mathlib.Numerals.{add-one}
use native.Mathlib.Omega.{arith}
use lib.ListN.{length, get_or, take, drop, length-take}
use lib.Seq.{drop-cons, get_or-take}
use Rattle.monomial.specs.Rows.{Row, exponent}
use Rattle.monomial.specs.Orders.{compared, lex, backwards}
use Rattle.std.specs.declared.cmp.Ordering.{Ordering}
use Rattle.std.specs.declared.cmp.Ordering.TheVariants.{Less, Equal, Greater}
use Rattle.monomial.proofs.Comparisons.{then}
use Rattle.monomial.proofs.LexOrder.{lex-cons}

-- Lex over the list l is r, the first variable of l is v, and its exponents compare as c.
module _ (n : ℕ) (a b : Row n) {v : ℕ} {s l : List ℕ} {r : Ordering} (first : l ≡ v ∷ s) (so_far : lex n l a b ≡ r) where
  lex-next : {c : Ordering} → c ≡ compared (exponent n a v) (exponent n b v) → then c (lex n s a b) ≡ r
  lex-next e = rw (e, ← lex-cons, ← first) so_far

  pub lex-tie : {c : Ordering} → c ≡ compared (exponent n a v) (exponent n b v) → c ≡ Equal → lex n s a b ≡ r
  lex-tie e q = lex-next (sym q ∙ e)

  pub lex-decided : {c : Ordering} → c ≡ compared (exponent n a v) (exponent n b v) → ¬ (c ≡ Equal) → c ≡ r
  lex-decided {c = Less} e q = lex-next e
  lex-decided {c = Equal} e q = absurd (q refl)
  lex-decided {c = Greater} e q = lex-next e

pub backwards-cons : (i : ℕ) → 0 < i → backwards i ≡ (i - 1) ∷ backwards (i - 1)
unfolding backwards
backwards-cons i h = let e : i ≡ suc (i - 1) = omega arith in ap backwards e

pub ranking-cons : (n i : ℕ) (l : List ℕ) → i < n → n ≤ length l → drop i (take n l) ≡ get_or l i 0 ∷ drop (i + 1) (take n l)
ranking-cons n i l h g =
    let k : i < length (take n l) = simp length-take (omega arith) in
    rw (add-one, ← get_or-take n l i 0) (drop-cons (take n l) i 0 k)
