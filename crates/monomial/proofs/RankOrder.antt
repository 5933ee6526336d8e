-- The order of ranks is grevlex, and the rank of a product is the sum of the ranks.
--   key-backwards    a smaller key is a monomial that is smaller in lex from the last variable on
--   degree-total     the degree is the sum of the exponents
--   rank_is          rank and key together are the degree times what a digit after the last counts
--   rank_less        a smaller rank is a smaller monomial
--   rank-injective   monomials with one rank are equal
--   rank-product     the rank of a product
--   rank-small       no rank is above all ranks
--   keying-all       the end of the loop of `rank`
use mathlib.Core.Path.{◌≡◌, refl, sym, ◌∙◌, ap, ap₂}
use mathlib.Core.Logic.{◌↔◌, ◌⊎◌, inl, inr, ⊎_elim, by_cases}
use Prim.Native.Nat.{ℕ, zero, suc, ◌+◌, ◌-◌, ◌*◌, ◌≤◌, ◌<◌}
use native.Mathlib.Decide.{dec_lt}
use native.Mathlib.Nat.{mul-le-mul_left, mul-suc}
use native.Mathlib.Omega.{arith}
use Rattle.monomial.specs.Sizes.{most_variables}
use Rattle.monomial.specs.Represented.{most_entry}
use Rattle.monomial.specs.Rows.{Row, exponent, product, degree}
use Rattle.monomial.specs.Orders.{lex, backwards}
use Rattle.monomial.specs.Ordering.{Grevlex}
use Rattle.monomial.specs.Ranks.{weight, from_digits, key_of, rank_of, above_ranks, Short}
use Rattle.std.specs.declared.cmp.Ordering.TheVariants.{Less}
use Rattle.monomial.proofs.Comparisons.{equal-not-less}
use Rattle.monomial.proofs.LexOrder.{lex-cons-less}
use Rattle.monomial.proofs.GrevlexOrder.{grevlex-less, grevlex-order}
use Rattle.monomial.proofs.Products.{degree-product, exponent-product}
use Rattle.monomial.proofs.KeyDigits.{weight-up, digits-below, digit-less, digit_total, total-most, digits-most, digits_sum, Keying}

module _ (n : ℕ) (a b : Row n) (s : Short n a) (t : Short n b) where
  below : (m : Row n) → Short n m → (c : ℕ) → c ≤ n → from_digits (exponent n m) c < weight c
  below m u c h = digits-below (exponent n m) c (λ i l. u.short i (omega arith))

  -- The first c variables, the last of them first.
  first : (c : ℕ) → c ≤ n → (lex n (backwards c) b a ≡ Less) ↔ (from_digits (exponent n b) c < from_digits (exponent n a) c)
  unfolding lex backwards from_digits
  first zero h = (λ l. absurd (equal-not-less l), λ l. absurd (omega arith))
  first (suc c) h =
      let rest = first c (omega arith) in
      let less = digit-less (weight c) (from_digits (exponent n b) c) (from_digits (exponent n a) c) (exponent n b c) (exponent n a c) (below b t c (omega arith)) (below a s c (omega arith)) in (
        λ l. less.1 (⊎_elim inl (λ p. inr (p.0, rest.0 p.1)) ((lex-cons-less n c (backwards c) b a).0 l)),
        λ l. (lex-cons-less n c (backwards c) b a).1 (⊎_elim inl (λ p. inr (p.0, rest.1 p.1)) (less.0 l)),
      )

  pub key-backwards : (lex n (backwards n) b a ≡ Less) ↔ (key_of n b < key_of n a)
  key-backwards = first n (omega arith)

total-cons : (n k : ℕ) (a : Row (suc n)) → digit_total (exponent (suc n) a) (suc k) ≡ a.0 + digit_total (exponent n a.1) k
unfolding exponent digit_total
total-cons n zero a = omega arith
total-cons n (suc k) a = omega (arith, total-cons n k a)

pub degree-total : (n : ℕ) (a : Row n) → degree n a ≡ digit_total (exponent n a) n
unfolding degree digit_total
degree-total zero a = refl
degree-total (suc n) a = omega (arith, degree-total n a.1, total-cons n n a)

pub rank_is : (n : ℕ) (a : Row n) → rank_of n a + key_of n a ≡ degree n a * weight n
unfolding rank_of
rank_is n a = omega (arith, digits-most (exponent n a) n n (omega arith), ap (λ d. d * weight n) (degree-total n a))

-- Ranks at other degrees.
degree-less : (w d e r s j k : ℕ) → r + j ≡ d * w → s + k ≡ e * w → k < w → d < e → r < s
degree-less w d e r s j k p q h l = omega (arith, mul-le-mul_left w l, mul-suc w d)

module _ (n : ℕ) where
  key_below : (a : Row n) → Short n a → key_of n a < weight n
  key_below a s = digits-below (exponent n a) n s.short

  module _ (a b : Row n) (s : Short n a) (t : Short n b) where
    pub rank_less : Grevlex n a b ↔ (rank_of n a < rank_of n b)
    rank_less = (λ l. to ((grevlex-less n a b).0 l), λ l. (grevlex-less n a b).1 (from l))
      where
        at-equal : degree n a ≡ degree n b → degree n a * weight n ≡ degree n b * weight n
        at-equal e = ap (λ d. d * weight n) e

        to : (degree n a < degree n b) ⊎ ((degree n a ≡ degree n b) × (lex n (backwards n) b a ≡ Less)) → rank_of n a < rank_of n b
        to (inl l) = degree-less (weight n) (degree n a) (degree n b) (rank_of n a) (rank_of n b) (key_of n a) (key_of n b) (rank_is n a) (rank_is n b) (key_below b t) l
        to (inr (e, l)) = omega (arith, rank_is n a, rank_is n b, at-equal e, (key-backwards n a b s t).0 l)

        from : rank_of n a < rank_of n b → (degree n a < degree n b) ⊎ ((degree n a ≡ degree n b) × (lex n (backwards n) b a ≡ Less))
        from l = by_cases (dec_lt (degree n a) (degree n b)) inl (λ m. by_cases (dec_lt (degree n b) (degree n a))
            (λ g. absurd (omega (arith, degree-less (weight n) (degree n b) (degree n a) (rank_of n b) (rank_of n a) (key_of n b) (key_of n a) (rank_is n b) (rank_is n a) (key_below a s) g)))
            (λ g. let e : degree n a ≡ degree n b = omega arith in inr (e, (key-backwards n a b s t).1 (omega (arith, rank_is n a, rank_is n b, at-equal e)))))

  pub rank-injective : (a b : Row n) → Short n a → Short n b → rank_of n a ≡ rank_of n b → a ≡ b
  rank-injective a b s t e = same ((grevlex-order n).total a b)
    where
      same : Grevlex n a b ⊎ ((a ≡ b) ⊎ Grevlex n b a) → a ≡ b
      same (inl l) = absurd (omega (arith, (rank_less a b s t).0 l))
      same (inr (inl q)) = q
      same (inr (inr l)) = absurd (omega (arith, (rank_less b a t s).0 l))

  pub rank-product : (a b : Row n) → rank_of n (product n a b) ≡ rank_of n a + rank_of n b
  rank-product a b = omega (
    arith,
    rank_is n (product n a b),
    rank_is n a,
    rank_is n b,
    ap (λ d. d * weight n) (degree-product n a b),
    digits_sum (exponent n a) (exponent n b) (exponent n (product n a b)) n (exponent-product n a b),
  )

  -- What ranks are made of is below above_ranks.
  degree-small : n ≤ most_variables → (a : Row n) → Short n a → degree n a * weight n < above_ranks
  unfolding weight
  degree-small h a s = omega (arith, mul-le-mul_left (weight n) most, weight-up n most_variables h)
    where
      most : degree n a ≤ most_variables * most_entry
      most = omega (arith, degree-total n a, total-most (exponent n a) n s.short)

  pub rank-small : n ≤ most_variables → (a : Row n) → Short n a → rank_of n a < above_ranks
  rank-small h a s = omega (arith, rank_is n a, degree-small h a s)

  -- All exponents are taken.
  pub keying-all : (a : Row n) {d k w i : ℕ} → n ≤ most_variables → Keying (exponent n a) n d k w i → n ≤ i → (d * w < above_ranks) × (k ≤ d * w) × (d * w - k ≡ rank_of n a) × Short n a
  keying-all a {d} {k} {w} {i} h all l = (omega (arith, degree-small h a short, product), omega (arith, rank_is n a, product, number), omega (arith, rank_is n a, product, number), short)
    where
      end : i ≡ n
      end = omega (arith, all.within)

      product : d * w ≡ degree n a * weight n
      product = ap₂ ◌*◌ (all.sum ∙ ap (digit_total (exponent n a)) end ∙ sym (degree-total n a)) (all.counts ∙ ap weight end)

      number : k ≡ key_of n a
      number = all.number ∙ ap (from_digits (exponent n a)) end

      short : Short n a
      short = record { short = λ j u. all.digit j (omega arith) }
