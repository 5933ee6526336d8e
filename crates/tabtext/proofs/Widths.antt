-- The number of bytes that things are printed in.
--   number-width-2, number-width-3, number-width-5  a number below 100 has at most 2, one below 1000 at most 3, one of the text at most 5
--   row-width                                       a row of exponents
--   term-width                                      a term
--   generator-width                                 a poly line
--   standard-width                                  a stairs line
--   header-width                                    a basis line
--   counted-width                                   a runs line or an end line
--   fields-most                                     a word and fields of fewer than k bytes each
--   row-width-5                                     a row of at most 4 exponents, each of fewer than 6 bytes, has at most 24
--   generator-most, standard-most                   a poly line, a stairs line of fields of fewer than k bytes each
--   SmallExponents e, SmallRow e                    exponents of at most 32; at most 4 of them
--   SmallTerm t                                     such a row and a coefficient of at most 251
--   row-width-most                                  a row of at most 4 exponents, none over 32, has at most 11
--   term-width-most                                 a term with such exponents and a coefficient of at most 251 has at most 15
--   generator-width-most                            a poly line of at most 33 such terms has at most 5 + 16 · 33
--   standard-width-most                             a stairs line of at most 32 such rows has at most 7 + 12 · 32
use Prim.Native.Nat.{ℕ, ◌+◌, ◌*◌, ◌≤◌, ◌<◌}
use mathlib.Core.Path.{◌≡◌, refl, ap, ◌∙◌}
use mathlib.Core.List.{List, [], ◌∷◌, ◌++◌, map, append-nil}
use native.Mathlib.Nat.{mul-suc}
use native.Mathlib.Omega.{arith}
use native.Mathlib.Decide.{dec_lt}
use lib.ListN.{length, drop, length-append}
use Rattle.lists.specs.Lists.{Bytes, Each}
use Rattle.residue.specs.Prime.{largest_modulus}
use Rattle.monomial.specs.Sizes.{most_variables, most_exponent}
use Rattle.lines.specs.Sizes.{most_standard, most_terms}
use Rattle.lines.specs.Terms.{Term}
use Rattle.tabtext.specs.Text.{Number, bytes, header, generator, standard, decimal, dotted, term}
use Rattle.tabtext.specs.Printed.{printed, count_line, fields_line}
use Rattle.tabtext.proofs.Decimal.{width-1, width-2, width-3, width-4, width-5}
use Rattle.tabtext.proofs.Parted.{each_after}
use Rattle.tabtext.proofs.Separators.{StandsAt, exponents-none, exponents-after, term-parts, fields-after, generator-after, standard-after, header-after}

pub number-width-2 : (v : ℕ) → v < 100 → length (decimal v) ≤ 2
number-width-2 v h = elim (dec_lt v 10) [ yes a ↦ omega (arith, width-1 v a) | no a ↦ omega (arith, width-2 v (omega arith) h) ]

pub number-width-3 : (v : ℕ) → v < 1000 → length (decimal v) ≤ 3
number-width-3 v h = elim (dec_lt v 100) [ yes a ↦ omega (arith, number-width-2 v a) | no a ↦ omega (arith, width-3 v (omega arith) h) ]

pub number-width-5 : (v : ℕ) → Number v → length (decimal v) ≤ 5
number-width-5 v h = elim (dec_lt v 1000) [
  | yes a ↦ omega (arith, number-width-3 v a)
  | no a ↦ elim (dec_lt v 10000) [ yes b ↦ omega (arith, width-4 v (omega arith) b) | no b ↦ omega (arith, width-5 v (omega arith) h) ]
]

-- A word, fields and LF.
line-width : (w l : Bytes) → length (w ++ (l ++ (10 ∷ []))) ≡ length w + 1 + length l
line-width w l = omega (arith, length-append w (l ++ (10 ∷ [])), length-append l (10 ∷ []))

pub row-width : (e : List ℕ) (x : ℕ) → StandsAt e 0 x → length (dotted e) ≡ length (decimal x) + length (each_after 46 (map decimal (drop 1 e)))
row-width e x s =
    let y : Bytes = each_after 46 (map decimal (drop 1 e)) in
    ap length (exponents-after e x s) ∙ length-append (decimal x) (y ++ []) ∙ ap (λ (b : Bytes). length (decimal x) + length b) (append-nil y)

pub term-width : (c : ℕ) (e : List ℕ) → length (term (c, e)) ≡ length (decimal c) + 1 + length (dotted e)
term-width c e = omega (arith, ap length (term-parts c e) ∙ length-append (decimal c) (58 ∷ dotted e))

pub generator-width : (ts : List Term) → length (printed (generator ts)) ≡ 5 + length (each_after 9 (map term ts))
unfolding bytes
generator-width ts = ap length (generator-after ts) ∙ line-width (bytes "poly") (each_after 9 (map term ts))

pub standard-width : (ms : List (List ℕ)) → length (printed (standard ms)) ≡ 7 + length (each_after 9 (map dotted ms))
unfolding bytes
standard-width ms = ap length (standard-after ms) ∙ line-width (bytes "stairs") (each_after 9 (map dotted ms))

pub counted-width : (w : Bytes) (v : ℕ) → length (count_line w v) ≡ length w + length (decimal v) + 2
unfolding count_line
counted-width w v = omega (arith, line-width w (9 ∷ decimal v))

pub header-width : (w : Bytes) (p n : ℕ) → length (printed (header w p n)) ≡ length w + length (decimal p) + length (decimal n) + 9
unfolding bytes
header-width w p n =
    omega (arith, ap length (header-after w p n), length-append w (9 ∷ decimal p ++ (9 ∷ decimal n ++ (10 ∷ []))), line-width (9 ∷ decimal p) (9 ∷ decimal n))

-- Fields of fewer than k bytes, each with a separator before it.
after-width-most : {A : Type 0} (show : A → Bytes) (sep k : ℕ) (l : List A) → Each (λ x. length (show x) < k) l →
    length (each_after sep (map show l)) ≤ k * length l
unfolding each_after
after-width-most show sep k [] h = omega arith
after-width-most show sep k (x ∷ l) h =
    rw (mul-suc k (length l))
    (omega (arith, h.0, after-width-most show sep k l h.1, length-append (show x) (each_after sep (map show l))))

each-implied : {A : Type 0} {P Q : A → Type 0} → ((x : A) → P x → Q x) → (l : List A) → Each P l → Each Q l
each-implied f [] h = tt
each-implied f (x ∷ l) h = (f x h.0, each-implied f l h.1)

-- A row of exponents, each of fewer than k bytes.
row-most : (k : ℕ) (e : List ℕ) → Each (λ v. length (decimal v) < k) e → length (dotted e) ≤ k * length e
row-most k [] h = omega (arith, ap length exponents-none)
row-most k (v ∷ e) h = rw (mul-suc k (length e)) (omega (arith, row-width (v ∷ e) v refl, h.0, after-width-most decimal 46 k e h.1))

pub row-width-5 : (n : ℕ) (e : List ℕ) → length e ≡ n → n ≤ most_variables → Each (λ v. length (decimal v) < 6) e → length (dotted e) ≤ 24
row-width-5 n e a b h = omega (arith, row-most 6 e h)

pub fields-most : {A : Type 0} (show : A → Bytes) (w : Bytes) (k : ℕ) (l : List A) → Each (λ x. length (show x) < k) l →
    length (fields_line show w l) ≤ length w + k * length l + 1
fields-most show w k l h =
    omega (arith, ap length (fields-after show w l), line-width w (each_after 9 (map show l)), after-width-most show 9 k l h)

pub generator-most : (k : ℕ) (ts : List Term) → Each (λ t. length (term t) < k) ts → length (printed (generator ts)) ≤ 5 + k * length ts
generator-most k ts h = omega (arith, generator-width ts, after-width-most term 9 k ts h)

pub standard-most : (k : ℕ) (ms : List (List ℕ)) → Each (λ e. length (dotted e) < k) ms → length (printed (standard ms)) ≤ 7 + k * length ms
standard-most k ms h = omega (arith, standard-width ms, after-width-most dotted 9 k ms h)

-- No exponent over 32.
abbrev pub SmallExponents : List ℕ → Type 0
SmallExponents e = Each (λ v. v ≤ most_exponent) e

-- At most 4 such exponents.
abbrev pub SmallRow : List ℕ → Type 0
SmallRow e = (length e ≤ most_variables) × SmallExponents e

-- A coefficient of at most 251, and such a row.
abbrev pub SmallTerm : Term → Type 0
SmallTerm t = (t.0 ≤ largest_modulus) × SmallRow t.1

exponent-width-most : (v : ℕ) → v ≤ most_exponent → length (decimal v) < 3
exponent-width-most v h = omega (arith, number-width-2 v (omega arith))

pub row-width-most : (e : List ℕ) → SmallRow e → length (dotted e) < 12
row-width-most [] h = omega (arith, ap length exponents-none)
row-width-most (v ∷ e) h =
    let k = after-width-most decimal 46 3 e (each-implied exponent-width-most e h.1.1) in
    omega (arith, row-width (v ∷ e) v refl, exponent-width-most v h.1.0)

pub term-width-most : (t : Term) → SmallTerm t → length (term t) < 16
term-width-most t h =
    omega (arith, term-width t.0 t.1, number-width-3 t.0 (omega arith), row-width-most t.1 h.1)

pub generator-width-most : (ts : List Term) → length ts ≤ most_terms → Each SmallTerm ts → length (printed (generator ts)) ≤ 5 + 16 * most_terms
generator-width-most ts h s =
    omega (arith, generator-most 16 ts (each-implied term-width-most ts s))

pub standard-width-most : (ms : List (List ℕ)) → length ms ≤ most_standard → Each SmallRow ms →
    length (printed (standard ms)) ≤ 7 + 12 * most_standard
standard-width-most ms h s =
    omega (arith, standard-most 12 ms (each-implied row-width-most ms s))
