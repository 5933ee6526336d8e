-- What stands at each place of the rows and terms that values of the code hold.
--   exponents-length-of     the row of a monomial in n variables has n exponents
--   dotted-at               the exponent at a place
--   exponent-stands         the same, as what stands there
--   terms-printed-length    the number of the terms of a line
--   term-stands             the term at a place
--   exponent_lists n k ms   the rows of the first k monomials
--   rows-printed-length     their number
--   exponents-stand         the row at a place
use Prim.Native.Nat.{ℕ, ◌≤◌, ◌<◌}
use mathlib.Core.Path.{◌≡◌, ap, sym, ◌∙◌}
use mathlib.Core.List.{List, map}
use native.Mathlib.Omega.{arith}
use lib.ListN.{length, get_or, take, length-map, get_or-map}
use lib.Seq.{get_or-take, length-take-le}
use Rattle.monomial.specs.declared.Exponent.{Exponent}
use Rattle.monomial.specs.declared.Monomial.{Monomial}
use Rattle.lines.specs.LineTerms.{exponents_of, term_of, terms_in}
use Rattle.lines.specs.declared.line.LineTerm.{LineTerm}
use Rattle.tabtext.proofs.Separators.{StandsAt, stands_at}

pub exponents-length-of : (n : ℕ) (m : Monomial) → n ≤ length m.e → length (exponents_of n m) ≡ n
unfolding exponents_of
exponents-length-of n m h = length-take-le n (map (λ (x : Exponent). x.0) m.e) (rw (length-map m.e (λ (x : Exponent). x.0)) h)

pub dotted-at : (n : ℕ) (m : Monomial) (i : ℕ) → i < n → get_or (exponents_of n m) i 0 ≡ (get_or m.e i (record { 0 = 0 })).0
unfolding exponents_of
dotted-at n m i h = get_or-take n (map (λ (x : Exponent). x.0) m.e) i 0 h ∙ get_or-map (λ (x : Exponent). x.0) m.e i (record { 0 = 0 })

pub exponent-stands : (n j : ℕ) (m : Monomial) (x : ℕ) → length (exponents_of n m) ≡ n → j < n → x ≡ get_or (exponents_of n m) j 0 → StandsAt (exponents_of n m) j x
exponent-stands n j m x k h e = stands_at (exponents_of n m) j x 0 e (omega arith)

pub terms-printed-length : (n : ℕ) (g : List LineTerm) → length (terms_in n g) ≡ length g
unfolding terms_in
terms-printed-length n g = length-map g (term_of n)

pub term-stands : (n j : ℕ) (g : List LineTerm) (t : LineTerm) → j < length (terms_in n g) → StandsAt (terms_in n g) j (term_of n (get_or g j t))
unfolding terms_in
term-stands n j g t h = stands_at (terms_in n g) j _ (term_of n t) (sym (get_or-map (term_of n) g j t)) h

-- The rows of the first k monomials.
abbrev pub exponent_lists : ℕ → ℕ → List Monomial → List (List ℕ)
exponent_lists n k ms = map (exponents_of n) (take k ms)

pub rows-printed-length : (n k : ℕ) (ms : List Monomial) → k ≤ length ms → length (exponent_lists n k ms) ≡ k
rows-printed-length n k ms h = length-map (take k ms) (exponents_of n) ∙ length-take-le k ms h

pub exponents-stand : (n k j : ℕ) (ms : List Monomial) (m : Monomial) → j < k → j < length (exponent_lists n k ms) → StandsAt (exponent_lists n k ms) j (exponents_of n (get_or ms j m))
exponents-stand n k j ms m h i =
    let e : get_or (exponent_lists n k ms) j (exponents_of n m) ≡ exponents_of n (get_or (take k ms) j m) = get_or-map (exponents_of n) (take k ms) j m in
    stands_at (exponent_lists n k ms) j _ (exponents_of n m) (sym (e ∙ ap (exponents_of n) (get_or-take k ms j m h))) i
