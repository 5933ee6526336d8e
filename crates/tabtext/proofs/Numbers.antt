-- Numbers: printing and reading undo each other.
--   NoDigit s          s starts with no digit
--   read-of-number     a printed number is read, if no digit follows it
--   number-of-read     a number that is read was printed, and has 1 to 5 digits
use Prim.Native.Nat.{ℕ, zero, suc, ◌+◌, ◌-◌, ◌*◌, ◌/◌, ◌%◌, ◌^◌, ◌≤◌, ◌<◌}
use mathlib.Core.Path.{◌≡◌, refl, ap, sym, ◌∙◌}
use mathlib.Core.List.{[], ◌∷◌, ◌++◌, append_assoc}
use native.Mathlib.Omega.{arith}
use native.Mathlib.Decide.{dec_lt}
use native.Mathlib.Nat.{lt_of_lt_of_le, pow-le-pow_right, pow-suc}
use native.Mathlib.Numerals.{sub-one}
use lib.ListN.{drop}
use borrow.Author.Tests.{le-leb, ne_eqb, lt-ltb, le-ltb}
use Rattle.lists.specs.Lists.{Bytes}
use Rattle.tabtext.specs.Text.{digits, decimal, Number}
use Rattle.tabtext.specs.Readers.{got, first, digit, more_digits, read_number}
use Rattle.tabtext.proofs.Steps.{got-value, got-rest, got-not-bad}
use Rattle.tabtext.proofs.Places.{digit-is, digit-above, digit-below}
use Rattle.tabtext.proofs.NumberLoop.{bad-first, more-end}

abbrev pub NoDigit : Bytes → Type 0
NoDigit s = 9 < digit s

-- Of a value below 10^g the first g digits are all, and so are the first f, where f is above the value.
digits-all : (f g v : ℕ) → 0 < v → v < f → v < 10 ^ g → digits f v ≡ digits g v
unfolding digits
digits-all zero g v p h k = absurd (omega arith)
digits-all (suc f) zero v p h k = absurd (omega arith)
digits-all (suc f) (suc g) v p h k = elim (dec_lt v 10) [
  | yes q ↦ rw (digits, lt-ltb v 10 q)
  | no q ↦
      rw (digits, le-ltb v 10 (omega arith))
      (ap (λ l. l ++ ((48 + v % 10) ∷ [])) (digits-all f g (v / 10) (omega arith) (omega arith) (omega (arith, pow-suc 10 g))))
]

-- A printed digit is read as its value.
digit-cons : (d : ℕ) (s : Bytes) → d ≤ 9 → digit ((48 + d) ∷ s) ≡ d
unfolding first
digit-cons d s h = digit-is ((48 + d) ∷ s) (48 + d) refl (omega arith) (omega arith) ∙ omega arith

more-of-digit : (k v d : ℕ) (s : Bytes) → 0 < k → d ≤ 9 → more_digits k v ((48 + d) ∷ s) ≡ more_digits (k - 1) (v * 10 + d) s
unfolding more_digits
more-of-digit zero v d s p h = absurd (omega arith)
more-of-digit (suc k) v d s p h = rw (more_digits, digit-cons d s h, le-leb d 9 h, digit-cons d s h, sub-one)

number-of-digit : (d : ℕ) (s : Bytes) → 0 < d → d ≤ 9 → read_number ((48 + d) ∷ s) ≡ more_digits 4 d s
unfolding read_number
number-of-digit d s p h = rw (read_number, digit-cons d s h, le-leb d 9 h, digit-cons d s h, ne_eqb d 0 (λ e. omega arith), digit-cons d s h)

-- Digits are read, and k more could follow.
read-of-digits : (f v : ℕ) (rest : Bytes) → f ≤ 5 → 0 < v → v < 10 ^ f → (k : ℕ) × (5 ≤ f + k) × (read_number (digits f v ++ rest) ≡ more_digits k v rest)
unfolding digits
read-of-digits zero v rest b p h = absurd (omega arith)
read-of-digits (suc f) v rest b p h = elim (dec_lt v 10) [
  | yes q ↦ (4, omega arith, rw (digits, lt-ltb v 10 q) (number-of-digit v rest p (omega arith)))
  | no q ↦
      let r = read-of-digits f (v / 10) ((48 + v % 10) ∷ rest) (omega arith) (omega arith) (omega (arith, pow-suc 10 f)) in
      let back : v / 10 * 10 + v % 10 ≡ v = omega arith in
      let more = more-of-digit r.0 (v / 10) (v % 10) rest (omega arith) (omega arith) in
      (r.0 - 1, omega arith, rw (digits, le-ltb v 10 (omega arith), append_assoc) (r.2 ∙ more ∙ rw back))
]

pub read-of-number : (v : ℕ) (rest : Bytes) → Number v → NoDigit rest → read_number (decimal v ++ rest) ≡ got v rest
unfolding decimal digits read_number
read-of-number zero rest h e = rw (read_number, digit-cons 0 rest (omega arith), digit-cons 0 rest (omega arith))
read-of-number (suc v) rest h e =
    let r = read-of-digits 5 (suc v) rest (omega arith) (omega arith) h in
    rw (digits-all (suc (suc v)) 5 (suc v) (omega arith) (omega arith) h) (r.2 ∙ more-end r.0 (suc v) rest e)

-- A digit at the front is its byte.
cons-digit : (s : Bytes) → digit s ≤ 9 → s ≡ (48 + digit s) ∷ drop 1 s
unfolding first
cons-digit [] h = absurd (omega (arith, digit-below [] 0 refl (omega arith)))
cons-digit (b ∷ s) h = elim (dec_lt b 48) [
  | yes p ↦ absurd (omega (arith, digit-below (b ∷ s) b refl p))
  | no p ↦
      elim (dec_lt 57 b) [
        | yes q ↦ absurd (omega (arith, digit-above (b ∷ s) b refl q))
        | no q ↦ ap (λ x. x ∷ s) (omega (arith, digit-is (b ∷ s) b refl (omega arith) (omega arith)))
      ]
]

-- One digit more.
digits-snoc : (f v d : ℕ) → 0 < v → d ≤ 9 → digits (suc f) (v * 10 + d) ≡ digits f v ++ ((48 + d) ∷ [])
unfolding digits
digits-snoc f v d p h =
    let tenth : (v * 10 + d) / 10 ≡ v = omega arith in
    let last : (v * 10 + d) % 10 ≡ d = omega arith in
    rw (digits, le-ltb (v * 10 + d) 10 (omega arith), tenth, last)

-- What was read: a number with its digits.
abbrev Printed : Bytes → ℕ → Bytes → Type 0
Printed s w rest = Number w × (s ≡ decimal w ++ rest)

-- The value v of f digits, and what follows them.
printed : (f v : ℕ) (s : Bytes) {w : ℕ} {rest : Bytes} → f ≤ 5 → 0 < v → v < 10 ^ f → got v s ≡ got w rest → Printed (digits f v ++ s) w rest
unfolding decimal
printed f v s {w} {rest} b p h e =
    let same : v ≡ w = got-value e in (
      rw same at (lt_of_lt_of_le h (pow-le-pow_right {n = 10} (omega arith) {i = f} {j = 5} b)),
      rw (← (digits-all (suc v) f v p (omega arith) h), same, got-rest e),
    )

more-of-read : (k f v : ℕ) (s : Bytes) {w : ℕ} {rest : Bytes} → k + f ≡ 5 → 0 < v → v < 10 ^ f → more_digits k v s ≡ got w rest → Printed (digits f v ++ s) w rest
unfolding more_digits
more-of-read zero f v s z p h e = printed f v s (omega arith) p h e
more-of-read (suc k) f v s {w} {rest} z p h e = elim (dec_lt (digit s) 10) [
  | yes q ↦
      let d = digit s in
      let more : more_digits k (v * 10 + d) (drop 1 s) ≡ got w rest = rw (more_digits, le-leb d 9 (omega arith)) at e in
      let r = more-of-read k (suc f) (v * 10 + d) (drop 1 s) (omega arith) (omega arith) (omega (arith, pow-suc 10 f)) more in
      let front = ap (λ x. digits f v ++ x) (cons-digit s (omega arith)) in
      let joined = sym (append_assoc (digits f v) ((48 + d) ∷ []) (drop 1 s)) in
      let longer = ap (λ x. x ++ drop 1 s) (sym (digits-snoc f v d p (omega arith))) in
      (r.0, front ∙ joined ∙ longer ∙ r.1)
  | no q ↦ printed f v s (omega arith) p h (sym (more-end (suc k) v s (omega arith)) ∙ e)
]

pub number-of-read : (s : Bytes) {v : ℕ} {rest : Bytes} → read_number s ≡ got v rest → Number v × (s ≡ decimal v ++ rest)
unfolding read_number decimal digits
number-of-read s {v} {rest} e = elim (dec_lt (digit s) 10) [
  | yes q ↦
      elim (dec_lt 0 (digit s)) [
        | yes p ↦
            let d = digit s in
            let more : more_digits 4 d (drop 1 s) ≡ got v rest = rw (read_number, le-leb d 9 (omega arith), ne_eqb d 0 (λ z. omega arith)) at e in
            let r = more-of-read 4 1 d (drop 1 s) (omega arith) p q more in
            (r.0, cons-digit s (omega arith) ∙ rw (digits, lt-ltb d 10 q) at r.1)
        | no p ↦
            let z : digit s ≡ 0 = omega arith in
            let r : got 0 (drop 1 s) ≡ got v rest = rw (read_number, z, z) at e in
            let same : 0 ≡ v = got-value r in
            (omega arith, cons-digit s (omega arith) ∙ rw (z, ← same, got-rest r))
      ]
  | no q ↦ absurd (got-not-bad (sym e ∙ bad-first s (omega arith)))
]
