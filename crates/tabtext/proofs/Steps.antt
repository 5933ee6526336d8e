-- Readers in sequence: what they read, and what they have read.
--   got-value, got-rest     two readings of one text agree
--   got-not-bad             a reading is not bad
--   then-got, then-bad      a reader after one that reads, and after one that is bad
--   Stepped, then-back      what `r >>= next` has read is what next has read after what r has read
--   pure-back               the same, where next makes a value and reads no more
--   after-got, after-bad, after-back
--                           the same for `r >> next`
--   or-bad, or-none         the second reader where the first is bad, and the first where the second is bad
--   or-back                 what `r or other` has read, one of the two has read
use Prim.Native.Nat.{ℕ}
use mathlib.Core.Path.{◌≡◌, refl, ap, sym, ◌∙◌}
use native.Mathlib.Omega.{arith}
use Rattle.lists.specs.Lists.{Bytes}
use Rattle.tabtext.specs.Readers.{Got, got, bad, Reader, pure, ◌>>=◌, ◌>>◌, ◌or◌}

module _ {A : Type 0} where
  pub got-value : {a b : A} {s t : Bytes} → got a s ≡ got b t → a ≡ b
  got-value e = cc

  pub got-rest : {a b : A} {s t : Bytes} → got a s ≡ got b t → s ≡ t
  got-rest e = cc

  pub got-not-bad : {a : A} {s : Bytes} → got a s ≡ bad → ⊥
  got-not-bad e = let z : ◌≡◌ {A = ℕ} 0 1 = cc in omega arith

module _ {A : Type 0} (r other : Reader A) (s : Bytes) where
  or-got : {rest : Bytes} {a : A} → r s ≡ got a rest → ◌or◌ r other s ≡ got a rest
  unfolding ◌or◌
  or-got e = rw (◌or◌, e)

  pub or-bad : r s ≡ bad → ◌or◌ r other s ≡ other s
  unfolding ◌or◌
  or-bad e = rw (◌or◌, e)

  pub or-none : other s ≡ bad → ◌or◌ r other s ≡ r s
  or-none e = go (r s) refl
    where
      go : (x : Got A) → r s ≡ x → ◌or◌ r other s ≡ r s
      go (got a rest) q = or-got q ∙ sym q
      go bad q = or-bad q ∙ e ∙ sym q

  pub or-back : {rest : Bytes} {a : A} {C : Type 0} → (r s ≡ got a rest → C) → (other s ≡ got a rest → C) → ◌or◌ r other s ≡ got a rest → C
  or-back {rest} {a} {C} f g e = go (r s) refl
    where
      go : (x : Got A) → r s ≡ x → C
      go (got b t) q = f (q ∙ sym (or-got q) ∙ e)
      go bad q = g (sym (or-bad q) ∙ e)

module _ {A B : Type 0} (r : Reader A) (next : A → Reader B) (s : Bytes) where
  pub then-got : {a : A} {rest : Bytes} → r s ≡ got a rest → ◌>>=◌ r next s ≡ next a rest
  unfolding ◌>>=◌
  then-got e = rw (◌>>=◌, e)

  pub then-bad : r s ≡ bad → ◌>>=◌ r next s ≡ bad
  unfolding ◌>>=◌
  then-bad e = rw (◌>>=◌, e)

  -- What both have read.
  pub record Stepped (b : B) (rest : Bytes) : Type 0 where
    pub value : A
    pub between : Bytes
    pub front : r s ≡ got value between
    pub back : next value between ≡ got b rest

  pub then-back : {b : B} {rest : Bytes} → ◌>>=◌ r next s ≡ got b rest → Stepped b rest
  then-back {b} {rest} e = go (r s) refl
    where
      go : (g : Got A) → r s ≡ g → Stepped b rest
      go (got a t) q = record { value = a; between = t; front = q; back = sym (then-got q) ∙ e }
      go bad q = absurd (got-not-bad (sym e ∙ then-bad q))

pub pure-back : {A B : Type 0} (r : Reader A) (f : A → B) (s : Bytes) {b : B} {rest : Bytes} → ◌>>=◌ r (λ a. pure (f a)) s ≡ got b rest →
    (a : A) × (r s ≡ got a rest) × (b ≡ f a)
unfolding pure
pure-back r f s e = let p = then-back r (λ a. pure (f a)) s e in (p.value, p.front ∙ ap (got p.value) (got-rest p.back), sym (got-value p.back))

module _ {A B : Type 0} (r : Reader A) (next : Reader B) (s : Bytes) where
  pub after-got : {a : A} {rest : Bytes} → r s ≡ got a rest → ◌>>◌ r next s ≡ next rest
  unfolding ◌>>◌
  after-got e = then-got r (λ _. next) s e

  pub after-bad : r s ≡ bad → ◌>>◌ r next s ≡ bad
  unfolding ◌>>◌
  after-bad e = then-bad r (λ _. next) s e

  pub after-back : {b : B} {rest : Bytes} → ◌>>◌ r next s ≡ got b rest → Stepped r (λ _. next) s b rest
  unfolding ◌>>◌
  after-back e = then-back r (λ _. next) s e
