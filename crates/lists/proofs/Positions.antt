-- What a search through a list for the first element that passes a test finds.
--   position-none   it finds nothing: no element passes
use mathlib.Core.Path.{◌≡◌, refl}
use mathlib.Core.Bool.{Bool, true, false}
use mathlib.Core.List.{List}
use Prim.Native.Nat.{ℕ, ◌<◌}
use native.Mathlib.Omega.{arith}
use borrow.Author.Tests.{ltb-false}
use lib.ListN.{length, get_or}
use Rattle.std.specs.Prelude.{None, position, nat_lt}
use Rattle.std.specs.List.{position_or_len}
use Rattle.std.proofs.lemmas.List.Sums.{fails_before_first}

pub position-none : {A : Type 0} (p : A → Bool) (l : List A) (d : A) → position p l ≡ None → (k : ℕ) → k < length l → p (get_or l k d) ≡ false
position-none p l d e k h = fails_before_first p l k d (go (nat_lt (position_or_len p l) (length l)) refl)
  where
    go : (b : Bool) → nat_lt (position_or_len p l) (length l) ≡ b → k < position_or_len p l
    go true q = absurd (let none = rw q at e in cc)
    go false q = omega (arith, ltb-false _ _ q)
