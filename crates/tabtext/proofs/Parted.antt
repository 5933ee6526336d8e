-- Fields that are parted by a separator, as fields that stand after one.
--   each_after sep fs   each field with the separator before it
--   part-after          parted fields: the first one, and the others after a separator
--   length-after        there are at most as many fields as bytes
use Prim.Native.Nat.{ℕ, ◌≤◌}
use mathlib.Core.Path.{◌≡◌, sym, ap}
use mathlib.Core.List.{List, [], ◌∷◌, ◌++◌, append-nil}
use native.Mathlib.Omega.{arith}
use lib.ListN.{length, length-append}
use Rattle.lists.specs.Lists.{Bytes}
use Rattle.tabtext.specs.Text.{part}

-- Each field with the separator before it.
unfoldable pub each_after : ℕ → List Bytes → Bytes
each_after sep [] = []
each_after sep (f ∷ fs) = sep ∷ (f ++ each_after sep fs)

pub part-after : (sep : ℕ) (f : Bytes) (fs : List Bytes) → part sep (f ∷ fs) ≡ f ++ each_after sep fs
unfolding part each_after
part-after sep f [] = sym (append-nil f)
part-after sep f (g ∷ fs) = ap (λ x. f ++ (sep ∷ x)) (part-after sep g fs)

pub length-after : (sep : ℕ) (fs : List Bytes) → length fs ≤ length (each_after sep fs)
unfolding each_after
length-after sep [] = omega arith
length-after sep (f ∷ fs) = omega (arith, length-after sep fs, length-append f (each_after sep fs))
