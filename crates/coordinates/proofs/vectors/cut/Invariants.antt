-- `cut` meets its contract. The loop's invariant: from d on the first k coefficients are zero, all others are those of the argument.
use Prim.Native.Nat.{◌<◌, ◌≤◌}
use mathlib.Core.Path.{◌≡◌}
use lib.ListN.{get_or}
use Rattle.lists.proofs.Storing.{FilledTo}
use Rattle.coordinates.proofs.vectors.cut.Given as goal

abbrev pub invariant-loop-k : goal.invariant-loop-k
invariant-loop-k l = FilledTo (λ j x. (j < l.count → x ≡ get_or l.initial.r.c j (record { 0 = 0 })) × (l.count ≤ j → x.0 ≡ 0)) (record { 0 = 0 }) l.initial.r.c l.r.c l.k
