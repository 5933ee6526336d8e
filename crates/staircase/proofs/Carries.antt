-- The next monomial that is not excluded, sought from the last variable of a ranking on.
--   Cleared n vs excluded m r i   the variables of the ranking from place i on give none, and r is m with their exponents 0
--   clear-nothing                 at first no variable is tried
--   cleared-all                   no variable is left: none is found
--   variable-within               the variable before place i is one of the n
--   variable-exponent             its exponent in r is at most that in m
--   cleared-found                 with that exponent raised by one the monomial is not excluded: it is the next
--   cleared_more                  it is excluded: the exponent is set to 0
use mathlib.Core.Path.{◌≡◌, refl, sym, ◌∙◌, ap}
use mathlib.Core.Bool.{Bool, true, false}
use mathlib.Core.List.{List, [], ◌∷◌}
use mathlib.Core.Option.{none, some}
use Prim.Native.Nat.{ℕ, ◌+◌, ◌-◌, ◌≤◌, ◌<◌}
use native.Mathlib.Omega.{arith}
use lib.ListN.{length, get_or, take, drop, length-take, drop_of_length-le, take-append-drop}
use lib.Seq.{get_or-take, length-take-le}
use Rattle.std.specs.Prelude.{Some, None}
use Rattle.lists.proofs.Elements.{element-in}
use Rattle.monomial.specs.Rows.{Row, exponent}
use Rattle.monomial.specs.Represented.{row, monomial}
use Rattle.monomial.specs.declared.Monomial.{Monomial}
use Rattle.monomial.proofs.LexSteps.{ranking-cons}
use Rattle.groebner.specs.Next.{raise, clear, RanksOnce, carried, next}
use Rattle.groebner.proofs.Next.{next-append}
use Rattle.staircase.specs.Leads.{FoundNext}
use Rattle.staircase.proofs.PaddedRows.{held-row, padded}
use Rattle.staircase.proofs.ChangedExponents.{with-with, clear-below, carried-below, exponent-held, stored_at, raised_at, stored-with, raised-raise}

pub record Cleared (n : ℕ) (vs : List ℕ) (excluded : Row n → Bool) (m : Row n) (r : Monomial) (i : ℕ) : Type 0 where
  pub within : i ≤ n
  pub fits : n ≤ length vs
  pub ranks : RanksOnce n (take n vs)
  pub cleared : r ≡ monomial n (clear n (drop i (take n vs)) m)
  pub nowhere : next n (drop i (take n vs)) excluded m ≡ none

pub clear-nothing : {n : ℕ} {vs : List ℕ} {excluded : Row n → Bool} (m : Monomial) → n ≤ length vs → RanksOnce n (take n vs) → m ≡ monomial n (row n m)
    → Cleared n vs excluded (row n m) m n
unfolding clear next
clear-nothing {n} {vs} m h ranks e =
    let z : drop n (take n vs) ≡ [] = drop_of_length-le (take n vs) {i = n} (simp length-take (omega arith)) in
    record { within = omega arith; fits = h; ranks = ranks; cleared = rw z e; nowhere = rw z refl }

-- What the last variables of the ranking find is the next.
next-suffix : (n i : ℕ) (l : List ℕ) (excluded : Row n → Bool) (m r : Row n) → next n (drop i l) excluded m ≡ some r → next n l excluded m ≡ some r
next-suffix n i l excluded m r e = rw (take-append-drop i l) at (next-append n (take i l) (drop i l) excluded m r e)

-- The last variables v ∷ s of the ranking, where s finds nothing.
module _ (n v : ℕ) (s : List ℕ) (excluded : Row n → Bool) (m : Row n) (nowhere : next n s excluded m ≡ none) where
  next_here : excluded (carried n v s m) ≡ false → next n (v ∷ s) excluded m ≡ some (carried n v s m)
  unfolding next
  next_here e = rw (nowhere, e)

  next-not-here : excluded (carried n v s m) ≡ true → next n (v ∷ s) excluded m ≡ none
  unfolding next
  next-not-here e = rw (nowhere, e)

module _ {n : ℕ} {vs : List ℕ} {excluded : Row n → Bool} {m : Row n} {r : Monomial} {i : ℕ} (so_far : Cleared n vs excluded m r i) where
  pub cleared-all : i ≡ 0 → FoundNext n (take n vs) excluded m None
  cleared-all z = record { is_next = rw z at so_far.nowhere; padded = tt; raised = tt }

  module _ (before : 0 < i) where
    abbrev v : ℕ
    v = get_or vs (i - 1) 0

    abbrev s : List ℕ
    s = drop i (take n vs)

    suffix : drop (i - 1) (take n vs) ≡ v ∷ s
    suffix =
        let e : (i - 1) + 1 ≡ i = omega arith in
        rw e at (ranking-cons n (i - 1) vs (omega (arith, so_far.within)) so_far.fits)

    pub variable-within : v < n
    variable-within =
        let l : i - 1 < n = omega (arith, so_far.within) in
        so_far.ranks.only v (rw (get_or-take n vs (i - 1) 0 l) at (element-in 0 (take n vs) (i - 1) (omega (arith, length-take-le n vs so_far.fits))))

    pub variable-exponent : (get_or r.e v (record { 0 = 0 })).0 ≤ exponent n m v
    variable-exponent = rw so_far.cleared (omega (arith, exponent-held n v (clear n s m) variable-within, clear-below n s m v))

    carries : raised_at v r ≡ monomial n (carried n v s m)
    unfolding carried
    carries = ap (raised_at v) so_far.cleared ∙ raised-raise n v (clear n s m) variable-within

    -- t is whether the monomial with the exponent raised is excluded.
    module _ {t : Bool} (test : t ≡ excluded (row n (raised_at v r))) where
      tested : {u : Bool} → t ≡ u → excluded (carried n v s m) ≡ u
      tested e = ap excluded (sym (held-row n (carried n v s m) carries)) ∙ sym test ∙ e

      pub cleared-found : t ≡ false → FoundNext n (take n vs) excluded m (Some (raised_at v r))
      cleared-found e =
          let q = held-row n (carried n v s m) carries in
          let p : next n (drop (i - 1) (take n vs)) excluded m ≡ some (carried n v s m) = rw suffix (next_here n v s excluded m so_far.nowhere (tested e)) in record {
            is_next = rw q (next-suffix n (i - 1) (take n vs) excluded m (carried n v s m) p);
            padded = padded n (carried n v s m) carries;
            raised = λ k l. rw q (carried-below n v s m variable-within k);
          }

      pub cleared_more : t ≡ true → Cleared n vs excluded m (stored_at v (record { 0 = 0 }) (raised_at v r)) (i - 1)
      unfolding carried raise clear
      cleared_more e =
          record {
            within = omega (arith, so_far.within);
            fits = so_far.fits;
            ranks = so_far.ranks;
            cleared = rw suffix (ap (stored_at v (record { 0 = 0 })) carries ∙ stored-with n v (record { 0 = 0 }) (carried n v s m) variable-within ∙ ap (monomial n) (with-with n v 0 _ (clear n s m)));
            nowhere = rw suffix (next-not-here n v s excluded m so_far.nowhere (tested e));
          }
