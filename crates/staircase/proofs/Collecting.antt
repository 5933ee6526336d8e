-- All monomials that are not excluded, stored in rising order as long as there is room.
--   Uncollected       the monomials from m on are left to be stored, or none is
--   Collected         the monomials of the list are stored; r is the next, if there is one
--   collected-none    at first none is stored
--   collected-all     none is left
--   collected-small   the exponents of the next fit a value of the code
--   collected-more    it is stored, and the one after it sought
--   collected-full    there is no room for it
use mathlib.Core.Path.{◌≡◌, refl, sym, ◌∙◌, ap}
use mathlib.Core.Bool.{Bool, true, false, not}
use mathlib.Core.List.{List, [], ◌∷◌, ◌++◌}
use mathlib.Core.Option.{some}
use Prim.Native.Nat.{ℕ, suc, ◌+◌, ◌-◌, ◌≤◌, ◌<◌}
use native.Mathlib.Omega.{arith}
use lib.ListN.{length, take, length-append}
use Rattle.std.specs.Prelude.{Option, Some, None, option_map, IfSome}
use Rattle.std.specs.Bool.{then_some}
use Rattle.std.proofs.lemmas.Option.{IfSome_then}
use Rattle.monomial.specs.Sizes.{most_variables}
use Rattle.monomial.specs.Rows.{Row, exponent, one}
use Rattle.monomial.specs.Represented.{row, monomial, most_entry}
use Rattle.monomial.specs.declared.Monomial.{Monomial}
use Rattle.monomial.proofs.Products.{exponent-one}
use Rattle.groebner.specs.Next.{next, collect, irreducibles}
use Rattle.lines.specs.Sizes.{most_standard}
use Rattle.lines.specs.Bases.{Padded}
use Rattle.staircase.specs.Leads.{rows_of, NextIs, FoundNext, CountIs}
use Rattle.staircase.proofs.PaddedRows.{held-row, padded, one-held}
use Rattle.staircase.proofs.RowsInTurn.{rows-push}

-- After the monomials of l: those from m on are left to be stored; or none is.
abbrev pub Uncollected : (n : ℕ) → List ℕ → (Row n → Bool) → (room : ℕ) → List (Row n) → Option (Row n) → Type 0
Uncollected n s excluded room l (Some m) = collect n (next n s) excluded room l m ≡ irreducibles n (next n s) excluded most_standard
Uncollected n s excluded room l None = some l ≡ irreducibles n (next n s) excluded most_standard

pub record Collected (n : ℕ) (s : List ℕ) (excluded : Row n → Bool) (ms : List Monomial) (r : Option Monomial) : Type 0 where
  pub room : length ms ≤ most_standard
  pub held : IfSome r (Padded n)
  pub small : IfSome r (λ v. (i : ℕ) → i < n → exponent n (row n v) i ≤ length ms)
  pub rest : Uncollected n s excluded (most_standard - length ms) (rows_of n ms) (option_map (row n) r)

-- What follows m.
rest-next : (n : ℕ) (s : List ℕ) (excluded : Row n → Bool) (room : ℕ) (l : List (Row n)) (m : Row n) (r : Option (Row n))
    → Uncollected n s excluded (suc room) l (Some m) → NextIs n s excluded m r → Uncollected n s excluded room (l ++ (m ∷ [])) r
unfolding collect
rest-next n s excluded room l m (Some r) h e = rw (collect, e) at h
rest-next n s excluded room l m None h e = rw (collect, e) at h

-- a is 1, and t is whether it is excluded.
pub collected-none : {n : ℕ} {s : List ℕ} {excluded : Row n → Bool} {a : Monomial} → n ≤ most_variables → a ≡ monomial most_variables (one most_variables)
    → (t : Bool) → t ≡ excluded (row n a) → Collected n s excluded [] (then_some (not t) a)
unfolding rows_of irreducibles
collected-none {n} {s} {excluded} {a} h p true test =
    let e : row n a ≡ one n = held-row n (one n) (p ∙ one-held n h) in
    let f : excluded (one n) ≡ true = ap excluded (sym e) ∙ sym test in
    record { room = omega arith; held = tt; small = tt; rest = rw (irreducibles, f) refl }
collected-none {n} {s} {excluded} {a} h p false test =
    let e : row n a ≡ one n = held-row n (one n) (p ∙ one-held n h) in
    let f : excluded (one n) ≡ false = ap excluded (sym e) ∙ sym test in
    record {
      room = omega arith;
      held = padded n (one n) (p ∙ one-held n h);
      small = λ i l. rw e (omega (arith, exponent-one n i));
      rest = rw (irreducibles, e, f) refl;
    }

module _ {n : ℕ} {s : List ℕ} {excluded : Row n → Bool} {ms : List Monomial} where
  pub collected-all : Collected n s excluded ms None → CountIs n s excluded most_standard (Some (rows_of n ms))
  collected-all so_far = sym so_far.rest

  module _ {v : Monomial} (so_far : Collected n s excluded ms (Some v)) where
    pub collected-small : (i : ℕ) → i < n → exponent n (row n v) i < most_entry
    collected-small i l = omega (arith, so_far.small i l, so_far.room)

    pub collected-more : (vs : List ℕ) {r : Option Monomial} → ¬ (length ms ≡ most_standard) → take n vs ≡ s → FoundNext n (take n vs) excluded (row n v) r
        → Collected n s excluded (ms ++ (v ∷ [])) r
    collected-more vs {r} h e found =
        let size : length (ms ++ (v ∷ [])) ≡ length ms + 1 = length-append ms (v ∷ []) in
        let q : most_standard - length ms ≡ suc (most_standard - length (ms ++ (v ∷ []))) = omega (arith, so_far.room) in
        let p : Uncollected n s excluded (suc (most_standard - length (ms ++ (v ∷ [])))) (rows_of n ms) (Some (row n v)) = rw q at so_far.rest in
        record {
          room = omega (arith, so_far.room);
          held = found.padded;
          small = IfSome_then r found.raised (λ w b i l. omega (arith, so_far.small i l, b i l));
          rest = rw (rows-push n ms v) (rest-next n s excluded (most_standard - length (ms ++ (v ∷ []))) (rows_of n ms) (row n v) (option_map (row n) r) p (rw e at found.is_next));
        }

    pub collected-full : length ms ≡ most_standard → CountIs n s excluded most_standard None
    unfolding collect
    collected-full q = let z : most_standard - length ms ≡ 0 = omega arith in sym (rw z at so_far.rest)
