-- The ranks of the standard monomials found so far.
--   StandardRanked n l ranks   the ranks are those of the list l
--   ranked-none                of no monomials
--   ranked-more                of one monomial more
use mathlib.Core.Path.{◌≡◌, sym, ◌∙◌, ap, subst}
use mathlib.Core.List.{List, [], ◌∷◌, ◌++◌}
use mathlib.Core.Logic.{by_cases}
use Prim.Native.Nat.{ℕ}
use native.Mathlib.Decide.{dec_lt}
use native.Mathlib.Omega.{arith}
use lib.ListN.{length, length-append, get_or-append}
use lib.Seq.{get_or_at}
use Rattle.monomial.specs.Represented.{row}
use Rattle.monomial.specs.Ranks.{rank_of, Short, RanksOf}
use Rattle.monomial.specs.declared.Monomial.{Monomial}
use Rattle.staircase.specs.Listed.{listed}
use Rattle.fglm.proofs.PushedMonomials.{pushed-count, pushed-before, pushed-last}

pub record StandardRanked (n : ℕ) (l : List Monomial) (ranks : List ℕ) : Type 0 where
  pub size : length ranks ≡ length l
  pub of : RanksOf n (listed n l) (length l) ranks

pub ranked-none : (n : ℕ) → StandardRanked n [] []
ranked-none n = record { size = omega arith; of = record { many = omega arith; rank = λ k u. absurd (omega arith); short = λ k u. absurd (omega arith) } }

pub ranked-more : {n : ℕ} {l : List Monomial} (m : Monomial) {ranks : List ℕ} {w : ℕ} → StandardRanked n l ranks
    → (w ≡ rank_of n (row n m)) × Short n (row n m) → StandardRanked n (l ++ (m ∷ [])) (ranks ++ (w ∷ []))
ranked-more {n} {l} m {ranks} {w} k (e, short) = record {
  size = omega (arith, length-append ranks (w ∷ []), pushed-count l m, k.size);
  of = record {
    many = omega (arith, length-append ranks (w ∷ []), pushed-count l m, k.size);
    rank = λ j u. by_cases (dec_lt j (length l))
        (λ v. get_or-append ranks (w ∷ []) 0 j (omega (arith, v, k.size)) ∙ k.of.rank j v ∙ ap (rank_of n) (sym (pushed-before l m n j v)))
        (λ v. let q : j ≡ length l = omega (arith, u, v, pushed-count l m) in
        get_or_at ranks w [] 0 j (k.size ∙ sym q) ∙ e ∙ ap (rank_of n) (sym (pushed-last l m n j q)));
    short = λ j u. by_cases (dec_lt j (length l)) (λ v. subst (Short n) (sym (pushed-before l m n j v)) (k.of.short j v))
        (λ v. subst (Short n) (sym (pushed-last l m n j (omega (arith, u, v, pushed-count l m)))) short);
  };
}
