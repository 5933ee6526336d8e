-- The lines of a text that passed checks 2 to 11 are polynomials, greatest term in grevlex first.
--   passed_lines     good lines make such lines
use Prim.Native.Nat.{ℕ, ◌<◌}
use mathlib.Core.List.{List, [], ◌∷◌, map}
use Rattle.lists.specs.Lists.{Each}
use Rattle.lists.proofs.EachElement.{each_at}
use Rattle.residue.specs.Field.{ZMod, modulo, residue}
use Rattle.monomial.specs.Ordering.{Grevlex}
use Rattle.monomial.proofs.GrevlexOrder.{grevlex-order}
use Rattle.groebner.specs.Polynomials.{all_nil, all_cons}
use Rattle.groebner.specs.Lines.{polynomial, Falling, Lines}
use Rattle.groebner.proofs.Linear.{all_map}
use Rattle.groebner.proofs.Lists.{of_map}
use Rattle.lines.specs.Terms.{Term, as_row}
use Rattle.checks.proofs.GoodLines.{GoodTerm, GoodLine}
use Rattle.checks.proofs.GoodLines as good
use Rattle.staircase.specs.TermLines.{line_of, lines_of}
use Rattle.staircase.proofs.SoundLines.{proper-of-falling, tail-nonzero}

module _ (p : ℕ) (h : 1 < p) (n : ℕ) where
  -- Terms each smaller than the one before it fall.
  terms-falling : (c : ZMod p) (t : Term) (ts : List Term) → good.FallingTerms n (t ∷ ts)
      → Falling (Grevlex n) ((c, as_row n t.1) ∷ map (λ (u : Term). (residue p h u.0, as_row n u.1)) ts)
  terms-falling c t [] w = (all_nil, tt)
  terms-falling c t (u ∷ ts) w =
      let rest = terms-falling (residue p h u.0) u ts w.1 in
      (all_cons w.0 (all_map (λ m l. (grevlex-order n).trans l w.0) rest.0), rest)

  line-falling : (ts : List Term) → good.FallingTerms n ts → Falling (Grevlex n) (polynomial (modulo p h) (line_of p h n ts))
  unfolding polynomial line_of
  line-falling [] w = (all_nil, tt)
  line-falling (t ∷ ts) w = terms-falling (modulo p h).one t ts w

  pub passed_lines : (ls : List (List Term)) → Each (GoodLine p n) ls → Lines (modulo p h) (Grevlex n) (lines_of p h n ls)
  unfolding lines_of polynomial
  passed_lines ls w = record {
    falling = λ g i. let (ts, j, e) = of_map (line_of p h n) ls i in rw e (line-falling ts (each_at (GoodLine p n) ls w j).falling);
    proper = λ g i.
        let (ts, j, e) = of_map (line_of p h n) ls i in
        let a = each_at (GoodLine p n) ls w j in
        rw e (proper-of-falling (grevlex-order n) (modulo p h) (line_of p h n ts).1 (line-falling ts a.falling).1
        (tail-nonzero p h n ts (λ u k. let b = each_at (GoodTerm p) ts a.terms k in (b.0, b.1))));
  }
