-- Accepted inputs that differ only in the order of their poly lines give equal bytes (document 01, "The tab text").
--   ideal-within          lines that are all among others have a smaller ideal
--   conversion-same       grevlex Groebner bases with the same lines, in whatever order, have one lex basis and one list of standard monomials
--   Result, ResultOf      out is the text of the conversion of the poly lines ls
--   outcome-result        an output is that of its input's lines
--   lines-in-any-order    the outputs of two inputs with the same poly lines are equal
use Prim.Native.Nat.{ℕ, ◌<◌}
use mathlib.Core.Path.{◌≡◌, refl, sym, ◌∙◌, ap₂, subst}
use mathlib.Core.List.Memᴰ
use mathlib.Core.List.{List, [], ◌∷◌, map}
use mathlib.Core.Logic.{◌⊎◌, inl, inr, ◌↔◌}
use native.Mathlib.Bridge.{le_prop}
use native.Mathlib.Omega.{arith}
use Rattle.lists.specs.Lists.{◌∈◌, Bytes, Each}
use Rattle.residue.specs.Prime.{Prime}
use Rattle.residue.specs.Field.{Arithmetic, ZMod, modulo}
use Rattle.residue.specs.RingLaws.{Ring}
use Rattle.monomial.specs.Rows.{Row}
use Rattle.monomial.specs.Orders.{variables}
use Rattle.monomial.specs.Ordering.{Monomials, monomials, Grevlex}
use Rattle.monomial.proofs.LexOrder.{lex-order, variables-rank}
use Rattle.answer.specs.Outcomes.{passed}
use Rattle.groebner.specs.Polynomials.{Poly}
use Rattle.groebner.specs.Lines.{Line, Reducible, polynomial}
use Rattle.groebner.specs.Ideals.{combine, Ideal, IdealOf}
use Rattle.groebner.specs.Bases.{Reduced}
use Rattle.groebner.specs.Standard.{Finite}
use Rattle.groebner.specs.Conversions.{Lists}
use Rattle.groebner.proofs.Terms.{coef-nil, coef-append}
use Rattle.groebner.proofs.Ideals.{ideal-zero, ideal-add, ideal-gen, ideal-same}
use Rattle.groebner.proofs.Lists.{in_map, of_map}
use Rattle.groebner.proofs.RisingLists.{rising-unique}
use Rattle.groebner.proofs.ZeroDimension.{zero-dimensional-iff, irreducible-list}
use Rattle.groebner.proofs.Instance.{ground, one-basis}
use Rattle.lines.specs.Terms.{Term}
use Rattle.tabtext.specs.Text.{Form, text}
use Rattle.staircase.specs.TermLines.{line_of, lines_of}
use Rattle.convert.specs.Written.{written}
use Rattle.convert.specs.Outcome.{Converts, Outcome}
use Rattle.convert.specs.Contract.{InputLines, grevlex_lines}
use Rattle.convert.proofs.Conversions.{converts-standard}
use Rattle.convert.proofs.ConvertedChecks.{passed-output}
use Rattle.convert.proofs.OutcomeCases.{Early, Reached, outcome-cases}
use Rattle.convert.proofs.OutputLines.{input_lines}
use Rattle.convert.proofs.ReadingUnique.{input-unique}

module _ {F M : Type 0} {R : Arithmetic F} (ring : Ring R) (𝓜 : Monomials M) where
  -- Combinations of some of the generators.
  combine-within : (fs gs : List (Poly F M)) → ((f : Poly F M) → f ∈ fs → f ∈ gs) → (rs : List (Poly F M)) → Ideal R 𝓜 gs (combine R 𝓜 rs fs)
  combine-within fs gs h [] = ideal-zero ring 𝓜 gs [] (coef-nil ring 𝓜)
  combine-within [] gs h (r ∷ rs) = ideal-zero ring 𝓜 gs [] (coef-nil ring 𝓜)
  combine-within (f ∷ fs) gs h (r ∷ rs) = ideal-add ring 𝓜 gs _ _ _ (coef-append ring 𝓜 _ _) (ideal-gen ring 𝓜 gs f (h f (Memᴰ.head refl)) r _ (λ k. refl))
      (combine-within fs gs (λ g p. h g (Memᴰ.tail p)) rs)

  pub ideal-within : (G K : List (Line F M)) → ((g : Line F M) → g ∈ G → g ∈ K) → (f : Poly F M) → IdealOf R 𝓜 G f → IdealOf R 𝓜 K f
  ideal-within G K h f a = ideal-same ring 𝓜 (map (polynomial R) K) f _ a.1 (combine-within (map (polynomial R) G) (map (polynomial R) K) within a.0)
    where
      within : (f : Poly F M) → f ∈ map (polynomial R) G → f ∈ map (polynomial R) K
      within f p = let q = of_map (polynomial R) G p in Memᴰ.cast q.2 (in_map (polynomial R) (h q.0 q.1))

module _ (p : ℕ) (prime : Prime p) (n : ℕ) (G K : List (Line (ZMod p) (Row n))) (same : (g : Line (ZMod p) (Row n)) → (g ∈ G) ↔ (g ∈ K)) where
  abbrev h : 1 < p
  h = prime.above_one

  -- The lines are a reduced grevlex Groebner basis with finitely many irreducible monomials.
  abbrev Good : List (Line (ZMod p) (Row n)) → Type 0
  Good G = Reduced (modulo p h) (monomials n) (Grevlex n) G × Finite (λ m. ¬ Reducible (monomials n) G m)

  standard-list : (G H : List (Line (ZMod p) (Row n))) (B : List (Row n)) → Good G → Converts p h n G H B → Lists (λ m. ¬ Reducible (monomials n) H m) B
  standard-list G H B (reduced, finite) c =
      let B₀ = irreducible-list n G ((zero-dimensional-iff n G).1 finite) in (converts-standard p prime n G reduced.lines reduced.groebner B₀.0 B₀.1 H B c).0

  pub conversion-same : Good G → Good K → (H J : List (Line (ZMod p) (Row n))) (B C : List (Row n)) → Converts p h n G H B → Converts p h n K J C → (H ≡ J) × (B ≡ C)
  conversion-same good good' H J B C a b = (
    e,
    rising-unique (lex-order n (variables n) (variables-rank n)) B C a.ascending b.ascending
        (λ m i. list_c.all m (subst (λ H. ¬ Reducible (monomials n) H m) e (list_b.only m i))) (λ m i. list_b.all m (subst (λ H. ¬ Reducible (monomials n) H m) (sym e) (list_c.only m i))),
  )
    where
      ring : Ring (modulo p h)
      ring = (ground p prime n).field.ring

      e : H ≡ J
      e = one-basis p prime n (variables n) (variables-rank n) H J a.reduced b.reduced a.rising b.rising (λ f. (
        λ x. (b.ideal f).0 (ideal-within ring (monomials n) G K (λ g. (same g).0) f ((a.ideal f).1 x)),
        λ x. (a.ideal f).0 (ideal-within ring (monomials n) K G (λ g. (same g).1) f ((b.ideal f).1 x)),
      ))

      list_b : Lists (λ m. ¬ Reducible (monomials n) H m) B
      list_b = standard-list G H B good a

      list_c : Lists (λ m. ¬ Reducible (monomials n) J m) C
      list_c = standard-list K J C good' b

-- out is the text of the conversion of the poly lines ls.
pub record Result (p : ℕ) (h : 1 < p) (n : ℕ) (ls : List (List Term)) (out : Bytes) : Type 0 where
  pub reduced : Reduced (modulo p h) (monomials n) (Grevlex n) (lines_of p h n ls)
  pub finite : Finite (λ m. ¬ Reducible (monomials n) (lines_of p h n ls) m)
  pub H : List (Line (ZMod p) (Row n))
  pub B : List (Row n)
  pub converts : Converts p h n (lines_of p h n ls) H B
  pub output : out ≡ written p h n H B

abbrev pub ResultOf : (p n : ℕ) → List (List Term) → Bytes → Type 0
ResultOf p n ls out = (prime : Prime p) × Result p prime.above_one n ls out

module _ (p : ℕ) (k : 1 < p) (n : ℕ) where
  pub outcome-result : (ls : List (List Term)) → Each (Form n) (grevlex_lines p n ls) → (room : ℕ) (out : Bytes) → Outcome (text (grevlex_lines p n ls)) room (passed out) → ResultOf p n ls out
  unfolding input_lines
  outcome-result ls form room out o = at (outcome-cases (text (grevlex_lines p n ls)) room (passed out) o)
    where
      at : Early (passed out) ⊎ Reached (text (grevlex_lines p n ls)) room (passed out) → ResultOf p n ls out
      at (inl (number, line, low, high, e)) = let z : ◌≡◌ {A = ℕ} 0 1 = cc in absurd (omega arith)
      at (inr r) =
          let b = r.basis in
          let own : InputLines (text (grevlex_lines p n ls)) p k n (lines_of p k n ls) = record { terms = ls; form = form; stands = refl; lines = refl } in
          let (e, f, g) = input-unique _ (input_lines _ b r.passes.modulus.prime.above_one r.passes) own in
          let here : ResultOf b.p b.n b.generators out = (
            r.passes.modulus.prime,
            record { reduced = r.reduced; finite = r.finite; H = r.H; B = r.B; converts = r.converts; output = (passed-output room _ out r.fits).0 },
          ) in
          subst (λ (x : ℕ × ℕ × List (List Term)). ResultOf x.0 x.1 x.2 out) (λ i. (e i, f i, g i)) here

  module _ (ls ks : List (List Term)) (same : (ts : List Term) → (ts ∈ ls) ↔ (ts ∈ ks)) where
    lines-among : (h : 1 < p) (ls ks : List (List Term)) → ((ts : List Term) → ts ∈ ls → ts ∈ ks) → (g : Line (ZMod p) (Row n)) → g ∈ lines_of p h n ls → g ∈ lines_of p h n ks
    unfolding lines_of
    lines-among h ls ks i g q = let r = of_map (line_of p h n) ls q in Memᴰ.cast r.2 (in_map (line_of p h n) (i r.0 r.1))

    results-equal : (prime : Prime p) (out out' : Bytes) → Result p prime.above_one n ls out → Result p prime.above_one n ks out' → out ≡ out'
    results-equal prime out out' r s =
        let h = prime.above_one in
        let (e, f) = conversion-same p prime n (lines_of p h n ls) (lines_of p h n ks)
        (λ g. (lines-among h ls ks (λ ts. (same ts).0) g, lines-among h ks ls (λ ts. (same ts).1) g)) (r.reduced, r.finite) (s.reduced, s.finite) r.H s.H r.B s.B r.converts s.converts in
        r.output ∙ ap₂ (written p h n) e f ∙ sym s.output

  -- The lines ls and ks are the same lines, each in any order and number.
  module _ (ls ks : List (List Term)) (same : (line : List Term) → (line ∈ ls) ↔ (line ∈ ks)) where
    pub lines-in-any-order : Each (Form n) (grevlex_lines p n ls) → Each (Form n) (grevlex_lines p n ks) → (room room' : ℕ) (out out' : Bytes)
        → Outcome (text (grevlex_lines p n ls)) room (passed out) → Outcome (text (grevlex_lines p n ks)) room' (passed out') → out ≡ out'
    lines-in-any-order form form' room room' out out' a b =
        let (prime, r) = outcome-result ls form room out a in
        let (prime', s) = outcome-result ks form' room' out' b in
        results-equal ls ks same prime out out' r (subst (λ (h : 1 < p). Result p h n ks out') (le_prop prime'.above_one prime.above_one) s)
