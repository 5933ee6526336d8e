-- Deciding by computation what the definitions say of explicit polynomials and lines.
--   Deciders R 𝓜 lt      what the others rest on: equality of coefficients, divisibility, the order
--   by_lex, by_grevlex   these for residues and monomials in n variables, from residue?, divides? and less?
--   all?, polynomial?, same?, sum?, product?, combination?, reducible_by?, finished?, falling?, rising?, lines?, clear?, leading?
--                                 decisions of the definitions of the same names
--   earliest D m G             a search for the earliest line that divides m
--   step_at D G f f' l         a search for the step from f to f' that cancels one of the terms l of f
--   end f l                    the polynomial at the end of the list l that begins with f
--   division D G f l           a search for the division of f that passes through the polynomials of l, one step each
--   s_polynomial D f g m w s   a search for what makes s the S-polynomial of f and g, at their least common multiple m
use mathlib.Core.Path.{◌≡◌, refl, sym, ◌∙◌, ap, subst}
use mathlib.Core.List.Memᴰ
use mathlib.Core.List.{List, [], ◌∷◌, ◌++◌}
use mathlib.Core.Logic.{◌⊎◌, inl, inr}
use mathlib.Core.Bool.{Bool, true, false, false≢true}
use mathlib.Core.Option.{Option, none, some}
use mathlib.Core.HLevel.{Σ_prop_path}
use Prim.Native.Nat.{ℕ}
use native.Mathlib.Bridge.{le_prop}
use native.Mathlib.Decide.{ℕ_discrete}
use Rattle.lists.specs.Lists.{◌∈◌}
use Rattle.residue.specs.Prime.{Prime}
use Rattle.residue.specs.Field.{Arithmetic, ZMod, modulo}
use Rattle.residue.specs.RingLaws.{Ring}
use Rattle.residue.proofs.ResidueField.{residue-ring}
use Rattle.monomial.specs.Rows.{Row}
use Rattle.monomial.specs.Quotients.{quotient, divides}
use Rattle.monomial.specs.Orders.{lex, grevlex}
use Rattle.monomial.specs.Ordering.{Monomials, Divides, Lcm, monomials, Lex, Grevlex}
use Rattle.std.specs.declared.cmp.Ordering.{Ordering}
use Rattle.std.specs.declared.cmp.Ordering.TheVariants.{Less, Equal, Greater}
use Rattle.monomial.proofs.Products.{divides-iff, product-quotient}
use Rattle.groebner.specs.Polynomials.{Poly, All, all_nil, all_cons, Polynomial, relabel, scale, negate, minus, shift, expand, times, coef, Same, IsSum, IsProduct}
use Rattle.groebner.specs.Lines.{Line, polynomial, Falling, Lines, Reducible, Earliest, Rising}
use Rattle.groebner.specs.Remainders.{Normal, Step, Remainder, done, step}
use Rattle.groebner.specs.Ideals.{combine}
use Rattle.groebner.specs.Bases.{Leading, SPolynomial}
use Rattle.groebner.specs.Criteria.{Clear}
use Rattle.groebner.proofs.Terms.{all-at, all_of, find, coef-absent}
use Rattle.groebner.proofs.Deciding.{not?, both?, either?, implies?, as?, each?, pairs?}

unfoldable pub all? : {F M : Type 0} {P : M → Type 0} → ((m : M) → Dec (P m)) → (f : Poly F M) → Dec (All P f)
unfolding both? as?
all? P? [] = yes all_nil
all? {F} {M} {P} P? (t ∷ f) = as? (λ b. all_cons b.0 b.1) parts (both? (P? t.1) (all? P? f))
  where
    parts : All P (t ∷ f) → P t.1 × All P f
    parts (all_cons p a) = (p, a)

-- The polynomial at the end of a list that begins with f.
abbrev pub end : {F M : Type 0} → Poly F M → List (Poly F M) → Poly F M
end f [] = f
end f (g ∷ l) = end g l

-- What the decisions below rest on.
pub record Deciders {F M : Type 0} (R : Arithmetic F) (𝓜 : Monomials M) (lt : M → M → Type 0) : Type 0 where
  pub ring : Ring R
  pub equal? : (a b : F) → Dec (a ≡ b)
  pub divisor? : (a b : M) → Dec (Divides 𝓜 a b)
  pub below? : (a b : M) → Dec (lt a b)

module _ {F M : Type 0} {R : Arithmetic F} {𝓜 : Monomials M} {lt : M → M → Type 0} (D : Deciders R 𝓜 lt) where
  open D use {ring, equal?, divisor?, below?}

  unfoldable pub polynomial? : (f : Poly F M) → Dec (Polynomial R f)
  unfolding not? both? as? all?
  polynomial? [] = yes tt
  polynomial? (t ∷ f) = as? (λ b. (b.0, b.1.0, b.1.1)) (λ p. (p.0, (p.1, p.2)))
      (both? (not? (equal? t.0 R.zero)) (both? (all? (λ m. not? (𝓜.same? m t.1)) f) (polynomial? f)))

  unfoldable pub same? : (f g : Poly F M) → Dec (Same R 𝓜 f g)
  unfolding both? as? all? coef
  same? f g = as? (λ b k. at k b (find 𝓜 f k) (find 𝓜 g k)) (λ s. (on f s, on g s)) (both? (all? (λ k. equal? (coef R 𝓜 f k) (coef R 𝓜 g k)) f) (all? (λ k. equal? (coef R 𝓜 f k) (coef R 𝓜 g k)) g))
    where
      Agree : M → Type 0
      Agree k = coef R 𝓜 f k ≡ coef R 𝓜 g k

      on : (h : Poly F M) → Same R 𝓜 f g → All Agree h
      on h s = all_of h (λ c k i. s k)

      at : (k : M) → All Agree f × All Agree g → ((c : F) × ((c, k) ∈ f)) ⊎ All (λ m. ¬ (m ≡ k)) f → ((c : F) × ((c, k) ∈ g)) ⊎ All (λ m. ¬ (m ≡ k)) g → Agree k
      at k b (inl i) r = all-at b.0 i.1
      at k b (inr a) (inl i) = all-at b.1 i.1
      at k b (inr a) (inr c) = coef-absent ring 𝓜 f k a ∙ sym (coef-absent ring 𝓜 g k c)

  unfoldable pub sum? : (f g p : Poly F M) → Dec (IsSum R 𝓜 f g p)
  unfolding both? polynomial? same?
  sum? f g p = both? (polynomial? p) (same? p (f ++ g))

  unfoldable pub product? : (f g p : Poly F M) → Dec (IsProduct R 𝓜 f g p)
  unfolding both? polynomial? same? relabel expand
  product? f g p = both? (polynomial? p) (same? p (times R 𝓜 f g))

  unfoldable pub combination? : (rs fs : List (Poly F M)) (f : Poly F M) → Dec (Same R 𝓜 f (combine R 𝓜 rs fs))
  unfolding same? relabel expand
  combination? rs fs f = same? f (combine R 𝓜 rs fs)

  unfoldable pub reducible_by? : (G : List (Line F M)) (m : M) → Dec (Reducible 𝓜 G m)
  unfolding either? as?
  reducible_by? [] m = no (λ r. Memᴰ.not-nil r.1)
  reducible_by? (h ∷ G) m = as? to (λ r. back r (Memᴰ.cases_cons r.1)) (either? (divisor? h.0 m) (reducible_by? G m))
    where
      to : Divides 𝓜 h.0 m ⊎ Reducible 𝓜 G m → Reducible 𝓜 (h ∷ G) m
      to (inl d) = (h, Memᴰ.head refl, d)
      to (inr r) = (r.0, Memᴰ.tail r.1, r.2)

      back : (r : Reducible 𝓜 (h ∷ G) m) → (r.0 ≡ h) ⊎ (r.0 ∈ G) → Divides 𝓜 h.0 m ⊎ Reducible 𝓜 G m
      back r (inl e) = inl (subst (λ (x : Line F M). Divides 𝓜 x.0 m) e r.2)
      back r (inr i) = inr (r.0, i, r.2)

  unfoldable pub finished? : (G : List (Line F M)) (f : Poly F M) → Dec (Normal 𝓜 G f)
  unfolding not? as? all? reducible_by?
  finished? G f = as? (λ a c m i. all-at a i) (λ h. all_of f h) (all? (λ m. not? (reducible_by? G m)) f)

  unfoldable pub falling? : (f : Poly F M) → Dec (Falling lt f)
  unfolding both? all?
  falling? [] = yes tt
  falling? (t ∷ f) = both? (all? (λ m. below? m t.1) f) (falling? f)

  unfoldable pub rising? : (G : List (Line F M)) → Dec (Rising lt G)
  unfolding both? each?
  rising? [] = yes tt
  rising? (g ∷ G) = both? (each? (λ h. below? g.0 h.0) G) (rising? G)

  unfoldable pub lines? : (G : List (Line F M)) → Dec (Lines R lt G)
  unfolding both? as? all? each? falling? polynomial?
  lines? G = as? (λ b. record { falling = b.0; proper = b.1 }) (λ l. (l.falling, l.proper))
      (both? (each? (λ g. both? (all? (λ m. below? m g.0) g.1) (falling? g.1)) G) (each? (λ g. polynomial? g.1) G))

  unfoldable pub clear? : (G : List (Line F M)) → Dec (Clear R 𝓜 G)
  unfolding not? both? all? pairs? polynomial
  clear? G = pairs? (λ f g. both? (all? (λ m. not? (divisor? g.0 m)) (polynomial R f)) (all? (λ m. not? (divisor? f.0 m)) (polynomial R g))) G

  unfoldable pub leading? : (f : Poly F M) (m : M) → Dec (Leading R 𝓜 lt f m)
  unfolding not? implies? both? as? all? coef
  leading? f m = both? (not? (equal? (coef R 𝓜 f m) R.zero)) (as? (λ a k h. at a k h (find 𝓜 f k)) on (all? (λ k. implies? (below? m k) (equal? (coef R 𝓜 f k) R.zero)) f))
    where
      Vanishes : M → Type 0
      Vanishes k = lt m k → coef R 𝓜 f k ≡ R.zero

      on : ((k : M) → Vanishes k) → All Vanishes f
      on v = all_of f (λ c k i. v k)

      at : All Vanishes f → (k : M) → lt m k → ((c : F) × ((c, k) ∈ f)) ⊎ All (λ j. ¬ (j ≡ k)) f → coef R 𝓜 f k ≡ R.zero
      at a k h (inl i) = all-at a i.1 h
      at a k h (inr n) = coef-absent ring 𝓜 f k n

  -- The earliest line that divides m.
  unfoldable pub earliest : (m : M) (G : List (Line F M)) → Option ((g : Line F M) × Earliest 𝓜 m g G × Divides 𝓜 g.0 m)
  earliest m [] = none
  earliest m (h ∷ G) = at (divisor? h.0 m) (earliest m G)
    where
      at : Dec (Divides 𝓜 h.0 m) → Option ((g : Line F M) × Earliest 𝓜 m g G × Divides 𝓜 g.0 m) → Option ((g : Line F M) × Earliest 𝓜 m g (h ∷ G) × Divides 𝓜 g.0 m)
      at (yes d) o = some (h, inl (refl, d), d)
      at (no n) none = none
      at (no n) (some x) = some (x.0, inr (n, x.1), x.2)

  module _ (G : List (Line F M)) where
    -- The step from f to f' that cancels one of the terms l of f.
    unfoldable pub step_at : (f f' l : Poly F M) → ((t : F × M) → t ∈ l → t ∈ f) → Option (Step R 𝓜 lt G f f')
    unfolding either? implies? both? as? all? same? polynomial? reducible_by? earliest scale negate relabel polynomial
    step_at f f' [] i = none
    step_at f f' (t ∷ l) i = greatest (all? (λ k. implies? (reducible_by? G k) (either? (𝓜.same? k t.1) (below? k t.1))) f) (earliest t.1 G)
        (step_at f f' l (λ s j. i s (Memᴰ.tail j)))
      where
        Greatest : Type 0
        Greatest = All (λ k. Reducible 𝓜 G k → (k ≡ t.1) ⊎ lt k t.1) f

        greatest : Dec Greatest → Option ((g : Line F M) × Earliest 𝓜 t.1 g G × Divides 𝓜 g.0 t.1) → Option (Step R 𝓜 lt G f f') → Option (Step R 𝓜 lt G f f')
        greatest (no n) e o = o
        greatest (yes a) none o = o
        greatest (yes a) (some e) o = outcome (both? (polynomial? f') (same? f' (minus R f (scale R t.0 (shift 𝓜 e.2.0 (polynomial R e.0))))))
          where
            outcome : Dec (Polynomial R f' × Same R 𝓜 f' (minus R f (scale R t.0 (shift 𝓜 e.2.0 (polynomial R e.0))))) → Option (Step R 𝓜 lt G f f')
            outcome (no n) = none
            outcome (yes b) = some record {
              c = t.0;
              m = t.1;
              term = i t (Memᴰ.head refl);
              greatest = λ d k j. all-at a j;
              g = e.0;
              earliest = e.1;
              u = e.2.0;
              quotient = e.2.1;
              proper = b.0;
              outcome = b.1;
            }

    -- The division of f that passes through the polynomials of the list, one step each.
    unfoldable pub division : (f : Poly F M) (l : List (Poly F M)) → Option (Remainder R 𝓜 lt G f (end f l))
    unfolding step_at finished?
    division f [] = at (finished? G f)
      where
        at : Dec (Normal 𝓜 G f) → Option (Remainder R 𝓜 lt G f f)
        at (no n) = none
        at (yes h) = some (done h)
    division f (g ∷ l) = at (step_at f g f (λ t i. i)) (division g l)
      where
        at : Option (Step R 𝓜 lt G f g) → Option (Remainder R 𝓜 lt G g (end g l)) → Option (Remainder R 𝓜 lt G f (end g l))
        at none o = none
        at (some s) none = none
        at (some s) (some r) = some (step s r)

  -- What makes s the S-polynomial of f and g, whose leading monomials have the least common multiple m.
  unfoldable pub s_polynomial : (f g : Line F M) (m : M) → Lcm 𝓜 f.0 g.0 m → (s : Poly F M) → Option (SPolynomial R 𝓜 f g s)
  unfolding both? same? polynomial? scale negate relabel polynomial
  s_polynomial f g m w s = at (divisor? f.0 m) (divisor? g.0 m)
    where
      outcome : (u v : M) → m ≡ 𝓜.mul u f.0 → m ≡ 𝓜.mul v g.0 → Dec (Polynomial R s × Same R 𝓜 s (minus R (shift 𝓜 u (polynomial R f)) (shift 𝓜 v (polynomial R g)))) → Option (SPolynomial R 𝓜 f g s)
      outcome u v a b (no n) = none
      outcome u v a b (yes d) = some record { m = m; lcm = w; u = u; left = a; v = v; right = b; proper = d.0; outcome = d.1 }

      at : Dec (Divides 𝓜 f.0 m) → Dec (Divides 𝓜 g.0 m) → Option (SPolynomial R 𝓜 f g s)
      at (no n) d = none
      at (yes a) (no n) = none
      at (yes a) (yes b) = outcome a.0 b.0 a.1 b.1 (both? (polynomial? s) (same? s (minus R (shift 𝓜 a.0 (polynomial R f)) (shift 𝓜 b.0 (polynomial R g)))))

-- Residues modulo p.
unfoldable pub residue? : (p : ℕ) (a b : ZMod p) → Dec (a ≡ b)
unfolding as? ℕ_discrete
residue? p a b = as? (Σ_prop_path (λ x. le_prop)) (ap (λ (x : ZMod p). x.0)) (ℕ_discrete a.0 b.0)

-- Monomials in n variables.
unfoldable pub divides? : (n : ℕ) (a b : Row n) → Dec (Divides (monomials n) a b)
unfolding monomials divides quotient
divides? n a b = at (divides n a b) refl
  where
    at : (t : Bool) → divides n a b ≡ t → Dec (Divides (monomials n) a b)
    at true e = yes (quotient n b a, sym (product-quotient n b a e))
    at false e = no (λ d. false≢true (sym e ∙ (divides-iff n a b).1 d))

-- What a three-way comparison says.
Smaller : Ordering → Type 0
Smaller Less = Unit
Smaller Equal = ⊥
Smaller Greater = ⊥

unfoldable pub less? : (c : Ordering) → Dec (c ≡ Less)
unfolding Smaller
less? Less = yes refl
less? Equal = no (λ e. subst Smaller (sym e) tt)
less? Greater = no (λ e. subst Smaller (sym e) tt)

module _ (p : ℕ) (prime : Prime p) (n : ℕ) where
  unfoldable pub by_grevlex : Deciders (modulo p prime.above_one) (monomials n) (Grevlex n)
  unfolding modulo monomials residue? divides? less? grevlex
  by_grevlex = record { ring = residue-ring p prime.above_one; equal? = residue? p; divisor? = divides? n; below? = λ a b. less? (grevlex n a b) }

  unfoldable pub by_lex : (s : List ℕ) → Deciders (modulo p prime.above_one) (monomials n) (Lex n s)
  unfolding modulo monomials residue? divides? less? lex
  by_lex s = record { ring = residue-ring p prime.above_one; equal? = residue? p; divisor? = divides? n; below? = λ a b. less? (lex n s a b) }
