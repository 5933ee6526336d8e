-- Polynomials written in order, from their coefficients at a rising list of monomials.
--   in_order field 𝓜 B G   the lines G, each with its tail in that order
-- Of nonzero-term: nonzero-term-cases
-- Of ordered: ordered-all, ordered-among (its monomials), ordered-length, ordered-proper, ordered-falling (greatest first for a rising B), ordered_same (its coefficients)
-- Of the coefficients of a polynomial in order: tail_all, tail-same (what holds of its monomials, and its coefficients, are kept)
-- Of written: length-written, leads-written, each-written, of-written
use mathlib.Core.Path.{◌≡◌, refl, sym, ◌∙◌, ap, ap₂, subst}
use mathlib.Core.List.Memᴰ
use mathlib.Core.List.{List, [], ◌∷◌, ◌++◌, map, append-nil}
use mathlib.Core.Logic.{◌⊎◌, inl, inr}
use Prim.Native.Nat.{◌≤◌}
use native.Mathlib.Omega.{arith}
use lib.ListN.{length, length-append, length-map}
use Rattle.lists.specs.Lists.{◌∈◌, Once}
use Rattle.residue.specs.Field.{Arithmetic}
use Rattle.residue.specs.RingLaws.{Field}
use Rattle.monomial.specs.Ordering.{Monomials}
use Rattle.groebner.specs.Polynomials.{Poly, All, all_nil, all_cons, Polynomial, coef, Same}
use Rattle.groebner.specs.Lines.{Line, Falling, RisingList}
use Rattle.groebner.specs.RisingLists.{leads}
use Rattle.groebner.specs.OrderedTails.{nonzero_term, ordered, ordered_line}
use Rattle.groebner.proofs.Modules.{zero-add}
use Rattle.groebner.proofs.Linear.{all_append, all_map}
use Rattle.groebner.proofs.Lists.{in_map, of_map}
use Rattle.groebner.proofs.Members.{member?}
use Rattle.groebner.proofs.Terms.{all-at, find, coef-nil, coef-here, coef-there, coef-absent, coef-append}
use Rattle.groebner.proofs.Coordinates.{Supported}

-- One more term at the end.
falling-append : {F M : Type 0} (lt : M → M → Type 0) (f : Poly F M) (t : F × M) → Falling lt f → All (lt t.1) f → Falling lt (f ++ (t ∷ []))
falling-append lt [] t s a = (all_nil, tt)
falling-append lt (x ∷ f) t s (all_cons l a) = (all_append s.0 (all_cons l all_nil), falling-append lt f t s.1 a)

proper-append : {F M : Type 0} (R : Arithmetic F) (f : Poly F M) (t : F × M) → Polynomial R f → ¬ (t.0 ≡ R.zero) → All (λ m. ¬ (t.1 ≡ m)) f → Polynomial R (f ++ (t ∷ []))
proper-append R [] t p n a = (n, all_nil, tt)
proper-append R (x ∷ f) t p n (all_cons d a) = (p.0, all_append p.1 (all_cons d all_nil), proper-append R f t p.2 n a)

module _ {F M : Type 0} {R : Arithmetic F} (field : Field R) where
  open field use {ring, decide}

  -- The lines with their tails in that order.
  unfoldable pub in_order : Monomials M → List M → List (Line F M) → List (Line F M)
  unfolding ordered
  in_order 𝓜 B G = map (ordered_line field 𝓜 B) G

  -- A property of it: where c is zero, of no term; where it is not, of c·m.
  pub nonzero-term-cases : (P : Poly F M → Type 0) (c : F) (m : M) → (c ≡ R.zero → P []) → (¬ (c ≡ R.zero) → P ((c, m) ∷ [])) → P (nonzero_term field c m)
  unfolding nonzero_term
  nonzero-term-cases P c m z n = at (decide c R.zero)
    where
      at : (d : Dec (c ≡ R.zero)) → P (elim d [ yes _ ↦ [] | no _ ↦ (c, m) ∷ [] ])
      at (yes e) = z e
      at (no e) = n e

  module _ (c : M → F) where
    pub ordered-all : {P : M → Type 0} (B : List M) → ((b : M) → b ∈ B → ¬ (c b ≡ R.zero) → P b) → All P (ordered field B c)
    unfolding ordered
    ordered-all [] h = all_nil
    ordered-all {P} (b ∷ B) h = all_append (ordered-all B (λ k i. h k (Memᴰ.tail i))) (nonzero-term-cases (All P) (c b) b (λ _. all_nil) (λ n. all_cons (h b (Memᴰ.head refl) n) all_nil))

    pub ordered-among : (B : List M) → All (λ m. m ∈ B) (ordered field B c)
    ordered-among B = ordered-all B (λ b i n. i)

    pub ordered-length : (B : List M) → length (ordered field B c) ≤ length B
    unfolding ordered
    ordered-length [] = omega arith
    ordered-length (b ∷ B) = omega (
      arith,
      length-append (ordered field B c) (nonzero_term field (c b) b),
      ordered-length B,
      nonzero-term-cases (λ f. length f ≤ 1) (c b) b (λ _. omega arith) (λ _. omega arith),
    )

    -- A rising list gives the greatest term first.
    pub ordered-falling : (lt : M → M → Type 0) (B : List M) → RisingList lt B → Falling lt (ordered field B c)
    unfolding ordered
    ordered-falling lt [] r = tt
    ordered-falling lt (b ∷ B) r = let rest = ordered-falling lt B r.1 in
        nonzero-term-cases (λ f. Falling lt (ordered field B c ++ f)) (c b) b (λ _. rw append-nil rest) (λ _. falling-append lt (ordered field B c) (c b, b) rest (all_map r.0 (ordered-among B)))

    pub ordered-proper : (B : List M) → Once B → Polynomial R (ordered field B c)
    unfolding ordered
    ordered-proper [] o = tt
    ordered-proper (b ∷ B) o = let rest = ordered-proper B o.1 in
        nonzero-term-cases (λ f. Polynomial R (ordered field B c ++ f)) (c b) b (λ _. rw append-nil rest)
        (λ n. proper-append R (ordered field B c) (c b, b) rest n (all_map (λ m i e. o.0 (Memᴰ.cast e i)) (ordered-among B)))

    module _ (𝓜 : Monomials M) where
      coef-own : (m : M) → coef R 𝓜 (nonzero_term field (c m) m) m ≡ c m
      coef-own m = nonzero-term-cases (λ f. coef R 𝓜 f m ≡ c m) (c m) m (λ z. coef-nil ring 𝓜 m ∙ sym z) (λ _. coef-here ring 𝓜 (c m) m [] ∙ ap (R.add (c m)) (coef-nil ring 𝓜 m) ∙ ring.add_zero (c m))

      coef-other : (b m : M) → ¬ (m ≡ b) → coef R 𝓜 (nonzero_term field (c b) b) m ≡ R.zero
      coef-other b m n = nonzero-term-cases (λ f. coef R 𝓜 f m ≡ R.zero) (c b) b (λ _. coef-nil ring 𝓜 m) (λ _. coef-there ring 𝓜 (c b, b) [] m n ∙ coef-nil ring 𝓜 m)

      outside : (B : List M) (m : M) → ¬ (m ∈ B) → coef R 𝓜 (ordered field B c) m ≡ R.zero
      outside B m n = coef-absent ring 𝓜 (ordered field B c) m (all_map (λ k i e. n (Memᴰ.cast (sym e) i)) (ordered-among B))

      inside : (B : List M) → Once B → (m : M) → m ∈ B → coef R 𝓜 (ordered field B c) m ≡ c m
      unfolding ordered
      inside [] o m i = absurd (Memᴰ.not-nil i)
      inside (b ∷ B) o m i = coef-append ring 𝓜 (ordered field B c) (nonzero_term field (c b) b) m ∙ at (Memᴰ.cases_cons i) (inside B o.1 m)
        where
          at : (m ≡ b) ⊎ m ∈ B → (m ∈ B → coef R 𝓜 (ordered field B c) m ≡ c m) → R.add (coef R 𝓜 (ordered field B c) m) (coef R 𝓜 (nonzero_term field (c b) b) m) ≡ c m
          at (inl e) _ = rw e (ap₂ R.add (outside B b o.0) (coef-own b) ∙ zero-add ring (c b))
          at (inr j) h = ap₂ R.add (h j) (coef-other b m (λ e. o.0 (Memᴰ.cast (sym e) j))) ∙ ring.add_zero (c m)

      -- If c is zero outside B, these are its coefficients.
      pub ordered_same : (B : List M) → Once B → Supported R B c → (m : M) → coef R 𝓜 (ordered field B c) m ≡ c m
      ordered_same B o s m = at (member? 𝓜.same? m B)
        where
          at : Dec (m ∈ B) → coef R 𝓜 (ordered field B c) m ≡ c m
          at (yes i) = inside B o m i
          at (no n) = outside B m n ∙ sym (s m n)

  module _ (𝓜 : Monomials M) (B : List M) where
    -- Of a polynomial f in order: what holds of all monomials of f, and the coefficients of f.
    pub tail_all : {P : M → Type 0} (f : Poly F M) → All P f → All P (ordered field B (coef R 𝓜 f))
    tail_all {P} f a = ordered-all (coef R 𝓜 f) B (λ b i n. at b n (find 𝓜 f b))
      where
        at : (b : M) → ¬ (coef R 𝓜 f b ≡ R.zero) → ((c : F) × ((c, b) ∈ f)) ⊎ All (λ k. ¬ (k ≡ b)) f → P b
        at b n (inl t) = all-at a t.1
        at b n (inr o) = absurd (n (coef-absent ring 𝓜 f b o))

    pub tail-same : Once B → (f : Poly F M) → All (λ m. m ∈ B) f → Same R 𝓜 (ordered field B (coef R 𝓜 f)) f
    tail-same o f a = ordered_same (coef R 𝓜 f) 𝓜 B o (λ m n. coef-absent ring 𝓜 f m (all_map (λ k i e. n (Memᴰ.cast (sym e) i)) a))

    pub length-written : (G : List (Line F M)) → length (in_order 𝓜 B G) ≡ length G
    unfolding in_order
    length-written G = length-map G (ordered_line field 𝓜 B)

    pub leads-written : (G : List (Line F M)) → leads (in_order 𝓜 B G) ≡ leads G
    unfolding in_order
    leads-written [] = refl
    leads-written (g ∷ G) = ap (g.0 ∷◌) (leads-written G)

    -- What holds of each line, written in order, holds of each of the written lines.
    pub each-written : (P : Line F M → Type 0) (G : List (Line F M)) → ((g : Line F M) → g ∈ G → P (ordered_line field 𝓜 B g)) → (h : Line F M) → h ∈ in_order 𝓜 B G → P h
    unfolding in_order
    each-written P G p h i = let g = of_map (ordered_line field 𝓜 B) G i in subst P (sym g.2) (p g.0 g.1)

    pub of-written : (G : List (Line F M)) (g : Line F M) → g ∈ G → ordered_line field 𝓜 B g ∈ in_order 𝓜 B G
    unfolding in_order
    of-written G g i = in_map (ordered_line field 𝓜 B) i
