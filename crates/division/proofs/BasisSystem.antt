-- A sound basis of the code as a reduction system.
--   FirstDivisor b m k   line k is the earliest whose leading monomial divides m
--   NoDivisor b m        that of no line does
--   line-in              line k is one of the lines
--   line-lead-at         the leading monomial of line k
--   first-line           the earliest of the leading monomials that divides a monomial is that of the earliest line
--   no-line              if none of them divides it, that of no line does
--   ring_of              residues modulo its p, and monomials in its n variables
--   lines-low            the tail of each line is below its leading monomial
--   system_of            the lines as a rewriting system
--   earliest-line        the earliest line that divides a monomial, as the code finds it
--   irreducible-at       no line divides a monomial
use mathlib.Core.Path.{◌≡◌, refl, sym, ◌∙◌, ap, subst}
use mathlib.Core.Bool.{Bool, true, false, false≢true}
use mathlib.Core.List.{List, [], ◌∷◌}
use mathlib.Core.Logic.{inl, inr}
use Prim.Native.Nat.{ℕ, zero, suc, ◌<◌}
use native.Mathlib.Omega.{arith}
use lib.ListN.{length, get_or, get_or-map}
use Rattle.std.specs.Prelude.{Some, None, position}
use Rattle.std.proofs.lemmas.List.Quantifiers.{position-Some}
use Rattle.arrayvec.specs.ArrayVec.{ArrayVec}
use Rattle.lists.specs.Lists.{◌∈◌}
use Rattle.lists.proofs.Elements.{element-in, place_of}
use Rattle.lists.proofs.Positions.{position-none}
use Rattle.residue.specs.Prime.{Prime}
use Rattle.residue.specs.Field.{modulo}
use Rattle.monomial.specs.Rows.{Row, one}
use Rattle.monomial.specs.Quotients.{divides}
use Rattle.monomial.specs.Ordering.{Monomials, Divides, monomials, Grevlex}
use Rattle.monomial.specs.Represented.{row}
use Rattle.monomial.specs.declared.Monomial.{Monomial}
use Rattle.monomial.proofs.Products.{divides-iff}
use Rattle.monomial.proofs.GrevlexOrder.{grevlex-order}
use Rattle.groebner.specs.Lines.{Line, Reducible, Earliest}
use Rattle.groebner.specs.Criteria.{Low}
use Rattle.groebner.proofs.Ground.{PolynomialRing}
use Rattle.groebner.proofs.Division.{LinePlace, rewriting}
use Rattle.groebner.proofs.NormalForms.{Rewriting}
use Rattle.groebner.proofs.Instance.{ground}
use Rattle.lines.specs.LineTerms.{monomial_at}
use Rattle.lines.specs.declared.line.LineTerm.{LineTerm}
use Rattle.lines.specs.declared.StoredBasis.{StoredBasis}
use Rattle.staircase.specs.StoredLines.{stored_lines}
use Rattle.staircase.specs.Leads.{leads_in}
use Rattle.staircase.specs.Sound.{generator_at, Sound}
use Rattle.staircase.proofs.LineElements.{stored-lines-length, line-at}
use Rattle.staircase.proofs.LineLeads.{line-lead, leads-length}
use Rattle.staircase.proofs.SoundLines.{sound-lines}
use Rattle.division.specs.Clearing.{lead_at, line_at}

-- Line k is the earliest whose leading monomial divides m.
pub record FirstDivisor (b : StoredBasis) (m : Row b.n) (k : ℕ) : Type 0 where
  pub within : k < length b.lines.items
  pub before : (j : ℕ) → j < k → divides b.n (lead_at b j) m ≡ false
  pub here : divides b.n (lead_at b k) m ≡ true

-- That of no line does.
abbrev pub NoDivisor : (b : StoredBasis) → Row b.n → Type 0
NoDivisor b m = (j : ℕ) → j < length b.lines.items → divides b.n (lead_at b j) m ≡ false

-- The earliest line by its place.
earliest-at : {F M : Type 0} (𝓜 : Monomials M) (m : M) (d : Line F M) (G : List (Line F M)) (k : ℕ) → k < length G
    → ((j : ℕ) → j < k → ¬ Divides 𝓜 (get_or G j d).0 m) → Divides 𝓜 (get_or G k d).0 m → Earliest 𝓜 m (get_or G k d) G
earliest-at 𝓜 m d [] k l n a = absurd (omega arith)
earliest-at 𝓜 m d (g ∷ G) zero l n a = inl (refl, a)
earliest-at 𝓜 m d (g ∷ G) (suc k) l n a = inr (n 0 (omega arith), earliest-at 𝓜 m d G k (omega arith) (λ j i. n (suc j) (omega arith)) a)

pub line-in : (b : StoredBasis) (h : 1 < b.p) (k : ℕ) → k < length b.lines.items → line_at b h k ∈ stored_lines b h
line-in b h k l =
    subst (λ g. g ∈ stored_lines b h) (line-at b h k) (element-in (one b.n, []) (stored_lines b h) k (omega (arith, stored-lines-length b h)))

pub line-lead-at : (b : StoredBasis) (h : 1 < b.p) (k : ℕ) → (line_at b h k).0 ≡ lead_at b k
line-lead-at b h k = line-lead b.p h b.n (generator_at b k)

-- The leading monomials, as the code has them.
module _ (b : StoredBasis) (m : Row b.n) where
  abbrev test : Monomial → Bool
  test d = divides b.n (row b.n d) m

  tested : (j : ℕ) → test (get_or (leads_in b) j (monomial_at [] 0)) ≡ divides b.n (lead_at b j) m
  unfolding leads_in generator_at
  tested j = ap test (get_or-map (λ (g : ArrayVec LineTerm). monomial_at g.items 0) b.lines.items j (record { items = [] }))

  pub first-line : (k : ℕ) → position test (leads_in b) ≡ Some k → FirstDivisor b m k
  first-line k e =
      let (within, here, before) = position-Some test (leads_in b) k (monomial_at [] 0) e in
      record { within = omega (arith, leads-length b); before = λ j i. sym (tested j) ∙ before j i; here = sym (tested k) ∙ here }

  pub no-line : position test (leads_in b) ≡ None → NoDivisor b m
  no-line e j l = sym (tested j) ∙ position-none test (leads_in b) (monomial_at [] 0) e j (omega (arith, leads-length b))

module _ (b : StoredBasis) (sound : Sound b) (h : 1 < b.p) where
  -- The modulus is a prime, and h says so of it as well.
  prime : Prime b.p
  prime = record { above_one = h; no_divisor = sound.modulus.prime.no_divisor }

  pub ring_of : PolynomialRing (modulo b.p h) (monomials b.n)
  unfolding prime
  ring_of = ground b.p prime b.n

  pub lines-low : Low (Grevlex b.n) (stored_lines b h)
  lines-low g q = ((sound-lines b sound h).falling g q).0

  abbrev pub system_of : Rewriting (modulo b.p h) (monomials b.n) (LinePlace (stored_lines b h))
  system_of = rewriting ring_of (grevlex-order b.n) (stored_lines b h) lines-low

module _ (b : StoredBasis) (h : 1 < b.p) (m : Row b.n) where
  lead-divides : (k : ℕ) → divides b.n (lead_at b k) m ≡ true → Divides (monomials b.n) (get_or (stored_lines b h) k (one b.n, [])).0 m
  lead-divides k e = rw (line-at b h k, line-lead-at b h k) ((divides-iff b.n (lead_at b k) m).0 e)

  lead-not : (k : ℕ) → divides b.n (lead_at b k) m ≡ false → ¬ Divides (monomials b.n) (get_or (stored_lines b h) k (one b.n, [])).0 m
  lead-not k e d = false≢true (sym e ∙ (divides-iff b.n (lead_at b k) m).1 (rw (line-at b h k, line-lead-at b h k) at d))

  pub earliest-line : (k : ℕ) → FirstDivisor b m k → Earliest (monomials b.n) m (line_at b h k) (stored_lines b h)
  earliest-line k f =
      let within : k < length (stored_lines b h) = omega (arith, f.within, stored-lines-length b h) in
      rw (← line-at b h k)
      (earliest-at (monomials b.n) m (one b.n, []) (stored_lines b h) k within (λ j i. lead-not j (f.before j i)) (lead-divides k f.here))

  pub irreducible-at : NoDivisor b m → ¬ Reducible (monomials b.n) (stored_lines b h) m
  irreducible-at f (g, q, d) =
      let (k, l, e) = place_of (one b.n, []) q in
      lead-not k (f k (omega (arith, stored-lines-length b h))) (subst (λ x. Divides (monomials b.n) x.0 m) (sym e) d)
