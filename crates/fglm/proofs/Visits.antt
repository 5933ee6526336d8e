-- The visits of the enumeration, over the state that the code holds: the rows of the elimination, the images and the monomials that are standard, the
-- leading monomials and the lines.
--   Setting                                                   the lines to convert, and what is asked of them
--   L 𝓢 m                                                     the image of m; NormalAt 𝓢 m w: the row w holds the coordinates of the normal form of m
--   Progressed                                                the state stands for lines H and standard monomials of the theory
--   Stage H B r                                               r is to be visited, all smaller monomials are seen; or all monomials are seen
--   progressed-none                                           at first nothing is found, and 1 is to be visited
--   to-visit-found, visit-exponents, visit-few, visit-lines   what the code needs of the monomial to visit
--   visit-image                                               its row is its image
--   visit-line                                                it depends on the standard monomials, and its line is written
--   visit-standard                                            it is a standard monomial
--   visit-onward                                              the next monomial is to be visited, or all are seen
--   visits-end                                                what is found at the end
use mathlib.Core.Path.{◌≡◌, refl, sym, ◌∙◌, ap, ap₂, subst}
use mathlib.Core.List.Memᴰ
use mathlib.Core.List.{List, [], ◌∷◌, ◌++◌, map, map-append}
use mathlib.Core.Logic.{inl, inr, by_cases}
use mathlib.Core.Option.{Option, none, some}
use Prim.Native.Nat.{ℕ, ◌+◌, ◌*◌, ◌≤◌, ◌<◌}
use native.Mathlib.Decide.{dec_lt}
use native.Mathlib.Omega.{arith}
use lib.ListN.{length, length-append, get_or-append}
use lib.Seq.{get_or_at}
use Rattle.std.specs.Prelude as answer
use Rattle.std.specs.Prelude.{Some, None}
use Rattle.arrayvec.specs.ArrayVec.{ArrayVec}
use Rattle.residue.specs.Prime.{Prime}
use Rattle.residue.specs.Field.{ZMod, modulo}
use Rattle.residue.specs.RingLaws.{Field}
use Rattle.residue.specs.declared.reciprocals.Reciprocals.{Reciprocals}
use Rattle.residue.proofs.ResidueField.{residue-field}
use Rattle.monomial.specs.Rows.{Row, one, exponent, product}
use Rattle.monomial.specs.Quotients.{variable}
use Rattle.monomial.specs.Ordering.{monomials, Lex, Grevlex}
use Rattle.monomial.proofs.OrderLaws.{MonomialOrder}
use Rattle.monomial.specs.Represented.{row}
use Rattle.monomial.specs.declared.Monomial.{Monomial}
use Rattle.monomial.proofs.AnyOrder.{irreflexive, one-least}
use Rattle.monomial.proofs.Products.{rows-laws}
use Rattle.monomial.proofs.LexOrder.{lex-order}
use Rattle.monomial.proofs.GrevlexOrder.{grevlex-order}
use Rattle.groebner.specs.Polynomials.{negate}
use Rattle.groebner.specs.Lines.{Line, Reducible}
use Rattle.groebner.specs.CoefficientRows.{polynomial_of}
use Rattle.groebner.specs.RisingLists.{leads}
use Rattle.groebner.specs.Next.{RanksOnce, next}
use Rattle.groebner.specs.Enumeration.{Enumerates}
use Rattle.groebner.proofs.Linear.{all_map}
use Rattle.groebner.proofs.Instance.{ground}
use Rattle.groebner.proofs.Modules.{Module}
use Rattle.groebner.proofs.Spans.{Shifts}
use Rattle.groebner.proofs.Coordinates.{sequences}
use Rattle.groebner.proofs.ImageCoordinates.{image_vector, vector-shifts}
use Rattle.groebner.proofs.RisingLists.{leads-append, rising-once}
use Rattle.groebner.proofs.Counting.{Divisors, exponent-bounded, bound-monotone}
use Rattle.groebner.proofs.Successors.{Successor, UpTo}
use Rattle.groebner.proofs.ReducibleTest.{reducible, irreducible-iff, reducible-closed}
use Rattle.groebner.proofs.Next.{next-lex}
use Rattle.groebner.proofs.Seen.{Seen, SeenBelow, AllSeen, seen-line, seen-standard, seen-onward, visited-divisors, visited-few}
use Rattle.groebner.proofs.Variables.{variable-above}
use Rattle.groebner.proofs.OrderedTails.{in_order}
use Rattle.groebner.proofs.EnumerationOutcome.{seen-outcome}
use Rattle.lines.specs.Sizes.{most_standard}
use Rattle.lines.specs.LineTerms.{terms_in, terms_of_lines}
use Rattle.lines.specs.declared.line.LineTerm.{LineTerm}
use Rattle.staircase.specs.TermLines.{line_of, lines_of}
use Rattle.staircase.specs.Leads.{rows_of, lead_monomials, multiple, NextIs}
use Rattle.staircase.specs.Listed.{listed, listed_at}
use Rattle.coordinates.specs.Vectors.{FullLength}
use Rattle.coordinates.specs.Vectors as vectors
use Rattle.coordinates.specs.declared.Coordinates.{Coordinates}
use Rattle.multiplication.specs.declared.rows.Tables.{Tables}
use Rattle.fglm.specs.RowState.{state_of}
use Rattle.fglm.specs.ImageRows.{no_image, image_at, DivisorsFound, ImageRow}
use Rattle.fglm.specs.WrittenLines.{WrittenLine}
use Rattle.fglm.specs.Enumerable.{Enumerable}
use Rattle.fglm.specs.declared.elimination.Rows.{Rows}
use Rattle.fglm.proofs.Images.{Image, EchelonOf, Answers}
use Rattle.fglm.proofs.Adding.{answer}
use Rattle.fglm.proofs.NormalImages.{NormalState, image-normal, normal-image}
use Rattle.staircase.proofs.RowsInTurn.{rows-push}
use Rattle.fglm.proofs.PushedMonomials.{pushed-count, pushed-listed, pushed-before, pushed-last}
use Rattle.fglm.proofs.Promise.{state-none, no-rows-yet, answers}
use Rattle.fglm.proofs.WrittenMore.{written-append, written-more, multiple-reducible}

-- Where the visits take place.
pub record Setting (t : Reciprocals) (n : ℕ) (s : List ℕ) (l : List Monomial) (tables : Tables) : Type 0 where
  pub prime : Prime t.field.p
  pub ranking : RanksOnce n s
  pub lines : List (Line (ZMod t.field.p) (Row n))
  pub enumerable : Enumerable t.field.p prime n l tables lines
  pub size : length (listed n l) ≡ length l

module _ {t : Reciprocals} {n : ℕ} {s : List ℕ} {l : List Monomial} {tables : Tables} (𝓢 : Setting t n s l tables) where
  open 𝓢 use {prime, ranking, size, lines as G, enumerable as en}

  abbrev p : ℕ
  p = t.field.p

  abbrev h : 1 < p
  h = prime.above_one

  abbrev F : Type 0
  F = ZMod p

  abbrev field : Field (modulo p h)
  field = residue-field p prime

  -- The image of a monomial: its coordinates at the irreducible monomials.
  unfoldable pub L : Row n → ℕ → F
  unfolding ground
  L = image_vector (ground p prime n) (grevlex-order n) G en.low (listed n l)

  abbrev 𝓥 : Module (modulo p h) (ℕ → F)
  𝓥 = sequences field.ring

  abbrev lt : Row n → Row n → Type 0
  lt = Lex n s

  ord : MonomialOrder (monomials n) lt
  ord = lex-order n s ranking.all

  shifts : Shifts 𝓥 L (monomials n)
  unfolding L ground
  shifts = vector-shifts (ground p prime n) (grevlex-order n) G en.low (listed n l) en.lists en.groebner

  -- The row holds the coordinates of the normal form of m.
  unfoldable pub NormalAt : Row n → Coordinates → Type 0
  unfolding ground
  NormalAt m w = NormalState p h n (ground p prime n) (grevlex-order n) G en.low l size m w

  -- What is to be done: m is to be visited, or all monomials are seen.
  abbrev pub Stage : List (Line F (Row n)) → List (Row n) → answer.Option (Row n) → Type 0
  Stage H B (Some m) = SeenBelow n 𝓥 L lt m H B × ¬ Reducible (monomials n) H m
  Stage H B None = AllSeen n 𝓥 L lt H B

  -- The state stands for lines H and the standard monomials.
  pub record Progressed (rs : Rows) (images : List Coordinates) (standard ls : List Monomial) (gs : List (ArrayVec LineTerm)) (H : List (Line F (Row n))) : Type 0 where
    pub echelon : EchelonOf p h field L (state_of p h rs) (listed n standard)
    pub used : rs.used ≡ length (listed n standard)
    pub count : length (listed n standard) ≡ length standard
    pub normal : (k : ℕ) → k < length standard → NormalAt (listed_at n standard k) (image_at images k)
    pub leads : lead_monomials n ls ≡ leads H
    pub lead_count : length H ≡ length ls
    pub lines : lines_of p h n (terms_of_lines n gs) ≡ in_order field (monomials n) (listed n standard) H

  module _ {rs : Rows} {images : List Coordinates} {standard ls : List Monomial} {gs : List (ArrayVec LineTerm)} {H : List (Line F (Row n))} (q : Progressed rs images standard ls gs H) where
    abbrev B : List (Row n)
    B = listed n standard

    module _ {m : Row n} (v : Stage H B (Some m)) where
      divisors : Divisors n m B
      divisors = visited-divisors n 𝓥 L ord m H B v.0 v.1

      pub to-visit-found : DivisorsFound n standard m
      unfolding monomials
      to-visit-found i k b e = divisors b (variable n i, e) (λ f. irreflexive ord (subst (λ x. lt x (product n (variable n i) b)) (f ∙ e) (variable-above n ord i k b)))

      pub visit-exponents : (i : ℕ) → i < n → exponent n m i ≤ length standard
      visit-exponents i k = omega (arith, exponent-bounded n m B divisors i k, q.count)

      pub visit-few : length ls + length standard ≤ n * length standard
      visit-few = subst (λ b. length ls + b ≤ n * b) q.count (subst (λ g. g + length B ≤ n * length B) q.lead_count (visited-few n 𝓥 L ord shifts m H B v.0 v.1))

      pub visit-lines : 0 < n → length standard ≤ most_standard → length ls + most_standard ≤ n * most_standard
      visit-lines k u = omega (arith, bound-monotone n 0 (length ls) (length standard) most_standard (omega (arith, visit-few)) u k)

    pub visit-image : {m : Monomial} {w : Coordinates} → FullLength w → ImageRow p n m images standard tables l w → NormalAt (row n m) w × Image p h L w (row n m)
    unfolding L NormalAt ground
    visit-image {m} {w} whole i =
        let e = image-normal p h n (ground p prime n) (grevlex-order n) G en.low l size tables en.clear en.lists
        (λ i k s u. en.filled i k s (omega (arith, size))) en.groebner q.normal i in
        (e, normal-image p h n (ground p prime n) (grevlex-order n) G en.low l size (row n m) w whole e i.zeros)

    module _ (m : Monomial) (v : Stage H B (Some (row n m))) (w : Coordinates) (image : Image p h L w (row n m)) where
      pub visit-line : (c : Coordinates) → answer t prime rs w ≡ inl (vectors.vector p h c) → (g : ArrayVec LineTerm) → WrittenLine p n m c standard g.items
          → (H' : List (Line F (Row n))) × Progressed rs images standard (ls ++ (m ∷ [])) (gs ++ (g ∷ [])) H' × Seen n 𝓥 L lt (UpTo lt (row n m)) H' B
      unfolding lines_of terms_of_lines
      visit-line c answered g written = (
        H ++ (new ∷ []),
        record {
          echelon = q.echelon;
          used = q.used;
          count = q.count;
          normal = q.normal;
          leads = rows-push n ls m ∙ ap (◌++ (row n m ∷ [])) q.leads ∙ sym (leads-append H new);
          lead_count = omega (arith, length-append H (new ∷ []), q.lead_count, pushed-count ls m);
          lines = ap (map (line_of p h n)) (map-append (λ (k : ArrayVec LineTerm). terms_in n k.items) gs (g ∷ []))
              ∙ map-append (line_of p h n) (terms_of_lines n gs) (terms_in n g.items ∷ [])
              ∙ ap₂ (λ G x. G ++ (x ∷ [])) q.lines (written.line h field (rising-once ord B v.0.rising_standard))
              ∙ sym (written-append field (monomials n) B H new);
        },
        seen-line n 𝓥 L lt (row n m) H B v.0 (divisors v) _ told.0 told.1,
      )
        where
          told : Answers p h field L B (row n m) (inl (vectors.vector p h c))
          told = answers t prime L rs B q.echelon q.used (row n m) w image _ answered

          new : Line F (Row n)
          new = (row n m, negate (modulo p h) (polynomial_of B (vectors.vector p h c)))

      pub visit-standard : (rs' : Rows) → answer t prime rs w ≡ inr (state_of p h rs') → rs'.used ≡ rs.used + 1 → length images ≡ length standard → NormalAt (row n m) w
          → Progressed rs' (images ++ (w ∷ [])) (standard ++ (m ∷ [])) ls gs H × Seen n 𝓥 L lt (UpTo lt (row n m)) H (listed n (standard ++ (m ∷ [])))
      visit-standard rs' answered used size normal = (
        record {
          echelon = subst (EchelonOf p h field L (state_of p h rs')) (sym more) told.0;
          used = used ∙ omega (arith, q.used, ap length more, length-append B (row n m ∷ []));
          count = ap length more ∙ omega (arith, q.count, pushed-count standard m, length-append B (row n m ∷ []));
          normal = λ j u. by_cases (dec_lt j (length standard))
              (λ i. subst (λ x. NormalAt x (image_at (images ++ (w ∷ [])) j)) (sym (pushed-before standard m n j i))
              (subst (NormalAt (listed_at n standard j)) (sym (get_or-append images (w ∷ []) no_image j (omega (arith, i, size)))) (q.normal j i)))
              (λ i. let e : j ≡ length standard = omega (arith, u, pushed-count standard m) in
              subst (λ x. NormalAt x (image_at (images ++ (w ∷ [])) j)) (sym (pushed-last standard m n j e))
              (subst (NormalAt (row n m)) (sym (get_or_at images w [] no_image j (size ∙ sym e))) normal));
          leads = q.leads;
          lead_count = q.lead_count;
          lines = q.lines ∙ sym (ap (λ C. in_order field (monomials n) C H) more
              ∙ written-more field (monomials n) B (row n m) (λ i. irreflexive ord (v.0.standard (row n m) i).0) H (λ g i. all_map (λ k u. u.0) (v.0.lines g i).1.tail));
        },
        subst (Seen n 𝓥 L lt (UpTo lt (row n m)) H) (sym more) (seen-standard n 𝓥 L ord shifts (row n m) H B v.0 told.1),
      )
        where
          told : Answers p h field L B (row n m) (inr (state_of p h rs'))
          told = answers t prime L rs B q.echelon q.used (row n m) w image _ answered

          more : listed n (standard ++ (m ∷ [])) ≡ B ++ (row n m ∷ [])
          more = pushed-listed standard m n

    successor : (m : Row n) (x : Option (Row n)) → next n s (multiple n (lead_monomials n ls)) m ≡ x → Successor lt (reducible n H) m x
    successor m x e = subst (Successor lt (reducible n H) m) (ap (λ t. next n s t m) (sym (ap (multiple n) q.leads ∙ multiple-reducible n H)) ∙ e)
        (next-lex n s ranking (reducible n H) (reducible-closed n H) m)

    pub visit-onward : {m : Row n} → Seen n 𝓥 L lt (UpTo lt m) H B → (r : answer.Option (Row n))
        → NextIs n s (multiple n (lead_monomials n ls)) m r → Stage H B r
    visit-onward {m} v (Some r) e = let c = successor m (some r) e in (seen-onward n 𝓥 L ord m H B v (some r) c, (irreducible-iff n H r).0 c.1)
    visit-onward {m} v None e = seen-onward n 𝓥 L ord m H B v none (successor m none e)

    pub visits-end : AllSeen n 𝓥 L lt H B → Enumerates (modulo p h) n (Grevlex n) lt G (length l) (lines_of p h n (terms_of_lines n gs)) B
    unfolding L ground
    visits-end v = subst (λ d. Enumerates (modulo p h) n (Grevlex n) lt G d (lines_of p h n (terms_of_lines n gs)) B) size
        (subst (λ K. Enumerates (modulo p h) n (Grevlex n) lt G (length (listed n l)) K B) (sym q.lines)
        (seen-outcome n (ground p prime n) (grevlex-order n) ord (next n s) (next-lex n s ranking) G en.low en.groebner (listed n l) en.lists H B v))

  -- At first nothing is found.
  pub progressed-none : (rs : Rows) → rs.used ≡ 0 → Progressed rs [] [] [] [] [] × Stage [] (listed n []) (Some (one n))
  unfolding rows_of lines_of terms_of_lines in_order monomials
  progressed-none rs e = (
    record {
      echelon = subst (λ r. EchelonOf p h field L r []) (sym (state-none p h rs e)) (no-rows-yet p h field L);
      used = e;
      count = refl;
      normal = λ k u. absurd (omega arith);
      leads = refl;
      lead_count = refl;
      lines = refl;
    },
    (nothing_seen, λ r. absurd (Memᴰ.not-nil r.1)),
  )
    where
      nothing_seen : SeenBelow n 𝓥 L lt (one n) [] []
      nothing_seen = record {
        cover = λ k u. absurd (one-least (rows-laws n) ord k u);
        standard = λ b i. absurd (Memᴰ.not-nil i);
        lines = λ g i. absurd (Memᴰ.not-nil i);
        rising_standard = tt;
        rising_lines = tt;
      }
