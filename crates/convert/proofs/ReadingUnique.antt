-- What is read from a text is determined by its bytes.
--   text-unique      lines of the form that have the same text are the same
--   input-unique     p, n and the terms of the poly lines are read from an input in one way
--   output-unique    from an output too, and the standard monomials with them
use mathlib.Core.Path.{◌≡◌, refl, sym, ◌∙◌, ap, ap₂, subst}
use mathlib.Core.List.{List, [], ◌∷◌, ◌++◌, map, append-nil}
use Prim.Native.Nat.{ℕ, ◌<◌}
use native.Mathlib.Omega.{arith}
use lib.ListN.{length, length-append}
use Rattle.lists.specs.Lists.{Bytes, Each}
use Rattle.residue.specs.Field.{ZMod}
use Rattle.monomial.specs.Rows.{Row}
use Rattle.groebner.specs.Lines.{Line}
use Rattle.lines.specs.Terms.{Term}
use Rattle.tabtext.specs.Text.{bytes, header, generator, standard, points, end, line, text, Form, TextLine}
use Rattle.tabtext.proofs.Lines.{line-unique}
use Rattle.convert.specs.Contract.{InputLines, OutputLines}

pub text-unique : (n : ℕ) (ls ks : List TextLine) → Each (Form n) ls → Each (Form n) ks → text ls ≡ text ks → ls ≡ ks
unfolding text
text-unique n [] [] a b e = refl
text-unique n [] (k ∷ ks) a b e = absurd (omega (arith, ap length e, length-append (line k) (10 ∷ text ks)))
text-unique n (l ∷ ls) [] a b e = absurd (omega (arith, ap length e, length-append (line l) (10 ∷ text ls)))
text-unique n (l ∷ ls) (k ∷ ks) a b e =
    let (p, q) = line-unique n l k (text ls) (text ks) a.0 b.0 e in
    ap₂ ◌∷◌ p (text-unique n ls ks a.1 b.1 q)

-- The basis line says the number of variables of the lines after it.
headed-unique : (w : Bytes) (p n p' n' : ℕ) (ls ks : List TextLine) → Each (Form n) (header w p n ∷ ls) → Each (Form n') (header w p' n' ∷ ks)
    → text (header w p n ∷ ls) ≡ text (header w p' n' ∷ ks) → (p ≡ p') × (n ≡ n') × (ls ≡ ks)
unfolding text
headed-unique w p n p' n' ls ks a b e =
    let (l, q) = line-unique n (header w p n) (header w p' n') (text ls) (text ks) a.0 b.0 e in
    let same : n ≡ n' = cc in
    (cc, same, text-unique n ls ks a.1 (subst (λ (x : ℕ). Each (Form x) ks) (sym same) b.1) q)

-- The terms of the poly lines among lines.
generators_among : List TextLine → List (List Term)
generators_among [] = []
generators_among (header w p n ∷ ls) = generators_among ls
generators_among (generator terms ∷ ls) = terms ∷ generators_among ls
generators_among (standard monomials ∷ ls) = generators_among ls
generators_among (points count ∷ ls) = generators_among ls
generators_among (end count ∷ ls) = generators_among ls

-- The monomials of the stairs lines among lines.
standard_among : List TextLine → List (List ℕ)
standard_among [] = []
standard_among (header w p n ∷ ls) = standard_among ls
standard_among (generator terms ∷ ls) = standard_among ls
standard_among (standard monomials ∷ ls) = monomials ++ standard_among ls
standard_among (points count ∷ ls) = standard_among ls
standard_among (end count ∷ ls) = standard_among ls

generators-first : (terms : List (List Term)) (ls : List TextLine) → generators_among (map generator terms ++ ls) ≡ terms ++ generators_among ls
unfolding generators_among
generators-first [] ls = refl
generators-first (ts ∷ terms) ls = ap (◌∷◌ ts) (generators-first terms ls)

standard-after : (terms : List (List Term)) (ls : List TextLine) → standard_among (map generator terms ++ ls) ≡ standard_among ls
unfolding standard_among
standard-after [] ls = refl
standard-after (ts ∷ terms) ls = standard-after terms ls

-- Poly lines, and then lines without any.
generators-unique : (terms terms' : List (List Term)) (ls ks : List TextLine) → generators_among ls ≡ [] → generators_among ks ≡ [] → map generator terms ++ ls ≡ map generator terms' ++ ks → terms ≡ terms'
generators-unique terms terms' ls ks a b e =
    sym (append-nil terms) ∙ ap (terms ++◌) (sym a) ∙ sym (generators-first terms ls) ∙ ap generators_among e ∙ generators-first terms' ks ∙ ap (terms' ++◌) b ∙ append-nil terms'

module _ {p p' : ℕ} {h : 1 < p} {h' : 1 < p'} {n n' : ℕ} {G : List (Line (ZMod p) (Row n))} {K : List (Line (ZMod p') (Row n'))} where
  pub input-unique : (input : Bytes) (a : InputLines input p h n G) (b : InputLines input p' h' n' K) → (p ≡ p') × (n ≡ n') × (a.terms ≡ b.terms)
  unfolding generators_among
  input-unique input a b =
      let (q, r, e) = headed-unique (bytes "grevlex") p n p' n' _ _ a.form b.form (sym a.stands ∙ b.stands) in
      (q, r, generators-unique a.terms b.terms _ _ refl refl e)

  pub output-unique : (out : Bytes) (a : OutputLines out p h n G) (b : OutputLines out p' h' n' K) → (p ≡ p') × (n ≡ n') × (a.terms ≡ b.terms) × (a.monomials ≡ b.monomials)
  unfolding generators_among standard_among
  output-unique out a b =
      let (q, r, e) = headed-unique (bytes "lex") p n p' n' _ _ a.form b.form (sym a.stands ∙ b.stands) in (
        q,
        r,
        generators-unique a.terms b.terms _ _ refl refl e,
        sym (append-nil a.monomials) ∙ sym (standard-after a.terms _) ∙ ap standard_among e ∙ standard-after b.terms _ ∙ append-nil b.monomials,
      )
