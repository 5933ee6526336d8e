-- Believed. What the converter promises: the user's three demands.
--   grevlex_lines, lex_lines   the lines of a text in grevlex; of a text in lex, with its standard monomials
--   InputLines, OutputLines    the lines that an input, an output holds
--   Usable input               the text is, line by line, a reduced grevlex Groebner basis of the stated sizes
--   Systems                    demand 3, of the lines read from the input and from the output
--   Meets                      all of it
use Rattle.std.specs.Prelude.{ℕ, ◌<◌, ◌≡◌, List, [], ◌∷◌, ◌++◌, map, length, take, Result, Ok}
use Rattle.lists.specs.Lists.{Bytes, Each}
use Rattle.residue.specs.Prime.{Modulus}
use Rattle.residue.specs.Field.{ZMod, modulo}
use Rattle.monomial.specs.Sizes.{VariableCount}
use Rattle.monomial.specs.Rows.{Row}
use Rattle.monomial.specs.Orders.{variables}
use Rattle.monomial.specs.Ordering.{monomials, Lex, Grevlex}
use Rattle.answer.specs.Answers.{pair, returned, after}
use Rattle.answer.specs.Outcomes.{Judged}
use Rattle.answer.specs.declared.Refused.{Refused}
use Rattle.groebner.specs.Lines.{Line, Reducible}
use Rattle.groebner.specs.Bases.{Reduced}
use Rattle.groebner.specs.Standard.{Finite}
use Rattle.groebner.specs.Systems.{Equivalent}
use Rattle.lines.specs.Terms.{Term}
use Rattle.tabtext.specs.Text.{bytes, header, generator, standard, points, end, text, Form, TextLine}
use Rattle.staircase.specs.TermLines.{lines_of}
use Rattle.staircase.specs.Conditions.{Large}
use Rattle.convert.specs.Written.{as_generator}
use Rattle.convert.specs.Outcome.{Outcome}

-- The lines of a text in grevlex, and of a text in lex with its standard monomials (document 01, "The tab text").
abbrev pub grevlex_lines : (p n : ℕ) → List (List Term) → List TextLine
grevlex_lines p n terms = (header (bytes "grevlex") p n ∷ map generator terms) ++ (end (length terms) ∷ [])

abbrev pub lex_lines : (p n : ℕ) → List (List Term) → List (List ℕ) → List TextLine
lex_lines p n terms monomials = (header (bytes "lex") p n ∷ map generator terms) ++ (standard monomials ∷ points (length monomials) ∷ end (length terms) ∷ [])

-- The input is a text in grevlex, each line of the form, and G are its poly lines.
pub record InputLines (input : Bytes) (p : ℕ) (h : 1 < p) (n : ℕ) (G : List (Line (ZMod p) (Row n))) : Type 0 where
  pub terms : List (List Term)
  pub form : Each (Form n) (grevlex_lines p n terms)
  pub stands : input ≡ text (grevlex_lines p n terms)
  pub lines : G ≡ lines_of p h n terms

-- The output is a text in lex, each line of the form, and H are its poly lines.
pub record OutputLines (out : Bytes) (p : ℕ) (h : 1 < p) (n : ℕ) (H : List (Line (ZMod p) (Row n))) : Type 0 where
  pub terms : List (List Term)
  pub monomials : List (List ℕ)
  pub form : Each (Form n) (lex_lines p n terms monomials)
  pub stands : out ≡ text (lex_lines p n terms monomials)
  pub lines : H ≡ lines_of p h n terms

-- The text is, line by line, a reduced grevlex Groebner basis over a prime field, in 1 to 4 variables, with finitely many standard monomials, at most 32 of them.
pub record Usable (input : Bytes) : Type 0 where
  pub p : ℕ
  pub modulus : Modulus p
  pub n : ℕ
  pub variables : VariableCount n
  pub lines : List (Line (ZMod p) (Row n))
  pub reduced : Reduced (modulo p modulus.prime.above_one) (monomials n) (Grevlex n) lines
  pub finite : Finite (λ m. ¬ Reducible (monomials n) lines m)
  pub small : ¬ Large n lines
  pub stands : input ≡ text ((header (bytes "grevlex") p n ∷ map (as_generator p modulus.prime.above_one n) lines) ++ (end (length lines) ∷ []))

-- Demand 3: the lines read from the input, with grevlex, and those read from the output, with lex, share every verdict and translate into each other.
pub record Systems (input out : Bytes) : Type 0 where
  pub p : ℕ
  pub h : 1 < p
  pub n : ℕ
  pub first : List (Line (ZMod p) (Row n))
  pub second : List (Line (ZMod p) (Row n))
  pub input_lines : InputLines input p h n first
  pub output_lines : OutputLines out p h n second
  pub equivalent : Equivalent (modulo p h) (monomials n) (record { lt = Grevlex n; lines = first }) (record { lt = Lex n (variables n); lines = second })

-- The input, the output bytes before and after, and the answer.
pub record Meets (input was left : Bytes) (answer : Result ℕ Refused) : Type 0 where
  -- Demands 1 and 2: the answer is that of the outcome, and so are the bytes.
  pub outcome : (o : Judged Bytes) × Outcome input (length was) o × (pair answer ≡ returned o) × (left ≡ after o was)
  -- Demand 2, last sentence: what is usable is refused only where the output is too short.
  pub usable : Usable input → (k line : ℕ) → pair answer ≡ (k, line) → ¬ (k ≡ 0) → k ≡ 16
  -- Demand 3.
  pub systems : (size : ℕ) → answer ≡ Ok size → Systems input (take size left)
